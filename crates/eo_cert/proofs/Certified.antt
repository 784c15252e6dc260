-- A certificate without fault derives `false` from what it asserts.
use Rattle.std.specs.Prelude.{◌≡◌, ℕ, suc, Bool, true, false, ◌&&◌, ◌==◌, nat_eq, nat_le, if◌then◌else◌, List, [], ◌∷◌, ◌++◌, length, Some, Ok, Err, Contains, refl}
use Rattle.std.specs.List.{list_any}
use Rattle.std.proofs.Common.{sym, ◌∙◌, ap, subst, arith, append_assoc}
use Rattle.std.proofs.lemmas.Bool.{and_parts, eqb-true}
use Rattle.std.proofs.lemmas.List.Elements.{Contains-append_left}
use Rattle.std.proofs.lemmas.Option.{same_Some}
use Rattle.eo_base.proofs.ChecksLemmas.{ok_injective, bind_ok, require_then, value_or_ok}
use Rattle.eo_base.proofs.Tests.{clash, from_either}
use Rattle.eo_base.specs.Checks.{Checked}
use Rattle.eo_sexp.specs.Spot.{Spot}
use Rattle.eo_sexp.specs.Texts.{first_spot, spot_after}
use Rattle.eo_term.specs.Tree.{Tree, truth, tree_eq}
use Rattle.eo_term.proofs.Equality.{tree_decides}
use Rattle.eo_sig.specs.Signature.{Signature}
use Rattle.eo_sig.specs.Growth.{Continues}
use Rattle.eo_type.proofs.Longer.{type_of_more}
use Rattle.eo_rule.specs.Derivability.{Derives}
use Rattle.eo_rule.proofs.Grows.{derives_from_more, derives_in_more}
use Rattle.eo_session.specs.State.{State, first_state}
use Rattle.eo_session.specs.Origin.{Origin}
use Rattle.eo_session.specs.Origin as origin
use Rattle.eo_session.specs.Commands.{step}
use Rattle.eo_base.specs.declared.FaultName.{FaultName}
use Rattle.eo_base.specs.declared.FaultName.TheVariants.{FileLong}
use Rattle.eo_base.specs.declared.FaultName.TheVariants.{BadCertificate, NoFalse}
use Rattle.eo_lines.specs.Lines.{Line, Declares, Refers, States, Evaluates, Calls, Assumes, Cites, Steps}
use Rattle.eo_cert.specs.Stated.{Context, Derivation, Evaluated, Stated, outermost, nothing_stated, signature, assertions, context_at, in_force}
use Rattle.eo_cert.specs.Terms.{term_line}
use Rattle.eo_cert.specs.Blocks.{evaluation_line, call_line}
use Rattle.eo_cert.specs.Uses.{context_line, cited_line, step_line}
use Rattle.eo_cert.specs.Recheck.{declaring_words, reference_words, no_block, command_line, by_line, line_limit, check_line, Rechecked, refused, after_line, has_false, end_of, recheck_from, recheck}
use Rattle.eo_cert.proofs.Chains.{AtEach, at_none, at_more}
use Rattle.eo_cert.proofs.BlockSound.{Holds}
use Rattle.eo_cert.proofs.Right.{IsLow, IsInside, IsContext, IsDerived, IsRight, term_right, evaluation_right, call_right}
use Rattle.eo_cert.proofs.ContextSound.{context_right, cited_right}
use Rattle.eo_cert.proofs.StepSound.{step_right}
use Rattle.eo_cert.specs.Declared.{AreChecked}
use Rattle.eo_cert.proofs.Growing.{Adds, step_adds}
use Rattle.eo_cert.proofs.Checking.{checked_more, first_checked}
use Rattle.eo_base.specs.Limits.{calls_limit}

-- ---- before the first line

pub first_right : IsRight nothing_stated
unfolding nothing_stated first_state
first_right = record {
  low = at_none IsLow;
  few = omega arith;
  block = at_none (Holds (signature nothing_stated) calls_limit []);
  checked = first_checked false;
  first = refl;
  contexts = at_more (IsContext nothing_stated) [] outermost (at_none (IsContext nothing_stated)) tt;
  derivations = at_none (IsDerived nothing_stated);
}

-- ---- more is declared or asserted

module _ (law : (now later : Signature) → Continues now later) where
  inside_later : (contexts : List Context) (S later : Signature) (cs : List ℕ) (ts : List Tree) → IsInside contexts S cs ts → IsInside contexts (S ++ later) cs ts
  inside_later contexts S later [] [] h = tt
  inside_later contexts S later (c ∷ cs) (t ∷ ts) h = (h.0, (h.1.0, type_of_more S later (law S later) t _ h.1.1))
  inside_later contexts S later [] (t ∷ ts) h = absurd h
  inside_later contexts S later (c ∷ cs) [] h = absurd h

  derived_later : (S later : Signature) (Γ more : List Tree) (assumed : List Tree) (t : Tree) → Derives S (assumed ++ Γ) t → Derives (S ++ later) (assumed ++ (Γ ++ more)) t
  derived_later S later Γ more assumed t h =
      derives_in_more later (derives_from_more (assumed ++ (Γ ++ more)) (all_after assumed) h)
    where
      all_after : (ts : List Tree) (x : Tree) → Contains (ts ++ Γ) x → Contains (ts ++ (Γ ++ more)) x
      all_after ts x c = subst (λ (us : List Tree). Contains us x) (append_assoc ts Γ more) (Contains-append_left (ts ++ Γ) more x c)

  none_begun : (st : Stated) → no_block st ≡ true → st.block ≡ []
  none_begun st h = by st.block h
    where
      by : (es : List Evaluated) → nat_eq (length es) 0 ≡ true → es ≡ []
      by [] q = refl
      by (e ∷ es) q = absurd (omega (arith, eqb-true (length (e ∷ es)) 0 q))

  session_right : (st : Stated) (session : State) → IsRight st → no_block st ≡ true → Adds st.session session → IsRight (record st { session = session })
  session_right st session h none adds = record {
    low = h.low;
    few = h.few;
    block = subst (AtEach (Holds session.signature calls_limit st.calls)) (sym (none_begun st none)) (at_none (Holds session.signature calls_limit st.calls));
    checked = subst AreChecked (sym adds.signature) (checked_more (signature st) adds.later h.checked adds.checked);
    first = h.first;
    contexts = λ n c q. subst (λ (T : Signature). IsInside st.contexts T c.outer c.assumed) (sym adds.signature) (inside_later st.contexts (signature st) adds.later c.outer c.assumed (h.contexts n c q));
    derivations = λ n d q.
        let own = h.derivations n d q in (
          own.0,
          own.1,
          subst (λ (T : Signature). Derives T (own.0.assumed ++ session.assertions) d.formula) (sym adds.signature)
              (subst (λ (ts : List Tree). Derives (signature st ++ adds.later) (own.0.assumed ++ ts) d.formula) (sym adds.assertions)
              (derived_later (signature st) adds.later (assertions st) adds.more own.0.assumed d.formula own.2)),
        );
  }

  command_right : (st : Stated) (from : Origin) (words : List (List ℕ)) (bytes : List ℕ) (new : Stated) → IsRight st → command_line st from words bytes ≡ Ok new → IsRight new
  unfolding command_line
  command_right st from words bytes new h e =
      let none = require_then _ _ _ new e in
      let s = bind_ok _ _ new none.1 in
      let word = require_then _ _ _ new s.2 in
      let r = bind_ok (step st.session from s.0) _ new word.1 in
      subst IsRight (ok_injective (record st { session = r.0.0 }) new r.2) (session_right st r.0.0 h none.0 (step_adds st.session from s.0 r.0 r.1))

  -- ---- each line

  line_right : (st : Stated) (line : Line) (new : Stated) → IsRight st → by_line st line ≡ Ok new → IsRight new
  line_right st (Declares bytes) new h e = command_right st origin.Signature declaring_words bytes new h e
  line_right st (Refers bytes) new h e = command_right st origin.Reference reference_words bytes new h e
  line_right st (States line) new h e = term_right st new line h (value_or_ok BadCertificate (term_line st line) new e)
  line_right st (Evaluates line) new h e = evaluation_right st new line h (value_or_ok BadCertificate (evaluation_line st line) new e)
  line_right st (Calls line call) new h e = call_right st new line call h (value_or_ok BadCertificate (call_line st line call) new e)
  line_right st (Assumes c t) new h e = context_right st new c t h (value_or_ok BadCertificate (context_line st c t) new e)
  line_right st (Cites c t) new h e = cited_right st new c t h (value_or_ok BadCertificate (cited_line st c t) new e)
  line_right st (Steps line) new h e = step_right st new line h (value_or_ok BadCertificate (step_line st line) new e)

  check_right : (st : Stated) (bytes : List ℕ) (new : Stated) → IsRight st → check_line st bytes ≡ Ok new → IsRight new
  unfolding check_line
  check_right st bytes new h e =
      let short = require_then _ _ _ new e in
      let line = bind_ok _ _ new short.1 in
      line_right st line.0 new h line.2

  -- ---- all lines

  abbrev IsEnd : Stated → Type 0
  IsEnd st = IsRight st × (has_false st ≡ true)

  abbrev ok_or : Stated → Rechecked → Stated
  ok_or d (Ok x) = x
  ok_or d (Err fault) = d

  not_refused : (name : FaultName) (at : Spot) (st : Stated) → refused name at ≡ Ok st → ⊥
  not_refused name at st e = cc e

  ended_right : (closes : Bool) (at : Spot) (line : List ℕ) (st new : Stated) → IsRight st → end_of closes at line st ≡ Ok new → IsEnd new
  ended_right true at [] st new h e = by (has_false st) refl e
    where
      by : (b : Bool) → has_false st ≡ b → (if b then Ok st else refused NoFalse at) ≡ Ok new → IsEnd new
      by true p q = subst IsEnd (ap (ok_or st) q) (h, p)
      by false p q = absurd (not_refused NoFalse at new q)
  ended_right true at (b ∷ bytes) st new h e = absurd (not_refused BadCertificate at new e)
  ended_right false at line st new h e = by (nat_le (length line) line_limit) e
    where
      by : (c : Bool) → (if c then refused FileLong (spot_after at line) else refused BadCertificate at) ≡ Ok new → IsEnd new
      by true q = absurd (not_refused FileLong (spot_after at line) new q)
      by false q = absurd (not_refused BadCertificate at new q)

  from_right : (closes : Bool) (at : Spot) (line bytes : List ℕ) (st new : Stated) → IsRight st → recheck_from closes at line bytes st ≡ Ok new → IsEnd new
  unfolding recheck_from
  from_right closes at line [] st new h e = ended_right closes at line st new h e
  from_right closes at line (b ∷ bytes) st new h e =
      by (b == 10) e (λ mid right q. from_right closes (spot_after at (line ++ 10 ∷ [])) [] bytes mid new right q) (λ q. from_right closes at (line ++ b ∷ []) bytes st new h q)
    where
      checked : (r : Checked Stated) → check_line st line ≡ r → (go : Stated → Rechecked) → after_line at r go ≡ Ok new → ((mid : Stated) → IsRight mid → go mid ≡ Ok new → IsEnd new) → IsEnd new
      checked (Ok mid) p go q rest = rest mid (check_right st line mid h p) q
      checked (Err name) p go q rest = absurd (not_refused name at new q)

      by : (c : Bool) → (if c then after_line at (check_line st line) (recheck_from closes (spot_after at (line ++ 10 ∷ [])) [] bytes) else recheck_from closes at (line ++ b ∷ []) bytes st) ≡ Ok new → ((mid : Stated) → IsRight mid → recheck_from closes (spot_after at (line ++ 10 ∷ [])) [] bytes mid ≡ Ok new → IsEnd new) → (recheck_from closes at (line ++ b ∷ []) bytes st ≡ Ok new → IsEnd new) → IsEnd new
      by true q next more = checked (check_line st line) refl (recheck_from closes (spot_after at (line ++ 10 ∷ [])) [] bytes) q next
      by false q next more = more q

  -- ---- the end

  -- a derivation of `false` from what is asserted alone
  false_found : (st : Stated) → (ds : List Derivation) → AtEach (IsDerived st) ds → context_at st 0 ≡ Some outermost → list_any (λ d. nat_eq d.context 0 && tree_eq d.formula (truth false)) ds ≡ true → Derives (signature st) (assertions st) (truth false)
  false_found st [] all first h = clash h
  false_found st (d ∷ ds) all first h =
      from_either (nat_eq d.context 0 && tree_eq d.formula (truth false)) (list_any (λ d. nat_eq d.context 0 && tree_eq d.formula (truth false)) ds) here
      (false_found st ds (λ n x q. all (suc n) x q) first) h
    where
      here : (nat_eq d.context 0 && tree_eq d.formula (truth false)) ≡ true → Derives (signature st) (assertions st) (truth false)
      here q =
          let p = and_parts (nat_eq d.context 0) (tree_eq d.formula (truth false)) q in
          let own = all 0 d refl in
          let e = same_Some own.0 outermost (sym own.1 ∙ ap (context_at st) (eqb-true d.context 0 p.0) ∙ first) in
          subst (Derives (signature st) (assertions st)) ((tree_decides d.formula (truth false)).0 p.1)
          (subst (λ (x : Context). Derives (signature st) (in_force st x) d.formula) e own.2)

  pub certified_derives : (bytes : List ℕ) (st : Stated) → recheck bytes ≡ Ok st → Derives (signature st) (assertions st) (truth false)
  unfolding recheck
  certified_derives bytes st e =
      let end = from_right _ first_spot [] _ nothing_stated st first_right e in
      false_found st st.derivations end.0.derivations end.0.first end.1

  pub certified_checked : (bytes : List ℕ) (st : Stated) → recheck bytes ≡ Ok st → AreChecked (signature st)
  unfolding recheck
  certified_checked bytes st e = (from_right _ first_spot [] _ nothing_stated st first_right e).0.checked
