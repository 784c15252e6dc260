-- The body of a call on values is closed, where each case's body uses only parameters of its patterns.
use Rattle.std.specs.Prelude.{◌≡◌, ℕ, Bool, true, false, List, [], ◌∷◌, map, Option, Some, None, option_and_then, slice_get, zero, suc, refl}
use Rattle.std.specs.List.{list_all}
use Rattle.std.proofs.Common.{sym, subst}
use Rattle.std.proofs.lemmas.Option.{none-some, same_Some}
use Rattle.std.proofs.lemmas.Bool.Decides.{Decides-eqb}
use Rattle.eo_base.specs.declared.FaultName.TheVariants.{BadPattern, UnboundParam}
use Rattle.eo_base.proofs.Tests.{both, join, clash, from_either}
use Rattle.eo_term.specs.Tree.{Tree, Con, Num, Bits, Str, Par, Var, App, Arr, Qar, Op, Trees, NoTree, More, is_value, is_closed, all_closed, occurs, occurs_in_all, occurs_in, uses_only, all_use_only}
use Rattle.eo_sig.specs.Signature.{Signature, Program, Case, program_at, first_wrong, case_may_hold, case_is_bound, program_fault}
use Rattle.eo_pattern.specs.Matching.{Assignment, value_or_par, empty, put, put_all}
use Rattle.eo_pattern.proofs.Match.{matching_matches}
use Rattle.eo_stack.specs.Evaluation.{Call, first_match, body_of}
use Rattle.eo_cert.proofs.Accepted.{case_taken}

pub value_closed : (t : Tree) → is_value t ≡ true → is_closed t ≡ true
value_closed (Con k) h = refl
value_closed (Num z) h = refl
value_closed (Bits w v) h = refl
value_closed (Str s) h = refl
value_closed (Par i) h = clash h
value_closed (Var s t) h = value_closed t h
value_closed (App f x) h = join (value_closed f (both h).0) (value_closed x (both h).1)
value_closed (Arr a b) h = join (value_closed a (both h).0) (value_closed b (both h).1)
value_closed (Qar i t b) h = clash h
value_closed (Op c ts) h = clash h

-- what a parameter of the tree becomes is closed, where the tree becomes closed
abbrev IsClosedAt : Assignment → ℕ → Type 0
IsClosedAt σ i = is_closed (value_or_par i (σ i)) ≡ true

mutual
  used_closed : (σ : Assignment) (t : Tree) → is_closed (put σ t) ≡ true → (i : ℕ) → occurs i t ≡ true → IsClosedAt σ i
  used_closed σ (Con k) h i o = clash o
  used_closed σ (Num z) h i o = clash o
  used_closed σ (Bits w v) h i o = clash o
  used_closed σ (Str s) h i o = clash o
  used_closed σ (Par j) h i o = subst (IsClosedAt σ) (sym ((Decides-eqb i j).0 o)) h
  used_closed σ (Var s t) h i o = used_closed σ t h i o
  used_closed σ (App f x) h i o = from_either (occurs i f) (occurs i x) (λ p. used_closed σ f (both h).0 i p) (λ p. used_closed σ x (both h).1 i p) o
  used_closed σ (Arr f x) h i o = from_either (occurs i f) (occurs i x) (λ p. used_closed σ f (both h).0 i p) (λ p. used_closed σ x (both h).1 i p) o
  used_closed σ (Qar j f x) h i o = from_either (occurs i f) (occurs i x) (λ p. used_closed σ f (both h).0 i p) (λ p. used_closed σ x (both h).1 i p) o
  used_closed σ (Op c ts) h i o = all_used_closed σ ts h i o

  all_used_closed : (σ : Assignment) (ts : Trees) → all_closed (put_all σ ts) ≡ true → (i : ℕ) → occurs_in_all i ts ≡ true → IsClosedAt σ i
  all_used_closed σ NoTree h i o = clash o
  all_used_closed σ (More t ts) h i o = from_either (occurs i t) (occurs_in_all i ts) (λ p. used_closed σ t (both h).0 i p) (λ p. all_used_closed σ ts (both h).1 i p) o

used_in_closed : (σ : Assignment) (ps : List Tree) → list_all is_value (map (put σ) ps) ≡ true → (i : ℕ) → occurs_in i ps ≡ true → IsClosedAt σ i
used_in_closed σ [] h i o = clash o
used_in_closed σ (p ∷ ps) h i o =
    from_either (occurs i p) (occurs_in i ps) (λ q. used_closed σ p (value_closed (put σ p) (both h).0) i q) (λ q. used_in_closed σ ps (both h).1 i q) o

-- a tree becomes closed, where what it uses is
mutual
  put_closed : (known : ℕ → Bool) (σ : Assignment) → ((i : ℕ) → known i ≡ true → IsClosedAt σ i) → (t : Tree) → uses_only known t ≡ true → is_closed (put σ t) ≡ true
  put_closed known σ h (Con k) u = refl
  put_closed known σ h (Num z) u = refl
  put_closed known σ h (Bits w v) u = refl
  put_closed known σ h (Str s) u = refl
  put_closed known σ h (Par i) u = h i u
  put_closed known σ h (Var s t) u = put_closed known σ h t u
  put_closed known σ h (App f x) u = join (put_closed known σ h f (both u).0) (put_closed known σ h x (both u).1)
  put_closed known σ h (Arr f x) u = join (put_closed known σ h f (both u).0) (put_closed known σ h x (both u).1)
  put_closed known σ h (Qar i f x) u = join (put_closed known σ h f (both u).0) (put_closed known σ h x (both u).1)
  put_closed known σ h (Op c ts) u = put_all_closed known σ h ts u

  put_all_closed : (known : ℕ → Bool) (σ : Assignment) → ((i : ℕ) → known i ≡ true → IsClosedAt σ i) → (ts : Trees) → all_use_only known ts ≡ true → all_closed (put_all σ ts) ≡ true
  put_all_closed known σ h NoTree u = refl
  put_all_closed known σ h (More t ts) u = join (put_closed known σ h t (both u).0) (put_all_closed known σ h ts (both u).1)

-- ---- cases

case_at : (test : Case → Bool) (cases : List Case) (n : ℕ) (c : Case) → list_all test cases ≡ true → slice_get cases n ≡ Some c → test c ≡ true
case_at test [] n c h at = absurd (none-some c at)
case_at test (d ∷ ds) zero c h at = subst (λ (x : Case). test x ≡ true) (same_Some d c at) (both h).0
case_at test (d ∷ ds) (suc n) c h at = case_at test ds n c (both h).1 at

bound_when : (may is_bound : Bool) → first_wrong may is_bound ≡ None → is_bound ≡ true
bound_when true true e = refl
bound_when true false e = absurd (none-some UnboundParam (sym e))
bound_when false b e = absurd (none-some BadPattern (sym e))

pub bodies_closed : (S : Signature) → ((k : ℕ) (p : Program) → program_at S k ≡ Some p → program_fault p ≡ None) → (x : Call) (body : Tree) → list_all is_value x.arguments ≡ true → body_of S x ≡ Some body → is_closed body ≡ true
bodies_closed S right x body values e = by (program_at S x.program) refl e
  where
    by : (o : Option Program) → program_at S x.program ≡ o → option_and_then (λ p. first_match p.cases x.arguments) o ≡ Some body → is_closed body ≡ true
    by None p q = absurd (none-some body q)
    by (Some program) p q =
        let t = case_taken program.cases x.arguments body q in
        let m = matching_matches empty t.case.patterns x.arguments t.assignment t.matches in
        let bound = bound_when (list_all case_may_hold program.cases) (list_all case_is_bound program.cases) (right x.program program p) in
        let uses = case_at case_is_bound program.cases t.number t.case bound t.at in
        subst (λ (y : Tree). is_closed y ≡ true) t.is_body
        (put_closed (λ i. occurs_in i t.case.patterns) t.assignment
        (used_in_closed t.assignment t.case.patterns (subst (λ (ts : List Tree). list_all is_value ts ≡ true) (sym m.equal) values)) t.case.body uses)
