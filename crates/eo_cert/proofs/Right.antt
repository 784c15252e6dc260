-- What each line keeps: terms are low, evaluations of the block are evaluations, contexts are inside each other, and each derivation is derivable from what holds in its context.
use Rattle.std.specs.Prelude.{◌≡◌, ℕ, ◌≤◌, Bool, true, false, not, max, ◌&&◌, nat_eq, nat_le, if◌then◌else◌, List, [], ◌∷◌, ◌++◌, length, Option, Some, slice_get, refl}
use Rattle.std.specs.List.{list_any}
use Rattle.std.proofs.Common.{sym, ◌∙◌, ap, subst, arith}
use Rattle.std.proofs.lemmas.Bool.{eqb-true, leb-true, and_parts, not-true}
use Rattle.std.proofs.lemmas.List.Folds.{list_any-append}
use Rattle.std.proofs.lemmas.Option.{none-some, same_Some}
use Rattle.eo_base.proofs.Tests.{or_first, or_second}
use Rattle.eo_base.specs.Limits.{calls_limit}
use Rattle.eo_term.specs.declared.OpCode.{OpCode}
use Rattle.eo_term.specs.Tree.{Tree, Con, Num, Bits, Str, Par, Var, App, Arr, Qar, Op, Trees, bool_tree, height, height_all, is_tall, is_value, is_closed}
use Rattle.eo_sig.specs.Signature.{Signature, program_at}
use Rattle.eo_type.specs.Types.{Typed, type_of}
use Rattle.eo_stack.specs.Evaluation.{Call, call_eq, eval, eval_all_with, call_within}
use Rattle.eo_rule.specs.Derivability.{Derives}
use Rattle.eo_cert.specs.Traces.{Covers, of_option}
use Rattle.eo_lines.specs.Lines.{TermLine, EvaluationLine, CallLine}
use Rattle.eo_cert.specs.Stated.{Context, Derivation, Evaluated, Stated, signature, term_at, context_at, evaluated_at, each, if_there, outermost, in_force, with_term, with_evaluated}
use Rattle.eo_cert.specs.Declared.{AreChecked}
use Rattle.eo_cert.specs.Terms.{by_parts, term_line}
use Rattle.eo_cert.specs.Rules.{rule, parts, deepest}
use Rattle.eo_cert.specs.Blocks.{same_outcome, by_all, said, evaluation_line, called, begun_call, call_ends, with_new, with_call, call_line}
use Rattle.eo_cert.proofs.Runs.{Runs, runs_then, call_itself}
use Rattle.eo_cert.proofs.Mirrors.{mirrors_parts}
use Rattle.eo_eval.proofs.Itself.{lower}
use Rattle.eo_cert.proofs.Chains.{some_then, when_then, AtEach, at_more, Of, of_each}
use Rattle.eo_cert.proofs.BlockSound.{Holds, holds_more, same_outcome_is, by_all_is, all_end, rule_holds, call_runs}

abbrev pub IsLow : Tree → Type 0
IsLow t = is_tall t ≡ false

abbrev pub IsFormula : Signature → Tree → Type 0
IsFormula S t = (is_value t ≡ true) × (type_of S t ≡ Typed bool_tree)

-- a context is the outermost one, or it is inside another one by an assumption that is a formula
abbrev pub IsInside : List Context → Signature → List ℕ → List Tree → Type 0
IsInside contexts S [] [] = Unit {0}
IsInside contexts S (c ∷ cs) (t ∷ ts) = (slice_get contexts c ≡ Some (record { outer = cs; assumed = ts })) × IsFormula S t
IsInside contexts S [] (t ∷ ts) = ⊥
IsInside contexts S (c ∷ cs) [] = ⊥

abbrev pub IsContext : Stated → Context → Type 0
IsContext st c = IsInside st.contexts (signature st) c.outer c.assumed

-- what is derived is derivable from what holds in its context
abbrev pub IsDerived : Stated → Derivation → Type 0
IsDerived st d =
    (context : Context) × (context_at st d.context ≡ Some context) × Derives (signature st) (in_force st context) d.formula

pub record IsRight (st : Stated) : Type 0 where
  pub low : AtEach IsLow st.terms
  pub few : length st.calls ≤ calls_limit
  pub block : AtEach (Holds (signature st) calls_limit st.calls) st.block
  pub checked : AreChecked (signature st)
  pub first : context_at st 0 ≡ Some outermost
  pub contexts : AtEach (IsContext st) st.contexts
  pub derivations : AtEach (IsDerived st) st.derivations

-- ---- terms

pub term_right : (st new : Stated) (line : TermLine) → IsRight st → term_line st line ≡ Some new → IsRight new
unfolding term_line
term_right st new line h e =
    let t = some_then (by_parts st line) _ new e in
    let w = when_then (not (is_tall t.0)) _ new t.2 in
    subst IsRight (same_Some (with_term st t.0) new w.1) (record {
      low = at_more IsLow st.terms t.0 h.low (not-true (is_tall t.0) w.0);
      few = h.few;
      block = h.block;
      checked = h.checked;
      first = h.first;
      contexts = h.contexts;
      derivations = h.derivations;
    })

-- ---- evaluations

pub said_is : (st : Stated) (line : EvaluationLine) (s : Evaluated × List Evaluated) → IsRight st → said st line ≡ Some s → IsLow s.0.term × Of (Holds (signature st) calls_limit st.calls) s.1
said_is st line s h e =
    let t = some_then (term_at st line.term) _ s e in
    let o = some_then (if_there (term_at st) line.outcome) _ s t.2 in
    let es = some_then (each (evaluated_at st) line.listed) _ s o.2 in
    let w = when_then (is_closed t.0) _ s es.2 in
    let P : Evaluated → Type 0 = Holds (signature st) calls_limit st.calls in
    subst (λ (r : Evaluated × List Evaluated). IsLow r.0.term × Of P r.1) (same_Some (record { term = t.0; outcome = o.0; depth = line.depth }, es.0) s w.1)
    (h.low line.term t.0 t.1, of_each P (evaluated_at st) (λ n e is. h.block n e is) line.listed es.0 es.1)

pub evaluation_right : (st new : Stated) (line : EvaluationLine) → IsRight st → evaluation_line st line ≡ Some new → IsRight new
unfolding evaluation_line
evaluation_right st new line h e =
    let s = some_then (said st line) _ new e in
    let o = some_then (by_all (rule (signature st) s.0.0.term) s.0.1) _ new s.2 in
    let w = when_then (same_outcome o.0 s.0.0.outcome && nat_eq s.0.0.depth (deepest s.0.1)) _ new o.2 in
    let t = and_parts (same_outcome o.0 s.0.0.outcome) (nat_eq s.0.0.depth (deepest s.0.1)) w.0 in
    let is = said_is st line s.0 h s.1 in
    let P : Evaluated → Type 0 = Holds (signature st) calls_limit st.calls in
    subst IsRight (same_Some (with_evaluated st s.0.0) new w.1) (record {
      low = h.low;
      few = h.few;
      block = at_more P st.block s.0.0 h.block (rule_holds (signature st) calls_limit st.calls s.0.0 s.0.1 o.0 is.0 is.1 o.1 t.0 t.1);
      checked = h.checked;
      first = h.first;
      contexts = h.contexts;
      derivations = h.derivations;
    })

-- ---- calls

-- the call is among those of the block, and so are the others
new_covers : (calls : List Call) (c : Call) → Covers (with_new calls c) calls × (list_any (call_eq c) (with_new calls c) ≡ true)
new_covers calls c = by (list_any (call_eq c) calls) refl
  where
    by : (b : Bool) → list_any (call_eq c) calls ≡ b → Covers (if b then calls else calls ++ c ∷ []) calls × (list_any (call_eq c) (if b then calls else calls ++ c ∷ []) ≡ true)
    by true p = (λ x is. is, p)
    by false p = (
      λ x is. list_any-append (call_eq x) calls (c ∷ []) ∙ or_first (list_any (call_eq x) calls) (list_any (call_eq x) (c ∷ [])) is,
      list_any-append (call_eq c) calls (c ∷ []) ∙ or_second (list_any (call_eq c) calls) (list_any (call_eq c) (c ∷ [])) (or_first (call_eq c c) false (call_itself c c refl)),
    )

called_is : (t : Tree) (c : ℕ × Trees) → called t ≡ Some c → t ≡ Op (OpCode.Prog c.0) c.1
called_is (Op (OpCode.Prog p) ts) c e = ap (λ (x : ℕ × Trees). Op (OpCode.Prog x.0) x.1) (same_Some (p, ts) c e)
called_is (Op (OpCode.Builtin o) ts) c e = absurd (none-some c e)
called_is (Con k) c e = absurd (none-some c e)
called_is (Num z) c e = absurd (none-some c e)
called_is (Bits w v) c e = absurd (none-some c e)
called_is (Str s) c e = absurd (none-some c e)
called_is (Par i) c e = absurd (none-some c e)
called_is (Var s t) c e = absurd (none-some c e)
called_is (App f x) c e = absurd (none-some c e)
called_is (Arr a b) c e = absurd (none-some c e)
called_is (Qar i t b) c e = absurd (none-some c e)

-- the tree of a call runs, where the call does
tree_runs : (S : Signature) (most : ℕ) (calls all : List Call) → Covers all calls → length all ≤ most → (t : Tree) (es : List Evaluated) (c : Call) (o : Option Tree) → IsLow t → Of (Holds S most calls) es → begun_call t es ≡ Some c → (k : ℕ) → deepest es ≤ k → Runs all (call_within S most k c) (of_option o) → Runs all (eval S most k t) (of_option o)
tree_runs S most calls all over few t es c o low h e k deep runs =
    let p = some_then (called t) _ c e in
    let vs = some_then (by_all (parts p.0.1) es) _ c p.2 in
    let v = some_then vs.0 _ c vs.2 in
    let is : t ≡ Op (OpCode.Prog p.0.0) p.0.1 = called_is t p.0 p.1 in
    let lows : (u : Tree) → height u ≤ height_all p.0.1 → IsLow u = λ u l. lower u (Op (OpCode.Prog p.0.0) p.0.1) (omega (arith, l)) (subst IsLow is low) in
    let whole = by_all_is (parts p.0.1) es vs.0 vs.1 in
    let args = (mirrors_parts S most all k p.0.1 lows es [] vs.0 (all_end S most calls all over few k es h deep) whole).0 in
    subst (λ (u : Tree). Runs all (eval S most k u) (of_option o)) (sym is)
    (runs_then all (eval_all_with S (call_within S most k) p.0.1) (λ ws. call_within S most k (record { program = p.0.0; arguments = ws })) v.0 (of_option o)
    (subst (λ (u : Option (List Tree)). Runs all (eval_all_with S (call_within S most k) p.0.1) (of_option u)) v.1 args)
    (subst (λ (x : Call). Runs all (call_within S most k x) (of_option o)) (sym (same_Some (record { program = p.0.0; arguments = v.0 }) c v.2)) runs))

pub call_right : (st new : Stated) (line : EvaluationLine) (call : CallLine) → IsRight st → call_line st line call ≡ Some new → IsRight new
unfolding call_line
call_right st new line call h e =
    let S : Signature = signature st in
    let s = some_then (said st line) _ new e in
    let c = some_then (begun_call s.0.0.term s.0.1) _ new s.2 in
    let p = some_then (program_at S c.0.program) _ new c.2 in
    let r = some_then (call_ends st p.0.cases c.0 call.taken call.pairs call.body) _ new p.2 in
    let w = when_then (same_outcome r.0.0 s.0.0.outcome && nat_eq s.0.0.depth (max (deepest s.0.1) r.0.1)) _ new r.2 in
    let few = when_then (nat_le (length (with_new st.calls c.0)) calls_limit) _ new w.1 in
    let t = and_parts (same_outcome r.0.0 s.0.0.outcome) (nat_eq s.0.0.depth (max (deepest s.0.1) r.0.1)) w.0 in
    let is = said_is st line s.0 h s.1 in
    let covers = new_covers st.calls c.0 in
    let calls : List Call = with_new st.calls c.0 in
    let P : Evaluated → Type 0 = Holds S calls_limit calls in
    let depth = eqb-true s.0.0.depth (max (deepest s.0.1) r.0.1) t.1 in
    let own : P s.0.0 = λ all over small k deep.
    subst (λ (o : Option Tree). Runs all (eval S calls_limit k s.0.0.term) (of_option o)) (same_outcome_is r.0.0 s.0.0.outcome t.0)
    (tree_runs S calls_limit st.calls all (λ x q. over x (covers.0 x q)) small s.0.0.term s.0.1 c.0 r.0.0 is.0 is.1 c.1 k (omega (arith, deep, depth))
    (call_runs S calls_limit st st.calls all (λ x q. over x (covers.0 x q)) small h.block c.0 p.0 p.1 (over c.0 covers.1) call.taken call.pairs call.body r.0 r.1 k (omega (arith, deep, depth)))) in
    subst IsRight (same_Some (with_evaluated (with_call st c.0) s.0.0) new few.1) (record {
      low = h.low;
      few = leb-true (length calls) calls_limit few.0;
      block = at_more P st.block s.0.0 (λ n x q. holds_more S calls_limit st.calls calls covers.0 x (h.block n x q)) own;
      checked = h.checked;
      first = h.first;
      contexts = h.contexts;
      derivations = h.derivations;
    })
