-- What the programs of the suite on clauses do to truth.
use Rattle.std.specs.Prelude.{◌≡◌, ℕ, Bool, true, false, not, ◌||◌, List, [], ◌∷◌, ◌++◌, Option, Some, option_and_then, refl}
use Rattle.std.proofs.Common.{inl, inr, sym, ◌∙◌, ap, ap₂, subst}
use Rattle.eo_base.proofs.Tests.{both, join}
use Rattle.eo_term.specs.declared.OpName.{OpName}
use Rattle.eo_term.specs.declared.OpCode.{OpCode}
use Rattle.eo_term.specs.Tree.{Tree, Con, Par, Op, truth, is_plain, tree_eq}
use Rattle.eo_sig.specs.Signature.{Signature, Program, program_at, terminator}
use Rattle.eo_pattern.specs.Matching.{put}
use Rattle.eo_lists.specs.Lists.{erase}
use Rattle.eo_stack.specs.Evaluation.{Call, Eval, first_match, body_of, eval_with, call_within}
use Rattle.eo_sem.specs.Connectives.{disj, neg}
use Rattle.eo_sem.specs.SuitePrograms.{program_cl, program_uncl, program_rl}
use Rattle.eo_sem.specs.Truth.{Valuation, holds}
use Rattle.eo_eval.proofs.Yields.{Yields}
use Rattle.eo_sem.proofs.Plain.{plain_yields}
use Rattle.eo_sem.proofs.Lists.{items_plain, spell_plain, append_plain, erase_plain, or_list, or_spell, any_append, any_erase}
use Rattle.eo_sem.proofs.Operators.{AnyChosen, first_chosen, call_yields, on_three, erase_yields, concat_yields}

-- what a signature has of the suite
pub record HasClauses (S : Signature) : Type 0 where
  pub ors : terminator S 9 ≡ Some (truth false)
  pub cl : program_at S 0 ≡ Some program_cl
  pub uncl : program_at S 1 ≡ Some program_uncl
  pub rl : program_at S 5 ≡ Some program_rl

abbrev head_or : Tree → List Tree → Tree
head_or d [] = d
head_or d (t ∷ ts) = t

-- the first two patterns and the last, of four
abbrev second_or : Tree → List Tree → Tree
second_or d (s ∷ t ∷ ts) = t
second_or d _ = d

abbrev fourth_or : Tree → List Tree → Tree
fourth_or d (a ∷ b ∷ c ∷ e ∷ ts) = e
fourth_or d _ = d

-- one of two that are true by cases
one_of : (o b k : Bool) → (o ≡ true → b ≡ true) → (o ≡ false → k ≡ true) → (b || k) ≡ true
one_of true b k f g = ap (λ (x : Bool). x || k) (f refl)
one_of false true k f g = refl
one_of false false k f g = g refl

twice : (b : Bool) → b ≡ not (not b)
twice true = refl
twice false = refl

or_false : (b : Bool) → (b || false) ≡ b
or_false true = refl
or_false false = refl

body_is : (S : Signature) (p : ℕ) (program : Program) (vs : List Tree) (t : Tree) → program_at S p ≡ Some program → body_of S (record { program = p; arguments = vs }) ≡ Some t → AnyChosen program.cases vs t
body_is S p program vs t declared e =
    first_chosen program.cases vs t (sym (ap (λ (o : Option Program). option_and_then (λ (q : Program). first_match q.cases vs) o) declared) ∙ e)

module _ (full : Signature) (V : Valuation) where
  -- a tree without operators, as true as another
  pub record IsAsTrue (c t : Tree) : Type 0 where
    pub plain : is_plain t ≡ true
    pub truth : holds full V t ≡ holds full V c

  itself_as_true : (S : Signature) (call : Call → Eval Tree) (c t : Tree) → IsAsTrue c t → Yields (eval_with S call t) (IsAsTrue c)
  itself_as_true S call c t h d v f e =
      subst (IsAsTrue c) (sym (plain_yields S call t h.plain d v f e)) h

  module _ (S : Signature) (has : HasClauses S) (most open_left : ℕ) where
    -- a formula as a clause
    cl_body : (c t : Tree) → is_plain c ≡ true → AnyChosen program_cl.cases (c ∷ []) t → IsAsTrue c t
    cl_body c t plain (inl x) =
        let same : t ≡ c = sym x.body ∙ ap (head_or c) x.fits in
        record { plain = ap is_plain same ∙ plain; truth = ap (holds full V) same }
    cl_body c t plain (inr (inl x)) =
        let same : t ≡ c = sym x.body ∙ ap (head_or c) x.fits in
        record { plain = ap is_plain same ∙ plain; truth = ap (holds full V) same }
    cl_body c t plain (inr (inr (inl x))) =
        let same : t ≡ disj c (truth false) = sym x.body ∙ ap (λ (u : Tree). disj u (truth false)) (ap (head_or c) x.fits) in
        record { plain = ap is_plain same ∙ join plain refl; truth = ap (holds full V) same ∙ or_false (holds full V c) }
    cl_body c t plain (inr (inr (inr x))) = absurd x

    pub cl_yields : (c : Tree) → is_plain c ≡ true → Yields (call_within S most open_left (record { program = 0; arguments = c ∷ [] })) (IsAsTrue c)
    cl_yields c plain =
        call_yields S most open_left (record { program = 0; arguments = c ∷ [] }) (IsAsTrue c)
        (λ left t e. itself_as_true S (call_within S most left) c t (cl_body c t plain (body_is S 0 program_cl (c ∷ []) t has.cl e)))

    -- and back
    uncl_body : (c t : Tree) → is_plain c ≡ true → AnyChosen program_uncl.cases (c ∷ []) t → IsAsTrue c t
    uncl_body c t plain (inl x) =
        let one : disj t (truth false) ≡ c = ap (λ (u : Tree). disj u (truth false)) (sym x.body) ∙ ap (head_or c) x.fits in
        record {
          plain = (both {a = is_plain t} {b = true} (ap is_plain one ∙ plain)).0;
          truth = sym (or_false (holds full V t)) ∙ ap (holds full V) one;
        }
    uncl_body c t plain (inr (inl x)) =
        let same : t ≡ c = sym x.body ∙ ap (head_or c) x.fits in
        record { plain = ap is_plain same ∙ plain; truth = ap (holds full V) same }
    uncl_body c t plain (inr (inr x)) = absurd x

    pub uncl_yields : (c : Tree) → is_plain c ≡ true → Yields (call_within S most open_left (record { program = 1; arguments = c ∷ [] })) (IsAsTrue c)
    uncl_yields c plain =
        call_yields S most open_left (record { program = 1; arguments = c ∷ [] }) (IsAsTrue c)
        (λ left t e. itself_as_true S (call_within S most left) c t (uncl_body c t plain (body_is S 1 program_uncl (c ∷ []) t has.uncl e)))

  -- ---- resolution

  -- as true as a clause, where the literal is false
  record IsWithout (c l t : Tree) : Type 0 where
    plain : is_plain t ≡ true
    truth : holds full V l ≡ false → holds full V t ≡ holds full V c

  -- as true as one of two
  pub record IsEither (c d t : Tree) : Type 0 where
    pub plain : is_plain t ≡ true
    pub truth : holds full V t ≡ holds full V c || holds full V d

  -- true where both are
  pub record IsResolvent (c d t : Tree) : Type 0 where
    pub plain : is_plain t ≡ true
    pub truth : holds full V c ≡ true → holds full V d ≡ true → holds full V t ≡ true

  abbrev erased : Tree → Tree → Tree
  erased c l = Op (OpCode.Builtin OpName.ListErase) (on_three (Con 9) c l)

  module _ (S : Signature) (has : HasClauses S) (call : Call → Eval Tree) where
    abbrev Same : Tree → Tree → Type 0
    Same f v = v ≡ f

    erased_yields : (c l : Tree) → is_plain c ≡ true → is_plain l ≡ true → Yields (eval_with S call (erased c l)) (IsWithout c l)
    erased_yields c l p q =
        erase_yields S call (Same c) (Same l) (IsWithout c l) c l (plain_yields S call c p) (plain_yields S call l q) has.ors
        (λ b m xs i j e. record {
          plain = spell_plain 9 (truth false) (erase tree_eq m xs) refl (erase_plain m xs (items_plain 9 (truth false) b xs e (ap is_plain i ∙ p)));
          truth = λ h. or_spell full V (erase tree_eq m xs) ∙ (any_erase full V m xs (ap (holds full V) j ∙ h) ∙ (sym (or_list full V b xs e) ∙ ap (holds full V) i));
        })

    both_yields : (c d l m : Tree) → Yields (eval_with S call (erased c l)) (IsWithout c l) → Yields (eval_with S call (erased d m)) (IsWithout d m) → (holds full V l ≡ not (holds full V m)) → Yields (eval_with S call (Op (OpCode.Builtin OpName.ListConcat) (on_three (Con 9) (erased c l) (erased d m)))) (IsResolvent c d)
    both_yields c d l m p q opposite =
        concat_yields S call (IsWithout c l) (IsWithout d m) (IsResolvent c d) (erased c l) (erased d m) p q has.ors
        (λ b k xs ys i j e f. record {
          plain = spell_plain 9 (truth false) (xs ++ ys) refl (append_plain xs ys (items_plain 9 (truth false) b xs e i.plain) (items_plain 9 (truth false) k ys f j.plain));
          truth = λ h g.
              or_spell full V (xs ++ ys) ∙ (any_append full V xs ys ∙ (ap₂ (λ (x y : Bool). x || y) (sym (or_list full V b xs e)) (sym (or_list full V k ys f)) ∙
              one_of (holds full V m) (holds full V b) (holds full V k) (λ o. i.truth (opposite ∙ ap not o) ∙ h) (λ o. j.truth o ∙ g)));
        })

    abbrev resolvent : (c d l m : Tree) → Tree
    resolvent c d l m = Op (OpCode.Builtin OpName.ListConcat) (on_three (Con 9) (erased c l) (erased d m))

    resolvent_yields : (c d l m : Tree) → is_plain c ≡ true → is_plain d ≡ true → is_plain l ≡ true → is_plain m ≡ true → (holds full V l ≡ not (holds full V m)) → Yields (eval_with S call (resolvent c d l m)) (IsResolvent c d)
    resolvent_yields c d l m pc pd pl pm opposite =
        both_yields c d l m (erased_yields c l pc pl) (erased_yields d m pd pm) opposite

    rl_body : (c d p l t : Tree) → is_plain c ≡ true → is_plain d ≡ true → is_plain l ≡ true → AnyChosen program_rl.cases (c ∷ d ∷ p ∷ l ∷ []) t → Yields (eval_with S call t) (IsResolvent c d)
    rl_body c d p l t pc pd pl (inl x) =
        let first : put x.assignment (Par 0) ≡ c = ap (head_or c) x.fits in
        let second : put x.assignment (Par 1) ≡ d = ap (second_or d) x.fits in
        let literal : put x.assignment (Par 2) ≡ l = ap (fourth_or l) x.fits in
        let is : resolvent (put x.assignment (Par 0)) (put x.assignment (Par 1)) (put x.assignment (Par 2)) (neg (put x.assignment (Par 2))) ≡ resolvent c d l (neg l) = λ i. resolvent (first i) (second i) (literal i) (neg (literal i)) in
        subst (λ (u : Tree). Yields (eval_with S call u) (IsResolvent c d)) (sym (sym x.body ∙ is))
        (resolvent_yields c d l (neg l) pc pd pl pl (twice (holds full V l)))
    rl_body c d p l t pc pd pl (inr (inl x)) =
        let first : put x.assignment (Par 0) ≡ c = ap (head_or c) x.fits in
        let second : put x.assignment (Par 1) ≡ d = ap (second_or d) x.fits in
        let literal : put x.assignment (Par 2) ≡ l = ap (fourth_or l) x.fits in
        let is : resolvent (put x.assignment (Par 0)) (put x.assignment (Par 1)) (neg (put x.assignment (Par 2))) (put x.assignment (Par 2)) ≡ resolvent c d (neg l) l = λ i. resolvent (first i) (second i) (neg (literal i)) (literal i) in
        subst (λ (u : Tree). Yields (eval_with S call u) (IsResolvent c d)) (sym (sym x.body ∙ is))
        (resolvent_yields c d (neg l) l pc pd pl pl refl)
    rl_body c d p l t pc pd pl (inr (inr x)) = absurd x

  module _ (S : Signature) (has : HasClauses S) (most open_left : ℕ) where
    pub rl_yields : (c d p l : Tree) → is_plain c ≡ true → is_plain d ≡ true → is_plain l ≡ true → Yields (call_within S most open_left (record { program = 5; arguments = c ∷ d ∷ p ∷ l ∷ [] })) (IsResolvent c d)
    rl_yields c d p l pc pd pl =
        call_yields S most open_left (record { program = 5; arguments = c ∷ d ∷ p ∷ l ∷ [] }) (IsResolvent c d)
        (λ left t e. rl_body S has (call_within S most left) c d p l t pc pd pl (body_is S 5 program_rl (c ∷ d ∷ p ∷ l ∷ []) t has.rl e))
