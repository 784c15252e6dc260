-- Outcomes with a value or stuck, and lists of evaluations that grow.
use Rattle.std.specs.Prelude.{◌≡◌, ℕ, ◌≤◌, Bool, true, false, ◌||◌, if◌then◌else◌, List, [], ◌∷◌, ◌++◌, length, Option, Some, None, slice_get, refl, zero, suc, ◌⊎◌}
use Rattle.std.specs.List.{list_any}
use Rattle.std.proofs.Common.{sym, ◌∙◌, ap, subst, arith, inl, inr}
use Rattle.std.proofs.lemmas.List.Folds.{list_any-append}
use Rattle.std.proofs.lemmas.Option.{none-some, same_Some}
use Rattle.eo_base.proofs.Tests.{clash, from_either}
use Rattle.eo_term.specs.Tree.{is_closed}
use Rattle.eo_stack.specs.Evaluation.{Outcome, Value, Stuck, Deep, Calls, Range, Tall, Call, call_eq, Begun, Ended}
use Rattle.eo_cert.specs.Stated.{Evaluated}
use Rattle.eo_cert.specs.Rules.{deepest}
use Rattle.eo_cert.specs.Blocks.{with_new}
use Rattle.eo_cert.specs.Traces.{IsIn, AreIn, AllClosed, Covers, of_option}
use Rattle.eo_cert.proofs.Chains.{found_more}
use Rattle.eo_cert.proofs.Runs.{call_same}

-- ---- outcomes

abbrev pub is_done : {A : Type 0} → Outcome A → Bool
is_done (Value v) = true
is_done Stuck = true
is_done Deep = false
is_done Calls = false
is_done Range = false
is_done Tall = false

pub option_done : {A : Type 0} (o : Option A) → is_done (of_option o) ≡ true
option_done (Some v) = refl
option_done None = refl

-- an outcome that is neither a value nor stuck
pub not_done : {A : Type 0} {C : Type 0} (x : Outcome A) (c d : Begun) (o : Option A) → is_done x ≡ false → ◌≡◌ {A = Ended A} (x, c) (of_option o, d) → C
not_done {A} x c d o none e = clash (sym none ∙ (ap (λ (r : Outcome A × Begun). is_done r.0) e ∙ option_done o))

abbrev pub out : {A : Type 0} → Outcome A → Option A
out (Value v) = Some v
out Stuck = None
out Deep = None
out Calls = None
out Range = None
out Tall = None

pub out_of : {A : Type 0} (o : Option A) → out (of_option o) ≡ o
out_of (Some v) = refl
out_of None = refl

-- what ends so, and with which calls
pub ends_with : {A : Type 0} (x : Outcome A) (c d : Begun) (o : Option A) → ◌≡◌ {A = Ended A} (x, c) (of_option o, d) → (out x ≡ o) × (c ≡ d)
ends_with {A} x c d o e = (ap (λ (r : Outcome A × Begun). out r.0) e ∙ out_of o, ap (λ (r : Outcome A × Begun). r.1) e)

-- ---- lists

abbrev pub Longer : List Evaluated → List Evaluated → Type 0
Longer new old = (e : Evaluated) → IsIn old e → IsIn new e

pub are_in_more : (new old listed : List Evaluated) → Longer new old → AreIn old listed → AreIn new listed
are_in_more new old [] h a = tt
are_in_more new old (e ∷ es) h a = (h e a.0, are_in_more new old es h a.1)

pub are_in_both : (all xs ys : List Evaluated) → AreIn all xs → AreIn all ys → AreIn all (xs ++ ys)
are_in_both all [] ys a b = b
are_in_both all (x ∷ xs) ys a b = (a.0, are_in_both all xs ys a.1 b)

pub deepest_both : (k : ℕ) (xs ys : List Evaluated) → deepest xs ≤ k → deepest ys ≤ k → deepest (xs ++ ys) ≤ k
deepest_both k [] ys a b = b
deepest_both k (x ∷ xs) ys a b = let h = deepest_both k xs ys (omega (arith, a)) b in omega (arith, a, h)

pub found_last : (es : List Evaluated) (e : Evaluated) → slice_get (es ++ e ∷ []) (length es) ≡ Some e
found_last [] e = refl
found_last (x ∷ xs) e = found_last xs e

pub one_longer : (es : List Evaluated) (e : Evaluated) → Longer (es ++ e ∷ []) es
one_longer es e x i = (i.0, found_more es e i.0 x i.1)

pub covers_new : (c : Begun) (calls : List Call) (x : Call) → Covers c calls → list_any (call_eq x) c ≡ true → Covers c (with_new calls x)
covers_new c calls x h is = by (list_any (call_eq x) calls)
  where
    by : (b : Bool) → Covers c (if b then calls else calls ++ x ∷ [])
    by true = h
    by false = λ y q. from_either (list_any (call_eq y) calls) (list_any (call_eq y) (x ∷ [])) (h y) (λ p. same y p) (sym (list_any-append (call_eq y) calls (x ∷ [])) ∙ q)
      where
        same : (y : Call) → (call_eq y x || false) ≡ true → list_any (call_eq y) c ≡ true
        same y p = from_either (call_eq y x) false (λ q. subst (λ (z : Call). list_any (call_eq z) c ≡ true) (sym (call_same y x q)) is) clash p

-- an old one, or the last
pub split_in : (es : List Evaluated) (x e : Evaluated) (n : ℕ) → slice_get (es ++ x ∷ []) n ≡ Some e → IsIn es e ⊎ (x ≡ e)
split_in [] x e zero h = inr (same_Some x e h)
split_in [] x e (suc n) h = absurd (none-some e h)
split_in (y ∷ es) x e zero h = inl (0, h)
split_in (y ∷ es) x e (suc n) h = elim (split_in es x e n h) [ inl i ↦ inl (suc i.0, i.1) | inr s ↦ inr s ]

pub closed_more : (es : List Evaluated) (x : Evaluated) → AllClosed es → is_closed x.term ≡ true → AllClosed (es ++ x ∷ [])
closed_more es x h close e i =
    elim (split_in es x e i.0 i.1) [ inl p ↦ h e p | inr q ↦ subst (λ (y : Evaluated). is_closed y.term ≡ true) q close ]
