-- Typing part by part.
use Rattle.std.specs.Prelude.{◌≡◌, ℕ, true, false, if◌then◌else◌, [], ◌∷◌, Some, None, Result, Ok, Err}
use Rattle.std.specs.Result.{IsErrAnd}
use Rattle.std.proofs.Common.{ap, ◌∙◌, sym, subst, arith}
use Rattle.eo_pattern.specs.Matching.{Assignment, empty, assign, put, matching}
use Rattle.eo_sig.specs.Signature.{Signature}
use Rattle.eo_term.specs.Terms.{Terms, Since}
use Rattle.eo_term.specs.Tree.{Tree, App, Arr, Qar, is_value}
use Rattle.eo_type.specs.declared.refused.Stop.{Stop}
use Rattle.eo_type.specs.Types.{TypeOutcome, Typed, Untyped, TypeRange, TypeTall, on_typed, on_match, settled, type_of, application_type}
use Rattle.eo_type.specs.Outcomes.{IsTyped, Stops, GivesBoth}
use Rattle.eo_type.proofs.Walk.{stops_first}

-- the exit of a `?` in a walk over two terms
pub both_stop : (t : Terms) (r : Result (ℕ × ℕ) Stop) (o p : TypeOutcome Tree) (e : Stop) → IsErrAnd r (λ s. s ≡ e) → Stops e (on_typed o (λ _. p)) → GivesBoth t r o p
both_stop t (Ok i) o p e q h = absurd q
both_stop t (Err s) o p e q h = subst (λ u. Stops u (on_typed o (λ _. p))) (sym q) h

-- what stops two walks stops what goes on with both
pub stops_both : {A B C : Type 0} (e : Stop) (o : TypeOutcome A) (p : TypeOutcome B) (go : A → B → TypeOutcome C) → Stops e (on_typed o (λ _. p)) → Stops e (on_typed o (λ a. on_typed p (go a)))
stops_both e (Typed a) p go h = stops_first e p (go a) h
stops_both {A} {B} {C} e Untyped p go h = stops_first {A = B} {B = C} e Untyped (λ b. Untyped) h
stops_both {A} {B} {C} e TypeRange p go h = stops_first {A = B} {B = C} e TypeRange (λ b. TypeRange) h
stops_both {A} {B} {C} e TypeTall p go h = stops_first {A = B} {B = C} e TypeTall (λ b. TypeTall) h

-- what a walk gave it gives over the table as it has grown
pub typed_grown : (old new : Terms) (o : TypeOutcome Tree) (i : ℕ) → Since old new → IsTyped old o i → IsTyped new o i
typed_grown old new o i g h = record { live = omega (arith, h.live, g.more_trees); typed = h.typed ∙ ap Typed (sym (g.tree i h.live)) }

-- the type of an application, by those of its parts
module _ (S : Signature) (f x t u : Tree) (p : type_of S f ≡ Typed t) (q : type_of S x ≡ Typed u) where
  both_typed : type_of S (App f x) ≡ (if is_value u then application_type t u x else Untyped)
  both_typed = λ i. on_typed (p i) (λ a. on_typed (q i) (λ b. if is_value b then application_type a b x else Untyped))

  pub application_typed : is_value u ≡ true → type_of S (App f x) ≡ application_type t u x
  application_typed e = both_typed ∙ ap (λ b. if b then application_type t u x else Untyped) e

  pub application_untyped : is_value u ≡ false → type_of S (App f x) ≡ Untyped
  application_untyped e = both_typed ∙ ap (λ b. if b then application_type t u x else Untyped) e

-- the type of what is applied, by the root of the function's type
module _ (f a b t x : Tree) where
  pub arr_applies : (σ : Assignment) → Arr a b ≡ f → matching empty (a ∷ []) (t ∷ []) ≡ Some σ → application_type f t x ≡ settled (put σ b)
  arr_applies σ e m = ap (λ g. application_type g t x) (sym e) ∙ ap (λ o. on_match o (λ ρ. settled (put ρ b))) m

  pub arr_apart : Arr a b ≡ f → matching empty (a ∷ []) (t ∷ []) ≡ None → application_type f t x ≡ Untyped
  arr_apart e m = ap (λ g. application_type g t x) (sym e) ∙ ap (λ o. on_match o (λ ρ. settled (put ρ b))) m

  pub qar_applies : (i : ℕ) (σ τ : Assignment) → Qar i a b ≡ f → matching empty (a ∷ []) (t ∷ []) ≡ Some σ → τ ≡ assign σ i x → application_type f t x ≡ settled (put τ b)
  qar_applies i σ τ e m h = ap (λ g. application_type g t x) (sym e) ∙ ap (λ o. on_match o (λ ρ. settled (put (assign ρ i x) b))) m ∙ ap (λ ρ. settled (put ρ b)) (sym h)

  pub qar_apart : (i : ℕ) → Qar i a b ≡ f → matching empty (a ∷ []) (t ∷ []) ≡ None → application_type f t x ≡ Untyped
  qar_apart i e m = ap (λ g. application_type g t x) (sym e) ∙ ap (λ o. on_match o (λ ρ. settled (put (assign ρ i x) b))) m
