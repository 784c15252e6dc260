-- One step from the last parameter of a rule to the first.
use Rattle.std.proofs.Common.{◌≡◌, ℕ, suc, ◌<◌, Bool, true, false, ◌&&◌, ◌||◌, List, ◌∷◌, length, map, drop, get_or, refl, sym, ap, ◌∙◌}
use Rattle.std.proofs.Math.Seq.{drop-cons}
use Rattle.eo_term.specs.Tree.{Tree, occurs_openly}
use Rattle.eo_term.specs.Terms.{tree_at}
use Rattle.eo_sig.specs.declared.records.Param.{Param}
use Rattle.eo_sig.specs.Signature as sig
use Rattle.eo_sig.specs.Reading.{read_parameter}
use Rattle.eo_term.specs.ParamSet.{has, AddsAll}

pub or_nothing : (b : Bool) → (b || false) ≡ b
or_nothing true = refl
or_nothing false = refl

module _ (patterns ts : List Tree) (ps : List Param) where
  -- what the parameters from number i on give
  abbrev pub later : ℕ → ℕ → Bool
  later i j = sig.known patterns i (map (read_parameter ts) (drop i ps)) j

  known_step : (i : ℕ) (p : Param) → i < length ps → p ≡ get_or ps i p → (j : ℕ) → later i j ≡ (later (suc i) j || (later (suc i) i && occurs_openly j (tree_at ts p.ty)))
  known_step i p h e j = ap (λ qs. sig.known patterns i (map (read_parameter ts) qs) j) (drop-cons ps i p h ∙ ap (λ q. q ∷ drop (suc i) ps) (sym e))

  -- a parameter that has a value gives one to those that occur in its type
  pub step_taken : (i : ℕ) (p : Param) → i < length ps → p ≡ get_or ps i p → (s t : ℕ) → ((j : ℕ) → has s j ≡ later (suc i) j) → has s i ≡ true → AddsAll (λ j. occurs_openly j (tree_at ts p.ty)) s t → (j : ℕ) → has t j ≡ later i j
  step_taken i p h e s t k has_it adds j =
      adds j ∙ ap (λ b. b || occurs_openly j (tree_at ts p.ty)) (k j) ∙ ap (λ b. later (suc i) j || (b && occurs_openly j (tree_at ts p.ty))) (sym (sym (k i) ∙ has_it)) ∙ sym (known_step i p h e j)

  -- and one that has none gives none
  pub step_left : (i : ℕ) (p : Param) → i < length ps → p ≡ get_or ps i p → (s : ℕ) → ((j : ℕ) → has s j ≡ later (suc i) j) → has s i ≡ false → (j : ℕ) → has s j ≡ later i j
  step_left i p h e s k lacks j =
      k j ∙ sym (or_nothing (later (suc i) j)) ∙ ap (λ b. later (suc i) j || (b && occurs_openly j (tree_at ts p.ty))) (sym (sym (k i) ∙ lacks)) ∙ sym (known_step i p h e j)
