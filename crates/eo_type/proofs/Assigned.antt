-- Assignments that hold nothing, and parameters of arguments.
use Rattle.std.proofs.Common.{◌≡◌, ℕ, zero, suc, List, [], ◌∷◌, Option, None, slice_get, All, refl, sym, ap, subst}
use Rattle.std.specs.Option.{option_flatten, option_map}
use Rattle.std.proofs.lemmas.List.Elements.{All-head, All-tail, All-weaker}
use mathlib.Core.Path.{fun_ext}
use Rattle.eo_term.specs.Tree.{Tree}
use Rattle.eo_term.specs.Terms.{tree_at}
use Rattle.eo_pattern.specs.Matching.{empty}
use Rattle.eo_pattern.specs.Slots.{Slots, SlotBelow, AreBelow, AreEmpty, held}

slot_empty : (n : ℕ) (o : Option ℕ) → o ≡ None → SlotBelow n o
slot_empty n o e = subst (SlotBelow n) (sym e) tt

pub empty_below : (n : ℕ) (s : Slots) → AreEmpty s → AreBelow n s
empty_below n s h = record { slots = All-weaker (λ (o : Option ℕ). o ≡ None) (SlotBelow n) (slot_empty n) s.values h }

nothing_at : (vs : List (Option ℕ)) (i : ℕ) → All (λ (o : Option ℕ). o ≡ None) vs → option_flatten (slice_get vs i) ≡ None
nothing_at [] i h = refl
nothing_at (v ∷ vs) zero h = All-head (λ (o : Option ℕ). o ≡ None) v vs h
nothing_at (v ∷ vs) (suc i) h = nothing_at vs i (All-tail (λ (o : Option ℕ). o ≡ None) v vs h)

pub empty_held : (ts : List Tree) (s : Slots) → AreEmpty s → held ts s ≡ empty
empty_held ts s h = fun_ext (λ i. ap (option_map (tree_at ts)) (nothing_at s.values i h))
