-- One turn of a fold.
use Rattle.std.proofs.Common.{◌≡◌, ℕ, suc, ◌<◌, ◌≤◌, Bool, true, false, true≢false, nat_lt, List, length, None, Some, refl, ap, ◌∙◌, arith}
use Rattle.std.specs.Prelude.{Ok, Err, ◌==◌, if◌then◌else◌}
use Rattle.std.proofs.lemmas.Bool.Decides.{nat_tests}
use Rattle.eo_base.specs.Limits.{height_limit}
use Rattle.eo_base.specs.declared.FaultName.TheVariants.{BadArity, TermHeight}
use Rattle.eo_base.specs.Checks.{Checked}
use Rattle.eo_term.specs.Tree.{Tree, Con, height, is_tall}
use Rattle.eo_sig.specs.Signature.{Signature, Attribute, Plain, RightNil, LeftNil, Right, Left, Chain, Pairs, Binder}
use Rattle.eo_names.specs.Folding.{applied, right_nil, left_nil, right, left, links, all_pairs, least, attribute_at, by_attribute, folded_within}
use Rattle.eo_names.specs.Grouped.{grouped, joined_items, if_low}
use Rattle.eo_names.specs.Turns.{is_tall_turn}
use Rattle.eo_names.proofs.FoldTall.{too_tall, three, links_more, pairs_more, folded_tall}

-- by turns
module _ (S : Signature) (il : Tree → Bool) (k : ℕ) (us : List Tree) where
  pub too_few : (turns : ℕ) → length us < least (attribute_at S k) → if_low (folded_within (suc turns) S il k us) ≡ Err BadArity
  too_few turns l = ap (λ b. if_low (if b then Err BadArity else by_attribute (folded_within turns S il) il (Con k) (attribute_at S k) us)) (is_less (length us) (least (attribute_at S k)) l)
    where
      is_less : (m n : ℕ) → m < n → nat_lt m n ≡ true
      is_less m n h = grind (arith, nat_tests)

  pub not_too_few : (turns : ℕ) → least (attribute_at S k) ≤ length us → folded_within (suc turns) S il k us ≡ by_attribute (folded_within turns S il) il (Con k) (attribute_at S k) us
  not_too_few turns l = ap (λ b. if b then Err BadArity else by_attribute (folded_within turns S il) il (Con k) (attribute_at S k) us) (is_least (length us) (least (attribute_at S k)) l)
    where
      is_least : (m n : ℕ) → n ≤ m → nat_lt m n ≡ false
      is_least m n h = grind (arith, nat_tests)

  turn_tall_by : (turns : ℕ) (f : Tree) (a : Attribute) → least a ≤ length us → is_tall_turn (grouped il f a us) (joined_items f a us) ≡ true → if_low (by_attribute (folded_within turns S il) il f a us) ≡ Err TermHeight
  turn_tall_by turns f Plain l e = too_tall (applied f us) e
  turn_tall_by turns f (RightNil n) l e = too_tall (right_nil il f n us) e
  turn_tall_by turns f (LeftNil n) l e = too_tall (left_nil f n us) e
  turn_tall_by turns f Right l e = too_tall (right f us) e
  turn_tall_by turns f Left l e = too_tall (left f us) e
  turn_tall_by turns f (Chain g) l e = by (length us == 2) refl e
    where
      by : (b : Bool) → (length us == 2) ≡ b → is_tall_turn (applied f us) (if b then None else Some (g, links f us)) ≡ true → if_low (if b then Ok (applied f us) else folded_within turns S il g (links f us)) ≡ Err TermHeight
      by true q h = too_tall (applied f us) h
      by false q h = folded_tall S il turns g (links f us) (links_more f us (three (length us) l q)) h
  turn_tall_by turns f (Pairs g) l e = by (length us == 2) refl e
    where
      by : (b : Bool) → (length us == 2) ≡ b → is_tall_turn (applied f us) (if b then None else Some (g, all_pairs f us)) ≡ true → if_low (if b then Ok (applied f us) else folded_within turns S il g (all_pairs f us)) ≡ Err TermHeight
      by true q h = too_tall (applied f us) h
      by false q h = folded_tall S il turns g (all_pairs f us) (pairs_more f us (three (length us) l q)) h
  turn_tall_by turns f (Binder c) l e = too_tall (applied f us) e

  pub turn_tall : (turns : ℕ) → least (attribute_at S k) ≤ length us → is_tall_turn (grouped il (Con k) (attribute_at S k) us) (joined_items (Con k) (attribute_at S k) us) ≡ true → if_low (folded_within (suc turns) S il k us) ≡ Err TermHeight
  turn_tall turns l e = ap if_low (not_too_few turns l) ∙ turn_tall_by turns (Con k) (attribute_at S k) l e

pub low_term : (t : Tree) → height t ≤ height_limit → if_low (Ok t) ≡ Ok t
low_term t l = by (is_tall t) (grind (arith, nat_tests))
  where
    by : (b : Bool) → b ≡ false → ◌≡◌ {A = Checked Tree} (if b then Err TermHeight else Ok t) (Ok t)
    by true h = absurd (true≢false h)
    by false h = refl

-- on two arguments nothing is joined, and an attribute says what the constant makes of them
module _ (f : Tree) (us : List Tree) (two : length us ≡ 2) where
  pub two_joined : (a : Attribute) → joined_items f a us ≡ None
  two_joined Plain = refl
  two_joined (RightNil n) = refl
  two_joined (LeftNil n) = refl
  two_joined Right = refl
  two_joined Left = refl
  two_joined (Chain g) = λ i. if two i == 2 then None else Some (g, links f us)
  two_joined (Pairs g) = λ i. if two i == 2 then None else Some (g, all_pairs f us)
  two_joined (Binder c) = refl

  pub two_attributed : (fold_by : ℕ → List Tree → Checked Tree) (il : Tree → Bool) (a : Attribute) → by_attribute fold_by il f a us ≡ Ok (grouped il f a us)
  two_attributed fold_by il Plain = refl
  two_attributed fold_by il (RightNil n) = refl
  two_attributed fold_by il (LeftNil n) = refl
  two_attributed fold_by il Right = refl
  two_attributed fold_by il Left = refl
  two_attributed fold_by il (Chain g) = λ i. if two i == 2 then Ok (applied f us) else fold_by g (links f us)
  two_attributed fold_by il (Pairs g) = λ i. if two i == 2 then Ok (applied f us) else fold_by g (all_pairs f us)
  two_attributed fold_by il (Binder c) = refl

-- an attribute asks for two arguments at most
least_two : (a : Attribute) → least a ≤ 2
least_two Plain = omega arith
least_two (RightNil n) = omega arith
least_two (LeftNil n) = omega arith
least_two Right = omega arith
least_two Left = omega arith
least_two (Chain g) = omega arith
least_two (Pairs g) = omega arith
least_two (Binder c) = omega arith

pub two_folded : (S : Signature) (il : Tree → Bool) (k : ℕ) (us : List Tree) → length us ≡ 2 → (turns : ℕ) → folded_within (suc turns) S il k us ≡ Ok (grouped il (Con k) (attribute_at S k) us)
two_folded S il k us two turns =
    let few = least_two (attribute_at S k) in
    not_too_few S il k us turns (omega (arith, few, two)) ∙ two_attributed (Con k) us two (folded_within turns S il) il (attribute_at S k)
