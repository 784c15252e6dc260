-- A fold over trees of which one is too tall is too tall.
use Rattle.std.proofs.Common.{◌≡◌, ℕ, zero, suc, ◌≤◌, Bool, true, false, ◌||◌, List, [], ◌∷◌, ◌++◌, map, fold, length, refl, sym, ap, ◌∙◌, arith, true≢false, nat_lt}
use Rattle.std.specs.Prelude.{Ok, Err, ◌==◌, if◌then◌else◌}
use Rattle.std.specs.List.{list_any}
use Rattle.std.proofs.Common.{length-append}
use Rattle.std.proofs.lemmas.Bool.Decides.{nat_tests}
use Rattle.std.proofs.lemmas.List.{length-map}
use Rattle.eo_term.proofs.Heights.{higher}
use Rattle.eo_base.specs.declared.FaultName.TheVariants.{TermHeight, BadArity}
use Rattle.eo_base.specs.Checks.{Checked}
use Rattle.eo_base.proofs.Tests.{or_first, or_second}
use Rattle.eo_term.specs.Tree.{Tree, Con, App, is_tall}
use Rattle.eo_sig.specs.Signature.{Signature, Attribute, Plain, RightNil, LeftNil, Right, Left, Chain, Pairs, Binder}
use Rattle.eo_names.specs.Folding.{applied, applied_to_two, list_onto, last_onto, right_nil, right, left, links, all_pairs, least, attribute_at, by_attribute, folded_within}
use Rattle.eo_names.specs.Grouped.{if_low}
use Rattle.eo_names.proofs.FoldLemmas.{tall_first, tall_second, tall_left, tall_right, tall_onto, tall_fold}

abbrev pub HasTall : List Tree → Type 0
HasTall us = list_any is_tall us ≡ true

no_tall : {A : Type 0} → false ≡ true → A
no_tall e = absurd (true≢false (sym e))

-- in a list of one tree more
in_cons : {A : Type 0} (b c : Bool) → (b || c) ≡ true → (b ≡ true → A) → (c ≡ true → A) → A
in_cons true c e f g = f refl
in_cons false c e f g = g e

pub any_first : (us vs : List Tree) → HasTall us → HasTall (us ++ vs)
any_first [] vs e = no_tall e
any_first (u ∷ us) vs e =
    in_cons (is_tall u) (list_any is_tall us) e (λ h. or_first (is_tall u) (list_any is_tall (us ++ vs)) h) (λ h. or_second (is_tall u) (list_any is_tall (us ++ vs)) (any_first us vs h))

pub any_second : (us vs : List Tree) → HasTall vs → HasTall (us ++ vs)
any_second [] vs e = e
any_second (u ∷ us) vs e = or_second (is_tall u) (list_any is_tall (us ++ vs)) (any_second us vs e)

pub any_at : (us vs : List Tree) (t : Tree) → is_tall t ≡ true → HasTall (us ++ t ∷ vs)
any_at us vs t e = any_second us (t ∷ vs) (or_first (is_tall t) (list_any is_tall vs) e)

module _ (g : Tree → Tree → Tree) (by_first : (a b : Tree) → is_tall a ≡ true → is_tall (g a b) ≡ true) (by_second : (a b : Tree) → is_tall b ≡ true → is_tall (g a b) ≡ true) where
  any_fold : (now : Tree) (us : List Tree) → HasTall us → is_tall (fold g now us) ≡ true
  any_fold now [] e = no_tall e
  any_fold now (u ∷ us) e =
      in_cons (is_tall u) (list_any is_tall us) e (λ h. tall_fold g [] [] by_first us (g now u) (by_second now u h)) (any_fold (g now u) us)

any_applied : (f : Tree) (us : List Tree) → HasTall us → is_tall (applied f us) ≡ true
any_applied f us e = any_fold App tall_first tall_second f us e

any_left : (f : Tree) (us : List Tree) → HasTall us → is_tall (left f us) ≡ true
any_left f [] e = no_tall e
any_left f (a ∷ us) e =
    in_cons (is_tall a) (list_any is_tall us) e (tall_fold (applied_to_two f) [] [] (tall_left f) us a) (any_fold (applied_to_two f) (tall_left f) (tall_right f) a us)

any_right : (f : Tree) (us : List Tree) → HasTall us → is_tall (right f us) ≡ true
any_right f [] e = no_tall e
any_right f (a ∷ []) e = in_cons (is_tall a) false e (λ h. h) no_tall
any_right f (a ∷ b ∷ us) e =
    in_cons (is_tall a) (list_any is_tall (b ∷ us)) e (tall_left f a (right f (b ∷ us))) (λ h. tall_right f a (right f (b ∷ us)) (any_right f (b ∷ us) h))

tall_last : (b : Bool) (f a nil : Tree) → is_tall a ≡ true → is_tall (last_onto b f a nil) ≡ true
tall_last true f a nil e = e
tall_last false f a nil e = tall_left f a nil e

tall_before : (b : Bool) (f a rest : Tree) → is_tall a ≡ true → is_tall (list_onto b f a rest) ≡ true
tall_before true f a rest e = higher a (list_onto true f a rest) (omega arith) e
tall_before false f a rest e = tall_left f a rest e

any_right_nil : (il : Tree → Bool) (f nil : Tree) (us : List Tree) → HasTall us → is_tall (right_nil il f nil us) ≡ true
any_right_nil il f nil [] e = no_tall e
any_right_nil il f nil (a ∷ []) e = in_cons (is_tall a) false e (tall_last (il a) f a nil) no_tall
any_right_nil il f nil (a ∷ b ∷ us) e =
    in_cons (is_tall a) (list_any is_tall (b ∷ us)) e (tall_before (il a) f a (right_nil il f nil (b ∷ us))) (λ h. tall_onto (il a) f a (right_nil il f nil (b ∷ us)) (any_right_nil il f nil (b ∷ us) h))

any_links : (f : Tree) (us : List Tree) → 2 ≤ length us → HasTall us → HasTall (links f us)
any_links f [] l e = no_tall e
any_links f (a ∷ []) l e = absurd (omega arith)
any_links f (a ∷ b ∷ []) l e =
    let whole = applied_to_two f a b in
    in_cons (is_tall a) (list_any is_tall (b ∷ [])) e (λ h. or_first (is_tall whole) false (tall_left f a b h))
    (λ h. in_cons (is_tall b) false h (λ i. or_first (is_tall whole) false (tall_right f a b i)) no_tall)
any_links f (a ∷ b ∷ c ∷ us) l e =
    let whole = applied_to_two f a b in
    let rest = list_any is_tall (links f (b ∷ c ∷ us)) in
    in_cons (is_tall a) (list_any is_tall (b ∷ c ∷ us)) e (λ h. or_first (is_tall whole) rest (tall_left f a b h))
    (λ h. or_second (is_tall whole) rest (any_links f (b ∷ c ∷ us) (omega arith) h))

any_map : (f a : Tree) (us : List Tree) → HasTall us → HasTall (map (applied_to_two f a) us)
any_map f a [] e = no_tall e
any_map f a (u ∷ us) e =
    let rest = list_any is_tall (map (applied_to_two f a) us) in
    in_cons (is_tall u) (list_any is_tall us) e (λ h. or_first (is_tall (applied_to_two f a u)) rest (tall_right f a u h)) (λ h. or_second (is_tall (applied_to_two f a u)) rest (any_map f a us h))

any_pairs : (f : Tree) (us : List Tree) → 2 ≤ length us → HasTall us → HasTall (all_pairs f us)
any_pairs f [] l e = no_tall e
any_pairs f (a ∷ []) l e = absurd (omega arith)
any_pairs f (a ∷ b ∷ us) l e =
    in_cons (is_tall a) (list_any is_tall (b ∷ us)) e
    (λ h. or_first (is_tall (applied_to_two f a b)) (list_any is_tall (map (applied_to_two f a) us ++ all_pairs f (b ∷ us))) (tall_left f a b h))
    (λ h. any_first (map (applied_to_two f a) (b ∷ us)) (all_pairs f (b ∷ us)) (any_map f a (b ∷ us) h))

links_length : (f a : Tree) (us : List Tree) → length (links f (a ∷ us)) ≡ length us
links_length f a [] = refl
links_length f a (b ∷ us) = ap suc (links_length f b us)

pub links_more : (f : Tree) (us : List Tree) → 3 ≤ length us → 2 ≤ length (links f us)
links_more f [] l = absurd (omega arith)
links_more f (a ∷ us) l = let e = links_length f a us in omega (arith, e)

pub pairs_more : (f : Tree) (us : List Tree) → 3 ≤ length us → 2 ≤ length (all_pairs f us)
pairs_more f [] l = absurd (omega arith)
pairs_more f (a ∷ us) l =
    let e = length-append (map (applied_to_two f a) us) (all_pairs f us) in
    let m = length-map us (applied_to_two f a) in
    omega (arith, e, m)

-- a result that is too tall
pub too_tall : (t : Tree) → is_tall t ≡ true → if_low (Ok t) ≡ Err TermHeight
too_tall t e = by (is_tall t) e
  where
    by : (b : Bool) → b ≡ true → ◌≡◌ {A = Checked Tree} (if b then Err TermHeight else Ok t) (Err TermHeight)
    by true h = refl
    by false h = no_tall h

pub three : (n : ℕ) → 2 ≤ n → (n == 2) ≡ false → 3 ≤ n
three n h q = grind (arith, nat_tests)

-- where two or more are folded, there is no lack of arguments
module _ (S : Signature) (il : Tree → Bool) where
  enough : (a : Attribute) → least a ≤ 2
  enough Plain = omega arith
  enough (RightNil n) = omega arith
  enough (LeftNil n) = omega arith
  enough Right = omega arith
  enough Left = omega arith
  enough (Chain g) = omega arith
  enough (Pairs g) = omega arith
  enough (Binder c) = omega arith

  not_few : (n : ℕ) (a : Attribute) → 2 ≤ n → nat_lt n (least a) ≡ false
  not_few n a l = let e = enough a in grind (arith, nat_tests, e)

  pub folded_tall : (turns f : ℕ) (us : List Tree) → 2 ≤ length us → HasTall us → if_low (folded_within turns S il f us) ≡ Err TermHeight
  folded_tall zero f us l e = too_tall (applied (Con f) us) (any_applied (Con f) us e)
  folded_tall (suc turns) f us l e =
      ap (λ b. if_low (if b then Err BadArity else by_attribute (folded_within turns S il) il (Con f) (attribute_at S f) us)) (not_few (length us) (attribute_at S f) l) ∙ by (folded_tall turns) (attribute_at S f)
    where
      over : ((g : ℕ) (items : List Tree) → 2 ≤ length items → HasTall items → if_low (folded_within turns S il g items) ≡ Err TermHeight) → (g : ℕ) (items : List Tree) (b : Bool) → (length us == 2) ≡ b → HasTall items → (b ≡ false → 2 ≤ length items) → if_low (if b then Ok (applied (Con f) us) else folded_within turns S il g items) ≡ Err TermHeight
      over rec g items true q h n = too_tall (applied (Con f) us) (any_applied (Con f) us e)
      over rec g items false q h n = rec g items (n refl) h

      by : ((g : ℕ) (items : List Tree) → 2 ≤ length items → HasTall items → if_low (folded_within turns S il g items) ≡ Err TermHeight) → (a : Attribute) → if_low (by_attribute (folded_within turns S il) il (Con f) a us) ≡ Err TermHeight
      by rec Plain = too_tall _ (any_applied (Con f) us e)
      by rec (RightNil n) = too_tall _ (any_right_nil il (Con f) n us e)
      by rec (LeftNil n) = too_tall _ (any_fold (applied_to_two (Con f)) (tall_left (Con f)) (tall_right (Con f)) n us e)
      by rec Right = too_tall _ (any_right (Con f) us e)
      by rec Left = too_tall _ (any_left (Con f) us e)
      by rec (Chain g) = over rec g (links (Con f) us) (length us == 2) refl (any_links (Con f) us l e) (λ q. links_more (Con f) us (three (length us) l q))
      by rec (Pairs g) = over rec g (all_pairs (Con f) us) (length us == 2) refl (any_pairs (Con f) us l e) (λ q. pairs_more (Con f) us (three (length us) l q))
      by rec (Binder c) = too_tall _ (any_applied (Con f) us e)
