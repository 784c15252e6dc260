-- How many items a list has, from those of its rest.
use Rattle.std.specs.Prelude.{◌≡◌, refl, ℕ, suc, ◌<◌, ◌≤◌, Bool, true, false, ◌==◌, nat_eq, nat_le, if◌then◌else◌, List, [], ◌∷◌, length, Option, Some, None, is_some, option_map, option_and_then, IfSome}
use Rattle.std.specs.Option.{option_map_or}
use Rattle.std.proofs.Common.{sym, ap, ◌∙◌, arith}
use Rattle.std.proofs.lemmas.Grind.{common_steps}
use Rattle.std.proofs.lemmas.Option.{slice_get_past, same_Some}
use Rattle.std.proofs.lemmas.Bool.{eqb-true}
use Rattle.eo_base.proofs.Tests.{clash}
use Rattle.eo_term.specs.Tree.{Tree, Con, App, tree_eq}
use Rattle.eo_term.specs.Terms.{Terms, tree_at}
use Rattle.eo_term.proofs.Equality.{tree_same, tree_refl}
use Rattle.eo_lists.specs.Lists.{spelled, none_or_empty}
use Rattle.eo_lists.specs.Parts.{GivesTree}
use Rattle.eo_lists.proofs.Spell.{spelled-spell}
use Rattle.eo_sig.specs.Signature.{Signature, Constant, constants, constant_at, terminator, terminator_of}
use Rattle.eo_show.specs.Plan.{up_to, some_items, parted, longer_by}

module _ (S : Signature) where
  pub end_past : (k : ℕ) → length (constants S) ≤ k → terminator S k ≡ None
  end_past k past = ap (option_and_then (λ c. terminator_of c.attribute)) (slice_get_past (constants S) k past)

  pub end_given : (t : Terms) (k : ℕ) (c : Constant) (o : Option ℕ) → constant_at S k ≡ Some c → option_map (tree_at t.trees) o ≡ terminator_of c.attribute → IfSome o (λ i. i < length t.trees) → GivesTree t o (terminator S k)
  end_given t k c None e h live = ap (option_and_then (λ c. terminator_of c.attribute)) e ∙ sym h
  end_given t k c (Some i) e h live = record { live = live; value = ap (option_and_then (λ c. terminator_of c.attribute)) e ∙ sym h }

  abbrev counted : ℕ × List Tree → ℕ
  counted l = length l.1

  abbrev count : Option (List Tree) → ℕ
  count None = 0
  count (Some xs) = suc (length xs)

  abbrev paired : ℕ → List Tree → ℕ × List Tree
  paired c items = (c, items)

  counts : (c : ℕ) (a : Tree) (o : Option (List Tree)) → option_map_or counted (option_map (paired c) (option_map (λ items. a ∷ items) o)) 0 ≡ count o
  counts c a None = refl
  counts c a (Some xs) = refl

  abbrev by_end : ℕ → Tree → Option Tree → ℕ
  by_end c t o = up_to 1001 (option_map_or counted (option_and_then (λ n. option_map (paired c) (spelled (Con c) n t)) o) 0)

  items_of : (c : ℕ) (a t n : Tree) → terminator S c ≡ Some n → tree_eq (App (App (Con c) a) t) n ≡ false → some_items S (App (App (Con c) a) t) ≡ up_to 1001 (count (spelled (Con c) n t))
  items_of c a t n h d =
      ap (by_end c (App (App (Con c) a) t)) h
      ∙ ap (λ (b : Bool). up_to 1001 (option_map_or counted (option_map (paired c) (if b then Some [] else (if tree_eq (Con c) (Con c) then option_map (λ items. a ∷ items) (spelled (Con c) n t) else None))) 0)) d
      ∙ ap (λ (b : Bool). up_to 1001 (option_map_or counted (option_map (paired c) (if b then option_map (λ items. a ∷ items) (spelled (Con c) n t) else None)) 0)) (tree_refl (Con c))
      ∙ ap (up_to 1001) (counts c a (spelled (Con c) n t))

  -- what it is parted into makes it up again
  pub parted-is : (t : Tree) (c : ℕ) (a r : Tree) → parted t ≡ Some (c, a, r) → t ≡ App (App (Con c) a) r
  parted-is (App (App (Con d) b) s) c a r e = let same = same_Some _ _ e in ap (λ (p : ℕ × Tree × Tree). App (App (Con p.0) p.1) p.2) same
  parted-is t c a r e = clash (ap is_some e)

  pub no_items : (t : Tree) → parted t ≡ None → some_items S t ≡ 0
  no_items (App (App (Con c) a) t) e = clash (sym (ap is_some e))
  no_items t e = refl

  pub no_terminator : (t : Tree) (c : ℕ) (a r : Tree) → parted t ≡ Some (c, a, r) → terminator S c ≡ None → some_items S t ≡ 0
  no_terminator t c a r e h = ap (some_items S) (parted-is t c a r e) ∙ ap (by_end c (App (App (Con c) a) r)) h

  pub is_terminator : (t : Tree) (c : ℕ) (a r n : Tree) → parted t ≡ Some (c, a, r) → terminator S c ≡ Some n → tree_eq t n ≡ true → some_items S t ≡ 0
  is_terminator t c a r n e h d =
      let same = parted-is t c a r e in
      ap (some_items S) same ∙ ap (by_end c (App (App (Con c) a) r)) h
      ∙ ap (λ (b : Bool). up_to 1001 (option_map_or counted (option_map (paired c) (if b then Some [] else (if tree_eq (Con c) (Con c) then option_map (λ items. a ∷ items) (spelled (Con c) n r) else None))) 0)) (sym (ap (λ u. tree_eq u n) same) ∙ d)

  items_by : (t : Tree) (c : ℕ) (a r n : Tree) → parted t ≡ Some (c, a, r) → terminator S c ≡ Some n → tree_eq t n ≡ false → some_items S t ≡ up_to 1001 (count (spelled (Con c) n r))
  items_by t c a r n e h d =
      let same = parted-is t c a r e in
      ap (some_items S) same ∙ items_of c a r n h (sym (ap (λ u. tree_eq u n) same) ∙ d)

  pub one_item : (t : Tree) (c : ℕ) (a r n : Tree) → parted t ≡ Some (c, a, r) → terminator S c ≡ Some n → tree_eq t n ≡ false → tree_eq r n ≡ true → some_items S t ≡ 1
  one_item t c a r n e h d s =
      items_by t c a r n e h d ∙ ap (λ u. up_to 1001 (count (spelled (Con c) n u))) (tree_same r n s) ∙ ap (λ o. up_to 1001 (count o)) (spelled-spell (Con c) n [])

  -- one item more than those of a list of c that is not empty
  longer : (b : Tree) (o : Option (List Tree)) → up_to 1001 (count (option_map (λ items. b ∷ items) o)) ≡ (if up_to 1001 (count o) == 0 then 0 else up_to 1001 (suc (up_to 1001 (count o))))
  longer b None = refl
  longer b (Some xs) = by_bound (nat_le 1001 (suc (length xs))) refl
    where
      by_bound : (w : Bool) → nat_le 1001 (suc (length xs)) ≡ w → up_to 1001 (suc (suc (length xs))) ≡ (if up_to 1001 (suc (length xs)) == 0 then 0 else up_to 1001 (suc (up_to 1001 (suc (length xs)))))
      by_bound w e = grind (arith, common_steps)

  more : (c : ℕ) (r n : Tree) → terminator S c ≡ Some n → tree_eq r n ≡ false → up_to 1001 (count (spelled (Con c) n r)) ≡ longer_by S c (parted r) r
  more c (App (App (Con d) b) s) n h e =
      ap (λ (w : Bool). up_to 1001 (count (if w then Some [] else (if tree_eq (Con d) (Con c) then option_map (λ items. b ∷ items) (spelled (Con c) n s) else None)))) e
      ∙ by_head (nat_eq d c) refl
    where
      by_head : (w : Bool) → nat_eq d c ≡ w → up_to 1001 (count (if w then option_map (λ items. b ∷ items) (spelled (Con c) n s) else None)) ≡ (if w then (if some_items S (App (App (Con d) b) s) == 0 then 0 else up_to 1001 (suc (some_items S (App (App (Con d) b) s)))) else 0)
      by_head false q = refl
      by_head true q =
          let dc : d ≡ c = eqb-true d c q in
          longer b (spelled (Con c) n s)
          ∙ ap (λ (k : ℕ). if k == 0 then 0 else up_to 1001 (suc k)) (sym (items_by (App (App (Con d) b) s) c b s n (ap (λ k. Some (k, b, s)) dc) h e))
  more c (App (App g b) s) n h e = ap (λ (w : Bool). up_to 1001 (count (if w then Some [] else None))) e
  more c r n h e = ap (λ (w : Bool). up_to 1001 (count (none_or_empty w))) e

  pub more_items : (t : Tree) (c : ℕ) (a r n : Tree) → parted t ≡ Some (c, a, r) → terminator S c ≡ Some n → tree_eq t n ≡ false → tree_eq r n ≡ false → some_items S t ≡ longer_by S c (parted r) r
  more_items t c a r n e h d s = items_by t c a r n e h d ∙ more c r n h s
