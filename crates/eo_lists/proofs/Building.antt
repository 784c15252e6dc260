-- Terms that spell lists, made from the back and from the front, and lists in two parts.
use Rattle.std.proofs.Common.{◌≡◌, ℕ, zero, suc, ◌+◌, ◌<◌, ◌≤◌, true, List, [], ◌∷◌, ◌++◌, map, drop, fold, reverse, length, get_or, refl, sym, ap, ◌∙◌, arith}
use Rattle.std.proofs.lemmas.List.{at_drop_more, length-map}
use mathlib.Core.List.{reverse_aux}
use Rattle.eo_base.proofs.Tests.{still_above}
use Rattle.eo_base.specs.Limits.{height_limit}
use Rattle.eo_term.specs.Terms.{tree_at}
use Rattle.eo_term.specs.Tree.{Tree, Con, height, is_tall}
use Rattle.eo_lists.specs.Lists.{link, spell}
use Rattle.eo_lists.specs.Parts.{onto}
use Rattle.eo_base.proofs.Elements.{get_or-at}

-- a table that has grown twice has grown
pub tall_rest : (f a t : Tree) → is_tall t ≡ true → is_tall (link f a t) ≡ true
tall_rest f a t e = still_above height_limit (height t) (height (link f a t)) (omega arith) e

-- ---- from the back

module _ (f n : Tree) where
  spell_drop : (us : List Tree) (i : ℕ) → i < length us → spell f n (drop i us) ≡ link f (get_or us i (Con 0)) (spell f n (drop (suc i) us))
  spell_drop [] i l = absurd (omega arith)
  spell_drop (a ∷ us) zero l = refl
  spell_drop (a ∷ us) (suc i) l = spell_drop us i (omega arith)

  pub drop_tall : (us : List Tree) (i : ℕ) → is_tall (spell f n (drop i us)) ≡ true → is_tall (spell f n us) ≡ true
  drop_tall us zero e = e
  drop_tall [] (suc i) e = e
  drop_tall (a ∷ us) (suc i) e = tall_rest f a (spell f n us) (drop_tall us i e)

  module _ (ts : List Tree) (items : List ℕ) where
    -- one item more before those from place j on
    pub spell_step : (i j a : ℕ) (now : Tree) → suc i ≡ j → j ≤ length items → a ≡ get_or items i a → now ≡ spell f n (drop j (map (tree_at ts) items)) → link f (tree_at ts a) now ≡ spell f n (drop i (map (tree_at ts) items))
    spell_step i j a now s l e h =
        let long : i < length (map (tree_at ts) items) = omega (arith, length-map items (tree_at ts)) in
        let own : get_or (map (tree_at ts) items) i (Con 0) ≡ tree_at ts a = get_or-at (tree_at ts) items i a (Con 0) (omega arith) e in
        let own' = sym own in let s' = sym s in (λ k. link f (tree_at ts a) (h k)) ∙ (λ k. link f (own' k) (spell f n (drop (s' k) (map (tree_at ts) items)))) ∙ sym (spell_drop (map (tree_at ts) items) i long)

    pub spell_step_tall : (i j a : ℕ) (now : Tree) → suc i ≡ j → j ≤ length items → a ≡ get_or items i a → now ≡ spell f n (drop j (map (tree_at ts) items)) → is_tall (link f (tree_at ts a) now) ≡ true → is_tall (spell f n (map (tree_at ts) items)) ≡ true
    spell_step_tall i j a now s l e h t =
        drop_tall (map (tree_at ts) items) i (ap is_tall (sym (spell_step i j a now s l e h)) ∙ t)

-- ---- from the front

module _ (f : Tree) (ts : List Tree) (items : List ℕ) where
  pub onto_step : (i a : ℕ) (now next whole : Tree) → i < length items → a ≡ get_or items i a → fold (onto f) now (map (tree_at ts) (drop i items)) ≡ whole → next ≡ link f (tree_at ts a) now → fold (onto f) next (map (tree_at ts) (drop (i + 1) items)) ≡ whole
  onto_step i a now next whole l e h s =
      (λ k. fold (onto f) (s k) (map (tree_at ts) (drop (i + 1) items)))
      ∙ (λ k. fold (onto f) (link f (tree_at ts (e k)) now) (map (tree_at ts) (drop (i + 1) items)))
      ∙ sym (at_drop_more (λ is. fold (onto f) now (map (tree_at ts) is)) items i a l) ∙ h

  fold_tall : (us : List Tree) (now : Tree) → is_tall now ≡ true → is_tall (fold (onto f) now us) ≡ true
  fold_tall [] now e = e
  fold_tall (u ∷ us) now e = fold_tall us (link f u now) (tall_rest f u now e)

  pub onto_step_tall : (i a : ℕ) (now next whole : Tree) → i < length items → a ≡ get_or items i a → fold (onto f) now (map (tree_at ts) (drop i items)) ≡ whole → next ≡ link f (tree_at ts a) now → is_tall next ≡ true → is_tall whole ≡ true
  onto_step_tall i a now next whole l e h s t =
      ap is_tall (sym (onto_step i a now next whole l e h s)) ∙ fold_tall (map (tree_at ts) (drop (i + 1) items)) next t

-- ---- lists in two parts

pub spell_append : (f n : Tree) (xs ys : List Tree) → spell f (spell f n ys) xs ≡ spell f n (xs ++ ys)
spell_append f n [] ys = refl
spell_append f n (x ∷ xs) ys = ap (link f x) (spell_append f n xs ys)

-- built from the front, the items are in reverse
fold_reverse_aux : (f n : Tree) (xs ys : List Tree) → fold (onto f) (spell f n ys) xs ≡ spell f n (reverse_aux xs ys)
fold_reverse_aux f n [] ys = refl
fold_reverse_aux f n (x ∷ xs) ys = fold_reverse_aux f n xs (x ∷ ys)

pub fold_reverse : (f n : Tree) (xs : List Tree) → fold (onto f) n xs ≡ spell f n (reverse xs)
fold_reverse f n xs = fold_reverse_aux f n xs []
