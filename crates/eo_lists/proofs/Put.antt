-- Items before a list that stays as it is: after an item that is erased, and after nothing.
use Rattle.std.specs.Prelude.{◌≡◌, ℕ, Bool, true, false, if◌then◌else◌, List, [], ◌∷◌, ◌++◌, map, Option, Some, None, Ok, option_map, option_and_then, refl}
use Rattle.std.proofs.Common.{sym, ap, ◌∙◌}
use Rattle.std.proofs.lemmas.List.{append-nil}
use Rattle.eo_term.specs.Terms.{Terms}
use Rattle.eo_term.specs.Tree.{Tree, tree_eq}
use Rattle.eo_lists.specs.Lists.{link, spell, spelled, erase, on_list, as_list}
use Rattle.eo_lists.specs.Outcomes.{GivesList}
use Rattle.eo_lists.specs.Parts.{GivesTree}
use Rattle.eo_lists.proofs.Spell.{of_terminator, one_link, spell-spelled}

pub gives_found : (t : Terms) (r : Option ℕ) (o : Option Tree) → GivesTree t r o → GivesList t (Ok r) o
gives_found t (Some i) o h = h
gives_found t None o h = h

module _ (f n : Tree) where
  -- what spells items and then those of a list
  abbrev put : List Tree → Option (List Tree) → Option Tree
  put front o = option_map (λ ys. spell f n (front ++ ys)) o

  pub put_is : (front : List Tree) (o : Option (List Tree)) → option_and_then (λ ys. as_list f n (front ++ ys)) o ≡ put front o
  put_is front None = refl
  put_is front (Some ys) = refl

  -- a list before an empty one is itself
  pub nothing_behind : (s t : Tree) → t ≡ n → on_list f n s (λ xs. on_list f n t (λ ys. as_list f n (xs ++ ys))) ≡ put [] (spelled f n s)
  nothing_behind s t e =
      ap (λ u. on_list f n s (λ xs. on_list f n u (λ ys. as_list f n (xs ++ ys)))) e
      ∙ ap (λ o. on_list f n s (λ xs. option_and_then (λ ys. as_list f n (xs ++ ys)) o)) (of_terminator f n)
      ∙ by_list (spelled f n s)
    where
      by_list : (o : Option (List Tree)) → option_and_then (λ xs. option_and_then (λ ys. as_list f n (xs ++ ys)) (Some [])) o ≡ put [] o
      by_list None = refl
      by_list (Some xs) = ap (λ us. Some (spell f n us)) (append-nil xs)

  -- An item is erased from a list, whose items in front of the rest u stay.
  module _ (a : Tree) (front : List Tree) (stay : (xs : List Tree) → erase tree_eq a (front ++ xs) ≡ front ++ erase tree_eq a xs) where
    abbrev erased : Option (List Tree) → Option Tree
    erased o = option_and_then (λ xs. as_list f n (erase tree_eq a xs)) o

    pub erased_first : (x b u : Tree) (whole : Option (List Tree)) → whole ≡ option_map (λ xs. front ++ xs) (spelled f n u) → tree_eq u n ≡ false → u ≡ link f x b → tree_eq a x ≡ true → erased whole ≡ put front (spelled f n b)
    erased_first x b u whole w p e s =
        ap erased (w ∙ ap (option_map (λ xs. front ++ xs)) (ap (spelled f n) e ∙ one_link f n x b (ap (λ v. tree_eq v n) (sym e) ∙ p)))
        ∙ by_list (spelled f n b)
      where
        by_list : (o : Option (List Tree)) → erased (option_map (λ xs. front ++ xs) (option_map (λ ys. x ∷ ys) o)) ≡ put front o
        by_list None = refl
        by_list (Some ys) = ap (λ us. Some (spell f n us)) (stay (x ∷ ys) ∙ ap (λ (b : Bool). front ++ (if b then ys else x ∷ erase tree_eq a ys)) s)

    pub erased_none : (u : Tree) (whole : Option (List Tree)) → whole ≡ option_map (λ xs. front ++ xs) (spelled f n u) → spelled f n u ≡ None → erased whole ≡ None
    erased_none u whole w e = ap erased (w ∙ ap (option_map (λ xs. front ++ xs)) e)

    -- none of the items is erased
    pub erased_nowhere : (u t : Tree) → spelled f n t ≡ option_map (λ xs. front ++ xs) (spelled f n u) → u ≡ n → erased (spelled f n t) ≡ Some t
    erased_nowhere u t w e =
        let all : spelled f n t ≡ Some (front ++ []) = w ∙ ap (λ v. option_map (λ xs. front ++ xs) (spelled f n v)) e ∙ ap (option_map (λ xs. front ++ xs)) (of_terminator f n) in
        ap erased all ∙ ap (λ us. Some (spell f n us)) (stay []) ∙ ap Some (spell-spelled f n t (front ++ []) all).0

-- one more of the items stays
pub stay_more : (h : ℕ → Tree) (a : Tree) (i : ℕ) (front more : List ℕ) → ((xs : List Tree) → erase tree_eq a (map h front ++ xs) ≡ map h front ++ erase tree_eq a xs) → tree_eq a (h i) ≡ false → more ≡ front ++ i ∷ [] → (xs : List Tree) → erase tree_eq a (map h more ++ xs) ≡ map h more ++ erase tree_eq a xs
stay_more h a i front more stay e m xs =
    ap (λ is. erase tree_eq a (map h is ++ xs)) m ∙ ap (erase tree_eq a) (one_more front xs) ∙ stay (h i ∷ xs)
    ∙ ap (λ (b : Bool). map h front ++ (if b then xs else h i ∷ erase tree_eq a xs)) e
    ∙ sym (one_more front (erase tree_eq a xs)) ∙ ap (λ is. map h is ++ erase tree_eq a xs) (sym m)
  where
    one_more : (is : List ℕ) (ys : List Tree) → map h (is ++ i ∷ []) ++ ys ≡ map h is ++ h i ∷ ys
    one_more [] ys = refl
    one_more (k ∷ is) ys = ap (λ us. h k ∷ us) (one_more is ys)
