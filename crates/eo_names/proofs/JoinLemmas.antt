-- What a constant makes of its arguments in turn, from a place on.
use Rattle.std.proofs.Common.{◌≡◌, ℕ, zero, suc, ◌+◌, ◌-◌, ◌<◌, ◌≤◌, true, List, [], ◌∷◌, ◌++◌, map, drop, length, get_or, All, refl, sym, ap, ◌∙◌, arith}
use Rattle.std.specs.List.{list_any}
use Rattle.std.proofs.lemmas.List.{append-nil, at_drop_more, drop-map, take_all}
use Rattle.std.proofs.Common.{append_assoc, length-drop, take}
use Rattle.std.proofs.lemmas.List.Elements.{All-drop}
use Rattle.std.proofs.lemmas.List.{length-map}
use Rattle.eo_base.proofs.Elements.{map_same, push_same, get_or-at}
use Rattle.eo_term.specs.Tree.{Tree, Con, is_tall}
use Rattle.eo_term.specs.Terms.{tree_at}
use Rattle.eo_names.specs.Folding.{applied_to_two, links, all_pairs}
use Rattle.eo_names.proofs.FoldTall.{HasTall, any_at, any_first, any_second}

-- numbers keep their trees where a table grows
module _ (n : ℕ) (ts us : List Tree) (same : (i : ℕ) → i < n → tree_at us i ≡ tree_at ts i) where
  pub map_grown : (is : List ℕ) → All (λ i. i < n) is → map (tree_at us) is ≡ map (tree_at ts) is
  map_grown = map_same n (tree_at ts) (tree_at us) same

  pub push_grown : (made : List ℕ) (i : ℕ) (t : Tree) → All (λ j. j < n) made → tree_at us i ≡ t → map (tree_at us) (made ++ i ∷ []) ≡ map (tree_at ts) made ++ t ∷ []
  push_grown = push_same n (tree_at ts) (tree_at us) same

  -- f and a with each of those from place k on
  pub pairs_grown : (f a : ℕ) (is : List ℕ) (k : ℕ) → f < n → a < n → All (λ i. i < n) is
      → map (applied_to_two (tree_at us f) (tree_at us a)) (map (tree_at us) (take (length is - k) (drop k is))) ≡ map (applied_to_two (tree_at ts f) (tree_at ts a)) (map (tree_at ts) (drop k is))
  pairs_grown f a is k g b h =
      (λ j. map (applied_to_two (tree_at us f) (tree_at us a)) (map (tree_at us) (take_all (length is - k) (drop k is) (omega (arith, length-drop k is)) j)))
      ∙ (λ j. map (applied_to_two (same f g j) (same a b j)) (map_grown (drop k is) (All-drop (λ i. i < n) k is h) j))

-- what was made, and what is left to make
module _ (made : List Tree) (t : Tree) (rest whole : List Tree) where
  pub one_more : made ++ t ∷ rest ≡ whole → (made ++ t ∷ []) ++ rest ≡ whole
  one_more e = append_assoc made (t ∷ []) rest ∙ e

  pub one_tall : made ++ t ∷ rest ≡ whole → is_tall t ≡ true → HasTall whole
  one_tall e h = ap (list_any is_tall) (sym e) ∙ any_at made rest t h

-- where nothing is left to make
pub all_made : (made rest whole : List Tree) → rest ≡ [] → made ++ rest ≡ whole → made ≡ whole
all_made made rest whole n e = sym (append-nil made) ∙ (λ k. made ++ sym n k) ∙ e

-- one tree made of each argument
module _ (g : Tree → Tree) (ts : List Tree) where
  pub map_turn : (args : List ℕ) (i b : ℕ) → i < length args → b ≡ get_or args i b → map g (map (tree_at ts) (drop i args)) ≡ g (tree_at ts b) ∷ map g (map (tree_at ts) (drop (i + 1) args))
  map_turn args i b l e = at_drop_more (λ is. map g (map (tree_at ts) is)) args i b l ∙ (λ k. g (tree_at ts (sym e k)) ∷ map g (map (tree_at ts) (drop (i + 1) args)))

  pub map_tall : (args : List ℕ) (i b : ℕ) → i < length args → b ≡ get_or args i b → is_tall (g (tree_at ts b)) ≡ true → HasTall (map g (map (tree_at ts) args))
  map_tall [] i b l e h = absurd (omega arith)
  map_tall (a ∷ args) zero b l e h = any_at [] (map g (map (tree_at ts) args)) (g (tree_at ts a)) (ap (λ j. is_tall (g (tree_at ts j))) (sym e) ∙ h)
  map_tall (a ∷ args) (suc i) b l e h = any_second (g (tree_at ts a) ∷ []) (map g (map (tree_at ts) args)) (map_tall args i b (omega arith) e h)

module _ (f : Tree) where
  links_turn : (us : List Tree) (i : ℕ) → suc i < length us → links f (drop i us) ≡ applied_to_two f (get_or us i (Con 0)) (get_or us (suc i) (Con 0)) ∷ links f (drop (suc i) us)
  links_turn [] i l = absurd (omega arith)
  links_turn (a ∷ []) i l = absurd (omega arith)
  links_turn (a ∷ b ∷ us) zero l = refl
  links_turn (a ∷ b ∷ us) (suc i) l = links_turn (b ∷ us) i (omega arith)

  links_end : (us : List Tree) (i : ℕ) → length us ≤ suc i → links f (drop i us) ≡ []
  links_end [] zero l = refl
  links_end [] (suc i) l = refl
  links_end (a ∷ []) zero l = refl
  links_end (a ∷ []) (suc zero) l = refl
  links_end (a ∷ []) (suc (suc i)) l = refl
  links_end (a ∷ b ∷ us) zero l = absurd (omega arith)
  links_end (a ∷ b ∷ us) (suc i) l = links_end (b ∷ us) i (omega arith)

  module _ (ts : List Tree) (args : List ℕ) where
    abbrev us : List Tree
    us = map (tree_at ts) args

    -- the link at the places before j and at j
    pub link_at : (j a b : ℕ) → 1 ≤ j → j < length args → a ≡ get_or args (j - 1) a → b ≡ get_or args j b → links f (drop (j - 1) us) ≡ applied_to_two f (tree_at ts a) (tree_at ts b) ∷ links f (drop j us)
    link_at j a b one l p q =
        let before : suc (j - 1) ≡ j = omega arith in
        links_turn us (j - 1) (omega (arith, length-map args (tree_at ts)))
        ∙ (λ k. applied_to_two f (get_or-at (tree_at ts) args (j - 1) a (Con 0) (omega arith) p k) (get_or us (before k) (Con 0)) ∷ links f (drop (before k) us))
        ∙ (λ k. applied_to_two f (tree_at ts a) (get_or-at (tree_at ts) args j b (Con 0) l q k) ∷ links f (drop j us))

    pub no_link : (j : ℕ) → length args ≤ j → links f (drop (j - 1) us) ≡ []
    no_link j l = links_end us (j - 1) (omega (arith, length-map args (tree_at ts)))

  pairs_turn : (vs : List Tree) (i : ℕ) → i < length vs → all_pairs f (drop i vs) ≡ map (applied_to_two f (get_or vs i (Con 0))) (drop (suc i) vs) ++ all_pairs f (drop (suc i) vs)
  pairs_turn [] i l = absurd (omega arith)
  pairs_turn (a ∷ vs) zero l = refl
  pairs_turn (a ∷ vs) (suc i) l = pairs_turn vs i (omega arith)

  module _ (ts : List Tree) (args : List ℕ) where
    abbrev vs : List Tree
    vs = map (tree_at ts) args

    -- the pairs with the argument at place i, before those of the arguments after it
    pub pairs_at : (i a : ℕ) → i < length args → a ≡ get_or args i a → all_pairs f (drop i vs) ≡ map (applied_to_two f (tree_at ts a)) (map (tree_at ts) (drop (i + 1) args)) ++ all_pairs f (drop (i + 1) vs)
    pairs_at i a l e =
        let more : suc i ≡ i + 1 = omega arith in
        pairs_turn vs i (omega (arith, length-map args (tree_at ts)))
        ∙ (λ k. map (applied_to_two f (get_or-at (tree_at ts) args i a (Con 0) l e k)) (drop (more k) vs) ++ all_pairs f (drop (more k) vs))
        ∙ (λ k. map (applied_to_two f (tree_at ts a)) (drop-map (tree_at ts) (i + 1) args k) ++ all_pairs f (drop (i + 1) vs))

    pub pairs_tall : (i a : ℕ) (made : List Tree) → i < length args → a ≡ get_or args i a → made ++ all_pairs f (drop i vs) ≡ all_pairs f vs → HasTall (map (applied_to_two f (tree_at ts a)) (map (tree_at ts) (drop (i + 1) args))) → HasTall (all_pairs f vs)
    pairs_tall i a made l e h t =
        ap (list_any is_tall) (sym h ∙ (λ k. made ++ pairs_at i a l e k)) ∙ any_second made _ (any_first (map (applied_to_two f (tree_at ts a)) (map (tree_at ts) (drop (i + 1) args))) (all_pairs f (drop (i + 1) vs)) t)
