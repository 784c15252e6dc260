-- Folds over lists of trees, from a place on.
use Rattle.std.proofs.Common.{◌≡◌, ℕ, zero, suc, ◌+◌, ◌<◌, ◌≤◌, true, Bool, List, [], ◌∷◌, map, drop, fold, length, get_or, false, refl, sym, ap, ◌∙◌, arith}
use Rattle.std.proofs.lemmas.List.{at_drop_more}
use Rattle.eo_term.specs.Tree.{Tree, Con, App, Arr, is_tall}
use Rattle.eo_term.specs.Terms.{tree_at}
use Rattle.std.proofs.lemmas.List.Elements.{All-head, All-tail, All-weaker}
use Rattle.std.proofs.lemmas.List.{length-map}
use Rattle.eo_term.proofs.Heights.{higher}
use Rattle.eo_names.specs.declared.locals.LocalName.{LocalName}
use Rattle.eo_names.specs.Names.{read_locals, AreBelow}
use Rattle.eo_names.specs.Folding.{applied_to_two, list_onto, last_onto, right_nil}
use Rattle.eo_base.proofs.Elements.{get_or-at}

pub tall_first : (a b : Tree) → is_tall a ≡ true → is_tall (App a b) ≡ true
tall_first a b e = higher a (App a b) (omega arith) e

pub tall_second : (a b : Tree) → is_tall b ≡ true → is_tall (App a b) ≡ true
tall_second a b e = higher b (App a b) (omega arith) e

pub tall_left : (f a b : Tree) → is_tall a ≡ true → is_tall (applied_to_two f a b) ≡ true
tall_left f a b e = higher a (applied_to_two f a b) (omega arith) e

pub tall_right : (f a b : Tree) → is_tall b ≡ true → is_tall (applied_to_two f a b) ≡ true
tall_right f a b e = higher b (applied_to_two f a b) (omega arith) e

pub tall_values : (a b : Tree) → is_tall b ≡ true → is_tall (Arr a b) ≡ true
tall_values a b e = higher b (Arr a b) (omega arith) e

-- from the left
module _ (g : Tree → Tree → Tree) (ts : List Tree) (args : List ℕ) where
  -- what is left to fold at a place
  abbrev pub Left : ℕ → Tree → Tree → Type 0
  Left i now whole = fold g now (map (tree_at ts) (drop i args)) ≡ whole

  pub left_turn : (i a : ℕ) (now next whole : Tree) → i < length args → a ≡ get_or args i a → Left i now whole → next ≡ g now (tree_at ts a) → Left (i + 1) next whole
  left_turn i a now next whole l e h n =
      (λ k. fold g (n k) (map (tree_at ts) (drop (i + 1) args)))
      ∙ (λ k. fold g (g now (tree_at ts (e k))) (map (tree_at ts) (drop (i + 1) args)))
      ∙ sym (at_drop_more (λ is. fold g now (map (tree_at ts) is)) args i a l) ∙ h

  module _ (raises : (a b : Tree) → is_tall a ≡ true → is_tall (g a b) ≡ true) where
    pub tall_fold : (us : List Tree) (now : Tree) → is_tall now ≡ true → is_tall (fold g now us) ≡ true
    tall_fold [] now e = e
    tall_fold (u ∷ us) now e = tall_fold us (g now u) (raises now u e)

    pub left_tall : (i a : ℕ) (now next whole : Tree) → i < length args → a ≡ get_or args i a → Left i now whole → next ≡ g now (tree_at ts a) → is_tall next ≡ true → is_tall whole ≡ true
    left_tall i a now next whole l e h n t =
        ap is_tall (sym (left_turn i a now next whole l e h n)) ∙ tall_fold (map (tree_at ts) (drop (i + 1) args)) next t

-- from the right: a grouping by what is put before a list that is not empty
module _ (grouped : List Tree → Tree) (onto : Tree → Tree → Tree)
    (law : (a b : Tree) (us : List Tree) → grouped (a ∷ b ∷ us) ≡ onto a (grouped (b ∷ us)))
    (raises : (a b : Tree) → is_tall b ≡ true → is_tall (onto a b) ≡ true) where
  right_turn : (us : List Tree) (i : ℕ) → suc i < length us → grouped (drop i us) ≡ onto (get_or us i (Con 0)) (grouped (drop (suc i) us))
  right_turn [] i l = absurd (omega arith)
  right_turn (a ∷ []) i l = absurd (omega arith)
  right_turn (a ∷ b ∷ us) zero l = law a b us
  right_turn (a ∷ b ∷ us) (suc i) l = right_turn (b ∷ us) i (omega arith)

  right_tall : (us : List Tree) (i : ℕ) → i < length us → is_tall (grouped (drop i us)) ≡ true → is_tall (grouped us) ≡ true
  right_tall [] i l e = absurd (omega arith)
  right_tall (a ∷ us) zero l e = e
  right_tall (a ∷ []) (suc i) l e = absurd (omega arith)
  right_tall (a ∷ b ∷ us) (suc i) l e = ap is_tall (law a b us) ∙ raises a (grouped (b ∷ us)) (right_tall (b ∷ us) i (omega arith) e)

  module _ (ts : List Tree) (args : List ℕ) where
    -- one argument more before those from place j on
    pub right_step : (i j a : ℕ) (now : Tree) → suc i ≡ j → j < length args → a ≡ get_or args i a → now ≡ grouped (drop j (map (tree_at ts) args)) → onto (tree_at ts a) now ≡ grouped (drop i (map (tree_at ts) args))
    right_step i j a now n l e h =
        let long : suc i < length (map (tree_at ts) args) = omega (arith, length-map args (tree_at ts)) in
        let own : get_or (map (tree_at ts) args) i (Con 0) ≡ tree_at ts a = get_or-at (tree_at ts) args i a (Con 0) (omega arith) e in
        let own' = sym own in let n' = sym n in (λ k. onto (tree_at ts a) (h k)) ∙ (λ k. onto (own' k) (grouped (drop (n' k) (map (tree_at ts) args)))) ∙ sym (right_turn (map (tree_at ts) args) i long)

    pub right_step_tall : (i j a : ℕ) (now : Tree) → suc i ≡ j → j < length args → a ≡ get_or args i a → now ≡ grouped (drop j (map (tree_at ts) args)) → is_tall (onto (tree_at ts a) now) ≡ true → is_tall (grouped (map (tree_at ts) args)) ≡ true
    right_step_tall i j a now n l e h t =
        right_tall (map (tree_at ts) args) i (omega (arith, length-map args (tree_at ts))) (ap is_tall (sym (right_step i j a now n l e h)) ∙ t)

-- what joins an argument to the rest of a list holds the rest
pub tall_onto : (b : Bool) (f a rest : Tree) → is_tall rest ≡ true → is_tall (list_onto b f a rest) ≡ true
tall_onto true f a rest e = higher rest (list_onto true f a rest) (omega arith) e
tall_onto false f a rest e = tall_right f a rest e

-- local names mean the same over a table that has grown
pub locals_grown : (ls : List LocalName) (ts us : List Tree) (n : ℕ) → AreBelow n ls → ((i : ℕ) → i < n → tree_at us i ≡ tree_at ts i) → read_locals us ls ≡ read_locals ts ls
locals_grown [] ts us n b same = refl
locals_grown (l ∷ ls) ts us n b same =
    let own = same l.id (All-head (λ (x : LocalName). x.id < n) l ls b) in
    let rest = locals_grown ls ts us n (All-tail (λ (x : LocalName). x.id < n) l ls b) same in
    λ k. record { name = l.name; tree = own k; list = l.list } ∷ rest k

pub names_more : (ls : List LocalName) (n m : ℕ) → n ≤ m → AreBelow n ls → AreBelow m ls
names_more ls n m l h = All-weaker (λ (x : LocalName). x.id < n) (λ (x : LocalName). x.id < m) (λ x q. omega arith) ls h

-- the last argument alone
last_drop : (ts : List Tree) (args : List ℕ) (i a : ℕ) → suc i ≡ length args → a ≡ get_or args i a → drop i (map (tree_at ts) args) ≡ tree_at ts a ∷ []
last_drop ts [] i a l e = absurd (omega arith)
last_drop ts (b ∷ []) zero a l e = ap (λ j. tree_at ts j ∷ []) (sym e)
last_drop ts (b ∷ d ∷ args) zero a l e = absurd (omega arith)
last_drop ts (b ∷ args) (suc i) a l e = last_drop ts args i a (omega arith) e

pub list_last_tall : (il : Tree → Bool) (f nil : Tree) (ts : List Tree) (args : List ℕ) (i a : ℕ) → suc i ≡ length args → a ≡ get_or args i a → is_tall (last_onto (il (tree_at ts a)) f (tree_at ts a) nil) ≡ true → is_tall (right_nil il f nil (map (tree_at ts) args)) ≡ true
list_last_tall il f nil ts args i a l e h =
    right_tall (right_nil il f nil) (λ x r. list_onto (il x) f x r) (λ x y us. refl) (λ x r. tall_onto (il x) f x r) (map (tree_at ts) args) i (omega (arith, length-map args (tree_at ts)))
    (ap (λ us. is_tall (right_nil il f nil us)) (last_drop ts args i a l e) ∙ h)
