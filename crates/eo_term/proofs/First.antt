-- The entries that a table begins with.
use Rattle.std.proofs.Common.{◌≡◌, ℕ, zero, suc, ◌<◌, true, false, List, [], ◌∷◌, ◌++◌, length, get_or, slice_get, Some, All, refl, sym, ap, ◌∙◌, subst, arith}
use Rattle.std.proofs.lemmas.List.Elements.{All-nil}
use Rattle.std.proofs.lemmas.Option.{none-some, same_Some}
use Rattle.eo_term.specs.declared.node.Node.TheVariants as node
use Rattle.eo_term.specs.Keys.{Root}
use Rattle.eo_term.specs.declared.node.Info.{Info}
use Rattle.eo_term.specs.ParamSet.{has}
use Rattle.eo_term.specs.Tree.{Tree, Con}
use Rattle.eo_base.specs.Characters.{AreCharacters}
use Rattle.eo_term.specs.Ranges.{HasRange}
use Rattle.eo_term.specs.Terms.{tree_at, tree_of, trees_at, PartsBelow, TextsBelow, HasArguments, IsProper, AreApart, first_trees}
use Rattle.eo_term.specs.Held.{tree_of_root, trees_after, trees_of, Tells, IsEntry, Holds, IsSound}

-- the root of a constant
pub record IsConstant (n : ℕ) (k : Root) : Type 0 where
  pub node : k.node ≡ node.Con n
  pub args : k.args ≡ []

-- what is known of a leaf without parameters
pub record IsLeaf (s : Info) : Type 0 where
  pub height : s.height ≡ 1
  pub arity : s.arity ≡ 0
  pub value : s.value ≡ true
  pub closed : s.closed ≡ true
  pub plain : s.plain ≡ true
  pub typable : s.typable ≡ true
  pub parameters : (i : ℕ) → has s.parameters i ≡ false
  pub open_parameters : (i : ℕ) → has s.open_parameters i ≡ false

tree_of_constant : (ts : List Tree) (xs : List (List ℕ)) (n : ℕ) (k : Root) → IsConstant n k → tree_of_root ts xs k ≡ Con n
tree_of_constant ts xs n k p = λ i. tree_of ts xs (p.node i) (trees_at ts k.args)

entry_of_constant : (xs : List (List ℕ)) (i n : ℕ) (k : Root) (leaf : Info) → IsLeaf leaf → IsConstant n k → tree_at first_trees i ≡ Con n → IsEntry first_trees xs i k leaf
entry_of_constant xs i n k leaf l p e = record {
  over = record {
    parts = subst (PartsBelow i) (sym p.node) tt;
    texts = subst (TextsBelow (length xs)) (sym p.node) tt;
    args = subst (All (λ j. j < i)) (sym p.args) (All-nil (λ j. j < i));
    count = subst (λ d. HasArguments d k.args) (sym p.node) p.args;
    proper = subst IsProper (sym p.node) tt;
    range = subst HasRange (sym p.node) tt;
  };
  tree = e ∙ sym (tree_of_constant first_trees xs n k p);
  tells = subst (λ t. Tells t leaf) (sym e)
      (record { height = l.height; arity = l.arity; value = l.value; closed = l.closed; plain = l.plain; typable = l.typable; parameters = l.parameters; open_parameters = l.open_parameters });
  low = omega (arith, l.height);
}

first_at : (i : ℕ) (d : Tree) → i < 4 → get_or first_trees i d ≡ Con i
first_at zero d h = refl
first_at (suc zero) d h = refl
first_at (suc (suc zero)) d h = refl
first_at (suc (suc (suc zero))) d h = refl
first_at (suc (suc (suc (suc i)))) d h = absurd (omega arith)

first_apart : AreApart first_trees
first_apart i j d h l e =
    let same : Con i ≡ Con j = sym (first_at i d (omega arith)) ∙ e ∙ first_at j d l in
    let one : i ≡ j = cc in
    omega arith

module _ (k_info l_info m_info n_info : Info) (k_leaf : IsLeaf k_info) (l_leaf : IsLeaf l_info) (m_leaf : IsLeaf m_info) (n_leaf : IsLeaf n_info) (k l m n : Root) (xs : List (List ℕ)) (p : IsConstant 0 k) (q : IsConstant 1 l) (r : IsConstant 2 m) (s : IsConstant 3 n) where
  abbrev four : List (Root × Info)
  four = (k, k_info) ∷ (l, l_info) ∷ (m, m_info) ∷ (n, n_info) ∷ []

  pub first_entries : (a b c d : List (Root × Info)) → a ≡ (k, k_info) ∷ [] → b ≡ a ++ (l, l_info) ∷ [] → c ≡ b ++ (m, m_info) ∷ [] → d ≡ c ++ (n, n_info) ∷ [] → d ≡ four
  first_entries a b c d e f g h =
      let b' : b ≡ (k, k_info) ∷ (l, l_info) ∷ [] = f ∙ ap (λ z. z ++ (l, l_info) ∷ []) e in
      let c' : c ≡ (k, k_info) ∷ (l, l_info) ∷ (m, m_info) ∷ [] = g ∙ ap (λ z. z ++ (m, m_info) ∷ []) b' in
      h ∙ ap (λ z. z ++ (n, n_info) ∷ []) c'

  pub first_trees_of : trees_of xs four ≡ first_trees
  unfolding trees_after
  first_trees_of =
      let a : List Tree = tree_of_root [] xs k ∷ [] in
      let b : List Tree = a ++ tree_of_root a xs l ∷ [] in
      let c : List Tree = b ++ tree_of_root b xs m ∷ [] in
      λ i. tree_of_constant [] xs 0 k p i ∷ tree_of_constant a xs 1 l q i ∷ tree_of_constant b xs 2 m r i ∷ tree_of_constant c xs 3 n s i ∷ []

  each : (i : ℕ) (e : Root × Info) → slice_get four i ≡ Some e → IsEntry first_trees xs i e.0 e.1
  each zero e h = subst (λ f. IsEntry first_trees xs 0 f.0 f.1) (same_Some (k, k_info) e h) (entry_of_constant xs 0 0 k k_info k_leaf p refl)
  each (suc zero) e h = subst (λ f. IsEntry first_trees xs 1 f.0 f.1) (same_Some (l, l_info) e h) (entry_of_constant xs 1 1 l l_info l_leaf q refl)
  each (suc (suc zero)) e h = subst (λ f. IsEntry first_trees xs 2 f.0 f.1) (same_Some (m, m_info) e h) (entry_of_constant xs 2 2 m m_info m_leaf r refl)
  each (suc (suc (suc zero))) e h = subst (λ f. IsEntry first_trees xs 3 f.0 f.1) (same_Some (n, n_info) e h) (entry_of_constant xs 3 3 n n_info n_leaf s refl)
  each (suc (suc (suc (suc i)))) e h = absurd (none-some e h)

  pub first_sound : AreApart xs → All AreCharacters xs → IsSound four xs
  first_sound a good = subst (λ ts. Holds ts four xs) (sym first_trees_of) (record { count = refl; entries = each; apart = first_apart; texts_apart = a; characters = good; first = refl })

pub empty_apart : {X : Type 0} (xs : List X) → xs ≡ [] → AreApart xs
empty_apart xs e = subst (λ ys. AreApart ys) (sym e) (λ i j d h l. absurd (omega arith))

pub empty_characters : (xs : List (List ℕ)) → xs ≡ [] → All AreCharacters xs
empty_characters xs e = subst (All AreCharacters) (sym e) (All-nil AreCharacters)
