-- In a sound table no tree is too tall, the parts of each come before it, and numbers, bit strings and characters are within range.
use Rattle.std.proofs.Common.{ℕ, zero, suc, ◌<◌, ◌≤◌, List, [], ◌∷◌, length, take, All, Contains, sym, ◌∙◌, subst, arith}
use Rattle.std.proofs.lemmas.Bool.{le-ltb}
use Rattle.std.proofs.lemmas.List.{get_or-take, length-take-le, get_or_default}
use Rattle.std.proofs.lemmas.List.Elements.{All-head, All-tail}
use Rattle.eo_base.specs.Limits.{height_limit}
use Rattle.eo_term.specs.declared.node.Node.{Node}
use Rattle.eo_term.specs.declared.node.Node.TheVariants as node
use Rattle.eo_term.specs.Keys.{Root}
use Rattle.eo_term.specs.declared.node.Info.{Info}
use Rattle.eo_term.specs.Tree.{Tree, Con, height}
use Rattle.eo_term.specs.Ranges.{IsInRange, AllInRange, AreInRange, HasRange}
use Rattle.eo_term.specs.Terms.{tree_at, tree_of, trees_at, PartsBelow, TextsBelow, IsProper, AreAmong, HasPartsAmong, AreLow, HaveOlderParts}
use Rattle.eo_term.specs.Held.{trees_of, IsEntry, IsSound}
use Rattle.eo_term.proofs.Sound.{slice_get_some}

module _ (ts : List Tree) (i : ℕ) (l : i ≤ length ts) where
  older : (j : ℕ) → j < i → Contains (take i ts) (tree_at ts j)
  older j h =
      (j, omega (arith, length-take-le i ts l), get_or-take i ts j (tree_at ts j) h ∙ get_or_default ts j (tree_at ts j) (Con 0) (omega arith))

  older_list : (is : List ℕ) → All (λ j. j < i) is → AreAmong (take i ts) (trees_at ts is)
  older_list [] h = tt
  older_list (j ∷ js) h = (older j (All-head (λ k. k < i) j js h), older_list js (All-tail (λ k. k < i) j js h))

  older_parts : (xs : List (List ℕ)) (d : Node) (is : List ℕ) → PartsBelow i d → All (λ j. j < i) is → HasPartsAmong (take i ts) (tree_of ts xs d (trees_at ts is))
  older_parts xs (node.Con k) is p h = tt
  older_parts xs (node.Num z) is p h = tt
  older_parts xs (node.Bits w v) is p h = tt
  older_parts xs (node.Str s) is p h = tt
  older_parts xs (node.Par k) is p h = tt
  older_parts xs (node.Var s t) is p h = older t p
  older_parts xs (node.App f x) is p h = (older f p.0, older x p.1)
  older_parts xs (node.Arr a b) is p h = (older a p.0, older b p.1)
  older_parts xs (node.Qar k t b) is p h = (older t p.0, older b p.1)
  older_parts xs (node.Op c n) is p h = older_list is h

module _ (es : List (Root × Info)) (xs : List (List ℕ)) (h : IsSound es xs) where
  entry_at : (i : ℕ) → i < length (trees_of xs es) → (e : Root × Info) × IsEntry (trees_of xs es) xs i e.0 e.1
  entry_at i l = let at = slice_get_some es i (omega (arith, h.count)) in (at.0, h.entries i at.0 at.1)

  pub low_trees : AreLow (trees_of xs es)
  low_trees i l =
      let e = (entry_at i l).1 in
      le-ltb height_limit (height (tree_at (trees_of xs es) i)) (omega (arith, e.low, e.tells.height))

  pub older_trees : HaveOlderParts (trees_of xs es)
  older_trees i l =
      let e = entry_at i l in
      subst (HasPartsAmong (take i (trees_of xs es))) (sym e.1.tree) (older_parts (trees_of xs es) i (omega arith) xs e.0.0.node e.0.0.args e.1.over.parts e.1.over.args)

  range_list : (i : ℕ) → ((j : ℕ) → j < i → IsInRange (tree_at (trees_of xs es) j)) → (is : List ℕ) → All (λ j. j < i) is → AllInRange (trees_at (trees_of xs es) is)
  range_list i lower [] below = tt
  range_list i lower (j ∷ js) below = (lower j (All-head (λ k. k < i) j js below), range_list i lower js (All-tail (λ k. k < i) j js below))

  range_root : (i : ℕ) → ((j : ℕ) → j < i → IsInRange (tree_at (trees_of xs es) j)) → (d : Node) (is : List ℕ) → PartsBelow i d → TextsBelow (length xs) d → IsProper d → HasRange d → All (λ j. j < i) is →
      IsInRange (tree_of (trees_of xs es) xs d (trees_at (trees_of xs es) is))
  range_root i lower (node.Con k) is p x q r below = tt
  range_root i lower (node.Num z) is p x q r below = r
  range_root i lower (node.Bits w v) is p x q r below = q
  range_root i lower (node.Str s) is p x q r below = h.characters s [] x
  range_root i lower (node.Par k) is p x q r below = tt
  range_root i lower (node.Var s t) is p x q r below = (h.characters s [] x, lower t p)
  range_root i lower (node.App f y) is p x q r below = (lower f p.0, lower y p.1)
  range_root i lower (node.Arr a b) is p x q r below = (lower a p.0, lower b p.1)
  range_root i lower (node.Qar k t b) is p x q r below = (lower t p.0, lower b p.1)
  range_root i lower (node.Op c n) is p x q r below = range_list i lower is below

  range_below : (n i : ℕ) → i < n → i < length (trees_of xs es) → IsInRange (tree_at (trees_of xs es) i)
  range_below zero i few l = absurd (omega arith)
  range_below (suc n) i few l =
      let e = entry_at i l in
      let o = e.1.over in
      subst IsInRange (sym e.1.tree) (range_root i (λ j lt. range_below n j (omega arith) (omega arith)) e.0.0.node e.0.0.args o.parts o.texts o.proper o.range o.args)

  pub range_trees : AreInRange (trees_of xs es)
  range_trees i l = range_below (suc i) i (omega arith) l
