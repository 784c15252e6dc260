-- The parts of an application by its key.
use Rattle.std.proofs.Common.{◌≡◌, ℕ, ◌<◌, List, length, Option, None, IfSome, IfNone, refl, sym, ap, ◌∙◌, subst}
use Rattle.eo_term.specs.declared.node.Literal.{Literal}
use Rattle.eo_term.specs.declared.node.Literal.TheVariants as literal
use Rattle.eo_term.specs.declared.node.Key.{Key}
use Rattle.eo_term.specs.declared.node.Key.TheVariants as key
use Rattle.eo_term.specs.declared.node.Info.{Info}
use Rattle.eo_term.specs.declared.nodes.Nodes.{Nodes}
use Rattle.eo_term.specs.Tree.{Tree, App, NoTree}
use Rattle.eo_term.specs.Arguments.{application_of}
use Rattle.eo_term.specs.Terms.{Terms, tree_at, tree_of}
use Rattle.eo_term.specs.Keys.{Root, root_of, literal_node, literal_at, literals_of, lists_of, entries_of, parts_of, HasPartsAt}
use Rattle.eo_term.specs.Held.{tree_of_root, IsOver, IsEntry, IsSound}
use Rattle.eo_term.proofs.Numbers.{slice_get_at_map}
use Rattle.eo_term.proofs.Sound.{shown}

-- what the parts of a term's root say of it
pub record TellParts (t : Terms) (i : ℕ) (o : Option (ℕ × ℕ)) : Type 0 where
  pub tree : IfSome o (λ p. App (tree_at t.trees p.0) (tree_at t.trees p.1) ≡ tree_at t.trees i)
  pub older : IfSome o (λ p. (p.0 < i) × (p.1 < i))
  pub other : IfNone o (application_of (tree_at t.trees i) ≡ None)

module _ (ts : List Tree) (xs : List (List ℕ)) (ls : List Literal) (as' : List (List ℕ)) (i m : ℕ) (t : Tree) where
  parts_tree : (k : Key) → t ≡ tree_of_root ts xs (root_of ls as' k) → IfSome (parts_of k) (λ p. App (tree_at ts p.0) (tree_at ts p.1) ≡ t)
  parts_tree (key.App f x) e = sym e
  parts_tree k e = tt

  parts_older : (k : Key) → IsOver i m (root_of ls as' k) → IfSome (parts_of k) (λ p. (p.0 < i) × (p.1 < i))
  parts_older (key.App f x) o = o.parts
  parts_older k o = tt

  no_literal : (l : Literal) → application_of (tree_of ts xs (literal_node l) NoTree) ≡ None
  no_literal (literal.Num z) = refl
  no_literal (literal.Bits w v) = refl

  parts_other : (k : Key) → t ≡ tree_of_root ts xs (root_of ls as' k) → IfNone (parts_of k) (application_of t ≡ None)
  parts_other (key.App f x) e = tt
  parts_other (key.Literal l) e = ap application_of e ∙ no_literal (literal_at ls l)
  parts_other k e = ap application_of e

pub parts_told : (n : Nodes) (xs : List (List ℕ)) (i : ℕ) (o : Option (ℕ × ℕ)) → IsSound (entries_of n) xs → HasPartsAt n i o → TellParts (shown (entries_of n) xs) i o
parts_told n xs i o h g =
    let ls = literals_of n in
    let as' = lists_of n in
    let ts = (shown (entries_of n) xs).trees in
    let r : Root = root_of ls as' g.0.0 in
    let e : IsEntry ts xs i r g.0.1 = h.entries i (r, g.0.1) (slice_get_at_map (λ (e : Key × Info). (root_of ls as' e.0, e.1)) n.keys.entries i g.0 g.1) in
    subst (TellParts (shown (entries_of n) xs) i) (sym g.2) (record {
      tree = parts_tree ts xs ls as' i (length xs) (tree_at ts i) g.0.0 e.tree;
      older = parts_older ts xs ls as' i (length xs) (tree_at ts i) g.0.0 e.over;
      other = parts_other ts xs ls as' i (length xs) (tree_at ts i) g.0.0 e.tree;
    })
