-- A table stays sound where a root is found or is added.
use Rattle.std.proofs.Common.{ℕ, ◌<◌, ◌≤◌, inl, inr, List, [], ◌∷◌, ◌++◌, length, refl, sym, ap, ◌∙◌, subst, arith}
use Rattle.std.proofs.lemmas.Option.{slice_get_within}
use Rattle.eo_term.specs.declared.node.Info.{Info}
use Rattle.eo_term.specs.declared.table.TheConstants.{HEIGHT_LIMIT}
use Rattle.eo_term.specs.Terms.{Interned}
use Rattle.eo_term.specs.Tree.{is_tall}
use Rattle.eo_term.specs.declared.node.Node.TheVariants as node
use Rattle.eo_term.specs.Keys.{Root, HasRootAt, IsNew, IsPut}
use Rattle.eo_term.specs.Held.{tree_of_root, trees_of, Tells, IsOver, IsSound, IsThere, Lacks}
use Rattle.eo_term.proofs.Apart.{one_root}
use Rattle.eo_term.proofs.Parts.{low_trees}
use Rattle.eo_term.proofs.Sound.{slice_get_some, IsOver-weaker, IsSound-push, Interned-found, Interned-push, shown}

module _ (es fs : List (Root × Info)) (xs : List (List ℕ)) (h : IsSound es xs) (r : Root) (s : Info) (at : ℕ)
    (over : IsOver (length (trees_of xs es)) (length xs) r) (tells : Tells (tree_of_root (trees_of xs es) xs r) s) (low : s.height ≤ HEIGHT_LIMIT) where
  pub IsSound-put : IsPut es r.node r.args s at fs → IsSound fs xs
  IsSound-put (inl g) = subst (λ gs. IsSound gs xs) (sym g.1) h
  IsSound-put (inr g) = subst (λ gs. IsSound gs xs) (sym g.entries) (IsSound-push es xs r s h over tells low g.new)

  pub Interned-put : IsPut es r.node r.args s at fs → Interned (shown es xs) (tree_of_root (trees_of xs es) xs r) at (shown fs xs)
  Interned-put (inl g) =
      subst (λ gs. Interned (shown es xs) (tree_of_root (trees_of xs es) xs r) at (shown gs xs)) (sym g.1) (Interned-found es xs h r g.0.0 at g.0.1)
  Interned-put (inr g) =
      subst (λ gs. Interned (shown es xs) (tree_of_root (trees_of xs es) xs r) at (shown gs xs)) (sym g.entries)
      (subst (λ i. Interned (shown es xs) (tree_of_root (trees_of xs es) xs r) i (shown (es ++ (r, s) ∷ []) xs)) (sym g.last) (Interned-push es xs h r s over tells low g.new))

-- the root of an application
abbrev pub applied_root : ℕ → ℕ → Root
applied_root f x = record { node = node.App f x; args = [] }

pub applied_over : (n m f x : ℕ) → f < n → x < n → IsOver n m (applied_root f x)
applied_over n m f x p q = record { parts = (p, q); texts = tt; args = λ i d l. absurd (omega arith); count = refl; proper = tt; range = tt }

-- a root is there exactly where its tree is
module _ (es : List (Root × Info)) (xs : List (List ℕ)) (h : IsSound es xs) (r : Root) where
  pub is_there : (i : ℕ) → HasRootAt es i r.node r.args → IsThere (shown es xs) (tree_of_root (trees_of xs es) xs r) i
  is_there i g =
      let f = Interned-found es xs h r g.0 i g.1 in
      record { interned = f; low = sym (ap is_tall f.tree) ∙ low_trees es xs h i f.live }

  pub lacks : IsOver (length (trees_of xs es)) (length xs) r → IsNew es r.node r.args → Lacks (shown es xs) (tree_of_root (trees_of xs es) xs r)
  lacks over new i l q =
      let at = slice_get_some es i (omega (arith, h.count)) in
      let e = h.entries i at.0 at.1 in
      new i at.0 at.1 (one_root (trees_of xs es) xs h.apart h.texts_apart at.0.0 r (IsOver-weaker i (length xs) (length (trees_of xs es)) (length xs) (omega arith) (omega arith) at.0.0 e.over) over (sym e.tree ∙ q))

  pub is_new : Lacks (shown es xs) (tree_of_root (trees_of xs es) xs r) → IsNew es r.node r.args
  is_new a i e p q = a i (omega (arith, slice_get_within es i e p, h.count)) ((h.entries i e p).tree ∙ ap (tree_of_root (trees_of xs es) xs) q)
