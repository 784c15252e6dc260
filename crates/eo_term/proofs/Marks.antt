-- Marks, and what a table holds after it is cut at one.
use Rattle.std.proofs.Common.{◌≡◌, ℕ, ◌<◌, ◌≤◌, List, [], ◌∷◌, ◌++◌, length, get_or, take, drop, slice_get, Some, All, Contains, sym, ap, ◌∙◌, subst, arith, append_assoc, append-nil}
use Rattle.std.proofs.Math.Seq.{take-append_seam, take-length}
use Rattle.std.proofs.lemmas.List.{get_or-take, length-take-le, take-append-drop, get_or_default}
use Rattle.std.proofs.lemmas.List.Elements.{All-take}
use Rattle.eo_term.specs.declared.node.Node.{Node}
use Rattle.eo_term.specs.declared.node.Node.TheVariants as node
use Rattle.eo_term.specs.Keys.{Root}
use Rattle.eo_term.specs.declared.node.Info.{Info}
use Rattle.eo_term.specs.Tree.{Tree, Trees, Con}
use Rattle.eo_base.specs.Characters.{AreCharacters}
use Rattle.eo_term.specs.Terms.{tree_at, text_at, tree_of, trees_at, TextsBelow, AreApart, HasTextsOf, IsMark, first_trees}
use Rattle.eo_term.specs.Held.{tree_of_root, trees_after, trees_of, IsOver, IsEntry, Holds, IsSound}
use Rattle.eo_term.proofs.Grown.{take_take, slice_get_take, trees_after-append, trees_after-texts, length-trees_of}
use Rattle.eo_term.proofs.Apart.{one_place}
use Rattle.eo_term.proofs.Sound.{entry_kept, shown, slice_get_some}

-- the texts of a key's tree
has_texts : (ts : List Tree) (xs : List (List ℕ)) (d : Node) (bs : Trees) → TextsBelow (length xs) d → HasTextsOf xs (tree_of ts xs d bs)
has_texts ts xs (node.Con k) bs q = tt
has_texts ts xs (node.Num z) bs q = tt
has_texts ts xs (node.Bits w v) bs q = tt
has_texts ts xs (node.Str s) bs q = (s, q, get_or_default xs s (text_at xs s) [] q)
has_texts ts xs (node.Par i) bs q = tt
has_texts ts xs (node.Var s t) bs q = (s, q, get_or_default xs s (text_at xs s) [] q)
has_texts ts xs (node.App f x) bs q = tt
has_texts ts xs (node.Arr a b) bs q = tt
has_texts ts xs (node.Qar i t b) bs q = tt
has_texts ts xs (node.Op c n) bs q = tt

four : (ts : List Tree) → take 4 ts ≡ first_trees → 4 ≤ length ts
four [] e = absurd cc
four (a ∷ []) e = absurd cc
four (a ∷ b ∷ []) e = absurd cc
four (a ∷ b ∷ c ∷ []) e = absurd cc
four (a ∷ b ∷ c ∷ d ∷ us) e = omega arith

-- a table's own mark
pub IsMark-now : (es : List (Root × Info)) (xs : List (List ℕ)) → IsSound es xs → IsMark (shown es xs) (length (trees_of xs es), length xs)
IsMark-now es xs h = record {
  first = four (trees_of xs es) h.first;
  terms = omega arith;
  texts = omega arith;
  among = subst (λ ys. All (HasTextsOf ys) (take (length (trees_of xs es)) (trees_of xs es))) (sym (take-length xs)) (subst (All (HasTextsOf xs)) (sym (take-length (trees_of xs es))) each);
}
  where
    each : All (HasTextsOf xs) (trees_of xs es)
    each i d l =
        let at = slice_get_some es i (omega (arith, h.count)) in
        let e = h.entries i at.0 at.1 in
        subst (HasTextsOf xs) (sym (get_or_default (trees_of xs es) i d (Con 0) l ∙ e.tree)) (has_texts (trees_of xs es) xs at.0.0.node (trees_at (trees_of xs es) at.0.0.args) e.over.texts)

below_from : (xs : List (List ℕ)) (m : ℕ) → AreApart xs → m ≤ length xs → (s : ℕ) → s < length xs → Contains (take m xs) (text_at xs s) → s < m
below_from xs m apart g s q h =
    let l : h.0 < m = omega (arith, h.1, length-take-le m xs g) in
    let same : get_or xs h.0 (text_at xs s) ≡ text_at xs s = sym (get_or-take m xs h.0 (text_at xs s) l) ∙ h.2 in
    let one : h.0 ≡ s = one_place xs [] apart h.0 s (omega arith) q (get_or_default xs h.0 [] (text_at xs s) (omega arith) ∙ same) in
    omega arith

-- the first texts are enough for a key whose tree has its texts among them
texts_below : (ts : List Tree) (xs : List (List ℕ)) (m : ℕ) → AreApart xs → m ≤ length xs → (d : Node) (bs : Trees) → TextsBelow (length xs) d → HasTextsOf (take m xs) (tree_of ts xs d bs) → TextsBelow m d
texts_below ts xs m apart g (node.Con k) bs q h = tt
texts_below ts xs m apart g (node.Num z) bs q h = tt
texts_below ts xs m apart g (node.Bits w v) bs q h = tt
texts_below ts xs m apart g (node.Str s) bs q h = below_from xs m apart g s q h
texts_below ts xs m apart g (node.Par i) bs q h = tt
texts_below ts xs m apart g (node.Var s t) bs q h = below_from xs m apart g s q h
texts_below ts xs m apart g (node.App f x) bs q h = tt
texts_below ts xs m apart g (node.Arr a b) bs q h = tt
texts_below ts xs m apart g (node.Qar i t b) bs q h = tt
texts_below ts xs m apart g (node.Op c n) bs q h = tt

-- the trees of the first entries are the first trees
trees_after-prefix : (xs : List (List ℕ)) (ts : List Tree) (es : List (Root × Info)) → (us : List Tree) × (trees_after xs ts es ≡ ts ++ us)
unfolding trees_after
trees_after-prefix xs ts [] = ([], sym (append-nil ts))
trees_after-prefix xs ts (e ∷ es) =
    let r = trees_after-prefix xs (ts ++ tree_of_root ts xs e.0 ∷ []) es in
    (tree_of_root ts xs e.0 ∷ r.0, r.1 ∙ append_assoc ts (tree_of_root ts xs e.0 ∷ []) r.0)

pub trees_of-take : (xs : List (List ℕ)) (es : List (Root × Info)) (n : ℕ) → n ≤ length es → trees_of xs (take n es) ≡ take n (trees_of xs es)
trees_of-take xs es n g =
    let us : List Tree = trees_of xs (take n es) in
    let r = trees_after-prefix xs us (drop n es) in
    let all : trees_of xs es ≡ us ++ r.0 = ap (trees_of xs) (sym (take-append-drop n es)) ∙ trees_after-append xs [] (take n es) (drop n es) ∙ r.1 in
    let count : length us ≡ n = length-trees_of xs (take n es) ∙ length-take-le n es g in
    sym (ap (take n) all ∙ ap (λ k. take k (us ++ r.0)) (sym count) ∙ take-append_seam us r.0)

module _ (es : List (Root × Info)) (xs : List (List ℕ)) (m : ℕ × ℕ) (h : IsSound es xs) (k : IsMark (shown es xs) m) where
  abbrev ts : List Tree
  ts = trees_of xs es

  pub below : (i : ℕ) (e : Root × Info) → slice_get es i ≡ Some e → i < m.0 → TextsBelow m.1 e.0.node
  below i e p l =
      let at = h.entries i e p in
      let within : i < length (take m.0 ts) = omega (arith, length-take-le m.0 ts k.terms) in
      let root : HasTextsOf (take m.1 xs) (tree_at ts i) = subst (HasTextsOf (take m.1 xs)) (get_or-take m.0 ts i (Con 0) l) (k.among i (Con 0) within) in
      texts_below ts xs m.1 h.texts_apart k.texts e.0.node (trees_at ts e.0.args) at.over.texts (subst (HasTextsOf (take m.1 xs)) at.tree root)

  pub trees_of-cut : trees_of (take m.1 xs) (take m.0 es) ≡ take m.0 ts
  trees_of-cut =
      trees_after-texts m.1 (record { at = λ i l. get_or-take m.1 xs i [] l }) [] (take m.0 es) (λ i e p. let q = slice_get_take m.0 es i e p in below i e q.1 q.0)
      ∙ trees_of-take xs es m.0 (omega (arith, k.terms, h.count))

  cut_entry : (i : ℕ) (e : Root × Info) → slice_get (take m.0 es) i ≡ Some e → IsEntry (take m.0 ts) (take m.1 xs) i e.0 e.1
  cut_entry i e p =
      let q = slice_get_take m.0 es i e p in
      let at = h.entries i e q.1 in
      let over : IsOver i m.1 e.0 = record { parts = at.over.parts; texts = below i e q.1 q.0; args = at.over.args; count = at.over.count; proper = at.over.proper; range = at.over.range } in
      entry_kept m.0 m.1 (record { at = λ j l. get_or-take m.0 ts j (Con 0) l }) (record { at = λ j l. get_or-take m.1 xs j [] l }) (omega (arith, length-take-le m.1 xs k.texts)) i e.0 e.1 q.0 over at

  apart_take : {X : Type 0} (ys : List X) (n : ℕ) → n ≤ length ys → AreApart ys → AreApart (take n ys)
  apart_take ys n g a i j d l w e =
      let long = length-take-le n ys g in
      a i j d l (omega arith) (sym (get_or-take n ys i d (omega arith)) ∙ e ∙ get_or-take n ys j d (omega arith))

  pub IsSound-cut : IsSound (take m.0 es) (take m.1 xs)
  IsSound-cut = subst (λ us. Holds us (take m.0 es) (take m.1 xs)) (sym trees_of-cut) (record {
    count = length-take-le m.0 ts k.terms ∙ sym (length-take-le m.0 es (omega (arith, k.terms, h.count)));
    entries = cut_entry;
    apart = apart_take ts m.0 k.terms h.apart;
    texts_apart = apart_take xs m.1 k.texts h.texts_apart;
    characters = All-take AreCharacters m.1 xs h.characters;
    first = take_take 4 m.0 ts k.first ∙ h.first;
  })
