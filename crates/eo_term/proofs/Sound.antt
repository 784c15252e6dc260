-- A table stays sound as it grows.
use Rattle.eo_term.specs.declared.table.TheConstants.{HEIGHT_LIMIT}
use Rattle.std.proofs.Common.{◌≡◌, ◌≢◌, ℕ, zero, suc, ◌+◌, ◌<◌, ◌≤◌, inl, inr, List, [], ◌∷◌, ◌++◌, length, get_or, take, slice_get, Some, refl, sym, ap, ◌∙◌, subst, arith, length-append}
use Rattle.std.proofs.Math.Seq.{get_or-append_seam, take-append_seam, take-length}
use Rattle.std.proofs.lemmas.List.{take-append-le, get_or_default}
use Rattle.std.proofs.lemmas.List.Elements.{All-weaker, All-push}
use Rattle.std.proofs.lemmas.List.Quantifiers.{all_pairs_push}
use Rattle.std.proofs.lemmas.Option.{slice_get_within}
use Rattle.eo_term.specs.declared.node.Node.{Node}
use Rattle.eo_term.specs.declared.node.Node.TheVariants as node
use Rattle.eo_term.specs.Keys.{Root}
use Rattle.eo_term.specs.declared.node.Info.{Info}
use Rattle.eo_term.specs.Tree.{Tree, Trees, Con}
use Rattle.eo_term.specs.Arguments.{count_of, arguments_of, argument_at}
use Rattle.eo_base.specs.Characters.{AreCharacters}
use Rattle.eo_term.specs.Terms.{tree_at, text_at, tree_of, trees_at, PartsBelow, TextsBelow, HasArguments, HasCount, SameTrees, first_trees, Terms, Interned, InternedText}
use Rattle.eo_term.specs.Held.{tree_of_root, trees_of, Tells, IsOver, IsEntry, HasRoot, Holds, IsSound}
use Rattle.eo_term.proofs.Grown.{since_of, since_refl, slice_get_push, SameTexts, SameTrees-append, SameTexts-append, SameTexts-refl, SameTrees-refl, tree_of_root-same, trees_of-push, trees_after-texts}
use Rattle.eo_term.proofs.Apart.{one_root, nothing_new}

pub slice_get_some : {X : Type 0} (xs : List X) (i : ℕ) → i < length xs → (x : X) × (slice_get xs i ≡ Some x)
slice_get_some [] i h = absurd (omega arith)
slice_get_some (x ∷ xs) zero h = (x, refl)
slice_get_some (x ∷ xs) (suc i) h = slice_get_some xs i (omega arith)

-- a root over lists is one over longer lists
pub PartsBelow-weaker : (n m : ℕ) → n ≤ m → (d : Node) → PartsBelow n d → PartsBelow m d
PartsBelow-weaker n m h (node.Con k) p = tt
PartsBelow-weaker n m h (node.Num z) p = tt
PartsBelow-weaker n m h (node.Bits w v) p = tt
PartsBelow-weaker n m h (node.Str s) p = tt
PartsBelow-weaker n m h (node.Par i) p = tt
PartsBelow-weaker n m h (node.Var s t) p = omega arith
PartsBelow-weaker n m h (node.App f x) p = (omega arith, omega arith)
PartsBelow-weaker n m h (node.Arr a b) p = (omega arith, omega arith)
PartsBelow-weaker n m h (node.Qar i t b) p = (omega arith, omega arith)
PartsBelow-weaker n m h (node.Op c k) p = tt

TextsBelow-weaker : (n m : ℕ) → n ≤ m → (d : Node) → TextsBelow n d → TextsBelow m d
TextsBelow-weaker n m h (node.Con k) p = tt
TextsBelow-weaker n m h (node.Num z) p = tt
TextsBelow-weaker n m h (node.Bits w v) p = tt
TextsBelow-weaker n m h (node.Str s) p = omega arith
TextsBelow-weaker n m h (node.Par i) p = tt
TextsBelow-weaker n m h (node.Var s t) p = omega arith
TextsBelow-weaker n m h (node.App f x) p = tt
TextsBelow-weaker n m h (node.Arr a b) p = tt
TextsBelow-weaker n m h (node.Qar i t b) p = tt
TextsBelow-weaker n m h (node.Op c k) p = tt

pub IsOver-weaker : (n m n' m' : ℕ) → n ≤ n' → m ≤ m' → (k : Root) → IsOver n m k → IsOver n' m' k
IsOver-weaker n m n' m' h g k o = record {
  parts = PartsBelow-weaker n n' h k.node o.parts;
  texts = TextsBelow-weaker m m' g k.node o.texts;
  args = All-weaker (λ j. j < n) (λ j. j < n') (λ x p. omega arith) k.args o.args;
  count = o.count;
  proper = o.proper;
  range = o.range;
}

Tells-same : (s : Info) (t u : Tree) → t ≡ u → Tells t s → Tells u s
Tells-same s t u e h = subst (λ v. Tells v s) e h

-- an entry stays one over lists that have the same where it looks
pub entry_kept : (n m : ℕ) {ts us : List Tree} {xs ys : List (List ℕ)} → SameTrees n ts us → SameTexts m xs ys → m ≤ length ys → (i : ℕ) (k : Root) (s : Info)
    → i < n → IsOver i m k → IsEntry ts xs i k s → IsEntry us ys i k s
entry_kept n m {ts} {us} {xs} {ys} t x g i k s h o e =
    let same : tree_at us i ≡ tree_at ts i = t.at i h in
    record {
      over = IsOver-weaker i m i (length ys) (omega arith) g k o;
      tree = same ∙ e.tree ∙ sym (tree_of_root-same n m t x k (IsOver-weaker i m n m (omega arith) (omega arith) k o));
      tells = Tells-same s (tree_at ts i) (tree_at us i) (sym same) e.tells;
      low = e.low;
    }

-- one more entry
module _ (ts : List Tree) (es : List (Root × Info)) (xs : List (List ℕ)) (h : Holds ts es xs) (k : Root) (s : Info)
    (over : IsOver (length ts) (length xs) k) (tells : Tells (tree_of_root ts xs k) s) (low : s.height ≤ HEIGHT_LIMIT)
    (absent : (i : ℕ) (e : Root × Info) → slice_get es i ≡ Some e → e.0 ≡ k → ⊥) where
  abbrev t : Tree
  t = tree_of_root ts xs k

  abbrev us : List Tree
  us = ts ++ t ∷ []

  last : tree_at us (length ts) ≡ t
  last = get_or-append_seam ts t [] (Con 0)

  four : 4 ≤ length ts
  four = by ts h.first
    where
      by : (us : List Tree) → take 4 us ≡ first_trees → 4 ≤ length us
      by [] e = absurd cc
      by (a ∷ []) e = absurd cc
      by (a ∷ b ∷ []) e = absurd cc
      by (a ∷ b ∷ c ∷ []) e = absurd cc
      by (a ∷ b ∷ c ∷ d ∷ us) e = omega arith

  new_entry : IsEntry us xs (length ts) k s
  new_entry = record {
    over = over;
    tree = last ∙ sym (tree_of_root-same (length ts) (length xs) (SameTrees-append ts (t ∷ [])) (SameTexts-refl (length xs) xs) k over);
    tells = Tells-same s t (tree_at us (length ts)) (sym last) tells;
    low = low;
  }

  old_entry : (i : ℕ) (e : Root × Info) → slice_get es i ≡ Some e → IsEntry us xs i e.0 e.1
  old_entry i e p =
      let at = h.entries i e p in
      let within : i < length ts = omega (arith, slice_get_within es i e p, h.count) in
      entry_kept (length ts) (length xs) (SameTrees-append ts (t ∷ [])) (SameTexts-refl (length xs) xs) (omega arith) i e.0 e.1 within at.over at

  each : (i : ℕ) (e : Root × Info) → slice_get (es ++ (k, s) ∷ []) i ≡ Some e → IsEntry us xs i e.0 e.1
  each i e p =
      elim (slice_get_push es (k, s) i e p) [
        | inl q ↦ old_entry i e q.1
        | inr q ↦ subst (λ j. IsEntry us xs j e.0 e.1) (h.count ∙ sym q.0) (subst (λ f. IsEntry us xs (length ts) f.0 f.1) (sym q.1) new_entry)
      ]

  fresh : (i : ℕ) → i < length ts → tree_at ts i ≡ t → ⊥
  fresh i l q =
      let at = slice_get_some es i (omega (arith, h.count)) in
      let e = h.entries i at.0 at.1 in
      absent i at.0 at.1 (one_root ts xs h.apart h.texts_apart at.0.0 k (IsOver-weaker i (length xs) (length ts) (length xs) (omega arith) (omega arith) at.0.0 e.over) over (sym e.tree ∙ q))

  pub Holds-push : Holds us (es ++ (k, s) ∷ []) xs
  Holds-push = record {
    count = omega (arith, length-append ts (t ∷ []), length-append es ((k, s) ∷ []), h.count);
    entries = each;
    apart = all_pairs_push (λ x y. x ≢ y) ts t h.apart (λ i d l q. fresh i l (get_or_default ts i (Con 0) d l ∙ q));
    texts_apart = h.texts_apart;
    characters = h.characters;
    first = take-append-le 4 ts (t ∷ []) four ∙ h.first;
  }

-- a sound table after one more entry
pub IsSound-push : (es : List (Root × Info)) (xs : List (List ℕ)) (k : Root) (s : Info) → IsSound es xs
    → IsOver (length (trees_of xs es)) (length xs) k → Tells (tree_of_root (trees_of xs es) xs k) s → s.height ≤ HEIGHT_LIMIT → ((i : ℕ) (e : Root × Info) → slice_get es i ≡ Some e → e.0 ≡ k → ⊥) → IsSound (es ++ (k, s) ∷ []) xs
IsSound-push es xs k s h over tells low none =
    subst (λ us. Holds us (es ++ (k, s) ∷ []) xs) (sym (trees_of-push xs es (k, s))) (Holds-push (trees_of xs es) es xs h k s over tells low none)

-- one more text
pub IsSound-text : (es : List (Root × Info)) (xs : List (List ℕ)) (w : List ℕ) → IsSound es xs → AreCharacters w → ((i : ℕ) → i < length xs → text_at xs i ≡ w → ⊥) → (trees_of (xs ++ w ∷ []) es ≡ trees_of xs es) × IsSound es (xs ++ w ∷ [])
IsSound-text es xs w h good absent =
    let same = trees_after-texts (length xs) (SameTexts-append xs (w ∷ [])) [] es (λ i e p. (h.entries i e p).over.texts) in
    (same, subst (λ us. Holds us es (xs ++ w ∷ [])) (sym same) grown)
  where
    ts : List Tree
    ts = trees_of xs es

    grown : Holds (trees_of xs es) es (xs ++ w ∷ [])
    grown = record {
      count = h.count;
      entries = λ i e p.
          let at = h.entries i e p in
          let within : i < length (trees_of xs es) = omega (arith, slice_get_within es i e p, h.count) in
          entry_kept (length (trees_of xs es)) (length xs) (SameTrees-refl (length (trees_of xs es)) (trees_of xs es)) (SameTexts-append xs (w ∷ [])) (omega (arith, length-append xs (w ∷ []))) i e.0 e.1 within at.over at;
      apart = h.apart;
      texts_apart = all_pairs_push (λ x y. x ≢ y) xs w h.texts_apart (λ i d l q. absent i l (get_or_default xs i [] d l ∙ q));
      characters = All-push AreCharacters xs w h.characters good;
      first = h.first;
    }

-- the tree of a root that is there
pub found_tree : (es : List (Root × Info)) (xs : List (List ℕ)) (k : Root) (s : Info) (i : ℕ) → IsSound es xs → slice_get es i ≡ Some (k, s)
    → (i < length (trees_of xs es)) × (tree_at (trees_of xs es) i ≡ tree_of_root (trees_of xs es) xs k)
found_tree es xs k s i h p = (omega (arith, slice_get_within es i (k, s) p, h.count), (h.entries i (k, s) p).tree)

-- what a table shows of its entries and its texts
abbrev pub shown : List (Root × Info) → List (List ℕ) → Terms
shown es xs = record { trees = trees_of xs es; texts = xs }

module _ (es : List (Root × Info)) (xs : List (List ℕ)) (h : IsSound es xs) where
  pub Interned-found : (k : Root) (s : Info) (i : ℕ) → slice_get es i ≡ Some (k, s) → Interned (shown es xs) (tree_of_root (trees_of xs es) xs k) i (shown es xs)
  Interned-found k s i p =
      let f = found_tree es xs k s i h p in
      record { live = f.0; tree = f.1; texts = refl; known = λ c. refl; grown = inl refl; grows = since_refl (shown es xs); apart = h.apart }

  module _ (k : Root) (s : Info) (over : IsOver (length (trees_of xs es)) (length xs) k) (tells : Tells (tree_of_root (trees_of xs es) xs k) s) (low : s.height ≤ HEIGHT_LIMIT)
      (none : (i : ℕ) (e : Root × Info) → slice_get es i ≡ Some e → e.0 ≡ k → ⊥) where
    pub Interned-push : Interned (shown es xs) (tree_of_root (trees_of xs es) xs k) (length es) (shown (es ++ (k, s) ∷ []) xs)
    Interned-push =
        let ts : List Tree = trees_of xs es in
        let grown : trees_of xs (es ++ (k, s) ∷ []) ≡ ts ++ tree_of_root ts xs k ∷ [] = trees_of-push xs es (k, s) in
        let apart = (IsSound-push es xs k s h over tells low none).apart in
        record {
          live = omega (arith, ap length grown, length-append ts (tree_of_root ts xs k ∷ []), h.count);
          tree = (λ j. tree_at (grown j) (length es)) ∙ ap (tree_at (ts ++ tree_of_root ts xs k ∷ [])) (sym h.count) ∙ get_or-append_seam ts (tree_of_root ts xs k) [] (Con 0);
          texts = refl;
          known = λ c. ap (λ us. record { trees = us; texts = xs }) (nothing_new ts (trees_of xs (es ++ (k, s) ∷ [])) (tree_of_root ts xs k) apart (inr grown) c);
          grown = inr grown;
          grows = since_of (shown es xs) (shown (es ++ (k, s) ∷ []) xs) (ap (take (length ts)) grown ∙ take-append_seam ts (tree_of_root ts xs k ∷ [])) (take-length xs) (omega (arith, ap length grown, length-append ts (tree_of_root ts xs k ∷ []))) (omega arith);
          apart = apart;
        }

module _ (es : List (Root × Info)) (xs : List (List ℕ)) (h : IsSound es xs) (w : List ℕ) (good : AreCharacters w) where
  pub InternedText-found : (i : ℕ) → i < length xs → text_at xs i ≡ w → InternedText (shown es xs) w i (shown es xs)
  InternedText-found i l e = record { live = l; text = e; trees = refl; known = λ c. refl; grown = inl refl; grows = since_refl (shown es xs); apart = h.texts_apart }

  pub InternedText-push : ((i : ℕ) → i < length xs → text_at xs i ≡ w → ⊥) → InternedText (shown es xs) w (length xs) (shown es (xs ++ w ∷ []))
  InternedText-push absent =
      let g = IsSound-text es xs w h good absent in
      record {
        live = omega (arith, length-append xs (w ∷ []));
        text = get_or-append_seam xs w [] [];
        trees = g.0;
        known = λ c. λ j. record { trees = g.0 j; texts = nothing_new xs (xs ++ w ∷ []) w g.1.texts_apart (inr refl) c j };
        grown = inr refl;
        grows = since_of (shown es xs) (shown es (xs ++ w ∷ [])) (ap (take (length (trees_of xs es))) g.0 ∙ take-length (trees_of xs es)) (take-append_seam xs (w ∷ [])) (omega (arith, ap length g.0)) (omega (arith, length-append xs (w ∷ [])));
        apart = g.1.texts_apart;
      }

-- the arguments of a term's tree are those of its key
pub length-trees_at : (ts : List Tree) (is : List ℕ) → count_of (trees_at ts is) ≡ length is
length-trees_at ts [] = refl
length-trees_at ts (i ∷ is) = ap (λ n. 1 + n) (length-trees_at ts is) ∙ omega arith

pub argument_at-trees_at : (ts : List Tree) (is : List ℕ) (i d : ℕ) → i < length is → argument_at (trees_at ts is) i ≡ tree_at ts (get_or is i d)
argument_at-trees_at ts [] i d h = absurd (omega arith)
argument_at-trees_at ts (j ∷ js) zero d h = refl
argument_at-trees_at ts (j ∷ js) (suc i) d h = argument_at-trees_at ts js i d (omega arith)

arguments_of_tree : (ts : List Tree) (xs : List (List ℕ)) (d : Node) (is : List ℕ) → HasArguments d is → arguments_of (tree_of ts xs d (trees_at ts is)) ≡ trees_at ts is
arguments_of_tree ts xs (node.Con k) is h = sym (ap (trees_at ts) h)
arguments_of_tree ts xs (node.Num z) is h = sym (ap (trees_at ts) h)
arguments_of_tree ts xs (node.Bits w v) is h = sym (ap (trees_at ts) h)
arguments_of_tree ts xs (node.Str s) is h = sym (ap (trees_at ts) h)
arguments_of_tree ts xs (node.Par i) is h = sym (ap (trees_at ts) h)
arguments_of_tree ts xs (node.Var s t) is h = sym (ap (trees_at ts) h)
arguments_of_tree ts xs (node.App f x) is h = sym (ap (trees_at ts) h)
arguments_of_tree ts xs (node.Arr a b) is h = sym (ap (trees_at ts) h)
arguments_of_tree ts xs (node.Qar i t b) is h = sym (ap (trees_at ts) h)
arguments_of_tree ts xs (node.Op c n) is h = refl

counted : (d : Node) (is : List ℕ) (bs : Trees) → HasArguments d is → count_of bs ≡ length is → HasCount d bs
counted (node.Con k) is bs h e = tt
counted (node.Num z) is bs h e = tt
counted (node.Bits w v) is bs h e = tt
counted (node.Str s) is bs h e = tt
counted (node.Par i) is bs h e = tt
counted (node.Var s t) is bs h e = tt
counted (node.App f x) is bs h e = tt
counted (node.Arr a b) is bs h e = tt
counted (node.Qar i t b) is bs h e = tt
counted (node.Op c n) is bs h e = e ∙ h

module _ (t : Terms) (i : ℕ) (k : Root) (e : HasRoot t i k) where
  pub arguments_kept : arguments_of (tree_at t.trees i) ≡ trees_at t.trees k.args
  arguments_kept = ap arguments_of e.tree ∙ arguments_of_tree t.trees t.texts k.node k.args e.over.count

  pub count_kept : HasCount k.node (arguments_of (tree_at t.trees i))
  count_kept = counted k.node k.args (arguments_of (tree_at t.trees i)) e.over.count (ap count_of arguments_kept ∙ length-trees_at t.trees k.args)

  pub argument_kept : (n d : ℕ) → n < count_of (arguments_of (tree_at t.trees i)) → (n < length k.args) × (tree_at t.trees (get_or k.args n d) ≡ argument_at (arguments_of (tree_at t.trees i)) n) × (get_or k.args n d < i)
  argument_kept n d h =
      let l : n < length k.args = omega (arith, ap count_of arguments_kept, length-trees_at t.trees k.args) in
      (l, sym (ap (λ t. argument_at t n) arguments_kept ∙ argument_at-trees_at t.trees k.args n d l), e.over.args n d l)
