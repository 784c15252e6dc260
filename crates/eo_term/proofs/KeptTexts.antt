-- Steps of the loops that choose which texts stay, and put them back.
use Rattle.std.proofs.Common.{◌≡◌, ℕ, zero, suc, ◌+◌, ◌<◌, ◌≤◌, inl, inr, Bool, true, false, ◌||◌, Vec, List, [], ◌∷◌, ◌++◌, length, map, get_or, take, drop, slice_get, Some, IfSome, if◌then◌else◌, refl, sym, ap, ◌∙◌, subst, arith, length-append, append_assoc}
use Rattle.std.specs.Global.{Global}
use Rattle.std.specs.List.{list_any}
use Rattle.std.specs.Str.{bytes_eq}
use Rattle.std.proofs.Math.Seq.{drop-cons, get_or-append_seam}
use Rattle.std.proofs.Math.ListN.{get_or-append}
use Rattle.std.proofs.lemmas.Bool.{cases_lt, false≢true}
use Rattle.std.proofs.lemmas.List.{length-map, take-map, drop-map, take-append-drop, length-drop}
use Rattle.std.proofs.lemmas.Option.{same_Some, IfSome_then}
use Rattle.std.proofs.lemmas.Slice.Eq.{bytes_eq-Decides}
use Rattle.eo_term.specs.declared.node.Node.{Node}
use Rattle.eo_term.specs.declared.node.Node.TheVariants as node
use Rattle.eo_term.specs.declared.node.Info.{Info}
use Rattle.eo_term.specs.Keys.{Root}
use Rattle.eo_term.specs.Terms.{text_at, TextsBelow, AreApart}
use Rattle.eo_term.specs.Carry.{chosen, trues, IsNeeded, Adds, AddsOnly, text_in, texts_of, IsUsed, AreNeededTexts, IsAbsentText}
use Rattle.eo_term.proofs.Marked.{IsNeeded-kept}
use Rattle.eo_term.proofs.Chosen.{chosen_all, chosen_apart}

-- that the text of a node is below l, in either words
pub texts_from : (l : ℕ) (d : Node) → IfSome (text_in d) (λ s. s < l) → TextsBelow l d
texts_from l (node.Con k) q = tt
texts_from l (node.Num z) q = tt
texts_from l (node.Bits w v) q = tt
texts_from l (node.Str s) q = q
texts_from l (node.Par i) q = tt
texts_from l (node.Var s y) q = q
texts_from l (node.App u y) q = tt
texts_from l (node.Arr u y) q = tt
texts_from l (node.Qar i u y) q = tt
texts_from l (node.Op c j) q = tt

pub texts_to : (l : ℕ) (d : Node) → TextsBelow l d → IfSome (text_in d) (λ s. s < l)
texts_to l (node.Con k) q = tt
texts_to l (node.Num z) q = tt
texts_to l (node.Bits w v) q = tt
texts_to l (node.Str s) q = q
texts_to l (node.Par i) q = tt
texts_to l (node.Var s y) q = q
texts_to l (node.App u y) q = tt
texts_to l (node.Arr u y) q = tt
texts_to l (node.Qar i u y) q = tt
texts_to l (node.Op c j) q = tt

-- ---- which texts are needed

-- the marks after the first j entries from n on
pub record AreMarkedTo (es : List (Root × Info)) (n : ℕ) (w : List Bool) (m l j : ℕ) (v : List Bool) : Type 0 where
  pub long : m + length v ≡ l
  pub needed : (k : ℕ) (e : Root × Info) → slice_get es (n + k) ≡ Some e → k < j → get_or w k false ≡ true → IfSome (text_in e.0.node) (IsNeeded m v)
  pub used : (k : ℕ) → get_or v k false ≡ true → IsUsed es n w (m + k)

module _ (es : List (Root × Info)) (n : ℕ) (w : List Bool) (m l : ℕ) where
  pub marked_first : (v : List Bool) → m + length v ≡ l → ((k : ℕ) → get_or v k false ≡ false) → AreMarkedTo es n w m l 0 v
  marked_first v long none = record {
    long = long;
    needed = λ k e p b t. absurd (omega arith);
    used = λ k t. absurd (false≢true (sym (none k) ∙ t));
  }

  pub marked_yes : (j : ℕ) (u v : List Bool) (e : Root × Info) → AreMarkedTo es n w m l j u → slice_get es (n + j) ≡ Some e → get_or w j false ≡ true → Adds m l u v → AddsOnly m (λ s. text_in e.0.node ≡ Some s) u v → IfSome (text_in e.0.node) (IsNeeded m v) → AreMarkedTo es n w m l (j + 1) v
  marked_yes j u v e h p t adds only own = record {
    long = omega (arith, h.long, adds.long);
    needed = λ k f q b s. elim (cases_lt k j) [
      | inl a ↦ IfSome_then (text_in f.0.node) {P = IsNeeded m u} {Q = IsNeeded m v} (h.needed k f q a s) (λ x g. IsNeeded-kept m l u v x adds g)
      | inr a ↦
          let one : k ≡ j = omega arith in
          let is : e ≡ f = same_Some e f (sym p ∙ ap (λ i. slice_get es (n + i)) (sym one) ∙ q) in
          subst (λ (g : Root × Info). IfSome (text_in g.0.node) (IsNeeded m v)) is own
    ];
    used = λ k s. elim (only k s) [ inl a ↦ h.used k a | inr a ↦ (j, e, p, t, a) ];
  }

  pub marked_no : (j : ℕ) (v : List Bool) → AreMarkedTo es n w m l j v → get_or w j false ≡ false → AreMarkedTo es n w m l (j + 1) v
  marked_no j v h t = record {
    long = h.long;
    needed = λ k f q b s. elim (cases_lt k j) [
      | inl a ↦ h.needed k f q a s
      | inr a ↦
          let one : k ≡ j = omega arith in
          absurd (false≢true (sym t ∙ ap (λ i. get_or w i false) (sym one) ∙ s))
    ];
    used = h.used;
  }

  pub marked_all : (j : ℕ) (v : List Bool) → AreMarkedTo es n w m l j v → length w ≤ j → AreNeededTexts es n w m l v
  marked_all j v h far = record {
    long = h.long;
    needed = λ k e p t. h.needed k e p (omega (arith, within w k t)) t;
    used = h.used;
  }
    where
      within : (u : List Bool) (a : ℕ) → get_or u a false ≡ true → a < length u
      within [] a t = absurd (false≢true t)
      within (b ∷ u) zero t = omega arith
      within (b ∷ u) (suc a) t = omega (arith, within u a t)

  -- where there are no newer texts, none is needed
  pub marked_none : m ≡ l → ((i : ℕ) (e : Root × Info) → slice_get es i ≡ Some e → IfSome (text_in e.0.node) (λ s. s < l)) → AreNeededTexts es n w m l []
  marked_none same texts = record {
    long = omega (arith, same);
    needed = λ k e p t. IfSome_then (text_in e.0.node) (texts (n + k) e p) (λ s h g. absurd (omega (arith, same)));
    used = λ k t. absurd (false≢true t);
  }

-- ---- texts that are put back

module _ {V : Type 0} (f : V → List ℕ) (x : List ℕ) where
  pub no_text : (vs : List V) → IsAbsentText (map f vs) x → list_any (λ v. bytes_eq x (f v)) vs ≡ false
  no_text [] h = refl
  no_text (v ∷ vs) h = by (bytes_eq x (f v)) refl (no_text vs (λ i l q. h (suc i) (omega (arith, l)) q))
    where
      by : (b : Bool) → bytes_eq x (f v) ≡ b → list_any (λ u. bytes_eq x (f u)) vs ≡ false → (bytes_eq x (f v) || list_any (λ u. bytes_eq x (f u)) vs) ≡ false
      by true e none = absurd (h 0 (omega arith) (sym ((bytes_eq-Decides x (f v)).0 e)))
      by false e none = ap (λ b. b || list_any (λ u. bytes_eq x (f u)) vs) e ∙ none

-- the next of texts that are apart is not among those before it
pub next_absent : (all xs rest : List (List ℕ)) (x : List ℕ) → AreApart all → xs ++ x ∷ rest ≡ all → IsAbsentText xs x
next_absent all xs rest x apart e i l q =
    let a : length xs < length all = omega (arith, ap length e, length-append xs (x ∷ rest)) in
    apart i (length xs) [] l a
    (ap (λ ys. text_at ys i) (sym e) ∙ get_or-append xs (x ∷ rest) [] i l ∙ q ∙ sym (get_or-append_seam xs x rest []) ∙ ap (λ ys. text_at ys (length xs)) e)

-- one text further
module _ (needed : List Bool) (at : ℕ) (b : Bool) (l : at < length needed) (is : b ≡ get_or needed at false) where
  here : drop at needed ≡ b ∷ drop (at + 1) needed
  here =
      let one : suc at ≡ at + 1 = omega arith in
      drop-cons needed at false l ∙ (λ i. sym is i ∷ drop (one i) needed)

  pub put_step : (xs ys ws all : List (List ℕ)) (x : List ℕ) → xs ++ chosen (drop at needed) (x ∷ ws) ≡ all → ys ≡ (if b then xs ++ x ∷ [] else xs) → ys ++ chosen (drop (at + 1) needed) ws ≡ all
  put_step xs ys ws all x e p = by b here p
    where
      by : (c : Bool) → drop at needed ≡ c ∷ drop (at + 1) needed → ys ≡ (if c then xs ++ x ∷ [] else xs) → ys ++ chosen (drop (at + 1) needed) ws ≡ all
      by true h p = ap (λ zs. zs ++ chosen (drop (at + 1) needed) ws) p ∙ append_assoc xs (x ∷ []) (chosen (drop (at + 1) needed) ws) ∙ ap (λ u. xs ++ chosen u (x ∷ ws)) (sym h) ∙ e
      by false h p = ap (λ zs. zs ++ chosen (drop (at + 1) needed) ws) p ∙ ap (λ u. xs ++ chosen u (x ∷ ws)) (sym h) ∙ e

  pub put_absent : (xs ws all : List (List ℕ)) (x : List ℕ) → AreApart all → xs ++ chosen (drop at needed) (x ∷ ws) ≡ all → b ≡ true → IsAbsentText xs x
  put_absent xs ws all x apart e t = next_absent all xs (chosen (drop (at + 1) needed) ws) x apart (ap (λ u. xs ++ chosen u (x ∷ ws)) (sym (here ∙ ap (λ c. c ∷ drop (at + 1) needed) t)) ∙ e)

  pub put_room : trues (drop at needed) ≡ (if b then 1 else 0) + trues (drop (at + 1) needed)
  put_room = ap trues here

pub put_end : (needed : List Bool) (at : ℕ) (xs all : List (List ℕ)) → xs ++ chosen (drop at needed) [] ≡ all → xs ≡ all
put_end needed at xs all e = sym (ap (λ ys. xs ++ ys) (nothing (drop at needed)) ∙ none xs) ∙ e
  where
    nothing : (u : List Bool) → ◌≡◌ {A = List (List ℕ)} (chosen u []) []
    nothing [] = refl
    nothing (b ∷ u) = refl

    none : (ys : List (List ℕ)) → ys ++ [] ≡ ys
    none [] = refl
    none (y ∷ ys) = ap (λ zs. y ∷ zs) (none ys)

-- ---- texts that are cut

module _ (ks : List (Vec ℕ Global)) (first : ℕ) (needed : List Bool) (long : first + length needed ≡ length ks) where
  abbrev xs : List (List ℕ)
  xs = texts_of ks

  long_texts : first + length needed ≡ length xs
  long_texts = long ∙ sym (length-map ks (λ w. w.items))

  pub all_stay : trues needed ≡ length needed → xs ≡ take first xs ++ chosen needed (drop first xs)
  all_stay e = sym (take-append-drop first xs) ∙ ap (λ ys. take first xs ++ ys) (sym (chosen_all (drop first xs) needed e (omega (arith, long_texts, length-drop first xs))))

  -- in parts
  pub cut_parts : (us bs : List (Vec ℕ Global)) → us ≡ take first ks → bs ≡ drop first ks → texts_of us ++ chosen needed (texts_of bs) ≡ take first xs ++ chosen needed (drop first xs)
  cut_parts us bs a b =
      (λ i. texts_of (a i) ++ chosen needed (texts_of (b i))) ∙ (λ i. sym (take-map (λ w. w.items) first ks) i ++ chosen needed (sym (drop-map (λ w. w.items) first ks) i))

  pub parts_apart : (us bs : List (Vec ℕ Global)) → us ≡ take first ks → bs ≡ drop first ks → AreApart xs → AreApart (texts_of us ++ chosen needed (texts_of bs))
  parts_apart us bs a b apart =
      subst (λ ys. AreApart ys) (sym (cut_parts us bs a b)) (chosen_apart xs [] first (omega (arith, long_texts)) needed long_texts apart)
