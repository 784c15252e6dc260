-- A step of writing leaves what is written in the end.
use Rattle.std.specs.Prelude.{◌≡◌, refl, ℕ, zero, suc, ◌+◌, ◌≤◌, ◌<◌, Bool, true, false, if◌then◌else◌, List, [], ◌∷◌, ◌++◌, map, length, slice_index_or, position, Option, Some, option_and_then, codes, All}
use Rattle.std.proofs.Common.{sym, ap, ap₂, ◌∙◌, subst, arith, append-nil, append_assoc, length-append}
use Rattle.std.proofs.lemmas.List.{map-append}
use Rattle.std.proofs.lemmas.List.Elements.{All-nil, All-cons, All-head, All-tail, All-append, All-weaker}
use Rattle.std.proofs.lemmas.List.Quantifiers.{position-Some}
use Rattle.eo_sexp.specs.AtomKind as kind
use Rattle.eo_sexp.specs.Sexp.{sexps_of}
use Rattle.eo_sexp.specs.Printing.{printed, printed_atom, printed_others, is_word_of, in_bars}
use Rattle.eo_sig.specs.Signature.{Signature}
use Rattle.eo_term.specs.Tree.{Tree, Con, height, is_value, tree_eq}
use Rattle.eo_term.proofs.Equality.{tree_same}
use Rattle.eo_show.specs.declared.Shape.TheVariants as shape
use Rattle.eo_show.specs.declared.writing.Open.{Open}
use Rattle.eo_show.specs.Forms.{Form, Leaf, Folded, Plainly, Function, Variable, form, parts, with_parts, symbol}
use Rattle.eo_show.specs.Lines.{line_name, name_or, written}
use Rattle.eo_show.specs.Members.{parts_of}
use Rattle.eo_show.specs.Plan.{shape_of}
use Rattle.eo_show.specs.Sizes.{head, AreNamed}
use Rattle.eo_show.specs.Unwritten.{numbered_name, AreNamedAt, by_number, front, begun, part_front, part_begun, written_part, others, unwritten, AreLow, left, IsStep}
use Rattle.eo_show.specs.Walking.{IsLower}
use Rattle.eo_show.proofs.FormFacts.{some_height}
use Rattle.eo_show.proofs.Lower.{parts-below}
use Rattle.eo_show.proofs.FormLists.{first, printed-first, list-form}
use Rattle.eo_show.proofs.Measured.{name-word}

pub printed-name : (k : ℕ) → printed (symbol (line_name k)) ≡ line_name k
unfolding printed_atom
printed-name k = go (is_word_of kind.Symbol (line_name k)) (name-word k)
  where
    go : (b : Bool) → b ≡ true → (if b then line_name k else in_bars (line_name k)) ≡ line_name k
    go true e = refl
    go false e = cc

module _ (S : Signature) (named : Tree → Option (List ℕ)) where
  -- ---- a member that is begun

  list-printed : (F : Form) (deeper : ℕ) → (shape_of F ≡ shape.Leaf → ⊥) → printed (with_parts S (written_part S named deeper) F) ≡ (codes "(" ++ head S (shape_of F)) ++ ([] ++ others S named deeper (parts S F))
  list-printed F deeper unlike =
      let ss = map (written_part S named deeper) (parts S F) in
      ap printed (list-form S F (written_part S named deeper) unlike)
      ∙ ap (λ name. codes "(" ++ ((name ++ printed_others (sexps_of ss)) ++ codes ")")) (printed-first S F unlike)
      ∙ ap (λ xs. codes "(" ++ xs) (append_assoc (head S (shape_of F)) (printed_others (sexps_of ss)) (codes ")"))

  form-printed : (F : Form) (deeper : ℕ) → printed (with_parts S (written_part S named deeper) F) ≡ front S F ++ unwritten S named (suc deeper) (begun S F (parts S F))
  form-printed (Leaf k text) deeper = sym (append-nil (printed_atom k text))
  form-printed (Folded c args) deeper = list-printed (Folded c args) deeper (λ e. cc)
  form-printed (Plainly h args) deeper = list-printed (Plainly h args) deeper (λ e. cc)
  form-printed (Function a b) deeper = list-printed (Function a b) deeper (λ e. cc)
  form-printed (Variable s t) deeper = list-printed (Variable s t) deeper (λ e. cc)

  pub begun-written : (deeper : ℕ) (u : Tree) → height u ≤ deeper → printed (written S deeper named u) ≡ front S (form S u) ++ unwritten S named deeper (begun S (form S u) (parts_of S u))
  begun-written zero u le = absurd (omega (arith, le, some_height u))
  begun-written (suc deeper) u le = form-printed (form S u) deeper

  part-written : (n deeper : ℕ) (u : Tree) → height u ≤ deeper → named u ≡ numbered_name n → printed (written_part S named deeper u) ≡ part_front S n u ++ unwritten S named deeper (part_begun S n u (parts_of S u))
  part-written zero deeper u le e = ap (λ o. printed (name_or o (written S deeper named u))) e ∙ begun-written deeper u le
  part-written (suc k) deeper u le e = ap (λ o. printed (name_or o (written S deeper named u))) e ∙ printed-name (suc k) ∙ sym (append-nil (line_name (suc k)))

  -- ---- a step

  pub closed : (deeper : ℕ) (ls : List (List Tree)) → AreLow deeper (ls ++ [] ∷ []) → unwritten S named deeper (ls ++ [] ∷ []) ≡ codes ")" ++ unwritten S named deeper ls
  closed zero [] low = absurd low
  closed (suc deeper) [] low = refl
  closed zero (l ∷ ls) low = absurd low
  closed (suc deeper) (l ∷ ls) low = ap (λ xs. xs ++ others S named deeper l) (closed deeper ls low.1)

  pub went : (n deeper : ℕ) (ls : List (List Tree)) (p : Tree) (us : List Tree) → named p ≡ numbered_name n → AreLow deeper (ls ++ (p ∷ us) ∷ []) →
      unwritten S named deeper (ls ++ (p ∷ us) ∷ []) ≡ codes " " ++ (part_front S n p ++ unwritten S named deeper ((ls ++ us ∷ []) ++ part_begun S n p (parts_of S p)))
  went n zero [] p us e low = absurd low
  went n (suc deeper) [] p us e low =
      let lower = All-head (IsLower (suc deeper)) p us low.0 in
      ap (λ xs. codes " " ++ ((xs ++ printed_others (sexps_of (map (written_part S named deeper) us))) ++ codes ")")) (part-written n deeper p (omega (arith, lower.lower)) e)
      ∙ ap (λ xs. codes " " ++ xs) (regroup (part_front S n p) (unwritten S named deeper (part_begun S n p (parts_of S p))) (printed_others (sexps_of (map (written_part S named deeper) us))) (codes ")"))
    where
      regroup : (a b c d : List ℕ) → ((a ++ b) ++ c) ++ d ≡ a ++ (b ++ (c ++ d))
      regroup a b c d = append_assoc (a ++ b) c d ∙ append_assoc a b (c ++ d)
  went n zero (l ∷ ls) p us e low = absurd low
  went n (suc deeper) (l ∷ ls) p us e low =
      ap (λ xs. xs ++ others S named deeper l) (went n deeper ls p us e low.1)
      ∙ ap (λ xs. codes " " ++ xs) (append_assoc (part_front S n p) (unwritten S named deeper ((ls ++ us ∷ []) ++ part_begun S n p (parts_of S p))) (others S named deeper l))

module _ (S : Signature) where
  pub front-list : (F : Form) → (shape_of F ≡ shape.Leaf → ⊥) → front S F ≡ codes "(" ++ head S (shape_of F)
  front-list (Leaf k text) unlike = absurd (unlike refl)
  front-list (Folded c args) unlike = refl
  front-list (Plainly h args) unlike = refl
  front-list (Function a b) unlike = refl
  front-list (Variable s t) unlike = refl

  pub begun-list : (F : Form) (o : Open) → (shape_of F ≡ shape.Leaf → ⊥) → begun S F o ≡ o ∷ []
  begun-list (Leaf k text) o unlike = absurd (unlike refl)
  begun-list (Folded c args) o unlike = refl
  begun-list (Plainly h args) o unlike = refl
  begun-list (Function a b) o unlike = refl
  begun-list (Variable s t) o unlike = refl

-- ---- lists stay low

begun-low : (S : Signature) (deeper : ℕ) (F : Form) → All (IsLower deeper) (parts S F) → 1 ≤ deeper → AreLow deeper (begun S F (parts S F))
begun-low S zero F all some = absurd (omega (arith, some))
begun-low S (suc deeper) (Leaf k text) all some = tt
begun-low S (suc deeper) (Folded c args) all some = (all, tt)
begun-low S (suc deeper) (Plainly h args) all some = (all, tt)
begun-low S (suc deeper) (Function a b) all some = (all, tt)
begun-low S (suc deeper) (Variable s t) all some = (all, tt)

module _ (S : Signature) where
  pub first-low : (deeper : ℕ) (u : Tree) → is_value u ≡ true → height u ≤ deeper → AreLow deeper (begun S (form S u) (parts_of S u))
  first-low deeper u v le =
      begun-low S deeper (form S u) (All-weaker (IsLower (height u)) (IsLower deeper) (λ p b. record { value = b.value; lower = omega (arith, b.lower, le) }) (parts_of S u) (parts-below S u v)) (omega (arith, le, some_height u))

  part-low : (n deeper : ℕ) (u : Tree) → is_value u ≡ true → height u ≤ deeper → AreLow deeper (part_begun S n u (parts_of S u))
  part-low zero deeper u v le = first-low deeper u v le
  part-low (suc k) deeper u v le = tt

  pub closed-low : (deeper : ℕ) (ls : List (List Tree)) (us : List Tree) → AreLow deeper (ls ++ us ∷ []) → AreLow deeper ls
  closed-low deeper [] us low = tt
  closed-low zero (l ∷ ls) us low = absurd low
  closed-low (suc deeper) (l ∷ ls) us low = (low.0, closed-low deeper ls us low.1)

  pub went-low : (n deeper : ℕ) (ls : List (List Tree)) (p : Tree) (us : List Tree) → AreLow deeper (ls ++ (p ∷ us) ∷ []) → AreLow deeper ((ls ++ us ∷ []) ++ part_begun S n p (parts_of S p))
  went-low n zero [] p us low = absurd low
  went-low n (suc deeper) [] p us low =
      let lower = All-head (IsLower (suc deeper)) p us low.0 in
      (All-tail (IsLower (suc deeper)) p us low.0, part-low n deeper p lower.value (omega (arith, lower.lower)))
  went-low n zero (l ∷ ls) p us low = absurd low
  went-low n (suc deeper) (l ∷ ls) p us low = (low.0, went-low n deeper ls p us low.1)

-- ---- as they are kept

abbrev pub at : List Tree → ℕ → Tree
at us i = slice_index_or us i (Con 0)

-- the list after one part more
abbrev pub passed : Open → Open
passed o = record { place = o.place; next = o.next + 1 }

abbrev begin_at : ℕ → Open
begin_at i = record { place = i; next = 0 }

module _ (S : Signature) (all : List Tree) (numbers : List ℕ) where
  lefts : List Open → List (List Tree)
  lefts os = map (left S all) os

  pub step-closed : (old_out new_out : List ℕ) (os : List Open) (o : Open) → left S all o ≡ [] → new_out ≡ old_out ++ codes ")" → IsStep S all numbers old_out new_out (os ++ o ∷ []) os
  step-closed old_out new_out os o e w = record {
    within = λ h. All-init os o h;
    low = λ deeper low. closed-low S deeper (map (left S all) os) (left S all o) (subst (AreLow deeper) (map-append (left S all) os (o ∷ [])) low);
    longer = omega (arith, ap length w, length-append old_out (codes ")"));
    same = λ named deeper names low.
        let split : map (left S all) (os ++ o ∷ []) ≡ map (left S all) os ++ [] ∷ [] = map-append (left S all) os (o ∷ []) ∙ ap (λ us. map (left S all) os ++ us ∷ []) e in
        ap (λ xs. xs ++ unwritten S named deeper (map (left S all) os)) w
        ∙ append_assoc old_out (codes ")") (unwritten S named deeper (map (left S all) os))
        ∙ ap (λ xs. old_out ++ xs) (sym (ap (unwritten S named deeper) split ∙ closed S named deeper (map (left S all) os) (subst (AreLow deeper) split low)));
  }
    where
      All-init : (os : List Open) (o : Open) → All (λ o. o.place < length all) (os ++ o ∷ []) → All (λ o. o.place < length all) os
      All-init [] o h = All-nil (λ (o : Open). o.place < length all)
      All-init (x ∷ os) o h = All-cons (λ (o : Open). o.place < length all) x os (All-head (λ (o : Open). o.place < length all) x (os ++ o ∷ []) h) (All-init os o (All-tail (λ (o : Open). o.place < length all) x (os ++ o ∷ []) h))

  left-begun : (i : ℕ) (F : Form) → F ≡ form S (at all i) → map (left S all) (begun S F (begin_at i)) ≡ begun S F (parts_of S (at all i))
  left-begun i (Leaf k text) e = refl
  left-begun i (Folded c args) e = refl
  left-begun i (Plainly h args) e = refl
  left-begun i (Function a b) e = refl
  left-begun i (Variable s t) e = refl

  left-part : (n i : ℕ) → map (left S all) (part_begun S n (at all i) (begin_at i)) ≡ part_begun S n (at all i) (parts_of S (at all i))
  left-part zero i = left-begun i (form S (at all i)) refl
  left-part (suc k) i = refl

  abbrev IsPlaced : Open → Type 0
  IsPlaced o = o.place < length all

  begun-placed : (i : ℕ) (F : Form) → i < length all → All IsPlaced (begun S F (begin_at i))
  begun-placed i (Leaf k text) lt = All-nil IsPlaced
  begun-placed i (Folded c args) lt = All-cons IsPlaced (begin_at i) [] lt (All-nil IsPlaced)
  begun-placed i (Plainly h args) lt = All-cons IsPlaced (begin_at i) [] lt (All-nil IsPlaced)
  begun-placed i (Function a b) lt = All-cons IsPlaced (begin_at i) [] lt (All-nil IsPlaced)
  begun-placed i (Variable s t) lt = All-cons IsPlaced (begin_at i) [] lt (All-nil IsPlaced)

  part-placed : (n i : ℕ) → i < length all → All IsPlaced (part_begun S n (at all i) (begin_at i))
  part-placed zero i lt = begun-placed i (form S (at all i)) lt
  part-placed (suc k) i lt = All-nil IsPlaced

  passed-placed : (os : List Open) (o : Open) → All IsPlaced (os ++ o ∷ []) → All IsPlaced (os ++ passed o ∷ [])
  passed-placed [] o h = All-cons IsPlaced (passed o) [] (All-head IsPlaced o [] h) (All-nil IsPlaced)
  passed-placed (x ∷ os) o h = All-cons IsPlaced x (os ++ passed o ∷ []) (All-head IsPlaced x (os ++ o ∷ []) h) (passed-placed os o (All-tail IsPlaced x (os ++ o ∷ []) h))

  pub step-part : (old_out new_out : List ℕ) (os new : List Open) (o : Open) (i n : ℕ) → i < length all → position (tree_eq (at all i)) all ≡ Some i → n ≡ slice_index_or numbers i 0 →
      left S all o ≡ at all i ∷ left S all (passed o) → new_out ≡ (old_out ++ codes " ") ++ part_front S n (at all i) → new ≡ (os ++ passed o ∷ []) ++ part_begun S n (at all i) (begin_at i) →
      IsStep S all numbers old_out new_out (os ++ o ∷ []) new
  step-part old_out new_out os new o i n lt first number e w is =
      let u = at all i in
      let us = left S all (passed o) in
      let before : map (left S all) (os ++ o ∷ []) ≡ map (left S all) os ++ (u ∷ us) ∷ [] = map-append (left S all) os (o ∷ []) ∙ ap (λ l. map (left S all) os ++ l ∷ []) e in
      let after : map (left S all) new ≡ (map (left S all) os ++ us ∷ []) ++ part_begun S n u (parts_of S u) =
      ap (map (left S all)) is ∙ map-append (left S all) (os ++ passed o ∷ []) (part_begun S n u (begin_at i)) ∙ ap₂ (λ x y. x ++ y) (map-append (left S all) os (passed o ∷ [])) (left-part n i) in
      record {
        within = λ h. subst (All IsPlaced) (sym is) (All-append IsPlaced (os ++ passed o ∷ []) (part_begun S n u (begin_at i)) (passed-placed os o h) (part-placed n i lt));
        low = λ deeper low. subst (AreLow deeper) (sym after) (went-low S n deeper (map (left S all) os) u us (subst (AreLow deeper) before low));
        longer = omega (arith, ap length w, length-append (old_out ++ codes " ") (part_front S n u), length-append old_out (codes " "));
        same = λ named deeper names low.
            ap₂ (λ x y. x ++ y) w (ap (unwritten S named deeper) after)
            ∙ append_assoc (old_out ++ codes " ") (part_front S n u) (unwritten S named deeper ((map (left S all) os ++ us ∷ []) ++ part_begun S n u (parts_of S u)))
            ∙ append_assoc old_out (codes " ") (part_front S n u ++ unwritten S named deeper ((map (left S all) os ++ us ∷ []) ++ part_begun S n u (parts_of S u)))
            ∙ ap (λ xs. old_out ++ xs) (sym (ap (unwritten S named deeper) before ∙ went S named n deeper (map (left S all) os) u us (names u i first ∙ ap numbered_name (sym number)) (subst (AreLow deeper) before low)));
      }

  -- ---- the first and the last step

  pub by_number-named : AreNamedAt all numbers (by_number all numbers)
  by_number-named u i e = ap (λ o. option_and_then (λ i. numbered_name (slice_index_or numbers i 0)) o) e

  pub step-shorter : (old_out new_out : List ℕ) (old new : List Open) (deeper : ℕ) → IsStep S all numbers old_out new_out old new → AreLow deeper (map (left S all) old) →
      length (unwritten S (by_number all numbers) deeper (map (left S all) new)) < length (unwritten S (by_number all numbers) deeper (map (left S all) old))
  step-shorter old_out new_out old new deeper g low =
      let more = unwritten S (by_number all numbers) deeper (map (left S all) new) in
      let rest = unwritten S (by_number all numbers) deeper (map (left S all) old) in
      omega (arith, g.longer, ap length (g.same (by_number all numbers) deeper by_number-named low), length-append new_out more, length-append old_out rest)

  pub last-placed : (os : List Open) (o : Open) → All IsPlaced (os ++ o ∷ []) → IsPlaced o
  last-placed [] o h = All-head IsPlaced o [] h
  last-placed (x ∷ os) o h = last-placed os o (All-tail IsPlaced x (os ++ o ∷ []) h)

  pub record Starts (i : ℕ) (old_out new_out : List ℕ) (os : List Open) : Type 0 where
    pub placed : All IsPlaced os
    pub low : AreLow (height (at all i)) (map (left S all) os)
    pub same : (named : Tree → Option (List ℕ)) → AreNamedAt all numbers named → new_out ++ unwritten S named (height (at all i)) (map (left S all) os) ≡ old_out ++ printed (written S (height (at all i)) named (at all i))

  pub starts : (i : ℕ) (old_out new_out : List ℕ) (os : List Open) → i < length all → is_value (at all i) ≡ true → new_out ≡ old_out ++ front S (form S (at all i)) → os ≡ begun S (form S (at all i)) (begin_at i) → Starts i old_out new_out os
  starts i old_out new_out os lt v w e =
      let u = at all i in
      let le : height u ≤ height u = omega arith in
      let same : map (left S all) os ≡ begun S (form S u) (parts_of S u) = ap (map (left S all)) e ∙ left-begun i (form S u) refl in
      record {
        placed = subst (All IsPlaced) (sym e) (begun-placed i (form S u) lt);
        low = subst (AreLow (height u)) (sym same) (first-low S (height u) u v le);
        same = λ named names.
            ap₂ (λ x y. x ++ unwritten S named (height u) y) w same
            ∙ append_assoc old_out (front S (form S u)) (unwritten S named (height u) (begun S (form S u) (parts_of S u)))
            ∙ ap (λ xs. old_out ++ xs) (sym (begun-written S named (height u) u le));
      }

pub named-at : (all : List Tree) (numbers : List ℕ) (named : Tree → Option (List ℕ)) → AreNamed all numbers named → AreNamedAt all numbers named
named-at all numbers named names u i e =
    let first = position-Some (tree_eq u) all i u e in
    go (slice_index_or numbers i 0) refl first.0 (tree_same u (slice_index_or all i u) first.1)
  where
    go : (n : ℕ) → slice_index_or numbers i 0 ≡ n → i < length all → u ≡ slice_index_or all i u → named u ≡ numbered_name n
    go zero is lt same = names.none i u lt same is
    go (suc k) is lt same = names.some i k u lt same is
