-- Forms that are written as lists, and their sizes.
use Rattle.std.specs.Prelude.{◌≡◌, refl, ℕ, suc, Bool, true, false, ◌&&◌, ◌||◌, nat_le, if◌then◌else◌, List, [], ◌∷◌, ◌++◌, map, fold, length, codes, All, Contains}
use Rattle.std.proofs.Common.{sym, ap, ap₂, ◌∙◌, subst, arith, append-nil, append_assoc}
use Rattle.std.proofs.lemmas.Bool.{le-leb}
use Rattle.std.proofs.lemmas.List.{map-append, length-map}
use Rattle.std.proofs.lemmas.List.Elements.{All-head, All-tail, All-weaker, All-contains_itself}
use Rattle.eo_sexp.specs.AtomKind.{AtomKind}
use Rattle.eo_sexp.specs.Lexicon.{is_word, begins_digit, kind_of}
use Rattle.eo_sexp.specs.Sexp.{Sexp}
use Rattle.eo_sexp.specs.Printing.{printed, printed_atom}
use Rattle.eo_sig.specs.Signature.{Signature}
use Rattle.eo_term.specs.Tree.{Tree, is_value, tree_eq}
use Rattle.eo_term.specs.Terms.{Terms}
use Rattle.eo_term.proofs.Equality.{tree_same, tree_refl}
use Rattle.eo_show.specs.declared.parts.Form as code_form
use Rattle.eo_show.specs.declared.sizes.Size.{Size}
use Rattle.eo_show.specs.declared.Shape.TheVariants as shape
use Rattle.eo_show.specs.Forms.{Form, Leaf, Folded, Plainly, Function, Variable, form, parts, with_parts, atom, symbol, list, name_of}
use Rattle.eo_show.specs.Members.{parts_of, has_parts, places, is_defined, stand_in, nesting}
use Rattle.eo_show.specs.Plan.{IsForm, member_trees, shape_of, up_to}
use Rattle.eo_show.specs.Sizes.{head, size_of, list_size, with_part, own, as_part, part_size, gets_line}
use Rattle.eo_show.specs.Written.{IsNext, Ordered}
use Rattle.eo_show.proofs.Sized.{list-sized}
use Rattle.eo_show.proofs.MembersAt.{own-form}

-- ---- the shape

pub leaf-is : (F : Form) → shape_of F ≡ shape.Leaf → (k : AtomKind) × (text : List ℕ) × (F ≡ Leaf k text)
leaf-is (Leaf k text) e = (k, text, refl)
leaf-is (Folded c args) e = cc
leaf-is (Plainly h args) e = cc
leaf-is (Function a b) e = cc
leaf-is (Variable s t) e = cc

-- the name of the symbol that a list begins with
abbrev pub first : Signature → Form → List ℕ
first S (Leaf k text) = []
first S (Folded c args) = name_of S c
first S (Plainly h args) = codes "_"
first S (Function a b) = codes "->"
first S (Variable s t) = codes "eo::var"

module _ (S : Signature) where
  pub printed-first : (F : Form) → (shape_of F ≡ shape.Leaf → ⊥) → printed (symbol (first S F)) ≡ head S (shape_of F)
  unfolding printed_atom is_word begins_digit kind_of
  printed-first (Leaf k text) unlike = absurd (unlike refl)
  printed-first (Folded c args) unlike = refl
  printed-first (Plainly h args) unlike = refl
  printed-first (Function a b) unlike = refl
  printed-first (Variable s t) unlike = refl

  pub list-form : (F : Form) (g : Tree → Sexp) → (shape_of F ≡ shape.Leaf → ⊥) → with_parts S g F ≡ list (symbol (first S F) ∷ map g (parts S F))
  list-form (Leaf k text) g unlike = absurd (unlike refl)
  list-form (Folded c args) g unlike = refl
  list-form (Plainly h args) g unlike = refl
  list-form (Function a b) g unlike = refl
  list-form (Variable s t) g unlike = refl

-- ---- sizes

pub stand_in-sized : record { height = 1; bytes = 24 } ≡ size_of stand_in
unfolding printed_atom is_word begins_digit kind_of
stand_in-sized = refl

module _ (S : Signature) (all : List Tree) where
  pub own-atom : (u : Tree) → is_value u ≡ true → (k : AtomKind) (text : List ℕ) → form S u ≡ Leaf k text → own S all u ≡ atom k text
  own-atom u v k text e = own-form S all u v ∙ ap (with_parts S (as_part S all)) e

  sizes-of : (us : List Tree) → map (part_size S all) us ≡ map size_of (map (as_part S all) us)
  sizes-of [] = refl
  sizes-of (u ∷ us) = ap (λ ss. part_size S all u ∷ ss) (sizes-of us)

  pub own-list : (t : Terms) (u : Tree) (f : code_form.Form) → is_value u ≡ true → IsForm S t (form S u) f.shape f.parts.items → (f.shape ≡ shape.Leaf → ⊥) →
      fold with_part (list_size (length (head S f.shape))) (map (part_size S all) (member_trees t f.parts.items)) ≡ size_of (own S all u)
  own-list t u f v is unlike =
      let inner : shape_of (form S u) ≡ shape.Leaf → ⊥ = λ e. unlike (is.shape ∙ e) in
      ap₂ (λ n us. fold with_part (list_size n) (map (part_size S all) us)) (ap (λ s. length (head S s)) is.shape ∙ ap length (sym (printed-first S (form S u) inner))) is.parts.trees
      ∙ ap (fold with_part (list_size (length (printed (symbol (first S (form S u))))))) (sizes-of (parts_of S u))
      ∙ list-sized (first S (form S u)) (map (as_part S all) (parts_of S u))
      ∙ ap size_of (sym (own-form S all u v ∙ list-form S (form S u) (as_part S all) inner))

  -- ---- which members get a line

  at_most : (bound n : ℕ) → nat_le bound (up_to bound n) ≡ nat_le bound n
  at_most bound n = go (nat_le bound n) refl
    where
      go : (b : Bool) → nat_le bound n ≡ b → nat_le bound (if b then bound else n) ≡ b
      go true e = le-leb bound bound (omega arith)
      go false e = e

  pub wanted-is : (t : Terms) (u : Tree) (f : code_form.Form) (found : ℕ) (size : Size) → IsForm S t (form S u) f.shape f.parts.items → found ≡ up_to 2 (places S all u) → size ≡ size_of (own S all u) →
      ((nat_le 1 (length f.parts.items) && nat_le 2 found) || nat_le 64 size.height || nat_le 4096 size.bytes) ≡ is_defined S all u
  wanted-is t u f found size is at z =
      let shared : (nat_le 1 (length f.parts.items) && nat_le 2 found) ≡ (has_parts S all u && nat_le 2 (places S all u)) =
      ap₂ (λ n b. nat_le 1 n && b) (sym (length-map f.parts.items _) ∙ ap length is.parts.trees) (ap (nat_le 2) at ∙ at_most 2 (places S all u)) in
      let high : nat_le 64 size.height ≡ nat_le 64 (suc (nesting (own S all u))) = ap (λ (s : Size). nat_le 64 s.height) z ∙ at_most 64 (suc (nesting (own S all u))) in
      let long : nat_le 4096 size.bytes ≡ nat_le 4096 (length (printed (own S all u))) = ap (λ (s : Size). nat_le 4096 s.bytes) z ∙ at_most 4096 (length (printed (own S all u))) in
      ap₂ (λ a b. a || b) (ap₂ (λ a b. a || b) shared high) long

  pub part-size-is : (u : Tree) (b : Bool) (size : Size) → b ≡ is_defined S all u → size ≡ size_of (own S all u) → (if b then size_of stand_in else size) ≡ part_size S all u
  part-size-is u b size e z = ap₂ (λ b size. if b then size_of stand_in else size) e z ∙ go (is_defined S all u)
    where
      go : (b : Bool) → (if b then size_of stand_in else size_of (own S all u)) ≡ size_of (if b then stand_in else own S all u)
      go true = refl
      go false = refl

  -- ---- the value itself

  last-next : (pre xs : List Tree) (y : Tree) → Ordered S pre (xs ++ y ∷ []) → IsNext S (pre ++ xs) y
  last-next pre [] y o = subst (λ us. IsNext S us y) (sym (append-nil pre)) o.0
  last-next pre (x ∷ xs) y o = subst (λ us. IsNext S us y) (append_assoc pre (x ∷ []) xs) (last-next (pre ++ x ∷ []) xs y o.1)

  pub lines-end : (front : List Tree) (top : Tree) → Ordered S [] all → all ≡ front ++ top ∷ [] → map (is_defined S all) front ++ true ∷ [] ≡ map (gets_line S all top) all
  lines-end front top o e =
      let next = last-next [] front top (subst (Ordered S []) e o) in
      ap₂ (λ bs b. bs ++ b ∷ []) (same front (All-weaker (Contains front) (λ x. tree_eq x top ≡ false) (λ x c. other x c next.new) front (All-contains_itself front))) (sym (itself (tree_eq top top) (tree_refl top)))
      ∙ sym (map-append (gets_line S all top) front (top ∷ [])) ∙ ap (map (gets_line S all top)) (sym e)
    where
      itself : (b : Bool) → b ≡ true → (b || is_defined S all top) ≡ true
      itself true h = refl
      itself false h = cc

      other : (x : Tree) → Contains front x → (Contains front top → ⊥) → tree_eq x top ≡ false
      other x c unlike = go (tree_eq x top) refl
        where
          go : (b : Bool) → tree_eq x top ≡ b → b ≡ false
          go true h = absurd (unlike (subst (Contains front) (tree_same x top h) c))
          go false h = refl

      same : (xs : List Tree) → All (λ x. tree_eq x top ≡ false) xs → map (is_defined S all) xs ≡ map (gets_line S all top) xs
      same [] h = refl
      same (x ∷ xs) h = ap₂ (λ b bs. b ∷ bs) (sym (ap (λ b. b || is_defined S all x) (All-head (λ x. tree_eq x top ≡ false) x xs h))) (same xs (All-tail (λ x. tree_eq x top ≡ false) x xs h))
