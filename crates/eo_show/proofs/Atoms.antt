-- Trees that are written as atoms.
use Rattle.std.specs.Prelude.{◌≡◌, refl, ℕ, Bool, true, false, ◌&&◌, nat_le, if◌then◌else◌, List, [], ◌∷◌, length, Option, Some, None}
use Rattle.std.proofs.Common.{sym, ap, ◌∙◌, true≢false}
use Rattle.eo_lit.specs.Spelling.{string_spelling}
use Rattle.eo_sexp.specs.AtomKind as kind
use Rattle.eo_sexp.specs.Printing.{printed_atom, in_quotes}
use Rattle.eo_term.specs.Tree.{Tree, Con, Str, Var, App, Arr}
use Rattle.eo_sig.specs.Signature.{Signature}
use Rattle.eo_show.specs.Forms.{Form, Leaf, Folded, Plainly, Function, Variable, name_of, by_head, chain, list_or, list_of, head_of, arguments_of, is_short_list, most_arguments, takes, joins_plainly, attribute_of, form}
use Rattle.eo_show.specs.Plan.{IsSpelled}
use Rattle.eo_show.proofs.Kept.{is_leaf}

abbrev leaf_bytes : Form → List ℕ
leaf_bytes (Leaf k text) = printed_atom k text
leaf_bytes (Folded c args) = []
leaf_bytes (Plainly h args) = []
leaf_bytes (Function a b) = []
leaf_bytes (Variable s u) = []

module _ (S : Signature) where
  spelled : (u : Tree) (bytes : List ℕ) → bytes ≡ leaf_bytes (form S u) → IsSpelled S u bytes
  spelled u bytes h k text e = h ∙ ap leaf_bytes e

  no_leaf : (u : Tree) (bytes : List ℕ) → is_leaf S (form S u) ≡ false → IsSpelled S u bytes
  no_leaf u bytes h k text e = absurd (true≢false (sym (ap (is_leaf S) e) ∙ h))

  pub con_bytes : (k : ℕ) (bytes : List ℕ) → bytes ≡ printed_atom kind.Symbol (name_of S k) → IsSpelled S (Con k) bytes
  unfolding form
  con_bytes k bytes h = spelled (Con k) bytes h

  pub literal_bytes : (u : Tree) (text bytes : List ℕ) → form S u ≡ Leaf kind.Literal text → bytes ≡ text → IsSpelled S u bytes
  unfolding printed_atom
  literal_bytes u text bytes e h = spelled u bytes (h ∙ ap leaf_bytes (sym e))

  pub string_bytes : (x bytes : List ℕ) → bytes ≡ in_quotes (string_spelling x) → IsSpelled S (Str x) bytes
  unfolding form printed_atom
  string_bytes x bytes h = spelled (Str x) bytes h

  pub other_bytes : (u : Tree) (bytes : List ℕ) → form S u ≡ Leaf kind.Symbol [] → bytes ≡ printed_atom kind.Symbol [] → IsSpelled S u bytes
  other_bytes u bytes e h = spelled u bytes (h ∙ ap leaf_bytes (sym e))

  head_no_leaf : (h : Tree) (args : List Tree) → is_leaf S (by_head S h args) ≡ false
  head_no_leaf (Con c) args = go (takes S c (length args) && joins_plainly (attribute_of S c) (length args))
    where
      go : (b : Bool) → is_leaf S (if b then Folded c args else Plainly (Con c) args) ≡ false
      go true = refl
      go false = refl
  head_no_leaf h args = refl

  chain_no_leaf : (f x : Tree) → is_leaf S (chain S f x) ≡ false
  chain_no_leaf f x = go (nat_le (length (arguments_of (App f x))) most_arguments)
    where
      go : (b : Bool) → is_leaf S (if b then by_head S (head_of f) (arguments_of (App f x)) else Plainly f (x ∷ [])) ≡ false
      go true = head_no_leaf (head_of f) (arguments_of (App f x))
      go false = refl

  pub app_bytes : (f x : Tree) (bytes : List ℕ) → IsSpelled S (App f x) bytes
  unfolding form
  app_bytes f x bytes = no_leaf (App f x) bytes (go (list_of S (App f x)))
    where
      short : (l : ℕ × List Tree) (b : Bool) → is_leaf S (if b then Folded l.0 l.1 else chain S f x) ≡ false
      short l true = refl
      short l false = chain_no_leaf f x

      go : (o : Option (ℕ × List Tree)) → is_leaf S (list_or S o (chain S f x)) ≡ false
      go None = chain_no_leaf f x
      go (Some l) = short l (is_short_list S l)

  pub var_bytes : (x : List ℕ) (u : Tree) (bytes : List ℕ) → IsSpelled S (Var x u) bytes
  unfolding form
  var_bytes x u bytes = no_leaf (Var x u) bytes refl

  pub arr_bytes : (a b : Tree) (bytes : List ℕ) → IsSpelled S (Arr a b) bytes
  unfolding form
  arr_bytes a b bytes = no_leaf (Arr a b) bytes refl
