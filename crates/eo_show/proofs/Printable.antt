-- Each line of a value can be printed within the limits of texts.
use Rattle.std.specs.Prelude.{◌≡◌, refl, ℕ, suc, ◌+◌, ◌*◌, ◌≤◌, Bool, true, false, ◌&&◌, nat_le, nat_lt, List, [], ◌∷◌, ◌++◌, map, length, if◌then◌else◌, codes, Option, Some, None, All}
use Rattle.std.proofs.Common.{ap, arith, length-append}
use Rattle.std.proofs.lemmas.Bool.{leb-true, ltb-false}
use Rattle.std.proofs.lemmas.List.{length-map}
use Rattle.std.proofs.lemmas.List.Elements.{All-head, All-tail}
use Rattle.eo_show.proofs.Ranges.{named-range, counted-range}
use Rattle.eo_base.specs.Limits.{limits}
use Rattle.eo_base.proofs.Tests.{both}
use Rattle.eo_term.specs.Tree.{Tree, Con, Num, Bits, Str, Par, Var, App, Arr, Qar, Op, is_value}
use Rattle.eo_lit.specs.Literals.{Literal, Number, BitString}
use Rattle.eo_lit.specs.Spelling.{literal_spelling, string_spelling}
use Rattle.eo_sexp.specs.AtomKind as kind
use Rattle.eo_sexp.specs.Sexp.{Sexp, sexps_of, children_of}
use Rattle.eo_sexp.specs.Lexicon.{is_word, begins_digit, kind_of}
use Rattle.eo_sexp.specs.Printing.{printed, printed_others, printed_atom, is_text_of, is_word_of}
use Rattle.eo_sexp.proofs.ReadSymbols.{words-quotable}
use Rattle.eo_sig.specs.Signature.{Signature, constant_named}
use Rattle.eo_show.specs.Forms.{symbol, list, name_of, attribute_of, takes, Form, Leaf, Folded, Plainly, Function, Variable, most_arguments, head_of, arguments_of, joins_plainly, list_of, is_short_list, by_head, chain, list_or, form, parts, with_parts, counted}
use Rattle.eo_show.specs.Members.{nesting, nesting_all, has_no_spelling}
use Rattle.eo_show.specs.Printable.{IsPrintedName, ArePrintedNames}
use Rattle.eo_term.specs.Ranges.{IsInRange}
use Rattle.eo_show.proofs.Leaves.{literal-word, length-literal, width_of, string-body}
use Rattle.eo_show.proofs.FormFacts.{is_this-is}
use Rattle.eo_show.proofs.PartsHold.{spelled-is}
use Rattle.eo_show.proofs.Depths.{IsSound, AllSound}

module _ (S : Signature) where
  -- the atoms of a form can be printed, and it is not too wide
  abbrev pub FormSound : Form → Type 0
  FormSound (Leaf k text) = (is_text_of k text ≡ true) × (length (printed_atom k text) ≤ limits.token)
  FormSound (Folded c args) = IsPrintedName (name_of S c) × (length args ≤ 1000)
  FormSound (Plainly h args) = length args ≤ 1000
  FormSound (Function a b) = Unit {0}
  FormSound (Variable s t) = Unit {0}

  by_head-sound : (h : Tree) (args : List Tree) → ArePrintedNames S → length args ≤ 64 → FormSound (by_head S h args)
  by_head-sound (Con k) args names few = go (takes S k (length args) && joins_plainly (attribute_of S k) (length args)) refl
    where
      go : (b : Bool) → (takes S k (length args) && joins_plainly (attribute_of S k) (length args)) ≡ b → FormSound (if b then Folded k args else Plainly (Con k) args)
      go true e = (names k (counted-range S (name_of S k) (length args) k (is_this-is S k (counted S (name_of S k) (length args)) (both e).0)), omega arith)
      go false e = omega arith
  by_head-sound h args names few = omega arith

  chain-sound : (f x : Tree) → ArePrintedNames S → FormSound (chain S f x)
  chain-sound f x names = go (nat_le (length (arguments_of (App f x))) most_arguments) refl
    where
      go : (b : Bool) → nat_le (length (arguments_of (App f x))) most_arguments ≡ b → FormSound (if b then by_head S (head_of f) (arguments_of (App f x)) else Plainly f (x ∷ []))
      go true e = by_head-sound (head_of f) (arguments_of (App f x)) names (leb-true (length (arguments_of (App f x))) 64 e)
      go false e = omega arith

  application-sound : (f x : Tree) → ArePrintedNames S → (o : Option (ℕ × List Tree)) → FormSound (list_or S o (chain S f x))
  application-sound f x names None = chain-sound f x names
  application-sound f x names (Some l) = go (is_short_list S l) refl
    where
      go : (b : Bool) → is_short_list S l ≡ b → FormSound (if b then Folded l.0 l.1 else chain S f x)
      go true e = (names l.0 (counted-range S (name_of S l.0) (length l.1) l.0 (is_this-is S l.0 (counted S (name_of S l.0) (length l.1)) (both e).1)), leb-true (length l.1) 1000 (both (both e).0).1)
      go false e = chain-sound f x names

  literal-sound : (l : Literal) → width_of l ≤ 128 → FormSound (Leaf kind.Literal (literal_spelling l))
  unfolding printed_atom limits
  literal-sound l few = (literal-word l, omega (arith, length-literal l))

  string-sound : (s : List ℕ) → nat_lt 1_048_576 (2 + length (string_spelling s)) ≡ false → FormSound (Leaf kind.String (string_spelling s))
  unfolding printed_atom limits
  string-sound s e = (string-body s, omega (arith, ltb-false 1_048_576 (2 + length (string_spelling s)) e, length-append (string_spelling s) (codes "\"")))

  name-sound : (k : ℕ) → ArePrintedNames S → constant_named S (name_of S k) ≡ Some k → FormSound (Leaf kind.Symbol (name_of S k))
  name-sound k names e = names k (named-range S (name_of S k) k e)

  pub form-sound : (t : Tree) → ArePrintedNames S → is_value t ≡ true → IsInRange t → has_no_spelling S t ≡ false → FormSound (form S t)
  unfolding form
  form-sound (Con k) names v fits e = name-sound k names (spelled-is S (Con k) e fits)
  form-sound (Num z) names v fits e = literal-sound (Number z) (omega arith)
  form-sound (Bits w x) names v fits e = literal-sound (BitString w x) fits.0
  form-sound (Str s) names v fits e = string-sound s e
  form-sound (Par i) names v fits e = cc
  form-sound (Var s t) names v fits e = tt
  form-sound (App f x) names v fits e = application-sound f x names (list_of S (App f x))
  form-sound (Arr a b) names v fits e = tt
  form-sound (Qar i t b) names v fits e = cc
  form-sound (Op c ts) names v fits e = cc

  -- ---- lists

  all-sound : (part : Tree → Sexp) (ts : List Tree) → All (λ p. IsSound limits (part p)) ts → AllSound limits (sexps_of (map part ts))
  all-sound part [] all = tt
  all-sound part (t ∷ ts) all = (All-head (λ p. IsSound limits (part p)) t ts all, all-sound part ts (All-tail (λ p. IsSound limits (part p)) t ts all))

  children-count : (ss : List Sexp) → length (children_of (sexps_of ss)) ≡ length ss
  children-count [] = refl
  children-count (s ∷ ss) = ap suc (children-count ss)

  list-sound : (word : List ℕ) (part : Tree → Sexp) (ts : List Tree) → IsPrintedName word → length ts ≤ 1001 → All (λ p. IsSound limits (part p)) ts → IsSound limits (list (symbol word ∷ map part ts))
  unfolding limits
  list-sound word part ts name few all = (omega (arith, children-count (map part ts), length-map ts part), (name, all-sound part ts all))

  pub word-name : (word : List ℕ) → is_word_of kind.Symbol word ≡ true → length word ≤ 1000 → IsPrintedName word
  unfolding printed_atom limits
  word-name [] e few = cc
  word-name (x ∷ xs) e few = (words-quotable (x ∷ xs) (both e).0, rw e (omega arith))

  underscore-name : IsPrintedName (codes "_")
  unfolding is_word kind_of begins_digit
  underscore-name = word-name (codes "_") refl (omega arith)

  arrow-name : IsPrintedName (codes "->")
  unfolding is_word kind_of begins_digit
  arrow-name = word-name (codes "->") refl (omega arith)

  var-name : IsPrintedName (codes "eo::var")
  unfolding is_word kind_of begins_digit
  var-name = word-name (codes "eo::var") refl (omega arith)

  pub with_parts-sound : (part : Tree → Sexp) (F : Form) → FormSound F → All (λ p. IsSound limits (part p)) (parts S F) → IsSound limits (with_parts S part F)
  with_parts-sound part (Leaf k text) h all = h
  with_parts-sound part (Folded c args) h all = list-sound (name_of S c) part args h.0 (omega (arith, h.1)) all
  with_parts-sound part (Plainly head args) h all = list-sound (codes "_") part (head ∷ args) underscore-name (omega arith) all
  with_parts-sound part (Function a b) h all = list-sound (codes "->") part (a ∷ b ∷ []) arrow-name (omega arith) all
  with_parts-sound part (Variable s t) h all = list-sound (codes "eo::var") part (Str s ∷ t ∷ []) var-name (omega arith) all

  -- ---- sizes

  abbrev pub SmallPart : Sexp → Type 0
  SmallPart s = (nesting s ≤ 62) × (length (printed s) ≤ 4095)

  abbrev pub SmallLayer : Sexp → Type 0
  SmallLayer s = (nesting s ≤ 63) × (length (printed s) ≤ 8_000_000)

  others-small : (part : Tree → Sexp) (ts : List Tree) → All (λ p. SmallPart (part p)) ts → (nesting_all (sexps_of (map part ts)) ≤ 62) × (length (printed_others (sexps_of (map part ts))) ≤ length ts * 4096)
  others-small part [] all = (omega arith, omega arith)
  others-small part (t ∷ ts) all = go (All-head (λ p. SmallPart (part p)) t ts all) (others-small part ts (All-tail (λ p. SmallPart (part p)) t ts all))
    where
      go : SmallPart (part t) → (nesting_all (sexps_of (map part ts)) ≤ 62) × (length (printed_others (sexps_of (map part ts))) ≤ length ts * 4096) →
          (nesting_all (sexps_of (map part (t ∷ ts))) ≤ 62) × (length (printed_others (sexps_of (map part (t ∷ ts)))) ≤ suc (length ts) * 4096)
      go a b = (omega (arith, a.0, b.0), omega (arith, a.1, b.1, length-append (printed (part t)) (printed_others (sexps_of (map part ts)))))

  list-small : (word : List ℕ) (part : Tree → Sexp) (ts : List Tree) → IsPrintedName word → length ts ≤ 1001 → All (λ p. SmallPart (part p)) ts → SmallLayer (list (symbol word ∷ map part ts))
  unfolding limits
  list-small word part ts name few all =
      let o = others-small part ts all in (
        omega (arith, o.0),
        omega (arith, o.1, name.1, few, length-append (printed (symbol word) ++ printed_others (sexps_of (map part ts))) (codes ")"), length-append (printed (symbol word)) (printed_others (sexps_of (map part ts)))),
      )

  pub with_parts-small : (part : Tree → Sexp) (F : Form) → FormSound F → All (λ p. SmallPart (part p)) (parts S F) → SmallLayer (with_parts S part F)
  unfolding limits
  with_parts-small part (Leaf k text) h all = (omega arith, omega (arith, h.1))
  with_parts-small part (Folded c args) h all = list-small (name_of S c) part args h.0 (omega (arith, h.1)) all
  with_parts-small part (Plainly head args) h all = list-small (codes "_") part (head ∷ args) underscore-name (omega arith) all
  with_parts-small part (Function a b) h all = list-small (codes "->") part (a ∷ b ∷ []) arrow-name (omega arith) all
  with_parts-small part (Variable s t) h all = list-small (codes "eo::var") part (Str s ∷ t ∷ []) var-name (omega arith) all
