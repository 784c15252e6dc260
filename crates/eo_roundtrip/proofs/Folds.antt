-- What a constant makes of arguments where its form is written by its name.
use Rattle.std.specs.Prelude.{◌≡◌, refl, ℕ, suc, ◌≤◌, ◌==◌, Bool, true, false, ◌&&◌, nat_le, nat_lt, List, [], ◌∷◌, length, if◌then◌else◌, Option, Some, None, option_and_then, Ok, Err}
use Rattle.std.specs.Option.{option_map_or}
use Rattle.std.proofs.lemmas.Option.{same_Some}
use Rattle.std.proofs.Common.{◌∙◌, ap, arith}
use Rattle.std.proofs.lemmas.Bool.{le-leb, le-ltb, eqb-true}
use Rattle.eo_base.proofs.Tests.{both}
use Rattle.eo_base.specs.declared.FaultName.TheVariants.{BadArity}
use Rattle.eo_term.specs.Tree.{Tree, Con, Par}
use Rattle.eo_lists.specs.Lists.{link, spell}
use Rattle.eo_sexp.specs.Sexp.{Sexp, sexps_of}
use Rattle.eo_sexp.specs.Printing.{placed_others}
use Rattle.eo_sig.specs.Signature.{Signature, Macro, Constant, constant_at, terminator, terminator_of, Attribute, Plain, RightNil, LeftNil, Right, Left, Chain, Pairs, Binder}
use Rattle.eo_names.specs.Contexts.{Context, is_list}
use Rattle.eo_names.specs.Meanings.{ATree}
use Rattle.eo_names.specs.Folding.{applied, last_onto, list_onto, right_nil, least, attribute_at, by_attribute, folded, folded_within}
use Rattle.eo_elab.specs.Meaning.{count, Uses, where_many, folded_use, constant_use, meant_use}
use Rattle.eo_show.specs.Forms.{joins_two, joins_plainly}
use Rattle.eo_roundtrip.proofs.Stands.{AllStand}
use Rattle.eo_roundtrip.proofs.Uses.{context_of, count-placed}

none-listed : (t : Tree) → is_list [] t ≡ false
none-listed (Par i) = refl
none-listed t = refl

-- items of which none represents a list are spelled
right_nil-spells : (f n a : Tree) (args : List Tree) → right_nil (is_list []) f n (a ∷ args) ≡ spell f n (a ∷ args)
right_nil-spells f n a [] = ap (λ b. last_onto b f a n) (none-listed a)
right_nil-spells f n a (b ∷ args) = ap (λ l. list_onto l f a (right_nil (is_list []) f n (b ∷ args))) (none-listed a) ∙ ap (link f a) (right_nil-spells f n b args)

abbrev pub IsFolded : Attribute → Type 0
IsFolded (Binder k) = ⊥
IsFolded a = Unit {0}

module _ (S : Signature) (macros : List Macro) where
  abbrev c : Context
  c = context_of S macros

  pub stand-length : (ms ts : List Tree) → AllStand S ms ts → length ms ≡ length ts
  stand-length [] [] h = refl
  stand-length [] (t ∷ ts) h = elim h [ ]
  stand-length (m ∷ ms) [] h = elim h [ ]
  stand-length (m ∷ ms) (t ∷ ts) h = ap suc (stand-length ms ts h.1)

  -- the number of a constant as the head of enough arguments
  pub constant-use : (k : ℕ) (a : Attribute) (ss : List Sexp) → attribute_at S k ≡ a → IsFolded a → least a ≤ length ss → (at : ℕ) →
      meant_use c [] (placed_others at (sexps_of ss)) (ATree (Con k)) ≡ Uses (folded S (is_list []) k)
  constant-use k a ss e folds enough at =
      let args = placed_others at (sexps_of ss) in
      let many : nat_le (least (attribute_at S k)) (count args) ≡ true = ap (λ b. nat_le (least b) (count args)) e ∙ ap (nat_le (least a)) (count-placed S macros at ss) ∙ le-leb (least a) (length ss) enough in
      ap (constant_use c [] args k) e ∙ go a folds ∙ ap (λ b. where_many b (folded S (is_list []) k)) many
    where
      go : (a : Attribute) → IsFolded a → constant_use c [] (placed_others at (sexps_of ss)) k a ≡ folded_use c [] (placed_others at (sexps_of ss)) k
      go (Binder k') h = elim h [ ]
      go a' h = refl

  -- ---- what is made of them

  folds : (k : ℕ) (a : Attribute) (ms : List Tree) → attribute_at S k ≡ a → least a ≤ length ms → folded S (is_list []) k ms ≡ by_attribute (folded_within k S (is_list [])) (is_list []) (Con k) a ms
  unfolding folded
  folds k a ms e enough =
      let few : nat_lt (length ms) (least (attribute_at S k)) ≡ false = ap (λ b. nat_lt (length ms) (least b)) e ∙ le-ltb (length ms) (least a) enough in
      ap (λ (b : Bool). if b then Err BadArity else by_attribute (folded_within k S (is_list [])) (is_list []) (Con k) (attribute_at S k) ms) few
      ∙ ap (λ b. by_attribute (folded_within k S (is_list [])) (is_list []) (Con k) b ms) e

  -- a list by its items
  pub list-made : (k : ℕ) (n : Tree) (ms : List Tree) → attribute_at S k ≡ RightNil n → 1 ≤ length ms → folded S (is_list []) k ms ≡ Ok (spell (Con k) n ms)
  list-made k n [] e some = absurd (omega arith)
  list-made k n (m ∷ ms) e some = folds k (RightNil n) (m ∷ ms) e some ∙ ap Ok (right_nil-spells (Con k) n m ms)

  -- arguments that are applied plainly
  pub plain-made : (k : ℕ) (a : Attribute) (ms : List Tree) → attribute_at S k ≡ a → 1 ≤ length ms → joins_plainly a (length ms) ≡ true → folded S (is_list []) k ms ≡ Ok (applied (Con k) ms)
  plain-made k a ms e some joins = go a ms some joins (λ enough. folds k a ms e enough)
    where
      two : (a : Attribute) (ms : List Tree) → (length ms == 2 && joins_two a) ≡ true →
          (least a ≤ length ms → folded S (is_list []) k ms ≡ by_attribute (folded_within k S (is_list [])) (is_list []) (Con k) a ms) → folded S (is_list []) k ms ≡ Ok (applied (Con k) ms)
      two a [] j h = cc
      two a (x ∷ []) j h = cc
      two Plain (x ∷ y ∷ []) j h = h (omega arith)
      two Right (x ∷ y ∷ []) j h = h (omega arith)
      two Left (x ∷ y ∷ []) j h = h (omega arith)
      two (Chain g) (x ∷ y ∷ []) j h = h (omega arith)
      two (Pairs g) (x ∷ y ∷ []) j h = h (omega arith)
      two (RightNil n) (x ∷ y ∷ []) j h = cc
      two (LeftNil n) (x ∷ y ∷ []) j h = cc
      two (Binder g) (x ∷ y ∷ []) j h = cc
      two a (x ∷ y ∷ z ∷ ms) j h = absurd (omega (arith, eqb-true (length (x ∷ y ∷ z ∷ ms)) 2 (both j).0))

      go : (a : Attribute) (ms : List Tree) → 1 ≤ length ms → joins_plainly a (length ms) ≡ true →
          (least a ≤ length ms → folded S (is_list []) k ms ≡ by_attribute (folded_within k S (is_list [])) (is_list []) (Con k) a ms) → folded S (is_list []) k ms ≡ Ok (applied (Con k) ms)
      go Plain ms some j h = h some
      go a ms some j h = two a ms j h

  pub terminator-attribute : (k : ℕ) (n : Tree) → terminator S k ≡ Some n → attribute_at S k ≡ RightNil n
  terminator-attribute k n e = go (constant_at S k) e
    where
      by : (a : Attribute) → terminator_of a ≡ Some n → a ≡ RightNil n
      by (RightNil m) h = ap RightNil (same_Some m n h)
      by Plain h = cc
      by (LeftNil m) h = cc
      by Right h = cc
      by Left h = cc
      by (Chain g) h = cc
      by (Pairs g) h = cc
      by (Binder g) h = cc

      go : (o : Option Constant) → option_and_then (λ d. terminator_of d.attribute) o ≡ Some n → option_map_or (λ d. d.attribute) o Plain ≡ RightNil n
      go None h = cc
      go (Some d) h = by d.attribute h
