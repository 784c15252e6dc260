-- What a head makes of arguments that use known parameters alone uses those alone.
use Rattle.std.specs.Prelude.{◌≡◌, ℕ, Bool, true, false, ◌&&◌, nat_lt, nat_le, ◌==◌, if◌then◌else◌, List, [], ◌∷◌, length, drop, Option, Some, None, option_map, slice_get, codes, ◌%◌, ◌^◌, Ok, refl}
use Rattle.std.specs.List.{starts_with}
use Rattle.std.proofs.Common.{subst, sym, ◌∙◌}
use Rattle.std.proofs.lemmas.Bool.{eqb-true}
use Rattle.eo_base.specs.declared.FaultName.TheVariants.{BadCommand, BadArity}
use Rattle.eo_base.specs.Checks.{Checked}
use Rattle.eo_base.proofs.Tests.{both, join}
use Rattle.eo_lit.specs.Literals.{numeral}
use Rattle.eo_pattern.specs.Matching.{put}
use Rattle.eo_sexp.specs.Sexp.{Sexps, NoSexp, Next}
use Rattle.eo_shape.specs.Words.{symbol_of, numeral_of}
use Rattle.eo_sig.specs.Signature.{Attribute, Binder}
use Rattle.eo_term.specs.Tree.{Tree, Con, Bits, Op, to_trees, uses_only}
use Rattle.eo_names.specs.Contexts.{Context, Local, is_list, is_reference}
use Rattle.eo_names.specs.Folding.{applied, attribute_at, least, folded, arrow, plainly}
use Rattle.eo_names.specs.Meanings.{Resolved, ATree, AMacro, AnOperator, Nothing, meant_before, Word, Underscore, Arrow, Let, Annotation, Name, word_of}
use Rattle.eo_names.specs.Readers.{Reader, ◌>>=◌, read, built}
use Rattle.eo_elab.specs.Fitting.{FitsTerms}
use Rattle.eo_elab.specs.Meaning.{count, is_let, begins_with_pairs, is_annotated, bits_of, bit_vector, Application, Wrong, Binds, Uses, ListForm, ALet, AnAnnotation, ABitString, AnApplication, ATermFirst, where_many, at_least, exactly, plain_use, folded_use, constant_use, tree_use, meant_use, underscore_form, word_form, head_form, counted_form, list_form, used}
use Rattle.eo_elab.proofs.Uses.{arguments_use}
use Rattle.eo_elab.proofs.PutUses.{macro_uses}
use Rattle.eo_elab.proofs.FoldUses.{Within, AllWithin, PassesWithin, ok_within, applied_uses, folded_uses}
use Rattle.eo_elab.proofs.SymbolUses.{LocalsWithin, MeantWithin, meant_before_within}
use Rattle.eo_elab.proofs.ReadingUses.{Reads, bind_reads, fail_reads, read_reads, built_reads}

module _ (known : ℕ → Bool) where
  -- the arguments: known parameters alone, and one tree for each
  abbrev pub Given : Sexps → List Tree → Type 0
  Given args ts = AllWithin known ts × (length ts ≡ count args)

  -- of such arguments it makes what uses known parameters alone
  abbrev pub ApplicationFits : Sexps → Application → Type 0
  ApplicationFits args (Wrong fault) = Unit {0}
  ApplicationFits args (Binds f collector) = Unit {0}
  ApplicationFits args (Uses made) = (ts : List Tree) → Given args ts → PassesWithin known (made ts)

  abbrev HeadFits : Sexps → ListForm → Type 0
  HeadFits args ALet = Unit {0}
  HeadFits args AnAnnotation = Unit {0}
  HeadFits args (ABitString t) = Within known t
  HeadFits args (AnApplication u) = ApplicationFits args u
  HeadFits args ATermFirst = Unit {0}

  -- the form of a list with its head
  abbrev pub FormFits : Sexps → ListForm → Type 0
  FormFits NoSexp form = Unit {0}
  FormFits (Next h args) form = HeadFits args form

  -- ---- without a constant

  abbrev SomeWithin : Option Tree → Type 0
  SomeWithin None = Unit {0}
  SomeWithin (Some t) = Within known t

  bits_within : (b : Bool) (width : ℕ) (o : Option ℕ) → SomeWithin (if b then option_map (λ v. Bits width (v % 2 ^ width)) o else None)
  bits_within true width (Some v) = refl
  bits_within true width None = tt
  bits_within false width o = tt

  bits_of_within : (name : Option (List ℕ)) (width : Option ℕ) → SomeWithin (bits_of name width)
  bits_of_within (Some name) (Some width) =
      bits_within (nat_le 1 width && nat_le width 128 && starts_with ◌==◌ name (codes "bv")) width (numeral (drop 2 name))
  bits_of_within name width = tt

  bit_vector_within : (args : Sexps) → SomeWithin (bit_vector args)
  bit_vector_within (Next n (Next w NoSexp)) = bits_of_within (symbol_of n) (numeral_of w)
  bit_vector_within args = tt

  arrow_within : (ts : List Tree) → AllWithin known ts → Within known (arrow ts)
  arrow_within [] h = refl
  arrow_within (a ∷ []) h = (both h).0
  arrow_within (a ∷ b ∷ rest) h = join (both h).0 (arrow_within (b ∷ rest) (both h).1)

  plainly_within : (ts : List Tree) → AllWithin known ts → Within known (plainly ts)
  plainly_within [] h = refl
  plainly_within (f ∷ args) h = applied_uses known f args (both h).0 (both h).1

  -- ---- numbers of arguments

  where_many_fits : (args : Sexps) (b : Bool) (made : List Tree → Checked Tree) →
      (b ≡ true → (ts : List Tree) → Given args ts → PassesWithin known (made ts)) → ApplicationFits args (where_many b made)
  where_many_fits args true made h = h refl
  where_many_fits args false made h = tt

  at_least_fits : (args : Sexps) (n : ℕ) (made : List Tree → Checked Tree) →
      ((ts : List Tree) → AllWithin known ts → PassesWithin known (made ts)) → ApplicationFits args (at_least args n made)
  at_least_fits args n made h = where_many_fits args (nat_le n (count args)) made (λ e ts g. h ts g.0)

  exactly_fits : (args : Sexps) (n : ℕ) (made : List Tree → Checked Tree) →
      ((ts : List Tree) → AllWithin known ts → length ts ≡ n → PassesWithin known (made ts)) → ApplicationFits args (exactly args n made)
  exactly_fits args n made h = where_many_fits args (count args == n) made (λ e ts g. h ts g.0 (g.1 ∙ eqb-true (count args) n e))

  module _ (c : Context) (fits : FitsTerms c) (locals : List Local) (locals_fit : LocalsWithin known locals) where
    module _ (args : Sexps) where
      plain_fits : (f : Tree) → Within known f → ApplicationFits args (plain_use args f)
      plain_fits f u = at_least_fits args 1 (λ ts. Ok (applied f ts)) (λ ts g. ok_within known (applied f ts) (applied_uses known f ts u g))

      folded_fits : (f : ℕ) → ApplicationFits args (folded_use c locals args f)
      folded_fits f =
          at_least_fits args (least (attribute_at c.signature f)) (folded c.signature (is_list locals) f)
          (folded_uses known c.signature fits.folds (is_list locals) f)

      constant_fits : (f : ℕ) (a : Attribute) → ApplicationFits args (constant_use c locals args f a)
      constant_fits f (Binder collector) = by_pairs (begins_with_pairs args)
        where
          by_pairs : (b : Bool) → ApplicationFits args (if b then Binds f collector else folded_use c locals args f)
          by_pairs true = tt
          by_pairs false = folded_fits f
      constant_fits f a = folded_fits f

      pub tree_fits : (f : Tree) → Within known f → ApplicationFits args (tree_use c locals args f)
      tree_fits (Con f) u = constant_fits f (attribute_at c.signature f)
      tree_fits f u = plain_fits f u

      meant_fits : (m : Resolved) → MeantWithin known m → ApplicationFits args (meant_use c locals args m)
      meant_fits (ATree t) u = tree_fits t u
      meant_fits (AMacro m) u =
          exactly_fits args (length m.parameters) (λ ts. Ok (put (slice_get ts) m.tree))
          (λ ts g n.
          let bound = subst (λ (k : ℕ). uses_only (λ j. nat_lt j k) m.tree ≡ true) (sym n) u in
          ok_within known (put (slice_get ts) m.tree) (macro_uses known ts g m.tree bound))
      meant_fits (AnOperator code arity) u =
          exactly_fits args arity (λ ts. Ok (Op code (to_trees ts)))
          (λ ts g n. ok_within known (Op code (to_trees ts)) (arguments_use known ts g))
      meant_fits Nothing u = tt

      underscore_fits : (o : Option Tree) → SomeWithin o → HeadFits args (underscore_form c locals args o)
      underscore_fits (Some t) u = u
      underscore_fits None u =
          at_least_fits args 2 (λ ts. Ok (plainly ts)) (λ ts g. ok_within known (plainly ts) (plainly_within ts g))

      bits_or_none : (b : Bool) → SomeWithin (if b then bit_vector args else None)
      bits_or_none true = bit_vector_within args
      bits_or_none false = tt

      if_fits : (b : Bool) (form : ListForm) → HeadFits args form → HeadFits args (if b then form else AnApplication (Wrong BadCommand))
      if_fits true form u = u
      if_fits false form u = tt

      word_fits : (w : Word) (m : Resolved) → MeantWithin known m → HeadFits args (word_form c locals args w m)
      word_fits Underscore m u =
          underscore_fits (if is_reference c.file_kind then bit_vector args else None) (bits_or_none (is_reference c.file_kind))
      word_fits Arrow m u = at_least_fits args 2 (λ ts. Ok (arrow ts)) (λ ts g. ok_within known (arrow ts) (arrow_within ts g))
      word_fits Let m u = if_fits (is_let args) ALet tt
      word_fits Annotation m u = if_fits (is_annotated c.file_kind args) AnAnnotation tt
      word_fits Name m u = meant_fits m u

      head_fits : (word : Option (List ℕ)) → HeadFits args (head_form c locals args word)
      head_fits None = tt
      head_fits (Some name) = word_fits (word_of c.file_kind name) (meant_before c (count args) locals name) (meant_before_within known c fits locals locals_fit (count args) name)

      counted_fits : (word : Option (List ℕ)) → HeadFits args (counted_form c locals args word)
      counted_fits word = by_count (nat_le 1 (count args))
        where
          by_count : (b : Bool) → HeadFits args (if b then head_form c locals args word else AnApplication (Wrong BadArity))
          by_count true = head_fits word
          by_count false = tt

    pub form_fits : (ss : Sexps) → FormFits ss (list_form c locals ss)
    form_fits NoSexp = tt
    form_fits (Next h args) = counted_fits args (symbol_of h)

  -- ---- readings

  pub used_reads : (c : Context) (args : Sexps) (u : Application) → ApplicationFits args u →
      (arguments : Reader (List Tree)) → Reads known c arguments (Given args) →
      (in_binder : ℕ → Reader (List Tree)) → ((k : ℕ) → Reads known c (in_binder k) (AllWithin known)) →
      Reads known c (used u arguments in_binder) (Within known)
  used_reads c args (Wrong fault) f arguments h in_binder k = fail_reads known c (Within known) fault
  used_reads c args (Binds f collector) x arguments h in_binder k =
      bind_reads known c (AllWithin known) (Within known) (in_binder collector) (λ ts. built (applied (Con f) ts)) (k collector)
      (λ ts g. built_reads known c (applied (Con f) ts) (applied_uses known (Con f) ts refl g))
  used_reads c args (Uses made) f arguments h in_binder k =
      bind_reads known c (Given args) (Within known) arguments (λ ts. read (made ts) >>= built) h
      (λ ts g. bind_reads known c (Within known) (Within known) (read (made ts)) built
      (read_reads known c (Within known) (made ts) (f ts g)) (built_reads known c))
