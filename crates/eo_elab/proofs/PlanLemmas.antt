-- How a head uses its arguments.
use Rattle.std.proofs.Common.{◌≡◌, ℕ, suc, ◌<◌, ◌≤◌, Bool, true, false, List, [], ◌∷◌, map, length, Option, Some, None, refl, sym, ap, ◌∙◌, arith, eq-eqb}
use Rattle.std.specs.Prelude.{◌==◌, if◌then◌else◌, Ok, Err, slice_get, option_map}
use Rattle.std.proofs.lemmas.Bool.{le-leb, lt-leb}
use Rattle.std.proofs.lemmas.List.{length-map}
use Rattle.eo_base.specs.Checks.{Checked}
use Rattle.eo_base.specs.declared.FaultName.TheVariants.{BadArity}
use Rattle.eo_sexp.specs.Sexp.{Sexp, Sexps, sexps_of}
use Rattle.eo_sig.specs.declared.records.MacroDecl.{MacroDecl}
use Rattle.eo_sig.specs.Signature.{Attribute, Plain, RightNil, LeftNil, Right, Left, Chain, Pairs, Binder}
use Rattle.eo_sig.specs.Reading.{Kept, read_macro, read_parameter, macros}
use Rattle.eo_term.specs.declared.OpCode.{OpCode}
use Rattle.eo_term.specs.declared.node.Node.{Node}
use Rattle.eo_term.specs.declared.node.Node.TheVariants as node
use Rattle.eo_term.specs.Terms.{tree_at, tree_of}
use Rattle.eo_term.specs.Tree.{Tree, Trees, Con, Op, to_trees}
use Rattle.eo_names.specs.declared.usage.Head.TheVariants as use_
use Rattle.eo_names.specs.declared.symbols.Resolved.TheVariants as meant_
use Rattle.eo_names.specs.Folding.{attribute_at, least, plainly, arrow}
use Rattle.eo_elab.specs.Forms.{Parts, application, word_application, by_head, tree_application, meant_application, formed_from, used_from, arguments_used, collector_of}
use Rattle.eo_names.specs.Contexts.{Context, FileKind, Local, is_reference}
use Rattle.eo_names.specs.Readers.{NamedTerm, Reader, built, read, ◌>>=◌, fail}
use Rattle.eo_elab.specs.Meaning.{Application, Wrong, Binds, AnApplication, count, begins_with_pairs, where_many, at_least, exactly, head_form, constant_use, tree_use, bit_vector}
use Rattle.eo_elab.specs.Meaning as list
use Rattle.eo_names.specs.Meanings.{Word, Arrow, Name, word_of, meant_before, Resolved, AMacro, AnOperator, or_nothing}
use Rattle.eo_names.specs.Symbols.{read_meant}
use Rattle.eo_names.specs.Worlds.{World}
use Rattle.eo_elab.specs.Worlds.{word_in, meant_in}

pub counted : (xs : List Sexp) → count (sexps_of xs) ≡ length xs
counted [] = refl
counted (x ∷ xs) = ap suc (counted xs)

module _ (c : Context) (ls : List Local) (xs : List Sexp) (parts : Parts) where
  abbrev args : Sexps
  args = sexps_of xs

  -- the arguments are read, and this is made of their meanings
  abbrev pub read_and : (List Tree → Checked Tree) → Reader Tree
  read_and made = parts.arguments >>= λ ts. read (made ts) >>= built

  abbrev counted_by : (List Tree → Checked Tree) → Bool → Reader Tree
  counted_by made b = used_from parts (where_many b made)

  pub enough : (n : ℕ) (made : List Tree → Checked Tree) → n ≤ length xs → used_from parts (at_least args n made) ≡ read_and made
  enough n made l = ap (counted_by made) (le-leb n (count args) (omega (arith, counted xs)))

  pub too_few : (n : ℕ) (made : List Tree → Checked Tree) → length xs < n → used_from parts (at_least args n made) ≡ fail BadArity
  too_few n made l = ap (counted_by made) (lt-leb n (count args) (omega (arith, counted xs)))

  pub as_many : (n : ℕ) (made : List Tree → Checked Tree) → length xs ≡ n → used_from parts (exactly args n made) ≡ read_and made
  as_many n made l = ap (counted_by made) (eq-eqb (count args) n (counted xs ∙ l))

  pub not_as_many : (n : ℕ) (made : List Tree → Checked Tree) → (length xs == n) ≡ false → used_from parts (exactly args n made) ≡ fail BadArity
  not_as_many n made l = ap (counted_by made) (ap (λ m. m == n) (counted xs) ∙ l)

  abbrev or_folded : ℕ → Option ℕ → Application
  or_folded k (Some g) = Binds k g
  or_folded k None = list.folded_use c ls args k

  by_collector : (k : ℕ) (a : Attribute) → constant_use c ls args k a ≡ or_folded k (collector_of a args)
  by_collector k Plain = refl
  by_collector k (RightNil n) = refl
  by_collector k (LeftNil n) = refl
  by_collector k Right = refl
  by_collector k Left = refl
  by_collector k (Chain g) = refl
  by_collector k (Pairs g) = refl
  by_collector k (Binder g) = by (begins_with_pairs args)
    where
      by : (b : Bool) → (if b then Binds k g else list.folded_use c ls args k) ≡ or_folded k (if b then Some g else None)
      by true = refl
      by false = refl

  -- a constant, by its attribute
  pub bound_use : (ts : List Tree) (k g : ℕ) → Some g ≡ collector_of (attribute_at c.signature k) args → tree_application c ls args parts (Con k) ≡ arguments_used ts c ls parts (use_.Bind k g)
  bound_use ts k g h = ap (used_from parts) (by_collector k (attribute_at c.signature k) ∙ ap (or_folded k) (sym h))

  folded_by : (k : ℕ) → None ≡ collector_of (attribute_at c.signature k) args → tree_application c ls args parts (Con k) ≡ used_from parts (list.folded_use c ls args k)
  folded_by k h = ap (used_from parts) (by_collector k (attribute_at c.signature k) ∙ ap (or_folded k) (sym h))

  pub folded_use : (ts : List Tree) (k : ℕ) → None ≡ collector_of (attribute_at c.signature k) args → least (attribute_at c.signature k) ≤ length xs → tree_application c ls args parts (Con k) ≡ arguments_used ts c ls parts (use_.Fold k)
  folded_use ts k h l = folded_by k h ∙ enough (least (attribute_at c.signature k)) _ l

  pub folded_few : (k : ℕ) → None ≡ collector_of (attribute_at c.signature k) args → length xs < least (attribute_at c.signature k) → tree_application c ls args parts (Con k) ≡ fail BadArity
  folded_few k h l = folded_by k h ∙ too_few (least (attribute_at c.signature k)) _ l

  -- any other term
  pub plain_use : (ts : List Tree) (i : ℕ) (texts : List (List ℕ)) (n : Node) (us : Trees) → ((k : ℕ) → n ≡ node.Con k → ⊥) → tree_of ts texts n us ≡ tree_at ts i → 1 ≤ length xs → tree_application c ls args parts (tree_at ts i) ≡ arguments_used ts c ls parts (use_.Apply i)
  plain_use ts i texts n us h e l = ap (tree_application c ls args parts) (sym e) ∙ ap (used_from parts) (plain n h) ∙ ap (λ t. used_from parts (list.plain_use args t)) e ∙ enough 1 _ l
    where
      plain : (n : Node) → ((k : ℕ) → n ≡ node.Con k → ⊥) → tree_use c ls args (tree_of ts texts n us) ≡ list.plain_use args (tree_of ts texts n us)
      plain (node.Con k) h = absurd (h k refl)
      plain (node.Num z) h = refl
      plain (node.Bits w v) h = refl
      plain (node.Str s) h = refl
      plain (node.Par j) h = refl
      plain (node.Var s t) h = refl
      plain (node.App f x) h = refl
      plain (node.Arr a b) h = refl
      plain (node.Qar j t b) h = refl
      plain (node.Op o m) h = refl

  length_parameters : (ts : List Tree) (d : MacroDecl) → length (map (read_parameter ts) d.params) ≡ length d.params
  length_parameters ts d = length-map d.params (read_parameter ts)

  read_as : (ts : List Tree) (k : Kept) (n : ℕ) (d : MacroDecl) → slice_get (macros ts k) n ≡ Some (read_macro ts d) → read_meant ts k (meant_.Macro n) ≡ AMacro (read_macro ts d)
  read_as ts k n d e = ap (λ o. or_nothing (option_map AMacro o)) e

  pub macro_use : (ts : List Tree) (k : Kept) (n : ℕ) (d : MacroDecl) → slice_get (macros ts k) n ≡ Some (read_macro ts d) → length xs ≡ length d.params → meant_application c ls args parts (read_meant ts k (meant_.Macro n)) ≡ arguments_used ts c ls parts (use_.Macro d.tree)
  macro_use ts k n d e l = ap (meant_application c ls args parts) (read_as ts k n d e) ∙ as_many (length (map (read_parameter ts) d.params)) _ (l ∙ sym (length_parameters ts d))

  pub macro_arity : (ts : List Tree) (k : Kept) (n : ℕ) (d : MacroDecl) → slice_get (macros ts k) n ≡ Some (read_macro ts d) → (length xs == length d.params) ≡ false → meant_application c ls args parts (read_meant ts k (meant_.Macro n)) ≡ fail BadArity
  macro_arity ts k n d e l = ap (meant_application c ls args parts) (read_as ts k n d e) ∙ not_as_many (length (map (read_parameter ts) d.params)) _ (ap (λ m. length xs == m) (length_parameters ts d) ∙ l)

  pub operator_use : (ts : List Tree) (code : OpCode) (n : ℕ) → length xs ≡ n → (named_terms : List NamedTerm) → meant_application c ls args parts (AnOperator code n) named_terms ≡ arguments_used ts c ls parts (use_.Operator code) named_terms
  operator_use ts code n l named_terms = λ i. as_many n (λ us. Ok (Op code (to_trees us))) l i named_terms

  pub operator_arity : (code : OpCode) (n : ℕ) → (length xs == n) ≡ false → (named_terms : List NamedTerm) → meant_application c ls args parts (AnOperator code n) named_terms ≡ Err BadArity
  operator_arity code n l named_terms = λ i. not_as_many n (λ us. Ok (Op code (to_trees us))) l i named_terms

-- words
module _ (c : Context) (ls : List Local) (xs : List Sexp) (parts : Parts) (named_terms : List NamedTerm) where
  module _ (ts : List Tree) (m : Resolved) (w : Word) where
    abbrev applied_word : Word → Checked (Tree × List NamedTerm)
    applied_word v = word_application c ls (sexps_of xs) parts v m named_terms

    pub arrow_use : Arrow ≡ w → 2 ≤ length xs → applied_word w ≡ arguments_used ts c ls parts use_.Arrow named_terms
    arrow_use e l = ap applied_word (sym e) ∙ (λ i. enough c ls xs parts 2 (λ us. Ok (arrow us)) l i named_terms)

    pub arrow_few : Arrow ≡ w → length xs < 2 → applied_word w ≡ Err BadArity
    arrow_few e l = ap applied_word (sym e) ∙ (λ i. too_few c ls xs parts 2 (λ us. Ok (arrow us)) l i named_terms)

  -- `_`, by the bit string that its arguments write
  abbrev underscored : Option Tree → Checked (Tree × List NamedTerm)
  underscored o = formed_from c ls (sexps_of xs) parts (list.underscore_form c ls (sexps_of xs) o) named_terms

  pub underscore_bits : (o : Option Tree) (t : Tree) → o ≡ Some t → underscored o ≡ Ok (t, named_terms)
  underscore_bits o t e = ap underscored e

  pub underscore_use : (ts : List Tree) (o : Option Tree) → o ≡ None → 2 ≤ length xs → underscored o ≡ arguments_used ts c ls parts use_.Underscore named_terms
  underscore_use ts o e l = ap underscored e ∙ (λ i. enough c ls xs parts 2 (λ us. Ok (plainly us)) l i named_terms)

  pub underscore_few : (o : Option Tree) → o ≡ None → length xs < 2 → underscored o ≡ Err BadArity
  underscore_few o e l = ap underscored e ∙ (λ i. too_few c ls xs parts 2 (λ us. Ok (plainly us)) l i named_terms)

-- whether a bit string is written here, in a file of this kind
abbrev pub bits_here : FileKind → List Sexp → Option Tree
bits_here x xs = if is_reference x then bit_vector (sexps_of xs) else None

-- a name is what it means
pub named_word : (w : World) (xs : List Sexp) (parts : Parts) (named_terms : List NamedTerm) (name : List ℕ) → word_of w.names.file_kind name ≡ Name → word_in w name xs parts named_terms ≡ meant_in w xs parts (meant_before w.names (count (sexps_of xs)) w.locals name) named_terms
named_word w xs parts named_terms name e = ap (λ v. word_application w.names w.locals (sexps_of xs) parts v (meant_before w.names (count (sexps_of xs)) w.locals name) named_terms) e

-- the arguments are counted first
module _ (c : Context) (ls : List Local) (xs : List Sexp) (parts : Parts) (named_terms : List NamedTerm) (word : Option (List ℕ)) where
  pub some_given : (length xs ≡ 0 → ⊥) → application c ls (sexps_of xs) parts word named_terms ≡ by_head c ls (sexps_of xs) parts word named_terms
  some_given e = ap (λ b. formed_from c ls (sexps_of xs) parts (if b then head_form c ls (sexps_of xs) word else AnApplication (Wrong BadArity)) named_terms) (le-leb 1 (count (sexps_of xs)) (omega (arith, counted xs, e)))

  pub none_counted : length xs ≡ 0 → application c ls (sexps_of xs) parts word named_terms ≡ Err BadArity
  none_counted e = ap (λ b. formed_from c ls (sexps_of xs) parts (if b then head_form c ls (sexps_of xs) word else AnApplication (Wrong BadArity)) named_terms) (lt-leb 1 (count (sexps_of xs)) (omega (arith, counted xs, e)))
