-- Declarations, definitions and assertions keep a run sound.
use Rattle.std.specs.Prelude.{◌≡◌, ℕ, Bool, true, false, ◌&&◌, if◌then◌else◌, List, [], ◌∷◌, ◌++◌, map, Option, Some, None, option_and_then, slice_get, Ok, refl}
use Rattle.std.proofs.Common.{sym, ap, ◌∙◌, subst}
use Rattle.std.specs.List.{list_all}
use Rattle.std.proofs.lemmas.Bool.{and_parts}
use Rattle.std.proofs.lemmas.List.{append-nil}
use Rattle.std.proofs.lemmas.List.Elements.{filter_map-append}
use Rattle.std.proofs.lemmas.Option.{none-some, same_Some}
use Rattle.eo_session.proofs.Adding.{fold_of}
use Rattle.eo_base.proofs.ChecksLemmas.{ok_injective, bind_ok, require_then, no_fault_then}
use Rattle.eo_base.specs.Checks.{Checked, ◌>>=◌}
use Rattle.eo_declare.specs.Declarations.{constant, plain_constant, sort_type, declared_const, declared_fun, declared_sort, defined, defined_fun, defined_sort, declared_program, declared_rule, is_reference_name}
use Rattle.eo_elab.specs.Fitting.{FitsTerms, macro_is_bound, named_term_is_closed}
use Rattle.eo_elab.specs.Meaning.{means}
use Rattle.eo_lit.specs.declared.LiteralClass.{LiteralClass}
use Rattle.eo_names.specs.Contexts.{Context, FileKind, InReference, InAssert}
use Rattle.eo_names.specs.Readers.{NamedTerm}
use Rattle.eo_sound.proofs.Deriving.{declared_derives, asserted_derives, none_assumed}
use Rattle.eo_session.proofs.Fitting.{MayFold, slice_get_more, fits_entry, fits_macro, fits_macros}
use Rattle.eo_sound.specs.Layers.{Layers}
use Rattle.eo_sound.specs.Soundness.{IsSoundBy}
use Rattle.eo_session.specs.State.{State, context, context_in, with_entry, with_macro, with_assertion, is_asserted}
use Rattle.eo_session.specs.Step.{repeats_constant, named_apart, apart_constant, added_constant, type_value, typed_constant, checked_constant, checked_literals, added_macro, define, define_fun, define_sort, define_program, declare_rule, formula_of, named_term_macro, with_named_terms, assert}
use Rattle.eo_session.specs.Origin.{Origin}
use Rattle.eo_sexp.specs.Sexp.{Sexp}
use Rattle.eo_shape.specs.Shapes.{ParameterShape, AttributeShape, ProgramShape, RuleShape}
use Rattle.eo_sig.specs.Signature.{Signature, SignatureEntry, IsConstant, IsProgram, IsRule, IsLiteralType, Attribute, Plain, RightNil, LeftNil, Right, Left, Chain, Pairs, Binder, Constant, Macro, Rule, counts_of, rule_of, rules, rule_at, constant_at, terminator_of, may_fold, are_ordered, constant_fault, literal_type_fault, program_fault, rule_fault}
use Rattle.eo_sig.specs.Usable.{IsUsable}
use Rattle.eo_term.specs.Tree.{Tree, bool_tree, is_value}
use Rattle.eo_type.specs.Types.{Typed, type_of}

-- ---- what a declaration without fault is

plain_folds : (c : Context) (name : List ℕ) (type : Tree) (a : Attribute) (d : Constant) → plain_constant c name type a ≡ Ok d → may_fold d.attribute ≡ true
plain_folds c name type a d e =
    let k = no_fault_then (constant_fault (constant c name [] type a)) _ d e in
    subst (λ (x : Constant). may_fold x.attribute ≡ true) (ok_injective (constant c name [] type a) d k.1) (fold_of (constant c name [] type a) k.0)

pub const_folds : (c : Context) (name : List ℕ) (type : Sexp) (shape : AttributeShape) (d : Constant) → declared_const c name type shape ≡ Ok d → may_fold d.attribute ≡ true
unfolding declared_const
const_folds c name type shape d e =
    let free = require_then _ _ _ d e in
    let t = bind_ok _ _ d free.1 in
    let a = bind_ok _ _ d t.2 in
    plain_folds c name t.0 a.0 d a.2

pub fun_folds : (c : Context) (name : List ℕ) (inputs : List Sexp) (output : Sexp) (d : Constant) → declared_fun c name inputs output ≡ Ok d → may_fold d.attribute ≡ true
unfolding declared_fun
fun_folds c name inputs output d e =
    let free = require_then _ _ _ d e in
    let ts = bind_ok _ _ d free.1 in
    let t = bind_ok _ _ d ts.2 in
    let type = bind_ok _ _ d t.2 in
    plain_folds c name type.0 Plain d type.2

pub sort_folds : (c : Context) (name : List ℕ) (arity : ℕ) (d : Constant) → declared_sort c name arity ≡ Ok d → may_fold d.attribute ≡ true
unfolding declared_sort
sort_folds c name arity d e = let free = require_then _ _ _ d e in plain_folds c name (sort_type arity) Plain d free.1

-- ---- an entry more

-- a terminator is a value, and the type of a rule's parameter uses earlier ones only
abbrev EntryFits : SignatureEntry → Type 0
EntryFits (IsConstant d n) = may_fold d.attribute ≡ true
EntryFits (IsProgram p) = Unit {0}
EntryFits (IsRule r) = are_ordered 0 r.parameters ≡ true
EntryFits (IsLiteralType class t) = Unit {0}

fits_fold : (e : SignatureEntry) → EntryFits e → MayFold e
fits_fold (IsConstant d n) h = h
fits_fold (IsProgram p) h = tt
fits_fold (IsRule r) h = tt
fits_fold (IsLiteralType class t) h = tt

module _ (S : Signature) (old : (k : ℕ) (r : Rule) → rule_at S k ≡ Some r → are_ordered 0 r.parameters ≡ true) (e : SignatureEntry) (fits : EntryFits e) (k : ℕ) (r : Rule) where
  none_more : slice_get (rules S ++ []) k ≡ Some r → are_ordered 0 r.parameters ≡ true
  none_more is = old k r (ap (λ (rs : List Rule). slice_get rs k) (sym (append-nil (rules S))) ∙ is)

  one_more : (e : SignatureEntry) → EntryFits e → slice_get (rules S ++ rules (e ∷ [])) k ≡ Some r → are_ordered 0 r.parameters ≡ true
  one_more (IsRule x) ordered is = slice_get_more (λ (r : Rule). are_ordered 0 r.parameters ≡ true) (rules S) x k r old ordered is
  one_more (IsConstant d n) ordered is = none_more is
  one_more (IsProgram p) ordered is = none_more is
  one_more (IsLiteralType class t) ordered is = none_more is

  ordered_more : rule_at (S ++ e ∷ []) k ≡ Some r → are_ordered 0 r.parameters ≡ true
  ordered_more is = one_more e fits (ap (λ (rs : List Rule). slice_get rs k) (sym (filter_map-append rule_of S (e ∷ []))) ∙ is)

folded_value : (a : Attribute) (n : Tree) → may_fold a ≡ true → terminator_of a ≡ Some n → is_value n ≡ true
folded_value (RightNil m) n h e = subst (λ (t : Tree). is_value t ≡ true) (same_Some m n e) h
folded_value (LeftNil m) n h e = absurd (none-some n e)
folded_value Plain n h e = absurd (none-some n e)
folded_value Right n h e = absurd (none-some n e)
folded_value Left n h e = absurd (none-some n e)
folded_value (Chain k) n h e = absurd (none-some n e)
folded_value (Pairs k) n h e = absurd (none-some n e)
folded_value (Binder k) n h e = absurd (none-some n e)

pub usable_signature : (S : Signature) → ((k : ℕ) (d : Constant) → constant_at S k ≡ Some d → may_fold d.attribute ≡ true) → ((k : ℕ) (r : Rule) → rule_at S k ≡ Some r → are_ordered 0 r.parameters ≡ true) → IsUsable S
usable_signature S folds ordered = record { terminators = λ f n e. by f n (constant_at S f) refl e; rules_ordered = ordered }
  where
    by : (f : ℕ) (n : Tree) (o : Option Constant) → constant_at S f ≡ o → option_and_then (λ (d : Constant). terminator_of d.attribute) o ≡ Some n → is_value n ≡ true
    by f n None p e = absurd (none-some n e)
    by f n (Some d) p e = folded_value d.attribute n (folds f d p) e

-- ---- what is declared

-- names of terms without parameters are macros
named_terms_bound : (named_terms : List NamedTerm) → list_all named_term_is_closed named_terms ≡ true → list_all macro_is_bound (map named_term_macro named_terms) ≡ true
named_terms_bound [] h = refl
named_terms_bound (l ∷ ls) h = let p = and_parts (named_term_is_closed l) (list_all named_term_is_closed ls) h in (λ i. p.0 i && named_terms_bound ls p.1 i)

module _ (allowed : List ℕ → Bool) where
  pub sound_after : (new st' : State) → IsSoundBy allowed new → ◌≡◌ {A = Checked State} (Ok new) (Ok st') → IsSoundBy allowed st'
  sound_after new st' h e = subst (IsSoundBy allowed) (ok_injective new st' e) h

  by_test : (st' : State) (b : Bool) (x y : Checked State) → (x ≡ Ok st' → IsSoundBy allowed st') → (y ≡ Ok st' → IsSoundBy allowed st') → (if b then x else y) ≡ Ok st' → IsSoundBy allowed st'
  by_test st' true x y f g e = f e
  by_test st' false x y f g e = g e

  named_terms_sound : (st : State) → IsSoundBy allowed st → (named_terms : List NamedTerm) → list_all named_term_is_closed named_terms ≡ true → IsSoundBy allowed (with_named_terms st named_terms)
  named_terms_sound st h named_terms closed = record {
    usable = h.usable;
    terms = fits_macros st.signature st.signature st.macros (st.macros ++ map named_term_macro named_terms) h.terms refl (map named_term_macro named_terms) refl (named_terms_bound named_terms closed);
    values = h.values;
    formulas = h.formulas;
    facts = h.facts;
  }

  module _ (laws : Layers) (st : State) (h : (IsSoundBy allowed) st) where
    -- a macro more
    macro_sound : (m : Macro) → macro_is_bound m ≡ true → IsSoundBy allowed (with_macro st m)
    macro_sound m bound = record {
      usable = h.usable;
      terms = fits_macro st.signature st.signature st.macros (st.macros ++ m ∷ []) h.terms refl m refl bound;
      values = h.values;
      formulas = h.formulas;
      facts = h.facts;
    }

    added_macro_sound : (m : Macro) (st' : State) → macro_is_bound m ≡ true → added_macro st m ≡ Ok st' → IsSoundBy allowed st'
    unfolding added_macro
    added_macro_sound m st' bound e =
        by_test st' (is_reference_name (context st) m.name) _ _
        (λ k. sound_after st st' h (require_then _ _ _ st' k).1)
        (λ k. sound_after (with_macro st m) st' (macro_sound m bound) k) e

    -- in a file of any kind terms are read of the same macros and constants
    fits_in : (file_kind : FileKind) → FitsTerms (context_in st file_kind)
    fits_in file_kind = record { folds = h.terms.folds; macros = h.terms.macros }

    pub define_fun_sound : (name : List ℕ) (shapes : List ParameterShape) (output body : Sexp) (st' : State) → define_fun st name shapes output body ≡ Ok st' → IsSoundBy allowed st'
    define_fun_sound name shapes output body st' e =
        let m = bind_ok (defined_fun (context_in st InReference) name shapes output body) _ st' e in
        added_macro_sound m.0 st' (laws.functions (context_in st InReference) name shapes output body m.0 (fits_in InReference) m.1) m.2

    pub define_sort_sound : (name : List ℕ) (names : List (List ℕ)) (type : Sexp) (st' : State) → define_sort st name names type ≡ Ok st' → IsSoundBy allowed st'
    define_sort_sound name names type st' e =
        let m = bind_ok (defined_sort (context_in st InReference) name names type) _ st' e in
        added_macro_sound m.0 st' (laws.sorts (context_in st InReference) name names type m.0 (fits_in InReference) m.1) m.2

    pub define_sound : (name : List ℕ) (shapes : List ParameterShape) (body : Sexp) (st' : State) → define st name shapes body ≡ Ok st' → IsSoundBy allowed st'
    define_sound name shapes body st' e =
        let m = bind_ok (defined (context st) name shapes body) _ st' e in
        added_macro_sound m.0 st' (laws.macros (context st) name shapes body m.0 h.terms m.1) m.2

    -- where no scope is open, more may be declared and asserted
    module _ (top : st.scopes.opened ≡ []) where
      entry_sound : (e : SignatureEntry) → EntryFits e → IsSoundBy allowed (with_entry st e)
      entry_sound e fits =
          let terms = fits_entry st.signature (st.signature ++ e ∷ []) st.macros st.macros h.terms e refl refl (fits_fold e fits) in
          record {
            usable = usable_signature (st.signature ++ e ∷ []) terms.folds (ordered_more st.signature h.usable.rules_ordered e fits);
            terms = terms;
            values = h.values;
            formulas = none_assumed (λ (t : Tree). type_of (st.signature ++ e ∷ []) t ≡ Typed bool_tree) st.scopes.opened top;
            facts = λ s. declared_derives allowed laws st.signature (e ∷ []) st.assertions st.scopes.outermost st.scopes.opened top (h.facts s);
          }

      apart_constant_sound : (d : Constant) (st' : State) → may_fold d.attribute ≡ true → apart_constant st d ≡ Ok st' → IsSoundBy allowed st'
      apart_constant_sound d st' folds e =
          let k = bind_ok (named_apart st.naming st.signature d) (λ _. Ok (with_entry st (IsConstant d (counts_of d)))) st' e in
          sound_after (with_entry st (IsConstant d (counts_of d))) st' (entry_sound (IsConstant d (counts_of d)) folds) k.2

      added_constant_sound : (d : Constant) (st' : State) → may_fold d.attribute ≡ true → added_constant st d ≡ Ok st' → IsSoundBy allowed st'
      unfolding added_constant
      added_constant_sound d st' folds e =
          by_test st' (repeats_constant st d) _ _ (λ k. sound_after st st' h k) (apart_constant_sound d st' folds) e

      -- a constant whose declared type is evaluated
      pub typed_sound : (m : Checked Constant) (st' : State) → ((d : Constant) → m ≡ Ok d → may_fold d.attribute ≡ true) → (m >>= typed_constant st) ≡ Ok st' → IsSoundBy allowed st'
      unfolding typed_constant
      typed_sound m st' folds e =
          let d = bind_ok m _ st' e in
          let v = bind_ok (type_value st d.0.type) _ st' d.2 in
          added_constant_sound (record d.0 { type = v.0 }) st' (folds d.0 d.1) v.2

      -- a constant with parameters
      pub checked_sound : (m : Checked Constant) (st' : State) → (m >>= checked_constant st) ≡ Ok st' → IsSoundBy allowed st'
      checked_sound m st' e =
          let d = bind_ok m _ st' e in
          let k = no_fault_then (constant_fault d.0) _ st' d.2 in
          apart_constant_sound d.0 st' (fold_of d.0 k.0) k.1

      pub literals_sound : (class : LiteralClass) (m : Checked Tree) (st' : State) → (m >>= checked_literals st class) ≡ Ok st' → IsSoundBy allowed st'
      literals_sound class m st' e =
          let t = bind_ok m _ st' e in
          let k = no_fault_then (literal_type_fault st.signature class t.0) _ st' t.2 in
          sound_after (with_entry st (IsLiteralType class t.0)) st' (entry_sound (IsLiteralType class t.0) tt) k.1

      pub program_sound : (from : Origin) (shape : ProgramShape) (st' : State) → define_program st from shape ≡ Ok st' → IsSoundBy allowed st'
      unfolding define_program
      program_sound from shape st' e =
          let may = require_then _ _ _ st' e in
          let p = bind_ok (declared_program (context st) shape) _ st' may.1 in
          let k = no_fault_then (program_fault p.0) _ st' p.2 in
          sound_after (with_entry st (IsProgram p.0)) st' (entry_sound (IsProgram p.0) tt) k.1

      pub rule_sound : (from : Origin) (shape : RuleShape) (st' : State) → declare_rule st from shape ≡ Ok st' → IsSoundBy allowed st'
      unfolding declare_rule
      rule_sound from shape st' e =
          let may = require_then _ _ _ st' e in
          let r = bind_ok (declared_rule (context st) shape) _ st' may.1 in
          let k = no_fault_then (rule_fault st.signature r.0) _ st' r.2 in
          sound_after (with_entry st (IsRule r.0)) st' (entry_sound (IsRule r.0) (laws.rules (context st) shape r.0 h.terms r.1)) k.1

      -- an assertion more
      assertion_sound : (t : Tree) (b : Bool) → IsSoundBy allowed (if b then st else record st { assertions = st.assertions ++ t ∷ [] })
      assertion_sound t true = h
      assertion_sound t false = record {
        usable = h.usable;
        terms = h.terms;
        values = h.values;
        formulas = h.formulas;
        facts = λ s. asserted_derives allowed laws st.signature st.assertions (t ∷ []) st.scopes.outermost st.scopes.opened top (h.facts s);
      }

      pub assert_sound : (s : Sexp) (st' : State) → assert st s ≡ Ok st' → IsSoundBy allowed st'
      unfolding assert
      assert_sound s st' e =
          let r = bind_ok (means (context_in st InAssert) [] s []) _ st' e in
          let v = bind_ok (formula_of st r.0.0) _ st' r.2 in
          let closed = laws.named_terms (context_in st InAssert) s r.0.0 r.0.1 (fits_in InAssert) r.1 in
          sound_after (with_named_terms (with_assertion st v.0) r.0.1) st'
          (named_terms_sound (with_assertion st v.0) (assertion_sound v.0 (is_asserted st v.0)) r.0.1 closed) v.2
