-- Each command leaves a state of trees within their ranges.
use Rattle.std.specs.Prelude.{◌≡◌, ℕ, Bool, true, false, ◌==◌, if◌then◌else◌, List, [], ◌∷◌, ◌++◌, map, length, Option, Some, None, option_and_then, slice_get, Ok, refl}
use Rattle.std.proofs.Common.{subst, ap, ◌∙◌}
use Rattle.std.proofs.lemmas.List.Folds.{list_all-append}
use Rattle.std.proofs.lemmas.Option.{same_Some, none-some}
use Rattle.eo_base.proofs.Tests.{both, join}
use Rattle.eo_base.proofs.ChecksLemmas.{ok_injective, err_is_not_ok, bind_ok, require_then, value_or_ok}
use Rattle.eo_base.specs.Checks.{Checked, ◌>>=◌, no_fault, value_or}
use Rattle.eo_base.specs.declared.FaultName.TheVariants as fault
use Rattle.eo_declare.specs.Declarations.{declared_const, declared_fun, declared_sort, declared_parameterized, declared_literals, defined, defined_fun, defined_sort, declared_program, declared_rule, is_reference_name}
use Rattle.eo_eval.specs.Faults.{value_or_fault}
use Rattle.eo_lit.specs.declared.LiteralClass.{LiteralClass}
use Rattle.eo_names.specs.Contexts.{FileKind, InReference, InAssert}
use Rattle.eo_names.specs.Readers.{NamedTerm}
use Rattle.eo_elab.specs.Meaning.{means}
use Rattle.eo_stack.specs.Evaluation.{Outcome, Value, Stuck, Deep, Calls, Range, Tall, eval0}
use Rattle.eo_session.specs.Origin.{Origin}
use Rattle.eo_session.specs.State.{State, context, context_in, with_entry, with_macro, with_assertion, with_fact, with_scope, without_scope, macros_before, is_asserted, with_command}
use Rattle.eo_session.specs.Step.{file_kind_of, is_in_reference, evaluated, added_constant, type_value, typed_constant, checked_constant, checked_literals, added_macro, define_program, declare_rule, formula_of, formula, named_term_macro, with_named_terms, assume, assume_push, assert, concluded, with_conclusion, step_plain, step_pop, plain_tree, macro_tree, value_named, repeats_constant, named_apart, apart_constant}
use Rattle.eo_session.specs.Commands.{step, uncounted, placed_command, scoped_command, next_by, by_command}
use Rattle.eo_session.specs.declared.Next.{Next}
use Rattle.eo_sexp.specs.Sexp.{Sexp}
use Rattle.eo_shape.specs.Shapes.{ProgramShape, RuleShape, StepShape, Command, DeclareConst, DeclareFun, DeclareSort, DeclareParameterized, DeclareLiterals, Define, DefineProgram, DeclareRule, Assume, AssumePush, Step, StepPop, Include, Refer, DefineFun, DefineSort, Assert, Exit, Skip, command_of}
use Rattle.eo_sig.specs.Signature.{SignatureEntry, IsConstant, IsProgram, IsRule, IsLiteralType, Constant, Macro, Named, NamesConstant, NamesMacro, NamesProgram, lookup, counts_of, constant_fault, literal_type_fault, program_fault, rule_fault}
use Rattle.eo_term.specs.Tree.{Tree}
use Rattle.eo_roundtrip.proofs.Within.{is_within, constant_within, entry_within, signature_within, macros_within}
use Rattle.eo_roundtrip.proofs.ReadTexts.{all-front}
use Rattle.eo_roundtrip.proofs.Ranges.{IsWithin}
use Rattle.eo_elab.proofs.Uses.{at_place}
use Rattle.eo_roundtrip.proofs.EvalValues.{IsFit, fit-within, value-fits}
use Rattle.eo_roundtrip.proofs.SymbolsWithin.{HoldsWithin}
use Rattle.eo_roundtrip.proofs.ReadingsWithin.{NamedTermsWithin}
use Rattle.eo_roundtrip.proofs.MeaningWithin.{labels-within}
use Rattle.eo_roundtrip.proofs.ShapesWithin.{Fits, Each, ParameterFits, CaseFits, CommandFits, command-fits}
use Rattle.eo_roundtrip.proofs.DeclaredWithin.{one-more, const-within, fun-within, sort-constant-within, parameterized-within, literals-within, defined-within, defined-fun-within, defined-sort-within, program-within}

-- ---- states

pub record InState (st : State) : Type 0 where
  pub signature : signature_within st.signature ≡ true
  pub macros : macros_within st.macros ≡ true

holds : (st : State) (file_kind : FileKind) → InState st → HoldsWithin (context_in st file_kind)
holds st file_kind h = record { signature = h.signature; macros = h.macros }

-- what an evaluation gives
pub evaluated-fits : (st : State) → InState st → (t v : Tree) → IsWithin t → evaluated st t ≡ Ok v → IsFit v
unfolding evaluated
evaluated-fits st h t v k e = by_outcome (eval0 st.signature t) refl e
  where
    by_outcome : (o : Outcome Tree) → eval0 st.signature t ≡ o → value_or_fault o ≡ Ok v → IsFit v
    by_outcome (Value u) p q = subst IsFit (ok_injective u v q) (value-fits st.signature h.signature t u k p)
    by_outcome Stuck p q = absurd (err_is_not_ok fault.Stuck v q)
    by_outcome Deep p q = absurd (err_is_not_ok fault.EvalDepth v q)
    by_outcome Calls p q = absurd (err_is_not_ok fault.EvalCalls v q)
    by_outcome Range p q = absurd (err_is_not_ok fault.NumberRange v q)
    by_outcome Tall p q = absurd (err_is_not_ok fault.TermHeight v q)

-- the tree of a macro without parameters
named-tree : (macros : List Macro) → macros_within macros ≡ true → (n : Option Named) (t : Tree) → macro_tree macros n ≡ Some t → IsWithin t
named-tree macros h (Some (NamesMacro k)) t e = by_macro (slice_get macros k) refl e
  where
    by_count : (m : Macro) (b : Bool) → IsWithin m.tree → (if b then Some m.tree else None) ≡ Some t → IsWithin t
    by_count m true l q = subst IsWithin (same_Some m.tree t q) l
    by_count m false l q = absurd (none-some t q)

    by_macro : (o : Option Macro) → slice_get macros k ≡ o → option_and_then plain_tree o ≡ Some t → IsWithin t
    by_macro None p q = absurd (none-some t q)
    by_macro (Some m) p q = by_count m (length m.parameters == 0) (at_place (λ (x : Macro). is_within x.tree) macros h k m p) q
named-tree macros h (Some (NamesConstant k)) t e = absurd (none-some t e)
named-tree macros h (Some (NamesProgram k)) t e = absurd (none-some t e)
named-tree macros h None t e = absurd (none-some t e)

-- The value of a name is within its ranges and not too tall.
pub named-fits : (st : State) → InState st → (name : List ℕ) (v : Tree) → value_named st name ≡ Ok v → IsFit v
unfolding value_named
named-fits st h name v e =
    let t = bind_ok (value_or fault.UnknownSymbol (macro_tree st.macros (lookup st.signature st.macros name))) _ v e in
    evaluated-fits st h t.0 v (named-tree st.macros h.macros (lookup st.signature st.macros name) t.0 (value_or_ok fault.UnknownSymbol _ t.0 t.1)) t.2

-- ---- each command

module _ (st new : State) (h : InState st) where
  at-end : (mid : State) → InState mid → ◌≡◌ {A = Checked State} (Ok mid) (Ok new) → InState new
  at-end mid k e = subst InState (ok_injective mid new e) k

  by_test : (b : Bool) (x y : Checked State) → (x ≡ Ok new → InState new) → (y ≡ Ok new → InState new) → (if b then x else y) ≡ Ok new → InState new
  by_test true x y f g e = f e
  by_test false x y f g e = g e

  entry-kept : (e : SignatureEntry) → entry_within e ≡ true → ◌≡◌ {A = Checked State} (Ok (with_entry st e)) (Ok new) → InState new
  entry-kept e k = at-end (with_entry st e) (record { signature = one-more entry_within st.signature e h.signature k; macros = h.macros })

  apart-kept : (d : Constant) → constant_within d ≡ true → apart_constant st d ≡ Ok new → InState new
  apart-kept d k e =
      entry-kept (IsConstant d (counts_of d)) k (bind_ok (named_apart st.naming st.signature d) (λ _. Ok (with_entry st (IsConstant d (counts_of d)))) new e).2

  constant-kept : (d : Constant) → constant_within d ≡ true → added_constant st d ≡ Ok new → InState new
  unfolding added_constant
  constant-kept d k e = by_test (repeats_constant st d) _ _ (at-end st h) (apart-kept d k) e

  typed-kept : (m : Checked Constant) → ((d : Constant) → m ≡ Ok d → constant_within d ≡ true) → (m >>= typed_constant st) ≡ Ok new → InState new
  unfolding typed_constant type_value
  typed-kept m n e =
      let d = bind_ok m _ new e in
      let v = bind_ok (type_value st d.0.type) _ new d.2 in
      let value = bind_ok (evaluated st d.0.type) _ v.0 v.1 in
      let type = bind_ok _ _ v.0 value.2 in
      let is = require_then _ _ _ v.0 type.2 in
      let within = n d.0 d.1 in
      let fits = evaluated-fits st h d.0.type value.0 (both within).0 value.1 in
      let same : value.0 ≡ v.0 = ok_injective value.0 v.0 is.1 in
      constant-kept (record d.0 { type = v.0 }) (join (subst IsWithin same (fit-within value.0 fits)) (both within).1) v.2

  checked-kept : (m : Checked Constant) → ((d : Constant) → m ≡ Ok d → constant_within d ≡ true) → (m >>= checked_constant st) ≡ Ok new → InState new
  checked-kept m n e = let d = bind_ok m _ new e in apart-kept d.0 (n d.0 d.1) (bind_ok (no_fault (constant_fault d.0)) _ new d.2).2

  macro-kept : (m : Macro) → IsWithin m.tree → added_macro st m ≡ Ok new → InState new
  unfolding added_macro
  macro-kept m k e =
      by_test (is_reference_name (context st) m.name) _ _ (λ f. at-end st h (require_then _ _ _ new f).1)
      (λ f. at-end (with_macro st m) (record { signature = h.signature; macros = one-more (λ (x : Macro). is_within x.tree) st.macros m h.macros k }) f) e

  define-kept : (m : Checked Macro) → ((x : Macro) → m ≡ Ok x → IsWithin x.tree) → (m >>= added_macro st) ≡ Ok new → InState new
  define-kept m n e = let x = bind_ok m _ new e in macro-kept x.0 (n x.0 x.1) x.2

  literals-kept : (class : LiteralClass) (type : Sexp) → Fits type → (declared_literals (context st) class type >>= checked_literals st class) ≡ Ok new → InState new
  literals-kept class type k e =
      let t = bind_ok (declared_literals (context st) class type) _ new e in
      entry-kept (IsLiteralType class t.0) (literals-within (context st) (holds st _ h) class type k t.0 t.1) (bind_ok (no_fault (literal_type_fault st.signature class t.0)) _ new t.2).2

  program-kept : (from : Origin) (s : ProgramShape) → Each ParameterFits s.parameters → Each CaseFits s.cases → define_program st from s ≡ Ok new → InState new
  unfolding define_program
  program-kept from s k l e =
      let may = require_then _ _ _ new e in
      let p = bind_ok (declared_program (context st) s) _ new may.1 in
      entry-kept (IsProgram p.0) (program-within (context st) (holds st _ h) s k l p.0 p.1) (bind_ok (no_fault (program_fault p.0)) _ new p.2).2

  rule-kept : (from : Origin) (s : RuleShape) → declare_rule st from s ≡ Ok new → InState new
  unfolding declare_rule
  rule-kept from s e =
      let may = require_then _ _ _ new e in
      let r = bind_ok (declared_rule (context st) s) _ new may.1 in
      entry-kept (IsRule r.0) refl (bind_ok (no_fault (rule_fault st.signature r.0)) _ new r.2).2

  assume-kept : (name : List ℕ) (s : Sexp) → assume st name s ≡ Ok new → InState new
  unfolding assume
  assume-kept name s e =
      let free = require_then _ _ _ new e in
      let v = bind_ok (formula st s) _ new free.1 in
      let reference = require_then _ _ _ new v.2 in
      let member = require_then _ _ _ new reference.1 in
      at-end (with_fact st name v.0) (record { signature = h.signature; macros = h.macros }) member.1

  push-kept : (name : List ℕ) (s : Sexp) → assume_push st name s ≡ Ok new → InState new
  unfolding assume_push
  push-kept name s e =
      let room = require_then _ _ _ new e in
      let free = require_then _ _ _ new room.1 in
      let v = bind_ok (formula st s) _ new free.1 in
      at-end (with_scope st name v.0) (record { signature = h.signature; macros = h.macros }) v.2

  plain-kept : (s : StepShape) → step_plain st s ≡ Ok new → InState new
  unfolding step_plain
  plain-kept s e =
      let free = require_then _ _ _ new e in
      let k = bind_ok (concluded st None s) _ new free.1 in
      at-end (with_conclusion st s.name k.0) (record { signature = h.signature; macros = h.macros }) k.2

  before-kept : (ns : List ℕ) → macros_within (macros_before ns st.macros) ≡ true
  before-kept [] = h.macros
  before-kept (n ∷ ns) = all-front (λ (m : Macro). is_within m.tree) n st.macros h.macros

  pop-kept : (s : StepShape) → step_pop st s ≡ Ok new → InState new
  unfolding step_pop
  pop-kept s e =
      let a = bind_ok _ _ new e in
      let free = require_then _ _ _ new a.2 in
      let k = bind_ok (concluded st (Some a.0) s) _ new free.1 in
      at-end (with_conclusion (without_scope st) s.name k.0) (record { signature = h.signature; macros = before-kept st.outer_macros }) k.2

  assertion-kept : (t : Tree) (b : Bool) → InState (if b then st else record st { assertions = st.assertions ++ t ∷ [] })
  assertion-kept t true = h
  assertion-kept t false = record { signature = h.signature; macros = h.macros }

  label-macros : (named_terms : List NamedTerm) → NamedTermsWithin named_terms → macros_within (map named_term_macro named_terms) ≡ true
  label-macros [] k = refl
  label-macros (l ∷ named_terms) k = join (both k).0 (label-macros named_terms (both k).1)

  labels-kept : (mid : State) (named_terms : List NamedTerm) → InState mid → NamedTermsWithin named_terms → InState (with_named_terms mid named_terms)
  labels-kept mid named_terms k l = record {
    signature = k.signature;
    macros = list_all-append (λ (m : Macro). is_within m.tree) mid.macros (map named_term_macro named_terms) ∙ join k.macros (label-macros named_terms l);
  }

  assert-kept : (s : Sexp) → Fits s → assert st s ≡ Ok new → InState new
  unfolding assert
  assert-kept s k e =
      let r = bind_ok (means (context_in st InAssert) [] s []) _ new e in
      let v = bind_ok (formula_of st r.0.0) _ new r.2 in
      let within = labels-within (context_in st InAssert) (holds st InAssert h) s k r.0 r.1 in
      at-end (with_named_terms (with_assertion st v.0) r.0.1) (labels-kept (with_assertion st v.0) r.0.1 (assertion-kept v.0 (is_asserted st v.0)) within.1) v.2

  pub command-kept : (from : Origin) (command : Command) → CommandFits command → by_command st from command ≡ Ok new → InState new
  command-kept from (DeclareConst name type shape) k e =
      typed-kept (declared_const (context_in st (file_kind_of from)) name type shape) (λ d f. const-within (context_in st (file_kind_of from)) (holds st _ h) name type shape k.0 k.1 d f) e
  command-kept from (DeclareFun name inputs output) k e =
      typed-kept (declared_fun (context_in st (file_kind_of from)) name inputs output) (λ d f. fun-within (context_in st (file_kind_of from)) (holds st _ h) name inputs output k.0 k.1 d f) e
  command-kept from (DeclareSort name arity) k e =
      typed-kept (declared_sort (context_in st (file_kind_of from)) name arity) (λ d f. sort-constant-within (context_in st (file_kind_of from)) (holds st _ h) name arity d f) e
  command-kept from (DeclareParameterized name params type shape) k e =
      checked-kept (declared_parameterized (context st) name params type shape) (λ d f. parameterized-within (context st) (holds st _ h) name params type shape k.0 k.1.0 k.1.1 d f) e
  command-kept from (DeclareLiterals class type) k e = literals-kept class type k e
  command-kept from (Define name params body) k e =
      define-kept (defined (context st) name params body) (λ m f. defined-within (context st) (holds st _ h) name params body k.0 k.1 m f) e
  command-kept from (DefineProgram s) k e = program-kept from s k.0 k.1 e
  command-kept from (DeclareRule s) k e = rule-kept from s e
  command-kept from (Assume name s) k e = assume-kept name s e
  command-kept from (AssumePush name s) k e = push-kept name s e
  command-kept from (Step s) k e = plain-kept s e
  command-kept from (StepPop s) k e = pop-kept s e
  command-kept from (Include written) k e = at-end st h e
  command-kept from (Refer written) k e = at-end st h e
  command-kept from (DefineFun name params output body) k e =
      define-kept (defined_fun (context_in st InReference) name params output body) (λ m f. defined-fun-within (context_in st InReference) (holds st _ h) name params output body k.0 k.1 m f) e
  command-kept from (DefineSort name params type) k e =
      define-kept (defined_sort (context_in st InReference) name params type) (λ m f. defined-sort-within (context_in st InReference) (holds st _ h) name params type k m f) e
  command-kept from (Assert s) k e = assert-kept s k e
  command-kept from Exit k e = at-end st h e
  command-kept from Skip k e = at-end st h e

-- A command that was read leaves a state of trees within their ranges, where it is accepted.
pub step-kept : (st : State) (from : Origin) (s : Sexp) (r : State × Next) → Fits s → InState st → step st from s ≡ Ok r → InState r.0
unfolding step uncounted placed_command scoped_command
step-kept st from s r fits h e =
    let whole = bind_ok (uncounted st from s) _ r e in
    let read = bind_ok (command_of (is_in_reference from) s) _ whole.0 whole.1 in
    let placed = bind_ok (scoped_command st from read.0) _ whole.0 read.2 in
    let next = bind_ok (next_by placed.0 read.0) _ whole.0 placed.2 in
    let may = require_then _ _ _ placed.0 placed.1 in
    let kept = command-kept st placed.0 h from read.0 (command-fits (is_in_reference from) s read.0 fits read.1) may.1 in
    let last : placed.0 ≡ whole.0.0 = ap (λ (q : State × Next). q.0) (ok_injective (placed.0, next.0) whole.0 next.2) in
    let counted : with_command whole.0.0 ≡ r.0 = ap (λ (q : State × Next). q.0) (ok_injective (with_command whole.0.0, whole.0.1) r whole.2) in
    let mid = subst InState last kept in
    subst InState counted (record { signature = mid.signature; macros = mid.macros })
