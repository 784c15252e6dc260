-- A declaring command reads and changes what is declared, the macros and the assertions alone: it is accepted again where the rest of a state is another one, which is not closed.
use Rattle.std.specs.Prelude.{◌≡◌, ℕ, Bool, true, false, not, ◌&&◌, if◌then◌else◌, List, [], ◌∷◌, ◌++◌, Option, Some, None, Ok, refl}
use Rattle.std.proofs.Common.{sym, ◌∙◌, ap}
use Rattle.eo_base.proofs.ChecksLemmas.{ok_injective, err_is_not_ok, bind_ok, bind_step, require_then}
use Rattle.eo_base.specs.Checks.{Checked, Passed, ◌>>=◌, require, no_fault}
use Rattle.eo_base.specs.declared.FaultName.{FaultName}
use Rattle.eo_base.specs.declared.FaultName.TheVariants.{Redeclared, ProofDeclares}
use Rattle.eo_declare.specs.Declarations.{declared_const, declared_fun, declared_sort, declared_parameterized, declared_literals, defined, defined_fun, defined_sort, declared_program, declared_rule, is_reference_name}
use Rattle.eo_elab.specs.Meaning.{means}
use Rattle.eo_lit.specs.declared.LiteralClass.{LiteralClass}
use Rattle.eo_names.specs.Contexts.{InReference, InAssert}
use Rattle.eo_session.specs.Origin.{Origin}
use Rattle.eo_session.specs.State.{State, context, context_in, with_entry, with_macro, with_assertion, is_asserted}
use Rattle.eo_session.specs.Step.{file_kind_of, is_in_proof, evaluated, formula_of, type_value, repeats_constant, named_apart, apart_constant, added_constant, typed_constant, checked_constant, checked_literals, repeats_macro, added_macro, define, define_fun, define_sort, may_declare, define_program, declare_rule, with_named_terms, assert}
use Rattle.eo_session.specs.Commands.{by_command}
use Rattle.eo_sexp.specs.Sexp.{Sexp}
use Rattle.eo_shape.specs.Shapes.{ParameterShape, ProgramShape, RuleShape, Command, DeclareConst, DeclareFun, DeclareSort, DeclareParameterized, DeclareLiterals, Define, DefineProgram, DeclareRule, Assume, AssumePush, Step, StepPop, Include, Refer, DefineFun, DefineSort, Assert, Exit, Skip}
use Rattle.eo_sig.specs.Signature.{IsConstant, IsProgram, IsRule, IsLiteralType, Constant, Macro, lookup, counts_of, constant_fault, literal_type_fault, program_fault, rule_fault}
use Rattle.eo_term.specs.Tree.{Tree}
use Rattle.eo_cert.specs.Written.{is_written, declared_in}

module _ (other : State) where
  abbrev apart : State → State
  apart st = declared_in st other

  module _ (st new : State) where
    after : (mid : State) → ◌≡◌ {A = Checked State} (Ok mid) (Ok new) → ◌≡◌ {A = Checked State} (Ok (apart mid)) (Ok (apart new))
    after mid e = ap (λ (x : State). Ok (apart x)) (ok_injective mid new e)

    required : (b : Bool) (fault : FaultName) (f g : Passed → Checked State) → (f tt ≡ Ok new → g tt ≡ Ok (apart new)) → (require b fault >>= f) ≡ Ok new → (require b fault >>= g) ≡ Ok (apart new)
    unfolding require ◌>>=◌
    required true fault f g h e = h e
    required false fault f g h e = absurd (err_is_not_ok fault new e)

    unfaulted : (o : Option FaultName) (f g : Passed → Checked State) → (f tt ≡ Ok new → g tt ≡ Ok (apart new)) → (no_fault o >>= f) ≡ Ok new → (no_fault o >>= g) ≡ Ok (apart new)
    unfolding no_fault ◌>>=◌
    unfaulted None f g h e = h e
    unfaulted (Some fault) f g h e = absurd (err_is_not_ok fault new e)

    bound : {A : Type 0} (m : Checked A) (f g : A → Checked State) → ((x : A) → f x ≡ Ok new → g x ≡ Ok (apart new)) → (m >>= f) ≡ Ok new → (m >>= g) ≡ Ok (apart new)
    bound m f g h e = let x = bind_ok m f new e in bind_step m g x.0 x.1 ∙ h x.0 x.2

    chosen : (b : Bool) (x y v w : Checked State) → (x ≡ Ok new → v ≡ Ok (apart new)) → (y ≡ Ok new → w ≡ Ok (apart new)) → (if b then x else y) ≡ Ok new → (if b then v else w) ≡ Ok (apart new)
    chosen true x y v w f g e = f e
    chosen false x y v w f g e = g e

    entry_again : (d : Constant) → apart_constant st d ≡ Ok new → apart_constant (apart st) d ≡ Ok (apart new)
    entry_again d e = bound (named_apart st.naming st.signature d) _ _ (λ u. after (with_entry st (IsConstant d (counts_of d)))) e

    constant_again : (d : Constant) → added_constant st d ≡ Ok new → added_constant (apart st) d ≡ Ok (apart new)
    unfolding added_constant
    constant_again d e = chosen (repeats_constant st d) _ _ _ _ (after st) (entry_again d) e

    typed_again : (m : Checked Constant) → (m >>= typed_constant st) ≡ Ok new → (m >>= typed_constant (apart st)) ≡ Ok (apart new)
    unfolding typed_constant type_value evaluated
    typed_again m e = bound m (typed_constant st) (typed_constant (apart st)) (λ d. bound (type_value st d.type) _ _ (λ v. constant_again (record d { type = v }))) e

    checked_again : (m : Checked Constant) → (m >>= checked_constant st) ≡ Ok new → (m >>= checked_constant (apart st)) ≡ Ok (apart new)
    checked_again m e = bound m _ _ (λ d. unfaulted (constant_fault d) _ _ (entry_again d)) e

    literals_again : (class : LiteralClass) (m : Checked Tree) → (m >>= checked_literals st class) ≡ Ok new → (m >>= checked_literals (apart st) class) ≡ Ok (apart new)
    literals_again class m e = bound m _ _ (λ t. unfaulted (literal_type_fault st.signature class t) _ _ (after (with_entry st (IsLiteralType class t)))) e

    macro_again : (m : Macro) → added_macro st m ≡ Ok new → added_macro (apart st) m ≡ Ok (apart new)
    unfolding added_macro
    macro_again m e =
        chosen (is_reference_name (context st) m.name) _ _ _ _
        (required (repeats_macro st m (lookup st.signature st.macros m.name)) Redeclared _ _ (after st))
        (after (with_macro st m)) e

    define_again : (name : List ℕ) (params : List ParameterShape) (body : Sexp) → define st name params body ≡ Ok new → define (apart st) name params body ≡ Ok (apart new)
    define_again name params body e = bound (defined (context st) name params body) _ _ macro_again e

    define_fun_again : (name : List ℕ) (params : List ParameterShape) (output body : Sexp) → define_fun st name params output body ≡ Ok new → define_fun (apart st) name params output body ≡ Ok (apart new)
    define_fun_again name params output body e = bound (defined_fun (context_in st InReference) name params output body) _ _ macro_again e

    define_sort_again : (name : List ℕ) (params : List (List ℕ)) (type : Sexp) → define_sort st name params type ≡ Ok new → define_sort (apart st) name params type ≡ Ok (apart new)
    define_sort_again name params type e = bound (defined_sort (context_in st InReference) name params type) _ _ macro_again e

    -- where the proof may declare it, a signature file may
    may_again : (from to : Origin) (f g : Passed → Checked State) → (f tt ≡ Ok new → g tt ≡ Ok (apart new)) → (may_declare st from >>= f) ≡ Ok new → (may_declare (apart st) to >>= g) ≡ Ok (apart new)
    unfolding require ◌>>=◌
    may_again from to f g h e = h (require_then (not (st.closed && is_in_proof from)) ProofDeclares f new e).1

    program_again : (from to : Origin) (shape : ProgramShape) → define_program st from shape ≡ Ok new → define_program (apart st) to shape ≡ Ok (apart new)
    unfolding define_program
    program_again from to shape e =
        may_again from to _ _ (bound (declared_program (context st) shape) _ _ (λ p. unfaulted (program_fault p) _ _ (after (with_entry st (IsProgram p))))) e

    rule_again : (from to : Origin) (shape : RuleShape) → declare_rule st from shape ≡ Ok new → declare_rule (apart st) to shape ≡ Ok (apart new)
    unfolding declare_rule
    rule_again from to shape e =
        may_again from to _ _ (bound (declared_rule (context st) shape) _ _ (λ r. unfaulted (rule_fault st.signature r) _ _ (after (with_entry st (IsRule r))))) e

    asserted_apart : (t : Tree) (b : Bool) → apart (if b then st else record st { assertions = st.assertions ++ t ∷ [] }) ≡ (if b then apart st else record (apart st) { assertions = st.assertions ++ t ∷ [] })
    asserted_apart t true = refl
    asserted_apart t false = refl

    assert_again : (s : Sexp) → assert st s ≡ Ok new → assert (apart st) s ≡ Ok (apart new)
    unfolding assert formula_of evaluated
    assert_again s e =
        bound (means (context_in st InAssert) [] s []) _ _ (λ r. bound (formula_of st r.0) _ _
        (λ v q. ap (λ (x : State). Ok (with_named_terms x r.1)) (sym (asserted_apart v (is_asserted st v))) ∙ after (with_named_terms (with_assertion st v) r.1) q)) e

  -- it is accepted again, in a file of which as much may be
  pub written_again : (st new : State) (from to : Origin) (command : Command) → file_kind_of from ≡ file_kind_of to → is_written command ≡ true → by_command st from command ≡ Ok new → by_command (apart st) to command ≡ Ok (apart new)
  written_again st new from to (DeclareConst name type shape) s w e =
      typed_again st new (declared_const (context_in st (file_kind_of to)) name type shape) (ap (λ x. declared_const (context_in st x) name type shape >>= typed_constant st) (sym s) ∙ e)
  written_again st new from to (DeclareFun name inputs output) s w e =
      typed_again st new (declared_fun (context_in st (file_kind_of to)) name inputs output) (ap (λ x. declared_fun (context_in st x) name inputs output >>= typed_constant st) (sym s) ∙ e)
  written_again st new from to (DeclareSort name arity) s w e =
      typed_again st new (declared_sort (context_in st (file_kind_of to)) name arity) (ap (λ x. declared_sort (context_in st x) name arity >>= typed_constant st) (sym s) ∙ e)
  written_again st new from to (DeclareParameterized name params type shape) s w e = checked_again st new (declared_parameterized (context st) name params type shape) e
  written_again st new from to (DeclareLiterals class type) s w e = literals_again st new class (declared_literals (context st) class type) e
  written_again st new from to (Define name params body) s w e = define_again st new name params body e
  written_again st new from to (DefineProgram shape) s w e = program_again st new from to shape e
  written_again st new from to (DeclareRule shape) s w e = rule_again st new from to shape e
  written_again st new from to (DefineFun name params output body) s w e = define_fun_again st new name params output body e
  written_again st new from to (DefineSort name params type) s w e = define_sort_again st new name params type e
  written_again st new from to (Assert formula) s w e = assert_again st new formula e
  written_again st new from to (Assume name formula) s w e = absurd (cc w)
  written_again st new from to (AssumePush name formula) s w e = absurd (cc w)
  written_again st new from to (Step shape) s w e = absurd (cc w)
  written_again st new from to (StepPop shape) s w e = absurd (cc w)
  written_again st new from to (Include path) s w e = absurd (cc w)
  written_again st new from to (Refer path) s w e = absurd (cc w)
  written_again st new from to Exit s w e = absurd (cc w)
  written_again st new from to Skip s w e = absurd (cc w)
