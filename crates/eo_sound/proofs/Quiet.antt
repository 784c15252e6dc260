-- Commands that declare no program and no rule.
use Rattle.std.specs.Prelude.{◌≡◌, ℕ, Bool, true, false, if◌then◌else◌, List, [], ◌∷◌, ◌++◌, Some, None, Ok, refl}
use Rattle.std.proofs.Common.{◌∙◌, sym, subst, true≢false}
use Rattle.std.proofs.lemmas.List.{append-nil}
use Rattle.std.proofs.lemmas.List.Elements.{filter_map-append}
use Rattle.eo_base.proofs.ChecksLemmas.{ok_injective, bind_ok, require_then, no_fault_then}
use Rattle.eo_base.specs.Checks.{Checked, ◌>>=◌}
use Rattle.eo_declare.specs.Declarations.{declared_const, declared_fun, declared_sort, declared_parameterized, declared_literals, defined, defined_fun, defined_sort, declared_program, declared_rule, is_reference_name}
use Rattle.eo_lit.specs.declared.LiteralClass.{LiteralClass}
use Rattle.eo_session.specs.Origin.{Origin}
use Rattle.eo_names.specs.Contexts.{InReference}
use Rattle.eo_names.specs.Readers.{NamedTerm}
use Rattle.eo_sound.specs.Quiet.{IsQuiet}
use Rattle.eo_session.specs.State.{State, context, context_in, with_entry, with_macro, with_assertion, with_fact, with_scope, without_scope, is_asserted}
use Rattle.eo_session.specs.Step.{file_kind_of, added_constant, type_value, typed_constant, repeats_constant, named_apart, apart_constant, checked_constant, checked_literals, added_macro, define, define_fun, define_sort, define_program, declare_rule, formula_of, formula, with_named_terms, assume, assume_push, assert, concluded, with_conclusion, step_plain, step_pop}
use Rattle.eo_session.specs.Commands.{by_command}
use Rattle.eo_sexp.specs.Sexp.{Sexp}
use Rattle.eo_shape.specs.Shapes.{ParameterShape, ProgramShape, RuleShape, StepShape, Command, DeclareConst, DeclareFun, DeclareSort, DeclareParameterized, DeclareLiterals, Define, DefineProgram, DeclareRule, Assume, AssumePush, Step, StepPop, Include, Refer, DefineFun, DefineSort, Assert, Exit, Skip}
use Rattle.eo_sig.specs.Signature.{Signature, SignatureEntry, IsConstant, IsProgram, IsRule, IsLiteralType, Constant, Macro, counts_of, program_of, rule_of, programs, rules, constant_fault, literal_type_fault}
use Rattle.eo_term.specs.Tree.{Tree}

-- ---- states that have the same programs and rules

quiet_then : (st mid new : State) → IsQuiet st mid → ◌≡◌ {A = Checked State} (Ok mid) (Ok new) → IsQuiet st new
quiet_then st mid new q e = subst (IsQuiet st) (ok_injective mid new e) q

not_grown : (S : Signature) → (later : Signature) × (S ≡ S ++ later)
not_grown S = ([], sym (append-nil S))

quiet_self : (st : State) → IsQuiet st st
quiet_self st = record { closed = refl; programs_stay = refl; rules_stay = refl; grows = not_grown st.signature }

abbrev declares : SignatureEntry → Bool
declares (IsConstant d n) = false
declares (IsProgram p) = true
declares (IsRule r) = true
declares (IsLiteralType class t) = false

programs_more : (S : Signature) (e : SignatureEntry) → declares e ≡ false → programs (S ++ e ∷ []) ≡ programs S
programs_more S (IsConstant d n) h = filter_map-append program_of S (IsConstant d n ∷ []) ∙ append-nil (programs S)
programs_more S (IsProgram p) h = absurd (true≢false h)
programs_more S (IsRule r) h = absurd (true≢false h)
programs_more S (IsLiteralType class t) h = filter_map-append program_of S (IsLiteralType class t ∷ []) ∙ append-nil (programs S)

rules_more : (S : Signature) (e : SignatureEntry) → declares e ≡ false → rules (S ++ e ∷ []) ≡ rules S
rules_more S (IsConstant d n) h = filter_map-append rule_of S (IsConstant d n ∷ []) ∙ append-nil (rules S)
rules_more S (IsProgram p) h = absurd (true≢false h)
rules_more S (IsRule r) h = absurd (true≢false h)
rules_more S (IsLiteralType class t) h = filter_map-append rule_of S (IsLiteralType class t ∷ []) ∙ append-nil (rules S)

by_test : (st new : State) (b : Bool) (x y : Checked State) → (x ≡ Ok new → IsQuiet st new) → (y ≡ Ok new → IsQuiet st new) → (if b then x else y) ≡ Ok new → IsQuiet st new
by_test st new true x y f g e = f e
by_test st new false x y f g e = g e

module _ (st new : State) where
  entry_quiet : (e : SignatureEntry) → declares e ≡ false → ◌≡◌ {A = Checked State} (Ok (with_entry st e)) (Ok new) → IsQuiet st new
  entry_quiet e h k =
      quiet_then st (with_entry st e) new (record { closed = refl; programs_stay = programs_more st.signature e h; rules_stay = rules_more st.signature e h; grows = (e ∷ [], refl) }) k

  apart_quiet : (d : Constant) → apart_constant st d ≡ Ok new → IsQuiet st new
  apart_quiet d e =
      entry_quiet (IsConstant d (counts_of d)) refl (bind_ok (named_apart st.naming st.signature d) (λ _. Ok (with_entry st (IsConstant d (counts_of d)))) new e).2

  constant_quiet : (d : Constant) → added_constant st d ≡ Ok new → IsQuiet st new
  unfolding added_constant
  constant_quiet d e =
      by_test st new (repeats_constant st d) _ _ (λ k. quiet_then st st new (quiet_self st) k) (apart_quiet d) e

  typed_quiet : (m : Checked Constant) → (m >>= typed_constant st) ≡ Ok new → IsQuiet st new
  unfolding typed_constant
  typed_quiet m e =
      let d = bind_ok m _ new e in
      let v = bind_ok (type_value st d.0.type) _ new d.2 in
      constant_quiet (record d.0 { type = v.0 }) v.2

  checked_quiet : (m : Checked Constant) → (m >>= checked_constant st) ≡ Ok new → IsQuiet st new
  checked_quiet m e =
      let d = bind_ok m _ new e in apart_quiet d.0 (no_fault_then (constant_fault d.0) _ new d.2).1

  literals_quiet : (class : LiteralClass) (m : Checked Tree) → (m >>= checked_literals st class) ≡ Ok new → IsQuiet st new
  literals_quiet class m e =
      let t = bind_ok m _ new e in entry_quiet (IsLiteralType class t.0) refl (no_fault_then (literal_type_fault st.signature class t.0) _ new t.2).1

  macro_quiet : (m : Macro) → added_macro st m ≡ Ok new → IsQuiet st new
  unfolding added_macro
  macro_quiet m e =
      by_test st new (is_reference_name (context st) m.name) _ _
      (λ k. quiet_then st st new (quiet_self st) (require_then _ _ _ new k).1)
      (λ k. quiet_then st (with_macro st m) new (record { closed = refl; programs_stay = refl; rules_stay = refl; grows = not_grown st.signature }) k) e

  define_quiet : (name : List ℕ) (params : List ParameterShape) (body : Sexp) → define st name params body ≡ Ok new → IsQuiet st new
  define_quiet name params body e = let m = bind_ok (defined (context st) name params body) _ new e in macro_quiet m.0 m.2

  define_fun_quiet : (name : List ℕ) (params : List ParameterShape) (output body : Sexp) → define_fun st name params output body ≡ Ok new → IsQuiet st new
  define_fun_quiet name params output body e =
      let m = bind_ok (defined_fun (context_in st InReference) name params output body) _ new e in macro_quiet m.0 m.2

  define_sort_quiet : (name : List ℕ) (params : List (List ℕ)) (type : Sexp) → define_sort st name params type ≡ Ok new → IsQuiet st new
  define_sort_quiet name params type e = let m = bind_ok (defined_sort (context_in st InReference) name params type) _ new e in macro_quiet m.0 m.2

  assume_quiet : (name : List ℕ) (s : Sexp) → assume st name s ≡ Ok new → IsQuiet st new
  unfolding assume
  assume_quiet name s e =
      let free = require_then _ _ _ new e in
      let v = bind_ok (formula st s) _ new free.1 in
      let reference = require_then _ _ _ new v.2 in
      let member = require_then _ _ _ new reference.1 in
      quiet_then st (with_fact st name v.0) new (record { closed = refl; programs_stay = refl; rules_stay = refl; grows = not_grown st.signature }) member.1

  push_quiet : (name : List ℕ) (s : Sexp) → assume_push st name s ≡ Ok new → IsQuiet st new
  unfolding assume_push
  push_quiet name s e =
      let room = require_then _ _ _ new e in
      let free = require_then _ _ _ new room.1 in
      let v = bind_ok (formula st s) _ new free.1 in
      quiet_then st (with_scope st name v.0) new (record { closed = refl; programs_stay = refl; rules_stay = refl; grows = not_grown st.signature }) v.2

  plain_quiet : (s : StepShape) → step_plain st s ≡ Ok new → IsQuiet st new
  unfolding step_plain
  plain_quiet s e =
      let free = require_then _ _ _ new e in
      let k = bind_ok (concluded st None s) _ new free.1 in
      quiet_then st (with_conclusion st s.name k.0) new (record { closed = refl; programs_stay = refl; rules_stay = refl; grows = not_grown st.signature }) k.2

  pop_quiet : (s : StepShape) → step_pop st s ≡ Ok new → IsQuiet st new
  unfolding step_pop
  pop_quiet s e =
      let a = bind_ok _ _ new e in
      let free = require_then _ _ _ new a.2 in
      let k = bind_ok (concluded st (Some a.0) s) _ new free.1 in
      quiet_then st (with_conclusion (without_scope st) s.name k.0) new (record { closed = refl; programs_stay = refl; rules_stay = refl; grows = not_grown st.signature }) k.2

  assertion_quiet : (t : Tree) (b : Bool) → IsQuiet st (if b then st else record st { assertions = st.assertions ++ t ∷ [] })
  assertion_quiet t true = quiet_self st
  assertion_quiet t false = record { closed = refl; programs_stay = refl; rules_stay = refl; grows = not_grown st.signature }

  named_terms_quiet : (mid : State) (named_terms : List NamedTerm) → IsQuiet st mid → IsQuiet st (with_named_terms mid named_terms)
  named_terms_quiet mid named_terms q = record { closed = q.closed; programs_stay = q.programs_stay; rules_stay = q.rules_stay; grows = q.grows }

  assert_quiet : (s : Sexp) → assert st s ≡ Ok new → IsQuiet st new
  unfolding assert
  assert_quiet s e =
      let r = bind_ok _ _ new e in
      let v = bind_ok (formula_of st r.0.0) _ new r.2 in
      quiet_then st (with_named_terms (with_assertion st v.0) r.0.1) new
      (named_terms_quiet (with_assertion st v.0) r.0.1 (assertion_quiet v.0 (is_asserted st v.0))) v.2

-- ---- what declares a program or a rule

abbrev pub declares_rules : Command → Bool
declares_rules (DefineProgram shape) = true
declares_rules (DeclareRule shape) = true
declares_rules command = false

pub quiet_command : (st : State) (from : Origin) (command : Command) (new : State) → declares_rules command ≡ false → by_command st from command ≡ Ok new → IsQuiet st new
quiet_command st from (DeclareConst name type shape) new h e = typed_quiet st new (declared_const (context_in st (file_kind_of from)) name type shape) e
quiet_command st from (DeclareFun name inputs output) new h e = typed_quiet st new (declared_fun (context_in st (file_kind_of from)) name inputs output) e
quiet_command st from (DeclareSort name arity) new h e = typed_quiet st new (declared_sort (context_in st (file_kind_of from)) name arity) e
quiet_command st from (DeclareParameterized name params type shape) new h e = checked_quiet st new (declared_parameterized (context st) name params type shape) e
quiet_command st from (DeclareLiterals class type) new h e = literals_quiet st new class (declared_literals (context st) class type) e
quiet_command st from (Define name params body) new h e = define_quiet st new name params body e
quiet_command st from (DefineProgram shape) new h e = absurd (true≢false h)
quiet_command st from (DeclareRule shape) new h e = absurd (true≢false h)
quiet_command st from (Assume name s) new h e = assume_quiet st new name s e
quiet_command st from (AssumePush name s) new h e = push_quiet st new name s e
quiet_command st from (Step shape) new h e = plain_quiet st new shape e
quiet_command st from (StepPop shape) new h e = pop_quiet st new shape e
quiet_command st from (Include written) new h e = quiet_then st st new (quiet_self st) e
quiet_command st from (Refer written) new h e = quiet_then st st new (quiet_self st) e
quiet_command st from (DefineFun name params output body) new h e = define_fun_quiet st new name params output body e
quiet_command st from (DefineSort name params type) new h e = define_sort_quiet st new name params type e
quiet_command st from (Assert s) new h e = assert_quiet st new s e
quiet_command st from Exit new h e = quiet_then st st new (quiet_self st) e
quiet_command st from Skip new h e = quiet_then st st new (quiet_self st) e

program_closed : (st : State) (from : Origin) (shape : ProgramShape) (new : State) → define_program st from shape ≡ Ok new → new.closed ≡ st.closed
unfolding define_program
program_closed st from shape new e =
    let may = require_then _ _ _ new e in
    let p = bind_ok (declared_program (context st) shape) _ new may.1 in
    subst (λ (x : State). x.closed ≡ st.closed) (ok_injective (with_entry st (IsProgram p.0)) new (no_fault_then _ _ new p.2).1) refl

rule_closed : (st : State) (from : Origin) (shape : RuleShape) (new : State) → declare_rule st from shape ≡ Ok new → new.closed ≡ st.closed
unfolding declare_rule
rule_closed st from shape new e =
    let may = require_then _ _ _ new e in
    let r = bind_ok (declared_rule (context st) shape) _ new may.1 in
    subst (λ (x : State). x.closed ≡ st.closed) (ok_injective (with_entry st (IsRule r.0)) new (no_fault_then _ _ new r.2).1) refl

-- every command leaves whether the check is closed
pub command_closed : (st : State) (from : Origin) (command : Command) (new : State) → by_command st from command ≡ Ok new → new.closed ≡ st.closed
command_closed st from (DefineProgram shape) new e = program_closed st from shape new e
command_closed st from (DeclareRule shape) new e = rule_closed st from shape new e
command_closed st from command new e = (quiet_command st from command new refl e).closed
