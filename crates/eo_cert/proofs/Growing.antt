-- A command that is accepted keeps what is declared and asserted, and may add to it.
use Rattle.std.specs.Prelude.{◌≡◌, ℕ, Bool, true, false, if◌then◌else◌, List, [], ◌∷◌, ◌++◌, Some, None, Ok, refl}
use Rattle.std.proofs.Common.{sym, subst, append-nil}
use Rattle.eo_base.proofs.ChecksLemmas.{ok_injective, bind_ok, require_then, no_fault_then}
use Rattle.eo_base.specs.Checks.{Checked, ◌>>=◌}
use Rattle.eo_declare.specs.Declarations.{declared_const, declared_fun, declared_sort, declared_parameterized, declared_literals, defined, defined_fun, defined_sort, declared_program, declared_rule, is_reference_name}
use Rattle.eo_lit.specs.declared.LiteralClass.{LiteralClass}
use Rattle.eo_names.specs.Contexts.{InReference}
use Rattle.eo_session.specs.Origin.{Origin}
use Rattle.eo_session.specs.State.{State, context, context_in, with_entry, with_macro, with_assertion, with_fact, with_scope, without_scope, with_command, is_asserted}
use Rattle.eo_session.specs.Step.{file_kind_of, repeats_constant, named_apart, apart_constant, added_constant, type_value, typed_constant, checked_constant, checked_literals, added_macro, define, define_fun, define_sort, define_program, declare_rule, formula_of, formula, with_named_terms, assume, assume_push, assert, concluded, with_conclusion, step_plain, step_pop}
use Rattle.eo_session.specs.Commands.{by_command, scoped_command, placed_command, uncounted, step}
use Rattle.eo_session.specs.declared.Next.{Next}
use Rattle.eo_sexp.specs.Sexp.{Sexp}
use Rattle.eo_shape.specs.Shapes.{ParameterShape, ProgramShape, RuleShape, StepShape, Command, DeclareConst, DeclareFun, DeclareSort, DeclareParameterized, DeclareLiterals, Define, DefineProgram, DeclareRule, Assume, AssumePush, Step, StepPop, Include, Refer, DefineFun, DefineSort, Assert, Exit, Skip}
use Rattle.eo_sig.specs.Signature.{Signature, SignatureEntry, IsConstant, IsProgram, IsRule, IsLiteralType, Constant, Macro, counts_of, constant_fault, literal_type_fault, program_fault, rule_fault}
use Rattle.eo_term.specs.Tree.{Tree}

-- a program is not declared with a fault
abbrev pub IsChecked : SignatureEntry → Type 0
IsChecked (IsConstant d n) = Unit {0}
IsChecked (IsProgram p) = program_fault p ≡ None
IsChecked (IsRule r) = Unit {0}
IsChecked (IsLiteralType class t) = Unit {0}

abbrev pub AllChecked : Signature → Type 0
AllChecked [] = Unit {0}
AllChecked (e ∷ es) = IsChecked e × AllChecked es

-- the same declarations and assertions, with more after them
pub record Adds (st new : State) : Type 0 where
  pub later : Signature
  pub checked : AllChecked later
  pub signature : new.signature ≡ st.signature ++ later
  pub more : List Tree
  pub assertions : new.assertions ≡ st.assertions ++ more

adds_then : (st mid new : State) → Adds st mid → ◌≡◌ {A = Checked State} (Ok mid) (Ok new) → Adds st new
adds_then st mid new q e = subst (Adds st) (ok_injective mid new e) q

adds_nothing : (st new : State) → new.signature ≡ st.signature → new.assertions ≡ st.assertions → Adds st new
adds_nothing st new s a = record {
  later = [];
  checked = tt;
  signature = subst (λ (T : Signature). T ≡ st.signature ++ []) (sym s) (sym (append-nil st.signature));
  more = [];
  assertions = subst (λ (ts : List Tree). ts ≡ st.assertions ++ []) (sym a) (sym (append-nil st.assertions));
}

by_test : (st new : State) (b : Bool) (x y : Checked State) → (x ≡ Ok new → Adds st new) → (y ≡ Ok new → Adds st new) → (if b then x else y) ≡ Ok new → Adds st new
by_test st new true x y f g e = f e
by_test st new false x y f g e = g e

module _ (st new : State) where
  same : (mid : State) → mid.signature ≡ st.signature → mid.assertions ≡ st.assertions → ◌≡◌ {A = Checked State} (Ok mid) (Ok new) → Adds st new
  same mid s a e = adds_then st mid new (adds_nothing st mid s a) e

  entry_adds : (e : SignatureEntry) → IsChecked e → ◌≡◌ {A = Checked State} (Ok (with_entry st e)) (Ok new) → Adds st new
  entry_adds e h k =
      adds_then st (with_entry st e) new (record { later = e ∷ []; checked = (h, tt); signature = refl; more = []; assertions = sym (append-nil st.assertions) }) k

  apart_adds : (d : Constant) → apart_constant st d ≡ Ok new → Adds st new
  apart_adds d e =
      entry_adds (IsConstant d (counts_of d)) tt (bind_ok (named_apart st.naming st.signature d) (λ _. Ok (with_entry st (IsConstant d (counts_of d)))) new e).2

  constant_adds : (d : Constant) → added_constant st d ≡ Ok new → Adds st new
  unfolding added_constant
  constant_adds d e = by_test st new (repeats_constant st d) _ _ (λ k. same st refl refl k) (apart_adds d) e

  typed_adds : (m : Checked Constant) → (m >>= typed_constant st) ≡ Ok new → Adds st new
  unfolding typed_constant
  typed_adds m e =
      let d = bind_ok m _ new e in
      let v = bind_ok (type_value st d.0.type) _ new d.2 in
      constant_adds (record d.0 { type = v.0 }) v.2

  checked_adds : (m : Checked Constant) → (m >>= checked_constant st) ≡ Ok new → Adds st new
  checked_adds m e = let d = bind_ok m _ new e in apart_adds d.0 (no_fault_then (constant_fault d.0) _ new d.2).1

  literals_adds : (class : LiteralClass) (m : Checked Tree) → (m >>= checked_literals st class) ≡ Ok new → Adds st new
  literals_adds class m e =
      let t = bind_ok m _ new e in entry_adds (IsLiteralType class t.0) tt (no_fault_then (literal_type_fault st.signature class t.0) _ new t.2).1

  macro_adds : (m : Macro) → added_macro st m ≡ Ok new → Adds st new
  unfolding added_macro
  macro_adds m e =
      by_test st new (is_reference_name (context st) m.name) _ _
      (λ k. same st refl refl (require_then _ _ _ new k).1)
      (λ k. same (with_macro st m) refl refl k) e

  program_adds : (from : Origin) (shape : ProgramShape) → define_program st from shape ≡ Ok new → Adds st new
  unfolding define_program
  program_adds from shape e =
      let may = require_then _ _ _ new e in
      let p = bind_ok (declared_program (context st) shape) _ new may.1 in
      let k = no_fault_then (program_fault p.0) _ new p.2 in
      entry_adds (IsProgram p.0) k.0 k.1

  rule_adds : (from : Origin) (shape : RuleShape) → declare_rule st from shape ≡ Ok new → Adds st new
  unfolding declare_rule
  rule_adds from shape e =
      let may = require_then _ _ _ new e in
      let r = bind_ok (declared_rule (context st) shape) _ new may.1 in
      entry_adds (IsRule r.0) tt (no_fault_then (rule_fault st.signature r.0) _ new r.2).1

  define_adds : (name : List ℕ) (params : List ParameterShape) (body : Sexp) → define st name params body ≡ Ok new → Adds st new
  define_adds name params body e = let m = bind_ok (defined (context st) name params body) _ new e in macro_adds m.0 m.2

  define_fun_adds : (name : List ℕ) (params : List ParameterShape) (output body : Sexp) → define_fun st name params output body ≡ Ok new → Adds st new
  define_fun_adds name params output body e =
      let m = bind_ok (defined_fun (context_in st InReference) name params output body) _ new e in macro_adds m.0 m.2

  define_sort_adds : (name : List ℕ) (params : List (List ℕ)) (type : Sexp) → define_sort st name params type ≡ Ok new → Adds st new
  define_sort_adds name params type e = let m = bind_ok (defined_sort (context_in st InReference) name params type) _ new e in macro_adds m.0 m.2

  assume_adds : (name : List ℕ) (s : Sexp) → assume st name s ≡ Ok new → Adds st new
  unfolding assume
  assume_adds name s e =
      let free = require_then _ _ _ new e in
      let v = bind_ok (formula st s) _ new free.1 in
      let reference = require_then _ _ _ new v.2 in
      let member = require_then _ _ _ new reference.1 in
      same (with_fact st name v.0) refl refl member.1

  push_adds : (name : List ℕ) (s : Sexp) → assume_push st name s ≡ Ok new → Adds st new
  unfolding assume_push
  push_adds name s e =
      let room = require_then _ _ _ new e in
      let free = require_then _ _ _ new room.1 in
      let v = bind_ok (formula st s) _ new free.1 in
      same (with_scope st name v.0) refl refl v.2

  plain_adds : (s : StepShape) → step_plain st s ≡ Ok new → Adds st new
  unfolding step_plain
  plain_adds s e =
      let free = require_then _ _ _ new e in
      let k = bind_ok (concluded st None s) _ new free.1 in
      same (with_conclusion st s.name k.0) refl refl k.2

  pop_adds : (s : StepShape) → step_pop st s ≡ Ok new → Adds st new
  unfolding step_pop
  pop_adds s e =
      let a = bind_ok _ _ new e in
      let free = require_then _ _ _ new a.2 in
      let k = bind_ok (concluded st (Some a.0) s) _ new free.1 in
      same (with_conclusion (without_scope st) s.name k.0) refl refl k.2

  assertion_adds : (t : Tree) (b : Bool) → Adds st (if b then st else record st { assertions = st.assertions ++ t ∷ [] })
  assertion_adds t true = adds_nothing st st refl refl
  assertion_adds t false = record { later = []; checked = tt; signature = sym (append-nil st.signature); more = t ∷ []; assertions = refl }

  assert_adds : (s : Sexp) → assert st s ≡ Ok new → Adds st new
  unfolding assert
  assert_adds s e =
      let r = bind_ok _ _ new e in
      let v = bind_ok (formula_of st r.0.0) _ new r.2 in
      let q = assertion_adds v.0 (is_asserted st v.0) in
      adds_then st (with_named_terms (with_assertion st v.0) r.0.1) new (record { later = q.later; checked = q.checked; signature = q.signature; more = q.more; assertions = q.assertions }) v.2

  command_adds : (from : Origin) (command : Command) → by_command st from command ≡ Ok new → Adds st new
  command_adds from (DeclareConst name type shape) e = typed_adds (declared_const (context_in st (file_kind_of from)) name type shape) e
  command_adds from (DeclareFun name inputs output) e = typed_adds (declared_fun (context_in st (file_kind_of from)) name inputs output) e
  command_adds from (DeclareSort name arity) e = typed_adds (declared_sort (context_in st (file_kind_of from)) name arity) e
  command_adds from (DeclareParameterized name params type shape) e = checked_adds (declared_parameterized (context st) name params type shape) e
  command_adds from (DeclareLiterals class type) e = literals_adds class (declared_literals (context st) class type) e
  command_adds from (Define name params body) e = define_adds name params body e
  command_adds from (DefineProgram shape) e = program_adds from shape e
  command_adds from (DeclareRule shape) e = rule_adds from shape e
  command_adds from (Assume name s) e = assume_adds name s e
  command_adds from (AssumePush name s) e = push_adds name s e
  command_adds from (Step shape) e = plain_adds shape e
  command_adds from (StepPop shape) e = pop_adds shape e
  command_adds from (Include written) e = same st refl refl e
  command_adds from (Refer written) e = same st refl refl e
  command_adds from (DefineFun name params output body) e = define_fun_adds name params output body e
  command_adds from (DefineSort name params type) e = define_sort_adds name params type e
  command_adds from (Assert s) e = assert_adds s e
  command_adds from Exit e = same st refl refl e
  command_adds from Skip e = same st refl refl e

counted : (st mid : State) → Adds st mid → Adds st (with_command mid)
counted st mid q = record { later = q.later; checked = q.checked; signature = q.signature; more = q.more; assertions = q.assertions }

placed_adds : (st : State) (from : Origin) (command : Command) (r : State × Next) → placed_command st from command ≡ Ok r → Adds st r.0
unfolding placed_command scoped_command
placed_adds st from command r e =
    let new = bind_ok _ _ r e in
    let top = require_then _ _ _ new.0 new.1 in
    let what = bind_ok _ _ r new.2 in
    subst (λ (x : State × Next). Adds st x.0) (ok_injective (new.0, what.0) r what.2) (command_adds st new.0 from command top.1)

pub step_adds : (st : State) (from : Origin) (s : Sexp) (r : State × Next) → step st from s ≡ Ok r → Adds st r.0
unfolding step uncounted
step_adds st from s r e =
    let k = bind_ok (uncounted st from s) _ r e in
    let command = bind_ok _ _ k.0 k.1 in
    subst (λ (x : State × Next). Adds st x.0) (ok_injective (with_command k.0.0, k.0.1) r k.2) (counted st k.0.0 (placed_adds st from command.0 k.0 command.2))
