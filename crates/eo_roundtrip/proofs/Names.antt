-- Each command leaves the constants with names that can be read and printed.
use Rattle.std.specs.Prelude.{◌≡◌, ℕ, suc, Bool, true, false, not, if◌then◌else◌, List, [], ◌∷◌, ◌++◌, length, slice_get, Some, None, Ok, refl, ◌<◌}
use Rattle.std.specs.Option.{option_map_or}
use Rattle.std.proofs.Common.{◌∙◌, sym, ap, subst, arith}
use Rattle.eo_base.proofs.Tests.{both}
use Rattle.eo_base.proofs.ChecksLemmas.{ok_injective, bind_ok, require_then}
use Rattle.eo_base.specs.Checks.{Checked, ◌>>=◌, no_fault}
use Rattle.eo_declare.specs.Declarations.{declared_const, declared_fun, declared_sort, declared_parameterized, declared_literals, defined, defined_fun, defined_sort, declared_program, declared_rule, is_reference_name, plain_constant, few, bind, unbound, not_tall, bound_type, attribute, function_type, meanings, sort_type, constant, may_be_constant}
use Rattle.eo_lit.specs.declared.LiteralClass.{LiteralClass}
use Rattle.eo_session.specs.Origin.{Origin}
use Rattle.eo_names.specs.Contexts.{Context, InReference, Several}
use Rattle.eo_names.specs.Readers.{NamedTerm}
use Rattle.eo_elab.specs.Meaning.{meaning}
use Rattle.eo_session.specs.State.{State, context, context_in, with_entry, with_macro, with_assertion, with_fact, with_scope, without_scope, is_asserted}
use Rattle.eo_session.specs.Step.{file_kind_of, added_constant, type_value, typed_constant, checked_constant, checked_literals, added_macro, define, define_fun, define_sort, define_program, declare_rule, formula_of, formula, with_named_terms, assume, assume_push, assert, concluded, with_conclusion, step_plain, step_pop, repeats_constant, named_apart, apart_constant}
use Rattle.eo_session.specs.Commands.{by_command}
use Rattle.eo_sexp.specs.Sexp.{Sexp}
use Rattle.eo_shape.specs.Shapes.{ParameterShape, AttributeShape, ProgramShape, RuleShape, StepShape, Command, DeclareConst, DeclareFun, DeclareSort, DeclareParameterized, DeclareLiterals, Define, DefineProgram, DeclareRule, Assume, AssumePush, Step, StepPop, Include, Refer, DefineFun, DefineSort, Assert, Exit, Skip}
use Rattle.eo_sig.specs.Signature.{Signature, SignatureEntry, IsConstant, IsProgram, IsRule, IsLiteralType, Constant, Macro, Attribute, Plain, is_reserved, constant_fault, literal_type_fault, constants, constant_at, first_signature, counts_of, may_name_constant}
use Rattle.eo_term.specs.Tree.{Tree}
use Rattle.eo_show.specs.Forms.{name_of}
use Rattle.eo_show.specs.Printable.{IsPrintedName, ArePrintedNames}
use Rattle.eo_roundtrip.specs.Shown.{HasName, HaveNames}
use Rattle.eo_session.specs.declared.Next.{Next}
use Rattle.eo_session.specs.State.{with_command}
use Rattle.eo_session.specs.Step.{is_in_reference}
use Rattle.eo_session.specs.Commands.{step, uncounted, placed_command, scoped_command, next_by}
use Rattle.eo_shape.specs.Shapes.{command_of}
use Rattle.eo_base.specs.Limits.{limits}
use Rattle.eo_sexp.specs.Lexicon.{is_quotable, is_text, is_space, is_word, kind_of, begins_digit}
use Rattle.eo_sexp.specs.Printing.{printed_atom}
use Rattle.eo_term.specs.Operators.{operator_named}
use Rattle.std.specs.Prelude.{zero}
use Rattle.std.proofs.lemmas.Option.{same_Some}
use Rattle.eo_roundtrip.proofs.LineNames.{has-name}

-- ---- signatures whose constants have such names

abbrev pub IsGoodName : List ℕ → Type 0
IsGoodName name = HasName name × IsPrintedName name

abbrev pub EntryNamed : SignatureEntry → Type 0
EntryNamed (IsConstant d n) = IsGoodName d.name
EntryNamed (IsProgram p) = Unit {0}
EntryNamed (IsRule r) = Unit {0}
EntryNamed (IsLiteralType l t) = Unit {0}

abbrev pub AreNamed : Signature → Type 0
AreNamed [] = Unit {0}
AreNamed (e ∷ S) = EntryNamed e × AreNamed S

named-push : (S : Signature) (e : SignatureEntry) → AreNamed S → EntryNamed e → AreNamed (S ++ e ∷ [])
named-push [] e h n = (n, tt)
named-push (d ∷ S) e h n = (h.0, named-push S e h.1 n)

pub record NamesKept (st new : State) : Type 0 where
  pub names : AreNamed st.signature → AreNamed new.signature
  pub several : st.naming ≡ Several → new.naming ≡ Several

same : (st : State) → NamesKept st st
same st = record { names = λ h. h; several = λ n. n }

quiet_then : (st mid new : State) → NamesKept st mid → ◌≡◌ {A = Checked State} (Ok mid) (Ok new) → NamesKept st new
quiet_then st mid new q e = subst (NamesKept st) (ok_injective mid new e) q

quiet_self : (st : State) → NamesKept st st
quiet_self st = same st

by_test : (st new : State) (b : Bool) (x y : Checked State) → (x ≡ Ok new → NamesKept st new) → (b ≡ false → y ≡ Ok new → NamesKept st new) → (if b then x else y) ≡ Ok new → NamesKept st new
by_test st new true x y f g e = f e
by_test st new false x y f g e = g refl e

-- a name that a constant may have is looked up where it is
may-name : (S : Signature) (macros : List Macro) (name : List ℕ) → may_name_constant S macros name ≡ true → HasName name
may-name S macros name e = has-name name (reserved (is_reserved name) (both e).0)
  where
    reserved : (b : Bool) → not b ≡ true → b ≡ false
    reserved true h = cc
    reserved false h = refl

module _ (st new : State) where
  entry_quiet : (e : SignatureEntry) → EntryNamed e → ◌≡◌ {A = Checked State} (Ok (with_entry st e)) (Ok new) → NamesKept st new
  entry_quiet e n k = quiet_then st (with_entry st e) new (record { names = λ h. named-push st.signature e h n; several = λ m. m }) k

  apart_quiet : (d : Constant) → IsGoodName d.name → apart_constant st d ≡ Ok new → NamesKept st new
  apart_quiet d n e =
      entry_quiet (IsConstant d (counts_of d)) n (bind_ok (named_apart st.naming st.signature d) (λ _. Ok (with_entry st (IsConstant d (counts_of d)))) new e).2

  constant_quiet : (d : Constant) → IsGoodName d.name → added_constant st d ≡ Ok new → NamesKept st new
  unfolding added_constant
  constant_quiet d n e =
      by_test st new (repeats_constant st d) _ _ (λ k. quiet_then st st new (quiet_self st) k) (λ f k. apart_quiet d n k) e

  typed_quiet : (m : Checked Constant) → ((d : Constant) → m ≡ Ok d → IsGoodName d.name) → (m >>= typed_constant st) ≡ Ok new → NamesKept st new
  unfolding typed_constant
  typed_quiet m n e =
      let d = bind_ok m _ new e in
      let v = bind_ok (type_value st d.0.type) _ new d.2 in
      constant_quiet (record d.0 { type = v.0 }) (n d.0 d.1) v.2

  checked_quiet : (m : Checked Constant) → ((d : Constant) → m ≡ Ok d → IsGoodName d.name) → (m >>= checked_constant st) ≡ Ok new → NamesKept st new
  checked_quiet m n e =
      let d = bind_ok m _ new e in apart_quiet d.0 (n d.0 d.1) (bind_ok (no_fault (constant_fault d.0)) _ new d.2).2

  literals_quiet : (class : LiteralClass) (m : Checked Tree) → (m >>= checked_literals st class) ≡ Ok new → NamesKept st new
  literals_quiet class m e =
      let t = bind_ok m _ new e in entry_quiet (IsLiteralType class t.0) tt (bind_ok (no_fault (literal_type_fault st.signature class t.0)) _ new t.2).2

  macro_quiet : (m : Macro) → added_macro st m ≡ Ok new → NamesKept st new
  unfolding added_macro
  macro_quiet m e =
      by_test st new (is_reference_name (context st) m.name) _ _
      (λ k. quiet_then st st new (quiet_self st) (require_then _ _ _ new k).1)
      (λ f k. quiet_then st (with_macro st m) new (record { names = λ h. h; several = λ n. n }) k) e

  define_quiet : (name : List ℕ) (params : List ParameterShape) (body : Sexp) → define st name params body ≡ Ok new → NamesKept st new
  define_quiet name params body e = let m = bind_ok (defined (context st) name params body) _ new e in macro_quiet m.0 m.2

  define_fun_quiet : (name : List ℕ) (params : List ParameterShape) (output body : Sexp) → define_fun st name params output body ≡ Ok new → NamesKept st new
  define_fun_quiet name params output body e =
      let m = bind_ok (defined_fun (context_in st InReference) name params output body) _ new e in macro_quiet m.0 m.2

  define_sort_quiet : (name : List ℕ) (params : List (List ℕ)) (type : Sexp) → define_sort st name params type ≡ Ok new → NamesKept st new
  define_sort_quiet name params type e = let m = bind_ok (defined_sort (context_in st InReference) name params type) _ new e in macro_quiet m.0 m.2

  assume_quiet : (name : List ℕ) (s : Sexp) → assume st name s ≡ Ok new → NamesKept st new
  unfolding assume
  assume_quiet name s e =
      let free = require_then _ _ _ new e in
      let v = bind_ok (formula st s) _ new free.1 in
      let reference = require_then _ _ _ new v.2 in
      let member = require_then _ _ _ new reference.1 in
      quiet_then st (with_fact st name v.0) new (record { names = λ h. h; several = λ n. n }) member.1

  push_quiet : (name : List ℕ) (s : Sexp) → assume_push st name s ≡ Ok new → NamesKept st new
  unfolding assume_push
  push_quiet name s e =
      let room = require_then _ _ _ new e in
      let free = require_then _ _ _ new room.1 in
      let v = bind_ok (formula st s) _ new free.1 in
      quiet_then st (with_scope st name v.0) new (record { names = λ h. h; several = λ n. n }) v.2

  plain_quiet : (s : StepShape) → step_plain st s ≡ Ok new → NamesKept st new
  unfolding step_plain
  plain_quiet s e =
      let free = require_then _ _ _ new e in
      let k = bind_ok (concluded st None s) _ new free.1 in
      quiet_then st (with_conclusion st s.name k.0) new (record { names = λ h. h; several = λ n. n }) k.2

  pop_quiet : (s : StepShape) → step_pop st s ≡ Ok new → NamesKept st new
  unfolding step_pop
  pop_quiet s e =
      let a = bind_ok _ _ new e in
      let free = require_then _ _ _ new a.2 in
      let k = bind_ok (concluded st (Some a.0) s) _ new free.1 in
      quiet_then st (with_conclusion (without_scope st) s.name k.0) new (record { names = λ h. h; several = λ n. n }) k.2

  assertion_quiet : (t : Tree) (b : Bool) → NamesKept st (if b then st else record st { assertions = st.assertions ++ t ∷ [] })
  assertion_quiet t true = quiet_self st
  assertion_quiet t false = record { names = λ h. h; several = λ n. n }

  named_terms_quiet : (mid : State) (named_terms : List NamedTerm) → NamesKept st mid → NamesKept st (with_named_terms mid named_terms)
  named_terms_quiet mid named_terms q = record { names = q.names; several = q.several }

  assert_quiet : (s : Sexp) → assert st s ≡ Ok new → NamesKept st new
  unfolding assert
  assert_quiet s e =
      let r = bind_ok _ _ new e in
      let v = bind_ok (formula_of st r.0.0) _ new r.2 in
      quiet_then st (with_named_terms (with_assertion st v.0) r.0.1) new
      (named_terms_quiet (with_assertion st v.0) r.0.1 (assertion_quiet v.0 (is_asserted st v.0))) v.2

-- ---- the names of declared constants

plain-name : (c : Context) (name : List ℕ) (type : Tree) (a : Attribute) (d : Constant) → plain_constant c name type a ≡ Ok d → name ≡ d.name
plain-name c name type a d e = ap (λ (k : Constant). k.name) (ok_injective (constant c name [] type a) d (bind_ok _ _ d e).2)

const-name : (c : Context) (name : List ℕ) (type : Sexp) (shape : AttributeShape) (d : Constant) → declared_const c name type shape ≡ Ok d → (may_be_constant c name ≡ true) × (name ≡ d.name)
unfolding declared_const
const-name c name type shape d e =
    let free = require_then _ _ _ d e in
    let t = bind_ok (meaning c [] type) _ d free.1 in
    let a = bind_ok (attribute c [] shape) _ d t.2 in
    (free.0, plain-name c name t.0 a.0 d a.2)

fun-name : (c : Context) (name : List ℕ) (inputs : List Sexp) (output : Sexp) (d : Constant) → declared_fun c name inputs output ≡ Ok d → (may_be_constant c name ≡ true) × (name ≡ d.name)
unfolding declared_fun
fun-name c name inputs output d e =
    let free = require_then _ _ _ d e in
    let ts = bind_ok (meanings c [] inputs) _ d free.1 in
    let t = bind_ok (meaning c [] output) _ d ts.2 in
    let type = bind_ok (not_tall (function_type ts.0 t.0)) _ d t.2 in
    (free.0, plain-name c name type.0 Plain d type.2)

sort-name : (c : Context) (name : List ℕ) (arity : ℕ) (d : Constant) → declared_sort c name arity ≡ Ok d → (may_be_constant c name ≡ true) × (name ≡ d.name)
unfolding declared_sort
sort-name c name arity d e = let free = require_then _ _ _ d e in (free.0, plain-name c name (sort_type arity) Plain d free.1)

parameterized-name : (c : Context) (name : List ℕ) (shapes : List ParameterShape) (type : Sexp) (shape : AttributeShape) (d : Constant) → declared_parameterized c name shapes type shape ≡ Ok d → (may_be_constant c name ≡ true) × (name ≡ d.name)
unfolding declared_parameterized
parameterized-name c name shapes type shape d e =
    let free = require_then _ _ _ d e in
    let room = bind_ok (few (length shapes)) _ d free.1 in
    let b = bind_ok (bind c unbound shapes) _ d room.2 in
    let t = bind_ok (meaning c b.0.locals type) _ d b.2 in
    let whole = bind_ok (not_tall (bound_type 0 b.0.parameters t.0)) _ d t.2 in
    let a = bind_ok (attribute c b.0.locals shape) _ d whole.2 in
    (free.0, ap (λ (k : Constant). k.name) (ok_injective (constant c name b.0.parameters whole.0 a.0) d a.2))

-- the name that a command declares as a constant can be printed
abbrev pub DeclaresPrinted : Command → Type 0
DeclaresPrinted (DeclareConst name type shape) = IsPrintedName name
DeclaresPrinted (DeclareFun name inputs output) = IsPrintedName name
DeclaresPrinted (DeclareSort name arity) = IsPrintedName name
DeclaresPrinted (DeclareParameterized name params type shape) = IsPrintedName name
DeclaresPrinted command = Unit {0}

program-names : (st : State) (from : Origin) (shape : ProgramShape) (new : State) → define_program st from shape ≡ Ok new → NamesKept st new
unfolding define_program
program-names st from shape new e =
    let may = require_then _ _ _ new e in
    let p = bind_ok (declared_program (context st) shape) _ new may.1 in
    entry_quiet st new (IsProgram p.0) tt (bind_ok _ _ new p.2).2

rule-names : (st : State) (from : Origin) (shape : RuleShape) (new : State) → declare_rule st from shape ≡ Ok new → NamesKept st new
unfolding declare_rule
rule-names st from shape new e =
    let may = require_then _ _ _ new e in
    let r = bind_ok (declared_rule (context st) shape) _ new may.1 in
    entry_quiet st new (IsRule r.0) tt (bind_ok _ _ new r.2).2

pub command-names : (st : State) (from : Origin) (command : Command) (new : State) → DeclaresPrinted command → by_command st from command ≡ Ok new → NamesKept st new
command-names st from (DeclareConst name type shape) new h e = typed_quiet st new (declared_const (context_in st (file_kind_of from)) name type shape)
    (λ d k. let n = const-name (context_in st (file_kind_of from)) name type shape d k in subst IsGoodName n.1 (may-name st.signature st.macros name n.0, h)) e
command-names st from (DeclareFun name inputs output) new h e = typed_quiet st new (declared_fun (context_in st (file_kind_of from)) name inputs output)
    (λ d k. let n = fun-name (context_in st (file_kind_of from)) name inputs output d k in subst IsGoodName n.1 (may-name st.signature st.macros name n.0, h)) e
command-names st from (DeclareSort name arity) new h e = typed_quiet st new (declared_sort (context_in st (file_kind_of from)) name arity)
    (λ d k. let n = sort-name (context_in st (file_kind_of from)) name arity d k in subst IsGoodName n.1 (may-name st.signature st.macros name n.0, h)) e
command-names st from (DeclareParameterized name params type shape) new h e = checked_quiet st new (declared_parameterized (context st) name params type shape)
    (λ d k. let n = parameterized-name (context st) name params type shape d k in subst IsGoodName n.1 (may-name st.signature st.macros name n.0, h)) e
command-names st from (DeclareLiterals class type) new h e = literals_quiet st new class (declared_literals (context st) class type) e
command-names st from (Define name params body) new h e = define_quiet st new name params body e
command-names st from (DefineProgram shape) new h e = program-names st from shape new e
command-names st from (DeclareRule shape) new h e = rule-names st from shape new e
command-names st from (Assume name s) new h e = assume_quiet st new name s e
command-names st from (AssumePush name s) new h e = push_quiet st new name s e
command-names st from (Step shape) new h e = plain_quiet st new shape e
command-names st from (StepPop shape) new h e = pop_quiet st new shape e
command-names st from (Include written) new h e = quiet_then st st new (quiet_self st) e
command-names st from (Refer written) new h e = quiet_then st st new (quiet_self st) e
command-names st from (DefineFun name params output body) new h e = define_fun_quiet st new name params output body e
command-names st from (DefineSort name params type) new h e = define_sort_quiet st new name params type e
command-names st from (Assert s) new h e = assert_quiet st new s e
command-names st from Exit new h e = quiet_then st st new (quiet_self st) e
command-names st from Skip new h e = quiet_then st st new (quiet_self st) e

-- ---- names by number

constant-found : (S : Signature) (k : ℕ) (d : Constant) → AreNamed S → constant_at S k ≡ Some d → IsGoodName d.name
constant-found [] k d h e = cc
constant-found (IsConstant c n ∷ S) zero d h e = subst (λ (x : Constant). IsGoodName x.name) (same_Some c d e) h.0
constant-found (IsConstant c n ∷ S) (suc k) d h e = constant-found S k d h.1 e
constant-found (IsProgram p ∷ S) k d h e = constant-found S k d h.1 e
constant-found (IsRule r ∷ S) k d h e = constant-found S k d h.1 e
constant-found (IsLiteralType l t ∷ S) k d h e = constant-found S k d h.1 e

there : {A : Type 0} (xs : List A) (k : ℕ) → k < length xs → (x : A) × (slice_get xs k ≡ Some x)
there [] k lt = absurd (omega arith)
there (x ∷ xs) zero lt = (x, refl)
there (x ∷ xs) (suc k) lt = there xs k (omega arith)

good-name : (S : Signature) → AreNamed S → (k : ℕ) → k < length (constants S) → IsGoodName (name_of S k)
good-name S h k lt =
    let d = there (constants S) k lt in
    subst IsGoodName (sym (ap (λ o. option_map_or (λ (c : Constant). c.name) o []) d.1)) (constant-found S k d.0 h d.1)

pub have-names : (S : Signature) → AreNamed S → HaveNames S
have-names S h k lt = (good-name S h k lt).0

pub printed-names : (S : Signature) → AreNamed S → ArePrintedNames S
printed-names S h k lt = (good-name S h k lt).1

-- ---- the signature before the first declaration

pub first-named : AreNamed first_signature
unfolding operator_named printed_atom is_quotable is_text is_space is_word kind_of begins_digit limits
first-named = (((refl, refl), (refl, omega arith)), (((refl, refl), (refl, omega arith)), (((refl, refl), (refl, omega arith)), (((refl, refl), (refl, omega arith)), tt))))

-- ---- whole commands

pub step-names : (st : State) (from : Origin) (s : Sexp) (command : Command) (new : State) (what : Next) → command_of (is_in_reference from) s ≡ Ok command → DeclaresPrinted command → step st from s ≡ Ok (new, what) → NamesKept st new
unfolding step uncounted placed_command scoped_command
step-names st from s command new what shape h e =
    let whole = bind_ok (uncounted st from s) _ (new, what) e in
    let read = bind_ok (command_of (is_in_reference from) s) _ whole.0 whole.1 in
    let placed = bind_ok (scoped_command st from read.0) _ whole.0 read.2 in
    let next = bind_ok (next_by placed.0 read.0) _ whole.0 placed.2 in
    let may = require_then _ _ _ placed.0 placed.1 in
    let same_command : read.0 ≡ command = ok_injective read.0 command (sym read.1 ∙ shape) in
    let kept = command-names st from read.0 placed.0 (subst DeclaresPrinted (sym same_command) h) may.1 in
    let last : placed.0 ≡ whole.0.0 = ap (λ (r : State × Next). r.0) (ok_injective (placed.0, next.0) whole.0 next.2) in
    let counted : with_command whole.0.0 ≡ new = ap (λ (r : State × Next). r.0) (ok_injective (with_command whole.0.0, whole.0.1) (new, what) whole.2) in
    record {
      names = λ n. subst (λ (x : State). AreNamed x.signature) counted (subst (λ (x : State). AreNamed x.signature) last (kept.names n));
      several = λ n. subst (λ (x : State). x.naming ≡ Several) counted (subst (λ (x : State). x.naming ≡ Several) last (kept.several n));
    }
