-- A command does the same whether a name may have several constants or one, unless it declares a second constant of a name.
use Rattle.std.specs.Prelude.{◌≡◌, ℕ, Bool, true, false, not, ◌&&◌, ◌||◌, nat_lt, if◌then◌else◌, List, [], ◌∷◌, ◌++◌, length, Option, Some, None, is_none, Ok, Err, ◌⊎◌, refl}
use Rattle.std.proofs.Common.{◌∙◌, ap, sym, subst, inl, inr}
use Rattle.eo_base.specs.declared.FaultName.{FaultName}
use Rattle.eo_base.specs.declared.FaultName.TheVariants.{Redeclared, UnknownRule, UnknownPremise, NotAsserted, NoReference, NoScope, ScopeDepth, InScope}
use Rattle.eo_base.specs.Checks.{Checked, ◌>>=◌, require, no_fault, value_or}
use Rattle.eo_base.proofs.ChecksLemmas.{bind_step, bind_fails}
use Rattle.eo_lit.specs.declared.LiteralClass.{LiteralClass}
use Rattle.eo_sexp.specs.Sexp.{Sexp}
use Rattle.eo_shape.specs.Shapes.{StepShape, ProgramShape, RuleShape, Command, DeclareConst, DeclareFun, DeclareSort, DeclareParameterized, DeclareLiterals, Define, DefineProgram, DeclareRule, Assume, AssumePush, Step, StepPop, Include, Refer, DefineFun, DefineSort, Assert, Exit, Skip, command_of}
use Rattle.eo_sig.specs.Signature.{Signature, IsConstant, IsProgram, IsRule, IsLiteralType, Constant, Macro, Named, NamesConstant, NamesMacro, NamesProgram, lookup, constant_named, constant_taking, argument_types, counts_of, rule_named, constant_fault, literal_type_fault, program_fault, rule_fault}
use Rattle.eo_sig.proofs.Single.{IsSingle, single_constant, single_other, apart_new}
use Rattle.eo_term.specs.Tree.{Tree}
use Rattle.eo_names.specs.Contexts.{FileKind, InProof, InReference, InAssert, Naming, Several, One}
use Rattle.eo_names.specs.Readers.{NamedTerm}
use Rattle.eo_elab.specs.Meaning.{means, meaning}
use Rattle.eo_elab.proofs.SingleNames.{means_same, meaning_same}
use Rattle.eo_declare.specs.Declarations.{is_named_by_reference, declared_const, declared_fun, declared_sort, declared_parameterized, declared_literals, defined, defined_fun, defined_sort, declared_program, declared_rule}
use Rattle.eo_declare.proofs.SingleNames.{const_same, fun_same, sort_same, parameterized_same, literals_same, define_same, define_fun_same, define_sort_same, program_same, rule_same}
use Rattle.eo_proof.specs.Scopes.{depth, scope_limit, fact_named, innermost_hypothesis}
use Rattle.eo_rule.specs.Uses.{conclusion}
use Rattle.eo_session.specs.Origin.{Origin}
use Rattle.eo_session.specs.State.{State, context, context_in, with_entry, with_macro, with_assertion, with_fact, with_scope, without_scope, with_command, is_asserted, is_in_scope}
use Rattle.eo_session.specs.Step.{is_in_reference, file_kind_of, evaluated, value, values, optional_value, formula_of, formula, is_free_fact, is_plain, repeats, repeats_constant, apart_constant, added_constant, type_value, typed_constant, checked_constant, checked_literals, repeats_macro, added_macro, may_declare, checked_program, added_program, define_program, checked_rule, added_rule, declare_rule, assume, assume_push, with_named_terms, assert, premises, use_of, is_sorry, concluded_by, concluded, with_conclusion, step_plain, is_free_outer_fact, step_pop}
use Rattle.eo_session.specs.Commands.{reference_path, next_by, by_command, may_be_in_scope, scoped_command, placed_command, uncounted, step}
use Rattle.eo_session.specs.declared.Next.{Next}
use Rattle.eo_session.specs.declared.Next.TheVariants as next

-- ---- states

-- the same where a name may have so many constants
abbrev pub by : Naming → State → State
by n st = record st { naming = n }

-- no two constants have one name, where several may
pub record IsPlain (st : State) : Type 0 where
  pub single : IsSingle st.signature
  pub naming : st.naming ≡ Several

-- ---- outcomes

-- two outcomes are the same fault, or are alike
abbrev pub Alike : {B : Type 0} → (B → B → Type 0) → Checked B → Checked B → Type 0
Alike Rel (Ok x) (Ok y) = Rel x y
Alike Rel (Ok x) (Err e) = ⊥
Alike Rel (Err e) (Ok y) = ⊥
Alike Rel (Err e) (Err g) = g ≡ e

-- Where a name may have one constant, the outcome is like that where it may have several, or it is whatever refuses another constant.
abbrev pub Outcome : {B : Type 0} → (FaultName → B → B → Type 0) → Checked B → (FaultName → Checked B) → Type 0
Outcome Rel m n = ((f : FaultName) → Alike (Rel f) m (n f)) ⊎ ((f : FaultName) → n f ≡ Err f)

abbrev pub Like : FaultName → State → State → Type 0
Like f s t = IsPlain s × (t ≡ by (One f) s)

abbrev pub LikeNext : FaultName → State × Next → State × Next → Type 0
LikeNext f r q = IsPlain r.0 × (q ≡ (by (One f) r.0, r.1))

module _ {B : Type 0} (Rel : FaultName → B → B → Type 0) where
  outcome_to : (m : Checked B) (n p : FaultName → Checked B) → ((f : FaultName) → p f ≡ n f) → Outcome Rel m n → Outcome Rel m p
  outcome_to m n p e (inl k) = inl (λ f. subst (λ (c : Checked B). Alike (Rel f) m c) (sym (e f)) (k f))
  outcome_to m n p e (inr k) = inr (λ f. e f ∙ k f)

  failed : (fault : FaultName) (n : FaultName → Checked B) → ((f : FaultName) → n f ≡ Err fault) → Outcome Rel (Err fault) n
  failed fault n e = inl (λ f. subst (λ (c : Checked B). Alike (Rel f) (Err fault) c) (sym (e f)) refl)

  -- after what is the same
  behind : {A : Type 0} (m : Checked A) (n : FaultName → Checked A) (g : A → Checked B) (h : FaultName → A → Checked B) →
      ((f : FaultName) → n f ≡ m) → ((x : A) → Outcome Rel (g x) (λ f. h f x)) → Outcome Rel (m >>= g) (λ f. n f >>= h f)
  unfolding ◌>>=◌
  behind (Ok x) n g h e k = outcome_to (g x) (λ f. h f x) (λ f. n f >>= h f) (λ f. bind_step (n f) (h f) x (e f)) (k x)
  behind (Err fault) n g h e k = failed fault (λ f. n f >>= h f) (λ f. bind_fails (n f) (h f) fault (e f))

  alike_ok : (f : FaultName) (s : State) (c : Checked State) → Alike (Like f) (Ok s) c → IsPlain s × (c ≡ Ok (by (One f) s))
  alike_ok f s (Ok t) k = (k.0, ap (λ x. Ok x) k.1)
  alike_ok f s (Err e) k = absurd k

  alike_err : (f : FaultName) (fault : FaultName) (c : Checked State) → Alike (Like f) (Err fault) c → c ≡ Err fault
  alike_err f fault (Ok t) k = absurd k
  alike_err f fault (Err e) k = ap (λ x. Err x) k

  -- after what is alike
  onward : (m : Checked State) (n : FaultName → Checked State) (g : State → Checked B) → Outcome Like m n →
      ((s : State) → IsPlain s → Outcome Rel (g s) (λ f. g (by (One f) s))) → Outcome Rel (m >>= g) (λ f. n f >>= g)
  unfolding ◌>>=◌
  onward m n g (inr k) h = inr (λ f. bind_fails (n f) g f (k f))
  onward (Ok s) n g (inl k) h =
      outcome_to (g s) (λ f. g (by (One f) s)) (λ f. n f >>= g) (λ f. bind_step (n f) g (by (One f) s) (alike_ok f s (n f) (k f)).1)
      (h s (alike_ok Redeclared s (n Redeclared) (k Redeclared)).0)
  onward (Err fault) n g (inl k) h = failed fault (λ f. n f >>= g) (λ f. bind_fails (n f) g fault (alike_err f fault (n f) (k f)))

done : (s : State) → IsPlain s → Outcome Like (Ok s) (λ f. Ok (by (One f) s))
done s plain = inl (λ f. (plain, refl))

module _ (st : State) (single : IsSingle st.signature) where
  abbrev S : Signature
  S = st.signature

  -- the state where a name may have several constants, and where it may have one
  abbrev several : State
  several = by Several st

  abbrev one : FaultName → State
  one f = by (One f) st

  plain : IsPlain several
  plain = record { single = single; naming = refl }

  -- ---- terms

  term_same : (f : FaultName) (file_kind : FileKind) (s : Sexp) → meaning (context_in several file_kind) [] s ≡ meaning (context_in (one f) file_kind) [] s
  term_same f file_kind s = meaning_same S st.macros file_kind f single [] s

  value_same : (f : FaultName) (s : Sexp) → value (one f) s ≡ value several s
  unfolding value evaluated
  value_same f s = sym (λ i. term_same f InProof s i >>= evaluated several)

  values_same : (f : FaultName) (ss : List Sexp) → values (one f) ss ≡ values several ss
  unfolding values
  values_same f [] = refl
  values_same f (s ∷ ss) = λ i. value_same f s i >>= λ v. values_same f ss i >>= λ vs. Ok (v ∷ vs)

  optional_same : (f : FaultName) (o : Option Sexp) → optional_value (one f) o ≡ optional_value several o
  optional_same f None = refl
  optional_same f (Some s) = λ i. value_same f s i >>= λ v. Ok (Some v)

  formula_of_same : (f : FaultName) (t : Tree) → formula_of (one f) t ≡ formula_of several t
  unfolding formula_of evaluated
  formula_of_same f t = refl

  formula_same : (f : FaultName) (s : Sexp) → formula (one f) s ≡ formula several s
  unfolding formula formula_of evaluated
  formula_same f s = sym (λ i. term_same f InProof s i >>= formula_of several)

  -- ---- constants

  repeats_same : (f : FaultName) (d : Constant) (o : Option ℕ) → repeats (one f) d o ≡ repeats several d o
  repeats_same f d None = refl
  repeats_same f d (Some k) = refl

  module _ (d : Constant) where
    abbrev added_by : State → Checked State
    added_by x = Ok (with_entry x (IsConstant d (counts_of d)))

    apart_outcome : Outcome Like (apart_constant several d) (λ f. apart_constant (one f) d)
    unfolding require ◌>>=◌
    apart_outcome = by_name (constant_named S d.name) refl
      where
        by_name : (o : Option ℕ) → constant_named S d.name ≡ o → Outcome Like (apart_constant several d) (λ f. apart_constant (one f) d)
        by_name (Some k) e = inr (λ f. ap (λ o. require (is_none o) f >>= λ _. added_by (one f)) e)
        by_name None e =
            inl (λ f. subst (λ (m : Checked State). Alike (Like f) m (apart_constant (one f) d))
            (sym (ap (λ b. require b Redeclared >>= λ _. added_by several) (apart_new S d.name (counts_of d) e)))
            (subst (λ (n : Checked State). Alike (Like f) (added_by several) n)
            (sym (ap (λ o. require (is_none o) f >>= λ _. added_by (one f)) e))
            (record { single = single_constant S d (counts_of d) e single; naming = refl }, refl)))

    added_outcome : Outcome Like (added_constant several d) (λ f. added_constant (one f) d)
    unfolding added_constant
    added_outcome =
        outcome_to Like (added_constant several d) (λ f. if repeats_constant several d then Ok (one f) else apart_constant (one f) d) (λ f. added_constant (one f) d)
        (λ f i. if is_plain_then f i then Ok (one f) else apart_constant (one f) d) (by_repeat (repeats_constant several d))
      where
        is_plain_then : (f : FaultName) → repeats_constant (one f) d ≡ repeats_constant several d
        is_plain_then f = ap (λ b. is_plain d.attribute && b) (repeats_same f d (constant_taking S d.name (length (argument_types d.type))))

        by_repeat : (b : Bool) → Outcome Like (if b then Ok several else apart_constant several d) (λ f. if b then Ok (one f) else apart_constant (one f) d)
        by_repeat true = done several plain
        by_repeat false = apart_outcome

    checked_outcome : Outcome Like (checked_constant several d) (λ f. checked_constant (one f) d)
    checked_outcome = behind Like (no_fault (constant_fault d)) (λ f. no_fault (constant_fault d)) (λ _. apart_constant several d) (λ f _. apart_constant (one f) d) (λ f. refl) (λ _. apart_outcome)

  type_value_same : (f : FaultName) (t : Tree) → type_value (one f) t ≡ type_value several t
  unfolding type_value evaluated
  type_value_same f t = refl

  typed_outcome : (d : Constant) → Outcome Like (typed_constant several d) (λ f. typed_constant (one f) d)
  unfolding typed_constant
  typed_outcome d =
      behind Like (type_value several d.type) (λ f. type_value (one f) d.type) (λ v. added_constant several (record d { type = v })) (λ f v. added_constant (one f) (record d { type = v }))
      (λ f. type_value_same f d.type) (λ v. added_outcome (record d { type = v }))

  literals_outcome : (class : LiteralClass) (t : Tree) → Outcome Like (checked_literals several class t) (λ f. checked_literals (one f) class t)
  literals_outcome class t =
      behind Like (no_fault (literal_type_fault S class t)) (λ f. no_fault (literal_type_fault S class t))
      (λ _. Ok (with_entry several (IsLiteralType class t))) (λ f _. Ok (with_entry (one f) (IsLiteralType class t))) (λ f. refl)
      (λ _. done (with_entry several (IsLiteralType class t)) (record { single = single_other S (IsLiteralType class t) tt single; naming = refl }))

  -- ---- macros, programs and rules

  reference_same : (f : FaultName) (name : List ℕ) (o : Option Named) → is_named_by_reference (context (one f)) name o ≡ is_named_by_reference (context several) name o
  reference_same f name None = refl
  reference_same f name (Some (NamesConstant k)) = refl
  reference_same f name (Some (NamesMacro k)) = refl
  reference_same f name (Some (NamesProgram k)) = refl

  repeats_macro_same : (f : FaultName) (m : Macro) (o : Option Named) → repeats_macro (one f) m o ≡ repeats_macro several m o
  repeats_macro_same f m None = refl
  repeats_macro_same f m (Some (NamesConstant k)) = refl
  repeats_macro_same f m (Some (NamesMacro k)) = refl
  repeats_macro_same f m (Some (NamesProgram k)) = refl

  macro_outcome : (m : Macro) → Outcome Like (added_macro several m) (λ f. added_macro (one f) m)
  unfolding added_macro
  macro_outcome m =
      let found = lookup S st.macros m.name in
      outcome_to Like (added_macro several m) (λ f. choice (one f) (is_named_by_reference (context several) m.name found) (repeats_macro several m found)) (λ f. added_macro (one f) m)
      (λ f i. choice (one f) (reference_same f m.name found i) (repeats_macro_same f m found i))
      (by_cases (is_named_by_reference (context several) m.name found) (repeats_macro several m found))
    where
      choice : State → Bool → Bool → Checked State
      choice x b c = if b then (require c Redeclared >>= λ _. Ok x) else Ok (with_macro x m)

      by_cases : (b c : Bool) → Outcome Like (choice several b c) (λ f. choice (one f) b c)
      by_cases true c = behind Like (require c Redeclared) (λ f. require c Redeclared) (λ _. Ok several) (λ f _. Ok (one f)) (λ f. refl) (λ _. done several plain)
      by_cases false c = done (with_macro several m) (record { single = single; naming = refl })

  program_outcome : (from : Origin) (shape : ProgramShape) → Outcome Like (define_program several from shape) (λ f. define_program (one f) from shape)
  unfolding define_program
  program_outcome from shape =
      behind Like (may_declare several from) (λ f. may_declare (one f) from) (λ _. added_program several shape) (λ f _. added_program (one f) shape) (λ f. refl)
      (λ _. behind Like (declared_program (context several) shape) (λ f. declared_program (context (one f)) shape) (checked_program several) (λ f. checked_program (one f))
      (λ f. sym (program_same st.macros InProof f S single shape))
      (λ p. behind Like (no_fault (program_fault p)) (λ f. no_fault (program_fault p)) (λ _. Ok (with_entry several (IsProgram p))) (λ f _. Ok (with_entry (one f) (IsProgram p))) (λ f. refl)
      (λ _. done (with_entry several (IsProgram p)) (record { single = single_other S (IsProgram p) tt single; naming = refl }))))

  rule_outcome : (from : Origin) (shape : RuleShape) → Outcome Like (declare_rule several from shape) (λ f. declare_rule (one f) from shape)
  unfolding declare_rule
  rule_outcome from shape =
      behind Like (may_declare several from) (λ f. may_declare (one f) from) (λ _. added_rule several shape) (λ f _. added_rule (one f) shape) (λ f. refl)
      (λ _. behind Like (declared_rule (context several) shape) (λ f. declared_rule (context (one f)) shape) (checked_rule several) (λ f. checked_rule (one f))
      (λ f. sym (rule_same st.macros InProof f S single shape))
      (λ r. behind Like (no_fault (rule_fault S r)) (λ f. no_fault (rule_fault S r)) (λ _. Ok (with_entry several (IsRule r))) (λ f _. Ok (with_entry (one f) (IsRule r))) (λ f. refl)
      (λ _. done (with_entry several (IsRule r)) (record { single = single_other S (IsRule r) tt single; naming = refl }))))

  -- ---- facts

  assume_outcome : (name : List ℕ) (s : Sexp) → Outcome Like (assume several name s) (λ f. assume (one f) name s)
  unfolding assume
  assume_outcome name s =
      behind Like (require (is_free_fact several name) Redeclared) (λ f. require (is_free_fact several name) Redeclared) _ _ (λ f. refl)
      (λ _. behind Like (formula several s) (λ f. formula (one f) s) _ _ (λ f. formula_same f s)
      (λ v. behind Like (require st.has_reference NoReference) (λ f. require st.has_reference NoReference) _ _ (λ f. refl)
      (λ _. behind Like (require (is_asserted several v) NotAsserted) (λ f. require (is_asserted several v) NotAsserted)
      (λ _. Ok (with_fact several name v)) (λ f _. Ok (with_fact (one f) name v)) (λ f. refl)
      (λ _. done (with_fact several name v) (record { single = single; naming = refl })))))

  push_outcome : (name : List ℕ) (s : Sexp) → Outcome Like (assume_push several name s) (λ f. assume_push (one f) name s)
  unfolding assume_push
  push_outcome name s =
      behind Like (require (nat_lt (depth st.scopes) scope_limit) ScopeDepth) (λ f. require (nat_lt (depth st.scopes) scope_limit) ScopeDepth) _ _ (λ f. refl)
      (λ _. behind Like (require (is_free_fact several name) Redeclared) (λ f. require (is_free_fact several name) Redeclared) _ _ (λ f. refl)
      (λ _. behind Like (formula several s) (λ f. formula (one f) s)
      (λ v. Ok (with_scope several name v)) (λ f v. Ok (with_scope (one f) name v)) (λ f. formula_same f s)
      (λ v. done (with_scope several name v) (record { single = single; naming = refl }))))

  assert_outcome : (s : Sexp) → Outcome Like (assert several s) (λ f. assert (one f) s)
  unfolding assert
  assert_outcome s =
      behind Like (means (context_in several InAssert) [] s []) (λ f. means (context_in (one f) InAssert) [] s []) _ _
      (λ f. sym (means_same S st.macros InAssert f single [] s []))
      (λ r. behind Like (formula_of several r.0) (λ f. formula_of (one f) r.0)
      (λ v. Ok (with_named_terms (with_assertion several v) r.1)) (λ f v. Ok (with_named_terms (with_assertion (one f) v) r.1)) (λ f. formula_of_same f r.0)
      (λ v. asserted (is_asserted several v) v r.1))
    where
      more : State → Tree → Bool → State
      more x v b = if b then x else record x { assertions = x.assertions ++ v ∷ [] }

      asserted : (b : Bool) (v : Tree) (named_terms : List NamedTerm) → Outcome Like (Ok (with_named_terms (more several v b) named_terms)) (λ f. Ok (with_named_terms (more (one f) v b) named_terms))
      asserted true v named_terms = done (with_named_terms several named_terms) (record { single = single; naming = refl })
      asserted false v named_terms = done (with_named_terms (record several { assertions = st.assertions ++ v ∷ [] }) named_terms) (record { single = single; naming = refl })

  -- ---- steps

  premises_same : (f : FaultName) (names : List (List ℕ)) → premises (one f) names ≡ premises several names
  unfolding premises
  premises_same f [] = refl
  premises_same f (name ∷ names) = λ i. value_or UnknownPremise (fact_named st.scopes name) >>= λ t. premises_same f names i >>= λ ts. Ok (t ∷ ts)

  use_same : (f : FaultName) (assumed : Option Tree) (s : StepShape) → use_of (one f) assumed s ≡ use_of several assumed s
  unfolding use_of
  use_same f assumed s =
      λ i. premises_same f s.premises i >>= λ ps. optional_same f s.stated i >>= λ stated. values_same f s.arguments i >>= λ arguments.
      Ok (record { assumed = assumed; premises = ps; arguments = arguments; stated = stated })

  concluded_same : (f : FaultName) (assumed : Option Tree) (s : StepShape) → concluded (one f) assumed s ≡ concluded several assumed s
  unfolding concluded concluded_by
  concluded_same f assumed s =
      λ i. value_or UnknownRule (rule_named S s.rule) >>= λ number. use_same f assumed s i >>= λ given. conclusion S number given >>= λ F.
      Ok (record { formula = F; sorry = is_sorry several number })

  step_outcome : (s : StepShape) → Outcome Like (step_plain several s) (λ f. step_plain (one f) s)
  unfolding step_plain
  step_outcome s =
      behind Like (require (is_free_fact several s.name) Redeclared) (λ f. require (is_free_fact several s.name) Redeclared) _ _ (λ f. refl)
      (λ _. behind Like (concluded several None s) (λ f. concluded (one f) None s)
      (λ k. Ok (with_conclusion several s.name k)) (λ f k. Ok (with_conclusion (one f) s.name k)) (λ f. concluded_same f None s)
      (λ k. done (with_conclusion several s.name k) (record { single = single; naming = refl })))

  pop_outcome : (s : StepShape) → Outcome Like (step_pop several s) (λ f. step_pop (one f) s)
  unfolding step_pop
  pop_outcome s =
      behind Like (value_or NoScope (innermost_hypothesis st.scopes)) (λ f. value_or NoScope (innermost_hypothesis st.scopes)) _ _ (λ f. refl)
      (λ a. behind Like (require (is_free_outer_fact several s.name) Redeclared) (λ f. require (is_free_outer_fact several s.name) Redeclared) _ _ (λ f. refl)
      (λ _. behind Like (concluded several (Some a) s) (λ f. concluded (one f) (Some a) s)
      (λ k. Ok (with_conclusion (without_scope several) s.name k)) (λ f k. Ok (with_conclusion (without_scope (one f)) s.name k)) (λ f. concluded_same f (Some a) s)
      (λ k. done (with_conclusion (without_scope several) s.name k) (record { single = single; naming = refl }))))

  -- ---- each command

  command_outcome : (from : Origin) (command : Command) → Outcome Like (by_command several from command) (λ f. by_command (one f) from command)
  command_outcome from (DeclareConst name type shape) =
      behind Like _ (λ f. declared_const (context_in (one f) (file_kind_of from)) name type shape) (typed_constant several) (λ f. typed_constant (one f)) (λ f. sym (const_same st.macros (file_kind_of from) f S single name type shape)) typed_outcome
  command_outcome from (DeclareFun name inputs output) =
      behind Like _ (λ f. declared_fun (context_in (one f) (file_kind_of from)) name inputs output) (typed_constant several) (λ f. typed_constant (one f)) (λ f. sym (fun_same st.macros (file_kind_of from) f S single name inputs output)) typed_outcome
  command_outcome from (DeclareSort name arity) =
      behind Like _ (λ f. declared_sort (context_in (one f) (file_kind_of from)) name arity) (typed_constant several) (λ f. typed_constant (one f)) (λ f. sym (sort_same st.macros (file_kind_of from) f S single name arity)) typed_outcome
  command_outcome from (DeclareParameterized name shapes type shape) =
      behind Like _ (λ f. declared_parameterized (context (one f)) name shapes type shape) (checked_constant several) (λ f. checked_constant (one f)) (λ f. sym (parameterized_same st.macros InProof f S single name shapes type shape)) checked_outcome
  command_outcome from (DeclareLiterals class type) =
      behind Like _ (λ f. declared_literals (context (one f)) class type) (checked_literals several class) (λ f. checked_literals (one f) class) (λ f. sym (literals_same st.macros InProof f S single class type)) (literals_outcome class)
  command_outcome from (Define name shapes body) =
      behind Like _ (λ f. defined (context (one f)) name shapes body) (added_macro several) (λ f. added_macro (one f)) (λ f. sym (define_same st.macros InProof f S single name shapes body)) macro_outcome
  command_outcome from (DefineProgram shape) = program_outcome from shape
  command_outcome from (DeclareRule shape) = rule_outcome from shape
  command_outcome from (Assume name s) = assume_outcome name s
  command_outcome from (AssumePush name s) = push_outcome name s
  command_outcome from (Step shape) = step_outcome shape
  command_outcome from (StepPop shape) = pop_outcome shape
  command_outcome from (Include written) = done several plain
  command_outcome from (Refer written) = done several plain
  command_outcome from (DefineFun name shapes output body) =
      behind Like _ (λ f. defined_fun (context_in (one f) InReference) name shapes output body) (added_macro several) (λ f. added_macro (one f)) (λ f. sym (define_fun_same st.macros InReference f S single name shapes output body)) macro_outcome
  command_outcome from (DefineSort name names type) =
      behind Like _ (λ f. defined_sort (context_in (one f) InReference) name names type) (added_macro several) (λ f. added_macro (one f)) (λ f. sym (define_sort_same st.macros InReference f S single name names type)) macro_outcome
  command_outcome from (Assert s) = assert_outcome s
  command_outcome from Exit = done several plain
  command_outcome from Skip = done several plain

  scoped_outcome : (from : Origin) (command : Command) → Outcome Like (scoped_command several from command) (λ f. scoped_command (one f) from command)
  unfolding scoped_command
  scoped_outcome from command =
      behind Like (require (not (is_in_scope several) || may_be_in_scope command) InScope) (λ f. require (not (is_in_scope several) || may_be_in_scope command) InScope)
      (λ _. by_command several from command) (λ f _. by_command (one f) from command) (λ f. refl) (λ _. command_outcome from command)

next_same : (f : FaultName) (s : State) (command : Command) → next_by (by (One f) s) command ≡ next_by s command
unfolding next_by reference_path
next_same f s (Refer written) = refl
next_same f s (Include written) = refl
next_same f s Exit = refl
next_same f s command = refl

abbrev with_next : Command → State → Checked (State × Next)
with_next command s = next_by s command >>= λ what. Ok (s, what)

next_outcome : (command : Command) (s : State) → IsPlain s → Outcome LikeNext (with_next command s) (λ f. with_next command (by (One f) s))
next_outcome command s plain =
    behind LikeNext (next_by s command) (λ f. next_by (by (One f) s) command) (λ what. Ok (s, what)) (λ f what. Ok (by (One f) s, what))
    (λ f. next_same f s command) (λ what. inl (λ f. (plain, refl)))

module _ (st : State) (single : IsSingle st.signature) (from : Origin) where
  placed_outcome : (command : Command) → Outcome LikeNext (placed_command (by Several st) from command) (λ f. placed_command (by (One f) st) from command)
  unfolding placed_command
  placed_outcome command = onward LikeNext (scoped_command (by Several st) from command) (λ f. scoped_command (by (One f) st) from command) (with_next command) (scoped_outcome st single from command) (next_outcome command)

  uncounted_outcome : (s : Sexp) → Outcome LikeNext (uncounted (by Several st) from s) (λ f. uncounted (by (One f) st) from s)
  unfolding uncounted
  uncounted_outcome s =
      behind LikeNext (command_of (is_in_reference from) s) (λ f. command_of (is_in_reference from) s) (placed_command (by Several st) from) (λ f. placed_command (by (One f) st) from) (λ f. refl) placed_outcome

counted_alike : (m : Checked (State × Next)) (n : FaultName → Checked (State × Next)) → Outcome LikeNext m n →
    Outcome LikeNext (m >>= λ r. Ok (with_command r.0, r.1)) (λ f. n f >>= λ r. Ok (with_command r.0, r.1))
unfolding ◌>>=◌
counted_alike m n (inr k) = inr (λ f. bind_fails (n f) (λ r. Ok (with_command r.0, r.1)) f (k f))
counted_alike (Err fault) n (inl k) = inl (λ f. by_err f (n f) (k f))
  where
    by_err : (f : FaultName) (c : Checked (State × Next)) → Alike (LikeNext f) (Err fault) c → Alike (LikeNext f) (Err fault) (c >>= λ r. Ok (with_command r.0, r.1))
    by_err f (Ok q) h = absurd h
    by_err f (Err e) h = h
counted_alike (Ok r) n (inl k) = inl (λ f. by_ok f (n f) (k f))
  where
    by_ok : (f : FaultName) (c : Checked (State × Next)) → Alike (LikeNext f) (Ok r) c → Alike (LikeNext f) (Ok (with_command r.0, r.1)) (c >>= λ r. Ok (with_command r.0, r.1))
    by_ok f (Ok q) h = (record { single = h.0.single; naming = h.0.naming }, ap (λ (x : State × Next). (with_command x.0, x.1)) h.1)
    by_ok f (Err e) h = absurd h

-- A command of a state in which no two constants have one name.
pub step_single : (st : State) (from : Origin) (s : Sexp) → IsSingle st.signature → Outcome LikeNext (step (by Several st) from s) (λ f. step (by (One f) st) from s)
unfolding step
step_single st from s single = counted_alike (uncounted (by Several st) from s) (λ f. uncounted (by (One f) st) from s) (uncounted_outcome st single from s)
