-- A command is what is decided of it, and then done.
use Rattle.std.proofs.Common.{◌≡◌, refl, Bool, true, false, not, ◌||◌, ap, ◌∙◌}
use Rattle.std.specs.Prelude.{Ok, Err, if◌then◌else◌}
use Rattle.eo_base.specs.declared.FaultName.{FaultName}
use Rattle.eo_base.specs.declared.FaultName.TheVariants.{Redeclared, InScope}
use Rattle.eo_base.specs.Checks.{Checked, Passed, ◌>>=◌, require, no_fault}
use Rattle.eo_sig.specs.Adding.{entry_fault}
use Rattle.eo_sig.specs.Signature.{SignatureEntry, IsConstant, IsProgram, IsRule, IsLiteralType, Constant, Macro, lookup, counts_of, constant_fault}
use Rattle.eo_shape.specs.Shapes.{Command, DeclareConst, DeclareFun, DeclareSort, DeclareParameterized, DeclareLiterals, Define, DefineProgram, DeclareRule, Assume, AssumePush, Step, StepPop, Include, Refer, DefineFun, DefineSort, Assert, Exit, Skip}
use Rattle.eo_declare.specs.Declarations.{is_reference_name}
use Rattle.eo_session.specs.Commands.{by_command, may_be_in_scope, next_by, scoped_command, placed_command}
use Rattle.eo_session.specs.Decisions.{apart_effect, checked_effect, constant_effect, typed_effect, macro_effect, entry_effect, decided, scoped_decision, placed_decision, done, done_next}
use Rattle.eo_session.specs.Effects.{Effect, Declares, Defines, Nothing, after}
use Rattle.eo_session.specs.declared.Next.{Next}
use Rattle.eo_session.specs.Origin.{Origin}
use Rattle.eo_session.specs.State.{State, context, is_in_scope, with_entry, with_macro}
use Rattle.eo_session.specs.Step.{repeats_constant, named_apart, repeats_macro, type_value, apart_constant, checked_constant, added_constant, typed_constant, added_macro, assume_push, step_plain, step_pop, assert, define_program, declare_rule}
use Rattle.eo_session.proofs.Decided.{assumed_after, next-same, reference-stays}
use Rattle.eo_session.proofs.Sessions.{assume-is}

module _ (st : State) where
  -- a check before both
  behind : {A : Type 0} (m : Checked A) (f : A → Checked Effect) (g : A → Checked State) → ((a : A) → g a ≡ done st (f a)) → (m >>= g) ≡ done st (m >>= f)
  unfolding ◌>>=◌
  behind (Ok a) f g h = h a
  behind (Err fault) f g h = refl

  -- nothing is left to check
  ok-done : (e : Effect) → ◌≡◌ {A = Checked State} (Ok (after st e)) (done st (Ok e))
  unfolding ◌>>=◌
  ok-done e = refl

  entry-done : (entry : SignatureEntry) → (no_fault (entry_fault st.signature entry) >>= λ _. Ok (with_entry st entry)) ≡ done st (entry_effect st entry)
  entry-done entry = behind (no_fault (entry_fault st.signature entry)) _ _ (λ _. ok-done (Declares entry))

  apart-done : (d : Constant) → apart_constant st d ≡ done st (apart_effect st d)
  apart-done d = behind (named_apart st.naming st.signature d) _ _ (λ _. ok-done (Declares (IsConstant d (counts_of d))))

  constant-done : (d : Constant) → added_constant st d ≡ done st (constant_effect st d)
  unfolding added_constant
  constant-done d = by (repeats_constant st d)
    where
      by : (b : Bool) → (if b then Ok st else apart_constant st d) ≡ done st (if b then Ok Nothing else apart_effect st d)
      by true = ok-done Nothing
      by false = apart-done d

  checked-done : (d : Constant) → checked_constant st d ≡ done st (checked_effect st d)
  unfolding checked_constant
  checked-done d = behind (no_fault (constant_fault d)) _ _ (λ _. apart-done d)

  typed-done : (d : Constant) → typed_constant st d ≡ done st (typed_effect st d)
  unfolding typed_constant
  typed-done d = behind (type_value st d.type) _ _ (λ v. constant-done (record d { type = v }))

  macro-done : (m : Macro) → added_macro st m ≡ done st (macro_effect st m)
  unfolding added_macro
  macro-done m = by (is_reference_name (context st) m.name)
    where
      r : Checked Passed
      r = require (repeats_macro st m (lookup st.signature st.macros m.name)) Redeclared

      by : (b : Bool) → (if b then (r >>= λ _. Ok st) else Ok (with_macro st m)) ≡ done st (if b then (r >>= λ _. Ok Nothing) else Ok (Defines m))
      by true = behind r _ _ (λ _. ok-done Nothing)
      by false = ok-done (Defines m)

  -- each kind of command
  pub command_done : (from : Origin) (k : Command) → by_command st from k ≡ done st (decided st from k)
  unfolding define_program declare_rule assume_push step_plain step_pop assert
  command_done from (DeclareConst name type shape) = behind _ _ _ typed-done
  command_done from (DeclareFun name inputs output) = behind _ _ _ typed-done
  command_done from (DeclareSort name arity) = behind _ _ _ typed-done
  command_done from (DeclareParameterized name shapes type shape) = behind _ _ _ checked-done
  command_done from (DeclareLiterals class type) = behind _ _ _ (λ t. entry-done (IsLiteralType class t))
  command_done from (Define name shapes body) = behind _ _ _ macro-done
  command_done from (DefineProgram shape) = behind _ _ _ (λ _. behind _ _ _ (λ p. entry-done (IsProgram p)))
  command_done from (DeclareRule shape) = behind _ _ _ (λ _. behind _ _ _ (λ r. entry-done (IsRule r)))
  command_done from (Assume name s) = assume-is st name s ∙ behind _ _ _ (λ _. behind _ _ _ (λ v. ap Ok (assumed_after st name v) ∙ ok-done _))
  command_done from (AssumePush name s) = behind _ _ _ (λ _. behind _ _ _ (λ _. behind _ _ _ (λ v. ok-done _)))
  command_done from (Step shape) = behind _ _ _ (λ _. behind _ _ _ (λ k. ok-done _))
  command_done from (StepPop shape) = behind _ _ _ (λ a. behind _ _ _ (λ _. behind _ _ _ (λ k. ok-done _)))
  command_done from (Include written) = ok-done Nothing
  command_done from (Refer written) = ok-done Nothing
  command_done from (DefineFun name shapes output body) = behind _ _ _ macro-done
  command_done from (DefineSort name names type) = behind _ _ _ macro-done
  command_done from (Assert s) = behind _ _ _ (λ r. behind _ _ _ (λ v. ok-done _))
  command_done from Exit = ok-done Nothing
  command_done from Skip = ok-done Nothing

-- ---- where a command is

module _ (st : State) (from : Origin) (k : Command) where
  abbrev with_next : State → Checked (State × Next)
  with_next new = next_by new k >>= λ what. Ok (new, what)

  -- what is done next is the same in the state after the effect
  next-done : (e : Effect) (n : Checked Next) → (n >>= λ what. Ok (after st e, what)) ≡ done_next st (n >>= λ what. Ok (e, what))
  unfolding ◌>>=◌
  next-done e (Ok what) = refl
  next-done e (Err fault) = refl

  effect-done : (m : Checked Effect) → (done st m >>= with_next) ≡ done_next st (m >>= λ e. next_by st k >>= λ what. Ok (e, what))
  unfolding ◌>>=◌
  effect-done (Ok e) = ap (λ (n : Checked Next). n >>= λ what. Ok (after st e, what)) (next-same (after st e) st k (reference-stays st e)) ∙ next-done e (next_by st k)
  effect-done (Err fault) = refl

  abbrev placed_by : Bool → Checked State → Checked (State × Next)
  placed_by b m = (require b InScope >>= λ _. m) >>= with_next

  abbrev decision_by : Bool → Checked (Effect × Next)
  decision_by b = (require b InScope >>= λ _. decided st from k) >>= λ e. next_by st k >>= λ what. Ok (e, what)

  place-done : (b : Bool) → placed_by b (by_command st from k) ≡ done_next st (decision_by b)
  unfolding require ◌>>=◌
  place-done true = ap (λ (m : Checked State). m >>= with_next) (command_done st from k) ∙ effect-done (decided st from k)
  place-done false = refl

  pub placed_done : placed_command st from k ≡ done_next st (placed_decision st from k)
  unfolding scoped_command placed_command scoped_decision placed_decision
  placed_done = place-done (not (is_in_scope st) || may_be_in_scope k)

  -- what is decided is what the command does
  pub does-decided : (e : Effect) (what : Next) → placed_decision st from k ≡ Ok (e, what) → placed_command st from k ≡ Ok (after st e, what)
  unfolding ◌>>=◌
  does-decided e what h = placed_done ∙ ap (done_next st) h

  pub does-refused : (name : FaultName) → placed_decision st from k ≡ Err name → placed_command st from k ≡ Err name
  unfolding ◌>>=◌
  does-refused name h = placed_done ∙ ap (done_next st) h
