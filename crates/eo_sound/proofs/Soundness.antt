-- Each command keeps a run sound, and a sound one in which nothing is wrong at its end derives `false`.
use Rattle.std.specs.Prelude.{◌≡◌, ℕ, Bool, true, false, not, ◌||◌, nat_eq, if◌then◌else◌, List, [], ◌∷◌, length, Option, Some, None, Ok, Err, All, refl}
use Rattle.std.specs.List.{list_any}
use Rattle.std.proofs.Common.{subst, arith}
use Rattle.std.proofs.lemmas.Bool.{eqb-true}
use Rattle.std.proofs.lemmas.List.Elements.{All-nil, All-head, All-tail}
use Rattle.eo_base.proofs.ChecksLemmas.{ok_injective, err_is_not_ok, bind_ok, require_then}
use Rattle.eo_base.specs.declared.FaultName.TheVariants.{SecondReference, ScopeOpen, NoReference, NoRefutation}
use Rattle.eo_declare.specs.Declarations.{declared_const, declared_fun, declared_sort, declared_parameterized, declared_literals}
use Rattle.eo_proof.specs.Scopes.{Fact, Scope, has_false}
use Rattle.eo_sound.proofs.Deriving.{OfFormula}
use Rattle.eo_session.proofs.Fitting.{first_fits}
use Rattle.eo_rule.specs.ByRules.{DerivesBy, any_rule}
use Rattle.eo_sound.specs.Layers.{Layers}
use Rattle.eo_sound.specs.RulesUsed.{rule_used, used_by, may_use, sexp_rule}
use Rattle.eo_base.specs.Checks.{Checked}
use Rattle.eo_session.proofs.Scoping.{none_values}
use Rattle.eo_sound.proofs.SoundDeclarations.{const_folds, fun_folds, sort_folds, usable_signature, sound_after, define_sound, typed_sound, checked_sound, literals_sound, define_fun_sound, define_sort_sound, program_sound, rule_sound, assert_sound}
use Rattle.eo_sound.proofs.SoundSteps.{assume_sound, assume_push_sound, step_plain_sound, step_pop_sound}
use Rattle.eo_sound.specs.Soundness.{AllDerive, FactsDerive, IsSoundBy}
use Rattle.eo_session.specs.State.{State, first_state, begin_reference, end_fault, is_in_scope, with_command, context, context_in}
use Rattle.eo_session.specs.Step.{file_kind_of}
use Rattle.eo_session.specs.Commands.{by_command, may_be_in_scope, scoped_command, placed_command, uncounted, step}
use Rattle.eo_session.specs.Origin.{Origin}
use Rattle.eo_session.specs.declared.Next.{Next}
use Rattle.eo_sexp.specs.Sexp.{Sexp}
use Rattle.eo_shape.specs.Shapes.{Command, DeclareConst, DeclareFun, DeclareSort, DeclareParameterized, DeclareLiterals, Define, DefineProgram, DeclareRule, Assume, AssumePush, Step, StepPop, Include, Refer, DefineFun, DefineSort, Assert, Exit, Skip}
use Rattle.eo_sig.specs.Signature.{Signature, first_signature}
use Rattle.eo_term.specs.Tree.{Tree, bool_tree, tree_eq, truth}
use Rattle.eo_type.specs.Types.{Typed, type_of}

-- ---- the beginning

-- ---- each command

-- where a command is not allowed in a scope, none is open
none_open : (ss : List Scope) → (not (not (nat_eq (length ss) 0)) || false) ≡ true → ss ≡ []
none_open [] e = refl
none_open (s ∷ ss) e =
    let none : length (s ∷ ss) ≡ 0 = eqb-true (length (s ∷ ss)) 0 (twice (nat_eq (length (s ∷ ss)) 0) e) in absurd (omega (arith, none))
  where
    twice : (b : Bool) → (not (not b) || false) ≡ true → b ≡ true
    twice true e = refl
    twice false e = e

-- ---- the end

false_holds : (laws : Layers) (P : Tree → Type 0) (out : List Fact) → All (OfFormula P) out → list_any (λ (f : Fact). tree_eq f.formula (truth false)) out ≡ true → P (truth false)
false_holds laws P [] all e = absurd (cc e)
false_holds laws P (f ∷ fs) all e = by (tree_eq f.formula (truth false)) refl e (false_holds laws P fs (All-tail (OfFormula P) f fs all))
  where
    by : (b : Bool) → tree_eq f.formula (truth false) ≡ b → (b || list_any (λ (f : Fact). tree_eq f.formula (truth false)) fs) ≡ true → (list_any (λ (f : Fact). tree_eq f.formula (truth false)) fs ≡ true → P (truth false)) → P (truth false)
    by true same e rest = subst P ((laws.equals f.formula (truth false)).0 same) (All-head (OfFormula P) f fs all)
    by false same e rest = rest e

no_end_fault : (st : State) → end_fault st ≡ None → has_false st.scopes ≡ true
unfolding end_fault
no_end_fault st e = by (is_in_scope st) st.has_reference (has_false st.scopes) e
  where
    by : (o r b : Bool) → (if o then Some ScopeOpen else (if not r then Some NoReference else (if not b then Some NoRefutation else None))) ≡ None → b ≡ true
    by true r b e = absurd (cc e)
    by false true true e = refl
    by false true false e = absurd (cc e)
    by false false b e = absurd (cc e)

module _ (allowed : List ℕ → Bool) where
  pub first_sound : (closed : Bool) → IsSoundBy allowed (first_state closed)
  unfolding first_state
  first_sound closed =
      let terms = first_fits first_signature [] refl refl in
      record {
        usable = usable_signature first_signature terms.folds (λ k r e. absurd (cc e));
        terms = terms;
        values = none_values;
        formulas = All-nil (λ (t : Tree). type_of first_signature t ≡ Typed bool_tree);
        facts = λ s. All-nil (OfFormula (DerivesBy allowed first_signature []));
      }

  pub begin_sound : (st new : State) → IsSoundBy allowed st → begin_reference st ≡ Ok new → IsSoundBy allowed new
  unfolding begin_reference
  begin_sound st new h e = by st.has_reference e
    where
      by : (b : Bool) → (if b then Err SecondReference else Ok (record st { has_reference = true })) ≡ Ok new → IsSoundBy allowed new
      by true e = absurd (err_is_not_ok SecondReference new e)
      by false e = sound_after allowed (record st { has_reference = true }) new (record { usable = h.usable; terms = h.terms; values = h.values; formulas = h.formulas; facts = h.facts }) e

  counted_sound : (st : State) → IsSoundBy allowed st → IsSoundBy allowed (with_command st)
  counted_sound st h = record { usable = h.usable; terms = h.terms; values = h.values; formulas = h.formulas; facts = h.facts }

  module _ (laws : Layers) where
    command_sound : (st : State) (from : Origin) (command : Command) (new : State) → IsSoundBy allowed st → may_use allowed (rule_used command) ≡ true → (not (is_in_scope st) || may_be_in_scope command) ≡ true → by_command st from command ≡ Ok new → IsSoundBy allowed new
    command_sound st from (DeclareConst name type shape) new h may top e =
        typed_sound allowed laws st h (none_open st.scopes.opened top) (declared_const (context_in st (file_kind_of from)) name type shape) new
        (const_folds (context_in st (file_kind_of from)) name type shape) e
    command_sound st from (DeclareFun name inputs output) new h may top e =
        typed_sound allowed laws st h (none_open st.scopes.opened top) (declared_fun (context_in st (file_kind_of from)) name inputs output) new
        (fun_folds (context_in st (file_kind_of from)) name inputs output) e
    command_sound st from (DeclareSort name arity) new h may top e =
        typed_sound allowed laws st h (none_open st.scopes.opened top) (declared_sort (context_in st (file_kind_of from)) name arity) new
        (sort_folds (context_in st (file_kind_of from)) name arity) e
    command_sound st from (DeclareParameterized name shapes type shape) new h may top e =
        checked_sound allowed laws st h (none_open st.scopes.opened top) (declared_parameterized (context st) name shapes type shape) new e
    command_sound st from (DeclareLiterals class type) new h may top e =
        literals_sound allowed laws st h (none_open st.scopes.opened top) class (declared_literals (context st) class type) new e
    command_sound st from (Define name shapes body) new h may top e = define_sound allowed laws st h name shapes body new e
    command_sound st from (DefineProgram shape) new h may top e = program_sound allowed laws st h (none_open st.scopes.opened top) from shape new e
    command_sound st from (DeclareRule shape) new h may top e = rule_sound allowed laws st h (none_open st.scopes.opened top) from shape new e
    command_sound st from (Assume name s) new h may top e = assume_sound allowed laws st h name s new e
    command_sound st from (AssumePush name s) new h may top e = assume_push_sound allowed laws st h name s new e
    command_sound st from (Step shape) new h may top e = step_plain_sound allowed laws st h shape new may e
    command_sound st from (StepPop shape) new h may top e = step_pop_sound allowed laws st h shape new may e
    command_sound st from (Include written) new h may top e = sound_after allowed st new h e
    command_sound st from (Refer written) new h may top e = sound_after allowed st new h e
    command_sound st from (DefineFun name shapes output body) new h may top e = define_fun_sound allowed laws st h name shapes output body new e
    command_sound st from (DefineSort name names type) new h may top e = define_sort_sound allowed laws st h name names type new e
    command_sound st from (Assert s) new h may top e = assert_sound allowed laws st h (none_open st.scopes.opened top) s new e
    command_sound st from Exit new h may top e = sound_after allowed st new h e
    command_sound st from Skip new h may top e = sound_after allowed st new h e

    placed_sound : (st : State) (from : Origin) (command : Command) (r : State × Next) → IsSoundBy allowed st → may_use allowed (rule_used command) ≡ true → placed_command st from command ≡ Ok r → IsSoundBy allowed r.0
    unfolding placed_command scoped_command
    placed_sound st from command r h may e =
        let new = bind_ok _ _ r e in
        let top = require_then _ _ _ new.0 new.1 in
        let what = bind_ok _ _ r new.2 in
        subst (λ (x : State × Next). IsSoundBy allowed x.0) (ok_injective (new.0, what.0) r what.2) (command_sound st from command new.0 h may top.0 top.1)

    pub step_sound : (st : State) (from : Origin) (s : Sexp) (r : State × Next) → IsSoundBy allowed st → may_use allowed (sexp_rule from s) ≡ true → step st from s ≡ Ok r → IsSoundBy allowed r.0
    unfolding step uncounted
    step_sound st from s r h may e =
        let k = bind_ok (uncounted st from s) _ r e in
        let command = bind_ok _ _ k.0 k.1 in
        let used = subst (λ (m : Checked Command). may_use allowed (used_by m) ≡ true) command.1 may in
        subst (λ (x : State × Next). IsSoundBy allowed x.0) (ok_injective (with_command k.0.0, k.0.1) r k.2) (counted_sound k.0.0 (placed_sound st from command.0 k.0 h used command.2))

  -- what is derivable of the outermost scope uses no assumption
  outermost_derives : (S : Signature) (assertions : List Tree) (out : List Fact) (ss : List Scope) → FactsDerive allowed S assertions out ss → AllDerive allowed S assertions out
  outermost_derives S assertions out [] d = d
  outermost_derives S assertions out (s ∷ ss) d = outermost_derives S assertions out ss d.1

  pub end_derives : (laws : Layers) (st : State) → IsSoundBy allowed st → end_fault st ≡ None → st.sorry ≡ false → DerivesBy allowed st.signature st.assertions (truth false)
  end_derives laws st h e proved =
      false_holds laws (DerivesBy allowed st.signature st.assertions) st.scopes.outermost
      (outermost_derives st.signature st.assertions st.scopes.outermost st.scopes.opened (h.facts proved)) (no_end_fault st e)

-- any rule may be used
pub any_may : (name : Option (List ℕ)) → may_use any_rule name ≡ true
any_may (Some name) = refl
any_may None = refl
