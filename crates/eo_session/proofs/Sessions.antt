-- What each command does to a state.
use Rattle.std.proofs.Common.{◌≡◌, refl, ℕ, ◌<◌, Bool, true, false, not, List, [], sym, ap, subst, ◌∙◌, true≢false, arith}
use Rattle.std.specs.Prelude.{Option, Some, None, Result, Ok, Err, nat_lt, if◌then◌else◌, ◌&&◌, ◌||◌}
use Rattle.eo_base.specs.declared.FaultName.{FaultName}
use Rattle.eo_base.specs.declared.FaultName.TheVariants.{Redeclared, IllTyped, NotBool, NotAsserted, NoReference, NoRefutation, SecondReference, InScope, ScopeOpen, ScopeDepth}
use Rattle.eo_base.specs.Answers.{Tells}
use Rattle.eo_base.specs.Checks.{Checked, ◌>>=◌, require}
use Rattle.eo_sexp.specs.Sexp.{Sexp}
use Rattle.eo_shape.specs.Shapes.{Command, command_of}
use Rattle.eo_term.specs.Tree.{Tree, type_tree, bool_tree, is_value, is_tall, tree_eq}
use Rattle.eo_term.specs.Growth.{Grows}
use Rattle.eo_term.specs.Terms.{Terms}
use Rattle.eo_stack.specs.Evaluation.{Outcome, eval0}
use Rattle.eo_eval.specs.Faults.{value_or_fault}
use Rattle.eo_eval.specs.Outcomes.{IsValueOf}
use Rattle.eo_elab.specs.Meaning.{meaning}
use Rattle.eo_names.specs.Names.{read_locals}
use Rattle.eo_names.specs.declared.locals.LocalName.{LocalName}
use Rattle.eo_names.specs.declared.refused.ElabRefused.{ElabRefused}
use Rattle.eo_names.specs.declared.refused.ElabRefused.TheVariants as elab
use Rattle.eo_names.specs.Refused.{told as elab_told}
use Rattle.eo_session.specs.declared.store.Store.{Store}
use Rattle.eo_session.specs.declared.refused.Refused.{Refused}
use Rattle.eo_session.specs.declared.refused.Refused.TheVariants as refused
use Rattle.eo_session.specs.Stepping.{of_elab, Refuses, GivesTerm}
use Rattle.std.proofs.lemmas.Bool.Decides.{nat_tests}
use Rattle.eo_session.specs.Using.{asserted_formula}
use Rattle.eo_proof.specs.Scopes.{depth, has_false, scope_limit}
use Rattle.eo_session.specs.Decisions.{push_effect, decided, scoped_decision, placed_decision}
use Rattle.eo_session.specs.Effects.{Effect, Opens}
use Rattle.eo_session.specs.State.{State, context, with_fact, with_command, is_asserted, is_in_scope, begin_reference, end_fault}
use Rattle.eo_session.specs.Step.{is_in_reference, is_free_fact, evaluated, value, typed, type_value, formula_of, formula, assume}
use Rattle.eo_session.specs.Commands.{may_be_in_scope, next_by, placed_command, uncounted, step}
use Rattle.eo_session.specs.Origin.{Origin}
use Rattle.eo_session.specs.declared.Next.{Next}

-- ---- refusals

pub refuses_on : {B C : Type 0} (m : Checked B) (n : Checked C) (x : Refused) → Refuses m x → ((name : FaultName) → m ≡ Err name → n ≡ Err name) → Refuses n x
refuses_on m n (refused.Fault name) h f = (f name h.0, h.1)
refuses_on m n refused.Ended h f = h
refuses_on m n (refused.Memory e) h f = h

-- ---- values

module _ (st : State) (s : Sexp) where
  pub value-fault : (name : FaultName) → meaning (context st) [] s ≡ Err name → value st s ≡ Err name
  unfolding value ◌>>=◌
  value-fault name e = ap (λ m. m >>= evaluated st) e

  pub value-is : (t : Tree) → meaning (context st) [] s ≡ Ok t → value st s ≡ evaluated st t
  unfolding value ◌>>=◌
  value-is t e = ap (λ m. m >>= evaluated st) e

pub evaluated-is : (st : State) (t : Tree) (o : Outcome Tree) → eval0 st.signature t ≡ o → evaluated st t ≡ value_or_fault o
unfolding evaluated
evaluated-is st t o e = ap value_or_fault e

-- a value stays one where the table grows
pub value_later : (t u : Terms) (i : ℕ) → Grows t u → IsValueOf t i → IsValueOf u i
value_later t u i grows is =
    let same = sym (grows.now.tree i is.live) in
    record {
      live = omega (arith, is.live, grows.now.more_trees);
      value = subst (λ (x : Tree). is_value x ≡ true) same is.value;
      low = subst (λ (x : Tree). is_tall x ≡ false) same is.low;
    }

-- ---- formulas

module _ (st : State) (t : Tree) where
  abbrev by_kind : Tree → Checked Tree → Checked Tree
  by_kind v m = m >>= λ k. require (tree_eq k bool_tree) NotBool >>= λ _. Ok v

  abbrev by_test : Tree → Bool → Checked Tree
  by_test v b = require b NotBool >>= λ _. Ok v

  pub formula-value : (name : FaultName) → evaluated st t ≡ Err name → formula_of st t ≡ Err name
  unfolding formula_of ◌>>=◌
  formula-value name e = ap (λ m. m >>= λ v. by_kind v (typed st v)) e

  pub formula-kind : (v : Tree) (name : FaultName) → evaluated st t ≡ Ok v → typed st v ≡ Err name → formula_of st t ≡ Err name
  unfolding formula_of ◌>>=◌
  formula-kind v name e h = ap (λ m. m >>= λ v. by_kind v (typed st v)) e ∙ ap (by_kind v) h

  pub formula-not_bool : (v k : Tree) → evaluated st t ≡ Ok v → typed st v ≡ Ok k → tree_eq k bool_tree ≡ false → formula_of st t ≡ Err NotBool
  unfolding formula_of ◌>>=◌ require
  formula-not_bool v k e h b = ap (λ m. m >>= λ v. by_kind v (typed st v)) e ∙ ap (by_kind v) h ∙ ap (by_test v) b

  pub formula-ok : (v k : Tree) → evaluated st t ≡ Ok v → typed st v ≡ Ok k → tree_eq k bool_tree ≡ true → formula_of st t ≡ Ok v
  unfolding formula_of ◌>>=◌ require
  formula-ok v k e h b = ap (λ m. m >>= λ v. by_kind v (typed st v)) e ∙ ap (by_kind v) h ∙ ap (by_test v) b

module _ (st : State) (s : Sexp) where
  pub formula-fault : (name : FaultName) → meaning (context st) [] s ≡ Err name → formula st s ≡ Err name
  unfolding formula ◌>>=◌
  formula-fault name e = ap (λ m. m >>= formula_of st) e

  pub formula-is : (t : Tree) → meaning (context st) [] s ≡ Ok t → formula st s ≡ formula_of st t
  unfolding formula ◌>>=◌
  formula-is t e = ap (λ m. m >>= formula_of st) e

-- ---- types

module _ (st : State) (t : Tree) where
  abbrev type_by : Tree → Checked Tree → Checked Tree
  type_by v m = m >>= λ k. require (tree_eq k type_tree) IllTyped >>= λ _. Ok v

  abbrev type_if : Tree → Bool → Checked Tree
  type_if v b = require b IllTyped >>= λ _. Ok v

  pub type-fault : (name : FaultName) → evaluated st t ≡ Err name → type_value st t ≡ Err name
  unfolding type_value ◌>>=◌
  type-fault name e = ap (λ m. m >>= λ v. type_by v (typed st v)) e

  pub type-kind : (v : Tree) (name : FaultName) → evaluated st t ≡ Ok v → typed st v ≡ Err name → type_value st t ≡ Err name
  unfolding type_value ◌>>=◌
  type-kind v name e h = ap (λ m. m >>= λ v. type_by v (typed st v)) e ∙ ap (type_by v) h

  pub type-other : (v k : Tree) → evaluated st t ≡ Ok v → typed st v ≡ Ok k → tree_eq k type_tree ≡ false → type_value st t ≡ Err IllTyped
  unfolding type_value ◌>>=◌ require
  type-other v k e h b = ap (λ m. m >>= λ v. type_by v (typed st v)) e ∙ ap (type_by v) h ∙ ap (type_if v) b

  pub type-ok : (v k : Tree) → evaluated st t ≡ Ok v → typed st v ≡ Ok k → tree_eq k type_tree ≡ true → type_value st t ≡ Ok v
  unfolding type_value ◌>>=◌ require
  type-ok v k e h b = ap (λ m. m >>= λ v. type_by v (typed st v)) e ∙ ap (type_by v) h ∙ ap (type_if v) b

-- where there are no local names
pub no_locals : (st : State) (s : Sexp) (ts : List Tree) (ls : List LocalName) → ls ≡ [] → (m : Checked Tree) → meaning (context st) (read_locals ts ls) s ≡ m → meaning (context st) [] s ≡ m
no_locals st s ts ls e m h = sym (ap (λ xs. meaning (context st) (read_locals ts xs) s) e) ∙ h

-- ---- names of facts

pub not_taken : (a b : Bool) → (not a && not b) ≡ true → (a ≡ false) × (b ≡ false)
not_taken false false e = (refl, refl)
not_taken false true e = absurd (true≢false (sym e))
not_taken true b e = absurd (true≢false (sym e))

-- ---- assumptions

module _ (st : State) (s : Sexp) where
  abbrev after_test : Tree → Bool → Checked Tree
  after_test v b = require b NotAsserted >>= λ _. Ok v

  abbrev after_reference : Tree → Bool → Checked Tree
  after_reference v b = require b NoReference >>= λ _. after_test v (is_asserted st v)

  abbrev after_formula : Checked Tree → Checked Tree
  after_formula m = m >>= λ v. after_reference v st.has_reference

  pub stated-fault : (fault : FaultName) → formula st s ≡ Err fault → asserted_formula st s ≡ Err fault
  unfolding ◌>>=◌
  stated-fault fault h = ap after_formula h

  module _ (v : Tree) (h : formula st s ≡ Ok v) where
    pub stated-no_reference : st.has_reference ≡ false → asserted_formula st s ≡ Err NoReference
    unfolding ◌>>=◌ require
    stated-no_reference r = ap after_formula h ∙ ap (after_reference v) r

    pub stated-not_asserted : st.has_reference ≡ true → is_asserted st v ≡ false → asserted_formula st s ≡ Err NotAsserted
    unfolding ◌>>=◌ require
    stated-not_asserted r a = ap after_formula h ∙ ap (after_reference v) r ∙ ap (after_test v) a

    pub stated-ok : st.has_reference ≡ true → is_asserted st v ≡ true → asserted_formula st s ≡ Ok v
    unfolding ◌>>=◌ require
    stated-ok r a = ap after_formula h ∙ ap (after_reference v) r ∙ ap (after_test v) a

tested : (b : Bool) (v : Tree) (f : Tree → State) → (require b NotAsserted >>= λ _. Ok (f v)) ≡ ((require b NotAsserted >>= λ _. Ok v) >>= λ v. Ok (f v))
unfolding ◌>>=◌ require
tested true v f = refl
tested false v f = refl

regrouped : (m : Checked Tree) (r : Bool) (t : Tree → Bool) (f : Tree → State) →
    (m >>= λ v. require r NoReference >>= λ _. require (t v) NotAsserted >>= λ _. Ok (f v)) ≡ ((m >>= λ v. require r NoReference >>= λ _. require (t v) NotAsserted >>= λ _. Ok v) >>= λ v. Ok (f v))
unfolding ◌>>=◌ require
regrouped (Err fault) r t f = refl
regrouped (Ok v) false t f = refl
regrouped (Ok v) true t f = tested (t v) v f

-- an assumption is a formula that is asserted, by a name that is free
pub assume-is : (st : State) (name : List ℕ) (s : Sexp) → assume st name s ≡ (require (is_free_fact st name) Redeclared >>= λ _. asserted_formula st s >>= λ v. Ok (with_fact st name v))
unfolding assume
assume-is st name s = ap (λ (m : Checked State). require (is_free_fact st name) Redeclared >>= λ _. m) (regrouped (formula st s) st.has_reference (is_asserted st) (with_fact st name))

-- ---- pushed assumptions

pub is_less : (n m : ℕ) → nat_lt n m ≡ true → n < m
is_less n m e = grind (arith, nat_tests, e)

module _ (st : State) (name : List ℕ) (s : Sexp) where
  abbrev pushed : Checked Tree → Checked Effect
  pushed m = m >>= λ v. Ok (Opens name v)

  abbrev push_free : Bool → Checked Effect
  push_free b = require b Redeclared >>= λ _. pushed (formula st s)

  abbrev push_few : Bool → Checked Effect
  push_few b = require b ScopeDepth >>= λ _. push_free (is_free_fact st name)

  pub push-deep : nat_lt (depth st.scopes) scope_limit ≡ false → push_effect st name s ≡ Err ScopeDepth
  unfolding ◌>>=◌ require
  push-deep e = ap push_few e

  module _ (few : nat_lt (depth st.scopes) scope_limit ≡ true) where
    pub push-redeclared : is_free_fact st name ≡ false → push_effect st name s ≡ Err Redeclared
    unfolding ◌>>=◌ require
    push-redeclared e = ap push_few few ∙ ap push_free e

    module _ (free : is_free_fact st name ≡ true) where
      pub push-fault : (fault : FaultName) → formula st s ≡ Err fault → push_effect st name s ≡ Err fault
      unfolding ◌>>=◌ require
      push-fault fault h = ap push_few few ∙ ap push_free free ∙ ap pushed h

      pub push-ok : (v : Tree) → formula st s ≡ Ok v → push_effect st name s ≡ Ok (Opens name v)
      unfolding ◌>>=◌ require
      push-ok v h = ap push_few few ∙ ap push_free free ∙ ap pushed h

-- ---- each command

module _ (st : State) (from : Origin) (s : Sexp) (b : Bool) (e : b ≡ is_in_reference from) where
  abbrev by_shape : Checked Command → Checked (State × Next)
  by_shape m = m >>= placed_command st from

  shaped : (m : Checked Command) → command_of b s ≡ m → uncounted st from s ≡ by_shape m
  unfolding uncounted
  shaped m h = ap (λ r. by_shape (command_of r s)) (sym e) ∙ ap by_shape h

  pub shape-fault : (name : FaultName) → command_of b s ≡ Err name → uncounted st from s ≡ Err name
  unfolding ◌>>=◌
  shape-fault name h = shaped (Err name) h

  pub shape-ok : (k : Command) → command_of b s ≡ Ok k → uncounted st from s ≡ placed_command st from k
  unfolding ◌>>=◌
  shape-ok k h = shaped (Ok k) h

module _ (st : State) (from : Origin) (k : Command) where
  abbrev by_place : Bool → Checked Effect
  by_place b = require b InScope >>= λ _. decided st from k

  pub scope-fault : (not (is_in_scope st) || may_be_in_scope k) ≡ false → scoped_decision st from k ≡ Err InScope
  unfolding scoped_decision require ◌>>=◌
  scope-fault e = ap by_place e

  pub scope-ok : (not (is_in_scope st) || may_be_in_scope k) ≡ true → scoped_decision st from k ≡ decided st from k
  unfolding scoped_decision require ◌>>=◌
  scope-ok e = ap by_place e

module _ (st : State) (from : Origin) (k : Command) where
  abbrev by_next : Effect → Checked Next → Checked (Effect × Next)
  by_next e m = m >>= λ what. Ok (e, what)

  abbrev by_effect : Checked Effect → Checked (Effect × Next)
  by_effect m = m >>= λ e. by_next e (next_by st k)

  pub placed-fault : (name : FaultName) → scoped_decision st from k ≡ Err name → placed_decision st from k ≡ Err name
  unfolding placed_decision ◌>>=◌
  placed-fault name e = ap by_effect e

  -- what is done next is asked of a state that is the same
  module _ (mid : State) (same : mid ≡ st) (e : Effect) (is : scoped_decision st from k ≡ Ok e) where
    next-is : next_by st k ≡ next_by mid k
    next-is = ap (λ (z : State). next_by z k) (sym same)

    pub placed-stops : (name : FaultName) → next_by mid k ≡ Err name → placed_decision st from k ≡ Err name
    unfolding placed_decision ◌>>=◌
    placed-stops name h = ap by_effect is ∙ ap (by_next e) (next-is ∙ h)

    pub placed-ok : (what : Next) → next_by mid k ≡ Ok what → placed_decision st from k ≡ Ok (e, what)
    unfolding placed_decision ◌>>=◌
    placed-ok what h = ap by_effect is ∙ ap (by_next e) (next-is ∙ h)

module _ (st : State) (from : Origin) (s : Sexp) where
  pub step-fault : (name : FaultName) → uncounted st from s ≡ Err name → step st from s ≡ Err name
  unfolding step ◌>>=◌
  step-fault name h = ap (λ m. m >>= λ r. Ok (with_command r.0, r.1)) h

  pub step-ok : (new : State) (what : Next) → uncounted st from s ≡ Ok (new, what) → step st from s ≡ Ok (with_command new, what)
  unfolding step ◌>>=◌
  step-ok new what h = ap (λ m. m >>= λ r. Ok (with_command r.0, r.1)) h

-- ---- refusals

-- the refusal of a term or a declaration
pub refuses_elab : {B : Type 0} (m : Checked B) (x : ElabRefused) → Tells elab_told x m → Refuses m (of_elab x)
refuses_elab m elab.BadLiteral h = (h, λ q. absurd cc)
refuses_elab m elab.BadCommand h = (h, λ q. absurd cc)
refuses_elab m elab.Redeclared h = (h, λ q. absurd cc)
refuses_elab m elab.UnknownSymbol h = (h, λ q. absurd cc)
refuses_elab m elab.BadArity h = (h, λ q. absurd cc)
refuses_elab m elab.Tall h = (h, λ q. absurd cc)
refuses_elab m elab.Parameters h = (h, λ q. absurd cc)
refuses_elab m elab.BadPattern h = (h, λ q. absurd cc)
refuses_elab m (elab.Memory e) h = (tt, tt)

-- an answer for a term is one for what is the same
pub gives-same : (h : Store) (r : Result ℕ Refused) (m n : Checked Tree) → m ≡ n → GivesTerm h r n → GivesTerm h r m
gives-same h r m n e g = subst (λ k. GivesTerm h r k) (sym e) g

-- a refusal that is passed on, of what leads to the same fault
-- ---- the reference file, and the end

module _ (st : State) where
  abbrev by_reference : Bool → Checked State
  by_reference b = if b then Err SecondReference else Ok (record st { has_reference = true })

  pub begin-second : st.has_reference ≡ true → begin_reference st ≡ Err SecondReference
  unfolding begin_reference
  begin-second e = ap by_reference e

  pub begin-ok : st.has_reference ≡ false → begin_reference st ≡ Ok (record st { has_reference = true })
  unfolding begin_reference
  begin-ok e = ap by_reference e

  abbrev by_end : Bool → Bool → Bool → Option FaultName
  by_end o r f = if o then Some ScopeOpen else (if not r then Some NoReference else (if not f then Some NoRefutation else None))

  pub end-in_scope : is_in_scope st ≡ true → end_fault st ≡ Some ScopeOpen
  unfolding end_fault
  end-in_scope o = ap (λ o. by_end o st.has_reference (has_false st.scopes)) o

  module _ (o : is_in_scope st ≡ false) where
    pub end-no_reference : st.has_reference ≡ false → end_fault st ≡ Some NoReference
    unfolding end_fault
    end-no_reference e = (λ i. by_end (o i) (e i) (has_false st.scopes))

    pub end-no_refutation : st.has_reference ≡ true → has_false st.scopes ≡ false → end_fault st ≡ Some NoRefutation
    unfolding end_fault
    end-no_refutation e f = (λ i. by_end (o i) (e i) (f i))

    pub end-correct : st.has_reference ≡ true → has_false st.scopes ≡ true → end_fault st ≡ None
    unfolding end_fault
    end-correct e f = (λ i. by_end (o i) (e i) (f i))
