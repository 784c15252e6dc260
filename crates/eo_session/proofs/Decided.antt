-- What is decided of a command.
use Rattle.std.proofs.Common.{◌≡◌, refl, Bool, true, false, not, ◌||◌, List, [], ◌∷◌, ◌++◌, ℕ, sym, ap, subst, ◌∙◌}
use Rattle.std.specs.Prelude.{Ok, Err, None, if◌then◌else◌}
use Rattle.eo_base.specs.declared.FaultName.{FaultName}
use Rattle.eo_base.specs.declared.FaultName.TheVariants.{Redeclared, SecondReference}
use Rattle.eo_base.specs.Checks.{Checked, Passed, ◌>>=◌, require}
use Rattle.eo_sexp.specs.Sexp.{Sexp}
use Rattle.eo_shape.specs.Shapes.{StepShape, Command, DeclareConst, DeclareFun, DeclareSort, DeclareParameterized, DeclareLiterals, Define, DefineProgram, DeclareRule, Assume, AssumePush, Step, StepPop, Include, Refer, DefineFun, DefineSort, Assert, Exit, Skip}
use Rattle.eo_term.specs.Tree.{Tree}
use Rattle.eo_session.specs.State.{State, with_fact, is_asserted}
use Rattle.eo_session.specs.Step.{Concluded, is_free_fact, concluded}
use Rattle.eo_session.specs.Decisions.{assume_effect, assumed_fact, step_effect}
use Rattle.eo_session.specs.Effects.{Effect, Declares, Asserts, Defines, Opens, Adds, Nothing, after}
use Rattle.eo_session.specs.Using.{asserted_formula}
use Rattle.std.specs.Prelude.{Option, Some, Result}
use Rattle.eo_sig.specs.Refused.{Tells as SigTells}
use Rattle.eo_sig.specs.declared.refused.SigRefused.{SigRefused}
use Rattle.eo_sig.specs.declared.refused.SigRefused.TheVariants as sig
use Rattle.eo_base.specs.Answers.{Tells}
use Rattle.eo_base.proofs.ChecksLemmas.{bind_step, bind_fails}
use Rattle.eo_names.specs.Refused.{told as elab_told}
use Rattle.eo_names.specs.declared.refused.ElabRefused.{ElabRefused}
use Rattle.std.specs.Result.{IsErrAnd}
use Rattle.eo_base.proofs.Answering.{at_exit}
use Rattle.eo_session.specs.Commands.{path_of, reference_path, next_by}
use Rattle.eo_session.specs.declared.Next.TheVariants as next
use Rattle.eo_session.specs.Deciding.{Decides}
use Rattle.eo_session.specs.Stepping.{Refuses, of_elab, of_sig}
use Rattle.eo_session.specs.declared.effects.Effect as code
use Rattle.eo_session.specs.declared.store.Store.{Store}
use Rattle.eo_session.specs.declared.refused.Refused.{Refused}
use Rattle.eo_sig.specs.Adding.{entry_fault}
use Rattle.eo_sig.specs.Signature.{Signature, SignatureEntry, IsConstant, IsProgram, IsRule, IsLiteralType}
use Rattle.eo_session.proofs.Adding.{fold_of}
use Rattle.eo_session.proofs.Fitting.{MayFold}
use Rattle.eo_session.proofs.Sessions.{refuses_on, refuses_elab}

-- ---- checks

module _ {A : Type 0} (b : Bool) (fault : FaultName) (go : Passed → Checked A) where
  pub require-fails : b ≡ false → (require b fault >>= go) ≡ Err fault
  unfolding require ◌>>=◌
  require-fails e = ap (λ b. require b fault >>= go) e

  pub require-passes : b ≡ true → (require b fault >>= go) ≡ go tt
  unfolding require ◌>>=◌
  require-passes e = ap (λ b. require b fault >>= go) e

module _ {A B : Type 0} (m : Checked A) (f : A → B) where
  pub then-fault : (name : FaultName) → m ≡ Err name → (m >>= λ x. Ok (f x)) ≡ Err name
  unfolding ◌>>=◌
  then-fault name e = ap (λ m. m >>= λ x. Ok (f x)) e

  pub then-ok : (x : A) → m ≡ Ok x → (m >>= λ x. Ok (f x)) ≡ Ok (f x)
  unfolding ◌>>=◌
  then-ok x e = ap (λ m. m >>= λ x. Ok (f x)) e

-- ---- results

-- what refuses a part refuses the whole
pub decides-refused : {B : Type 0} (part : Checked B) (m : Checked Effect) (r : Result code.Effect Refused) (x : Refused) (new : Store) → IsErrAnd r (λ y. y ≡ x) → Refuses part x → ((name : FaultName) → part ≡ Err name → m ≡ Err name) → Decides new r m
decides-refused part m r x new e given f = at_exit (λ (r : Result code.Effect Refused). Decides new r m) r x e (refuses_on part m x given f)

-- ---- facts

or_false : (b : Bool) → (b || false) ≡ b
or_false true = refl
or_false false = refl

-- a formula that is assumed is a fact of no rule
pub assumed_after : (st : State) (name : List ℕ) (v : Tree) → with_fact st name v ≡ after st (assumed_fact name v)
assumed_after st name v = (λ i. record (with_fact st name v) { sorry = sym (or_false st.sorry) i })

module _ (st : State) (name : List ℕ) (s : Sexp) where
  pub assume-taken : is_free_fact st name ≡ false → assume_effect st name s ≡ Err Redeclared
  assume-taken e = require-fails _ Redeclared _ e

  module _ (free : is_free_fact st name ≡ true) where
    pub assume-fault : (fault : FaultName) → asserted_formula st s ≡ Err fault → assume_effect st name s ≡ Err fault
    assume-fault fault e = require-passes _ Redeclared _ free ∙ then-fault (asserted_formula st s) (assumed_fact name) fault e

    pub assume-ok : (v : Tree) → asserted_formula st s ≡ Ok v → assume_effect st name s ≡ Ok (assumed_fact name v)
    assume-ok v e = require-passes _ Redeclared _ free ∙ then-ok (asserted_formula st s) (assumed_fact name) v e

module _ (st : State) (s : StepShape) where
  abbrev step_fact : Concluded → Effect
  step_fact k = Adds s.name k false

  pub step-taken : is_free_fact st s.name ≡ false → step_effect st s ≡ Err Redeclared
  step-taken e = require-fails _ Redeclared _ e

  module _ (free : is_free_fact st s.name ≡ true) where
    pub step-fault : (fault : FaultName) → concluded st None s ≡ Err fault → step_effect st s ≡ Err fault
    step-fault fault e = require-passes _ Redeclared _ free ∙ then-fault (concluded st None s) step_fact fault e

    pub step-ok : (k : Concluded) → concluded st None s ≡ Ok k → step_effect st s ≡ Ok (Adds s.name k false)
    step-ok k e = require-passes _ Redeclared _ free ∙ then-ok (concluded st None s) step_fact k e

-- ---- declarations

module _ {A : Type 0} (m : Checked A) (f : State → A → Checked Effect) (st : State) (new : Store) where
  -- a declaration that is refused refuses the command
  pub declared-refuses : (r : Result code.Effect Refused) (x : ElabRefused) → IsErrAnd r (λ e. e ≡ of_elab x) → Tells elab_told x m → Decides new r (m >>= f st)
  declared-refuses r x e h = decides-refused m (m >>= f st) r (of_elab x) new e (refuses_elab m x h) (bind_fails m (f st))

  -- what is declared is decided in a state that is the same
  pub declared-decides : (r : Result code.Effect Refused) (mid : State) (d : A) → mid ≡ st → m ≡ Ok d → Decides new r (f mid d) → Decides new r (m >>= f st)
  declared-decides r mid d same e h = subst (λ (m : Checked Effect). Decides new r m) (sym (bind_step m (f st) d e ∙ ap (λ (z : State). f z d) (sym same))) h

-- ---- what is done next

-- an effect leaves whether there is a reference file
pub reference-stays : (st : State) (e : Effect) → (after st e).has_reference ≡ st.has_reference
reference-stays st (Declares entry) = refl
reference-stays st (Defines m) = refl
reference-stays st (Asserts t names) = by (is_asserted st t)
  where
    by : (b : Bool) → (if b then st else record st { assertions = st.assertions ++ t ∷ [] }).has_reference ≡ st.has_reference
    by true = refl
    by false = refl
reference-stays st (Opens name t) = refl
reference-stays st (Adds name k true) = refl
reference-stays st (Adds name k false) = refl
reference-stays st Nothing = refl

-- and that is all that counts for what is done next
pub next-same : (a b : State) (k : Command) → a.has_reference ≡ b.has_reference → next_by a k ≡ next_by b k
unfolding next_by reference_path
next-same a b (DeclareConst name type shape) e = refl
next-same a b (DeclareFun name inputs output) e = refl
next-same a b (DeclareSort name arity) e = refl
next-same a b (DeclareParameterized name shapes type shape) e = refl
next-same a b (DeclareLiterals class type) e = refl
next-same a b (Define name shapes body) e = refl
next-same a b (DefineProgram shape) e = refl
next-same a b (DeclareRule shape) e = refl
next-same a b (Assume name s) e = refl
next-same a b (AssumePush name s) e = refl
next-same a b (Step shape) e = refl
next-same a b (StepPop shape) e = refl
next-same a b (Include written) e = refl
next-same a b (Refer written) e = ap (λ (h : Bool). (require (not h) SecondReference >>= λ _. path_of written) >>= λ path. Ok (next.Reference path)) e
next-same a b (DefineFun name shapes output body) e = refl
next-same a b (DefineSort name names type) e = refl
next-same a b (Assert s) e = refl
next-same a b Exit e = refl
next-same a b Skip e = refl

-- ---- declarations that are checked

-- a fault of a declaration is that of the whole
pub entry-refused : (m : Checked Effect) (fault : Option FaultName) (s : Result (Unit {0}) SigRefused) (x : SigRefused) (r : Result code.Effect Refused) (new : Store) → SigTells s fault → s ≡ Err x → IsErrAnd r (λ e. e ≡ of_sig x) → ((name : FaultName) → fault ≡ Some name → m ≡ Err name) → Decides new r m
entry-refused m fault s x r new t is e h = at_exit (λ (r : Result code.Effect Refused). Decides new r m) r (of_sig x) e (by x (subst (λ (s : Result (Unit {0}) SigRefused). SigTells s fault) is t))
  where
    by : (x : SigRefused) → SigTells {X = Unit {0}} (Err x) fault → Refuses m (of_sig x)
    by sig.Redeclared t = (h _ t, λ q. absurd cc)
    by sig.BadPattern t = (h _ t, λ q. absurd cc)
    by sig.UnboundParam t = (h _ t, λ q. absurd cc)
    by (sig.Memory e) t = (tt, tt)

-- a declaration that passed its check has no fault
pub entry-sound : (fault : Option FaultName) (s : Result (Unit {0}) SigRefused) (x : Unit {0}) → SigTells s fault → s ≡ Ok x → fault ≡ None
entry-sound fault s x t is = subst (λ (s : Result (Unit {0}) SigRefused). SigTells s fault) is t

-- a decision in the same state, over an equal definition
pub decides-same : (new : Store) (r : Result code.Effect Refused) (m n : Checked Effect) → m ≡ n → Decides new r n → Decides new r m
decides-same new r m n e h = subst (λ (m : Checked Effect). Decides new r m) (sym e) h

-- an entry without a fault may fold
pub fold_of_entry : (S : Signature) (e : SignatureEntry) → entry_fault S e ≡ None → MayFold e
fold_of_entry S (IsConstant d n) h = fold_of d h
fold_of_entry S (IsProgram p) h = tt
fold_of_entry S (IsRule r) h = tt
fold_of_entry S (IsLiteralType class t) h = tt
