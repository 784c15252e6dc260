-- What an accepted command decides, and what is noted of it.
use Rattle.std.specs.Prelude.{◌≡◌, Bool, true, false, not, ◌||◌, if◌then◌else◌, List, ℕ, Some, None, Ok}
use Rattle.std.proofs.Common.{sym, ap, subst, ◌∙◌, true≢false}
use Rattle.eo_base.proofs.ChecksLemmas.{ok_injective, bind_ok, bind_step, require_then, value_or_ok}
use Rattle.eo_base.specs.declared.FaultName.TheVariants.{InScope, NoScope}
use Rattle.eo_base.specs.Checks.{Checked, ◌>>=◌, value_or}
use Rattle.eo_sexp.specs.Sexp.{Sexp}
use Rattle.eo_term.specs.Tree.{Tree}
use Rattle.eo_proof.specs.Scopes.{innermost_hypothesis}
use Rattle.eo_shape.specs.Shapes.{Command, ParameterShape, StepShape, DeclareConst, DeclareFun, DeclareSort, DeclareParameterized, DeclareLiterals, Define, DefineProgram, DeclareRule, Assume, AssumePush, Step, StepPop, Include, Refer, DefineFun, DefineSort, Assert, Exit, Skip, command_of}
use Rattle.eo_sig.specs.Signature.{Constant, Macro, SignatureEntry, IsConstant, IsProgram, IsRule, IsLiteralType, counts_of}
use Rattle.eo_session.specs.State.{State, is_in_scope, with_command}
use Rattle.eo_session.specs.Step.{is_in_reference, is_free_fact, formula, Concluded, concluded}
use Rattle.eo_session.specs.Using.{asserted_formula}
use Rattle.eo_session.specs.Commands.{may_be_in_scope, next_by, placed_command, uncounted, step}
use Rattle.eo_session.specs.Decisions.{apart_effect, constant_effect, checked_effect, typed_effect, macro_effect, entry_effect, define_effect, assumed_fact, assume_effect, push_effect, step_effect, pop_effect, decided, scoped_decision, placed_decision, done_next}
use Rattle.eo_session.specs.Effects.{Effect, Declares, Defines, Opens, Adds, Nothing, after}
use Rattle.eo_session.specs.Notes.{act_of}
use Rattle.eo_session.specs.Origin.{Origin}
use Rattle.eo_session.specs.declared.Next.{Next}
use Rattle.eo_session.proofs.Decided.{require-passes}
use Rattle.eo_session.proofs.Decisions.{placed_done}
use Rattle.eo_run.specs.Seen.{act_decided, act_by, noted}

-- ---- commands that read or make no facts

-- commands that read or make facts
abbrev pub sees_facts : Command → Bool
sees_facts (Assume name s) = true
sees_facts (AssumePush name s) = true
sees_facts (Step shape) = true
sees_facts (StepPop shape) = true
sees_facts command = false

-- an effect that makes no facts
abbrev pub IsPlain : Effect → Type 0
IsPlain (Opens name t) = ⊥
IsPlain (Adds name k closes) = ⊥
IsPlain e = Unit {0}

-- a macro that is defined, or repeats one of the reference file
abbrev pub IsMacro : Effect → Type 0
IsMacro (Defines m) = Unit {0}
IsMacro Nothing = Unit {0}
IsMacro e = ⊥

abbrev Gives : (Effect → Type 0) → Checked Effect → Type 0
Gives P m = (e : Effect) → m ≡ Ok e → P e

abbrev ArePlain : Checked Effect → Type 0
ArePlain m = Gives IsPlain m

gives-bind : (P : Effect → Type 0) {A : Type 0} (m : Checked A) (f : A → Checked Effect) → ((x : A) → Gives P (f x)) → Gives P (m >>= f)
gives-bind P m f h e is =
    let x = bind_ok m f e is in
    h x.0 e x.2

gives-one : (P : Effect → Type 0) (e : Effect) → P e → Gives P (Ok e)
gives-one P e h d is = subst P (ok_injective e d is) h

gives-if : (P : Effect → Type 0) (b : Bool) (m n : Checked Effect) → Gives P m → Gives P n → Gives P (if b then m else n)
gives-if P true m n h i = h
gives-if P false m n h i = i

plain-bind : {A : Type 0} (m : Checked A) (f : A → Checked Effect) → ((x : A) → ArePlain (f x)) → ArePlain (m >>= f)
plain-bind m f h = gives-bind IsPlain m f h

plain-one : (e : Effect) → IsPlain e → ArePlain (Ok e)
plain-one e h = gives-one IsPlain e h

module _ (st : State) where
  apart-plain : (d : Constant) → ArePlain (apart_effect st d)
  apart-plain d = plain-bind _ _ (λ _. plain-one (Declares (IsConstant d (counts_of d))) tt)

  constant-plain : (d : Constant) → ArePlain (constant_effect st d)
  constant-plain d = gives-if IsPlain _ _ _ (plain-one Nothing tt) (apart-plain d)

  checked-plain : (d : Constant) → ArePlain (checked_effect st d)
  checked-plain d = plain-bind _ _ (λ _. apart-plain d)

  typed-plain : (d : Constant) → ArePlain (typed_effect st d)
  typed-plain d = plain-bind _ _ (λ v. constant-plain (record d { type = v }))

  macro-gives : (P : Effect → Type 0) → P Nothing → ((m : Macro) → P (Defines m)) → (m : Macro) → Gives P (macro_effect st m)
  macro-gives P none defines m = gives-if P _ _ _ (gives-bind P _ _ (λ _. gives-one P Nothing none)) (gives-one P (Defines m) (defines m))

  macro-plain : (m : Macro) → ArePlain (macro_effect st m)
  macro-plain m = macro-gives IsPlain tt (λ d. tt) m

  pub define_is : (name : List ℕ) (shapes : List ParameterShape) (body : Sexp) (e : Effect) → define_effect st name shapes body ≡ Ok e → IsMacro e
  define_is name shapes body e is = gives-bind IsMacro _ _ (macro-gives IsMacro tt (λ d. tt)) e is

  entry-plain : (entry : SignatureEntry) → ArePlain (entry_effect st entry)
  entry-plain entry = plain-bind _ _ (λ _. plain-one (Declares entry) tt)

  pub plain_effect : (from : Origin) (command : Command) → sees_facts command ≡ false → ArePlain (decided st from command)
  plain_effect from (DeclareConst name type shape) other = plain-bind _ _ typed-plain
  plain_effect from (DeclareFun name inputs output) other = plain-bind _ _ typed-plain
  plain_effect from (DeclareSort name arity) other = plain-bind _ _ typed-plain
  plain_effect from (DeclareParameterized name shapes type shape) other = plain-bind _ _ checked-plain
  plain_effect from (DeclareLiterals class type) other = plain-bind _ _ (λ t. entry-plain (IsLiteralType class t))
  plain_effect from (Define name shapes body) other = plain-bind _ _ macro-plain
  plain_effect from (DefineProgram shape) other = plain-bind _ _ (λ _. plain-bind _ _ (λ p. entry-plain (IsProgram p)))
  plain_effect from (DeclareRule shape) other = plain-bind _ _ (λ _. plain-bind _ _ (λ r. entry-plain (IsRule r)))
  plain_effect from (Assume name s) other = absurd (true≢false other)
  plain_effect from (AssumePush name s) other = absurd (true≢false other)
  plain_effect from (Step shape) other = absurd (true≢false other)
  plain_effect from (StepPop shape) other = absurd (true≢false other)
  plain_effect from (Include written) other = plain-one Nothing tt
  plain_effect from (Refer written) other = plain-one Nothing tt
  plain_effect from (DefineFun name shapes output body) other = plain-bind _ _ macro-plain
  plain_effect from (DefineSort name names type) other = plain-bind _ _ macro-plain
  plain_effect from (Assert s) other = plain-bind _ _ (λ r. plain-bind _ _ (λ v. plain-one _ tt))
  plain_effect from Exit other = plain-one Nothing tt
  plain_effect from Skip other = plain-one Nothing tt

  -- ---- the effects of the others

  pub assume_is : (name : List ℕ) (s : Sexp) (e : Effect) → assume_effect st name s ≡ Ok e → (is_free_fact st name ≡ true) × (v : Tree) × (asserted_formula st s ≡ Ok v) × (e ≡ assumed_fact name v)
  assume_is name s e is =
      let free = require_then _ _ _ e is in
      let v = bind_ok (asserted_formula st s) _ e free.1 in
      (free.0, v.0, v.1, sym (ok_injective _ e v.2))

  pub push_is : (name : List ℕ) (s : Sexp) (e : Effect) → push_effect st name s ≡ Ok e → (v : Tree) × (e ≡ Opens name v)
  push_is name s e is =
      let room = require_then _ _ _ e is in
      let free = require_then _ _ _ e room.1 in
      let v = bind_ok (formula st s) _ e free.1 in
      (v.0, sym (ok_injective _ e v.2))

  pub step_is : (s : StepShape) (e : Effect) → step_effect st s ≡ Ok e → (k : Concluded) × (concluded st None s ≡ Ok k) × (e ≡ Adds s.name k false)
  step_is s e is =
      let free = require_then _ _ _ e is in
      let k = bind_ok (concluded st None s) _ e free.1 in
      (k.0, k.1, sym (ok_injective _ e k.2))

  pub pop_is : (s : StepShape) (e : Effect) → pop_effect st s ≡ Ok e → (a : Tree) × (innermost_hypothesis st.scopes ≡ Some a) × (k : Concluded) × (concluded st (Some a) s ≡ Ok k) × (e ≡ Adds s.name k true)
  pop_is s e is =
      let a = bind_ok (value_or NoScope (innermost_hypothesis st.scopes)) _ e is in
      let free = require_then _ _ _ e a.2 in
      let k = bind_ok (concluded st (Some a.0) s) _ e free.1 in
      (a.0, value_or_ok NoScope (innermost_hypothesis st.scopes) a.0 a.1, k.0, k.1, sym (ok_injective _ e k.2))

-- ---- an accepted command

-- What is decided of it, and what is done next.
pub record Accepts (st : State) (from : Origin) (s : Sexp) (r : State × Next) : Type 0 where
  pub command : Command
  pub shape : command_of (is_in_reference from) s ≡ Ok command
  pub may : (not (is_in_scope st) || may_be_in_scope command) ≡ true
  pub effect : Effect
  pub decides : decided st from command ≡ Ok effect
  pub next : next_by st command ≡ Ok r.1
  pub is : r.0 ≡ with_command (after st effect)
  pub noted_is : noted st from s ≡ act_of st command effect

pub accepts : (st : State) (from : Origin) (s : Sexp) (r : State × Next) → step st from s ≡ Ok r → Accepts st from s r
unfolding step uncounted scoped_decision placed_decision noted
accepts st from s r e =
    let k = bind_ok (uncounted st from s) _ r e in
    let command = bind_ok (command_of (is_in_reference from) s) _ k.0 k.1 in
    let d = bind_ok (placed_decision st from command.0) _ k.0 (sym (placed_done st from command.0) ∙ command.2) in
    let scoped = bind_ok (scoped_decision st from command.0) _ d.0 d.1 in
    let may = require_then _ _ _ scoped.0 scoped.1 in
    let what = bind_ok (next_by st command.0) _ d.0 scoped.2 in
    let both : (scoped.0, what.0) ≡ d.0 = ok_injective (scoped.0, what.0) d.0 what.2 in
    let new : (after st d.0.0, d.0.1) ≡ k.0 = ok_injective (after st d.0.0, d.0.1) k.0 d.2 in
    let last : (with_command k.0.0, k.0.1) ≡ r = ok_injective (with_command k.0.0, k.0.1) r k.2 in
    record {
      command = command.0;
      shape = command.1;
      may = may.0;
      effect = scoped.0;
      decides = may.1;
      next = what.1 ∙ ap (λ (x : Effect × Next). Ok x.1) both ∙ ap (λ (x : State × Next). Ok x.1) new ∙ ap (λ (x : State × Next). Ok x.1) last;
      is = sym (ap (λ (x : Effect × Next). with_command (after st x.0)) both ∙ ap (λ (x : State × Next). with_command x.0) new ∙ ap (λ (x : State × Next). x.0) last);
      noted_is = ap (act_by st from) command.1 ∙ ap (act_decided st command.0) d.1 ∙ ap (λ (x : Effect × Next). act_of st command.0 x.0) (sym both);
    }

-- a command is accepted by what is decided of it
pub accepted : (st : State) (from : Origin) (s : Sexp) (command : Command) (e : Effect) (what : Next) → command_of (is_in_reference from) s ≡ Ok command → (not (is_in_scope st) || may_be_in_scope command) ≡ true →
    decided st from command ≡ Ok e → next_by st command ≡ Ok what → step st from s ≡ Ok (with_command (after st e), what)
unfolding step uncounted scoped_decision placed_decision ◌>>=◌
accepted st from s command e what shape may decides next =
    let scoped : scoped_decision st from command ≡ Ok e = require-passes _ InScope _ may ∙ decides in
    let d : placed_decision st from command ≡ Ok (e, what) = bind_step (scoped_decision st from command) _ e scoped ∙ bind_step (next_by st command) _ what next in
    let k : placed_command st from command ≡ Ok (after st e, what) = placed_done st from command ∙ ap (done_next st) d in
    bind_step (uncounted st from s) _ (after st e, what) (bind_step (command_of (is_in_reference from) s) _ command shape ∙ k)
