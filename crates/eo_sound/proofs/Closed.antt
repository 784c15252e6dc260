-- In a closed session a proof declares no program and no rule.
use Rattle.std.specs.Prelude.{◌≡◌, ◌≢◌, ℕ, Bool, true, false, not, ◌&&◌, if◌then◌else◌, List, [], ◌∷◌, Option, Some, None, Ok, refl, bytes_eq, option_map, option_and_then}
use Rattle.std.proofs.Common.{sym, subst, true≢false}
use Rattle.std.proofs.lemmas.Option.{none-some, same_Some}
use Rattle.eo_base.proofs.ChecksLemmas.{ok_injective, err_is_not_ok, bind_ok, require_then, value_or_ok}
use Rattle.eo_base.specs.declared.FaultName.TheVariants.{BadCommand, UnknownCommand}
use Rattle.eo_sound.proofs.Quiet.{declares_rules, quiet_command, command_closed}
use Rattle.eo_session.specs.Origin.{Origin}
use Rattle.eo_session.specs.Origin as origin
use Rattle.eo_sound.specs.Quiet.{IsQuiet}
use Rattle.eo_session.specs.State.{State, with_command}
use Rattle.eo_session.specs.Step.{is_in_reference, define_program, declare_rule}
use Rattle.eo_session.specs.Commands.{by_command, scoped_command, placed_command, uncounted, step}
use Rattle.eo_session.specs.declared.Next.{Next}
use Rattle.eo_sexp.specs.AtomKind as kind
use Rattle.eo_sexp.specs.Sexp as sexp
use Rattle.eo_sexp.specs.Sexp.{Sexp, Atom, Listed, children_of}
use Rattle.eo_shape.specs.Shapes as shapes
use Rattle.eo_shape.specs.Words.{symbol_of}
use Rattle.eo_shape.specs.Shapes.{ProgramShape, RuleShape, Command, DeclareConst, DeclareFun, DeclareSort, DefineProgram, DeclareRule, DefineFun, DefineSort, Assert, Exit, Skip, Form, skipped, skipping_forms, reference_forms, form_of, command_of}

-- ---- a reference file has no command that declares a program or a rule

abbrev Quiet : Option Command → Type 0
Quiet o = (c : Command) → o ≡ Some c → declares_rules c ≡ false

abbrev QuietForm : (List Sexp → Option Command) → Type 0
QuietForm shape = (ss : List Sexp) → Quiet (shape ss)

abbrev AllQuiet : List Form → Type 0
AllQuiet [] = Unit {0}
AllQuiet (f ∷ fs) = QuietForm f.1 × AllQuiet fs

quiet_some : (command : Command) → declares_rules command ≡ false → Quiet (Some command)
quiet_some command h c e = subst (λ (x : Command). declares_rules x ≡ false) (same_Some command c e) h

quiet_none : Quiet None
quiet_none c e = absurd (none-some c e)

quiet_map : {A : Type 0} (f : A → Command) → ((x : A) → declares_rules (f x) ≡ false) → (o : Option A) → Quiet (option_map f o)
quiet_map f h (Some x) = quiet_some (f x) (h x)
quiet_map f h None = quiet_none

quiet_then : {A : Type 0} (f : A → Option Command) → ((x : A) → Quiet (f x)) → (o : Option A) → Quiet (option_and_then f o)
quiet_then f h (Some x) = h x
quiet_then f h None = quiet_none

const_form : QuietForm shapes.declare_const
const_form [] = quiet_none
const_form (s ∷ []) = quiet_none
const_form (s ∷ t ∷ rest) =
    quiet_then _ (λ name. quiet_map (DeclareConst name t) (λ a. refl) (shapes.attribute_of rest)) (symbol_of s)

declare_fun_form : QuietForm shapes.declare_fun
declare_fun_form (s ∷ inputs ∷ output ∷ []) =
    quiet_then _ (λ name. quiet_map (λ ts. DeclareFun name ts output) (λ ts. refl) (shapes.list_of inputs)) (symbol_of s)
declare_fun_form [] = quiet_none
declare_fun_form (s ∷ []) = quiet_none
declare_fun_form (s ∷ inputs ∷ []) = quiet_none
declare_fun_form (s ∷ inputs ∷ output ∷ t ∷ ss) = quiet_none

declare_sort_form : QuietForm shapes.declare_sort
declare_sort_form (s ∷ n ∷ []) = quiet_then _ (λ name. quiet_map (DeclareSort name) (λ k. refl) (shapes.arity_of n)) (symbol_of s)
declare_sort_form [] = quiet_none
declare_sort_form (s ∷ []) = quiet_none
declare_sort_form (s ∷ n ∷ t ∷ ss) = quiet_none

plain_form : QuietForm shapes.declare_plain
plain_form [] = quiet_none
plain_form (s ∷ []) = quiet_none
plain_form (s ∷ t ∷ []) = const_form (s ∷ t ∷ [])
plain_form (s ∷ t ∷ u ∷ ss) = quiet_none

fun_form : QuietForm shapes.define_fun
fun_form (s ∷ ps ∷ output ∷ body ∷ []) =
    quiet_then _ (λ name. quiet_map (λ parameters. DefineFun name parameters output body) (λ parameters. refl) (shapes.unmarked_of ps)) (symbol_of s)
fun_form [] = quiet_none
fun_form (s ∷ []) = quiet_none
fun_form (s ∷ ps ∷ []) = quiet_none
fun_form (s ∷ ps ∷ output ∷ []) = quiet_none
fun_form (s ∷ ps ∷ output ∷ body ∷ t ∷ ss) = quiet_none

sort_form : QuietForm shapes.define_sort
sort_form (s ∷ ps ∷ t ∷ []) =
    quiet_then _ (λ name. quiet_map (λ parameters. DefineSort name parameters t) (λ parameters. refl) (shapes.symbols_of ps)) (symbol_of s)
sort_form [] = quiet_none
sort_form (s ∷ []) = quiet_none
sort_form (s ∷ ps ∷ []) = quiet_none
sort_form (s ∷ ps ∷ t ∷ u ∷ ss) = quiet_none

assert_form : QuietForm shapes.assert
assert_form [] = quiet_none
assert_form (t ∷ []) = quiet_some (Assert t) refl
assert_form (t ∷ s ∷ ss) = quiet_none

exit_form : QuietForm shapes.exit
exit_form [] = quiet_some Exit refl
exit_form (s ∷ ss) = quiet_none

skip_forms : (words : List (List ℕ)) → AllQuiet (skipping_forms words)
skip_forms [] = tt
skip_forms (word ∷ words) = ((λ ss. quiet_some Skip refl), skip_forms words)

reference_forms_quiet : AllQuiet reference_forms
reference_forms_quiet = (plain_form, (declare_fun_form, (declare_sort_form, (fun_form, (sort_form, (assert_form, (exit_form, skip_forms skipped)))))))

by_word : (b : Bool) (f : List Sexp → Option Command) (o : Option (List Sexp → Option Command)) (shape : List Sexp → Option Command) → QuietForm f → (o ≡ Some shape → QuietForm shape) → (if b then Some f else o) ≡ Some shape → QuietForm shape
by_word true f o shape q onward e = subst QuietForm (same_Some f shape e) q
by_word false f o shape q onward e = onward e

form_quiet : (fs : List Form) → AllQuiet fs → (word : List ℕ) (shape : List Sexp → Option Command) → form_of fs word ≡ Some shape → QuietForm shape
form_quiet [] q word shape e = absurd (none-some shape e)
form_quiet (f ∷ fs) q word shape e = by_word (bytes_eq f.0 word) f.1 (form_of fs word) shape q.0 (form_quiet fs q.1 word shape) e

reference_quiet : (s : Sexp) (command : Command) → command_of true s ≡ Ok command → declares_rules command ≡ false
unfolding command_of
reference_quiet (Listed (sexp.Next (Atom kind.Symbol word at) parts) span) command e =
    let shape = bind_ok _ _ command e in
    form_quiet reference_forms reference_forms_quiet word shape.0 (value_or_ok UnknownCommand (form_of reference_forms word) shape.0 shape.1) (children_of parts) command (value_or_ok BadCommand (shape.0 (children_of parts)) command shape.2)
reference_quiet s command e = absurd (err_is_not_ok BadCommand command e)

-- ---- a closed proof

-- a closed proof declares none
closed_declares : (closed : Bool) → closed ≡ true → not (closed && true) ≡ true → ⊥
closed_declares true c e = true≢false (sym e)
closed_declares false c e = true≢false (sym c)

module _ (st : State) (closed : st.closed ≡ true) where
  program_none : (shape : ProgramShape) (new : State) → define_program st origin.Proof shape ≡ Ok new → IsQuiet st new
  unfolding define_program
  program_none shape new e = absurd (closed_declares st.closed closed (require_then _ _ _ new e).0)

  rule_none : (shape : RuleShape) (new : State) → declare_rule st origin.Proof shape ≡ Ok new → IsQuiet st new
  unfolding declare_rule
  rule_none shape new e = absurd (closed_declares st.closed closed (require_then _ _ _ new e).0)

  proof_quiet : (command : Command) (new : State) → by_command st origin.Proof command ≡ Ok new → IsQuiet st new
  proof_quiet (DefineProgram shape) new e = program_none shape new e
  proof_quiet (DeclareRule shape) new e = rule_none shape new e
  proof_quiet command new e = quiet_command st origin.Proof command new refl e

  -- the proof, what it includes, and reference files
  other_quiet : (from : Origin) (command : Command) (new : State) → from ≢ origin.Signature → (from ≡ origin.Reference → declares_rules command ≡ false) → by_command st from command ≡ Ok new → IsQuiet st new
  other_quiet origin.Signature command new other quiet e = absurd (other refl)
  other_quiet origin.Proof command new other quiet e = proof_quiet command new e
  other_quiet origin.Reference command new other quiet e = quiet_command st origin.Reference command new (quiet refl) e

-- ---- commands

counted_quiet : (st new : State) → IsQuiet st new → IsQuiet st (with_command new)
counted_quiet st new q = record { closed = q.closed; programs_stay = q.programs_stay; rules_stay = q.rules_stay; grows = q.grows }

pub step_quiet : (st : State) (from : Origin) (s : Sexp) (r : State × Next) → st.closed ≡ true → from ≢ origin.Signature → step st from s ≡ Ok r → IsQuiet st r.0
unfolding step uncounted placed_command scoped_command
step_quiet st from s r closed other e =
    let k = bind_ok (uncounted st from s) _ r e in
    let command = bind_ok _ _ k.0 k.1 in
    let new = bind_ok _ _ k.0 command.2 in
    let top = require_then _ _ _ new.0 new.1 in
    let what = bind_ok _ _ k.0 new.2 in
    let quiet = λ (same : from ≡ origin.Reference). reference_quiet s command.0 (subst (λ (o : Origin). command_of (is_in_reference o) s ≡ Ok command.0) same command.1) in
    let stays = other_quiet st closed from command.0 new.0 other quiet top.1 in
    let mid = subst (λ (x : State × Next). IsQuiet st x.0) (ok_injective (new.0, what.0) k.0 what.2) stays in
    subst (λ (x : State × Next). IsQuiet st x.0) (ok_injective (with_command k.0.0, k.0.1) r k.2) (counted_quiet st k.0.0 mid)

pub step_closed : (st : State) (from : Origin) (s : Sexp) (r : State × Next) → step st from s ≡ Ok r → r.0.closed ≡ st.closed
unfolding step uncounted placed_command scoped_command
step_closed st from s r e =
    let k = bind_ok (uncounted st from s) _ r e in
    let command = bind_ok _ _ k.0 k.1 in
    let new = bind_ok _ _ k.0 command.2 in
    let top = require_then _ _ _ new.0 new.1 in
    let what = bind_ok _ _ k.0 new.2 in
    let mid = subst (λ (x : State × Next). x.0.closed ≡ st.closed) (ok_injective (new.0, what.0) k.0 what.2) (command_closed st from command.0 new.0 top.1) in
    subst (λ (x : State × Next). x.0.closed ≡ st.closed) (ok_injective (with_command k.0.0, k.0.1) r k.2) mid
