-- A command that ends its file is one of a reference file.
use Rattle.std.specs.Prelude.{◌≡◌, ℕ, Bool, true, false, if◌then◌else◌, List, [], ◌∷◌, Option, Some, None, Ok, refl, bytes_eq, option_map, option_and_then, ⊤}
use Rattle.std.proofs.Common.{sym, ◌∙◌, subst, true≢false}
use Rattle.std.proofs.lemmas.Option.{none-some, same_Some}
use Rattle.eo_base.proofs.ChecksLemmas.{ok_injective, err_is_not_ok, bind_ok, value_or_ok}
use Rattle.eo_base.specs.declared.FaultName.TheVariants.{BadCommand, UnknownCommand}
use Rattle.eo_session.specs.Origin.{Origin}
use Rattle.eo_session.specs.Origin as origin
use Rattle.eo_run.specs.Run.{is_exit}
use Rattle.eo_session.specs.State.{State, with_command}
use Rattle.eo_session.specs.Step.{is_in_reference}
use Rattle.eo_session.specs.Commands.{path_of, reference_path, next_by, scoped_command, placed_command, uncounted, step}
use Rattle.eo_session.specs.declared.Next.{Next}
use Rattle.eo_session.specs.declared.Next.TheVariants as next
use Rattle.eo_sexp.specs.AtomKind as kind
use Rattle.eo_sexp.specs.Sexp as sexp
use Rattle.eo_sexp.specs.Sexp.{Sexp, Atom, Listed, children_of}
use Rattle.eo_shape.specs.Words.{symbol_of, string_of}
use Rattle.eo_shape.specs.Shapes as shapes
use Rattle.eo_shape.specs.Shapes.{ParameterShape, StepShape, Command, DeclareConst, DeclareFun, DeclareSort, DeclareParameterized, DeclareLiterals, Define, DeclareRule, Assume, AssumePush, Step, StepPop, Include, Refer, Exit, Form, forms, form_of, command_of}

-- ---- what a form of signatures and proofs gives is no `exit`

abbrev is_leaving : Command → Bool
is_leaving Exit = true
is_leaving command = false

abbrev Stays : Option Command → Type 0
Stays None = ⊤
Stays (Some command) = is_leaving command ≡ false

abbrev StaysForm : (List Sexp → Option Command) → Type 0
StaysForm shape = (ss : List Sexp) → Stays (shape ss)

stays-map : {A : Type 0} (f : A → Command) (o : Option A) → ((x : A) → is_leaving (f x) ≡ false) → Stays (option_map f o)
stays-map f None h = tt
stays-map f (Some x) h = h x

stays-then : {A : Type 0} (f : A → Option Command) (o : Option A) → ((x : A) → Stays (f x)) → Stays (option_and_then f o)
stays-then f None h = tt
stays-then f (Some x) h = h x

stays-if : (b : Bool) (o : Option Command) → Stays o → Stays (if b then o else None)
stays-if true o h = h
stays-if false o h = tt

declare_const : StaysForm shapes.declare_const
declare_const (s ∷ t ∷ rest) = stays-then _ (symbol_of s) (λ name. stays-map (DeclareConst name t) (shapes.attribute_of rest) (λ a. refl))
declare_const ss = tt

declare_fun : StaysForm shapes.declare_fun
declare_fun (s ∷ inputs ∷ output ∷ []) = stays-then _ (symbol_of s) (λ name. stays-map (λ ts. DeclareFun name ts output) (shapes.list_of inputs) (λ ts. refl))
declare_fun ss = tt

declare_sort : StaysForm shapes.declare_sort
declare_sort (s ∷ n ∷ []) = stays-then _ (symbol_of s) (λ name. stays-map (DeclareSort name) (shapes.arity_of n) (λ k. refl))
declare_sort ss = tt

declare_parameterized : StaysForm shapes.declare_parameterized
declare_parameterized (s ∷ ps ∷ t ∷ rest) = stays-then _ (symbol_of s) (λ name. stays-then _ (shapes.parameters_of ps) (λ parameters. stays-map (DeclareParameterized name parameters t) (shapes.attribute_of rest) (λ a. refl)))
declare_parameterized ss = tt

declare_literals : StaysForm shapes.declare_literals
declare_literals (c ∷ t ∷ []) = stays-map (λ class. DeclareLiterals class t) (option_and_then shapes.class_named (symbol_of c)) (λ class. refl)
declare_literals ss = tt

define : StaysForm shapes.define
define (s ∷ ps ∷ body ∷ []) = stays-then _ (symbol_of s) (λ name. stays-map (λ parameters. Define name parameters body) (shapes.parameters_of ps) (λ parameters. refl))
define ss = tt

program_with : (name : List ℕ) (parameters : List ParameterShape) → StaysForm (shapes.program_with name parameters)
program_with name parameters (inputs ∷ output ∷ cases ∷ []) = stays-then _ (shapes.inputs_of inputs) (λ ts. stays-map _ (shapes.cases_of name cases) (λ cs. refl))
program_with name parameters ss = tt

define_program : StaysForm shapes.define_program
define_program (s ∷ ps ∷ k ∷ rest) = stays-then _ (symbol_of s) (λ name. stays-then _ (shapes.parameters_of ps) (λ parameters. stays-if _ (shapes.program_with name parameters rest) (program_with name parameters rest)))
define_program ss = tt

declare_rule : StaysForm shapes.declare_rule
declare_rule (s ∷ ps ∷ parts) = stays-then _ (symbol_of s) (λ name. stays-then _ (shapes.parameters_of ps) (λ parameters. stays-map DeclareRule (shapes.rule_of name parameters parts) (λ rule. refl)))
declare_rule ss = tt

named_formula : (command : List ℕ → Sexp → Command) → ((name : List ℕ) (s : Sexp) → is_leaving (command name s) ≡ false) → StaysForm (shapes.named_formula command)
named_formula command h (s ∷ t ∷ []) = stays-map (λ name. command name t) (symbol_of s) (λ name. h name t)
named_formula command h ss = tt

one_string : (command : List ℕ → Command) → ((path : List ℕ) → is_leaving (command path) ≡ false) → StaysForm (shapes.one_string command)
one_string command h (s ∷ []) = stays-map command (string_of s) h
one_string command h ss = tt

step_form : (command : StepShape → Command) → ((s : StepShape) → is_leaving (command s) ≡ false) → StaysForm (shapes.step command)
step_form command h ss = stays-map command (shapes.step_of ss) h

-- ---- by its word

abbrev AllStay : List Form → Type 0
AllStay [] = ⊤
AllStay (f ∷ fs) = StaysForm f.1 × AllStay fs

all_stay : AllStay forms
all_stay =
    (declare_const, (declare_fun, (declare_sort, (declare_parameterized, (declare_literals, (define, (define_program, (declare_rule, (one_string Include (λ path. refl), (one_string Refer (λ path. refl), (named_formula Assume (λ name s. refl), (named_formula AssumePush (λ name s. refl), (step_form Step (λ s. refl), (step_form StepPop (λ s. refl), tt))))))))))))))

by_word : (b : Bool) (f : List Sexp → Option Command) (o : Option (List Sexp → Option Command)) (shape : List Sexp → Option Command) → StaysForm f → (o ≡ Some shape → StaysForm shape) → (if b then Some f else o) ≡ Some shape → StaysForm shape
by_word true f o shape h onward e = subst StaysForm (same_Some f shape e) h
by_word false f o shape h onward e = onward e

form_stays : (fs : List Form) → AllStay fs → (word : List ℕ) (shape : List Sexp → Option Command) → form_of fs word ≡ Some shape → StaysForm shape
form_stays [] h word shape e = absurd (none-some shape e)
form_stays (f ∷ fs) h word shape e = by_word (bytes_eq f.0 word) f.1 (form_of fs word) shape h.0 (form_stays fs h.1 word shape) e

command_stays : (s : Sexp) (command : Command) → command_of false s ≡ Ok command → is_leaving command ≡ false
unfolding command_of
command_stays (Listed (sexp.Next (Atom kind.Symbol word at) parts) span) command e =
    let shape = bind_ok _ _ command e in
    let stays : Stays (shape.0 (children_of parts)) = form_stays forms all_stay word shape.0 (value_or_ok UnknownCommand (form_of forms word) shape.0 shape.1) (children_of parts) in
    subst Stays (value_or_ok BadCommand (shape.0 (children_of parts)) command shape.2) stays
command_stays s command e = absurd (err_is_not_ok BadCommand command e)

-- ---- what is done after it

next_stays : (st : State) (command : Command) (what : Next) → is_leaving command ≡ false → next_by st command ≡ Ok what → is_exit what ≡ false
unfolding next_by
next_stays st (Include written) what h e =
    let path = bind_ok (path_of written) _ what e in subst (λ (n : Next). is_exit n ≡ false) (ok_injective (next.Include path.0) what path.2) refl
next_stays st (Refer written) what h e =
    let path = bind_ok (reference_path st written) _ what e in subst (λ (n : Next). is_exit n ≡ false) (ok_injective (next.Reference path.0) what path.2) refl
next_stays st Exit what h e = absurd (true≢false h)
next_stays st command what h e = subst (λ (n : Next). is_exit n ≡ false) (ok_injective next.Done what e) refl

step_stays : (st : State) (from : Origin) (s : Sexp) (new : State) (what : Next) → is_in_reference from ≡ false → step st from s ≡ Ok (new, what) → is_exit what ≡ false
unfolding step uncounted placed_command
step_stays st from s new what in_other e =
    let r = bind_ok (uncounted st from s) _ (new, what) e in
    let command = bind_ok (command_of (is_in_reference from) s) _ r.0 r.1 in
    let done = bind_ok (scoped_command st from command.0) _ r.0 command.2 in
    let asked = bind_ok (next_by done.0 command.0) _ r.0 done.2 in
    let stays = command_stays s command.0 (subst (λ (b : Bool). command_of b s ≡ Ok command.0) in_other command.1) in
    subst (λ (x : State × Next). is_exit x.1 ≡ false) (ok_injective (with_command r.0.0, r.0.1) (new, what) r.2)
    (subst (λ (x : State × Next). is_exit x.1 ≡ false) (ok_injective (done.0, asked.0) r.0 asked.2) (next_stays done.0 command.0 asked.0 stays asked.1))

pub step_leaves : (st : State) (from : Origin) (s : Sexp) (new : State) (what : Next) → step st from s ≡ Ok (new, what) → is_exit what ≡ true → from ≡ origin.Reference
step_leaves st origin.Signature s new what e h = absurd (true≢false (sym h ∙ step_stays st origin.Signature s new what refl e))
step_leaves st origin.Proof s new what e h = absurd (true≢false (sym h ∙ step_stays st origin.Proof s new what refl e))
step_leaves st origin.Reference s new what e h = refl
