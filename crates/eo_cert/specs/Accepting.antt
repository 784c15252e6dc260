-- Lines that name what a block or an instance of a rule holds.
use Rattle.std.specs.Prelude.{◌≡◌, ℕ, ◌+◌, ◌≤◌, max, true, false, List, [], Option, Some, None, length, take, slice_get}
use Rattle.std.specs.List.{list_all}
use Rattle.eo_base.specs.Limits.{calls_limit, open_calls_limit}
use Rattle.eo_term.specs.declared.OpCode.{OpCode}
use Rattle.eo_term.specs.Tree.{Tree, Trees, Op, is_closed, is_tall, is_value}
use Rattle.eo_sig.specs.Signature.{Case, Program, Rule, program_at, rule_at}
use Rattle.eo_sig.specs.Usable.{IsUsable}
use Rattle.eo_pattern.specs.Matching.{Assignment, empty, matching, put}
use Rattle.eo_rule.specs.Instance.{IsInstance, guarded_conclusion}
use Rattle.eo_stack.specs.Evaluation.{Call, first_match}
use Rattle.eo_lines.specs.Lines.{EvaluationLine, CallLine, Pairs, StepLine}
use Rattle.eo_cert.specs.Stated.{Evaluated, Stated, signature, each, if_there, term_at, terms_at, evaluated_at, with_evaluated, with_derivation, without_block}
use Rattle.eo_cert.specs.Rules.{rule, parts, deepest}
use Rattle.eo_cert.specs.Assignments.{Given, assigned, given}
use Rattle.eo_cert.specs.Blocks.{ended, call_ends, evaluation_line, call_line, with_call, with_new}
use Rattle.eo_cert.specs.Uses.{Place, place_of, premise, step_line}

-- ---- evaluations

-- the line names the evaluation, which is of a closed tree, and those that it lists
pub record NamesEvaluation (st : Stated) (line : EvaluationLine) (e : Evaluated) (listed : List Evaluated) : Type 0 where
  pub term : term_at st line.term ≡ Some e.term
  pub outcome : if_there (term_at st) line.outcome ≡ Some e.outcome
  pub depth : line.depth ≡ e.depth
  pub lines : each (evaluated_at st) line.listed ≡ Some listed
  pub closed : is_closed e.term ≡ true

-- an evaluation that begins no call
abbrev pub AcceptsEvaluation : Type 0
AcceptsEvaluation =
    (st : Stated) (line : EvaluationLine) (e : Evaluated) (listed : List Evaluated) → NamesEvaluation st line e listed →
    rule (signature st) e.term listed ≡ Some (e.outcome, []) → e.depth ≡ deepest listed →
    evaluation_line st line ≡ Some (with_evaluated st e)

-- the evaluation is of this call, with these values of its arguments
pub record IsCall (st : Stated) (e : Evaluated) (listed : List Evaluated) (x : Call) (program : Program) : Type 0 where
  pub arguments : Trees
  pub term : e.term ≡ Op (OpCode.Prog x.program) arguments
  pub values : parts arguments listed ≡ Some (Some x.arguments, [])
  pub declared : program_at (signature st) x.program ≡ Some program
  pub few : length (with_new st.calls x) ≤ calls_limit

-- a call that ends so
abbrev pub AcceptsCall : Type 0
AcceptsCall =
    (st : Stated) (line : EvaluationLine) (call : CallLine) (e : Evaluated) (listed : List Evaluated) (x : Call) (program : Program) (d : ℕ) →
    NamesEvaluation st line e listed → IsCall st e listed x program →
    call_ends st program.cases x call.taken call.pairs call.body ≡ Some (e.outcome, d) → e.depth ≡ max (deepest listed) d →
    call_line st line call ≡ Some (with_evaluated (with_call st x) e)

-- ---- how calls end

-- no case matches
abbrev pub EndsUntaken : Type 0
EndsUntaken =
    (st : Stated) (cases : List Case) (x : Call) → first_match cases x.arguments ≡ None →
    call_ends st cases x None [] None ≡ Some (None, 1)

-- the first case that matches, and its body
pub record Taken (cases : List Case) (vs : List Tree) (body : Tree) : Type 0 where
  pub number : ℕ
  pub case : Case
  pub at : slice_get cases number ≡ Some case
  pub before : first_match (take number cases) vs ≡ None
  pub assignment : Assignment
  pub matches : matching empty case.patterns vs ≡ Some assignment
  pub is_body : put assignment case.body ≡ body

-- that case is taken, by any pairs that give its assignment
abbrev pub EndsTaken : Type 0
EndsTaken =
    (st : Stated) (cases : List Case) (x : Call) (body : Tree) → first_match cases x.arguments ≡ Some body → is_tall body ≡ false →
    (t : Taken cases x.arguments body)
    × ((pairs : Pairs) (qs : Given) (line : Option ℕ) (o : Option Tree) (d : ℕ) → given st pairs ≡ Some qs → assigned qs ≡ t.assignment →
    ended st body line ≡ Some (o, d) → call_ends st cases x (Some t.number) pairs line ≡ Some (o, 1 + d))

-- ---- uses of rules

-- The line names a use of a rule that is not marked as unproved, whose arguments are values, and the evaluation of the guarded conclusion.
pub record NamesStep (st : Stated) (line : StepLine) (r : Rule) (place : Place) (premises arguments : List Tree) (σ : Assignment) (formula : Tree) : Type 0 where
  pub is_place : place_of st line.context line.inner ≡ Some place
  pub is_rule : rule_at (signature st) line.rule ≡ Some r
  pub proved : r.sorry ≡ false
  pub are_premises : each (premise st place) line.premises ≡ Some premises
  pub are_arguments : terms_at st line.arguments ≡ Some arguments
  pub values : list_all is_value arguments ≡ true
  pub pairs : Given
  pub are_pairs : given st line.pairs ≡ Some pairs
  pub assigns : assigned pairs ≡ σ
  pub is_guarded : term_at st line.guarded ≡ Some (put σ (guarded_conclusion r))
  pub is_formula : term_at st line.formula ≡ Some formula
  pub depth : ℕ
  pub ends : ended st (put σ (guarded_conclusion r)) line.line ≡ Some (Some formula, depth)
  pub shallow : depth ≤ open_calls_limit

-- an instance of the rule
abbrev pub AcceptsStep : Type 0
AcceptsStep =
    (st : Stated) (line : StepLine) (r : Rule) (place : Place) (premises arguments : List Tree) (σ : Assignment) (formula : Tree) →
    IsUsable (signature st) → NamesStep st line r place premises arguments σ formula →
    IsInstance (signature st) r place.hypothesis premises arguments formula σ →
    step_line st line ≡ Some (without_block (with_derivation st line.context formula))
