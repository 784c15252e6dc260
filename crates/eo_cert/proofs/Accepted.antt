-- Lines that name what a block holds are accepted.
use Rattle.std.specs.Prelude.{◌≡◌, ℕ, suc, ◌+◌, ◌≤◌, max, Bool, true, false, not, ◌&&◌, nat_eq, nat_le, List, [], ◌∷◌, length, take, Option, Some, None, is_none, option_map, option_and_then, slice_get, refl}
use Rattle.std.specs.Option.{option_or}
use Rattle.std.proofs.Common.{sym, ◌∙◌, ap, subst}
use Rattle.std.proofs.lemmas.Bool.{eq-eqb, le-leb}
use Rattle.std.proofs.lemmas.Option.{none-some, same_Some}
use Rattle.eo_base.proofs.Tests.{join}
use Rattle.eo_base.specs.Checks.{Passed}
use Rattle.eo_base.specs.Limits.{calls_limit}
use Rattle.eo_term.specs.declared.OpCode.{OpCode}
use Rattle.eo_term.specs.Tree.{Tree, Trees, Op, is_tall, is_closed, is_value, tree_eq}
use Rattle.eo_term.proofs.Equality.{tree_decides}
use Rattle.eo_sig.specs.Signature.{Program, Case, program_at}
use Rattle.eo_pattern.specs.Matching.{Assignment, empty, put, matching}
use Rattle.eo_stack.specs.Evaluation.{Call, first_match}
use Rattle.eo_lines.specs.Lines.{EvaluationLine, CallLine, Pairs}
use Rattle.eo_cert.specs.Stated.{Evaluated, Stated, signature, each, if_there, when, term_at, evaluated_at, with_evaluated}
use Rattle.eo_cert.specs.Rules.{By, rule, parts, deepest}
use Rattle.eo_cert.specs.Assignments.{Given, assigned, given, matches_by}
use Rattle.eo_cert.specs.Blocks.{same_outcome, by_all, said, evaluation_line, called, begun_call, ended, call_ends, with_new, with_call, call_line}
use Rattle.eo_cert.specs.Traces.{evaluated}
use Rattle.eo_cert.specs.Accepting.{AcceptsEvaluation, AcceptsCall, EndsUntaken, Taken, EndsTaken}
use Rattle.eo_cert.proofs.InstanceFits.{outcome_same}
use Rattle.eo_cert.proofs.Pairs.{pairs_match}

pub some_step : {A B : Type 0} (m : Option A) (f : A → Option B) (x : A) → m ≡ Some x → option_and_then f m ≡ f x
some_step m f x e = ap (option_and_then f) e

pub when_step : {B : Type 0} (b : Bool) (f : Passed → Option B) → b ≡ true → option_and_then f (when b) ≡ f tt
when_step b f e = ap (λ (x : Bool). option_and_then f (when x)) e

all_used : {A : Type 0} (b : By A) (listed : List Evaluated) (o : Option A) → b listed ≡ Some (o, []) → by_all b listed ≡ Some o
all_used b listed o e = some_step (b listed) _ (o, []) e

module _ (st : Stated) (line : EvaluationLine) (t : Tree) (o : Option Tree) (listed : List Evaluated) (term : term_at st line.term ≡ Some t) (outcome : if_there (term_at st) line.outcome ≡ Some o) (lines : each (evaluated_at st) line.listed ≡ Some listed) (closed : is_closed t ≡ true) where
  said_is : said st line ≡ Some (evaluated t o line.depth, listed)
  said_is =
      some_step (term_at st line.term) _ t term
      ∙ (some_step (if_there (term_at st) line.outcome) _ o outcome
      ∙ (some_step (each (evaluated_at st) line.listed) _ listed lines
      ∙ when_step (is_closed t) _ closed))

  evaluation_accepted : rule (signature st) t listed ≡ Some (o, []) → line.depth ≡ deepest listed → evaluation_line st line ≡ Some (with_evaluated st (evaluated t o line.depth))
  unfolding evaluation_line
  evaluation_accepted is deep =
      some_step (said st line) _ (evaluated t o line.depth, listed) said_is
      ∙ (some_step (by_all (rule (signature st) t) listed) _ o (all_used (rule (signature st) t) listed o is)
      ∙ when_step (same_outcome o o && nat_eq line.depth (deepest listed)) _ (join (outcome_same o o refl) (eq-eqb line.depth (deepest listed) deep)))

  -- a call of this program by these values
  module _ (call : CallLine) (p : ℕ) (ts : Trees) (vs : List Tree) (program : Program) (is_call : t ≡ Op (OpCode.Prog p) ts) (values : parts ts listed ≡ Some (Some vs, [])) (declared : program_at (signature st) p ≡ Some program) where
    x : Call
    x = record { program = p; arguments = vs }

    begun_is : begun_call t listed ≡ Some (record { program = p; arguments = vs })
    begun_is =
        some_step (called t) _ (p, ts) (ap called is_call)
        ∙ some_step (by_all (parts ts) listed) _ (Some vs) (all_used (parts ts) listed (Some vs) values)

    call_accepted : (d : ℕ) → call_ends st program.cases (record { program = p; arguments = vs }) call.taken call.pairs call.body ≡ Some (o, d) → line.depth ≡ max (deepest listed) d → length (with_new st.calls (record { program = p; arguments = vs })) ≤ calls_limit → call_line st line call ≡ Some (with_evaluated (with_call st (record { program = p; arguments = vs })) (evaluated t o line.depth))
    unfolding call_line
    call_accepted d ends deep few =
        some_step (said st line) _ (evaluated t o line.depth, listed) said_is
        ∙ (some_step (begun_call t listed) _ (record { program = p; arguments = vs }) begun_is
        ∙ (some_step (program_at (signature st) p) _ program declared
        ∙ (some_step (call_ends st program.cases (record { program = p; arguments = vs }) call.taken call.pairs call.body) _ (o, d) ends
        ∙ (when_step (same_outcome o o && nat_eq line.depth (max (deepest listed) d)) _ (join (outcome_same o o refl) (eq-eqb line.depth (max (deepest listed) d) deep))
        ∙ when_step (nat_le (length (with_new st.calls (record { program = p; arguments = vs }))) calls_limit) _ (le-leb (length (with_new st.calls (record { program = p; arguments = vs }))) calls_limit few)))))

-- ---- how calls end

-- no case matches
untaken_ends : (st : Stated) (cases : List Case) (c : Call) → first_match cases c.arguments ≡ None → call_ends st cases c None [] None ≡ Some (None, 1)
untaken_ends st cases c none = when_step (is_none (first_match cases c.arguments)) _ (ap is_none none)

-- a case matches by the pairs, and none before it; its body ends so
taken_ends : (st : Stated) (cases : List Case) (c : Call) (n : ℕ) (pairs : Pairs) (body : Option ℕ) (qs : Given) (case : Case) (o : Option Tree) (d : ℕ) → given st pairs ≡ Some qs → slice_get cases n ≡ Some case → first_match (take n cases) c.arguments ≡ None → matches_by qs case.patterns c.arguments ≡ true → is_tall (put (assigned qs) case.body) ≡ false → ended st (put (assigned qs) case.body) body ≡ Some (o, d) → call_ends st cases c (Some n) pairs body ≡ Some (o, 1 + d)
taken_ends st cases c n pairs body qs case o d gives at before matches low end =
    some_step (given st pairs) _ qs gives
    ∙ (some_step (slice_get cases n) _ case at
    ∙ (when_step (is_none (first_match (take n cases) c.arguments) && matches_by qs case.patterns c.arguments) _ (join (ap is_none before) matches)
    ∙ (when_step (not (is_tall (put (assigned qs) case.body))) _ (ap not low)
    ∙ some_step (ended st (put (assigned qs) case.body) body) _ (o, d) end)))

-- a body that is a value, and one that has its line
pub value_ends : (st : Stated) (t : Tree) → is_value t ≡ true → ended st t None ≡ Some (Some t, 0)
value_ends st t h = when_step (is_value t) _ h

pub line_ends : (st : Stated) (t : Tree) (l : ℕ) (e : Evaluated) → evaluated_at st l ≡ Some e → e.term ≡ t → is_value t ≡ false → ended st t (Some l) ≡ Some (e.outcome, e.depth)
line_ends st t l e at term unvalued =
    some_step (evaluated_at st l) _ e at ∙ when_step (not (is_value t) && tree_eq e.term t) _ (join (ap not unvalued) ((tree_decides e.term t).1 term))

pub case_taken : (cases : List Case) (vs : List Tree) (body : Tree) → first_match cases vs ≡ Some body → Taken cases vs body
case_taken [] vs body e = absurd (none-some body e)
case_taken (c ∷ cs) vs body e = by (matching empty c.patterns vs) refl e (case_taken cs vs body)
  where
    by : (o : Option Assignment) → matching empty c.patterns vs ≡ o → option_or (option_map (λ σ. put σ c.body) o) (first_match cs vs) ≡ Some body → (first_match cs vs ≡ Some body → Taken cs vs body) → Taken (c ∷ cs) vs body
    by (Some σ) p q rest = record { number = 0; case = c; at = refl; before = refl; assignment = σ; matches = p; is_body = same_Some (put σ c.body) body q }
    by None p q rest =
        let k = rest q in
        record {
          number = suc k.number;
          case = k.case;
          at = k.at;
          before = ap (λ (o : Option Assignment). option_or (option_map (λ σ. put σ c.body) o) (first_match (take k.number cs) vs)) p ∙ k.before;
          assignment = k.assignment;
          matches = k.matches;
          is_body = k.is_body;
        }

-- ---- as they are stated

pub accepts_evaluation : AcceptsEvaluation
accepts_evaluation st line e listed n is deep =
    evaluation_accepted st line e.term e.outcome listed n.term n.outcome n.lines n.closed is (n.depth ∙ deep)
    ∙ ap (λ (d : ℕ). Some (with_evaluated st (evaluated e.term e.outcome d))) n.depth

pub accepts_call : AcceptsCall
accepts_call st line call e listed x program d n c ends deep =
    call_accepted st line e.term e.outcome listed n.term n.outcome n.lines n.closed call x.program c.arguments x.arguments program c.term c.values c.declared d ends (n.depth ∙ deep) c.few
    ∙ ap (λ (d : ℕ). Some (with_evaluated (with_call st x) (evaluated e.term e.outcome d))) n.depth

pub ends_untaken : EndsUntaken
ends_untaken st cases x none = untaken_ends st cases x none

pub ends_taken : EndsTaken
ends_taken st cases x body is low = (t, by)
  where
    t : Taken cases x.arguments body
    t = case_taken cases x.arguments body is

    by : (pairs : Pairs) (qs : Given) (line : Option ℕ) (o : Option Tree) (d : ℕ) → given st pairs ≡ Some qs → assigned qs ≡ t.assignment → ended st body line ≡ Some (o, d) → call_ends st cases x (Some t.number) pairs line ≡ Some (o, 1 + d)
    by pairs qs line o d gives assigns ends =
        let same : put (assigned qs) t.case.body ≡ body = ap (λ (τ : Assignment). put τ t.case.body) assigns ∙ t.is_body in
        taken_ends st cases x t.number pairs line qs t.case o d gives t.at t.before (pairs_match t.case.patterns x.arguments t.assignment t.matches qs assigns)
        (subst (λ (b : Tree). is_tall b ≡ false) (sym same) low) (ap (λ (b : Tree). ended st b line) same ∙ ends)
