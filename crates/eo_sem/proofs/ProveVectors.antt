-- Whole checks after the suite, and whether their commands use rules that preserve truth alone.
use Rattle.std.specs.Prelude.{◌≡◌, ◌≢◌, refl, ℕ, true, false, List, [], ◌∷◌, ◌++◌, codes, Bool, Option, Some, None, is_some, option_and_then, Ok, Err}
use Rattle.std.proofs.Common.{subst}
use Rattle.std.proofs.lemmas.Option.{none-some, same_Some}
use Rattle.eo_base.specs.Checks.{Checked}
use Rattle.eo_base.specs.declared.FaultName.{FaultName}
use Rattle.eo_base.specs.declared.FaultName.TheVariants.{NotSemantic, ProofDeclares}
use Rattle.eo_cpc.specs.Suite.{suite}
use Rattle.eo_io.specs.Library.{Files}
use Rattle.eo_run.proofs.Computed.{computed}
use Rattle.eo_run.specs.Check.{checked}
use Rattle.eo_run.specs.Run.{Ran, commands_of}
use Rattle.eo_run.specs.Seen.{noted}
use Rattle.eo_run.specs.Verdict.{Verdict, Correct, Refused}
use Rattle.eo_sem.proofs.Accepted.{after_all, IfThere, then_there, all_there}
use Rattle.eo_sem.specs.Proving.{ProveVerdict, Valid, Other, prove_run, prove}
use Rattle.eo_sem.specs.Reached.{ReachedBy, is_first, begins, accepts}
use Rattle.eo_sem.specs.SemanticRules.{is_semantic}
use Rattle.eo_sem.specs.Suite.{suite_state}
use Rattle.eo_session.specs.Decisions.{scoped_decision, placed_decision}
use Rattle.eo_session.specs.Origin.{Origin}
use Rattle.eo_session.specs.Origin as origin
use Rattle.eo_session.specs.State.{State, begin_reference}
use Rattle.eo_sexp.specs.Texts.{Reads}

-- ---- what the files lead to by rules that preserve truth

abbrev begun : Checked State → Option State
begun (Ok st) = Some st
begun (Err fault) = None

abbrev after_reference : (reference : List ℕ) → Option State
after_reference reference =
    option_and_then (after_all origin.Reference (commands_of false reference)) (begun (begin_reference suite_state))

-- after the suite, a reference file and a proof
abbrev after_files : (reference proof : List ℕ) → Option State
after_files reference proof = option_and_then (after_all origin.Proof (commands_of true proof)) (after_reference reference)

abbrev Reached : State → Type 0
Reached = ReachedBy is_semantic suite_state

begun_there : (m : Checked State) → ((st : State) → m ≡ Ok st → Reached st) → IfThere Reached (begun m)
begun_there (Ok st) h new e = subst Reached (same_Some st new e) (h st refl)
begun_there (Err fault) h new e = absurd (none-some new e)

file_there : (from : Origin) → from ≢ origin.Signature → (reads : Reads) (st : State) → Reached st → IfThere Reached (after_all from reads st)
file_there from other = all_there Reached from (λ st s r h may e. accepts from s r.1 h other may e)

-- what they lead to is reached
files_there : (reference proof : List ℕ) → IfThere Reached (after_files reference proof)
files_there reference proof =
    then_there Reached (after_reference reference) (after_all origin.Proof (commands_of true proof))
    (then_there Reached (begun (begin_reference suite_state)) (after_all origin.Reference (commands_of false reference))
    (begun_there (begin_reference suite_state) (λ st e. begins is_first e)) (file_there origin.Reference (λ e. cc e) (commands_of false reference)))
    (file_there origin.Proof (λ e. cc e) (commands_of true proof))

-- ---- checks

abbrev lines : List (List ℕ) → List ℕ
lines [] = []
lines (line ∷ rest) = line ++ 10 ∷ lines rest

abbrev files : (reference proof : List ℕ) → Files
files reference proof = (codes "r.smt2", reference) ∷ (codes "p.eo", proof) ∷ []

abbrev ran : (reference proof : List ℕ) → Ran
ran reference proof = prove_run (files reference proof) (codes "r.smt2") (codes "p.eo")

abbrev verdict : (reference proof : List ℕ) → Verdict
verdict reference proof = checked (files reference proof) (codes "p.eo") (ran reference proof)

abbrev said : (reference proof : List ℕ) → ProveVerdict
said reference proof = prove (files reference proof) (codes "r.smt2") (codes "p.eo")

-- whether each command uses no rule or one that keeps truth, so that the state after them is reached by such rules
abbrev is_semantic_proof : (reference proof : List ℕ) → Bool
is_semantic_proof reference proof = is_some (after_files reference proof)

abbrev fault : Verdict → Option (FaultName × ℕ × ℕ)
fault (Refused r) = Some (r.name, r.line, r.offset)
fault v = None

-- ---- proofs

abbrev contradiction : List ℕ
contradiction =
    lines (codes "(set-logic QF_UF)" ∷ codes "(set-info :smt-lib-version 2.6)" ∷ codes "(declare-const p Bool)" ∷ codes "(assert p)" ∷ codes "(assert (not p))" ∷ codes "(check-sat)" ∷ [])

abbrev contradicting : List ℕ
contradicting =
    lines (codes "unsat" ∷ codes "(" ∷ codes "(declare-const p Bool)" ∷ codes "(define @t1 () (not p))" ∷ codes "(assume @p1 p)" ∷ codes "(assume @p2 @t1)" ∷ codes "(step @p3 false :rule contra :premises (@p1 @p2))" ∷ codes ")" ∷ [])

contradicted : verdict contradiction contradicting ≡ Correct
unfolding computed suite suite_state prove_run
contradicted = refl

contradicted_by_semantic : is_semantic_proof contradiction contradicting ≡ true
unfolding computed suite_state
contradicted_by_semantic = refl

abbrev clauses : List ℕ
clauses =
    lines (codes "(declare-const p Bool)" ∷ codes "(declare-const q Bool)" ∷ codes "(assert (or p q))" ∷ codes "(assert (not p))" ∷ codes "(assert (not q))" ∷ [])

abbrev assumed : List (List ℕ)
assumed = codes "(assume @p1 (or p q))" ∷ codes "(assume @p2 (not p))" ∷ codes "(assume @p3 (not q))" ∷ []

abbrev resolving : List ℕ
resolving =
    lines (assumed ++ (codes "(step @p4 q :rule resolution :premises (@p1 @p2) :args (true p))" ∷ codes "(step @p5 false :rule resolution :premises (@p4 @p3) :args (true q))" ∷ []))

resolved : verdict clauses resolving ≡ Correct
unfolding computed suite suite_state prove_run
resolved = refl

resolved_by_semantic : is_semantic_proof clauses resolving ≡ true
unfolding computed suite_state
resolved_by_semantic = refl

-- a correct check by a rule that is none of those that preserve truth
abbrev chaining : List ℕ
chaining =
    lines (assumed ++ codes "(step @p4 false :rule chain_resolution :premises (@p1 @p2 @p3) :args ((@list true true) (@list p q)))" ∷ [])

chained : verdict clauses chaining ≡ Correct
unfolding computed suite suite_state prove_run
chained = refl

chained_by_other : is_semantic_proof clauses chaining ≡ false
unfolding computed suite_state
chained_by_other = refl

-- a proof that declares a rule of its own
abbrev one_assertion : List ℕ
one_assertion =
    lines (codes "(declare-const p Bool)" ∷ codes "(declare-const q Bool)" ∷ codes "(declare-const r Bool)" ∷ codes "(assert p)" ∷ [])

abbrev declaring : List ℕ
declaring =
    lines (codes "(declare-rule bad () :args () :conclusion false)" ∷ codes "(step @p1 false :rule bad)" ∷ [])

declared : fault (verdict one_assertion declaring) ≡ Some (ProofDeclares, 1, 0)
unfolding computed suite prove_run
declared = refl

-- a scope
abbrev implications : List ℕ
implications =
    lines (codes "(declare-const p Bool)" ∷ codes "(declare-const q Bool)" ∷ codes "(assert p)" ∷ codes "(assert (= p q))" ∷ codes "(assert (not (=> q q)))" ∷ [])

abbrev discharging : List ℕ
discharging =
    lines (codes "(assume-push @h q)" ∷ codes "(step-pop @i :rule scope :premises (@h))" ∷ codes "(assume @n (not (=> q q)))" ∷ codes "(step @f false :rule contra :premises (@i @n))" ∷ [])

discharged : verdict implications discharging ≡ Correct
unfolding computed suite suite_state prove_run
discharged = refl

discharged_by_semantic : is_semantic_proof implications discharging ≡ true
unfolding computed suite_state
discharged_by_semantic = refl

-- ---- what is said

contradiction_said : said contradiction contradicting ≡ Valid
unfolding computed suite prove prove_run noted scoped_decision placed_decision
contradiction_said = refl

discharged_said : said implications discharging ≡ Valid
unfolding computed suite prove prove_run noted scoped_decision placed_decision
discharged_said = refl

chained_said : said clauses chaining ≡ Other (Refused (record { name = NotSemantic; file = codes "p.eo"; line = 4; offset = 64 }))
unfolding computed suite prove prove_run noted scoped_decision placed_decision
chained_said = refl
