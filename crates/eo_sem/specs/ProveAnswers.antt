-- The result for a proof of validity.
use Rattle.std.specs.Prelude.{◌≡◌, ℕ, Bool, true, false, if◌then◌else◌, nat_lt, List, length, map, Option, Some, None, option_map, IfSome, ⊤}
use Rattle.std.specs.List.{find}
use Rattle.eo_base.specs.declared.FaultName.TheVariants.{NotSemantic}
use Rattle.eo_base.specs.declared.Place.{Place}
use Rattle.eo_io.specs.Library.{Files}
use Rattle.eo_run.specs.Answer.{Answers, AnswerHasCause}
use Rattle.eo_run.specs.Judging.{IsCheckAnswer, IfRun}
use Rattle.eo_run.specs.Verdict as verdict
use Rattle.eo_run.specs.declared.CheckEnd.{CheckEnd}
use Rattle.eo_run.specs.declared.CheckEnd.TheVariants as ends
use Rattle.eo_run.specs.declared.Verdict.TheVariants as answer
use Rattle.eo_sem.specs.Proving.{ProveVerdict, Valid, Other, IsProved, IsRefuted, prove, uses_other}
use Rattle.eo_sem.specs.Suite.{suite_signature}
use Rattle.eo_sem.specs.declared.ProveEnd.{ProveEnd}
use Rattle.eo_sem.specs.declared.ProveEnd.TheVariants as end
use Rattle.eo_session.specs.Notes.{Seen}
use Rattle.eo_sig.specs.Signature.{Rule, rules}

-- The result is the outcome for the files, but for a read fault and for being out of memory.
abbrev pub Proves : List (List ℕ) → ProveEnd → ProveVerdict → Type 0
Proves paths end.Valid said = said ≡ Valid
Proves paths (end.Other v) said = IfRun v ((of : verdict.Verdict) × (said ≡ Other of) × Answers paths v of)

-- where files are known
abbrev pub AnswersProve : Option Files → (reference proof : List ℕ) → List (List ℕ) → ProveEnd → Type 0
AnswersProve told reference proof paths r = IfSome told (λ files. Proves paths r (prove files reference proof))

-- `Valid` says that the check is correct by rules that preserve truth alone, and that no valuation makes all assertions true.
abbrev pub ValidRefutes : Option Files → (reference proof : List ℕ) → ProveEnd → Type 0
ValidRefutes told reference proof end.Valid = IfSome told (λ files. IsProved files reference proof × IsRefuted files reference proof)
ValidRefutes told reference proof (end.Other v) = ⊤

abbrev pub ProveHasCause : {F : Type 0} → ProveEnd → Option F → (before now : ℕ) → Type 0
ProveHasCause end.Valid told before now = ⊤
ProveHasCause (end.Other v) told before now = AnswerHasCause v told before now

-- A result of a check that is not correct, or `Valid`. The file of a refusal is one of the paths.
abbrev pub IsProveAnswer : List (List ℕ) → ProveEnd → Type 0
IsProveAnswer paths end.Valid = ⊤
IsProveAnswer paths (end.Other answer.Correct) = ⊥
IsProveAnswer paths (end.Other v) = IsCheckAnswer paths v

-- ---- what is observed

-- the names of the suite's rules, in order
abbrev pub rule_names : List (List ℕ)
rule_names = map (λ (r : Rule). r.name) (rules suite_signature)

-- the place of the first command that is a step by a rule of the suite that does not preserve truth
abbrev pub other_place : List Seen → Option Place
other_place seen = option_map (λ (m : Seen). m.place) (find (λ (m : Seen). uses_other suite_signature m.act) seen)

-- before a command at this place, and after it
abbrev pub with_place : Option Place → Place → (is_other : Bool) → Option Place
with_place (Some first) place is_other = Some first
with_place None place true = Some place
with_place None place false = None

-- the place of such a command where its file is one of the paths, and else the end of the proof
abbrev pub placed_in : List (List ℕ) → (last place : Place) → Place
placed_in paths last place = if nat_lt place.file (length paths) then place else last

abbrev pub refused_at : Place → ProveEnd
refused_at place = end.Other (answer.Refused (record { name = NotSemantic; place = place }))

abbrev pub end_at : List (List ℕ) → (last : Place) → Option Place → ProveEnd
end_at paths last None = end.Valid
end_at paths last (Some place) = refused_at (placed_in paths last place)

-- what is returned by how the check ends, and by that place
abbrev pub end_by : List (List ℕ) → CheckEnd → Option Place → ProveEnd
end_by paths (ends.Correct r) other = end_at paths r.end other
end_by paths (ends.Ended v) other = end.Other v
