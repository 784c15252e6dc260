-- What is returned for a proof of validity, by how its check ends and by what was observed.
use Rattle.std.specs.Prelude.{◌≡◌, ◌≢◌, ℕ, Bool, true, false, if◌then◌else◌, nat_lt, List, [], length, Option, Some, None, option_map, IsSome, slice_get, position, bytes_eq, Ok, Err, refl}
use Rattle.std.specs.Option.{option_map_or}
use Rattle.std.proofs.Common.{get_or, sym, ap, subst, ◌∙◌, lt-ltb}
use Rattle.std.proofs.Math.Path.{transport}
use Rattle.std.proofs.lemmas.Bool.{ltb-true}
use Rattle.std.proofs.lemmas.Option.{slice_get-get_or}
use Rattle.std.proofs.lemmas.List.Quantifiers.{position-Some}
use Rattle.std.proofs.lemmas.Slice.Eq.{bytes_eq-Decides}
use Rattle.eo_base.specs.declared.FaultName.TheVariants.{NotSemantic}
use Rattle.eo_base.specs.declared.Place.{Place}
use Rattle.eo_cpc.specs.Suite.{suite}
use Rattle.eo_io.specs.Library.{Files}
use Rattle.eo_run.specs.Answer.{Answers, AnswerHasCause, Denotes}
use Rattle.eo_run.specs.Check.{checked}
use Rattle.eo_run.specs.Ending.{IsCheckEnd, verdict_of}
use Rattle.eo_run.specs.Judging.{AnswersObserved, SeesJob, IfRun}
use Rattle.eo_run.specs.Run.{Progress, Ran, refusal_at, seen_in}
use Rattle.eo_run.specs.Seen.{Seen}
use Rattle.eo_run.specs.Verdict as verdict
use Rattle.eo_run.specs.Watching.{AreSeen, IsSeen, Sees}
use Rattle.eo_run.specs.declared.CheckEnd.{CheckEnd}
use Rattle.eo_run.specs.declared.CheckJob.{CheckJob}
use Rattle.eo_run.specs.declared.CheckEnd.TheVariants as ends
use Rattle.eo_run.specs.declared.Verdict.{Verdict}
use Rattle.eo_run.specs.declared.Verdict.TheVariants as answer
use Rattle.eo_sem.proofs.Others.{AreBoth, first_noted, first_both, first_in, first_same}
use Rattle.eo_sem.specs.ProveAnswers.{Proves, AnswersProve, ValidRefutes, ProveHasCause, IsProveAnswer, other_place, placed_in, refused_at, end_at, end_by}
use Rattle.eo_sem.specs.Proving.{Valid, Other, IsProved, IsRefuted, prove_job, prove_run, prove, judged, not_semantic}
use Rattle.eo_sem.specs.Suite.{suite_signature}
use Rattle.eo_sem.specs.declared.ProveEnd.{ProveEnd}
use Rattle.eo_sem.specs.declared.ProveEnd.TheVariants as end
use Rattle.eo_session.specs.Notes as notes
use Rattle.eo_sig.specs.Signature.{rules}

-- ---- the kind of an answer, and its cause

refused_kind : (paths : List (List ℕ)) (last place : Place) → IsSome (slice_get paths last.file) → IsProveAnswer paths (refused_at (placed_in paths last place))
refused_kind paths last place h =
    by (nat_lt place.file (length paths)) refl
  where
    by : (b : Bool) → nat_lt place.file (length paths) ≡ b → IsProveAnswer paths (refused_at (if b then place else last))
    by true lt = subst IsSome (sym (slice_get-get_or paths place.file [] (ltb-true place.file (length paths) lt))) refl
    by false lt = h

pub end_kind : (paths : List (List ℕ)) (e : CheckEnd) (other : Option Place) → IsCheckEnd paths e → IsProveAnswer paths (end_by paths e other)
end_kind paths (ends.Correct r) None h = tt
end_kind paths (ends.Correct r) (Some place) h = refused_kind paths r.end place h
end_kind paths (ends.Ended answer.Correct) other h = absurd h
end_kind paths (ends.Ended v) other h = h

module _ {F : Type 0} (told : Option F) (before now : ℕ) where
  refused_cause : (t : Option F) (place : Place) → ProveHasCause (refused_at place) t before now
  refused_cause None place = λ e. absurd (cc e)
  refused_cause (Some files) place = tt

  pub end_cause : (paths : List (List ℕ)) (e : CheckEnd) (other : Option Place) → AnswerHasCause (verdict_of e) told before now → ProveHasCause (end_by paths e other) told before now
  end_cause paths (ends.Correct r) None h = tt
  end_cause paths (ends.Correct r) (Some place) h = refused_cause told (placed_in paths r.end place)
  end_cause paths (ends.Ended v) other h = h

-- ---- the answer

judged_other : (ran : Ran) (said : verdict.Verdict) → said ≢ verdict.Correct → judged ran said ≡ Other said
judged_other (Ok final) verdict.Correct not = absurd (not refl)
judged_other (Ok final) verdict.Incomplete not = refl
judged_other (Ok final) (verdict.Loaded commands) not = refl
judged_other (Ok final) (verdict.Refused refusal) not = refl
judged_other (Err stopped) said not = refl

-- any verdict but that it is correct stays
ended_proves : (paths : List (List ℕ)) (v : Verdict) (ran : Ran) (said : verdict.Verdict) → IsCheckEnd paths (ends.Ended v) → Answers paths v said → Proves paths (end.Other v) (judged ran said)
ended_proves paths answer.Correct ran said h a = absurd h
ended_proves paths answer.Incomplete ran said h a = (said, judged_other ran said (λ e. absurd (cc (a, e))), a)
ended_proves paths (answer.Loaded commands) ran said h a = (said, judged_other ran said (λ e. absurd (cc (a, e))), a)
ended_proves paths (answer.Refused fault) ran said h a = (said, judged_other ran said (λ e. absurd (cc (a.1, e))), a)
ended_proves paths answer.ReadFault ran said h a = tt
ended_proves paths answer.OutOfMemory ran said h a = tt

is_correct : (files : Files) (proof : List ℕ) (ran : Ran) → checked files proof ran ≡ verdict.Correct → (final : Progress) × (ran ≡ Ok final)
is_correct files proof (Ok final) e = (final, refl)
is_correct files proof (Err stopped) e = absurd (cc e)

-- the first step by another rule, as it was observed, or none
module _ (paths : List (List ℕ)) (last : Place) where
  path_at : (n : ℕ) (path : List ℕ) → position (bytes_eq path) paths ≡ Some n → slice_get paths n ≡ Some path
  path_at n path e =
      let first = position-Some (bytes_eq path) paths n [] e in
      slice_get-get_or paths n [] first.0 ∙ ap Some (sym ((bytes_eq-Decides path (get_or paths n [])).0 first.1))

  -- The file of its place is one of the paths, by the position of its path.
  there_proves : (m : notes.Seen) (k : Seen) → IsSeen paths m k → Proves paths (refused_at (placed_in paths last m.place)) (not_semantic k)
  there_proves m k h =
      subst (λ (b : Bool). Proves paths (refused_at (if b then m.place else last)) (not_semantic k)) (sym within) (verdict.Refused (refusal_at k.file k.start NotSemantic), refl, (refusal_at k.file k.start NotSemantic, refl, denotes))
    where
      within : nat_lt m.place.file (length paths) ≡ true
      within = lt-ltb m.place.file (length paths) (position-Some (bytes_eq k.file) paths m.place.file [] h.file).0

      denotes : Denotes paths (record { name = NotSemantic; place = m.place }) (refusal_at k.file k.start NotSemantic)
      denotes = record {
        name = refl;
        file = path_at m.place.file k.file h.file;
        line = ap (λ (x : Seen). x.start.line) h.same;
        offset = ap (λ (x : Seen). x.start.offset) h.same;
      }

  both_prove : (o : Option notes.Seen) (p : Option Seen) → AreBoth paths o p → Proves paths (end_at paths last (option_map (λ (m : notes.Seen). m.place) o)) (option_map_or not_semantic p Valid)
  both_prove None None h = refl
  both_prove (Some m) (Some k) h = there_proves m k h
  both_prove None (Some k) h = absurd h
  both_prove (Some m) None h = absurd h

  correct_proves : (final : Progress) (other : Option Place) (ms : List notes.Seen) → rules final.state.signature ≡ rules suite_signature → other ≡ other_place ms → AreSeen paths ms final.seen → Proves paths (end_at paths last other) (judged (Ok final) verdict.Correct)
  correct_proves final other ms same is seen =
      let same_first = first_same final.state.signature suite_signature same final.seen in
      subst (λ (o : Option Seen). Proves paths (end_at paths last other) (option_map_or not_semantic o Valid)) (sym same_first)
      (subst (λ (o : Option Place). Proves paths (end_at paths last o) (option_map_or not_semantic (first_in suite_signature final.seen) Valid)) (sym is)
      (both_prove (first_noted suite_signature ms) (first_in suite_signature final.seen) (first_both suite_signature paths ms final.seen seen)))

module _ {O : Type 0} (tells : O → List notes.Seen → Type 0) (observer : O) (paths : List (List ℕ)) (reference proof : List ℕ) where
  abbrev HasRules : Type 0
  HasRules = (files : Files) (final : Progress) → prove_run files reference proof ≡ Ok final → rules final.state.signature ≡ rules suite_signature

  files_prove : (files : Files) (e : CheckEnd) (other : Option Place) → HasRules → ((ms : List notes.Seen) → tells observer ms → other ≡ other_place ms) → IsCheckEnd paths e → Answers paths (verdict_of e) (checked files proof (prove_run files reference proof))
      → IfRun (verdict_of e) (Sees tells observer paths (seen_in (prove_run files reference proof))) → Proves paths (end_by paths e other) (prove files reference proof)
  unfolding prove
  files_prove files (ends.Ended v) other same tell kind a sees = ended_proves paths v (prove_run files reference proof) (checked files proof (prove_run files reference proof)) kind a
  files_prove files (ends.Correct r) other same tell kind a sees =
      let run = prove_run files reference proof in
      let c = is_correct files proof run a in
      let seen = subst (λ (x : Ran). Sees tells observer paths (seen_in x)) c.1 sees in
      subst (λ (x : verdict.Verdict). Proves paths (end_at paths r.end other) (judged run x)) (sym a)
      (subst (λ (x : Ran). Proves paths (end_at paths r.end other) (judged x verdict.Correct)) (sym c.1)
      (correct_proves paths r.end c.0 other seen.seen_by (same files c.0 c.1) (tell seen.seen_by seen.told) seen.are))

  -- What is returned is what is said of the files.
  pub end_proves : (told : Option Files) (e : CheckEnd) (other : Option Place) → HasRules → ((ms : List notes.Seen) → tells observer ms → other ≡ other_place ms) → IsCheckEnd paths e → AnswersObserved told (Some suite) (prove_job reference proof) paths (verdict_of e)
      → SeesJob tells observer told (Some suite) (prove_job reference proof) paths (verdict_of e) → AnswersProve told reference proof paths (end_by paths e other)
  unfolding prove_run
  end_proves None e other same tell kind a sees = tt
  end_proves (Some files) e other same tell kind a sees = files_prove files e other same tell kind a sees

  -- of a check of this job, after these bytes
  pub observed_proves : (told : Option Files) (bytes : List ℕ) (job : CheckJob) (e : CheckEnd) (other : Option Place) → bytes ≡ suite → job ≡ prove_job reference proof → HasRules → ((ms : List notes.Seen) → tells observer ms → other ≡ other_place ms) → IsCheckEnd paths e
      → AnswersObserved told (Some bytes) job paths (verdict_of e) → SeesJob tells observer told (Some bytes) job paths (verdict_of e) → AnswersProve told reference proof paths (end_by paths e other)
  observed_proves told bytes job e other b j same tell kind a sees =
      end_proves told e other same tell kind (transport (λ i. AnswersObserved told (Some (b i)) (j i) paths (verdict_of e)) a) (transport (λ i. SeesJob tells observer told (Some (b i)) (j i) paths (verdict_of e)) sees)

-- ---- what it means

module _ (reference proof : List ℕ) (paths : List (List ℕ)) where
  abbrev ValidProved : Type 0
  ValidProved = (files : Files) (reference proof : List ℕ) → prove files reference proof ≡ Valid → IsProved files reference proof

  abbrev ProvedRefuted : Type 0
  ProvedRefuted = (files : Files) (reference proof : List ℕ) → IsProved files reference proof → IsRefuted files reference proof

  pub end_refutes : (told : Option Files) (r : ProveEnd) → ValidProved → ProvedRefuted → AnswersProve told reference proof paths r → ValidRefutes told reference proof r
  end_refutes None end.Valid valid refutes a = tt
  end_refutes (Some files) end.Valid valid refutes a = let p = valid files reference proof a in (p, refutes files reference proof p)
  end_refutes told (end.Other v) valid refutes a = tt
