-- A job whose proof is correct stays correct with the needed commands in the proof's place.
use Rattle.std.specs.Prelude.{◌≡◌, ℕ, suc, ◌≤◌, Bool, true, false, not, ◌||◌, if◌then◌else◌, List, [], ◌∷◌, ◌++◌, length, find, Option, Some, None, is_some, option_map, unwrap_or, Ok, Err, refl, bytes_eq, nat_eq}
use Rattle.std.specs.List.{list_any}
use Rattle.std.proofs.Common.{sym, ap, subst, ◌∙◌, true≢false, append-nil, arith}
use Rattle.std.proofs.lemmas.Bool.{ne_eqb}
use Rattle.std.proofs.lemmas.Option.{none-some, same_Some}
use Rattle.std.proofs.lemmas.Slice.Eq.{bytes_eq-Decides}
use Rattle.eo_base.specs.declared.FaultName.{FaultName}
use Rattle.eo_base.specs.declared.FaultName.TheVariants.{BadPath, FileAbsent, ScopeOpen, NoReference, NoRefutation}
use Rattle.eo_base.specs.Limits.{limits}
use Rattle.eo_io.specs.Library.{Files, file_at}
use Rattle.eo_io.specs.Paths.{fold_path}
use Rattle.eo_sexp.specs.Texts.{Placed, first_spot}
use Rattle.eo_term.specs.Tree.{tree_eq, truth}
use Rattle.eo_proof.specs.Scopes.{Fact, Scope, has_false}
use Rattle.eo_session.specs.State.{State, first_state, begin_reference, end_fault, is_in_scope}
use Rattle.eo_session.specs.Origin as origin
use Rattle.eo_run.specs.Verdict.{Correct, Incomplete}
use Rattle.eo_run.specs.declared.CheckJob.{CheckJob}
use Rattle.eo_run.specs.Run.{Progress, Ran, ◌>>=◌, placed, or_fault, shown, include_limit, with_opened, commands_of, run_commands, run_reference, open_nothing, open_file, run_file, included_runner, job_file, run_signature, run_proof, run_job_reference, if_given, first_progress, before_proof, run_check, before_proof_after, run_check_after, run_prelude}
use Rattle.eo_run.specs.Check.{ended, checked, verdict}
use Rattle.eo_trim.specs.Needed.{IsNeeded, refutes, trimmed, scopes_after_all}
use Rattle.eo_trim.proofs.Facts.{depth-kept, false-kept}
use Rattle.eo_trim.proofs.Steps.{Like}
use Rattle.eo_trim.proofs.Shutting.{StackFits, Fits}
use Rattle.eo_trim.proofs.Going.{shut, reference-like}
use Rattle.eo_trim.proofs.Running.{ran_injective, ran_bind, ran_step, placed_ok, ok_placed, fault_ok, ok_fault, Comes, Related, Simulated, trimmed-append, commands_sim, commands_come, nothing_sim, same_sim, opened_other, other_path, file-same, comes_opened, reference_begun, related_reference, begins, runners_sim, file_sim, open_sim, extends_both}
use Rattle.eo_trim.proofs.Picking.{AllRead, EachPlaced, Lists, joined, proof_picked}

-- ---- the end of a check

find-any : (p : Fact → Bool) (fs : List Fact) → list_any p fs ≡ true → is_some (find p fs) ≡ true
find-any p [] e = absurd (true≢false (sym e))
find-any p (f ∷ fs) e = go (p f) (find-any p fs) e
  where
    go : (b : Bool) → (list_any p fs ≡ true → is_some (find p fs) ≡ true) → (b || list_any p fs) ≡ true → is_some (if b then Some f else find p fs) ≡ true
    go true h e = refl
    go false h e = h e

pub record EndsWell (st : State) : Type 0 where
  pub no_scope : is_in_scope st ≡ false
  pub reference : st.has_reference ≡ true
  pub refutes_it : has_false st.scopes ≡ true

pub ends_well : (st : State) → end_fault st ≡ None → EndsWell st
unfolding end_fault
ends_well st e = go (is_in_scope st) (st.has_reference) (has_false st.scopes) refl refl refl e
  where
    go : (a b c : Bool) → is_in_scope st ≡ a → st.has_reference ≡ b → has_false st.scopes ≡ c → (if a then Some ScopeOpen else if not b then Some NoReference else if not c then Some NoRefutation else None) ≡ None → EndsWell st
    go true b c p q r e = absurd (none-some _ (sym e))
    go false false c p q r e = absurd (none-some _ (sym e))
    go false true false p q r e = absurd (none-some _ (sym e))
    go false true true p q r e = record { no_scope = p; reference = q; refutes_it = r }

well_ends : (st : State) → is_in_scope st ≡ false → st.has_reference ≡ true → has_false st.scopes ≡ true → end_fault st ≡ None
unfolding end_fault
well_ends st p q r =
    ap (λ a. if a then Some ScopeOpen else if not st.has_reference then Some NoReference else if not (has_false st.scopes) then Some NoRefutation else None) p
    ∙ ap (λ b. if not b then Some NoReference else if not (has_false st.scopes) then Some NoRefutation else None) q
    ∙ ap (λ c. if not c then Some NoRefutation else None) r

pub correct_ends : (files : Files) (name : List ℕ) (sorry : Bool) (o : Option FaultName) → ended files name sorry o ≡ Correct → (sorry ≡ false) × (o ≡ None)
correct_ends files name sorry (Some fault) e = absurd (cc e)
correct_ends files name true None e = absurd (cc e)
correct_ends files name false None e = (refl, refl)

checked_run : (files : Files) (name : List ℕ) (r : Ran) → checked files name r ≡ Correct → (q : Progress) × (r ≡ Ok q)
checked_run files name (Ok q) e = (q, refl)
checked_run files name (Err refusal) e = absurd (cc e)

module _ (files : Files) (proof text : List ℕ) (final : Progress) (N : ℕ → Bool) (holds : IsNeeded proof final N)
    (alone : list_any (bytes_eq proof) final.opened ≡ false) where
  abbrev Rel : Progress → Progress → Type 0
  Rel p k = Related files proof text final N holds alone p k

  abbrev Come : Progress → Type 0
  Come p = Comes files proof text final N holds alone p

  abbrev Sim : Progress → Progress → (Progress → Ran) → Type 0
  Sim p q run = Simulated files proof text final N holds alone p q run

  abbrev pub then_files : Files
  then_files = (proof, text) ∷ files

  -- ---- the files of the job before the proof

  file_of : (p : Progress) (name : List ℕ) (file : List ℕ × List ℕ) → job_file files p name ≡ Ok file → (fold_path [] name ≡ Some file.0) × (file_at files file.0 ≡ Some file.1)
  unfolding job_file
  file_of p name file e =
      let path = ran_bind (or_fault p name first_spot BadPath (fold_path [] name)) _ file e in
      let bytes = ran_bind (or_fault p path.0 first_spot FileAbsent (file_at files path.0)) _ file path.2 in
      subst (λ (x : List ℕ × List ℕ). (fold_path [] name ≡ Some x.0) × (file_at files x.0 ≡ Some x.1)) (ran_injective (path.0, bytes.0) file bytes.2)
      (fault_ok p name first_spot BadPath (fold_path [] name) path.0 path.1, fault_ok p path.0 first_spot FileAbsent (file_at files path.0) bytes.0 bytes.1)

  also_file : (fs : Files) (k : Progress) (name : List ℕ) (path bytes : List ℕ) → fold_path [] name ≡ Some path → file_at fs path ≡ Some bytes → job_file fs k name ≡ Ok (path, bytes)
  unfolding job_file
  also_file fs k name path bytes e f =
      ran_step _ _ path (ok_fault k name first_spot BadPath (fold_path [] name) path e) ∙ ran_step _ _ bytes (ok_fault k path first_spot FileAbsent (file_at fs path) bytes f)

  signature_sim : (name : List ℕ) (p q : Progress) → run_signature files name p ≡ Ok q → Come q → Sim p q (run_signature then_files name)
  unfolding run_signature
  signature_sim name p q e comes =
      let file = ran_bind (job_file files p name) _ q e in
      let is = file_of p name file.0 file.1 in
      let both = file_sim files proof text final N holds alone (included_runner files include_limit) (included_runner then_files include_limit) (runners_sim files proof text final N holds alone include_limit)
      file.0.0 origin.Signature file.0.1 (with_opened p file.0.0) q file.2 comes in
      let away = opened_other files proof text final N holds alone p file.0.0 both.0 in
      let s = both.1 (other_path files proof text final N holds alone file.0.0 away) in
      record {
        comes = comes_opened files proof text final N holds alone p file.0.0 both.0;
        extends = record { segment = s.extends.segment; seen = s.extends.seen; others = s.extends.others };
        goes = λ k rel.
            let next : Progress = with_opened k file.0.0 in
            let related : Rel (with_opened p file.0.0) next = record { included = rel.included; fits = rel.fits; nested = rel.nested; like = rel.like } in
            let t = s.goes next related in
            (t.0, ran_step _ _ file.0 (also_file then_files k name file.0.0 file.0.1 is.0 (file-same files proof text final N holds alone file.0.0 file.0.1 away is.1)) ∙ t.1, t.2);
      }

  reference_sim : (name : List ℕ) (p q : Progress) → run_job_reference files name p ≡ Ok q → Come q → Sim p q (run_job_reference then_files name)
  unfolding run_job_reference run_reference
  reference_sim name p q e comes =
      let st = ran_bind (placed p (shown name) first_spot (begin_reference p.state)) _ q e in
      let file = ran_bind (job_file files p name) _ q st.2 in
      let is = file_of p name file.0 file.1 in
      let begun = reference_begun files proof text final N holds alone p.state st.0 (placed_ok p (shown name) first_spot (begin_reference p.state) st.0 st.1) in
      let now : Progress = record (with_opened p file.0.0) { state = st.0 } in
      let nothing = nothing_sim files proof text final N holds alone in
      let later = commands_come files proof text final N holds alone open_nothing open_nothing nothing file.0.0 origin.Reference (commands_of false file.0.1) now q file.2 comes in
      let here : Come (with_opened p file.0.0) = record { later_seen = later.later_seen; seen = later.seen; alone_so_far = later.alone_so_far } in
      let away = opened_other files proof text final N holds alone p file.0.0 here in
      let s = commands_sim files proof text final N holds alone open_nothing open_nothing nothing file.0.0 origin.Reference (other_path files proof text final N holds alone file.0.0 away) (commands_of false file.0.1) now q file.2 comes in
      record {
        comes = comes_opened files proof text final N holds alone p file.0.0 here;
        extends = record { segment = s.extends.segment; seen = s.extends.seen; others = s.extends.others };
        goes = λ k rel.
            let next : Progress = record (with_opened k file.0.0) { state = record k.state { has_reference = true } } in
            let related : Rel now next = related_reference files proof text final N holds alone p k file.0.0 st.0 begun.1 rel in
            let t = s.goes next related in (
              t.0,
              ran_step _ _ (record k.state { has_reference = true }) (ok_placed k (shown name) first_spot (begin_reference k.state) (record k.state { has_reference = true })
                  (begins files proof text final N holds alone k.state (reference-like N (scopes_after_all [] p.seen) p.state k.state rel.like ∙ begun.0)))
                  ∙ ran_step _ _ file.0 (also_file then_files k name file.0.0 file.0.1 is.0 (file-same files proof text final N holds alone file.0.0 file.0.1 away is.1)) ∙ t.1,
              t.2,
            );
      }

  given_sim : (f g : List ℕ → Progress → Ran) → ((name : List ℕ) (p q : Progress) → f name p ≡ Ok q → Come q → Sim p q (g name)) → (o : Option (List ℕ)) (p q : Progress) → if_given f o p ≡ Ok q → Come q → Sim p q (if_given g o)
  given_sim f g h None p q e comes = same_sim files proof text final N holds alone p q e comes
  given_sim f g h (Some name) p q e comes = h name p q e comes

  before_sim : (job : CheckJob) (q : Progress) → before_proof files job ≡ Ok q → Come q → Sim (first_progress job) q (λ k. if_given (run_signature then_files) job.include k >>= if_given (run_job_reference then_files) job.reference)
  unfolding before_proof before_proof_after run_prelude ◌>>=◌
  before_sim job q e comes =
      let p = ran_bind (if_given (run_signature files) job.include (first_progress job)) _ q e in
      let second = given_sim (run_job_reference files) (run_job_reference then_files) reference_sim job.reference p.0 q p.2 comes in
      let first = given_sim (run_signature files) (run_signature then_files) signature_sim job.include (first_progress job) p.0 p.1 second.comes in
      record {
        comes = first.comes;
        extends = extends_both files proof text final N holds alone (first_progress job) p.0 q first.extends second.extends;
        goes = λ k rel.
            let a = first.goes k rel in
            let b = second.goes a.0 a.2 in
            (b.0, ran_step _ _ a.0 a.1 ∙ b.1, b.2);
      }

  before_is : (job : CheckJob) (q : Progress) → (if_given (run_signature then_files) job.include (first_progress job) >>= if_given (run_job_reference then_files) job.reference) ≡ Ok q → before_proof then_files job ≡ Ok q
  unfolding before_proof before_proof_after run_prelude ◌>>=◌
  before_is job q e = e

  first_related : (job : CheckJob) → Rel (first_progress job) (first_progress job)
  unfolding first_state shut
  first_related job = record {
    included = refl;
    fits = tt;
    nested = tt;
    like = record { scopes = record { outermost = []; opened = [] }; sorry = false; commands = 0; is = refl; facts = record { outermost = refl; opened = tt }; proved = λ e. e };
  }

  -- ---- the end

  closed_stack : (p : Progress) → Fits (scopes_after_all [] p.seen) p.state → is_in_scope p.state ≡ false → scopes_after_all [] p.seen ≡ []
  closed_stack p fits e = go (scopes_after_all [] p.seen) p.state.scopes.opened p.state.outer_macros fits e
    where
      go : (stack : List ℕ) (ss : List Scope) (os : List ℕ) → StackFits stack ss os (length p.state.macros) → not (nat_eq (length ss) 0) ≡ false → stack ≡ []
      go [] [] [] h e = refl
      go (k ∷ ks) (s ∷ ss) (o ∷ os) h e = absurd (true≢false (sym (ap not (ne_eqb (suc (length ss)) 0 (λ e. omega arith))) ∙ e))
      go stack ss os h e = absurd h

  well_kept : (m : Progress) → Rel final m → final.state.sorry ≡ false → end_fault final.state ≡ None → (m.state.sorry ≡ false) × (end_fault m.state ≡ None)
  unfolding shut
  well_kept m rel proved e =
      let ends = ends_well final.state e in
      let empty = closed_stack final rel.fits ends.no_scope in
      let like : Like N final.state m.state = subst (λ (xs : List ℕ). Like N (shut N xs final.state) m.state) empty rel.like in
      let some = find-any (λ (f : Fact). tree_eq f.formula (truth false)) final.state.scopes.outermost ends.refutes_it in
      let need = first_needed (find (λ (f : Fact). tree_eq f.formula (truth false)) final.state.scopes.outermost) refl some in (
        ap (λ (x : State). x.sorry) like.is ∙ like.proved proved,
        well_ends m.state (ap is_in_scope like.is ∙ ap (λ n. not (nat_eq n 0)) (depth-kept N final.state.scopes like.scopes like.facts) ∙ ends.no_scope)
            (ap (λ (x : State). x.has_reference) like.is ∙ ends.reference)
            (ap (λ (x : State). has_false x.scopes) like.is ∙ false-kept N final.state.scopes like.scopes like.facts some need),
      )
    where
      first_needed : (o : Option Fact) → find (λ (f : Fact). tree_eq f.formula (truth false)) final.state.scopes.outermost ≡ o → is_some o ≡ true → N (unwrap_or (option_map (λ (f : Fact). f.number) o) 0) ≡ true
      first_needed (Some f) e h = (holds f.number).1 (refutes f.number (ap (option_map (λ (x : Fact). x.number)) e))
      first_needed None e h = absurd (true≢false (sym h))

  -- ---- the whole

  module _ (Q : Placed → Type 0) (reads_well : (bytes : List ℕ) → AllRead Q (commands_of true bytes)) (reads_back : (cs : List Placed) → EachPlaced Q cs → length (joined cs) ≤ limits.file → Lists (commands_of true (joined cs)) cs)
      (text_is : text ≡ trimmed proof N final.seen) (short : length text ≤ limits.file) where
    finally : Come final
    finally = record { later_seen = []; seen = sym (append-nil final.seen); alone_so_far = alone }

    pub trimmed_run : (job : CheckJob) → fold_path [] job.proof ≡ Some proof → run_check files job ≡ Ok final → (m : Progress) × (run_check then_files job ≡ Ok m) × Rel final m
    unfolding run_check run_check_after run_proof run_file before_proof
    trimmed_run job at e =
        let before = ran_bind (before_proof files job) _ final e in
        let file = ran_bind (job_file files before.0 job.proof) _ final before.2 in
        let is = file_of before.0 job.proof file.0 file.1 in
        let same : proof ≡ file.0.0 = same_Some proof file.0.0 (sym at ∙ is.0) in
        let run : run_commands (open_file files (included_runner files include_limit)) proof origin.Proof (commands_of true file.0.1) before.0 ≡ Ok final =
        ap (λ path. run_commands (open_file files (included_runner files include_limit)) path origin.Proof (commands_of true file.0.1) before.0) same ∙ file.2 in
        let sims = runners_sim files proof text final N holds alone include_limit in
        let opens = open_sim files proof text final N holds alone (included_runner files include_limit) (included_runner then_files include_limit) sims in
        let comes = commands_come files proof text final N holds alone (open_file files (included_runner files include_limit)) (open_file then_files (included_runner then_files include_limit)) opens proof origin.Proof (commands_of true file.0.1) before.0 final run finally in
        let first = before_sim job before.0 before.1 comes in
        let begun = first.goes (first_progress job) (first_related job) in
        let picked = proof_picked files proof text final N holds alone Q (included_runner files include_limit) (included_runner then_files include_limit) sims (commands_of true file.0.1) (reads_well file.0.1) before.0 final begun.0 run finally begun.2 in
        let all : trimmed proof N final.seen ≡ joined picked.picks =
        ap (trimmed proof N) (picked.seen ∙ ap (λ cs. cs ++ picked.segment) first.extends.seen)
        ∙ trimmed-append files proof text final N holds alone first.extends.segment picked.segment
        ∙ ap (λ bs. bs ++ trimmed proof N picked.segment) first.extends.others ∙ picked.text_is in
        let lists : Lists (commands_of true text) picked.picks =
        subst (λ (bs : List ℕ). Lists (commands_of true bs) picked.picks) (sym (text_is ∙ all)) (reads_back picked.picks picked.good (subst (λ (bs : List ℕ). length bs ≤ limits.file) (text_is ∙ all) short)) in
        let m = picked.runs begun.0 begun.2 (commands_of true text) lists in
        (m.0, ran_step _ _ begun.0 (before_is job begun.0 begun.1) ∙ ran_step _ _ (proof, text) (also_file then_files begun.0 job.proof proof text at (ap (λ b. if b then Some text else file_at files proof) ((bytes_eq-Decides proof proof).1 refl))) ∙ m.1, m.2)

    pub trimmed_correct : (job : CheckJob) → fold_path [] job.proof ≡ Some proof → run_check files job ≡ Ok final → verdict files job ≡ Correct → verdict then_files job ≡ Correct
    unfolding verdict
    trimmed_correct job at e correct =
        let m = trimmed_run job at e in
        let ends = correct_ends files job.proof final.state.sorry (end_fault final.state) (ap (checked files job.proof) (sym e) ∙ correct) in
        let well = well_kept m.0 m.2 ends.0 ends.1 in
        ap (checked then_files job.proof) m.1 ∙ ap (ended then_files job.proof m.0.state.sorry) well.1 ∙ ap (λ b. if b then Incomplete else Correct) well.0
