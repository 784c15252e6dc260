use Rattle.std.proofs.Common.{true, refl, sym, subst}
use Rattle.eo_io.specs.Library.{Files}
use Rattle.eo_run.specs.Progress.{point, progress_at}
use Rattle.eo_run.specs.Run.{run_proof}
use Rattle.eo_session.specs.declared.Origin.TheVariants.{Proof}
use Rattle.eo_run.specs.declared.checking.Named.{Named}
use Rattle.eo_run.proofs.Files.{end-cause}
use Rattle.eo_run.proofs.Jobs.{is-proof, proof-stops, proof-correct, proof-incomplete, proof-refused, proof-last}
use Rattle.eo_run.proofs.Ends.{end-stops}
use Rattle.eo_base.specs.declared.Place.{Place}
use Rattle.std.specs.Prelude.{IsSome, slice_get}
use Rattle.eo_run.proofs.checking.check_proof.Goals as goal

pub returns-in-Err-clause-verdict : goal.returns-in-Err-clause-verdict
returns-in-Err-clause-verdict g c =
    let n : Named = record { name = c.args.name; from = Proof 0; wrapped = true; opens = 17 } in
    let old = point c.args.run.now c.args.observer.now c.args.paths.now in
    proof-stops g.O.Observer.tells (g.L.Library.told c.args.files.now) n old old (point c.check_named.new.run c.check_named.new.observer c.check_named.new.paths) (λ seen sees. sees) (λ (f : Files). run_proof f c.args.name.now)
    (λ files seen. is-proof n (progress_at old seen) files refl refl refl) c.args.name.now c.in-Err.verdict c.in-Err.ensures.runs

pub returns-in-Correct-clause-verdict : goal.returns-in-Correct-clause-verdict
returns-in-Correct-clause-verdict g c =
    let n : Named = record { name = c.args.name; from = Proof 0; wrapped = true; opens = 17 } in
    let old = point c.args.run.now c.args.observer.now c.args.paths.now in
    proof-correct g.O.Observer.tells (g.L.Library.told c.args.files.now) n old old (point c.check_named.new.run c.check_named.new.observer c.check_named.new.paths) (λ seen sees. sees) (λ (f : Files). run_proof f c.args.name.now)
    (λ files seen. is-proof n (progress_at old seen) files refl refl refl) c.args.name.now c.in-Ok.place refl c.in-Ok.ensures.runs c.in-Correct.ensures.0 c.in-Correct.ensures.1

pub returns-in-Incomplete-clause-verdict : goal.returns-in-Incomplete-clause-verdict
returns-in-Incomplete-clause-verdict g c =
    let n : Named = record { name = c.args.name; from = Proof 0; wrapped = true; opens = 17 } in
    let old = point c.args.run.now c.args.observer.now c.args.paths.now in
    proof-incomplete g.O.Observer.tells (g.L.Library.told c.args.files.now) n old old (point c.check_named.new.run c.check_named.new.observer c.check_named.new.paths) (λ seen sees. sees) (λ (f : Files). run_proof f c.args.name.now)
    (λ files seen. is-proof n (progress_at old seen) files refl refl refl) c.args.name.now c.in-Ok.place refl c.in-Ok.ensures.runs c.in-Incomplete.ensures.0 c.in-Incomplete.ensures.1

pub returns-in-Fault-clause-verdict : goal.returns-in-Fault-clause-verdict
returns-in-Fault-clause-verdict g c =
    let n : Named = record { name = c.args.name; from = Proof 0; wrapped = true; opens = 17 } in
    let old = point c.args.run.now c.args.observer.now c.args.paths.now in
    proof-refused g.O.Observer.tells (g.L.Library.told c.args.files.now) n old old (point c.check_named.new.run c.check_named.new.observer c.check_named.new.paths) (λ seen sees. sees) (λ (f : Files). run_proof f c.args.name.now)
    (λ files seen. is-proof n (progress_at old seen) files refl refl refl) c.args.name.now c.in-Ok.place refl c.in-Ok.ensures.runs refl c.in-Fault.name (sym c.in-Fault.ensures)

pub returns-in-Fault-clause-end : goal.returns-in-Fault-clause-end
returns-in-Fault-clause-end g c = record {
  cause = end-cause (g.L.Library.told c.args.files.now) c.check_named.new.run.session.state c.in-Fault.name c.in-Ok.place _ _ (sym c.in-Fault.ensures);
  kind = c.in-Ok.ensures.kind;
  grows = c.check_named.ensures.grows;
}

pub returns-in-Correct-clause-last : goal.returns-in-Correct-clause-last
returns-in-Correct-clause-last g c =
    let n : Named = record { name = c.args.name; from = Proof 0; wrapped = true; opens = 17 } in
    let old = point c.args.run.now c.args.observer.now c.args.paths.now in
    let r = c.correct_end in
    proof-last g.O.Observer.tells (g.L.Library.told c.args.files.now) n old old (point c.check_named.new.run c.check_named.new.observer c.check_named.new.paths) (λ seen sees. sees) (λ (f : Files). run_proof f c.args.name.now)
    (λ files seen. is-proof n (progress_at old seen) files refl refl refl) c.args.name.now c.in-Ok.place refl c.in-Ok.ensures.runs refl c.in-Ok.ensures.going r.result r.ensures.command r.ensures.end r.ensures.shared

pub returns-in-Err-clause-end : goal.returns-in-Err-clause-end
returns-in-Err-clause-end g c =
    end-stops _ _ _ c.args.paths.now c.check_named.new.paths c.in-Err.verdict c.in-Err.ensures.cause c.in-Err.ensures.kind c.check_named.ensures.grows

pub returns-in-Correct-clause-end : goal.returns-in-Correct-clause-end
returns-in-Correct-clause-end g c = record {
  cause = tt;
  kind = subst (λ (x : Place). IsSome (slice_get c.check_named.new.paths x.file)) (sym c.correct_end.ensures.end) c.in-Ok.ensures.kind;
  grows = c.check_named.ensures.grows;
}

pub returns-in-Incomplete-clause-end : goal.returns-in-Incomplete-clause-end
returns-in-Incomplete-clause-end g c = record { cause = tt; kind = tt; grows = c.check_named.ensures.grows }
