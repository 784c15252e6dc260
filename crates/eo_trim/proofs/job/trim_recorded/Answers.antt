use Rattle.std.proofs.Common.{List, ℕ, subst}
use Rattle.eo_io.specs.Paths.{Extends}
use Rattle.eo_trim.proofs.Shortening.{ended, recorded, recorded-stays}
use Rattle.eo_trim.proofs.job.trim_recorded.Goals as goal

pub returns-in-Correct-clause-trims : goal.returns-in-Correct-clause-trims
returns-in-Correct-clause-trims g c =
    let e = c.in-Correct.ensures in
    let paths = c.check_observed.new.paths in
    recorded c.args.job.now paths c.check_observed.new.observer c.in-Correct.refutation
    (subst (λ (old : List (List ℕ)). Extends old c.check_observed.new.paths) c.requires.first e.end.grows)
    (g.L.Library.told c.args.files.now) c.trim_entries.result
    (record { verdict = e.verdict; refutes = e.refutes; sees = e.sees }) c.trim_entries.ensures

pub returns-in-Correct-clause-shorter : goal.returns-in-Correct-clause-shorter
returns-in-Correct-clause-shorter g c =
    let e = c.in-Correct.ensures in
    let paths = c.check_observed.new.paths in
    recorded-stays c.args.job.now paths c.check_observed.new.observer c.in-Correct.refutation
    (subst (λ (old : List (List ℕ)). Extends old c.check_observed.new.paths) c.requires.first e.end.grows)
    (g.L.Library.told c.args.files.now) c.trim_entries.result
    (record { verdict = e.verdict; refutes = e.refutes; sees = e.sees }) c.trim_entries.ensures

pub returns-in-Ended-clause-trims : goal.returns-in-Ended-clause-trims
returns-in-Ended-clause-trims g c =
    ended (g.L.Library.told c.args.files.now) c.args.job.now c.check_observed.new.paths c.in-Ended.verdict c.in-Ended.ensures.end.kind c.in-Ended.ensures.verdict
