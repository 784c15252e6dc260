use Rattle.std.proofs.Common.{◌≡◌, ◌+◌, length, length-take-le, take, refl, sym, arith, ◌∙◌}
use Rattle.eo_sexp.proofs.PassRuns.{passes-run}
use Rattle.eo_sexp.proofs.incremental.Machine.run_comment.Goals as goal

pub returns-clause-takes : goal.returns-clause-takes
returns-clause-takes c =
    let here = c.args.self.now.here in
    let long : length (take c.comment_run-run.result c.args.rest.now) ≡ c.comment_run-run.result = length-take-le c.comment_run-run.result c.args.rest.now c.comment_run-run.ensures.within in
    let none : here.line + 0 ≡ here.line = omega arith in
    passes-run c.args.self.now _ (take c.comment_run-run.result c.args.rest.now) c.requires.placed c.requires.nothing c.requires.between c.comment_run-run.ensures.inside refl refl refl refl
    (c.further-self.ensures ∙ (λ i. record { line = none i; offset = here.offset + sym long i }))
