use Rattle.std.proofs.Common.{◌≡◌, ◌+◌, get_or, subst, arith}
use Rattle.eo_base.specs.Limits.{limits}
use Rattle.eo_sexp.specs.Reader.{RunsTo, StopsAt}
use Rattle.eo_sexp.proofs.RunSteps.{line_feeds}
use Rattle.eo_sexp.proofs.AheadRuns.{goes-behind}
use Rattle.eo_sexp.proofs.reader.keep.Goals as goal

pub returns-in_ok-push-in-Goes : goal.returns-in_ok-push-in-Goes
returns-in_ok-push-in-Goes c = (
  λ e. omega arith,
  λ b r s f h.
      let x = get_or c.args.rest.now c.args.n 0 in
      let lines : 0 + line_feeds x ≡ c.line_feeds.result = omega (arith, c.line_feeds.ensures) in
      subst (λ i. RunsTo limits b r c.args.rest.now (c.args.n + 1) i c.push.new.self s) lines
      (goes-behind limits b c.args.buffer.now c.push.new.self r s c.args.rest.now c.args.n 0 (subst (λ t. StopsAt limits b r c.args.rest.now c.args.n 0 t c.args.buffer.now s) c.in-Goes.is h) f c.in_ok-push-in-Goes.ensures),
)
