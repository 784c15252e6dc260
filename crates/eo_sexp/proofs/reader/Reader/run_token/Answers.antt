use Rattle.std.proofs.Common.{◌≡◌, ◌≤◌, ap, true, All, length, length-take, take, take-take, arith, subst}
use Rattle.eo_base.specs.Limits.{limits}
use Rattle.eo_sexp.specs.declared.reader.Position.TheVariants as position
use Rattle.eo_sexp.specs.Token.{is_plain}
use Rattle.eo_sexp.specs.Reader.{held, RunsTo}
use Rattle.eo_sexp.proofs.RunSteps.{runs-none}
use Rattle.eo_sexp.proofs.LimitFacts.{command_is, token_is}
use Rattle.eo_sexp.proofs.ReaderSteps.{stands-as}
use Rattle.eo_sexp.proofs.TokenRuns.{token-runs}
use Rattle.eo_sexp.proofs.reader.Reader.run_token.Goals as goal

pub returns-in_ok-extend : goal.returns-in_ok-extend
returns-in_ok-extend c =
    let n = c.plain_run-run.result in
    let most = c.smaller-most.result in
    let rest = c.args.rest.now in
    let size = length c.args.buffer.now.bytes in
    let at : length c.bytes-at.result.now ≡ size = ap length c.bytes-at.ensures in
    let few : n ≤ most = omega (arith, c.plain_run-run.ensures.within, length-take most rest) in
    let some : n ≤ length rest = omega (arith, few, c.smaller-most.ensures.a) in
    let s = stands-as limits (held c.args.buffer.now c.args.self.now) size (position.Token c.args.token) c.requires.token c.requires.reader in
    let same : take n (take most rest) ≡ take n rest = take-take n most rest few in
    token-runs limits c.args.buffer.now c.extend.new.self c.args.self.now c.args.token rest n c.requires.token c.requires.reader
    c.in_ok-extend.ensures some
    (subst (All (λ x. is_plain c.args.token x ≡ true)) same c.plain_run-run.ensures.plain)
    (omega (arith, few, at, token_is, s.1, s.2, c.smaller-most.ensures.b, c.smaller-more.ensures.b, c.saturating_sub-2.ensures, c.saturating_sub-3.ensures))
    (omega (arith, few, at, command_is, c.requires.short, c.smaller-most.ensures.b, c.smaller-more.ensures.a, c.saturating_sub.ensures))

pub returns-else-run-gt0 : goal.returns-else-run-gt0
returns-else-run-gt0 c =
    let none : 0 ≡ c.plain_run-run.result = omega (arith, c.if-run-gt0.false) in
    subst (λ n. RunsTo limits c.args.buffer.now c.args.self.now c.args.rest.now n 0 c.args.buffer.now c.args.self.now) none (runs-none limits c.args.buffer.now c.args.self.now c.args.rest.now c.requires.reader c.requires.short)
