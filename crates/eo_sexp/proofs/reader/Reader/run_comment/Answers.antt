use Rattle.std.proofs.Common.{◌≡◌, ◌≤◌, ap, false, All, length, length-take, take, take-take, arith, subst}
use Rattle.eo_base.specs.Limits.{limits}
use Rattle.eo_sexp.specs.Lexicon.{is_line_end}
use Rattle.eo_sexp.specs.Reader.{RunsTo}
use Rattle.eo_sexp.proofs.LimitFacts.{command_is}
use Rattle.eo_sexp.proofs.RunSteps.{runs-none}
use Rattle.eo_sexp.proofs.CommentRuns.{comment-runs}
use Rattle.eo_sexp.proofs.reader.Reader.run_comment.Goals as goal

pub returns-in_ok-extend : goal.returns-in_ok-extend
returns-in_ok-extend c =
    let n = c.comment_run-run.result in
    let most = c.smaller-most.result in
    let rest = c.args.rest.now in
    let at : length c.bytes.result.now ≡ length c.args.buffer.now.bytes = ap length c.bytes.ensures in
    let few : n ≤ most = omega (arith, c.comment_run-run.ensures.within, length-take most rest) in
    let some : n ≤ length rest = omega (arith, few, c.smaller-most.ensures.a) in
    let same : take n (take most rest) ≡ take n rest = take-take n most rest few in
    comment-runs limits c.args.buffer.now c.extend.new.self c.args.self.now rest n c.requires.comment c.requires.reader
    c.in_ok-extend.ensures some
    (subst (All (λ x. is_line_end x ≡ false)) same c.comment_run-run.ensures.inside)
    (omega (arith, few, at, command_is, c.requires.short, c.smaller-most.ensures.b, c.saturating_sub.ensures))

pub returns-else-run-gt0 : goal.returns-else-run-gt0
returns-else-run-gt0 c =
    let none : 0 ≡ c.comment_run-run.result = omega (arith, c.if-run-gt0.false) in
    subst (λ n. RunsTo limits c.args.buffer.now c.args.self.now c.args.rest.now n 0 c.args.buffer.now c.args.self.now) none (runs-none limits c.args.buffer.now c.args.self.now c.args.rest.now c.requires.reader c.requires.short)
