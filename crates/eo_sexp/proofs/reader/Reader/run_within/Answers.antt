use Rattle.std.proofs.Common.{◌-◌, ap, length, length-append, length-take-le, length-drop, take, drop, arith, subst}
use Rattle.eo_base.specs.Limits.{limits}
use Rattle.eo_sexp.specs.declared.reader.ReaderTurn.TheVariants as turn
use Rattle.eo_sexp.specs.Reader.{Runs}
use Rattle.eo_sexp.proofs.LimitFacts.{command_is}
use Rattle.std.proofs.lemmas.List.{take_rest}
use Rattle.eo_sexp.proofs.RunSteps.{runs-none}
use Rattle.eo_sexp.proofs.AheadRuns.{runs-behind}
use Rattle.eo_sexp.proofs.reader.Reader.run_within.Goals as goal

pub loop-taken-init : goal.loop-taken-init
loop-taken-init c = runs-none limits c.args.buffer.now c.args.self.now c.args.rest.now c.requires.reader (omega (arith, c.requires.room, command_is))

pub step-requires : goal.step-requires
step-requires c =
    let b = c.args.buffer.now in
    let rest = c.args.rest.now in
    let taken = c.loop-taken.taken in
    let left = ap length (take_rest rest taken) in
    record {
      reader = c.loop-taken.invariant.reader;
      room = omega (arith, c.requires.room, left, length-drop taken rest, ap length c.loop-taken.invariant.bytes, length-append b.bytes (take taken rest), length-take-le taken rest c.loop-taken.invariant.within);
      some = omega (arith, left, length-drop taken rest, c.loop-taken-test.true);
    }

pub loop-taken-smaller : goal.loop-taken-smaller
loop-taken-smaller c = let some = c.in_ok-step.ensures.moves c.in-Goes.is in omega (arith, some, c.loop-taken-test.true)

pub loop-taken-preserved : goal.loop-taken-preserved
loop-taken-preserved c =
    let k = c.in_ok-step.step.taken in
    let i = c.in_ok-step.step.lines in
    let rest = c.args.rest.now in
    let left = take (length rest - c.loop-taken.taken) (drop c.loop-taken.taken rest) in
    let one = subst (λ t. Runs limits c.loop-taken.buffer c.loop-taken.self left k i t c.step.new.buffer c.step.new.self) c.in-Goes.is c.in_ok-step.ensures.runs in
    (runs-behind limits c.args.buffer.now c.loop-taken.buffer c.step.new.buffer c.args.self.now c.loop-taken.self c.step.new.self rest left c.loop-taken.taken k c.loop-taken.lines i turn.Goes c.loop-taken.invariant (take_rest rest c.loop-taken.taken) one).1

pub returns-in_default : goal.returns-in_default
returns-in_default c =
    let k = c.in_ok-step.step.taken in
    let i = c.in_ok-step.step.lines in
    let rest = c.args.rest.now in
    let left = take (length rest - c.loop-taken.taken) (drop c.loop-taken.taken rest) in
    let all = runs-behind limits c.args.buffer.now c.loop-taken.buffer c.step.new.buffer c.args.self.now c.loop-taken.self c.step.new.self rest left c.loop-taken.taken k c.loop-taken.lines i c.in_ok-step.step.turn c.loop-taken.invariant (take_rest rest c.loop-taken.taken) c.in_ok-step.ensures.runs in
    record { counts = all.0; runs = all.1 }
