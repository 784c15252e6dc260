use Rattle.std.proofs.Common.{refl}
use Rattle.eo_eval.proofs.Popped.{proceeded_told, proceeded_ready}
use Rattle.eo_eval.proofs.machine.Machine.proceed.Goals as goal

pub returns : goal.returns
returns c =
    record {
      told = proceeded_told c.args.sig.now c.args.table.now c.args.types.now c.args.self.now (record c.args.self.now { stack = c.wait.new.self }) c.args.other c.args.part c.args.left c.requires.after c.in_ok-wait.ensures.frames c.wait.ensures.values refl refl refl refl c.args.frame.now c.args.now.now c.requires.given.result c.requires.before c.requires.proceeds;
      ready = proceeded_ready c.args.sig.now c.args.table.now c.args.types.now c.args.self.now (record c.args.self.now { stack = c.wait.new.self }) c.args.other c.args.part c.args.left c.requires.after c.in_ok-wait.ensures.frames c.wait.ensures.values refl refl refl refl c.args.frame.now c.args.now.now c.requires.given.result c.requires.before c.requires.proceeds c.requires.given.ready;
    }
