use Rattle.std.proofs.Common.{refl}
use Rattle.eo_eval.proofs.Popped.{began_told, began_ready}
use Rattle.eo_eval.proofs.machine.Machine.begin.Goals as goal

pub returns : goal.returns
returns c =
    record {
      told = began_told c.args.sig.now c.args.table.now c.args.types.now c.args.self.now (record c.args.self.now { stack = c.wait.new.self }) c.args.frame c.args.part c.args.left c.requires.frame c.in_ok-wait.ensures.frames c.wait.ensures.values refl refl refl refl c.args.id c.requires.begins;
      ready = began_ready c.args.sig.now c.args.table.now c.args.types.now c.args.self.now (record c.args.self.now { stack = c.wait.new.self }) c.args.frame c.args.part c.args.left c.requires.frame c.in_ok-wait.ensures.frames c.wait.ensures.values refl refl refl refl c.args.id c.requires.begins c.requires.ready;
    }
