use Rattle.std.proofs.Common.{◌≡◌, length, rules, subst}
use Rattle.std.specs.Prelude.{IfOk}
use Rattle.eo_eval.specs.Ready.{Goes}
use Rattle.eo_eval.proofs.Gathering.{gathering_begins, begins_told}
use Rattle.eo_eval.proofs.machine.Machine.enter_parts.Goals as goal

pub gather-requires : goal.gather-requires
gather-requires c =
    let e = c.args.self.now in
    let at : c.len-base.result ≡ length e.stack.values.items = search rules in
    record { gathering = gathering_begins c.args.sig.now c.args.table.now c.args.types.now e c.args.id c.len-base.result at c.requires.whole c.args.left c.requires.node c.requires.ready }

pub returns-clause-goes : goal.returns-clause-goes
returns-clause-goes c =
    let k = c.args.sig.now in
    let t = c.args.table.now in
    let e = c.args.self.now in
    let base = c.len-base.result in
    let at : base ≡ length e.stack.values.items = search rules in
    let same = begins_told k t c.args.types.now e c.args.id base at c.requires.whole c.args.left in
    subst (λ o. IfOk c.gather.result (Goes k c.gather.new.table c.gather.new.types c.gather.new.self o)) same c.gather.ensures.goes
