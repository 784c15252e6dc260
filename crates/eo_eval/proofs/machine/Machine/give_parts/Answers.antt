use Rattle.std.specs.Prelude.{IfOk}
use Rattle.std.proofs.Common.{◌≡◌, ◌∙◌, max, sym, ap, subst, refl, rules}
use Rattle.eo_eval.specs.Ready.{Gathering, PoppedReady, Goes, outcome_of_frame, outcome_of_parts}
use Rattle.eo_stack.specs.declared.stack.Frame.TheVariants as frame
use Rattle.eo_eval.proofs.Giving.{gathering_given, given_told}
use Rattle.eo_stack.proofs.Unchanged.{extends_same}
use Rattle.eo_eval.proofs.machine.Machine.give_parts.Goals as goal

pub gather-requires : goal.gather-requires
gather-requires c =
    let k = c.args.sig.now in
    let t = c.args.table.now in
    let typed = c.args.types.now in
    let e = c.args.self.now in
    let later = record e { stack = c.collect.new.self } in
    let f = frame.Parts c.args.id c.args.base c.args.before c.args.left in
    let deep : c.max.result ≡ max c.args.before c.in-Value.deepest = search rules in
    let r = subst (PoppedReady k t typed e f) c.in-Value.is c.requires.given.ready in
    record {
      gathering = subst (Gathering k t typed later c.args.id c.args.base) (sym deep) (gathering_given k t typed e later c.args.id c.args.base c.args.before c.args.left c.in-Value.value c.in-Value.deepest r c.collect.ensures.frames c.in_ok-collect-in-Value.ensures.values refl refl refl refl);
    }

pub returns-in_ok-collect-in-Value-clause-goes : goal.returns-in_ok-collect-in-Value-clause-goes
returns-in_ok-collect-in-Value-clause-goes c =
    let k = c.args.sig.now in
    let t = c.args.table.now in
    let typed = c.args.types.now in
    let e = c.args.self.now in
    let later = record e { stack = c.collect.new.self } in
    let f = frame.Parts c.args.id c.args.base c.args.before c.args.left in
    let deep : c.max.result ≡ max c.args.before c.in-Value.deepest = search rules in
    let r = subst (PoppedReady k t typed e f) c.in-Value.is c.requires.given.ready in
    let same : outcome_of_parts k t later c.args.id c.args.base c.args.left ≡ outcome_of_frame k t e f c.args.now.now =
    given_told k t typed e later c.args.id c.args.base c.args.before c.args.left c.in-Value.value c.in-Value.deepest r c.collect.ensures.frames c.in_ok-collect-in-Value.ensures.values refl refl ∙ ap (outcome_of_frame k t e f) (sym c.in-Value.is) in
    subst (λ o. IfOk c.gather.result (Goes k c.gather.new.table c.gather.new.types c.gather.new.self o)) same c.gather.ensures.goes

pub returns-in_err-collect-in-Value-clause-extends : goal.returns-in_err-collect-in-Value-clause-extends
returns-in_err-collect-in-Value-clause-extends c = extends_same c.requires.given.ready.held.fit

pub returns-in_default : goal.returns-in_default
returns-in_default c = record { goes = c.conclude.ensures; extends = extends_same c.requires.given.ready.held.fit }
