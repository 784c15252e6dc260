use Rattle.std.proofs.Common.{◌∙◌, subst, refl}
use Rattle.std.specs.Prelude.{IfOk}
use Rattle.eo_eval.specs.Ready.{IsNextPart, Goes}
use Rattle.eo_eval.proofs.Gathered.{waits_ready, waits_told}
use Rattle.eo_type.proofs.Keeping.{fits_same}
use Rattle.eo_stack.proofs.Unchanged.{extends_same}
use Rattle.eo_eval.proofs.Same.{fit_since}
use Rattle.eo_eval.proofs.machine.Machine.gather.Goals as goal

pub returns-in_ok-wait-in-Some-clause-goes : goal.returns-in_ok-wait-in-Some-clause-goes
returns-in_ok-wait-in-Some-clause-goes c =
    let k = c.args.sig.now in
    let t = c.args.table.now in
    let typed = c.args.types.now in
    let e = c.collect_ready.new.self in
    let later = record e { stack = c.wait.new.self } in
    let part = subst (IsNextPart t e c.args.id c.args.base) c.in-Some.is c.in_ok-part.ensures.next in
    record {
      told = waits_told k t typed e c.args.id c.args.base c.args.deepest c.in_ok-part.ensures.gathering later c.in-Some.part c.args.left part c.in_ok-wait-in-Some.ensures.frames c.wait.ensures.values refl refl ∙ c.in_ok-part.ensures.told c.args.left;
      ready = waits_ready k t typed e c.args.id c.args.base c.args.deepest c.in_ok-part.ensures.gathering later c.in-Some.part c.args.left part c.in_ok-wait-in-Some.ensures.frames c.wait.ensures.values refl refl refl refl;
    }

pub returns-in-Some-program_of : goal.returns-in-Some-program_of
returns-in-Some-program_of c =
    let k = c.args.sig.now in
    record {
      goes = subst (λ o. IfOk c.call_gathered.result (Goes k c.call_gathered.new.table c.args.types.now c.call_gathered.new.self o)) (c.in_ok-part.ensures.told c.args.left) c.call_gathered.ensures.goes;
      extends = record { fits = fits_same (fit_since c.call_gathered.ensures.grows c.requires.gathering.held.fit); grows = c.call_gathered.ensures.grows };
    }

pub returns-in-None-program_of : goal.returns-in-None-program_of
returns-in-None-program_of c =
    let k = c.args.sig.now in
    record {
      goes = subst (λ o. IfOk c.make_gathered.result (Goes k c.make_gathered.new.table c.make_gathered.new.types c.make_gathered.new.self o)) (c.in_ok-part.ensures.told c.args.left) c.make_gathered.ensures.goes;
      extends = c.make_gathered.ensures.extends;
    }

pub returns-in_err-part-clause-extends : goal.returns-in_err-part-clause-extends
returns-in_err-part-clause-extends c = extends_same c.requires.gathering.held.fit

pub returns-in_err-wait-in-Some-clause-extends : goal.returns-in_err-wait-in-Some-clause-extends
returns-in_err-wait-in-Some-clause-extends c = extends_same c.requires.gathering.held.fit

pub returns-in_ok-wait-in-Some-clause-extends : goal.returns-in_ok-wait-in-Some-clause-extends
returns-in_ok-wait-in-Some-clause-extends c = extends_same c.requires.gathering.held.fit

pub call_gathered-requires : goal.call_gathered-requires
call_gathered-requires c =
    let o = c.in_ok-part.ensures in
    record {
      program = c.in-Some-program_of.ensures.some;
      all = subst (IsNextPart c.args.table.now c.collect_ready.new.self c.args.id c.args.base) c.in-None.is o.next;
      gathering = o.gathering;
    }

pub make_gathered-requires : goal.make_gathered-requires
make_gathered-requires c =
    let o = c.in_ok-part.ensures in
    record {
      kind = c.in-None-program_of.ensures.none;
      all = subst (IsNextPart c.args.table.now c.collect_ready.new.self c.args.id c.args.base) c.in-None.is o.next;
      gathering = o.gathering;
    }
