use Rattle.std.proofs.Common.{◌≡◌, ◌<◌, length, sym, ap, subst, arith}
use Rattle.std.specs.Prelude.{IfOk, IfSome, IfNone}
use Rattle.eo_term.specs.Tree.{Tree}
use Rattle.eo_stack.specs.Evaluation.{Ended}
use Rattle.eo_stack.specs.Reading.{read_call}
use Rattle.eo_eval.specs.Ready.{Calling, Ready, Goes, called_at, outcome_from, told_call}
use Rattle.eo_stack.specs.declared.stack.Control.TheVariants as next
use Rattle.eo_stack.proofs.Unchanged.{grows_same}
use Rattle.eo_eval.proofs.machine.Machine.call.Goals as goal

pub returns-then-left-eq0 : goal.returns-then-left-eq0
returns-then-left-eq0 c =
    let t = c.args.table.now in
    let h = c.requires.calling in
    record {
      goes = record {
        told = ap (told_call c.args.sig.now t c.args.self.now (read_call t.trees c.args.key)) (sym c.if-left-eq0.true);
        ready = record { held = h.held; stands = h.stands };
      };
      grows = grows_same h.held.fit;
    }

pub call_begun-requires : goal.call_begun-requires
call_begun-requires c =
    let e = c.begin_call.new.self in
    let o = c.in_ok-place.ensures in
    record {
      left = omega (arith, c.if-left-eq0.false);
      called = record {
        place = subst (λ r. IfSome r (λ p. p < length e.calls.entries)) c.in-Some.is o.place;
        calling = subst (λ r. IfSome r (λ p. Calling c.args.sig.now c.args.table.now c.args.types.now e (called_at c.args.table.now e p))) c.in-Some.is o.calling;
      };
    }

pub returns-in_err-place-clause-grows : goal.returns-in_err-place-clause-grows
returns-in_err-place-clause-grows c = grows_same c.requires.calling.held.fit

pub returns-in-Some-clause-goes : goal.returns-in-Some-clause-goes
returns-in-Some-clause-goes c =
    let k = c.args.sig.now in
    let t = c.args.table.now in
    let e = c.begin_call.new.self in
    let left = c.args.left in
    let before : Ended Tree = told_call k t c.args.self.now (read_call t.trees c.args.key) left in
    let same : told_call k t e (called_at t e c.in-Some.place) left ≡ before =
    subst (λ r. IfSome r (λ p. told_call k t e (called_at t e p) left ≡ before)) c.in-Some.is c.in_ok-place.ensures.told in
    subst (λ o. IfOk c.call_begun.result (Goes k c.call_begun.new.table c.args.types.now c.call_begun.new.self o)) same c.call_begun.ensures.goes

pub returns-in-None : goal.returns-in-None
returns-in-None c =
    let k = c.args.sig.now in
    let t = c.args.table.now in
    let e = c.begin_call.new.self in
    let o = c.in_ok-place.ensures in
    record {
      goes = record {
        told = subst (λ r. IfNone r (outcome_from k t e next.Calls ≡ told_call k t c.args.self.now (read_call t.trees c.args.key) c.args.left)) c.in-None.is o.full;
        ready = subst (λ r. IfNone r (Ready k t c.args.types.now e next.Calls)) c.in-None.is o.ready;
      };
      grows = grows_same c.requires.calling.held.fit;
    }
