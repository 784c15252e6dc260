use Rattle.std.specs.Prelude.{[]}
use Rattle.std.proofs.lemmas.Result.{IfOk-at_ok}
use Rattle.eo_run.proofs.checking.new_run.Goals as goal

pub returns : goal.returns
returns c =
    let new = IfOk-at_ok _ c.in_ok-session.ensures.called c.new.ensures in
    record {
      going = new.going;
      is = λ i. record { state = new.state i; included = c.in_ok-session.ensures.other i; opened = c.new-2.ensures i; seen = [] };
    }
