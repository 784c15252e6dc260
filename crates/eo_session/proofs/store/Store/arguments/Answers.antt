use Rattle.std.proofs.lemmas.Result.{IfOk-weaker}
use Rattle.eo_session.specs.Store.{state_of}
use Rattle.eo_session.specs.Notes as notes
use Rattle.eo_session.specs.Noting.{GivesArguments, GivesFound}
use Rattle.eo_session.specs.Step.{values}
use Rattle.eo_session.proofs.Noted.{found_arguments}
use Rattle.eo_session.proofs.store.Store.arguments.Goals as goal

pub returns-clause-gives : goal.returns-clause-gives
returns-clause-gives c =
    let h = c.values-args.new.self in
    let m = values (state_of c.args.self.now) c.args.terms.now in
    IfOk-weaker c.ids_or_none.result (GivesFound c.values-args.result) (GivesArguments h (notes.found m))
    (λ is e. found_arguments h m c.values-args.result is c.values-args.ensures.gives e) c.ids_or_none.ensures
