use Rattle.eo_term.specs.Growth.{tree_in}
use Rattle.eo_main.proofs.ShowLemmas.{found_named, refused_named}
use Rattle.eo_main.proofs.showing.lines_in.Goals as goal

pub returns-in-Ok : goal.returns-in-Ok
returns-in-Ok c =
    let found = c.in-Ok.ensures.gives in
    found_named c.args.session.now.state c.args.name.now c.args.place.now c.value_of.new.self.state (tree_in c.value_of.new.self.terms c.in-Ok.id) c.lines_of_value.result c.value_of.ensures.state found.is c.lines_of_value.ensures

pub returns-in-Err : goal.returns-in-Err
returns-in-Err c =
    refused_named c.args.session.now.state c.args.name.now c.args.place.now c.in-Err.e _ _ c.of_value.result c.of_value.ensures c.in-Err.ensures.gives c.requires c.in-Err.ensures.present
