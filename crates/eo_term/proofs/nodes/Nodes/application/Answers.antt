use Rattle.std.proofs.Common.{sym, ap, ◌∙◌}
use Rattle.std.specs.Option.{option_map}
use Rattle.eo_term.proofs.nodes.Nodes.application.Goals as goal

pub returns : goal.returns
returns c =
    ((c.unwrap.result.0.now, c.unwrap.result.1.now), sym c.get_index.ensures.entry ∙ ap (option_map (λ p. (p.0.now, p.1.now))) c.unwrap.ensures, c.parts_of.ensures)
