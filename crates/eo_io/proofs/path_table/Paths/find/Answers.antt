use Rattle.std.proofs.Common.{position, is_some, ap, ◌∙◌}
use Rattle.std.specs.Str.{bytes_eq}
use Rattle.eo_io.proofs.PathLemmas.{position-map, is_some-position}
use Rattle.eo_io.proofs.path_table.Paths.find.Goals as goal

pub returns-clause-number : goal.returns-clause-number
returns-clause-number c =
    let path = c.args.path.now in
    c.get_index_of.ensures.index ∙ position-map (bytes_eq path) (λ p. p.items) c.self.inside.paths.keys ∙ ap (position (bytes_eq path)) c.self.view_is

pub returns-clause-there : goal.returns-clause-there
returns-clause-there c =
    let path = c.args.path.now in
    ap is_some (returns-clause-number c) ∙ is_some-position (bytes_eq path) c.args.self.now
