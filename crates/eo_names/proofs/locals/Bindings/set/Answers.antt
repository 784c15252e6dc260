use Rattle.std.proofs.Common.{ap, ◌∙◌}
use Rattle.eo_names.specs.Names.{with_term}
use Rattle.eo_names.proofs.BinderLemmas.{set_seen}
use Rattle.eo_names.proofs.locals.Bindings.set.Goals as goal

pub returns : goal.returns
returns c = set_seen c.self.inside.names.entries c.args.i c.args.id ∙ ap (λ bs. with_term bs c.args.i c.args.id) c.self.view_is
