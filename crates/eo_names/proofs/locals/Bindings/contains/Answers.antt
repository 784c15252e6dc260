use Rattle.std.proofs.Common.{ap, sym, ◌∙◌}
use Rattle.eo_names.specs.Names.{names_in}
use Rattle.eo_names.proofs.BindingLemmas.{named_pairs}
use Rattle.eo_names.proofs.Bound.{lookup_names}
use Rattle.eo_names.proofs.locals.Bindings.contains.Goals as goal

pub returns-clause-bound : goal.returns-clause-bound
returns-clause-bound c =
    let name = c.args.name.now in
    c.contains_key.ensures ∙ lookup_names name c.self.inside.names.entries ∙ ap (λ bs. names_in bs name) c.self.view_is

pub returns-clause-read : goal.returns-clause-read
returns-clause-read c = λ ts. returns-clause-bound c ∙ sym (named_pairs ts c.args.self.now c.args.name.now)
