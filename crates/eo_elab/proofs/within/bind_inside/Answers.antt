use Rattle.std.proofs.Common.{◌≡◌, ◌++◌, subst, rules}
use Rattle.eo_names.specs.declared.scope.Scope.{the_lemmas}
use Rattle.eo_names.specs.declared.scope as declared
use Rattle.eo_names.specs.Names.{bound_by}
use Rattle.eo_names.specs.Scopes.{bound_in, file_kind_in}
use Rattle.eo_names.specs.Worlds.{world_of, bound_list_in, seen_in}
use Rattle.eo_names.specs.Gives.{GivesTerm as GivesNone}
use Rattle.eo_elab.proofs.within.bind_inside.Goals as goal

pub returns-clause-gives : goal.returns-clause-gives
returns-clause-gives c =
    let names : bound_in (declared.Scope.Within c.args.blocks c.args.scope) ≡ bound_by c.args.blocks.now ++ bound_in c.args.scope.now = search (rules, the_lemmas) in
    let kind : file_kind_in (declared.Scope.Within c.args.blocks c.args.scope) ≡ file_kind_in c.args.scope.now = search (rules, the_lemmas) in
    let t = c.args.table.now in
    subst (λ ls. GivesNone c.bind.new.table c.bind.result (bound_list_in (world_of t c.args.sig.now ls) c.args.collector (seen_in t c.args.names.now))) names c.bind.ensures.gives
