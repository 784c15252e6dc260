use Rattle.std.proofs.Common.{◌≡◌, ◌++◌, subst, rules}
use Rattle.eo_names.specs.declared.scope.Scope.{the_lemmas}
use Rattle.eo_names.specs.declared.scope as declared
use Rattle.eo_names.specs.Names.{bound_by}
use Rattle.eo_names.specs.Scopes.{bound_in, file_kind_in}
use Rattle.eo_names.specs.Worlds.{world_of}
use Rattle.eo_names.specs.Gives.{GivesTree}
use Rattle.eo_elab.specs.Gives.{atom_told}
use Rattle.eo_elab.specs.Waiting.{inside}
use Rattle.eo_elab.specs.Worlds.{place, in_file_kind}
use Rattle.eo_elab.proofs.within.atom_inside.Goals as goal

pub returns-clause-gives : goal.returns-clause-gives
returns-clause-gives c =
    let names : bound_in (declared.Scope.Within c.args.blocks c.args.scope) ≡ bound_by c.args.blocks.now ++ bound_in c.args.scope.now = search (rules, the_lemmas) in
    let kind : file_kind_in (declared.Scope.Within c.args.blocks c.args.scope) ≡ file_kind_in c.args.scope.now = search (rules, the_lemmas) in
    let t = c.args.table.now in
    let there : place t c.args.sig.now (declared.Scope.Within c.args.blocks c.args.scope) ≡ inside t c.args.sig.now c.args.scope.now c.args.blocks.now = λ i. in_file_kind (kind i) (world_of t c.args.sig.now (names i)) in
    subst (λ w. GivesTree c.atom.new.table c.atom.result (atom_told w c.args.kind c.args.text.now)) there c.atom.ensures.gives
