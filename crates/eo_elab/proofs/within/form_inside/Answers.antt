use Rattle.std.proofs.Common.{◌≡◌, ◌++◌, subst, rules}
use Rattle.eo_names.specs.declared.scope.Scope.{the_lemmas}
use Rattle.eo_names.specs.declared.scope as declared
use Rattle.eo_names.specs.Names.{bound_by}
use Rattle.eo_names.specs.Scopes.{bound_in, file_kind_in}
use Rattle.eo_names.specs.Worlds.{world_of}
use Rattle.eo_elab.specs.Gives.{FormsList}
use Rattle.eo_elab.specs.Waiting.{inside}
use Rattle.eo_elab.specs.Worlds.{place, in_file_kind}
use Rattle.eo_elab.proofs.within.form_inside.Goals as goal

pub returns-clause-form : goal.returns-clause-form
returns-clause-form c =
    let names : bound_in (declared.Scope.Within c.args.blocks c.args.scope) ≡ bound_by c.args.blocks.now ++ bound_in c.args.scope.now = search (rules, the_lemmas) in
    let kind : file_kind_in (declared.Scope.Within c.args.blocks c.args.scope) ≡ file_kind_in c.args.scope.now = search (rules, the_lemmas) in
    let t = c.args.table.now in
    let there : place t c.args.sig.now (declared.Scope.Within c.args.blocks c.args.scope) ≡ inside t c.args.sig.now c.args.scope.now c.args.blocks.now = λ i. in_file_kind (kind i) (world_of t c.args.sig.now (names i)) in
    subst (λ w. FormsList w t c.args.head.now c.args.args.now c.form_of.result) there c.form_of.ensures.form
