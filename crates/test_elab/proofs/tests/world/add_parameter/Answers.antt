use Rattle.std.proofs.Common.{◌<◌, length, sym, subst, arith}
use Rattle.std.proofs.lemmas.List.Elements.{All-cons, All-weaker}
use Rattle.eo_names.specs.Names.{local, AreBelow}
use Rattle.eo_names.specs.declared.locals.LocalName.{LocalName}
use Rattle.test_elab.proofs.tests.world.add_parameter.Goals as goal

-- the new name is below the table, and those before it stay so
pub returns-clause-below : goal.returns-clause-below
returns-clause-below c =
    let n = length c.args.table.now.trees in
    let m = length c.intern_low.new.self.trees in
    let before = All-weaker (λ (l : LocalName). l.id < n) (λ (l : LocalName). l.id < m) (λ l h. omega (arith, h, c.in_ok-id.ensures.grows.now.more_trees)) c.args.locals.now c.requires.below in
    subst (AreBelow m) (sym c.in_ok-add.ensures.added)
    (All-cons (λ (l : LocalName). l.id < m) (local c.args.name.now c.in_ok-id.id c.args.list) c.args.locals.now c.in_ok-id.ensures.makes.live before)
