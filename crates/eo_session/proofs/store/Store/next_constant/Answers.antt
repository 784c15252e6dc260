use Rattle.std.proofs.Common.{ap, ◌∙◌}
use Rattle.eo_term.specs.Tree.{Con}
use Rattle.eo_session.proofs.Holding.{keeps_table}
use Rattle.eo_session.proofs.store.Store.next_constant.Goals as goal

pub returns-in-Ok-clause-term : goal.returns-in-Ok-clause-term
returns-in-Ok-clause-term c = record {
  live = c.in-Ok.ensures.interned.live;
  tree = c.in-Ok.ensures.interned.tree ∙ ap Con c.constants-number.ensures.count;
}

pub returns-in-Ok-clause-keeps : goal.returns-in-Ok-clause-keeps
returns-in-Ok-clause-keeps c =
    let h = c.args.self.now in
    let t = c.intern.new.self in
    keeps_table h c.requires t (c.growth_law.ensures.stays h.signature h.table t c.requires.store.signature c.intern.ensures.grows.now) c.intern.ensures.grows
