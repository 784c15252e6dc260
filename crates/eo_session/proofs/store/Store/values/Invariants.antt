use Rattle.std.proofs.Common.{◌≡◌}
use Rattle.eo_base.proofs.ChecksLemmas.{behind}
use Rattle.eo_term.specs.Growth.{trees_in}
use Rattle.eo_session.specs.Store.{state_of, Keeps}
use Rattle.eo_session.specs.Step.{values}
use Rattle.eo_session.specs.Using.{AreValueIds}
use Rattle.eo_session.proofs.store.Store.values.Given as goal

-- the values found so far, and then those of the terms that are left, are those of all
abbrev pub invariant-loop-s : goal.invariant-loop-s
invariant-loop-s l =
    record {
      left : values (state_of l.fn.self) l.terms ≡ behind (trees_in l.self.table l.ids) (values (state_of l.fn.self) l.s-iterator);
      ids : AreValueIds l.self.table l.ids;
      keeps : Keeps l.fn.self l.self;
    }
