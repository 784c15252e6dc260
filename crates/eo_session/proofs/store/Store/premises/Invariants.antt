use Rattle.std.proofs.Common.{◌≡◌}
use Rattle.eo_base.proofs.ChecksLemmas.{behind}
use Rattle.eo_term.specs.Growth.{trees_in}
use Rattle.eo_session.specs.Store.{state_of}
use Rattle.eo_session.specs.Step.{premises}
use Rattle.eo_session.specs.Using.{AreValueIds}
use Rattle.eo_session.proofs.store.Store.premises.Given as goal

-- the facts found so far, and then those of the names that are left, are those of all
abbrev pub invariant-loop-name : goal.invariant-loop-name
invariant-loop-name l =
    record {
      left : premises (state_of l.self) l.names ≡ behind (trees_in l.self.table l.ids) (premises (state_of l.self) l.name-iterator);
      ids : AreValueIds l.self.table l.ids;
    }
