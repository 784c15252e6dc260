use Rattle.std.proofs.Common.{◌≡◌, drop}
use Rattle.eo_elab.specs.Worlds.{named_terms_in}
use Rattle.eo_session.specs.Asserting.{MayBeNames}
use Rattle.eo_session.specs.Store.{state_of, IsHeld}
use Rattle.eo_session.specs.Step.{with_named_terms}
use Rattle.eo_session.proofs.store.Store.add_names.Given as goal

-- with the names that are left, the state is that with all of them
abbrev pub invariant-loop-i : goal.invariant-loop-i
invariant-loop-i l =
    record {
      whole : IsHeld l.self;
      table : l.self.table ≡ l.fn.self.table;
      kept : l.self.kept ≡ l.fn.self.kept;
      left : with_named_terms (state_of l.self) (drop l.i (named_terms_in l.fn.self.table l.names)) ≡ with_named_terms (state_of l.fn.self) (named_terms_in l.fn.self.table l.names);
      may : MayBeNames (state_of l.self) (drop l.i (named_terms_in l.fn.self.table l.names));
    }
