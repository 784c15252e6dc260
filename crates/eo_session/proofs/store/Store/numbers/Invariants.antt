use Rattle.std.proofs.Common.{◌≡◌, ◌++◌}
use Rattle.eo_session.specs.Store.{state_of}
use Rattle.eo_session.specs.Notes.{numbers_of}
use Rattle.eo_session.proofs.store.Store.numbers.Given as goal

-- the numbers found so far, and then those of the names that are left, are those of all
abbrev pub invariant-loop-name : goal.invariant-loop-name
invariant-loop-name l = l.numbers ++ numbers_of (state_of l.self) l.name-iterator ≡ numbers_of (state_of l.self) l.names
