use Rattle.std.proofs.Common.{◌≤◌}
use Rattle.std.proofs.lemmas.List.Filters.{FiltersInPlace}
use Rattle.eo_type.specs.Known.{is_before}
use Rattle.eo_type.proofs.known.gather.Given as goal

abbrev pub invariant-loop-at : goal.invariant-loop-at
invariant-loop-at l = record {
  filters : FiltersInPlace (is_before l.terms) l.fn.types.entries l.types.entries l.end l.at;
  from : l.start ≤ l.end;
}
