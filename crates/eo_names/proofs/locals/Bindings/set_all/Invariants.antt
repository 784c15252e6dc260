use Rattle.std.proofs.Common.{◌≡◌, length, take}
use Rattle.eo_names.specs.Names.{with_terms}
use Rattle.eo_names.proofs.locals.Bindings.set_all.Given as goal

-- so many terms are in their places
abbrev pub invariant-loop-i : goal.invariant-loop-i
invariant-loop-i l = record {
  count : length l.self ≡ length l.fn.self;
  names : l.self ≡ with_terms l.fn.self (take l.i l.ids);
}
