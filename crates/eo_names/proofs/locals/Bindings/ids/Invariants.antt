use Rattle.std.proofs.Common.{◌≡◌, ◌++◌, map}
use Rattle.eo_names.specs.Names.{Binding}
use Rattle.eo_names.proofs.locals.Bindings.ids.Given as goal

abbrev pub invariant-loop-id : goal.invariant-loop-id
invariant-loop-id l = l.ids ++ l.id-iterator ≡ map (λ (b : Binding). b.1) l.fn.self
