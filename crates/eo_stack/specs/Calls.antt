-- The arguments of a call as a list.
use Rattle.std.specs.Prelude.{ℕ, List}
use Rattle.eo_stack.specs.declared.calls.Held.{Held}
use Rattle.eo_stack.specs.declared.calls.Held.TheVariants as held

abbrev pub ids_of : Held → List ℕ
ids_of (held.One is) = is
ids_of (held.Two is) = is
ids_of (held.Three is) = is
ids_of (held.Many v) = v.value.items
