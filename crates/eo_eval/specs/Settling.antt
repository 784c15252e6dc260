-- Settling a type is evaluation, for the operators that declared types may hold.
use Rattle.std.specs.Prelude.{◌≡◌, true, false, if◌then◌else◌}
use Rattle.eo_term.specs.Tree.{Tree, is_value, is_closed, is_tall, may_be_type}
use Rattle.eo_sig.specs.Signature.{Signature}
use Rattle.eo_type.specs.Types.{Typed, settle}
use Rattle.eo_stack.specs.Evaluation.{Outcome, Value, Stuck, eval0}

-- The outcome of a tree that is evaluated to this one, if it is a value, and else is stuck.
abbrev pub value_or_stuck : Tree → Outcome Tree
value_or_stuck u = if is_value u then Value u else Stuck

-- Where a tree settles to one without parameters, it is evaluated to that.
abbrev pub SettlesAsEvaluated : Signature → Type 0
SettlesAsEvaluated S = (t u : Tree) → may_be_type t ≡ true → is_tall t ≡ false → settle t ≡ Typed u → is_closed u ≡ true → eval0 S t ≡ value_or_stuck u
