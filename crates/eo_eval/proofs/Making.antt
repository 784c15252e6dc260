-- A body that is made, with what is held put in.
use Rattle.std.specs.Prelude.{◌≡◌, ℕ, true, Option, Some, Result, Ok, Err, IfOk}
use Rattle.std.proofs.Common.{sym, ◌∙◌, ap}
use Rattle.eo_term.specs.Refused.{IsTall}
use Rattle.eo_term.specs.Terms.{Terms}
use Rattle.eo_term.specs.Tree.{Tree, is_tall}
use Rattle.eo_term.specs.declared.table.TermRefused.{TermRefused}
use Rattle.eo_term.specs.declared.table.TermRefused.TheVariants as term
use Rattle.eo_pattern.specs.Slots.{Slots, held}
use Rattle.eo_pattern.specs.Steps.{put_in, IsMade}
use Rattle.eo_stack.specs.Bodies.{MakesBody}

pub makes_body : (old new : Terms) (s : Slots) (i : ℕ) (r : Result ℕ TermRefused) (body : Option Tree) → body ≡ Some (put_in old s i) → IfOk r (IsMade (held old.trees s) old.trees i new.trees) → (IsTall r → is_tall (put_in old s i) ≡ true) → MakesBody new r body
makes_body old new s i (Ok v) body is made tall = record { live = made.live; tree = is ∙ ap Some (sym made.tree); low = ap is_tall made.tree ∙ made.low }
makes_body old new s i (Err term.Tall) body is made tall = (put_in old s i, (is, tall tt))
makes_body old new s i (Err (term.Memory e)) body is made tall = tt
