use Rattle.std.proofs.Common.{ℕ, nat_eq, List, Some, if◌then◌else◌, ap, ◌∙◌}
use Rattle.eo_term.specs.Memo.{told}
use Rattle.eo_term.proofs.memo.Memo.keep.Goals as goal

pub returns : goal.returns
returns c = λ k. c.in_ok-insert.ensures.updates.0 k ∙ ap (λ (m : List (ℕ × ℕ)). if nat_eq c.args.id k then Some c.args.found else told m k) c.self.view_is
