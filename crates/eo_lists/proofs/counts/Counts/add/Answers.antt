use Rattle.std.proofs.Common.{ℕ, List, nat_eq, ◌+◌, Some, if◌then◌else◌, ap, ◌∙◌, arith}
use Rattle.std.specs.Map.{lookup}
use Rattle.eo_lists.proofs.ById.{count_more}
use Rattle.eo_lists.proofs.counts.Counts.add.Goals as goal

pub returns : goal.returns
returns c = λ k.
    count_more c.args.id k (c.of-before.result + 1) c.args.self.now _ (omega (arith, c.of-before.ensures))
    (c.in_ok-insert.ensures.updates.0 k ∙ ap (λ (m : List (ℕ × ℕ)). if nat_eq c.args.id k then Some (c.of-before.result + 1) else lookup (nat_eq k) m) c.self.view_is)
