use Rattle.std.proofs.Common.{Bor, ℕ, List, ◌∙◌}
use Rattle.eo_sem.proofs.Keeping.{kept_by}
use Rattle.eo_sem.proofs.suite_rules.keeps_truth.Goals as goal

abbrev text : Bor (List ℕ) → List ℕ
text w = w.now

pub returns : goal.returns
returns c =
    c.is_listed.ensures ∙ kept_by text text c.rules.result.now c.semantic.result.now c.rules.ensures c.semantic.ensures c.args.rule
