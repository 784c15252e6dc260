use Rattle.std.proofs.Common.{◌≡◌, sym, ◌∙◌}
use Rattle.std.specs.Prelude.{◌||◌}
use Rattle.std.proofs.lemmas.List.Folds.{list_any-append}
use Rattle.eo_term.specs.Growth.{tree_in}
use Rattle.eo_term.specs.Tree.{tree_eq}
use Rattle.eo_cert.specs.Stated.{assertions}
use Rattle.eo_stated.specs.Checking.{stated_of, context_of}
use Rattle.eo_stated.proofs.checker.Checker.is_in_force.Goals as goal

pub returns : goal.returns
returns c =
    let old = c.args.self.now in
    let st = stated_of old in
    (λ i. c.is_assumed-assumed.ensures i || c.is_asserted-asserted.ensures i)
    ∙ sym (list_any-append (tree_eq (tree_in old.table c.args.id)) (context_of st.contexts c.args.context).assumed (assertions st))
