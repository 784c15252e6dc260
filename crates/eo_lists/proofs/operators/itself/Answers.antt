use Rattle.std.proofs.Common.{List, not, Some, is_some, sym, ap, ◌∙◌}
use Rattle.std.specs.Prelude.{option_map}
use Rattle.eo_term.specs.Terms.{tree_at}
use Rattle.eo_term.specs.Tree.{Tree}
use Rattle.eo_lists.specs.Lists.{spell}
use Rattle.eo_lists.proofs.Spell.{spelled_by}
use Rattle.eo_lists.proofs.operators.itself.Goals as goal

pub returns : goal.returns
returns c =
    let t = c.args.table.now in
    let f : Tree = tree_at t.trees c.args.form.now.fun in
    let n : Tree = tree_at t.trees c.args.form.now.end in
    let q = spelled_by f n (tree_at t.trees c.args.list) (ap is_some (sym c.length_of.ensures) ∙ c.is_none.ensures ∙ ap not c.if-is_none.false) in
    record { live = c.requires.list; value = ap (option_map (λ (us : List Tree). spell f n us)) q.1 ∙ ap Some q.2 }
