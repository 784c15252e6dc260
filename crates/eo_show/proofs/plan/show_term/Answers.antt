use Rattle.std.proofs.Common.{[], length, sym, ap, ◌∙◌, subst}
use Rattle.std.proofs.lemmas.List.{length-map}
use Rattle.eo_sexp.specs.Printing.{printed_lines}
use Rattle.eo_sig.specs.Reading.{signature, macros}
use Rattle.eo_term.specs.Terms.{tree_at}
use Rattle.eo_show.specs.declared.members.Members.{Members}
use Rattle.eo_show.specs.Lines.{lines_of}
use Rattle.eo_show.specs.Numbers.{numbered}
use Rattle.eo_show.specs.Plan.{member_tree, member_trees}
use Rattle.eo_show.specs.Sizes.{gets_line}
use Rattle.eo_show.specs.Written.{Ordered}
use Rattle.eo_show.proofs.AllMembers.{are-members}
use Rattle.eo_show.proofs.NumberedLines.{numbers-for, shown-is}
use Rattle.eo_show.proofs.plan.show_term.Goals as goal

pub plan_of-requires-clause-ordered : goal.plan_of-requires-clause-ordered
plan_of-requires-clause-ordered c =
    let t = c.args.table.now in
    let S = signature t.trees c.args.sig.now in
    subst (Ordered S []) (sym c.in_ok-members.ensures.found) (are-members S (tree_at t.trees c.args.id) c.requires.value).ordered

pub write-requires-clause-ordered : goal.write-requires-clause-ordered
write-requires-clause-ordered c =
    let t = c.args.table.now in
    let S = signature t.trees c.args.sig.now in
    let found = sym (ap (λ (m : Members). member_trees t m.found.keys) c.in_ok-plan.ensures.members ∙ c.in_ok-members.ensures.found) in
    subst (Ordered S []) found (are-members S (tree_at t.trees c.args.id) c.requires.value).ordered

pub write-requires-clause-numbers : goal.write-requires-clause-numbers
write-requires-clause-numbers c =
    let t = c.args.table.now in
    let S = signature t.trees c.args.sig.now in
    let u = tree_at t.trees c.args.id in
    let ms = c.in_ok-members.members.found.keys in
    let us = member_trees t ms in
    numbers-for S (macros t.trees c.args.sig.now) t ms us (gets_line S us u) c.in_ok-plan.plan.numbers.items (length-map ms (member_tree t)) (c.in_ok-plan.ensures.numbers u c.in_ok-members.ensures.found)
    ∙ ap (λ (m : Members). length m.found.keys) (sym c.in_ok-plan.ensures.members)

pub returns-clause-shown : goal.returns-clause-shown
returns-clause-shown c =
    let t = c.args.table.now in
    let S = signature t.trees c.args.sig.now in
    let u = tree_at t.trees c.args.id in
    let us = member_trees t c.in_ok-members.members.found.keys in
    let ns = c.in_ok-plan.plan.numbers.items in
    c.in_ok-write.ensures
    ∙ ap (λ (m : Members). printed_lines (lines_of S (numbered (member_trees t m.found.keys) ns))) c.in_ok-plan.ensures.members
    ∙ shown-is S (macros t.trees c.args.sig.now) u us ns c.in_ok-members.ensures.found (c.in_ok-plan.ensures.numbers u c.in_ok-members.ensures.found)
