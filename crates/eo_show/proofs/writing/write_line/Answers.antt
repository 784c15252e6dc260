use Rattle.std.proofs.Common.{◌++◌, slice_index_or, ap, ◌∙◌}
use Rattle.std.specs.Prelude.{codes}
use Rattle.eo_sexp.specs.Printing.{printed}
use Rattle.eo_sig.specs.Reading.{signature}
use Rattle.eo_term.specs.Tree.{height}
use Rattle.eo_show.specs.Lines.{line_name, written}
use Rattle.eo_show.specs.Plan.{member_trees}
use Rattle.eo_show.proofs.MembersAt.{at}
use Rattle.eo_show.proofs.WrittenLines.{line-printed}
use Rattle.eo_show.proofs.writing.write_line.Goals as goal

pub returns : goal.returns
returns c = λ named names.
    let t = c.args.table.now in
    let S = signature t.trees c.args.sig.now in
    let u = at (member_trees t c.args.members.now.found.keys) c.args.place in
    let n = slice_index_or c.args.numbers.now c.args.place 0 in
    let named_so = c.in_ok-print_name.ensures ∙ ap (λ xs. xs ++ line_name n) c.in_ok-extend_from_slice.ensures.items in
    let middle = c.in_ok-extend_from_slice-2.ensures.items ∙ ap (λ xs. xs ++ codes " () ") named_so in
    let body = c.in_ok-write_member.ensures named names ∙ ap (λ xs. xs ++ printed (written S (height u) named u)) middle in
    c.in_ok-extend_from_slice-3.ensures.items ∙ ap (λ xs. xs ++ codes ")\n") body ∙ line-printed S named n u c.args.out.now.items
