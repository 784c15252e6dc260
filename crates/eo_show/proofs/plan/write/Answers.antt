use Rattle.std.proofs.Common.{◌++◌, map, sym, ap₂, ◌∙◌, subst}
use Rattle.eo_sexp.specs.Printing.{printed_lines}
use Rattle.eo_sig.specs.Reading.{signature}
use Rattle.eo_show.specs.Lines.{line, name_in}
use Rattle.eo_show.specs.Numbers.{numbered}
use Rattle.eo_show.specs.Plan.{member_trees}
use Rattle.eo_show.specs.Sizes.{AreNamed}
use Rattle.eo_show.proofs.NumberedLines.{are-named}
use Rattle.eo_show.proofs.plan.write.Goals as goal

pub returns : goal.returns
returns c =
    let t = c.args.table.now in
    let S = signature t.trees c.args.sig.now in
    let us = member_trees t c.args.plan.now.members.found.keys in
    let ns = c.args.plan.now.numbers.items in
    let named = name_in (numbered us ns) in
    c.from_bytes.ensures
    ∙ c.in_ok-write_lines.ensures named (subst (λ ks. AreNamed us ks named) (sym c.as_slice.ensures.value) (are-named us ns c.laws.ensures))
    ∙ ap₂ (λ front ks. front ++ printed_lines (map (line S named) (numbered us ks))) c.new-out.ensures.items c.as_slice.ensures.value
