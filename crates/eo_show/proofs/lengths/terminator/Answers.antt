use Rattle.std.proofs.Common.{length, arith}
use Rattle.eo_sig.specs.Reading.{signature, read_constant, ConstBelow}
use Rattle.eo_show.proofs.Items.{end_past, end_given}
use Rattle.eo_show.proofs.lengths.terminator.Goals as goal

pub returns-then-constant-constants : goal.returns-then-constant-constants
returns-then-constant-constants c = let S = signature c.args.table.now.trees c.args.sig.now in end_past S c.args.constant (omega (arith, c.constants.ensures.value c.args.table.now.trees))

pub returns : goal.returns
returns c =
    let t = c.args.table.now in
    let S = signature t.trees c.args.sig.now in
    end_given S t c.args.constant (read_constant t.trees c.constant.result.now) c.end_of.result (c.constant.ensures.value t.trees) (c.end_of.ensures.tree t.trees) (c.end_of.ensures.live (length t.trees) (ConstBelow.attribute (c.constant.ensures.below (length t.trees) c.requires)))
