use Rattle.std.proofs.Common.{refl}
use Rattle.eo_term.specs.declared.nodes.Nodes.{Nodes}
use Rattle.eo_term.proofs.Keys.{known_key, more_same, more_literals, more_lists}
use Rattle.eo_term.proofs.nodes.Nodes.key_of.Goals as goal

pub returns-in-Known-clause-more : goal.returns-in-Known-clause-more
returns-in-Known-clause-more c = more_same c.args.self.now c.requires.kept

pub returns-in-Known-clause-key : goal.returns-in-Known-clause-key
returns-in-Known-clause-key c = known_key c.args.self.now c.args.node.now c.args.args.now c.args.args.now c.in-Known.key c.in-Known.ensures.0 c.in-Known.ensures.1 refl

pub returns-in_err-number-in-Literal-clause-more : goal.returns-in_err-number-in-Literal-clause-more
returns-in_err-number-in-Literal-clause-more c =
    let m : Nodes = c.args.self.now in
    let n : Nodes = record { keys = m.keys; literals = c.number_literal.new.literals; lists = m.lists } in
    more_literals m n c.len-terms.result c.requires.kept refl refl c.len-terms.ensures.len c.number_literal.ensures.more c.number_literal.ensures.wide

pub returns-in_ok-number-in-Literal-clause-more : goal.returns-in_ok-number-in-Literal-clause-more
returns-in_ok-number-in-Literal-clause-more c =
    let m : Nodes = c.args.self.now in
    let n : Nodes = record { keys = m.keys; literals = c.number_literal.new.literals; lists = m.lists } in
    more_literals m n c.len-terms.result c.requires.kept refl refl c.len-terms.ensures.len c.number_literal.ensures.more c.number_literal.ensures.wide

pub returns-in_err-number-in-Applied-clause-more : goal.returns-in_err-number-in-Applied-clause-more
returns-in_err-number-in-Applied-clause-more c =
    let m : Nodes = c.args.self.now in
    let n : Nodes = record { keys = m.keys; literals = m.literals; lists = c.number_copy.new.lists } in
    more_lists m n c.len-terms.result c.requires.kept refl refl c.len-terms.ensures.len c.number_copy.ensures.more

pub returns-in_ok-number-in-Applied-clause-more : goal.returns-in_ok-number-in-Applied-clause-more
returns-in_ok-number-in-Applied-clause-more c =
    let m : Nodes = c.args.self.now in
    let n : Nodes = record { keys = m.keys; literals = m.literals; lists = c.number_copy.new.lists } in
    more_lists m n c.len-terms.result c.requires.kept refl refl c.len-terms.ensures.len c.number_copy.ensures.more
