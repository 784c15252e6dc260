use Rattle.std.proofs.Common.{map, sym, ap, ◌∙◌}
use Rattle.eo_term.specs.Tree.{Op, is_tall}
use Rattle.eo_term.specs.Terms.{tree_at}
use Rattle.eo_type.proofs.Heights.{trees_of_list}
use Rattle.eo_type.proofs.SettleSteps.{open_op}
use Rattle.eo_type.proofs.settling.settled_op.Goals as goal

pub intern_low_op-requires-clause-low : goal.intern_low_op-requires-clause-low
intern_low_op-requires-clause-low c =
    ap (λ us. is_tall (Op c.args.code us)) (trees_of_list c.args.table.now.trees c.args.args.now) ∙ c.requires.low

pub returns : goal.returns
returns c =
    let ts = c.args.table.now.trees in
    record {
      gives = record {
        live = c.in_ok-intern_low_op.ensures.makes.live;
        typed = open_op c.args.code (map (tree_at ts) c.args.args.now) (tree_at c.intern_low_op.new.self.trees c.in_ok-intern_low_op.field-0) (sym c.are_closed.ensures ∙ c.if-are_closed.false)
            (c.in_ok-intern_low_op.ensures.makes.tree ∙ ap (Op c.args.code) (trees_of_list ts c.args.args.now));
      };
      grows = c.in_ok-intern_low_op.ensures.grows;
    }
