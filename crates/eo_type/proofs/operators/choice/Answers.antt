use Rattle.std.proofs.Common.{if◌then◌else◌, sym, ap, ◌∙◌, subst}
use Rattle.eo_term.specs.Growth.{tree_in}
use Rattle.eo_term.specs.Tree.{Con, is_value, tree_eq}
use Rattle.eo_type.specs.Outcomes.{Gives}
use Rattle.eo_type.specs.Types.{Untyped, typed_if}
use Rattle.eo_type.proofs.operators.choice.Goals as goal

pub returns-then-is_constant : goal.returns-then-is_constant
returns-then-is_constant c =
    let t = c.args.table.now in
    let yes = typed_if (is_value (tree_in t c.args.yes)) (tree_in t c.args.yes) in
    let no = typed_if (is_value (tree_in t c.args.no)) (tree_in t c.args.no) in
    let is_false = tree_eq (tree_in t c.args.condition) (Con 3) in
    record { gives = subst (Gives t c.if_value.result) (sym (ap (λ b. if b then yes else (if is_false then no else Untyped)) (sym c.is_constant.ensures ∙ c.if-is_constant.true))) c.if_value.ensures.gives }

pub returns-then-is_constant-2 : goal.returns-then-is_constant-2
returns-then-is_constant-2 c =
    let t = c.args.table.now in
    let yes = typed_if (is_value (tree_in t c.args.yes)) (tree_in t c.args.yes) in
    let no = typed_if (is_value (tree_in t c.args.no)) (tree_in t c.args.no) in
    let is_false = tree_eq (tree_in t c.args.condition) (Con 3) in
    let second = ap (λ b. if b then yes else (if is_false then no else Untyped)) (sym c.is_constant.ensures ∙ c.if-is_constant.false) ∙ ap (λ b. if b then no else Untyped) (sym c.is_constant-2.ensures ∙ c.if-is_constant-2.true) in
    record { gives = subst (Gives t c.if_value-then-is_constant-2.result) (sym second) c.if_value-then-is_constant-2.ensures.gives }
