use Rattle.std.proofs.Common.{rules, refl}
use Rattle.eo_term.specs.Terms.{tree_at}
use Rattle.eo_term.specs.Tree.{App, Arr, Qar}
use Rattle.eo_term.proofs.Growing.{grows_refl}
use Rattle.eo_type.proofs.SettleParts.{leaf_settled, next_type, var_settled, next_first, next_second, two_settled}
use Rattle.eo_type.proofs.SettleSteps.{gives_step_stop, var_low, app_low, arr_low, qar_low}
use Rattle.eo_type.proofs.settling.settle_node.Goals as goal

pub intern_low-requires-clause-low : goal.intern_low-requires-clause-low
intern_low-requires-clause-low c =
    var_low (tree_at c.args.table.now.trees c.args.id) _ _ _ c.in-Var.ensures.tree c.in-Some.ensures.typed (c.laws.ensures.low c.args.id c.requires.live)

pub intern_low-requires-in-App-clause-low : goal.intern_low-requires-in-App-clause-low
intern_low-requires-in-App-clause-low c =
    app_low (tree_at c.args.table.now.trees c.args.id) _ _ _ _ c.in-App.ensures.tree c.in-Some-part_settled.ensures.typed c.in-Some-part_settled-2.ensures.typed (c.laws.ensures.low c.args.id c.requires.live)

pub intern_low-requires-in-Arr-clause-low : goal.intern_low-requires-in-Arr-clause-low
intern_low-requires-in-Arr-clause-low c =
    arr_low (tree_at c.args.table.now.trees c.args.id) _ _ _ _ c.in-Arr.ensures.tree c.in-Some-part_settled-3.ensures.typed c.in-Some-part_settled-4.ensures.typed (c.laws.ensures.low c.args.id c.requires.live)

pub intern_low-requires-in-Qar-clause-low : goal.intern_low-requires-in-Qar-clause-low
intern_low-requires-in-Qar-clause-low c =
    qar_low (tree_at c.args.table.now.trees c.args.id) _ _ _ _ c.in-Qar.par c.in-Qar.ensures.tree c.in-Some-part_settled-5.ensures.typed c.in-Some-part_settled-6.ensures.typed (c.laws.ensures.low c.args.id c.requires.live)

pub returns-in_default-clause-gives : goal.returns-in_default-clause-gives
returns-in_default-clause-gives c = next_type _ _ _ _ c.in-Var.ensures.tree _ c.in-Var.ensures.parts (search rules)

pub returns-in_default-clause-grows : goal.returns-in_default-clause-grows
returns-in_default-clause-grows c = grows_refl c.args.table.now

pub returns-in_err-made-in-Var-clause-gives : goal.returns-in_err-made-in-Var-clause-gives
returns-in_err-made-in-Var-clause-gives c = gives_step_stop c.args.table.now c.intern_low.new.self c.args.memo.now c.args.id _ _ c.from_residual.ensures.1 tt

pub returns-in_ok-made-in-Var-clause-gives : goal.returns-in_ok-made-in-Var-clause-gives
returns-in_ok-made-in-Var-clause-gives c = var_settled _ _ _ _ c.in-Var.ensures.tree _ _ _ c.in-Some.ensures c.in_ok-made-in-Var.ensures.makes

pub returns-in_default-part_settled-clause-gives : goal.returns-in_default-part_settled-clause-gives
returns-in_default-part_settled-clause-gives c = next_first _ _ App _ _ c.in-App.ensures.tree (λ a b. refl) _ c.in-App.ensures.parts.0 (search rules)

pub returns-in_default-part_settled-clause-grows : goal.returns-in_default-part_settled-clause-grows
returns-in_default-part_settled-clause-grows c = grows_refl c.args.table.now

pub returns-in_default-part_settled-2-clause-gives : goal.returns-in_default-part_settled-2-clause-gives
returns-in_default-part_settled-2-clause-gives c = next_second _ _ App _ _ c.in-App.ensures.tree (λ a b. refl) _ c.in-Some-part_settled.ensures _ c.in-App.ensures.parts.1 (search rules)

pub returns-in_default-part_settled-2-clause-grows : goal.returns-in_default-part_settled-2-clause-grows
returns-in_default-part_settled-2-clause-grows c = grows_refl c.args.table.now

pub returns-in_err-made-in-App-clause-gives : goal.returns-in_err-made-in-App-clause-gives
returns-in_err-made-in-App-clause-gives c = gives_step_stop c.args.table.now c.intern_low-in-App.new.self c.args.memo.now c.args.id _ _ c.from_residual-in_err-made-in-App.ensures.1 tt

pub returns-in_ok-made-in-App-clause-gives : goal.returns-in_ok-made-in-App-clause-gives
returns-in_ok-made-in-App-clause-gives c = two_settled _ _ App _ _ c.in-App.ensures.tree (λ a b. refl) _ c.in-Some-part_settled.ensures _ _ _ c.in-Some-part_settled-2.ensures c.in_ok-made-in-App.ensures.makes

pub returns-in_default-part_settled-3-clause-gives : goal.returns-in_default-part_settled-3-clause-gives
returns-in_default-part_settled-3-clause-gives c = next_first _ _ Arr _ _ c.in-Arr.ensures.tree (λ a b. refl) _ c.in-Arr.ensures.parts.0 (search rules)

pub returns-in_default-part_settled-3-clause-grows : goal.returns-in_default-part_settled-3-clause-grows
returns-in_default-part_settled-3-clause-grows c = grows_refl c.args.table.now

pub returns-in_default-part_settled-4-clause-gives : goal.returns-in_default-part_settled-4-clause-gives
returns-in_default-part_settled-4-clause-gives c = next_second _ _ Arr _ _ c.in-Arr.ensures.tree (λ a b. refl) _ c.in-Some-part_settled-3.ensures _ c.in-Arr.ensures.parts.1 (search rules)

pub returns-in_default-part_settled-4-clause-grows : goal.returns-in_default-part_settled-4-clause-grows
returns-in_default-part_settled-4-clause-grows c = grows_refl c.args.table.now

pub returns-in_err-made-in-Arr-clause-gives : goal.returns-in_err-made-in-Arr-clause-gives
returns-in_err-made-in-Arr-clause-gives c = gives_step_stop c.args.table.now c.intern_low-in-Arr.new.self c.args.memo.now c.args.id _ _ c.from_residual-in_err-made-in-Arr.ensures.1 tt

pub returns-in_ok-made-in-Arr-clause-gives : goal.returns-in_ok-made-in-Arr-clause-gives
returns-in_ok-made-in-Arr-clause-gives c = two_settled _ _ Arr _ _ c.in-Arr.ensures.tree (λ a b. refl) _ c.in-Some-part_settled-3.ensures _ _ _ c.in-Some-part_settled-4.ensures c.in_ok-made-in-Arr.ensures.makes

pub returns-in_default-part_settled-5-clause-gives : goal.returns-in_default-part_settled-5-clause-gives
returns-in_default-part_settled-5-clause-gives c = next_first _ _ (Qar c.in-Qar.par) _ _ c.in-Qar.ensures.tree (λ a b. refl) _ c.in-Qar.ensures.parts.0 (search rules)

pub returns-in_default-part_settled-5-clause-grows : goal.returns-in_default-part_settled-5-clause-grows
returns-in_default-part_settled-5-clause-grows c = grows_refl c.args.table.now

pub returns-in_default-part_settled-6-clause-gives : goal.returns-in_default-part_settled-6-clause-gives
returns-in_default-part_settled-6-clause-gives c = next_second _ _ (Qar c.in-Qar.par) _ _ c.in-Qar.ensures.tree (λ a b. refl) _ c.in-Some-part_settled-5.ensures _ c.in-Qar.ensures.parts.1 (search rules)

pub returns-in_default-part_settled-6-clause-grows : goal.returns-in_default-part_settled-6-clause-grows
returns-in_default-part_settled-6-clause-grows c = grows_refl c.args.table.now

pub returns-in_err-made-in-Qar-clause-gives : goal.returns-in_err-made-in-Qar-clause-gives
returns-in_err-made-in-Qar-clause-gives c = gives_step_stop c.args.table.now c.intern_low-in-Qar.new.self c.args.memo.now c.args.id _ _ c.from_residual-in_err-made-in-Qar.ensures.1 tt

pub returns-in_ok-made-in-Qar-clause-gives : goal.returns-in_ok-made-in-Qar-clause-gives
returns-in_ok-made-in-Qar-clause-gives c = two_settled _ _ (Qar c.in-Qar.par) _ _ c.in-Qar.ensures.tree (λ a b. refl) _ c.in-Some-part_settled-5.ensures _ _ _ c.in-Some-part_settled-6.ensures c.in_ok-made-in-Qar.ensures.makes

pub returns-in-Par-clause-gives : goal.returns-in-Par-clause-gives
returns-in-Par-clause-gives c = leaf_settled _ _ _ c.in-Par.ensures.tree refl c.requires.live

pub returns-in-Par-clause-grows : goal.returns-in-Par-clause-grows
returns-in-Par-clause-grows c = grows_refl c.args.table.now

pub returns-in-Con-clause-gives : goal.returns-in-Con-clause-gives
returns-in-Con-clause-gives c = leaf_settled _ _ _ c.in-Con.ensures.tree refl c.requires.live

pub returns-in-Con-clause-grows : goal.returns-in-Con-clause-grows
returns-in-Con-clause-grows c = grows_refl c.args.table.now

pub returns-in-Num-clause-gives : goal.returns-in-Num-clause-gives
returns-in-Num-clause-gives c = leaf_settled _ _ _ c.in-Num.ensures.tree refl c.requires.live

pub returns-in-Num-clause-grows : goal.returns-in-Num-clause-grows
returns-in-Num-clause-grows c = grows_refl c.args.table.now

pub returns-in-Bits-clause-gives : goal.returns-in-Bits-clause-gives
returns-in-Bits-clause-gives c = leaf_settled _ _ _ c.in-Bits.ensures.tree refl c.requires.live

pub returns-in-Bits-clause-grows : goal.returns-in-Bits-clause-grows
returns-in-Bits-clause-grows c = grows_refl c.args.table.now

pub returns-in-Str-clause-gives : goal.returns-in-Str-clause-gives
returns-in-Str-clause-gives c = leaf_settled _ _ _ c.in-Str.ensures.tree refl c.requires.live

pub returns-in-Str-clause-grows : goal.returns-in-Str-clause-grows
returns-in-Str-clause-grows c = grows_refl c.args.table.now
