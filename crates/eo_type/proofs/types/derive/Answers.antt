use Rattle.std.proofs.Common.{sym, ap, ◌∙◌, subst, arith}
use Rattle.eo_lit.specs.declared.LiteralClass.TheVariants.{Numeral, Binary, String}
use Rattle.eo_sig.specs.Reading.{signature}
use Rattle.eo_sig.specs.Signature.{literal_type}
use Rattle.eo_type.specs.Known.{type_at}
use Rattle.eo_type.specs.Outcomes.{Gives}
use Rattle.eo_type.specs.Types.{literal_type_at, type_of}
use Rattle.eo_type.proofs.TypeWalk.{step_on}
use Rattle.eo_type.proofs.types.derive.Goals as goal

pub returns-in-Var-clause-gives : goal.returns-in-Var-clause-gives
returns-in-Var-clause-gives c = step_on _ _ _ _ _ _ _ _ _ (let l = c.in-Var.ensures.parts in omega (arith, l)) (ap (type_of (signature c.args.table.now.trees c.args.sig.now)) c.in-Var.ensures.tree) c.variable_step.ensures

pub returns-in-App-clause-gives : goal.returns-in-App-clause-gives
returns-in-App-clause-gives c = step_on _ _ _ _ _ _ _ _ _ (let l = c.in-App.ensures.parts in omega (arith, l.0, l.1)) (ap (type_of (signature c.args.table.now.trees c.args.sig.now)) c.in-App.ensures.tree) c.application_step.ensures.gives

pub returns-in-Arr-clause-gives : goal.returns-in-Arr-clause-gives
returns-in-Arr-clause-gives c = step_on _ _ _ _ _ _ _ _ _ (let l = c.in-Arr.ensures.parts in omega (arith, l.0, l.1)) (ap (type_of (signature c.args.table.now.trees c.args.sig.now)) c.in-Arr.ensures.tree) c.function_step.ensures

pub returns-in-Par-clause-gives : goal.returns-in-Par-clause-gives
returns-in-Par-clause-gives c = ap (type_of (signature c.args.table.now.trees c.args.sig.now)) (sym c.in-Par.ensures.tree)

pub returns-in-Qar-clause-gives : goal.returns-in-Qar-clause-gives
returns-in-Qar-clause-gives c = ap (type_of (signature c.args.table.now.trees c.args.sig.now)) (sym c.in-Qar.ensures.tree)

pub returns-in-Op-clause-gives : goal.returns-in-Op-clause-gives
returns-in-Op-clause-gives c = ap (type_of (signature c.args.table.now.trees c.args.sig.now)) (sym c.in-Op.ensures.tree)

pub returns-in-Num-clause-gives : goal.returns-in-Num-clause-gives
returns-in-Num-clause-gives c =
    let S = signature c.args.table.now.trees c.args.sig.now in
    c.type_step-in-Num.ensures c.args.sig.now c.args.table.now c.literal.new.table c.args.known.now c.args.id (type_at c.args.sig.now c.args.table.now c.args.id) (subst (Gives c.literal.new.table c.literal.result) (ap (literal_type_at (literal_type S Numeral)) (sym c.in-Num.ensures.tree) ∙ ap (type_of S) c.in-Num.ensures.tree) c.literal.ensures.gives)

pub returns-in-Bits-clause-gives : goal.returns-in-Bits-clause-gives
returns-in-Bits-clause-gives c =
    let S = signature c.args.table.now.trees c.args.sig.now in
    c.type_step-in-Bits.ensures c.args.sig.now c.args.table.now c.literal-in-Bits.new.table c.args.known.now c.args.id (type_at c.args.sig.now c.args.table.now c.args.id) (subst (Gives c.literal-in-Bits.new.table c.literal-in-Bits.result) (ap (literal_type_at (literal_type S Binary)) (sym c.in-Bits.ensures.tree) ∙ ap (type_of S) c.in-Bits.ensures.tree) c.literal-in-Bits.ensures.gives)

pub returns-in-Str-clause-gives : goal.returns-in-Str-clause-gives
returns-in-Str-clause-gives c =
    let S = signature c.args.table.now.trees c.args.sig.now in
    c.type_step-in-Str.ensures c.args.sig.now c.args.table.now c.literal-in-Str.new.table c.args.known.now c.args.id (type_at c.args.sig.now c.args.table.now c.args.id) (subst (Gives c.literal-in-Str.new.table c.literal-in-Str.result) (ap (literal_type_at (literal_type S String)) (sym c.in-Str.ensures.tree) ∙ ap (type_of S) c.in-Str.ensures.tree) c.literal-in-Str.ensures.gives)

pub returns-in-Con-clause-gives : goal.returns-in-Con-clause-gives
returns-in-Con-clause-gives c =
    let S = signature c.args.table.now.trees c.args.sig.now in
    c.type_step.ensures c.args.sig.now c.args.table.now c.args.table.now c.args.known.now c.args.id (type_at c.args.sig.now c.args.table.now c.args.id) (subst (λ u. Gives c.args.table.now c.declared_type.result (type_of S u)) c.in-Con.ensures.tree c.declared_type.ensures.gives)
