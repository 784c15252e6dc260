use Rattle.std.proofs.Common.{◌≡◌, length, map, Some, ◌∙◌, subst, rules}
use Rattle.eo_term.specs.Operators.{operator_named, arity}
use Rattle.eo_cert.specs.Stated.{terms_at}
use Rattle.eo_stated.specs.Checking.{GivesTerm, stated_of, low}
use Rattle.eo_term.specs.Terms.{tree_at, trees_at}
use Rattle.eo_term.specs.declared.OpCode.{OpCode}
use Rattle.eo_term.specs.Tree.{Op}
use Rattle.eo_cert.specs.Terms.{by_parts}
use Rattle.eo_lines.specs.Lines.{OfOperator}
use Rattle.eo_stated.proofs.TermLines.{gives_as, operator_parts}
use Rattle.eo_stated.proofs.checker.Checker.operator.Goals as goal

pub returns-clause-gives : goal.returns-clause-gives
returns-clause-gives c =
    let st = stated_of c.args.self.now in
    let ts = c.args.self.now.table.trees in
    let e : Some c.in-Some.op ≡ operator_named c.args.name.now = search rules in
    let f : Some (map (tree_at ts) c.in-Some-2.ids.items) ≡ terms_at st c.args.args.now = search rules in
    let h : length c.in-Some-2.ids.items ≡ arity c.in-Some.op = search rules in
    let same = operator_parts st c.args.name.now c.args.args.now ts c.in-Some-2.ids.items c.in-Some.op e f h in
    let r = subst (λ is. GivesTerm c.intern_op.new.self.table c.intern_op.result (low (Some (Op (OpCode.Builtin c.in-Some.op) (trees_at ts is))))) c.deref.ensures.value c.intern_op.ensures.gives in
    gives_as c.intern_op.new.self.table c.intern_op.result (by_parts st (OfOperator c.args.name.now c.args.args.now)) (Some (Op (OpCode.Builtin c.in-Some.op) (trees_at ts c.in-Some-2.ids.items))) same r
