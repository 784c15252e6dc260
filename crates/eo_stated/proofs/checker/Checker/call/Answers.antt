use Rattle.std.proofs.Common.{◌≡◌, length, map, Some, ◌∙◌, subst, arith, rules}
use Rattle.std.specs.Prelude.{option_map}
use Rattle.eo_sig.specs.Signature.{program_at}
use Rattle.eo_cert.specs.Stated.{terms_at, signature}
use Rattle.eo_stated.specs.Checking.{GivesTerm, stated_of, low}
use Rattle.eo_term.specs.Terms.{tree_at, trees_at}
use Rattle.eo_term.specs.declared.OpCode.{OpCode}
use Rattle.eo_term.specs.Tree.{Op}
use Rattle.eo_cert.specs.Terms.{by_parts}
use Rattle.eo_lines.specs.Lines.{OfCall}
use Rattle.eo_stated.proofs.TermLines.{gives_as, call_parts}
use Rattle.eo_stated.proofs.checker.Checker.call.Goals as goal

pub returns-clause-gives : goal.returns-clause-gives
returns-clause-gives c =
    let st = stated_of c.args.self.now in
    let ts = c.args.self.now.table.trees in
    let e : Some c.in-Some.count ≡ option_map (λ d. length d.inputs) (program_at (signature st) c.args.program) = search rules in
    let f : Some (map (tree_at ts) c.in-Some-2.ids.items) ≡ terms_at st c.args.args.now = search rules in
    let h : length c.in-Some-2.ids.items ≡ c.in-Some.count = omega arith in
    let same = call_parts st c.args.program c.args.args.now ts c.in-Some-2.ids.items c.in-Some.count e f h in
    let r = subst (λ is. GivesTerm c.intern_op.new.self.table c.intern_op.result (low (Some (Op (OpCode.Prog c.args.program) (trees_at ts is))))) c.deref.ensures.value c.intern_op.ensures.gives in
    gives_as c.intern_op.new.self.table c.intern_op.result (by_parts st (OfCall c.args.program c.args.args.now)) (Some (Op (OpCode.Prog c.args.program) (trees_at ts c.in-Some-2.ids.items))) same r
