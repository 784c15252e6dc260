use Rattle.std.proofs.Common.{◌<◌, ◌∙◌, length, sym, ap, arith}
use Rattle.eo_base.specs.Limits.{calls_limit}
use Rattle.eo_term.specs.Arguments.{arguments_of}
use Rattle.eo_term.specs.Growth.{tree_in}
use Rattle.eo_term.specs.Terms.{arity}
use Rattle.eo_term.specs.declared.OpCode.TheVariants as code
use Rattle.eo_sig.specs.Reading.{signature}
use Rattle.eo_stack.specs.Scopes.{standing}
use Rattle.eo_eval.proofs.Entered.{op_kind, whole_put_op}
use Rattle.eo_eval.proofs.Frames.{choice_begins, require_begins, left_begins, tested_begins, strict_other}
use Rattle.eo_stack.proofs.Unchanged.{extends_same}
use Rattle.eo_eval.proofs.machine.Machine.enter_builtin.Goals as goal

pub begin-requires-clause-begins : goal.begin-requires-clause-begins
begin-requires-clause-begins c =
    let ts = c.args.table.now.trees in
    let live = c.requires.ready.stands.now_live in
    let low : c.arg-part.result < length ts = omega (arith, c.arg-part.ensures.older, live) in
    choice_begins (signature ts c.args.sig.now) calls_limit ts c.args.self.now.scope c.args.id c.arg-part.result c.args.left c.args.op live low c.arg-part.ensures.tree c.requires.operator (sym c.in-Ite.is) (c.requires.count ∙ ap arity c.in-Ite.is)

pub begin-requires-in-Requires-clause-begins : goal.begin-requires-in-Requires-clause-begins
begin-requires-in-Requires-clause-begins c =
    let ts = c.args.table.now.trees in
    let live = c.requires.ready.stands.now_live in
    let low : c.arg-part.result < length ts = omega (arith, c.arg-part.ensures.older, live) in
    require_begins (signature ts c.args.sig.now) calls_limit ts c.args.self.now.scope c.args.id c.arg-part.result c.args.left c.args.op live low c.arg-part.ensures.tree c.requires.operator (sym c.in-Requires.is) (c.requires.count ∙ ap arity c.in-Requires.is)

pub begin-requires-in-IsEq-clause-begins : goal.begin-requires-in-IsEq-clause-begins
begin-requires-in-IsEq-clause-begins c =
    let ts = c.args.table.now.trees in
    let live = c.requires.ready.stands.now_live in
    let low : c.arg-part.result < length ts = omega (arith, c.arg-part.ensures.older, live) in
    left_begins (signature ts c.args.sig.now) calls_limit ts c.args.self.now.scope c.args.id c.arg-part.result c.args.left c.args.op live low c.arg-part.ensures.tree c.requires.operator (sym c.in-IsEq.is) (c.requires.count ∙ ap arity c.in-IsEq.is)

pub begin-requires-in-IsOk-clause-begins : goal.begin-requires-in-IsOk-clause-begins
begin-requires-in-IsOk-clause-begins c =
    let ts = c.args.table.now.trees in
    let live = c.requires.ready.stands.now_live in
    let low : c.arg-part.result < length ts = omega (arith, c.arg-part.ensures.older, live) in
    tested_begins (signature ts c.args.sig.now) calls_limit ts c.args.self.now.scope c.args.id c.arg-part.result c.args.left c.args.op live low c.arg-part.ensures.tree c.requires.operator (sym c.in-IsOk.is) (c.requires.count ∙ ap arity c.in-IsOk.is)

pub enter_parts-requires-clause-node : goal.enter_parts-requires-clause-node
enter_parts-requires-clause-node c =
    let t = tree_in c.args.table.now c.args.id in
    op_kind (code.Builtin c.args.op) (arguments_of t) t c.requires.operator

pub enter_parts-requires-clause-whole : goal.enter_parts-requires-clause-whole
enter_parts-requires-clause-whole c =
    let t = tree_in c.args.table.now c.args.id in
    let not = c.in_default in
    whole_put_op (standing c.args.table.now.trees c.args.self.now.scope) c.args.op (arguments_of t) t (strict_other c.args.op not.not-Ite not.not-Requires not.not-IsEq not.not-IsOk) c.requires.operator

pub returns-in-Ite : goal.returns-in-Ite
returns-in-Ite c = record { goes = c.begin.ensures; extends = extends_same c.requires.ready.held.fit }

pub returns-in-Requires : goal.returns-in-Requires
returns-in-Requires c = record { goes = c.begin-in-Requires.ensures; extends = extends_same c.requires.ready.held.fit }

pub returns-in-IsEq : goal.returns-in-IsEq
returns-in-IsEq c = record { goes = c.begin-in-IsEq.ensures; extends = extends_same c.requires.ready.held.fit }

pub returns-in-IsOk : goal.returns-in-IsOk
returns-in-IsOk c = record { goes = c.begin-in-IsOk.ensures; extends = extends_same c.requires.ready.held.fit }
