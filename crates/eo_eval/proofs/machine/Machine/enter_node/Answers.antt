use Rattle.std.proofs.Common.{sym, ap, subst, refl}
use Rattle.eo_base.specs.Limits.{calls_limit}
use Rattle.eo_term.specs.Terms.{tree_at, text_at, HasArity}
use Rattle.eo_sig.specs.Reading.{signature}
use Rattle.eo_stack.specs.Evaluation.{Stuck}
use Rattle.eo_stack.specs.Reading.{begun, is_par}
use Rattle.eo_stack.specs.Scopes.{standing}
use Rattle.eo_eval.proofs.Entered.{whole_put_var, whole_put_app, whole_put_arr}
use Rattle.eo_eval.proofs.Itself.{arrow_entered, stuck_told, stuck_stands}
use Rattle.eo_stack.proofs.Unchanged.{extends_same}
use Rattle.eo_eval.proofs.machine.Machine.enter_node.Goals as goal

pub enter_parts-requires-clause-node : goal.enter_parts-requires-clause-node
enter_parts-requires-clause-node c = ap is_par (sym c.in-Var.ensures.tree)

pub enter_parts-requires-clause-whole : goal.enter_parts-requires-clause-whole
enter_parts-requires-clause-whole c =
    let t = c.args.table.now in
    whole_put_var (standing t.trees c.args.self.now.scope) (text_at t.texts c.in-Var.name) (tree_at t.trees c.in-Var.ty) (tree_at t.trees c.args.id) c.in-Var.ensures.tree

pub enter_parts-requires-in-App-clause-node : goal.enter_parts-requires-in-App-clause-node
enter_parts-requires-in-App-clause-node c = ap is_par (sym c.in-App.ensures.tree)

pub enter_parts-requires-in-App-clause-whole : goal.enter_parts-requires-in-App-clause-whole
enter_parts-requires-in-App-clause-whole c =
    let t = c.args.table.now in
    whole_put_app (standing t.trees c.args.self.now.scope) (tree_at t.trees c.in-App.fun) (tree_at t.trees c.in-App.arg) (tree_at t.trees c.args.id) c.in-App.ensures.tree

pub enter_parts-requires-in-Arr-clause-node : goal.enter_parts-requires-in-Arr-clause-node
enter_parts-requires-in-Arr-clause-node c = ap is_par (sym c.in-Arr.ensures.tree)

pub enter_parts-requires-in-Arr-clause-whole : goal.enter_parts-requires-in-Arr-clause-whole
enter_parts-requires-in-Arr-clause-whole c =
    let t = c.args.table.now in
    whole_put_arr (standing t.trees c.args.self.now.scope) (tree_at t.trees c.in-Arr.from) (tree_at t.trees c.in-Arr.to) (tree_at t.trees c.args.id) c.in-Arr.ensures.tree

pub returns-in-Qar-clause-goes : goal.returns-in-Qar-clause-goes
returns-in-Qar-clause-goes c =
    let ts = c.args.table.now.trees in
    let S = signature ts c.args.sig.now in
    let e = c.args.self.now in
    let b = begun ts e.calls.entries in
    let fs = e.stack.frames.items in
    let vs = e.stack.values.items in
    let s = c.requires.ready.stands in
    record {
      told = stuck_told S calls_limit ts b e.scope fs vs c.args.id c.args.left Stuck (arrow_entered S calls_limit ts e.scope c.args.id _ _ _ c.in-Qar.ensures.tree) refl;
      ready = record { held = c.requires.ready.held; stands = stuck_stands S calls_limit ts b e.scope fs vs c.args.id c.args.left Stuck (arrow_entered S calls_limit ts e.scope c.args.id _ _ _ c.in-Qar.ensures.tree) refl s };
    }

pub returns-in-Par : goal.returns-in-Par
returns-in-Par c = record { goes = c.enter_par.ensures; extends = extends_same c.requires.ready.held.fit }

pub returns-in-Qar-clause-extends : goal.returns-in-Qar-clause-extends
returns-in-Qar-clause-extends c = extends_same c.requires.ready.held.fit

pub enter_op-requires : goal.enter_op-requires
enter_op-requires c =
    let o = c.in-Op.ensures in
    record { ready = c.requires.ready; operator = o.tree; arity = subst (HasArity c.in-Op.code) (sym o.count) o.proper }

pub enter_par-requires : goal.enter_par-requires
enter_par-requires c = record { ready = c.requires.ready; parameter = c.in-Par.ensures.tree }
