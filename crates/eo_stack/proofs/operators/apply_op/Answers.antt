use Rattle.std.proofs.Common.{length, sym, ap, subst}
use Rattle.std.specs.Prelude.{IfOk}
use Rattle.eo_term.specs.Growth.{trees_in}
use Rattle.eo_term.specs.Terms.{HasArity}
use Rattle.eo_term.specs.Tree.{Op}
use Rattle.eo_sig.specs.Reading.{signature}
use Rattle.eo_stack.specs.Machine.{made_of}
use Rattle.eo_stack.specs.Reading.{IsOutcome}
use Rattle.eo_stack.proofs.Unchanged.{extends_same}
use Rattle.eo_stack.proofs.operators.apply_op.Goals as goal

pub operator-requires : goal.operator-requires
operator-requires c =
    record {
      arguments = record { count = subst (λ k. HasArity k (length c.args.args.now)) c.in-Builtin.is c.requires.count; args = c.requires.args };
      fits = c.requires.fits;
    }

pub returns-in-Builtin : goal.returns-in-Builtin
returns-in-Builtin c =
    let t = c.args.table.now in
    let S = signature t.trees c.args.sig.now in
    let vs = trees_in t c.args.args.now in
    let o = c.operator.ensures in
    record {
      outcome = λ ts. subst (λ k. IfOk c.operator.result (IsOutcome c.operator.new.table (made_of S (Op k ts) vs))) (sym c.in-Builtin.is) o.outcome;
      extends = o.extends;
    }

pub returns-in-Prog : goal.returns-in-Prog
returns-in-Prog c =
    let t = c.args.table.now in
    record {
      outcome = λ ts. record { outcome = ap (λ k. made_of (signature t.trees c.args.sig.now) (Op k ts) (trees_in t c.args.args.now)) (sym c.in-Prog.is); live = tt };
      extends = extends_same c.requires.fits;
    }
