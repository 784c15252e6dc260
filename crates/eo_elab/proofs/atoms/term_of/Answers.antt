use Rattle.std.proofs.Common.{length, ap, subst, sym, ◌∙◌}
use Rattle.std.specs.Prelude.{Ok}
use Rattle.eo_names.specs.Symbols.{read_meant, IsLive}
use Rattle.eo_elab.specs.Meaning.{tree_alone}
use Rattle.eo_elab.proofs.atoms.term_of.Goals as goal

pub returns-in-Term-clause-gives : goal.returns-in-Term-clause-gives
returns-in-Term-clause-gives c =
    let t = c.args.table.now in
    record {
      live = subst (IsLive (length t.trees) c.args.sig.now) c.in-Term.is c.requires;
      is = ap (λ m. tree_alone (read_meant t.trees c.args.sig.now m)) c.in-Term.is;
    }

pub returns-in_ok-constant-in-Constant-clause-gives : goal.returns-in_ok-constant-in-Constant-clause-gives
returns-in_ok-constant-in-Constant-clause-gives c =
    let made = c.in_ok-constant-in-Constant.ensures.makes in
    record { live = made.live; is = ap (λ m. tree_alone (read_meant c.args.table.now.trees c.args.sig.now m)) c.in-Constant.is ∙ ap Ok (sym made.tree) }

pub returns-in-Operator-clause-gives : goal.returns-in-Operator-clause-gives
returns-in-Operator-clause-gives c = ap (λ m. tree_alone (read_meant c.args.table.now.trees c.args.sig.now m)) c.in-Operator.is

pub returns-in-Nothing-clause-gives : goal.returns-in-Nothing-clause-gives
returns-in-Nothing-clause-gives c = ap (λ m. tree_alone (read_meant c.args.table.now.trees c.args.sig.now m)) c.in-Nothing.is
