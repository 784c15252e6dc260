use Rattle.std.proofs.Common.{sym, ap, subst}
use Rattle.eo_term.specs.Growth.{tree_in}
use Rattle.eo_term.proofs.Growing.{grows_refl}
use Rattle.eo_type.specs.Outcomes.{Gives}
use Rattle.eo_type.specs.Types.{application_type}
use Rattle.eo_type.proofs.Walk.{gives_stop}
use Rattle.eo_type.proofs.TypingSteps.{arr_applies, arr_apart, qar_applies, qar_apart}
use Rattle.eo_type.proofs.application.application_with.Goals as goal

pub returns-then-not-branch : goal.returns-then-not-branch
returns-then-not-branch c =
    record {
      gives = arr_apart _ _ _ _ _ c.in-Arr.ensures.tree (c.in_ok-meets-in-Arr.ensures.no c.if-not-branch.true);
      grows = grows_refl c.args.table.now;
    }

pub returns-else-not-branch : goal.returns-else-not-branch
returns-else-not-branch c =
    record {
      gives = subst (Gives c.settle_under.new.table c.settle_under.result) (sym (arr_applies _ _ _ _ _ _ c.in-Arr.ensures.tree (c.in_ok-meets-in-Arr.ensures.yes c.if-not-branch.false))) c.settle_under.ensures.gives;
      grows = c.settle_under.ensures.grows;
    }

pub returns-in_err-meets-in-Arr : goal.returns-in_err-meets-in-Arr
returns-in_err-meets-in-Arr c =
    record { gives = gives_stop _ _ _ _ c.from_residual.ensures.1 tt; grows = grows_refl c.args.table.now }

pub returns-then-not-branch-2 : goal.returns-then-not-branch-2
returns-then-not-branch-2 c =
    record {
      gives = qar_apart _ _ _ _ _ _ c.in-Qar.ensures.tree (c.in_ok-meets-in-Qar.ensures.no c.if-not-branch-2.true);
      grows = grows_refl c.args.table.now;
    }

pub returns-in_err-meets-in-Qar : goal.returns-in_err-meets-in-Qar
returns-in_err-meets-in-Qar c =
    record {
      gives = gives_stop _ _ _ _ c.from_residual-in_err-meets-in-Qar.ensures.1 tt;
      grows = grows_refl c.args.table.now;
    }

pub returns-in_err-assign-in-Qar : goal.returns-in_err-assign-in-Qar
returns-in_err-assign-in-Qar c =
    record {
      gives = gives_stop _ _ _ _ c.from_residual-in_err-assign-in-Qar.ensures.1 tt;
      grows = grows_refl c.args.table.now;
    }

pub returns-in_ok-assign-in-Qar : goal.returns-in_ok-assign-in-Qar
returns-in_ok-assign-in-Qar c =
    record {
      gives = subst (Gives c.settle_under-in-Qar.new.table c.settle_under-in-Qar.result) (sym (qar_applies _ _ _ _ _ _ _ _ c.in-Qar.ensures.tree (c.in_ok-meets-in-Qar.ensures.yes c.if-not-branch-2.false) c.in_ok-assign-in-Qar.ensures.held)) c.settle_under-in-Qar.ensures.gives;
      grows = c.settle_under-in-Qar.ensures.grows;
    }

pub returns-in-Con : goal.returns-in-Con
returns-in-Con c =
    record {
      gives = ap (λ u. application_type u (tree_in c.args.table.now c.args.ty) (tree_in c.args.table.now c.args.arg)) (sym c.in-Con.ensures.tree);
      grows = grows_refl c.args.table.now;
    }

pub returns-in-Num : goal.returns-in-Num
returns-in-Num c =
    record {
      gives = ap (λ u. application_type u (tree_in c.args.table.now c.args.ty) (tree_in c.args.table.now c.args.arg)) (sym c.in-Num.ensures.tree);
      grows = grows_refl c.args.table.now;
    }

pub returns-in-Bits : goal.returns-in-Bits
returns-in-Bits c =
    record {
      gives = ap (λ u. application_type u (tree_in c.args.table.now c.args.ty) (tree_in c.args.table.now c.args.arg)) (sym c.in-Bits.ensures.tree);
      grows = grows_refl c.args.table.now;
    }

pub returns-in-Str : goal.returns-in-Str
returns-in-Str c =
    record {
      gives = ap (λ u. application_type u (tree_in c.args.table.now c.args.ty) (tree_in c.args.table.now c.args.arg)) (sym c.in-Str.ensures.tree);
      grows = grows_refl c.args.table.now;
    }

pub returns-in-Par : goal.returns-in-Par
returns-in-Par c =
    record {
      gives = ap (λ u. application_type u (tree_in c.args.table.now c.args.ty) (tree_in c.args.table.now c.args.arg)) (sym c.in-Par.ensures.tree);
      grows = grows_refl c.args.table.now;
    }

pub returns-in-Var : goal.returns-in-Var
returns-in-Var c =
    record {
      gives = ap (λ u. application_type u (tree_in c.args.table.now c.args.ty) (tree_in c.args.table.now c.args.arg)) (sym c.in-Var.ensures.tree);
      grows = grows_refl c.args.table.now;
    }

pub returns-in-App : goal.returns-in-App
returns-in-App c =
    record {
      gives = ap (λ u. application_type u (tree_in c.args.table.now c.args.ty) (tree_in c.args.table.now c.args.arg)) (sym c.in-App.ensures.tree);
      grows = grows_refl c.args.table.now;
    }

pub returns-in-Op : goal.returns-in-Op
returns-in-Op c =
    record {
      gives = ap (λ u. application_type u (tree_in c.args.table.now c.args.ty) (tree_in c.args.table.now c.args.arg)) (sym c.in-Op.ensures.tree);
      grows = grows_refl c.args.table.now;
    }
