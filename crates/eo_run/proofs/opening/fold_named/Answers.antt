use Rattle.std.proofs.Common.{refl, ap, sym, subst, ◌∙◌}
use Rattle.std.specs.Prelude.{Err}
use Rattle.eo_io.specs.Paths.{fold_path}
use Rattle.eo_io.specs.declared.PathRefused.{PathRefused}
use Rattle.eo_run.specs.Opening.{FoldsHere}
use Rattle.eo_run.specs.declared.Verdict.{Verdict}
use Rattle.eo_run.proofs.opening.fold_named.Goals as goal

pub returns-in-Ok : goal.returns-in-Ok
returns-in-Ok c = ap (fold_path c.args.source.now.path.now) (sym c.as_bytes.ensures.value) ∙ c.in-Ok.ensures.folds

pub returns-in-Err-Bad : goal.returns-in-Err-Bad
returns-in-Err-Bad c =
    subst (λ (v : Verdict). FoldsHere c.args.source.now c.args.at c.args.name.now (Err v)) (sym c.refusal_at.ensures)
    (ap (fold_path c.args.source.now.path.now) (sym c.as_bytes.ensures.value) ∙ c.in-Err-Bad.ensures.bad (ap (λ (e : PathRefused). Err e) c.in-Err-Bad.field-0-is), refl)
