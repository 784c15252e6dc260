use Rattle.std.proofs.Common.{◌≡◌, filter, sym, ◌∙◌, subst}
use Rattle.eo_type.specs.Known.{FitsCut, is_before}
use Rattle.eo_type.proofs.Fitting.{fits_cut}
use Rattle.eo_type.proofs.types.Types.forget.Goals as goal

pub returns-clause-fits : goal.returns-clause-fits
returns-clause-fits c =
    let left : c.forget.new.self ≡ filter (is_before c.args.mark.0) c.args.self.now = c.forget.ensures ∙ (λ j. filter (is_before (c.terms.ensures j)) (c.self.view_is j)) in
    subst (FitsCut c.args.mark.0 c.args.self.now) (sym left) (fits_cut c.growth_law.ensures.stays c.args.mark.0 c.args.self.now)
