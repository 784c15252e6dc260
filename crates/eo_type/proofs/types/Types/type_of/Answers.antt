use Rattle.std.proofs.Common.{◌≡◌, Some, sym, ap, ◌∙◌}
use Rattle.eo_sig.specs.Reading.{signature}
use Rattle.eo_type.specs.Known.{kept_type}
use Rattle.eo_type.proofs.Fitting.{fit_known}
use Rattle.eo_type.proofs.types.Types.type_of.Goals as goal

pub returns-in-Some-clause-answers : goal.returns-in-Some-clause-answers
returns-in-Some-clause-answers c =
    let ts = c.args.table.now.trees in
    let kept : kept_type c.args.self.now c.args.id ≡ Some c.in-Some.ty = sym (ap (λ known. kept_type known c.args.id) c.self.view_is) ∙ sym c.get.ensures ∙ c.in-Some.is in
    let fit = fit_known (signature ts c.args.sig.now) ts c.args.self.now c.args.id c.in-Some.ty c.requires.fits.types kept in
    record { live = fit.type; typed = fit.typed }
