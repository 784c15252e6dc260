use Rattle.std.proofs.Common.{◌≡◌, ℕ, Some, true, take, take-take, sym, ap, ◌∙◌, subst, arith}
use Rattle.eo_sig.specs.Reading.{signature, IsBelow}
use Rattle.eo_type.specs.Known.{Keeps, kept_type, is_before}
use Rattle.eo_type.proofs.Fitting.{cut_back, fit_before, grows_under_back}
use Rattle.eo_type.proofs.Keeping.{keeps_before}
use Rattle.eo_type.proofs.types.Types.type_of_new.Goals as goal

pub release-requires : goal.release-requires
release-requires c = c.find_new.ensures.finds.grows.table.now.marks c.mark-mark.result c.mark-mark.ensures.holds

pub returns-in-Err-clause-extends : goal.returns-in-Err-clause-extends
returns-in-Err-clause-extends c =
    let ts = c.args.table.now.trees in
    let n = c.mark-mark.result.0 in
    let found = c.find_new.ensures.finds in
    let before : (i u : ℕ) → kept_type c.args.self.now i ≡ Some u → is_before n (i, u) ≡ true = subst (λ (m : ℕ × ℕ). (i u : ℕ) → kept_type c.args.self.now i ≡ Some u → is_before m.0 (i, u) ≡ true) (sym c.mark-mark.ensures.mark) (fit_before (signature ts c.args.sig.now) ts c.args.self.now c.requires.fits.types) in
    let mark = found.grows.table.now.marks c.mark-mark.result c.mark-mark.ensures.holds in
    let below : IsBelow n c.args.sig.now = subst (λ (m : ℕ × ℕ). IsBelow m.0 c.args.sig.now) (sym c.mark-mark.ensures.mark) c.requires.fits.below in
    record {
      fits = record {
        fit = c.forget.ensures.fits c.args.sig.now c.find_new.new.table c.release.new.self found.fits below mark.terms (ap (take n) c.release.ensures.trees ∙ take-take n n c.find_new.new.table.trees (omega arith));
        kept = subst (Keeps c.args.self.now) (sym c.forget.ensures.left) (keeps_before n c.args.self.now c.find_new.new.self before found.keeps);
      };
      grows =
          grows_under_back c.args.sig.now c.args.table.now c.release.new.self c.requires.fits.below
          (cut_back c.args.table.now c.find_new.new.table c.release.new.self c.mark-mark.result found.grows.table.now c.mark-mark.ensures.mark c.release.ensures.trees c.release.ensures.texts);
    }
