use Rattle.std.proofs.Common.{◌≡◌, ℕ, Some, true, take, sym, ap, ◌∙◌, subst, arith, take-take}
use Rattle.eo_sig.specs.Reading.{IsBelow, signature}
use Rattle.eo_type.specs.Known.{Keeps, kept_type, is_before}
use Rattle.eo_type.proofs.Fitting.{fit_before}
use Rattle.eo_type.proofs.Keeping.{keeps_before}
use Rattle.eo_type.proofs.types.Types.undo.Goals as goal

pub returns-clause-undone : goal.returns-clause-undone
returns-clause-undone c = λ k t before f x e.
    let g = x.grows in
    let h = x.fits in
    let n = c.args.mark.0 in
    let old = c.args.table.now in
    let known = c.args.self.now in
    let back = c.release.ensures.back t g.table e in
    let cut : take n c.release.new.self.trees ≡ take n old.trees = ap (take n) c.release.ensures.trees ∙ take-take n n old.trees (omega arith) in
    let older : (i u : ℕ) → kept_type before i ≡ Some u → is_before n (i, u) ≡ true = subst (λ (m : ℕ × ℕ). (i u : ℕ) → kept_type before i ≡ Some u → is_before m.0 (i, u) ≡ true) (sym e) (fit_before (signature t.trees k) t.trees before f.types) in
    record {
      same = back.same;
      extends = record {
        fits = record {
          fit = c.forget.ensures.fits k old c.release.new.self h.fit (subst (λ (m : ℕ × ℕ). IsBelow m.0 k) (sym e) f.below) c.requires.terms cut;
          kept = subst (Keeps before) (sym c.forget.ensures.left) (keeps_before n before known older h.kept);
        };
        grows = record { table = back.grows; stays = c.growth_law.ensures.stays k t c.release.new.self f.below back.grows.now };
      };
    }
