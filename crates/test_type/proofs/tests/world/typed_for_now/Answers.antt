use Rattle.std.proofs.Common.{ℕ, take, take-take, sym, ap, ◌∙◌, subst, arith}
use Rattle.eo_sig.specs.Reading.{IsBelow}
use Rattle.test_type.proofs.tests.world.typed_for_now.Goals as goal

pub type_of-requires : goal.type_of-requires
type_of-requires c =
    record { live = c.in_ok-id.ensures.interned.live; fits = c.laws.ensures.grown c.args.sig.now c.args.table.now c.intern.new.self c.intern.ensures.grows.now c.requires.fits }

pub returns-clause-fits : goal.returns-clause-fits
returns-clause-fits c =
    let m = c.mark-mark.result in
    let now = c.type_of.new.table in
    let marks = c.type_of.ensures.extends.grows.table.now.marks m (c.intern.ensures.grows.now.marks m c.mark-mark.ensures.holds) in
    let below : IsBelow m.0 c.args.sig.now = subst (λ (k : ℕ × ℕ). IsBelow k.0 c.args.sig.now) (sym c.mark-mark.ensures.mark) c.requires.fits.below in
    c.forget.ensures.fits c.args.sig.now now c.release.new.self c.type_of.ensures.extends.fits.fit below marks.terms (ap (take m.0) c.release.ensures.trees ∙ take-take m.0 m.0 now.trees (omega arith))
