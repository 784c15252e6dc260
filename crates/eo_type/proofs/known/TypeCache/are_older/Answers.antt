use Rattle.std.proofs.Common.{◌≡◌, ◌-◌, length, filter, sym, ◌∙◌, subst, ltb-true}
use Rattle.std.specs.Prelude.{slice_get, Some}
use Rattle.eo_type.specs.Known.{is_before}
use Rattle.eo_type.proofs.Greatest.{all_kept}
use Rattle.eo_type.proofs.known.TypeCache.are_older.Goals as goal

pub returns-in-Some : goal.returns-in-Some
returns-in-Some c = λ before.
    let ns = c.self.inside.greatest.items in
    let n = c.args.terms in
    let m = c.in-Some.greatest.now in
    let last : slice_get ns (length ns - 1) ≡ Some m = (λ i. let xs = sym c.deref.ensures.value i in slice_get xs (length xs - 1)) ∙ sym c.in-Some.ensures.value in
    subst (λ es. es ≡ filter (is_before n) es) c.self.view_is (all_kept n m ns c.self.inside.types.entries c.self.invariant last (ltb-true m n before))
