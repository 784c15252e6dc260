use Rattle.std.proofs.Common.{◌≤◌, length, sym, subst, arith}
use Rattle.std.specs.Prelude.{flat_map}
use Rattle.eo_reclaim.specs.Moving.{case_ids}
use Rattle.eo_reclaim.proofs.Moved.{cases_left}
use Rattle.eo_reclaim.proofs.moving.moved_cases.Goals as goal

pub moved_case-requires : goal.moved_case-requires
moved_case-requires c =
    let items = c.as_slice-case-items.result.now in
    let more = subst (λ ks. length (flat_map case_ids ks) ≤ length c.args.ids.now) (sym c.as_slice-case-items.ensures) c.requires in
    cases_left items c.loop-case.moved c.loop-case.case-index c.case-item.result c.args.ids.now c.loop-case.ids (omega (arith, c.loop-case-test.true)) c.case-item.is c.loop-case.invariant.same c.loop-case.invariant.taken more
