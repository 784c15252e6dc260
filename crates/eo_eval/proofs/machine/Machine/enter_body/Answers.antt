use Rattle.eo_stack.proofs.Unchanged.{grows_same}
use Rattle.eo_eval.proofs.machine.Machine.enter_body.Goals as goal

pub fits_unsubstituted-requires : goal.fits_unsubstituted-requires
fits_unsubstituted-requires c = record { live = c.requires.found.live; below = c.requires.found.below }

pub enter_in_env-requires : goal.enter_in_env-requires
enter_in_env-requires c =
    let h = c.requires in
    let light = c.if-fits_unsubstituted.true in
    record { called = h.called; found = h.found; low = c.fits_unsubstituted.ensures.low light; values = c.fits_unsubstituted.ensures.values light }

pub returns-then-fits_unsubstituted : goal.returns-then-fits_unsubstituted
returns-then-fits_unsubstituted c = record { goes = c.enter_in_env.ensures; grows = grows_same c.requires.called.calling.held.fit }

pub make_body-requires : goal.make_body-requires
make_body-requires c = record { called = c.requires.called; found = c.requires.found }
