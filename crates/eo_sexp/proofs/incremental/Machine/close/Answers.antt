use Rattle.std.proofs.Common.{ap, ◌∙◌, inl, inr, arith}
use Rattle.eo_sexp.proofs.LimitFacts.{command_is}
use Rattle.eo_sexp.specs.Texts.{after}
use Rattle.eo_sexp.specs.Machine.{phase_of}
use Rattle.eo_sexp.proofs.incremental.Machine.close.Goals as goal

pub returns-then-at-ge-COMMAND : goal.returns-then-at-ge-COMMAND
returns-then-at-ge-COMMAND c = inr (omega (arith, command_is), c.fail.ensures)

pub returns : goal.returns
returns c =
    let k = c.in_ok-keep.ensures in
    let d = c.complete.ensures in
    inl (omega (arith, command_is), record { state = d.state; begun = d.begun ∙ k.begun; start = d.start ∙ k.start; here = d.here ∙ k.here; phase = d.phase ∙ ap (λ p. after (phase_of p)) k.phase })
