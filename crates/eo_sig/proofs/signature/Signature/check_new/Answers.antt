use Rattle.std.proofs.Common.{◌≡◌, [], true, false, refl, sym, ◌∙◌}
use Rattle.std.specs.Prelude.{Result, Err, if◌then◌else◌}
use Rattle.eo_base.specs.declared.FaultName.TheVariants as fault
use Rattle.eo_sig.specs.Signature as sig
use Rattle.eo_sig.specs.Reading.{signature, macros, read_constant}
use Rattle.eo_base.proofs.Answering.{at_exit}
use Rattle.eo_sig.specs.Refused.{Tells}
use Rattle.eo_sig.specs.declared.refused.SigRefused.{SigRefused}
use Rattle.eo_sig.proofs.Adding.{declared_err, declared_told, free_as}
use Rattle.eo_sig.proofs.signature.Signature.check_new.Goals as goal

pub returns-in_err-check_constant-clause-tells : goal.returns-in_err-check_constant-clause-tells
returns-in_err-check_constant-clause-tells c =
    let ts = c.args.table.now.trees in
    let d = read_constant ts c.args.d.now in
    let x = c.in_err-check_constant.field-0.0 in
    let told = declared_err (signature ts c.args.self.now) (macros ts c.args.self.now) d (Err x) x refl c.in_err-check_constant.ensures.fault c.in_err-check_constant.ensures.tells in
    at_exit (λ (s : Result (Unit {0}) SigRefused). Tells s (sig.declare_fault (signature ts c.args.self.now) (macros ts c.args.self.now) d)) c.from_residual.result x c.from_residual.ensures.1 told

pub returns-then-not-is_free_for-clause-tells : goal.returns-then-not-is_free_for-clause-tells
returns-then-not-is_free_for-clause-tells c =
    let ts = c.args.table.now.trees in
    declared_told (signature ts c.args.self.now) (macros ts c.args.self.now) (read_constant ts c.args.d.now) false c.in_ok-check_constant.ensures.tells (sym (c.is_free_for.ensures ts) ∙ c.if-not-is_free_for.true)

pub returns-clause-tells : goal.returns-clause-tells
returns-clause-tells c =
    let ts = c.args.table.now.trees in
    declared_told (signature ts c.args.self.now) (macros ts c.args.self.now) (read_constant ts c.args.d.now) true c.in_ok-check_constant.ensures.tells (sym (c.is_free_for.ensures ts) ∙ c.if-not-is_free_for.false)

pub returns-clause-sound : goal.returns-clause-sound
returns-clause-sound c = c.in_ok-check_constant.ensures.tells

pub returns-clause-free : goal.returns-clause-free
returns-clause-free c = free_as c.args.table.now.trees c.args.self.now c.args.d.now (sym (c.is_free_for.ensures []) ∙ c.if-not-is_free_for.false)
