use Rattle.std.proofs.Common.{◌≡◌, None, refl, sym, ap, subst, ◌∙◌}
use Rattle.std.specs.Prelude.{Ok}
use Rattle.eo_sig.specs.Adding.{EntryIsFree}
use Rattle.eo_sig.specs.Reading.{counts_in, macros, read_constant, signature}
use Rattle.eo_sig.specs.Signature.{IsConstant, constant_fault, counts_of, declare_fault}
use Rattle.eo_sig.specs.declared.records.ConstDecl.{ConstDecl}
use Rattle.eo_sig.specs.declared.records.Declared.TheVariants as declared
use Rattle.eo_session.specs.Deciding.{Decides}
use Rattle.eo_session.specs.Store.{state_of}
use Rattle.eo_session.specs.Decisions.{checked_effect}
use Rattle.eo_session.specs.Effects.{Declares}
use Rattle.eo_session.specs.declared.effects.Effect.TheVariants as effect
use Rattle.eo_session.proofs.Adding.{checked-fails, checked-added, counts_same, passed}
use Rattle.eo_session.proofs.Decided.{entry-refused, entry-sound}
use Rattle.eo_session.proofs.store.Store.decide_checked.Goals as goal

pub returns-in_err-d : goal.returns-in_err-d
returns-in_err-d c =
    let h = c.args.self.now in
    let d = read_constant h.table.trees c.args.d in
    let fault = declare_fault (signature h.table.trees h.signature) (macros h.table.trees h.signature) d in
    record {
      decides =
          entry-refused (checked_effect (state_of h) d) fault c.check_new.result _ c.from_residual.result h c.check_new.ensures.tells c.in_err-d.ensures.refused c.from_residual.ensures.1
          (checked-fails (state_of h) d refl c.requires.named);
    }

pub returns : goal.returns
returns c =
    let h = c.args.self.now in
    let ts = h.table.trees in
    let d = read_constant ts c.args.d in
    let fault = declare_fault (signature ts h.signature) (macros ts h.signature) d in
    let none = entry-sound fault c.check_new.result _ c.check_new.ensures.tells c.in_ok-d.ensures.called in
    let sound = passed (constant_fault d ≡ None) c.check_new.result _ c.in_ok-d.ensures.called c.check_new.ensures.sound in
    let free = passed (EntryIsFree h.signature (declared.Const c.args.d (counts_in ts c.args.d))) c.check_new.result _ c.in_ok-d.ensures.called c.check_new.ensures.free in
    let counts = c.counts-counts.ensures ∙ ap (counts_in ts) c.in_ok-d.ensures.other in
    record {
      decides =
          subst (λ n. Decides h (Ok (effect.Declare (declared.Const c.in_ok-d.d n))) (checked_effect (state_of h) d)) (sym counts)
          (subst (λ (x : ConstDecl). Decides h (Ok (effect.Declare (declared.Const x (counts_in ts c.args.d)))) (checked_effect (state_of h) d)) (sym c.in_ok-d.ensures.other)
          (record {
            live = record { below = c.requires.below; free = free; sound = sound; ordered = tt; outside = c.requires.outside };
            is = checked-added (state_of h) d refl c.requires.named none ∙ ap (λ m. Ok (Declares (IsConstant d m))) (sym (counts_same (counts_of d)));
          }));
    }
