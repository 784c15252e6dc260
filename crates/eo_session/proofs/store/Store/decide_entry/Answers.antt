use Rattle.std.proofs.Common.{sym, subst}
use Rattle.std.specs.Prelude.{Ok}
use Rattle.eo_sig.specs.Adding.{entry_fault}
use Rattle.eo_sig.specs.Reading.{read_entry, signature}
use Rattle.eo_sig.specs.declared.records.Declared.{Declared}
use Rattle.eo_session.specs.Deciding.{Decides}
use Rattle.eo_session.specs.Decisions.{entry_effect}
use Rattle.eo_session.specs.Effects.{Declares}
use Rattle.eo_session.specs.Store.{state_of}
use Rattle.eo_session.specs.declared.effects.Effect.TheVariants as effect
use Rattle.eo_session.proofs.Adding.{no_fault-fails, no_fault-passes}
use Rattle.eo_session.proofs.Decided.{entry-refused, entry-sound}
use Rattle.eo_session.proofs.store.Store.decide_entry.Goals as goal

pub returns-in_err-d : goal.returns-in_err-d
returns-in_err-d c =
    let h = c.args.self.now in
    let e = read_entry h.table.trees c.args.d in
    let fault = entry_fault (signature h.table.trees h.signature) e in
    record {
      decides =
          entry-refused (entry_effect (state_of h) e) fault c.check.result _ c.from_residual.result h c.check.ensures.tells c.in_err-d.ensures.refused c.from_residual.ensures.1
          (no_fault-fails fault (λ _. Ok (Declares e)));
    }

pub returns : goal.returns
returns c =
    let h = c.args.self.now in
    let e = read_entry h.table.trees c.args.d in
    let fault = entry_fault (signature h.table.trees h.signature) e in
    let sound = entry-sound fault c.check.result _ c.check.ensures.tells c.in_ok-d.ensures.called in
    record {
      decides =
          subst (λ (d : Declared). Decides h (Ok (effect.Declare d)) (entry_effect (state_of h) e)) (sym c.in_ok-d.ensures.other)
          (record {
            live = record { below = c.requires.below; free = c.requires.free; sound = sound; ordered = c.requires.ordered; outside = c.requires.outside };
            is = no_fault-passes fault (λ _. Ok (Declares e)) sound;
          });
    }
