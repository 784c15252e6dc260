use Rattle.std.proofs.Common.{List, ◌∷◌, ◌++◌, [], ap, subst}
use Rattle.std.proofs.lemmas.Result.{on_ok_weaker}
use Rattle.eo_session.specs.Notes.{Seen}
use Rattle.eo_session.proofs.Shown.{effect-same, effect-stays}
use Rattle.eo_session.proofs.Used.{keeps_self, keeps_on}
use Rattle.eo_session.proofs.store.Store.show.Goals as goal

pub returns-then-not-watches-clause-keeps : goal.returns-then-not-watches-clause-keeps
returns-then-not-watches-clause-keeps g c = keeps_self c.args.self.now c.requires.whole

pub returns-then-not-watches-clause-sees : goal.returns-then-not-watches-clause-sees
returns-then-not-watches-clause-sees g c = (λ l t. c.watches.ensures c.if-not-watches.true _)

pub returns-in_err-note-clause-may : goal.returns-in_err-note-clause-may
returns-in_err-note-clause-may g c = effect-stays c.growth_law.ensures.stays c.args.self.now c.note.new.self c.in_err-note.ensures.keeps c.args.effect.now c.requires.may

pub returns-in_err-note-clause-same : goal.returns-in_err-note-clause-same
returns-in_err-note-clause-same g c = effect-same c.growth_law.ensures.stays c.args.self.now c.args.effect.now c.requires.may c.note.new.self.table c.in_err-note.ensures.keeps.grows

pub returns-clause-keeps : goal.returns-clause-keeps
returns-clause-keeps g c = keeps_on c.args.self.now c.note.new.self c.show_note.new.self c.in_ok-note.ensures.keeps c.show_note.ensures.keeps

pub returns-clause-may : goal.returns-clause-may
returns-clause-may g c =
    effect-stays c.growth_law.ensures.stays c.args.self.now c.show_note.new.self
    (keeps_on c.args.self.now c.note.new.self c.show_note.new.self c.in_ok-note.ensures.keeps c.show_note.ensures.keeps) c.args.effect.now c.requires.may

pub returns-clause-same : goal.returns-clause-same
returns-clause-same g c =
    effect-same c.growth_law.ensures.stays c.args.self.now c.args.effect.now c.requires.may c.show_note.new.self.table
    (keeps_on c.args.self.now c.note.new.self c.show_note.new.self c.in_ok-note.ensures.keeps c.show_note.ensures.keeps).grows

pub returns-clause-sees : goal.returns-clause-sees
returns-clause-sees g c =
    let same = ap (λ (s : Seen). s ∷ []) (c.in_ok-note.ensures.reads c.args.source.now.bytes.now) in
    on_ok_weaker c.show_note.result (λ h l t. subst (λ (x : List Seen). g.O.Observer.tells c.show_note.new.observer (l ++ x)) same (h l t)) c.show_note.ensures.sees
