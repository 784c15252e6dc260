use Rattle.std.proofs.Common.{◌≡◌, sym, ap, ◌∙◌, subst}
use Rattle.eo_sig.specs.declared.records.Declared.TheVariants as declared
use Rattle.eo_sig.specs.declared.records.ProgramDecl.{ProgramDecl}
use Rattle.eo_sig.specs.Adding.{EntryIsFree, EntryIsSound}
use Rattle.eo_sig.specs.Reading.{with_entry}
use Rattle.eo_sig.proofs.Adding.{is_added, stays_below, stays_with}
use Rattle.eo_sig.proofs.Telling.{no_fault, tells_refused}
use Rattle.eo_sig.proofs.Usable.{usable_program}
use Rattle.eo_sig.proofs.signature.Signature.add_program.Goals as goal

pub returns-in_err-d-clause-tells : goal.returns-in_err-d-clause-tells
returns-in_err-d-clause-tells c = tells_refused c.check_program.result _ c.check_program.ensures c.from_residual.result _ c.in_err-d.ensures.refused c.from_residual.ensures.1

pub add-requires-clause-free : goal.add-requires-clause-free
add-requires-clause-free c = subst (λ (d : ProgramDecl). EntryIsFree c.args.self.now (declared.Program d)) (sym c.in_ok-d.ensures.other) c.requires.free

pub add-requires-clause-sound : goal.add-requires-clause-sound
add-requires-clause-sound c =
    subst (λ (d : ProgramDecl). EntryIsSound c.args.table.now.trees c.args.self.now (declared.Program d)) (sym c.in_ok-d.ensures.other)
    (no_fault c.check_program.result _ c.check_program.ensures _ c.in_ok-d.ensures.called)

pub returns-in-Ok-clause-tells : goal.returns-in-Ok-clause-tells
returns-in-Ok-clause-tells c = no_fault c.check_program.result _ c.check_program.ensures _ c.in_ok-d.ensures.called

pub returns-in-Err-clause-tells : goal.returns-in-Err-clause-tells
returns-in-Err-clause-tells c = no_fault c.check_program.result _ c.check_program.ensures _ c.in_ok-d.ensures.called

pub returns-in-Ok-clause-kept : goal.returns-in-Ok-clause-kept
returns-in-Ok-clause-kept c = c.in-Ok.ensures.kept ∙ ap (λ (d : ProgramDecl). with_entry (declared.Program d) c.args.self.now) c.in_ok-d.ensures.other

pub returns-in-Ok-clause-adds : goal.returns-in-Ok-clause-adds
returns-in-Ok-clause-adds c =
    record { adds = is_added c.args.self.now _ (declared.Program c.args.d) (returns-in-Ok-clause-kept c); number = c.programs-number.ensures.value }

pub returns-in-Ok-clause-below : goal.returns-in-Ok-clause-below
returns-in-Ok-clause-below c = stays_below c.args.self.now _ (declared.Program c.args.d) (returns-in-Ok-clause-kept c)

pub returns-in-Ok-clause-usable : goal.returns-in-Ok-clause-usable
returns-in-Ok-clause-usable c = λ ts. stays_with c.args.self.now _ (declared.Program c.args.d) (returns-in-Ok-clause-kept c) ts (usable_program _ _)
