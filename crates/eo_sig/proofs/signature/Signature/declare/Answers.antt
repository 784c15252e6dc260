use Rattle.std.proofs.Common.{◌≡◌, None, sym, ap, ◌∙◌, subst}
use Rattle.eo_sig.specs.declared.records.Declared.TheVariants as declared
use Rattle.eo_sig.specs.declared.records.ConstDecl.{ConstDecl}
use Rattle.eo_sig.specs.Adding.{EntryIsFree}
use Rattle.eo_sig.specs.Reading.{Adds, counts_in, read_constant, with_entry}
use Rattle.eo_sig.specs.Signature as sig
use Rattle.eo_sig.proofs.Adding.{is_added, stays_below, stays_usable, counts_kept}
use Rattle.eo_sig.proofs.Keeping.{done}
use Rattle.eo_sig.proofs.Telling.{no_fault, tells_refused}
use Rattle.eo_sig.proofs.signature.Signature.declare.Goals as goal

pub returns-in_err-d-clause-tells : goal.returns-in_err-d-clause-tells
returns-in_err-d-clause-tells c = tells_refused c.check_new.result _ c.check_new.ensures.tells c.from_residual.result _ c.in_err-d.ensures.refused c.from_residual.ensures.1

pub add-requires-clause-free : goal.add-requires-clause-free
add-requires-clause-free c =
    let ts = c.args.table.now.trees in
    let d : ConstDecl = c.in_ok-d.d in
    let free = done (EntryIsFree c.args.self.now (declared.Const c.args.d (counts_in ts c.args.d))) c.check_new.result _ c.in_ok-d.ensures.called c.check_new.ensures.free in
    subst (λ n. EntryIsFree c.args.self.now (declared.Const d n)) (sym c.counts-counts.ensures)
    (subst (λ (x : ConstDecl). EntryIsFree c.args.self.now (declared.Const x (counts_in ts x))) (sym c.in_ok-d.ensures.other) free)

pub add-requires-clause-sound : goal.add-requires-clause-sound
add-requires-clause-sound c =
    subst (λ (d : ConstDecl). sig.constant_fault (read_constant c.args.table.now.trees d) ≡ None) (sym c.in_ok-d.ensures.other)
    (done (sig.constant_fault (read_constant c.args.table.now.trees c.args.d) ≡ None) c.check_new.result _ c.in_ok-d.ensures.called c.check_new.ensures.sound)

pub returns-in-Ok-clause-tells : goal.returns-in-Ok-clause-tells
returns-in-Ok-clause-tells c = no_fault c.check_new.result _ c.check_new.ensures.tells _ c.in_ok-d.ensures.called

pub returns-in-Err-clause-tells : goal.returns-in-Err-clause-tells
returns-in-Err-clause-tells c = no_fault c.check_new.result _ c.check_new.ensures.tells _ c.in_ok-d.ensures.called

pub returns-in-Ok-clause-kept : goal.returns-in-Ok-clause-kept
returns-in-Ok-clause-kept c =
    c.in-Ok.ensures.kept
    ∙ (λ i. with_entry (declared.Const c.in_ok-d.d (c.counts-counts.ensures i)) c.args.self.now)
    ∙ ap (λ (d : ConstDecl). with_entry (declared.Const d (counts_in c.args.table.now.trees d)) c.args.self.now) c.in_ok-d.ensures.other

pub returns-in-Ok-clause-adds : goal.returns-in-Ok-clause-adds
returns-in-Ok-clause-adds c =
    let us = c.args.table.now.trees in
    let added = is_added c.args.self.now _ (declared.Const c.args.d (counts_in us c.args.d)) (returns-in-Ok-clause-kept c) in
    record {
      adds = λ ts. subst (λ m. Adds ts c.args.self.now (sig.IsConstant (read_constant ts c.args.d) m) c.add.new.self) (counts_kept (sig.counts_of (read_constant us c.args.d))) (added ts);
      number = c.constants-number.ensures.value;
    }

pub returns-in-Ok-clause-below : goal.returns-in-Ok-clause-below
returns-in-Ok-clause-below c = stays_below c.args.self.now _ (declared.Const c.args.d (counts_in c.args.table.now.trees c.args.d)) (returns-in-Ok-clause-kept c)

pub returns-in-Ok-clause-usable : goal.returns-in-Ok-clause-usable
returns-in-Ok-clause-usable c =
    let us = c.args.table.now.trees in
    let sound = done (sig.constant_fault (read_constant us c.args.d) ≡ None) c.check_new.result _ c.in_ok-d.ensures.called c.check_new.ensures.sound in
    stays_usable c.args.self.now _ (declared.Const c.args.d (counts_in us c.args.d)) (returns-in-Ok-clause-kept c) us sound tt
