use Rattle.std.proofs.Common.{sym, ap, ◌∙◌, true≢false}
use Rattle.eo_sig.specs.Reading.{read_parameter, read_macro, read_named}
use Rattle.eo_session.specs.Store.{state_of}
use Rattle.eo_session.proofs.Adding.{same_count, repeats_macro_found}
use Rattle.eo_session.proofs.store.Store.repeats_macro.Goals.{then-old, else-old}
use Rattle.eo_session.proofs.store.Store.repeats_macro.Goals as goal

pub returns-then-as_slice : goal.returns-then-as_slice
returns-then-as_slice c =
    let ts = c.args.self.now.table.trees in
    let found = repeats_macro_found (state_of c.args.self.now) (read_macro ts c.args.d.now) (read_macro ts c.macro_of-old.result.now) c.in-Macro.k (read_named c.args.entry) c.is_same.result (ap read_named c.in-Macro.is) (c.macro_of-old.ensures.value ts) in
    elim c.if-old.branch [
      | then-old w ↦ found w.if-old.true (same_count (read_parameter ts) c.macro_of-old.result.now.params c.args.d.now.params w.as_slice.result.now w.as_slice-then-old.result.now w.as_slice.ensures w.as_slice-then-old.ensures ∙ sym w.value-is ∙ c.if-as_slice.true) c.is_same.ensures.equals
      | else-old w ↦ absurd (true≢false (sym c.if-as_slice.true ∙ w.value-is ∙ w.if-old.false))
    ]
