use Rattle.std.proofs.Common.{◌≡◌, Some, slice_get, sym, ap, ◌∙◌, subst}
use Rattle.std.specs.Option.{option_map}
use Rattle.std.proofs.lemmas.Option.{slice_get_within, slice_get-map}
use Rattle.eo_sig.specs.Reading.{Kept, MacroBelow}
use Rattle.eo_sig.proofs.Tables.{get_of_some}
use Rattle.eo_sig.proofs.Readings.{macro_read}
use Rattle.eo_sig.proofs.signature.Signature.macro_of.Goals as goal

pub returns-clause-kept : goal.returns-clause-kept
returns-clause-kept c =
    subst (λ (k : Kept). slice_get k.macros c.args.n ≡ Some c.unwrap.result.1.now) c.self.view_is
    (slice_get-map (λ e. e.1) c.self.inside.macros.entries c.args.n ∙ ap (option_map (λ e. e.1)) (sym c.get_index.ensures.entry ∙ ap (option_map (λ p. (p.0.now, p.1.now))) c.unwrap.ensures))

pub returns-clause-value : goal.returns-clause-value
returns-clause-value c = λ ts. macro_read ts c.args.self.now c.args.n c.unwrap.result.1.now (returns-clause-kept c)

pub returns-clause-below : goal.returns-clause-below
returns-clause-below c = λ m h.
    subst (MacroBelow m) (get_of_some c.args.self.now.macros c.args.n c.unwrap.result.1.now c.unwrap.result.1.now (returns-clause-kept c)) (h.macros c.args.n c.unwrap.result.1.now (slice_get_within c.args.self.now.macros c.args.n c.unwrap.result.1.now (returns-clause-kept c)))
