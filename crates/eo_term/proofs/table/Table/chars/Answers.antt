use Rattle.std.proofs.Common.{◌≡◌, Some, sym, ap, ◌∙◌, subst, slice_get}
use Rattle.std.specs.Option.{option_map}
use Rattle.eo_base.specs.Characters.{AreCharacters}
use Rattle.eo_term.proofs.Texts.{text_of}
use Rattle.eo_term.proofs.table.Table.chars.Goals as goal

pub returns-clause-characters : goal.returns-clause-characters
returns-clause-characters c =
    let w = c.unwrap.result.now in
    let at : slice_get c.self.inside.texts.keys c.text.inside.number ≡ Some w = sym c.get_index.ensures.key ∙ ap (option_map (λ p. p.now)) c.unwrap.ensures in
    subst AreCharacters (sym c.as_slice.ensures.value) (text_of (λ v. v.items) AreCharacters c.self.inside.texts.keys c.text.inside.number w at c.self.invariant.1.characters)
