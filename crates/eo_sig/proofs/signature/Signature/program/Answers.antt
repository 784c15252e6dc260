use Rattle.std.proofs.Common.{◌≡◌, ◌<◌, [], Some, length, slice_get, sym, ap, ◌∙◌, subst, arith}
use Rattle.std.specs.Option.{option_map, option_copied}
use Rattle.std.proofs.lemmas.Option.{slice_get_within}
use Rattle.eo_sig.specs.Reading.{Kept, program_decl_of, programs_of}
use Rattle.eo_sig.proofs.Tables.{numbered, numbered_here, numbers, some_copied}
use Rattle.eo_sig.proofs.Readings.{program_read, program_below}
use Rattle.eo_sig.proofs.signature.Signature.program.Goals as goal

pub unwrap-requires : goal.unwrap-requires
unwrap-requires c =
    let within : c.args.n < length (programs_of (record { entries = c.self.inside.entries.items; macros = [] })) = subst (λ (k : Kept). c.args.n < length (programs_of k)) (sym c.self.view_is) c.requires in
    c.get_index.ensures.found.1 (omega (arith, within, numbers program_decl_of (λ d. d.name) c.self.inside.entries.items c.self.inside.programs.entries c.self.invariant.programs))

pub index-requires : goal.index-requires
index-requires c =
    let at : slice_get c.self.inside.programs.entries c.args.n ≡ Some (c.unwrap.result.0.now, c.unwrap.result.1.now) = sym c.get_index.ensures.entry ∙ ap (option_map (λ p. (p.0.now, p.1.now))) c.unwrap.ensures in
    let r = numbered program_decl_of (λ d. d.name) c.self.inside.entries.items c.self.inside.programs.entries c.args.n _ c.self.invariant.programs at in
    omega (arith, slice_get_within c.self.inside.entries.items c.unwrap.result.1.now r.0 r.2, c.self.inside.entries.ok)

pub unwrap-requires-2 : goal.unwrap-requires-2
unwrap-requires-2 c =
    let at : slice_get c.self.inside.programs.entries c.args.n ≡ Some (c.unwrap.result.0.now, c.unwrap.result.1.now) = sym c.get_index.ensures.entry ∙ ap (option_map (λ p. (p.0.now, p.1.now))) c.unwrap.ensures in
    let r = numbered_here program_decl_of (λ d. d.name) c.self.inside.entries.items c.self.inside.programs.entries c.args.n _ c.index.result.now c.self.invariant.programs at c.index.ensures in
    some_copied c.as_program.result r.0 (c.as_program.ensures ∙ r.1)

pub returns-clause-kept : goal.returns-clause-kept
returns-clause-kept c =
    let at : slice_get c.self.inside.programs.entries c.args.n ≡ Some (c.unwrap.result.0.now, c.unwrap.result.1.now) = sym c.get_index.ensures.entry ∙ ap (option_map (λ p. (p.0.now, p.1.now))) c.unwrap.ensures in
    let r = numbered_here program_decl_of (λ d. d.name) c.self.inside.entries.items c.self.inside.programs.entries c.args.n _ c.index.result.now c.self.invariant.programs at c.index.ensures in
    let same : Some r.0 ≡ Some c.unwrap-2.result.now = sym r.1 ∙ sym c.as_program.ensures ∙ ap option_copied c.unwrap-2.ensures in
    subst (λ (k : Kept). slice_get (programs_of k) c.args.n ≡ Some c.unwrap-2.result.now) c.self.view_is (r.2 ∙ same)

pub returns-clause-value : goal.returns-clause-value
returns-clause-value c = λ ts. program_read ts c.args.self.now c.args.n c.unwrap-2.result.now (returns-clause-kept c)

pub returns-clause-below : goal.returns-clause-below
returns-clause-below c = λ m h. program_below m c.args.self.now c.args.n c.unwrap-2.result.now h (returns-clause-kept c)
