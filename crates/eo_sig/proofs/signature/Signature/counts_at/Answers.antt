use Rattle.std.proofs.Common.{◌≡◌, ◌<◌, [], Some, length, sym, ap, ◌∙◌, subst, arith}
use Rattle.std.specs.Option.{option_map}
use Rattle.std.proofs.lemmas.Option.{same_Some}
use Rattle.eo_sig.specs.declared.records.ConstDecl.{ConstDecl}
use Rattle.eo_sig.specs.declared.records.Counts.{Counts}
use Rattle.eo_sig.specs.Indexed.{counts_at}
use Rattle.eo_sig.specs.Reading.{Kept, signature, read_counts, constants_of}
use Rattle.eo_sig.proofs.Readings.{counts_read}
use Rattle.eo_sig.proofs.Looking.{place_below, entry_below, at_number, some_there}
use Rattle.eo_sig.proofs.signature.Signature.counts_at.Goals as goal

pub index-place-requires : goal.index-place-requires
index-place-requires c =
    let within : c.args.n < length (constants_of (record { entries = c.self.inside.entries.items; macros = [] })) = subst (λ (k : Kept). c.args.n < length (constants_of k)) (sym c.self.view_is) c.requires in
    let h = place_below c.self.inside.entries.items c.self.inside.constants.items c.self.invariant.constants c.args.n within in
    omega (arith, h, c.self.inside.constants.ok.0)

pub index-requires : goal.index-requires
index-requires c =
    let within : c.args.n < length (constants_of (record { entries = c.self.inside.entries.items; macros = [] })) = subst (λ (k : Kept). c.args.n < length (constants_of k)) (sym c.self.view_is) c.requires in
    let h = entry_below c.self.inside.entries.items c.self.inside.constants.items c.self.invariant.constants c.args.n within c.index-place.result.now c.index-place.ensures in
    omega (arith, h, c.self.inside.entries.ok.0)

pub unwrap-requires : goal.unwrap-requires
unwrap-requires c =
    let within : c.args.n < length (constants_of (record { entries = c.self.inside.entries.items; macros = [] })) = subst (λ (k : Kept). c.args.n < length (constants_of k)) (sym c.self.view_is) c.requires in
    let a = at_number c.self.inside.entries.items c.self.inside.constants.items c.self.invariant.constants c.args.n within c.index-place.result.now c.index.result.now c.index-place.ensures c.index.ensures in
    some_there c.as_counts.result a.0.1 (c.as_counts.ensures ∙ ap (option_map (λ (q : ConstDecl × Counts). q.1)) a.1)

pub returns : goal.returns
returns c =
    let within : c.args.n < length (constants_of (record { entries = c.self.inside.entries.items; macros = [] })) = subst (λ (k : Kept). c.args.n < length (constants_of k)) (sym c.self.view_is) c.requires in
    let a = at_number c.self.inside.entries.items c.self.inside.constants.items c.self.invariant.constants c.args.n within c.index-place.result.now c.index.result.now c.index-place.ensures c.index.ensures in
    let told : c.as_counts.result ≡ Some a.0.1 = c.as_counts.ensures ∙ ap (option_map (λ (q : ConstDecl × Counts). q.1)) a.1 in
    subst (λ (k : Kept). counts_at (signature [] k) c.args.n ≡ Some (read_counts c.unwrap.result)) c.self.view_is
    (counts_read c.self.inside.entries.items c.args.n c.index.result.now a ∙ ap (λ m. Some (read_counts m)) (same_Some a.0.1 c.unwrap.result (sym told ∙ c.unwrap.ensures)))
