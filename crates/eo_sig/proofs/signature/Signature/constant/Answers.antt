use Rattle.std.proofs.Common.{◌≡◌, ◌<◌, [], Some, length, slice_get, sym, ap, ◌∙◌, subst, arith}
use Rattle.std.specs.Option.{option_copied}
use Rattle.eo_sig.specs.Reading.{Kept, constants_of}
use Rattle.eo_sig.proofs.Tables.{some_copied}
use Rattle.eo_sig.proofs.Readings.{const_at, constant_read, constant_below}
use Rattle.eo_sig.proofs.Looking.{place_below, entry_below, at_number}
use Rattle.eo_sig.proofs.signature.Signature.constant.Goals as goal

pub index-place-requires : goal.index-place-requires
index-place-requires c =
    let within : c.args.n < length (constants_of (record { entries = c.self.inside.entries.items; macros = [] })) = subst (λ (k : Kept). c.args.n < length (constants_of k)) (sym c.self.view_is) c.requires in
    let h = place_below c.self.inside.entries.items c.self.inside.constants.items c.self.invariant.constants c.args.n within in
    omega (arith, h, c.self.inside.constants.ok.0)

pub index-requires : goal.index-requires
index-requires c =
    let within : c.args.n < length (constants_of (record { entries = c.self.inside.entries.items; macros = [] })) = subst (λ (k : Kept). c.args.n < length (constants_of k)) (sym c.self.view_is) c.requires in
    let h = entry_below c.self.inside.entries.items c.self.inside.constants.items c.self.invariant.constants c.args.n within c.index-place.result.now c.index-place.ensures in
    omega (arith, h, c.self.inside.entries.ok.0)

pub unwrap-requires : goal.unwrap-requires
unwrap-requires c =
    let within : c.args.n < length (constants_of (record { entries = c.self.inside.entries.items; macros = [] })) = subst (λ (k : Kept). c.args.n < length (constants_of k)) (sym c.self.view_is) c.requires in
    let a = at_number c.self.inside.entries.items c.self.inside.constants.items c.self.invariant.constants c.args.n within c.index-place.result.now c.index.result.now c.index-place.ensures c.index.ensures in
    let r = const_at c.self.inside.entries.items c.args.n c.index.result.now a in
    some_copied c.as_constant.result a.0.0 (c.as_constant.ensures ∙ r.0)

pub returns-clause-kept : goal.returns-clause-kept
returns-clause-kept c =
    let within : c.args.n < length (constants_of (record { entries = c.self.inside.entries.items; macros = [] })) = subst (λ (k : Kept). c.args.n < length (constants_of k)) (sym c.self.view_is) c.requires in
    let a = at_number c.self.inside.entries.items c.self.inside.constants.items c.self.invariant.constants c.args.n within c.index-place.result.now c.index.result.now c.index-place.ensures c.index.ensures in
    let r = const_at c.self.inside.entries.items c.args.n c.index.result.now a in
    let same : Some a.0.0 ≡ Some c.unwrap.result.now = sym r.0 ∙ sym c.as_constant.ensures ∙ ap option_copied c.unwrap.ensures in
    subst (λ (k : Kept). slice_get (constants_of k) c.args.n ≡ Some c.unwrap.result.now) c.self.view_is (r.1 ∙ same)

pub returns-clause-value : goal.returns-clause-value
returns-clause-value c = λ ts. constant_read ts c.args.self.now c.args.n c.unwrap.result.now (returns-clause-kept c)

pub returns-clause-below : goal.returns-clause-below
returns-clause-below c = λ m h. constant_below m c.args.self.now c.args.n c.unwrap.result.now h (returns-clause-kept c)

pub returns-clause-live : goal.returns-clause-live
returns-clause-live c = λ m h. (returns-clause-below c m h).type
