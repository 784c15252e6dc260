use Rattle.std.proofs.Common.{◌≡◌, [], ◌∷◌, ◌++◌, Some, true, map, sym, ap, ◌∙◌, subst}
use Rattle.eo_sig.specs.declared.records.Declared.TheVariants as declared
use Rattle.eo_sig.specs.Overloads.{tables_of}
use Rattle.eo_sig.specs.Signature as sig
use Rattle.eo_sig.specs.Reading.{Kept, signature, read_counts, read_entry, with_entry}
use Rattle.eo_sig.proofs.Keeping.{kept_other, kept_as}
use Rattle.eo_sig.proofs.signature.Signature.keep_other.Goals as goal

pub invariant_of-self-2 : goal.invariant_of-self-2
invariant_of-self-2 c =
    let es = c.self.inside.entries.items in
    let cs = c.self.inside.constants.items in
    let fs = c.self.inside.firsts.entries in
    let named : sig.constant_named (map (read_entry []) es) c.args.d.name ≡ Some c.args.first = subst (λ (k : Kept). sig.constant_named (signature [] k) c.args.d.name ≡ Some c.args.first) (sym c.self.view_is) c.requires.named in
    let apart : sig.is_apart (map (read_entry []) es) c.args.d.name (read_counts c.args.counts) ≡ true = subst (λ (k : Kept). sig.is_apart (signature [] k) c.args.d.name (read_counts c.args.counts) ≡ true) (sym c.self.view_is) c.requires.apart in
    kept_other es cs (tables_of fs c.self.inside.overloads) _ _ _ _ _ _ c.self.invariant c.args.d c.args.counts c.append_other.new.entries.items c.append_other.new.places.items (tables_of fs c.append_other.new.overloads) c.args.first
    c.in_ok-append_other.ensures.entries c.in_ok-append_other.ensures.places named apart (c.in_ok-append_other.ensures.adds fs)

pub invariant_of-self : goal.invariant_of-self
invariant_of-self c =
    let fs = c.self.inside.firsts.entries in
    kept_as c.self.inside.entries.items c.self.inside.constants.items (tables_of fs c.self.inside.overloads) _ _ _ _ _ _ c.self.invariant c.append_other.new.entries.items c.append_other.new.places.items (tables_of fs c.append_other.new.overloads)
    c.in_err-append_other.ensures.no_entry c.in_err-append_other.ensures.no_place (c.in_err-append_other.ensures.nothing fs)

pub returns-clause-kept : goal.returns-clause-kept
returns-clause-kept c =
    (λ i. record { entries = c.in_ok-append_other.ensures.entries i; macros = map (λ e. e.1) c.self.inside.macros.entries }) ∙ ap (with_entry (declared.Const c.args.d c.args.counts)) c.self.view_is
