use Rattle.std.proofs.Common.{◌≡◌, ap, sym, ◌∙◌, subst}
use Rattle.std.specs.Prelude.{option_map}
use Rattle.eo_term.specs.Terms.{tree_at}
use Rattle.eo_lit.specs.declared.LiteralClass.TheVariants as class
use Rattle.eo_sig.specs.Signature as sig
use Rattle.eo_sig.specs.Reading.{signature, IsBelow}
use Rattle.eo_sig.proofs.Readings.{literal_read, literal_below}
use Rattle.eo_sig.proofs.signature.Signature.literal_type.Goals as goal

pub returns-in-Numeral-clause-value : goal.returns-in-Numeral-clause-value
returns-in-Numeral-clause-value c = λ ts. subst (λ l. option_map (tree_at ts) c.self.inside.numeral ≡ sig.literal_type (signature ts c.args.self.now) l) (sym c.in-Numeral.is)
    (subst (λ k. option_map (tree_at ts) c.self.inside.numeral ≡ sig.literal_type (signature ts k) class.Numeral) c.self.view_is
    (ap (option_map (tree_at ts)) c.self.invariant.numeral ∙ literal_read ts class.Numeral c.self.inside.entries.items))

pub returns-in-Numeral-clause-live : goal.returns-in-Numeral-clause-live
returns-in-Numeral-clause-live c = λ m h. literal_below m _ class.Numeral c.self.inside.numeral c.self.invariant.numeral (subst (IsBelow m) (sym c.self.view_is) h)

pub returns-in-Binary-clause-value : goal.returns-in-Binary-clause-value
returns-in-Binary-clause-value c = λ ts. subst (λ l. option_map (tree_at ts) c.self.inside.binary ≡ sig.literal_type (signature ts c.args.self.now) l) (sym c.in-Binary.is)
    (subst (λ k. option_map (tree_at ts) c.self.inside.binary ≡ sig.literal_type (signature ts k) class.Binary) c.self.view_is
    (ap (option_map (tree_at ts)) c.self.invariant.binary ∙ literal_read ts class.Binary c.self.inside.entries.items))

pub returns-in-Binary-clause-live : goal.returns-in-Binary-clause-live
returns-in-Binary-clause-live c = λ m h. literal_below m _ class.Binary c.self.inside.binary c.self.invariant.binary (subst (IsBelow m) (sym c.self.view_is) h)

pub returns-in-String-clause-value : goal.returns-in-String-clause-value
returns-in-String-clause-value c = λ ts. subst (λ l. option_map (tree_at ts) c.self.inside.string ≡ sig.literal_type (signature ts c.args.self.now) l) (sym c.in-String.is)
    (subst (λ k. option_map (tree_at ts) c.self.inside.string ≡ sig.literal_type (signature ts k) class.String) c.self.view_is
    (ap (option_map (tree_at ts)) c.self.invariant.string ∙ literal_read ts class.String c.self.inside.entries.items))

pub returns-in-String-clause-live : goal.returns-in-String-clause-live
returns-in-String-clause-live c = λ m h. literal_below m _ class.String c.self.inside.string c.self.invariant.string (subst (IsBelow m) (sym c.self.view_is) h)
