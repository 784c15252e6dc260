use Rattle.std.proofs.Common.{◌≡◌, [], ◌∷◌, ◌++◌, None, sym, ap, ◌∙◌, subst}
use Rattle.eo_lit.specs.declared.LiteralClass.TheVariants as class
use Rattle.eo_sig.specs.declared.records.Declared.TheVariants as declared
use Rattle.eo_sig.specs.Signature as sig
use Rattle.eo_sig.specs.Reading.{Kept, signature}
use Rattle.eo_sig.proofs.Keeping.{kept_numeral, kept_binary, kept_string}
use Rattle.eo_sig.proofs.signature.Signature.keep_literal.Goals as goal

pub invariant_of-self-in-Numeral : goal.invariant_of-self-in-Numeral
invariant_of-self-in-Numeral c =
    let none = subst (λ l. sig.literal_type (signature [] c.args.self.now) l ≡ None) c.in-Numeral.is c.requires in
    kept_numeral c.self.inside.entries.items _ _ _ _ _ _ _ _ c.self.invariant c.args.ty c.push.new.self.items
    (subst (λ (k : Kept). sig.literal_type (signature [] k) class.Numeral ≡ None) (sym c.self.view_is) none)
    (c.in_ok-push.ensures.items ∙ ap (λ l. c.self.inside.entries.items ++ declared.Literal l c.args.ty ∷ []) c.in-Numeral.is)

pub invariant_of-self-in-Binary : goal.invariant_of-self-in-Binary
invariant_of-self-in-Binary c =
    let none = subst (λ l. sig.literal_type (signature [] c.args.self.now) l ≡ None) c.in-Binary.is c.requires in
    kept_binary c.self.inside.entries.items _ _ _ _ _ _ _ _ c.self.invariant c.args.ty c.push.new.self.items
    (subst (λ (k : Kept). sig.literal_type (signature [] k) class.Binary ≡ None) (sym c.self.view_is) none)
    (c.in_ok-push.ensures.items ∙ ap (λ l. c.self.inside.entries.items ++ declared.Literal l c.args.ty ∷ []) c.in-Binary.is)

pub invariant_of-self-in-String : goal.invariant_of-self-in-String
invariant_of-self-in-String c =
    let none = subst (λ l. sig.literal_type (signature [] c.args.self.now) l ≡ None) c.in-String.is c.requires in
    kept_string c.self.inside.entries.items _ _ _ _ _ _ _ _ c.self.invariant c.args.ty c.push.new.self.items
    (subst (λ (k : Kept). sig.literal_type (signature [] k) class.String ≡ None) (sym c.self.view_is) none)
    (c.in_ok-push.ensures.items ∙ ap (λ l. c.self.inside.entries.items ++ declared.Literal l c.args.ty ∷ []) c.in-String.is)
