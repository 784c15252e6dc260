use Rattle.std.proofs.Common.{◌≡◌, Bool, true, false, not, Option, Some, None, is_some, refl, sym, ap, ◌∙◌}
use Rattle.std.specs.Prelude.{is_none, option_map, if◌then◌else◌}
use Rattle.eo_base.specs.declared.FaultName.TheVariants as fault
use Rattle.eo_term.specs.Terms.{tree_at}
use Rattle.eo_sig.specs.Signature as sig
use Rattle.eo_sig.specs.Reading.{signature}
use Rattle.eo_sig.proofs.signature.Signature.check_literals.Goals as goal

none_read : {X Y : Type 0} (f : X → Y) (o : Option X) (p : Option Y) (b : Bool) → option_map f o ≡ p → b ≡ is_some o → is_none p ≡ not b
none_read f None p b e g = ap is_none (sym e) ∙ ap not (sym g)
none_read f (Some x) p b e g = ap is_none (sym e) ∙ ap not (sym g)

told : (a b : Bool) (p q : Bool) → a ≡ p → b ≡ q → (if a then sig.first_wrong b true else Some fault.Redeclared) ≡ (if p then sig.first_wrong q true else Some fault.Redeclared)
told a b p q e g = λ i. if e i then sig.first_wrong (g i) true else Some fault.Redeclared

pub returns-then-is_some : goal.returns-then-is_some
returns-then-is_some c =
    let ts = c.args.table.now.trees in
    let none : is_none (sig.literal_type (signature ts c.args.self.now) c.args.class) ≡ false = none_read (tree_at ts) c.literal_type.result _ c.is_some.result (c.literal_type.ensures.value ts) c.is_some.ensures ∙ ap not c.if-is_some.true in
    told _ (sig.may_be_type (tree_at ts c.args.ty)) false _ none refl

pub returns-then-not-may_be_type : goal.returns-then-not-may_be_type
returns-then-not-may_be_type c =
    let ts = c.args.table.now.trees in
    let none : is_none (sig.literal_type (signature ts c.args.self.now) c.args.class) ≡ true = none_read (tree_at ts) c.literal_type.result _ c.is_some.result (c.literal_type.ensures.value ts) c.is_some.ensures ∙ ap not c.if-is_some.false in
    told _ _ true false none (sym c.may_be_type.ensures ∙ c.if-not-may_be_type.true)

pub returns : goal.returns
returns c =
    let ts = c.args.table.now.trees in
    let none : is_none (sig.literal_type (signature ts c.args.self.now) c.args.class) ≡ true = none_read (tree_at ts) c.literal_type.result _ c.is_some.result (c.literal_type.ensures.value ts) c.is_some.ensures ∙ ap not c.if-is_some.false in
    told _ _ true true none (sym c.may_be_type.ensures ∙ c.if-not-may_be_type.false)
