use Rattle.std.proofs.Common.{◌≡◌, ◌<◌, ◌∷◌, [], length, Bool, true, false, Option, Some, None, ap, sym, subst, ◌∙◌, refl}
use Rattle.std.specs.Prelude.{codes, option_map, is_none, is_some}
use Rattle.std.proofs.lemmas.List.Elements.{All-cons, All-nil}
use Rattle.eo_base.specs.declared.FaultName.TheVariants.{Redeclared}
use Rattle.eo_term.proofs.Growing.{grows_on}
use Rattle.eo_term.specs.Terms.{tree_at}
use Rattle.eo_declare.specs.Declarations.{declared_literals, self}
use Rattle.eo_names.specs.Gives.{GivesTree}
use Rattle.eo_elab.specs.Meaning.{meaning}
use Rattle.eo_names.specs.Names.{local, read_locals, AreBelow}
use Rattle.eo_names.specs.declared.locals.LocalName.{LocalName}
use Rattle.eo_elab.specs.Worlds.{context_in}
use Rattle.eo_declare.proofs.CheckedLemmas.{require-yes, require-no}
use Rattle.eo_declare.proofs.Giving.{same_context}
use Rattle.eo_base.proofs.Answering.{ok_always}
use Rattle.eo_declare.proofs.declaring.literals.Goals as goal

mapped-none : {A B : Type 0} (f : A → B) (o : Option A) (b : Bool) → b ≡ is_some o → b ≡ true → is_none (option_map f o) ≡ false
mapped-none f None b e t = sym t ∙ e
mapped-none f (Some x) b e t = refl

mapped-some : {A B : Type 0} (f : A → B) (o : Option A) (b : Bool) → b ≡ is_some o → b ≡ false → is_none (option_map f o) ≡ true
mapped-some f None b e t = refl
mapped-some f (Some x) b e t = sym t ∙ e

pub returns-then-is_some-clause-gives : goal.returns-then-is_some-clause-gives
unfolding declared_literals
returns-then-is_some-clause-gives c =
    let ts = c.args.table.now.trees in
    require-no _ Redeclared _ (ap is_none (sym (c.literal_type.ensures.value ts)) ∙ mapped-none (tree_at ts) c.literal_type.result c.is_some.result c.is_some.ensures c.if-is_some.true)

pub term-requires : goal.term-requires
term-requires c =
    let us = c.parameter.new.table in
    let below = (c.laws.ensures c.args.table.now us c.requires c.in_ok-literal.ensures.grows).stays.below in
    let own = All-cons (λ (l : LocalName). l.id < length us.trees) (local (codes "eo::self") c.in_ok-literal.literal false) [] c.in_ok-literal.ensures.makes.live (All-nil (λ (l : LocalName). l.id < length us.trees)) in
    record { ready = record { below = below; names = subst (AreBelow (length us.trees)) (sym c.in_ok-names.ensures) own } }

pub returns-clause-gives : goal.returns-clause-gives
unfolding declared_literals
returns-clause-gives c =
    let t = c.args.table.now in
    let us = c.parameter.new.table in
    let k = c.args.sig.now in
    let x = context_in t k in
    let same = same_context k t us c.laws.ensures c.requires c.in_ok-literal.ensures.grows in
    let one : read_locals us.trees c.in_ok-names.names ≡ self x = ap (read_locals us.trees) c.in_ok-names.ensures ∙ (λ i. record { name = codes "eo::self"; tree = c.in_ok-literal.ensures.makes.tree i; list = false } ∷ []) in
    let link = require-yes _ Redeclared _ (ap is_none (sym (c.literal_type.ensures.value t.trees)) ∙ mapped-some (tree_at t.trees) c.literal_type.result c.is_some.result c.is_some.ensures c.if-is_some.false)
    ∙ (λ i. meaning (sym same i) (sym one i) c.args.ty.now) in
    subst (GivesTree c.term.new.table c.term.result) (sym link) c.term.ensures.gives

pub returns-clause-may : goal.returns-clause-may
returns-clause-may c =
    let ts = c.args.table.now.trees in
    ok_always _ c.term.result (λ x. ap is_none (sym (c.literal_type.ensures.value ts)) ∙ mapped-some (tree_at ts) c.literal_type.result c.is_some.result c.is_some.ensures c.if-is_some.false)

pub returns-clause-grows : goal.returns-clause-grows
returns-clause-grows c =
    c.laws.ensures c.args.table.now c.term.new.table c.requires (grows_on c.args.table.now c.parameter.new.table c.term.new.table c.in_ok-literal.ensures.grows c.term.ensures.grows)
