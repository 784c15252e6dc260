use Rattle.std.proofs.Common.{◌≡◌, true, sym, ap, subst, ◌∙◌, map}
use Rattle.std.specs.Prelude.{None}
use Rattle.eo_sig.specs.Signature.{Constant, constant_fault}
use Rattle.eo_sig.specs.Reading.{read_constant, read_parameter}
use Rattle.eo_term.specs.Terms.{tree_at}
use Rattle.eo_declare.specs.Declarations.{may_be_constant}
use Rattle.eo_session.specs.Store.{state_of}
use Rattle.eo_session.specs.State.{State, context, is_in_scope}
use Rattle.eo_session.specs.Decisions.{constant_effect}
use Rattle.eo_session.proofs.Adding.{typed-fault, typed-added, sound-value}
use Rattle.eo_session.proofs.Decided.{decides-refused, decides-same}
use Rattle.eo_session.proofs.store.Store.decide_valued.Goals as goal

pub returns-in_err-ty-clause-decides : goal.returns-in_err-ty-clause-decides
returns-in_err-ty-clause-decides c =
    let h = c.args.self.now in
    let d = read_constant h.table.trees c.args.d in
    decides-refused _ _ c.from_residual.result c.in_err-ty.field-0.0 c.type_value.new.self c.from_residual.ensures.1 c.in_err-ty.ensures.gives (typed-fault (state_of h) d)

pub decide_or_repeat-requires-clause-may : goal.decide_or_repeat-requires-clause-may
decide_or_repeat-requires-clause-may c =
    let ts = c.args.self.now.table.trees in
    let us = c.type_value.new.self.table.trees in
    let v = tree_at us c.in_ok-ty.ty in
    let d = read_constant ts c.args.d in
    let same = ap (λ (x : Constant). record x { type = v }) (c.laws.ensures c.args.self.now.table c.type_value.new.self.table c.requires.below c.in_ok-ty.ensures.keeps.grows.now) in
    record {
      sound = subst (λ (x : Constant). constant_fault x ≡ None) (sym same) (sound-value d v (ap (map (read_parameter ts)) c.requires.alone) c.in_ok-ty.ensures.value.value c.requires.may.sound);
      name = subst (λ (st : State). may_be_constant (context st) c.args.d.name ≡ true) (sym c.in_ok-ty.ensures.keeps.same) c.requires.may.name;
    }

pub returns-clause-decides : goal.returns-clause-decides
returns-clause-decides c =
    let h = c.args.self.now in
    let ts = h.table.trees in
    let us = c.type_value.new.self.table.trees in
    let v = tree_at us c.in_ok-ty.ty in
    let d = read_constant ts c.args.d in
    let same = ap (λ (x : Constant). record x { type = v }) (c.laws.ensures c.args.self.now.table c.type_value.new.self.table c.requires.below c.in_ok-ty.ensures.keeps.grows.now) in
    let kept = c.in_ok-ty.ensures.keeps.same in
    decides-same c.type_value.new.self c.decide_or_repeat.result _ _
    (typed-added (state_of h) d v c.in_ok-ty.ensures.gives.is ∙ sym (λ i. constant_effect (kept i) (same i)))
    c.decide_or_repeat.ensures.decides

pub decide_or_repeat-requires-clause-outside : goal.decide_or_repeat-requires-clause-outside
decide_or_repeat-requires-clause-outside c = ap is_in_scope c.in_ok-ty.ensures.keeps.same ∙ c.requires.outside
