use Rattle.std.proofs.Common.{◌≡◌, ◌<◌, length, map, All, arith, ap, sym, subst, ◌∙◌}
use Rattle.std.proofs.lemmas.List.Elements.{All-nil}
use Rattle.eo_base.proofs.Answering.{fails}
use Rattle.eo_sig.specs.declared.records.Param.{Param}
use Rattle.eo_sig.specs.Reading.{read_parameter}
use Rattle.eo_term.proofs.Growing.{grows_refl, grows_on}
use Rattle.eo_names.specs.Names.{read_locals, AreBelow}
use Rattle.eo_names.specs.declared.locals.LocalName.{LocalName}
use Rattle.eo_declare.specs.Declarations.{bind_types}
use Rattle.eo_declare.specs.Declaring.{read_bound}
use Rattle.eo_declare.proofs.parameters.bind_types.Goals as goal

pub returns-in_err-name_type-clause-gives : goal.returns-in_err-name_type-clause-gives
returns-in_err-name_type-clause-gives c =
    let l = c.loop-name in
    let step = l.invariant.left ∙ ap (bind_types (read_bound l.table.trees l.bound)) c.in-Some.ensures.steps in
    fails _ _ _ _ _ _ _ c.from_residual-in_err-name_type.ensures.1 (λ f e. step ∙ e) (c.in_err-name_type.ensures.names c.next.new.self)

pub loop-name-preserved : goal.loop-name-preserved
loop-name-preserved c =
    let l = c.loop-name in
    let step = l.invariant.left ∙ ap (bind_types (read_bound l.table.trees l.bound)) c.in-Some.ensures.steps in
    let first = ap length c.in-Some.ensures.steps in
    record {
      left = step ∙ c.in_ok-name_type.ensures.names.binds c.next.new.self;
      live = c.in_ok-name_type.ensures.names.live;
      count = omega (arith, first, c.in_ok-name_type.ensures.count, l.invariant.count);
      grows = grows_on c.args.table.now l.table c.name_type.new.table l.invariant.grows c.in_ok-name_type.ensures.grows;
    }

pub loop-name-init : goal.loop-name-init
loop-name-init c =
    let t = c.args.table.now in
    let all : c.into_iter-name-iterator.result ≡ c.args.names.now = cc in
    let params = c.in_ok-bound.ensures.params in
    let locals = c.in_ok-bound.ensures.locals in
    let none = ap length params in
    let whole = ap length all in
    record {
      left = λ i. bind_types (record { parameters = map (read_parameter t.trees) (sym params i); locals = read_locals t.trees (sym locals i) }) (sym all i);
      live = record {
        params = subst (All (λ (p : Param). p.ty < length t.trees)) (sym params) (All-nil (λ (p : Param). p.ty < length t.trees));
        locals = subst (AreBelow (length t.trees)) (sym locals) (All-nil (λ (l : LocalName). l.id < length t.trees));
      };
      count = omega (arith, none, whole);
      grows = grows_refl t;
    }

pub name_type-requires : goal.name_type-requires
name_type-requires c =
    let first = ap length c.in-Some.ensures.steps in
    record { bound = c.loop-name.invariant.live; room = omega (arith, first, c.loop-name.invariant.count, c.requires.few) }

pub returns-in_err-bound-clause-grows : goal.returns-in_err-bound-clause-grows
returns-in_err-bound-clause-grows c = grows_refl c.args.table.now

pub returns-in_err-name_type-clause-grows : goal.returns-in_err-name_type-clause-grows
returns-in_err-name_type-clause-grows c = grows_on c.args.table.now c.loop-name.table c.name_type.new.table c.loop-name.invariant.grows c.in_err-name_type.ensures.grows

pub returns-clause-gives : goal.returns-clause-gives
returns-clause-gives c =
    let l = c.loop-name in
    record { live = l.invariant.live; is = l.invariant.left ∙ ap (bind_types (read_bound l.table.trees l.bound)) c.in-None.ensures.steps.0 }

pub returns-clause-count : goal.returns-clause-count
returns-clause-count c =
    let none = ap length c.in-None.ensures.steps.0 in
    omega (arith, none, c.loop-name.invariant.count)
