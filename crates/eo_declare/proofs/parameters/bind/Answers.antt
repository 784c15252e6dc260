use Rattle.std.proofs.Common.{◌≡◌, ◌<◌, ◌∷◌, length, map, All, arith, ap, sym, subst, ◌∙◌}
use Rattle.std.proofs.lemmas.List.Elements.{All-nil}
use Rattle.eo_base.proofs.Answering.{fails}
use Rattle.eo_shape.specs.Reading as shapes
use Rattle.eo_sig.specs.declared.records.Param.{Param}
use Rattle.eo_sig.specs.Reading.{read_parameter}
use Rattle.eo_term.proofs.Growing.{grows_refl, grows_on}
use Rattle.eo_names.specs.Names.{read_locals}
use Rattle.eo_declare.specs.Declarations.{bind}
use Rattle.eo_declare.specs.Declaring.{read_bound}
use Rattle.eo_elab.specs.Worlds.{context_at}
use Rattle.eo_declare.proofs.Giving.{same_context_at, none_ready}
use Rattle.eo_declare.proofs.parameters.bind.Goals as goal

pub returns-in_err-read-clause-gives : goal.returns-in_err-read-clause-gives
returns-in_err-read-clause-gives c =
    let l = c.loop-shape in
    let b = read_bound l.table.trees l.bound in
    let p = shapes.read_parameter c.in-Some.shape in
    let rest = c.next.new.self in
    let same = same_context_at c.args.file_kind c.args.sig.now c.args.table.now l.table c.laws.ensures c.requires.ready l.invariant.grows in
    let step = l.invariant.left ∙ ap (bind (context_at c.args.table.now c.args.sig.now c.args.file_kind) b) c.in-Some.ensures.steps in
    fails _ _ _ _ _ _ _ c.from_residual-in_err-read.ensures.1 (λ f e. step ∙ ap (λ y. bind y b (p ∷ rest)) (sym same) ∙ e) (c.in_err-read.ensures.reads rest)

pub loop-shape-preserved : goal.loop-shape-preserved
loop-shape-preserved c =
    let l = c.loop-shape in
    let b = read_bound l.table.trees l.bound in
    let p = shapes.read_parameter c.in-Some.shape in
    let rest = c.next.new.self in
    let same = same_context_at c.args.file_kind c.args.sig.now c.args.table.now l.table c.laws.ensures c.requires.ready l.invariant.grows in
    let step = l.invariant.left ∙ ap (bind (context_at c.args.table.now c.args.sig.now c.args.file_kind) b) c.in-Some.ensures.steps in
    let first = ap length c.in-Some.ensures.steps in
    record {
      left = step ∙ ap (λ y. bind y b (p ∷ rest)) (sym same) ∙ c.in_ok-read.ensures.reads.binds rest ∙ ap (λ y. bind y (read_bound c.read.new.table.trees c.read.new.self) rest) same;
      live = c.in_ok-read.ensures.reads.live;
      count = omega (arith, first, c.in_ok-read.ensures.count, l.invariant.count);
      grows = grows_on c.args.table.now l.table c.read.new.table l.invariant.grows c.in_ok-read.ensures.grows;
    }

pub loop-shape-init : goal.loop-shape-init
loop-shape-init c =
    let t = c.args.table.now in
    let b = c.in_ok-bound.bound in
    let all : c.into_iter-shape-iterator.result ≡ c.args.shapes.now = cc in
    let params = c.in_ok-bound.ensures.params in
    let locals = c.in_ok-bound.ensures.locals in
    let none = ap length params in
    let whole = ap length all in
    record {
      left = λ i. bind (context_at t c.args.sig.now c.args.file_kind) (record { parameters = map (read_parameter t.trees) (sym params i); locals = read_locals t.trees (sym locals i) }) (sym all i);
      live = record {
        params = subst (All (λ (p : Param). p.ty < length t.trees)) (sym params) (All-nil (λ (p : Param). p.ty < length t.trees));
        ready = none_ready c.args.sig.now (length t.trees) b.locals locals c.requires.ready;
      };
      count = omega (arith, none, whole);
      grows = grows_refl t;
    }

pub read-requires : goal.read-requires
read-requires c =
    let first = ap length c.in-Some.ensures.steps in
    record { bound = c.loop-shape.invariant.live; room = omega (arith, first, c.loop-shape.invariant.count, c.requires.few) }

pub returns-in_err-bound-clause-grows : goal.returns-in_err-bound-clause-grows
returns-in_err-bound-clause-grows c = grows_refl c.args.table.now

pub returns-in_err-read-clause-grows : goal.returns-in_err-read-clause-grows
returns-in_err-read-clause-grows c = grows_on c.args.table.now c.loop-shape.table c.read.new.table c.loop-shape.invariant.grows c.in_err-read.ensures.grows

pub returns-clause-gives : goal.returns-clause-gives
returns-clause-gives c =
    let l = c.loop-shape in
    record { live = l.invariant.live; is = l.invariant.left ∙ ap (bind (context_at c.args.table.now c.args.sig.now c.args.file_kind) (read_bound l.table.trees l.bound)) c.in-None.ensures.steps.0 }

pub returns-clause-count : goal.returns-clause-count
returns-clause-count c =
    let none = ap length c.in-None.ensures.steps.0 in
    omega (arith, none, c.loop-shape.invariant.count)
