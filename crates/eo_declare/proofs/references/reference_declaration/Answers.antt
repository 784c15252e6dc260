use Rattle.std.proofs.Common.{ap, refl, ◌∙◌}
use Rattle.eo_base.proofs.Answering.{fails}
use Rattle.eo_term.proofs.Growing.{grows_refl}
use Rattle.eo_shape.specs.Reading as shapes
use Rattle.eo_declare.specs.Declarations.{reference_declaration, as_constant, as_macro}
use Rattle.eo_declare.specs.Declaring.{or_bad}
use Rattle.eo_declare.specs.Worlds.{reference_context}
use Rattle.eo_declare.proofs.CheckedLemmas.{then-ok, then-err}
use Rattle.eo_declare.proofs.ReferenceLemmas.{others_declare_nothing}
use Rattle.eo_declare.proofs.references.reference_declaration.Goals as goal

pub returns-in_err-d-in-DeclareConst-clause-gives : goal.returns-in_err-d-in-DeclareConst-clause-gives
unfolding reference_declaration
returns-in_err-d-in-DeclareConst-clause-gives c =
    fails _ _ _ _ _ _ _ c.from_residual.ensures.1 (λ f e. ap (λ k. or_bad (reference_declaration (reference_context c.args.table.now c.args.sig.now) (shapes.read_command k))) c.in-DeclareConst.is ∙ then-err as_constant _ f e) c.in_err-d-in-DeclareConst.ensures.gives

pub returns-in_ok-d-in-DeclareConst-clause-gives : goal.returns-in_ok-d-in-DeclareConst-clause-gives
unfolding reference_declaration
returns-in_ok-d-in-DeclareConst-clause-gives c = record {
  live = c.in_ok-d-in-DeclareConst.ensures.gives.live;
  is = ap (λ k. or_bad (reference_declaration (reference_context c.args.table.now c.args.sig.now) (shapes.read_command k))) c.in-DeclareConst.is ∙ then-ok as_constant _ _ c.in_ok-d-in-DeclareConst.ensures.gives.is;
}

pub returns-in_err-d-in-DeclareFun-clause-gives : goal.returns-in_err-d-in-DeclareFun-clause-gives
unfolding reference_declaration
returns-in_err-d-in-DeclareFun-clause-gives c =
    fails _ _ _ _ _ _ _ c.from_residual-in_err-d-in-DeclareFun.ensures.1 (λ f e. ap (λ k. or_bad (reference_declaration (reference_context c.args.table.now c.args.sig.now) (shapes.read_command k))) c.in-DeclareFun.is ∙ then-err as_constant _ f e) c.in_err-d-in-DeclareFun.ensures.gives

pub returns-in_ok-d-in-DeclareFun-clause-gives : goal.returns-in_ok-d-in-DeclareFun-clause-gives
unfolding reference_declaration
returns-in_ok-d-in-DeclareFun-clause-gives c = record {
  live = c.in_ok-d-in-DeclareFun.ensures.gives.live;
  is = ap (λ k. or_bad (reference_declaration (reference_context c.args.table.now c.args.sig.now) (shapes.read_command k))) c.in-DeclareFun.is ∙ then-ok as_constant _ _ c.in_ok-d-in-DeclareFun.ensures.gives.is;
}

pub returns-in_err-d-in-DeclareSort-clause-gives : goal.returns-in_err-d-in-DeclareSort-clause-gives
unfolding reference_declaration
returns-in_err-d-in-DeclareSort-clause-gives c =
    fails _ _ _ _ _ _ _ c.from_residual-in_err-d-in-DeclareSort.ensures.1 (λ f e. ap (λ k. or_bad (reference_declaration (reference_context c.args.table.now c.args.sig.now) (shapes.read_command k))) c.in-DeclareSort.is ∙ then-err as_constant _ f e) c.in_err-d-in-DeclareSort.ensures.gives

pub returns-in_ok-d-in-DeclareSort-clause-gives : goal.returns-in_ok-d-in-DeclareSort-clause-gives
unfolding reference_declaration
returns-in_ok-d-in-DeclareSort-clause-gives c = record {
  live = c.in_ok-d-in-DeclareSort.ensures.gives.live;
  is = ap (λ k. or_bad (reference_declaration (reference_context c.args.table.now c.args.sig.now) (shapes.read_command k))) c.in-DeclareSort.is ∙ then-ok as_constant _ _ c.in_ok-d-in-DeclareSort.ensures.gives.is;
}

pub returns-in_err-d-in-DefineFun-clause-gives : goal.returns-in_err-d-in-DefineFun-clause-gives
unfolding reference_declaration
returns-in_err-d-in-DefineFun-clause-gives c =
    fails _ _ _ _ _ _ _ c.from_residual-in_err-d-in-DefineFun.ensures.1 (λ f e. ap (λ k. or_bad (reference_declaration (reference_context c.args.table.now c.args.sig.now) (shapes.read_command k))) c.in-DefineFun.is ∙ then-err as_macro _ f e) c.in_err-d-in-DefineFun.ensures.gives

pub returns-in_ok-d-in-DefineFun-clause-gives : goal.returns-in_ok-d-in-DefineFun-clause-gives
unfolding reference_declaration
returns-in_ok-d-in-DefineFun-clause-gives c = record {
  live = c.in_ok-d-in-DefineFun.ensures.gives.live;
  is = ap (λ k. or_bad (reference_declaration (reference_context c.args.table.now c.args.sig.now) (shapes.read_command k))) c.in-DefineFun.is ∙ then-ok as_macro _ _ c.in_ok-d-in-DefineFun.ensures.gives.is;
}

pub returns-in_err-d-in-DefineSort-clause-gives : goal.returns-in_err-d-in-DefineSort-clause-gives
unfolding reference_declaration
returns-in_err-d-in-DefineSort-clause-gives c =
    fails _ _ _ _ _ _ _ c.from_residual-in_err-d-in-DefineSort.ensures.1 (λ f e. ap (λ k. or_bad (reference_declaration (reference_context c.args.table.now c.args.sig.now) (shapes.read_command k))) c.in-DefineSort.is ∙ then-err as_macro _ f e) c.in_err-d-in-DefineSort.ensures.gives

pub returns-in_ok-d-in-DefineSort-clause-gives : goal.returns-in_ok-d-in-DefineSort-clause-gives
unfolding reference_declaration
returns-in_ok-d-in-DefineSort-clause-gives c = record {
  live = c.in_ok-d-in-DefineSort.ensures.gives.live;
  is = ap (λ k. or_bad (reference_declaration (reference_context c.args.table.now c.args.sig.now) (shapes.read_command k))) c.in-DefineSort.is ∙ then-ok as_macro _ _ c.in_ok-d-in-DefineSort.ensures.gives.is;
}

pub returns-in_default-clause-gives : goal.returns-in_default-clause-gives
returns-in_default-clause-gives c =
    let other = c.in_default in
    others_declare_nothing (reference_context c.args.table.now c.args.sig.now) c.args.command.now other.not-DeclareConst other.not-DeclareFun other.not-DeclareSort other.not-DefineFun other.not-DefineSort

pub returns-in_default-clause-grows : goal.returns-in_default-clause-grows
returns-in_default-clause-grows c = record { table = grows_refl c.args.table.now; stays = record { signature = refl; macros = refl; below = c.requires } }
