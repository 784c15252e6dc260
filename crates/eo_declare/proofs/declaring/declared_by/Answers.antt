use Rattle.std.proofs.Common.{ap, sym, subst, ◌∙◌}
use Rattle.std.specs.Prelude.{Ok}
use Rattle.eo_base.proofs.Answering.{fails}
use Rattle.eo_shape.specs.Reading as shapes
use Rattle.eo_declare.specs.Declarations.{declaration, as_macro, as_program, as_rule, ALiteralType}
use Rattle.eo_declare.specs.Declaring.{or_bad}
use Rattle.eo_declare.specs.Gives.{GivesDeclaration}
use Rattle.eo_elab.specs.Worlds.{context_in}
use Rattle.eo_declare.proofs.CheckedLemmas.{then-ok, then-err}
use Rattle.eo_declare.proofs.DeclaringLemmas.{others_declare_constants}
use Rattle.eo_declare.proofs.declaring.declared_by.Goals as goal

pub returns-in_err-ty-in-DeclareLiterals-clause-gives : goal.returns-in_err-ty-in-DeclareLiterals-clause-gives
unfolding declaration
returns-in_err-ty-in-DeclareLiterals-clause-gives c =
    fails _ _ _ _ _ _ _ c.from_residual.ensures.1 (λ f e. ap (λ k. or_bad (declaration (context_in c.args.table.now c.args.sig.now) (shapes.read_command k))) c.in-DeclareLiterals.is ∙ then-err (λ t. Ok (ALiteralType c.in-DeclareLiterals.class t)) _ f e) c.in_err-ty-in-DeclareLiterals.ensures.gives

pub returns-in_ok-ty-in-DeclareLiterals-clause-gives : goal.returns-in_ok-ty-in-DeclareLiterals-clause-gives
unfolding declaration
returns-in_ok-ty-in-DeclareLiterals-clause-gives c = record {
  live = c.in_ok-ty-in-DeclareLiterals.ensures.gives.live;
  is = ap (λ k. or_bad (declaration (context_in c.args.table.now c.args.sig.now) (shapes.read_command k))) c.in-DeclareLiterals.is ∙ then-ok (λ t. Ok (ALiteralType c.in-DeclareLiterals.class t)) _ _ c.in_ok-ty-in-DeclareLiterals.ensures.gives.is;
}

pub returns-in_err-d-in-Define-clause-gives : goal.returns-in_err-d-in-Define-clause-gives
unfolding declaration
returns-in_err-d-in-Define-clause-gives c =
    fails _ _ _ _ _ _ _ c.from_residual-in_err-d-in-Define.ensures.1 (λ f e. ap (λ k. or_bad (declaration (context_in c.args.table.now c.args.sig.now) (shapes.read_command k))) c.in-Define.is ∙ then-err as_macro _ f e) c.in_err-d-in-Define.ensures.gives

pub returns-in_ok-d-in-Define-clause-gives : goal.returns-in_ok-d-in-Define-clause-gives
unfolding declaration
returns-in_ok-d-in-Define-clause-gives c = record {
  live = c.in_ok-d-in-Define.ensures.gives.live;
  is = ap (λ k. or_bad (declaration (context_in c.args.table.now c.args.sig.now) (shapes.read_command k))) c.in-Define.is ∙ then-ok as_macro _ _ c.in_ok-d-in-Define.ensures.gives.is;
}

pub returns-in_err-d-in-Program-clause-gives : goal.returns-in_err-d-in-Program-clause-gives
unfolding declaration
returns-in_err-d-in-Program-clause-gives c =
    fails _ _ _ _ _ _ _ c.from_residual-in_err-d-in-Program.ensures.1 (λ f e. ap (λ k. or_bad (declaration (context_in c.args.table.now c.args.sig.now) (shapes.read_command k))) c.in-Program.is ∙ then-err as_program _ f e) c.in_err-d-in-Program.ensures.gives

pub returns-in_ok-d-in-Program-clause-gives : goal.returns-in_ok-d-in-Program-clause-gives
unfolding declaration
returns-in_ok-d-in-Program-clause-gives c = record {
  live = c.in_ok-d-in-Program.ensures.gives.live;
  is = ap (λ k. or_bad (declaration (context_in c.args.table.now c.args.sig.now) (shapes.read_command k))) c.in-Program.is ∙ then-ok as_program _ _ c.in_ok-d-in-Program.ensures.gives.is;
}

pub returns-in_err-d-in-DeclareRule-clause-gives : goal.returns-in_err-d-in-DeclareRule-clause-gives
unfolding declaration
returns-in_err-d-in-DeclareRule-clause-gives c =
    fails _ _ _ _ _ _ _ c.from_residual-in_err-d-in-DeclareRule.ensures.1 (λ f e. ap (λ k. or_bad (declaration (context_in c.args.table.now c.args.sig.now) (shapes.read_command k))) c.in-DeclareRule.is ∙ then-err as_rule _ f e) c.in_err-d-in-DeclareRule.ensures.gives

pub returns-in_ok-d-in-DeclareRule-clause-gives : goal.returns-in_ok-d-in-DeclareRule-clause-gives
unfolding declaration
returns-in_ok-d-in-DeclareRule-clause-gives c = record {
  live = c.in_ok-d-in-DeclareRule.ensures.gives.live;
  is = ap (λ k. or_bad (declaration (context_in c.args.table.now c.args.sig.now) (shapes.read_command k))) c.in-DeclareRule.is ∙ then-ok as_rule _ _ c.in_ok-d-in-DeclareRule.ensures.gives.is;
}

pub returns-in_default-clause-gives : goal.returns-in_default-clause-gives
returns-in_default-clause-gives c =
    let other = c.in_default in
    let is = others_declare_constants (context_in c.args.table.now c.args.sig.now) c.args.command.now other.not-DeclareLiterals other.not-Define other.not-Program other.not-DeclareRule in
    subst (GivesDeclaration c.declared_constant.new.table c.declared_constant.result) (sym is) c.declared_constant.ensures.gives
