use Rattle.std.proofs.Common.{ap, ◌∙◌}
use Rattle.std.specs.Prelude.{Ok}
use Rattle.eo_base.proofs.Answering.{fails}
use Rattle.eo_sig.specs.Signature.{RightNil, LeftNil, Chain, Pairs, Binder}
use Rattle.eo_elab.specs.Worlds.{world_in}
use Rattle.eo_declare.specs.Worlds.{attribute_in}
use Rattle.eo_declare.proofs.CheckedLemmas.{then-ok, then-err}
use Rattle.eo_declare.proofs.constants.attribute_meant.Goals as goal

pub returns-in_err-elaborate_in-in-RightNil-clause-gives : goal.returns-in_err-elaborate_in-in-RightNil-clause-gives
returns-in_err-elaborate_in-in-RightNil-clause-gives c =
    let w = world_in c.args.table.now c.args.sig.now c.args.locals.now c.args.file_kind in
    fails _ _ _ _ _ _ _ c.from_residual.ensures.1 (λ f e. ap (attribute_in w) c.in-RightNil.is ∙ then-err (λ x. Ok (RightNil x)) _ f e) c.in_err-elaborate_in-in-RightNil.ensures.gives

pub returns-in_ok-elaborate_in-in-RightNil-clause-gives : goal.returns-in_ok-elaborate_in-in-RightNil-clause-gives
returns-in_ok-elaborate_in-in-RightNil-clause-gives c =
    let w = world_in c.args.table.now c.args.sig.now c.args.locals.now c.args.file_kind in
    record { live = c.in_ok-elaborate_in-in-RightNil.ensures.gives.live; is = ap (attribute_in w) c.in-RightNil.is ∙ then-ok (λ x. Ok (RightNil x)) _ _ c.in_ok-elaborate_in-in-RightNil.ensures.gives.is }

pub returns-in_err-elaborate_in-in-LeftNil-clause-gives : goal.returns-in_err-elaborate_in-in-LeftNil-clause-gives
returns-in_err-elaborate_in-in-LeftNil-clause-gives c =
    let w = world_in c.args.table.now c.args.sig.now c.args.locals.now c.args.file_kind in
    fails _ _ _ _ _ _ _ c.from_residual-in_err-elaborate_in-in-LeftNil.ensures.1 (λ f e. ap (attribute_in w) c.in-LeftNil.is ∙ then-err (λ x. Ok (LeftNil x)) _ f e) c.in_err-elaborate_in-in-LeftNil.ensures.gives

pub returns-in_ok-elaborate_in-in-LeftNil-clause-gives : goal.returns-in_ok-elaborate_in-in-LeftNil-clause-gives
returns-in_ok-elaborate_in-in-LeftNil-clause-gives c =
    let w = world_in c.args.table.now c.args.sig.now c.args.locals.now c.args.file_kind in
    record { live = c.in_ok-elaborate_in-in-LeftNil.ensures.gives.live; is = ap (attribute_in w) c.in-LeftNil.is ∙ then-ok (λ x. Ok (LeftNil x)) _ _ c.in_ok-elaborate_in-in-LeftNil.ensures.gives.is }

pub returns-in_err-constant_meant-in-Chain-clause-gives : goal.returns-in_err-constant_meant-in-Chain-clause-gives
returns-in_err-constant_meant-in-Chain-clause-gives c =
    let w = world_in c.args.table.now c.args.sig.now c.args.locals.now c.args.file_kind in
    fails _ _ _ _ _ _ _ c.from_residual-in_err-constant_meant-in-Chain.ensures.1 (λ f e. ap (attribute_in w) c.in-Chain.is ∙ then-err (λ x. Ok (Chain x)) _ f e) c.in_err-constant_meant-in-Chain.ensures.gives

pub returns-in_ok-constant_meant-in-Chain-clause-gives : goal.returns-in_ok-constant_meant-in-Chain-clause-gives
returns-in_ok-constant_meant-in-Chain-clause-gives c =
    let w = world_in c.args.table.now c.args.sig.now c.args.locals.now c.args.file_kind in
    record { live = tt; is = ap (attribute_in w) c.in-Chain.is ∙ then-ok (λ x. Ok (Chain x)) _ _ c.in_ok-constant_meant-in-Chain.ensures.gives.is }

pub returns-in_err-constant_meant-in-Pairs-clause-gives : goal.returns-in_err-constant_meant-in-Pairs-clause-gives
returns-in_err-constant_meant-in-Pairs-clause-gives c =
    let w = world_in c.args.table.now c.args.sig.now c.args.locals.now c.args.file_kind in
    fails _ _ _ _ _ _ _ c.from_residual-in_err-constant_meant-in-Pairs.ensures.1 (λ f e. ap (attribute_in w) c.in-Pairs.is ∙ then-err (λ x. Ok (Pairs x)) _ f e) c.in_err-constant_meant-in-Pairs.ensures.gives

pub returns-in_ok-constant_meant-in-Pairs-clause-gives : goal.returns-in_ok-constant_meant-in-Pairs-clause-gives
returns-in_ok-constant_meant-in-Pairs-clause-gives c =
    let w = world_in c.args.table.now c.args.sig.now c.args.locals.now c.args.file_kind in
    record { live = tt; is = ap (attribute_in w) c.in-Pairs.is ∙ then-ok (λ x. Ok (Pairs x)) _ _ c.in_ok-constant_meant-in-Pairs.ensures.gives.is }

pub returns-in_err-constant_meant-in-Binder-clause-gives : goal.returns-in_err-constant_meant-in-Binder-clause-gives
returns-in_err-constant_meant-in-Binder-clause-gives c =
    let w = world_in c.args.table.now c.args.sig.now c.args.locals.now c.args.file_kind in
    fails _ _ _ _ _ _ _ c.from_residual-in_err-constant_meant-in-Binder.ensures.1 (λ f e. ap (attribute_in w) c.in-Binder.is ∙ then-err (λ x. Ok (Binder x)) _ f e) c.in_err-constant_meant-in-Binder.ensures.gives

pub returns-in_ok-constant_meant-in-Binder-clause-gives : goal.returns-in_ok-constant_meant-in-Binder-clause-gives
returns-in_ok-constant_meant-in-Binder-clause-gives c =
    let w = world_in c.args.table.now c.args.sig.now c.args.locals.now c.args.file_kind in
    record { live = tt; is = ap (attribute_in w) c.in-Binder.is ∙ then-ok (λ x. Ok (Binder x)) _ _ c.in_ok-constant_meant-in-Binder.ensures.gives.is }

pub returns-in-None-clause-gives : goal.returns-in-None-clause-gives
returns-in-None-clause-gives c = record { live = tt; is = ap (attribute_in (world_in c.args.table.now c.args.sig.now c.args.locals.now c.args.file_kind)) c.in-None.is }

pub returns-in-Right-clause-gives : goal.returns-in-Right-clause-gives
returns-in-Right-clause-gives c = record { live = tt; is = ap (attribute_in (world_in c.args.table.now c.args.sig.now c.args.locals.now c.args.file_kind)) c.in-Right.is }

pub returns-in-Left-clause-gives : goal.returns-in-Left-clause-gives
returns-in-Left-clause-gives c = record { live = tt; is = ap (attribute_in (world_in c.args.table.now c.args.sig.now c.args.locals.now c.args.file_kind)) c.in-Left.is }
