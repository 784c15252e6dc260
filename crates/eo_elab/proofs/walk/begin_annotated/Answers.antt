use Rattle.std.proofs.Common.{refl, ap, ◌∙◌, arith}
use Rattle.eo_sexp.specs.Sizes.{size_of_all}
use Rattle.eo_elab.specs.Waiting.{inside}
use Rattle.eo_elab.specs.Worlds.{named_terms_in, annotated_in, sexps}
use Rattle.eo_elab.specs.declared.waiting.Frame.TheVariants as frame
use Rattle.eo_elab.proofs.Sizes.{none_given, one_given}
use Rattle.eo_elab.proofs.WalkSteps.{annotated_none, annotated_step}
use Rattle.eo_elab.proofs.Finishing.{wait_on}
use Rattle.eo_elab.proofs.walk.begin_annotated.Goals as goal

pub returns-in_default : goal.returns-in_default
returns-in_default c =
    let w = inside c.args.table.now c.args.sig.now c.args.scope.now c.args.blocks.now in
    let here = named_terms_in c.args.table.now c.args.named_terms.now in
    record { gives = ap (λ xs. annotated_in w xs here) (none_given c.args.args.now c.in_default.ensures) ∙ annotated_none w.names w.locals here }

pub returns : goal.returns
returns c =
    let w = inside c.args.table.now c.args.sig.now c.args.scope.now c.args.blocks.now in
    let here = named_terms_in c.args.table.now c.args.named_terms.now in
    let given = one_given c.args.args.now c.in-Some.s c.in-Some.attributes c.in-Some.ensures in
    let small = ap size_of_all given in
    record { gives = wait_on _ _ _ _ _ _ _ _ _ (frame.Annotated c.in-Some.attributes) c.in-Some.s _ c.in_ok-wait.ensures refl tt c.requires.ready (ap (λ xs. annotated_in w xs here) given ∙ annotated_step w.names w.locals here c.in-Some.s (sexps c.in-Some.attributes)) (omega (arith, small)) }
