use Rattle.std.proofs.Common.{◌≡◌, ◌+◌, ◌++◌, length, refl, ap, ◌∙◌, arith}
use Rattle.eo_sexp.specs.Sizes.{size_of_all}
use Rattle.eo_term.specs.Growth.{trees_in}
use Rattle.eo_base.proofs.Answering.{tells_on}
use Rattle.eo_names.specs.Names.{bound_by}
use Rattle.eo_names.specs.Refused.{told}
use Rattle.eo_names.specs.Scopes.{bound_in}
use Rattle.eo_elab.specs.Waiting.{inside, arguments_after, used_by}
use Rattle.eo_elab.specs.Worlds.{named_terms_in}
use Rattle.eo_elab.specs.declared.waiting.Frame.TheVariants as frame
use Rattle.eo_elab.proofs.Sizes.{none_given, one_given}
use Rattle.eo_elab.proofs.Finishing.{give_on, wait_on, goes_fault, argument_first, argument_end, suits_more}
use Rattle.eo_elab.proofs.walk.arguments.use_or_wait.Goals as goal

pub returns-in_err-made-in-None-clause-gives : goal.returns-in_err-made-in-None-clause-gives
returns-in_err-made-in-None-clause-gives c =
    let old = c.args.table.now in
    let w = inside old c.args.sig.now c.args.scope.now c.args.blocks.now in
    let here = named_terms_in old c.args.named_terms.now in
    let given = trees_in old c.args.before in
    let step : arguments_after w old.trees c.args.used.now given c.args.rest.now here ≡ used_by w old.trees c.args.used.now given here = ap (λ xs. arguments_after w old.trees c.args.used.now given xs here) (none_given c.args.rest.now c.in-None.ensures) ∙ argument_end w old.trees c.args.used.now here given in
    goes_fault _ _ _ _ _ _ _ _ _ _ _ _ c.from_residual.ensures.1 (tells_on told _ (arguments_after w old.trees c.args.used.now given c.args.rest.now here) (used_by w old.trees c.args.used.now given here) (λ f e. step ∙ e) c.in_err-made-in-None.ensures.gives)

pub returns-in-None-clause-gives : goal.returns-in-None-clause-gives
returns-in-None-clause-gives c =
    let old = c.args.table.now in
    let w = inside old c.args.sig.now c.args.scope.now c.args.blocks.now in
    let here = named_terms_in old c.args.named_terms.now in
    let given = trees_in old c.args.before in
    let ls = bound_by c.args.blocks.now ++ bound_in c.args.scope.now in
    let step : arguments_after w old.trees c.args.used.now given c.args.rest.now here ≡ used_by w old.trees c.args.used.now given here = ap (λ xs. arguments_after w old.trees c.args.used.now given xs here) (none_given c.args.rest.now c.in-None.ensures) ∙ argument_end w old.trees c.args.used.now here given in
    give_on _ _ _ _ _ _ _ _ _ (c.names_law.ensures.stays c.args.sig.now ls old c.use_all.new.table c.requires.ready c.use_all.ensures.grows).ready c.in_ok-made-in-None.ensures.gives.live (step ∙ c.in_ok-made-in-None.ensures.gives.is) (omega arith)

pub returns-clause-gives : goal.returns-clause-gives
returns-clause-gives c =
    let old = c.args.table.now in
    let w = inside old c.args.sig.now c.args.scope.now c.args.blocks.now in
    let here = named_terms_in old c.args.named_terms.now in
    let given = trees_in old c.args.before in
    let split = one_given c.args.rest.now c.in-Some.s c.in-Some.rest c.in-Some.ensures in
    let long = ap length split in
    let small = ap size_of_all split in
    let step = ap (λ xs. arguments_after w old.trees c.args.used.now given xs here) split ∙ argument_first w old.trees c.args.used.now here given c.in-Some.s c.in-Some.rest in
    wait_on _ _ _ _ _ _ _ _ _ (frame.Argument c.args.used.now c.args.before c.in-Some.rest) _ _ c.in_ok-wait-in-Some.ensures refl (c.requires.before, (c.requires.below, suits_more c.args.used.now _ _ (omega (arith, long)) c.requires.suits)) c.requires.ready step (omega (arith, small))
