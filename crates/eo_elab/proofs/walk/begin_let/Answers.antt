use Rattle.std.proofs.Common.{ap, ◌∙◌, arith}
use Rattle.eo_sexp.specs.Sizes.{size_of_all}
use Rattle.eo_elab.specs.Waiting.{inside}
use Rattle.eo_elab.specs.Worlds.{named_terms_in, let_in}
use Rattle.eo_elab.proofs.Sizes.{two_given}
use Rattle.eo_elab.proofs.WalkSteps.{let_not_two}
use Rattle.eo_elab.proofs.Finishing.{goes_on, let_pairs}
use Rattle.eo_elab.proofs.walk.begin_let.Goals as goal

pub returns-in_default-clause-gives : goal.returns-in_default-clause-gives
returns-in_default-clause-gives c =
    let w = inside c.args.table.now c.args.sig.now c.args.scope.now c.args.blocks.now in
    let_not_two w.names w.locals (named_terms_in c.args.table.now c.args.named_terms.now) c.args.args.now c.in_default.ensures

pub returns-clause-gives : goal.returns-clause-gives
returns-clause-gives c =
    let w = inside c.args.table.now c.args.sig.now c.args.scope.now c.args.blocks.now in
    let here = named_terms_in c.args.table.now c.args.named_terms.now in
    let given = two_given c.args.args.now c.in-Some.pairs c.in-Some.body c.in-Some.ensures in
    let small = ap size_of_all given in
    goes_on _ _ _ _ _ _ _ _ _ _ _ _ _ (ap (λ xs. let_in w xs here) given ∙ let_pairs w c.in-Some.pairs c.in-Some.body here) (omega (arith, small)) c.begin_pairs.ensures.gives
