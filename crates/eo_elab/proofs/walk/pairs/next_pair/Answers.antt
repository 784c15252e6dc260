use Rattle.std.proofs.Common.{ap, ◌∙◌, arith}
use Rattle.eo_sexp.specs.Sizes.{size_of_all}
use Rattle.eo_names.specs.Names.{read_pairs}
use Rattle.eo_elab.specs.Waiting.{inside, pairs_then}
use Rattle.eo_elab.specs.Worlds.{named_terms_in}
use Rattle.eo_elab.proofs.Sizes.{none_given, one_given}
use Rattle.eo_elab.proofs.Finishing.{goes_on, pair_end}
use Rattle.eo_elab.proofs.walk.pairs.next_pair.Goals as goal

pub returns-in-None-clause-gives : goal.returns-in-None-clause-gives
returns-in-None-clause-gives c =
    let w = inside c.args.table.now c.args.sig.now c.args.scope.now c.args.blocks.now in
    let here = named_terms_in c.args.table.now c.args.named_terms.now in
    let before = read_pairs c.args.table.now.trees c.args.before in
    goes_on _ _ _ _ _ _ _ _ _ _ _ _ _ (ap (λ xs. pairs_then w c.args.next before xs here) (none_given c.args.rest.now c.in-None.ensures) ∙ pair_end w c.args.next here before) (omega arith) c.end_pairs.ensures.gives

pub returns-in-Some-clause-gives : goal.returns-in-Some-clause-gives
returns-in-Some-clause-gives c =
    let w = inside c.args.table.now c.args.sig.now c.args.scope.now c.args.blocks.now in
    let here = named_terms_in c.args.table.now c.args.named_terms.now in
    let before = read_pairs c.args.table.now.trees c.args.before in
    let given = one_given c.args.rest.now c.in-Some.pair c.in-Some.rest c.in-Some.ensures in
    let small = ap size_of_all given in
    goes_on _ _ _ _ _ _ _ _ _ _ _ _ _ (ap (λ xs. pairs_then w c.args.next before xs here) given) (omega (arith, small)) c.wait_beside.ensures.gives
