use Rattle.std.proofs.Common.{ap, sym, ◌∙◌, arith}
use Rattle.eo_sexp.specs.Sexp.{sexp_span}
use Rattle.eo_sexp.proofs.Sizes.{size_inside}
use Rattle.eo_names.specs.Names.{read_pairs}
use Rattle.eo_names.specs.Readers.{go_on}
use Rattle.eo_elab.specs.Waiting.{inside, pairs_first, pairs_then, with_names}
use Rattle.eo_elab.specs.Worlds.{named_terms_in, sexps}
use Rattle.eo_elab.proofs.Sizes.{is_list}
use Rattle.eo_elab.proofs.WalkSteps.{pairs_no_list, pairs_listed}
use Rattle.eo_elab.proofs.Finishing.{goes_on}
use Rattle.eo_elab.proofs.walk.pairs.begin_pairs.Goals as goal

pub returns-in_default-clause-gives : goal.returns-in_default-clause-gives
returns-in_default-clause-gives c =
    let w = inside c.args.table.now c.args.sig.now c.args.scope.now c.args.blocks.now in
    ap (go_on (with_names w c.args.next)) (pairs_no_list w.names w.locals (named_terms_in c.args.table.now c.args.named_terms.now) c.args.pairs.now c.in_default.ensures)

pub returns-clause-gives : goal.returns-clause-gives
returns-clause-gives c =
    let w = inside c.args.table.now c.args.sig.now c.args.scope.now c.args.blocks.now in
    let here = named_terms_in c.args.table.now c.args.named_terms.now in
    let small = size_inside c.args.pairs.now c.in-Some.children c.in-Some.ensures in
    let step = ap (λ s. pairs_first w c.args.next s here) (is_list c.args.pairs.now c.in-Some.children c.in-Some.ensures) ∙ ap (go_on (with_names w c.args.next)) (pairs_listed w.names w.locals here (sexps c.in-Some.children) (sexp_span c.args.pairs.now)) ∙ ap (λ bs. pairs_then w c.args.next (read_pairs c.args.table.now.trees bs) c.in-Some.children here) (sym c.new.ensures) in
    goes_on _ _ _ _ _ _ _ _ _ _ _ _ _ step (omega (arith, small)) c.next_pair.ensures.gives
