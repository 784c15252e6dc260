use Rattle.std.proofs.Common.{◌∷◌, [], length, ap, sym, ◌∙◌, arith}
use Rattle.std.proofs.lemmas.List.{map-append, length-append}
use Rattle.eo_term.specs.Terms.{tree_at}
use Rattle.eo_term.specs.Growth.{trees_in}
use Rattle.eo_elab.specs.Waiting.{inside, arguments_after}
use Rattle.eo_elab.specs.Worlds.{named_terms_in}
use Rattle.eo_elab.proofs.Finishing.{goes_on, suits_more}
use Rattle.eo_elab.proofs.walk.resume_argument.Goals as goal

pub next_argument-requires-clause-suits : goal.next_argument-requires-clause-suits
next_argument-requires-clause-suits c =
    let long = ap length c.in_ok-push.ensures.pushed ∙ length-append c.args.before (c.args.id ∷ []) in
    suits_more c.args.used.now _ _ (omega (arith, long)) c.requires.suits

pub returns-clause-gives : goal.returns-clause-gives
returns-clause-gives c =
    let old = c.args.table.now in
    let w = inside old c.args.sig.now c.args.scope.now c.args.blocks.now in
    let here = named_terms_in old c.args.named_terms.now in
    let more = ap (trees_in old) c.in_ok-push.ensures.pushed ∙ map-append (tree_at old.trees) c.args.before (c.args.id ∷ []) in
    goes_on _ _ _ _ _ _ _ _ _ _ _ _ _ (ap (λ us. arguments_after w old.trees c.args.used.now us c.args.rest.now here) (sym more)) (omega arith) c.next_argument.ensures.gives
