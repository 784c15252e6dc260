use Rattle.std.proofs.Common.{◌+◌, ◌++◌, ◌∷◌, [], length, ap, sym, subst, ◌∙◌, arith}
use Rattle.std.specs.Prelude.{drop}
use Rattle.eo_names.specs.Ready.{IsReady}
use Rattle.eo_names.specs.Names.{bound_by, read_pairs}
use Rattle.eo_names.specs.Scopes.{bound_in}
use Rattle.eo_elab.specs.declared.waiting.Frame.TheVariants as frame
use Rattle.eo_elab.specs.Worlds.{named_terms_in, term_in}
use Rattle.eo_elab.specs.Waiting.{inside, with_names, finished, weight_next}
use Rattle.eo_elab.proofs.Finishing.{wait_on, inner_reads, inner_ready}
use Rattle.eo_elab.proofs.walk.pairs.end_pairs.Goals as goal

pub returns-in_ok-enter-in-Body-clause-gives : goal.returns-in_ok-enter-in-Body-clause-gives
returns-in_ok-enter-in-Body-clause-gives c =
    let t = c.args.table.now in
    let k = c.args.sig.now in
    let s = c.args.scope.now in
    let blocks = c.args.blocks.now in
    let bs = c.args.before in
    let here = named_terms_in t c.args.named_terms.now in
    let is = c.names_law.ensures.inside bs (bound_by blocks ++ bound_in s) in
    let inner = c.in_ok-enter-in-Body.ensures.blocks in
    let size_is = ap weight_next c.in-Body.is in
    wait_on k s t c.args.named_terms.now blocks c.enter.new.blocks c.args.waits.now.items c.enter.new.waits.items _ frame.Inner c.in-Body.s _ c.in_ok-enter-in-Body.ensures.waits (ap (drop 1) inner) tt
    (subst (λ b. IsReady (length t.trees) k (bound_by b ++ bound_in s)) (sym inner) (inner_ready (length t.trees) k s blocks bs is c.requires.before c.requires.ready))
    (ap (λ n. with_names (inside t k s blocks) n (read_pairs t.trees bs) here) c.in-Body.is ∙ inner_reads k s t blocks bs c.in-Body.s here is ∙ ap (λ b. finished k s t b (frame.Inner ∷ []) (term_in (inside t k s b) c.in-Body.s here)) (sym inner))
    (omega (arith, size_is))
