use Rattle.std.proofs.Common.{◌≡◌, ◌-◌, ◌∷◌, [], length, ap, subst, ◌∙◌, arith}
use Rattle.std.specs.Prelude.{reverse, Ok}
use Rattle.std.proofs.lemmas.List.{reverse-append}
use Rattle.eo_base.proofs.Answering.{fails}
use Rattle.eo_term.proofs.Growing.{grows_on}
use Rattle.eo_term.specs.Growth.{tree_in}
use Rattle.eo_elab.specs.Worlds.{named_terms_in}
use Rattle.eo_elab.specs.Waiting.{finished, reads, around, FramesBelow, weights, weight_now}
use Rattle.eo_elab.proofs.Giving.{names_join, names_stay}
use Rattle.eo_elab.proofs.Finishing.{finished_fault, whole_on, below_on, less_on, around_ready, size_at_least}
use Rattle.eo_elab.proofs.walk.elaborate_rest.Goals as goal

pub returns-in_err-now-in-Read-clause-gives : goal.returns-in_err-now-in-Read-clause-gives
returns-in_err-now-in-Read-clause-gives c =
    let k = c.args.sig.now in
    let s = c.args.scope.now in
    let t = c.loop-now.table in
    let b = c.loop-now.blocks in
    let fs = reverse c.loop-now.waits.items in
    let step = c.loop-now.invariant.whole ∙ ap (λ n. finished k s t b fs (reads k s t b c.loop-now.named_terms n)) c.in-Read.is in
    fails _ _ _ _ _ _ _ c.from_residual.ensures.1 (λ f e. step ∙ ap (finished k s t b fs) e ∙ finished_fault k s t b fs f) c.in_err-now-in-Read.ensures.gives

pub returns-in_err-now-in-Some-clause-gives : goal.returns-in_err-now-in-Some-clause-gives
returns-in_err-now-in-Some-clause-gives c =
    let k = c.args.sig.now in
    let s = c.args.scope.now in
    let t = c.loop-now.table in
    let b = c.loop-now.blocks in
    let f0 = c.in-Some.waiting in
    let gs = reverse c.pop.new.self.items in
    let popped : reverse c.loop-now.waits.items ≡ f0 ∷ gs = ap reverse c.in-Some.ensures.items ∙ reverse-append c.pop.new.self.items (f0 ∷ []) in
    let step = c.loop-now.invariant.whole ∙ ap (λ n. finished k s t b (reverse c.loop-now.waits.items) (reads k s t b c.loop-now.named_terms n)) c.in-Give.is ∙ ap (λ hs. finished k s t b hs (Ok (tree_in t c.in-Give.id, named_terms_in t c.loop-now.named_terms))) popped in
    fails _ _ _ _ _ _ _ c.from_residual-in_err-now-in-Some.ensures.1 (λ f e. step ∙ ap (finished k s t (around f0 b) gs) e ∙ finished_fault k s t (around f0 b) gs f) c.in_err-now-in-Some.ensures.gives

pub loop-now-smaller-in_ok-now-in-Read : goal.loop-now-smaller-in_ok-now-in-Read
loop-now-smaller-in_ok-now-in-Read c =
    let l = less_on _ _ _ _ _ _ _ _ _ _ _ c.in_ok-now-in-Read.ensures.gives in
    let one = ap weight_now c.in-Read.is in
    let some = size_at_least c.in-Read.s in
    omega (arith, l, one, some)

pub loop-now-preserved-in_ok-now-in-Read : goal.loop-now-preserved-in_ok-now-in-Read
loop-now-preserved-in_ok-now-in-Read c =
    let k = c.args.sig.now in
    let s = c.args.scope.now in
    let t = c.loop-now.table in
    let n = c.read_next.new.table in
    let b = c.loop-now.blocks in
    let fs = reverse c.loop-now.waits.items in
    let g = c.in_ok-now-in-Read.ensures.gives in
    record {
      whole = c.loop-now.invariant.whole ∙ ap (λ m. finished k s t b fs (reads k s t b c.loop-now.named_terms m)) c.in-Read.is ∙ whole_on k s t n c.read_next.ensures.grows (λ ls. c.names_law.ensures.stays k ls) c.names_law.ensures.uses c.loop-now.named_terms b c.read_next.new.blocks c.loop-now.waits.items c.read_next.new.waits.items _ c.in_ok-now-in-Read.now _ c.loop-now.invariant.below c.loop-now.invariant.ready g;
      below = below_on k s t n c.read_next.ensures.grows (λ ls. c.names_law.ensures.stays k ls) c.names_law.ensures.uses c.loop-now.named_terms b c.read_next.new.blocks c.loop-now.waits.items c.read_next.new.waits.items _ c.in_ok-now-in-Read.now _ c.loop-now.invariant.below g;
      ready = g.ready;
      given = g.given;
      grows = grows_on c.args.table.now t n c.loop-now.invariant.grows c.read_next.ensures.grows;
      named_terms = names_join _ _ _ _ _ c.loop-now.invariant.named_terms (names_stay t n c.loop-now.named_terms c.loop-now.invariant.named_terms.below c.read_next.ensures.grows.now);
    }

pub loop-now-smaller : goal.loop-now-smaller
loop-now-smaller c =
    let l = less_on _ _ _ _ _ _ _ _ _ _ _ c.in_ok-now-in-Some.ensures.gives in
    let f0 = c.in-Some.waiting in
    let popped = ap weights (ap reverse c.in-Some.ensures.items ∙ reverse-append c.pop.new.self.items (f0 ∷ [])) in
    let one = ap weight_now c.in-Give.is in
    omega (arith, l, popped, one)

pub loop-now-preserved : goal.loop-now-preserved
loop-now-preserved c =
    let k = c.args.sig.now in
    let s = c.args.scope.now in
    let t = c.loop-now.table in
    let n = c.resume.new.table in
    let b = c.loop-now.blocks in
    let f0 = c.in-Some.waiting in
    let gs = reverse c.pop.new.self.items in
    let popped : reverse c.loop-now.waits.items ≡ f0 ∷ gs = ap reverse c.in-Some.ensures.items ∙ reverse-append c.pop.new.self.items (f0 ∷ []) in
    let step = c.loop-now.invariant.whole ∙ ap (λ m. finished k s t b (reverse c.loop-now.waits.items) (reads k s t b c.loop-now.named_terms m)) c.in-Give.is ∙ ap (λ hs. finished k s t b hs (Ok (tree_in t c.in-Give.id, named_terms_in t c.loop-now.named_terms))) popped in
    let below : FramesBelow (length t.trees) (f0 ∷ gs) = subst (FramesBelow (length t.trees)) popped c.loop-now.invariant.below in
    let g = c.in_ok-now-in-Some.ensures.gives in
    record {
      whole = step ∙ whole_on k s t n c.resume.ensures.grows (λ ls. c.names_law.ensures.stays k ls) c.names_law.ensures.uses c.resume.new.named_terms (around f0 b) c.resume.new.blocks c.pop.new.self.items c.resume.new.waits.items _ c.in_ok-now-in-Some.now _ below.1 (around_ready (length t.trees) k s b f0 c.loop-now.invariant.ready) g;
      below = below_on k s t n c.resume.ensures.grows (λ ls. c.names_law.ensures.stays k ls) c.names_law.ensures.uses c.resume.new.named_terms (around f0 b) c.resume.new.blocks c.pop.new.self.items c.resume.new.waits.items _ c.in_ok-now-in-Some.now _ below.1 g;
      ready = g.ready;
      given = g.given;
      grows = grows_on c.args.table.now t n c.loop-now.invariant.grows c.resume.ensures.grows;
      named_terms = names_join _ _ _ _ _ c.loop-now.invariant.named_terms c.resume.ensures.named_terms;
    }
