use Rattle.std.proofs.Common.{[], ◌+◌, ℕ, List, Bor, ap, ◌∙◌, map, drop, arith}
use Rattle.std.proofs.lemmas.List.{drop_more, drop_all}
use Rattle.eo_base.proofs.Answering.{tells_on}
use Rattle.eo_names.specs.Refused.{told}
use Rattle.eo_elab.specs.Worlds.{named_term_over}
use Rattle.eo_elab.proofs.Giving.{names_join, named_terms_fault}
use Rattle.eo_elab.proofs.annotations.add_names.Goals as goal

abbrev none : Bor (List ℕ)
none = record { ref_ptr = (0, 0); now = [] }

pub returns-in_err-add_name-clause-gives : goal.returns-in_err-add_name-clause-gives
returns-in_err-add_name-clause-gives c = λ t x.
    let over = λ (ns : List (Bor (List ℕ))). named_term_over t c.args.sig.now x c.loop-name.named_terms c.args.id (map (λ n. n.now) ns) in
    let i = c.loop-name.name-index in
    let left = drop_more c.args.names.now i none (omega arith) in
    let rest = map (λ n. n.now) (drop (i + 1) c.args.names.now) in
    named_terms_fault t _ c.args.id _ _ _ c.from_residual.ensures.1
    (tells_on told _ _ _ (λ f e. c.loop-name.invariant.left t x ∙ ap over left ∙ e) (c.in_err-add_name.ensures.adds t x rest))

pub returns-in_err-add_name-clause-grows : goal.returns-in_err-add_name-clause-grows
returns-in_err-add_name-clause-grows c = λ t h below.
    let so_far = c.loop-name.invariant.grows t h below in
    names_join t t _ _ _ so_far (c.add_name.ensures.grows t h so_far.below)

pub loop-name-preserved : goal.loop-name-preserved
loop-name-preserved c = record {
  left = λ t x.
      let over = λ (ns : List (Bor (List ℕ))). named_term_over t c.args.sig.now x c.loop-name.named_terms c.args.id (map (λ n. n.now) ns) in
      let i = c.loop-name.name-index in
      let left = drop_more c.args.names.now i none (omega arith) in
      c.loop-name.invariant.left t x ∙ ap over left ∙ c.in_ok-add_name.ensures.adds t x (map (λ n. n.now) (drop (i + 1) c.args.names.now));
  grows = λ t h below.
      let so_far = c.loop-name.invariant.grows t h below in
      names_join t t _ _ _ so_far (c.add_name.ensures.grows t h so_far.below);
}

pub returns-clause-gives : goal.returns-clause-gives
returns-clause-gives c = λ t x.
    let over = λ (ns : List (Bor (List ℕ))). named_term_over t c.args.sig.now x c.loop-name.named_terms c.args.id (map (λ n. n.now) ns) in
    c.loop-name.invariant.left t x ∙ ap over (drop_all c.loop-name.name-index c.args.names.now (omega arith))
