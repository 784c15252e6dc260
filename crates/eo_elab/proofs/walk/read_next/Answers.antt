use Rattle.std.proofs.Common.{◌+◌, ◌-◌, ◌++◌, ap, sym, ◌∙◌, arith}
use Rattle.std.specs.Prelude.{Ok}
use Rattle.eo_sexp.specs.Sexp.{sexp_span}
use Rattle.eo_sexp.specs.Sizes.{size}
use Rattle.eo_term.specs.Growth.{tree_in}
use Rattle.eo_base.proofs.Answering.{tells_on}
use Rattle.eo_names.specs.Names.{bound_by}
use Rattle.eo_names.specs.Readers.{with_named_terms}
use Rattle.eo_names.specs.Refused.{told}
use Rattle.eo_names.specs.Scopes.{bound_in}
use Rattle.eo_elab.specs.Gives.{atom_told}
use Rattle.eo_elab.specs.Waiting.{inside}
use Rattle.eo_elab.specs.Worlds.{named_terms_in, term_in}
use Rattle.eo_elab.proofs.Giving.{named_terms_grown}
use Rattle.eo_elab.proofs.Sizes.{is_list}
use Rattle.eo_elab.proofs.WalkSteps.{of_no_list}
use Rattle.eo_elab.proofs.Finishing.{goes_on, goes_fault, give_on, size_at_least}
use Rattle.eo_elab.proofs.walk.read_next.Goals as goal

pub returns-in-Some-clause-gives : goal.returns-in-Some-clause-gives
returns-in-Some-clause-gives c =
    let w = inside c.args.table.now c.args.sig.now c.args.scope.now c.args.blocks.now in
    let here = named_terms_in c.args.table.now c.args.named_terms.now in
    let whole = is_list c.args.s.now c.in-Some.children c.in-Some.ensures in
    let small = ap size whole in
    goes_on _ _ _ _ _ _ _ _ _ _ _ _ _ (ap (λ s. term_in w s here) whole) (omega (arith, small)) (c.read_list.ensures.gives (sexp_span c.args.s.now))

pub returns-in_err-made-in-None-clause-gives : goal.returns-in_err-made-in-None-clause-gives
returns-in_err-made-in-None-clause-gives c =
    let w = inside c.args.table.now c.args.sig.now c.args.scope.now c.args.blocks.now in
    let here = named_terms_in c.args.table.now c.args.named_terms.now in
    let step = of_no_list w c.args.s.now here c.in-None.ensures ∙ (λ i. with_named_terms here (atom_told w (sym c.kind.ensures i) (sym c.text.ensures i))) in
    goes_fault _ _ _ _ _ _ _ _ _ _ _ _ c.from_residual.ensures.1 (tells_on told _ (term_in w c.args.s.now here) (atom_told w c.kind.result c.text.result.now) (λ f e. step ∙ ap (with_named_terms here) e) c.in_err-made-in-None.ensures.gives)

pub returns-in_ok-made-in-None-clause-gives : goal.returns-in_ok-made-in-None-clause-gives
returns-in_ok-made-in-None-clause-gives c =
    let t = c.args.table.now in
    let w = inside t c.args.sig.now c.args.scope.now c.args.blocks.now in
    let here = named_terms_in t c.args.named_terms.now in
    let next = c.atom_inside.new.table in
    let ls = bound_by c.args.blocks.now ++ bound_in c.args.scope.now in
    let later = named_terms_grown t next c.args.named_terms.now c.requires.named_terms c.atom_inside.ensures.grows.now in
    let step = of_no_list w c.args.s.now here c.in-None.ensures ∙ (λ i. with_named_terms here (atom_told w (sym c.kind.ensures i) (sym c.text.ensures i))) in
    let some = size_at_least c.args.s.now in
    give_on _ _ _ _ _ _ _ _ _ (c.names_law.ensures.stays c.args.sig.now ls t next c.requires.ready c.atom_inside.ensures.grows).ready c.in_ok-made-in-None.ensures.gives.live (step ∙ ap (with_named_terms here) c.in_ok-made-in-None.ensures.gives.is ∙ ap (λ l. Ok (tree_in next c.in_ok-made-in-None.made, l)) (sym later)) (omega (arith, some))
