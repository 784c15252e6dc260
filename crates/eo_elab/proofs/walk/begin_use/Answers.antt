use Rattle.std.proofs.Common.{ap, sym, ◌∙◌, arith}
use Rattle.eo_sexp.specs.Sizes.{size_of_all}
use Rattle.eo_term.specs.Growth.{trees_in}
use Rattle.eo_names.specs.Readers.{go_on}
use Rattle.eo_names.specs.Usage.{made_of}
use Rattle.eo_names.specs.declared.usage.Head.TheVariants as use_
use Rattle.eo_elab.specs.Waiting.{inside, arguments_after}
use Rattle.eo_elab.specs.Worlds.{named_terms_in, use_in, binder_in}
use Rattle.eo_elab.proofs.Sizes.{none_given, one_given}
use Rattle.eo_elab.proofs.WalkSteps.{binder_none}
use Rattle.eo_elab.proofs.Finishing.{goes_on, binder_pairs, plain_arguments}
use Rattle.eo_elab.proofs.walk.begin_use.Goals as goal

pub returns-in_default-split_first-clause-gives : goal.returns-in_default-split_first-clause-gives
returns-in_default-split_first-clause-gives c = λ h.
    let t = c.args.table.now in
    let w = inside t c.args.sig.now c.args.scope.now c.args.blocks.now in
    let here = named_terms_in t c.args.named_terms.now in
    let made = made_of t.trees w.names w.locals (use_.Bind c.in-Bind.binder c.in-Bind.collector) in
    ap (λ u. use_in w t h c.args.args.now u here) c.in-Bind.is ∙ ap (λ xs. go_on made (binder_in w xs c.in-Bind.collector here)) (none_given c.args.args.now c.in_default-split_first.ensures) ∙ ap (go_on made) (binder_none w.names w.locals here c.in-Bind.collector)

pub returns-in-Some-clause-gives : goal.returns-in-Some-clause-gives
returns-in-Some-clause-gives c = λ h.
    let t = c.args.table.now in
    let w = inside t c.args.sig.now c.args.scope.now c.args.blocks.now in
    let here = named_terms_in t c.args.named_terms.now in
    let given = one_given c.args.args.now c.in-Some.pairs c.in-Some.others c.in-Some.ensures in
    let small = ap size_of_all given in
    let made = made_of t.trees w.names w.locals (use_.Bind c.in-Bind.binder c.in-Bind.collector) in
    let step = ap (λ u. use_in w t h c.args.args.now u here) c.in-Bind.is ∙ ap (λ xs. go_on made (binder_in w xs c.in-Bind.collector here)) given ∙ binder_pairs w t.trees c.in-Bind.binder c.in-Bind.collector c.in-Some.pairs c.in-Some.others here in
    goes_on _ _ _ _ _ _ _ _ _ _ _ _ _ step (omega (arith, small)) c.begin_pairs.ensures.gives

pub returns-in_default-clause-gives : goal.returns-in_default-clause-gives
returns-in_default-clause-gives c = λ h.
    let t = c.args.table.now in
    let w = inside t c.args.sig.now c.args.scope.now c.args.blocks.now in
    let here = named_terms_in t c.args.named_terms.now in
    goes_on _ _ _ _ _ _ _ _ _ _ _ _ _ (plain_arguments t w h c.args.args.now c.args.used.now here c.in_default.not-Bind ∙ ap (λ is. arguments_after w t.trees c.args.used.now (trees_in t is) c.args.args.now here) (sym c.new.ensures)) (omega arith) c.next_argument.ensures.gives
