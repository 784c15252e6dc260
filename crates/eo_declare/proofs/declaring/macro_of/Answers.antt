use Rattle.std.proofs.Common.{◌<◌, ◌≤◌, length, false, arith, ap, sym, ◌∙◌}
use Rattle.std.specs.Prelude.{Ok}
use Rattle.eo_base.specs.Limits.{parameters_limit}
use Rattle.eo_base.proofs.Answering.{fails}
use Rattle.eo_term.proofs.Growing.{grows_refl, grows_on}
use Rattle.eo_term.specs.Growth.{tree_in}
use Rattle.eo_declare.specs.Declarations.{bind, unbound, macro}
use Rattle.eo_declare.specs.Declaring.{read_bound}
use Rattle.eo_elab.specs.Meaning.{meaning}
use Rattle.eo_elab.specs.Worlds.{context_in}
use Rattle.eo_declare.proofs.BoundLemmas.{parameters-grown, parameters-more}
use Rattle.eo_declare.proofs.CheckedLemmas.{then-ok, then-err}
use Rattle.eo_declare.proofs.DeclaringLemmas.{body_read, defined-many, defined-parts}
use Rattle.eo_declare.proofs.Giving.{same_context}
use Rattle.eo_declare.proofs.declaring.macro_of.Goals as goal

pub returns-then-len-gt-PARAMETERS-clause-gives : goal.returns-then-len-gt-PARAMETERS-clause-gives
returns-then-len-gt-PARAMETERS-clause-gives c =
    let t = c.args.table.now in
    let many : parameters_limit < length c.args.params.now = omega (arith, c.len.ensures, c.if-len-gt-PARAMETERS.true) in
    defined-many (context_in t c.args.sig.now) c.args.name.now c.args.params.now c.args.body.now c.requires.may many

pub bind-requires-clause-few : goal.bind-requires-clause-few
bind-requires-clause-few c = omega (arith, c.len.ensures, c.if-len-gt-PARAMETERS.false)

pub returns-in_err-bound-clause-gives : goal.returns-in_err-bound-clause-gives
returns-in_err-bound-clause-gives c =
    let t = c.args.table.now in
    let x = context_in t c.args.sig.now in
    let shapes = c.args.params.now in
    let few : length shapes ≤ parameters_limit = omega (arith, c.len.ensures, c.if-len-gt-PARAMETERS.false) in
    let parts = defined-parts x c.args.name.now shapes c.args.body.now c.requires.may few in
    fails _ _ _ _ _ _ _ c.from_residual.ensures.1 (λ f e. parts ∙ then-err (body_read x c.args.name.now shapes c.args.body.now) (bind x unbound shapes) f e) c.in_err-bound.ensures.gives

pub term-requires : goal.term-requires
term-requires c = record { ready = c.in_ok-bound.ensures.gives.live.ready }

pub returns-in_err-tree-clause-gives : goal.returns-in_err-tree-clause-gives
returns-in_err-tree-clause-gives c =
    let t = c.args.table.now in
    let us = c.bind.new.table in
    let x = context_in t c.args.sig.now in
    let shapes = c.args.params.now in
    let body = c.args.body.now in
    let few : length shapes ≤ parameters_limit = omega (arith, c.len.ensures, c.if-len-gt-PARAMETERS.false) in
    let b = read_bound us.trees c.in_ok-bound.bound in
    let same = same_context c.args.sig.now t us c.laws.ensures c.requires.below c.in_ok-bound.ensures.grows in
    let parts = defined-parts x c.args.name.now shapes body c.requires.may few ∙ then-ok (body_read x c.args.name.now shapes body) (bind x unbound shapes) b c.in_ok-bound.ensures.gives.is in
    fails _ _ _ _ _ _ _ c.from_residual-in_err-tree.ensures.1
    (λ f e. parts ∙ then-err (λ u. Ok (macro x c.args.name.now b.parameters u)) (meaning x b.locals body) f (ap (λ y. meaning y b.locals body) (sym same) ∙ e)) c.in_err-tree.ensures.gives

pub returns-clause-gives : goal.returns-clause-gives
returns-clause-gives c =
    let t = c.args.table.now in
    let us = c.bind.new.table in
    let vs = c.term.new.table in
    let x = context_in t c.args.sig.now in
    let shapes = c.args.params.now in
    let body = c.args.body.now in
    let few : length shapes ≤ parameters_limit = omega (arith, c.len.ensures, c.if-len-gt-PARAMETERS.false) in
    let b = read_bound us.trees c.in_ok-bound.bound in
    let tree = tree_in vs c.in_ok-tree.tree in
    let same = same_context c.args.sig.now t us c.laws.ensures c.requires.below c.in_ok-bound.ensures.grows in
    let parts = defined-parts x c.args.name.now shapes body c.requires.may few ∙ then-ok (body_read x c.args.name.now shapes body) (bind x unbound shapes) b c.in_ok-bound.ensures.gives.is in
    let params = parameters-grown (length us.trees) us.trees vs.trees c.in_ok-bound.bound.params c.in_ok-tree.ensures.grows.now.tree c.in_ok-bound.ensures.gives.live.params in
    record {
      live = record { params = parameters-more (length us.trees) (length vs.trees) c.in_ok-bound.bound.params c.in_ok-tree.ensures.grows.now.more_trees c.in_ok-bound.ensures.gives.live.params; tree = c.in_ok-tree.ensures.gives.live; few = omega (arith, few, c.in_ok-bound.ensures.count) };
      is = parts ∙ then-ok (λ u. Ok (macro x c.args.name.now b.parameters u)) (meaning x b.locals body) tree (ap (λ y. meaning y b.locals body) (sym same) ∙ c.in_ok-tree.ensures.gives.is)
          ∙ (λ i. Ok (record { name = sym c.in_ok-new.ensures i; parameters = sym params i; tree = tree; from_reference = false }));
    }

pub returns-in_err-tree-clause-grows : goal.returns-in_err-tree-clause-grows
returns-in_err-tree-clause-grows c =
    c.laws.ensures c.args.table.now c.term.new.table c.requires.below (grows_on c.args.table.now c.bind.new.table c.term.new.table c.in_ok-bound.ensures.grows c.in_err-tree.ensures.grows)

pub returns-in_err-new-clause-grows : goal.returns-in_err-new-clause-grows
returns-in_err-new-clause-grows c =
    c.laws.ensures c.args.table.now c.term.new.table c.requires.below (grows_on c.args.table.now c.bind.new.table c.term.new.table c.in_ok-bound.ensures.grows c.in_ok-tree.ensures.grows)

pub returns-clause-grows : goal.returns-clause-grows
returns-clause-grows c =
    c.laws.ensures c.args.table.now c.term.new.table c.requires.below (grows_on c.args.table.now c.bind.new.table c.term.new.table c.in_ok-bound.ensures.grows c.in_ok-tree.ensures.grows)

pub returns-then-len-gt-PARAMETERS-clause-grows : goal.returns-then-len-gt-PARAMETERS-clause-grows
returns-then-len-gt-PARAMETERS-clause-grows c = c.laws.ensures c.args.table.now c.args.table.now c.requires.below (grows_refl c.args.table.now)

pub returns-in_err-bound-clause-grows : goal.returns-in_err-bound-clause-grows
returns-in_err-bound-clause-grows c = c.laws.ensures c.args.table.now c.bind.new.table c.requires.below c.in_err-bound.ensures.grows
