use Rattle.std.proofs.Common.{◌≡◌, ◌≤◌, ◌<◌, ◌++◌, ◌∷◌, [], length, subst, false, ap, sym, ◌∙◌, All}
use Rattle.std.specs.Prelude.{Ok}
use Rattle.std.proofs.lemmas.List.{map-append}
use Rattle.std.proofs.lemmas.List.Elements.{All-append, All-cons, All-nil}
use Rattle.eo_term.proofs.Growing.{grows_on}
use Rattle.eo_term.proofs.Heights.{low_height}
use Rattle.eo_base.specs.Limits.{height_limit}
use Rattle.eo_base.proofs.Answering.{fails, gives_fault}
use Rattle.eo_term.specs.Growth.{tree_in, trees_in}
use Rattle.eo_term.specs.Tree.{is_tall}
use Rattle.eo_term.specs.Terms.{tree_at}
use Rattle.eo_declare.specs.Declarations.{function_type}
use Rattle.eo_declare.specs.Declaring.{function_to}
use Rattle.eo_names.specs.Folding.{arrow}
use Rattle.eo_elab.specs.Worlds.{world_in}
use Rattle.eo_declare.proofs.ConstantLemmas.{trees-grown, ids-more}
use Rattle.eo_declare.proofs.DeclaringLemmas.{to-no-output, to-output, arrow-onto, low, high}
use Rattle.eo_declare.proofs.Giving.{tall_told}
use Rattle.eo_declare.proofs.declaring.function_to.Goals as goal

pub returns-in_err-output-clause-gives : goal.returns-in_err-output-clause-gives
returns-in_err-output-clause-gives c =
    let t = c.args.table.now in
    fails _ _ _ _ _ _ _ c.from_residual.ensures.1 (to-no-output (world_in t c.args.sig.now c.args.locals.now c.args.file_kind) (trees_in t c.args.types.now) c.args.output.now) c.in_err-output.ensures.gives

pub function_type-requires-clause-types : goal.function_type-requires-clause-types
function_type-requires-clause-types c =
    let n = length c.args.table.now.trees in
    let m = length c.elaborate_in.new.table.trees in
    let first = ids-more n m c.args.types.now c.in_ok-output.ensures.grows.now.more_trees c.requires.types in
    let last = All-cons (λ i. i < m) c.in_ok-output.output [] c.in_ok-output.ensures.gives.live (All-nil (λ i. i < m)) in
    subst (All (λ i. i < m)) (sym (c.as_slice.ensures ∙ c.in_ok-push.ensures.pushed)) (All-append (λ i. i < m) c.args.types.now (c.in_ok-output.output ∷ []) first last)

pub returns-in_err-made-clause-gives : goal.returns-in_err-made-clause-gives
returns-in_err-made-clause-gives c =
    let t = c.args.table.now in
    let us = c.elaborate_in.new.table in
    let w = world_in t c.args.sig.now c.args.locals.now c.args.file_kind in
    let is = trees_in t c.args.types.now in
    let to = tree_in us c.in_ok-output.output in
    let parts = to-output w is c.args.output.now to c.in_ok-output.ensures.gives.is in
    let whole : arrow (trees_in us c.as_slice.result.now) ≡ function_type is to =
    ap (λ js. arrow (trees_in us js)) (c.as_slice.ensures ∙ c.in_ok-push.ensures.pushed)
    ∙ ap arrow (map-append (tree_at us.trees) c.args.types.now (c.in_ok-output.output ∷ []) ∙ ap (λ js. js ++ to ∷ []) (trees-grown (length t.trees) t.trees us.trees c.args.types.now c.in_ok-output.ensures.grows.now.tree c.requires.types))
    ∙ arrow-onto is to in
    gives_fault _ _ _ _ _ _ c.from_residual-in_err-made.ensures.1
    (tall_told c.in_err-made.field-0.0 (is_tall (arrow (trees_in us c.as_slice.result.now))) (function_to w is c.args.output.now) (λ tall. parts ∙ high (function_type is to) (ap is_tall (sym whole) ∙ tall)) c.in_err-made.ensures.gives)

pub returns-in_err-made-clause-grows : goal.returns-in_err-made-clause-grows
returns-in_err-made-clause-grows c = grows_on c.args.table.now c.elaborate_in.new.table c.function_type.new.table c.in_ok-output.ensures.grows c.in_err-made.ensures.grows

pub returns-clause-gives : goal.returns-clause-gives
returns-clause-gives c =
    let t = c.args.table.now in
    let us = c.elaborate_in.new.table in
    let w = world_in t c.args.sig.now c.args.locals.now c.args.file_kind in
    let is = trees_in t c.args.types.now in
    let to = tree_in us c.in_ok-output.output in
    let parts = to-output w is c.args.output.now to c.in_ok-output.ensures.gives.is in
    let whole : arrow (trees_in us c.as_slice.result.now) ≡ function_type is to =
    ap (λ js. arrow (trees_in us js)) (c.as_slice.ensures ∙ c.in_ok-push.ensures.pushed)
    ∙ ap arrow (map-append (tree_at us.trees) c.args.types.now (c.in_ok-output.output ∷ []) ∙ ap (λ js. js ++ to ∷ []) (trees-grown (length t.trees) t.trees us.trees c.args.types.now c.in_ok-output.ensures.grows.now.tree c.requires.types))
    ∙ arrow-onto is to in
    let made = c.in_ok-made.ensures.gives.tree ∙ whole in
    let short : is_tall (function_type is to) ≡ false = ap is_tall (sym made) ∙ low_height (tree_in c.function_type.new.table c.in_ok-made.made) (subst (λ n. n ≤ height_limit) c.height.ensures.height c.height.ensures.low) in
    record { live = c.in_ok-made.ensures.gives.live; is = parts ∙ low (function_type is to) short ∙ ap Ok (sym made) }

pub returns-clause-grows : goal.returns-clause-grows
returns-clause-grows c = grows_on c.args.table.now c.elaborate_in.new.table c.function_type.new.table c.in_ok-output.ensures.grows c.in_ok-made.ensures.grows
