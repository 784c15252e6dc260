use Rattle.std.proofs.Common.{◌≡◌, ◌<◌, ◌++◌, ◌∷◌, [], length, All, refl, sym, ap, subst, ◌∙◌, arith}
use Rattle.std.proofs.lemmas.List.{length-append}
use Rattle.eo_base.proofs.Answering.{tells_on}
use Rattle.eo_base.proofs.Elements.{push_same, push_below}
use Rattle.eo_sexp.specs.Kinds.{sexp_kind}
use Rattle.eo_sexp.specs.Sexp.{sexp_text}
use Rattle.eo_sexp.specs.Sizes.{size_of_all}
use Rattle.eo_term.proofs.Growing.{grows_on}
use Rattle.eo_term.specs.Growth.{tree_in, trees_in}
use Rattle.eo_term.specs.Terms.{tree_at}
use Rattle.eo_names.specs.Names.{bound_by}
use Rattle.eo_names.specs.Refused.{told}
use Rattle.eo_names.specs.Scopes.{bound_in, file_kind_in}
use Rattle.eo_elab.specs.Gives.{atom_told}
use Rattle.eo_elab.specs.Waiting.{inside}
use Rattle.eo_elab.specs.Worlds.{all_in, in_file_kind}
use Rattle.eo_elab.proofs.Sizes.{one_given}
use Rattle.eo_elab.proofs.Finishing.{reads_fault, atom_next, atom_fault}
use Rattle.eo_elab.proofs.walk.arguments.read_atoms.Goals as goal

pub returns-in_err-id-in-None-clause-gives : goal.returns-in_err-id-in-None-clause-gives
returns-in_err-id-in-None-clause-gives c =
    let k = c.args.sig.now in
    let s = c.args.scope.now in
    let b = c.args.blocks.now in
    let old = c.args.table.now in
    let now = c.loop-s.table in
    let w = inside old k s b in
    let same : inside now k s b ≡ w = ap (in_file_kind (file_kind_in s)) (c.names_law.ensures.stays k (bound_by b ++ bound_in s) old now c.requires.ready c.loop-s.invariant.grows).world in
    let done = trees_in now c.loop-s.ids in
    let x = c.in-Some.s in
    let rest = c.in-Some.rest in
    let split = one_given c.loop-s.left x rest c.in-Some.ensures in
    let read : atom_told w (sexp_kind x) (sexp_text x) ≡ atom_told (inside now k s b) c.kind.result c.text.result.now = λ i. atom_told (sym same i) (sym c.kind.ensures i) (sym c.text.ensures i) in
    reads_fault _ _ _ _ _ _ _ _ c.from_residual.ensures.1
    (λ named_terms. tells_on told _ (all_in w (trees_in old c.args.ids.now) c.args.terms.now named_terms) (atom_told (inside now k s b) c.kind.result c.text.result.now)
    (λ f e. c.loop-s.invariant.read.is named_terms ∙ ap (λ xs. all_in w done xs named_terms) split ∙ atom_fault w done x rest named_terms c.in-None.ensures f (read ∙ e)) c.in_err-id-in-None.ensures.gives)

pub loop-s-preserved : goal.loop-s-preserved
loop-s-preserved c =
    let k = c.args.sig.now in
    let s = c.args.scope.now in
    let b = c.args.blocks.now in
    let old = c.args.table.now in
    let now = c.loop-s.table in
    let next = c.atom_inside.new.table in
    let w = inside old k s b in
    let same : inside now k s b ≡ w = ap (in_file_kind (file_kind_in s)) (c.names_law.ensures.stays k (bound_by b ++ bound_in s) old now c.requires.ready c.loop-s.invariant.grows).world in
    let v = c.loop-s.invariant.read in
    let done = trees_in now c.loop-s.ids in
    let x = c.in-Some.s in
    let rest = c.in-Some.rest in
    let id = c.in_ok-id-in-None.id in
    let split = one_given c.loop-s.left x rest c.in-Some.ensures in
    let read : atom_told w (sexp_kind x) (sexp_text x) ≡ atom_told (inside now k s b) c.kind.result c.text.result.now = λ i. atom_told (sym same i) (sym c.kind.ensures i) (sym c.text.ensures i) in
    let pushed = c.in_ok-push-in-None.ensures.pushed in
    let more : trees_in next c.push.new.self ≡ done ++ tree_in next id ∷ [] = ap (trees_in next) pushed ∙ push_same (length now.trees) (tree_at now.trees) (tree_at next.trees) c.atom_inside.ensures.grows.now.tree c.loop-s.ids id (tree_in next id) v.live refl in
    let long = ap length pushed ∙ length-append c.loop-s.ids (id ∷ []) in
    let first = ap length split in
    let small = ap size_of_all split in
    record {
      read = record {
        live = subst (All (λ i. i < length next.trees)) (sym pushed) (push_below (length now.trees) (length next.trees) id c.loop-s.ids c.atom_inside.ensures.grows.now.more_trees c.in_ok-id-in-None.ensures.gives.live v.live);
        count = omega (arith, long, first, v.count);
        less = omega (arith, small, v.less);
        is = λ named_terms. v.is named_terms ∙ ap (λ xs. all_in w done xs named_terms) split ∙ atom_next w done x rest named_terms c.in-None.ensures (tree_in next id) (read ∙ c.in_ok-id-in-None.ensures.gives.is) ∙ ap (λ made. all_in w made rest named_terms) (sym more);
      };
      grows = grows_on old now next c.loop-s.invariant.grows c.atom_inside.ensures.grows;
    }
