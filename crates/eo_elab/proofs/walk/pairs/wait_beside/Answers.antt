use Rattle.std.proofs.Common.{◌≡◌, ◌+◌, ◌*◌, ◌++◌, ◌∷◌, [], length, refl, ap, sym, subst, ◌∙◌, arith}
use Rattle.std.specs.Prelude.{false}
use Rattle.eo_sexp.specs.Sizes.{size_of_all}
use Rattle.eo_names.specs.Names.{read_pairs, names_in, BindingsBelow}
use Rattle.eo_elab.specs.Waiting.{inside, with_names, pairs_then, weight_next}
use Rattle.eo_elab.specs.Worlds.{named_terms_in, sexps, term_in}
use Rattle.eo_names.specs.Readers.{go_on}
use Rattle.eo_elab.specs.declared.waiting.Frame.TheVariants as frame
use Rattle.eo_elab.specs.declared.waiting.Pairs.{Pairs}
use Rattle.eo_elab.proofs.Sizes.{size_beside}
use Rattle.eo_elab.proofs.WalkSteps.{pairs_other, pairs_twice}
use Rattle.eo_elab.proofs.Finishing.{wait_on, pair_first}
use Rattle.eo_elab.proofs.walk.pairs.wait_beside.Goals as goal

pub returns-in_default : goal.returns-in_default
returns-in_default c =
    let w = inside c.args.table.now c.args.sig.now c.args.scope.now c.args.blocks.now in
    record { gives = ap (go_on (with_names w c.args.next)) (pairs_other w.names w.locals (named_terms_in c.args.table.now c.args.named_terms.now) c.args.pair.now (sexps c.args.rest) (read_pairs c.args.table.now.trees c.args.before) c.in_default.ensures) }

pub returns-then-contains : goal.returns-then-contains
returns-then-contains c =
    let w = inside c.args.table.now c.args.sig.now c.args.scope.now c.args.blocks.now in
    let ts = c.args.table.now.trees in
    record { gives = ap (go_on (with_names w c.args.next)) (pairs_twice w.names w.locals (named_terms_in c.args.table.now c.args.named_terms.now) c.args.pair.now c.in-Some.beside c.in-Some.name.now (sexps c.args.rest) (read_pairs ts c.args.before) c.in-Some.ensures (sym (c.contains.ensures.read ts) ∙ c.if-contains.true)) }

pub returns : goal.returns
returns c =
    let w = inside c.args.table.now c.args.sig.now c.args.scope.now c.args.blocks.now in
    let ts = c.args.table.now.trees in
    let small = size_beside c.args.pair.now c.in-Some.beside c.in-Some.name.now c.in-Some.ensures in
    let step = pair_first w c.args.next (named_terms_in c.args.table.now c.args.named_terms.now) (read_pairs ts c.args.before) c.args.pair.now c.in-Some.beside c.in-Some.name.now c.args.rest c.in-Some.ensures (sym (c.contains.ensures.read ts) ∙ c.if-contains.false) in
    let box = c.in_ok-pairs.pairs in
    let e = c.in_ok-pairs.ensures in
    let made = λ (p : Pairs). go_on (λ t. pairs_then w p.next (read_pairs ts p.before ++ (p.name.now, t) ∷ []) p.rest) (term_in w c.in-Some.beside (named_terms_in c.args.table.now c.args.named_terms.now)) in
    let below = subst (λ (p : Pairs). BindingsBelow (length ts) p.before × (names_in p.before p.name.now ≡ false)) (sym e) (c.requires.before, sym c.contains.ensures.bound ∙ c.if-contains.false) in
    let most = ap (λ (p : Pairs). 4 * size_of_all p.rest + weight_next p.next) e in
    record { gives = wait_on _ _ _ _ _ _ _ _ _ (frame.Beside box) _ _ c.in_ok-wait.ensures refl below c.requires.ready (step ∙ ap made (sym e)) (omega (arith, small, most)) }
