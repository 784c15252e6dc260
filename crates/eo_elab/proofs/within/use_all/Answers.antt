use Rattle.std.proofs.Common.{◌≡◌, ◌++◌, [], ap, sym, subst, ◌∙◌, rules}
use Rattle.eo_term.specs.Growth.{trees_in}
use Rattle.eo_names.specs.declared.scope.Scope.{the_lemmas}
use Rattle.eo_names.specs.declared.scope as declared
use Rattle.eo_names.specs.Names.{bound_by}
use Rattle.eo_names.specs.Scopes.{bound_in, file_kind_in}
use Rattle.eo_names.specs.Usage.{made_of}
use Rattle.eo_names.specs.Gives.{GivesTerm as GivesNone}
use Rattle.eo_names.specs.Worlds.{world_of, made_in}
use Rattle.eo_elab.specs.Gives.{GivesTerm}
use Rattle.eo_elab.specs.Waiting.{inside}
use Rattle.eo_elab.specs.Worlds.{named_terms_in}
use Rattle.eo_elab.proofs.Giving.{with_them, relabelled, made_named_terms, made_anywhere, named_terms_grown}
use Rattle.eo_elab.proofs.within.use_all.Goals as goal

pub returns-clause-gives : goal.returns-clause-gives
returns-clause-gives c =
    let old = c.args.table.now in
    let w = inside old c.args.sig.now c.args.scope.now c.args.blocks.now in
    let here = named_terms_in old c.args.named_terms.now in
    let next = c.apply_head.new.table in
    let u = world_of old c.args.sig.now (bound_by c.args.blocks.now ++ bound_in c.args.scope.now) in
    let used = c.args.used.now in
    let given = trees_in old c.args.args.now in
    let slice = trees_in old c.as_slice.result.now in
    let plain : made_of old.trees w.names w.locals used given here ≡ relabelled here (made_in u old used given) =
    made_named_terms old.trees w.names w.locals used given here ∙ ap (λ m. relabelled here (m [])) (made_anywhere old.trees u.names (file_kind_in c.args.scope.now) u.locals used given) in
    let there : made_in u old used given ≡ made_in u old used slice = ap (λ is. made_in u old used (trees_in old is)) (sym c.as_slice.ensures) in
    let own : GivesNone next c.apply_head.result (made_in u old used slice) = subst (λ ls. GivesNone next c.apply_head.result (made_in (world_of old c.args.sig.now ls) old used slice)) {x = bound_in (declared.Scope.Within c.args.blocks c.args.scope)} {y = bound_by c.args.blocks.now ++ bound_in c.args.scope.now} (search (rules, the_lemmas)) c.apply_head.ensures.gives in
    subst (GivesTerm next c.args.named_terms.now c.apply_head.result) (sym (plain ∙ ap (relabelled here) there))
    (with_them next c.args.named_terms.now here (named_terms_grown old next c.args.named_terms.now c.requires.named_terms c.apply_head.ensures.grows.now) c.apply_head.result (made_in u old used slice) own)
