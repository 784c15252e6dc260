use Rattle.std.proofs.Common.{◌≡◌, ◌++◌, length, ap, sym, subst, ◌∙◌, arith}
use Rattle.eo_term.specs.Growth.{tree_in}
use Rattle.eo_names.specs.Names.{bound_by}
use Rattle.eo_names.specs.Ready.{IsReady}
use Rattle.eo_names.specs.Scopes.{bound_in}
use Rattle.eo_elab.specs.Worlds.{named_terms_in}
use Rattle.eo_elab.specs.Waiting.{inside, resumed, around, weight, GoesOn}
use Rattle.eo_elab.specs.declared.waiting.Now.TheVariants as now
use Rattle.eo_elab.proofs.Finishing.{give_on, around_ready}
use Rattle.eo_elab.proofs.walk.resume.Goals as goal

pub returns-in-Inner-clause-gives : goal.returns-in-Inner-clause-gives
returns-in-Inner-clause-gives c =
    let t = c.args.table.now in
    let k = c.args.sig.now in
    let s = c.args.scope.now in
    let blocks = c.args.blocks.now in
    let here = named_terms_in t c.args.named_terms.now in
    let left : around c.args.waiting blocks ≡ c.leave.new.self = ap (λ f. around f blocks) c.in-Inner.is ∙ sym c.leave.ensures in
    let one = ap weight c.in-Inner.is in
    let ready = subst (λ b. IsReady (length t.trees) k (bound_by b ++ bound_in s)) left (around_ready (length t.trees) k s blocks c.args.waiting c.requires.ready) in
    subst (λ b. GoesOn k s t c.args.named_terms.now b c.leave.new.self c.args.waits.now.items c.args.waits.now.items (weight c.args.waiting) (now.Give c.args.id) (resumed (inside t k s blocks) t.trees c.args.waiting (tree_in t c.args.id) here)) (sym left)
    (give_on k s t c.args.named_terms.now c.leave.new.self c.args.waits.now.items _ c.args.id _ ready c.requires.live (ap (λ f. resumed (inside t k s blocks) t.trees f (tree_in t c.args.id) here) c.in-Inner.is) (omega (arith, one)))
