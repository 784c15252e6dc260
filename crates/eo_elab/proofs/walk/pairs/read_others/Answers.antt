use Rattle.std.proofs.Common.{◌≡◌, ◌+◌, ◌*◌, ◌++◌, ◌∷◌, [], length, map, ap, sym, subst, ◌∙◌, arith}
use Rattle.std.specs.Prelude.{Ok}
use Rattle.std.proofs.lemmas.List.{append_assoc}
use Rattle.eo_sexp.specs.Sizes.{size_of_all}
use Rattle.eo_term.specs.Growth.{tree_in, trees_in}
use Rattle.eo_names.specs.Binders.{variable, pair_local, variable_list}
use Rattle.eo_names.specs.Contexts.{is_list as is_list_tree}
use Rattle.eo_names.specs.Names.{bound_by, binding_local, read_pairs, read_locals}
use Rattle.eo_names.specs.Ready.{IsReady}
use Rattle.eo_names.specs.Scopes.{bound_in, file_kind_in}
use Rattle.eo_names.specs.Worlds.{World}
use Rattle.eo_names.specs.declared.usage.Head.TheVariants as use_
use Rattle.eo_elab.specs.declared.waiting.Next.TheVariants as nexts
use Rattle.eo_elab.specs.Waiting.{inside, Goes, arguments_after, with_names}
use Rattle.eo_elab.specs.Worlds.{named_terms_in, in_file_kind}
use Rattle.eo_elab.proofs.Giving.{list_named_terms, relabelled, named_terms_grown}
use Rattle.eo_elab.proofs.Finishing.{inner_ready, inner_goes, others_read}
use Rattle.eo_elab.proofs.walk.pairs.read_others.Goals as goal

pub next_argument-requires-clause-ready : goal.next_argument-requires-clause-ready
next_argument-requires-clause-ready c =
    let k = c.args.sig.now in
    let s = c.args.scope.now in
    let blocks = c.args.blocks.now in
    let ls = bound_by blocks ++ bound_in s in
    let n = c.bind_inside.new.table in
    let stays = c.names_law.ensures.stays k ls c.args.table.now n c.requires.ready c.bind_inside.ensures.grows in
    subst (λ b. IsReady (length n.trees) k (bound_by b ++ bound_in s)) (sym c.in_ok-enter.ensures.blocks) (inner_ready (length n.trees) k s blocks c.bind_inside.new.names (c.names_law.ensures.inside c.bind_inside.new.names ls) c.in_ok-list.ensures.below stays.ready)

pub returns-clause-gives : goal.returns-clause-gives
returns-clause-gives c =
    let t = c.args.table.now in
    let k = c.args.sig.now in
    let s = c.args.scope.now in
    let blocks = c.args.blocks.now in
    let ls = bound_by blocks ++ bound_in s in
    let n = c.bind_inside.new.table in
    let bs = c.bind_inside.new.names in
    let w = inside t k s blocks in
    let here = named_terms_in t c.args.named_terms.now in
    let stays = c.names_law.ensures.stays k ls t n c.requires.ready c.bind_inside.ensures.grows in
    let same : inside n k s blocks ≡ w = ap (in_file_kind (file_kind_in s)) stays.world in
    let is = c.names_law.ensures.inside bs ls in
    let ps = read_pairs t.trees c.args.before in
    let first = tree_in n c.in_ok-list.list in
    let inner = inside n k s (bs ∷ blocks) in
    let locals : inner.locals ≡ map pair_local (map variable ps) ++ w.locals =
    ap (read_locals n.trees) (append_assoc (map binding_local bs) (bound_by blocks) (bound_in s)) ∙ is.locals n.trees ∙ (λ i. map pair_local (c.in_ok-list.ensures.names i) ++ (same i).locals) in
    let list : variable_list w.names.signature (is_list_tree w.locals) c.args.collector (map variable ps) here ≡ Ok (first, here) =
    list_named_terms w.names.signature (is_list_tree w.locals) c.args.collector (map variable ps) here ∙ ap (relabelled here) c.in_ok-list.ensures.gives.is in
    let ids = ap (trees_in n) (c.in_ok-push.ensures.pushed ∙ ap (λ is. is ++ c.in_ok-list.list ∷ []) c.new-ids.ensures) in
    let later = named_terms_grown t n c.args.named_terms.now c.requires.named_terms c.bind_inside.ensures.grows.now in
    let step = others_read w inner n.trees c.args.binder c.args.collector c.args.others.now ps first here list (ap (λ (v : World). v.names) same) locals
    ∙ ap (λ us. arguments_after inner n.trees (use_.Bind c.args.binder c.args.collector) us c.args.others.now here) (sym ids)
    ∙ ap (λ l. arguments_after inner n.trees (use_.Bind c.args.binder c.args.collector) (trees_in n c.push.new.self) c.args.others.now l) (sym later)
    ∙ ap (λ b. arguments_after (inside n k s b) n.trees (use_.Bind c.args.binder c.args.collector) (trees_in n c.push.new.self) c.args.others.now (named_terms_in n c.args.named_terms.now)) (sym c.in_ok-enter.ensures.blocks) in
    let there = arguments_after (inside n k s c.enter.new.blocks) n.trees (use_.Bind c.args.binder c.args.collector) (trees_in n c.push.new.self) c.args.others.now (named_terms_in n c.args.named_terms.now) in
    let own = subst (λ b. Goes k s c.next_argument.new.table c.args.named_terms.now b c.enter.new.blocks c.enter.new.waits.items c.next_argument.new.waits.items (4 * size_of_all c.args.others.now + 1) c.next_argument.result there) c.in_ok-enter.ensures.blocks c.next_argument.ensures.gives in
    let whole = subst (λ fs. Goes k s c.next_argument.new.table c.args.named_terms.now (bs ∷ blocks) c.enter.new.blocks fs c.next_argument.new.waits.items (4 * size_of_all c.args.others.now + 1) c.next_argument.result there) c.in_ok-enter.ensures.waits own in
    let most : (4 * size_of_all c.args.others.now + 1) + 1 ≡ 4 * size_of_all c.args.others.now + 2 = omega arith in
    subst (λ m. Goes k s c.next_argument.new.table c.args.named_terms.now blocks c.enter.new.blocks c.args.waits.now.items c.next_argument.new.waits.items m c.next_argument.result (with_names w (nexts.Others c.args.binder c.args.collector c.args.others.now) ps here)) most
    (inner_goes k s c.next_argument.new.table c.args.named_terms.now blocks c.enter.new.blocks bs c.args.waits.now.items c.next_argument.new.waits.items _ c.next_argument.result _ there step whole)
