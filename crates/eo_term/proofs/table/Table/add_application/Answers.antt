use Rattle.std.proofs.Common.{ℕ, List, length, map, sym, subst}
use Rattle.eo_term.specs.declared.node.Info.{Info}
use Rattle.eo_term.specs.Tree.{App}
use Rattle.eo_term.specs.Terms.{tree_at, Interned}
use Rattle.eo_term.specs.Keys.{Root, entries_of}
use Rattle.eo_term.specs.Held.{Tells, IsOver, Lacks, tree_of_root, trees_of}
use Rattle.eo_term.proofs.Growing.{grows_from}
use Rattle.eo_term.proofs.Put.{applied_root, applied_over, is_new, IsSound-put, Interned-put}
use Rattle.eo_term.proofs.Sound.{shown}
use Rattle.eo_term.proofs.table.Table.add_application.Goals as goal

pub push_application-requires-clause-absent : goal.push_application-requires-clause-absent
push_application-requires-clause-absent c =
    let es : List (Root × Info) = entries_of c.self.inside.nodes in
    let xs : List (List ℕ) = map (λ w. w.items) c.self.inside.texts.keys in
    let lacks : Lacks (shown es xs) (tree_of_root (trees_of xs es) xs (applied_root c.args.fun c.args.arg)) = subst (λ v. Lacks v (App (tree_at v.trees c.args.fun) (tree_at v.trees c.args.arg))) (sym c.self.view_is) c.requires.lacks in
    is_new es xs c.self.invariant.1 (applied_root c.args.fun c.args.arg) lacks

pub invariant_of-self-2 : goal.invariant_of-self-2
invariant_of-self-2 c =
    let es : List (Root × Info) = entries_of c.self.inside.nodes in
    let xs : List (List ℕ) = map (λ w. w.items) c.self.inside.texts.keys in
    let r : Root = applied_root c.args.fun c.args.arg in
    let over : IsOver (length (trees_of xs es)) (length xs) r = subst (λ v. IsOver (length v.trees) (length v.texts) r) (sym c.self.view_is) (applied_over _ _ c.args.fun c.args.arg c.requires.fun c.requires.arg) in
    let tells : Tells (tree_of_root (trees_of xs es) xs r) c.args.info = subst (λ v. Tells (tree_of_root v.trees v.texts r) c.args.info) (sym c.self.view_is) c.requires.tells in
    (c.push_application.ensures.kept, IsSound-put es (entries_of c.push_application.new.self) xs c.self.invariant.1 r c.args.info c.in_ok-number.number over tells c.requires.low c.in_ok-number.ensures.ok)

pub returns-clause-interned : goal.returns-clause-interned
returns-clause-interned c =
    let es : List (Root × Info) = entries_of c.self.inside.nodes in
    let xs : List (List ℕ) = map (λ w. w.items) c.self.inside.texts.keys in
    let r : Root = applied_root c.args.fun c.args.arg in
    let over : IsOver (length (trees_of xs es)) (length xs) r = subst (λ v. IsOver (length v.trees) (length v.texts) r) (sym c.self.view_is) (applied_over _ _ c.args.fun c.args.arg c.requires.fun c.requires.arg) in
    let tells : Tells (tree_of_root (trees_of xs es) xs r) c.args.info = subst (λ v. Tells (tree_of_root v.trees v.texts r) c.args.info) (sym c.self.view_is) c.requires.tells in
    subst (λ v. Interned v (tree_of_root v.trees v.texts r) c.in_ok-number.number (shown (entries_of c.push_application.new.self) xs)) c.self.view_is
    (Interned-put es (entries_of c.push_application.new.self) xs c.self.invariant.1 r c.args.info c.in_ok-number.number over tells c.requires.low c.in_ok-number.ensures.ok)

pub returns-clause-grows : goal.returns-clause-grows
returns-clause-grows c = grows_from c.args.self.now _ (returns-clause-interned c).grows
