use Rattle.std.proofs.Common.{◌≡◌, ℕ, List, length, map, sym, subst, ◌∙◌}
use Rattle.std.proofs.lemmas.Bool.{false≢true}
use Rattle.std.proofs.lemmas.Result.{IfOk-weaker}
use Rattle.eo_term.specs.declared.node.Info.{Info}
use Rattle.eo_term.specs.Tree.{App}
use Rattle.eo_term.specs.Terms.{tree_at, Interned}
use Rattle.eo_term.specs.Keys.{Root, entries_of}
use Rattle.eo_term.specs.Held.{IsOver, IsThere, Lacks, trees_of}
use Rattle.eo_term.proofs.Growing.{grows_refl}
use Rattle.eo_term.proofs.Put.{applied_root, applied_over, is_there, lacks}
use Rattle.eo_term.proofs.table.Table.apply.Goals as goal

pub returns-in-Some-clause-interned : goal.returns-in-Some-clause-interned
returns-in-Some-clause-interned c =
    let there : IsThere c.args.self.now (App (tree_at c.args.self.now.trees c.args.fun) (tree_at c.args.self.now.trees c.args.arg)) c.in-Some.at =
    subst (λ v. IsThere v (App (tree_at v.trees c.args.fun) (tree_at v.trees c.args.arg)) c.in-Some.at) c.self.view_is
    (is_there (entries_of c.self.inside.nodes) (map (λ w. w.items) c.self.inside.texts.keys) c.self.invariant.1 (applied_root c.args.fun c.args.arg) c.in-Some.at c.in-Some.ensures.yes) in
    let P : ℕ → Type 0 = λ i. Interned c.args.self.now (App (tree_at c.args.self.now.trees c.args.fun) (tree_at c.args.self.now.trees c.args.arg)) i c.args.self.now in
    IfOk-weaker c.term_at.result (λ i. i ≡ c.in-Some.at) P (λ i e. subst P (sym e) there.interned) c.term_at.ensures.ok

pub returns-in-Some-clause-tall : goal.returns-in-Some-clause-tall
returns-in-Some-clause-tall c =
    let there : IsThere c.args.self.now (App (tree_at c.args.self.now.trees c.args.fun) (tree_at c.args.self.now.trees c.args.arg)) c.in-Some.at =
    subst (λ v. IsThere v (App (tree_at v.trees c.args.fun) (tree_at v.trees c.args.arg)) c.in-Some.at) c.self.view_is
    (is_there (entries_of c.self.inside.nodes) (map (λ w. w.items) c.self.inside.texts.keys) c.self.invariant.1 (applied_root c.args.fun c.args.arg) c.in-Some.at c.in-Some.ensures.yes) in
    (λ h. absurd (c.term_at.ensures.low h), λ e. absurd (false≢true (sym there.low ∙ e)))

pub returns-in-Some-clause-grows : goal.returns-in-Some-clause-grows
returns-in-Some-clause-grows c = grows_refl c.args.self.now

pub apply_new-requires-clause-lacks : goal.apply_new-requires-clause-lacks
apply_new-requires-clause-lacks c =
    let es : List (Root × Info) = entries_of c.self.inside.nodes in
    let xs : List (List ℕ) = map (λ w. w.items) c.self.inside.texts.keys in
    let r : Root = applied_root c.args.fun c.args.arg in
    let over : IsOver (length (trees_of xs es)) (length xs) r = subst (λ v. IsOver (length v.trees) (length v.texts) r) (sym c.self.view_is) (applied_over _ _ c.args.fun c.args.arg c.requires.fun c.requires.arg) in
    subst (λ v. Lacks v (App (tree_at v.trees c.args.fun) (tree_at v.trees c.args.arg))) c.self.view_is (lacks es xs c.self.invariant.1 r over c.in-None.ensures.no)
