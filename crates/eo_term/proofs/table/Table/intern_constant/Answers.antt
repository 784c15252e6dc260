use Rattle.std.proofs.Common.{◌≡◌, ℕ, [], map, sym, subst, ◌∙◌}
use Rattle.std.proofs.lemmas.Bool.{false≢true}
use Rattle.std.proofs.lemmas.Result.{IfOk-weaker}
use Rattle.eo_term.specs.declared.node.Node.TheVariants as node
use Rattle.eo_term.specs.Tree.{Con}
use Rattle.eo_term.specs.Terms.{Interned}
use Rattle.eo_term.specs.Keys.{entries_of}
use Rattle.eo_term.specs.Held.{IsThere}
use Rattle.eo_term.proofs.Growing.{grows_refl}
use Rattle.eo_term.proofs.Put.{is_there}
use Rattle.eo_term.proofs.table.Table.intern_constant.Goals as goal

pub returns-in-Some-clause-interned : goal.returns-in-Some-clause-interned
returns-in-Some-clause-interned c =
    let there : IsThere c.args.self.now (Con c.args.k) c.in-Some.at =
    subst (λ v. IsThere v (Con c.args.k) c.in-Some.at) c.self.view_is
    (is_there (entries_of c.self.inside.nodes) (map (λ w. w.items) c.self.inside.texts.keys) c.self.invariant.1 (record { node = node.Con c.args.k; args = [] }) c.in-Some.at c.in-Some.ensures.yes) in
    let P : ℕ → Type 0 = λ i. Interned c.args.self.now (Con c.args.k) i c.args.self.now in
    IfOk-weaker c.term_at.result (λ i. i ≡ c.in-Some.at) P (λ i e. subst P (sym e) there.interned) c.term_at.ensures.ok

pub returns-in-Some-clause-tall : goal.returns-in-Some-clause-tall
returns-in-Some-clause-tall c =
    let there : IsThere c.args.self.now (Con c.args.k) c.in-Some.at =
    subst (λ v. IsThere v (Con c.args.k) c.in-Some.at) c.self.view_is
    (is_there (entries_of c.self.inside.nodes) (map (λ w. w.items) c.self.inside.texts.keys) c.self.invariant.1 (record { node = node.Con c.args.k; args = [] }) c.in-Some.at c.in-Some.ensures.yes) in
    (λ h. absurd (c.term_at.ensures.low h), λ e. absurd (false≢true (sym there.low ∙ e)))

pub returns-in-Some-clause-grows : goal.returns-in-Some-clause-grows
returns-in-Some-clause-grows c = grows_refl c.args.self.now
