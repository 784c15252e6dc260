use Rattle.std.proofs.Common.{◌≡◌, ℕ, ◌<◌, ◌++◌, Option, ap, sym, subst, ◌∙◌, rules}
use Rattle.std.specs.Prelude.{option_map, IfSome}
use Rattle.eo_term.specs.Terms.{tree_at}
use Rattle.eo_names.specs.declared.scope.Scope.{the_lemmas}
use Rattle.eo_names.specs.Contexts.{local_named}
use Rattle.eo_names.specs.Names.{read_locals, AreBelow, bound_by}
use Rattle.eo_names.specs.Scopes.{bound_in}
use Rattle.eo_names.proofs.ScopeLemmas.{named_within, within_below, outside_below, first_some, second_some}
use Rattle.eo_names.proofs.scope.Scope.+find.Goals as goal

pub returns-in-Some-clause-value : goal.returns-in-Some-clause-value
returns-in-Some-clause-value t c = λ ts.
    let name = c.args.name.now in
    let bs = bound_by c.in-Within.blocks.now in
    let ls = bound_in c.in-Within.around.now in
    let seen : bound_in c.args.self.now ≡ bs ++ ls = ap bound_in c.in-Within.is ∙ search (rules, the_lemmas) in
    first_some (tree_at ts c.in-Some.id) _ (local_named (read_locals ts ls) name) (ap (option_map (tree_at ts)) (sym c.in-Some.is) ∙ c.find-in-Within.ensures.value ts)
    ∙ sym (named_within ls ts name bs) ∙ ap (λ xs. local_named (read_locals ts xs) name) (sym seen)

pub returns-in-Some-clause-live : goal.returns-in-Some-clause-live
returns-in-Some-clause-live t c = λ n h.
    let bs = bound_by c.in-Within.blocks.now in
    let ls = bound_in c.in-Within.around.now in
    let seen : bound_in c.args.self.now ≡ bs ++ ls = ap bound_in c.in-Within.is ∙ search (rules, the_lemmas) in
    let P : Option ℕ → Type 0 = λ o. IfSome o (λ i. i < n) in
    subst P c.in-Some.is (c.find-in-Within.ensures.live n (within_below n bs ls (subst (AreBelow n) seen h)))

pub returns-in-None-clause-value : goal.returns-in-None-clause-value
returns-in-None-clause-value t c = λ ts.
    let name = c.args.name.now in
    let bs = bound_by c.in-Within.blocks.now in
    let ls = bound_in c.in-Within.around.now in
    let seen : bound_in c.args.self.now ≡ bs ++ ls = ap bound_in c.in-Within.is ∙ search (rules, the_lemmas) in
    c.find-in-None.ensures.value ts
    ∙ second_some _ (local_named (read_locals ts ls) name) (ap (option_map (tree_at ts)) (sym c.in-None.is) ∙ c.find-in-Within.ensures.value ts)
    ∙ sym (named_within ls ts name bs) ∙ ap (λ xs. local_named (read_locals ts xs) name) (sym seen)

pub returns-in-None-clause-live : goal.returns-in-None-clause-live
returns-in-None-clause-live t c = λ n h.
    let bs = bound_by c.in-Within.blocks.now in
    let ls = bound_in c.in-Within.around.now in
    let seen : bound_in c.args.self.now ≡ bs ++ ls = ap bound_in c.in-Within.is ∙ search (rules, the_lemmas) in
    c.find-in-None.ensures.live n (outside_below n bs ls (subst (AreBelow n) seen h))
