use Rattle.std.proofs.Common.{ℕ, eqb, ◌++◌, ◌∷◌, [], None, ◌≡◌, All, sym, ap, ◌∙◌, subst, subst₂}
use Rattle.indexmap.proofs.CallerLemmas.{insert_entry-new}
use Rattle.eo_type.specs.Known.{kept_type}
use Rattle.eo_type.specs.Greatest.{IsUpTo, AreGreatest}
use Rattle.eo_type.proofs.Greatest.{greatest_more}
use Rattle.eo_type.proofs.known.TypeCache.keep.Goals as goal

pub invariant_of-self-2 : goal.invariant_of-self-2
invariant_of-self-2 c =
    let es = c.self.inside.types.entries in
    let e : ℕ × ℕ = (c.args.id, c.args.ty) in
    let entries : c.insert.new.self.entries ≡ es ++ e ∷ [] = c.in_ok-insert.ensures.entries ∙ insert_entry-new eqb c.self.inside.types c.args.id c.args.ty (subst (λ fs. kept_type fs c.args.id ≡ None) (sym c.self.view_is) c.requires) in
    let numbers : c.push.new.self.items ≡ c.self.inside.greatest.items ++ c.greatest_with-greatest.result ∷ [] = c.in_ok-push.ensures.items ∙ ap (λ ns. ns ++ c.greatest_with-greatest.result ∷ []) c.in_ok-reserve.ensures.items in
    subst₂ AreGreatest (sym numbers) (sym entries) (greatest_more c.self.inside.greatest.items es c.greatest_with-greatest.result e c.self.invariant (subst (λ fs. All (IsUpTo c.greatest_with-greatest.result) (fs ++ e ∷ [])) (sym c.self.view_is) c.greatest_with-greatest.ensures))

pub returns-clause-kept : goal.returns-clause-kept
returns-clause-kept c =
    c.in_ok-insert.ensures.entries ∙ insert_entry-new eqb c.self.inside.types c.args.id c.args.ty (subst (λ es. kept_type es c.args.id ≡ None) (sym c.self.view_is) c.requires) ∙ ap (λ es. es ++ (c.args.id, c.args.ty) ∷ []) c.self.view_is
