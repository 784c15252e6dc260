use Rattle.std.proofs.Common.{◌≡◌, ◌<◌, Option, ℕ, sym, ap, subst, ◌∙◌}
use Rattle.std.specs.Prelude.{option_map, IfSome}
use Rattle.eo_term.specs.Terms.{tree_at}
use Rattle.eo_names.specs.Names.{bound_by}
use Rattle.eo_names.specs.Innermost.{term_named}
use Rattle.eo_names.proofs.Indexed.{named_first, named_live}
use Rattle.eo_names.proofs.inside.Blocks.find.Goals as goal

pub returns-clause-value : goal.returns-clause-value
returns-clause-value c = λ ts.
    let name = c.args.name.now in
    let found : c.find.result ≡ term_named (bound_by c.args.self.now) name = c.find.ensures ∙ c.self.invariant.terms name ∙ ap (λ bs. term_named (bound_by bs) name) c.self.view_is in
    ap (option_map (tree_at ts)) found ∙ named_first ts (bound_by c.args.self.now) name

pub returns-clause-live : goal.returns-clause-live
returns-clause-live c = λ n h.
    let name = c.args.name.now in
    let found : c.find.result ≡ term_named (bound_by c.args.self.now) name = c.find.ensures ∙ c.self.invariant.terms name ∙ ap (λ bs. term_named (bound_by bs) name) c.self.view_is in
    let P : Option ℕ → Type 0 = λ o. IfSome o (λ i. i < n) in
    subst P (sym found) (named_live n (bound_by c.args.self.now) name h)
