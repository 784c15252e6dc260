use Rattle.std.proofs.Common.{◌∙◌, ap, sym, map}
use Rattle.eo_term.specs.Terms.{tree_at}
use Rattle.eo_proof.specs.Kept.{NamedId, Kept}
use Rattle.eo_proof.proofs.Reading.{formulas_are}
use Rattle.eo_proof.proofs.facts.Facts.roots.Goals as goal

pub returns : goal.returns
returns c = λ ts.
    ap (map (tree_at ts)) (c.ids.ensures ∙ ap (λ (k : Kept). map (λ (f : NamedId). f.1.0) k.facts) c.self.view_is)
    ∙ sym (formulas_are ts c.args.self.now)
