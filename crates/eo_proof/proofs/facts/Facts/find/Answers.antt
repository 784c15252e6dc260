use Rattle.std.proofs.Common.{◌∙◌, ap, sym}
use Rattle.std.specs.Prelude.{option_map}
use Rattle.eo_term.specs.Terms.{tree_at}
use Rattle.eo_proof.proofs.Reading.{fact_is, lookup_below}
use Rattle.eo_proof.proofs.facts.Facts.find.Goals as goal

pub returns-in-Some-clause-finds : goal.returns-in-Some-clause-finds
returns-in-Some-clause-finds c =
    (λ ts. fact_is ts c.args.self.now c.args.name.now ∙ ap (option_map (tree_at ts)) (sym c.id_named.ensures ∙ c.in-Some.is))

pub returns-in-Some-clause-below : goal.returns-in-Some-clause-below
returns-in-Some-clause-below c =
    (λ m h. lookup_below m c.args.name.now c.args.self.now.facts c.in-Some.id h.facts (sym c.id_named.ensures ∙ c.in-Some.is))

pub returns-in-None-clause-finds : goal.returns-in-None-clause-finds
returns-in-None-clause-finds c =
    (λ ts. fact_is ts c.args.self.now c.args.name.now ∙ ap (option_map (tree_at ts)) (sym c.id_named.ensures ∙ c.in-None.is))
