use Rattle.std.proofs.Common.{◌∙◌, ap, sym}
use Rattle.std.specs.Prelude.{option_map}
use Rattle.eo_proof.specs.Kept.{Made}
use Rattle.eo_proof.proofs.Found.{found-value, no-value, place-within}
use Rattle.eo_proof.proofs.named.NamedIds.get.Goals as goal

pub id_at-requires : goal.id_at-requires
id_at-requires c = place-within c.args.self.now c.args.name.now c.in-Some.place (sym c.place.ensures ∙ c.in-Some.is)

pub returns-in-Some : goal.returns-in-Some
returns-in-Some c = found-value (λ (m : Made). m.0) c.args.self.now c.args.name.now c.in-Some.place c.id_at.result (sym c.place.ensures ∙ c.in-Some.is) c.id_at.ensures

pub returns-in-None : goal.returns-in-None
returns-in-None c = sym (ap (option_map (λ (m : Made). m.0)) (no-value c.args.self.now c.args.name.now (sym c.place.ensures ∙ c.in-None.is)))
