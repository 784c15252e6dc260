use Rattle.std.proofs.Common.{◌∙◌}
use Rattle.eo_rule.proofs.Chains.{conclusion-of}
use Rattle.eo_rule.proofs.Complete.{conclusion_complete}
use Rattle.eo_rule.proofs.Parts.{conclusion_parts}
use Rattle.eo_rule.proofs.Sound.{conclusion_sound}
use Rattle.eo_rule.proofs.laws.conclusion_law.Goals as goal

pub returns-clause-sound : goal.returns-clause-sound
returns-clause-sound c = λ S n given formula usable values e.
    let p = conclusion_parts S n given formula e in
    let s = conclusion_sound S p.0 given formula (record {
      terminators = usable.terminators;
      ordered = usable.rules_ordered n p.0 p.1;
      hypothesis = values.assumed;
      premises = values.premises;
      arguments = values.arguments;
    }) p.2 in
    record { rule = p.0; declared = p.1; is_instance = s.0; agrees = s.1 }

pub returns-clause-complete : goal.returns-clause-complete
returns-clause-complete c = λ S n given formula usable values x.
    conclusion-of S n given x.rule x.declared ∙ conclusion_complete S x.rule given formula (record {
      terminators = usable.terminators;
      ordered = usable.rules_ordered n x.rule x.declared;
      hypothesis = values.assumed;
      premises = values.premises;
      arguments = values.arguments;
    }) x.is_instance x.agrees
