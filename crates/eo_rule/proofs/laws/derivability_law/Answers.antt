use Rattle.eo_rule.proofs.Grows.{derives_from_more, derives_in_more, allowed_from_more, allowed_in_more, allowed_derives}
use Rattle.eo_rule.proofs.laws.derivability_law.Goals as goal

pub returns-clause-formulas : goal.returns-clause-formulas
returns-clause-formulas c = λ S Γ Δ t more d. derives_from_more Δ more d

pub returns-clause-signature : goal.returns-clause-signature
returns-clause-signature c = λ S later Γ t d. derives_in_more later d

pub returns-clause-allowed_formulas : goal.returns-clause-allowed_formulas
returns-clause-allowed_formulas c = allowed_from_more

pub returns-clause-allowed_signature : goal.returns-clause-allowed_signature
returns-clause-allowed_signature c = allowed_in_more

pub returns-clause-derives : goal.returns-clause-derives
returns-clause-derives c = allowed_derives
