use Rattle.eo_sig.proofs.Longer.{constant_at_more, program_at_more, rule_at_more, literal_type_more}
use Rattle.eo_sig.proofs.laws.longer_law.Goals as goal

pub returns : goal.returns
returns c = λ now later.
    record {
      constant = constant_at_more now later;
      program = program_at_more now later;
      rule = rule_at_more now later;
      literal = literal_type_more now later;
    }
