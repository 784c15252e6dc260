use Rattle.std.proofs.Common.{[], sym, ◌∙◌}
use Rattle.eo_sig.specs.Signature.{is_free_rule}
use Rattle.eo_sig.specs.Reading.{signature}
use Rattle.test_sig.proofs.tests.world.World.declare_rule.Goals as goal

pub add_rule-requires-clause-free : goal.add_rule-requires-clause-free
add_rule-requires-clause-free c =
    sym (λ i. is_free_rule (signature [] c.self.inside.sig) (c.as_bytes.ensures i)) ∙ sym (c.is_free_rule.ensures []) ∙ c.if-not-is_free_rule.false
