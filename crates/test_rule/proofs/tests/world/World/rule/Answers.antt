use Rattle.std.proofs.Common.{[], sym, ap, ◌∙◌}
use Rattle.eo_sig.specs.Reading.{signature}
use Rattle.eo_sig.specs.Signature.{is_free_rule}
use Rattle.test_rule.proofs.tests.world.World.rule.Goals as goal

pub add_rule-requires-clause-free : goal.add_rule-requires-clause-free
add_rule-requires-clause-free c =
    sym (ap (is_free_rule (signature [] c.self.inside.sig)) c.as_bytes.ensures) ∙ (sym (c.is_free_rule.ensures []) ∙ c.if-not-is_free_rule.false)

pub invariant_of-self-2 : goal.invariant_of-self-2
invariant_of-self-2 c = (c.in_ok-add_rule.ensures.below _ c.self.invariant.0 c.in_ok-d.ensures.below, c.in_ok-add_rule.ensures.usable _ c.in_ok-d.ensures.ordered c.self.invariant.1)
