use Rattle.std.proofs.Common.{[], length, ap, sym, ◌∙◌}
use Rattle.eo_sig.specs.Reading.{signature}
use Rattle.eo_sig.specs.Signature.{is_free_rule}
use Rattle.test_elab.proofs.tests.world.add_rule.Goals as goal

pub add_rule-requires-clause-free : goal.add_rule-requires-clause-free
add_rule-requires-clause-free c =
    ap (is_free_rule (signature [] c.args.sig.now)) (sym c.as_bytes.ensures) ∙ sym (c.is_free_rule.ensures []) ∙ c.if-not-is_free_rule.false

pub returns-in-Ok : goal.returns-in-Ok
returns-in-Ok c = record { ready = c.in-Ok.ensures.below (length c.args.table.now.trees) c.requires.ready c.requires.below }
