use Rattle.std.proofs.Common.{◌≡◌, length, ap, ◌∙◌, subst, map, List, []}
use Rattle.eo_term.specs.Tree.{Tree}
use Rattle.eo_sig.specs.Signature as sig
use Rattle.eo_sig.specs.Reading.{signature, read_entry, rules_of, read_rule}
use Rattle.eo_sig.specs.Held.{rule_name}
use Rattle.eo_sig.proofs.Tables.{table_length}
use Rattle.std.proofs.lemmas.List.{length-map}
use Rattle.eo_sig.proofs.Readings.{rule_names, rules_read}
use Rattle.eo_sig.proofs.signature.Signature.rules.Goals as goal

pub returns-clause-value : goal.returns-clause-value
returns-clause-value c = λ ts. subst (λ k. c.len.result ≡ length (sig.rules (signature ts k))) c.self.view_is
    (c.len.ensures.len ∙ table_length rule_name c.self.inside.entries.items c.self.inside.rules.entries c.self.invariant.rules
    ∙ ap length (rule_names ts c.self.inside.entries.items) ∙ length-map (sig.rules (map (read_entry ts) c.self.inside.entries.items)) (λ (r : sig.Rule). r.name))

pub returns-clause-count : goal.returns-clause-count
returns-clause-count c =
    let none : List Tree = [] in
    returns-clause-value c none ∙ ap length (rules_read none c.args.self.now.entries) ∙ length-map (rules_of c.args.self.now) (read_rule none)
