use Rattle.std.proofs.Common.{◌≡◌, ◌<◌, length, ◌∙◌, subst}
use Rattle.eo_sig.specs.Signature as sig
use Rattle.eo_sig.specs.Reading.{Kept, signature, rule_decl_of, rules_of}
use Rattle.eo_sig.proofs.Tables.{numbers}
use Rattle.std.specs.Prelude.{IfSome}
use Rattle.eo_sig.proofs.Readings.{rule_found}
use Rattle.eo_sig.proofs.signature.Signature.rule.Goals as goal

pub returns-clause-named : goal.returns-clause-named
returns-clause-named c = λ ts. subst (λ k. c.get_index_of.result ≡ sig.rule_named (signature ts k) c.args.name.now) c.self.view_is
    (c.get_index_of.ensures.index ∙ rule_found ts c.args.name.now c.self.inside.entries.items c.self.inside.rules.entries c.self.invariant.rules)

pub returns-clause-within : goal.returns-clause-within
returns-clause-within c =
    let count = numbers rule_decl_of (λ d. d.name) c.self.inside.entries.items c.self.inside.rules.entries c.self.invariant.rules in
    subst (λ (k : Kept). IfSome c.get_index_of.result (λ n. n < length (rules_of k))) c.self.view_is
    (subst (λ l. IfSome c.get_index_of.result (λ n. n < l)) count c.get_index_of.ensures.within)
