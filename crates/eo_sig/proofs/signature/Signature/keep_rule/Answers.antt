use Rattle.std.proofs.Common.{◌≡◌, [], ◌∷◌, ◌++◌, length, map, position, None, sym, ap, ◌∙◌, subst}
use Rattle.std.specs.Prelude.{bytes_eq}
use Rattle.std.specs.Map.{lookup, keys_of}
use Rattle.indexmap.proofs.CallerLemmas.{insert_entry-new}
use Rattle.eo_sig.specs.declared.records.Declared.TheVariants as declared
use Rattle.eo_sig.specs.declared.records.RuleDecl.{RuleDecl}
use Rattle.eo_sig.specs.Signature as sig
use Rattle.eo_sig.specs.Reading.{Kept, signature, read_entry, with_entry}
use Rattle.eo_sig.proofs.Keeping.{new_rule, kept_rule, no_key, at_ok}
use Rattle.eo_sig.proofs.signature.Signature.keep_rule.Goals as goal

pub invariant_of-self-2 : goal.invariant_of-self-2
invariant_of-self-2 c =
    let es = c.self.inside.entries.items in
    let names = c.self.inside.rules.entries in
    let d : RuleDecl = c.in_ok-key.d in
    let same : c.args.d ≡ d = sym c.in_ok-key.ensures.other in
    let key : c.in_ok-key.key ≡ d.name = at_ok (λ n. n ≡ c.as_bytes.result.now) c.new.result c.in_ok-key.key c.in_ok-key.ensures.called c.new.ensures ∙ c.as_bytes.ensures ∙ ap (λ (x : RuleDecl). x.name) same in
    let free : sig.rule_named (map (read_entry []) es) d.name ≡ None = subst (λ (x : RuleDecl). sig.rule_named (map (read_entry []) es) x.name ≡ None) same (subst (λ (k : Kept). sig.rule_named (signature [] k) c.args.d.name ≡ None) (sym c.self.view_is) c.requires) in
    let none : lookup (λ v. bytes_eq c.in_ok-key.key v) names ≡ None = no_key _ names (ap (λ u. position (λ v. bytes_eq u v) (keys_of names)) key ∙ new_rule es _ _ _ _ _ _ _ _ c.self.invariant d.name free) in
    kept_rule es _ _ _ _ _ _ _ _ c.self.invariant d c.in_ok-key.key c.append.new.entries.items c.append.new.names.entries key c.in_ok-append.ensures.entries
    (c.in_ok-append.ensures.names ∙ insert_entry-new (λ u v. bytes_eq u v) c.self.inside.rules c.in_ok-key.key (length es) none)

pub returns-clause-kept : goal.returns-clause-kept
returns-clause-kept c =
    let es = c.self.inside.entries.items in
    let entries : c.append.new.entries.items ≡ es ++ declared.Rule c.args.d ∷ [] = c.in_ok-append.ensures.entries ∙ ap (λ (x : RuleDecl). es ++ declared.Rule x ∷ []) c.in_ok-key.ensures.other in
    (λ i. record { entries = entries i; macros = map (λ e. e.1) c.self.inside.macros.entries }) ∙ ap (with_entry (declared.Rule c.args.d)) c.self.view_is
