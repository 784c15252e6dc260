use Rattle.std.proofs.Common.{◌≡◌, [], ◌∷◌, ◌++◌, length, map, position, None, sym, ap, ◌∙◌, subst}
use Rattle.std.specs.Prelude.{bytes_eq}
use Rattle.std.specs.Map.{lookup, keys_of}
use Rattle.indexmap.proofs.CallerLemmas.{insert_entry-new}
use Rattle.eo_sig.specs.declared.records.Declared.TheVariants as declared
use Rattle.eo_sig.specs.declared.records.ProgramDecl.{ProgramDecl}
use Rattle.eo_sig.specs.Signature as sig
use Rattle.eo_sig.specs.Reading.{Kept, signature, read_entry, with_entry}
use Rattle.eo_sig.proofs.Keeping.{new_program, kept_program, no_key, at_ok}
use Rattle.eo_sig.proofs.signature.Signature.keep_program.Goals as goal

pub invariant_of-self-2 : goal.invariant_of-self-2
invariant_of-self-2 c =
    let es = c.self.inside.entries.items in
    let names = c.self.inside.programs.entries in
    let d : ProgramDecl = c.in_ok-key.d in
    let same : c.args.d ≡ d = sym c.in_ok-key.ensures.other in
    let key : c.in_ok-key.key ≡ d.name = at_ok (λ n. n ≡ c.as_bytes.result.now) c.new.result c.in_ok-key.key c.in_ok-key.ensures.called c.new.ensures ∙ c.as_bytes.ensures ∙ ap (λ (x : ProgramDecl). x.name) same in
    let free : sig.program_named (map (read_entry []) es) d.name ≡ None = subst (λ (x : ProgramDecl). sig.program_named (map (read_entry []) es) x.name ≡ None) same (subst (λ (k : Kept). sig.program_named (signature [] k) c.args.d.name ≡ None) (sym c.self.view_is) c.requires) in
    let none : lookup (λ v. bytes_eq c.in_ok-key.key v) names ≡ None = no_key _ names (ap (λ u. position (λ v. bytes_eq u v) (keys_of names)) key ∙ new_program es _ _ _ _ _ _ _ _ c.self.invariant d.name free) in
    kept_program es _ _ _ _ _ _ _ _ c.self.invariant d c.in_ok-key.key c.append.new.entries.items c.append.new.names.entries key c.in_ok-append.ensures.entries
    (c.in_ok-append.ensures.names ∙ insert_entry-new (λ u v. bytes_eq u v) c.self.inside.programs c.in_ok-key.key (length es) none)

pub returns-clause-kept : goal.returns-clause-kept
returns-clause-kept c =
    let es = c.self.inside.entries.items in
    let entries : c.append.new.entries.items ≡ es ++ declared.Program c.args.d ∷ [] = c.in_ok-append.ensures.entries ∙ ap (λ (x : ProgramDecl). es ++ declared.Program x ∷ []) c.in_ok-key.ensures.other in
    (λ i. record { entries = entries i; macros = map (λ e. e.1) c.self.inside.macros.entries }) ∙ ap (with_entry (declared.Program c.args.d)) c.self.view_is
