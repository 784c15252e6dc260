use Rattle.std.proofs.Common.{◌≡◌, ℕ, List, [], ◌∷◌, ◌++◌, map, position, None, sym, ap, ◌∙◌, subst}
use Rattle.std.specs.Prelude.{bytes_eq}
use Rattle.std.specs.Map.{lookup, keys_of}
use Rattle.std.proofs.lemmas.List.{map-append}
use Rattle.indexmap.proofs.CallerLemmas.{insert_entry-new}
use Rattle.eo_sig.specs.Signature as sig
use Rattle.eo_sig.specs.Reading.{Kept, macros}
use Rattle.eo_sig.proofs.Keeping.{new_macro, kept_macro, no_key}
use Rattle.eo_sig.proofs.signature.Signature.keep_macro.Goals as goal

pub invariant_of-self-2 : goal.invariant_of-self-2
invariant_of-self-2 c =
    let ms = c.self.inside.macros.entries in
    let w : List ℕ = c.args.d.name in
    let key : c.in_ok-key.key ≡ w = c.in_ok-key.ensures ∙ c.as_bytes.ensures in
    let free = subst (λ (k : Kept). sig.macro_named (macros [] k) w ≡ None) (sym c.self.view_is) c.requires in
    let none : lookup (λ v. bytes_eq c.in_ok-key.key v) ms ≡ None = no_key _ ms (ap (λ u. position (λ v. bytes_eq u v) (keys_of ms)) key ∙ new_macro c.self.inside.entries.items _ _ _ _ ms _ _ _ c.self.invariant w free) in
    let is : c.insert.new.self.entries ≡ ms ++ (c.in_ok-key.key, c.args.d) ∷ [] = c.in_ok-insert.ensures.entries ∙ insert_entry-new (λ u v. bytes_eq u v) c.self.inside.macros c.in_ok-key.key c.args.d none in
    kept_macro _ _ _ _ _ ms _ _ _ c.self.invariant c.args.d c.in_ok-key.key c.insert.new.self.entries key is

pub returns-clause-kept : goal.returns-clause-kept
returns-clause-kept c =
    let ms = c.self.inside.macros.entries in
    let w : List ℕ = c.args.d.name in
    let key : c.in_ok-key.key ≡ w = c.in_ok-key.ensures ∙ c.as_bytes.ensures in
    let free = subst (λ (k : Kept). sig.macro_named (macros [] k) w ≡ None) (sym c.self.view_is) c.requires in
    let none : lookup (λ v. bytes_eq c.in_ok-key.key v) ms ≡ None = no_key _ ms (ap (λ u. position (λ v. bytes_eq u v) (keys_of ms)) key ∙ new_macro c.self.inside.entries.items _ _ _ _ ms _ _ _ c.self.invariant w free) in
    let is : c.insert.new.self.entries ≡ ms ++ (c.in_ok-key.key, c.args.d) ∷ [] = c.in_ok-insert.ensures.entries ∙ insert_entry-new (λ u v. bytes_eq u v) c.self.inside.macros c.in_ok-key.key c.args.d none in
    let seen = ap (map (λ e. e.1)) is ∙ map-append (λ e. e.1) ms ((c.in_ok-key.key, c.args.d) ∷ []) in
    (λ i. record { entries = c.self.inside.entries.items; macros = seen i }) ∙ ap (λ (k : Kept). record { entries = k.entries; macros = k.macros ++ c.args.d ∷ [] }) c.self.view_is
