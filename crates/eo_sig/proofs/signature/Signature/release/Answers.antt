use Rattle.std.proofs.Common.{◌≡◌, ℕ, map, take, sym, ap, ◌∙◌, subst, All}
use Rattle.std.proofs.lemmas.List.{take-map}
use Rattle.std.proofs.lemmas.List.Elements.{All-take}
use Rattle.eo_sig.specs.Reading.{Kept, MacroBelow, EntryBelow}
use Rattle.eo_sig.proofs.Keeping.{kept_macros}
use Rattle.eo_sig.proofs.signature.Signature.release.Goals as goal

pub invariant_of-self : goal.invariant_of-self
invariant_of-self c =
    let ms = c.self.inside.macros.entries in
    let n : ℕ = c.m.inside.macros in
    let cut : map (λ e. e.0) (take n ms) ≡ map (λ e. e.1.name) (take n ms) = sym (take-map (λ e. e.0) n ms) ∙ ap (take n) c.self.invariant.macros ∙ take-map (λ e. e.1.name) n ms in
    kept_macros _ _ _ _ _ ms _ _ _ c.self.invariant c.truncate.new.self.entries (ap (map (λ e. e.0)) c.truncate.ensures.entries ∙ cut ∙ sym (ap (map (λ e. e.1.name)) c.truncate.ensures.entries))

pub returns-clause-macros : goal.returns-clause-macros
returns-clause-macros c =
    ap (map (λ e. e.1)) c.truncate.ensures.entries
    ∙ sym (take-map (λ e. e.1) c.m.inside.macros c.self.inside.macros.entries)
    ∙ ap (λ n. take n (map (λ e. e.1) c.self.inside.macros.entries)) c.m.view_is
    ∙ ap (λ (k : Kept). take c.args.m k.macros) c.self.view_is

pub returns-clause-below : goal.returns-clause-below
returns-clause-below c = λ n h. record {
  entries = subst (λ (k : Kept). All (EntryBelow n) k.entries) (sym c.self.view_is) h.entries;
  macros = subst (All (MacroBelow n)) (sym (returns-clause-macros c)) (All-take (MacroBelow n) c.args.m c.args.self.now.macros h.macros);
}
