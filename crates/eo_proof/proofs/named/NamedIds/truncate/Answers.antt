use Rattle.std.proofs.Common.{◌≡◌, ◌∙◌, ap, sym, subst, List, ℕ, take, length}
use Rattle.std.specs.List.{zip}
use Rattle.std.specs.Prelude.{min}
use Rattle.std.proofs.lemmas.List.{length-take}
use Rattle.indexmap.proofs.ReorderLemmas.{zip-take}
use Rattle.eo_proof.specs.Places.{AreFound}
use Rattle.eo_proof.proofs.named.NamedIds.truncate.Goals as goal

-- as many are left of a list as of the names
as_many : (n : ℕ) (names : List (List ℕ)) (xs : List ℕ) → length xs ≡ length names → length (take n xs) ≡ length (take n names)
as_many n names xs same = length-take n xs ∙ ap (min n) same ∙ sym (length-take n names)

pub invariant_of-self : goal.invariant_of-self
invariant_of-self c =
    let n = c.args.n in
    let names = c.self.inside.names in
    let ids = c.self.inside.ids.items in
    let commands = c.self.inside.commands.items in
    let left = ap length (sym c.truncate.ensures) in (
      ap length c.truncate-2.ensures.items ∙ as_many n names ids c.self.invariant.0 ∙ left,
      ap length c.truncate-3.ensures.items ∙ as_many n names commands c.self.invariant.1 ∙ left,
      subst (λ (ns : List (List ℕ)). AreFound ns c.cut.new.self.numbered.items c.cut.new.self.others.entries) (sym c.truncate.ensures) (c.cut.ensures names c.self.invariant.2),
    )

pub returns : goal.returns
returns c =
    let n = c.args.n in
    let names = c.self.inside.names in
    let ids = c.self.inside.ids.items in
    let commands = c.self.inside.commands.items in
    (λ i. zip (c.truncate.ensures i) (zip (c.truncate-2.ensures.items i) (c.truncate-3.ensures.items i)))
    ∙ ap (zip (take n names)) (zip-take n ids commands)
    ∙ zip-take n names (zip ids commands) ∙ ap (take n) c.self.view_is
