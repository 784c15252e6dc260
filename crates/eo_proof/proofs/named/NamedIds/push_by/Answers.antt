use Rattle.std.proofs.Common.{◌≡◌, ◌∙◌, ap, sym, subst, List, ℕ, [], ◌∷◌, ◌++◌, length}
use Rattle.std.specs.List.{zip}
use Rattle.std.specs.Map.{lookup}
use Rattle.std.specs.Str.{bytes_eq}
use Rattle.std.proofs.lemmas.Map.Made.{keys_of-zip}
use Rattle.indexmap.proofs.ReorderLemmas.{zip_push}
use Rattle.eo_proof.specs.Kept.{NamedId}
use Rattle.eo_proof.specs.Places.{AreFound}
use Rattle.eo_proof.proofs.Found.{unplaced, found-without, made-count}
use Rattle.eo_proof.proofs.named.NamedIds.push_by.Goals as goal

pub add-requires-clause-new : goal.add-requires-clause-new
add-requires-clause-new c =
    let names = c.self.inside.names in
    let ids = c.self.inside.ids.items in
    let commands = c.self.inside.commands.items in
    let made = zip ids commands in
    unplaced (zip names made) names c.self.inside.places.numbered.items c.self.inside.places.others.entries c.args.name.now
    (keys_of-zip names made (made-count names ids commands c.self.invariant.0 c.self.invariant.1)) c.self.invariant.2 (ap (lookup (bytes_eq c.args.name.now)) c.self.view_is ∙ c.requires.free)

pub invariant_of-self-in_err-push : goal.invariant_of-self-in_err-push
invariant_of-self-in_err-push c =
    let names = c.self.inside.names in
    let numbered = c.add.new.self.numbered.items in
    let others = c.add.new.self.others.entries in
    let same : c.push.new.self ≡ names = c.in_err-push.ensures.same in (
      ap length c.in_ok-reserve.ensures.items ∙ c.self.invariant.0 ∙ ap length (sym same),
      ap length c.in_ok-reserve-2.ensures.items ∙ c.self.invariant.1 ∙ ap length (sym same),
      subst (λ (ns : List (List ℕ)). AreFound ns numbered others) (sym same) (found-without names numbered others c.args.name.now c.in_ok-add.ensures.added),
    )

pub returns-clause-new : goal.returns-clause-new
returns-clause-new c =
    let name = c.args.name.now in
    let names = c.self.inside.names in
    let ids = c.self.inside.ids.items in
    let commands = c.self.inside.commands.items in
    let more : c.push_reserved.new.self.items ≡ ids ++ c.args.id ∷ [] =
    c.push_reserved.ensures.items ∙ ap (λ (is : List ℕ). is ++ c.args.id ∷ []) c.in_ok-reserve.ensures.items in
    let later : c.push_reserved-2.new.self.items ≡ commands ++ c.args.command ∷ [] =
    c.push_reserved-2.ensures.items ∙ ap (λ (ks : List ℕ). ks ++ c.args.command ∷ []) c.in_ok-reserve-2.ensures.items in
    (λ i. zip (c.in_ok-push.ensures.pushed i) (zip (more i) (later i)))
    ∙ ap (zip (names ++ name ∷ [])) (zip_push ids commands c.args.id c.args.command (c.self.invariant.1 ∙ sym c.self.invariant.0))
    ∙ zip_push names (zip ids commands) name (c.args.id, c.args.command) (made-count names ids commands c.self.invariant.0 c.self.invariant.1)
    ∙ ap (λ (es : List NamedId). es ++ (name, (c.args.id, c.args.command)) ∷ []) c.self.view_is
