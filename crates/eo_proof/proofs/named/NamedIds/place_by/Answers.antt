use Rattle.std.proofs.Common.{◌∙◌, ap, sym, List}
use Rattle.std.proofs.lemmas.Map.Made.{keys_of-zip}
use Rattle.std.specs.List.{position, zip}
use Rattle.std.specs.Map.{keys_of}
use Rattle.std.specs.Str.{bytes_eq}
use Rattle.eo_proof.specs.Kept.{NamedId}
use Rattle.eo_proof.proofs.Found.{place-is, made-count}
use Rattle.eo_proof.proofs.named.NamedIds.place_by.Goals as goal

pub returns : goal.returns
returns c =
    let name = c.args.name.now in
    let names = c.self.inside.names in
    let ids = c.self.inside.ids.items in
    let commands = c.self.inside.commands.items in
    c.find.ensures
    ∙ place-is names c.self.inside.places.numbered.items c.self.inside.places.others.entries name c.self.invariant.2
    ∙ ap (position (bytes_eq name)) (sym (keys_of-zip names (zip ids commands) (made-count names ids commands c.self.invariant.0 c.self.invariant.1)))
    ∙ ap (λ (es : List NamedId). position (bytes_eq name) (keys_of es)) c.self.view_is
