use Rattle.std.proofs.Common.{◌≡◌, ◌++◌, map, ap, ◌∙◌}
use Rattle.std.specs.Map.{values_of}
use Rattle.eo_names.specs.Names.{Binding}
use Rattle.eo_names.proofs.Bound.{values_bound}
use Rattle.eo_names.proofs.locals.Bindings.ids.Goals as goal

pub loop-id-init : goal.loop-id-init
loop-id-init c =
    let es = c.self.inside.names.entries in
    let all : c.into_iter-id-iterator.result ≡ values_of es = cc in
    (λ k. c.new-ids.ensures k ++ all k) ∙ values_bound es ∙ ap (map (λ (b : Binding). b.1)) c.self.view_is
