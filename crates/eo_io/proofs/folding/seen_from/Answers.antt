use Rattle.std.proofs.Common.{List, ℕ, ◌++◌, ap, sym, ◌∙◌, if◌then◌else◌}
use Rattle.eo_io.specs.Paths.{folder}
use Rattle.eo_io.proofs.folding.seen_from.Goals as goal

pub returns : goal.returns
returns c =
    let from = c.args.from.now in
    let name = c.args.name.now in
    c.in_ok-extend_from_slice.ensures.items ∙ ap (λ (l : List ℕ). l ++ name) (c.in_ok-path.ensures.items_if_clones_equal (λ x y e. e) ∙ c.folder.ensures)
    ∙ ap (λ b. if b then name else folder from ++ name) (sym c.if-is_absolute.false ∙ c.is_absolute.ensures)
