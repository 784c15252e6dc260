use Rattle.std.proofs.Common.{◌≡◌, ◌∷◌, [], None, map, position, Some, ap, ◌∙◌, sym}
use Rattle.std.specs.Str.{bytes_eq}
use Rattle.eo_io.proofs.PathLemmas.{position-map, found, with_path-there, with_path-new, position-new, keys-inserted, number-inserted}
use Rattle.eo_io.proofs.path_table.Paths.add.Goals as goal

pub returns-in-Some-clause-first : goal.returns-in-Some-clause-first
returns-in-Some-clause-first c =
    let path = c.args.path.now in
    sym (ap (position (bytes_eq path)) c.self.view_is) ∙ sym (position-map (bytes_eq path) (λ p. p.items) c.self.inside.paths.keys) ∙ sym c.in-Some.ensures.index

pub returns-in-Some-clause-number : goal.returns-in-Some-clause-number
returns-in-Some-clause-number c = found _ _ _ (returns-in-Some-clause-first c)

pub returns-in-Some-clause-table : goal.returns-in-Some-clause-table
returns-in-Some-clause-table c = with_path-there _ _ _ (returns-in-Some-clause-first c)

pub returns-clause-table : goal.returns-clause-table
returns-clause-table c =
    let paths = c.args.self.now in
    let path = c.args.path.now in
    let absent : position (bytes_eq path) paths ≡ None = ap (position (bytes_eq path)) (sym c.self.view_is) ∙ sym (position-map (bytes_eq path) (λ p. p.items) c.self.inside.paths.keys) ∙ sym c.get_index_of.ensures.index ∙ c.in_default.is in
    let own : c.in_ok-to_vec.field-0.items ≡ path = c.in_ok-to_vec.ensures.items_if_clones_equal (λ x y e. e) in
    ap (map (λ p. p.items)) c.in_ok-n.ensures.keys
    ∙ keys-inserted (λ p. p.items) c.self.inside.paths.keys c.in_ok-to_vec.field-0 paths path c.self.view_is own absent
    ∙ sym (with_path-new paths path absent)

pub returns-clause-grows : goal.returns-clause-grows
returns-clause-grows c =
    let paths = c.args.self.now in
    let path = c.args.path.now in
    let absent : position (bytes_eq path) paths ≡ None = ap (position (bytes_eq path)) (sym c.self.view_is) ∙ sym (position-map (bytes_eq path) (λ p. p.items) c.self.inside.paths.keys) ∙ sym c.get_index_of.ensures.index ∙ c.in_default.is in
    (path ∷ [], returns-clause-table c ∙ with_path-new paths path absent)

pub returns-clause-first : goal.returns-clause-first
returns-clause-first c =
    let paths = c.args.self.now in
    let path = c.args.path.now in
    let absent : position (bytes_eq path) paths ≡ None = ap (position (bytes_eq path)) (sym c.self.view_is) ∙ sym (position-map (bytes_eq path) (λ p. p.items) c.self.inside.paths.keys) ∙ sym c.get_index_of.ensures.index ∙ c.in_default.is in
    let own : c.in_ok-to_vec.field-0.items ≡ path = c.in_ok-to_vec.ensures.items_if_clones_equal (λ x y e. e) in
    let number = number-inserted (λ p. p.items) c.self.inside.paths.keys c.in_ok-to_vec.field-0 paths path c.self.view_is own absent in
    ap (position (bytes_eq path)) (returns-clause-table c ∙ with_path-new paths path absent)
    ∙ position-new paths path absent ∙ ap Some (sym number ∙ sym c.in_ok-n.ensures.index)

pub returns-clause-number : goal.returns-clause-number
returns-clause-number c = found _ _ _ (returns-clause-first c)
