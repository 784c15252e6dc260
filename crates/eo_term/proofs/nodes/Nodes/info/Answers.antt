use Rattle.std.proofs.Common.{◌≡◌, slice_get, Some, sym, ap, ◌∙◌}
use Rattle.std.specs.Option.{option_map}
use Rattle.eo_term.specs.declared.node.Key.{Key}
use Rattle.eo_term.specs.declared.node.Info.{Info}
use Rattle.eo_term.specs.Keys.{root_of, literals_of, lists_of}
use Rattle.eo_term.proofs.Numbers.{slice_get_at_map}
use Rattle.eo_term.proofs.nodes.Nodes.info.Goals as goal

pub returns : goal.returns
returns c =
    let e : Key × Info = (c.unwrap.result.0.now, c.unwrap.result.1.now) in
    let at : slice_get c.args.self.now.keys.entries c.args.at ≡ Some e = sym c.get_index.ensures.entry ∙ ap (option_map (λ p. (p.0.now, p.1.now))) c.unwrap.ensures in
    (root_of (literals_of c.args.self.now) (lists_of c.args.self.now) e.0, slice_get_at_map (λ (e : Key × Info). (root_of (literals_of c.args.self.now) (lists_of c.args.self.now) e.0, e.1)) c.args.self.now.keys.entries c.args.at e at)
