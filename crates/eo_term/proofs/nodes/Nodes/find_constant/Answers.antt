use Rattle.std.proofs.Common.{[]}
use Rattle.eo_term.specs.declared.node.Node.TheVariants as node
use Rattle.eo_term.specs.declared.node.Key.TheVariants as key
use Rattle.eo_term.proofs.Keys.{constant_key, found_root, missing_root}
use Rattle.eo_term.proofs.nodes.Nodes.find_constant.Goals as goal

pub returns-clause-yes : goal.returns-clause-yes
returns-clause-yes c =
    found_root c.args.self.now c.requires (node.Con c.args.k) [] (key.Con c.args.k) (constant_key c.args.self.now c.args.k) c.get_index_of.result c.get_index_of.ensures.index

pub returns-clause-no : goal.returns-clause-no
returns-clause-no c =
    missing_root c.args.self.now c.requires (node.Con c.args.k) [] (key.Con c.args.k) (constant_key c.args.self.now c.args.k) c.get_index_of.result c.get_index_of.ensures.found
