use Rattle.std.proofs.Common.{inl}
use Rattle.eo_term.proofs.Marked.{Adds-same}
use Rattle.eo_term.proofs.carry.need_node.Goals as goal

pub returns-in-Con-clause-adds : goal.returns-in-Con-clause-adds
returns-in-Con-clause-adds c = Adds-same c.args.start c.args.at c.args.needed.now.items

pub returns-in-Con-clause-only : goal.returns-in-Con-clause-only
returns-in-Con-clause-only c = λ k t. inl t

pub returns-in-Num-clause-adds : goal.returns-in-Num-clause-adds
returns-in-Num-clause-adds c = Adds-same c.args.start c.args.at c.args.needed.now.items

pub returns-in-Num-clause-only : goal.returns-in-Num-clause-only
returns-in-Num-clause-only c = λ k t. inl t

pub returns-in-Bits-clause-adds : goal.returns-in-Bits-clause-adds
returns-in-Bits-clause-adds c = Adds-same c.args.start c.args.at c.args.needed.now.items

pub returns-in-Bits-clause-only : goal.returns-in-Bits-clause-only
returns-in-Bits-clause-only c = λ k t. inl t

pub returns-in-Str-clause-adds : goal.returns-in-Str-clause-adds
returns-in-Str-clause-adds c = Adds-same c.args.start c.args.at c.args.needed.now.items

pub returns-in-Str-clause-only : goal.returns-in-Str-clause-only
returns-in-Str-clause-only c = λ k t. inl t

pub returns-in-Par-clause-adds : goal.returns-in-Par-clause-adds
returns-in-Par-clause-adds c = Adds-same c.args.start c.args.at c.args.needed.now.items

pub returns-in-Par-clause-only : goal.returns-in-Par-clause-only
returns-in-Par-clause-only c = λ k t. inl t

pub returns-in-Op-clause-adds : goal.returns-in-Op-clause-adds
returns-in-Op-clause-adds c = Adds-same c.args.start c.args.at c.args.needed.now.items

pub returns-in-Op-clause-only : goal.returns-in-Op-clause-only
returns-in-Op-clause-only c = λ k t. inl t
