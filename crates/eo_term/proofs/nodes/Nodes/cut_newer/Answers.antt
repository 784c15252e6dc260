use Rattle.std.proofs.Common.{arith}
use Rattle.eo_term.specs.declared.nodes.Nodes.{Nodes}
use Rattle.eo_term.proofs.Keys.{length-entries, kept_cut, entries_cut}
use Rattle.eo_term.proofs.nodes.Nodes.cut_newer.Goals as goal

pub returns-clause-kept : goal.returns-clause-kept
returns-clause-kept c =
    let n : Nodes = record { keys = c.truncate.new.self; literals = c.truncate-2.new.self; lists = c.truncate-3.new.self } in
    kept_cut c.args.self.now n c.requires.kept c.args.terms c.older-literals.result c.older-lists.result (omega (arith, c.requires.within, length-entries c.args.self.now))
    c.older-literals.ensures c.older-lists.ensures c.truncate.ensures.entries c.truncate-2.ensures.entries c.truncate-3.ensures.entries

pub returns-clause-entries : goal.returns-clause-entries
returns-clause-entries c =
    let n : Nodes = record { keys = c.truncate.new.self; literals = c.truncate-2.new.self; lists = c.truncate-3.new.self } in
    entries_cut c.args.self.now n c.requires.kept c.args.terms c.older-literals.result c.older-lists.result (omega (arith, c.requires.within, length-entries c.args.self.now))
    c.older-literals.ensures c.older-lists.ensures c.truncate.ensures.entries c.truncate-2.ensures.entries c.truncate-3.ensures.entries
