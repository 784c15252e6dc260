use Rattle.eo_term.specs.contracts.node.LiteralPartialEq.TheImpl as literal_eq
use Rattle.eo_term.proofs.Exact.{literal_exact, literal_same}
use Rattle.eo_term.proofs.Numbers.{number_found, number_missing}
use Rattle.std.proofs.Common.{sym}
use Rattle.eo_term.proofs.nodes.find_literal.Goals as goal

pub returns-clause-yes : goal.returns-clause-yes
returns-clause-yes c =
    number_found (λ a. a) c.args.literal (literal_eq.ghosts.eq c.args.literal) (λ a e. sym (literal_exact c.args.literal a e)) (λ a e. literal_same c.args.literal a (sym e)) c.args.literals.now.entries c.get_index_of.result c.get_index_of.ensures.index

pub returns-clause-no : goal.returns-clause-no
returns-clause-no c =
    number_missing (λ a. a) c.args.literal (literal_eq.ghosts.eq c.args.literal) (λ a e. sym (literal_exact c.args.literal a e)) (λ a e. literal_same c.args.literal a (sym e)) c.args.literals.now.entries c.get_index_of.result c.get_index_of.ensures.found
