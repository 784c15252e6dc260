use Rattle.std.proofs.Common.{sym, Vec, Global, ℕ}
use Rattle.std.specs.Str.{bytes_eq}
use Rattle.std.proofs.lemmas.Slice.Eq.{bytes_eq-Decides}
use Rattle.eo_term.proofs.Numbers.{number_found, number_missing}
use Rattle.eo_term.proofs.nodes.find_list.Goals as goal

pub returns-clause-yes : goal.returns-clause-yes
returns-clause-yes c =
    number_found (λ (v : Vec ℕ Global). v.items) c.args.args.now (λ v. bytes_eq c.args.args.now v.items) (λ v e. sym ((bytes_eq-Decides c.args.args.now v.items).0 e)) (λ v e. (bytes_eq-Decides c.args.args.now v.items).1 (sym e))
    c.args.lists.now.entries c.get_index_of.result c.get_index_of.ensures.index

pub returns-clause-no : goal.returns-clause-no
returns-clause-no c =
    number_missing (λ (v : Vec ℕ Global). v.items) c.args.args.now (λ v. bytes_eq c.args.args.now v.items) (λ v e. sym ((bytes_eq-Decides c.args.args.now v.items).0 e)) (λ v e. (bytes_eq-Decides c.args.args.now v.items).1 (sym e))
    c.args.lists.now.entries c.get_index_of.result c.get_index_of.ensures.found
