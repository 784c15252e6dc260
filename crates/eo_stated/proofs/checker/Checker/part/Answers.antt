use Rattle.std.proofs.Common.{◌≡◌, false, None, Some, map, rules, sym, subst}
use Rattle.std.specs.Prelude.{option_map, MatchOption}
use Rattle.eo_term.specs.Growth.{tree_in}
use Rattle.eo_term.specs.Tree.{is_value}
use Rattle.eo_stated.specs.Checking.{read_evaluated}
use Rattle.eo_stated.proofs.PartsListed.{part_next}
use Rattle.eo_stated.proofs.checker.Checker.part.Goals as goal

pub returns-clause-part : goal.returns-clause-part
returns-clause-part c =
    let table = c.args.self.now.table in
    let t = tree_in table c.args.id in
    let h : is_value t ≡ false = search rules in
    subst (λ m. MatchOption c.next.result (m ≡ None) (λ p. m ≡ Some (option_map (tree_in table) p.outcome, map (read_evaluated table.trees) p.rest.now)))
    (sym (part_next t (map (read_evaluated table.trees) c.args.listed.now) h)) c.next.ensures.part
