use Rattle.std.proofs.Common.{◌∙◌, ◌||◌, arith, rules}
use Rattle.eo_term.proofs.table.Table.info_of_pair.Goals as goal

pub returns-clause-tells : goal.returns-clause-tells
returns-clause-tells c =
    let a = c.info-a.ensures.tells in
    let b = c.info-b.ensures.tells in
    record {
      height = omega (arith, a.height, b.height);
      arity = search rules;
      value = search rules;
      closed = search rules;
      plain = search rules;
      typable = search rules;
      parameters = λ i. c.union.ensures i ∙ (λ j. a.parameters i j || b.parameters i j);
      open_parameters = λ i. c.union-2.ensures i ∙ (λ j. a.open_parameters i j || b.open_parameters i j);
    }
