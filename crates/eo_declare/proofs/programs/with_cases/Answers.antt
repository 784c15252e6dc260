use Rattle.std.proofs.Common.{length, map, arith, sym, ◌∙◌}
use Rattle.std.specs.Prelude.{Ok}
use Rattle.eo_base.proofs.Answering.{fails}
use Rattle.eo_sig.specs.Reading.{read_program, read_case}
use Rattle.eo_declare.specs.Declaring.{own_cases_in}
use Rattle.eo_declare.proofs.BoundLemmas.{parameters-grown, parameters-more}
use Rattle.eo_declare.proofs.CheckedLemmas.{then-ok, then-err}
use Rattle.eo_declare.proofs.ConstantLemmas.{trees-grown, ids-more}
use Rattle.eo_declare.proofs.programs.with_cases.Goals as goal

pub returns-in_err-cases-clause-gives : goal.returns-in_err-cases-clause-gives
returns-in_err-cases-clause-gives c =
    let t = c.args.table.now in
    let p = read_program t.trees c.args.head in
    fails _ _ _ _ _ _ _ c.from_residual.ensures.1 (λ f e. then-err (λ ks. Ok (record p { cases = ks })) (own_cases_in t c.args.sig.now c.args.locals.now c.args.head c.args.cases.now) f e) c.in_err-cases.ensures.gives

pub returns-clause-gives : goal.returns-clause-gives
returns-clause-gives c =
    let t = c.args.table.now in
    let us = c.own_cases.new.table in
    let d = c.args.head in
    let p = read_program t.trees d in
    let n = length t.trees in
    let m = length us.trees in
    let more = c.in_ok-cases.ensures.grows.now.more_trees in
    let same = c.in_ok-cases.ensures.grows.now.tree in
    let params = parameters-grown n t.trees us.trees d.params same c.requires.head.params in
    let inputs = trees-grown n t.trees us.trees d.inputs same c.requires.head.inputs in
    let output = same d.output c.requires.head.output in
    let ks = map (read_case us.trees) c.in_ok-cases.cases in
    record {
      live = record { params = parameters-more n m d.params more c.requires.head.params; inputs = ids-more n m d.inputs more c.requires.head.inputs; output = omega (arith, more, c.requires.head.output); cases = c.in_ok-cases.ensures.gives.live; few = c.requires.head.few };
      is = then-ok (λ ks. Ok (record p { cases = ks })) (own_cases_in t c.args.sig.now c.args.locals.now d c.args.cases.now) ks c.in_ok-cases.ensures.gives.is
          ∙ (λ i. Ok (record { name = d.name; parameters = sym params i; inputs = sym inputs i; output = sym output i; cases = ks }));
    }
