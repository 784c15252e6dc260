use Rattle.test_elab.proofs.tests.world.add_parameters.Goals as goal

-- each call grows the table from what the one before it left
pub returns-clause-grows : goal.returns-clause-grows
returns-clause-grows c =
    let first = c.add_parameter.ensures.grows in
    let second = c.add_parameter-2.ensures.grows in
    let third = c.add_parameter-3.ensures.grows in
    record {
      now = third.since _ (second.since _ first.now);
      since = λ t h. third.since t (second.since t (first.since t h));
    }
