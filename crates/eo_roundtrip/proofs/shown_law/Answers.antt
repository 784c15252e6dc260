use Rattle.eo_roundtrip.proofs.RunNames.{load-named, load-several, check-named}
use Rattle.eo_roundtrip.proofs.RunsWithin.{load-values}
use Rattle.eo_roundtrip.proofs.TextBack.{shows-back}
use Rattle.eo_roundtrip.proofs.shown_law.Goals as goal

pub returns-clause-state : goal.returns-clause-state
returns-clause-state c = shows-back c.printed_law.ensures.lines c.lines_law.ensures.members c.lines_law.ensures.names c.lines_law.ensures.lines

pub returns-clause-load : goal.returns-clause-load
returns-clause-load c = λ files name final e. returns-clause-state c final.state (load-several c.printed_law.ensures.symbols files name final e) (load-named c.printed_law.ensures.symbols files name final e)

pub returns-clause-load_values : goal.returns-clause-load_values
returns-clause-load_values c = λ files name final e.
    load-values c.commands_law.ensures.first c.commands_law.ensures.begin c.commands_law.ensures.command c.values_law.ensures.whole files name final e
    (returns-clause-load c files name final e)

pub returns-clause-load_names : goal.returns-clause-load_names
returns-clause-load_names c = load-named c.printed_law.ensures.symbols

pub returns-clause-check_names : goal.returns-clause-check_names
returns-clause-check_names c = check-named c.printed_law.ensures.symbols
