use Rattle.std.proofs.Common.{Some, sym, ap, ◌∙◌}
use Rattle.eo_term.specs.Growth.{tree_in}
use Rattle.eo_lines.specs.Reading as parsed
use Rattle.eo_cert.specs.Stated.{with_term}
use Rattle.eo_stated.specs.Checking.{stated_of}
use Rattle.eo_stated.proofs.TermLines.{line_refused, line_states}
use Rattle.eo_stated.proofs.checker.Checker.state_term.Goals as goal

pub returns-in_ok-push_term-in-Ok-clause-does : goal.returns-in_ok-push_term-in-Ok-clause-does
returns-in_ok-push_term-in-Ok-clause-does c =
    let u = tree_in c.build_term.new.self.table c.in-Ok.id in
    line_states (stated_of c.args.self.now) (parsed.term_line c.args.line.now) u c.in-Ok.ensures.gives.1
    ∙ (ap (λ st. Some (with_term st u)) (sym c.in-Ok.ensures.keeps.same) ∙ ap Some (sym c.in_ok-push_term-in-Ok.ensures.does))

pub returns-in-Err-clause-does : goal.returns-in-Err-clause-does
returns-in-Err-clause-does c =
    line_refused c.build_term.new.self.table c.in-Err.e (stated_of c.args.self.now) (parsed.term_line c.args.line.now) c.build_term.new.self c.in-Err.ensures.gives
