use Rattle.std.proofs.Common.{◌≡◌, None, Some, true, false, rules, sym, ap, ◌∙◌}
use Rattle.std.specs.Prelude.{is_some}
use Rattle.eo_term.specs.Growth.{tree_in}
use Rattle.eo_cert.specs.Stated.{term_at, context_at, is_in_force}
use Rattle.eo_stated.specs.Checking.{stated_of, context_of}
use Rattle.eo_stated.proofs.ContextLines.{cited_no_term, cited_no_context, cited_refused, cited_done}
use Rattle.eo_stated.proofs.checker.Checker.state_citation.Goals as goal

pub returns-in_default-clause-does : goal.returns-in_default-clause-does
returns-in_default-clause-does c =
    let st = stated_of c.args.self.now in
    let e : None ≡ term_at st c.args.term = search rules in
    cited_no_term st c.args.context c.args.term e

pub returns-then-not-has_context-clause-does : goal.returns-then-not-has_context-clause-does
returns-then-not-has_context-clause-does c =
    let st = stated_of c.args.self.now in
    let h : is_some (context_at st c.args.context) ≡ false = search rules in
    cited_no_context st c.args.context c.args.term h

pub returns-then-not-is_in_force-clause-does : goal.returns-then-not-is_in_force-clause-does
returns-then-not-is_in_force-clause-does c =
    let st = stated_of c.args.self.now in
    let t = tree_in c.args.self.now.table c.in-Some.id in
    let e : Some t ≡ term_at st c.args.term = search rules in
    let there : is_some (context_at st c.args.context) ≡ true = search rules in
    let h : is_in_force st (context_of st.contexts c.args.context) t ≡ false = search rules in
    cited_refused st c.args.context c.args.term t e there h

pub returns-clause-does : goal.returns-clause-does
returns-clause-does c =
    let st = stated_of c.args.self.now in
    let t = tree_in c.args.self.now.table c.in-Some.id in
    let e : Some t ≡ term_at st c.args.term = search rules in
    let there : is_some (context_at st c.args.context) ≡ true = search rules in
    let h : is_in_force st (context_of st.contexts c.args.context) t ≡ true = search rules in
    cited_done st c.args.context c.args.term t e there h ∙ ap Some (sym c.in_ok-push_derivation.ensures.does)
