use Rattle.std.proofs.Common.{◌≡◌, ◌≤◌, length, None, Some, true, false, rules, sym, ap, ◌∙◌, arith}
use Rattle.std.specs.Prelude.{is_some}
use Rattle.eo_term.specs.Growth.{tree_in}
use Rattle.eo_cert.specs.Stated.{Stated, term_at, context_at, signature, with_context}
use Rattle.eo_cert.specs.Uses.{is_formula, inside}
use Rattle.eo_stated.specs.Checking.{stated_of, context_of}
use Rattle.eo_stated.proofs.ContextLines.{context_no_term, context_no_context, context_refused, context_done}
use Rattle.eo_stated.proofs.Nested.{contexts_length}
use Rattle.eo_stated.proofs.checker.Checker.state_context.Goals as goal

pub push_context-requires-clause-outer : goal.push_context-requires-clause-outer
push_context-requires-clause-outer c =
    let old = c.args.self.now in
    let mid = c.is_formula.new.self in
    let within : c.args.context ≤ length old.contexts.items = search rules in
    let same = ap (λ (st : Stated). length st.contexts) c.in_ok-is_formula.ensures.keeps.same in
    omega (arith, within, same, contexts_length mid.table.trees mid.contexts.items, contexts_length old.table.trees old.contexts.items)

pub returns-in_default-clause-does : goal.returns-in_default-clause-does
returns-in_default-clause-does c =
    let st = stated_of c.args.self.now in
    let e : None ≡ term_at st c.args.term = search rules in
    context_no_term st c.args.context c.args.term e

pub returns-then-not-has_context-clause-does : goal.returns-then-not-has_context-clause-does
returns-then-not-has_context-clause-does c =
    let st = stated_of c.args.self.now in
    let h : is_some (context_at st c.args.context) ≡ false = search rules in
    context_no_context st c.args.context c.args.term h

pub returns-then-not-branch-clause-does : goal.returns-then-not-branch-clause-does
returns-then-not-branch-clause-does c =
    let st = stated_of c.args.self.now in
    let t = tree_in c.args.self.now.table c.in-Some.id in
    let e : Some t ≡ term_at st c.args.term = search rules in
    let there : is_some (context_at st c.args.context) ≡ true = search rules in
    let h : is_formula (signature st) t ≡ false = search rules in
    context_refused st c.args.context c.args.term t e there h

pub returns-clause-does : goal.returns-clause-does
returns-clause-does c =
    let st = stated_of c.args.self.now in
    let keeps = c.in_ok-is_formula.ensures.keeps in
    let t = tree_in c.args.self.now.table c.in-Some.id in
    let e : Some t ≡ term_at st c.args.term = search rules in
    let there : is_some (context_at st c.args.context) ≡ true = search rules in
    let h : is_formula (signature st) t ≡ true = search rules in
    context_done st c.args.context c.args.term t e there h
    ∙ ap Some ((λ i. with_context (sym keeps.same i) (inside c.args.context (context_of (sym keeps.same i).contexts c.args.context) (sym (keeps.grows.now.tree c.in-Some.id c.in-Some.ensures.live) i)))
    ∙ sym c.in_ok-push_context.ensures.does)
