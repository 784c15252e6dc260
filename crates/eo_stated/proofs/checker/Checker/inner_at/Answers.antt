use Rattle.std.proofs.Common.{◌≡◌, ◌<◌, ◌+◌, ◌-◌, length, get_or, sym, ap, ◌∙◌, arith, rules, subst}
use Rattle.std.proofs.lemmas.List.Elements.{All-get_or}
use Rattle.eo_term.specs.Terms.{tree_at}
use Rattle.eo_cert.specs.Uses.{inside}
use Rattle.eo_stated.specs.declared.checker.Context.{Context}
use Rattle.eo_stated.specs.Checking.{ContextBelow, context_of, read_contexts}
use Rattle.eo_stated.proofs.Nested.{contexts_at, nested_outer}
use Rattle.eo_stated.proofs.checker.Checker.inner_at.Goals as goal

pub returns-clause-inside : goal.returns-clause-inside
returns-clause-inside c =
    let held = c.args.self.now in
    let ts = held.table.trees in
    let cs = held.contexts.items in
    let inner = c.index-inner.result.now in
    let n = c.args.at - 1 in
    let is : inner ≡ get_or cs n inner = search rules in
    let within : n < length cs = omega (arith, c.requires.inner, c.requires.context) in
    let next : c.args.at ≡ 1 + n = omega (arith, c.requires.inner) in
    ap (context_of (read_contexts ts cs)) next
    ∙ (contexts_at ts cs n inner within c.requires.held.nested
    ∙ ap (λ (x : Context). inside x.outer (context_of (read_contexts ts cs) x.outer) (tree_at ts x.assumed)) (sym is))

pub returns-clause-outer : goal.returns-clause-outer
returns-clause-outer c =
    let cs = c.args.self.now.contexts.items in
    let inner = c.index-inner.result.now in
    let n = c.args.at - 1 in
    let is : inner ≡ get_or cs n inner = search rules in
    let within : n < length cs = omega (arith, c.requires.inner, c.requires.context) in
    let same : inner.outer ≡ (get_or cs n inner).outer = ap (λ (x : Context). x.outer) is in
    omega (arith, same, nested_outer cs n inner within c.requires.held.nested, c.requires.inner)

pub returns-clause-live : goal.returns-clause-live
returns-clause-live c =
    let held = c.args.self.now in
    let cs = held.contexts.items in
    let inner = c.index-inner.result.now in
    let n = c.args.at - 1 in
    let is : inner ≡ get_or cs n inner = search rules in
    let within : n < length cs = omega (arith, c.requires.inner, c.requires.context) in
    let below = ContextBelow (length held.table.trees) in
    subst below (sym is) (All-get_or below cs n inner within c.requires.held.contexts)
