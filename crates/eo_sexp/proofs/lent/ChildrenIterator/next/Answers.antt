use Rattle.std.proofs.Common.{◌≡◌, ℕ, zero, suc, ◌-◌, ◌<◌, ◌≤◌, List, [], ◌∷◌, length, length-drop, take, drop, ap, sym, ◌∙◌, arith}
use Rattle.eo_sexp.specs.Sexp.{Sexp}
use Rattle.eo_sexp.specs.declared.lent.Parts.{Parts}
use Rattle.eo_sexp.specs.Nodes.{trees_at, first_of, IsSexp, AreSexps}
use Rattle.eo_sexp.proofs.Parts.{some_node}
use Rattle.eo_sexp.proofs.lent.ChildrenIterator.next.Goals as goal

-- where some are left, the first of them begins at this place
first-sexp : (p : Parts) (at left : ℕ) → AreSexps p at left → 0 < left → IsSexp p at
first-sexp p at left h some = record {
  few = h.few;
  some = omega (arith, some_node p.bytes.items (drop at p.nodes.items) (omega (arith, some, h.many)), length-drop at p.nodes.items);
  linked = h.linked;
}

take-first : (n : ℕ) (ss : List Sexp) → 0 < n → n ≤ length ss → take n ss ≡ first_of ss ∷ take (n - 1) (drop 1 ss)
take-first zero ss some many = absurd (omega (arith, some))
take-first (suc n) [] some many = absurd (omega (arith, many))
take-first (suc n) (s ∷ ss) some many = ap (λ k. s ∷ take k ss) (omega arith)

pub returns-then-self-eq0-clause-steps : goal.returns-then-self-eq0-clause-steps
returns-then-self-eq0-clause-steps c =
    let none : c.args.self.now ≡ [] = sym c.self.view_is ∙ ap (λ n. take n (trees_at c.self.inside.parts.now c.self.inside.at)) c.if-self-eq0.true in
    (none, none)

pub behind-self-inside-requires : goal.behind-self-inside-requires
behind-self-inside-requires c = first-sexp c.self.inside.parts.now c.self.inside.at c.self.inside.left c.self.invariant (omega (arith, c.if-self-eq0.false))

pub invariant_of-result : goal.invariant_of-result
invariant_of-result c = first-sexp c.self.inside.parts.now c.self.inside.at c.self.inside.left c.self.invariant (omega (arith, c.if-self-eq0.false))

pub invariant_of-self : goal.invariant_of-self
invariant_of-self c = record {
  few = c.self.invariant.few;
  linked = c.behind-self-inside.ensures.linked;
  many = omega (arith, c.self.invariant.many, ap length c.behind-self-inside.ensures.trees, length-drop 1 (trees_at c.self.inside.parts.now c.self.inside.at));
}

pub returns-clause-steps : goal.returns-clause-steps
returns-clause-steps c =
    let all = trees_at c.self.inside.parts.now c.self.inside.at in
    sym c.self.view_is ∙ take-first c.self.inside.left all (omega (arith, c.if-self-eq0.false)) c.self.invariant.many
    ∙ ap (λ l. first_of all ∷ take (c.self.inside.left - 1) l) (sym c.behind-self-inside.ensures.trees)
