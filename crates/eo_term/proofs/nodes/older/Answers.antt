use Rattle.std.proofs.Common.{◌≡◌, ◌-◌, slice_get, Some, sym, ap, ◌∙◌, arith}
use Rattle.std.specs.Option.{option_map}
use Rattle.eo_term.proofs.Numbers.{cut_here, newer_before}
use Rattle.eo_term.proofs.nodes.older.Goals as goal

pub returns-then-age-terms : goal.returns-then-age-terms
returns-then-age-terms g c =
    let at : slice_get c.args.numbers.now.entries (c.loop-count.count - 1) ≡ Some (c.unwrap.result.0.now, c.unwrap.result.1.now) = sym c.get_index.ensures.entry ∙ ap (option_map (λ p. (p.0.now, p.1.now))) c.unwrap.ensures in
    cut_here c.args.numbers.now.entries c.args.terms c.loop-count.count c.unwrap.result.0.now c.unwrap.result.1.now c.loop-count.invariant.within c.loop-count-test.true at c.loop-count.invariant.newer c.if-age-terms.true

pub loop-count-preserved : goal.loop-count-preserved
loop-count-preserved g c =
    let at : slice_get c.args.numbers.now.entries (c.loop-count.count - 1) ≡ Some (c.unwrap.result.0.now, c.unwrap.result.1.now) = sym c.get_index.ensures.entry ∙ ap (option_map (λ p. (p.0.now, p.1.now))) c.unwrap.ensures in
    record {
      within = omega (arith, c.loop-count.invariant.within);
      newer = newer_before c.args.numbers.now.entries c.args.terms c.loop-count.count c.unwrap.result.0.now c.unwrap.result.1.now c.loop-count.invariant.within c.loop-count-test.true at c.loop-count.invariant.newer c.if-age-terms.false;
    }
