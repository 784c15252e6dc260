use Rattle.std.proofs.Common.{◌≡◌, ℕ, ◌<◌, length, take, refl, sym, ◌∙◌, subst, arith, rules, slice_index_or}
use Rattle.std.proofs.lemmas.List.{get_or_default}
use Rattle.std.proofs.lemmas.List.Filters.{FiltersInPlace-more_swap, FiltersInPlace-more_no}
use Rattle.std.specs.List.{SwappedAt}
use Rattle.eo_type.specs.Known.{is_before}
use Rattle.eo_type.proofs.Greatest.{filter_all, swapped}
use Rattle.eo_type.proofs.known.gather.Goals as goal
use Rattle.eo_type.proofs.known.gather.Goals.{then-is_old, else-is_old}

pub loop-at-init : goal.loop-at-init
loop-at-init c = record {
  filters = record {
    front = sym (filter_all (is_before c.args.terms) (take c.args.start c.args.types.now.entries) c.requires.before);
    rest = refl;
    behind = omega arith;
    within = c.requires.within;
    long = refl;
  };
  from = omega arith;
}

pub loop-at-preserved : goal.loop-at-preserved
loop-at-preserved c =
    let es = c.loop-at.types.entries in
    let at = c.loop-at.at in
    let here : ℕ × ℕ = slice_index_or es at (0, 0) in
    let lt : at < length es = search rules in
    let read : here ≡ slice_index_or es at here = get_or_default es at (0, 0) here lt in
    elim c.if-is_old.branch [
      | then-is_old w ↦ rw (w.types-is, w.end-is) record {
        filters = FiltersInPlace-more_swap c.loop-at.invariant.filters lt (sym c.is_old.ensures ∙ w.if-is_old.true) read
            (subst (λ fs. SwappedAt es fs c.loop-at.end at) (sym w.swap_indices.ensures.entries) (swapped es c.loop-at.end at (omega (arith, lt, c.loop-at.invariant.filters.behind)) lt));
        from = omega (arith, c.loop-at.invariant.from);
      }
      | else-is_old w ↦ rw (w.types-is, w.end-is) record {
        filters = FiltersInPlace-more_no c.loop-at.invariant.filters lt (sym c.is_old.ensures ∙ w.if-is_old.false) read;
        from = c.loop-at.invariant.from;
      }
    ]
