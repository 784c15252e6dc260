use Rattle.std.proofs.Common.{◌≡◌, ◌<◌, ◌∙◌, All, sym, ap, subst, drop, map, length, reverse, false}
use Rattle.eo_base.specs.Limits.{calls_limit}
use Rattle.eo_term.specs.Arguments.{count_of}
use Rattle.eo_term.specs.Terms.{tree_at}
use Rattle.eo_sig.specs.Reading.{signature}
use Rattle.eo_stack.specs.Machine.{is_call, made_of, parts_of}
use Rattle.eo_stack.specs.Reading.{begun, outcome_in}
use Rattle.eo_eval.proofs.Gathered.{gathered_keeps, gathered_told, gathered_ready}
use Rattle.eo_eval.proofs.Gathering.{gathering_grown, made_grown, rest_told_grown, values_from}
use Rattle.eo_eval.proofs.Same.{scope_of}
use Rattle.eo_eval.proofs.machine.Machine.make_gathered.Goals as goal

pub returns-clause-goes : goal.returns-clause-goes
returns-clause-goes c =
    let k = c.args.sig.now in
    let old = c.args.table.now in
    let new = c.apply_node.new.table in
    let u = c.apply_node.ensures.extends.grows in
    let e = c.args.self.now in
    let id = c.args.id in
    let base = c.args.base in
    let typed = c.args.types.now in
    let h = c.requires.gathering in
    let fit = c.apply_node.ensures.extends.fits.fit in
    let g = gathering_grown k old new u e typed c.apply_node.new.types fit id base c.args.deepest h in
    let tree : tree_at new.trees id ≡ tree_at old.trees id = u.table.now.tree id h.live in
    let full : length (drop base e.stack.values.items) ≡ count_of (parts_of (tree_at new.trees id)) = c.requires.all ∙ ap (λ t. count_of (parts_of t)) (sym tree) in
    let kind : is_call (tree_at new.trees id) ≡ false = ap is_call tree ∙ c.requires.kind in
    let o = c.in_ok-outcome.outcome in
    let is : outcome_in new.trees o ≡ made_of (signature new.trees k) (tree_at new.trees id) (map (tree_at new.trees) (drop base e.stack.values.items)) =
    c.in_ok-outcome.ensures.outcome.outcome
    ∙ (ap (λ xs. made_of (signature old.trees k) (tree_at old.trees id) (map (tree_at old.trees) xs)) (values_from base e.stack.values.items c.as_slice.result.now c.as_slice.ensures.value)
    ∙ made_grown k old new u e typed c.apply_node.new.types fit id base c.args.deepest h) in
    let fs = c.in_ok-keep.ensures.work.frames ∙ c.cut.ensures.frames in
    let vs = c.in_ok-keep.ensures.work.values ∙ c.cut.ensures.values in
    let S = signature new.trees k in
    let keeps = gathered_keeps k new c.apply_node.new.types e id base c.args.deepest g full kind o c.in_ok-outcome.ensures.outcome.live is in
    record {
      told = gathered_told k new c.apply_node.new.types e id base c.args.deepest g full kind o c.in_ok-outcome.ensures.outcome.live is c.keep.new.self c.control_after.result fs vs c.in_ok-keep.ensures.work.scope c.in_ok-keep.ensures.calls c.control_after.ensures c.args.left
          ∙ rest_told_grown k old new u e typed c.apply_node.new.types fit id base c.args.deepest h c.args.left;
      ready = gathered_ready k new c.apply_node.new.types e id base c.args.deepest g full kind o c.in_ok-outcome.ensures.outcome.live is c.keep.new.self c.control_after.result fs vs c.in_ok-keep.ensures.work.scope c.in_ok-keep.ensures.calls c.control_after.ensures
          (c.in_ok-keep.ensures.remembers S calls_limit g.held.remembers (scope_of S new.trees (begun new.trees e.calls.entries) e.scope (reverse e.stack.frames.items) g.stands.scoped) keeps);
    }

pub apply_node-requires : goal.apply_node-requires
apply_node-requires c =
    let t = c.args.table.now in
    let h = c.requires.gathering in
    let vs = values_from c.args.base c.args.self.now.stack.values.items c.as_slice.result.now c.as_slice.ensures.value in
    record {
      live = h.live;
      values = subst (All (λ i. i < length t.trees)) (sym vs) h.values_live;
      count = ap length vs ∙ c.requires.all;
      fits = h.held.fit;
    }
