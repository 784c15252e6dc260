-- A node collects the values of its parts.
use Rattle.std.specs.Prelude.{◌≡◌, ℕ, ◌+◌, ◌-◌, ◌<◌, ◌≤◌, All, false, List, [], ◌∷◌, ◌++◌, length, map, take, drop, reverse, Some, refl}
use Rattle.std.proofs.Common.{get_or, length-drop, sym, ◌∙◌, ap, subst, arith}
use Rattle.std.proofs.Math.Path.{transport}
use Rattle.std.proofs.Math.Seq.{take-length}
use Rattle.std.proofs.lemmas.List.{drop_all, drop-append-le, length-append}
use Rattle.std.proofs.lemmas.List.Elements.{All-nil, All-weaker}
use Rattle.eo_base.specs.Limits.{calls_limit}
use Rattle.eo_term.specs.Arguments.{argument_at, count_of}
use Rattle.eo_term.specs.Terms.{Terms, tree_at, trees_at}
use Rattle.eo_term.proofs.Sound.{length-trees_at, argument_at-trees_at}
use Rattle.eo_sig.specs.Growth.{GrowsUnder}
use Rattle.eo_sig.specs.Reading.{Kept, signature}
use Rattle.eo_sig.specs.Signature.{Signature}
use Rattle.eo_type.specs.Known.{Fit}
use Rattle.eo_stack.specs.Evaluation.{Begun, call_within}
use Rattle.eo_stack.specs.Machine.{parts_of, made_of, rest_with, Comes, Frame, Stacked, evals, finish}
use Rattle.eo_stack.specs.Reading.{is_par, begun, waiting, IsWhole}
use Rattle.eo_eval.specs.Ready.{Stands, Held, Ready, Gathering, waiting_for, outcome_from, outcome_of_parts, IsNextPart}
use Rattle.eo_stack.specs.Scopes.{entered}
use Rattle.eo_eval.specs.declared.machine.Machine.{Machine}
use Rattle.eo_stack.specs.declared.stack.Control.TheVariants as next
use Rattle.eo_eval.proofs.Grown.{entered_grown, held_grown, now_stands, same_begun, trees_grown, waiting_same}
use Rattle.eo_eval.proofs.Same.{held_same, stands_same}
use Rattle.eo_eval.proofs.Waiting.{comes_whole, rest}

-- the values from a place on, as a slice has them
pub values_from : (base : ℕ) (vs xs : List ℕ) → xs ≡ vs → take (length xs - base) (drop base xs) ≡ drop base vs
values_from base vs xs same = ap (λ n. take n (drop base xs)) (sym (length-drop base xs)) ∙ (take-length (drop base xs) ∙ ap (drop base) same)

-- the part after those with values, among the parts of the node
pub next_is : (t : Terms) (e : Machine) (i base n p : ℕ) (xs : List ℕ) → trees_at t.trees xs ≡ parts_of (tree_at t.trees i) → All (λ j. j < length t.trees) xs → n ≡ length (drop base e.stack.values.items) → n < length xs → p ≡ get_or xs n p → IsNextPart t e i base (Some p)
next_is t e i base n p xs parts live at more is =
    let few : n < count_of (parts_of (tree_at t.trees i)) = omega (arith, more, length-trees_at t.trees xs, ap count_of parts) in (
      subst (λ q. q < length t.trees) (sym is) (live n p more),
      (
        subst (λ m. m < count_of (parts_of (tree_at t.trees i))) at few,
        ap (tree_at t.trees) is ∙ (sym (argument_at-trees_at t.trees xs n p more) ∙ (ap (λ us. argument_at us n) parts ∙ ap (argument_at (parts_of (tree_at t.trees i))) at)),
      ),
    )

-- and there is one more of them
pub more_at : (e : Machine) (base n v : ℕ) (us : List ℕ) → base ≤ length e.stack.values.items → us ≡ e.stack.values.items ++ v ∷ [] → n ≡ length (drop base e.stack.values.items) → n + 1 ≡ length (drop base us)
more_at e base n v us within more at =
    let vs = e.stack.values.items in
    let own : drop base us ≡ drop base vs ++ v ∷ [] = ap (drop base) more ∙ drop-append-le base vs (v ∷ []) within in
    omega (arith, at, ap length own, length-append (drop base vs) (v ∷ []))

-- What is right for a node, by the values that are collected before it and for it.
module _ (k : Kept) (t : Terms) (typed : List (ℕ × ℕ)) (e later : Machine) (i base deepest : ℕ) (front back : List ℕ)
    (fs : later.stack.frames.items ≡ e.stack.frames.items) (before : take base later.stack.values.items ≡ front) (own : drop base later.stack.values.items ≡ back) (scope : later.scope ≡ e.scope) (cs : later.calls.entries ≡ e.calls.entries) where
  abbrev S : Signature
  S = signature t.trees k

  abbrev b : Begun
  b = begun t.trees e.calls.entries

  abbrev ws : List Frame
  ws = waiting t.trees b e.scope (reverse e.stack.frames.items) front

  pub gathering_of : later.terms.entries ≡ e.terms.entries → later.locals.entries ≡ e.locals.entries → Held k t typed e → i < length t.trees → is_par (tree_at t.trees i) ≡ false → base ≤ length later.stack.values.items → length back ≤ count_of (parts_of (tree_at t.trees i)) → All (λ j. j < length t.trees) back
      → Stands S calls_limit t.trees b e.scope e.stack.frames.items front next.Deep → Stacked S calls_limit b ws (evals S calls_limit (entered t.trees e.scope i)) → Comes (evals S calls_limit (entered t.trees e.scope i)) (rest S calls_limit b ws (entered t.trees e.scope i) (map (tree_at t.trees) back)) deepest b
      → Gathering k t typed later i base deepest
  gathering_of es ls held live node within count values stands waits comes =
      let f = sym fs in
      let v = sym before in
      let o = sym own in
      let s = sym scope in
      let c = sym cs in
      record {
        held = held_same k t typed e later cs es ls held;
        live = live;
        node = node;
        within = within;
        count = subst (λ xs. length xs ≤ count_of (parts_of (tree_at t.trees i))) o count;
        values_live = subst (All (λ j. j < length t.trees)) o values;
        stands = stands_same k t typed e later cs e.stack.frames.items later.stack.frames.items front (take base later.stack.values.items) next.Deep fs before scope stands;
        waits = transport (λ j. Stacked S calls_limit (begun t.trees (c j)) (waiting t.trees (begun t.trees (c j)) (s j) (reverse (f j)) (v j)) (evals S calls_limit (entered t.trees (s j) i))) waits;
        comes = transport (λ j. Comes (evals S calls_limit (entered t.trees (s j) i)) (λ l. rest_with S (call_within S calls_limit l) (entered t.trees (s j) i) (map (tree_at t.trees) (o j))) deepest (begun t.trees (c j))) comes;
      }

  pub rest_told : (left : ℕ) → outcome_of_parts k t later i base left ≡ finish S calls_limit ws (rest S calls_limit b ws (entered t.trees e.scope i) (map (tree_at t.trees) back) left b)
  rest_told left = λ j. finish S calls_limit (waiting t.trees (begun t.trees (cs j)) (scope j) (reverse (fs j)) (before j)) (rest_with S (call_within S calls_limit left) (entered t.trees (scope j) i) (map (tree_at t.trees) (own j)) (begun t.trees (cs j)))

-- A node begins to collect.
module _ (k : Kept) (t : Terms) (typed : List (ℕ × ℕ)) (e : Machine) (i base : ℕ) (at : base ≡ length e.stack.values.items) (whole : IsWhole (entered t.trees e.scope i)) where
  abbrev vs : List ℕ
  vs = e.stack.values.items

  all : take base vs ≡ vs
  all = ap (λ n. take n vs) at ∙ take-length vs

  none : drop base vs ≡ []
  none = drop_all base vs (omega (arith, at))

  pub gathering_begins : (left : ℕ) → is_par (tree_at t.trees i) ≡ false → Ready k t typed e (next.Eval i left) → Gathering k t typed e i base 0
  gathering_begins left node r =
      let s = r.stands in
      gathering_of k t typed e e i base 0 vs [] refl all none refl refl refl refl r.held s.now_live node (omega (arith, at)) (omega arith) (All-nil (λ j. j < length t.trees))
      (record { now_live = tt; frames_live = s.frames_live; placed = s.placed; values_live = s.values_live; slots_live = s.slots_live; scoped = s.scoped; based = s.based; waits = tt })
      s.waits (comes_whole (signature t.trees k) calls_limit (begun t.trees e.calls.entries) [] (entered t.trees e.scope i) whole)

  pub begins_told : (left : ℕ) → outcome_of_parts k t e i base left ≡ outcome_from k t e (next.Eval i left)
  begins_told left =
      let S = signature t.trees k in
      rest_told k t typed e e i base 0 vs [] refl all none refl refl left
      ∙ ap (finish S calls_limit (waiting t.trees (begun t.trees e.calls.entries) e.scope (reverse e.stack.frames.items) vs)) (sym (whole S (call_within S calls_limit left) (begun t.trees e.calls.entries)))

-- The same over a table that has grown.
module _ (k : Kept) (old new : Terms) (u : GrowsUnder k old new) (e : Machine) (typed later : List (ℕ × ℕ)) (fit : Fit k new later) (i base deepest : ℕ) (h : Gathering k old typed e i base deepest) where
  abbrev own : List ℕ
  own = drop base e.stack.values.items

  sig_same : signature new.trees k ≡ signature old.trees k
  sig_same = u.stays.signature

  begun_same : begun new.trees e.calls.entries ≡ begun old.trees e.calls.entries
  begun_same = same_begun k old new u e typed later fit h.held

  tree_same : tree_at new.trees i ≡ tree_at old.trees i
  tree_same = u.table.now.tree i h.live

  node_same : entered new.trees e.scope i ≡ entered old.trees e.scope i
  node_same = entered_grown old new u.table.now e.scope h.stands.slots_live i h.live

  values_same : map (tree_at new.trees) own ≡ map (tree_at old.trees) own
  values_same = trees_grown old new u.table.now own h.values_live

  waiting_grown_same : waiting_for new e base ≡ waiting_for old e base
  waiting_grown_same = waiting_same k old new u e typed later fit e.stack.frames.items (take base e.stack.values.items) next.Deep h.held h.stands

  pub gathering_grown : Gathering k new later e i base deepest
  gathering_grown =
      let S = sym sig_same in
      let b = sym begun_same in
      let t = sym tree_same in
      let n = sym node_same in
      let us = sym values_same in
      let ws = sym waiting_grown_same in
      record {
        held = held_grown k old new u e typed later fit h.held;
        live = omega (arith, h.live, u.table.now.more_trees);
        node = ap is_par tree_same ∙ h.node;
        within = h.within;
        count = subst (λ y. length own ≤ count_of (parts_of y)) t h.count;
        values_live = All-weaker (λ j. j < length old.trees) (λ j. j < length new.trees) (λ j m. omega (arith, m, u.table.now.more_trees)) own h.values_live;
        stands = now_stands k old new u e typed later fit e.stack.frames.items (take base e.stack.values.items) next.Deep h.held h.stands;
        waits = transport (λ j. Stacked (S j) calls_limit (b j) (ws j) (evals (S j) calls_limit (n j))) h.waits;
        comes = transport (λ j. Comes (evals (S j) calls_limit (n j)) (λ l. rest_with (S j) (call_within (S j) calls_limit l) (n j) (us j)) deepest (b j)) h.comes;
      }

  pub rest_told_grown : (left : ℕ) → outcome_of_parts k new e i base left ≡ outcome_of_parts k old e i base left
  rest_told_grown left =
      let S = sig_same in
      let b = begun_same in
      let n = node_same in
      let us = values_same in
      let ws = waiting_grown_same in
      λ j. finish (S j) calls_limit (ws j) (rest_with (S j) (call_within (S j) calls_limit left) (n j) (us j) (b j))

  pub made_grown : made_of (signature old.trees k) (tree_at old.trees i) (map (tree_at old.trees) own) ≡ made_of (signature new.trees k) (tree_at new.trees i) (map (tree_at new.trees) own)
  made_grown =
      let S = sym sig_same in
      let t = sym tree_same in
      let us = sym values_same in
      λ j. made_of (S j) (t j) (us j)
