-- A node whose first parts have values goes on: it takes the value of the next part, waits for it, or ends or calls a program when it has them all.
use Rattle.std.specs.Prelude.{◌≡◌, ℕ, ◌<◌, All, false, List, [], ◌∷◌, ◌++◌, length, map, take, drop, reverse, Some}
use Rattle.std.proofs.Common.{sym, ◌∙◌, ap, subst, arith}
use Rattle.std.proofs.Math.Path.{transport}
use Rattle.std.proofs.lemmas.List.{length-append, length-map, map-append, reverse-append, take-append-drop, take-append-le, drop-append-le}
use Rattle.std.proofs.lemmas.List.Elements.{All-append, All-push}
use Rattle.eo_base.specs.Limits.{calls_limit}
use Rattle.eo_term.specs.Arguments.{arguments_of, argument_at, count_of}
use Rattle.eo_term.specs.declared.OpCode.{OpCode}
use Rattle.eo_term.specs.Terms.{Terms, tree_at}
use Rattle.eo_term.specs.Tree.{Tree, Op, is_tall}
use Rattle.eo_sig.specs.Reading.{Kept, signature}
use Rattle.eo_sig.specs.Signature.{Signature}
use Rattle.eo_pattern.specs.Matching.{put}
use Rattle.eo_stack.specs.Evaluation.{Value, Call, Begun, call_within}
use Rattle.eo_stack.specs.Machine.{parts_of, is_call, made, made_of, Tail, Comes, Again, Frame, OfNode, Stacked, evals, calls, finish}
use Rattle.eo_stack.specs.Reading.{begun, waiting, told, IsFrame, IsPlaced, Remembers, Scoped, Waits, outcome_in, OutcomeBelow, control_of}
use Rattle.eo_eval.specs.Ready.{Based, Stands, Ready, Keeps, Calling, Gathering, IsNextPart, waiting_for, waiting_in, outcome_from, outcome_of_parts, told_call}
use Rattle.eo_stack.specs.Scopes.{standing, entered, IsValueSlot}
use Rattle.eo_stack.specs.declared.calls.CallKey.{CallKey}
use Rattle.eo_eval.specs.declared.machine.Machine.{Machine}
use Rattle.eo_stack.specs.declared.stack.Frame as code_frame
use Rattle.eo_stack.specs.declared.stack.Frame.TheVariants as frame
use Rattle.eo_stack.specs.declared.stack.CallMemo as code_memo
use Rattle.eo_stack.specs.declared.stack.Control as code_control
use Rattle.eo_stack.specs.declared.stack.Control.TheVariants as next
use Rattle.eo_stack.specs.declared.Outcome as code_outcome
use Rattle.eo_eval.proofs.Entered.{call_put, made_put, entered_count, entered_part}
use Rattle.eo_eval.proofs.Itself.{value_itself}
use Rattle.eo_stack.proofs.OnValues.{made_is}
use Rattle.eo_eval.proofs.Popped.{current_ended, live_ended, waits_ended}
use Rattle.eo_eval.proofs.Same.{held_same, stands_same}
use Rattle.eo_eval.proofs.Steps.{no_part}
use Rattle.eo_eval.proofs.Waiting.{comes_more, comes_same, next_waits, rest, rest_more, waits_handed, waits_part}
use Rattle.eo_eval.proofs.Gathering.{gathering_of, rest_told}

-- One goes on.
module _ (k : Kept) (t : Terms) (typed : List (ℕ × ℕ)) (e : Machine) (i base deepest : ℕ) (h : Gathering k t typed e i base deepest) where
  abbrev S : Signature
  S = signature t.trees k

  abbrev b : Begun
  b = begun t.trees e.calls.entries

  abbrev own : List ℕ
  own = drop base e.stack.values.items

  abbrev us : List Tree
  us = map (tree_at t.trees) own

  abbrev node : Tree
  node = entered t.trees e.scope i

  abbrev ws : List Frame
  ws = waiting_for t e base

  counted : length us ≡ length own
  counted = length-map own (tree_at t.trees)

  -- the next part, in what is evaluated
  more_is : length own < count_of (parts_of (tree_at t.trees i)) → length us < count_of (parts_of node)
  more_is n = omega (arith, n, counted, entered_count t.trees e.scope i h.node)

  part_is : (p : ℕ) → length own < count_of (parts_of (tree_at t.trees i)) → tree_at t.trees p ≡ argument_at (parts_of (tree_at t.trees i)) (length own) → entered t.trees e.scope p ≡ argument_at (parts_of node) (length us)
  part_is p n is = ap (put (standing t.trees e.scope)) is ∙ (sym (entered_part t.trees e.scope i (length own) n) ∙ ap (argument_at (parts_of node)) (sym counted))

  -- One whose next part has a value at once.
  module _ (later : Machine) (p v : ℕ) (part : IsNextPart t e i base (Some p)) (tree : entered t.trees e.scope p ≡ tree_at t.trees v) (value : IsValueSlot t.trees (Some v)) (low : is_tall (tree_at t.trees v) ≡ false)
      (fs : later.stack.frames.items ≡ e.stack.frames.items) (vs : later.stack.values.items ≡ e.stack.values.items ++ v ∷ []) (scope : later.scope ≡ e.scope) (cs : later.calls.entries ≡ e.calls.entries) where
    before_more : take base later.stack.values.items ≡ take base e.stack.values.items
    before_more = ap (take base) vs ∙ take-append-le base e.stack.values.items (v ∷ []) h.within

    own_more : drop base later.stack.values.items ≡ own ++ v ∷ []
    own_more = ap (drop base) vs ∙ drop-append-le base e.stack.values.items (v ∷ []) h.within

    read_more : map (tree_at t.trees) (own ++ v ∷ []) ≡ us ++ tree_at t.trees v ∷ []
    read_more = map-append (tree_at t.trees) own (v ∷ [])

    at_once : (j : ℕ) (c : Begun) → evals S calls_limit (argument_at (parts_of node) (length us)) j c ≡ (Value (tree_at t.trees v), c)
    at_once j c =
        ap (λ u. evals S calls_limit u j c) (sym (part_is p part.1.0 part.1.1) ∙ tree) ∙ value_itself S (call_within S calls_limit j) (tree_at t.trees v) c value.1 low

    pub gathering_more : later.terms.entries ≡ e.terms.entries → later.locals.entries ≡ e.locals.entries → Gathering k t typed later i base deepest
    gathering_more es ls =
        gathering_of k t typed e later i base deepest (take base e.stack.values.items) (own ++ v ∷ []) fs before_more own_more scope cs es ls h.held h.live h.node
        (omega (arith, h.within, ap length vs, length-append e.stack.values.items (v ∷ []))) (omega (arith, part.1.0, length-append own (v ∷ []))) (All-push (λ j. j < length t.trees) own v h.values_live value.0) h.stands h.waits
        (subst (λ xs. Comes (evals S calls_limit node) (rest S calls_limit b ws node xs) deepest b) (sym read_more) (comes_more S calls_limit b ws node us (tree_at t.trees v) deepest h.comes (more_is part.1.0) at_once))

    pub more_told : (left : ℕ) → outcome_of_parts k t later i base left ≡ outcome_of_parts k t e i base left
    more_told left =
        rest_told k t typed e later i base deepest (take base e.stack.values.items) (own ++ v ∷ []) fs before_more own_more scope cs left
        ∙ ap (finish S calls_limit ws) (ap (λ xs. rest S calls_limit b ws node xs left b) read_more ∙ sym (rest_more S calls_limit b ws node us (tree_at t.trees v) (more_is part.1.0) at_once left b))

  -- One that waits for its next part.
  module _ (later : Machine) (p left : ℕ) (part : IsNextPart t e i base (Some p))
      (fs : later.stack.frames.items ≡ e.stack.frames.items ++ frame.Parts i base deepest left ∷ []) (vs : later.stack.values.items ≡ e.stack.values.items) (scope : later.scope ≡ e.scope) (cs : later.calls.entries ≡ e.calls.entries) where
    abbrev f : code_frame.Frame
    f = frame.Parts i base deepest left

    top : f ∷ reverse e.stack.frames.items ≡ reverse (e.stack.frames.items ++ f ∷ [])
    top = sym (reverse-append e.stack.frames.items (f ∷ []))

    pub waits_told : outcome_from k t later (next.Eval p left) ≡ outcome_of_parts k t e i base left
    waits_told =
        (λ j. told S calls_limit t.trees (begun t.trees (cs j)) (scope j) (fs j) (vs j) (next.Eval p left))
        ∙ (ap (λ gs. finish S calls_limit (waiting t.trees b e.scope gs e.stack.values.items) (evals S calls_limit (entered t.trees e.scope p) left b)) (sym top)
        ∙ ap (finish S calls_limit ws) (sym (next_waits S calls_limit b ws node (entered t.trees e.scope p) us (part_is p part.1.0 part.1.1) (more_is part.1.0) left b)))

    pub waits_ready : later.terms.entries ≡ e.terms.entries → later.locals.entries ≡ e.locals.entries → Ready k t typed later (next.Eval p left)
    waits_ready es ls =
        let s = h.stands in
        record {
          held = held_same k t typed e later cs es ls h.held;
          stands = stands_same k t typed e later cs (e.stack.frames.items ++ f ∷ []) later.stack.frames.items e.stack.values.items later.stack.values.items (next.Eval p left) fs vs scope (record {
            now_live = part.0;
            frames_live = All-push (IsFrame t.trees) e.stack.frames.items f s.frames_live h.live;
            placed = All-push (IsPlaced (length b)) e.stack.frames.items f s.placed tt;
            values_live = subst (All (λ j. j < length t.trees)) (take-append-drop base e.stack.values.items) (All-append (λ j. j < length t.trees) (take base e.stack.values.items) own s.values_live h.values_live);
            slots_live = s.slots_live;
            scoped = subst (Scoped S t.trees b e.scope) top s.scoped;
            based = subst (λ gs. Based t.trees gs e.stack.values.items) top ((h.within, part.1.0), s.based);
            waits = subst (λ gs. Waits S calls_limit t.trees b e.scope (waiting t.trees b e.scope gs e.stack.values.items) (next.Eval p left)) top
                (waits_part S calls_limit b ws node (entered t.trees e.scope p) us deepest left h.waits h.comes (part_is p part.1.0 part.1.1) (more_is part.1.0));
          });
        }

  -- One that has the values of all its parts.
  module _ (full : length own ≡ count_of (parts_of (tree_at t.trees i))) where
    none_left : length us ≡ count_of (parts_of node)
    none_left = counted ∙ (full ∙ sym (entered_count t.trees e.scope i h.node))

    -- It is a program call.
    module _ (program : ℕ) (tree : Op (OpCode.Prog program) (arguments_of (tree_at t.trees i)) ≡ tree_at t.trees i) where
      abbrev x : Call
      x = record { program = program; arguments = us }

      calls_it : (j : ℕ) (c : Begun) → rest S calls_limit b ws node us j c ≡ calls S calls_limit x j c
      calls_it j c = no_part S (call_within S calls_limit j) node us c none_left ∙ ap (λ y. made S (call_within S calls_limit j) (put (standing t.trees e.scope) y) us c) (sym tree)

      module _ (later : Machine) (fs : later.stack.frames.items ≡ e.stack.frames.items ++ frame.Tail i deepest ∷ []) (vs : later.stack.values.items ≡ take base e.stack.values.items) (scope : later.scope ≡ e.scope) (cs : later.calls.entries ≡ e.calls.entries) where
        top_handed : frame.Tail i deepest ∷ reverse e.stack.frames.items ≡ reverse (e.stack.frames.items ++ frame.Tail i deepest ∷ [])
        top_handed = sym (reverse-append e.stack.frames.items (frame.Tail i deepest ∷ []))

        waiting_is : waiting_in t later ≡ OfNode node Tail deepest 0 ∷ ws
        waiting_is = (λ j. waiting t.trees (begun t.trees (cs j)) (scope j) (reverse (fs j)) (vs j)) ∙ ap (λ gs. waiting t.trees b e.scope gs (take base e.stack.values.items)) (sym top_handed)

        pub call_told : (left : ℕ) → told_call k t later x left ≡ outcome_of_parts k t e i base left
        call_told left =
            (λ j. finish S calls_limit (waiting_is j) (calls S calls_limit x left (begun t.trees (cs j)))) ∙ ap (finish S calls_limit ws) (sym (calls_it left b))

        pub call_ready : later.terms.entries ≡ e.terms.entries → later.locals.entries ≡ e.locals.entries → Calling k t typed later x
        call_ready es ls =
            let s = h.stands in
            let c = sym cs in
            let w = sym waiting_is in
            record {
              held = held_same k t typed e later cs es ls h.held;
              stands = stands_same k t typed e later cs (e.stack.frames.items ++ frame.Tail i deepest ∷ []) later.stack.frames.items (take base e.stack.values.items) later.stack.values.items next.Deep fs vs scope (record {
                now_live = tt;
                frames_live = All-push (IsFrame t.trees) e.stack.frames.items (frame.Tail i deepest) s.frames_live h.live;
                placed = All-push (IsPlaced (length b)) e.stack.frames.items (frame.Tail i deepest) s.placed tt;
                values_live = s.values_live;
                slots_live = s.slots_live;
                scoped = subst (Scoped S t.trees b e.scope) top_handed s.scoped;
                based = subst (λ gs. Based t.trees gs (take base e.stack.values.items)) top_handed s.based;
                waits = tt;
              });
              waits = transport (λ j. Stacked S calls_limit (begun t.trees (c j)) (w j) (calls S calls_limit x)) (waits_handed S calls_limit b ws node us deepest 0 x h.waits h.comes calls_it);
            }

    -- It is any other node, and ends so.
    module _ (kind : is_call (tree_at t.trees i) ≡ false) (o : code_outcome.Outcome) (live : OutcomeBelow (length t.trees) o) (is : outcome_in t.trees o ≡ made_of S (tree_at t.trees i) us) where
      ends : (j : ℕ) (c : Begun) → rest S calls_limit b ws node us j c ≡ (outcome_in t.trees o, c)
      ends j c =
          no_part S (call_within S calls_limit j) node us c none_left
          ∙ (made_is S (call_within S calls_limit j) c node us (call_put (standing t.trees e.scope) (tree_at t.trees i) h.node ∙ kind)
          ∙ ap (λ r. (r, c)) (made_put (standing t.trees e.scope) S (tree_at t.trees i) us h.node ∙ sym is))

      ends_again : Again (evals S calls_limit node) (outcome_in t.trees o) deepest b
      ends_again = comes_same S calls_limit b ws (evals S calls_limit node) (rest S calls_limit b ws node us) (λ j c. (outcome_in t.trees o, c)) deepest h.comes ends

      pub gathered_keeps : Keeps S calls_limit t.trees b e.scope i o deepest
      gathered_keeps = record { term = h.live; value = live; again = ends_again }

      module _ (later : Machine) (n : code_control.Control) (fs : later.stack.frames.items ≡ e.stack.frames.items) (vs : later.stack.values.items ≡ take base e.stack.values.items) (scope : later.scope ≡ e.scope) (cs : later.calls.entries ≡ e.calls.entries) (same : n ≡ control_of o deepest) where
        pub gathered_told : (left : ℕ) → outcome_from k t later n ≡ outcome_of_parts k t e i base left
        gathered_told left =
            (λ j. told S calls_limit t.trees (begun t.trees (cs j)) (scope j) (fs j) (vs j) (same j)) ∙ ap (finish S calls_limit ws) (current_ended S calls_limit t.trees b e.scope o deepest ∙ sym (ends left b))

        pub gathered_ready : Remembers S calls_limit t.trees later.calls.entries later.terms.entries later.locals.entries → Ready k t typed later n
        gathered_ready remembers =
            let s = h.stands in
            record {
              held = record { usable = h.held.usable; fit = h.held.fit; keys_live = subst (All (λ (c : CallKey × code_memo.CallMemo). All (λ i. i < length t.trees) c.0.args)) (sym cs) h.held.keys_live; remembers = remembers };
              stands = subst (Stands S calls_limit t.trees (begun t.trees later.calls.entries) later.scope later.stack.frames.items later.stack.values.items) (sym same)
                  (stands_same k t typed e later cs e.stack.frames.items later.stack.frames.items (take base e.stack.values.items) later.stack.values.items (control_of o deepest) fs vs scope (record {
                    now_live = live_ended S calls_limit t.trees b e.scope o deepest live;
                    frames_live = s.frames_live;
                    placed = s.placed;
                    values_live = s.values_live;
                    slots_live = s.slots_live;
                    scoped = s.scoped;
                    based = s.based;
                    waits = waits_ended S calls_limit t.trees b e.scope ws o deepest (evals S calls_limit node, (h.waits, ends_again));
                  }));
            }
