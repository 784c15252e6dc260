-- A node that waited is given a result: it ends, or goes on to wait; and a term begins to wait.
use Rattle.std.specs.Prelude.{◌≡◌, ℕ, ◌<◌, max, All, List, [], ◌∷◌, ◌++◌, length, reverse, Some, refl}
use Rattle.std.proofs.Common.{sym, ◌∙◌, ap, subst}
use Rattle.std.proofs.lemmas.List.{reverse-append}
use Rattle.std.proofs.lemmas.List.Elements.{All-push, All-pop, All-take}
use Rattle.eo_term.specs.Tree.{Tree}
use Rattle.eo_sig.specs.Signature.{Signature}
use Rattle.eo_stack.specs.Evaluation.{Begun}
use Rattle.eo_stack.specs.Machine.{Again, Frame, OfNode, Stacked, evals, resume, finish}
use Rattle.eo_stack.specs.Reading.{node_of, deepest_of, left_of, wait_of, values_before, result_of, depth_of, outcome_in, OutcomeBelow, waiting, told, current, Given, Waits, IsFrame, IsPlaced, IsNode, Scoped, IsResult, ControlBelow, control_of}
use Rattle.eo_base.specs.Limits.{calls_limit}
use Rattle.eo_term.specs.Terms.{Terms}
use Rattle.eo_sig.specs.Reading.{Kept, signature}
use Rattle.eo_stack.specs.Evaluation.{call_within}
use Rattle.eo_stack.specs.Reading.{begun, Remembers}
use Rattle.eo_eval.specs.Ready.{Based, Stands, HasNoValues, Proceeds, Begins, Ready, PoppedReady, Held, Concludes, Keeps, outcome_from, outcome_of_frame}
use Rattle.eo_eval.specs.declared.machine.Machine.{Machine}
use Rattle.eo_stack.specs.declared.stack.CallMemo as code_memo
use Rattle.eo_stack.specs.declared.calls.CallKey.{CallKey}
use Rattle.eo_stack.specs.declared.stack.Frame as code_frame
use Rattle.eo_stack.specs.declared.stack.Frame.TheVariants as frame
use Rattle.eo_stack.specs.declared.stack.Control as code_control
use Rattle.eo_stack.specs.declared.stack.Control.TheVariants as next
use Rattle.eo_stack.specs.declared.Outcome as code_outcome
use Rattle.eo_stack.specs.declared.Outcome.TheVariants as outcome
use Rattle.eo_stack.specs.Scopes.{Bound, entered}
use Rattle.eo_eval.proofs.Same.{held_same, stands_same}
use Rattle.eo_eval.proofs.Waiting.{waits_first, waits_on, waits_done, again_done}

pub waiting_node : (ts : List Tree) (b : Begun) (scope : Bound) (f : code_frame.Frame) (fs : List code_frame.Frame) (vs : List ℕ) → IsNode f → waiting ts b scope (f ∷ fs) vs ≡ OfNode (entered ts scope (node_of f)) (wait_of ts scope vs f) (deepest_of f) (left_of f) ∷ waiting ts b scope fs (values_before vs f)
waiting_node ts b scope (frame.Body place body base here kept) fs vs n = absurd n
waiting_node ts b scope f fs vs n = refl

based_before : (ts : List Tree) (f : code_frame.Frame) (fs : List code_frame.Frame) (vs : List ℕ) → Based ts (f ∷ fs) vs → Based ts fs (values_before vs f)
based_before ts (frame.Parts i base d k) fs vs h = h.1
based_before ts f fs vs h = h

live_before : (P : ℕ → Type 0) (f : code_frame.Frame) (vs : List ℕ) → All P vs → All P (values_before vs f)
live_before P (frame.Parts i base d k) vs h = All-take P base vs h
live_before P f vs h = h

waiting_plain : (ts : List Tree) (b : Begun) (scope : Bound) (f : code_frame.Frame) (fs : List code_frame.Frame) (vs : List ℕ) → HasNoValues f → waiting ts b scope (f ∷ fs) vs ≡ OfNode (entered ts scope (node_of f)) (wait_of ts scope [] f) (deepest_of f) (left_of f) ∷ waiting ts b scope fs vs
waiting_plain ts b scope (frame.Parts i base d k) fs vs h = absurd h
waiting_plain ts b scope (frame.Body place body base here kept) fs vs h = absurd h
waiting_plain ts b scope f fs vs h = refl

based_plain : (ts : List Tree) (f : code_frame.Frame) (fs : List code_frame.Frame) (vs : List ℕ) → HasNoValues f → Based ts fs vs → Based ts (f ∷ fs) vs
based_plain ts (frame.Parts i base d k) fs vs h q = absurd h
based_plain ts f fs vs h q = q

based_rest : (ts : List Tree) (f : code_frame.Frame) (fs : List code_frame.Frame) (vs : List ℕ) → HasNoValues f → Based ts (f ∷ fs) vs → Based ts fs vs
based_rest ts (frame.Parts i base d k) fs vs h q = absurd h
based_rest ts f fs vs h q = q

placed_plain : (n : ℕ) (f : code_frame.Frame) → HasNoValues f → IsPlaced n f
placed_plain n (frame.Body place body base here kept) h = absurd h
placed_plain n f h = tt

-- A node that waits is in the body in which it waited before.

pub scoped_node : (S : Signature) (ts : List Tree) (b : Begun) (scope : Bound) (f : code_frame.Frame) (fs : List code_frame.Frame) → IsNode f → Scoped S ts b scope fs → Scoped S ts b scope (f ∷ fs)
scoped_node S ts b scope (frame.Body place body base here kept) fs n h = absurd n
scoped_node S ts b scope f fs n h = h

pub scoped_rest : (S : Signature) (ts : List Tree) (b : Begun) (scope : Bound) (f : code_frame.Frame) (fs : List code_frame.Frame) → IsNode f → Scoped S ts b scope (f ∷ fs) → Scoped S ts b scope fs
scoped_rest S ts b scope (frame.Body place body base here kept) fs n h = absurd n
scoped_rest S ts b scope f fs n h = h

plain_node : (f : code_frame.Frame) → HasNoValues f → IsNode f
plain_node (frame.Body place body base here kept) h = absurd h
plain_node f h = tt

top : (fs : List code_frame.Frame) (f : code_frame.Frame) → f ∷ reverse fs ≡ reverse (fs ++ f ∷ [])
top fs f = sym (reverse-append fs (f ∷ []))

module _ (S : Signature) (most : ℕ) (ts : List Tree) (b : Begun) (scope : Bound) where
  pub given_of : (ws : List Frame) (now : code_control.Control) → IsResult now → Waits S most ts b scope ws now → Given S most b ws (result_of ts now) (depth_of now)
  given_of ws (next.Value i d) r w = w
  given_of ws (next.Stuck d) r w = w
  given_of ws (next.Eval i k) r w = absurd r
  given_of ws next.Deep r w = absurd r
  given_of ws next.Calls r w = absurd r
  given_of ws next.Range r w = absurd r
  given_of ws next.Tall r w = absurd r

  pub current_of : (now : code_control.Control) → IsResult now → current S most ts b scope now ≡ (result_of ts now, b)
  current_of (next.Value i d) r = refl
  current_of (next.Stuck d) r = refl
  current_of (next.Eval i k) r = absurd r
  current_of next.Deep r = absurd r
  current_of next.Calls r = absurd r
  current_of next.Range r = absurd r
  current_of next.Tall r = absurd r

  pub current_ended : (o : code_outcome.Outcome) (d : ℕ) → current S most ts b scope (control_of o d) ≡ (outcome_in ts o, b)
  current_ended (outcome.Value i) d = refl
  current_ended outcome.Stuck d = refl
  current_ended outcome.Deep d = refl
  current_ended outcome.Calls d = refl
  current_ended outcome.Range d = refl
  current_ended outcome.Tall d = refl

  pub waits_ended : (ws : List Frame) (o : code_outcome.Outcome) (d : ℕ) → Given S most b ws (outcome_in ts o) d → Waits S most ts b scope ws (control_of o d)
  waits_ended ws (outcome.Value i) d g = g
  waits_ended ws outcome.Stuck d g = g
  waits_ended ws outcome.Deep d g = tt
  waits_ended ws outcome.Calls d g = tt
  waits_ended ws outcome.Range d g = tt
  waits_ended ws outcome.Tall d g = tt

  pub live_ended : (o : code_outcome.Outcome) (d : ℕ) → OutcomeBelow (length ts) o → ControlBelow (length ts) (control_of o d)
  live_ended (outcome.Value i) d l = l
  live_ended outcome.Stuck d l = tt
  live_ended outcome.Deep d l = tt
  live_ended outcome.Calls d l = tt
  live_ended outcome.Range d l = tt
  live_ended outcome.Tall d l = tt

  module _ (fs : List code_frame.Frame) (vs : List ℕ) (f : code_frame.Frame) (now : code_control.Control) (result : IsResult now) where
    abbrev before : List Frame
    before = waiting ts b scope (reverse fs) (values_before vs f)

    -- A node that ends with this outcome.
    module _ (o : code_outcome.Outcome) (node : IsNode f) (ends : (j : ℕ) (c : Begun) → resume S most j (wait_of ts scope vs f) (result_of ts now, c) ≡ (outcome_in ts o, c)) where
      abbrev deep : ℕ
      deep = max (deepest_of f) (depth_of now)

      given : Stands S most ts b scope (fs ++ f ∷ []) vs now → Given S most b (OfNode (entered ts scope (node_of f)) (wait_of ts scope vs f) (deepest_of f) (left_of f) ∷ before) (result_of ts now) (depth_of now)
      given s = given_of (OfNode (entered ts scope (node_of f)) (wait_of ts scope vs f) (deepest_of f) (left_of f) ∷ before) now result (subst (λ ws. Waits S most ts b scope ws now) (ap (λ gs. waiting ts b scope gs vs) (sym (top fs f)) ∙ waiting_node ts b scope f (reverse fs) vs node) s.waits)

      pub ended_again : Stands S most ts b scope (fs ++ f ∷ []) vs now → Again (evals S most (entered ts scope (node_of f))) (outcome_in ts o) deep b
      ended_again s = again_done S most b before (entered ts scope (node_of f)) (wait_of ts scope vs f) (deepest_of f) (depth_of now) (left_of f) (result_of ts now) (outcome_in ts o) (given s) ends

      pub ended_stands : OutcomeBelow (length ts) o → Stands S most ts b scope (fs ++ f ∷ []) vs now → Stands S most ts b scope fs (values_before vs f) (control_of o deep)
      ended_stands live s = record {
        now_live = live_ended o deep live;
        frames_live = (All-pop (IsFrame ts) (fs ++ f ∷ []) fs (Some f) refl s.frames_live).0;
        placed = (All-pop (IsPlaced (length b)) (fs ++ f ∷ []) fs (Some f) refl s.placed).0;
        values_live = live_before (λ i. i < length ts) f vs s.values_live;
        slots_live = s.slots_live;
        scoped = scoped_rest S ts b scope f (reverse fs) node (subst (Scoped S ts b scope) (sym (top fs f)) s.scoped);
        based = based_before ts f (reverse fs) vs (subst (λ gs. Based ts gs vs) (sym (top fs f)) s.based);
        waits = waits_ended before o deep (waits_done S most b before (entered ts scope (node_of f)) (wait_of ts scope vs f) (deepest_of f) (depth_of now) (left_of f) (result_of ts now) (outcome_in ts o) (given s) ends);
      }

      pub ended_told : told S most ts b scope fs (values_before vs f) (control_of o deep) ≡ told S most ts b scope (fs ++ f ∷ []) vs now
      ended_told =
          ap (finish S most before) (current_ended o deep ∙ sym (ends (left_of f) b))
          ∙ (λ i. finish S most (sym (waiting_node ts b scope f (reverse fs) vs node) i) (sym (current_of now result) i))
          ∙ ap (λ gs. finish S most (waiting ts b scope gs vs) (current S most ts b scope now)) (top fs f)

    -- One that goes on to wait for another term.
    module _ (g : code_frame.Frame) (p l : ℕ) (plain : HasNoValues f) (also : HasNoValues g) (h : Proceeds S most ts scope f now g p l) where
      abbrev rest : List Frame
      rest = waiting ts b scope (reverse fs) vs

      pub onward_stands : Stands S most ts b scope (fs ++ f ∷ []) vs now → Stands S most ts b scope (fs ++ g ∷ []) vs (next.Eval p l)
      onward_stands s =
          let old = given_of (OfNode (entered ts scope (node_of f)) (wait_of ts scope [] f) (deepest_of f) (left_of f) ∷ rest) now result (subst (λ ws. Waits S most ts b scope ws now) (ap (λ gs. waiting ts b scope gs vs) (sym (top fs f)) ∙ waiting_plain ts b scope f (reverse fs) vs plain) s.waits) in
          let new = waits_on S most b rest (entered ts scope (node_of f)) (entered ts scope p) (wait_of ts scope [] f) (wait_of ts scope [] g) (deepest_of f) (depth_of now) (left_of f) (left_of g) (result_of ts now) old h.waits in
          let W : ℕ → ℕ → Type 0 = λ n d. Stacked S most b (OfNode (entered ts scope n) (wait_of ts scope [] g) d (left_of g) ∷ rest) (evals S most (entered ts scope p)) in
          record {
            now_live = h.live;
            frames_live = All-push (IsFrame ts) fs g (All-pop (IsFrame ts) (fs ++ f ∷ []) fs (Some f) refl s.frames_live).0 h.frame;
            placed = All-push (IsPlaced (length b)) fs g (All-pop (IsPlaced (length b)) (fs ++ f ∷ []) fs (Some f) refl s.placed).0 (placed_plain (length b) g also);
            values_live = s.values_live;
            slots_live = s.slots_live;
            scoped = subst (Scoped S ts b scope) (top fs g) (scoped_node S ts b scope g (reverse fs) (plain_node g also) (scoped_rest S ts b scope f (reverse fs) (plain_node f plain) (subst (Scoped S ts b scope) (sym (top fs f)) s.scoped)));
            based = subst (λ gs. Based ts gs vs) (top fs g) (based_plain ts g (reverse fs) vs also (based_rest ts f (reverse fs) vs plain (subst (λ gs. Based ts gs vs) (sym (top fs f)) s.based)));
            waits = subst (λ ws. Waits S most ts b scope ws (next.Eval p l)) (sym (waiting_plain ts b scope g (reverse fs) vs also) ∙ ap (λ gs. waiting ts b scope gs vs) (top fs g))
                (subst (λ n. W n (deepest_of g)) (sym h.node) (subst (W (node_of f)) (sym h.depth) new));
          }

      pub onward_told : told S most ts b scope (fs ++ g ∷ []) vs (next.Eval p l) ≡ told S most ts b scope (fs ++ f ∷ []) vs now
      onward_told =
          ap (λ gs. finish S most (waiting ts b scope gs vs) (current S most ts b scope (next.Eval p l))) (sym (top fs g))
          ∙ (λ i. finish S most (waiting_plain ts b scope g (reverse fs) vs also i) (current S most ts b scope (next.Eval p l)))
          ∙ ap (finish S most rest) (sym (h.tells b))
          ∙ (λ i. finish S most (sym (waiting_plain ts b scope f (reverse fs) vs plain) i) (sym (current_of now result) i))
          ∙ ap (λ gs. finish S most (waiting ts b scope gs vs) (current S most ts b scope now)) (top fs f)

  -- A term that begins to wait for another one.
  module _ (fs : List code_frame.Frame) (vs : List ℕ) (i l : ℕ) (g : code_frame.Frame) (p : ℕ) (plain : HasNoValues g) (h : Begins S most ts scope i l g p) where
    abbrev under : List Frame
    under = waiting ts b scope (reverse fs) vs

    pub first_stands : Stands S most ts b scope fs vs (next.Eval i l) → Stands S most ts b scope (fs ++ g ∷ []) vs (next.Eval p l)
    first_stands s =
        let new = waits_first S most b under (entered ts scope i) (entered ts scope p) (wait_of ts scope [] g) (left_of g) s.waits h.waits in
        let W : ℕ → ℕ → Type 0 = λ n d. Stacked S most b (OfNode (entered ts scope n) (wait_of ts scope [] g) d (left_of g) ∷ under) (evals S most (entered ts scope p)) in
        record {
          now_live = h.live;
          frames_live = All-push (IsFrame ts) fs g s.frames_live h.frame;
          placed = All-push (IsPlaced (length b)) fs g s.placed (placed_plain (length b) g plain);
          values_live = s.values_live;
          slots_live = s.slots_live;
          scoped = subst (Scoped S ts b scope) (top fs g) (scoped_node S ts b scope g (reverse fs) (plain_node g plain) s.scoped);
          based = subst (λ gs. Based ts gs vs) (top fs g) (based_plain ts g (reverse fs) vs plain s.based);
          waits = subst (λ ws. Waits S most ts b scope ws (next.Eval p l)) (sym (waiting_plain ts b scope g (reverse fs) vs plain) ∙ ap (λ gs. waiting ts b scope gs vs) (top fs g))
              (subst (λ n. W n (deepest_of g)) (sym h.node) (subst (W i) (sym h.depth) new));
        }

    pub first_told : told S most ts b scope (fs ++ g ∷ []) vs (next.Eval p l) ≡ told S most ts b scope fs vs (next.Eval i l)
    first_told =
        ap (λ gs. finish S most (waiting ts b scope gs vs) (current S most ts b scope (next.Eval p l))) (sym (top fs g))
        ∙ (λ j. finish S most (waiting_plain ts b scope g (reverse fs) vs plain j) (current S most ts b scope (next.Eval p l)))
        ∙ ap (finish S most under) (sym (h.tells b))

-- The same of machines.

-- the terms of what was taken off are there
pub frame_popped : {k : Kept} {t : Terms} {typed : List (ℕ × ℕ)} {e : Machine} {f : code_frame.Frame} {now : code_control.Control} → PoppedReady k t typed e f now → IsFrame t.trees f
frame_popped {t} {e} {f} r = (All-pop (IsFrame t.trees) (e.stack.frames.items ++ f ∷ []) e.stack.frames.items (Some f) refl r.stands.frames_live).1

pub node_live : (ts : List Tree) (f : code_frame.Frame) → IsFrame ts f → node_of f < length ts
node_live ts (frame.Parts i base d k) p = p
node_live ts (frame.Choice i k) p = p.0
node_live ts (frame.Tested i) p = p
node_live ts (frame.EqLeft i k) p = p.0
node_live ts (frame.EqRight i u d) p = p.0
node_live ts (frame.EqStuck i d) p = p
node_live ts (frame.RequireLeft i k) p = p.0
node_live ts (frame.RequireRight i u d k) p = p.0.0
node_live ts (frame.RequireStuck i d) p = p
node_live ts (frame.Tail i d) p = p
node_live ts (frame.Body place body base here kept) p = p

-- A node that ends.
module _ (k : Kept) (t : Terms) (typed : List (ℕ × ℕ)) (e : Machine) (f : code_frame.Frame) (now : code_control.Control) (o : code_outcome.Outcome) (node : IsNode f) (result : IsResult now) (h : Concludes k t e f now o) where
  abbrev S : Signature
  S = signature t.trees k

  abbrev b : Begun
  b = begun t.trees e.calls.entries

  abbrev ending : ℕ
  ending = max (deepest_of f) (depth_of now)

  pub concluded_keeps : PoppedReady k t typed e f now → Keeps S calls_limit t.trees b e.scope (node_of f) o ending
  concluded_keeps r = record {
    term = node_live t.trees f (frame_popped r);
    value = h.live;
    again = ended_again S calls_limit t.trees b e.scope e.stack.frames.items e.stack.values.items f now result o node (λ j c. h.ends (call_within S calls_limit j) c) r.stands;
  }

  module _ (later : Machine) (n : code_control.Control) (fs : later.stack.frames.items ≡ e.stack.frames.items) (vs : later.stack.values.items ≡ values_before e.stack.values.items f) (scope : later.scope ≡ e.scope) (cs : later.calls.entries ≡ e.calls.entries) (same : n ≡ control_of o ending) where
    pub concluded_told : outcome_from k t later n ≡ outcome_of_frame k t e f now
    concluded_told =
        (λ i. told S calls_limit t.trees (begun t.trees (cs i)) (scope i) (fs i) (vs i) (same i))
        ∙ ended_told S calls_limit t.trees b e.scope e.stack.frames.items e.stack.values.items f now result o node (λ j c. h.ends (call_within S calls_limit j) c)

    pub concluded_ready : Remembers S calls_limit t.trees later.calls.entries later.terms.entries later.locals.entries → PoppedReady k t typed e f now → Ready k t typed later n
    concluded_ready remembers r =
        let s = ended_stands S calls_limit t.trees b e.scope e.stack.frames.items e.stack.values.items f now result o node (λ j c. h.ends (call_within S calls_limit j) c) h.live r.stands in
        record {
          held = record { usable = r.held.usable; fit = r.held.fit; keys_live = subst (All (λ (c : CallKey × code_memo.CallMemo). All (λ i. i < length t.trees) c.0.args)) (sym cs) r.held.keys_live; remembers = remembers };
          stands = subst (Stands S calls_limit t.trees (begun t.trees later.calls.entries) later.scope later.stack.frames.items later.stack.values.items) (sym same)
              (stands_same k t typed e later cs e.stack.frames.items later.stack.frames.items (values_before e.stack.values.items f) later.stack.values.items (control_of o ending) fs vs scope s);
        }

-- One more thing waits: a machine whose frames alone have changed.
module _ (k : Kept) (t : Terms) (typed : List (ℕ × ℕ)) (e later : Machine) (g : code_frame.Frame) (p l : ℕ) (plain : HasNoValues g)
    (fs : later.stack.frames.items ≡ e.stack.frames.items ++ g ∷ []) (vs : later.stack.values.items ≡ e.stack.values.items) (scope : later.scope ≡ e.scope) (cs : later.calls.entries ≡ e.calls.entries) (es : later.terms.entries ≡ e.terms.entries) (ls : later.locals.entries ≡ e.locals.entries) where
  abbrev sig : Signature
  sig = signature t.trees k

  abbrev at : Begun
  at = begun t.trees e.calls.entries

  later_told : outcome_from k t later (next.Eval p l) ≡ told sig calls_limit t.trees at e.scope (e.stack.frames.items ++ g ∷ []) e.stack.values.items (next.Eval p l)
  later_told = λ i. told sig calls_limit t.trees (begun t.trees (cs i)) (scope i) (fs i) (vs i) (next.Eval p l)

  later_ready : Held k t typed e → Stands sig calls_limit t.trees at e.scope (e.stack.frames.items ++ g ∷ []) e.stack.values.items (next.Eval p l) → Ready k t typed later (next.Eval p l)
  later_ready h s = record {
    held = held_same k t typed e later cs es ls h;
    stands = stands_same k t typed e later cs (e.stack.frames.items ++ g ∷ []) later.stack.frames.items e.stack.values.items later.stack.values.items (next.Eval p l) fs vs scope s;
  }

  pub began_told : (i : ℕ) → Begins sig calls_limit t.trees e.scope i l g p → outcome_from k t later (next.Eval p l) ≡ outcome_from k t e (next.Eval i l)
  began_told i h = later_told ∙ first_told sig calls_limit t.trees at e.scope e.stack.frames.items e.stack.values.items i l g p plain h

  pub began_ready : (i : ℕ) → Begins sig calls_limit t.trees e.scope i l g p → Ready k t typed e (next.Eval i l) → Ready k t typed later (next.Eval p l)
  began_ready i h r = later_ready r.held (first_stands sig calls_limit t.trees at e.scope e.stack.frames.items e.stack.values.items i l g p plain h r.stands)

  pub proceeded_told : (f : code_frame.Frame) (now : code_control.Control) → IsResult now → HasNoValues f → Proceeds sig calls_limit t.trees e.scope f now g p l → outcome_from k t later (next.Eval p l) ≡ outcome_of_frame k t e f now
  proceeded_told f now result before h = later_told ∙ onward_told sig calls_limit t.trees at e.scope e.stack.frames.items e.stack.values.items f now result g p l before plain h

  pub proceeded_ready : (f : code_frame.Frame) (now : code_control.Control) → IsResult now → HasNoValues f → Proceeds sig calls_limit t.trees e.scope f now g p l → PoppedReady k t typed e f now → Ready k t typed later (next.Eval p l)
  proceeded_ready f now result before h r = later_ready r.held (onward_stands sig calls_limit t.trees at e.scope e.stack.frames.items e.stack.values.items f now result g p l before plain h r.stands)
