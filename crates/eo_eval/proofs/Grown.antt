-- What waits, what is returned and what is remembered are the same over a table that has grown.
use Rattle.std.specs.Prelude.{◌≡◌, ℕ, zero, suc, ◌<◌, All, Option, option_map, slice_get, List, [], ◌∷◌, length, map, take, drop, reverse, Some, None, refl}
use Rattle.std.proofs.Common.{sym, ◌∙◌, ap, subst, arith}
use Rattle.std.proofs.lemmas.List.Elements.{All-nil, All-cons, All-head, All-tail, All-take, All-drop, All-push, All-weaker}
use Rattle.std.proofs.lemmas.List.{reverse-append}
use Rattle.eo_term.specs.Tree.{Tree, is_value}
use Rattle.eo_term.specs.Terms.{Terms, Since, tree_at}
use Rattle.eo_term.specs.Arguments.{arguments_of, argument_at, count_of}
use Rattle.eo_sig.specs.Signature.{Signature}
use Rattle.eo_stack.specs.declared.stack.Control as code_control
use Rattle.eo_stack.specs.declared.stack.Control.TheVariants as next
use Rattle.eo_stack.specs.Evaluation.{Value, Call, Begun, on_body, body_of, eval}
use Rattle.eo_stack.specs.Machine.{Parts, Choice, Tested, EqLeft, EqRight, RequireLeft, RequireRight, Tail, Frame, OfNode, OfCall, Stacked, Family, Again, evals, calls, finish}
use Rattle.eo_stack.specs.Reading.{waiting, read_call, begun, call_at, local_tree, IsFrame, IsKnown, IsLocal, Remembers, HasMore, ControlBelow, Scoped, Waits, Given}
use Rattle.eo_stack.specs.Scopes.{Bound, standing, entered, outer, assignment_here, IsValueSlot, IsScope}
use Rattle.eo_stack.specs.declared.calls.LocalKey.{LocalKey}
use Rattle.eo_pattern.specs.Matching.{put}
use Rattle.std.specs.Option.{option_flatten}
use Rattle.std.proofs.Math.Path.{transport}
use Rattle.eo_stack.specs.declared.stack.Frame as code_frame
use Rattle.eo_stack.specs.declared.stack.Frame.TheVariants as frame
use Rattle.eo_stack.specs.declared.stack.CallMemo as code_memo
use Rattle.eo_stack.specs.declared.stack.CallMemo.TheVariants as known
use Rattle.eo_eval.specs.declared.machine.Machine.{Machine}
use Rattle.eo_stack.specs.Machine.{parts_of}
use Rattle.eo_eval.specs.Ready.{Based, Held, Stands, Calling, called_at, told_run, waiting_in}
use Rattle.eo_base.specs.Limits.{calls_limit}
use Rattle.eo_sig.specs.Reading.{Kept, signature}
use Rattle.eo_sig.specs.Growth.{GrowsUnder}
use Rattle.eo_sig.specs.Usable.{IsUsable}
use Rattle.eo_type.specs.Known.{Fit}
use Rattle.eo_stack.specs.declared.calls.CallKey.{CallKey}

pub all_reverse : {X : Type 0} (P : X → Type 0) (xs : List X) → All P xs → All P (reverse xs)
all_reverse P [] h = h
all_reverse P (x ∷ xs) h = subst (All P) (sym (reverse-append (x ∷ []) xs)) (All-push P (reverse xs) x (all_reverse P xs (All-tail P x xs h)) (All-head P x xs h))

abbrev arg : Tree → ℕ → Tree
arg t i = argument_at (arguments_of t) i

module _ (old new : Terms) (g : Since old new) where
  abbrev Below : ℕ → Type 0
  Below i = i < length old.trees

  abbrev KeyBelow : CallKey × code_memo.CallMemo → Type 0
  KeyBelow c = All Below c.0.args

  pub trees_grown : (is : List ℕ) → All Below is → map (tree_at new.trees) is ≡ map (tree_at old.trees) is
  trees_grown [] h = refl
  trees_grown (i ∷ is) h =
      let one = g.tree i (All-head Below i is h) in
      let more = trees_grown is (All-tail Below i is h) in
      λ j. one j ∷ more j

  pub begun_grown : (es : List (CallKey × code_memo.CallMemo)) → All KeyBelow es → begun new.trees es ≡ begun old.trees es
  begun_grown [] h = refl
  begun_grown (e ∷ es) h =
      let one = trees_grown e.0.args (All-head KeyBelow e es h) in
      let more = begun_grown es (All-tail KeyBelow e es h) in
      λ j. (record { program = e.0.program; arguments = one j }) ∷ more j

  -- The values of parameters are the same, and what is evaluated.

  abbrev SlotsLive : Bound → Type 0
  SlotsLive s = All (IsValueSlot old.trees) s.slots

  slot_grown : (vs : List (Option ℕ)) (n : ℕ) → All (IsValueSlot old.trees) vs → option_map (tree_at new.trees) (option_flatten (slice_get vs n)) ≡ option_map (tree_at old.trees) (option_flatten (slice_get vs n))
  slot_grown [] n h = refl
  slot_grown (None ∷ vs) zero h = refl
  slot_grown (Some i ∷ vs) zero h = ap Some (g.tree i (All-head (IsValueSlot old.trees) (Some i) vs h).0)
  slot_grown (v ∷ vs) (suc n) h = slot_grown vs n (All-tail (IsValueSlot old.trees) v vs h)

  pub standing_grown : (s : Bound) → SlotsLive s → standing new.trees s ≡ standing old.trees s
  standing_grown s h = λ j n. slot_grown (drop s.base s.slots) n (All-drop (IsValueSlot old.trees) s.base s.slots h) j

  pub entered_grown : (s : Bound) → SlotsLive s → (i : ℕ) → i < length old.trees → entered new.trees s i ≡ entered old.trees s i
  entered_grown s h i l = let same = standing_grown s h in let t = g.tree i l in λ j. put (same j) (t j)

  outer_live : (s : Bound) (base here : ℕ) → SlotsLive s → SlotsLive (outer s base here)
  outer_live s base here h = All-take (IsValueSlot old.trees) s.base s.slots h

  -- What waits is the same.

  pub waiting_grown : (b : Begun) (s : Bound) → SlotsLive s → (fs : List code_frame.Frame) (vs : List ℕ) → All (IsFrame old.trees) fs → All Below vs → waiting new.trees b s fs vs ≡ waiting old.trees b s fs vs
  waiting_grown b s q [] vs h l = refl
  waiting_grown b s q (f ∷ fs) vs h l = by f (All-head (IsFrame old.trees) f fs h) (λ r e us m. waiting_grown b r e fs us (All-tail (IsFrame old.trees) f fs h) m)
    where
      by : (f : code_frame.Frame) → IsFrame old.trees f → ((r : Bound) → SlotsLive r → (us : List ℕ) → All Below us → waiting new.trees b r fs us ≡ waiting old.trees b r fs us) → waiting new.trees b s (f ∷ fs) vs ≡ waiting old.trees b s (f ∷ fs) vs
      by (frame.Parts i base d k) p r =
          let t = entered_grown s q i p in
          let us = trees_grown (drop base vs) (All-drop Below base vs l) in
          let w = r s q (take base vs) (All-take Below base vs l) in
          λ j. OfNode (t j) (Parts (t j) (us j)) d k ∷ w j
      by (frame.Choice i k) p r = let t = entered_grown s q i p.0 in let w = r s q vs l in λ j. OfNode (t j) (Choice (arg (t j) 1) (arg (t j) 2)) 0 k ∷ w j
      by (frame.Tested i) p r = let t = entered_grown s q i p in let w = r s q vs l in λ j. OfNode (t j) Tested 0 0 ∷ w j
      by (frame.EqLeft i k) p r = let t = entered_grown s q i p.0 in let w = r s q vs l in λ j. OfNode (t j) (EqLeft (arg (t j) 1)) 0 k ∷ w j
      by (frame.EqRight i u d) p r = let t = entered_grown s q i p.0 in let v = g.tree u p.1 in let w = r s q vs l in λ j. OfNode (t j) (EqRight (Some (v j))) d 0 ∷ w j
      by (frame.EqStuck i d) p r = let t = entered_grown s q i p in let w = r s q vs l in λ j. OfNode (t j) (EqRight None) d 0 ∷ w j
      by (frame.RequireLeft i k) p r = let t = entered_grown s q i p.0 in let w = r s q vs l in λ j. OfNode (t j) (RequireLeft (arg (t j) 1) (arg (t j) 2)) 0 k ∷ w j
      by (frame.RequireRight i u d k) p r = let t = entered_grown s q i p.0.0 in let v = g.tree u p.1 in let w = r s q vs l in λ j. OfNode (t j) (RequireRight (Some (v j)) (arg (t j) 2)) d k ∷ w j
      by (frame.RequireStuck i d) p r = let t = entered_grown s q i p in let w = r s q vs l in λ j. OfNode (t j) (RequireRight None (arg (t j) 2)) d 0 ∷ w j
      by (frame.Tail i d) p r = let t = entered_grown s q i p in let w = r s q vs l in λ j. OfNode (t j) Tail d 0 ∷ w j
      by (frame.Body place body base here kept) p r = let t = entered_grown s q body p in let w = r (outer s base here) (outer_live s base here q) vs l in λ j. OfCall (call_at b place) (t j) ∷ w j

  -- and what waits, waits rightly
  pub waits_grown : (S : Signature) (most : ℕ) (b : Begun) (s : Bound) (fs : List code_frame.Frame) (vs : List ℕ) (now : code_control.Control) → SlotsLive s → All (IsFrame old.trees) fs → All Below vs → ControlBelow (length old.trees) now → Waits S most old.trees b s (waiting old.trees b s (reverse fs) vs) now → Waits S most new.trees b s (waiting new.trees b s (reverse fs) vs) now
  waits_grown S most b s fs vs now q h l n w = by now n (subst (λ xs. Waits S most old.trees b s xs now) (sym (waiting_grown b s q (reverse fs) vs (all_reverse (IsFrame old.trees) fs h) l)) w)
    where
      ws : List Frame
      ws = waiting new.trees b s (reverse fs) vs

      by : (now : code_control.Control) → ControlBelow (length old.trees) now → Waits S most old.trees b s ws now → Waits S most new.trees b s ws now
      by (next.Eval i k) n w = subst (λ t. Stacked S most b ws (evals S most t)) (sym (entered_grown s q i n)) w
      by (next.Value i d) n w = subst (λ t. Given S most b ws (Value t) d) (sym (g.tree i n)) w
      by (next.Stuck d) n w = w
      by next.Deep n w = w
      by next.Calls n w = w
      by next.Range n w = w
      by next.Tall n w = w

  -- What is kept is right over the table that has grown.

  below_grown : (i : ℕ) → i < length old.trees → i < length new.trees
  below_grown i h = omega (arith, g.more_trees)

  more_grown : (i n : ℕ) → HasMore old.trees i n → HasMore new.trees i n
  more_grown i n h = (below_grown i h.0, subst (λ t. n < count_of (arguments_of t)) (sym (g.tree i h.0)) h.1)

  frame_grown : (f : code_frame.Frame) → IsFrame old.trees f → IsFrame new.trees f
  frame_grown (frame.Parts i base d k) h = below_grown i h
  frame_grown (frame.Choice i k) h = more_grown i 2 h
  frame_grown (frame.Tested i) h = below_grown i h
  frame_grown (frame.EqLeft i k) h = more_grown i 1 h
  frame_grown (frame.EqRight i u d) h = (below_grown i h.0, below_grown u h.1)
  frame_grown (frame.EqStuck i d) h = below_grown i h
  frame_grown (frame.RequireLeft i k) h = more_grown i 2 h
  frame_grown (frame.RequireRight i u d k) h = (more_grown i 2 h.0, below_grown u h.1)
  frame_grown (frame.RequireStuck i d) h = below_grown i h
  frame_grown (frame.Tail i d) h = below_grown i h
  frame_grown (frame.Body place body base here kept) h = below_grown body h

  now_grown : (now : code_control.Control) → ControlBelow (length old.trees) now → ControlBelow (length new.trees) now
  now_grown (next.Eval i k) h = below_grown i h
  now_grown (next.Value i d) h = below_grown i h
  now_grown (next.Stuck d) h = h
  now_grown next.Deep h = h
  now_grown next.Calls h = h
  now_grown next.Range h = h
  now_grown next.Tall h = h

  based_grown : (fs : List code_frame.Frame) (vs : List ℕ) → All (IsFrame old.trees) fs → Based old.trees fs vs → Based new.trees fs vs
  based_grown [] vs h q = q
  based_grown (f ∷ fs) vs h q = by f (All-head (IsFrame old.trees) f fs h) q (λ us r. based_grown fs us (All-tail (IsFrame old.trees) f fs h) r)
    where
      by : (f : code_frame.Frame) → IsFrame old.trees f → Based old.trees (f ∷ fs) vs → ((us : List ℕ) → Based old.trees fs us → Based new.trees fs us) → Based new.trees (f ∷ fs) vs
      by (frame.Parts i base d k) p q rest = ((q.0.0, subst (λ t. length (drop base vs) < count_of (parts_of t)) (sym (g.tree i p)) q.0.1), rest (take base vs) q.1)
      by f p q rest = rest vs q

  slot_live : (o : Option ℕ) → IsValueSlot old.trees o → IsValueSlot new.trees o
  slot_live None h = tt
  slot_live (Some i) h = (below_grown i h.0, ap is_value (g.tree i h.0) ∙ h.1)

  pub slots_grown : (os : List (Option ℕ)) → All (IsValueSlot old.trees) os → All (IsValueSlot new.trees) os
  slots_grown os h = All-weaker (IsValueSlot old.trees) (IsValueSlot new.trees) slot_live os h

  scope_grown : (S : Signature) (b : Begun) (s : Bound) → SlotsLive s → IsScope S old.trees b s → IsScope S new.trees b s
  scope_grown S b s q h = record { begun = h.begun; agrees = standing_grown s q ∙ h.agrees }

  scoped_grown : (S : Signature) (b : Begun) (s : Bound) → SlotsLive s → (fs : List code_frame.Frame) → Scoped S old.trees b s fs → Scoped S new.trees b s fs
  scoped_grown S b s q [] h = scope_grown S b s q h
  scoped_grown S b s q (frame.Body place body base here kept ∷ fs) h = (scope_grown S b s q h.0, scoped_grown S b (outer s base here) (outer_live s base here q) fs h.1)
  scoped_grown S b s q (f ∷ fs) h = scoped_grown S b s q fs h

  pub stands_grown : (S : Signature) (most : ℕ) (b : Begun) (s : Bound) (fs : List code_frame.Frame) (vs : List ℕ) (now : code_control.Control) → Stands S most old.trees b s fs vs now → Stands S most new.trees b s fs vs now
  stands_grown S most b s fs vs now h = record {
    now_live = now_grown now h.now_live;
    frames_live = All-weaker (IsFrame old.trees) (IsFrame new.trees) frame_grown fs h.frames_live;
    placed = h.placed;
    values_live = All-weaker Below (λ i. i < length new.trees) below_grown vs h.values_live;
    slots_live = slots_grown s.slots h.slots_live;
    scoped = scoped_grown S b s h.slots_live (reverse fs) h.scoped;
    based = based_grown (reverse fs) vs (all_reverse (IsFrame old.trees) fs h.frames_live) h.based;
    waits = waits_grown S most b s fs vs now h.slots_live h.frames_live h.values_live h.now_live h.waits;
  }

  known_grown : (b : Begun) (F : Family) (r : code_memo.CallMemo) → IsKnown old.trees b F r → IsKnown new.trees b F r
  known_grown b F known.Open h = h
  known_grown b F (known.Value i d) h = (below_grown i h.0, subst (λ t. Again F (Value t) d b) (sym (g.tree i h.0)) h.1)
  known_grown b F (known.Stuck d) h = h

  module _ (S : Signature) (most : ℕ) (b : Begun) where
    abbrev CallKnown : List Tree → CallKey × code_memo.CallMemo → Type 0
    CallKnown ts e = IsKnown ts b (calls S most (read_call ts e.0)) e.1

    abbrev TermKnown : List Tree → ℕ × code_memo.CallMemo → Type 0
    TermKnown ts e = (e.0 < length ts) × IsKnown ts b (evals S most (tree_at ts e.0)) e.1

    calls_grown : (cs : List (CallKey × code_memo.CallMemo)) → All KeyBelow cs → All (CallKnown old.trees) cs → All (CallKnown new.trees) cs
    calls_grown [] l h = All-nil (CallKnown new.trees)
    calls_grown (e ∷ cs) l h =
        let args = trees_grown e.0.args (All-head KeyBelow e cs l) in
        let one : CallKnown new.trees e = subst (λ us. IsKnown new.trees b (calls S most (record { program = e.0.program; arguments = us })) e.1) (sym args) (known_grown b (calls S most (read_call old.trees e.0)) e.1 (All-head (CallKnown old.trees) e cs h)) in
        All-cons (CallKnown new.trees) e cs one (calls_grown cs (All-tail KeyBelow e cs l) (All-tail (CallKnown old.trees) e cs h))

    term_grown : (e : ℕ × code_memo.CallMemo) → TermKnown old.trees e → TermKnown new.trees e
    term_grown e h = (below_grown e.0 h.0, subst (λ t. IsKnown new.trees b (evals S most t) e.1) (sym (g.tree e.0 h.0)) (known_grown b (evals S most (tree_at old.trees e.0)) e.1 h.1))

    local_grown : (e : LocalKey × code_memo.CallMemo) → IsLocal S most old.trees b e → IsLocal S most new.trees b e
    local_grown e h = record {
      live = below_grown e.0.id h.live;
      begun = h.begun;
      known = subst (λ t. IsKnown new.trees b (evals S most (put (assignment_here S b e.0.here) t)) e.1) (sym (g.tree e.0.id h.live)) (known_grown b (evals S most (local_tree S old.trees b e.0)) e.1 h.known);
    }

  remembers_grown : (S : Signature) (most : ℕ) (cs : List (CallKey × code_memo.CallMemo)) (es : List (ℕ × code_memo.CallMemo)) (ls : List (LocalKey × code_memo.CallMemo)) → All KeyBelow cs → Remembers S most old.trees cs es ls → Remembers S most new.trees cs es ls
  remembers_grown S most cs es ls l h =
      let C : Begun → Type 0 = λ b. All (CallKnown S most b new.trees) cs in
      let T : Begun → Type 0 = λ b. All (TermKnown S most b new.trees) es in
      let L : Begun → Type 0 = λ b. All (IsLocal S most new.trees b) ls in
      let b = begun old.trees cs in
      record {
        calls = subst C (sym (begun_grown cs l)) (calls_grown S most b cs l h.calls);
        terms = subst T (sym (begun_grown cs l)) (All-weaker (TermKnown S most b old.trees) (TermKnown S most b new.trees) (term_grown S most b) es h.terms);
        locals = subst L (sym (begun_grown cs l)) (All-weaker (IsLocal S most old.trees b) (IsLocal S most new.trees b) (local_grown S most b) ls h.locals);
      }

-- All that a machine holds is right over a table that has grown, and what is returned is the same.
module _ (k : Kept) (old new : Terms) (u : GrowsUnder k old new) (e : Machine) (typed later : List (ℕ × ℕ)) (fit : Fit k new later) where
  abbrev cs : List (CallKey × code_memo.CallMemo)
  cs = e.calls.entries

  pub held_grown : Held k old typed e → Held k new later e
  held_grown h = record {
    usable = subst IsUsable (sym u.stays.signature) h.usable;
    fit = fit;
    keys_live = All-weaker (λ (c : CallKey × code_memo.CallMemo). All (λ i. i < length old.trees) c.0.args) (λ (c : CallKey × code_memo.CallMemo). All (λ i. i < length new.trees) c.0.args) (λ c l. All-weaker (λ i. i < length old.trees) (λ i. i < length new.trees) (λ i m. omega (arith, m, u.table.now.more_trees)) c.0.args l) cs h.keys_live;
    remembers = subst (λ S. Remembers S calls_limit new.trees cs e.terms.entries e.locals.entries) (sym u.stays.signature) (remembers_grown old new u.table.now (signature old.trees k) calls_limit cs e.terms.entries e.locals.entries h.keys_live h.remembers);
  }

  pub same_begun : Held k old typed e → begun new.trees cs ≡ begun old.trees cs
  same_begun h = begun_grown old new u.table.now cs h.keys_live

  pub now_stands : (fs : List code_frame.Frame) (vs : List ℕ) (now : code_control.Control) → Held k old typed e → Stands (signature old.trees k) calls_limit old.trees (begun old.trees cs) e.scope fs vs now → Stands (signature new.trees k) calls_limit new.trees (begun new.trees cs) e.scope fs vs now
  now_stands fs vs now h s =
      let S = sym u.stays.signature in
      let b = sym (same_begun h) in
      transport (λ i. Stands (S i) calls_limit new.trees (b i) e.scope fs vs now) (stands_grown old new u.table.now (signature old.trees k) calls_limit (begun old.trees cs) e.scope fs vs now s)

  -- what waits is the same
  pub waiting_same : (fs : List code_frame.Frame) (vs : List ℕ) (now : code_control.Control) → Held k old typed e → Stands (signature old.trees k) calls_limit old.trees (begun old.trees cs) e.scope fs vs now → waiting new.trees (begun new.trees cs) e.scope (reverse fs) vs ≡ waiting old.trees (begun old.trees cs) e.scope (reverse fs) vs
  waiting_same fs vs now h s =
      ap (λ b. waiting new.trees b e.scope (reverse fs) vs) (same_begun h)
      ∙ waiting_grown old new u.table.now (begun old.trees cs) e.scope s.slots_live (reverse fs) vs (all_reverse (IsFrame old.trees) fs s.frames_live) s.values_live

  -- a call that is made next
  calling_waits : (x : Call) → Calling k old typed e x → Stacked (signature new.trees k) calls_limit (begun new.trees cs) (waiting_in new e) (calls (signature new.trees k) calls_limit x)
  calling_waits x h =
      let S = sym u.stays.signature in
      let b = sym (same_begun h.held) in
      let ws = sym (waiting_same e.stack.frames.items e.stack.values.items next.Deep h.held h.stands) in
      transport (λ i. Stacked (S i) calls_limit (b i) (ws i) (calls (S i) calls_limit x)) h.waits

  pub calling_grown : (x : Call) → Calling k old typed e x → Calling k new later e x
  calling_grown x h = record { held = held_grown h.held; stands = now_stands e.stack.frames.items e.stack.values.items next.Deep h.held h.stands; waits = calling_waits x h }

  pub called_grown : Held k old typed e → (place : ℕ) → called_at new e place ≡ called_at old e place
  called_grown h place = ap (λ b. call_at b place) (same_begun h)

  pub run_told_grown : (x : Call) (left : ℕ) → Calling k old typed e x → told_run k new e x left ≡ told_run k old e x left
  run_told_grown x left h =
      let S = u.stays.signature in
      let b = same_begun h.held in
      let ws = waiting_same e.stack.frames.items e.stack.values.items next.Deep h.held h.stands in
      λ i. finish (S i) calls_limit (ws i) (on_body (body_of (S i) x) (eval (S i) calls_limit left) (b i))
