-- A call that was begun goes on with its body, or ends for want of one.
use Rattle.std.specs.Prelude.{◌≡◌, ℕ, zero, suc, ◌<◌, All, Bool, true, false, ◌||◌, if◌then◌else◌, List, [], ◌∷◌, ◌++◌, length, reverse, Option, Some, None, option_map, slice_get, refl}
use Rattle.std.specs.List.{list_any}
use Rattle.std.specs.Option.{option_flatten}
use Rattle.std.proofs.Common.{sym, ◌∙◌, ap, subst, arith}
use Rattle.std.proofs.Math.Path.{transport}
use Rattle.std.proofs.Math.Seq.{take-append_seam, drop-append_seam}
use Rattle.std.proofs.lemmas.List.{reverse-append, length-map}
use Rattle.std.proofs.lemmas.List.Elements.{All-nil, All-push, All-append}
use Rattle.indexmap.specs.Layout.{set_value_at}
use Rattle.eo_base.specs.Limits.{calls_limit}
use Rattle.eo_term.specs.Tree.{Tree, is_tall}
use Rattle.eo_term.specs.Terms.{Terms, tree_at}
use Rattle.eo_sig.specs.Reading.{Kept, signature}
use Rattle.eo_sig.specs.Signature.{Signature}
use Rattle.eo_pattern.specs.Matching.{put}
use Rattle.eo_pattern.specs.Slots.{Slots, held}
use Rattle.eo_pattern.specs.Steps.{put_in}
use Rattle.eo_pattern.proofs.Steps.{put_nothing}
use Rattle.eo_stack.specs.Bodies.{IsFound, IsBody, chosen_case}
use Rattle.eo_stack.specs.Evaluation.{Stuck, Tall, Call, call_eq, Begun, Ended, ends, on_body, body_of, eval, eval_with, call_within}
use Rattle.eo_stack.specs.Machine.{IsBegun, Again, Frame, OfCall, Stacked, evals, calls, finish}
use Rattle.eo_stack.specs.Reading.{waiting, told, call_at, read_call, begun, IsFrame, IsPlaced, Remembers, Scoped}
use Rattle.eo_eval.specs.Ready.{Based, Stands, Ready, Calling, called_at, outcome_from, told_run}
use Rattle.eo_stack.specs.Scopes.{Bound, standing, entered, inner, outer, assignment_here, IsValueSlot, IsScope}
use Rattle.eo_stack.specs.declared.calls.CallKey.{CallKey}
use Rattle.eo_eval.specs.declared.machine.Machine.{Machine}
use Rattle.eo_stack.specs.declared.stack.Frame as code_frame
use Rattle.eo_stack.specs.declared.stack.Frame.TheVariants as frame
use Rattle.eo_stack.specs.declared.stack.CallMemo as code_memo
use Rattle.eo_stack.specs.declared.stack.CallMemo.TheVariants as known
use Rattle.eo_stack.specs.declared.stack.Control.TheVariants as next
use Rattle.eo_eval.proofs.Called.{begun_set, keys_set, remembers_put}
use Rattle.eo_eval.proofs.Entered.{assignment_is, body_none, body_some}
use Rattle.eo_eval.proofs.Memory.{call_refl, steady_call}
use Rattle.eo_eval.proofs.Same.{held_same}

-- each call at a place was begun
pub begun_at : (b : Begun) (i : ℕ) → i < length b → IsBegun b (call_at b i)
begun_at [] i h = absurd (omega arith)
begun_at (y ∷ b) zero h = ap (λ r. r || list_any (call_eq y) b) (call_refl y)
begun_at (y ∷ b) (suc i) h = or_right (call_eq (call_at b i) y) (list_any (call_eq (call_at b i)) b) (begun_at b i (omega arith))
  where
    or_right : (p q : Bool) → q ≡ true → (p || q) ≡ true
    or_right true q h = refl
    or_right false q h = h

pub begun_count : (ts : List Tree) (es : List (CallKey × code_memo.CallMemo)) → length (begun ts es) ≡ length es
begun_count ts es = length-map es (λ e. read_call ts e.0)

-- The values of parameters where one more call waits for its body.
module _ (scope : Bound) (here : ℕ) (more : List (Option ℕ)) where
  pub standing_inner : (ts : List Tree) → standing ts (inner scope here more) ≡ (λ n. option_map (tree_at ts) (option_flatten (slice_get more n)))
  standing_inner ts = let rest = drop-append_seam scope.slots more in λ i n. option_map (tree_at ts) (option_flatten (slice_get (rest i) n))

  -- and where it has ended
  pub outer_inner : outer (inner scope here more) scope.base scope.here ≡ scope
  outer_inner = let rest = take-append_seam scope.slots more in λ i. record { slots = rest i; base = scope.base; here = scope.here }

module _ (S : Signature) (most : ℕ) (ts : List Tree) (b : Begun) (scope : Bound) (fs : List code_frame.Frame) (vs : List ℕ) (place : ℕ) (within : place < length b) where
  abbrev x : Call
  x = call_at b place

  abbrev ws : List Frame
  ws = waiting ts b scope (reverse fs) vs

  abbrev body_after : ℕ → Begun → Ended Tree
  body_after k c = on_body (body_of S x) (eval_with S (call_within S most k)) c

  -- A body is found.
  module _ (here : ℕ) (more : List (Option ℕ)) (i l kept : ℕ) (is : body_of S x ≡ Some (entered ts (inner scope here more) i)) (low : is_tall (entered ts (inner scope here more) i) ≡ false) (live : i < length ts) where
    abbrev inside : Bound
    inside = inner scope here more

    abbrev f : code_frame.Frame
    f = frame.Body place i scope.base scope.here kept

    top : f ∷ reverse fs ≡ reverse (fs ++ f ∷ [])
    top = sym (reverse-append fs (f ∷ []))

    body_is : (k : ℕ) (c : Begun) → body_after k c ≡ eval S most k (entered ts inside i) c
    body_is k c = ap (λ r. on_body r (eval_with S (call_within S most k)) c) is ∙ ap (λ (z : Bool). (if z then ends Tall else eval_with S (call_within S most k) (entered ts inside i)) c) low

    under : waiting ts b inside (reverse (fs ++ f ∷ [])) vs ≡ OfCall x (entered ts inside i) ∷ ws
    under = ap (λ gs. waiting ts b inside gs vs) (sym top) ∙ ap (λ r. OfCall x (entered ts inside i) ∷ waiting ts b r (reverse fs) vs) (outer_inner scope here more)

    pub found_told : told S most ts b inside (fs ++ f ∷ []) vs (next.Eval i l) ≡ finish S most ws (body_after l b)
    found_told = ap (λ us. finish S most us (eval S most l (entered ts inside i) b)) under ∙ ap (finish S most ws) (sym (body_is l b))

    pub found_stands : All (IsValueSlot ts) more → IsScope S ts b inside → Stands S most ts b scope fs vs next.Deep → Stacked S most b ws (calls S most x) → Stands S most ts b inside (fs ++ f ∷ []) vs (next.Eval i l)
    found_stands values now s w = record {
      now_live = live;
      frames_live = All-push (IsFrame ts) fs f s.frames_live live;
      placed = All-push (IsPlaced (length b)) fs f s.placed within;
      values_live = s.values_live;
      slots_live = All-append (IsValueSlot ts) scope.slots more s.slots_live values;
      scoped = subst (Scoped S ts b inside) top (now, subst (λ r. Scoped S ts b r (reverse fs)) (sym (outer_inner scope here more)) s.scoped);
      based = subst (λ gs. Based ts gs vs) top s.based;
      waits = subst (λ us. Stacked S most b us (evals S most (entered ts inside i))) (sym under) ((λ j c. refl), ((begun_at b place within, is), (low, w)));
    }

  -- None is found.
  none_is : body_of S x ≡ None → (k : ℕ) (c : Begun) → body_after k c ≡ (Stuck, c)
  none_is is k c = ap (λ r. on_body r (eval_with S (call_within S most k)) c) is

  pub none_again : body_of S x ≡ None → Again (calls S most x) Stuck 1 b
  none_again is = steady_call S most x Stuck 0 b (begun_at b place within) (λ k c h. (λ below. none_is is k c, λ above. absurd (none k above)))
    where
      none : (n : ℕ) → n < 0 → ⊥
      none n z = omega arith

  pub none_told : (l : ℕ) → body_of S x ≡ None → told S most ts b scope fs vs (next.Stuck 1) ≡ finish S most ws (body_after l b)
  none_told l is = ap (finish S most ws) (sym (none_is is l b))

  pub none_stands : body_of S x ≡ None → Stands S most ts b scope fs vs next.Deep → Stacked S most b ws (calls S most x) → Stands S most ts b scope fs vs (next.Stuck 1)
  none_stands is s w = record { now_live = tt; frames_live = s.frames_live; placed = s.placed; values_live = s.values_live; slots_live = s.slots_live; scoped = s.scoped; based = s.based; waits = (calls S most x, (w, none_again is)) }

-- The same of machines.
module _ (k : Kept) (t : Terms) (typed : List (ℕ × ℕ)) (e : Machine) (place : ℕ) (within : place < length e.calls.entries) (h : Calling k t typed e (called_at t e place)) where
  abbrev sig : Signature
  sig = signature t.trees k

  abbrev b : Begun
  b = begun t.trees e.calls.entries

  inside_calls : place < length b
  inside_calls = omega (arith, within, begun_count t.trees e.calls.entries)

  -- A body is found, whose parameters have these values.
  module _ (later : Machine) (here : ℕ) (more : List (Option ℕ)) (i l kept : ℕ)
      (is : body_of sig (called_at t e place) ≡ Some (entered t.trees (inner e.scope here more) i)) (low : is_tall (entered t.trees (inner e.scope here more) i) ≡ false) (live : i < length t.trees)
      (fs : later.stack.frames.items ≡ e.stack.frames.items ++ frame.Body place i e.scope.base e.scope.here kept ∷ []) (vs : later.stack.values.items ≡ e.stack.values.items) (scope : later.scope ≡ inner e.scope here more) (cs : later.calls.entries ≡ e.calls.entries) where
    run_told : outcome_from k t later (next.Eval i l) ≡ told_run k t e (called_at t e place) l
    run_told =
        (λ j. told sig calls_limit t.trees (begun t.trees (cs j)) (scope j) (fs j) (vs j) (next.Eval i l))
        ∙ found_told sig calls_limit t.trees b e.scope e.stack.frames.items e.stack.values.items place inside_calls here more i l kept is low live

    run_ready : later.terms.entries ≡ e.terms.entries → later.locals.entries ≡ e.locals.entries → All (IsValueSlot t.trees) more → IsScope sig t.trees b (inner e.scope here more) → Ready k t typed later (next.Eval i l)
    run_ready es ls values now =
        let c = sym cs in
        let f = sym fs in
        let v = sym vs in
        let r = sym scope in
        record {
          held = held_same k t typed e later cs es ls h.held;
          stands = transport (λ j. Stands sig calls_limit t.trees (begun t.trees (c j)) (r j) (f j) (v j) (next.Eval i l))
              (found_stands sig calls_limit t.trees b e.scope e.stack.frames.items e.stack.values.items place inside_calls here more i l kept is low live values now h.stands h.waits);
        }

  -- One whose parameters are held.
  module _ (later : Machine) (here i l kept : ℕ) (s : Slots) (found : IsFound t s (chosen_case sig (called_at t e place)) i) (low : is_tall (put_in t s i) ≡ false) (at : here ≡ suc place)
      (fs : later.stack.frames.items ≡ e.stack.frames.items ++ frame.Body place i e.scope.base e.scope.here kept ∷ []) (vs : later.stack.values.items ≡ e.stack.values.items) (scope : later.scope ≡ inner e.scope here s.values) (cs : later.calls.entries ≡ e.calls.entries) where
    stands_held : put_in t s i ≡ entered t.trees (inner e.scope here s.values) i
    stands_held = ap (λ σ. put σ (tree_at t.trees i)) (sym (standing_inner e.scope here s.values t.trees))

    body_held : body_of sig (called_at t e place) ≡ Some (entered t.trees (inner e.scope here s.values) i)
    body_held = body_some sig (called_at t e place) (held t.trees s) (tree_at t.trees i) found.case ∙ ap Some stands_held

    low_held : is_tall (entered t.trees (inner e.scope here s.values) i) ≡ false
    low_held = ap is_tall (sym stands_held) ∙ low

    pub run_light_told : outcome_from k t later (next.Eval i l) ≡ told_run k t e (called_at t e place) l
    run_light_told = run_told later here s.values i l kept body_held low_held found.live fs vs scope cs

    scope_held : IsScope sig t.trees b (inner e.scope here s.values)
    scope_held = record {
      begun = omega (arith, at, inside_calls);
      agrees = standing_inner e.scope here s.values t.trees
          ∙ (sym (assignment_is sig (called_at t e place) (held t.trees s) (tree_at t.trees i) found.case) ∙ ap (assignment_here sig b) (sym at));
    }

    pub run_light_ready : later.terms.entries ≡ e.terms.entries → later.locals.entries ≡ e.locals.entries → All (IsValueSlot t.trees) s.values → Ready k t typed later (next.Eval i l)
    run_light_ready es ls values = run_ready later here s.values i l kept body_held low_held found.live fs vs scope cs es ls values scope_held

  -- One that was made.
  module _ (later : Machine) (i l kept : ℕ) (body : IsBody t (body_of sig (called_at t e place)) i)
      (fs : later.stack.frames.items ≡ e.stack.frames.items ++ frame.Body place i e.scope.base e.scope.here kept ∷ []) (vs : later.stack.values.items ≡ e.stack.values.items) (scope : later.scope ≡ inner e.scope 0 []) (cs : later.calls.entries ≡ e.calls.entries) where
    stands_none : entered t.trees (inner e.scope 0 []) i ≡ tree_at t.trees i
    stands_none = ap (λ σ. put σ (tree_at t.trees i)) (standing_inner e.scope 0 [] t.trees) ∙ put_nothing (tree_at t.trees i)

    body_made : body_of sig (called_at t e place) ≡ Some (entered t.trees (inner e.scope 0 []) i)
    body_made = body.tree ∙ ap Some (sym stands_none)

    low_made : is_tall (entered t.trees (inner e.scope 0 []) i) ≡ false
    low_made = ap is_tall stands_none ∙ body.low

    pub run_made_told : outcome_from k t later (next.Eval i l) ≡ told_run k t e (called_at t e place) l
    run_made_told = run_told later 0 [] i l kept body_made low_made body.live fs vs scope cs

    pub run_made_ready : later.terms.entries ≡ e.terms.entries → later.locals.entries ≡ e.locals.entries → Ready k t typed later (next.Eval i l)
    run_made_ready es ls = run_ready later 0 [] i l kept body_made low_made body.live fs vs scope cs es ls (All-nil (IsValueSlot t.trees)) (record { begun = omega arith; agrees = standing_inner e.scope 0 [] t.trees })

  -- None is found.
  module _ (later : Machine) (fs : later.stack.frames.items ≡ e.stack.frames.items) (vs : later.stack.values.items ≡ e.stack.values.items) (scope : later.scope ≡ e.scope) (cs : later.calls.entries ≡ set_value_at e.calls.entries place (known.Stuck 1))
      (without : chosen_case sig (called_at t e place) ≡ None) where
    none : body_of sig (called_at t e place) ≡ None
    none = body_none sig (called_at t e place) without

    same : begun t.trees later.calls.entries ≡ b
    same = ap (begun t.trees) cs ∙ begun_set t.trees e.calls.entries place (known.Stuck 1)

    pub run_none_told : (l : ℕ) → outcome_from k t later (next.Stuck 1) ≡ told_run k t e (called_at t e place) l
    run_none_told l =
        (λ i. told sig calls_limit t.trees (same i) (scope i) (fs i) (vs i) (next.Stuck 1)) ∙ none_told sig calls_limit t.trees b e.scope e.stack.frames.items e.stack.values.items place inside_calls l none

    pub run_none_ready : later.terms.entries ≡ e.terms.entries → later.locals.entries ≡ e.locals.entries → Ready k t typed later (next.Stuck 1)
    run_none_ready es ls =
        let c = sym cs in
        let m = sym es in
        let n = sym ls in
        let q = sym same in
        let f = sym fs in
        let v = sym vs in
        let r = sym scope in
        record {
          held = record {
            usable = h.held.usable;
            fit = h.held.fit;
            keys_live = subst (All (λ (c : CallKey × code_memo.CallMemo). All (λ i. i < length t.trees) c.0.args)) c (keys_set (λ c. All (λ i. i < length t.trees) c.args) e.calls.entries place (known.Stuck 1) h.held.keys_live);
            remembers = transport (λ i. Remembers sig calls_limit t.trees (c i) (m i) (n i))
                (remembers_put sig calls_limit t.trees e.calls.entries e.terms.entries e.locals.entries place (known.Stuck 1) h.held.remembers (none_again sig calls_limit t.trees b e.scope e.stack.frames.items e.stack.values.items place inside_calls none));
          };
          stands = transport (λ i. Stands sig calls_limit t.trees (q i) (r i) (f i) (v i) (next.Stuck 1)) (none_stands sig calls_limit t.trees b e.scope e.stack.frames.items e.stack.values.items place inside_calls none h.stands h.waits);
        }
