-- A call that was not begun before begins.
use Rattle.std.specs.Prelude.{◌≡◌, ℕ, zero, suc, ◌-◌, ◌≤◌, ◌<◌, All, true, false, nat_lt, List, [], ◌∷◌, ◌++◌, length, map, reverse, slice_get, Some, position, refl}
use Rattle.std.specs.List.{list_any}
use Rattle.std.proofs.Common.{sym, ◌∙◌, ap, subst, arith}
use Rattle.std.proofs.Math.ListN.{get_or-append}
use Rattle.std.proofs.lemmas.List.Elements.{All-head, All-tail, All-push, All-weaker}
use Rattle.std.proofs.lemmas.Option.{none-some, same_Some}
use Rattle.eo_base.proofs.Tests.{both}
use Rattle.eo_base.specs.Limits.{calls_limit}
use Rattle.eo_term.specs.Tree.{Tree}
use Rattle.eo_term.specs.Terms.{Terms, tree_at}
use Rattle.eo_sig.specs.Reading.{Kept, signature}
use Rattle.eo_sig.specs.Signature.{Signature}
use Rattle.eo_stack.specs.Evaluation.{Calls, Call, call_eq, Begun, on_body, body_of, eval}
use Rattle.eo_stack.specs.Machine.{Family, Covers, Frame, OfNode, OfCall, Stacked, evals, calls, finish}
use Rattle.eo_stack.specs.Reading.{node_of, wait_of, deepest_of, left_of, values_before, waiting, call_at, read_call, begun, local_tree, IsKnown, IsLocal, IsPlaced, Remembers, Scoped}
use Rattle.eo_eval.specs.Ready.{Stands, Calling, called_at, told_call, waiting_in}
use Rattle.eo_pattern.specs.Matching.{put}
use Rattle.std.proofs.Math.Path.{transport}
use Rattle.eo_stack.specs.Bodies.{assignment_of}
use Rattle.eo_stack.specs.Scopes.{Bound, entered, outer, assignment_here, IsScope}
use Rattle.eo_stack.specs.declared.calls.CallKey.{CallKey}
use Rattle.eo_stack.specs.declared.calls.LocalKey.{LocalKey}
use Rattle.eo_eval.specs.declared.machine.Machine.{Machine}
use Rattle.eo_stack.specs.declared.stack.Frame as code_frame
use Rattle.eo_stack.specs.declared.stack.Frame.TheVariants as frame
use Rattle.eo_stack.specs.declared.stack.CallMemo as code_memo
use Rattle.eo_stack.specs.declared.stack.CallMemo.TheVariants as known
use Rattle.eo_stack.specs.declared.stack.Control.TheVariants as next
use Rattle.eo_eval.proofs.Calling.{call_again, call_new, call_full, covers_new}
use Rattle.eo_eval.proofs.Called.{call_read}
use Rattle.eo_term.proofs.Numbers.{found_entry}
use Rattle.std.specs.Map.{keys_of}
use Rattle.std.specs.Cmp.Lexicographic.{bytes_decides}
use Rattle.std.proofs.lemmas.Bool.Decides.{Decides-eqb, nat_tests}
use Rattle.eo_stack.specs.contracts.calls.CallKeyPartialEq.TheImpl as key_eq
use Rattle.eo_eval.proofs.Grown.{all_reverse}
use Rattle.eo_eval.proofs.Running.{begun_at, begun_count}
use Rattle.eo_eval.proofs.Steps.{stacked_later}

abbrev Entry : Type 0
Entry = CallKey × code_memo.CallMemo

begun_more : (ts : List Tree) (es : List Entry) (k : CallKey) (v : code_memo.CallMemo) → begun ts (es ++ (k, v) ∷ []) ≡ begun ts es ++ read_call ts k ∷ []
begun_more ts [] k v = refl
begun_more ts (e ∷ es) k v = ap (λ cs. read_call ts e.0 ∷ cs) (begun_more ts es k v)

last_at : (b : Begun) (x : Call) → call_at (b ++ x ∷ []) (length b) ≡ x
last_at [] x = refl
last_at (y ∷ b) x = last_at b x

longer : (b : Begun) (x : Call) → length (b ++ x ∷ []) ≡ suc (length b)
longer [] x = refl
longer (y ∷ b) x = ap suc (longer b x)

placed_more : (b : Begun) (x : Call) (f : code_frame.Frame) → IsPlaced (length b) f → IsPlaced (length (b ++ x ∷ [])) f
placed_more b x (frame.Body place body base here kept) p = omega (arith, p, longer b x)
placed_more b x f p = tt

-- What waits is the same, and the values of parameters are right.

waiting_more : (ts : List Tree) (b : Begun) (x : Call) (scope : Bound) (fs : List code_frame.Frame) (vs : List ℕ) → All (IsPlaced (length b)) fs → waiting ts (b ++ x ∷ []) scope fs vs ≡ waiting ts b scope fs vs
waiting_more ts b x scope [] vs h = refl
waiting_more ts b x scope (f ∷ fs) vs h = by f (All-head (IsPlaced (length b)) f fs h) (λ r us. waiting_more ts b x r fs us (All-tail (IsPlaced (length b)) f fs h))
  where
    by : (f : code_frame.Frame) → IsPlaced (length b) f → ((r : Bound) (us : List ℕ) → waiting ts (b ++ x ∷ []) r fs us ≡ waiting ts b r fs us) → waiting ts (b ++ x ∷ []) scope (f ∷ fs) vs ≡ waiting ts b scope (f ∷ fs) vs
    by (frame.Body place body base here kept) p rest =
        let c = get_or-append b (x ∷ []) (record { program = 0; arguments = [] }) place p in
        let ws = rest (outer scope base here) vs in
        λ i. OfCall (c i) (entered ts scope body) ∷ ws i
    by f p rest = ap (λ ws. OfNode (entered ts scope (node_of f)) (wait_of ts scope vs f) (deepest_of f) (left_of f) ∷ ws) (rest scope (values_before vs f))

here_more : (S : Signature) (b : Begun) (x : Call) (n : ℕ) → n ≤ length b → assignment_here S (b ++ x ∷ []) n ≡ assignment_here S b n
here_more S b x zero l = refl
here_more S b x (suc place) l = ap (assignment_of S) (get_or-append b (x ∷ []) (record { program = 0; arguments = [] }) place (omega arith))

scope_more : (S : Signature) (ts : List Tree) (b : Begun) (x : Call) (scope : Bound) → IsScope S ts b scope → IsScope S ts (b ++ x ∷ []) scope
scope_more S ts b x scope h = record { begun = omega (arith, h.begun, longer b x); agrees = h.agrees ∙ sym (here_more S b x scope.here h.begun) }

scoped_more : (S : Signature) (ts : List Tree) (b : Begun) (x : Call) (scope : Bound) (fs : List code_frame.Frame) → Scoped S ts b scope fs → Scoped S ts (b ++ x ∷ []) scope fs
scoped_more S ts b x scope [] h = scope_more S ts b x scope h
scoped_more S ts b x scope (frame.Body place body base here kept ∷ fs) h = (scope_more S ts b x scope h.0, scoped_more S ts b x (outer scope base here) fs h.1)
scoped_more S ts b x scope (f ∷ fs) h = scoped_more S ts b x scope fs h

known_later : (ts : List Tree) (b c : Begun) → Covers c b → (F : Family) (r : code_memo.CallMemo) → IsKnown ts b F r → IsKnown ts c F r
known_later ts b c over F known.Open h = h
known_later ts b c over F (known.Value i d) h = (h.0, λ k e cover. h.1 k e (λ x m. cover x (over x m)))
known_later ts b c over F (known.Stuck d) h = λ k e cover. h k e (λ x m. cover x (over x m))

pub all_at : (P : Entry → Type 0) (es : List Entry) (i : ℕ) (e : Entry) → All P es → slice_get es i ≡ Some e → P e
all_at P [] i e h at = absurd (none-some e at)
all_at P (x ∷ es) zero e h at = subst P (same_Some x e at) (All-head P x es h)
all_at P (x ∷ es) (suc i) e h at = all_at P es i e (All-tail P x es h) at

-- the call of a key that is found
pub found_called : (ts : List Tree) (k : CallKey) (es : List Entry) (i : ℕ) → Some i ≡ position (key_eq.ghosts.eq k) (keys_of es) → call_at (begun ts es) i ≡ read_call ts k
found_called ts k es i h =
    let f = found_entry (key_eq.ghosts.eq k) es i (sym h) in
    let same = both f.2 in
    let program = (Decides-eqb k.program f.0.0.program).0 same.0 in
    let args = (bytes_decides k.args f.0.0.args).0 same.1 in
    call_read ts es i f.0 f.1 ∙ sym (λ j. record { program = program j; arguments = map (tree_at ts) (args j) })

pub below_test : (a b : ℕ) → a < b → nat_lt a b ≡ true
below_test a b h = grind (arith, nat_tests)

pub above_test : (a b : ℕ) → b ≤ a → nat_lt a b ≡ false
above_test a b h = grind (arith, nat_tests)

-- a call for which there is no room, and one that was begun before
module _ (S : Signature) (most : ℕ) (x : Call) (b : Begun) (ws : List Frame) where
  pub full_told : (left : ℕ) → 0 < left → list_any (call_eq x) b ≡ false → nat_lt (length b) most ≡ false → finish S most ws (Calls, b) ≡ finish S most ws (calls S most x left b)
  full_told zero more f r = absurd (omega (arith, more))
  full_told (suc j) more f r = ap (finish S most ws) (sym (call_full S most x b j f r))

  pub again_told : (left : ℕ) → 0 < left → list_any (call_eq x) b ≡ true → finish S most ws (on_body (body_of S x) (eval S most (left - 1)) b) ≡ finish S most ws (calls S most x left b)
  again_told zero more f = absurd (omega (arith, more))
  again_told (suc j) more f =
      let e : suc j - 1 ≡ j = omega arith in
      ap (λ n. finish S most ws (on_body (body_of S x) (eval S most n) b)) e ∙ ap (finish S most ws) (sym (call_again S most x b j f))

module _ (S : Signature) (most : ℕ) (ts : List Tree) (cs : List Entry) (key : CallKey) where
  abbrev b : Begun
  b = begun ts cs

  abbrev x : Call
  x = read_call ts key

  abbrev C : Begun → Entry → Type 0
  C c e = IsKnown ts c (calls S most (read_call ts e.0)) e.1

  abbrev T : Begun → ℕ × code_memo.CallMemo → Type 0
  T c e = (e.0 < length ts) × IsKnown ts c (evals S most (tree_at ts e.0)) e.1

  local_more : (e : LocalKey × code_memo.CallMemo) → Covers (b ++ x ∷ []) b → IsLocal S most ts b e → IsLocal S most ts (b ++ x ∷ []) e
  local_more e over h = record {
    live = h.live;
    begun = omega (arith, h.begun, longer b x);
    known = subst (λ σ. IsKnown ts (b ++ x ∷ []) (evals S most (put σ (tree_at ts e.0.id))) e.1) (sym (here_more S b x e.0.here h.begun)) (known_later ts b (b ++ x ∷ []) over (evals S most (local_tree S ts b e.0)) e.1 h.known);
  }

  remembers_more : (es : List (ℕ × code_memo.CallMemo)) (ls : List (LocalKey × code_memo.CallMemo)) → Covers (b ++ x ∷ []) b → Remembers S most ts cs es ls → Remembers S most ts (cs ++ (key, known.Open) ∷ []) es ls
  remembers_more es ls over h =
      let same = sym (begun_more ts cs key known.Open) in
      record {
        calls = subst (λ c. All (C c) (cs ++ (key, known.Open) ∷ [])) same
            (All-push (C (b ++ x ∷ [])) cs (key, known.Open) (All-weaker (C b) (C (b ++ x ∷ [])) (λ e k. known_later ts b (b ++ x ∷ []) over (calls S most (read_call ts e.0)) e.1 k) cs h.calls) tt);
        terms = subst (λ c. All (T c) es) same (All-weaker (T b) (T (b ++ x ∷ [])) (λ e k. (k.0, known_later ts b (b ++ x ∷ []) over (evals S most (tree_at ts e.0)) e.1 k.1)) es h.terms);
        locals = subst (λ c. All (IsLocal S most ts c) ls) same (All-weaker (IsLocal S most ts b) (IsLocal S most ts (b ++ x ∷ [])) (λ e k. local_more e over k) ls h.locals);
      }

-- of machines
module _ (k : Kept) (t : Terms) (typed : List (ℕ × ℕ)) (e later : Machine) (key : CallKey) (live : All (λ i. i < length t.trees) key.args) (h : Calling k t typed e (read_call t.trees key))
    (fs : later.stack.frames.items ≡ e.stack.frames.items) (vs : later.stack.values.items ≡ e.stack.values.items) (scope : later.scope ≡ e.scope) (cs : later.calls.entries ≡ e.calls.entries ++ (key, known.Open) ∷ []) (es : later.terms.entries ≡ e.terms.entries) (ls : later.locals.entries ≡ e.locals.entries)
    (fresh : list_any (call_eq (read_call t.trees key)) (begun t.trees e.calls.entries) ≡ false) (room : nat_lt (length (begun t.trees e.calls.entries)) calls_limit ≡ true) where
  abbrev sig : Signature
  sig = signature t.trees k

  abbrev first : Begun
  first = begun t.trees e.calls.entries

  abbrev made : Call
  made = read_call t.trees key

  abbrev now : Begun
  now = first ++ made ∷ []

  begun_now : begun t.trees later.calls.entries ≡ now
  begun_now = ap (begun t.trees) cs ∙ begun_more t.trees e.calls.entries key known.Open

  over : Covers now first
  over = covers_new sig calls_limit made first fresh room

  pub began_called : called_at t later (length e.calls.entries) ≡ made
  began_called = (λ i. call_at (begun_now i) (length e.calls.entries)) ∙ (ap (call_at now) (sym (begun_count t.trees e.calls.entries)) ∙ last_at first made)

  waits_same : waiting t.trees now e.scope (reverse e.stack.frames.items) e.stack.values.items ≡ waiting_in t e
  waits_same = waiting_more t.trees first made e.scope (reverse e.stack.frames.items) e.stack.values.items (all_reverse (IsPlaced (length first)) e.stack.frames.items h.stands.placed)

  waiting_now : waiting_in t later ≡ waiting_in t e
  waiting_now = (λ i. waiting t.trees (begun_now i) (scope i) (reverse (fs i)) (vs i)) ∙ waits_same

  pub began_told : (left : ℕ) → 0 < left → told_call k t later made left ≡ told_call k t e made left
  began_told zero more = absurd (none more)
    where
      none : 0 < 0 → ⊥
      none z = omega (arith, z)
  began_told (suc j) more =
      (λ i. finish sig calls_limit (waiting_now i) (calls sig calls_limit made (suc j) (begun_now i)))
      ∙ ap (finish sig calls_limit (waiting_in t e)) (call_again sig calls_limit made now j (subst (λ y. list_any (call_eq y) now ≡ true) (last_at first made) (begun_at now (length first) (omega (arith, longer first made)))) ∙ sym (call_new sig calls_limit made first j fresh room))

  pub began_calling : Calling k t typed later made
  began_calling =
      let s = h.stands in
      let c = sym cs in
      let m = sym es in
      let l = sym ls in
      let n = sym begun_now in
      let f = sym fs in
      let v = sym vs in
      let r = sym scope in
      let w = sym waiting_now in
      record {
        held = record {
          usable = h.held.usable;
          fit = h.held.fit;
          keys_live = subst (All (λ (c : Entry). All (λ i. i < length t.trees) c.0.args)) c (All-push (λ (c : Entry). All (λ i. i < length t.trees) c.0.args) e.calls.entries (key, known.Open) h.held.keys_live live);
          remembers = transport (λ i. Remembers sig calls_limit t.trees (c i) (m i) (l i)) (remembers_more sig calls_limit t.trees e.calls.entries key e.terms.entries e.locals.entries over h.held.remembers);
        };
        stands = transport (λ i. Stands sig calls_limit t.trees (n i) (r i) (f i) (v i) next.Deep)
            (record {
              now_live = s.now_live;
              frames_live = s.frames_live;
              placed = All-weaker (IsPlaced (length first)) (IsPlaced (length now)) (placed_more first made) e.stack.frames.items s.placed;
              values_live = s.values_live;
              slots_live = s.slots_live;
              scoped = scoped_more sig t.trees first made e.scope (reverse e.stack.frames.items) s.scoped;
              based = s.based;
              waits = tt;
            });
        waits = transport (λ i. Stacked sig calls_limit (n i) (w i) (calls sig calls_limit made)) (stacked_later sig calls_limit first now over (waiting_in t e) (calls sig calls_limit made) h.waits);
      }
