-- A node that collects the values of its parts is given one.
use Rattle.std.specs.Prelude.{◌≡◌, ℕ, ◌<◌, max, List, [], ◌∷◌, ◌++◌, length, map, take, drop, reverse, Some, refl}
use Rattle.std.proofs.Common.{sym, ◌∙◌, ap, subst, arith}
use Rattle.std.proofs.lemmas.List.{length-append, map-append, reverse-append, take-append-le, drop-append-le}
use Rattle.std.proofs.lemmas.List.Elements.{All-pop, All-push, All-take, All-drop}
use Rattle.eo_base.specs.Limits.{calls_limit}
use Rattle.eo_term.specs.Terms.{Terms, tree_at}
use Rattle.eo_term.specs.Tree.{Tree}
use Rattle.eo_sig.specs.Reading.{Kept, signature}
use Rattle.eo_sig.specs.Signature.{Signature}
use Rattle.eo_stack.specs.Evaluation.{Value, Begun}
use Rattle.eo_stack.specs.Machine.{Parts, Comes, Frame, OfNode, evals, finish}
use Rattle.eo_stack.specs.Reading.{begun, waiting, IsFrame, IsPlaced, Scoped, Waits}
use Rattle.eo_eval.specs.Ready.{Based, PoppedReady, Gathering, waiting_for, outcome_of_frame, outcome_of_parts}
use Rattle.eo_stack.specs.Scopes.{entered}
use Rattle.eo_eval.specs.declared.machine.Machine.{Machine}
use Rattle.eo_stack.specs.declared.stack.Frame as code_frame
use Rattle.eo_stack.specs.declared.stack.Frame.TheVariants as frame
use Rattle.eo_stack.specs.declared.stack.Control.TheVariants as next
use Rattle.eo_eval.proofs.Entered.{part_kind}
use Rattle.eo_eval.proofs.Waiting.{comes_given, rest}
use Rattle.eo_eval.proofs.Gathering.{gathering_of, rest_told}

-- A node that waited for its next part is given its value.
module _ (k : Kept) (t : Terms) (typed : List (ℕ × ℕ)) (e later : Machine) (i base deepest left v inner : ℕ) (r : PoppedReady k t typed e (frame.Parts i base deepest left) (next.Value v inner))
    (fs : later.stack.frames.items ≡ e.stack.frames.items) (vs : later.stack.values.items ≡ e.stack.values.items ++ v ∷ []) (scope : later.scope ≡ e.scope) (cs : later.calls.entries ≡ e.calls.entries) where
  abbrev S : Signature
  S = signature t.trees k

  abbrev b : Begun
  b = begun t.trees e.calls.entries

  abbrev own : List ℕ
  own = drop base e.stack.values.items

  abbrev node : Tree
  node = entered t.trees e.scope i

  abbrev f : code_frame.Frame
  f = frame.Parts i base deepest left

  abbrev ws : List Frame
  ws = waiting_for t e base

  top : f ∷ reverse e.stack.frames.items ≡ reverse (e.stack.frames.items ++ f ∷ [])
  top = sym (reverse-append e.stack.frames.items (f ∷ []))

  was : Based t.trees (f ∷ reverse e.stack.frames.items) e.stack.values.items
  was = subst (λ gs. Based t.trees gs e.stack.values.items) (sym top) r.stands.based

  given : Waits S calls_limit t.trees b e.scope (OfNode node (Parts node (map (tree_at t.trees) own)) deepest left ∷ ws) (next.Value v inner)
  given = subst (λ gs. Waits S calls_limit t.trees b e.scope (waiting t.trees b e.scope gs e.stack.values.items) (next.Value v inner)) (sym top) r.stands.waits

  before_given : take base later.stack.values.items ≡ take base e.stack.values.items
  before_given = ap (take base) vs ∙ take-append-le base e.stack.values.items (v ∷ []) was.0.0

  own_given : drop base later.stack.values.items ≡ own ++ v ∷ []
  own_given = ap (drop base) vs ∙ drop-append-le base e.stack.values.items (v ∷ []) was.0.0

  read_given : map (tree_at t.trees) (own ++ v ∷ []) ≡ map (tree_at t.trees) own ++ tree_at t.trees v ∷ []
  read_given = map-append (tree_at t.trees) own (v ∷ [])

  pub gathering_given : later.terms.entries ≡ e.terms.entries → later.locals.entries ≡ e.locals.entries → Gathering k t typed later i base (max deepest inner)
  gathering_given es ls =
      let s = r.stands in
      let frames = All-pop (IsFrame t.trees) (e.stack.frames.items ++ f ∷ []) e.stack.frames.items (Some f) refl s.frames_live in
      gathering_of k t typed e later i base (max deepest inner) (take base e.stack.values.items) (own ++ v ∷ []) fs before_given own_given scope cs es ls r.held frames.1 (part_kind (tree_at t.trees i) (length own) was.0.1)
      (omega (arith, was.0.0, ap length vs, length-append e.stack.values.items (v ∷ []))) (omega (arith, was.0.1, length-append own (v ∷ []))) (All-push (λ j. j < length t.trees) own v (All-drop (λ j. j < length t.trees) base e.stack.values.items s.values_live) s.now_live)
      (record {
        now_live = tt;
        frames_live = frames.0;
        placed = (All-pop (IsPlaced (length b)) (e.stack.frames.items ++ f ∷ []) e.stack.frames.items (Some f) refl s.placed).0;
        values_live = All-take (λ j. j < length t.trees) base e.stack.values.items s.values_live;
        slots_live = s.slots_live;
        scoped = subst (Scoped S t.trees b e.scope) (sym top) s.scoped;
        based = was.1;
        waits = tt;
      })
      given.1.0.1
      (subst (λ xs. Comes (evals S calls_limit node) (rest S calls_limit b ws node xs) (max deepest inner) b) (sym read_given) (comes_given S calls_limit b ws node (map (tree_at t.trees) own) (tree_at t.trees v) deepest inner left given))

  pub given_told : outcome_of_parts k t later i base left ≡ outcome_of_frame k t e f (next.Value v inner)
  given_told =
      rest_told k t typed e later i base (max deepest inner) (take base e.stack.values.items) (own ++ v ∷ []) fs before_given own_given scope cs left
      ∙ (ap (λ xs. finish S calls_limit ws (rest S calls_limit b ws node xs left b)) read_given ∙ ap (λ gs. finish S calls_limit (waiting t.trees b e.scope gs e.stack.values.items) (Value (tree_at t.trees v), b)) top)
