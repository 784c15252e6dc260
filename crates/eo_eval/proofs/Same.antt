-- What is held stays right in a machine of which other parts have changed.
use Rattle.std.specs.Prelude.{◌≡◌, ℕ, ◌<◌, All, List, [], ◌∷◌, length, reverse}
use Rattle.std.proofs.Common.{sym, subst}
use Rattle.std.proofs.Math.Path.{transport}
use Rattle.eo_base.specs.Limits.{calls_limit}
use Rattle.eo_term.specs.Terms.{Terms}
use Rattle.eo_term.specs.Tree.{Tree}
use Rattle.eo_sig.specs.Growth.{GrowsUnder}
use Rattle.eo_sig.specs.Reading.{Kept, signature}
use Rattle.eo_sig.specs.Signature.{Signature}
use Rattle.eo_type.specs.Known.{Fit}
use Rattle.eo_type.proofs.Fitting.{fit_grown}
use Rattle.eo_stack.specs.Evaluation.{Begun, Call}
use Rattle.eo_stack.specs.Machine.{Stacked, calls}
use Rattle.eo_stack.specs.Reading.{begun, waiting, Remembers, Scoped}
use Rattle.eo_eval.specs.Ready.{Held, Stands, Calling}
use Rattle.eo_stack.specs.Scopes.{Bound, IsScope}
use Rattle.eo_stack.specs.declared.calls.CallKey.{CallKey}
use Rattle.eo_eval.specs.declared.machine.Machine.{Machine}
use Rattle.eo_stack.specs.declared.stack.Frame as code_frame
use Rattle.eo_stack.specs.declared.stack.Frame.TheVariants as frame
use Rattle.eo_stack.specs.declared.stack.CallMemo as code_memo
use Rattle.eo_stack.specs.declared.stack.Control as code_control
use Rattle.eo_stack.specs.declared.stack.Control.TheVariants as next

module _ (k : Kept) (t : Terms) (typed : List (ℕ × ℕ)) (e later : Machine) (cs : later.calls.entries ≡ e.calls.entries) where
  abbrev KeyLive : CallKey × code_memo.CallMemo → Type 0
  KeyLive c = All (λ i. i < length t.trees) c.0.args

  pub held_same : later.terms.entries ≡ e.terms.entries → later.locals.entries ≡ e.locals.entries → Held k t typed e → Held k t typed later
  held_same es ls h =
      let p = sym cs in
      let q = sym es in
      let r = sym ls in
      record {
        usable = h.usable;
        fit = h.fit;
        keys_live = subst (All KeyLive) p h.keys_live;
        remembers = transport (λ i. Remembers (signature t.trees k) calls_limit t.trees (p i) (q i) (r i)) h.remembers;
      }

  pub stands_same : (fs gs : List code_frame.Frame) (vs us : List ℕ) (now : code_control.Control) → gs ≡ fs → us ≡ vs → later.scope ≡ e.scope → Stands (signature t.trees k) calls_limit t.trees (begun t.trees e.calls.entries) e.scope fs vs now → Stands (signature t.trees k) calls_limit t.trees (begun t.trees later.calls.entries) later.scope gs us now
  stands_same fs gs vs us now f v s h =
      let p = sym cs in
      let g = sym f in
      let u = sym v in
      let r = sym s in
      transport (λ i. Stands (signature t.trees k) calls_limit t.trees (begun t.trees (p i)) (r i) (g i) (u i) now) h

  -- a call that is made next
  pub calling_same : (x : Call) → later.stack.frames.items ≡ e.stack.frames.items → later.stack.values.items ≡ e.stack.values.items → later.scope ≡ e.scope → later.terms.entries ≡ e.terms.entries → later.locals.entries ≡ e.locals.entries → Calling k t typed e x → Calling k t typed later x
  calling_same x f v s es ls h =
      let p = sym cs in
      let g = sym f in
      let u = sym v in
      let r = sym s in
      record {
        held = held_same es ls h.held;
        stands = stands_same e.stack.frames.items later.stack.frames.items e.stack.values.items later.stack.values.items next.Deep f v s h.stands;
        waits = transport (λ i. Stacked (signature t.trees k) calls_limit (begun t.trees (p i)) (waiting t.trees (begun t.trees (p i)) (r i) (reverse (g i)) (u i)) (calls (signature t.trees k) calls_limit x)) h.waits;
      }

-- the values of parameters are right for the last call
pub scope_of : (S : Signature) (ts : List Tree) (b : Begun) (scope : Bound) (fs : List code_frame.Frame) → Scoped S ts b scope fs → IsScope S ts b scope
scope_of S ts b scope [] h = h
scope_of S ts b scope (frame.Body place body base here kept ∷ fs) h = h.0
scope_of S ts b scope (f ∷ fs) h = scope_of S ts b scope fs h

-- types that fit a table do so where it has grown
pub fit_since : {k : Kept} {old new : Terms} {typed : List (ℕ × ℕ)} → GrowsUnder k old new → Fit k old typed → Fit k new typed
fit_since {k} {old} {new} {typed} u fit = fit_grown k old new u.stays u.table.now typed fit
