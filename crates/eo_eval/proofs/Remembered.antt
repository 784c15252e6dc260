-- What a map remembers of a key.
use Rattle.std.specs.Prelude.{◌≡◌, ℕ, ◌<◌, Bool, true, false, List, [], ◌∷◌, length, Option, Some, None, All, IfSome, refl}
use Rattle.std.specs.Map.{lookup}
use Rattle.std.proofs.Common.{sym, cond, eqb, subst}
use Rattle.std.proofs.lemmas.List.Elements.{All-head, All-tail, All-cons, All-nil}
use Rattle.indexmap.specs.IndexMap.{insert_entry}
use Rattle.std.proofs.lemmas.Bool.Decides.{Decides-eqb}
use Rattle.eo_base.proofs.Tests.{both}
use Rattle.eo_term.specs.Terms.{tree_at}
use Rattle.eo_term.specs.Tree.{Tree}
use Rattle.eo_sig.specs.Signature.{Signature}
use Rattle.eo_stack.specs.Evaluation.{Begun}
use Rattle.eo_stack.specs.Machine.{evals}
use Rattle.eo_stack.specs.Reading.{begun, IsKnown, IsLocal, Remembers}
use Rattle.eo_stack.specs.Scopes.{Bound, entered, IsScope}
use Rattle.eo_stack.specs.declared.calls.CallKey.{CallKey}
use Rattle.eo_stack.specs.declared.calls.LocalKey.{LocalKey}
use Rattle.eo_stack.specs.declared.stack.CallMemo as code_memo
use Rattle.eo_stack.specs.contracts.calls.LocalKeyPartialEq.TheImpl as local_eq
use Rattle.eo_eval.proofs.Entered.{entered_local}

-- by a test that only equal keys pass
module _ {K V : Type 0} (eq : K → K → Bool) (exact : (a b : K) → eq a b ≡ true → a ≡ b) (P : K × V → Type 0) where
  -- what is found passes what all pairs pass
  pub all_found : (es : List (K × V)) (k : K) → All P es → IfSome (lookup (eq k) es) (λ v. P (k, v))
  all_found [] k h = tt
  all_found (e ∷ es) k h = by (eq k e.0) refl (all_found es k (All-tail P e es h))
    where
      by : (b : Bool) → eq k e.0 ≡ b → IfSome (lookup (eq k) es) (λ v. P (k, v)) → IfSome (cond b (Some e.1) (lookup (eq k) es)) (λ v. P (k, v))
      by true q rest = subst (λ j. P (j, e.1)) (sym (exact k e.0 q)) (All-head P e es h)
      by false q rest = rest

  -- and one more pair
  pub all_inserted : (es : List (K × V)) (k : K) (v : V) → All P es → P (k, v) → All P (insert_entry eq es k v)
  all_inserted [] k v h p = All-cons P (k, v) [] p (All-nil P)
  all_inserted (e ∷ es) k v h p = by (eq k e.0) refl (all_inserted es k v (All-tail P e es h) p)
    where
      by : (b : Bool) → eq k e.0 ≡ b → All P (insert_entry eq es k v) → All P (cond b ((e.0, v) ∷ es) (e ∷ insert_entry eq es k v))
      by true q rest = All-cons P (e.0, v) es (subst (λ j. P (j, v)) (exact k e.0 q) p) (All-tail P e es h)
      by false q rest = All-cons P e (insert_entry eq es k v) (All-head P e es h) rest

pub ids_exact : (a b : ℕ) → eqb a b ≡ true → a ≡ b
ids_exact a b h = (Decides-eqb a b).0 h

pub locals_exact : (a b : LocalKey) → local_eq.ghosts.eq a b ≡ true → a ≡ b
locals_exact a b h =
    let same = both h in
    let here = (Decides-eqb a.here b.here).0 same.0 in
    let id = (Decides-eqb a.id b.id).0 same.1 in
    λ i. record { here = here i; id = id i }

pub if_some_weaker : {A : Type 0} (o : Option A) (P Q : A → Type 0) → ((a : A) → P a → Q a) → IfSome o P → IfSome o Q
if_some_weaker None P Q f h = h
if_some_weaker (Some a) P Q f h = f a h

-- What is remembered of a term, where it is evaluated.
module _ (S : Signature) (most : ℕ) (ts : List Tree) (scope : Bound) (cs : List (CallKey × code_memo.CallMemo)) (es : List (ℕ × code_memo.CallMemo)) (ls : List (LocalKey × code_memo.CallMemo)) (id : ℕ) (h : Remembers S most ts cs es ls) where
  abbrev b : Begun
  b = begun ts cs

  abbrev Term : ℕ × code_memo.CallMemo → Type 0
  Term e = (e.0 < length ts) × IsKnown ts b (evals S most (tree_at ts e.0)) e.1

  abbrev key : LocalKey
  key = record { here = scope.here; id = id }

  -- of one that is the tree itself there
  pub term_known : entered ts scope id ≡ tree_at ts id → IfSome (lookup (eqb id) es) (IsKnown ts b (evals S most (entered ts scope id)))
  term_known same =
      if_some_weaker (lookup (eqb id) es) (λ v. Term (id, v)) (IsKnown ts b (evals S most (entered ts scope id))) (λ v p. subst (λ t. IsKnown ts b (evals S most t) v) (sym same) p.1)
      (all_found eqb ids_exact Term es id h.terms)

  pub term_remembered : (v : code_memo.CallMemo) → id < length ts → entered ts scope id ≡ tree_at ts id → IsKnown ts b (evals S most (entered ts scope id)) v → Remembers S most ts cs (insert_entry eqb es id v) ls
  term_remembered v live same known = record {
    calls = h.calls;
    terms = all_inserted eqb ids_exact Term es id v h.terms (live, subst (λ t. IsKnown ts b (evals S most t) v) same known);
    locals = h.locals;
  }

  -- of one in the body of a call
  pub local_known : IsScope S ts b scope → IfSome (lookup (local_eq.ghosts.eq key) ls) (IsKnown ts b (evals S most (entered ts scope id)))
  local_known now =
      if_some_weaker (lookup (local_eq.ghosts.eq key) ls) (λ v. IsLocal S most ts b (key, v)) (IsKnown ts b (evals S most (entered ts scope id))) (λ v p. subst (λ t. IsKnown ts b (evals S most t) v) (sym (entered_local ts scope S b now id)) p.known)
      (all_found local_eq.ghosts.eq locals_exact (IsLocal S most ts b) ls key h.locals)

  pub local_remembered : (v : code_memo.CallMemo) → id < length ts → IsScope S ts b scope → IsKnown ts b (evals S most (entered ts scope id)) v → Remembers S most ts cs es (insert_entry local_eq.ghosts.eq ls key v)
  local_remembered v live now known = record {
    calls = h.calls;
    terms = h.terms;
    locals = all_inserted local_eq.ghosts.eq locals_exact (IsLocal S most ts b) ls key v h.locals
        (record { live = live; begun = now.begun; known = subst (λ t. IsKnown ts b (evals S most t) v) (entered_local ts scope S b now id) known });
  }
