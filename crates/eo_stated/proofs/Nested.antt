-- Contexts by the contexts that they are inside of.
use Rattle.std.proofs.Common.{◌≡◌, refl, ℕ, zero, suc, ◌+◌, ◌-◌, ◌<◌, ◌≤◌, Bool, true, false, nat_lt, List, [], ◌∷◌, ◌++◌, length, get_or, All, sym, ap, ◌∙◌, arith, subst}
use Rattle.std.specs.Prelude.{slice_get, is_some, ◌||◌, nat_eq}
use Rattle.std.specs.List.{list_any}
use Rattle.std.proofs.lemmas.List.{length-append, get_or_append_left, get_or_push}
use Rattle.std.proofs.lemmas.List.Elements.{All-head, All-tail, All-nil, All-cons, All-push, All-get_or}
use Rattle.eo_term.specs.Tree.{Tree, tree_eq}
use Rattle.eo_term.specs.Terms.{tree_at}
use Rattle.eo_cert.specs.Stated.{Context, outermost, reaches}
use Rattle.eo_cert.specs.Uses.{inside}
use Rattle.eo_stated.specs.declared.checker.Context as code
use Rattle.eo_stated.specs.Checking.{context_of, read_inner, read_contexts, AreNested, ContextBelow}
use Rattle.eo_stated.proofs.Within.{is_some_at}

-- the context that one represents, after these
abbrev one_inside : List Tree → List Context → code.Context → Context
one_inside ts before c = inside c.outer (context_of before c.outer) (tree_at ts c.assumed)

module _ (ts : List Tree) where
  inner_push : (before : List Context) (cs : List code.Context) (c : code.Context)
      → read_inner ts before (cs ++ c ∷ []) ≡ read_inner ts before cs ++ one_inside ts (read_inner ts before cs) c ∷ []
  inner_push before [] c = refl
  inner_push before (d ∷ cs) c = inner_push (before ++ one_inside ts before d ∷ []) cs c

  pub contexts_push : (cs : List code.Context) (c : code.Context)
      → read_contexts ts (cs ++ c ∷ []) ≡ read_contexts ts cs ++ inside c.outer (context_of (read_contexts ts cs) c.outer) (tree_at ts c.assumed) ∷ []
  contexts_push cs c = inner_push (outermost ∷ []) cs c

  inner_length : (before : List Context) (cs : List code.Context) → length (read_inner ts before cs) ≡ length before + length cs
  inner_length before [] = omega arith
  inner_length before (c ∷ cs) =
      omega (arith, inner_length (before ++ one_inside ts before c ∷ []) cs, length-append before (one_inside ts before c ∷ []))

  pub contexts_length : (cs : List code.Context) → length (read_contexts ts cs) ≡ suc (length cs)
  contexts_length cs = omega (arith, inner_length (outermost ∷ []) cs)

  -- the numbers around each context are below those of the contexts that are held
  inner_near : (m : ℕ) (before : List Context) (cs : List code.Context) → length before + length cs ≤ m → AreNested (length before) cs
      → All (λ x. All (λ d. d < m) x.outer) before → All (λ x. All (λ d. d < m) x.outer) (read_inner ts before cs)
  inner_near m before [] few h near = near
  inner_near m before (c ∷ cs) few h near =
      let P : Context → Type 0 = λ x. All (λ d. d < m) x.outer in
      let x = one_inside ts before c in
      let longer : suc (length before) ≡ length (before ++ x ∷ []) = omega (arith, length-append before (x ∷ [])) in
      let around : P (context_of before c.outer) = All-get_or P before c.outer outermost h.0 near in
      let own : P x = All-cons (λ d. d < m) c.outer (context_of before c.outer).outer (omega (arith, few, h.0)) around in
      inner_near m (before ++ x ∷ []) cs (omega (arith, few, longer)) (subst (λ n. AreNested n cs) longer h.1) (All-push P before x near own)

  pub contexts_near : (m : ℕ) (cs : List code.Context) → suc (length cs) ≤ m → AreNested 1 cs → All (λ x. All (λ d. d < m) x.outer) (read_contexts ts cs)
  contexts_near m cs few h =
      inner_near m (outermost ∷ []) cs (omega (arith, few)) h
      (All-cons (λ x. All (λ d. d < m) x.outer) outermost [] (All-nil (λ d. d < m)) (All-nil (λ x. All (λ d. d < m) x.outer)))

  -- those before stay
  inner_before : (before : List Context) (cs : List code.Context) (n : ℕ) → n < length before → context_of (read_inner ts before cs) n ≡ context_of before n
  inner_before before [] n h = refl
  inner_before before (c ∷ cs) n h =
      let x = one_inside ts before c in
      inner_before (before ++ x ∷ []) cs n (omega (arith, h, length-append before (x ∷ []))) ∙ get_or_append_left before (x ∷ []) outermost n h

  same_inside : (before : List Context) (cs : List code.Context) (c : code.Context) → c.outer < length before
      → one_inside ts before c ≡ one_inside ts (read_inner ts before cs) c
  same_inside before cs c h = ap (λ x. inside c.outer x (tree_at ts c.assumed)) (sym (inner_before before cs c.outer h))

  inner_at : (before : List Context) (cs : List code.Context) (m i : ℕ) (d : code.Context) → m ≡ length before → i < length cs → AreNested m cs
      → context_of (read_inner ts before cs) (m + i) ≡ one_inside ts (read_inner ts before cs) (get_or cs i d)
  inner_at before [] m i d e lt h = absurd (omega (arith, lt))
  inner_at before (c ∷ cs) m zero d e lt h =
      let x = one_inside ts before c in
      let more = before ++ x ∷ [] in
      let there : m + zero < length more = omega (arith, e, length-append before (x ∷ [])) in
      let outer : c.outer < length before = subst (λ k. c.outer < k) e h.0 in
      let at : length before ≡ m + zero = omega (arith, e) in
      inner_before more cs (m + zero) there
      ∙ (get_or_push before x outermost (m + zero) at ∙ same_inside before (c ∷ cs) c outer)
  inner_at before (c ∷ cs) m (suc i) d e lt h =
      let x = one_inside ts before c in
      let longer : suc m ≡ length (before ++ x ∷ []) = omega (arith, e, length-append before (x ∷ [])) in
      let at : m + suc i ≡ suc m + i = omega arith in
      ap (context_of (read_inner ts before (c ∷ cs))) at ∙ inner_at (before ++ x ∷ []) cs (suc m) i d longer (omega (arith, lt)) h.1

  -- a context is inside the one that it names
  pub contexts_at : (cs : List code.Context) (n : ℕ) (d : code.Context) → n < length cs → AreNested 1 cs
      → context_of (read_contexts ts cs) (1 + n) ≡ one_inside ts (read_contexts ts cs) (get_or cs n d)
  contexts_at cs n d lt h = inner_at (outermost ∷ []) cs 1 n d refl lt h

  -- the outermost context has no number but 0
  pub contexts_first : (cs : List code.Context) → context_of (read_contexts ts cs) 0 ≡ outermost
  contexts_first cs = inner_before (outermost ∷ []) cs 0 (omega arith)

  pub contexts_some : (cs : List code.Context) (n : ℕ) → is_some (slice_get (read_contexts ts cs) n) ≡ nat_lt n (suc (length cs))
  contexts_some cs n = is_some_at (read_contexts ts cs) n ∙ ap (nat_lt n) (contexts_length cs)

nested_at : (cs : List code.Context) (m n : ℕ) (d : code.Context) → n < length cs → AreNested m cs → (get_or cs n d).outer < m + n
nested_at [] m n d lt h = absurd (omega (arith, lt))
nested_at (c ∷ cs) m zero d lt h = omega (arith, h.0)
nested_at (c ∷ cs) m (suc n) d lt h = omega (arith, nested_at cs (suc m) n d (omega (arith, lt)) h.1)

-- the number that a context names is less than its own
pub nested_outer : (cs : List code.Context) (n : ℕ) (d : code.Context) → n < length cs → AreNested 1 cs → (get_or cs n d).outer ≤ n
nested_outer cs n d lt h = omega (arith, nested_at cs 1 n d lt h)

nested_more : (cs : List code.Context) (m : ℕ) (c : code.Context) → AreNested m cs → c.outer < m + length cs → AreNested m (cs ++ c ∷ [])
nested_more [] m c h lt = (omega (arith, lt), tt)
nested_more (d ∷ cs) m c h lt = (h.0, nested_more cs (suc m) c h.1 (omega (arith, lt)))

pub nested_push : (cs : List code.Context) (c : code.Context) → AreNested 1 cs → c.outer ≤ length cs → AreNested 1 (cs ++ c ∷ [])
nested_push cs c h le = nested_more cs 1 c h (omega (arith, le))

-- ---- where trees are the same

module _ (n : ℕ) (new old : List Tree) (at : (i : ℕ) → i < n → tree_at new i ≡ tree_at old i) where
  inner_same : (before : List Context) (cs : List code.Context) → All (ContextBelow n) cs → read_inner new before cs ≡ read_inner old before cs
  inner_same before [] h = refl
  inner_same before (c ∷ cs) h =
      ap (λ t. read_inner new (before ++ inside c.outer (context_of before c.outer) t ∷ []) cs) (at c.assumed (All-head (ContextBelow n) c cs h))
      ∙ inner_same (before ++ one_inside old before c ∷ []) cs (All-tail (ContextBelow n) c cs h)

  pub contexts_same : (cs : List code.Context) → All (ContextBelow n) cs → read_contexts new cs ≡ read_contexts old cs
  contexts_same cs h = inner_same (outermost ∷ []) cs h

-- ---- one context more on the way outwards

module _ (ts : List Tree) (cs : List code.Context) (nested : AreNested 1 cs) (n : ℕ) (d : code.Context) (lt : n < length cs) where
  pub assumed_step : (t : Tree) → list_any (tree_eq t) (context_of (read_contexts ts cs) (1 + n)).assumed
      ≡ (tree_eq t (tree_at ts (get_or cs n d).assumed) || list_any (tree_eq t) (context_of (read_contexts ts cs) (get_or cs n d).outer).assumed)
  assumed_step t = ap (λ x. list_any (tree_eq t) x.assumed) (contexts_at ts cs n d lt nested)

  pub reaches_step : (e : ℕ) → reaches (1 + n) (context_of (read_contexts ts cs) (1 + n)) e
      ≡ (nat_eq e (1 + n) || reaches (get_or cs n d).outer (context_of (read_contexts ts cs) (get_or cs n d).outer) e)
  reaches_step e = ap (λ x. reaches (1 + n) x e) (contexts_at ts cs n d lt nested)

pub or_false : (b : Bool) → (b || false) ≡ b
or_false true = refl
or_false false = refl
