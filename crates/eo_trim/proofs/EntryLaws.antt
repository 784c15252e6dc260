-- Entries say of a run what its needs and its text rest on.
use Rattle.std.proofs.Common.{◌≡◌, refl, ℕ, ◌-◌, List, [], ◌∷◌, ◌++◌, length, take, drop, map, All, sym, ap, ap₂, ◌∙◌, subst, arith, append_assoc, length-append}
use Rattle.std.specs.Prelude.{Bool, true, false, not, ◌||◌, ◌&&◌, if◌then◌else◌, Option, Some, None, slice_get, bytes_eq}
use Rattle.std.proofs.lemmas.List.{take_at}
use Rattle.std.proofs.lemmas.Option.{slice_get-get_or}
use Rattle.std.proofs.lemmas.List.{get_or_at}
use Rattle.std.proofs.lemmas.List.Elements.{All-head, All-tail}
use Rattle.eo_run.specs.Seen as run
use Rattle.eo_run.specs.Watching.{seen_as, IsSeen, AreSeen}
use Rattle.eo_session.specs.Notes.{Act, Declares, Defines, Asserts, Assumes, Opens, Derives, Closes, Other, Seen}
use Rattle.eo_trim.specs.Entries.{Entry, kind_of, innermost_scope, without_innermost, scopes_with, is_in_proof, bytes_if, entry_of, scopes_past, entries_from, scopes_from}
use Rattle.eo_trim.specs.Marking.{scope_number, is_kind_needed, needs_with, entry_needs, line_of, text_of}
use Rattle.eo_trim.specs.Needed.{premises_of, trimmed}
use Rattle.eo_trim.specs.Needing as needing
use Rattle.eo_trim.specs.Needing.{opens_after, innermost, contains, is_needed_in, is_needed, needs}
use Rattle.eo_trim.specs.declared.entries.OpenScope.{OpenScope}

-- ---- one more command

pub entries-next : (proof : ℕ) (scopes : List OpenScope) (seen : List Seen) (c : Seen) → entries_from proof scopes (seen ++ c ∷ []) ≡ entries_from proof scopes seen ++ entry_of proof (scopes_from proof scopes seen) c ∷ []
unfolding entries_from scopes_from
entries-next proof scopes [] c = refl
entries-next proof scopes (d ∷ ds) c = ap (λ (es : List Entry). entry_of proof scopes d ∷ es) (entries-next proof (scopes_past proof scopes d) ds c)

pub scopes-next : (proof : ℕ) (scopes : List OpenScope) (seen : List Seen) (c : Seen) → scopes_from proof scopes (seen ++ c ∷ []) ≡ scopes_past proof (scopes_from proof scopes seen) c
unfolding scopes_from
scopes-next proof scopes [] c = refl
scopes-next proof scopes (d ∷ ds) c = scopes-next proof (scopes_past proof scopes d) ds c

-- ---- scopes, the innermost first

abbrev pub in_order : List OpenScope → List OpenScope
in_order [] = []
in_order (s ∷ ss) = in_order ss ++ s ∷ []

abbrev pub read_scope : OpenScope → needing.OpenScope
read_scope s = record { number = s.number; elsewhere = s.elsewhere }

at-end : {A : Type 0} (xs : List A) (x : A) → length (xs ++ x ∷ []) - 1 ≡ length xs
at-end xs x = omega (arith, length-append xs (x ∷ []))

pub innermost-is : (ss : List OpenScope) (s : OpenScope) → innermost_scope (in_order ss ++ s ∷ []) ≡ Some s
innermost-is ss s =
    ap (slice_get (in_order ss ++ s ∷ [])) (at-end (in_order ss) s)
    ∙ slice_get-get_or (in_order ss ++ s ∷ []) (length (in_order ss)) s (omega (arith, length-append (in_order ss) (s ∷ [])))
    ∙ ap (λ (x : OpenScope). Some x) (get_or_at (in_order ss) s [] s (length (in_order ss)) refl)

without-is : (ss : List OpenScope) (s : OpenScope) → without_innermost (in_order ss ++ s ∷ []) ≡ in_order ss
without-is ss s = ap (λ n. take n (in_order ss ++ s ∷ [])) (at-end (in_order ss) s) ∙ take_at (in_order ss) (s ∷ []) (length (in_order ss)) refl

-- ---- one command of a run

-- the same command, seen by a run and by an observer of it
pub record IsAlike (file : ℕ) (proof : List ℕ) (m : Seen) (k : run.Seen) : Type 0 where
  pub same : seen_as k.file m ≡ k
  pub there : bytes_eq k.file proof ≡ is_in_proof file m

abbrev pub AreAlike : (file : ℕ) (proof : List ℕ) → List Seen → List run.Seen → Type 0
AreAlike file proof [] [] = Unit {0}
AreAlike file proof (m ∷ ms) (k ∷ ks) = IsAlike file proof m k × AreAlike file proof ms ks
AreAlike file proof ms ks = ⊥

needed-in : (s : OpenScope) (act : Act) (later : List ℕ) (ss : List needing.OpenScope) → is_needed_in (read_scope s ∷ ss) act later ≡ is_kind_needed (Some s) (kind_of act) later
needed-in s Declares later ss = refl
needed-in s Defines later ss = refl
needed-in s (Asserts t) later ss = refl
needed-in s (Assumes t) later ss = refl
needed-in s (Opens t) later ss = refl
needed-in s (Derives t) later ss = refl
needed-in s (Closes t) later ss = refl
needed-in s Other later ss = refl

needed-out : (act : Act) (later : List ℕ) → is_needed_in [] act later ≡ is_kind_needed None (kind_of act) later
needed-out Declares later = refl
needed-out Defines later = refl
needed-out (Asserts t) later = refl
needed-out (Assumes t) later = refl
needed-out (Opens t) later = refl
needed-out (Derives t) later = refl
needed-out (Closes t) later = refl
needed-out Other later = refl

-- ---- the open scopes after a command

abbrev pub opened : List OpenScope → (number : ℕ) → (there : Bool) → Act → List OpenScope
opened ss number there (Opens t) = record { number = number; elsewhere = not there } ∷ ss
opened ss number there (Closes t) = drop 1 ss
opened ss number there act = ss

pub opened-run : (proof : List ℕ) (ss : List OpenScope) (k : run.Seen) (there : Bool) (act : Act) → bytes_eq k.file proof ≡ there → opens_after proof (map read_scope ss) k act ≡ map read_scope (opened ss k.number there act)
opened-run proof ss k there (Opens t) e = ap (λ b. record { number = k.number; elsewhere = not b } ∷ map read_scope ss) e
opened-run proof [] k there (Closes t) e = refl
opened-run proof (s ∷ ss) k there (Closes t) e = refl
opened-run proof ss k there Declares e = refl
opened-run proof ss k there Defines e = refl
opened-run proof ss k there (Asserts t) e = refl
opened-run proof ss k there (Assumes t) e = refl
opened-run proof ss k there (Derives t) e = refl
opened-run proof ss k there Other e = refl

pub opened-kept : (ss : List OpenScope) (number : ℕ) (there : Bool) (act : Act) → scopes_with (in_order ss) number (not there) act ≡ in_order (opened ss number there act)
opened-kept ss number there (Opens t) = refl
opened-kept [] number there (Closes t) = refl
opened-kept (s ∷ ss) number there (Closes t) = without-is ss s
opened-kept ss number there Declares = refl
opened-kept ss number there Defines = refl
opened-kept ss number there (Asserts t) = refl
opened-kept ss number there (Assumes t) = refl
opened-kept ss number there (Derives t) = refl
opened-kept ss number there Other = refl

-- ---- needs

module _ (proof : List ℕ) (file : ℕ) where
  abbrev with-needs : (Option OpenScope) → (there : Bool) → (needs : Bool) → Seen → List ℕ → List ℕ
  with-needs scope there needs m later = if not there || contains later m.number || needs then m.number ∷ scope_number scope ++ (premises_of m.act ++ later) else later

  step-is : (ss : List OpenScope) (m : Seen) (path later : List ℕ) → bytes_eq path proof ≡ is_in_proof file m →
      (if is_needed proof (map read_scope ss) (seen_as path m) later then m.number ∷ innermost (map read_scope ss) ++ (premises_of m.act ++ later) else later) ≡ needs_with (entry_of file (in_order ss) m) later
  step-is [] m path later e = ap₂ (λ (b c : Bool). with-needs None b c m later) e (needed-out m.act later)
  step-is (s ∷ ss) m path later e =
      ap₂ (λ (b c : Bool). with-needs (Some s) b c m later) e (needed-in s m.act later (map read_scope ss))
      ∙ sym (ap (λ (o : Option OpenScope). with-needs o (is_in_proof file m) (is_kind_needed o (kind_of m.act) later) m later) (innermost-is ss s))

  module _ (last : List ℕ) where
    needs-step : (ms : List Seen) (ks : List run.Seen) (m : Seen) (path : List ℕ) → bytes_eq path proof ≡ is_in_proof file m
        → ((ss : List OpenScope) → needs proof (map read_scope ss) last ks ≡ entry_needs last (entries_from file (in_order ss) ms))
        → (ss : List OpenScope) → needs proof (map read_scope ss) last (seen_as path m ∷ ks) ≡ entry_needs last (entries_from file (in_order ss) (m ∷ ms))
    unfolding needs entries_from entry_needs
    needs-step ms ks m path e ih ss =
        let now = opened ss m.number (is_in_proof file m) m.act in
        let a = opened-run proof ss (seen_as path m) (is_in_proof file m) m.act e in
        let b = opened-kept ss m.number (is_in_proof file m) m.act in
        let later : needs proof (opens_after proof (map read_scope ss) (seen_as path m) m.act) last ks ≡ entry_needs last (entries_from file (scopes_past file (in_order ss) m) ms) =
        ap (λ (s : List needing.OpenScope). needs proof s last ks) a ∙ ih now ∙ sym (ap (λ (s : List OpenScope). entry_needs last (entries_from file s ms)) b) in
        step-is ss m path (needs proof (opens_after proof (map read_scope ss) (seen_as path m) m.act) last ks) e ∙ ap (needs_with (entry_of file (in_order ss) m)) later

    -- the needs of a run are those of its entries
    pub needs-are : (ms : List Seen) (ks : List run.Seen) → AreAlike file proof ms ks → (ss : List OpenScope) → needs proof (map read_scope ss) last ks ≡ entry_needs last (entries_from file (in_order ss) ms)
    unfolding needs entries_from entry_needs
    needs-are [] [] h ss = refl
    needs-are [] (k ∷ ks) h ss = absurd h
    needs-are (m ∷ ms) [] h ss = absurd h
    needs-are (m ∷ ms) (k ∷ ks) h ss =
        subst (λ (x : run.Seen). needs proof (map read_scope ss) last (x ∷ ks) ≡ entry_needs last (entries_from file (in_order ss) (m ∷ ms))) h.0.same
        (needs-step ms ks m k.file h.0.there (needs-are ms ks h.1) ss)

  -- ---- the text

  text-step : (b h : Bool) (bs rest : List ℕ) → (if b then (if h then bs ++ 10 ∷ rest else rest) else rest) ≡ (if b && h then bytes_if b bs ++ 10 ∷ [] else []) ++ rest
  text-step true true bs rest = sym (append_assoc bs (10 ∷ []) rest)
  text-step true false bs rest = refl
  text-step false true bs rest = refl
  text-step false false bs rest = refl

  -- the trimmed proof of a run is the text of its entries
  pub text-is : (holds : ℕ → Bool) (ms : List Seen) (ks : List run.Seen) → AreAlike file proof ms ks → (ss : List OpenScope) → trimmed proof holds ks ≡ text_of holds (entries_from file ss ms)
  unfolding entries_from
  text-is holds [] [] h ss = refl
  text-is holds [] (k ∷ ks) h ss = absurd h
  text-is holds (m ∷ ms) [] h ss = absurd h
  text-is holds (m ∷ ms) (k ∷ ks) h ss =
      let rest = trimmed proof holds ks in
      subst (λ (x : run.Seen). trimmed proof holds (x ∷ ks) ≡ text_of holds (entries_from file ss (m ∷ ms))) h.0.same
      (ap (λ (b : Bool). if b then (if holds m.number then m.bytes ++ 10 ∷ trimmed proof holds ks else trimmed proof holds ks) else trimmed proof holds ks) h.0.there
      ∙ text-step (is_in_proof file m) (holds m.number) m.bytes (trimmed proof holds ks)
      ∙ ap (λ (r : List ℕ). line_of holds (entry_of file ss m) ++ r) (text-is holds ms ks h.1 (scopes_past file ss m)))

  -- what an observer has seen of a run, where its file of the proof is known by its number
  pub alike-from : (paths : List (List ℕ)) → ((m : Seen) (k : run.Seen) → IsSeen paths m k → bytes_eq k.file proof ≡ is_in_proof file m)
      → (ms : List Seen) (ks : List run.Seen) → AreSeen paths ms ks → AreAlike file proof ms ks
  alike-from paths f [] [] h = tt
  alike-from paths f [] (k ∷ ks) h = absurd h
  alike-from paths f (m ∷ ms) [] h = absurd h
  alike-from paths f (m ∷ ms) (k ∷ ks) h = (record { same = h.0.same; there = f m k h.0 }, alike-from paths f ms ks h.1)

-- a text asks for the commands' own numbers alone
pub text-same : (f g : ℕ → Bool) (es : List Entry) → All (λ (e : Entry). f e.head.number ≡ g e.head.number) es → text_of f es ≡ text_of g es
text-same f g [] h = refl
text-same f g (e ∷ es) h =
    ap₂ (λ (x y : List ℕ). x ++ y) (ap (λ (b : Bool). if e.head.in_proof && b then e.bytes ++ 10 ∷ [] else []) (All-head (λ (e : Entry). f e.head.number ≡ g e.head.number) e es h))
    (text-same f g es (All-tail (λ (e : Entry). f e.head.number ≡ g e.head.number) e es h))
