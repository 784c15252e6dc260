-- The entries of a run are numbered by their places.
use Rattle.std.proofs.Common.{◌≡◌, refl, ℕ, suc, ◌+◌, ◌<◌, ◌≤◌, List, [], ◌∷◌, length, map, sym, ap, ◌∙◌, subst, arith}
use Rattle.std.specs.Prelude.{Bool, true, false, cond, not, ◌==◌, Option, Some, None, IfSome, nat_lt, position, bytes_eq}
use Rattle.std.specs.List.{position_or_len}
use Rattle.std.proofs.lemmas.Bool.{eqb-true, eq-eqb}
use Rattle.std.proofs.lemmas.List.Elements.{All-nil, All-cons}
use Rattle.std.proofs.lemmas.Option.{none-some, same_Some}
use Rattle.eo_run.specs.Seen as run
use Rattle.eo_run.specs.Watching.{AreSeen}
use Rattle.eo_session.specs.Notes.{Act, Declares, Defines, Asserts, Assumes, Opens, Derives, Closes, Other, Seen}
use Rattle.eo_trim.specs.Entries.{Entry, innermost_scope, is_in_proof, entry_of, scopes_past, entries_from}
use Rattle.eo_trim.specs.Marking.{IsBelow, AreBelow}
use Rattle.eo_trim.specs.Needing.{opens_after}
use Rattle.eo_trim.specs.Needing as needing
use Rattle.eo_trim.specs.declared.entries.OpenScope.{OpenScope}
use Rattle.eo_trim.proofs.Complete.{closed_after, IsRun}
use Rattle.eo_trim.proofs.EntryLaws.{AreAlike, alike-from, in_order, read_scope, innermost-is, opened, opened-run, opened-kept}

-- ---- the proof's path is the first

later-number : (i n : ℕ) → 1 + n ≡ i → false ≡ (i == 0)
later-number i n e = by (i == 0) refl
  where
    by : (b : Bool) → (i == 0) ≡ b → false ≡ (i == 0)
    by true f = absurd (omega (arith, e, eqb-true i 0 f))
    by false f = sym f

-- the number of a path is 0 just where it is the first one
pub first-number : (path proof : List ℕ) (more : List (List ℕ)) (i : ℕ) → position (bytes_eq path) (proof ∷ more) ≡ Some i → bytes_eq path proof ≡ (i == 0)
first-number path proof more i h = by (bytes_eq path proof) h
  where
    n : ℕ
    n = position_or_len (bytes_eq path) more

    first : (c : Bool) → cond c (Some 0) None ≡ Some i → true ≡ (i == 0)
    first true e = sym (eq-eqb i 0 (sym (same_Some 0 i e)))
    first false e = absurd (none-some i e)

    later : (c : Bool) → cond c (Some (1 + n)) None ≡ Some i → false ≡ (i == 0)
    later true e = later-number i n (same_Some (1 + n) i e)
    later false e = absurd (none-some i e)

    by : (b : Bool) → cond (nat_lt (cond (not b) (1 + n) 0) (suc (length more))) (Some (cond (not b) (1 + n) 0)) None ≡ Some i → b ≡ (i == 0)
    by true e = first (nat_lt 0 (suc (length more))) e
    by false e = later (nat_lt (1 + n) (suc (length more))) e

-- what is seen of a run is alike by the number of the proof's path
pub alike-first : (proof : List ℕ) (more : List (List ℕ)) (ms : List Seen) (ks : List run.Seen) → AreSeen (proof ∷ more) ms ks → AreAlike 0 proof ms ks
alike-first proof more ms ks h = alike-from proof 0 (proof ∷ more) (λ m k s. first-number k.file proof more m.place.file s.file) ms ks h

-- ---- numbers

pub alike-length : (file : ℕ) (proof : List ℕ) (ms : List Seen) (ks : List run.Seen) → AreAlike file proof ms ks → (ss : List OpenScope) → length (entries_from file ss ms) ≡ length ks
unfolding entries_from
alike-length file proof [] [] h ss = refl
alike-length file proof [] (k ∷ ks) h ss = absurd h
alike-length file proof (m ∷ ms) [] h ss = absurd h
alike-length file proof (m ∷ ms) (k ∷ ks) h ss = ap suc (alike-length file proof ms ks h.1 (scopes_past file ss m))

abbrev EachBelow : ℕ → List OpenScope → Type 0
EachBelow n [] = Unit {0}
EachBelow n (s ∷ ss) = (s.number < n) × EachBelow n ss

each-up : (n p : ℕ) (ss : List OpenScope) → n ≤ p → EachBelow n ss → EachBelow p ss
each-up n p [] le h = tt
each-up n p (s ∷ ss) le h = (omega (arith, le, h.0), each-up n p ss le h.1)

each-next : (p : ℕ) (ss : List OpenScope) → EachBelow p ss → EachBelow (suc p) ss
each-next p ss h = each-up p (suc p) ss (omega (arith)) h

opened-below : (p number : ℕ) (there : Bool) (act : Act) (ss : List OpenScope) → number ≡ p → EachBelow p ss → EachBelow (suc p) (opened ss number there act)
opened-below p number there (Opens t) ss e h = (omega (arith, e), each-next p ss h)
opened-below p number there (Closes t) [] e h = tt
opened-below p number there (Closes t) (s ∷ ss) e h = each-next p ss h.1
opened-below p number there Declares ss e h = each-next p ss h
opened-below p number there Defines ss e h = each-next p ss h
opened-below p number there (Asserts t) ss e h = each-next p ss h
opened-below p number there (Assumes t) ss e h = each-next p ss h
opened-below p number there (Derives t) ss e h = each-next p ss h
opened-below p number there Other ss e h = each-next p ss h

scope-below : (n p : ℕ) (ss : List OpenScope) → p ≤ n → EachBelow p ss → IfSome (innermost_scope (in_order ss)) (λ (s : OpenScope). s.number < n)
scope-below n p [] le h = tt
scope-below n p (s ∷ ss) le h =
    let lt : s.number < n = omega (arith, le, h.0) in
    subst (λ (o : Option OpenScope). IfSome o (λ (x : OpenScope). x.number < n)) (sym (innermost-is ss s)) lt

module _ (file : ℕ) (proof : List ℕ) (last : List ℕ) (n : ℕ) where
  -- the numbers in the entries of a run are below the number of its commands
  pub numbers-below : (ms : List Seen) (ks : List run.Seen) → AreAlike file proof ms ks → (ss : List OpenScope) (closed : List (ℕ × ℕ)) (p : ℕ) → IsRun proof last (map read_scope ss) closed p ks
      → EachBelow p ss → p + length ks ≤ n → AreBelow n (entries_from file (in_order ss) ms)
  unfolding entries_from
  numbers-below [] [] a ss closed p r h le = All-nil (λ (e : Entry). IsBelow n e.head)
  numbers-below [] (k ∷ ks) a ss closed p r h le = absurd a
  numbers-below (m ∷ ms) [] a ss closed p r h le = absurd a
  numbers-below (m ∷ ms) (k ∷ ks) a ss closed p r h le =
      let same = sym a.0.same in
      let there = is_in_proof file m in
      let number : m.number ≡ p = ap (λ (x : run.Seen). x.number) (sym same) ∙ r.0 in
      let act : k.act ≡ m.act = ap (λ (x : run.Seen). x.act) same in
      let here : k.number ≡ m.number = ap (λ (x : run.Seen). x.number) same in
      let opens : opens_after proof (map read_scope ss) k k.act ≡ map read_scope (opened ss m.number there m.act) =
      opened-run proof ss k there k.act a.0.there ∙ ap (λ (j : ℕ). map read_scope (opened ss j there k.act)) here ∙ ap (λ (x : Act). map read_scope (opened ss m.number there x)) act in
      let rest = subst (λ (os : List needing.OpenScope). IsRun proof last os (closed_after closed (map read_scope ss) p k.act) (suc p) ks) opens r.4 in
      let more = numbers-below ms ks a.1 (opened ss m.number there m.act) (closed_after closed (map read_scope ss) p k.act) (suc p) rest (opened-below p m.number there m.act ss number h) (omega (arith, le)) in
      let kept = subst (λ (os : List OpenScope). AreBelow n (entries_from file os ms)) (sym (opened-kept ss m.number there m.act)) more in
      let first : IsBelow n (entry_of file (in_order ss) m).head = record { number = omega (arith, le, number); scope = scope-below n p ss (omega (arith, le)) h } in
      All-cons (λ (e : Entry). IsBelow n e.head) (entry_of file (in_order ss) m) (entries_from file (scopes_past file (in_order ss) m) ms) first kept
