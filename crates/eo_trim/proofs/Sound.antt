-- The pass from the last command to the first takes none that is not needed.
use Rattle.std.specs.Prelude.{◌≡◌, ℕ, suc, Bool, true, false, not, ◌||◌, ◌==◌, if◌then◌else◌, List, [], ◌∷◌, ◌++◌, Option, Some, None, option_to_list, slice_get, Contains, refl}
use Rattle.std.proofs.Common.{sym, ap, subst, ◌∙◌, true≢false, arith, append_assoc}
use Rattle.std.proofs.lemmas.Bool.{eqb-true}
use Rattle.std.proofs.lemmas.Slice.Eq.{bytes_eq-Decides}
use Rattle.eo_session.specs.Notes.{Act, Declares, Defines, Asserts, Assumes, Opens, Derives, Closes, Other}
use Rattle.eo_run.specs.Run.{Progress}
use Rattle.eo_run.specs.Seen.{Seen}
use Rattle.eo_proof.specs.Scopes.{first_false}
use Rattle.eo_trim.specs.Needed.{scopes_after, scopes_after_all, premises_of, is_proof_step, IsAt, Needed, in_other_file, is_declared, refutes, is_premise, opens_scope, closes_scope, is_defined}
use Rattle.eo_trim.specs.Needing.{OpenScope, is_elsewhere, opens_after, innermost, contains, is_needed_in, is_needed, needs, needed}

-- all of a list of numbers
abbrev pub Every : (ℕ → Type 0) → List ℕ → Type 0
Every P [] = Unit {0}
Every P (n ∷ ns) = P n × Every P ns

every-append : (P : ℕ → Type 0) (ms ns : List ℕ) → Every P ms → Every P ns → Every P (ms ++ ns)
every-append P [] ns h i = i
every-append P (m ∷ ms) ns h i = (h.0, every-append P ms ns h.1 i)

every-in : (P : ℕ → Type 0) (ns : List ℕ) (n : ℕ) → Every P ns → contains ns n ≡ true → P n
every-in P [] n h e = absurd (true≢false (sym e))
every-in P (m ∷ ms) n h e = go (m == n) refl e (every-in P ms n h.1)
  where
    go : (b : Bool) → (m == n) ≡ b → (b || contains ms n) ≡ true → (contains ms n ≡ true → P n) → P n
    go true f e i = subst P (eqb-true m n f) h.0
    go false f e i = i e

contains_next : (x : ℕ) (xs : List ℕ) (y : ℕ) → Contains xs y → Contains (x ∷ xs) y
contains_next x xs y c = (suc c.0, omega (arith, c.1), c.2)

every-from : (P : ℕ → Type 0) (ns : List ℕ) → ((n : ℕ) → Contains ns n → P n) → Every P ns
every-from P [] h = tt
every-from P (n ∷ ns) h = (h n (0, omega arith, refl), every-from P ns (λ m c. h m (contains_next n ns m c)))

abbrev pub numbers : List OpenScope → List ℕ
numbers [] = []
numbers (s ∷ ss) = s.number ∷ numbers ss

after-one-more : (scopes : List ℕ) (cs : List Seen) (c : Seen) → scopes_after_all scopes (cs ++ c ∷ []) ≡ scopes_after (scopes_after_all scopes cs) c.number c.act
after-one-more scopes [] c = refl
after-one-more scopes (d ∷ cs) c = after-one-more (scopes_after scopes d.number d.act) cs c

pub numbers-after : (proof : List ℕ) (ss : List OpenScope) (c : Seen) (act : Act) → numbers (opens_after proof ss c act) ≡ scopes_after (numbers ss) c.number act
numbers-after proof ss c (Opens t) = refl
numbers-after proof [] c (Closes s) = refl
numbers-after proof (s ∷ ss) c (Closes t) = refl
numbers-after proof ss c Declares = refl
numbers-after proof ss c Defines = refl
numbers-after proof ss c (Asserts t) = refl
numbers-after proof ss c (Assumes t) = refl
numbers-after proof ss c (Derives t) = refl
numbers-after proof ss c Other = refl

module _ (proof : List ℕ) (final : Progress) where
  Needs : ℕ → Type 0
  Needs n = Needed proof final n

  -- scopes that were opened in other files are needed
  abbrev AreElsewhere : List OpenScope → Type 0
  AreElsewhere [] = Unit {0}
  AreElsewhere (s ∷ ss) = (s.elsewhere ≡ true → Needed proof final s.number) × AreElsewhere ss

  elsewhere : (before : List Seen) (c : Seen) → IsAt final.seen before c → is_elsewhere proof c ≡ true → Needed proof final c.number
  elsewhere before c at e = in_other_file before c at (λ same. true≢false (sym e ∙ ap not ((bytes_eq-Decides c.file proof).1 same)))

  after-elsewhere : (before : List Seen) (c : Seen) → IsAt final.seen before c → (act : Act) (ss : List OpenScope) → AreElsewhere ss → AreElsewhere (opens_after proof ss c act)
  after-elsewhere before c at (Opens t) ss h = (elsewhere before c at, h)
  after-elsewhere before c at (Closes s) [] h = tt
  after-elsewhere before c at (Closes t) (s ∷ ss) h = h.1
  after-elsewhere before c at Declares ss h = h
  after-elsewhere before c at Defines ss h = h
  after-elsewhere before c at (Asserts t) ss h = h
  after-elsewhere before c at (Assumes t) ss h = h
  after-elsewhere before c at (Derives t) ss h = h
  after-elsewhere before c at Other ss h = h

  module _ (before : List Seen) (c : Seen) (at : IsAt final.seen before c) (later : List ℕ) (all : Every (Needed proof final) later) where
    in-needed : (ss : List OpenScope) (act : Act) → c.act ≡ act → scopes_after_all [] before ≡ numbers ss → AreElsewhere ss → is_needed_in ss act later ≡ true → Needed proof final c.number
    in-needed [] act is same h e = is_declared before c at same (ap is_proof_step is ∙ flip (is_proof_step act) e)
      where
        flip : (b : Bool) → not b ≡ true → b ≡ false
        flip true e = absurd (true≢false (sym e))
        flip false e = refl
    in-needed (s ∷ ss) Defines is same h e = is_defined before c at is s.number (ap (λ xs. slice_get xs 0) same) (every-in (Needed proof final) later s.number all e)
    in-needed (s ∷ ss) (Closes t) is same h e = closes_scope before c t at is s.number (ap (λ xs. slice_get xs 0) same) (h.0 e)
    in-needed (s ∷ ss) Declares is same h e = absurd (true≢false (sym e))
    in-needed (s ∷ ss) (Asserts t) is same h e = absurd (true≢false (sym e))
    in-needed (s ∷ ss) (Assumes t) is same h e = absurd (true≢false (sym e))
    in-needed (s ∷ ss) (Opens t) is same h e = absurd (true≢false (sym e))
    in-needed (s ∷ ss) (Derives t) is same h e = absurd (true≢false (sym e))
    in-needed (s ∷ ss) Other is same h e = absurd (true≢false (sym e))

    is-needed : (ss : List OpenScope) → scopes_after_all [] before ≡ numbers ss → AreElsewhere ss → is_needed proof ss c later ≡ true → Needed proof final c.number
    is-needed ss same h e = go (is_elsewhere proof c) (contains later c.number) refl refl e
      where
        go : (a b : Bool) → is_elsewhere proof c ≡ a → contains later c.number ≡ b → (a || b || is_needed_in ss c.act later) ≡ true → Needed proof final c.number
        go true b p q e = elsewhere before c at p
        go false true p q e = every-in (Needed proof final) later c.number all q
        go false false p q e = in-needed ss c.act refl same h e

    with-needed : (ss : List OpenScope) → scopes_after_all [] before ≡ numbers ss → Needed proof final c.number → Every (Needed proof final) (c.number ∷ innermost ss ++ (premises_of c.act ++ later))
    with-needed ss same need = (
      need,
      every-append (Needed proof final) (innermost ss) (premises_of c.act ++ later) (scope ss same)
          (every-append (Needed proof final) (premises_of c.act) later (every-from (Needed proof final) (premises_of c.act) (λ n member. is_premise before c at need n member)) all),
    )
      where
        scope : (ss : List OpenScope) → scopes_after_all [] before ≡ numbers ss → Every (Needed proof final) (innermost ss)
        scope [] same = tt
        scope (s ∷ ss) same = (opens_scope before c at need s.number (ap (λ xs. slice_get xs 0) same), tt)

  sound : (cs before : List Seen) (ss : List OpenScope) (last : List ℕ) → final.seen ≡ before ++ cs → scopes_after_all [] before ≡ numbers ss → AreElsewhere ss → Every (Needed proof final) last → Every (Needed proof final) (needs proof ss last cs)
  unfolding needs
  sound [] before ss last split same h all = all
  sound (c ∷ cs) before ss last split same h all =
      let at : IsAt final.seen before c = record { after = cs; is = split } in
      let later = sound cs (before ++ c ∷ []) (opens_after proof ss c c.act) last (split ∙ sym (append_assoc before (c ∷ []) cs))
      (after-one-more [] before c ∙ ap (λ xs. scopes_after xs c.number c.act) same ∙ sym (numbers-after proof ss c c.act)) (after-elsewhere before c at c.act ss h) all in
      either (is_needed proof ss c (needs proof (opens_after proof ss c c.act) last cs)) (c.number ∷ innermost ss ++ (premises_of c.act ++ needs proof (opens_after proof ss c c.act) last cs)) (needs proof (opens_after proof ss c c.act) last cs)
      (λ e. with-needed before c at (needs proof (opens_after proof ss c c.act) last cs) later ss same (is-needed before c at (needs proof (opens_after proof ss c c.act) last cs) later ss same h e)) later
    where
      either : (b : Bool) (xs ys : List ℕ) → (b ≡ true → Every (Needed proof final) xs) → Every (Needed proof final) ys → Every (Needed proof final) (if b then xs else ys)
      either true xs ys f g = f refl
      either false xs ys f g = g

  -- each command that the pass takes is needed
  pub needed_sound : (n : ℕ) → needed proof final n ≡ true → Needed proof final n
  needed_sound n e =
      every-in (Needed proof final) (needs proof [] (option_to_list (first_false final.state.scopes)) final.seen) n
      (sound final.seen [] [] (option_to_list (first_false final.state.scopes)) refl refl tt (last (first_false final.state.scopes) refl)) e
    where
      last : (o : Option ℕ) → first_false final.state.scopes ≡ o → Every (Needed proof final) (option_to_list o)
      last (Some n) e = (refutes n e, tt)
      last None e = tt
