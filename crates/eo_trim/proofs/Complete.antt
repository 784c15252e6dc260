-- The pass from the last command to the first takes each that is needed.
use Rattle.std.specs.Prelude.{◌≡◌, ◌≢◌, ℕ, zero, suc, ◌<◌, ◌≤◌, Bool, true, false, not, ◌||◌, ◌==◌, if◌then◌else◌, List, [], ◌∷◌, ◌++◌, drop, Some, bytes_eq, option_to_list, slice_get, slice_index_or, Contains, refl, length, nat_le}
use Rattle.std.proofs.Common.{sym, ap, subst, ◌∙◌, true≢false, arith}
use Rattle.std.proofs.lemmas.Bool.{eqb-true, eq-eqb, leb-true, leb-false}
use Rattle.std.proofs.lemmas.Option.{none-some, same_Some}
use Rattle.std.proofs.lemmas.Slice.Eq.{bytes_eq-Decides}
use Rattle.eo_term.specs.Tree.{Tree}
use Rattle.eo_session.specs.Notes.{Act, Declares, Defines, Asserts, Assumes, Opens, Derives, Closes, Other, StepNote}
use Rattle.eo_run.specs.Run.{Progress}
use Rattle.eo_run.specs.Seen.{Seen}
use Rattle.eo_proof.specs.Scopes.{first_false}
use Rattle.eo_trim.specs.Needed.{scopes_after_all, premises_of, is_proof_step, IsAt, Needed, in_other_file, is_declared, refutes, is_premise, opens_scope, closes_scope, is_defined, IsNeeded}
use Rattle.eo_trim.specs.Needing.{OpenScope, is_elsewhere, opens_after, innermost, contains, is_needed_in, is_needed, needs, needed}
use Rattle.eo_trim.proofs.Sound.{Every, numbers, numbers-after, needed_sound}

-- ---- members

or-true : (a b : Bool) (P : Type 0) → (a ≡ true → P) → (b ≡ true → P) → (a || b) ≡ true → P
or-true true b P f g e = f refl
or-true false b P f g e = g e

or-left : (a b : Bool) → a ≡ true → (a || b) ≡ true
or-left true b e = refl
or-left false b e = absurd (true≢false (sym e))

or-right : (a b : Bool) → b ≡ true → (a || b) ≡ true
or-right true b e = refl
or-right false b e = e

in-first : (n : ℕ) (ns : List ℕ) → contains (n ∷ ns) n ≡ true
in-first n ns = or-left (n == n) (contains ns n) (eq-eqb n n refl)

in-rest : (m : ℕ) (ns : List ℕ) (n : ℕ) → contains ns n ≡ true → contains (m ∷ ns) n ≡ true
in-rest m ns n e = or-right (m == n) (contains ns n) e

in-append : (ms ns : List ℕ) (n : ℕ) → contains ns n ≡ true → contains (ms ++ ns) n ≡ true
in-append [] ns n e = e
in-append (m ∷ ms) ns n e = in-rest m (ms ++ ns) n (in-append ms ns n e)

in-front : (ms ns : List ℕ) (n : ℕ) → contains ms n ≡ true → contains (ms ++ ns) n ≡ true
in-front [] ns n e = absurd (true≢false (sym e))
in-front (m ∷ ms) ns n e = or-true (m == n) (contains ms n) (contains (m ∷ ms ++ ns) n ≡ true) (λ f. or-left (m == n) (contains (ms ++ ns) n) f) (λ f. or-right (m == n) (contains (ms ++ ns) n) (in-front ms ns n f)) e

append-in : (ms ns : List ℕ) (n : ℕ) (P : Type 0) → (contains ms n ≡ true → P) → (contains ns n ≡ true → P) → contains (ms ++ ns) n ≡ true → P
append-in [] ns n P f g e = g e
append-in (m ∷ ms) ns n P f g e =
    or-true (m == n) (contains (ms ++ ns) n) P (λ h. f (or-left (m == n) (contains ms n) h)) (λ h. append-in ms ns n P (λ i. f (or-right (m == n) (contains ms n) i)) g h) e

every-member : (P : ℕ → Type 0) (ns : List ℕ) (n : ℕ) → Every P ns → contains ns n ≡ true → P n
every-member P [] n h e = absurd (true≢false (sym e))
every-member P (m ∷ ms) n h e = or-true (m == n) (contains ms n) (P n) (λ f. subst P (eqb-true m n f) h.0) (λ f. every-member P ms n h.1 f) e

member-at : (ns : List ℕ) (n k : ℕ) → k < length ns → slice_index_or ns k n ≡ n → contains ns n ≡ true
member-at [] n k l e = absurd (omega (arith, l))
member-at (m ∷ ms) n zero l e = or-left (m == n) (contains ms n) (eq-eqb m n e)
member-at (m ∷ ms) n (suc k) l e = or-right (m == n) (contains ms n) (member-at ms n k (omega (arith, l)) e)

member : (ns : List ℕ) (n : ℕ) → Contains ns n → contains ns n ≡ true
member ns n c = member-at ns n c.0 c.1 c.2

-- ---- scopes

abbrev pub EachScope : (OpenScope → Type 0) → List OpenScope → Type 0
EachScope P [] = Unit {0}
EachScope P (s ∷ ss) = P s × EachScope P ss

each-more : (P Q : OpenScope → Type 0) → ((s : OpenScope) → P s → Q s) → (ss : List OpenScope) → EachScope P ss → EachScope Q ss
each-more P Q f [] h = tt
each-more P Q f (s ∷ ss) h = (f s h.0, each-more P Q f ss h.1)

-- a command that is in none of the closed scopes, which are given by their first and their last command
abbrev pub Clear : List (ℕ × ℕ) → ℕ → Type 0
Clear [] m = Unit {0}
Clear (c ∷ cs) m = (c.0 ≤ m → c.1 ≤ m) × Clear cs m

abbrev pub ClosedBelow : List (ℕ × ℕ) → ℕ → Type 0
ClosedBelow [] p = Unit {0}
ClosedBelow (c ∷ cs) p = (c.1 < p) × ClosedBelow cs p

abbrev pub closed_with : List (ℕ × ℕ) → List OpenScope → (p : ℕ) → List (ℕ × ℕ)
closed_with closed [] p = closed
closed_with closed (s ∷ ss) p = (s.number, p) ∷ closed

abbrev pub closed_after : List (ℕ × ℕ) → List OpenScope → (p : ℕ) → Act → List (ℕ × ℕ)
closed_after closed ss p (Closes step) = closed_with closed ss p
closed_after closed ss p act = closed

abbrev pub IsSome : List OpenScope → Type 0
IsSome [] = ⊥
IsSome (s ∷ ss) = Unit {0}

abbrev pub IsOpen : List OpenScope → Act → Type 0
IsOpen ss (Closes step) = IsSome ss
IsOpen ss act = Unit {0}

abbrev pub IsElsewhere : OpenScope → Type 0
IsElsewhere s = s.elsewhere ≡ true

module _ (proof : List ℕ) (last : List ℕ) where
  -- What is known of the commands of a run: they are numbered, premises come before and are in no scope that is closed, and what is in a scope is of the proof where the scope is.
  abbrev pub IsRun : List OpenScope → List (ℕ × ℕ) → ℕ → List Seen → Type 0
  IsRun ss closed p [] = (ss ≡ []) × Every (Clear closed) last
  IsRun ss closed p (c ∷ cs) =
      (c.number ≡ p) × Every (λ (m : ℕ). (m < p) × Clear closed m) (premises_of c.act) × (is_elsewhere proof c ≡ true → EachScope IsElsewhere ss) × IsOpen ss c.act
      × IsRun (opens_after proof ss c c.act) (closed_after closed ss p c.act) (suc p) cs

  abbrev pub Stack : List OpenScope → List (ℕ × ℕ) → ℕ → Type 0
  Stack [] closed p = Unit {0}
  Stack (s ∷ ss) closed p = (s.number < p) × Clear closed s.number × (s.elsewhere ≡ true → EachScope IsElsewhere ss) × Stack ss closed s.number

  -- which of the open scopes are needed, by whether their ends are
  abbrev pub flags_before : Act → Bool → List Bool → List Bool
  flags_before (Opens t) n f = drop 1 f
  flags_before (Closes t) n f = n ∷ f
  flags_before act n f = f

  pub flags : List OpenScope → List Seen → List Bool
  flags ss [] = []
  flags ss (c ∷ cs) = flags_before c.act (is_needed proof ss c (needs proof (opens_after proof ss c c.act) last cs)) (flags (opens_after proof ss c c.act) cs)

  -- nothing in the scope is needed
  abbrev pub Dead : ℕ → List ℕ → OpenScope → Type 0
  Dead p w s = (s.elsewhere ≡ false) × ((m : ℕ) → contains w m ≡ true → m < p → m < s.number)

  abbrev pub Flagged : List OpenScope → List Bool → ℕ → List ℕ → Type 0
  Flagged [] [] p w = Unit {0}
  Flagged (s ∷ ss) (true ∷ f) p w = (contains w s.number ≡ true) × Flagged ss f p w
  Flagged (s ∷ ss) (false ∷ f) p w = Dead p w s × Flagged ss f p w
  Flagged ss f p w = ⊥

  flag-map : (ss : List OpenScope) (f : List Bool) (p : ℕ) (later w : List ℕ) → ((m : ℕ) → contains later m ≡ true → contains w m ≡ true) → EachScope (λ (s : OpenScope). Dead (suc p) later s → Dead p w s) ss →
      Flagged ss f (suc p) later → Flagged ss f p w
  flag-map [] [] p later w grow h i = tt
  flag-map (s ∷ ss) (true ∷ f) p later w grow h i = (grow s.number i.0, flag-map ss f p later w grow h.1 i.1)
  flag-map (s ∷ ss) (false ∷ f) p later w grow h i = (h.0 i.0, flag-map ss f p later w grow h.1 i.1)
  flag-map ss f p later w grow h i = absurd i

  -- ---- one command

  module _ (ss : List OpenScope) (closed : List (ℕ × ℕ)) (p : ℕ) (c : Seen) (cs : List Seen) (run : IsRun ss closed p (c ∷ cs)) (stack : Stack ss closed p) (below : ClosedBelow closed p) where
    abbrev later : List ℕ
    later = needs proof (opens_after proof ss c c.act) last cs

    abbrev here : Bool
    here = is_needed proof ss c (needs proof (opens_after proof ss c c.act) last cs)

    abbrev more : List ℕ
    more = c.number ∷ innermost ss ++ (premises_of c.act ++ needs proof (opens_after proof ss c c.act) last cs)

    needs-is : needs proof ss last (c ∷ cs) ≡ (if is_needed proof ss c (needs proof (opens_after proof ss c c.act) last cs) then c.number ∷ innermost ss ++ (premises_of c.act ++ needs proof (opens_after proof ss c c.act) last cs) else needs proof (opens_after proof ss c c.act) last cs)
    unfolding needs
    needs-is = refl

    grows : (m : ℕ) → contains (needs proof (opens_after proof ss c c.act) last cs) m ≡ true → contains (needs proof ss last (c ∷ cs)) m ≡ true
    grows m e = subst (λ (w : List ℕ). contains w m ≡ true) (sym needs-is) (go (is_needed proof ss c (needs proof (opens_after proof ss c c.act) last cs)))
      where
        go : (b : Bool) → contains (if b then c.number ∷ innermost ss ++ (premises_of c.act ++ needs proof (opens_after proof ss c c.act) last cs) else needs proof (opens_after proof ss c c.act) last cs) m ≡ true
        go true = in-rest c.number _ m (in-append (innermost ss) _ m (in-append (premises_of c.act) _ m e))
        go false = e

    innermost-below : (ss : List OpenScope) → Stack ss closed p → (m : ℕ) → contains (innermost ss) m ≡ true → (m < p) × Clear closed m
    innermost-below [] h m e = absurd (true≢false (sym e))
    innermost-below (s ∷ ss) h m e = or-true (s.number == m) false ((m < p) × Clear closed m) (λ f. subst (λ (n : ℕ). (n < p) × Clear closed n) (eqb-true s.number m f) (h.0, h.1)) (λ f. absurd (true≢false (sym f))) e

    -- what is added is this command, or before it and clear
    added : (m : ℕ) (P : Type 0) → (contains (needs proof (opens_after proof ss c c.act) last cs) m ≡ true → P) → (m ≡ p → P) → ((m < p) × Clear closed m → P) → contains (needs proof ss last (c ∷ cs)) m ≡ true → P
    added m P f g h e = go (is_needed proof ss c (needs proof (opens_after proof ss c c.act) last cs)) (subst (λ (w : List ℕ). contains w m ≡ true) needs-is e)
      where
        go : (b : Bool) → contains (if b then c.number ∷ innermost ss ++ (premises_of c.act ++ needs proof (opens_after proof ss c c.act) last cs) else needs proof (opens_after proof ss c c.act) last cs) m ≡ true → P
        go false e = f e
        go true e =
            or-true (c.number == m) _ P (λ i. g (sym (eqb-true c.number m i) ∙ run.0))
            (λ i. append-in (innermost ss) _ m P (λ j. h (innermost-below ss stack m j)) (λ j. append-in (premises_of c.act) _ m P (λ k. h (every-member (λ (n : ℕ). (n < p) × Clear closed n) (premises_of c.act) m run.1 k)) f j) i) e

    -- where this command is not needed, nothing is added
    not-here : is_needed proof ss c (needs proof (opens_after proof ss c c.act) last cs) ≡ false → needs proof ss last (c ∷ cs) ≡ needs proof (opens_after proof ss c c.act) last cs
    not-here e = needs-is ∙ ap (λ b. if b then c.number ∷ innermost ss ++ (premises_of c.act ++ needs proof (opens_after proof ss c c.act) last cs) else needs proof (opens_after proof ss c c.act) last cs) e

    is-here : is_needed proof ss c (needs proof (opens_after proof ss c c.act) last cs) ≡ true → needs proof ss last (c ∷ cs) ≡ c.number ∷ innermost ss ++ (premises_of c.act ++ needs proof (opens_after proof ss c c.act) last cs)
    is-here e = needs-is ∙ ap (λ b. if b then c.number ∷ innermost ss ++ (premises_of c.act ++ needs proof (opens_after proof ss c c.act) last cs) else needs proof (opens_after proof ss c c.act) last cs) e

    -- a needed command is in no scope of which nothing is needed
    reasons : (w : List ℕ) (s : OpenScope) → s.number < p → (is_elsewhere proof c ≡ true → s.elsewhere ≡ true) → (is_needed_in ss c.act w ≡ true → Dead (suc p) w s → ⊥) → is_needed proof ss c w ≡ true → Dead (suc p) w s → ⊥
    reasons w s lt else_ inside e dead =
        or-true _ (is_needed_in ss c.act w) ⊥
        (λ f. or-true (is_elsewhere proof c) (contains w c.number) ⊥ (λ g. true≢false (sym (else_ g) ∙ dead.0))
        (λ g. let small = dead.1 p (ap (contains w) (sym run.0) ∙ g) (omega arith) in omega (arith, small, lt)) f)
        (λ g. inside g dead) e

    dead-keeps : (s : OpenScope) → (is_needed proof ss c (needs proof (opens_after proof ss c c.act) last cs) ≡ true → Dead (suc p) (needs proof (opens_after proof ss c c.act) last cs) s → ⊥) →
        Dead (suc p) (needs proof (opens_after proof ss c c.act) last cs) s → Dead p (needs proof ss last (c ∷ cs)) s
    dead-keeps s never dead = (dead.0, λ m e lt. go (is_needed proof ss c (needs proof (opens_after proof ss c c.act) last cs)) refl m e lt)
      where
        go : (b : Bool) → is_needed proof ss c (needs proof (opens_after proof ss c c.act) last cs) ≡ b → (m : ℕ) → contains (needs proof ss last (c ∷ cs)) m ≡ true → m < p → m < s.number
        go true e m f lt = absurd (never e dead)
        go false e m f lt = dead.1 m (subst (λ (w : List ℕ). contains w m ≡ true) (not-here e) f) (omega (arith, lt))

  -- the scopes around one are of other files where it is, and older
  around : (ss : List OpenScope) (closed : List (ℕ × ℕ)) (p : ℕ) → Stack ss closed p → EachScope (λ (s : OpenScope). s.number < p) ss
  around [] closed p h = tt
  around (s ∷ ss) closed p h = (h.0, each-more (λ (t : OpenScope). t.number < s.number) (λ (t : OpenScope). t.number < p) (λ t l. omega (arith, l, h.0)) ss (around ss closed s.number h.3))

  each-both : (P Q : OpenScope → Type 0) (ss : List OpenScope) → EachScope P ss → EachScope Q ss → EachScope (λ (s : OpenScope). P s × Q s) ss
  each-both P Q [] h i = tt
  each-both P Q (s ∷ ss) h i = ((h.0, i.0), each-both P Q ss h.1 i.1)

  each-when : (P : OpenScope → Type 0) (A : Type 0) (ss : List OpenScope) → (A → EachScope P ss) → EachScope (λ (s : OpenScope). A → P s) ss
  each-when P A [] h = tt
  each-when P A (s ∷ ss) h = ((λ a. (h a).0), each-when P A ss (λ a. (h a).1))

  -- what a needed command says of the scopes around it
  abbrev Never : List OpenScope → ℕ → Seen → List ℕ → OpenScope → Type 0
  Never ss p c w s = is_needed proof ss c w ≡ true → Dead (suc p) w s → ⊥

  module _ (ss : List OpenScope) (closed : List (ℕ × ℕ)) (p : ℕ) (c : Seen) (cs : List Seen) (run : IsRun ss closed p (c ∷ cs)) (stack : Stack ss closed p) (below : ClosedBelow closed p) where
    -- a command that ends no scope
    never-level : (act : Act) → c.act ≡ act → ((h : OpenScope) (hs : List OpenScope) (w : List ℕ) → is_needed_in (h ∷ hs) act w ≡ true → (s : OpenScope) → s.number ≤ h.number → h.number < p → Dead (suc p) w s → ⊥) →
        (w : List ℕ) → (tops : List OpenScope) → ss ≡ tops → EachScope (Never ss p c w) tops
    never-level act is inside w [] same = tt
    never-level act is inside w (h ∷ hs) same =
        let at : Stack (h ∷ hs) closed p = subst (λ (x : List OpenScope). Stack x closed p) same stack in
        let lower : EachScope (λ (s : OpenScope). s.number ≤ h.number) (h ∷ hs) = (omega arith, each-more (λ (t : OpenScope). t.number < h.number) (λ (t : OpenScope). t.number ≤ h.number) (λ t l. omega (arith, l)) hs (around hs closed h.number at.3)) in
        let elses : EachScope (λ (s : OpenScope). is_elsewhere proof c ≡ true → s.elsewhere ≡ true) (h ∷ hs) = each-when IsElsewhere (is_elsewhere proof c ≡ true) (h ∷ hs) (λ e. subst (EachScope IsElsewhere) same (run.2 e)) in
        each-more (λ (s : OpenScope). ((s.number < p) × (s.number ≤ h.number)) × (is_elsewhere proof c ≡ true → s.elsewhere ≡ true)) (Never ss p c w)
        (λ s k. reasons ss closed p c cs run stack below w s k.0.0 k.1 (λ e dead. inside h hs w (subst (λ (x : List OpenScope). is_needed_in x act w ≡ true) same (subst (λ (a : Act). is_needed_in ss a w ≡ true) is e)) s k.0.1 at.0 dead))
        (h ∷ hs) (each-both (λ (s : OpenScope). (s.number < p) × (s.number ≤ h.number)) (λ (s : OpenScope). is_elsewhere proof c ≡ true → s.elsewhere ≡ true) (h ∷ hs)
        (each-both (λ (s : OpenScope). s.number < p) (λ (s : OpenScope). s.number ≤ h.number) (h ∷ hs) (around (h ∷ hs) closed p at) lower) elses)

    -- one that ends one
    never-close : (note : StepNote) → c.act ≡ Closes note → (w : List ℕ) (h : OpenScope) (hs : List OpenScope) → ss ≡ h ∷ hs → EachScope (Never ss p c w) hs
    never-close note is w h hs same =
        let at : Stack (h ∷ hs) closed p = subst (λ (x : List OpenScope). Stack x closed p) same stack in
        let elses : EachScope (λ (s : OpenScope). is_elsewhere proof c ≡ true → s.elsewhere ≡ true) (h ∷ hs) = each-when IsElsewhere (is_elsewhere proof c ≡ true) (h ∷ hs) (λ e. subst (EachScope IsElsewhere) same (run.2 e)) in
        let outer : EachScope (λ (s : OpenScope). h.elsewhere ≡ true → s.elsewhere ≡ true) hs = each-when IsElsewhere (h.elsewhere ≡ true) hs at.2 in
        each-more (λ (s : OpenScope). ((s.number < p) × (is_elsewhere proof c ≡ true → s.elsewhere ≡ true)) × (h.elsewhere ≡ true → s.elsewhere ≡ true)) (Never ss p c w)
        (λ s k. reasons ss closed p c cs run stack below w s k.0.0 k.0.1 (λ e dead. true≢false (sym (k.1 (subst (λ (x : List OpenScope). is_needed_in x (Closes note) w ≡ true) same (subst (λ (a : Act). is_needed_in ss a w ≡ true) is e))) ∙ dead.0)))
        hs (each-both (λ (s : OpenScope). (s.number < p) × (is_elsewhere proof c ≡ true → s.elsewhere ≡ true)) (λ (s : OpenScope). h.elsewhere ≡ true → s.elsewhere ≡ true) hs
        (each-both (λ (s : OpenScope). s.number < p) (λ (s : OpenScope). is_elsewhere proof c ≡ true → s.elsewhere ≡ true) hs (around (h ∷ hs) closed p at).1 elses.1) outer)

  inside-defines : (h : OpenScope) (hs : List OpenScope) (w : List ℕ) (p : ℕ) → is_needed_in (h ∷ hs) Defines w ≡ true → (s : OpenScope) → s.number ≤ h.number → h.number < p → Dead (suc p) w s → ⊥
  inside-defines h hs w p e s le lt dead = let small = dead.1 h.number e (omega (arith, lt)) in omega (arith, small, le)

  -- ---- after a command

  clear-now : (closed : List (ℕ × ℕ)) (p : ℕ) → ClosedBelow closed p → Clear closed p
  clear-now [] p h = tt
  clear-now (c ∷ cs) p h = ((λ l. omega (arith, h.0)), clear-now cs p h.1)

  below-up : (closed : List (ℕ × ℕ)) (p : ℕ) → ClosedBelow closed p → ClosedBelow closed (suc p)
  below-up [] p h = tt
  below-up (c ∷ cs) p h = (omega (arith, h.0), below-up cs p h.1)

  stack-up : (ss : List OpenScope) (closed : List (ℕ × ℕ)) (p : ℕ) → Stack ss closed p → Stack ss closed (suc p)
  stack-up [] closed p h = tt
  stack-up (s ∷ ss) closed p h = (omega (arith, h.0), h.1, h.2, h.3)

  stack-closed : (ss : List OpenScope) (closed : List (ℕ × ℕ)) (b k q : ℕ) → b ≤ k → Stack ss closed b → Stack ss ((k, q) ∷ closed) b
  stack-closed [] closed b k q l h = tt
  stack-closed (s ∷ ss) closed b k q l h = (h.0, ((λ m. absurd (omega (arith, l, h.0, m))), h.1), h.2, stack-closed ss closed s.number k q (omega (arith, l, h.0)) h.3)

  stack-far : (ss : List OpenScope) (closed : List (ℕ × ℕ)) (b p : ℕ) → b ≤ p → Stack ss closed b → Stack ss closed p
  stack-far [] closed b p l h = tt
  stack-far (s ∷ ss) closed b p l h = (omega (arith, l, h.0), h.1, h.2, h.3)

  module _ (ss : List OpenScope) (closed : List (ℕ × ℕ)) (p : ℕ) (c : Seen) (number : c.number ≡ p) (elses : is_elsewhere proof c ≡ true → EachScope IsElsewhere ss) (stack : Stack ss closed p) (below : ClosedBelow closed p) where
    close-next : (tops : List OpenScope) → ss ≡ tops → IsSome tops → Stack (drop 1 tops) (closed_with closed tops p) (suc p)
    close-next [] same h = absurd h
    close-next (s ∷ rest) same h =
        let at : Stack (s ∷ rest) closed p = subst (λ (x : List OpenScope). Stack x closed p) same stack in
        stack-far rest ((s.number, p) ∷ closed) s.number (suc p) (omega (arith, at.0)) (stack-closed rest closed s.number s.number p (omega arith) at.3)

    pub stack-next : (act : Act) → IsOpen ss act → Stack (opens_after proof ss c act) (closed_after closed ss p act) (suc p)
    stack-next (Opens t) o = (omega (arith, number), subst (Clear closed) (sym number) (clear-now closed p below), elses, subst (Stack ss closed) (sym number) stack)
    stack-next (Closes t) o = close-next ss refl o
    stack-next Declares o = stack-up ss closed p stack
    stack-next Defines o = stack-up ss closed p stack
    stack-next (Asserts t) o = stack-up ss closed p stack
    stack-next (Assumes t) o = stack-up ss closed p stack
    stack-next (Derives t) o = stack-up ss closed p stack
    stack-next Other o = stack-up ss closed p stack

    below-close : (tops : List OpenScope) → ClosedBelow (closed_with closed tops p) (suc p)
    below-close [] = below-up closed p below
    below-close (s ∷ rest) = (omega arith, below-up closed p below)

    pub below-next : (act : Act) → ClosedBelow (closed_after closed ss p act) (suc p)
    below-next (Closes t) = below-close ss
    below-next (Opens t) = below-up closed p below
    below-next Declares = below-up closed p below
    below-next Defines = below-up closed p below
    below-next (Asserts t) = below-up closed p below
    below-next (Assumes t) = below-up closed p below
    below-next (Derives t) = below-up closed p below
    below-next Other = below-up closed p below

  clear-before : (closed : List (ℕ × ℕ)) (ss : List OpenScope) (p : ℕ) (act : Act) (m : ℕ) → Clear (closed_after closed ss p act) m → Clear closed m
  clear-before closed ss p (Closes t) m h = go ss h
    where
      go : (ss : List OpenScope) → Clear (closed_with closed ss p) m → Clear closed m
      go [] h = h
      go (s ∷ ss) h = h.1
  clear-before closed ss p act m h = h

  -- what holds of the needs of the commands that are left
  pub record Inv (ss : List OpenScope) (closed : List (ℕ × ℕ)) (p : ℕ) (f : List Bool) (w : List ℕ) : Type 0 where
    pub clear : (m : ℕ) → contains w m ≡ true → m < p → Clear closed m
    pub flagged : Flagged ss f p w

  module _ (ss : List OpenScope) (closed : List (ℕ × ℕ)) (p : ℕ) (c : Seen) (cs : List Seen) (run : IsRun ss closed p (c ∷ cs)) (stack : Stack ss closed p) (below : ClosedBelow closed p)
      (next : Inv (opens_after proof ss c c.act) (closed_after closed ss p c.act) (suc p) (flags (opens_after proof ss c c.act) cs) (needs proof (opens_after proof ss c c.act) last cs)) where
    clear_here : (m : ℕ) → contains (needs proof ss last (c ∷ cs)) m ≡ true → m < p → Clear closed m
    clear_here m e lt =
        added ss closed p c cs run stack below m (Clear closed m) (λ f. clear-before closed ss p c.act m (next.clear m f (omega (arith, lt)))) (λ same. absurd (omega (arith, same, lt))) (λ h. h.1) e

    -- a scope that was open before, too
    keep-flags : (tops : List OpenScope) (f : List Bool) → EachScope (Never ss p c (needs proof (opens_after proof ss c c.act) last cs)) tops → Flagged tops f (suc p) (needs proof (opens_after proof ss c c.act) last cs) → Flagged tops f p (needs proof ss last (c ∷ cs))
    keep-flags tops f never h =
        flag-map tops f p (needs proof (opens_after proof ss c c.act) last cs) (needs proof ss last (c ∷ cs)) (grows ss closed p c cs run stack below)
        (each-more (Never ss p c (needs proof (opens_after proof ss c c.act) last cs)) (λ (s : OpenScope). Dead (suc p) (needs proof (opens_after proof ss c c.act) last cs) s → Dead p (needs proof ss last (c ∷ cs)) s)
        (λ s n. dead-keeps ss closed p c cs run stack below s n) tops never) h

    level-flags : (act : Act) → c.act ≡ act → opens_after proof ss c act ≡ ss → ((n : Bool) (f : List Bool) → flags_before act n f ≡ f) →
        ((h : OpenScope) (hs : List OpenScope) (w : List ℕ) → is_needed_in (h ∷ hs) act w ≡ true → (s : OpenScope) → s.number ≤ h.number → h.number < p → Dead (suc p) w s → ⊥) → Flagged ss (flags ss (c ∷ cs)) p (needs proof ss last (c ∷ cs))
    unfolding flags
    level-flags act is level flat inside =
        let same : flags_before c.act (is_needed proof ss c (needs proof (opens_after proof ss c c.act) last cs)) (flags (opens_after proof ss c c.act) cs) ≡ flags (opens_after proof ss c c.act) cs =
        ap (λ a. flags_before a (is_needed proof ss c (needs proof (opens_after proof ss c c.act) last cs)) (flags (opens_after proof ss c c.act) cs)) is ∙ flat _ _ in
        subst (λ (f : List Bool). Flagged ss f p (needs proof ss last (c ∷ cs))) (sym same)
        (keep-flags ss (flags (opens_after proof ss c c.act) cs) (never-level ss closed p c cs run stack below act is inside (needs proof (opens_after proof ss c c.act) last cs) ss refl)
        (subst (λ (x : List OpenScope). Flagged x (flags (opens_after proof ss c c.act) cs) (suc p) (needs proof (opens_after proof ss c c.act) last cs)) (ap (opens_after proof ss c) is ∙ level) next.flagged))

    first-dropped : (o : OpenScope) (tops : List OpenScope) (f : List Bool) (q : ℕ) (w : List ℕ) → Flagged (o ∷ tops) f q w → Flagged tops (drop 1 f) q w
    first-dropped o tops [] q w h = absurd h
    first-dropped o tops (true ∷ f) q w h = h.1
    first-dropped o tops (false ∷ f) q w h = h.1

    open-flags : (t : Tree) → c.act ≡ Opens t → Flagged ss (flags ss (c ∷ cs)) p (needs proof ss last (c ∷ cs))
    unfolding flags
    open-flags t is =
        let same : flags_before c.act (is_needed proof ss c (needs proof (opens_after proof ss c c.act) last cs)) (flags (opens_after proof ss c c.act) cs) ≡ drop 1 (flags (opens_after proof ss c c.act) cs) =
        ap (λ a. flags_before a (is_needed proof ss c (needs proof (opens_after proof ss c c.act) last cs)) (flags (opens_after proof ss c c.act) cs)) is in
        subst (λ (f : List Bool). Flagged ss f p (needs proof ss last (c ∷ cs))) (sym same)
        (keep-flags ss (drop 1 (flags (opens_after proof ss c c.act) cs)) (never-level ss closed p c cs run stack below (Opens t) is (λ h hs w e. absurd (true≢false (sym e))) (needs proof (opens_after proof ss c c.act) last cs) ss refl)
        (first-dropped (record { number = c.number; elsewhere = is_elsewhere proof c }) ss (flags (opens_after proof ss c c.act) cs) (suc p) (needs proof (opens_after proof ss c c.act) last cs)
        (subst (λ (x : List OpenScope). Flagged x (flags (opens_after proof ss c c.act) cs) (suc p) (needs proof (opens_after proof ss c c.act) last cs)) (ap (opens_after proof ss c) is) next.flagged)))

    above : (a b : ℕ) → (a ≤ b → ⊥) → b < a
    above a b f = go (nat_le a b) refl
      where
        go : (t : Bool) → nat_le a b ≡ t → b < a
        go true e = absurd (f (leb-true a b e))
        go false e = leb-false a b e

    in_by : (tops : List OpenScope) (h : OpenScope) (hs : List OpenScope) (note : StepNote) (w : List ℕ) → tops ≡ h ∷ hs → c.act ≡ Closes note → is_needed_in tops c.act w ≡ h.elsewhere
    in_by tops h hs note w same is = ap (λ x. is_needed_in x c.act w) same ∙ ap (λ a. is_needed_in (h ∷ hs) a w) is

    close-dead : (note : StepNote) → c.act ≡ Closes note → (h : OpenScope) (hs : List OpenScope) → ss ≡ h ∷ hs → is_needed proof ss c (needs proof (opens_after proof ss c c.act) last cs) ≡ false → Dead p (needs proof ss last (c ∷ cs)) h
    close-dead note is h hs same e = (
      not_else h.elsewhere refl,
      λ m f lt. above h.number m (λ le.
          let clear : Clear ((h.number, p) ∷ closed) m = subst (λ (x : List OpenScope). Clear (closed_with closed x p) m) same (subst (λ (a : Act). Clear (closed_after closed ss p a) m) is
          (next.clear m (subst (λ (w : List ℕ). contains w m ≡ true) (not-here ss closed p c cs run stack below e) f) (omega (arith, lt)))) in
          let late = clear.0 le in omega (arith, late, lt)),
    )
      where
        not_else : (b : Bool) → h.elsewhere ≡ b → h.elsewhere ≡ false
        not_else false f = f
        not_else true f = absurd (true≢false (sym (or-right _ (is_needed_in ss c.act (needs proof (opens_after proof ss c c.act) last cs)) (in_by ss h hs note _ same is ∙ f)) ∙ e))

    close-alive : (h : OpenScope) (hs : List OpenScope) → ss ≡ h ∷ hs → is_needed proof ss c (needs proof (opens_after proof ss c c.act) last cs) ≡ true → contains (needs proof ss last (c ∷ cs)) h.number ≡ true
    close-alive h hs same e =
        subst (λ (w : List ℕ). contains w h.number ≡ true) (sym (is-here ss closed p c cs run stack below e))
        (in-rest c.number _ h.number (in-front (innermost ss) _ h.number (subst (λ (x : List OpenScope). contains (innermost x) h.number ≡ true) (sym same) (in-first h.number []))))

    close-flags : (note : StepNote) → c.act ≡ Closes note → (h : OpenScope) (hs : List OpenScope) → ss ≡ h ∷ hs → Flagged ss (flags ss (c ∷ cs)) p (needs proof ss last (c ∷ cs))
    unfolding flags
    close-flags note is h hs same =
        let n = is_needed proof ss c (needs proof (opens_after proof ss c c.act) last cs) in
        let f = flags (opens_after proof ss c c.act) cs in
        let rest : Flagged hs (flags (opens_after proof ss c c.act) cs) p (needs proof ss last (c ∷ cs)) =
        keep-flags hs (flags (opens_after proof ss c c.act) cs) (never-close ss closed p c cs run stack below note is (needs proof (opens_after proof ss c c.act) last cs) h hs same)
        (subst (λ (x : List OpenScope). Flagged x (flags (opens_after proof ss c c.act) cs) (suc p) (needs proof (opens_after proof ss c c.act) last cs)) (ap (opens_after proof ss c) is ∙ ap (drop 1) same) next.flagged) in
        subst (λ (a : Act). Flagged ss (flags_before a (is_needed proof ss c (needs proof (opens_after proof ss c c.act) last cs)) (flags (opens_after proof ss c c.act) cs)) p (needs proof ss last (c ∷ cs))) (sym is)
        (subst (λ (x : List OpenScope). Flagged x (is_needed proof ss c (needs proof (opens_after proof ss c c.act) last cs) ∷ flags (opens_after proof ss c c.act) cs) p (needs proof ss last (c ∷ cs))) (sym same)
        (both (is_needed proof ss c (needs proof (opens_after proof ss c c.act) last cs)) refl rest))
      where
        both : (b : Bool) → is_needed proof ss c (needs proof (opens_after proof ss c c.act) last cs) ≡ b → Flagged hs (flags (opens_after proof ss c c.act) cs) p (needs proof ss last (c ∷ cs)) →
            Flagged (h ∷ hs) (b ∷ flags (opens_after proof ss c c.act) cs) p (needs proof ss last (c ∷ cs))
        both true e rest = (close-alive h hs same e, rest)
        both false e rest = (close-dead note is h hs same e, rest)

    close-top : (note : StepNote) → c.act ≡ Closes note → (tops : List OpenScope) → ss ≡ tops → IsSome tops → Flagged ss (flags ss (c ∷ cs)) p (needs proof ss last (c ∷ cs))
    close-top note is [] same h = absurd h
    close-top note is (h ∷ hs) same k = close-flags note is h hs same

    here-flags : (act : Act) → c.act ≡ act → Flagged ss (flags ss (c ∷ cs)) p (needs proof ss last (c ∷ cs))
    here-flags (Opens t) is = open-flags t is
    here-flags (Closes note) is = close-top note is ss refl (subst (λ (a : Act). IsOpen ss a) is run.3)
    here-flags Defines is = level-flags Defines is refl (λ n f. refl) (λ h hs w e. inside-defines h hs w p e)
    here-flags Declares is = level-flags Declares is refl (λ n f. refl) (λ h hs w e. absurd (true≢false (sym e)))
    here-flags (Asserts t) is = level-flags (Asserts t) is refl (λ n f. refl) (λ h hs w e. absurd (true≢false (sym e)))
    here-flags (Assumes t) is = level-flags (Assumes t) is refl (λ n f. refl) (λ h hs w e. absurd (true≢false (sym e)))
    here-flags (Derives t) is = level-flags (Derives t) is refl (λ n f. refl) (λ h hs w e. absurd (true≢false (sym e)))
    here-flags Other is = level-flags Other is refl (λ n f. refl) (λ h hs w e. absurd (true≢false (sym e)))

  pub inv : (cs : List Seen) (ss : List OpenScope) (closed : List (ℕ × ℕ)) (p : ℕ) → IsRun ss closed p cs → Stack ss closed p → ClosedBelow closed p → Inv ss closed p (flags ss cs) (needs proof ss last cs)
  unfolding flags needs
  inv [] ss closed p run stack below = record {
    clear = λ m e lt. every-member (Clear closed) last m run.1 e;
    flagged = subst (λ (x : List OpenScope). Flagged x [] p last) (sym run.0) tt;
  }
  inv (c ∷ cs) ss closed p run stack below =
      let next = inv cs (opens_after proof ss c c.act) (closed_after closed ss p c.act) (suc p) run.4 (stack-next ss closed p c run.0 run.2 stack below c.act run.3) (below-next ss closed p c run.0 run.2 stack below c.act) in
      record { clear = clear_here ss closed p c cs run stack below next; flagged = here-flags ss closed p c cs run stack below next c.act refl }

  -- ---- from the first command on

  -- scopes of which nothing is needed are not needed in the end
  abbrev Zero : List ℕ → List OpenScope → List Bool → Type 0
  Zero W (s ∷ ss) (true ∷ f) = Zero W ss f
  Zero W (s ∷ ss) (false ∷ f) = (contains W s.number ≡ false) × Zero W ss f
  Zero W ss f = Unit {0}

  record AtPoint (W : List ℕ) (ss : List OpenScope) (closed : List (ℕ × ℕ)) (p : ℕ) (cs : List Seen) : Type 0 where
    run : IsRun ss closed p cs
    stack : Stack ss closed p
    below : ClosedBelow closed p
    bounded : (m : ℕ) → contains W m ≡ true → p ≤ m → contains (needs proof ss last cs) m ≡ true
    within : (m : ℕ) → contains (needs proof ss last cs) m ≡ true → contains W m ≡ true
    zero_is : Zero W ss (flags ss cs)

  module _ (W : List ℕ) (ss : List OpenScope) (closed : List (ℕ × ℕ)) (p : ℕ) (c : Seen) (cs : List Seen) (at : AtPoint W ss closed p (c ∷ cs)) where
    abbrev tail : List ℕ
    tail = needs proof (opens_after proof ss c c.act) last cs

    next_inv : Inv (opens_after proof ss c c.act) (closed_after closed ss p c.act) (suc p) (flags (opens_after proof ss c c.act) cs) (needs proof (opens_after proof ss c c.act) last cs)
    next_inv = inv cs (opens_after proof ss c c.act) (closed_after closed ss p c.act) (suc p) at.run.4 (stack-next ss closed p c at.run.0 at.run.2 at.stack at.below c.act at.run.3) (below-next ss closed p c at.run.0 at.run.2 at.stack at.below c.act)

    -- what is needed in the end is needed here
    taken : contains W c.number ≡ true → is_needed proof ss c (needs proof (opens_after proof ss c c.act) last cs) ≡ true
    taken e = go (is_needed proof ss c (needs proof (opens_after proof ss c c.act) last cs)) refl
      where
        go : (b : Bool) → is_needed proof ss c (needs proof (opens_after proof ss c c.act) last cs) ≡ b → b ≡ true
        go true f = refl
        go false f =
            let here = subst (λ (w : List ℕ). contains w c.number ≡ true) (not-here ss closed p c cs at.run at.stack at.below f) (at.bounded c.number e (omega (arith, at.run.0))) in
            sym f ∙ or-left _ (is_needed_in ss c.act (needs proof (opens_after proof ss c c.act) last cs)) (or-right (is_elsewhere proof c) _ here)

    in_all : is_needed proof ss c (needs proof (opens_after proof ss c c.act) last cs) ≡ true → (m : ℕ) → contains (c.number ∷ innermost ss ++ (premises_of c.act ++ needs proof (opens_after proof ss c c.act) last cs)) m ≡ true → contains W m ≡ true
    in_all e m f = at.within m (subst (λ (w : List ℕ). contains w m ≡ true) (sym (is-here ss closed p c cs at.run at.stack at.below e)) f)

    -- a scope that is opened here
    opened-zero : (t : Tree) → c.act ≡ Opens t → Dead (suc p) (needs proof (opens_after proof ss c c.act) last cs) (record { number = c.number; elsewhere = is_elsewhere proof c }) → contains W c.number ≡ false
    opened-zero t is dead = go (contains W c.number) refl
      where
        no_in : (tops : List OpenScope) → is_needed_in tops (Opens t) (needs proof (opens_after proof ss c c.act) last cs) ≡ true → ⊥
        no_in [] e = true≢false (sym e)
        no_in (h ∷ hs) e = true≢false (sym e)

        not_later : contains (needs proof (opens_after proof ss c c.act) last cs) c.number ≡ true → ⊥
        not_later e = let small = dead.1 c.number e (omega (arith, at.run.0)) in omega (arith, small)

        go : (b : Bool) → contains W c.number ≡ b → b ≡ false
        go false e = refl
        go true e = absurd (or-true _ (is_needed_in ss c.act (needs proof (opens_after proof ss c c.act) last cs)) ⊥
            (λ f. or-true (is_elsewhere proof c) _ ⊥ (λ g. true≢false (sym g ∙ dead.0)) not_later f)
            (λ f. no_in ss (subst (λ (a : Act). is_needed_in ss a (needs proof (opens_after proof ss c c.act) last cs) ≡ true) is f)) (taken e))

    zero-open : (t : Tree) → c.act ≡ Opens t → (f : List Bool) → Flagged (record { number = c.number; elsewhere = is_elsewhere proof c } ∷ ss) f (suc p) (needs proof (opens_after proof ss c c.act) last cs) → Zero W ss (drop 1 f) → Zero W (record { number = c.number; elsewhere = is_elsewhere proof c } ∷ ss) f
    zero-open t is [] h z = tt
    zero-open t is (true ∷ f) h z = z
    zero-open t is (false ∷ f) h z = (opened-zero t is h.0, z)

    zero-close : (tops : List OpenScope) (b : Bool) (f : List Bool) → Zero W tops (b ∷ f) → Zero W (drop 1 tops) f
    zero-close [] b f z = tt
    zero-close (s ∷ ss) true f z = z
    zero-close (s ∷ ss) false f z = z.1

    zero-next : (act : Act) → c.act ≡ act → Zero W (opens_after proof ss c act) (flags (opens_after proof ss c c.act) cs)
    unfolding flags
    zero-next (Opens t) is =
        zero-open t is (flags (opens_after proof ss c c.act) cs)
        (subst (λ (x : List OpenScope). Flagged x (flags (opens_after proof ss c c.act) cs) (suc p) (needs proof (opens_after proof ss c c.act) last cs)) (ap (opens_after proof ss c) is) next_inv.flagged)
        (subst (λ (a : Act). Zero W ss (flags_before a (is_needed proof ss c (needs proof (opens_after proof ss c c.act) last cs)) (flags (opens_after proof ss c c.act) cs))) is at.zero_is)
    zero-next (Closes t) is =
        zero-close ss (is_needed proof ss c (needs proof (opens_after proof ss c c.act) last cs)) (flags (opens_after proof ss c c.act) cs)
        (subst (λ (a : Act). Zero W ss (flags_before a (is_needed proof ss c (needs proof (opens_after proof ss c c.act) last cs)) (flags (opens_after proof ss c c.act) cs))) is at.zero_is)
    zero-next Declares is = subst (λ (a : Act). Zero W ss (flags_before a (is_needed proof ss c (needs proof (opens_after proof ss c c.act) last cs)) (flags (opens_after proof ss c c.act) cs))) is at.zero_is
    zero-next Defines is = subst (λ (a : Act). Zero W ss (flags_before a (is_needed proof ss c (needs proof (opens_after proof ss c c.act) last cs)) (flags (opens_after proof ss c c.act) cs))) is at.zero_is
    zero-next (Asserts t) is = subst (λ (a : Act). Zero W ss (flags_before a (is_needed proof ss c (needs proof (opens_after proof ss c c.act) last cs)) (flags (opens_after proof ss c c.act) cs))) is at.zero_is
    zero-next (Assumes t) is = subst (λ (a : Act). Zero W ss (flags_before a (is_needed proof ss c (needs proof (opens_after proof ss c c.act) last cs)) (flags (opens_after proof ss c c.act) cs))) is at.zero_is
    zero-next (Derives t) is = subst (λ (a : Act). Zero W ss (flags_before a (is_needed proof ss c (needs proof (opens_after proof ss c c.act) last cs)) (flags (opens_after proof ss c c.act) cs))) is at.zero_is
    zero-next Other is = subst (λ (a : Act). Zero W ss (flags_before a (is_needed proof ss c (needs proof (opens_after proof ss c c.act) last cs)) (flags (opens_after proof ss c c.act) cs))) is at.zero_is

    point-next : AtPoint W (opens_after proof ss c c.act) (closed_after closed ss p c.act) (suc p) cs
    point-next = record {
      run = at.run.4;
      stack = stack-next ss closed p c at.run.0 at.run.2 at.stack at.below c.act at.run.3;
      below = below-next ss closed p c at.run.0 at.run.2 at.stack at.below c.act;
      bounded = λ m e lt. added ss closed p c cs at.run at.stack at.below m (contains (needs proof (opens_after proof ss c c.act) last cs) m ≡ true) (λ f. f) (λ same. absurd (omega (arith, same, lt))) (λ h. absurd (omega (arith, h.0, lt))) (at.bounded m e (omega (arith, lt)));
      within = λ m e. at.within m (grows ss closed p c cs at.run at.stack at.below m e);
      zero_is = zero-next c.act refl;
    }

  record Reached (W : List ℕ) (ss : List OpenScope) (mid rest : List Seen) : Type 0 where
    scopes : List OpenScope
    closed : List (ℕ × ℕ)
    place : ℕ
    point : AtPoint W scopes closed place rest
    same : scopes_after_all (numbers ss) mid ≡ numbers scopes

  walk : (W : List ℕ) (mid rest : List Seen) (ss : List OpenScope) (closed : List (ℕ × ℕ)) (p : ℕ) → AtPoint W ss closed p (mid ++ rest) → Reached W ss mid rest
  walk W [] rest ss closed p at = record { scopes = ss; closed = closed; place = p; point = at; same = refl }
  walk W (c ∷ mid) rest ss closed p at =
      let r = walk W mid rest (opens_after proof ss c c.act) (closed_after closed ss p c.act) (suc p) (point-next W ss closed p c (mid ++ rest) at) in
      record { scopes = r.scopes; closed = r.closed; place = r.place; point = r.point; same = ap (λ xs. scopes_after_all xs mid) (sym (numbers-after proof ss c c.act)) ∙ r.same }

  last-in : (cs : List Seen) (ss : List OpenScope) (m : ℕ) → contains last m ≡ true → contains (needs proof ss last cs) m ≡ true
  unfolding needs
  last-in [] ss m e = e
  last-in (c ∷ cs) ss m e = go (is_needed proof ss c (needs proof (opens_after proof ss c c.act) last cs)) (last-in cs (opens_after proof ss c c.act) m e)
    where
      go : (b : Bool) → contains (needs proof (opens_after proof ss c c.act) last cs) m ≡ true → contains (if b then c.number ∷ innermost ss ++ (premises_of c.act ++ needs proof (opens_after proof ss c c.act) last cs) else needs proof (opens_after proof ss c c.act) last cs) m ≡ true
      go true f = in-rest c.number _ m (in-append (innermost ss) _ m (in-append (premises_of c.act) _ m f))
      go false f = f

-- ---- the law

module _ (proof : List ℕ) (final : Progress) where
  abbrev lasts : List ℕ
  lasts = option_to_list (first_false final.state.scopes)

  module _ (run : IsRun proof (option_to_list (first_false final.state.scopes)) [] [] 0 final.seen) where
    abbrev all : List ℕ
    all = needs proof [] (option_to_list (first_false final.state.scopes)) final.seen

    start : AtPoint proof (option_to_list (first_false final.state.scopes)) (needs proof [] (option_to_list (first_false final.state.scopes)) final.seen) [] [] 0 final.seen
    start = record { run = run; stack = tt; below = tt; bounded = λ m e lt. e; within = λ m e. e; zero_is = tt }

    reached : (before : List Seen) (c : Seen) (at : IsAt final.seen before c) → Reached proof (option_to_list (first_false final.state.scopes)) (needs proof [] (option_to_list (first_false final.state.scopes)) final.seen) [] before (c ∷ at.after)
    reached before c at =
        walk proof (option_to_list (first_false final.state.scopes)) (needs proof [] (option_to_list (first_false final.state.scopes)) final.seen) before (c ∷ at.after) [] [] 0
        (subst (λ (cs : List Seen). AtPoint proof (option_to_list (first_false final.state.scopes)) (needs proof [] (option_to_list (first_false final.state.scopes)) final.seen) [] [] 0 cs) at.is start)

    module _ (before : List Seen) (c : Seen) (at : IsAt final.seen before c) where
      abbrev point : Reached proof (option_to_list (first_false final.state.scopes)) (needs proof [] (option_to_list (first_false final.state.scopes)) final.seen) [] before (c ∷ at.after)
      point = reached before c at

      abbrev after_it : List ℕ
      after_it = needs proof (opens_after proof (reached before c at).scopes c c.act) (option_to_list (first_false final.state.scopes)) at.after

      abbrev is_taken : Bool
      is_taken = is_needed proof (reached before c at).scopes c (needs proof (opens_after proof (reached before c at).scopes c c.act) (option_to_list (first_false final.state.scopes)) at.after)

      all-in : is_needed proof (reached before c at).scopes c (needs proof (opens_after proof (reached before c at).scopes c c.act) (option_to_list (first_false final.state.scopes)) at.after) ≡ true → (m : ℕ) →
          contains (c.number ∷ innermost (reached before c at).scopes ++ (premises_of c.act ++ needs proof (opens_after proof (reached before c at).scopes c c.act) (option_to_list (first_false final.state.scopes)) at.after)) m ≡ true → needed proof final m ≡ true
      all-in e m f = in_all proof (option_to_list (first_false final.state.scopes)) (needs proof [] (option_to_list (first_false final.state.scopes)) final.seen) (reached before c at).scopes (reached before c at).closed (reached before c at).place c at.after (reached before c at).point e m f

      itself : is_needed proof (reached before c at).scopes c (needs proof (opens_after proof (reached before c at).scopes c c.act) (option_to_list (first_false final.state.scopes)) at.after) ≡ true → needed proof final c.number ≡ true
      itself e = all-in e c.number (in-first c.number _)

      taken-here : needed proof final c.number ≡ true → is_needed proof (reached before c at).scopes c (needs proof (opens_after proof (reached before c at).scopes c c.act) (option_to_list (first_false final.state.scopes)) at.after) ≡ true
      taken-here e = taken proof (option_to_list (first_false final.state.scopes)) (needs proof [] (option_to_list (first_false final.state.scopes)) final.seen) (reached before c at).scopes (reached before c at).closed (reached before c at).place c at.after (reached before c at).point e

      by_kind : is_needed_in (reached before c at).scopes c.act (needs proof (opens_after proof (reached before c at).scopes c c.act) (option_to_list (first_false final.state.scopes)) at.after) ≡ true → needed proof final c.number ≡ true
      by_kind e = itself (or-right _ _ e)

      by_file : c.file ≢ proof → needed proof final c.number ≡ true
      by_file other = itself (or-left _ _ (or-left (is_elsewhere proof c) _ (ap not (differs (bytes_eq c.file proof) refl))))
        where
          differs : (b : Bool) → bytes_eq c.file proof ≡ b → b ≡ false
          differs true e = absurd (other ((bytes_eq-Decides c.file proof).0 e))
          differs false e = refl

      by_premise : needed proof final c.number ≡ true → (n : ℕ) → Contains (premises_of c.act) n → needed proof final n ≡ true
      by_premise e n m = all-in (taken-here e) n (in-rest c.number _ n (in-append (innermost (reached before c at).scopes) _ n (in-front (premises_of c.act) _ n (member (premises_of c.act) n m))))

      in-innermost : (ss : List OpenScope) (n : ℕ) → slice_get (numbers ss) 0 ≡ Some n → contains (innermost ss) n ≡ true
      in-innermost [] n e = absurd (none-some n e)
      in-innermost (s ∷ ss) n e = or-left (s.number == n) false (eq-eqb s.number n (same_Some s.number n e))

      by_scope : needed proof final c.number ≡ true → (n : ℕ) → slice_get (scopes_after_all [] before) 0 ≡ Some n → needed proof final n ≡ true
      by_scope e n f = all-in (taken-here e) n (in-rest c.number _ n (in-front (innermost (reached before c at).scopes) _ n (in-innermost (reached before c at).scopes n (sym (ap (λ xs. slice_get xs 0) (reached before c at).same) ∙ f))))

      outside : (ss : List OpenScope) (act : Act) (w : List ℕ) → numbers ss ≡ [] → is_proof_step act ≡ false → is_needed_in ss act w ≡ true
      outside [] act w e f = ap not f
      outside (s ∷ ss) act w e f = absurd (cc e)

      by_level : scopes_after_all [] before ≡ [] → is_proof_step c.act ≡ false → needed proof final c.number ≡ true
      by_level e f = by_kind (outside (reached before c at).scopes c.act _ (sym (reached before c at).same ∙ e) f)

      -- the end of a scope, and a macro in it
      zero-first : (W : List ℕ) (ss : List OpenScope) (b : Bool) (f : List Bool) (n : ℕ) → slice_get (numbers ss) 0 ≡ Some n → contains W n ≡ true → Zero proof (option_to_list (first_false final.state.scopes)) W ss (b ∷ f) → b ≡ true
      zero-first W [] b f n e g z = absurd (none-some n e)
      zero-first W (s ∷ ss) true f n e g z = refl
      zero-first W (s ∷ ss) false f n e g z = absurd (true≢false (sym g ∙ sym (ap (contains W) (same_Some s.number n e)) ∙ z.0))

      first-kept : (W w : List ℕ) (ss : List OpenScope) (f : List Bool) (p n : ℕ) → slice_get (numbers ss) 0 ≡ Some n → contains W n ≡ true → Zero proof (option_to_list (first_false final.state.scopes)) W ss f → Flagged proof (option_to_list (first_false final.state.scopes)) ss f p w → is_needed_in ss Defines w ≡ true
      first-kept W w [] f p n e g z h = absurd (none-some n e)
      first-kept W w (s ∷ ss) [] p n e g z h = absurd h
      first-kept W w (s ∷ ss) (true ∷ f) p n e g z h = h.0
      first-kept W w (s ∷ ss) (false ∷ f) p n e g z h = absurd (true≢false (sym g ∙ sym (ap (contains W) (same_Some s.number n e)) ∙ z.0))

      by_close : (step : StepNote) → c.act ≡ Closes step → (n : ℕ) → slice_get (scopes_after_all [] before) 0 ≡ Some n → needed proof final n ≡ true → needed proof final c.number ≡ true
      unfolding flags
      by_close step is n e g =
          itself (zero-first (needs proof [] (option_to_list (first_false final.state.scopes)) final.seen) (reached before c at).scopes _ _ n (sym (ap (λ xs. slice_get xs 0) (reached before c at).same) ∙ e) g
          (subst (λ (a : Act). Zero proof (option_to_list (first_false final.state.scopes)) (needs proof [] (option_to_list (first_false final.state.scopes)) final.seen) (reached before c at).scopes
          (flags_before proof (option_to_list (first_false final.state.scopes)) a (is_needed proof (reached before c at).scopes c (needs proof (opens_after proof (reached before c at).scopes c c.act) (option_to_list (first_false final.state.scopes)) at.after))
          (flags proof (option_to_list (first_false final.state.scopes)) (opens_after proof (reached before c at).scopes c c.act) at.after))) is (reached before c at).point.zero_is))

      by_define : c.act ≡ Defines → (n : ℕ) → slice_get (scopes_after_all [] before) 0 ≡ Some n → needed proof final n ≡ true → needed proof final c.number ≡ true
      unfolding flags
      by_define is n e g =
          let r = reached before c at in
          let next = next_inv proof (option_to_list (first_false final.state.scopes)) (needs proof [] (option_to_list (first_false final.state.scopes)) final.seen) r.scopes r.closed r.place c at.after r.point in
          let zero = zero-next proof (option_to_list (first_false final.state.scopes)) (needs proof [] (option_to_list (first_false final.state.scopes)) final.seen) r.scopes r.closed r.place c at.after r.point Defines is in
          by_kind (subst (λ (a : Act). is_needed_in (reached before c at).scopes a (needs proof (opens_after proof (reached before c at).scopes c c.act) (option_to_list (first_false final.state.scopes)) at.after) ≡ true) (sym is)
          (first-kept (needs proof [] (option_to_list (first_false final.state.scopes)) final.seen) (needs proof (opens_after proof (reached before c at).scopes c c.act) (option_to_list (first_false final.state.scopes)) at.after) (reached before c at).scopes
          (flags proof (option_to_list (first_false final.state.scopes)) (opens_after proof (reached before c at).scopes c c.act) at.after) (suc r.place) n
          (sym (ap (λ xs. slice_get xs 0) (reached before c at).same) ∙ e) g zero
          (subst (λ (x : List OpenScope). Flagged proof (option_to_list (first_false final.state.scopes)) x (flags proof (option_to_list (first_false final.state.scopes)) (opens_after proof (reached before c at).scopes c c.act) at.after) (suc r.place)
          (needs proof (opens_after proof (reached before c at).scopes c c.act) (option_to_list (first_false final.state.scopes)) at.after)) (ap (opens_after proof (reached before c at).scopes c) is) next.flagged)))

    by_false : (n : ℕ) → first_false final.state.scopes ≡ Some n → needed proof final n ≡ true
    by_false n e = last-in proof (option_to_list (first_false final.state.scopes)) final.seen [] n (ap (λ o. contains (option_to_list o) n) e ∙ in-first n [])

    -- each needed command is taken
    pub needed_complete : (n : ℕ) → Needed proof final n → needed proof final n ≡ true
    needed_complete n (in_other_file before c at other) = by_file before c at other
    needed_complete n (is_declared before c at e f) = by_level before c at e f
    needed_complete n (refutes m e) = by_false m e
    needed_complete n (is_premise before c at need m member) = by_premise before c at (needed_complete c.number need) m member
    needed_complete n (opens_scope before c at need m e) = by_scope before c at (needed_complete c.number need) m e
    needed_complete n (closes_scope before c step at is m e need) = by_close before c at step is m e (needed_complete m need)
    needed_complete n (is_defined before c at is m e need) = by_define before c at is m e (needed_complete m need)

    -- The pass computes the least set.
    pub needed_is_least : IsNeeded proof final (needed proof final)
    needed_is_least n = (needed_sound proof final n, needed_complete n)
