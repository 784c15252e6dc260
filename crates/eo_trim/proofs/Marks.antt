-- Marks for the numbers of a list, and what is done with each command.
use Rattle.std.proofs.Common.{◌≡◌, refl, ℕ, zero, suc, ◌<◌, ◌≤◌, ◌+◌, List, [], ◌∷◌, ◌++◌, length, take, drop, get_or, replicate, All, sym, ap, ◌∙◌, subst, arith, append-nil}
use Rattle.std.specs.Prelude.{Bool, true, false, ◌||◌, ◌==◌, if◌then◌else◌, Some, slice_get}
use Rattle.std.proofs.lemmas.List.{take_more, take_all, drop_more, drop_all, get_or-replicate, length-replicate, flat_map_more}
use Rattle.std.proofs.lemmas.List.Elements.{All-head, All-drop}
use Rattle.std.proofs.lemmas.List.Folds.{list_any-append}
use Rattle.std.proofs.lemmas.Option.{slice_get_within, get_or_from_slice_get}
use Rattle.eo_trim.specs.Entries.{Entry}
use Rattle.eo_trim.specs.Marking.{is_marked, AreMarked, MarksMore, IsBelow, AreBelow, is_head_needed, scope_number, needs_with, entry_needs, line_of, text_of}
use Rattle.eo_trim.specs.Needing.{contains}
use Rattle.eo_trim.specs.declared.entries.Head.{Head}

pub contains-append : (ms ns : List ℕ) (n : ℕ) → contains (ms ++ ns) n ≡ (contains ms n || contains ns n)
contains-append ms ns n = list_any-append (λ m. m == n) ms ns

or-last : (b c d : Bool) → ((c || false) || (b || d)) ≡ ((b || (c || false)) || d)
or-last true true d = refl
or-last true false d = refl
or-last false true d = refl
or-last false false d = refl

or-four : (a s p l : Bool) → ((a || false) || (s || (p || l))) ≡ (a || (s || (p || l)))
or-four true s p l = refl
or-four false s p l = refl

pub none-more : (ms : List Bool) → MarksMore ms ms []
none-more ms = record { same = refl; are = λ n h. refl }

-- one more
pub marks-next : (old mid new : List Bool) (ns : List ℕ) (m : ℕ) → MarksMore old mid ns → MarksMore mid new (m ∷ []) → MarksMore old new (ns ++ m ∷ [])
marks-next old mid new ns m f g = record {
  same = g.same ∙ f.same;
  are = λ n h. g.are n (subst (λ (k : ℕ). n < k) (sym f.same) h)
      ∙ ap (λ (b : Bool). ((m == n) || false) || b) (f.are n h)
      ∙ or-last (contains ns n) (m == n) (is_marked old n)
      ∙ ap (λ (b : Bool). b || is_marked old n) (sym (contains-append ns (m ∷ []) n));
}

-- these were marked, and more are
pub marked-more : (old new : List Bool) (ns later : List ℕ) → MarksMore old new ns → AreMarked old later → AreMarked new (ns ++ later)
marked-more old new ns later f h = record {
  are = λ n lt.
      let at : n < length old = subst (λ (k : ℕ). n < k) f.same lt in
      f.are n at ∙ ap (λ (b : Bool). contains ns n || b) (h.are n at) ∙ sym (contains-append ns later n);
}

-- what a command needs is marked
pub marked-needs : (old mid more new : List Bool) (e : Entry) (later : List ℕ)
    → MarksMore old mid e.premises → MarksMore mid more (scope_number e.head.scope) → MarksMore more new (e.head.number ∷ []) → AreMarked old later
    → AreMarked new (e.head.number ∷ scope_number e.head.scope ++ (e.premises ++ later))
marked-needs old mid more new e later f g k h =
    let a = marked-more old mid e.premises later f h in
    let b = marked-more mid more (scope_number e.head.scope) (e.premises ++ later) g a in
    marked-more more new (e.head.number ∷ []) (scope_number e.head.scope ++ (e.premises ++ later)) k b

-- the numbers up to the next one
pub marks-taken : (old mid new : List Bool) (ns : List ℕ) (i m : ℕ) → i < length ns → MarksMore old mid (take i ns) → MarksMore mid new (get_or ns i m ∷ []) → MarksMore old new (take (i + 1) ns)
marks-taken old mid new ns i m lt f g = subst (λ (xs : List ℕ). MarksMore old new xs) (sym (take_more ns i m lt)) (marks-next old mid new (take i ns) (get_or ns i m) f g)

pub marks-all : (old new : List Bool) (ns : List ℕ) (i : ℕ) → length ns ≤ i → MarksMore old new (take i ns) → MarksMore old new ns
marks-all old new ns i le h = subst (λ (xs : List ℕ). MarksMore old new xs) (take_all i ns le) h

pub none-marked : (n : ℕ) → AreMarked (replicate n false) []
none-marked n = record { are = λ k lt. get_or-replicate n k false false (omega (arith, lt, length-replicate n false)) }

pub marked-first : (old new : List Bool) (ns : List ℕ) → AreMarked old [] → MarksMore old new ns → AreMarked new ns
marked-first old new ns h f = subst (λ (xs : List ℕ). AreMarked new xs) (append-nil ns) (marked-more old new ns [] f h)

-- ---- the commands of a list

pub entry-there : (es : List Entry) (i : ℕ) → i < length es → (e : Entry) × (slice_get es i ≡ Some e)
entry-there [] i lt = absurd (omega (arith, lt))
entry-there (e ∷ es) zero lt = (e, refl)
entry-there (e ∷ es) (suc i) lt = entry-there es i (omega (arith, lt))

pub drop-there : (es : List Entry) (i : ℕ) (e : Entry) → slice_get es i ≡ Some e → drop i es ≡ e ∷ drop (i + 1) es
drop-there es i e h = drop_more es i e (slice_get_within es i e h) ∙ ap (λ (x : Entry). x ∷ drop (i + 1) es) (get_or_from_slice_get es i e e h)

pub take-there : (es : List Entry) (i : ℕ) (e : Entry) → slice_get es i ≡ Some e → take (i + 1) es ≡ take i es ++ e ∷ []
take-there es i e h = take_more es i e (slice_get_within es i e h) ∙ ap (λ (x : Entry). take i es ++ x ∷ []) (get_or_from_slice_get es i e e h)

all-there : (P : Entry → Type 0) (es : List Entry) (i : ℕ) (e : Entry) → slice_get es i ≡ Some e → All P es → P e
all-there P es i e h a = All-head P e (drop (i + 1) es) (subst (All P) (drop-there es i e h) (All-drop P i es a))

-- of one of them, where so many are marked as before
pub below-there : (n m : ℕ) (es : List Entry) (i : ℕ) (e : Entry) → m ≡ n → slice_get es i ≡ Some e → AreBelow n es → IsBelow m e.head
below-there n m es i e same at below = subst (λ (k : ℕ). IsBelow k e.head) (sym same) (all-there (λ (x : Entry). IsBelow n x.head) es i e at below)

-- ---- one command

pub need-marked : (old mid more new : List Bool) (e : Entry) (h : Head) (ps later : List ℕ) → e.head ≡ h → e.premises ≡ ps → is_head_needed h later ≡ true
    → MarksMore old mid ps → MarksMore mid more (scope_number h.scope) → MarksMore more new (h.number ∷ []) → AreMarked old later
    → AreMarked new (needs_with e later)
need-marked old mid more new e h ps later eh ep t f g k a =
    let s = subst (λ (x : Head). is_head_needed x later ≡ true) (sym eh) t in
    let f2 = subst (λ (x : List ℕ). MarksMore old mid x) (sym ep) f in
    let g2 = subst (λ (x : Head). MarksMore mid more (scope_number x.scope)) (sym eh) g in
    let k2 = subst (λ (x : Head). MarksMore more new (x.number ∷ [])) (sym eh) k in
    subst (λ (b : Bool). AreMarked new (if b then e.head.number ∷ scope_number e.head.scope ++ (e.premises ++ later) else later)) (sym s)
    (marked-needs old mid more new e later f2 g2 k2 a)

pub need-passed : (marks : List Bool) (e : Entry) (h : Head) (later : List ℕ) → e.head ≡ h → is_head_needed h later ≡ false → AreMarked marks later → AreMarked marks (needs_with e later)
need-passed marks e h later eh t a =
    let s = subst (λ (x : Head). is_head_needed x later ≡ false) (sym eh) t in
    subst (λ (b : Bool). AreMarked marks (if b then e.head.number ∷ scope_number e.head.scope ++ (e.premises ++ later) else later)) (sym s) a

-- ---- commands from the end

pub needs-none : (last : List ℕ) (es : List Entry) (n : ℕ) → length es ≤ n → entry_needs last (drop n es) ≡ last
unfolding entry_needs
needs-none last es n le = ap (entry_needs last) (drop_all n es le)

pub needs-before : (last : List ℕ) (es : List Entry) (i : ℕ) (e : Entry) → slice_get es i ≡ Some e → entry_needs last (drop i es) ≡ needs_with e (entry_needs last (drop (i + 1) es))
unfolding entry_needs
needs-before last es i e h = ap (entry_needs last) (drop-there es i e h)

-- what is marked from a command on
abbrev pub MarkedFrom : List Entry → (old new : List Bool) → ℕ → Type 0
MarkedFrom es old new i = (last : List ℕ) → AreMarked old last → AreMarked new (entry_needs last (drop i es))

pub marked-none : (es : List Entry) (marks : List Bool) (n : ℕ) → length es ≤ n → MarkedFrom es marks marks n
marked-none es marks n le last h = subst (λ (xs : List ℕ). AreMarked marks xs) (sym (needs-none last es n le)) h

pub marked-before : (es : List Entry) (old mid new : List Bool) (n i : ℕ) → n ≡ i + 1 → i < length es → MarkedFrom es old mid n
    → ((e : Entry) → slice_get es i ≡ Some e → (later : List ℕ) → AreMarked mid later → AreMarked new (needs_with e later))
    → MarkedFrom es old new i
marked-before es old mid new n i eq lt from step last h =
    let at = entry-there es i lt in
    let later = subst (λ (k : ℕ). AreMarked mid (entry_needs last (drop k es))) eq (from last h) in
    subst (λ (xs : List ℕ). AreMarked new xs) (sym (needs-before last es i at.0 at.1)) (step at.0 at.1 (entry_needs last (drop (i + 1) es)) later)

-- ---- the text

pub text-next : (holds : ℕ → Bool) (es : List Entry) (i : ℕ) (text new : List ℕ) → i < length es → text ≡ text_of holds (take i es)
    → ((e : Entry) → slice_get es i ≡ Some e → new ≡ text ++ line_of holds e) → new ≡ text_of holds (take (i + 1) es)
text-next holds es i text new lt h step =
    let at = entry-there es i lt in
    step at.0 at.1 ∙ ap (λ (x : List ℕ). x ++ line_of holds at.0) h ∙ flat_map_more (line_of holds) [] (take i es) at.0
    ∙ ap (text_of holds) (sym (take-there es i at.0 at.1))
