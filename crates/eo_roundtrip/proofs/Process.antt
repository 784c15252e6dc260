-- The lines of members in order are accepted, one after another.
use Rattle.std.specs.Prelude.{◌≡◌, refl, ℕ, zero, suc, ◌+◌, ◌-◌, ◌^◌, ◌≤◌, true, min, List, [], ◌∷◌, ◌++◌, map, Option, Some, None, Ok, Contains, slice_index_or, ◌⊎◌}
use Rattle.std.proofs.Common.{sym, ◌∙◌, ap, arith, subst, inl, inr, append_assoc, append-nil}
use Rattle.std.proofs.lemmas.List.Elements.{Contains-push_cases}
use Rattle.eo_names.specs.Contexts.{Several}
use Rattle.eo_base.specs.Limits.{height_limit}
use Rattle.eo_base.specs.Checks.{Checked, ◌>>=◌}
use Rattle.eo_term.specs.Tree.{Tree, height}
use Rattle.eo_sexp.specs.Sexp.{Sexp}
use Rattle.eo_sexp.specs.Printing.{placed}
use Rattle.eo_sig.specs.Signature.{Signature, Macro, is_free}
use Rattle.eo_elab.specs.Meaning.{meaning, without_named_terms}
use Rattle.eo_session.specs.State.{State, context}
use Rattle.eo_show.specs.Forms.{form, parts}
use Rattle.eo_show.specs.Lines.{Line, name_or, written, line}
use Rattle.eo_roundtrip.specs.Shown.{steps}
use Rattle.eo_show.proofs.FormFacts.{some_height}
use Rattle.eo_roundtrip.proofs.Uses.{Reads}
use Rattle.eo_show.proofs.FormFacts.{IsSpelled}
use Rattle.eo_roundtrip.proofs.Layers.{HaveNames, layer-reads}
use Rattle.eo_show.specs.Walking.{IsLower}
use Rattle.eo_show.proofs.Lower.{parts-below}
use Rattle.eo_show.specs.Written.{IsNext, Ordered}
use Rattle.eo_roundtrip.proofs.Steps.{macro_of, line-step}
use Rattle.eo_roundtrip.proofs.LineNames.{line-reads}

-- a member that can be written
pub record CanWrite (S : Signature) (m : Tree) : Type 0 where
  pub low : height m ≤ height_limit
  pub spelled : IsSpelled S m

module _ (start : State) (names : HaveNames start.signature) (N : Tree → Option (List ℕ)) where
  abbrev S : Signature
  S = start.signature

  abbrev pub at : List Macro → ℕ → State
  at macros commands = record start { macros = macros; commands = commands; naming = Several }

  -- a tree that means itself as a part, after these macros and any that come later
  abbrev pub Known : List Macro → Tree → Type 0
  Known macros q = (later : List Macro) (d : ℕ) → height q ≤ d → Reads S (macros ++ later) (name_or (N q) (written S d N q)) q

  known-on : (macros more : List Macro) (q : Tree) → Known macros q → Known (macros ++ more) q
  known-on macros more q k later d le =
      subst (λ ms. Reads S ms (name_or (N q) (written S d N q)) q) (sym (append_assoc macros more later)) (k (more ++ later) d le)

  written-known : (macros : List Macro) (front : List Tree) (m : Tree) → IsNext S front m → CanWrite S m → ((q : Tree) → Contains front q → Known macros q) →
      (later : List Macro) (d : ℕ) → height m ≤ d → Reads S (macros ++ later) (written S d N m) m
  written-known macros front m next can known later zero le = absurd (omega (arith, some_height m))
  written-known macros front m next can known later (suc d) le =
      layer-reads S (macros ++ later) (λ p. name_or (N p) (written S d N p)) m names next.value can.low can.spelled
      (λ k x lt. known (slice_index_or (parts S (form S m)) k x) (next.parts_before k x lt) later d (lower (slice_index_or (parts S (form S m)) k x) (parts-below S m next.value k x lt)))
    where
      lower : (p : Tree) → IsLower (height m) p → height p ≤ d
      lower p b = omega (arith, b.lower)

  -- the lines that members get, in their order
  abbrev pub Follows : List Tree → List Line → Type 0
  Follows [] lines = lines ≡ []
  Follows (m ∷ back) lines =
      (N m ≡ None) × Follows back lines
      ⊎ (name : List ℕ) × (rest : List Line) × (lines ≡ record { name = name; tree = m } ∷ rest) × (N m ≡ Some name) × Follows back rest

  -- each line's name is free after those before it
  abbrev pub AreFree : List Macro → List Line → Type 0
  AreFree macros [] = Unit {0}
  AreFree macros (l ∷ lines) = (is_free S macros l.name ≡ true) × ((m : Tree) → AreFree (macros ++ macro_of l.name m ∷ []) lines)

  -- the lines are accepted, and then each of these trees is known
  pub record Accepted (macros : List Macro) (commands : ℕ) (lines : List Line) (all : List Tree) : Type 0 where
    pub end : List Macro
    pub count : ℕ
    pub is : steps (at macros commands) (map (λ l. placed 0 (line S N l)) lines) ≡ Ok (at end count)
    pub known : (q : Tree) → Contains all q → Known end q

  pub means-so : (macros : List Macro) (commands : ℕ) (s : Sexp) (t : Tree) (r : Reads S macros s t) → (n : ℕ) → meaning (context (at macros commands)) [] (placed n s) ≡ Ok r.tree
  unfolding meaning
  means-so macros commands s t r n = ap without_named_terms (r.is n [])

  known-more : (macros : List Macro) (front : List Tree) (m : Tree) → ((q : Tree) → Contains front q → Known macros q) → Known macros m → (q : Tree) → Contains (front ++ m ∷ []) q → Known macros q
  known-more macros front m known itself q c = go (Contains-push_cases front m q c)
    where
      go : Contains front q ⊎ (m ≡ q) → Known macros q
      go (inl h) = known q h
      go (inr same) = subst (Known macros) same itself

  -- one line more
  accepted-line : (macros : List Macro) (commands : ℕ) (name : List ℕ) (m : Tree) (rest : List Line) (all : List Tree) → is_free S macros name ≡ true → (r : Reads S macros (written S (height m) N m) m) →
      Accepted (macros ++ macro_of name r.tree ∷ []) (min (commands + 1) (2 ^ 64 - 1)) rest all → Accepted macros commands (record { name = name; tree = m } ∷ rest) all
  unfolding steps ◌>>=◌
  accepted-line macros commands name m rest all free r later =
      record {
        end = later.end;
        count = later.count;
        is = ap (λ (o : Checked _). o >>= λ p. steps p.0 (map (λ l. placed 0 (line S N l)) rest)) (line-step (at macros commands) name free (written S (height m) N m) r.tree (means-so macros commands (written S (height m) N m) m r)) ∙ later.is;
        known = later.known;
      }

  abbrev Processes : List Tree → Type 0
  Processes back = (front : List Tree) (lines : List Line) (macros : List Macro) (commands : ℕ) → Ordered S front back → ((q : Tree) → Contains back q → CanWrite S q) → Follows back lines → AreFree macros lines →
      ((q : Tree) → Contains front q → Known macros q) → Accepted macros commands lines (front ++ back)

  no-more : Processes []
  unfolding steps
  no-more front lines macros commands o can follows free known =
      subst (λ ls. Accepted macros commands ls (front ++ [])) (sym follows)
      (record { end = macros; count = commands; is = refl; known = λ q c. known q (subst (λ (ts : List Tree). Contains ts q) (append-nil front) c) })

  first-contains : (m : Tree) (back : List Tree) → Contains (m ∷ back) m
  first-contains m back = (0, omega arith, refl)

  later-contains : (m q : Tree) (back : List Tree) → Contains back q → Contains (m ∷ back) q
  later-contains m q back c = let lt = c.1 in (suc c.0, omega arith, c.2)

  one-more : (m : Tree) (back : List Tree) → Processes back → Processes (m ∷ back)
  one-more m back others front lines macros commands o can follows free known =
      subst (Accepted macros commands lines) (append_assoc front (m ∷ []) back) (go follows)
    where
      whole : (later : List Macro) (d : ℕ) → height m ≤ d → Reads S (macros ++ later) (written S d N m) m
      whole = written-known macros front m o.0 (can m (first-contains m back)) known

      can_later : (q : Tree) → Contains back q → CanWrite S q
      can_later q c = can q (later-contains m q back c)

      with_line : (name : List ℕ) (rest : List Line) → lines ≡ record { name = name; tree = m } ∷ rest → N m ≡ Some name → Follows back rest → Accepted macros commands lines ((front ++ m ∷ []) ++ back)
      with_line name rest e f h =
          let free' : AreFree macros (record { name = name; tree = m } ∷ rest) = subst (AreFree macros) e free in
          let r : Reads S macros (written S (height m) N m) m = subst (λ ms. Reads S ms (written S (height m) N m) m) (append-nil macros) (whole [] (height m) (omega arith)) in
          let more = macros ++ macro_of name r.tree ∷ [] in
          let itself : Known more m = λ later d le. subst (λ ms. Reads S ms (name_or (N m) (written S d N m)) m) (sym (append_assoc macros (macro_of name r.tree ∷ []) later))
          (subst (λ o. Reads S (macros ++ macro_of name r.tree ∷ later) (name_or o (written S d N m)) m) (sym f) (line-reads S macros name r.tree m later free'.0 r.stands)) in
          subst (λ ls. Accepted macros commands ls ((front ++ m ∷ []) ++ back)) (sym e)
          (accepted-line macros commands name m rest ((front ++ m ∷ []) ++ back) free'.0 r
          (others (front ++ m ∷ []) rest more (min (commands + 1) (2 ^ 64 - 1)) o.1 can_later h (free'.1 r.tree)
          (known-more more front m (λ q c. known-on macros (macro_of name r.tree ∷ []) q (known q c)) itself)))

      without_line : N m ≡ None → Follows back lines → Accepted macros commands lines ((front ++ m ∷ []) ++ back)
      without_line f h =
          let itself : Known macros m = λ later d le. subst (λ o. Reads S (macros ++ later) (name_or o (written S d N m)) m) (sym f) (whole later d le) in
          others (front ++ m ∷ []) lines macros commands o.1 can_later h free (known-more macros front m known itself)

      go : Follows (m ∷ back) lines → Accepted macros commands lines ((front ++ m ∷ []) ++ back)
      go (inl h) = without_line h.0 h.1
      go (inr h) = with_line h.0 h.1 h.2 h.3 h.4

  pub process : (back : List Tree) → Processes back
  process [] = no-more
  process (m ∷ back) = one-more m back (process back)
