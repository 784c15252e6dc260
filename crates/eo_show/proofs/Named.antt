-- The names of lines are those of the members that get one.
use Rattle.std.specs.Prelude.{◌≡◌, refl, ℕ, suc, ◌^◌, ◌<◌, Bool, true, false, All, List, [], ◌∷◌, ◌++◌, filter, find, cond, option_map, Option, Some, None, Contains, ◌⊎◌}
use Rattle.std.proofs.Common.{sym, ◌∙◌, ap, subst, inl, inr, append_assoc, true≢false}
use Rattle.std.proofs.lemmas.List.Elements.{Contains-append_left, Contains-push, All-nil, All-cons}
use Rattle.eo_term.specs.Tree.{Tree, tree_eq}
use Rattle.eo_term.proofs.Equality.{tree_same, tree_refl}
use Rattle.eo_sig.specs.Signature.{Signature, Macro}
use Rattle.eo_show.specs.Lines.{Line, line_name, next_free, named_from, name_in}
use Rattle.eo_show.specs.Written.{Ordered}
use Rattle.eo_show.proofs.FreeNames.{AreNumbered}

-- ---- looking for a tree among lines

abbrev pub AreIn : List Tree → List Line → Type 0
AreIn front [] = Unit {0}
AreIn front (l ∷ ls) = Contains front l.tree × AreIn front ls

abbrev pub AllPassTest : (Tree → Bool) → List Line → Type 0
AllPassTest test [] = Unit {0}
AllPassTest test (l ∷ ls) = (test l.tree ≡ true) × AllPassTest test ls

pub found-after : (front : List Tree) (before after : List Line) (name : List ℕ) (m : Tree) → (Contains front m → ⊥) → AreIn front before → name_in (before ++ record { name = name; tree = m } ∷ after) m ≡ Some name
found-after front [] after name m new h = ap (λ b. option_map (λ (l : Line). l.name) (cond b (Some (record { name = name; tree = m })) (find (λ (l : Line). tree_eq m l.tree) after))) (tree_refl m)
found-after front (l ∷ ls) after name m new h = go (tree_eq m l.tree) refl (found-after front ls after name m new h.1)
  where
    rest : Option Line
    rest = find (λ (l : Line). tree_eq m l.tree) (ls ++ record { name = name; tree = m } ∷ after)

    go : (b : Bool) → tree_eq m l.tree ≡ b → option_map (λ (l : Line). l.name) rest ≡ Some name → option_map (λ (l : Line). l.name) (cond b (Some l) rest) ≡ Some name
    go true e f = absurd (new (subst (Contains front) (sym (tree_same m l.tree e)) h.0))
    go false e f = f

pub not-found : (test : Tree → Bool) (lines : List Line) (m : Tree) → test m ≡ false → AllPassTest test lines → name_in lines m ≡ None
not-found test [] m e h = refl
not-found test (l ∷ ls) m e h = go (tree_eq m l.tree) refl (not-found test ls m e h.1)
  where
    rest : Option Line
    rest = find (λ (l : Line). tree_eq m l.tree) ls

    go : (b : Bool) → tree_eq m l.tree ≡ b → option_map (λ (l : Line). l.name) rest ≡ None → option_map (λ (l : Line). l.name) (cond b (Some l) rest) ≡ None
    go true f g = absurd (true≢false (sym h.0 ∙ ap test (sym (tree_same m l.tree f)) ∙ e))
    go false f g = g

pub are-in-more : (front : List Tree) (m : Tree) (ls : List Line) → AreIn front ls → AreIn (front ++ m ∷ []) ls
are-in-more front m [] h = tt
are-in-more front m (l ∷ ls) h = (Contains-append_left front (m ∷ []) l.tree h.0, are-in-more front m ls h.1)

pub are-in-push : (front : List Tree) (ls : List Line) (l : Line) → AreIn front ls → Contains front l.tree → AreIn front (ls ++ l ∷ [])
are-in-push front [] l h c = (c, tt)
are-in-push front (k ∷ ls) l h c = (h.0, are-in-push front ls l h.1 c)

module _ (macros : List Macro) (test : Tree → Bool) where
  pub named-pass : (S : Signature) (k : ℕ) (ms : List Tree) → AllPassTest test (named_from S macros k (filter test ms))
  named-pass S k [] = tt
  named-pass S k (m ∷ ms) = go (test m) refl (λ k. named-pass S k ms)
    where
      go : (b : Bool) → test m ≡ b → ((k : ℕ) → AllPassTest test (named_from S macros k (filter test ms))) → AllPassTest test (named_from S macros k (cond b (m ∷ filter test ms) (filter test ms)))
      go true e f = (e, f _)
      go false e f = f k

  module _ (S : Signature) (lines : List Line) where
    -- a member with a line has its name, with a small number, and any other has none
    abbrev pub NamedAs : Tree → Type 0
    NamedAs q = ((test q ≡ true) × ((k : ℕ) × (k < 2 ^ 64) × (name_in lines q ≡ Some (line_name k)))) ⊎ ((test q ≡ false) × (name_in lines q ≡ None))

    named-as-from : (back front : List Tree) (before : List Line) (k : ℕ) → Ordered S front back → AreIn front before → AllPassTest test lines → lines ≡ before ++ named_from S macros k (filter test back) →
        AreNumbered S macros k (filter test back) → All NamedAs back
    named-as-from [] front before k o h pass e numbers = All-nil NamedAs
    named-as-from (m ∷ back) front before k o h pass e numbers = go (test m) refl e numbers (named-as-from back (front ++ m ∷ []))
      where
        go : (b : Bool) → test m ≡ b → lines ≡ before ++ named_from S macros k (cond b (m ∷ filter test back) (filter test back)) → AreNumbered S macros k (cond b (m ∷ filter test back) (filter test back)) →
            ((before' : List Line) (k' : ℕ) → Ordered S (front ++ m ∷ []) back → AreIn (front ++ m ∷ []) before' → AllPassTest test lines → lines ≡ before' ++ named_from S macros k' (filter test back) →
            AreNumbered S macros k' (filter test back) → All NamedAs back) → All NamedAs (m ∷ back)
        go true f g few later =
            let n = next_free S macros k in
            let name = line_name n in
            let l : Line = record { name = name; tree = m } in
            let rest = named_from S macros (suc n) (filter test back) in
            let found : name_in lines m ≡ Some name = ap (λ ls. name_in ls m) g ∙ found-after front before rest name m o.0.new h in
            All-cons NamedAs m back (inl (f, (n, few.1, found)))
            (later (before ++ l ∷ []) (suc n) o.1 (are-in-push (front ++ m ∷ []) before l (are-in-more front m before h) (Contains-push front m)) pass (g ∙ sym (append_assoc before (l ∷ []) rest)) few.3)
        go false f g few later = All-cons NamedAs m back (inr (f, not-found test lines m f pass)) (later before k o.1 (are-in-more front m before h) pass g few)

    pub named-as : (ms : List Tree) → Ordered S [] ms → lines ≡ named_from S macros 1 (filter test ms) → AreNumbered S macros 1 (filter test ms) → All NamedAs ms
    named-as ms o e numbers = named-as-from ms [] [] 1 o tt (subst (AllPassTest test) (sym e) (named-pass S 1 ms)) e numbers
