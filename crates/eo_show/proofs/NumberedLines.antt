-- The lines of the members that have a number are those that the value is shown by.
use Rattle.std.specs.Prelude.{◌≡◌, refl, ℕ, zero, suc, ◌<◌, ◌≤◌, Bool, true, false, cond, if◌then◌else◌, filter, find, map, length, slice_index_or, Option, Some, None, option_map, List, [], ◌∷◌, All}
use Rattle.std.specs.List.{IsDistinct}
use Rattle.std.proofs.Common.{sym, ap, ◌∙◌, subst, arith}
use Rattle.std.proofs.lemmas.List.{length-map}
use Rattle.std.proofs.lemmas.List.Elements.{All-nil, All-cons}
use Rattle.eo_sexp.specs.Printing.{printed_lines}
use Rattle.eo_sig.specs.Signature.{Signature, Macro, is_free}
use Rattle.eo_term.specs.Tree.{Tree, tree_eq}
use Rattle.eo_term.specs.Terms.{Terms}
use Rattle.eo_term.proofs.Equality.{tree_refl}
use Rattle.eo_show.specs.declared.Member.{Member}
use Rattle.eo_show.specs.declared.parts.Form.{Form}
use Rattle.eo_show.specs.Lines.{Line, line_name, first_free, next_free, named_from, name_in, lines_of, shown_lines, shown}
use Rattle.eo_show.specs.Members.{members, defined}
use Rattle.eo_show.specs.Numbers.{numbers_from, numbered}
use Rattle.eo_show.specs.Plan.{IsLive}
use Rattle.eo_show.specs.Sizes.{AreNamed, gets_line}
use Rattle.eo_show.specs.Walking.{HaveForms}
use Rattle.eo_show.proofs.Counting.{turned, AreOthers, after-first, one-after}

-- ---- a name for each

abbrev after_test : Tree → Line → List Line → Bool → Option (List ℕ)
after_test p l ls b = option_map (λ (l : Line). l.name) (cond b (Some l) (find (λ (l : Line). tree_eq p l.tree) ls))

not-in : (p : Tree) (us : List Tree) (ns : List ℕ) → AreOthers p us → name_in (numbered us ns) p ≡ None
not-in p [] ns h = refl
not-in p (u ∷ us) [] h = refl
not-in p (u ∷ us) (zero ∷ ns) h = not-in p us ns h.1
not-in p (u ∷ us) (suc k ∷ ns) h = ap (after_test p (record { name = line_name (suc k); tree = u }) (numbered us ns)) (turned u p h.0) ∙ not-in p us ns h.1

named-none : (us : List Tree) (ns : List ℕ) → IsDistinct tree_eq us → (i : ℕ) (u : Tree) → i < length us → u ≡ slice_index_or us i u → slice_index_or ns i 0 ≡ 0 → name_in (numbered us ns) u ≡ None
unfolding IsDistinct
named-none [] ns d i u less e n = absurd (omega (arith, less))
named-none (x ∷ us) [] d i u less e n = refl
named-none (x ∷ us) (zero ∷ ns) d zero u less e n = not-in u us ns (subst (λ v. AreOthers v us) (sym e) (after-first x us d.0))
named-none (x ∷ us) (suc k ∷ ns) d zero u less e n = absurd (omega (arith, n))
named-none (x ∷ us) (zero ∷ ns) d (suc i) u less e n = named-none us ns d.1 i u (omega (arith, less)) e n
named-none (x ∷ us) (suc k ∷ ns) d (suc i) u less e n =
    ap (after_test u (record { name = line_name (suc k); tree = x }) (numbered us ns)) (turned x u (one-after x u us i d.0 (omega (arith, less)) (sym e)))
    ∙ named-none us ns d.1 i u (omega (arith, less)) e n

named-some : (us : List Tree) (ns : List ℕ) → IsDistinct tree_eq us → (i k : ℕ) (u : Tree) → i < length us → u ≡ slice_index_or us i u → slice_index_or ns i 0 ≡ suc k → name_in (numbered us ns) u ≡ Some (line_name (suc k))
unfolding IsDistinct
named-some [] ns d i k u less e n = absurd (omega (arith, less))
named-some (x ∷ us) [] d i k u less e n = absurd (omega (arith, n))
named-some (x ∷ us) (zero ∷ ns) d zero k u less e n = absurd (omega (arith, n))
named-some (x ∷ us) (suc j ∷ ns) d zero k u less e n =
    ap (after_test u (record { name = line_name (suc j); tree = x }) (numbered us ns)) (ap (tree_eq u) (sym e) ∙ tree_refl u) ∙ ap (λ m. Some (line_name m)) n
named-some (x ∷ us) (zero ∷ ns) d (suc i) k u less e n = named-some us ns d.1 i k u (omega (arith, less)) e n
named-some (x ∷ us) (suc j ∷ ns) d (suc i) k u less e n =
    ap (after_test u (record { name = line_name (suc j); tree = x }) (numbered us ns)) (turned x u (one-after x u us i d.0 (omega (arith, less)) (sym e)))
    ∙ named-some us ns d.1 i k u (omega (arith, less)) e n

pub are-named : (us : List Tree) (ns : List ℕ) → IsDistinct tree_eq us → AreNamed us ns (name_in (numbered us ns))
are-named us ns d = record { none = named-none us ns d; some = named-some us ns d }

-- ---- the numbers

pub numbers-length : (S : Signature) (macros : List Macro) (k : ℕ) (wants : List Bool) → length (numbers_from S macros k wants) ≡ length wants
numbers-length S macros k [] = refl
numbers-length S macros k (true ∷ wants) = ap suc (numbers-length S macros (suc (next_free S macros k)) wants)
numbers-length S macros k (false ∷ wants) = ap suc (numbers-length S macros k wants)

module _ (S : Signature) (macros : List Macro) where
  first-some : (turns k : ℕ) → 1 ≤ k → 1 ≤ first_free S macros turns k
  first-some zero k h = h
  first-some (suc turns) k h = go (is_free S macros (line_name k)) (first-some turns (suc k) (omega arith))
    where
      go : (b : Bool) → 1 ≤ first_free S macros turns (suc k) → 1 ≤ (if b then k else first_free S macros turns (suc k))
      go true later = h
      go false later = later

  module _ (test : Tree → Bool) where
    first-line : (u : Tree) (us : List Tree) (n : ℕ) → 1 ≤ n → numbered us (numbers_from S macros (suc n) (map test us)) ≡ named_from S macros (suc n) (filter test us) →
        numbered (u ∷ us) (n ∷ numbers_from S macros (suc n) (map test us)) ≡ record { name = line_name n; tree = u } ∷ named_from S macros (suc n) (filter test us)
    first-line u us zero h e = absurd (omega (arith, h))
    first-line u us (suc j) h e = ap (λ ls. record { name = line_name (suc j); tree = u } ∷ ls) e

    pub lines-numbered : (us : List Tree) (k : ℕ) → 1 ≤ k → numbered us (numbers_from S macros k (map test us)) ≡ named_from S macros k (filter test us)
    lines-numbered [] k h = refl
    lines-numbered (u ∷ us) k h = go (test u) (λ j h. lines-numbered us j h)
      where
        go : (b : Bool) → ((j : ℕ) → 1 ≤ j → numbered us (numbers_from S macros j (map test us)) ≡ named_from S macros j (filter test us)) →
            numbered (u ∷ us) (numbers_from S macros k (b ∷ map test us)) ≡ named_from S macros k (cond b (u ∷ filter test us) (filter test us))
        go true later = first-line u us (next_free S macros k) (first-some _ k h) (later (suc (next_free S macros k)) (omega arith))
        go false later = later k h

pub shown-is : (S : Signature) (macros : List Macro) (u : Tree) (us : List Tree) (ns : List ℕ) → us ≡ members S u → ns ≡ numbers_from S macros 1 (map (gets_line S us u) us) → printed_lines (lines_of S (numbered us ns)) ≡ shown S macros u
unfolding shown shown_lines defined
shown-is S macros u us ns e f =
    ap (λ ns. printed_lines (lines_of S (numbered us ns))) f
    ∙ ap (λ ls. printed_lines (lines_of S ls)) (lines-numbered S macros (gets_line S us u) us 1 (omega arith))
    ∙ ap (λ us. printed_lines (lines_of S (named_from S macros 1 (filter (gets_line S us u) us)))) e

-- ---- what is known of forms

pub all-live : (S : Signature) (t : Terms) (ms : List Member) (fs : List Form) → HaveForms S t ms fs → All (λ (f : Form). All (IsLive t) f.parts.items) fs
all-live S t [] [] h = All-nil (λ (f : Form). All (IsLive t) f.parts.items)
all-live S t (m ∷ ms) (f ∷ fs) h = All-cons (λ (f : Form). All (IsLive t) f.parts.items) f fs h.0.0.parts.live (all-live S t ms fs h.1)
all-live S t [] (f ∷ fs) h = absurd h
all-live S t (m ∷ ms) [] h = absurd h

pub numbers-for : (S : Signature) (macros : List Macro) (t : Terms) (ms : List Member) (us : List Tree) (test : Tree → Bool) (ns : List ℕ) → length us ≡ length ms → ns ≡ numbers_from S macros 1 (map test us) → length ns ≡ length ms
numbers-for S macros t ms us test ns e f = ap length f ∙ numbers-length S macros 1 (map test us) ∙ length-map us test ∙ e
