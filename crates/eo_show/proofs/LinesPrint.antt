-- Each line of a value can be printed as a command.
use Rattle.std.specs.Prelude.{refl, ℕ, zero, suc, ◌^◌, ◌<◌, ◌≤◌, Bool, ◌||◌, List, [], ◌∷◌, ◌++◌, map, filter, length, max, codes, Option, All, Contains, slice_index_or, ◌⊎◌}
use Rattle.std.proofs.Common.{sym, arith, subst, inl, inr, length-append}
use Rattle.std.proofs.lemmas.List.Elements.{All-head, All-tail, All-contains, All-contains_itself, All-filter}
use Rattle.eo_base.specs.Limits.{limits}
use Rattle.eo_base.proofs.Tests.{both}
use Rattle.eo_term.specs.Tree.{Tree, height, tree_eq}
use Rattle.eo_sexp.specs.Sexp.{Sexp}
use Rattle.eo_sexp.specs.Lexicon.{is_word, begins_digit, kind_of}
use Rattle.eo_sexp.specs.Printing.{printed, printed_atom}
use Rattle.eo_sexp.specs.ReadBack.{IsLine, AreLines}
use Rattle.eo_sexp.proofs.ReadSymbols.{words-quotable}
use Rattle.eo_sig.specs.Signature.{Signature, Macro}
use Rattle.eo_show.specs.Forms.{form, symbol}
use Rattle.eo_show.specs.Members.{nesting, members, defined, is_defined, parts_of, is_unprintable}
use Rattle.eo_show.specs.Lines.{Line, line_name, next_free, named_from, name_in, name_or, written, line, lines_of, definition, shown_lines}
use Rattle.eo_term.specs.Ranges.{IsInRange}
use Rattle.eo_show.specs.Printable.{IsPrintedName, ArePrintedNames, CanShow}
use Rattle.eo_show.proofs.FormFacts.{some_height}
use Rattle.eo_show.specs.Walking.{IsLower}
use Rattle.eo_show.proofs.Lower.{parts-below}
use Rattle.eo_show.proofs.Order.{members-visited}
use Rattle.eo_show.proofs.Named.{named-as}
use Rattle.eo_show.proofs.FreeNames.{AreNumbered, are-numbered}
use Rattle.eo_show.proofs.PartsHold.{range-down, none-fails, members-hold}
use Rattle.eo_show.proofs.Measured.{IsMember, members-in, HasLine, part-small, name-word, name-short, stand_in-size}
use Rattle.eo_show.proofs.Depths.{IsSound, sound-printable}
use Rattle.eo_show.proofs.Printable.{FormSound, form-sound, with_parts-sound, with_parts-small, word-name}

-- ---- the numbers of the limits

four : 4 ≤ limits.width
unfolding limits
four = omega arith

none : (0 ≤ limits.width) × Unit {0}
unfolding limits
none = (omega arith, tt)

enough : (n : ℕ) → n ≤ 63 → suc (max 0 (max 0 (max 1 (max n 0)))) ≤ limits.nesting
unfolding limits
enough n le = omega arith

command-size : {n : ℕ} → n ≤ 8_000_100 → n ≤ limits.command
unfolding limits
command-size h = omega arith

define-name : IsPrintedName (codes "define")
unfolding is_word kind_of begins_digit
define-name = word-name [] (codes "define") refl (omega arith)

define-size : length (printed (symbol (codes "define"))) ≤ 6
unfolding printed_atom is_word kind_of begins_digit
define-size = omega arith

module _ (S : Signature) (macros : List Macro) (t : Tree) (printed_names : ArePrintedNames S) (can : CanShow S macros t) where
  abbrev all : List Tree
  all = members S t

  abbrev lines : List Line
  lines = shown_lines S macros t

  abbrev N : Tree → Option (List ℕ)
  N = name_in lines

  abbrev test : Tree → Bool
  test m = tree_eq m t || is_defined S all m

  inside : (m : Tree) → Contains all m → IsMember S all m
  inside m c = members-in S all (members-visited S t can.value).ordered m c

  low : (m : Tree) → Contains all m → height m ≤ height t
  low m c = go ((members-visited S t can.value).lower m c)
    where
      go : Contains [] m ⊎ (height m ≤ height t) → height m ≤ height t
      go (inl h) = let lt = h.1 in absurd (omega arith)
      go (inr le) = le

  numbers : AreNumbered S macros 1 (filter test all)
  unfolding defined
  numbers = are-numbered S macros (defined S t) can.room

  has-line : (q : Tree) → Contains all q → HasLine S all t N inside low q
  unfolding shown_lines defined
  has-line q c = All-contains (HasLine S all t N inside low) all q (named-as macros test S lines all (members-visited S t can.value).ordered refl numbers) c

  member-form : (m : Tree) → Contains all m → FormSound S (form S m)
  unfolding is_unprintable
  member-form m c = form-sound S m printed_names (inside m c).value (All-contains IsInRange all m (members-hold IsInRange range-down S t can.in_range) c) (none-fails S all can.printable m c)

  name-sound : (k : ℕ) → k < 2 ^ 64 → IsSound limits (symbol (line_name k))
  unfolding limits
  name-sound k small = let size = (name-short k small).1 in let most = stand_in-size.1 in (words-quotable (line_name k) (both (name-word k)).0, omega arith)

  sound-part : (d : ℕ) (p : Tree) → Contains all p → IsSound limits (written S d N p) → IsSound limits (name_or (N p) (written S d N p))
  sound-part d p c h = go (has-line p c)
    where
      go : HasLine S all t N inside low p → IsSound limits (name_or (N p) (written S d N p))
      go (inl y) = subst (λ o. IsSound limits (name_or o (written S d N p))) (sym y.1.2) (name-sound y.1.0 y.1.1)
      go (inr n) = subst (λ o. IsSound limits (name_or o (written S d N p))) (sym n.1) h

  sound-written : (d : ℕ) (m : Tree) → Contains all m → height m ≤ d → IsSound limits (written S d N m)
  sound-written zero m c le = absurd (omega (arith, some_height m))
  sound-written (suc d) m c le =
      with_parts-sound S (λ p. name_or (N p) (written S d N p)) (form S m) (member-form m c)
      (λ k x lt. part (slice_index_or (parts_of S m) k x) ((inside m c).parts_in k x lt) (parts-below S m (inside m c).value k x lt) (sound-written d (slice_index_or (parts_of S m) k x)))
    where
      part : (p : Tree) → Contains all p → IsLower (height m) p → (Contains all p → height p ≤ d → IsSound limits (written S d N p)) → IsSound limits (name_or (N p) (written S d N p))
      part p i b h = sound-part d p i (h i (omega (arith, b.lower)))

  small-written : (d : ℕ) (m : Tree) → Contains all m → height m ≤ d → (nesting (written S d N m) ≤ 63) × (length (printed (written S d N m)) ≤ 8_000_000)
  small-written zero m c le = absurd (omega (arith, some_height m))
  small-written (suc d) m c le =
      with_parts-small S (λ p. name_or (N p) (written S d N p)) (form S m) (member-form m c)
      (λ k x lt. part (slice_index_or (parts_of S m) k x) ((inside m c).parts_in k x lt) (parts-below S m (inside m c).value k x lt))
    where
      part : (p : Tree) → Contains all p → IsLower (height m) p → (nesting (name_or (N p) (written S d N p)) ≤ 62) × (length (printed (name_or (N p) (written S d N p))) ≤ 4095)
      part p i b = part-small S all t N inside low has-line d p i (omega (arith, b.lower)) (omega (arith, b.lower, low m c))

  -- a definition of what is small is a line
  definition-line : (k : ℕ) (s : Sexp) → k < 2 ^ 64 → IsSound limits s → nesting s ≤ 63 → length (printed s) ≤ 8_000_000 → IsLine limits (definition (line_name k) s)
  definition-line k s small sound deep long =
      (sound-printable limits limits.nesting (definition (line_name k) s) whole depth, size)
    where
      whole : IsSound limits (definition (line_name k) s)
      whole = (four, (define-name, (name-sound k small, (none, (sound, tt)))))

      depth : nesting (definition (line_name k) s) ≤ limits.nesting
      depth = enough (nesting s) deep

      size : length (printed (definition (line_name k) s)) ≤ limits.command
      size = let n = (name-short k small).1 in let most = stand_in-size.1 in let w = define-size in
          command-size (omega (
            arith,
            n,
            most,
            w,
            long,
            length-append (printed (symbol (codes "define"))) (32 ∷ (printed (symbol (line_name k)) ++ 32 ∷ 40 ∷ 41 ∷ 32 ∷ (printed s ++ []))),
            length-append (printed (symbol (codes "define")) ++ 32 ∷ (printed (symbol (line_name k)) ++ 32 ∷ 40 ∷ 41 ∷ 32 ∷ (printed s ++ []))) (41 ∷ []),
            length-append (printed (symbol (line_name k))) (32 ∷ 40 ∷ 41 ∷ 32 ∷ (printed s ++ [])),
            length-append (printed s) [],
          ))

  -- the line of each member that gets one
  lines-from : (k : ℕ) (ts : List Tree) → All (Contains all) ts → AreNumbered S macros k ts → AreLines limits (map (line S N) (named_from S macros k ts))
  lines-from k [] inside_all few = tt
  lines-from k (m ∷ ts) inside_all few =
      let n = next_free S macros k in
      let c = All-head (Contains all) m ts inside_all in
      let small = small-written (height m) m c (omega arith) in (
        definition-line n (written S (height m) N m) few.1 (sound-written (height m) m c (omega arith)) small.0 small.1,
        lines-from (suc n) ts (All-tail (Contains all) m ts inside_all) few.3,
      )

  pub are-lines : AreLines limits (lines_of S lines)
  unfolding shown_lines defined
  are-lines = lines-from 1 (defined S t) (All-filter test (Contains all) all (All-contains_itself all)) numbers
