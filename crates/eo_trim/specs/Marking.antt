-- The needed commands of a run by its entries, and the text of those of its proof.
use Rattle.std.specs.Prelude.{◌≡◌, ℕ, ◌<◌, Bool, true, false, not, ◌||◌, ◌&&◌, if◌then◌else◌, List, [], ◌∷◌, ◌++◌, length, Option, None, Some, option_map, option_to_list, slice_index_or, IfSome, All}
use Rattle.std.specs.List.{flat_map}
use Rattle.eo_trim.specs.Entries.{Entry}
use Rattle.eo_trim.specs.Needing.{contains}
use Rattle.eo_trim.specs.declared.entries.Head.{Head}
use Rattle.eo_trim.specs.declared.entries.Kind.{Kind}
use Rattle.eo_trim.specs.declared.entries.Kind.TheVariants as kind
use Rattle.eo_trim.specs.declared.entries.OpenScope.{OpenScope}

-- ---- needs

abbrev pub scope_number : Option OpenScope → List ℕ
scope_number scope = option_to_list (option_map (λ (s : OpenScope). s.number) scope)

-- Whether a command outside all scopes is needed for what it is, and one in a scope for the scope.
abbrev pub is_kind_needed : Option OpenScope → Kind → (later : List ℕ) → Bool
is_kind_needed None kind.Plain later = true
is_kind_needed None kind.Define later = true
is_kind_needed None kind.Step later = false
is_kind_needed None kind.Pop later = false
is_kind_needed (Some s) kind.Plain later = false
is_kind_needed (Some s) kind.Define later = contains later s.number
is_kind_needed (Some s) kind.Step later = false
is_kind_needed (Some s) kind.Pop later = s.elsewhere

abbrev pub is_head_needed : Head → (later : List ℕ) → Bool
is_head_needed h later = not h.in_proof || contains later h.number || is_kind_needed h.scope h.kind later

-- the numbers that a command and those after it need
abbrev pub needs_with : Entry → (later : List ℕ) → List ℕ
needs_with e later = if is_head_needed e.head later then e.head.number ∷ scope_number e.head.scope ++ (e.premises ++ later) else later

unfoldable pub entry_needs : (last : List ℕ) → List Entry → List ℕ
entry_needs last [] = last
entry_needs last (e ∷ es) = needs_with e (entry_needs last es)

-- ---- marks

abbrev pub is_marked : List Bool → ℕ → Bool
is_marked marks n = slice_index_or marks n false

-- just these are marked, of the numbers for which there is a mark
pub record AreMarked (marks : List Bool) (numbers : List ℕ) : Type 0 where
  pub are : (n : ℕ) → n < length marks → is_marked marks n ≡ contains numbers n

-- just these are marked beside those that were
pub record MarksMore (old new : List Bool) (numbers : List ℕ) : Type 0 where
  pub same : length new ≡ length old
  pub are : (n : ℕ) → n < length old → is_marked new n ≡ (contains numbers n || is_marked old n)

-- the numbers in an entry are less than this
pub record IsBelow (n : ℕ) (h : Head) : Type 0 where
  pub number : h.number < n
  pub scope : IfSome h.scope (λ (s : OpenScope). s.number < n)

abbrev pub AreBelow : ℕ → List Entry → Type 0
AreBelow n entries = All (λ (e : Entry). IsBelow n e.head) entries

-- ---- the text

-- the bytes of a needed command of the proof, and a line feed
abbrev pub line_of : (ℕ → Bool) → Entry → List ℕ
line_of holds e = if e.head.in_proof && holds e.head.number then e.bytes ++ 10 ∷ [] else []

abbrev pub text_of : (ℕ → Bool) → List Entry → List ℕ
text_of holds entries = flat_map (line_of holds) entries
