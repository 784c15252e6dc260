-- What is kept of the accepted commands of a run, so that its proof can be trimmed.
use Rattle.std.specs.Prelude.{ℕ, ◌-◌, Bool, ◌==◌, not, if◌then◌else◌, List, [], ◌∷◌, ◌++◌, length, take, drop, Option, slice_get}
use Rattle.eo_session.specs.Notes.{Act, Defines, Assumes, Opens, Derives, Closes, Seen}
use Rattle.eo_trim.specs.Needed.{premises_of}
use Rattle.eo_trim.specs.declared.entries.Head.{Head}
use Rattle.eo_trim.specs.declared.entries.Item.{Item}
use Rattle.eo_trim.specs.declared.entries.Kind.{Kind}
use Rattle.eo_trim.specs.declared.entries.Kind.TheVariants as kind
use Rattle.eo_trim.specs.declared.entries.OpenScope.{OpenScope}
use Rattle.eo_trim.specs.declared.entries.Span.{Span}

-- What is kept of a command. Of one of another file no bytes are kept.
pub record Entry : Type 0 where
  pub head : Head
  pub premises : List ℕ
  pub bytes : List ℕ

abbrev pub kind_of : Act → Kind
kind_of Defines = kind.Define
kind_of (Assumes formula) = kind.Step
kind_of (Opens formula) = kind.Step
kind_of (Derives step) = kind.Step
kind_of (Closes step) = kind.Pop
kind_of act = kind.Plain

-- ---- open scopes, the innermost last

abbrev pub innermost_scope : List OpenScope → Option OpenScope
innermost_scope scopes = slice_get scopes (length scopes - 1)

abbrev pub without_innermost : List OpenScope → List OpenScope
without_innermost scopes = take (length scopes - 1) scopes

-- those after a command with this number
abbrev pub scopes_with : List OpenScope → (number : ℕ) → (elsewhere : Bool) → Act → List OpenScope
scopes_with scopes number elsewhere (Opens formula) = scopes ++ record { number = number; elsewhere = elsewhere } ∷ []
scopes_with scopes number elsewhere (Closes step) = without_innermost scopes
scopes_with scopes number elsewhere act = scopes

-- ---- the entries of a run, where the proof's file has the number `proof`

abbrev pub is_in_proof : (proof : ℕ) → Seen → Bool
is_in_proof proof c = c.place.file == proof

abbrev pub bytes_if : Bool → List ℕ → List ℕ
bytes_if keep bytes = if keep then bytes else []

abbrev pub head_of : (proof : ℕ) → List OpenScope → Seen → Head
head_of proof scopes c = record { number = c.number; in_proof = is_in_proof proof c; kind = kind_of c.act; scope = innermost_scope scopes }

abbrev pub entry_of : (proof : ℕ) → List OpenScope → Seen → Entry
entry_of proof scopes c = record { head = head_of proof scopes c; premises = premises_of c.act; bytes = bytes_if (is_in_proof proof c) c.bytes }

abbrev pub scopes_past : (proof : ℕ) → List OpenScope → Seen → List OpenScope
scopes_past proof scopes c = scopes_with scopes c.number (not (is_in_proof proof c)) c.act

unfoldable pub entries_from : (proof : ℕ) → List OpenScope → List Seen → List Entry
entries_from proof scopes [] = []
entries_from proof scopes (c ∷ cs) = entry_of proof scopes c ∷ entries_from proof (scopes_past proof scopes c) cs

unfoldable pub scopes_from : (proof : ℕ) → List OpenScope → List Seen → List OpenScope
scopes_from proof scopes [] = scopes
scopes_from proof scopes (c ∷ cs) = scopes_from proof (scopes_past proof scopes c) cs

-- ---- as they are kept

-- a part of a buffer
abbrev pub part : {A : Type 0} → List A → Span → List A
part buffer s = take (s.end - s.start) (drop s.start buffer)

abbrev pub read_item : (premises bytes : List ℕ) → Item → Entry
read_item premises bytes i = record { head = i.head; premises = part premises i.premises; bytes = part bytes i.bytes }
