-- What each name means by the innermost binding of it, and what it meant before.
use Rattle.std.specs.Prelude.{◌≡◌, ℕ, true, if◌then◌else◌, List, [], ◌∷◌, drop, Option, Some, None, is_some, option_map, find, bytes_eq}
use Rattle.std.specs.Option.{option_flatten}
use Rattle.std.specs.Map.{lookup}
use Rattle.eo_names.specs.declared.locals.LocalName.{LocalName}

-- For each name its term, if it has one, and what each binding hides, that of the last one first.
pub record Index : Type 0 where
  pub terms : List (List ℕ × Option ℕ)
  pub hidden : List (Option ℕ)

-- the term of a name
abbrev pub term_in : Index → List ℕ → Option ℕ
term_in x name = option_flatten (lookup (bytes_eq name) x.terms)

-- the term of the innermost local of a name
abbrev pub term_named : List LocalName → List ℕ → Option ℕ
term_named ls name = option_map (λ l. l.id) (find (λ l. bytes_eq l.name name) ls)

-- what the name of each local means among those around it
abbrev pub hidden_by : List LocalName → List (Option ℕ)
hidden_by [] = []
hidden_by (l ∷ ls) = term_named ls l.name ∷ hidden_by ls

-- the index has the terms of the names of these locals, the innermost first
pub record IsIndex (ls : List LocalName) (x : Index) : Type 0 where
  pub terms : (name : List ℕ) → term_in x name ≡ term_named ls name
  pub hidden : x.hidden ≡ hidden_by ls

-- the name means the term, and what it meant before is hidden
pub record Binds (old : Index) (name : List ℕ) (id : ℕ) (new : Index) : Type 0 where
  pub terms : (other : List ℕ) → term_in new other ≡ (if bytes_eq name other then Some id else term_in old other)
  pub hidden : new.hidden ≡ term_in old name ∷ old.hidden

-- what is hidden last
abbrev pub last_hidden : List (Option ℕ) → Option ℕ
last_hidden [] = None
last_hidden (h ∷ hs) = h

-- the name, if it meant a term, means again what was hidden last
pub record Unbinds (old : Index) (name : List ℕ) (new : Index) : Type 0 where
  pub terms : is_some (term_in old name) ≡ true → (other : List ℕ) → term_in new other ≡ (if bytes_eq name other then last_hidden old.hidden else term_in old other)
  pub hidden : new.hidden ≡ drop 1 old.hidden
