-- A command that is begun: its bytes, the lists that are open, and the s-expressions that are whole.
use Rattle.std.specs.Prelude.{ℕ, ◌+◌, List, [], ◌∷◌, ◌++◌, length}
use Rattle.eo_sexp.specs.Sexp.{Sexp, Listed}
use Rattle.eo_sexp.specs.Sexp.{sexps_of}
use Rattle.eo_sexp.specs.Sizes.{size_of_all}

-- the byte of its `(`, and its children so far
pub record OpenList : Type 0 where
  pub at : ℕ
  pub children : List Sexp

pub record Built : Type 0 where
  pub bytes : List ℕ
  -- the innermost first
  pub open_lists : List OpenList
  -- what is outside of them
  pub done : List Sexp

abbrev pub nothing : Built
nothing = record { bytes = []; open_lists = []; done = [] }

-- how many lists and atoms the open lists are made of so far, and all that is begun
abbrev pub parts_in : List OpenList → ℕ
parts_in [] = 0
parts_in (f ∷ fs) = 1 + size_of_all f.children + parts_in fs

abbrev pub parts_of : Built → ℕ
parts_of b = parts_in b.open_lists + size_of_all b.done

-- after the child s of the innermost list, or after s where no list is open
abbrev pub behind_child : List ℕ → List OpenList → List Sexp → Sexp → Built
behind_child bytes [] done s = record { bytes = bytes; open_lists = []; done = done ++ s ∷ [] }
behind_child bytes (f ∷ fs) done s = record { bytes = bytes; open_lists = record { at = f.at; children = f.children ++ s ∷ [] } ∷ fs; done = done }

abbrev pub with_child : Built → Sexp → Built
with_child b s = behind_child b.bytes b.open_lists b.done s

abbrev pub behind_list : List ℕ → List OpenList → List Sexp → (to : ℕ) → Built
behind_list bytes [] done to = record { bytes = bytes; open_lists = []; done = done }
behind_list bytes (f ∷ fs) done to = behind_child bytes fs done (Listed (sexps_of f.children) (record { from = f.at; to = to }))

-- the innermost list is closed before byte `to`
abbrev pub closed : Built → (to : ℕ) → Built
closed b to = behind_list b.bytes b.open_lists b.done to

-- a list is open from byte `at` on
abbrev pub opened : Built → (at : ℕ) → Built
opened b at = record b { open_lists = record { at = at; children = [] } ∷ b.open_lists }

-- how many children the innermost list has
abbrev pub width_of : List OpenList → ℕ
width_of [] = 0
width_of (f ∷ fs) = length f.children

abbrev pub with_byte : Built → ℕ → Built
with_byte b x = record b { bytes = b.bytes ++ x ∷ [] }
