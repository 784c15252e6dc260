-- What the libraries in memory hold: files by path, and the unread rests of the open files.
use Rattle.std.specs.Prelude.{◌≡◌, ℕ, List, [], ◌∷◌, ◌++◌, length, take, drop, min, Some, is_some, bytes_eq, if◌then◌else◌}
use Rattle.std.specs.Option.{option_to_list}
use Rattle.eo_io.specs.declared.Opened.{Opened}
use Rattle.eo_io.specs.declared.Opened.TheVariants as opened
use Rattle.eo_io.specs.Library.{Files, file_at}

pub record Stored : Type 0 where
  -- the files, no two of one path
  pub told : Files
  -- the unread rests of the open files, that of the file opened last first
  pub unread : List (List ℕ)

-- no files
abbrev pub nothing_stored : Stored
nothing_stored = record { told = []; unread = [] }

-- The files after one is added: it takes the place of the one with its path, or comes last.
abbrev pub with_file : Files → (path bytes : List ℕ) → Files
with_file [] path bytes = (path, bytes) ∷ []
with_file (file ∷ files) path bytes = if bytes_eq path file.0 then (file.0, bytes) ∷ files else file ∷ with_file files path bytes

-- the bytes that are the file of each path, after one is added
abbrev pub IsFileOf : (old new : Files) (path bytes : List ℕ) → Type 0
IsFileOf old new path bytes = (p : List ℕ) → file_at new p ≡ (if bytes_eq path p then Some bytes else file_at old p)

abbrev pub opened_by : Stored → List ℕ → Opened
opened_by stored path = if is_some (file_at stored.told path) then opened.Ready else opened.Absent

-- a file that is opened comes first, and is unread
abbrev pub after_open : Stored → List ℕ → Stored
after_open stored path = record { told = stored.told; unread = option_to_list (file_at stored.told path) ++ stored.unread }

-- the unread rest of the file opened last
abbrev pub first_unread : List (List ℕ) → List ℕ
first_unread [] = []
first_unread (rest ∷ others) = rest

-- how many bytes a read gives, which moves at most so many
abbrev pub read_length : Stored → (buffer most : ℕ) → ℕ
read_length stored buffer most = min (min most buffer) (length (first_unread stored.unread))

-- the buffer after a read of n bytes
abbrev pub buffer_after : Stored → ℕ → List ℕ → List ℕ
buffer_after stored n buffer = take n (first_unread stored.unread) ++ drop n buffer

abbrev pub after_read : Stored → ℕ → Stored
after_read stored n = record { told = stored.told; unread = drop n (first_unread stored.unread) ∷ drop 1 stored.unread }

abbrev pub after_close : Stored → Stored
after_close stored = record { told = stored.told; unread = drop 1 stored.unread }
