-- How a store holds its files: the place of each path's bytes in the list of all bytes, over any type of keys.
use Rattle.std.specs.Prelude.{ℕ, ◌<◌, ◌≤◌, List, [], length, drop, map, reverse, slice_index_or, All}
use Rattle.eo_io.specs.declared.file_store.OpenFile.{OpenFile}
use Rattle.eo_io.specs.Stored.{Stored}

-- the bytes at a place
abbrev pub bytes_at : List (List ℕ) → ℕ → List ℕ
bytes_at contents place = slice_index_or contents place []

-- what is unread of an open file
abbrev pub rest_of : List (List ℕ) → OpenFile → List ℕ
rest_of contents file = drop file.read (bytes_at contents file.place)

abbrev pub stored : {V : Type 0} → (V → List ℕ) → List (V × ℕ) → List (List ℕ) → List OpenFile → Stored
stored {V} items places contents files = record {
  told = map (λ (e : V × ℕ). (items e.0, bytes_at contents e.1)) places;
  unread = reverse (map (rest_of contents) files);
}

-- an open file has bytes, and no more of them are read than there are
pub record IsOpenIn (contents : List (List ℕ)) (file : OpenFile) : Type 0 where
  pub place : file.place < length contents
  pub read : file.read ≤ length (bytes_at contents file.place)

-- Each place and each open file has its bytes, and there is room for all open files.
pub record IsHeld {V : Type 0} (places : List (V × ℕ)) (contents : List (List ℕ)) (files : List OpenFile) (capacity : ℕ) : Type 0 where
  pub within : All (λ (e : V × ℕ). e.1 < length contents) places
  pub open_in : All (IsOpenIn contents) files
  pub room : 18 ≤ capacity
