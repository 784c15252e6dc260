-- How the path of a file is folded.
use Rattle.std.specs.Prelude.{◌≡◌, ℕ, ◌-◌, Bool, false, not, ◌||◌, List, [], ◌∷◌, ◌++◌, reverse, length, take, Option, None, Some, nat_le, ◌==◌, if◌then◌else◌, bytes_eq, codes, fold}
use Rattle.std.specs.Str.{is_utf8}
use Rattle.std.specs.List.{slice_split, join_with_byte, suffix_len, list_any}

abbrev pub path_limit : ℕ
path_limit = 4096

abbrev pub is_slash : ℕ → Bool
is_slash byte = byte == 47

abbrev pub is_absolute : List ℕ → Bool
is_absolute [] = false
is_absolute (byte ∷ path) = is_slash byte

-- the folder of a file, with the slash that ends it; nothing where the path has none
abbrev pub folder : List ℕ → List ℕ
folder path = take (length path - suffix_len (λ byte. not (is_slash byte)) path) path

-- the path as the file that names it means it
abbrev pub seen_from : (from name : List ℕ) → List ℕ
seen_from from name = if is_absolute name then name else folder from ++ name

-- `..` drops the part before it, where there is one that is no `..`, and is dropped at the root
abbrev pub up : Bool → List (List ℕ) → List (List ℕ)
up absolute [] = if absolute then [] else codes ".." ∷ []
up absolute (part ∷ parts) = if bytes_eq part (codes "..") then codes ".." ∷ part ∷ parts else parts

-- the parts that stay, the last one first, after one more part
abbrev pub with_part : Bool → List (List ℕ) → List ℕ → List (List ℕ)
with_part absolute parts part =
    if bytes_eq part [] || bytes_eq part (codes ".") then parts
    else (if bytes_eq part (codes "..") then up absolute parts else part ∷ parts)

abbrev pub parts_of : List ℕ → List (List ℕ)
parts_of path = reverse (fold (with_part (is_absolute path)) [] (slice_split is_slash path))

abbrev pub root : Bool → List ℕ
root absolute = if absolute then codes "/" else []

abbrev pub if_short : List ℕ → Option (List ℕ)
if_short path = if nat_le (length path) path_limit then Some path else None

-- the path of the parts; none where no part stayed
abbrev pub path_of_parts : Bool → List (List ℕ) → Option (List ℕ)
path_of_parts absolute [] = None
path_of_parts absolute (part ∷ parts) = if_short (root absolute ++ join_with_byte 47 (part ∷ parts))

abbrev pub folded : List ℕ → Option (List ℕ)
folded path = if is_utf8 path then path_of_parts (is_absolute path) (parts_of path) else None

-- The path of a file that is named in the file `from`, or among the words, where `from` is empty. None where it is bad: it is no UTF-8, no part of it stays, or it is too long.
abbrev pub fold_path : (from name : List ℕ) → Option (List ℕ)
fold_path from name = folded (seen_from from name)

-- The table of paths after one more is added: a path that is there keeps its number, and another goes last.
abbrev pub with_path : List (List ℕ) → List ℕ → List (List ℕ)
with_path paths path = if list_any (bytes_eq path) paths then paths else paths ++ path ∷ []

-- Each path of the old table keeps its number in the new one.
abbrev pub Extends : (old new : List (List ℕ)) → Type 0
Extends old new = (more : List (List ℕ)) × (new ≡ old ++ more)
