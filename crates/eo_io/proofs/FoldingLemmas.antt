-- The parts of a path, as the code keeps them and as the definition does.
use Rattle.std.proofs.Common.{◌≡◌, ◌≢◌, ℕ, Bool, true, false, ◌||◌, List, [], ◌∷◌, ◌++◌, None, map, reverse, codes, refl, ap, ◌∙◌, if◌then◌else◌}
use Rattle.std.proofs.lemmas.List.{map-append, reverse-append, append-nil}
use Rattle.std.specs.List.{join_with_byte, join_by}
use Rattle.std.specs.Str.{bytes_eq, is_utf8, IsUtf8}
use Rattle.std.proofs.lemmas.Str.{IsUtf8-from_is_utf8, is_utf8-from_IsUtf8}
use Rattle.std.proofs.lemmas.Slice.Eq.{bytes_eq-Decides}
use Rattle.eo_io.specs.Paths.{is_absolute, parts_of, path_of_parts, folded, with_part, up}

module _ {A : Type 0} (text : A → List ℕ) where
  -- the part that was added last comes first
  pub parts_pushed : (parts : List A) (part : A) → reverse (map text (parts ++ part ∷ [])) ≡ text part ∷ reverse (map text parts)
  parts_pushed parts part = ap reverse (map-append text parts (part ∷ [])) ∙ reverse-append (map text parts) (text part ∷ [])

  pub parts_joined : (parts : List A) → join_by text (47 ∷ []) parts ≡ join_with_byte 47 (map text parts)
  parts_joined [] = refl
  parts_joined (x ∷ []) = append-nil (text x)
  parts_joined (x ∷ y ∷ parts) = ap (λ more. text x ++ 47 ∷ more) (parts_joined (y ∷ parts))

differ : (x y : List ℕ) → x ≢ y → bytes_eq x y ≡ false
differ x y other = by (bytes_eq x y) refl
  where
    by : (b : Bool) → bytes_eq x y ≡ b → b ≡ false
    by true e = absurd (other ((bytes_eq-Decides x y).0 e))
    by false e = refl

-- a part that is a name goes last
pub with_name : (absolute : Bool) (parts : List (List ℕ)) (part : List ℕ) → part ≢ [] → part ≢ codes "." → part ≢ codes ".." → with_part absolute parts part ≡ part ∷ parts
with_name absolute parts part some dot dots =
    λ i. if differ part [] some i || differ part (codes ".") dot i then parts
    else (if differ part (codes "..") dots i then up absolute parts else part ∷ parts)

-- `..` drops a name
pub up_from_name : (absolute : Bool) (part : List ℕ) (parts : List (List ℕ)) → part ≢ codes ".." → up absolute (part ∷ parts) ≡ parts
up_from_name absolute part parts dots = ap (λ b. if b then codes ".." ∷ part ∷ parts else parts) (differ part (codes "..") dots)

-- a path that is UTF-8
pub folded_text : (path : List ℕ) → IsUtf8 path → folded path ≡ path_of_parts (is_absolute path) (parts_of path)
folded_text path is = ap (λ b. if b then path_of_parts (is_absolute path) (parts_of path) else None) (is_utf8-from_IsUtf8 path is)

-- a path that is not UTF-8
pub folded_no_text : (path : List ℕ) → ¬ (IsUtf8 path) → folded path ≡ None
folded_no_text path bytes = by (is_utf8 path) refl
  where
    by : (b : Bool) → is_utf8 path ≡ b → (if b then path_of_parts (is_absolute path) (parts_of path) else None) ≡ None
    by true e = absurd (bytes (IsUtf8-from_is_utf8 path e))
    by false e = refl
