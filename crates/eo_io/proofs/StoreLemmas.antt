-- The files of a store: looking one up, adding one, and what of the open ones is unread.
use Rattle.std.proofs.Common.{◌≡◌, ℕ, ◌+◌, ◌<◌, ◌≤◌, Bool, true, false, cond, List, [], ◌∷◌, ◌++◌, length, map, set, take, drop, reverse, Some, None, All, get_or, if◌then◌else◌, refl, sym, ap, ◌∙◌, subst, arith, length-append}
use Rattle.std.specs.Option.{option_map, option_to_list}
use Rattle.std.specs.Str.{bytes_eq}
use Rattle.std.specs.Map.{lookup}
use Rattle.std.proofs.lemmas.Bool.{false≢true}
use Rattle.eo_base.proofs.Tests.{bytes_eq-flip}
use Rattle.std.proofs.lemmas.Slice.Eq.{bytes_eq-Decides}
use Rattle.std.proofs.lemmas.List.{get_or_append_left, get_or_push, length_push, map-append, reverse-append, take_all, take_more, length-take-le, set_at, drop-drop, get_or-map}
use Rattle.std.proofs.lemmas.List.Elements.{All-head, All-tail, All-nil, All-cons, All-weaker, All-push, All-get_or}
use Rattle.indexmap.specs.IndexMap.{insert_entry}
use Rattle.eo_io.specs.declared.file_store.OpenFile.{OpenFile}
use Rattle.eo_io.specs.Library.{Files, file_at, Closes}
use Rattle.eo_io.specs.Stored.{with_file, IsFileOf, after_open, first_unread}
use Rattle.eo_io.specs.Holding.{bytes_at, rest_of, stored, IsOpenIn, IsHeld}

-- equality of bytes

same : (xs ys : List ℕ) → bytes_eq xs ys ≡ true → xs ≡ ys
same xs ys h = (bytes_eq-Decides xs ys).0 h

-- the file of each path after one is added
pub file_at-with_file : (files : Files) (path bytes : List ℕ) → IsFileOf files (with_file files path bytes) path bytes
file_at-with_file [] path bytes p = refl
file_at-with_file (file ∷ files) path bytes p =
    by (bytes_eq path file.0) (bytes_eq file.0 p) (bytes_eq path p) refl refl refl (file_at-with_file files path bytes p)
  where
    by : (b c d : Bool) → bytes_eq path file.0 ≡ b → bytes_eq file.0 p ≡ c → bytes_eq path p ≡ d
        → file_at (with_file files path bytes) p ≡ (if bytes_eq path p then Some bytes else file_at files p)
        → file_at (if b then (file.0, bytes) ∷ files else file ∷ with_file files path bytes) p ≡ (if d then Some bytes else (if c then Some file.1 else file_at files p))
    by true true true f g h rest = ap (λ t. if t then Some bytes else file_at files p) g
    by true true false f g h rest = absurd (false≢true (sym h ∙ ap (λ q. bytes_eq q p) (same path file.0 f) ∙ g))
    by true false true f g h rest = absurd (false≢true (sym g ∙ ap (λ q. bytes_eq q p) (sym (same path file.0 f)) ∙ h))
    by true false false f g h rest = ap (λ t. if t then Some bytes else file_at files p) g
    by false true true f g h rest = absurd (false≢true (sym f ∙ ap (bytes_eq path) (same file.0 p g) ∙ h))
    by false true false f g h rest = ap (λ t. if t then Some file.1 else file_at (with_file files path bytes) p) g
    by false false true f g h rest = ap (λ t. if t then Some file.1 else file_at (with_file files path bytes) p) g ∙ rest ∙ ap (λ t. if t then Some bytes else file_at files p) h
    by false false false f g h rest = ap (λ t. if t then Some file.1 else file_at (with_file files path bytes) p) g ∙ rest ∙ ap (λ t. if t then Some bytes else file_at files p) h

module _ {V : Type 0} (items : V → List ℕ) where
  abbrev file_of : List (List ℕ) → V × ℕ → List ℕ × List ℕ
  file_of contents e = (items e.0, bytes_at contents e.1)

  -- a look-up by hash finds the file of the definition
  pub file_at-told : (contents : List (List ℕ)) (places : List (V × ℕ)) (path : List ℕ)
      → option_map (bytes_at contents) (lookup (λ k. bytes_eq path (items k)) places) ≡ file_at (map (λ e. (items e.0, bytes_at contents e.1)) places) path
  file_at-told contents [] path = refl
  file_at-told contents (e ∷ es) path = by (bytes_eq path (items e.0)) (file_at-told contents es path) ∙ ap (λ b. cond b (Some (bytes_at contents e.1)) (file_at (map (file_of contents) es) path)) (bytes_eq-flip path (items e.0))
    where
      by : (b : Bool) → option_map (bytes_at contents) (lookup (λ k. bytes_eq path (items k)) es) ≡ file_at (map (file_of contents) es) path
          → option_map (bytes_at contents) (cond b (Some e.1) (lookup (λ k. bytes_eq path (items k)) es)) ≡ cond b (Some (bytes_at contents e.1)) (file_at (map (file_of contents) es) path)
      by true rest = refl
      by false rest = rest

  -- and its place has bytes
  pub place_within : (test : V → Bool) (n : ℕ) (places : List (V × ℕ)) (place : ℕ) → All (λ (e : V × ℕ). e.1 < n) places → lookup test places ≡ Some place → place < n
  place_within test n [] place h p = absurd cc
  place_within test n (e ∷ es) place h p =
      by (test e.0) p (All-head (λ (e : V × ℕ). e.1 < n) e es h) (place_within test n es place (All-tail (λ (e : V × ℕ). e.1 < n) e es h))
    where
      by : (b : Bool) → cond b (Some e.1) (lookup test es) ≡ Some place → e.1 < n → (lookup test es ≡ Some place → place < n) → place < n
      by true q own rest = let is : e.1 ≡ place = cc in omega arith
      by false q own rest = rest q

  -- more bytes change no file
  files_stay : (contents : List (List ℕ)) (more : List (List ℕ)) (places : List (V × ℕ)) → All (λ (e : V × ℕ). e.1 < length contents) places
      → map (file_of (contents ++ more)) places ≡ map (file_of contents) places
  files_stay contents more [] h = refl
  files_stay contents more (e ∷ es) h =
      let own : bytes_at (contents ++ more) e.1 ≡ bytes_at contents e.1 = get_or_append_left contents more [] e.1 (All-head (λ (e : V × ℕ). e.1 < length contents) e es h) in
      λ i. (items e.0, own i) ∷ files_stay contents more es (All-tail (λ (e : V × ℕ). e.1 < length contents) e es h) i

  -- the files after one is added
  files-added : (contents : List (List ℕ)) (places : List (V × ℕ)) (key : V) (bytes : List ℕ) → All (λ (e : V × ℕ). e.1 < length contents) places
      → map (file_of (contents ++ bytes ∷ [])) (insert_entry (λ x y. bytes_eq (items x) (items y)) places key (length contents)) ≡ with_file (map (file_of contents) places) (items key) bytes
  files-added contents [] key bytes h = λ i. (items key, get_or_push contents bytes [] (length contents) refl i) ∷ []
  files-added contents (e ∷ es) key bytes h =
      let rest = files_stay contents (bytes ∷ []) es (All-tail (λ (e : V × ℕ). e.1 < length contents) e es h) in
      let own : bytes_at (contents ++ bytes ∷ []) e.1 ≡ bytes_at contents e.1 = get_or_append_left contents (bytes ∷ []) [] e.1 (All-head (λ (e : V × ℕ). e.1 < length contents) e es h) in
      by (bytes_eq (items key) (items e.0)) rest own (files-added contents es key bytes (All-tail (λ (e : V × ℕ). e.1 < length contents) e es h))
    where
      by : (b : Bool) → map (file_of (contents ++ bytes ∷ [])) es ≡ map (file_of contents) es
          → bytes_at (contents ++ bytes ∷ []) e.1 ≡ bytes_at contents e.1
          → map (file_of (contents ++ bytes ∷ [])) (insert_entry (λ x y. bytes_eq (items x) (items y)) es key (length contents)) ≡ with_file (map (file_of contents) es) (items key) bytes
          → map (file_of (contents ++ bytes ∷ [])) (if b then (e.0, length contents) ∷ es else e ∷ insert_entry (λ x y. bytes_eq (items x) (items y)) es key (length contents))
          ≡ (if b then (items e.0, bytes) ∷ map (file_of contents) es else file_of contents e ∷ with_file (map (file_of contents) es) (items key) bytes)
      by true rest own ind = λ i. (items e.0, get_or_push contents bytes [] (length contents) refl i) ∷ rest i
      by false rest own ind = λ i. (items e.0, own i) ∷ ind i

  within-added : (n : ℕ) (places : List (V × ℕ)) (key : V) → All (λ (e : V × ℕ). e.1 < n) places
      → All (λ (e : V × ℕ). e.1 < n + 1) (insert_entry (λ x y. bytes_eq (items x) (items y)) places key n)
  within-added n [] key h = All-cons (λ (e : V × ℕ). e.1 < n + 1) (key, n) [] (omega arith) (All-nil (λ (e : V × ℕ). e.1 < n + 1))
  within-added n (e ∷ es) key h =
      let rest = All-tail (λ (e : V × ℕ). e.1 < n) e es h in
      let own : e.1 < n = All-head (λ (e : V × ℕ). e.1 < n) e es h in
      by (bytes_eq (items key) (items e.0)) own (All-weaker (λ (e : V × ℕ). e.1 < n) (λ (e : V × ℕ). e.1 < n + 1) (λ x l. omega arith) es rest) (within-added n es key rest)
    where
      by : (b : Bool) → e.1 < n → All (λ (e : V × ℕ). e.1 < n + 1) es → All (λ (e : V × ℕ). e.1 < n + 1) (insert_entry (λ x y. bytes_eq (items x) (items y)) es key n)
          → All (λ (e : V × ℕ). e.1 < n + 1) (if b then (e.0, n) ∷ es else e ∷ insert_entry (λ x y. bytes_eq (items x) (items y)) es key n)
      by true own rest ind = All-cons (λ (e : V × ℕ). e.1 < n + 1) (e.0, n) es (omega arith) rest
      by false own rest ind = All-cons (λ (e : V × ℕ). e.1 < n + 1) e (insert_entry (λ x y. bytes_eq (items x) (items y)) es key n) (omega arith) ind

-- more bytes change no open file
rest_stay : (contents more : List (List ℕ)) (files : List OpenFile) → All (IsOpenIn contents) files → map (rest_of (contents ++ more)) files ≡ map (rest_of contents) files
rest_stay contents more [] h = refl
rest_stay contents more (file ∷ files) h =
    let own : bytes_at (contents ++ more) file.place ≡ bytes_at contents file.place = get_or_append_left contents more [] file.place (All-head (IsOpenIn contents) file files h).place in
    λ i. drop file.read (own i) ∷ rest_stay contents more files (All-tail (IsOpenIn contents) file files h) i

open_stay : (contents more : List (List ℕ)) (file : OpenFile) → IsOpenIn contents file → IsOpenIn (contents ++ more) file
open_stay contents more file h =
    let own : bytes_at (contents ++ more) file.place ≡ bytes_at contents file.place = get_or_append_left contents more [] file.place h.place in
    record { place = omega (arith, h.place, length-append contents more); read = subst (λ bytes. file.read ≤ length bytes) (sym own) h.read }

-- what `push` leaves of a list of bytes
pub pushed_bytes : {V : Type 0} (items : V → List ℕ) (old mid now : List V) (v : V) (bytes : List ℕ) → now ≡ mid ++ v ∷ [] → mid ≡ old → items v ≡ bytes
    → map items now ≡ map items old ++ bytes ∷ []
pushed_bytes items old mid now v bytes pushed kept own =
    ap (map items) pushed ∙ map-append items mid (v ∷ []) ∙ (λ i. map items (kept i) ++ own i ∷ [])

-- what a store keeps and means after a file is added
module _ {V : Type 0} (items : V → List ℕ) (places entries : List (V × ℕ)) (contents now : List (List ℕ)) (files : List OpenFile) (room place : ℕ) (key : V) (path bytes : List ℕ)
    (h : IsHeld places contents files room) (grown : now ≡ contents ++ bytes ∷ []) (last : place ≡ length contents)
    (put : entries ≡ insert_entry (λ x y. bytes_eq (items x) (items y)) places key place) (own : items key ≡ path) where
  put_last : entries ≡ insert_entry (λ x y. bytes_eq (items x) (items y)) places key (length contents)
  put_last = put ∙ ap (insert_entry (λ x y. bytes_eq (items x) (items y)) places key) last

  longer : length now ≡ length contents + 1
  longer = ap length grown ∙ length_push contents bytes

  pub held-added : IsHeld entries now files room
  held-added = record {
    within = subst (λ es. All (λ (e : V × ℕ). e.1 < length now) es) (sym put_last)
        (subst (λ n. All (λ (e : V × ℕ). e.1 < n) (insert_entry (λ x y. bytes_eq (items x) (items y)) places key (length contents))) (sym longer) (within-added items (length contents) places key h.within));
    open_in = subst (λ all. All (IsOpenIn all) files) (sym grown) (All-weaker (IsOpenIn contents) (IsOpenIn (contents ++ bytes ∷ [])) (open_stay contents (bytes ∷ [])) files h.open_in);
    room = h.room;
  }

  pub told-added : map (λ (e : V × ℕ). (items e.0, bytes_at now e.1)) entries ≡ with_file (map (λ (e : V × ℕ). (items e.0, bytes_at contents e.1)) places) path bytes
  told-added =
      (λ i. map (file_of items (grown i)) (put_last i)) ∙ files-added items contents places key bytes h.within
      ∙ ap (λ p. with_file (map (file_of items contents) places) p bytes) own

  pub unread-added : map (rest_of now) files ≡ map (rest_of contents) files
  unread-added = ap (λ all. map (rest_of all) files) grown ∙ rest_stay contents (bytes ∷ []) files h.open_in

-- what is unread where one more file is open
unread-pushed : (contents : List (List ℕ)) (files : List OpenFile) (file : OpenFile)
    → reverse (map (rest_of contents) (files ++ file ∷ [])) ≡ rest_of contents file ∷ reverse (map (rest_of contents) files)
unread-pushed contents files file =
    ap reverse (map-append (rest_of contents) files (file ∷ [])) ∙ reverse-append (map (rest_of contents) files) (rest_of contents file ∷ [])

unread-opened : (contents : List (List ℕ)) (files : List OpenFile) (file : OpenFile) → file.read ≡ 0
    → reverse (map (rest_of contents) (files ++ file ∷ [])) ≡ bytes_at contents file.place ∷ reverse (map (rest_of contents) files)
unread-opened contents files file start =
    unread-pushed contents files file ∙ ap (λ n. drop n (bytes_at contents file.place) ∷ reverse (map (rest_of contents) files)) start

-- opening a file
module _ {V : Type 0} (items : V → List ℕ) (places : List (V × ℕ)) (contents : List (List ℕ)) (files : List OpenFile) (room : ℕ) (path : List ℕ) where
  -- where no place is found, there is no file
  pub absent : lookup (λ k. bytes_eq path (items k)) places ≡ None → file_at (map (λ (e : V × ℕ). (items e.0, bytes_at contents e.1)) places) path ≡ None
  absent p = sym (file_at-told items contents places path) ∙ ap (option_map (bytes_at contents)) p

  pub after-absent : lookup (λ k. bytes_eq path (items k)) places ≡ None → stored items places contents files ≡ after_open (stored items places contents files) path
  after-absent p = λ i. record { told = map (λ (e : V × ℕ). (items e.0, bytes_at contents e.1)) places; unread = option_to_list (sym (absent p) i) ++ reverse (map (rest_of contents) files) }

  module _ (place : ℕ) (found : lookup (λ k. bytes_eq path (items k)) places ≡ Some place) where
    -- the file of the definition
    pub present : file_at (map (λ (e : V × ℕ). (items e.0, bytes_at contents e.1)) places) path ≡ Some (bytes_at contents place)
    present = sym (file_at-told items contents places path) ∙ ap (option_map (bytes_at contents)) found

    pub after-opened : (now : List OpenFile) (file : OpenFile) → now ≡ files ++ file ∷ [] → file.place ≡ place → file.read ≡ 0 → stored items places contents now ≡ after_open (stored items places contents files) path
    after-opened now file pushed at start =
        let rests = ap (λ all. reverse (map (rest_of contents) all)) pushed ∙ unread-opened contents files file start ∙ (λ i. bytes_at contents (at i) ∷ reverse (map (rest_of contents) files)) in
        let told = map (λ (e : V × ℕ). (items e.0, bytes_at contents e.1)) places in
        (λ i. record { told = told; unread = rests i }) ∙ (λ i. record { told = told; unread = option_to_list (sym present i) ++ reverse (map (rest_of contents) files) })

    pub held-opened : (now : List OpenFile) (room' : ℕ) (file : OpenFile) → now ≡ files ++ file ∷ [] → file.place ≡ place → file.read ≡ 0 → room ≤ room' → IsHeld places contents files room → IsHeld places contents now room'
    held-opened now room' file pushed at start more h = record {
      within = h.within;
      open_in = subst (All (IsOpenIn contents)) (sym pushed)
          (All-push (IsOpenIn contents) files file h.open_in
          (record { place = subst (λ n. n < length contents) (sym at) (place_within items (λ k. bytes_eq path (items k)) (length contents) places place h.within found); read = omega arith }));
      room = omega (arith, h.room);
    }

-- where a rest is unread, a file is open
pub some_open : (contents : List (List ℕ)) (files : List OpenFile) → (reverse (map (rest_of contents) files) ≡ [] → ⊥) → 0 < length files
some_open contents [] h = absurd (h refl)
some_open contents (file ∷ files) h = omega arith

-- the bytes at a place
pub bytes_at-map : {V : Type 0} (items : V → List ℕ) (contents : List V) (place : ℕ) (v : V) → place < length contents → v ≡ get_or contents place v → bytes_at (map items contents) place ≡ items v
bytes_at-map items contents place v h at = get_or-map items contents place v [] h ∙ ap items (sym at)

-- the file opened last
module _ (contents : List (List ℕ)) (files : List OpenFile) (last : ℕ) (file : OpenFile) (is_last : last + 1 ≡ length files) (at : file ≡ get_or files last file) where
  files_split : files ≡ take last files ++ file ∷ []
  files_split =
      let all : take (last + 1) files ≡ files = take_all (last + 1) files (omega arith) in
      sym all ∙ take_more files last file (omega arith) ∙ (λ i. take last files ++ sym at i ∷ [])

  unread_split : reverse (map (rest_of contents) files) ≡ rest_of contents file ∷ reverse (map (rest_of contents) (take last files))
  unread_split = ap (λ all. reverse (map (rest_of contents) all)) files_split ∙ unread-pushed contents (take last files) file

  -- the first rest is its rest
  pub first_unread-last : first_unread (reverse (map (rest_of contents) files)) ≡ rest_of contents file
  first_unread-last = ap first_unread unread_split

  pub unread-read : (now : List OpenFile) (n : ℕ) → now ≡ set files last (record { place = file.place; read = file.read + n })
      → reverse (map (rest_of contents) now) ≡ drop n (first_unread (reverse (map (rest_of contents) files))) ∷ drop 1 (reverse (map (rest_of contents) files))
  unread-read now n put =
      let file' : OpenFile = record { place = file.place; read = file.read + n } in
      let short : length (take last files) ≡ last = length-take-le last files (omega arith) in
      let now_split : now ≡ take last files ++ file' ∷ [] = put ∙ ap (λ all. set all last file') files_split ∙ set_at (take last files) file [] file' last short in
      ap (λ all. reverse (map (rest_of contents) all)) now_split ∙ unread-pushed contents (take last files) file'
      ∙ (λ i. sym (drop-drop n file.read (bytes_at contents file.place)) i ∷ reverse (map (rest_of contents) (take last files)))
      ∙ (λ i. drop n (sym first_unread-last i) ∷ drop 1 (sym unread_split i))

  -- and it has bytes
  pub last-open : All (IsOpenIn contents) files → IsOpenIn contents file
  last-open h = subst (IsOpenIn contents) (sym at) (All-get_or (IsOpenIn contents) files last file (omega arith) h)

-- closing the first of the open files
pub closes_first : (unread after : List (List ℕ)) → (map Some unread ≡ [] → ⊥) → after ≡ drop 1 unread → Closes (map Some unread) (map Some after)
closes_first [] after some e = absurd (some refl)
closes_first (rest ∷ others) after some e = (Some rest, ap (λ all. Some rest ∷ map Some all) (sym e))
