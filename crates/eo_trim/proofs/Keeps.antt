-- Parts of a buffer that grows.
use Rattle.std.proofs.Common.{◌≡◌, refl, ℕ, ◌-◌, ◌≤◌, List, [], ◌∷◌, ◌++◌, length, take, drop, map, sym, ap, ap₂, ◌∙◌, All, arith, length-append, length-drop}
use Rattle.std.proofs.lemmas.List.{take-append-le, drop-append-le, drop_at, take_all, map-append}
use Rattle.std.proofs.lemmas.List.Elements.{All-weaker, All-head, All-tail}
use Rattle.eo_trim.specs.Entries.{Entry, part, read_item}
use Rattle.eo_trim.specs.Keeping.{IsInside, IsItem}
use Rattle.eo_trim.specs.declared.entries.Item.{Item}
use Rattle.eo_trim.specs.declared.entries.Span.{Span}

pub inside-more : (m n : ℕ) (s : Span) → m ≤ n → IsInside m s → IsInside n s
inside-more m n s le h = record { order = h.order; within = omega (arith, le, h.within) }

pub item-more : (m n p q : ℕ) (i : Item) → m ≤ p → n ≤ q → IsItem m n i → IsItem p q i
item-more m n p q i e f h = record { premises_in = inside-more m p i.premises e h.premises_in; bytes_in = inside-more n q i.bytes f h.bytes_in }

pub items-more : (m n p q : ℕ) (is : List Item) → m ≤ p → n ≤ q → All (IsItem m n) is → All (IsItem p q) is
items-more m n p q is e f h = All-weaker (IsItem m n) (IsItem p q) (λ i. item-more m n p q i e f) is h

pub part-more : {A : Type 0} (xs ys : List A) (s : Span) → IsInside (length xs) s → part (xs ++ ys) s ≡ part xs s
part-more xs ys s h =
    ap (take (s.end - s.start)) (drop-append-le s.start xs ys (omega (arith, h.order, h.within)))
    ∙ take-append-le (s.end - s.start) (drop s.start xs) ys (omega (arith, h.order, h.within, length-drop s.start xs))

pub part-last : {A : Type 0} (xs ys : List A) (s : Span) → s.start ≡ length xs → s.end ≡ length (xs ++ ys) → part (xs ++ ys) s ≡ ys
part-last xs ys s e f =
    ap (take (s.end - s.start)) (drop_at xs ys s.start (sym e)) ∙ take_all (s.end - s.start) ys (omega (arith, e, f, length-append xs ys))

pub reads-more : (ps qs bs cs : List ℕ) (is : List Item) → All (IsItem (length ps) (length bs)) is → map (read_item (ps ++ qs) (bs ++ cs)) is ≡ map (read_item ps bs) is
reads-more ps qs bs cs [] h = refl
reads-more ps qs bs cs (i ∷ is) h =
    let here = All-head (IsItem (length ps) (length bs)) i is h in
    let first : read_item (ps ++ qs) (bs ++ cs) i ≡ read_item ps bs i =
    ap₂ (λ (x y : List ℕ). record { head = i.head; premises = x; bytes = y }) (part-more ps qs i.premises here.premises_in) (part-more bs cs i.bytes here.bytes_in) in
    ap₂ (λ (x : Entry) (xs : List Entry). x ∷ xs) first (reads-more ps qs bs cs is (All-tail (IsItem (length ps) (length bs)) i is h))

-- one more command, with its premises and its bytes at the ends of the buffers
pub reads-pushed : (ps qs bs cs : List ℕ) (is : List Item) (i : Item) → All (IsItem (length ps) (length bs)) is
    → i.premises.start ≡ length ps → i.premises.end ≡ length (ps ++ qs) → i.bytes.start ≡ length bs → i.bytes.end ≡ length (bs ++ cs)
    → map (read_item (ps ++ qs) (bs ++ cs)) (is ++ i ∷ []) ≡ map (read_item ps bs) is ++ record { head = i.head; premises = qs; bytes = cs } ∷ []
reads-pushed ps qs bs cs is i h e f g k =
    map-append (read_item (ps ++ qs) (bs ++ cs)) is (i ∷ [])
    ∙ ap₂ (λ (xs : List Entry) (x : Entry). xs ++ x ∷ []) (reads-more ps qs bs cs is h)
    (ap₂ (λ (x y : List ℕ). record { head = i.head; premises = x; bytes = y }) (part-last ps qs i.premises e f) (part-last bs cs i.bytes g k))

-- the same in words of the buffers after it
pub push-is : (ps qs more : List ℕ) (bs cs bytes : List ℕ) (is items : List Item) (i : Item) → All (IsItem (length ps) (length bs)) is
    → more ≡ ps ++ qs → bytes ≡ bs ++ cs → items ≡ is ++ i ∷ []
    → i.premises.start ≡ length ps → i.premises.end ≡ length more → i.bytes.start ≡ length bs → i.bytes.end ≡ length bytes
    → map (read_item more bytes) items ≡ map (read_item ps bs) is ++ record { head = i.head; premises = qs; bytes = cs } ∷ []
push-is ps qs more bs cs bytes is items i h p b s e f g k =
    ap (map (read_item more bytes)) s
    ∙ ap₂ (λ (x y : List ℕ). map (read_item x y) (is ++ i ∷ [])) p b
    ∙ reads-pushed ps qs bs cs is i h e (f ∙ ap (λ (x : List ℕ). length x) p) g (k ∙ ap (λ (x : List ℕ). length x) b)
