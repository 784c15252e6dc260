-- A turn of the walk that finds members leaves what it finds, and makes it shorter.
use Rattle.std.specs.Prelude.{◌≡◌, refl, ℕ, zero, suc, ◌<◌, ◌≤◌, Bool, true, false, ◌||◌, if◌then◌else◌, List, [], ◌∷◌, ◌++◌, fold, All}
use Rattle.std.proofs.Common.{ap, ap₂, ◌∙◌, arith}
use Rattle.std.proofs.lemmas.List.Elements.{All-nil, All-cons, All-head, All-tail, All-weaker}
use Rattle.eo_term.specs.Tree.{Tree, height, tree_eq}
use Rattle.eo_term.proofs.Equality.{tree_same, tree_refl}
use Rattle.eo_base.proofs.Tests.{or_first, or_second}
use Rattle.eo_sig.specs.Signature.{Signature}
use Rattle.eo_show.specs.Members.{parts_of, with_members}
use Rattle.eo_show.specs.Walking.{Begun, is_found, IsLower, AreLower, AreNested, AreNew, finished, turns_for_all, turns_for, turns_left}
use Rattle.eo_show.proofs.FormFacts.{some_height}

abbrev pub begun : Tree → List Tree → Begun
begun m left = record { member = m; left = left }

module _ (S : Signature) where
  -- ---- a part that is found

  known : (d : ℕ) (found : List Tree) (p : Tree) → is_found found p ≡ true → with_members S d found p ≡ found
  known zero found p e = refl
  known (suc d) found p e = ap (λ b. if b then found else fold (with_members S d) found (parts_of S p) ++ p ∷ []) e

  pub passed : (d : ℕ) (bs : List Begun) (m p : Tree) (left found : List Tree) → is_found found p ≡ true → finished S d (bs ++ begun m (p ∷ left) ∷ []) found ≡ finished S d (bs ++ begun m left ∷ []) found
  passed zero [] m p left found e = refl
  passed (suc d) [] m p left found e = ap (λ us. fold (with_members S d) us left ++ m ∷ []) (known d found p e)
  passed zero (b ∷ bs) m p left found e = refl
  passed (suc d) (b ∷ bs) m p left found e = ap (λ us. fold (with_members S d) us b.left ++ b.member ∷ []) (passed d bs m p left found e)

  one_turn : (d : ℕ) (found : List Tree) (p : Tree) → is_found found p ≡ true → turns_for S d found p ≡ 1
  one_turn zero found p e = refl
  one_turn (suc d) found p e = ap (λ (b : Bool). if b then 1 else suc (suc (turns_for_all S (turns_for S d) (with_members S d) found (parts_of S p)))) e

  abbrev later : ℕ → List Tree → List Tree → ℕ
  later d left found = turns_for_all S (turns_for S d) (with_members S d) found left

  pub passed-shorter : (d : ℕ) (bs : List Begun) (m p : Tree) (left found : List Tree) → AreLower d (bs ++ begun m (p ∷ left) ∷ []) → is_found found p ≡ true → turns_left S d (bs ++ begun m left ∷ []) found < turns_left S d (bs ++ begun m (p ∷ left) ∷ []) found
  passed-shorter zero [] m p left found low e = absurd low
  passed-shorter (suc d) [] m p left found low e = omega (arith, one_turn d found p e, ap (later d left) (known d found p e))
  passed-shorter zero (b ∷ bs) m p left found low e = absurd low
  passed-shorter (suc d) (b ∷ bs) m p left found low e = omega (arith, passed-shorter d bs m p left found low.2 e, ap (later d b.left) (passed d bs m p left found e))

  -- ---- a part that is begun

  start : (d : ℕ) (found : List Tree) (p : Tree) → is_found found p ≡ false → with_members S d found p ≡ finished S d (begun p (parts_of S p) ∷ []) found
  start zero found p e = refl
  start (suc d) found p e = ap (λ b. if b then found else fold (with_members S d) found (parts_of S p) ++ p ∷ []) e

  pub started : (d : ℕ) (bs : List Begun) (m p : Tree) (left found : List Tree) → is_found found p ≡ false → finished S d (bs ++ begun m (p ∷ left) ∷ []) found ≡ finished S d (bs ++ begun m left ∷ begun p (parts_of S p) ∷ []) found
  started zero [] m p left found e = refl
  started (suc d) [] m p left found e = ap (λ us. fold (with_members S d) us left ++ m ∷ []) (start d found p e)
  started zero (b ∷ bs) m p left found e = refl
  started (suc d) (b ∷ bs) m p left found e = ap (λ us. fold (with_members S d) us b.left ++ b.member ∷ []) (started d bs m p left found e)

  pub begin-alone : (d : ℕ) (u : Tree) → with_members S d [] u ≡ finished S d (begun u (parts_of S u) ∷ []) []
  begin-alone d u = start d [] u refl

  more_turns : (d : ℕ) (found : List Tree) (p : Tree) → height p < suc d → 0 < height p → is_found found p ≡ false → turns_for S d found p ≡ suc (turns_left S d (begun p (parts_of S p) ∷ []) found)
  more_turns zero found p low some e = absurd (omega (arith, low, some))
  more_turns (suc d) found p low some e = ap (λ (b : Bool). if b then 1 else suc (suc (turns_for_all S (turns_for S d) (with_members S d) found (parts_of S p)))) e ∙ omega arith

  pub started-shorter : (d : ℕ) (bs : List Begun) (m p : Tree) (left found : List Tree) → AreLower d (bs ++ begun m (p ∷ left) ∷ []) → 0 < height p → is_found found p ≡ false → turns_left S d (bs ++ begun m left ∷ begun p (parts_of S p) ∷ []) found < turns_left S d (bs ++ begun m (p ∷ left) ∷ []) found
  started-shorter zero [] m p left found low some e = absurd low
  started-shorter (suc d) [] m p left found low some e =
      let first = All-head (IsLower (suc d)) p left low.1 in
      omega (arith, more_turns d found p first.lower some e, ap (later d left) (start d found p e))
  started-shorter zero (b ∷ bs) m p left found low some e = absurd low
  started-shorter (suc d) (b ∷ bs) m p left found low some e = omega (arith, started-shorter d bs m p left found low.2 some e, ap (later d b.left) (started d bs m p left found e))

  pub started-lower : (d : ℕ) (bs : List Begun) (m p : Tree) (left : List Tree) → AreLower d (bs ++ begun m (p ∷ left) ∷ []) → 0 < height p → All (IsLower (height p)) (parts_of S p) → AreLower d (bs ++ begun m left ∷ begun p (parts_of S p) ∷ [])
  started-lower zero [] m p left low some parts = absurd low
  started-lower (suc d) [] m p left low some parts = (low.0, All-tail (IsLower (suc d)) p left low.1, inner d (All-head (IsLower (suc d)) p left low.1))
    where
      inner : (d : ℕ) → IsLower (suc d) p → AreLower d (begun p (parts_of S p) ∷ [])
      inner zero l = absurd (omega (arith, l.lower, some))
      inner (suc d) l = (l, All-weaker (IsLower (height p)) (IsLower (suc d)) (λ t b. record { value = b.value; lower = omega (arith, b.lower, l.lower) }) (parts_of S p) parts, tt)
  started-lower zero (b ∷ bs) m p left low some parts = absurd low
  started-lower (suc d) (b ∷ bs) m p left low some parts = (low.0, low.1, started-lower d bs m p left low.2 some parts)

  pub passed-lower : (d : ℕ) (bs : List Begun) (m p : Tree) (left : List Tree) → AreLower d (bs ++ begun m (p ∷ left) ∷ []) → AreLower d (bs ++ begun m left ∷ [])
  passed-lower zero [] m p left low = absurd low
  passed-lower (suc d) [] m p left low = (low.0, All-tail (IsLower (suc d)) p left low.1, low.2)
  passed-lower zero (b ∷ bs) m p left low = absurd low
  passed-lower (suc d) (b ∷ bs) m p left low = (low.0, low.1, passed-lower d bs m p left low.2)

  -- ---- a member that is done

  pub done : (d : ℕ) (bs : List Begun) (m : Tree) (found : List Tree) → AreLower d (bs ++ begun m [] ∷ []) → finished S d (bs ++ begun m [] ∷ []) found ≡ finished S d bs (found ++ m ∷ [])
  done zero [] m found low = absurd low
  done (suc d) [] m found low = refl
  done zero (b ∷ bs) m found low = absurd low
  done (suc d) (b ∷ bs) m found low = ap (λ us. fold (with_members S d) us b.left ++ b.member ∷ []) (done d bs m found low.2)

  pub done-shorter : (d : ℕ) (bs : List Begun) (m : Tree) (found : List Tree) → AreLower d (bs ++ begun m [] ∷ []) → turns_left S d bs (found ++ m ∷ []) < turns_left S d (bs ++ begun m [] ∷ []) found
  done-shorter zero [] m found low = absurd low
  done-shorter (suc d) [] m found low = omega arith
  done-shorter zero (b ∷ bs) m found low = absurd low
  done-shorter (suc d) (b ∷ bs) m found low = omega (arith, done-shorter d bs m found low.2, ap (later d b.left) (done d bs m found low.2))

  pub done-lower : (d : ℕ) (bs : List Begun) (m : Tree) → AreLower d (bs ++ begun m [] ∷ []) → AreLower d bs
  done-lower d [] m low = tt
  done-lower zero (b ∷ bs) m low = absurd low
  done-lower (suc d) (b ∷ bs) m low = (low.0, low.1, done-lower d bs m low.2)

-- ---- members that are begun are nested

pub nested-lower : (bs : List Begun) (h d : ℕ) → h ≤ suc d → AreNested h bs → AreLower d bs
nested-lower [] h d le n = tt
nested-lower (b ∷ bs) h zero le n = absurd (omega (arith, n.0.lower, le, some_height b.member))
nested-lower (b ∷ bs) h (suc d) le n =
    let low = n.0.lower in
    (record { value = n.0.value; lower = omega (arith, low, le) }, All-weaker (IsLower (height b.member)) (IsLower (suc d)) (λ t l. record { value = l.value; lower = omega (arith, l.lower, low, le) }) b.left n.1, nested-lower bs (height b.member) d (omega (arith, low, le)) n.2)

pub passed-nested : (h : ℕ) (bs : List Begun) (m p : Tree) (left : List Tree) → AreNested h (bs ++ begun m (p ∷ left) ∷ []) → AreNested h (bs ++ begun m left ∷ []) × IsLower (height m) p
passed-nested h [] m p left n = ((n.0, All-tail (IsLower (height m)) p left n.1, tt), All-head (IsLower (height m)) p left n.1)
passed-nested h (b ∷ bs) m p left n = let r = passed-nested (height b.member) bs m p left n.2 in ((n.0, n.1, r.0), r.1)

pub started-nested : (h : ℕ) (bs : List Begun) (m p : Tree) (left parts : List Tree) → AreNested h (bs ++ begun m left ∷ []) → IsLower (height m) p → All (IsLower (height p)) parts → AreNested h ((bs ++ begun m left ∷ []) ++ begun p parts ∷ [])
started-nested h [] m p left parts n low all = (n.0, n.1, (low, all, tt))
started-nested h (b ∷ bs) m p left parts n low all = (n.0, n.1, started-nested (height b.member) bs m p left parts n.2 low all)

pub done-nested : (h : ℕ) (bs : List Begun) (x : Begun) → AreNested h (bs ++ x ∷ []) → AreNested h bs × All (λ b. height x.member < height b.member) bs
done-nested h [] x n = (tt, All-nil (λ (b : Begun). height x.member < height b.member))
done-nested h (b ∷ bs) x n =
    let r = done-nested (height b.member) bs x n.2 in
    ((n.0, n.1, r.0), All-cons (λ (b : Begun). height x.member < height b.member) b bs (inside bs b (height b.member) (omega arith) n.2) r.1)
  where
    inside : (bs : List Begun) (b : Begun) (k : ℕ) → k ≤ height b.member → AreNested k (bs ++ x ∷ []) → height x.member < height b.member
    inside [] b k le n = omega (arith, n.0.lower, le)
    inside (c ∷ bs) b k le n = inside bs b (height c.member) (omega (arith, n.0.lower, le)) n.2

other_height : (t u : Tree) → height u < height t → tree_eq t u ≡ false
other_height t u less = go (tree_eq t u) refl
  where
    go : (b : Bool) → tree_eq t u ≡ b → b ≡ false
    go true e = absurd (omega (arith, ap height (tree_same t u e), less))
    go false e = refl

pub found-more : (found : List Tree) (t m : Tree) → is_found (found ++ m ∷ []) t ≡ (is_found found t || tree_eq t m)
found-more [] t m = go (tree_eq t m)
  where
    go : (b : Bool) → (b || false) ≡ (false || b)
    go true = refl
    go false = refl
found-more (u ∷ found) t m = go (tree_eq t u) (found-more found t m)
  where
    go : (b : Bool) → is_found (found ++ m ∷ []) t ≡ (is_found found t || tree_eq t m) → (b || is_found (found ++ m ∷ []) t) ≡ ((b || is_found found t) || tree_eq t m)
    go true e = refl
    go false e = e

-- those that are begun stay new
pub done-new : (bs : List Begun) (found : List Tree) (m : Tree) → AreNew found bs → All (λ b. height m < height b.member) bs → AreNew (found ++ m ∷ []) bs
done-new bs found m new low = All-both bs new low
  where
    All-both : (bs : List Begun) → AreNew found bs → All (λ b. height m < height b.member) bs → AreNew (found ++ m ∷ []) bs
    All-both [] n l = All-nil (λ (b : Begun). is_found (found ++ m ∷ []) b.member ≡ false)
    All-both (b ∷ bs) n l =
        All-cons (λ (b : Begun). is_found (found ++ m ∷ []) b.member ≡ false) b bs
        (found-more found b.member m ∙ ap₂ (λ (x y : Bool). x || y) (All-head (λ (b : Begun). is_found found b.member ≡ false) b bs n) (other_height b.member m (All-head (λ (b : Begun). height m < height b.member) b bs l)))
        (All-both bs (All-tail (λ (b : Begun). is_found found b.member ≡ false) b bs n) (All-tail (λ (b : Begun). height m < height b.member) b bs l))

-- ---- what is found stays, and what is begun is found in the end

module _ (S : Signature) where
  fold-stays : (next : List Tree → Tree → List Tree) (q : Tree) → ((found : List Tree) (p : Tree) → is_found found q ≡ true → is_found (next found p) q ≡ true) → (ps found : List Tree) → is_found found q ≡ true → is_found (fold next found ps) q ≡ true
  fold-stays next q each [] found e = e
  fold-stays next q each (p ∷ ps) found e = fold-stays next q each ps (next found p) (each found p e)

  stays : (d : ℕ) (found : List Tree) (p q : Tree) → is_found found q ≡ true → is_found (with_members S d found p) q ≡ true
  stays zero found p q e = e
  stays (suc d) found p q e = go (is_found found p) (fold-stays (with_members S d) q (λ us v h. stays d us v q h) (parts_of S p) found e)
    where
      go : (b : Bool) → is_found (fold (with_members S d) found (parts_of S p)) q ≡ true → is_found (if b then found else fold (with_members S d) found (parts_of S p) ++ p ∷ []) q ≡ true
      go true inner = e
      go false inner = found-more (fold (with_members S d) found (parts_of S p)) q p ∙ or_first (is_found (fold (with_members S d) found (parts_of S p)) q) (tree_eq q p) inner

  stays-all : (d : ℕ) (found ps : List Tree) (q : Tree) → is_found found q ≡ true → is_found (fold (with_members S d) found ps) q ≡ true
  stays-all d found ps q e = fold-stays (with_members S d) q (λ us v h. stays d us v q h) ps found e

  pub ends-with : (d : ℕ) (bs : List Begun) (x : Begun) (found : List Tree) → AreLower d (bs ++ x ∷ []) → is_found (finished S d (bs ++ x ∷ []) found) x.member ≡ true
  ends-with zero [] x found low = absurd low
  ends-with (suc d) [] x found low =
      found-more (fold (with_members S d) found x.left) x.member x.member ∙ or_second (is_found (fold (with_members S d) found x.left) x.member) (tree_eq x.member x.member) (tree_refl x.member)
  ends-with zero (b ∷ bs) x found low = absurd low
  ends-with (suc d) (b ∷ bs) x found low =
      found-more (fold (with_members S d) (finished S d (bs ++ x ∷ []) found) b.left) x.member b.member
      ∙ or_first (is_found (fold (with_members S d) (finished S d (bs ++ x ∷ []) found) b.left) x.member) (tree_eq x.member b.member) (stays-all d (finished S d (bs ++ x ∷ []) found) b.left x.member (ends-with d bs x found low.2))
