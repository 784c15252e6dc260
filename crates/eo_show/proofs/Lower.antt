-- The parts of a value are values, and lower.
use Rattle.std.specs.Prelude.{◌≡◌, refl, ℕ, ◌≤◌, Bool, true, false, ◌&&◌, nat_le, List, [], ◌∷◌, length, if◌then◌else◌, Option, Some, None, All}
use Rattle.std.proofs.Common.{sym, arith, subst}
use Rattle.std.proofs.lemmas.List.Elements.{All-nil, All-cons, All-push, All-weaker}
use Rattle.eo_base.proofs.Tests.{both}
use Rattle.eo_term.specs.Tree.{Tree, Con, Num, Bits, Str, Par, Var, App, Arr, Qar, Op, height, is_value}
use Rattle.eo_lists.specs.Lists.{spell}
use Rattle.eo_lists.proofs.Spell.{spell-spelled}
use Rattle.eo_sig.specs.Signature.{Signature}
use Rattle.eo_show.specs.Forms.{takes, attribute_of, joins_plainly, Form, Folded, Plainly, most_arguments, head_of, arguments_of, list_of, is_short_list, by_head, chain, list_or, form, parts}
use Rattle.eo_show.specs.Walking.{IsLower}
use Rattle.eo_show.proofs.FormFacts.{some_height, list_of-is}

below : (h k : ℕ) (t : Tree) → h ≤ k → IsLower h t → IsLower k t
below h k t le b = record { value = b.value; lower = omega (arith, b.lower) }

all-below : (h k : ℕ) (ts : List Tree) → h ≤ k → All (IsLower h) ts → All (IsLower k) ts
all-below h k ts le all = All-weaker (IsLower h) (IsLower k) (λ t b. below h k t le b) ts all

-- the items of a list
items-below : (f n : Tree) (ts : List Tree) → is_value (spell f n ts) ≡ true → All (IsLower (height (spell f n ts))) ts
items-below f n [] v = All-nil (IsLower (height n))
items-below f n (t ∷ ts) v =
    All-cons (IsLower (height (spell f n (t ∷ ts)))) t ts (record { value = (both (both v).0).1; lower = omega arith })
    (all-below (height (spell f n ts)) (height (spell f n (t ∷ ts))) ts (omega arith) (items-below f n ts (both v).1))

-- the head of an application and its arguments
head-below : (t : Tree) → is_value t ≡ true → (is_value (head_of t) ≡ true) × (height (head_of t) ≤ height t) × All (IsLower (height t)) (arguments_of t)
head-below (App f x) v =
    let inner = head-below f (both v).0 in
    (inner.0, omega (arith, inner.1), All-push (IsLower (height (App f x))) (arguments_of f) x (all-below (height f) (height (App f x)) (arguments_of f) (omega arith) inner.2) (record { value = (both v).1; lower = omega arith }))
head-below (Con k) v = (v, omega arith, All-nil (IsLower 1))
head-below (Num z) v = (v, omega arith, All-nil (IsLower 1))
head-below (Bits w x) v = (v, omega arith, All-nil (IsLower 1))
head-below (Str s) v = (v, omega arith, All-nil (IsLower 1))
head-below (Par i) v = cc
head-below (Var s t) v = (v, omega arith, All-nil (IsLower (height (Var s t))))
head-below (Arr a b) v = (v, omega arith, All-nil (IsLower (height (Arr a b))))
head-below (Qar i t b) v = cc
head-below (Op c ts) v = cc

module _ (S : Signature) where
  abbrev PartsBelow : ℕ → Form → Type 0
  PartsBelow h f = All (IsLower h) (parts S f)

  by_head-below : (h : ℕ) (t : Tree) (args : List Tree) → IsLower h t → All (IsLower h) args → PartsBelow h (by_head S t args)
  by_head-below h (Con k) args b all = go (takes S k (length args) && joins_plainly (attribute_of S k) (length args))
    where
      go : (b : Bool) → PartsBelow h (if b then Folded k args else Plainly (Con k) args)
      go true = all
      go false = All-cons (IsLower h) (Con k) args b all
  by_head-below h t args b all = All-cons (IsLower h) t args b all

  chain-below : (f x : Tree) → is_value (App f x) ≡ true → PartsBelow (height (App f x)) (chain S f x)
  chain-below f x v = go (head-below f (both v).0) (nat_le (length (arguments_of (App f x))) most_arguments)
    where
      go : (is_value (head_of f) ≡ true) × (height (head_of f) ≤ height f) × All (IsLower (height f)) (arguments_of f) → (b : Bool) → PartsBelow (height (App f x)) (if b then by_head S (head_of f) (arguments_of (App f x)) else Plainly f (x ∷ []))
      go inner true = by_head-below (height (App f x)) (head_of f) (arguments_of (App f x)) (record { value = inner.0; lower = omega (arith, inner.1) }) (head-below (App f x) v).2
      go inner false = All-cons (IsLower (height (App f x))) f (x ∷ []) (record { value = (both v).0; lower = omega arith })
          (All-cons (IsLower (height (App f x))) x [] (record { value = (both v).1; lower = omega arith }) (All-nil (IsLower (height (App f x)))))

  application-below : (f x : Tree) → is_value (App f x) ≡ true → PartsBelow (height (App f x)) (list_or S (list_of S (App f x)) (chain S f x))
  application-below f x v = go (list_of S (App f x)) refl
    where
      short : (l : ℕ × List Tree) → list_of S (App f x) ≡ Some l → (b : Bool) → PartsBelow (height (App f x)) (if b then Folded l.0 l.1 else chain S f x)
      short l e false = chain-below f x v
      short l e true =
          let is = list_of-is S (App f x) l e in
          let back : spell (Con l.0) is.0 l.1 ≡ App f x = (spell-spelled (Con l.0) is.0 (App f x) l.1 is.2).0 in
          subst (λ (t : Tree). All (IsLower (height t)) l.1) back (items-below (Con l.0) is.0 l.1 (subst (λ (t : Tree). is_value t ≡ true) (sym back) v))

      go : (o : Option (ℕ × List Tree)) → list_of S (App f x) ≡ o → PartsBelow (height (App f x)) (list_or S o (chain S f x))
      go None e = chain-below f x v
      go (Some l) e = short l e (is_short_list S l)

  two-below : (h : ℕ) (a b : Tree) → IsLower h a → IsLower h b → All (IsLower h) (a ∷ b ∷ [])
  two-below h a b p q = All-cons (IsLower h) a (b ∷ []) p (All-cons (IsLower h) b [] q (All-nil (IsLower h)))

  -- the parts of the form of a value
  pub parts-below : (t : Tree) → is_value t ≡ true → All (IsLower (height t)) (parts S (form S t))
  unfolding form
  parts-below (Con k) v = All-nil (IsLower 1)
  parts-below (Num z) v = All-nil (IsLower 1)
  parts-below (Bits w x) v = All-nil (IsLower 1)
  parts-below (Str s) v = All-nil (IsLower 1)
  parts-below (Par i) v = cc
  parts-below (Var s t) v = two-below (height (Var s t)) (Str s) t (record { value = refl; lower = omega (arith, some_height t) }) (record { value = v; lower = omega arith })
  parts-below (App f x) v = application-below f x v
  parts-below (Arr a b) v = two-below (height (Arr a b)) a b (record { value = (both v).0; lower = omega arith }) (record { value = (both v).1; lower = omega arith })
  parts-below (Qar i t b) v = cc
  parts-below (Op c ts) v = cc
