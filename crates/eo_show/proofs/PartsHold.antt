-- What holds of a tree and of all trees in it holds of its members.
use Rattle.std.specs.Prelude.{◌≡◌, refl, ℕ, zero, suc, Bool, true, false, not, ◌&&◌, ◌||◌, ◌==◌, nat_le, List, [], ◌∷◌, ◌++◌, length, fold, if◌then◌else◌, Option, Some, None, All, Contains}
use Rattle.std.specs.List.{list_any}
use Rattle.std.proofs.Common.{sym, ap, arith, subst}
use Rattle.std.proofs.lemmas.Bool.{eqb-true}
use Rattle.std.proofs.lemmas.List.Elements.{All-nil, All-cons, All-head, All-tail, All-push, All-contains}
use Rattle.eo_term.specs.Tree.{Tree, Con, Num, Bits, Str, Var, App, Arr, height, tree_eq}
use Rattle.eo_lists.specs.Lists.{spell}
use Rattle.eo_lists.proofs.Spell.{spell-spelled}
use Rattle.eo_sig.specs.Signature.{Signature, constant_named}
use Rattle.eo_show.specs.Forms.{name_of, is_this, takes, attribute_of, joins_plainly, Folded, Plainly, most_arguments, head_of, arguments_of, list_of, is_short_list, by_head, chain, list_or, form, parts}
use Rattle.eo_show.specs.Members.{parts_of, with_members, members, has_no_spelling}
use Rattle.eo_term.specs.Ranges.{IsInRange}
use Rattle.eo_show.proofs.FormFacts.{list_of-is, IsSpelled}

-- it holds of what is in a tree of which it holds
pub record GoesDown (Q : Tree → Type 0) : Type 0 where
  pub app : (f x : Tree) → Q (App f x) → Q f × Q x
  pub arr : (a b : Tree) → Q (Arr a b) → Q a × Q b
  pub var : (s : List ℕ) (t : Tree) → Q (Var s t) → Q (Str s) × Q t

module _ (Q : Tree → Type 0) (down : GoesDown Q) where
  items-hold : (f n : Tree) (ts : List Tree) → Q (spell f n ts) → All Q ts
  items-hold f n [] q = All-nil Q
  items-hold f n (t ∷ ts) q =
      let outer = down.app (App f t) (spell f n ts) q in
      All-cons Q t ts (down.app f t outer.0).1 (items-hold f n ts outer.1)

  head-holds : (t : Tree) → Q t → Q (head_of t)
  head-holds (App f x) q = head-holds f (down.app f x q).0
  head-holds t q = q

  arguments-hold : (t : Tree) → Q t → All Q (arguments_of t)
  arguments-hold (App f x) q = All-push Q (arguments_of f) x (arguments-hold f (down.app f x q).0) (down.app f x q).1
  arguments-hold t q = All-nil Q

  module _ (S : Signature) where
    by_head-hold : (h : Tree) (args : List Tree) → Q h → All Q args → All Q (parts S (by_head S h args))
    by_head-hold (Con k) args q all = go (takes S k (length args) && joins_plainly (attribute_of S k) (length args))
      where
        go : (b : Bool) → All Q (parts S (if b then Folded k args else Plainly (Con k) args))
        go true = all
        go false = All-cons Q (Con k) args q all
    by_head-hold h args q all = All-cons Q h args q all

    chain-hold : (f x : Tree) → Q (App f x) → All Q (parts S (chain S f x))
    chain-hold f x q = go (nat_le (length (arguments_of (App f x))) most_arguments)
      where
        go : (b : Bool) → All Q (parts S (if b then by_head S (head_of f) (arguments_of (App f x)) else Plainly f (x ∷ [])))
        go true = by_head-hold (head_of f) (arguments_of (App f x)) (head-holds (App f x) q) (arguments-hold (App f x) q)
        go false = All-cons Q f (x ∷ []) (down.app f x q).0 (All-cons Q x [] (down.app f x q).1 (All-nil Q))

    application-hold : (f x : Tree) → Q (App f x) → All Q (parts S (list_or S (list_of S (App f x)) (chain S f x)))
    application-hold f x q = go (list_of S (App f x)) refl
      where
        short : (l : ℕ × List Tree) → list_of S (App f x) ≡ Some l → (b : Bool) → All Q (parts S (if b then Folded l.0 l.1 else chain S f x))
        short l e false = chain-hold f x q
        short l e true =
            let is = list_of-is S (App f x) l e in
            items-hold (Con l.0) is.0 l.1 (subst Q (sym (spell-spelled (Con l.0) is.0 (App f x) l.1 is.2).0) q)

        go : (o : Option (ℕ × List Tree)) → list_of S (App f x) ≡ o → All Q (parts S (list_or S o (chain S f x)))
        go None e = chain-hold f x q
        go (Some l) e = short l e (is_short_list S l)

    two-hold : (a b : Tree) → Q a × Q b → All Q (a ∷ b ∷ [])
    two-hold a b q = All-cons Q a (b ∷ []) q.0 (All-cons Q b [] q.1 (All-nil Q))

    parts-hold : (t : Tree) → Q t → All Q (parts_of S t)
    unfolding form
    parts-hold (App f x) q = application-hold f x q
    parts-hold (Arr a b) q = two-hold a b (down.arr a b q)
    parts-hold (Var s t) q = two-hold (Str s) t (down.var s t q)
    parts-hold t q = All-nil Q

    members-hold-from : (d : ℕ) (found : List Tree) (t : Tree) → Q t → All Q found → All Q (with_members S d found t)
    members-hold-from zero found t q all = all
    members-hold-from (suc d) found t q all = go (list_any (tree_eq t) found) (each (members-hold-from d) found (parts_of S t) (parts-hold t q) all)
      where
        each : ((found : List Tree) (t : Tree) → Q t → All Q found → All Q (with_members S d found t)) → (found ts : List Tree) → All Q ts → All Q found → All Q (fold (with_members S d) found ts)
        each one found [] qs all = all
        each one found (t ∷ ts) qs all = each one (with_members S d found t) ts (All-tail Q t ts qs) (one found t (All-head Q t ts qs) all)

        go : (b : Bool) → All Q (fold (with_members S d) found (parts_of S t)) → All Q (if b then found else fold (with_members S d) found (parts_of S t) ++ t ∷ [])
        go true h = all
        go false h = All-push Q (fold (with_members S d) found (parts_of S t)) t h q

    pub members-hold : (t : Tree) → Q t → All Q (members S t)
    unfolding members
    members-hold t q = members-hold-from (height t) [] t q (All-nil Q)

-- ---- literals that have a spelling

pub range-down : GoesDown IsInRange
range-down = record { app = λ f x q. q; arr = λ a b q. q; var = λ s t q. q }

pub none-fails : (S : Signature) (ts : List Tree) → list_any (has_no_spelling S) ts ≡ false → (m : Tree) → Contains ts m → has_no_spelling S m ≡ false
none-fails S ts e m c = All-contains (λ t. has_no_spelling S t ≡ false) ts m (each ts e) c
  where
    each : (ts : List Tree) → list_any (has_no_spelling S) ts ≡ false → All (λ t. has_no_spelling S t ≡ false) ts
    each [] e = All-nil (λ t. has_no_spelling S t ≡ false)
    each (t ∷ ts) e = go (has_no_spelling S t) refl e (each ts)
      where
        go : (b : Bool) → has_no_spelling S t ≡ b → (b || list_any (has_no_spelling S) ts) ≡ false → (list_any (has_no_spelling S) ts ≡ false → All (λ t. has_no_spelling S t ≡ false) ts) → All (λ t. has_no_spelling S t ≡ false) (t ∷ ts)
        go true f h rest = cc
        go false f h rest = All-cons (λ t. has_no_spelling S t ≡ false) t ts f (rest h)

pub spelled-is : (S : Signature) (m : Tree) → has_no_spelling S m ≡ false → IsInRange m → IsSpelled S m
spelled-is S (Con k) e f = named (constant_named S (name_of S k)) e
  where
    named : (o : Option ℕ) → not (is_this S k o) ≡ false → o ≡ Some k
    named None h = cc
    named (Some j) h = go (j == k) refl h
      where
        go : (b : Bool) → (j == k) ≡ b → not b ≡ false → Some j ≡ Some k
        go true e h = ap Some (eqb-true j k e)
        go false e h = cc
spelled-is S (Num z) e f = f
spelled-is S (Bits zero v) e f = cc
spelled-is S (Bits (suc w) v) e f = (omega arith, f.0, f.1)
spelled-is S (Str s) e f = f
spelled-is S t e f = tt
