-- A constant applied by its attribute to trees within their ranges gives one, where its terminator is one.
use Rattle.std.specs.Prelude.{◌≡◌, ℕ, zero, suc, Bool, true, false, nat_lt, ◌==◌, if◌then◌else◌, List, [], ◌∷◌, map, length, Option, Some, None, Ok, Err, refl}
use Rattle.std.specs.Option.{option_map_or}
use Rattle.std.proofs.Common.{subst}
use Rattle.eo_base.specs.declared.FaultName.{FaultName}
use Rattle.eo_base.specs.declared.FaultName.TheVariants.{BadArity}
use Rattle.eo_base.specs.Checks.{Checked}
use Rattle.eo_base.proofs.ChecksLemmas.{ok_injective, err_is_not_ok}
use Rattle.eo_base.proofs.Tests.{both, join}
use Rattle.eo_term.specs.Tree.{Tree, Con, App}
use Rattle.eo_sig.specs.Signature.{Signature, Attribute, Plain, RightNil, LeftNil, Right, Left, Chain, Pairs, Binder, Constant, constant_at}
use Rattle.eo_names.specs.Folding.{applied, applied_to_two, list_onto, last_onto, right_nil, left_nil, right, left, links, all_pairs, least, attribute_at, joined_by, by_attribute, folded_within, folded}
use Rattle.eo_elab.proofs.Uses.{all_in_both}
use Rattle.eo_roundtrip.proofs.Within.{is_within, attribute_within}
use Rattle.eo_roundtrip.proofs.Ranges.{IsWithin, AreWithin}

pub applied_uses : (f : Tree) (args : List Tree) → IsWithin f → AreWithin args → IsWithin (applied f args)
applied_uses f [] h k = h
applied_uses f (a ∷ args) h k = applied_uses (App f a) args (join h (both k).0) (both k).1

two_use : (f a b : Tree) → IsWithin f → IsWithin a → IsWithin b → IsWithin (applied_to_two f a b)
two_use f a b h k l = join (join h k) l

onto_uses : (is_list : Bool) (f a rest : Tree) → IsWithin f → IsWithin a → IsWithin rest → IsWithin (list_onto is_list f a rest)
onto_uses true f a rest h k l = join h (join k (join l refl))
onto_uses false f a rest h k l = two_use f a rest h k l

last_uses : (is_list : Bool) (f a nil : Tree) → IsWithin f → IsWithin a → IsWithin nil → IsWithin (last_onto is_list f a nil)
last_uses true f a nil h k l = k
last_uses false f a nil h k l = two_use f a nil h k l

right_nil_uses : (is_list : Tree → Bool) (f nil : Tree) (args : List Tree) → IsWithin f → IsWithin nil → AreWithin args →
    IsWithin (right_nil is_list f nil args)
right_nil_uses is_list f nil [] h k l = k
right_nil_uses is_list f nil (a ∷ []) h k l = last_uses (is_list a) f a nil h (both l).0 k
right_nil_uses is_list f nil (a ∷ b ∷ args) h k l =
    onto_uses (is_list a) f a (right_nil is_list f nil (b ∷ args)) h (both l).0 (right_nil_uses is_list f nil (b ∷ args) h k (both l).1)

left_nil_uses : (f nil : Tree) (args : List Tree) → IsWithin f → IsWithin nil → AreWithin args → IsWithin (left_nil f nil args)
left_nil_uses f nil [] h k l = k
left_nil_uses f nil (a ∷ args) h k l = left_nil_uses f (applied_to_two f nil a) args h (two_use f nil a h k (both l).0) (both l).1

right_uses : (f : Tree) (args : List Tree) → IsWithin f → AreWithin args → IsWithin (right f args)
right_uses f [] h l = h
right_uses f (a ∷ []) h l = (both l).0
right_uses f (a ∷ b ∷ args) h l = two_use f a (right f (b ∷ args)) h (both l).0 (right_uses f (b ∷ args) h (both l).1)

left_uses : (f : Tree) (args : List Tree) → IsWithin f → AreWithin args → IsWithin (left f args)
left_uses f [] h l = h
left_uses f (a ∷ args) h l = left_nil_uses f a args h (both l).0 (both l).1

links_use : (f : Tree) (args : List Tree) → IsWithin f → AreWithin args → AreWithin (links f args)
links_use f [] h l = refl
links_use f (a ∷ []) h l = refl
links_use f (a ∷ b ∷ args) h l = join (two_use f a b h (both l).0 (both (both l).1).0) (links_use f (b ∷ args) h (both l).1)

with_each_use : (f a : Tree) (args : List Tree) → IsWithin f → IsWithin a → AreWithin args → AreWithin (map (applied_to_two f a) args)
with_each_use f a [] h k l = refl
with_each_use f a (b ∷ args) h k l = join (two_use f a b h k (both l).0) (with_each_use f a args h k (both l).1)

pairs_use : (f : Tree) (args : List Tree) → IsWithin f → AreWithin args → AreWithin (all_pairs f args)
pairs_use f [] h l = refl
pairs_use f (a ∷ args) h l =
    all_in_both is_within (map (applied_to_two f a) args) (all_pairs f args)
    (with_each_use f a args h (both l).0 (both l).1) (pairs_use f args h (both l).1)

-- what a check passes is within its ranges
abbrev pub PassesWithin : Checked Tree → Type 0
PassesWithin c = (t : Tree) → c ≡ Ok t → IsWithin t

pub ok_within : (t : Tree) → IsWithin t → PassesWithin (Ok t)
ok_within t h u e = subst IsWithin (ok_injective t u e) h

pub err_within : (fault : FaultName) → PassesWithin (Err fault)
err_within fault t e = absurd (err_is_not_ok fault t e)

abbrev FoldsWithin : (ℕ → List Tree → Checked Tree) → Type 0
FoldsWithin fold_by = (g : ℕ) (ts : List Tree) → AreWithin ts → PassesWithin (fold_by g ts)

joined_uses : (fold_by : ℕ → List Tree → Checked Tree) → FoldsWithin fold_by → (f : Tree) (g : ℕ) (items args : List Tree) →
    IsWithin f → AreWithin items → AreWithin args → PassesWithin (joined_by fold_by f g items args)
joined_uses fold_by folds f g items args h k l = by_count (length args == 2)
  where
    by_count : (b : Bool) → PassesWithin (if b then Ok (applied f args) else fold_by g items)
    by_count true = ok_within (applied f args) (applied_uses f args h l)
    by_count false = folds g items k

attribute_uses : (fold_by : ℕ → List Tree → Checked Tree) → FoldsWithin fold_by → (is_list : Tree → Bool) (f : Tree) (a : Attribute)
    (args : List Tree) → IsWithin f → attribute_within a ≡ true → AreWithin args → PassesWithin (by_attribute fold_by is_list f a args)
attribute_uses fold_by folds is_list f Plain args h k l = ok_within (applied f args) (applied_uses f args h l)
attribute_uses fold_by folds is_list f (RightNil nil) args h k l =
    ok_within (right_nil is_list f nil args) (right_nil_uses is_list f nil args h (k) l)
attribute_uses fold_by folds is_list f (LeftNil nil) args h k l =
    ok_within (left_nil f nil args) (left_nil_uses f nil args h (k) l)
attribute_uses fold_by folds is_list f Right args h k l = ok_within (right f args) (right_uses f args h l)
attribute_uses fold_by folds is_list f Left args h k l = ok_within (left f args) (left_uses f args h l)
attribute_uses fold_by folds is_list f (Chain g) args h k l =
    joined_uses fold_by folds f g (links f args) args h (links_use f args h l) l
attribute_uses fold_by folds is_list f (Pairs g) args h k l =
    joined_uses fold_by folds f g (all_pairs f args) args h (pairs_use f args h l) l
attribute_uses fold_by folds is_list f (Binder c) args h k l = ok_within (applied f args) (applied_uses f args h l)

-- ---- in a signature

module _ (S : Signature) (folds : (k : ℕ) (d : Constant) → constant_at S k ≡ Some d → attribute_within d.attribute ≡ true) where
  attribute_attribute_within : (f : ℕ) → attribute_within (attribute_at S f) ≡ true
  attribute_attribute_within f = by_constant (constant_at S f) refl
    where
      by_constant : (o : Option Constant) → constant_at S f ≡ o → attribute_within (option_map_or (λ c. c.attribute) o Plain) ≡ true
      by_constant None e = refl
      by_constant (Some d) e = folds f d e

  unless_few : (b : Bool) (c : Checked Tree) → PassesWithin c → PassesWithin (if b then Err BadArity else c)
  unless_few true c h = err_within BadArity
  unless_few false c h = h

  within_uses : (turns : ℕ) (is_list : Tree → Bool) (f : ℕ) (args : List Tree) → AreWithin args →
      PassesWithin (folded_within turns S is_list f args)
  within_uses zero is_list f args l = ok_within (applied (Con f) args) (applied_uses (Con f) args refl l)
  within_uses (suc turns) is_list f args l =
      unless_few (nat_lt (length args) (least (attribute_at S f)))
      (by_attribute (folded_within turns S is_list) is_list (Con f) (attribute_at S f) args)
      (attribute_uses (folded_within turns S is_list) (within_uses turns is_list) is_list (Con f) (attribute_at S f) args refl
      (attribute_attribute_within f) l)

  pub folded_uses : (is_list : Tree → Bool) (f : ℕ) (args : List Tree) → AreWithin args → PassesWithin (folded S is_list f args)
  unfolding folded
  folded_uses is_list f args l = within_uses (suc f) is_list f args l
