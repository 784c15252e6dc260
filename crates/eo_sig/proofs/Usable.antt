-- A signature stays usable as it gets one more entry.
use Rattle.std.proofs.Common.{◌≡◌, ℕ, zero, suc, Bool, true, false, List, [], ◌∷◌, ◌++◌, slice_get, Option, Some, None, refl, sym, ap, ◌∙◌, subst}
use Rattle.std.specs.Prelude.{◌⊎◌, option_and_then}
use Rattle.std.proofs.Common.{inl, inr}
use Rattle.std.specs.List.{filter_map, cons_option}
use Rattle.std.proofs.lemmas.Bool.{and_parts}
use Rattle.std.proofs.lemmas.List.Elements.{filter_map-append}
use Rattle.std.proofs.lemmas.Option.{none-some, same_Some}
use Rattle.eo_term.specs.Tree.{Tree, is_value}
use Rattle.eo_lit.specs.declared.LiteralClass.{LiteralClass}
use Rattle.eo_sig.specs.Signature as sig
use Rattle.eo_sig.specs.Signature.{Signature, Constant, Rule, SignatureEntry, Attribute}
use Rattle.eo_sig.specs.Usable.{IsUsable}

-- what the longer list has at a place, the shorter has, or it is the new element
at_end : {X : Type 0} (xs : List X) (y x : X) (k : ℕ) → slice_get (xs ++ y ∷ []) k ≡ Some x → (slice_get xs k ≡ Some x) ⊎ (y ≡ x)
at_end [] y x zero e = inr (same_Some y x e)
at_end [] y x (suc k) e = absurd (none-some x e)
at_end (z ∷ zs) y x zero e = inl e
at_end (z ∷ zs) y x (suc k) e = at_end zs y x k e

-- the same among those that are picked
picked_end : {X Y : Type 0} (pick : X → Option Y) (xs : List X) (x : X) (o : Option Y) → pick x ≡ o → (y : Y) (k : ℕ) → slice_get (filter_map pick (xs ++ x ∷ [])) k ≡ Some y → (slice_get (filter_map pick xs) k ≡ Some y) ⊎ (o ≡ Some y)
picked_end pick xs x None e y k p =
    inl (sym (ap (λ zs. slice_get zs k) (filter_map-append pick xs (x ∷ []) ∙ ap (λ o. filter_map pick xs ++ cons_option o []) e ∙ append_nil (filter_map pick xs))) ∙ p)
  where
    append_nil : {A : Type 0} (zs : List A) → zs ++ [] ≡ zs
    append_nil [] = refl
    append_nil (z ∷ zs) = ap (λ q. z ∷ q) (append_nil zs)
picked_end pick xs x (Some z) e y k p =
    some_end (at_end (filter_map pick xs) z y k (sym (ap (λ zs. slice_get zs k) (filter_map-append pick xs (x ∷ []) ∙ ap (λ o. filter_map pick xs ++ cons_option o []) e)) ∙ p))
  where
    some_end : (slice_get (filter_map pick xs) k ≡ Some y) ⊎ (z ≡ y) → (slice_get (filter_map pick xs) k ≡ Some y) ⊎ (Some z ≡ Some y)
    some_end (inl h) = inl h
    some_end (inr h) = inr (ap Some h)

-- what a new entry is to be
pub record EntryIsUsable (e : SignatureEntry) : Type 0 where
  pub terminator : (c : Constant) (n : Tree) → sig.constant_of e ≡ Some c → sig.terminator_of c.attribute ≡ Some n → is_value n ≡ true
  pub ordered : (r : Rule) → sig.rule_of e ≡ Some r → sig.are_ordered 0 r.parameters ≡ true

pub usable_more : (S : Signature) (e : SignatureEntry) → IsUsable S → EntryIsUsable e → IsUsable (S ++ e ∷ [])
usable_more S e h g = record {
  terminators = λ f n p. new_terminator f n (sig.constant_at (S ++ e ∷ []) f) refl p;
  rules_ordered = λ k r p. new_rule k r (picked_end sig.rule_of S e (sig.rule_of e) refl r k p);
}
  where
    new_rule : (k : ℕ) (r : Rule) → (sig.rule_at S k ≡ Some r) ⊎ (sig.rule_of e ≡ Some r) → sig.are_ordered 0 r.parameters ≡ true
    new_rule k r (inl p) = h.rules_ordered k r p
    new_rule k r (inr p) = g.ordered r p

    found : (f : ℕ) (n : Tree) (c : Constant) → (sig.constant_at S f ≡ Some c) ⊎ (sig.constant_of e ≡ Some c) → sig.terminator_of c.attribute ≡ Some n → is_value n ≡ true
    found f n c (inl p) t = h.terminators f n (ap (λ o. option_and_then (λ (d : Constant). sig.terminator_of d.attribute) o) p ∙ t)
    found f n c (inr p) t = g.terminator c n p t

    new_terminator : (f : ℕ) (n : Tree) (o : Option Constant) → sig.constant_at (S ++ e ∷ []) f ≡ o → option_and_then (λ (d : Constant). sig.terminator_of d.attribute) o ≡ Some n → is_value n ≡ true
    new_terminator f n None p t = absurd (none-some n t)
    new_terminator f n (Some c) p t = found f n c (picked_end sig.constant_of S e (sig.constant_of e) refl c f p) t

-- a declaration without fault has such a terminator

folds : (a : Attribute) (n : Tree) → sig.may_fold a ≡ true → sig.terminator_of a ≡ Some n → is_value n ≡ true
folds sig.Plain n h t = absurd (none-some n t)
folds (sig.RightNil m) n h t = subst (λ u. is_value u ≡ true) (same_Some m n t) h
folds (sig.LeftNil m) n h t = absurd (none-some n t)
folds sig.Right n h t = absurd (none-some n t)
folds sig.Left n h t = absurd (none-some n t)
folds (sig.Chain k) n h t = absurd (none-some n t)
folds (sig.Pairs k) n h t = absurd (none-some n t)
folds (sig.Binder k) n h t = absurd (none-some n t)

holds : (a b : Bool) → sig.first_wrong a b ≡ None → a ≡ true
holds true b e = refl
holds false b e = absurd (none-some _ (sym e))

pub usable_constant : (S : Signature) (c : Constant) (m : sig.Counts) → IsUsable S → sig.constant_fault c ≡ None → IsUsable (S ++ sig.IsConstant c m ∷ [])
usable_constant S c m h e =
    let may = (and_parts _ _ (and_parts _ _ (holds _ _ e)).1).1 in
    usable_more S (sig.IsConstant c m) h (record {
      terminator = λ d n p t. folds c.attribute n may (ap (λ (q : Constant). sig.terminator_of q.attribute) (same_Some c d p) ∙ t);
      ordered = λ r p. absurd (none-some r p);
    })

pub usable_program : (S : Signature) (p : sig.Program) → IsUsable S → IsUsable (S ++ sig.IsProgram p ∷ [])
usable_program S p h = usable_more S (sig.IsProgram p) h (record { terminator = λ d n q t. absurd (none-some d q); ordered = λ r q. absurd (none-some r q) })

pub usable_literal : (S : Signature) (l : LiteralClass) (t : Tree) → IsUsable S → IsUsable (S ++ sig.IsLiteralType l t ∷ [])
usable_literal S l t h = usable_more S (sig.IsLiteralType l t) h (record { terminator = λ d n q t. absurd (none-some d q); ordered = λ r q. absurd (none-some r q) })

pub usable_rule : (S : Signature) (r : Rule) → IsUsable S → sig.are_ordered 0 r.parameters ≡ true → IsUsable (S ++ sig.IsRule r ∷ [])
usable_rule S r h o = usable_more S (sig.IsRule r) h (record { terminator = λ d n q t. absurd (none-some d q); ordered = λ s q. subst (λ (u : Rule). sig.are_ordered 0 u.parameters ≡ true) (same_Some r s q) o })
