-- What is kept of a form.
use Rattle.std.specs.Prelude.{Bool, true, false, not, zero, suc, ◌+◌, ◌<◌, ◌≤◌, codes, nat_lt, ◌≡◌, refl, ℕ, List, [], ◌∷◌, ◌++◌, length, reverse, Some, None, All}
use Rattle.std.proofs.Common.{sym, ap, ◌∙◌, subst, arith}
use Rattle.std.proofs.lemmas.Bool.{leb-true}
use Rattle.std.proofs.lemmas.List.{length-append}
use Rattle.eo_sexp.specs.Printing.{in_quotes}
use Rattle.eo_lit.specs.Spelling.{string_spelling}
use Rattle.eo_base.proofs.Tests.{clash}
use Rattle.std.proofs.lemmas.List.{reverse-append}
use Rattle.std.proofs.lemmas.List.Elements.{All-nil, All-cons, All-push, All-head, All-tail}
use Rattle.indexmap.proofs.ReorderLemmas.{map-reverse}
use Rattle.eo_term.specs.Tree.{Tree, Con, Bits, Str}
use Rattle.eo_term.specs.Terms.{Terms}
use Rattle.eo_sig.specs.Signature.{Signature}
use Rattle.eo_show.specs.declared.Member.{Member}
use Rattle.eo_show.specs.declared.Shape.{Shape}
use Rattle.eo_show.specs.declared.Shape.TheVariants as shape
use Rattle.eo_show.specs.Forms.{Form, Leaf, Folded, Plainly, Function, Variable, by_head, arguments_of, form, is_this, alone, name_of}
use Rattle.eo_show.specs.Members.{has_no_spelling}
use Rattle.eo_show.specs.Plan.{member_tree, member_trees, IsLive, IsMemberOf, AreMembersOf, IsForm, last_arguments, folding}
use Rattle.eo_show.proofs.FormOf.{with_folding, by_folding, all_arguments}

all-reverse : (t : Terms) (ms : List Member) → All (IsLive t) ms → All (IsLive t) (reverse ms)
all-reverse t [] h = All-nil (IsLive t)
all-reverse t (m ∷ ms) h = subst (All (IsLive t)) (sym (reverse-append (m ∷ []) ms)) (All-push (IsLive t) (reverse ms) m (all-reverse t ms (All-tail (IsLive t) m ms h)) (All-head (IsLive t) m ms h))

twice : (us : List Tree) → reverse (reverse us) ≡ us
twice [] = refl
twice (u ∷ us) = ap reverse (reverse-append (u ∷ []) us) ∙ reverse-append (reverse us) (u ∷ []) ∙ ap (λ vs. u ∷ vs) (twice us)

pub chain_parts : (t : Terms) (u : Tree) (n : ℕ) (ms : List Member) → n ≡ length (arguments_of u) → AreMembersOf t (last_arguments n u) ms → AreMembersOf t (arguments_of u) (reverse ms)
chain_parts t u n ms e h = record {
  live = all-reverse t ms h.live;
  trees = map-reverse (member_tree t) ms ∙ ap reverse (h.trees ∙ ap (λ k. last_arguments k u) e ∙ all_arguments u) ∙ twice (arguments_of u);
}

pub head_parts : (t : Terms) (v : Tree) (args : List Tree) (ms new : List Member) (m : Member) → AreMembersOf t args (reverse ms) → IsMemberOf t v m → new ≡ ms ++ m ∷ [] → AreMembersOf t (v ∷ args) (reverse new)
head_parts t v args ms new m h is e =
    let same : reverse new ≡ m ∷ reverse ms = ap reverse e ∙ reverse-append ms (m ∷ []) in
    record {
      live = subst (All (IsLive t)) (sym same) (All-cons (IsLive t) m (reverse ms) is.live h.live);
      trees = ap (member_trees t) same ∙ ap (λ vs. member_tree t m ∷ vs) h.trees ∙ ap (λ v. v ∷ args) is.tree;
    }

module _ (S : Signature) where
  pub same_form : (t : Terms) (f g : Form) (s : Shape) (ms : List Member) → f ≡ g → IsForm S t f s ms → IsForm S t g s ms
  same_form t f g s ms e h = subst (λ f. IsForm S t f s ms) e h

  pub folded_form : (t : Terms) (h : Tree) (args : List Tree) (c n : ℕ) (ms : List Member) → n ≡ length args → Some c ≡ folding S h n → AreMembersOf t args ms → IsForm S t (by_head S h args) (shape.Folded c) ms
  folded_form t h args c n ms k e m =
      same_form t (Folded c args) (by_head S h args) (shape.Folded c) ms (sym (by_folding S h args ∙ ap (with_folding S h args) (sym (e ∙ ap (folding S h) k)))) (record { shape = refl; parts = m })

  pub plain_form : (t : Terms) (h : Tree) (args : List Tree) (n : ℕ) (ms : List Member) → n ≡ length args → None ≡ folding S h n → AreMembersOf t (h ∷ args) ms → IsForm S t (by_head S h args) shape.Plainly ms
  plain_form t h args n ms k e m =
      same_form t (Plainly h args) (by_head S h args) shape.Plainly ms (sym (by_folding S h args ∙ ap (with_folding S h args) (sym (e ∙ ap (folding S h) k)))) (record { shape = refl; parts = m })

  abbrev pub is_leaf : Form → Bool
  is_leaf (Leaf k text) = true
  is_leaf (Folded c args) = false
  is_leaf (Plainly h args) = false
  is_leaf (Function a b) = false
  is_leaf (Variable s u) = false

  leaf_form : (t : Terms) (f : Form) (s : Shape) (ms : List Member) → is_leaf f ≡ true → s ≡ shape.Leaf → AreMembersOf t [] ms → IsForm S t f s ms
  leaf_form t (Leaf k text) s ms e h m = record { shape = h; parts = m }
  leaf_form t (Folded c args) s ms e h m = clash e
  leaf_form t (Plainly k args) s ms e h m = clash e
  leaf_form t (Function a b) s ms e h m = clash e
  leaf_form t (Variable x u) s ms e h m = clash e

  -- an atom, with what is kept of its form
  abbrev pub IsLeaf : Terms → Tree → Shape → List Member → Type 0
  IsLeaf t u s ms = IsForm S t (form S u) s ms × (has_no_spelling S u ≡ false)

  module _ (t : Terms) (s : Shape) (ms : List Member) (h : s ≡ shape.Leaf) (m : AreMembersOf t [] ms) where
    pub con_leaf : (k : ℕ) → true ≡ is_this S k (alone S (name_of S k)) → IsLeaf t (Con k) s ms
    unfolding form
    con_leaf k e = (leaf_form t (form S (Con k)) s ms refl h m, ap not (sym e))

    pub bits_leaf : (w v : ℕ) → 0 < w → IsLeaf t (Bits w v) s ms
    unfolding form
    bits_leaf zero v some = absurd (omega (arith, some))
    bits_leaf (suc w) v some = (leaf_form t (form S (Bits (suc w) v)) s ms refl h m, refl)

    pub string_leaf : (x : List ℕ) → 2 + length (string_spelling x) ≤ 1048576 → IsLeaf t (Str x) s ms
    unfolding form
    string_leaf x few = (leaf_form t (form S (Str x)) s ms refl h m, go (nat_lt 1048576 (2 + length (string_spelling x))) refl)
      where
        go : (b : Bool) → nat_lt 1048576 (2 + length (string_spelling x)) ≡ b → b ≡ false
        go true e = absurd (omega (arith, leb-true 1048577 (2 + length (string_spelling x)) e, few))
        go false e = refl

    pub other_leaf : (u v : Tree) → u ≡ v → is_leaf (form S u) ≡ true → has_no_spelling S u ≡ false → IsLeaf t v s ms
    other_leaf u v e l n = subst (λ u. IsLeaf t u s ms) e (leaf_form t (form S u) s ms l h m, n)

pub quoted_size : (s : List ℕ) → length (in_quotes s) ≡ 2 + length s
quoted_size s = omega (arith, length-append s (codes "\""))
