-- Equal members are equal trees.
use Rattle.std.specs.Prelude.{◌≡◌, refl, ℕ, ◌<◌, Bool, false, ◌||◌, if◌then◌else◌, ◌+◌, cond, nat_lt, position, Some, None, nat_eq, bytes_eq, List, [], ◌∷◌, length, All}
use Rattle.std.specs.List.{list_any, AllByRecursion, IsDistinct}
use Rattle.std.proofs.lemmas.List.{length-map}
use Rattle.std.proofs.lemmas.List.Recursion.{is_position_or_len}
use Rattle.std.proofs.Common.{sym, ap, ap₂, ◌∙◌}
use Rattle.std.proofs.lemmas.Bool.{eqb-true, eq-eqb}
use Rattle.std.proofs.lemmas.List.Elements.{All-head, All-tail}
use Rattle.std.proofs.lemmas.Slice.Eq.{bytes_eq-Decides}
use Rattle.eo_base.proofs.Tests.{same_tests, clash}
use Rattle.eo_term.specs.Tree.{Tree, Str, tree_eq}
use Rattle.eo_term.specs.Terms.{Terms, tree_at, text_at}
use Rattle.eo_term.specs.Growth.{IsTable}
use Rattle.eo_show.specs.declared.Member.{Member}
use Rattle.eo_show.specs.declared.Member.TheVariants as member
use Rattle.eo_show.specs.contracts.MemberPartialEq.TheImpl as member_eq
use Rattle.eo_show.specs.Plan.{member_tree, member_trees, IsLive, is_string}
use Rattle.eo_show.specs.Walking.{is_found}

abbrev TextsApart : Terms → Type 0
TextsApart t = (i j : ℕ) → i < length t.texts → j < length t.texts → text_at t.texts i ≡ text_at t.texts j → i ≡ j

not_string : (x : List ℕ) (u : Tree) → is_string u ≡ false → false ≡ tree_eq (Str x) u
not_string x (Str y) e = clash (sym e)
not_string x u e = refl

no_string : (x : List ℕ) (u : Tree) → is_string u ≡ false → false ≡ tree_eq u (Str x)
no_string x (Str y) e = clash (sym e)
no_string x u e = refl

abbrev seek : {X : Type 0} → (X → Bool) → List X → ℕ
seek p [] = 0
seek p (x ∷ xs) = if p x then 0 else 1 + seek p xs

module _ (t : Terms) (table : IsTable t) (texts : TextsApart t) where
  pub same_member : (a b : Member) → IsLive t a → IsLive t b → member_eq.ghosts.eq a b ≡ tree_eq (member_tree t a) (member_tree t b)
  same_member (member.Text s) (member.Text r) p q =
      same_tests (nat_eq s r) (bytes_eq (text_at t.texts s) (text_at t.texts r)) (λ e. (bytes_eq-Decides (text_at t.texts s) (text_at t.texts r)).1 (ap (text_at t.texts) (eqb-true s r e))) (λ e. eq-eqb s r (texts s r p q ((bytes_eq-Decides (text_at t.texts s) (text_at t.texts r)).0 e)))
  same_member (member.Text s) (member.Term j) p q = not_string (text_at t.texts s) (tree_at t.trees j) q.1
  same_member (member.Term i) (member.Text r) p q = no_string (text_at t.texts r) (tree_at t.trees i) p.1
  same_member (member.Term i) (member.Term j) p q = sym (table.equals i j p.0 q.0)

  pub found_same : (a : Member) (ms : List Member) → IsLive t a → All (IsLive t) ms → list_any (member_eq.ghosts.eq a) ms ≡ is_found (member_trees t ms) (member_tree t a)
  found_same a [] p all = refl
  found_same a (m ∷ ms) p all = ap₂ (λ (x y : Bool). x || y) (same_member a m p (All-head (IsLive t) m ms all)) (found_same a ms p (All-tail (IsLive t) m ms all))

  seek_same : (a : Member) (ms : List Member) → IsLive t a → All (IsLive t) ms → seek (tree_eq (member_tree t a)) (member_trees t ms) ≡ seek (member_eq.ghosts.eq a) ms
  seek_same a [] p all = refl
  seek_same a (m ∷ ms) p all = ap₂ (λ (b : Bool) (n : ℕ). if b then 0 else 1 + n) (sym (same_member a m p (All-head (IsLive t) m ms all))) (seek_same a ms p (All-tail (IsLive t) m ms all))

  pub place_same : (a : Member) (ms : List Member) → IsLive t a → All (IsLive t) ms → position (tree_eq (member_tree t a)) (member_trees t ms) ≡ position (member_eq.ghosts.eq a) ms
  place_same a ms p all =
      let at = sym (is_position_or_len (seek (tree_eq (member_tree t a))) (tree_eq (member_tree t a)) refl (λ x xs. refl) (member_trees t ms)) ∙ seek_same a ms p all ∙ is_position_or_len (seek (member_eq.ghosts.eq a)) (member_eq.ghosts.eq a) refl (λ x xs. refl) ms in
      let long = length-map ms (member_tree t) in
      λ k. cond (nat_lt (at k) (long k)) (Some (at k)) None

  apart_from : (a : Member) (ms : List Member) → IsLive t a → All (IsLive t) ms → AllByRecursion (λ m. member_eq.ghosts.eq a m ≡ false) ms → AllByRecursion (λ u. tree_eq (member_tree t a) u ≡ false) (member_trees t ms)
  apart_from a [] p all h = tt
  apart_from a (m ∷ ms) p all h = (sym (same_member a m p (All-head (IsLive t) m ms all)) ∙ h.0, apart_from a ms p (All-tail (IsLive t) m ms all) h.1)

  pub apart_same : (ms : List Member) → All (IsLive t) ms → IsDistinct member_eq.ghosts.eq ms → IsDistinct tree_eq (member_trees t ms)
  unfolding IsDistinct
  apart_same [] all h = tt
  apart_same (m ∷ ms) all h =
      let rest = All-tail (IsLive t) m ms all in
      (apart_from m ms (All-head (IsLive t) m ms all) rest h.0, apart_same ms rest h.1)
