-- Lists of members that grow while a term is walked through.
use Rattle.std.specs.Prelude.{◌≡◌, refl, ℕ, zero, suc, List, [], ◌∷◌, ◌++◌, Option, Some, None, is_some, All}
use Rattle.std.proofs.Common.{sym, ap, ap₂, ◌∙◌, subst, append-nil, append_assoc}
use Rattle.std.proofs.lemmas.List.{map-append}
use Rattle.std.proofs.lemmas.List.Elements.{All-push}
use Rattle.eo_base.proofs.Tests.{clash}
use Rattle.eo_term.specs.Tree.{Tree, Con, App}
use Rattle.eo_term.specs.Terms.{Terms}
use Rattle.eo_show.specs.declared.Member.{Member}
use Rattle.eo_show.specs.Plan.{member_tree, member_trees, IsLive, IsMemberOf, AreMembersOf, parted, applied, first_items, last_arguments, without_arguments}
use Rattle.eo_show.proofs.Items.{parted-is}

-- members that were found, before trees that are left
pub record IsFound (t : Terms) (all : List Tree) (found : List Member) (left : List Tree) : Type 0 where
  pub live : All (IsLive t) found
  pub whole : all ≡ member_trees t found ++ left

module _ (t : Terms) (all : List Tree) where
  pub pushed : (found : List Member) (m : Member) (new : List Member) (a : Tree) (left rest : List Tree) → IsFound t all found left → left ≡ a ∷ rest → IsMemberOf t a m → new ≡ found ++ m ∷ [] → IsFound t all new rest
  pushed found m new a left rest is e h n = record {
    live = subst (All (IsLive t)) (sym n) (All-push (IsLive t) found m is.live h.live);
    whole =
        is.whole ∙ ap (λ us. member_trees t found ++ us) (e ∙ ap (λ u. u ∷ rest) (sym h.tree))
        ∙ sym (append_assoc (member_trees t found) (member_tree t m ∷ []) rest)
        ∙ ap (λ us. us ++ rest) (sym (ap (member_trees t) n ∙ map-append (member_tree t) found (m ∷ [])));
  }

  pub all_found : (found : List Member) (left : List Tree) → IsFound t all found left → left ≡ [] → AreMembersOf t all found
  all_found found left is e = record {
    live = is.live;
    trees = sym (is.whole ∙ ap (λ us. member_trees t found ++ us) e ∙ append-nil (member_trees t found));
  }

-- ---- one part more

abbrev of_applied : Tree → Option (Tree × Tree) → Tree
of_applied u None = u
of_applied u (Some p) = App p.0 p.1

applied-is : (u : Tree) → of_applied u (applied u) ≡ u
applied-is (App f x) = refl
applied-is u = refl

pub applied-app : (u f x : Tree) → applied u ≡ Some (f, x) → u ≡ App f x
applied-app u f x e = sym (applied-is u) ∙ ap (of_applied u) e

pub next_item : (n m c : ℕ) (u a r : Tree) → n ≡ suc m → parted u ≡ Some (c, a, r) → first_items n u ≡ a ∷ first_items m r
next_item n m c u a r e h = ap₂ first_items e (parted-is [] u c a r h)

pub no_item : (n : ℕ) (u : Tree) → parted u ≡ None → first_items n u ≡ []
no_item zero u h = refl
no_item (suc n) (App (App (Con c) a) r) h = clash (sym (ap is_some h))
no_item (suc n) u h = refl

pub next_argument : (n m : ℕ) (u f x : Tree) → n ≡ suc m → applied u ≡ Some (f, x) → last_arguments n u ≡ x ∷ last_arguments m f
next_argument n m u f x e h = ap₂ last_arguments e (applied-app u f x h)

pub no_argument : (n : ℕ) (u : Tree) → applied u ≡ None → last_arguments n u ≡ []
no_argument zero u h = refl
no_argument (suc n) (App f x) h = clash (sym (ap is_some h))
no_argument (suc n) u h = refl

pub inner_head : (n m : ℕ) (u f x : Tree) → n ≡ suc m → applied u ≡ Some (f, x) → without_arguments n u ≡ without_arguments m f
inner_head n m u f x e h = ap₂ without_arguments e (applied-app u f x h)

pub own_head : (n : ℕ) (u : Tree) → applied u ≡ None → without_arguments n u ≡ u
own_head zero u h = refl
own_head (suc n) (App f x) h = clash (sym (ap is_some h))
own_head (suc n) u h = refl
