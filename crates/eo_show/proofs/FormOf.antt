-- The form of an application, from its lists of parts.
use Rattle.std.specs.Prelude.{◌≡◌, refl, ℕ, suc, ◌<◌, ◌≤◌, Bool, true, false, ◌&&◌, nat_le, if◌then◌else◌, List, [], ◌∷◌, ◌++◌, length, reverse, Option, Some, None, is_some, option_map, option_and_then}
use Rattle.std.specs.Option.{option_map_or}
use Rattle.std.proofs.Common.{sym, ap, ap₂, ◌∙◌, arith}
use Rattle.std.proofs.lemmas.List.{length-append, reverse-append}
use Rattle.std.proofs.lemmas.Bool.{le-leb, leb-true, leb-false}
use Rattle.std.proofs.lemmas.Option.{same_Some}
use Rattle.eo_base.proofs.Tests.{clash, both}
use Rattle.eo_term.specs.Tree.{Tree, Con, App}
use Rattle.eo_lists.specs.Lists.{spell, spelled}
use Rattle.eo_lists.proofs.Spell.{spell-spelled}
use Rattle.eo_sig.specs.Signature.{Signature, Constant, constant_at, terminator}
use Rattle.eo_show.specs.Forms.{Form, Folded, Plainly, head_of, arguments_of, list_of, is_short_list, by_head, chain, list_or, form, takes, joins_plainly, attribute_of, most_arguments}
use Rattle.eo_show.specs.Plan.{up_to, some_items, some_arguments, parted, first_items, last_arguments, without_arguments, short_list, folding}
use Rattle.eo_show.proofs.Items.{parted-is}

leb-no : (a b : ℕ) → b < a → nat_le a b ≡ false
leb-no a b less = go (nat_le a b) refl
  where
    go : (w : Bool) → nat_le a b ≡ w → w ≡ false
    go true e = absurd (omega (arith, leb-true a b e, less))
    go false e = refl

-- ---- arguments

pub all_arguments : (u : Tree) → last_arguments (length (arguments_of u)) u ≡ reverse (arguments_of u)
all_arguments (App f x) =
    let count : length (arguments_of f ++ x ∷ []) ≡ suc (length (arguments_of f)) = length-append (arguments_of f) (x ∷ []) ∙ omega arith in
    ap (λ n. last_arguments n (App f x)) count ∙ ap (λ us. x ∷ us) (all_arguments f) ∙ sym (reverse-append (arguments_of f) (x ∷ []))
all_arguments u = refl

pub whole_head : (u : Tree) → without_arguments (length (arguments_of u)) u ≡ head_of u
whole_head (App f x) =
    let count : length (arguments_of f ++ x ∷ []) ≡ suc (length (arguments_of f)) = length-append (arguments_of f) (x ∷ []) ∙ omega arith in
    ap (λ n. without_arguments n (App f x)) count ∙ whole_head f
whole_head u = refl

module _ (S : Signature) where
  -- ---- heads

  abbrev pub with_folding : Tree → List Tree → Option ℕ → Form
  with_folding h args None = Plainly h args
  with_folding h args (Some c) = Folded c args

  pub by_folding : (h : Tree) (args : List Tree) → by_head S h args ≡ with_folding h args (folding S h (length args))
  by_folding (Con c) args = go (takes S c (length args) && joins_plainly (attribute_of S c) (length args))
    where
      go : (b : Bool) → (if b then Folded c args else Plainly (Con c) args) ≡ with_folding (Con c) args (if b then Some c else None)
      go true = refl
      go false = refl
  by_folding h args = refl

  pub fold_not : (u : Tree) (c n : ℕ) → Con c ≡ u → takes S c n ≡ false → folding S u n ≡ None
  fold_not u c n e h = ap (λ v. folding S v n) (sym e) ∙ ap (λ b. if b && joins_plainly (attribute_of S c) n then Some c else None) h

  pub fold_by : (u : Tree) (c n : ℕ) (k : Constant) (b : Bool) → Con c ≡ u → takes S c n ≡ true → constant_at S c ≡ Some k → b ≡ joins_plainly k.attribute n → folding S u n ≡ (if b then Some c else None)
  fold_by u c n k b e h g q =
      ap (λ v. folding S v n) (sym e) ∙ ap (λ w. if w && joins_plainly (attribute_of S c) n then Some c else None) h
      ∙ ap (λ (w : Bool). if w then Some c else None) (ap (λ o. joins_plainly (option_map_or (λ (c : Constant). c.attribute) o Rattle.eo_sig.specs.Signature.Plain) n) g ∙ sym q)

  -- ---- lists

  spelled_items : (c : ℕ) (n : Tree) (xs : List Tree) → first_items (length xs) (spell (Con c) n xs) ≡ xs
  spelled_items c n [] = refl
  spelled_items c n (x ∷ xs) = ap (λ us. x ∷ us) (spelled_items c n xs)

  -- what a list is of
  record IsListOf (c : ℕ) (u : Tree) (xs : List Tree) : Type 0 where
    pub terminator : Tree
    pub spells : spell (Con c) terminator xs ≡ u

  abbrev paired : ℕ → List Tree → ℕ × List Tree
  paired c items = (c, items)

  some_list : (c d : ℕ) (u : Tree) (e : Option Tree) (xs : List Tree) → option_and_then (λ n. option_map (paired c) (spelled (Con c) n u)) e ≡ Some (d, xs) → (c ≡ d) × IsListOf c u xs
  some_list c d u None xs h = clash (ap is_some h)
  some_list c d u (Some n) xs h = go (spelled (Con c) n u) refl h
    where
      go : (o : Option (List Tree)) → spelled (Con c) n u ≡ o → option_map (paired c) o ≡ Some (d, xs) → (c ≡ d) × IsListOf c u xs
      go None e h = clash (ap is_some h)
      go (Some ys) e h =
          let same = same_Some _ _ h in
          (ap (λ (p : ℕ × List Tree). p.0) same, record { terminator = n; spells = ap (spell (Con c) n) (sym (ap (λ (p : ℕ × List Tree). p.1) same)) ∙ (spell-spelled (Con c) n u ys e).0 })

  -- a list is parted into its constant, and has these items
  pub list_parts : (u : Tree) (c : ℕ) (a r : Tree) (l : ℕ × List Tree) → parted u ≡ Some (c, a, r) → list_of S u ≡ Some l → (c ≡ l.0) × (first_items (length l.1) u ≡ l.1)
  list_parts u c a r l e h =
      let same = parted-is S u c a r e in
      let is = some_list c l.0 (App (App (Con c) a) r) (terminator S c) l.1 (sym (ap (list_of S) same) ∙ h) in
      (is.0, ap (first_items (length l.1)) (same ∙ sym is.1.spells) ∙ spelled_items c is.1.terminator l.1)

  pub list_given : (u : Tree) (n : ℕ) → n ≡ some_items S u → 0 < n → n < 1001 → (l : ℕ × List Tree) × (list_of S u ≡ Some l) × (length l.1 ≡ n)
  list_given u n e some few = go (list_of S u) refl
    where
      go : (o : Option (ℕ × List Tree)) → list_of S u ≡ o → (l : ℕ × List Tree) × (list_of S u ≡ Some l) × (length l.1 ≡ n)
      go None h = absurd (omega (arith, e ∙ ap (λ o. up_to 1001 (option_map_or (λ (l : ℕ × List Tree). length l.1) o 0)) h, some))
      go (Some l) h =
          let k = e ∙ ap (λ o. up_to 1001 (option_map_or (λ (l : ℕ × List Tree). length l.1) o 0)) h in
          (l, h, by_bound (nat_le 1001 (length l.1)) refl k)
        where
          by_bound : (b : Bool) → nat_le 1001 (length l.1) ≡ b → n ≡ (if b then 1001 else length l.1) → length l.1 ≡ n
          by_bound true q k = absurd (omega (arith, k, few))
          by_bound false q k = sym k

  pub short_by : (u : Tree) (n c : ℕ) (a r : Tree) (b : Bool) → n ≡ some_items S u → 0 < n → n < 1001 → parted u ≡ Some (c, a, r) → takes S c n ≡ b → short_list S u ≡ (if b then Some c else None)
  short_by u n c a r b e some few p t =
      go (list_given u n e some few)
    where
      short_test : (l : ℕ × List Tree) (n c : ℕ) (b : Bool) → l.0 ≡ c → length l.1 ≡ n → 0 < n → n < 1001 → takes S c n ≡ b → is_short_list S l ≡ b
      short_test l n c b e h some few t = ap₂ (λ (x y : Bool). x && y && takes S l.0 (length l.1)) (le-leb 1 (length l.1) (omega (arith, h, some))) (le-leb (length l.1) 1000 (omega (arith, h, few))) ∙ (λ i. takes S (e i) (h i)) ∙ t

      go : (l : ℕ × List Tree) × (list_of S u ≡ Some l) × (length l.1 ≡ n) → short_list S u ≡ (if b then Some c else None)
      go (l, is, count) =
          let same = (list_parts u c a r l p is).0 in
          ap (option_and_then (λ l. if is_short_list S l then Some l.0 else None)) is
          ∙ ap₂ (λ (w : Bool) (k : ℕ). if w then Some k else None) (short_test l n c b (sym same) count some few t) (sym same)

  pub short_given : (u : Tree) (c : ℕ) → short_list S u ≡ Some c → (l : ℕ × List Tree) × (list_of S u ≡ Some l) × (is_short_list S l ≡ true) × (l.0 ≡ c)
  short_given u c h = go (list_of S u) refl h
    where
      go : (o : Option (ℕ × List Tree)) → list_of S u ≡ o → option_and_then (λ l. if is_short_list S l then Some l.0 else None) o ≡ Some c → (l : ℕ × List Tree) × (list_of S u ≡ Some l) × (is_short_list S l ≡ true) × (l.0 ≡ c)
      go None e h = clash (ap is_some h)
      go (Some l) e h = by_test (is_short_list S l) refl h
        where
          by_test : (b : Bool) → is_short_list S l ≡ b → (if b then Some l.0 else None) ≡ Some c → (l : ℕ × List Tree) × (list_of S u ≡ Some l) × (is_short_list S l ≡ true) × (l.0 ≡ c)
          by_test true q h = (l, e, q, same_Some _ _ h)
          by_test false q h = clash (ap is_some h)

  pub not_short : (u : Tree) (w : Form) → short_list S u ≡ None → list_or S (list_of S u) w ≡ w
  not_short u w h = go (list_of S u) h
    where
      go : (o : Option (ℕ × List Tree)) → option_and_then (λ l. if is_short_list S l then Some l.0 else None) o ≡ None → list_or S o w ≡ w
      go None h = refl
      go (Some l) h = by_test (is_short_list S l) h
        where
          by_test : (b : Bool) → (if b then Some l.0 else None) ≡ None → (if b then Folded l.0 l.1 else w) ≡ w
          by_test true h = clash (sym (ap is_some h))
          by_test false h = refl

  list_items : (u : Tree) (l : ℕ × List Tree) → list_of S u ≡ Some l → first_items (length l.1) u ≡ l.1
  list_items (App (App (Con c) a) r) l e = (list_parts (App (App (Con c) a) r) c a r l refl e).1
  list_items u l e = clash (ap is_some e)

  -- ---- the forms of applications

  pub short_form : (u f x : Tree) (c n : ℕ) → u ≡ App f x → Some c ≡ short_list S u → n ≡ some_items S u → form S u ≡ Folded c (first_items n u)
  unfolding form
  short_form u f x c n e h k = go (short_given u c (sym h))
    where
      go : (l : ℕ × List Tree) × (list_of S u ≡ Some l) × (is_short_list S l ≡ true) × (l.0 ≡ c) → form S u ≡ Folded c (first_items n u)
      go (l, is, short, same) =
          let few : length l.1 ≤ 1000 = leb-true (length l.1) 1000 (both (both short).0).1 in
          let counted : n ≡ up_to 1001 (length l.1) = k ∙ ap (λ o. up_to 1001 (option_map_or (λ (l : ℕ × List Tree). length l.1) o 0)) is in
          let all : n ≡ length l.1 = counted ∙ ap (λ (b : Bool). if b then 1001 else length l.1) (leb-no 1001 (length l.1) (omega (arith, few))) in
          ap (form S) e ∙ ap (λ o. list_or S o (chain S f x)) (sym (ap (list_of S) e) ∙ is) ∙ ap (λ (b : Bool). if b then Folded l.0 l.1 else chain S f x) short
          ∙ ap₂ Folded same (sym (ap (λ m. first_items m u) all ∙ list_items u l is))

  some_chain : (f x : Tree) (b : Bool) → nat_le (length (arguments_of (App f x))) most_arguments ≡ b → chain S f x ≡ (if b then by_head S (head_of f) (arguments_of (App f x)) else Plainly f (x ∷ []))
  some_chain f x b e = ap (λ (w : Bool). if w then by_head S (head_of f) (arguments_of (App f x)) else Plainly f (x ∷ [])) e

  otherwise : (u f x : Tree) → u ≡ App f x → None ≡ short_list S u → form S u ≡ chain S f x
  unfolding form
  otherwise u f x e h = ap (form S) e ∙ ap (λ o. list_or S o (chain S f x)) (sym (ap (list_of S) e)) ∙ not_short u (chain S f x) (sym h)

  bounded : (n k : ℕ) → n ≡ up_to 65 k → ((n < 65) → (k ≤ 64) × (n ≡ k)) × (65 ≤ n → 64 < k)
  bounded n k e = go (nat_le 65 k) refl e
    where
      go : (b : Bool) → nat_le 65 k ≡ b → n ≡ (if b then 65 else k) → ((n < 65) → (k ≤ 64) × (n ≡ k)) × (65 ≤ n → 64 < k)
      go true q e = (λ less. absurd (omega (arith, e, less)), λ more. leb-true 65 k q)
      go false q e = let few = leb-false 65 k q in (λ less. (omega (arith, few), e), λ more. absurd (omega (arith, e, more, few)))

  pub chain_form : (u f x : Tree) (n : ℕ) → u ≡ App f x → None ≡ short_list S u → n ≡ some_arguments u → n < 65 → by_head S (head_of u) (arguments_of u) ≡ form S u
  chain_form u f x n e h k less =
      sym (otherwise u f x e h ∙ some_chain f x true (le-leb (length (arguments_of (App f x))) 64 (omega (arith, ap (λ v. length (arguments_of v)) (sym e), ((bounded n (length (arguments_of u)) k).0 less).0))) ∙ ap (λ v. by_head S (head_of v) (arguments_of v)) (sym e))

  pub long_form : (u f x : Tree) (n : ℕ) → u ≡ App f x → None ≡ short_list S u → n ≡ some_arguments u → 65 ≤ n → Plainly f (x ∷ []) ≡ form S u
  long_form u f x n e h k more =
      sym (otherwise u f x e h ∙ some_chain f x false (leb-no (length (arguments_of (App f x))) 64 (omega (arith, ap (λ v. length (arguments_of v)) (sym e), (bounded n (length (arguments_of u)) k).1 more))))
