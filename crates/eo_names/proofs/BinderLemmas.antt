-- The variables of names and types, one after another.
use Rattle.std.proofs.Common.{◌≡◌, ℕ, zero, suc, ◌+◌, ◌<◌, ◌≤◌, Bool, true, false, ◌||◌, List, [], ◌∷◌, map, length, drop, take, get_or, Some, All, refl, sym, ap, subst, ◌∙◌, arith}
use Rattle.std.specs.Prelude.{slice_get, Ok, Err, not, if◌then◌else◌}
use Rattle.std.specs.List.{list_any}
use Rattle.std.proofs.lemmas.List.{length-map}
use Rattle.std.proofs.lemmas.List.Elements.{All-head, All-tail, All-nil, All-cons}
use Rattle.eo_base.specs.Checks.{Checked}
use Rattle.eo_base.specs.declared.FaultName.TheVariants.{TermHeight, BadArity}
use Rattle.eo_sig.specs.Signature.{Signature, Attribute, Plain, RightNil, LeftNil, Right, Left, Chain, Pairs, Binder}
use Rattle.eo_term.specs.Tree.{Tree, Con, Var, App, is_tall}
use Rattle.eo_term.specs.Terms.{tree_at}
use Rattle.indexmap.specs.Layout.{set_value_at}
use Rattle.eo_names.specs.Folding.{folded, folded_within, by_attribute, attribute_at, least, applied_to_two}
use Rattle.eo_names.specs.Binders.{variable_list, variable, variables_of}
use Rattle.eo_names.specs.Grouped.{if_low}
use Rattle.eo_names.specs.Readers.{◌>>=◌, read, built, give, unless, with_named_terms}
use Rattle.eo_names.specs.Contexts.{is_list, Local}
use Rattle.eo_names.specs.Names.{Binding, read_pairs, BindingsBelow, with_term, with_terms}
use Rattle.eo_names.proofs.FoldLemmas.{tall_second, tall_left, tall_right}
use Rattle.eo_names.proofs.FoldSteps.{too_few, not_too_few}
use Rattle.eo_names.proofs.FoldTall.{too_tall, folded_tall}

pub length_pairs : (ts : List Tree) (bs : List Binding) → length (read_pairs ts bs) ≡ length bs
length_pairs ts [] = refl
length_pairs ts (b ∷ bs) = ap suc (length_pairs ts bs)

-- the variable at a place, before those after it
variable_before : (ts : List Tree) (bs : List Binding) (i : ℕ) (name : List ℕ) (ty : ℕ) → slice_get bs i ≡ Some (name, ty)
    → variables_of (read_pairs ts (drop i bs)) ≡ Var name (tree_at ts ty) ∷ variables_of (read_pairs ts (drop (suc i) bs))
variable_before ts [] zero name ty e = cc
variable_before ts [] (suc i) name ty e = cc
variable_before ts (b ∷ bs) zero name ty e =
    let same : b ≡ (name, ty) = cc in
    ap (λ (c : Binding). Var c.0 (tree_at ts c.1) ∷ variables_of (read_pairs ts bs)) same
variable_before ts (b ∷ bs) (suc i) name ty e = variable_before ts bs i name ty e

pub variable_at : (ts : List Tree) (bs : List Binding) (i : ℕ) (name : List ℕ) (ty : ℕ) → slice_get bs i ≡ Some (name, ty)
    → variables_of (read_pairs ts (drop i bs)) ≡ Var name (tree_at ts ty) ∷ variables_of (read_pairs ts (drop (i + 1) bs))
variable_at ts bs i name ty e =
    let more : suc i ≡ i + 1 = omega arith in
    variable_before ts bs i name ty e ∙ (λ k. Var name (tree_at ts ty) ∷ variables_of (read_pairs ts (drop (more k) bs)))

pub type_at : (n : ℕ) (bs : List Binding) (i : ℕ) (name : List ℕ) (ty : ℕ) → BindingsBelow n bs → slice_get bs i ≡ Some (name, ty) → ty < n
type_at n [] zero name ty h e = cc
type_at n [] (suc i) name ty h e = cc
type_at n (b ∷ bs) zero name ty h e =
    let same : b ≡ (name, ty) = cc in
    subst (λ (c : Binding). c.1 < n) same (All-head (λ (c : Binding). c.1 < n) b bs h)
type_at n (b ∷ bs) (suc i) name ty h e = type_at n bs i name ty (All-tail (λ (c : Binding). c.1 < n) b bs h) e

-- none are left after the last one
pub no_variable : (ts : List Tree) (bs : List Binding) (i : ℕ) → length bs ≤ i → variables_of (read_pairs ts (drop i bs)) ≡ []
no_variable ts [] zero l = refl
no_variable ts [] (suc i) l = refl
no_variable ts (b ∷ bs) zero l = absurd (omega arith)
no_variable ts (b ∷ bs) (suc i) l = no_variable ts bs i (omega (arith, l))

-- ---- other terms in the places of those that are there

pub no_terms : (bs : List Binding) → bs ≡ with_terms bs []
no_terms [] = refl
no_terms (b ∷ bs) = refl

pub length-with_term : (bs : List Binding) (i t : ℕ) → length (with_term bs i t) ≡ length bs
length-with_term [] i t = refl
length-with_term (b ∷ bs) zero t = refl
length-with_term (b ∷ bs) (suc i) t = ap suc (length-with_term bs i t)

term_before : (bs : List Binding) (is : List ℕ) (i t : ℕ) → i < length is → length is ≤ length bs → t ≡ get_or is i t → with_term (with_terms bs (take i is)) i t ≡ with_terms bs (take (suc i) is)
term_before bs [] i t l m e = absurd (omega arith)
term_before [] (j ∷ is) i t l m e = absurd (omega arith)
term_before (b ∷ bs) (j ∷ is) zero t l m e =
    λ k. (b.0, e k) ∷ no_terms bs k
term_before (b ∷ bs) (j ∷ is) (suc i) t l m e = ap (λ cs. (b.0, j) ∷ cs) (term_before bs is i t (omega (arith, l)) (omega (arith, m)) e)

pub one_more_term : (bs : List Binding) (is : List ℕ) (i t : ℕ) → i < length is → length is ≤ length bs → t ≡ get_or is i t → with_term (with_terms bs (take i is)) i t ≡ with_terms bs (take (i + 1) is)
one_more_term bs is i t l m e =
    let more : suc i ≡ i + 1 = omega arith in
    term_before bs is i t l m e ∙ (λ k. with_terms bs (take (more k) is))

pub all_terms : (bs : List Binding) (is : List ℕ) → length is ≡ length bs → (n : ℕ) → All (λ i. i < n) is → BindingsBelow n (with_terms bs is)
all_terms [] is e n h = All-nil (λ (c : Binding). c.1 < n)
all_terms (b ∷ bs) [] e n h = absurd (omega (arith, e))
all_terms (b ∷ bs) (i ∷ is) e n h =
    All-cons (λ (c : Binding). c.1 < n) (b.0, i) (with_terms bs is) (All-head (λ j. j < n) i is h) (all_terms bs is (omega (arith, e)) n (All-tail (λ j. j < n) i is h))

-- where the terms are the variables of what was there
pub as_variables : (ts us : List Tree) (bs : List Binding) (is : List ℕ) → map (tree_at us) is ≡ variables_of (read_pairs ts bs) → read_pairs us (with_terms bs is) ≡ map variable (read_pairs ts bs)
as_variables ts us [] is e = refl
as_variables ts us (b ∷ bs) [] e = cc
as_variables ts us (b ∷ bs) (i ∷ is) e =
    let first : tree_at us i ≡ Var b.0 (tree_at ts b.1) = cc in
    let rest : map (tree_at us) is ≡ variables_of (read_pairs ts bs) = cc in
    λ k. (b.0, first k) ∷ as_variables ts us bs is rest k

-- as many terms as names
pub as_many : (ts us : List Tree) (bs : List Binding) (is : List ℕ) → map (tree_at us) is ≡ variables_of (read_pairs ts bs) → length is ≡ length bs
as_many ts us bs is e =
    sym (length-map is (tree_at us)) ∙ ap length e ∙ length-map (map variable (read_pairs ts bs)) (λ (v : List ℕ × Tree). v.1) ∙ length-map (read_pairs ts bs) variable ∙ length_pairs ts bs

-- ---- the list of the variables

read_built : (x : Checked Tree) → (read x >>= built) [] ≡ with_named_terms [] (if_low x)
read_built (Ok t) = by (is_tall t)
  where
    by : (b : Bool) → unless (not b) TermHeight (give t) [] ≡ with_named_terms [] (if b then Err TermHeight else Ok t)
    by true = refl
    by false = refl
read_built (Err fault) = refl

module _ (S : Signature) (ls : List Local) (k : ℕ) where
  pub seen_list : (ps : List (List ℕ × Tree)) → variable_list S (is_list ls) k (map variable ps) [] ≡ with_named_terms [] (if_low (folded S (is_list ls) k (variables_of ps)))
  seen_list ps = read_built (folded S (is_list ls) k (variables_of ps))

  opened : (us : List Tree) → folded S (is_list ls) k us ≡ folded_within (suc k) S (is_list ls) k us
  unfolding folded
  opened us = refl

  length_trees : (ps : List (List ℕ × Tree)) → length (variables_of ps) ≡ length ps
  length_trees ps = length-map (map variable ps) (λ (v : List ℕ × Tree). v.1) ∙ length-map ps variable

  pub list_few : (ps : List (List ℕ × Tree)) → length ps < least (attribute_at S k) → variable_list S (is_list ls) k (map variable ps) [] ≡ Err BadArity
  list_few ps l = seen_list ps ∙ ap (λ r. with_named_terms [] (if_low r)) (opened (variables_of ps)) ∙ ap (with_named_terms []) (too_few S (is_list ls) k (variables_of ps) k (omega (arith, length_trees ps)))

  -- one variable that is too tall
  one_by : (fold_by : ℕ → List Tree → Checked Tree) (f : Tree) (a : Attribute) (name : List ℕ) (ty : Tree) → least a ≤ 1 → is_tall (Var name ty) ≡ true → if_low (by_attribute fold_by (is_list ls) f a (Var name ty ∷ [])) ≡ Err TermHeight
  one_by fold_by f Plain name ty l e = too_tall (App f (Var name ty)) (tall_second f (Var name ty) e)
  one_by fold_by f (RightNil nil) name ty l e = too_tall (applied_to_two f (Var name ty) nil) (tall_left f (Var name ty) nil e)
  one_by fold_by f (LeftNil nil) name ty l e = too_tall (applied_to_two f nil (Var name ty)) (tall_right f nil (Var name ty) e)
  one_by fold_by f Right name ty l e = absurd (omega (arith, l))
  one_by fold_by f Left name ty l e = absurd (omega (arith, l))
  one_by fold_by f (Chain g) name ty l e = absurd (omega (arith, l))
  one_by fold_by f (Pairs g) name ty l e = absurd (omega (arith, l))
  one_by fold_by f (Binder g) name ty l e = too_tall (App f (Var name ty)) (tall_second f (Var name ty) e)

  tall_within : (ps : List (List ℕ × Tree)) → least (attribute_at S k) ≤ length ps → list_any is_tall (variables_of ps) ≡ true → if_low (folded_within (suc k) S (is_list ls) k (variables_of ps)) ≡ Err TermHeight
  tall_within [] l e = cc
  tall_within (p ∷ []) l e =
      ap if_low (not_too_few S (is_list ls) k (variables_of (p ∷ [])) k l) ∙ one_by (folded_within k S (is_list ls)) (Con k) (attribute_at S k) p.0 p.1 l (or_false (is_tall (variable p).1) e)
    where
      or_false : (b : Bool) → (b || false) ≡ true → b ≡ true
      or_false true h = refl
      or_false false h = h
  tall_within (p ∷ q ∷ ps) l e = folded_tall S (is_list ls) (suc k) k (variables_of (p ∷ q ∷ ps)) (omega arith) e

  pub list_tall : (ps : List (List ℕ × Tree)) → least (attribute_at S k) ≤ length ps → list_any is_tall (variables_of ps) ≡ true → variable_list S (is_list ls) k (map variable ps) [] ≡ Err TermHeight
  list_tall ps l e = seen_list ps ∙ ap (λ r. with_named_terms [] (if_low r)) (opened (variables_of ps)) ∙ ap (with_named_terms []) (tall_within ps l e)

-- ---- the code

pub set_seen : (es : List Binding) (i w : ℕ) → set_value_at es i w ≡ with_term es i w
set_seen [] i w = refl
set_seen (e ∷ es) zero w = refl
set_seen (e ∷ es) (suc i) w = ap (λ bs. e ∷ bs) (set_seen es i w)
