-- The names that a `let` and a binder bind, before those around them.
use Rattle.std.proofs.Common.{◌≡◌, ℕ, ◌<◌, Bool, true, false, cond, ◌+◌, ◌-◌, List, [], ◌∷◌, ◌++◌, map, Option, None, Some, refl, ap, ◌∙◌}
use Rattle.std.specs.Prelude.{option_map}
use Rattle.std.specs.List.{find}
use Rattle.std.specs.Option.{option_or}
use Rattle.std.specs.Str.{bytes_eq}
use Rattle.std.proofs.lemmas.List.{append_assoc}
use Rattle.std.proofs.lemmas.List.Elements.{All-head, All-tail, All-nil, All-cons}
use Rattle.eo_term.specs.Tree.{Tree, Con, Num, Bits, Str, Par, Var, App, Arr, Qar, Op}
use Rattle.eo_names.specs.declared.locals.LocalName.{LocalName}
use Rattle.eo_names.specs.Contexts.{Local, local_named, is_list}
use Rattle.eo_names.specs.Names.{Binding, binding_local, read_local, read_locals, AreBelow, bound_by}

module _ (ls : List LocalName) where
  abbrev pub inside : List Binding → List LocalName
  inside bs = map binding_local bs ++ ls

  -- none of them represents a list
  pub list_inside : (ts : List Tree) (t : Tree) (bs : List Binding) → is_list (read_locals ts (inside bs)) t ≡ is_list (read_locals ts ls) t
  list_inside ts (Con k) bs = refl
  list_inside ts (Num z) bs = refl
  list_inside ts (Bits w v) bs = refl
  list_inside ts (Str s) bs = refl
  list_inside ts (Par i) [] = refl
  list_inside ts (Par i) (b ∷ bs) = list_inside ts (Par i) bs
  list_inside ts (Var s u) bs = refl
  list_inside ts (App f x) bs = refl
  list_inside ts (Arr a c) bs = refl
  list_inside ts (Qar i u c) bs = refl
  list_inside ts (Op c us) bs = refl

pub first_some : {A : Type 0} (x : A) (o p : Option A) → Some x ≡ o → Some x ≡ option_or o p
first_some x o p e = ap (λ q. option_or q p) e

pub second_some : {A : Type 0} (o p : Option A) → None ≡ o → p ≡ option_or o p
second_some o p e = ap (λ q. option_or q p) e

pub named_within : (ls : List LocalName) (ts : List Tree) (name : List ℕ) (xs : List LocalName) → local_named (read_locals ts (xs ++ ls)) name ≡ option_or (local_named (read_locals ts xs) name) (local_named (read_locals ts ls) name)
named_within ls ts name [] = refl
named_within ls ts name (x ∷ xs) = by (bytes_eq x.name name) (named_within ls ts name xs)
  where
    by : (t : Bool) → local_named (read_locals ts (xs ++ ls)) name ≡ option_or (local_named (read_locals ts xs) name) (local_named (read_locals ts ls) name)
        → option_map (λ (l : Local). l.tree) (cond t (Some (read_local ts x)) (find (λ (l : Local). bytes_eq l.name name) (read_locals ts (xs ++ ls))))
        ≡ option_or (option_map (λ (l : Local). l.tree) (cond t (Some (read_local ts x)) (find (λ (l : Local). bytes_eq l.name name) (read_locals ts xs)))) (local_named (read_locals ts ls) name)
    by true h = refl
    by false h = h

pub within_below : (n : ℕ) (xs ls : List LocalName) → AreBelow n (xs ++ ls) → AreBelow n xs
within_below n [] ls h = All-nil (λ (l : LocalName). l.id < n)
within_below n (x ∷ xs) ls h = All-cons (λ (l : LocalName). l.id < n) x xs (All-head (λ (l : LocalName). l.id < n) x (xs ++ ls) h) (within_below n xs ls (All-tail (λ (l : LocalName). l.id < n) x (xs ++ ls) h))

pub outside_below : (n : ℕ) (xs ls : List LocalName) → AreBelow n (xs ++ ls) → AreBelow n ls
outside_below n [] ls h = h
outside_below n (x ∷ xs) ls h = outside_below n xs ls (All-tail (λ (l : LocalName). l.id < n) x (xs ++ ls) h)

pub list_within : (ls : List LocalName) (ts : List Tree) (t : Tree) (blocks : List (List Binding)) → is_list (read_locals ts (bound_by blocks ++ ls)) t ≡ is_list (read_locals ts ls) t
list_within ls ts t [] = refl
list_within ls ts t (b ∷ blocks) =
    ap (λ xs. is_list (read_locals ts xs) t) (append_assoc (map binding_local b) (bound_by blocks) ls) ∙ list_inside (bound_by blocks ++ ls) ts t b ∙ list_within ls ts t blocks
