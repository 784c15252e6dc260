-- Settling makes no tree taller.
use Rattle.std.proofs.Common.{◌≡◌, ℕ, ◌+◌, ◌≤◌, max, Bool, true, false, ◌&&◌, if◌then◌else◌, List, [], ◌∷◌, map, Option, Some, None, refl, sym, ap, ◌∙◌, true≢false, arith}
use Rattle.std.specs.List.{list_all}
use Rattle.eo_term.specs.declared.OpName.{OpName}
use Rattle.eo_term.specs.declared.OpCode.{OpCode}
use Rattle.eo_term.specs.Tree.{Tree, Con, Num, Bits, Str, Par, Var, App, Arr, Qar, Op, Trees, NoTree, More, truth, to_trees, height, height_all, is_tall, is_closed, is_value, tree_eq}
use Rattle.eo_term.specs.Terms.{tree_at, trees_at}
use Rattle.eo_base.proofs.Tests.{clash, still_above}
use Rattle.eo_base.specs.Limits.{height_limit}
use Rattle.eo_ops.specs.Operators.{Literal, Boolean, Number, BitString, Text, OpAnswer, Gives, IsStuck, IsOutOfRange, op_value, literal_tree, answer_map, kind_value, is_variable, on_literals, literals, tree_op_value}
use Rattle.eo_type.specs.Types.{TypeOutcome, Typed, Untyped, TypeRange, TypeTall, on_typed, typed_if, typed_answer, op_in_type, settled_op, settle, settle_all}
use Rattle.eo_type.proofs.SettleLemmas.{is_typed, typed_inj, typed_before, typed_if_gives}

pub lower : (t u : Tree) → height u ≤ height t → is_tall t ≡ false → is_tall u ≡ false
lower t u h e = by (is_tall u) refl
  where
    by : (b : Bool) → is_tall u ≡ b → b ≡ false
    by true q = sym (still_above height_limit (height u) (height t) h q) ∙ e
    by false q = refl

-- Operators give a leaf or one of their arguments.

truth_height : (b : Bool) → height (truth b) ≡ 1
truth_height true = refl
truth_height false = refl

literal_height : (l : Literal) → height (literal_tree l) ≡ 1
literal_height (Boolean b) = truth_height b
literal_height (Number z) = refl
literal_height (BitString w n) = refl
literal_height (Text s) = refl

abbrev AnswersLeaf : OpAnswer Tree → Type 0
AnswersLeaf a = (t : Tree) → typed_answer a ≡ Typed t → height t ≡ 1

gives_leaf : (u : Tree) → height u ≡ 1 → AnswersLeaf (Gives u)
gives_leaf u h t e = sym (ap height (typed_inj e)) ∙ h

stuck_leaf : AnswersLeaf IsStuck
stuck_leaf t e = clash (ap is_typed e)

kind_leaves : (o : OpName) (ts : List Tree) → AnswersLeaf (kind_value o ts)
kind_leaves OpName.IsZ (t ∷ []) = gives_leaf (truth false) refl
kind_leaves OpName.IsBin (t ∷ []) = gives_leaf (truth false) refl
kind_leaves OpName.IsStr (t ∷ []) = gives_leaf (truth false) refl
kind_leaves OpName.IsBool (t ∷ []) = gives_leaf (truth false) refl
kind_leaves OpName.IsVar (t ∷ []) = gives_leaf (truth (is_variable t)) (truth_height (is_variable t))
kind_leaves _ _ = stuck_leaf

literal_leaves : (a : OpAnswer Literal) → AnswersLeaf (answer_map literal_tree a)
literal_leaves (Gives l) = gives_leaf (literal_tree l) (literal_height l)
literal_leaves IsStuck = stuck_leaf
literal_leaves IsOutOfRange = λ t e. clash (ap is_typed e)

op_leaves : (o : OpName) (ts : List Tree) → AnswersLeaf (tree_op_value o ts)
op_leaves o ts = by_literals (literals ts)
  where
    by_literals : (ls : Option (List Literal)) → AnswersLeaf (on_literals o ts ls)
    by_literals None = kind_leaves o ts
    by_literals (Some ls) = literal_leaves (op_value o ls)

op_leaf : (o : OpName) (ts : List Tree) (t : Tree) → (if list_all is_value ts then typed_answer (tree_op_value o ts) else Untyped) ≡ Typed t → height t ≡ 1
op_leaf o ts t e = by_test (list_all is_value ts) e
  where
    by_test : (b : Bool) → (if b then typed_answer (tree_op_value o ts) else Untyped) ≡ Typed t → height t ≡ 1
    by_test true q = op_leaves o ts t q
    by_test false q = clash (ap is_typed q)

op_leaf_low : (o : OpName) (ts : List Tree) (t : Tree) → (if list_all is_value ts then typed_answer (tree_op_value o ts) else Untyped) ≡ Typed t → height t ≤ 1 + height_all (to_trees ts)
op_leaf_low o ts t e = let h = op_leaf o ts t e in omega (arith, h)

if_same : (b : Bool) (u t : Tree) → typed_if b u ≡ Typed t → height u ≡ height t
if_same b u t e = ap height (typed_if_gives b u t e).1

op_low : (c : OpCode) (ts : List Tree) (t : Tree) → op_in_type c ts ≡ Typed t → height t ≤ 1 + height_all (to_trees ts)
op_low (OpCode.Builtin OpName.Ite) (c ∷ a ∷ b ∷ []) t e = by_test (tree_eq c (truth true)) (tree_eq c (truth false)) e
  where
    by_test : (x y : Bool) → (if x then typed_if (is_value a) a else (if y then typed_if (is_value b) b else Untyped)) ≡ Typed t → height t ≤ 1 + height_all (to_trees (c ∷ a ∷ b ∷ []))
    by_test true y q = let h = if_same (is_value a) a t q in omega (arith, h)
    by_test false true q = let h = if_same (is_value b) b t q in omega (arith, h)
    by_test false false q = clash (ap is_typed q)
op_low (OpCode.Builtin OpName.Requires) (a ∷ b ∷ c ∷ []) t e = let h = if_same (is_value a && (tree_eq a b && is_value c)) c t e in omega (arith, h)
op_low (OpCode.Builtin OpName.IsEq) (a ∷ b ∷ []) t e =
    let h : height (truth (is_value a && tree_eq a b)) ≡ height t = ap height (typed_inj e) in
    let k = truth_height (is_value a && tree_eq a b) in omega (arith, h, k)
op_low (OpCode.Builtin o) ts t e = op_leaf_low o ts t e
op_low (OpCode.Prog p) ts t e = clash (ap is_typed e)

settled_op_low : (c : OpCode) (us : List Tree) (t : Tree) → settled_op c us ≡ Typed t → height t ≤ 1 + height_all (to_trees us)
settled_op_low c us t e = by_test (list_all is_closed us) e
  where
    by_test : (b : Bool) → (if b then op_in_type c us else Typed (Op c (to_trees us))) ≡ Typed t → height t ≤ 1 + height_all (to_trees us)
    by_test true q = op_low c us t q
    by_test false q = let h : height (Op c (to_trees us)) ≡ height t = ap height (typed_inj q) in omega (arith, h)

same_height : (t u : Tree) → Typed t ≡ Typed u → height u ≤ height t
same_height t u e = let h = ap height (typed_inj e) in omega (arith, h)

mutual
  pub settle_height : (t u : Tree) → settle t ≡ Typed u → height u ≤ height t
  settle_height (Con k) u e = same_height (Con k) u e
  settle_height (Num z) u e = same_height (Num z) u e
  settle_height (Bits w v) u e = same_height (Bits w v) u e
  settle_height (Str s) u e = same_height (Str s) u e
  settle_height (Par i) u e = same_height (Par i) u e
  settle_height (Var s t) u e =
      let r = typed_before (settle t) (λ v. Typed (Var s v)) u e in
      let h = settle_height t r.0 r.1 in
      let k : 1 + height r.0 ≡ height u = ap height (typed_inj r.2) in
      omega (arith, h, k)
  settle_height (App f x) u e =
      let r = typed_before (settle f) (λ g. on_typed (settle x) (λ y. Typed (App g y))) u e in
      let q = typed_before (settle x) (λ y. Typed (App r.0 y)) u r.2 in
      let h = settle_height f r.0 r.1 in
      let j = settle_height x q.0 q.1 in
      let k : 1 + max (height r.0) (height q.0) ≡ height u = ap height (typed_inj q.2) in
      omega (arith, h, j, k)
  settle_height (Arr a b) u e =
      let r = typed_before (settle a) (λ c. on_typed (settle b) (λ d. Typed (Arr c d))) u e in
      let q = typed_before (settle b) (λ d. Typed (Arr r.0 d)) u r.2 in
      let h = settle_height a r.0 r.1 in
      let j = settle_height b q.0 q.1 in
      let k : 1 + max (height r.0) (height q.0) ≡ height u = ap height (typed_inj q.2) in
      omega (arith, h, j, k)
  settle_height (Qar i t b) u e =
      let r = typed_before (settle t) (λ v. on_typed (settle b) (λ c. Typed (Qar i v c))) u e in
      let q = typed_before (settle b) (λ c. Typed (Qar i r.0 c)) u r.2 in
      let h = settle_height t r.0 r.1 in
      let j = settle_height b q.0 q.1 in
      let k : 1 + max (height r.0) (height q.0) ≡ height u = ap height (typed_inj q.2) in
      omega (arith, h, j, k)
  settle_height (Op c ts) u e =
      let r = typed_before (settle_all ts) (settled_op c) u e in
      let h = settle_all_height ts r.0 r.1 in
      let k = settled_op_low c r.0 u r.2 in
      omega (arith, h, k)

  pub settle_all_height : (ts : Trees) (us : List Tree) → settle_all ts ≡ Typed us → height_all (to_trees us) ≤ height_all ts
  settle_all_height NoTree us e = let h : 0 ≡ height_all (to_trees us) = ap (λ vs. height_all (to_trees vs)) (typed_inj e) in omega (arith, h)
  settle_all_height (More t ts) us e =
      let r = typed_before (settle t) (λ v. on_typed (settle_all ts) (λ vs. Typed (v ∷ vs))) us e in
      let q = typed_before (settle_all ts) (λ vs. Typed (r.0 ∷ vs)) us r.2 in
      let h = settle_height t r.0 r.1 in
      let j = settle_all_height ts q.0 q.1 in
      let k : max (height r.0) (height_all (to_trees q.0)) ≡ height_all (to_trees us) = ap (λ vs. height_all (to_trees vs)) (typed_inj q.2) in
      omega (arith, h, j, k)

pub settle_low : (t u : Tree) → settle t ≡ Typed u → is_tall t ≡ false → is_tall u ≡ false
settle_low t u e h = lower t u (settle_height t u e) h

pub settle_all_low : (c : OpCode) (ts : Trees) (us : List Tree) → settle_all ts ≡ Typed us → is_tall (Op c ts) ≡ false → is_tall (Op c (to_trees us)) ≡ false
settle_all_low c ts us e h = let k = settle_all_height ts us e in lower (Op c ts) (Op c (to_trees us)) (omega (arith, k)) h

-- Settling never ends with a tree that is too tall.

abbrev is_too_tall : {A : Type 0} → TypeOutcome A → Bool
is_too_tall (Typed t) = false
is_too_tall Untyped = false
is_too_tall TypeRange = false
is_too_tall TypeTall = true

then_low : {A B : Type 0} (o : TypeOutcome A) (go : A → TypeOutcome B) → is_too_tall o ≡ false → ((a : A) → is_too_tall (go a) ≡ false) → is_too_tall (on_typed o go) ≡ false
then_low (Typed a) go h k = k a
then_low Untyped go h k = refl
then_low TypeRange go h k = refl
then_low TypeTall go h k = clash (sym h)

if_low : (b : Bool) (t : Tree) → is_too_tall (typed_if b t) ≡ false
if_low true t = refl
if_low false t = refl

answer_low : (a : OpAnswer Tree) → is_too_tall (typed_answer a) ≡ false
answer_low (Gives t) = refl
answer_low IsStuck = refl
answer_low IsOutOfRange = refl

values_low : (b : Bool) (a : OpAnswer Tree) → is_too_tall (if b then typed_answer a else Untyped) ≡ false
values_low true a = answer_low a
values_low false a = refl

op_never : (c : OpCode) (ts : List Tree) → is_too_tall (op_in_type c ts) ≡ false
op_never (OpCode.Builtin OpName.Ite) (c ∷ a ∷ b ∷ []) = by_test (tree_eq c (truth true)) (tree_eq c (truth false))
  where
    by_test : (x y : Bool) → is_too_tall (if x then typed_if (is_value a) a else (if y then typed_if (is_value b) b else Untyped)) ≡ false
    by_test true y = if_low (is_value a) a
    by_test false true = if_low (is_value b) b
    by_test false false = refl
op_never (OpCode.Builtin OpName.Requires) (a ∷ b ∷ c ∷ []) = if_low (is_value a && (tree_eq a b && is_value c)) c
op_never (OpCode.Builtin OpName.IsEq) (a ∷ b ∷ []) = refl
op_never (OpCode.Builtin o) ts = values_low (list_all is_value ts) (tree_op_value o ts)
op_never (OpCode.Prog p) ts = refl

settled_op_never : (c : OpCode) (us : List Tree) → is_too_tall (settled_op c us) ≡ false
settled_op_never c us = by_test (list_all is_closed us)
  where
    by_test : (b : Bool) → is_too_tall (if b then op_in_type c us else Typed (Op c (to_trees us))) ≡ false
    by_test true = op_never c us
    by_test false = refl

mutual
  settle_never : (t : Tree) → is_too_tall (settle t) ≡ false
  settle_never (Con k) = refl
  settle_never (Num z) = refl
  settle_never (Bits w v) = refl
  settle_never (Str s) = refl
  settle_never (Par i) = refl
  settle_never (Var s t) = then_low (settle t) _ (settle_never t) (λ u. refl)
  settle_never (App f x) = then_low (settle f) _ (settle_never f) (λ g. then_low (settle x) _ (settle_never x) (λ y. refl))
  settle_never (Arr a b) = then_low (settle a) _ (settle_never a) (λ c. then_low (settle b) _ (settle_never b) (λ d. refl))
  settle_never (Qar i t b) = then_low (settle t) _ (settle_never t) (λ u. then_low (settle b) _ (settle_never b) (λ c. refl))
  settle_never (Op c ts) = then_low (settle_all ts) (settled_op c) (settle_all_never ts) (settled_op_never c)

  settle_all_never : (ts : Trees) → is_too_tall (settle_all ts) ≡ false
  settle_all_never NoTree = refl
  settle_all_never (More t ts) = then_low (settle t) _ (settle_never t) (λ u. then_low (settle_all ts) _ (settle_all_never ts) (λ us. refl))

pub never_tall : (t : Tree) → settle t ≡ TypeTall → ⊥
never_tall t e = true≢false (sym (ap is_too_tall e) ∙ settle_never t)

-- the arguments of an operator as a list
pub trees_of_list : (ts : List Tree) (is : List ℕ) → trees_at ts is ≡ to_trees (map (tree_at ts) is)
trees_of_list ts [] = refl
trees_of_list ts (i ∷ is) = ap (More (tree_at ts i)) (trees_of_list ts is)
