-- A tree whose operators declared types may hold is evaluated to what it settles to.
use Rattle.std.specs.Prelude.{◌≡◌, ◌≤◌, Bool, true, false, ◌&&◌, if◌then◌else◌, List, [], ◌∷◌, Option, Some, None, refl}
use Rattle.std.specs.List.{list_all}
use Rattle.std.proofs.Common.{sym, ◌∙◌, ap, subst, arith}
use Rattle.eo_term.proofs.Heights.{low_height}
use Rattle.eo_base.specs.Limits.{height_limit, calls_limit, open_calls_limit}
use Rattle.eo_base.proofs.Tests.{both, clash, join, and_first, and_second}
use Rattle.eo_term.specs.declared.OpName.{OpName}
use Rattle.eo_term.specs.declared.OpCode.{OpCode}
use Rattle.eo_term.specs.Tree.{Tree, Con, Num, Bits, Str, Par, Var, App, Arr, Qar, Op, Trees, NoTree, More, truth, to_trees, height, height_all, is_tall, is_closed, all_closed, is_value, may_be_type, all_may_be_type, may_type_use, tree_eq}
use Rattle.eo_term.proofs.Equality.{tree_same}
use Rattle.eo_ops.specs.Operators.{OpAnswer, Gives, IsStuck, IsOutOfRange, tree_op_value}
use Rattle.eo_sig.specs.Signature.{Signature}
use Rattle.eo_type.specs.Types.{Typed, Untyped, on_typed, typed_if, typed_answer, chosen, op_in_type, settled_op, settle, settle_all}
use Rattle.eo_type.proofs.SettleLemmas.{is_typed, typed_inj, typed_before, typed_if_gives}
use Rattle.eo_type.proofs.Heights.{settle_low}
use Rattle.eo_stack.specs.Evaluation.{Outcome, Value, Stuck, Tall, Call, Begun, Ended, Eval, ends, on_outcome, on_value, node, are_equal, answer_value, value_or, operator_value, eval_with, eval_all_with, call_within}
use Rattle.eo_stack.specs.Machine.{maybe}
use Rattle.eo_eval.specs.Settling.{value_or_stuck, SettlesAsEvaluated}
use Rattle.eo_stack.proofs.OnValues.{not_listed}
use Rattle.eo_eval.proofs.OperatorValues.{tree_op_values}

-- trees beside what they settle to
abbrev Settled : Type 0
Settled = List (Tree × Tree)

abbrev before : Settled → List Tree
before [] = []
before (p ∷ ps) = p.0 ∷ before ps

abbrev after : Settled → List Tree
after [] = []
after (p ∷ ps) = p.1 ∷ after ps

stuck : (u : Tree) → is_value u ≡ false → value_or_stuck u ≡ Stuck
stuck u h = ap (λ (b : Bool). if b then Value u else Stuck) h

valued : (u : Tree) → is_value u ≡ true → value_or_stuck u ≡ Value u
valued u h = ap (λ (b : Bool). if b then Value u else Stuck) h

truth_valued : (b : Bool) → value_or_stuck (truth b) ≡ Value (truth b)
truth_valued true = refl
truth_valued false = refl

-- goes on with a value, and is stuck where there is none
then_value : (a : Tree) (go : Tree → Eval Tree) (o : Outcome Tree) (c : Begun) → (is_value a ≡ true → go a c ≡ (o, c)) → (is_value a ≡ false → o ≡ Stuck) → on_value (value_or_stuck a, c) go ≡ (o, c)
then_value a go o c f g = by (is_value a) refl
  where
    by : (b : Bool) → is_value a ≡ b → on_value ((if b then Value a else Stuck), c) go ≡ (o, c)
    by true p = f p
    by false p = ap (λ (r : Outcome Tree). (r, c)) (sym (g p))

node_value : (w : Tree) (c : Begun) → is_value w ≡ true → is_tall w ≡ false → node w c ≡ (value_or_stuck w, c)
node_value w c h l = ap (λ (b : Bool). (if b then ends Tall else ends (Value w)) c) l ∙ ap (λ (r : Outcome Tree). (r, c)) (sym (valued w h))

-- a value or none
abbrev given : Tree → Option Tree
given a = if is_value a then Some a else None

maybe_given : (a : Tree) (c : Begun) → maybe (value_or_stuck a, c) ≡ (Value (given a), c)
maybe_given a c = by (is_value a)
  where
    by : (b : Bool) → maybe ((if b then Value a else Stuck), c) ≡ (Value (if b then Some a else None), c)
    by true = refl
    by false = refl

given_equal : (a b : Tree) → are_equal (given a) (given b) ≡ (is_value a && tree_eq a b)
given_equal a b = by (is_value a) (is_value b) refl refl
  where
    apart : is_value a ≡ true → is_value b ≡ false → (z : Bool) → tree_eq a b ≡ z → false ≡ z
    apart p q true e = clash (sym q ∙ ap is_value (sym (tree_same a b e)) ∙ p)
    apart p q false e = refl

    by : (x y : Bool) → is_value a ≡ x → is_value b ≡ y → are_equal (if x then Some a else None) (if y then Some b else None) ≡ (x && tree_eq a b)
    by true true p q = refl
    by true false p q = apart p q (tree_eq a b) refl
    by false true p q = refl
    by false false p q = refl

-- operators that types may hold are none on lists
alike : (S : Signature) (o : OpName) (us : List Tree) → may_type_use (OpCode.Builtin o) ≡ true → operator_value S o us ≡ answer_value (tree_op_value o us)
alike S OpName.IsOk us h = clash h
alike S OpName.Typeof us h = clash h
alike S OpName.Var us h = clash h
alike S OpName.Nameof us h = clash h
alike S OpName.Nil us h = clash h
alike S OpName.Cons us h = clash h
alike S OpName.ListLen us h = clash h
alike S OpName.ListConcat us h = clash h
alike S OpName.ListNth us h = clash h
alike S OpName.ListFind us h = clash h
alike S OpName.ListRev us h = clash h
alike S OpName.ListErase us h = clash h
alike S OpName.ListSetof us h = clash h
alike S OpName.ListMinclude us h = clash h
alike S o us h = ap (λ l. value_or l (answer_value (tree_op_value o us))) (not_listed S o us (λ f n ts. refl))

answered : (a : OpAnswer Tree) (u : Tree) (c : Begun) → typed_answer a ≡ Typed u → is_value u ≡ true → is_tall u ≡ false → on_outcome (answer_value a) node c ≡ (value_or_stuck u, c)
answered (Gives t) u c e h l = ap (λ (v : Tree). node v c) (typed_inj e) ∙ node_value u c h l
answered IsStuck u c e h l = clash (ap is_typed e)
answered IsOutOfRange u c e h l = clash (ap is_typed e)

-- What settles, taken apart.

settled_first : (t : Tree) (ts : Trees) (us : List Tree) → settle_all (More t ts) ≡ Typed us → (a : Tree) × ((bs : List Tree) × ((settle t ≡ Typed a) × ((settle_all ts ≡ Typed bs) × (a ∷ bs ≡ us))))
settled_first t ts us e =
    let r = typed_before (settle t) (λ v. on_typed (settle_all ts) (λ vs. Typed (v ∷ vs))) us e in
    let q = typed_before (settle_all ts) (λ vs. Typed (r.0 ∷ vs)) us r.2 in
    (r.0, (q.0, (r.1, (q.1, typed_inj q.2))))

all_closed_are : (us : List Tree) → all_closed (to_trees us) ≡ list_all is_closed us
all_closed_are [] = refl
all_closed_are (u ∷ us) = ap (λ b. is_closed u && b) (all_closed_are us)

closed_arguments : (k : OpCode) (us : List Tree) (u : Tree) → settled_op k us ≡ Typed u → is_closed u ≡ true → (list_all is_closed us ≡ true) × (op_in_type k us ≡ Typed u)
closed_arguments k us u e h = by (list_all is_closed us) refl e
  where
    by : (b : Bool) → list_all is_closed us ≡ b → (if b then op_in_type k us else Typed (Op k (to_trees us))) ≡ Typed u → (list_all is_closed us ≡ true) × (op_in_type k us ≡ Typed u)
    by true p q = (p, q)
    by false p q = clash (sym p ∙ sym (all_closed_are us) ∙ ap is_closed (typed_inj q) ∙ h)

module _ (S : Signature) (call : Call → Eval Tree) where
  abbrev E : Tree → Eval Tree
  E t = eval_with S call t

  -- each is evaluated to what it settles to
  abbrev Each : Settled → Begun → Type 0
  Each [] c = Unit {0}
  Each (p ∷ ps) c = (E p.0 c ≡ (value_or_stuck p.1, c)) × Each ps c

  abbrev values_or_stuck : List Tree → Outcome (List Tree)
  values_or_stuck us = if list_all is_value us then Value us else Stuck

  all_given : (ps : Settled) (c : Begun) → Each ps c → eval_all_with S call (to_trees (before ps)) c ≡ (values_or_stuck (after ps), c)
  all_given [] c h = refl
  all_given (p ∷ ps) c h =
      ap (λ (r : Ended Tree). on_value r (λ v b. on_value (eval_all_with S call (to_trees (before ps)) b) (λ vs. ends (Value (v ∷ vs))))) h.0 ∙ by (all_given ps c h.1) (is_value p.1)
    where
      rest : (z : Bool) → on_value ((if z then Value (after ps) else Stuck), c) (λ vs. ends (Value (p.1 ∷ vs))) ≡ ((if z then Value (p.1 ∷ after ps) else Stuck), c)
      rest true = refl
      rest false = refl

      by : eval_all_with S call (to_trees (before ps)) c ≡ (values_or_stuck (after ps), c) → (b : Bool) → on_value ((if b then Value p.1 else Stuck), c) (λ v d. on_value (eval_all_with S call (to_trees (before ps)) d) (λ vs. ends (Value (v ∷ vs)))) ≡ ((if b && list_all is_value (after ps) then Value (p.1 ∷ after ps) else Stuck), c)
      by e true = ap (λ (r : Ended (List Tree)). on_value r (λ vs. ends (Value (p.1 ∷ vs)))) e ∙ rest (list_all is_value (after ps))
      by e false = refl

  -- an operator that has its value from those of all its arguments
  strict : (o : OpName) (ps : Settled) (u : Tree) (c : Begun) → may_type_use (OpCode.Builtin o) ≡ true → Each ps c → is_tall u ≡ false
      → (if list_all is_value (after ps) then typed_answer (tree_op_value o (after ps)) else Untyped) ≡ Typed u
      → on_value (eval_all_with S call (to_trees (before ps)) c) (λ vs. on_outcome (operator_value S o vs) node) ≡ (value_or_stuck u, c)
  strict o ps u c m h l e = ap (λ (r : Ended (List Tree)). on_value r (λ vs. on_outcome (operator_value S o vs) node)) (all_given ps c h) ∙ by (list_all is_value (after ps)) e
    where
      by : (b : Bool) → (if b then typed_answer (tree_op_value o (after ps)) else Untyped) ≡ Typed u → on_value ((if b then Value (after ps) else Stuck), c) (λ vs. on_outcome (operator_value S o vs) node) ≡ (value_or_stuck u, c)
      by true q = ap (λ (x : Outcome Tree). on_outcome x node c) (alike S o (after ps) m) ∙ answered (tree_op_value o (after ps)) u c q (tree_op_values o (after ps) u q) l
      by false q = clash (ap is_typed q)

  abbrev choose : Tree → Tree → Tree → Eval Tree
  choose x y v = chosen v (E x) (E y) (ends Stuck)

  choice : (t x y a b d u : Tree) (c : Begun) → E t c ≡ (value_or_stuck a, c) → E x c ≡ (value_or_stuck b, c) → E y c ≡ (value_or_stuck d, c)
      → chosen a (typed_if (is_value b) b) (typed_if (is_value d) d) Untyped ≡ Typed u
      → on_value (E t c) (choose x y) ≡ (value_or_stuck u, c)
  choice t x y a b d u c f g k e = ap (λ (r : Ended Tree). on_value r (choose x y)) f ∙ by (tree_eq a (truth true)) (tree_eq a (truth false)) refl refl e
    where
      same : (z : Bool) (v : Tree) → typed_if z v ≡ Typed u → ◌≡◌ {A = Ended Tree} (value_or_stuck v, c) (value_or_stuck u, c)
      same z v q = ap (λ (w : Tree). (value_or_stuck w, c)) (typed_if_gives z v u q).1

      by : (p q : Bool) → tree_eq a (truth true) ≡ p → tree_eq a (truth false) ≡ q → (if p then typed_if (is_value b) b else (if q then typed_if (is_value d) d else Untyped)) ≡ Typed u → on_value (value_or_stuck a, c) (choose x y) ≡ (value_or_stuck u, c)
      by true q i j r = ap (λ (v : Tree). on_value (value_or_stuck v, c) (choose x y)) (tree_same a (truth true) i) ∙ (g ∙ same (is_value b) b r)
      by false true i j r = ap (λ (v : Tree). on_value (value_or_stuck v, c) (choose x y)) (tree_same a (truth false) j) ∙ (k ∙ same (is_value d) d r)
      by false false i j r = clash (ap is_typed r)

  requirement : (x y t a b d u : Tree) (c : Begun) → E x c ≡ (value_or_stuck a, c) → E y c ≡ (value_or_stuck b, c) → E t c ≡ (value_or_stuck d, c)
      → typed_if (is_value a && (tree_eq a b && is_value d)) d ≡ Typed u
      → on_value (maybe (E x c)) (λ p z. on_value (maybe (E y z)) (λ q. if are_equal p q then E t else ends Stuck)) ≡ (value_or_stuck u, c)
  requirement x y t a b d u c f g k e =
      ap (λ (r : Ended Tree). on_value (maybe r) (λ p z. on_value (maybe (E y z)) (λ q. if are_equal p q then E t else ends Stuck))) f
      ∙ (ap (λ (r : Ended (Option Tree)). on_value r (λ p z. on_value (maybe (E y z)) (λ q. if are_equal p q then E t else ends Stuck))) (maybe_given a c)
      ∙ (ap (λ (r : Ended Tree). on_value (maybe r) (λ q. if are_equal (given a) q then E t else ends Stuck)) g
      ∙ (ap (λ (r : Ended (Option Tree)). on_value r (λ q. if are_equal (given a) q then E t else ends Stuck)) (maybe_given b c)
      ∙ (ap (λ (z : Bool). (if z then E t else ends Stuck) c) (given_equal a b ∙ join tests.0 (both tests.1).0)
      ∙ (k ∙ ap (λ (w : Tree). (value_or_stuck w, c)) gives.1)))))
    where
      gives : ((is_value a && (tree_eq a b && is_value d)) ≡ true) × (d ≡ u)
      gives = typed_if_gives (is_value a && (tree_eq a b && is_value d)) d u e

      tests : (is_value a ≡ true) × ((tree_eq a b && is_value d) ≡ true)
      tests = both gives.0

  comparison : (x y a b u : Tree) (c : Begun) → E x c ≡ (value_or_stuck a, c) → E y c ≡ (value_or_stuck b, c)
      → Typed (truth (is_value a && tree_eq a b)) ≡ Typed u
      → on_value (maybe (E x c)) (λ p z. on_value (maybe (E y z)) (λ q. ends (Value (truth (are_equal p q))))) ≡ (value_or_stuck u, c)
  comparison x y a b u c f g e =
      ap (λ (r : Ended Tree). on_value (maybe r) (λ p z. on_value (maybe (E y z)) (λ q. ends (Value (truth (are_equal p q)))))) f
      ∙ (ap (λ (r : Ended (Option Tree)). on_value r (λ p z. on_value (maybe (E y z)) (λ q. ends (Value (truth (are_equal p q)))))) (maybe_given a c)
      ∙ (ap (λ (r : Ended Tree). on_value (maybe r) (λ q. ends (Value (truth (are_equal (given a) q))))) g
      ∙ (ap (λ (r : Ended (Option Tree)). on_value r (λ q. ends (Value (truth (are_equal (given a) q))))) (maybe_given b c)
      ∙ (ap (λ (z : Bool). (Value (truth z), c)) (given_equal a b)
      ∙ (ap (λ (r : Outcome Tree). (r, c)) (sym (truth_valued (is_value a && tree_eq a b)))
      ∙ ap (λ (w : Tree). (value_or_stuck w, c)) (typed_inj e))))))

  operators : (o : OpName) (ps : Settled) (u : Tree) (c : Begun) → may_type_use (OpCode.Builtin o) ≡ true → Each ps c → is_tall u ≡ false → op_in_type (OpCode.Builtin o) (after ps) ≡ Typed u
      → E (Op (OpCode.Builtin o) (to_trees (before ps))) c ≡ (value_or_stuck u, c)
  operators OpName.Ite (p ∷ q ∷ r ∷ []) u c m h l e = choice p.0 q.0 r.0 p.1 q.1 r.1 u c h.0 h.1.0 h.1.1.0 e
  operators OpName.Requires (p ∷ q ∷ r ∷ []) u c m h l e = requirement p.0 q.0 r.0 p.1 q.1 r.1 u c h.0 h.1.0 h.1.1.0 e
  operators OpName.IsEq (p ∷ q ∷ []) u c m h l e = comparison p.0 q.0 p.1 q.1 u c h.0 h.1.0 e
  operators OpName.IsOk ps u c m h l e = clash m
  operators o ps u c m h l e = strict o ps u c m h l e

  same_leaf : (t u : Tree) (c : Begun) → Typed t ≡ Typed u → ◌≡◌ {A = Ended Tree} (value_or_stuck t, c) (value_or_stuck u, c)
  same_leaf t u c e = ap (λ (w : Tree). (value_or_stuck w, c)) (typed_inj e)

  mutual
    tree_settled : (t u : Tree) (c : Begun) → may_be_type t ≡ true → height t ≤ height_limit → settle t ≡ Typed u → is_closed u ≡ true → eval_with S call t c ≡ (value_or_stuck u, c)
    tree_settled (Con k) u c m l e h = same_leaf (Con k) u c e
    tree_settled (Num z) u c m l e h = same_leaf (Num z) u c e
    tree_settled (Bits w v) u c m l e h = same_leaf (Bits w v) u c e
    tree_settled (Str s) u c m l e h = same_leaf (Str s) u c e
    tree_settled (Par i) u c m l e h = same_leaf (Par i) u c e
    tree_settled (Var s t) u c m l e h =
        let r = typed_before (settle t) (λ v. Typed (Var s v)) u e in
        let same = typed_inj r.2 in
        let k : is_closed (Var s r.0) ≡ true = ap is_closed same ∙ h in
        let tall : is_tall (Var s r.0) ≡ false = ap is_tall same ∙ settle_low (Var s t) u e (low_height (Var s t) l) in
        ap (λ (x : Ended Tree). on_value x (λ v. node (Var s v))) (tree_settled t r.0 c m (omega (arith, l)) r.1 k)
        ∙ (then_value r.0 (λ v. node (Var s v)) (value_or_stuck (Var s r.0)) c (λ p. node_value (Var s r.0) c p tall) (λ p. stuck (Var s r.0) p)
        ∙ same_leaf (Var s r.0) u c r.2)
    tree_settled (App f x) u c m l e h =
        let r = typed_before (settle f) (λ g. on_typed (settle x) (λ y. Typed (App g y))) u e in
        let q = typed_before (settle x) (λ y. Typed (App r.0 y)) u r.2 in
        let w = App r.0 q.0 in
        let k : (is_closed r.0 && is_closed q.0) ≡ true = ap is_closed (typed_inj q.2) ∙ h in
        let tall : is_tall w ≡ false = ap is_tall (typed_inj q.2) ∙ settle_low (App f x) u e (low_height (App f x) l) in
        ap (λ (z : Ended Tree). on_value z (λ g b. on_value (E x b) (λ y. node (App g y)))) (tree_settled f r.0 c (both m).0 (omega (arith, l)) r.1 (both k).0)
        ∙ (then_value r.0 (λ g b. on_value (E x b) (λ y. node (App g y))) (value_or_stuck w) c
        (λ i. ap (λ (z : Ended Tree). on_value z (λ y. node (App r.0 y))) (tree_settled x q.0 c (both m).1 (omega (arith, l)) q.1 (both k).1)
        ∙ then_value q.0 (λ y. node (App r.0 y)) (value_or_stuck w) c (λ j. node_value w c (join i j) tall) (λ j. stuck w (and_second (is_value r.0) (is_value q.0) j)))
        (λ i. stuck w (and_first (is_value r.0) (is_value q.0) i))
        ∙ same_leaf w u c q.2)
    tree_settled (Arr f x) u c m l e h =
        let r = typed_before (settle f) (λ g. on_typed (settle x) (λ y. Typed (Arr g y))) u e in
        let q = typed_before (settle x) (λ y. Typed (Arr r.0 y)) u r.2 in
        let w = Arr r.0 q.0 in
        let k : (is_closed r.0 && is_closed q.0) ≡ true = ap is_closed (typed_inj q.2) ∙ h in
        let tall : is_tall w ≡ false = ap is_tall (typed_inj q.2) ∙ settle_low (Arr f x) u e (low_height (Arr f x) l) in
        ap (λ (z : Ended Tree). on_value z (λ g b. on_value (E x b) (λ y. node (Arr g y)))) (tree_settled f r.0 c (both m).0 (omega (arith, l)) r.1 (both k).0)
        ∙ (then_value r.0 (λ g b. on_value (E x b) (λ y. node (Arr g y))) (value_or_stuck w) c
        (λ i. ap (λ (z : Ended Tree). on_value z (λ y. node (Arr r.0 y))) (tree_settled x q.0 c (both m).1 (omega (arith, l)) q.1 (both k).1)
        ∙ then_value q.0 (λ y. node (Arr r.0 y)) (value_or_stuck w) c (λ j. node_value w c (join i j) tall) (λ j. stuck w (and_second (is_value r.0) (is_value q.0) j)))
        (λ i. stuck w (and_first (is_value r.0) (is_value q.0) i))
        ∙ same_leaf w u c q.2)
    tree_settled (Qar i t b) u c m l e h =
        let r = typed_before (settle t) (λ v. on_typed (settle b) (λ w. Typed (Qar i v w))) u e in
        let q = typed_before (settle b) (λ w. Typed (Qar i r.0 w)) u r.2 in
        same_leaf (Qar i r.0 q.0) u c q.2
    tree_settled (Op (OpCode.Prog p) ts) u c m l e h = clash m
    tree_settled (Op (OpCode.Builtin o) ts) u c m l e h =
        let r = typed_before (settle_all ts) (settled_op (OpCode.Builtin o)) u e in
        let k = closed_arguments (OpCode.Builtin o) r.0 u r.2 h in
        let ps = trees_settled ts r.0 c (both m).1 (omega (arith, l)) r.1 k.0 in
        ap (λ (xs : Trees). E (Op (OpCode.Builtin o) xs) c) (sym ps.1.0)
        ∙ operators o ps.0 u c (both m).0 ps.1.1.1 (settle_low (Op (OpCode.Builtin o) ts) u e (low_height (Op (OpCode.Builtin o) ts) l)) (subst (λ (us : List Tree). op_in_type (OpCode.Builtin o) us ≡ Typed u) (sym ps.1.1.0) k.1)

    trees_settled : (ts : Trees) (us : List Tree) (c : Begun) → all_may_be_type ts ≡ true → height_all ts ≤ height_limit → settle_all ts ≡ Typed us → list_all is_closed us ≡ true
        → (ps : Settled) × ((to_trees (before ps) ≡ ts) × ((after ps ≡ us) × Each ps c))
    trees_settled NoTree us c m l e h = ([], (refl, (typed_inj e, tt)))
    trees_settled (More t ts) us c m l e h =
        let r = settled_first t ts us e in
        let k : (is_closed r.0 && list_all is_closed r.1.0) ≡ true = ap (list_all is_closed) r.1.1.1.1 ∙ h in
        let head = tree_settled t r.0 c (both m).0 (omega (arith, l)) r.1.1.0 (both k).0 in
        let ps = trees_settled ts r.1.0 c (both m).1 (omega (arith, l)) r.1.1.1.0 (both k).1 in
        ((t, r.0) ∷ ps.0, (ap (More t) ps.1.0, (ap (λ (vs : List Tree). r.0 ∷ vs) ps.1.1.0 ∙ r.1.1.1.1, (head, ps.1.1.1))))

limited : (t : Tree) → is_tall t ≡ false → height t ≤ height_limit
limited t h = grind arith

pub settles_as_evaluated : (S : Signature) → SettlesAsEvaluated S
settles_as_evaluated S t u m l e h = ap (λ (r : Ended Tree). r.0) (tree_settled S (call_within S calls_limit open_calls_limit) t u [] m (limited t l) e h)
