-- The rules of evaluation by what is listed agree with evaluation, where those that are listed do.
use Rattle.std.specs.Prelude.{◌≡◌, ℕ, ◌≤◌, Bool, true, false, if◌then◌else◌, List, [], ◌∷◌, Option, Some, None, is_some, option_map, option_and_then, refl}
use Rattle.std.proofs.Common.{subst, arith}
use Rattle.std.proofs.lemmas.Option.{none-some, same_Some}
use Rattle.eo_term.specs.declared.OpName.{OpName}
use Rattle.eo_term.specs.declared.OpCode.{OpCode}
use Rattle.eo_term.specs.Tree.{Tree, Con, Num, Bits, Str, Par, Var, App, Arr, Qar, Op, Trees, NoTree, More, truth, height, height_all, is_tall, is_value, tree_eq}
use Rattle.eo_term.proofs.Equality.{tree_decides}
use Rattle.eo_sig.specs.Signature.{Signature}
use Rattle.eo_type.specs.Types.{chosen}
use Rattle.eo_stack.specs.Evaluation.{Outcome, Value, Stuck, Deep, Calls, Range, Tall, Call, Eval, ends, on_outcome, on_value, value_or_none, or_none, node, are_equal, operator_value, eval_all_with, call_within, eval}
use Rattle.eo_cert.specs.Traces.{of_option}
use Rattle.eo_eval.proofs.Itself.{lower, value_itself}
use Rattle.eo_cert.specs.Stated.{Evaluated}
use Rattle.eo_cert.specs.Rules.{By, gives, is_stuck, no_rule, next, part, parts, rule}
use Rattle.eo_cert.specs.Rules as by_lines
use Rattle.eo_cert.proofs.Runs.{Runs, runs_ends, runs_then, runs_stuck, runs_or_none}

-- a value, or stuck where there is none
or_none_of : {A : Type 0} (o : Option A) → value_or_none (of_option o) ≡ Value o
or_none_of (Some v) = refl
or_none_of None = refl

module _ (S : Signature) (most : ℕ) (all : List Call) (k : ℕ) where
  abbrev pub evals : Tree → Eval Tree
  evals t = eval S most k t

  -- each that is listed is an evaluation, where so many calls may be open
  abbrev pub AllEnd : List Evaluated → Type 0
  AllEnd [] = Unit {0}
  AllEnd (e ∷ es) = Runs all (evals e.term) (of_option e.outcome) × AllEnd es

  -- the rule agrees with the evaluation
  abbrev pub Mirrors : {A : Type 0} → By A → Eval A → Type 0
  Mirrors {A} b m =
      (listed rest : List Evaluated) (o : Option A) → AllEnd listed → b listed ≡ Some (o, rest) → Runs all m (of_option o) × AllEnd rest

  -- what holds of the outcome and of the rest, by an equation of pairs
  given_pair : {A : Type 0} (m : Eval A) (o u : Option A) (listed rest : List Evaluated) → ◌≡◌ {A = Option (Option A × List Evaluated)} (Some (u, listed)) (Some (o, rest)) → Runs all m (of_option u) → AllEnd listed → Runs all m (of_option o) × AllEnd rest
  given_pair m o u listed rest e runs own =
      subst (λ q. Runs all m (of_option q.0) × AllEnd q.1) (same_Some (u, listed) (o, rest) e) (runs, own)

  pub mirrors_gives : {A : Type 0} (v : A) → Mirrors (gives v) (ends (Value v))
  mirrors_gives v listed rest o own e = given_pair (ends (Value v)) o (Some v) listed rest e (runs_ends all (Value v)) own

  pub mirrors_stuck : {A : Type 0} → Mirrors {A = A} is_stuck (ends Stuck)
  mirrors_stuck listed rest o own e = given_pair (ends Stuck) o None listed rest e (runs_ends all Stuck) own

  pub mirrors_none : {A : Type 0} (m : Eval A) → Mirrors no_rule m
  mirrors_none m listed rest o own e = absurd (none-some (o, rest) e)

  pub mirrors_then : {A B : Type 0} (b : By A) (f : A → By B) (m : Eval A) (g : A → Eval B) → Mirrors b m → ((v : A) → Mirrors (f v) (g v)) → Mirrors (λ listed. option_and_then (by_lines.on_value f) (b listed)) (λ c. on_value (m c) g)
  mirrors_then {A} {B} b f m g first next listed rest o own e = by (b listed) refl e
    where
      by : (r : Option (Option A × List Evaluated)) → b listed ≡ r → option_and_then (by_lines.on_value f) r ≡ Some (o, rest) → Runs all (λ c. on_value (m c) g) (of_option o) × AllEnd rest
      by None p q = absurd (none-some (o, rest) q)
      by (Some (Some v, left)) p q =
          let one = first listed left (Some v) own p in
          let two = next v left rest o one.1 q in
          (runs_then all m g v (of_option o) one.0 two.0, two.1)
      by (Some (None, left)) p q =
          let one = first listed left None own p in
          given_pair (λ c. on_value (m c) g) o None left rest q (runs_stuck all m g one.0) one.1

  pub mirrors_or_none : {A : Type 0} (b : By A) (m : Eval A) → Mirrors b m → Mirrors (by_lines.or_none b) (or_none m)
  mirrors_or_none {A} b m first listed rest o own e = by (b listed) refl e
    where
      by : (r : Option (Option A × List Evaluated)) → b listed ≡ r → option_map {U = Option (Option A) × List Evaluated} (λ r. (Some r.0, r.1)) r ≡ Some (o, rest) → Runs all (or_none m) (of_option o) × AllEnd rest
      by None p q = absurd (none-some (o, rest) q)
      by (Some (u, left)) p q =
          let one = first listed left u own p in
          given_pair (or_none m) o (Some u) left rest q (subst (Runs all (or_none m)) (or_none_of u) (runs_or_none all m (of_option u) one.0)) one.1

  pub mirrors_if : {A : Type 0} (t : Bool) (x y : By A) (m n : Eval A) → Mirrors x m → Mirrors y n → Mirrors (if t then x else y) (if t then m else n)
  mirrors_if true x y m n f g = f
  mirrors_if false x y m n f g = g

  pub mirrors_node : (t : Tree) → Mirrors (by_lines.node t) (node t)
  mirrors_node t = mirrors_tall (is_tall t)
    where
      mirrors_tall : (b : Bool) → Mirrors (if b then no_rule else gives t) (if b then ends Tall else ends (Value t))
      mirrors_tall true = mirrors_none (ends Tall)
      mirrors_tall false = mirrors_gives t

  pub mirrors_outcome : (o : Outcome Tree) → Mirrors (by_lines.outcome o) (on_outcome o node)
  mirrors_outcome (Value t) = mirrors_node t
  mirrors_outcome Stuck = mirrors_stuck
  mirrors_outcome Deep = mirrors_none (ends Deep)
  mirrors_outcome Calls = mirrors_none (ends Calls)
  mirrors_outcome Range = mirrors_none (ends Range)
  mirrors_outcome Tall = mirrors_none (ends Tall)

  pub mirrors_part : (t : Tree) → is_tall t ≡ false → Mirrors (part t) (evals t)
  mirrors_part t low listed rest o own e = by (is_value t) refl e
    where
      listed_one : (listed : List Evaluated) → AllEnd listed → next t listed ≡ Some (o, rest) → Runs all (evals t) (of_option o) × AllEnd rest
      listed_one [] own q = absurd (none-some (o, rest) q)
      listed_one (x ∷ xs) own q = by_test (tree_eq x.term t) refl q
        where
          taken : Bool → Option (Option Tree × List Evaluated)
          taken b = if b then Some (x.outcome, xs) else None

          by_test : (b : Bool) → tree_eq x.term t ≡ b → taken b ≡ Some (o, rest) → Runs all (evals t) (of_option o) × AllEnd rest
          by_test true p r =
              given_pair (evals t) o x.outcome xs rest r (subst (λ (u : Tree). Runs all (evals u) (of_option x.outcome)) ((tree_decides x.term t).0 p) own.0) own.1
          by_test false p r = absurd (none-some (o, rest) r)

      by : (b : Bool) → is_value t ≡ b → (if b then gives t else next t) listed ≡ Some (o, rest) → Runs all (evals t) (of_option o) × AllEnd rest
      by true p q =
          given_pair (evals t) o (Some t) listed rest q (λ c room. (c, value_itself S (call_within S most k) t c p low, room)) own
      by false p q = listed_one listed own q

  pub mirrors_parts : (ts : Trees) → ((t : Tree) → height t ≤ height_all ts → is_tall t ≡ false) → Mirrors (parts ts) (eval_all_with S (call_within S most k) ts)
  mirrors_parts NoTree low = mirrors_gives []
  mirrors_parts (More t ts) low =
      mirrors_then (part t) _ (evals t) _ (mirrors_part t (low t (omega arith)))
      (λ v. mirrors_then (parts ts) _ (eval_all_with S (call_within S most k) ts) _ (mirrors_parts ts (λ u h. low u (omega (arith, h)))) (λ vs. mirrors_gives (v ∷ vs)))

  low_args : (code : OpCode) (ts : Trees) → is_tall (Op code ts) ≡ false → (t : Tree) → height t ≤ height_all ts → is_tall t ≡ false
  low_args code ts low t h = lower t (Op code ts) (omega (arith, h)) low

  mirrors_chosen : (v : Tree) (x y : Tree) → is_tall x ≡ false → is_tall y ≡ false → Mirrors (chosen v (part x) (part y) is_stuck) (chosen v (evals x) (evals y) (ends Stuck))
  mirrors_chosen v x y low_x low_y =
      mirrors_if (tree_eq v (truth true)) _ _ _ _ (mirrors_part x low_x) (mirrors_if (tree_eq v (truth false)) _ _ _ _ (mirrors_part y low_y) mirrors_stuck)

  mirrors_strict : (o : OpName) (ts : Trees) → is_tall (Op (OpCode.Builtin o) ts) ≡ false → Mirrors (λ listed. option_and_then (by_lines.on_value (λ vs. by_lines.outcome (operator_value S o vs))) (parts ts listed)) (λ c. on_value (eval_all_with S (call_within S most k) ts c) (λ vs. on_outcome (operator_value S o vs) node))
  mirrors_strict o ts low =
      mirrors_then (parts ts) _ (eval_all_with S (call_within S most k) ts) _ (mirrors_parts ts (low_args (OpCode.Builtin o) ts low)) (λ vs. mirrors_outcome (operator_value S o vs))

  -- a rule that begins no call agrees with evaluation
  pub rule_mirrors : (t : Tree) → is_tall t ≡ false → Mirrors (rule S t) (evals t)
  rule_mirrors (Con n) low = mirrors_gives (Con n)
  rule_mirrors (Num z) low = mirrors_gives (Num z)
  rule_mirrors (Bits w v) low = mirrors_gives (Bits w v)
  rule_mirrors (Str s) low = mirrors_gives (Str s)
  rule_mirrors (Par i) low = mirrors_stuck
  rule_mirrors (Var s t) low = mirrors_then (part t) _ (evals t) _ (mirrors_part t (lower t (Var s t) (omega arith) low)) (λ u. mirrors_node (Var s u))
  rule_mirrors (App f x) low =
      mirrors_then (part f) _ (evals f) _ (mirrors_part f (lower f (App f x) (omega arith) low))
      (λ g. mirrors_then (part x) _ (evals x) _ (mirrors_part x (lower x (App f x) (omega arith) low)) (λ y. mirrors_node (App g y)))
  rule_mirrors (Arr f x) low =
      mirrors_then (part f) _ (evals f) _ (mirrors_part f (lower f (Arr f x) (omega arith) low))
      (λ g. mirrors_then (part x) _ (evals x) _ (mirrors_part x (lower x (Arr f x) (omega arith) low)) (λ y. mirrors_node (Arr g y)))
  rule_mirrors (Qar i t b) low = mirrors_stuck
  rule_mirrors (Op (OpCode.Builtin OpName.Ite) (More t (More x (More y NoTree)))) low =
      let l = low_args (OpCode.Builtin OpName.Ite) (More t (More x (More y NoTree))) low in
      mirrors_then (part t) _ (evals t) _ (mirrors_part t (l t (omega arith))) (λ v. mirrors_chosen v x y (l x (omega arith)) (l y (omega arith)))
  rule_mirrors (Op (OpCode.Builtin OpName.Requires) (More x (More y (More t NoTree)))) low =
      let l = low_args (OpCode.Builtin OpName.Requires) (More x (More y (More t NoTree))) low in
      mirrors_then (by_lines.or_none (part x)) _ (or_none (evals x)) _ (mirrors_or_none (part x) (evals x) (mirrors_part x (l x (omega arith))))
      (λ u. mirrors_then (by_lines.or_none (part y)) _ (or_none (evals y)) _ (mirrors_or_none (part y) (evals y) (mirrors_part y (l y (omega arith))))
      (λ v. mirrors_if (are_equal u v) _ _ _ _ (mirrors_part t (l t (omega arith))) mirrors_stuck))
  rule_mirrors (Op (OpCode.Builtin OpName.IsEq) (More x (More y NoTree))) low =
      let l = low_args (OpCode.Builtin OpName.IsEq) (More x (More y NoTree)) low in
      mirrors_then (by_lines.or_none (part x)) _ (or_none (evals x)) _ (mirrors_or_none (part x) (evals x) (mirrors_part x (l x (omega arith))))
      (λ u. mirrors_then (by_lines.or_none (part y)) _ (or_none (evals y)) _ (mirrors_or_none (part y) (evals y) (mirrors_part y (l y (omega arith))))
      (λ v. mirrors_gives (truth (are_equal u v))))
  rule_mirrors (Op (OpCode.Builtin OpName.IsOk) (More x NoTree)) low =
      let l = low_args (OpCode.Builtin OpName.IsOk) (More x NoTree) low in
      mirrors_then (by_lines.or_none (part x)) _ (or_none (evals x)) _ (mirrors_or_none (part x) (evals x) (mirrors_part x (l x (omega arith)))) (λ u. mirrors_gives (truth (is_some u)))
  rule_mirrors (Op (OpCode.Builtin o) ts) low = mirrors_strict o ts low
  rule_mirrors (Op (OpCode.Prog p) ts) low =
      mirrors_then (parts ts) _ (eval_all_with S (call_within S most k) ts) _ (mirrors_parts ts (low_args (OpCode.Prog p) ts low)) (λ vs. mirrors_none (call_within S most k (record { program = p; arguments = vs })))
