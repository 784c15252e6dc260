-- The tree that is evaluated for a term: its kind and its parts are those of the term, with the values of parameters substituted.
use Rattle.std.specs.Prelude.{◌≡◌, ℕ, zero, suc, ◌<◌, All, true, false, List, [], ◌∷◌, drop, slice_get, Option, Some, None, option_map, option_and_then, IfSome, refl}
use Rattle.std.specs.Option.{option_or, option_flatten}
use Rattle.std.proofs.lemmas.List.Elements.{All-head, All-tail, All-drop}
use Rattle.std.proofs.Common.{sym, ◌∙◌, ap, subst, arith}
use Rattle.eo_base.proofs.Tests.{both, clash}
use Rattle.eo_term.specs.Arguments.{arguments_of, argument_at, count_of}
use Rattle.eo_term.specs.declared.OpCode.{OpCode}
use Rattle.eo_term.specs.declared.OpName.{OpName}
use Rattle.eo_term.specs.Terms.{AreLow, tree_at}
use Rattle.eo_term.specs.Tree.{Tree, Con, Num, Bits, Str, Par, Var, App, Arr, Qar, Op, Trees, is_value, is_closed, is_tall}
use Rattle.eo_sig.specs.Signature.{Signature, Case, Program, program_at}
use Rattle.eo_pattern.specs.Matching.{Assignment, empty, value_or_par, put, put_all, matching}
use Rattle.eo_pattern.proofs.Steps.{put_closed, put_nothing, count_put, argument_put}
use Rattle.eo_stack.specs.Bodies.{first_case, chosen_case, assigned, assignment_of}
use Rattle.eo_stack.specs.Evaluation.{Begun, Call, first_match, body_of}
use Rattle.eo_stack.specs.Machine.{parts_of, is_call, made_of}
use Rattle.eo_stack.specs.Reading.{is_par, other, local_tree, IsWhole}
use Rattle.eo_stack.specs.Scopes.{Bound, none_bound, slot_at, standing, entered, assignment_here, IsValueSlot, IsScope}
use Rattle.eo_eval.proofs.Steps.{whole_var, whole_app, whole_arr, whole_call, whole_op, is_strict}

module _ (σ : Assignment) where
  pub parts_put : (t : Tree) → is_par t ≡ false → parts_of (put σ t) ≡ put_all σ (parts_of t)
  parts_put (Par i) h = absurd (cc h)
  parts_put t h = refl

  pub arguments_put : (t : Tree) → is_par t ≡ false → arguments_of (put σ t) ≡ put_all σ (arguments_of t)
  arguments_put (Par i) h = absurd (cc h)
  arguments_put t h = refl

  pub call_put : (t : Tree) → is_par t ≡ false → is_call (put σ t) ≡ is_call t
  call_put (Par i) h = absurd (cc h)
  call_put (Op (OpCode.Prog p) ts) h = refl
  call_put (Op (OpCode.Builtin o) ts) h = refl
  call_put t h = refl

  pub made_put : (S : Signature) (t : Tree) (vs : List Tree) → is_par t ≡ false → made_of S (put σ t) vs ≡ made_of S t vs
  made_put S (Par i) vs h = absurd (cc h)
  made_put S (Var s t) [] h = refl
  made_put S (Var s t) (u ∷ []) h = refl
  made_put S (Var s t) (u ∷ v ∷ vs) h = refl
  made_put S (App f x) [] h = refl
  made_put S (App f x) (g ∷ []) h = refl
  made_put S (App f x) (g ∷ y ∷ []) h = refl
  made_put S (App f x) (g ∷ y ∷ v ∷ vs) h = refl
  made_put S (Arr a b) [] h = refl
  made_put S (Arr a b) (g ∷ []) h = refl
  made_put S (Arr a b) (g ∷ y ∷ []) h = refl
  made_put S (Arr a b) (g ∷ y ∷ v ∷ vs) h = refl
  made_put S (Op (OpCode.Builtin o) ts) vs h = refl
  made_put S (Op (OpCode.Prog p) ts) vs h = refl
  made_put S t vs h = refl

  -- Terms that have their values from those of their parts.

  pub whole_put_var : (s : List ℕ) (t u : Tree) → Var s t ≡ u → IsWhole (put σ u)
  whole_put_var s t u is = subst (λ x. IsWhole (put σ x)) is (λ S call b. whole_var S call s (put σ t) b)

  pub whole_put_app : (f x u : Tree) → App f x ≡ u → IsWhole (put σ u)
  whole_put_app f x u is = subst (λ y. IsWhole (put σ y)) is (λ S call b. whole_app S call (put σ f) (put σ x) b)

  pub whole_put_arr : (a d u : Tree) → Arr a d ≡ u → IsWhole (put σ u)
  whole_put_arr a d u is = subst (λ y. IsWhole (put σ y)) is (λ S call b. whole_arr S call (put σ a) (put σ d) b)

  pub whole_put_call : (p : ℕ) (ts : Trees) (u : Tree) → Op (OpCode.Prog p) ts ≡ u → IsWhole (put σ u)
  whole_put_call p ts u is = subst (λ y. IsWhole (put σ y)) is (λ S call b. whole_call S call p (put_all σ ts) b)

  pub whole_put_op : (o : OpName) (ts : Trees) (u : Tree) → is_strict o ≡ true → Op (OpCode.Builtin o) ts ≡ u → IsWhole (put σ u)
  whole_put_op o ts u strict is = subst (λ y. IsWhole (put σ y)) is (λ S call b. whole_op S call o (put_all σ ts) b strict)

-- a term with arguments or parts is no parameter

pub part_kind : (t : Tree) (n : ℕ) → n < count_of (parts_of t) → is_par t ≡ false
part_kind (Par i) n h = absurd (omega arith)
part_kind t n h = refl

pub argument_kind : (t : Tree) (n : ℕ) → n < count_of (arguments_of t) → is_par t ≡ false
argument_kind (Par i) n h = absurd (omega arith)
argument_kind t n h = refl

pub op_kind : (c : OpCode) (ts : Trees) (t : Tree) → Op c ts ≡ t → is_par t ≡ false
op_kind c ts t is = ap is_par (sym is)

module _ (ts : List Tree) (s : Bound) where
  -- as many parts, each with the same put in
  pub entered_count : (i : ℕ) → is_par (tree_at ts i) ≡ false → count_of (parts_of (entered ts s i)) ≡ count_of (parts_of (tree_at ts i))
  entered_count i h = ap count_of (parts_put (standing ts s) (tree_at ts i) h) ∙ count_put (standing ts s) (parts_of (tree_at ts i))

  pub entered_part : (i n : ℕ) → n < count_of (parts_of (tree_at ts i)) → argument_at (parts_of (entered ts s i)) n ≡ put (standing ts s) (argument_at (parts_of (tree_at ts i)) n)
  entered_part i n h =
      ap (λ us. argument_at us n) (parts_put (standing ts s) (tree_at ts i) (part_kind (tree_at ts i) n h)) ∙ argument_put (standing ts s) (parts_of (tree_at ts i)) n h

  pub entered_other : (i n : ℕ) → n < count_of (arguments_of (tree_at ts i)) → other ts s i n ≡ put (standing ts s) (argument_at (arguments_of (tree_at ts i)) n)
  entered_other i n h =
      ap (λ us. argument_at us n) (arguments_put (standing ts s) (tree_at ts i) (argument_kind (tree_at ts i) n h)) ∙ argument_put (standing ts s) (arguments_of (tree_at ts i)) n h

  -- a term that is closed, or evaluated where no parameter has a value, is the tree itself
  pub entered_closed : (i : ℕ) → is_closed (tree_at ts i) ≡ true → entered ts s i ≡ tree_at ts i
  entered_closed i h = put_closed (standing ts s) (tree_at ts i) h

  module _ (S : Signature) (b : Begun) (h : IsScope S ts b s) where
    pub entered_outside : (i : ℕ) → s.here ≡ 0 → entered ts s i ≡ tree_at ts i
    entered_outside i none = ap (λ σ. put σ (tree_at ts i)) (h.agrees ∙ ap (assignment_here S b) none) ∙ put_nothing (tree_at ts i)

    pub entered_local : (i : ℕ) → entered ts s i ≡ local_tree S ts b (record { here = s.here; id = i })
    entered_local i = ap (λ σ. put σ (tree_at ts i)) h.agrees

-- A value is evaluated as it is, and a parameter to its value.

pub value_put : (σ : Assignment) (t : Tree) → is_value t ≡ true → put σ t ≡ t
value_put σ (Con k) h = refl
value_put σ (Num z) h = refl
value_put σ (Bits w v) h = refl
value_put σ (Str s) h = refl
value_put σ (Par i) h = clash h
value_put σ (Var s t) h = ap (Var s) (value_put σ t h)
value_put σ (App f x) h = let g = value_put σ f (both h).0 in let y = value_put σ x (both h).1 in λ j. App (g j) (y j)
value_put σ (Arr f x) h = let g = value_put σ f (both h).0 in let y = value_put σ x (both h).1 in λ j. Arr (g j) (y j)
value_put σ (Qar i t b) h = clash h
value_put σ (Op c ts) h = clash h

pub entered_value : (ts : List Tree) (scope : Bound) (i : ℕ) → is_value (tree_at ts i) ≡ true → entered ts scope i ≡ tree_at ts i
entered_value ts scope i h = value_put (standing ts scope) (tree_at ts i) h

pub entered_par : (ts : List Tree) (scope : Bound) (i n : ℕ) → Par n ≡ tree_at ts i → entered ts scope i ≡ value_or_par n (option_map (tree_at ts) (slot_at scope n))
entered_par ts scope i n is = ap (put (standing ts scope)) (sym is)

pub entered_slot : (ts : List Tree) (scope : Bound) (i n v : ℕ) → Par n ≡ tree_at ts i → slot_at scope n ≡ Some v → entered ts scope i ≡ tree_at ts v
entered_slot ts scope i n v is h = entered_par ts scope i n is ∙ ap (λ o. value_or_par n (option_map (tree_at ts) o)) h

pub entered_free : (ts : List Tree) (scope : Bound) (i n : ℕ) → Par n ≡ tree_at ts i → slot_at scope n ≡ None → entered ts scope i ≡ Par n
entered_free ts scope i n is h = entered_par ts scope i n is ∙ ap (λ o. value_or_par n (option_map (tree_at ts) o)) h

-- what a parameter is given is a value
value_in : (ts : List Tree) (os : List (Option ℕ)) (n : ℕ) → All (IsValueSlot ts) os → IsValueSlot ts (option_flatten (slice_get os n))
value_in ts [] n h = tt
value_in ts (o ∷ os) zero h = All-head (IsValueSlot ts) o os h
value_in ts (o ∷ os) (suc n) h = value_in ts os n (All-tail (IsValueSlot ts) o os h)

pub slot_value : (ts : List Tree) (scope : Bound) (n v : ℕ) → All (IsValueSlot ts) scope.slots → slot_at scope n ≡ Some v → IsValueSlot ts (Some v)
slot_value ts scope n v h is = subst (IsValueSlot ts) is (value_in ts (drop scope.base scope.slots) n (All-drop (IsValueSlot ts) scope.base scope.slots h))

pub slot_values : (ts : List Tree) (scope : Bound) (n : ℕ) (o : Option ℕ) → All (IsValueSlot ts) scope.slots → o ≡ slot_at scope n → IfSome o (λ v. IsValueSlot ts (Some v))
slot_values ts scope n o h is = each o (subst (IsValueSlot ts) (sym is) (value_in ts (drop scope.base scope.slots) n (All-drop (IsValueSlot ts) scope.base scope.slots h)))
  where
    each : (o : Option ℕ) → IsValueSlot ts o → IfSome o (λ v. IsValueSlot ts (Some v))
    each None h = tt
    each (Some v) h = h

pub slot_low : (ts : List Tree) (o : Option ℕ) → AreLow ts → IfSome o (λ v. IsValueSlot ts (Some v)) → IfSome o (λ v. is_tall (tree_at ts v) ≡ false)
slot_low ts None low h = tt
slot_low ts (Some v) low h = low v h.0

pub entered_none : (ts : List Tree) (i : ℕ) → entered ts none_bound i ≡ tree_at ts i
entered_none ts i = put_nothing (tree_at ts i)

-- The body of a call is that of its case, with its parameters put in.

abbrev made_body : Option (Assignment × Tree) → Option Tree
made_body r = option_map (λ (c : Assignment × Tree). put c.0 c.1) r

first_body : (cs : List Case) (vs : List Tree) → first_match cs vs ≡ made_body (first_case cs vs)
first_body [] vs = refl
first_body (c ∷ cs) vs = by (matching empty c.patterns vs) (first_body cs vs)
  where
    by : (o : Option Assignment) → first_match cs vs ≡ made_body (first_case cs vs) → option_or (option_map (λ σ. put σ c.body) o) (first_match cs vs) ≡ made_body (option_or (option_map (λ (σ : Assignment). (σ, c.body)) o) (first_case cs vs))
    by None e = e
    by (Some σ) e = refl

pub body_chosen : (S : Signature) (x : Call) → body_of S x ≡ made_body (chosen_case S x)
body_chosen S x = by (program_at S x.program)
  where
    by : (o : Option Program) → option_and_then (λ p. first_match p.cases x.arguments) o ≡ made_body (option_and_then (λ (p : Program). first_case p.cases x.arguments) o)
    by None = refl
    by (Some p) = first_body p.cases x.arguments

pub body_none : (S : Signature) (x : Call) → chosen_case S x ≡ None → body_of S x ≡ None
body_none S x h = body_chosen S x ∙ ap made_body h

pub body_some : (S : Signature) (x : Call) (σ : Assignment) (t : Tree) → chosen_case S x ≡ Some (σ, t) → body_of S x ≡ Some (put σ t)
body_some S x σ t h = body_chosen S x ∙ ap made_body h

pub assignment_is : (S : Signature) (x : Call) (σ : Assignment) (t : Tree) → chosen_case S x ≡ Some (σ, t) → assignment_of S x ≡ σ
assignment_is S x σ t h = ap assigned h
