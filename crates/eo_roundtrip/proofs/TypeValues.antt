-- The type of a tree within its ranges is one, in a signature of such trees.
use Rattle.std.specs.Prelude.{◌≡◌, ℕ, Bool, true, false, ◌&&◌, if◌then◌else◌, List, [], ◌∷◌, Option, Some, None, slice_get, option_and_then, refl}
use Rattle.std.specs.List.{list_all, filter_map}
use Rattle.std.proofs.lemmas.Option.{none-some}
use Rattle.eo_base.proofs.Tests.{both, join}
use Rattle.eo_lit.specs.declared.LiteralClass.{LiteralClass}
use Rattle.eo_lit.specs.declared.LiteralClass.TheVariants.{Numeral, Binary, String}
use Rattle.eo_term.specs.declared.OpName.{OpName}
use Rattle.eo_term.specs.declared.OpCode.{OpCode}
use Rattle.eo_term.specs.Tree.{Tree, Con, Num, Bits, Str, Par, Var, App, Arr, Qar, Op, Trees, NoTree, More, type_tree, truth, to_trees, is_tall, is_closed, is_value, tree_eq}
use Rattle.eo_sig.specs.Signature.{Signature, IsConstant, IsProgram, IsRule, IsLiteralType, Attribute, Constant, Program, Case, constants, programs, constant_at, program_at, literal_type, literal_type_of, is_same_class, terminator, terminator_of, Plain, RightNil, LeftNil, Right, Left, Chain, Pairs, Binder}
use Rattle.eo_pattern.specs.Matching.{Assignment, empty, assign, put, matching}
use Rattle.eo_ops.specs.Operators.{OpAnswer, Gives, IsStuck, IsOutOfRange, tree_op_value}
use Rattle.eo_type.specs.Types.{TypeOutcome, Typed, Untyped, TypeRange, TypeTall, on_typed, typed_if, typed_answer, chosen, op_in_type, settled_op, settle, settle_all, if_not_tall, settled, declared, literal_type_at, on_match, application_type, type_of, value_type}
use Rattle.eo_elab.proofs.Uses.{at_place}
use Rattle.eo_roundtrip.proofs.Within.{is_within, all_within, attribute_within, signature_within}
use Rattle.eo_roundtrip.proofs.Ranges.{IsWithin, AreWithin, truth-within, GivesWithin, operators-within}
use Rattle.eo_roundtrip.proofs.Puts.{SomeWithin, some-within, puts-none, puts-one, to-trees-within, put-within, matching-puts}

-- ---- what a signature holds

constants-within : (S : Signature) → signature_within S ≡ true → list_all (λ (d : Constant). is_within d.type && attribute_within d.attribute) (constants S) ≡ true
constants-within [] h = refl
constants-within (IsConstant d n ∷ S) h = join (both h).0 (constants-within S (both h).1)
constants-within (IsProgram p ∷ S) h = constants-within S (both h).1
constants-within (IsRule r ∷ S) h = constants-within S h
constants-within (IsLiteralType l t ∷ S) h = constants-within S (both h).1

programs-within : (S : Signature) → signature_within S ≡ true → list_all (λ (p : Program). list_all (λ (c : Case). is_within c.body) p.cases) (programs S) ≡ true
programs-within [] h = refl
programs-within (IsConstant d n ∷ S) h = programs-within S (both h).1
programs-within (IsProgram p ∷ S) h = join (both h).0 (programs-within S (both h).1)
programs-within (IsRule r ∷ S) h = programs-within S h
programs-within (IsLiteralType l t ∷ S) h = programs-within S (both h).1

first-class : (class : LiteralClass) (S : Signature) → signature_within S ≡ true → SomeWithin (literal_type S class)
first-class class [] h = tt
first-class class (IsConstant d n ∷ S) h = first-class class S (both h).1
first-class class (IsProgram p ∷ S) h = first-class class S (both h).1
first-class class (IsRule r ∷ S) h = first-class class S h
first-class class (IsLiteralType l t ∷ S) h = by_class (is_same_class class l) refl (first-class class S (both h).1)
  where
    by_class : (b : Bool) → is_same_class class l ≡ b → SomeWithin (literal_type S class) → SomeWithin (slice_get (filter_map (literal_type_of class) (IsLiteralType l t ∷ S)) 0)
    by_class true e k = rw e (both h).0
    by_class false e k = rw e k

pub program-within : (S : Signature) → signature_within S ≡ true → (k : ℕ) (p : Program) → program_at S k ≡ Some p → list_all (λ (c : Case). is_within c.body) p.cases ≡ true
program-within S h k p e = at_place (λ (q : Program). list_all (λ (c : Case). is_within c.body) q.cases) (programs S) (programs-within S h) k p e

pub constant-within : (S : Signature) → signature_within S ≡ true → (k : ℕ) (d : Constant) → constant_at S k ≡ Some d → (IsWithin d.type) × (attribute_within d.attribute ≡ true)
constant-within S h k d e = both (at_place (λ (q : Constant). is_within q.type && attribute_within q.attribute) (constants S) (constants-within S h) k d e)

attribute-ends : (a : Attribute) → attribute_within a ≡ true → SomeWithin (terminator_of a)
attribute-ends Plain h = tt
attribute-ends (RightNil n) h = h
attribute-ends (LeftNil n) h = tt
attribute-ends Right h = tt
attribute-ends Left h = tt
attribute-ends (Chain k) h = tt
attribute-ends (Pairs k) h = tt
attribute-ends (Binder k) h = tt

pub terminator-within : (S : Signature) → signature_within S ≡ true → (f : ℕ) (n : Tree) → terminator S f ≡ Some n → IsWithin n
terminator-within S h f n e = by_constant (constant_at S f) refl e
  where
    by_constant : (o : Option Constant) → constant_at S f ≡ o → option_and_then (λ (d : Constant). terminator_of d.attribute) o ≡ Some n → IsWithin n
    by_constant None p q = absurd (none-some n q)
    by_constant (Some d) p q = some-within (terminator_of d.attribute) n (attribute-ends d.attribute (constant-within S h f d p).1) q

-- ---- types

abbrev pub Holds : {A : Type 0} → (A → Type 0) → TypeOutcome A → Type 0
Holds P (Typed t) = P t
Holds P Untyped = Unit {0}
Holds P TypeRange = Unit {0}
Holds P TypeTall = Unit {0}

type-bind : {A B : Type 0} (P : A → Type 0) (Q : B → Type 0) (o : TypeOutcome A) (go : A → TypeOutcome B) → Holds P o → ((a : A) → P a → Holds Q (go a)) → Holds Q (on_typed o go)
type-bind P Q (Typed a) go h k = k a h
type-bind P Q Untyped go h k = tt
type-bind P Q TypeRange go h k = tt
type-bind P Q TypeTall go h k = tt

if-typed : (b : Bool) (t : Tree) → IsWithin t → Holds IsWithin (typed_if b t)
if-typed true t h = h
if-typed false t h = tt

answer-typed : (a : OpAnswer Tree) → GivesWithin a → Holds IsWithin (typed_answer a)
answer-typed (Gives t) h = h
answer-typed IsStuck h = tt
answer-typed IsOutOfRange h = tt

if-all : (b : Bool) (o : TypeOutcome Tree) → Holds IsWithin o → Holds IsWithin (if b then o else Untyped)
if-all true o h = h
if-all false o h = tt

chosen-typed : (v : Tree) (a b : TypeOutcome Tree) → Holds IsWithin a → Holds IsWithin b → Holds IsWithin (chosen v a b Untyped)
chosen-typed v a b h k = by_test (tree_eq v (truth true)) (tree_eq v (truth false))
  where
    by_test : (c d : Bool) → Holds IsWithin (if c then a else (if d then b else Untyped))
    by_test true d = h
    by_test false true = k
    by_test false false = tt

other-in-type : (o : OpName) (ts : List Tree) → AreWithin ts → Holds IsWithin (if list_all is_value ts then typed_answer (tree_op_value o ts) else Untyped)
other-in-type o ts h = if-all (list_all is_value ts) (typed_answer (tree_op_value o ts)) (answer-typed (tree_op_value o ts) (operators-within o ts h))

op-in-type : (c : OpCode) (ts : List Tree) → AreWithin ts → Holds IsWithin (op_in_type c ts)
op-in-type (OpCode.Builtin OpName.Ite) (c ∷ a ∷ b ∷ []) h =
    chosen-typed c (typed_if (is_value a) a) (typed_if (is_value b) b) (if-typed (is_value a) a (both (both h).1).0) (if-typed (is_value b) b (both (both (both h).1).1).0)
op-in-type (OpCode.Builtin OpName.Requires) (a ∷ b ∷ c ∷ []) h = if-typed (is_value a && (tree_eq a b && is_value c)) c (both (both (both h).1).1).0
op-in-type (OpCode.Builtin OpName.IsEq) (a ∷ b ∷ []) h = truth-within (is_value a && tree_eq a b)
op-in-type (OpCode.Builtin o) ts h = other-in-type o ts h
op-in-type (OpCode.Prog p) ts h = tt

settled-op : (c : OpCode) (ts : List Tree) → AreWithin ts → Holds IsWithin (settled_op c ts)
settled-op c ts h = by_test (list_all is_closed ts)
  where
    by_test : (b : Bool) → Holds IsWithin (if b then op_in_type c ts else Typed (Op c (to_trees ts)))
    by_test true = op-in-type c ts h
    by_test false = to-trees-within ts h

mutual
  settle-within : (t : Tree) → IsWithin t → Holds IsWithin (settle t)
  settle-within (Con k) h = h
  settle-within (Num z) h = h
  settle-within (Bits w v) h = h
  settle-within (Str s) h = h
  settle-within (Par i) h = h
  settle-within (Var s t) h = type-bind IsWithin IsWithin (settle t) (λ u. Typed (Var s u)) (settle-within t (both h).1) (λ u p. join (both h).0 p)
  settle-within (App f x) h =
      type-bind IsWithin IsWithin (settle f) (λ g. on_typed (settle x) (λ y. Typed (App g y))) (settle-within f (both h).0)
      (λ g p. type-bind IsWithin IsWithin (settle x) (λ y. Typed (App g y)) (settle-within x (both h).1) (λ y q. join p q))
  settle-within (Arr a b) h =
      type-bind IsWithin IsWithin (settle a) (λ c. on_typed (settle b) (λ d. Typed (Arr c d))) (settle-within a (both h).0)
      (λ c p. type-bind IsWithin IsWithin (settle b) (λ d. Typed (Arr c d)) (settle-within b (both h).1) (λ d q. join p q))
  settle-within (Qar i t b) h =
      type-bind IsWithin IsWithin (settle t) (λ u. on_typed (settle b) (λ c. Typed (Qar i u c))) (settle-within t (both h).0)
      (λ u p. type-bind IsWithin IsWithin (settle b) (λ c. Typed (Qar i u c)) (settle-within b (both h).1) (λ c q. join p q))
  settle-within (Op c ts) h = type-bind AreWithin IsWithin (settle_all ts) (λ us. settled_op c us) (settle-all-within ts h) (λ us p. settled-op c us p)

  settle-all-within : (ts : Trees) → all_within ts ≡ true → Holds AreWithin (settle_all ts)
  settle-all-within NoTree h = refl
  settle-all-within (More t ts) h =
      type-bind IsWithin AreWithin (settle t) (λ u. on_typed (settle_all ts) (λ us. Typed (u ∷ us))) (settle-within t (both h).0)
      (λ u p. type-bind AreWithin AreWithin (settle_all ts) (λ us. Typed (u ∷ us)) (settle-all-within ts (both h).1) (λ us q. join p q))

low-typed : (t : Tree) → IsWithin t → Holds IsWithin (if_not_tall t)
low-typed t h = by_height (is_tall t)
  where
    by_height : (b : Bool) → Holds IsWithin (if b then TypeTall else Typed t)
    by_height true = tt
    by_height false = h

settled-within : (t : Tree) → IsWithin t → Holds IsWithin (settled t)
settled-within t h =
    type-bind IsWithin IsWithin (if_not_tall t) (λ u. on_typed (settle u) (λ v. if_not_tall v)) (low-typed t h)
    (λ u p. type-bind IsWithin IsWithin (settle u) (λ v. if_not_tall v) (settle-within u p) (λ v q. low-typed v q))

literal-type-within : (o : Option Tree) (l : Tree) → SomeWithin o → IsWithin l → Holds IsWithin (literal_type_at o l)
literal-type-within None l h k = tt
literal-type-within (Some t) l h k =
    type-bind IsWithin IsWithin (settled (put (assign empty 0 l) t)) (λ u. typed_if (is_value u) u)
    (settled-within (put (assign empty 0 l) t) (put-within (assign empty 0 l) (puts-one empty 0 l puts-none k) t h)) (λ u p. if-typed (is_value u) u p)

on-match : (o : Option Assignment) (go : Assignment → TypeOutcome Tree) → ((σ : Assignment) → o ≡ Some σ → Holds IsWithin (go σ)) → Holds IsWithin (on_match o go)
on-match None go h = tt
on-match (Some σ) go h = h σ refl

application-within : (f t x : Tree) → IsWithin f → IsWithin t → IsWithin x → Holds IsWithin (application_type f t x)
application-within (Arr a b) t x h k l =
    on-match (matching empty (a ∷ []) (t ∷ [])) (λ σ. settled (put σ b))
    (λ σ e. settled-within (put σ b) (put-within σ (matching-puts empty (a ∷ []) (t ∷ []) σ puts-none (join k refl) e) b (both h).1))
application-within (Qar i a b) t x h k l =
    on-match (matching empty (a ∷ []) (t ∷ [])) (λ σ. settled (put (assign σ i x) b))
    (λ σ e. settled-within (put (assign σ i x) b) (put-within (assign σ i x) (puts-one σ i x (matching-puts empty (a ∷ []) (t ∷ []) σ puts-none (join k refl) e) l) b (both h).1))
application-within _ t x h k l = tt

module _ (S : Signature) (within : signature_within S ≡ true) where
  declared-within : (k : ℕ) → Holds IsWithin (declared (constant_at S k))
  declared-within k = by_constant (constant_at S k) refl
    where
      by_constant : (o : Option Constant) → constant_at S k ≡ o → Holds IsWithin (declared o)
      by_constant None e = tt
      by_constant (Some d) e = (constant-within S within k d e).0

  type-within : (t : Tree) → IsWithin t → Holds IsWithin (type_of S t)
  type-within (Con k) h = declared-within k
  type-within (Num z) h = literal-type-within (literal_type S Numeral) (Num z) (first-class Numeral S within) h
  type-within (Bits w v) h = literal-type-within (literal_type S Binary) (Bits w v) (first-class Binary S within) h
  type-within (Str s) h = literal-type-within (literal_type S String) (Str s) (first-class String S within) h
  type-within (Par i) h = tt
  type-within (Var s t) h =
      type-bind IsWithin IsWithin (type_of S t) (λ k. typed_if (tree_eq k type_tree) t) (type-within t (both h).1) (λ k p. if-typed (tree_eq k type_tree) t (both h).1)
  type-within (App f x) h =
      type-bind IsWithin IsWithin (type_of S f) (λ t. on_typed (type_of S x) (λ u. if is_value u then application_type t u x else Untyped)) (type-within f (both h).0)
      (λ t p. type-bind IsWithin IsWithin (type_of S x) (λ u. if is_value u then application_type t u x else Untyped) (type-within x (both h).1)
      (λ u q. if-all (is_value u) (application_type t u x) (application-within t u x p q (both h).1)))
  type-within (Arr a b) h =
      type-bind IsWithin IsWithin (type_of S a) (λ k. on_typed (type_of S b) (λ l. typed_if (tree_eq k type_tree && tree_eq l type_tree) type_tree)) (type-within a (both h).0)
      (λ k p. type-bind IsWithin IsWithin (type_of S b) (λ l. typed_if (tree_eq k type_tree && tree_eq l type_tree) type_tree) (type-within b (both h).1)
      (λ l q. if-typed (tree_eq k type_tree && tree_eq l type_tree) type_tree refl))
  type-within (Qar i t b) h = tt
  type-within (Op c ts) h = tt

  pub value-type-within : (t : Tree) → IsWithin t → Holds IsWithin (value_type S t)
  value-type-within t h = type-bind IsWithin IsWithin (type_of S t) (λ u. typed_if (is_value u) u) (type-within t h) (λ u p. if-typed (is_value u) u p)
