-- What a declaring command does to what is held.
use Rattle.std.proofs.Common.{◌≡◌, ℕ, Bool, true, false, not, ◌&&◌, ◌||◌, List, [], ◌∷◌, length, map, refl, sym, ap, subst, ◌∙◌, true≢false}
use Rattle.std.specs.Prelude.{Result, OnOk, Option, Some, None, option_map, is_none, slice_get, Ok, Err, nat_eq, if◌then◌else◌}
use Rattle.std.specs.Option.{option_or, option_map_or}
use Rattle.std.proofs.lemmas.Option.{same_Some}
use Rattle.std.proofs.lemmas.List.{length-map}
use Rattle.eo_base.specs.declared.FaultName.{FaultName}
use Rattle.eo_base.specs.declared.FaultName.TheVariants.{Redeclared, ProofDeclares}
use Rattle.eo_base.specs.Checks.{Checked, Passed, ◌>>=◌, require, no_fault}
use Rattle.eo_base.proofs.Tests.{both}
use Rattle.eo_base.proofs.ChecksLemmas.{ok_injective, bind_ok, require_then}
use Rattle.eo_sig.specs.declared.records.Entry.{Entry}
use Rattle.eo_sig.specs.Reading.{IsFree, signature, macros, read_named, read_counts, write_counts}
use Rattle.eo_sig.specs.Signature.{Signature, Constant, Macro, Named, NamesMacro, IsConstant, constant_taking, counts_of, is_apart, is_free_for, may_name_constant, declare_fault, Counts, Exactly, From, Attribute, Plain, lookup, is_free, is_reserved, may_type, may_fold, argument_types, implicit_occur, first_wrong, constant_may_hold, constant_fault}
use Rattle.eo_term.specs.Tree.{Tree, Con, Num, Bits, Str, Par, Var, App, Arr, Qar, Op, tree_eq, is_value, may_be_type}
use Rattle.eo_names.specs.Contexts.{Context, Naming, Several}
use Rattle.eo_elab.specs.Meaning.{meaning}
use Rattle.eo_declare.specs.Declarations.{is_named_by_reference, is_reference_name, may_be_constant, is_free_or_reference, meanings, attribute, constant, plain_constant, function_type, sort_type, not_tall, declared_const, declared_fun, declared_sort}
use Rattle.eo_session.specs.declared.store.Store.{Store}
use Rattle.eo_session.specs.Store.{state_of}
use Rattle.eo_sexp.specs.Sexp.{Sexp}
use Rattle.eo_shape.specs.Shapes.{AttributeShape, ProgramShape}
use Rattle.eo_session.specs.Origin.{Origin}
use Rattle.eo_session.specs.Decisions.{apart_effect, checked_effect, constant_effect, typed_effect, macro_effect, added_program_effect, program_effect}
use Rattle.eo_session.specs.Effects.{Effect, Declares, Defines, Nothing}
use Rattle.eo_session.specs.State.{State, context}
use Rattle.eo_session.specs.Step.{is_plain, repeats, repeats_constant, named_apart, repeats_macro, type_value, is_in_proof}
use Rattle.std.proofs.lemmas.Bool.{and_parts}

-- ---- checks

module _ {A : Type 0} (fault : Option FaultName) (go : Passed → Checked A) where
  pub no_fault-fails : (name : FaultName) → fault ≡ Some name → (no_fault fault >>= go) ≡ Err name
  unfolding no_fault ◌>>=◌
  no_fault-fails name e = ap (λ f. no_fault f >>= go) e

  pub no_fault-passes : fault ≡ None → (no_fault fault >>= go) ≡ go tt
  unfolding no_fault ◌>>=◌
  no_fault-passes e = ap (λ f. no_fault f >>= go) e

-- ---- names

module _ (st : State) (name : List ℕ) where
  abbrev pub found : Option Named
  found = lookup st.signature st.macros name

  abbrev by_found : Option Named → Bool
  by_found o = (not (is_reserved name) && is_none o) || is_named_by_reference (context st) name o

  not_reference : found ≡ None → is_reference_name (context st) name ≡ false
  not_reference e = ap (is_named_by_reference (context st) name) e

  is_reference : (n : Named) → found ≡ Some n → is_free_or_reference (context st) name ≡ true → is_reference_name (context st) name ≡ true
  is_reference n e h = ap (is_named_by_reference (context st) name) e ∙ second (not (is_reserved name)) (is_named_by_reference (context st) name (Some n)) (sym (ap by_found e) ∙ h)
    where
      second : (a b : Bool) → ((a && false) || b) ≡ true → b ≡ true
      second true b h = h
      second false b h = h

-- a name that is free has no meaning
pub free-none : (S : Signature) (ms : List Macro) (name : List ℕ) → is_free S ms name ≡ true → lookup S ms name ≡ None
free-none S ms name e = by (lookup S ms name) (both e).1
  where
    by : (o : Option Named) → is_none o ≡ true → o ≡ None
    by None q = refl
    by (Some n) q = absurd (true≢false (sym q))

-- what is found by its name
module _ (h : Store) (name bytes : List ℕ) (same : bytes ≡ name) (o : Option Entry) (told : (ts : List Tree) → option_map read_named o ≡ lookup (signature ts h.signature) (macros ts h.signature) bytes) where
  found_is : found (state_of h) name ≡ option_map read_named o
  found_is = sym (told h.table.trees ∙ ap (lookup (signature h.table.trees h.signature) (macros h.table.trees h.signature)) same)

  pub found-none : o ≡ None → found (state_of h) name ≡ None
  found-none e = found_is ∙ ap (option_map read_named) e

  pub found-some : (x : Entry) → o ≡ Some x → found (state_of h) name ≡ Some (read_named x)
  found-some x e = found_is ∙ ap (option_map read_named) e

  -- a name that is not found, and may be declared, is free
  pub found-free : o ≡ None → is_free_or_reference (context (state_of h)) name ≡ true → IsFree h.signature name
  found-free e may =
      let none = sym (told [] ∙ ap (lookup (signature [] h.signature) (macros [] h.signature)) same) ∙ ap (option_map read_named) e in
      ap (λ (o : Option Named). not (is_reserved name) && is_none o) none ∙ or_none (not (is_reserved name) && true) (sym (ap (by_found (state_of h) name) (found-none e)) ∙ may)
    where
      or_none : (a : Bool) → (a || false) ≡ true → a ≡ true
      or_none true e = refl
      or_none false e = e

-- ---- constants

module _ (st : State) (d : Constant) where
  abbrev by_repeat : Bool → Checked Effect
  by_repeat b = if b then Ok Nothing else apart_effect st d

  pub added-repeat : repeats_constant st d ≡ true → constant_effect st d ≡ Ok Nothing
  added-repeat e = ap by_repeat e

  pub added-new : repeats_constant st d ≡ false → constant_effect st d ≡ apart_effect st d
  added-new e = ap by_repeat e

  abbrev by_naming : Naming → Checked Effect
  by_naming n = named_apart n st.signature d >>= λ _. Ok (Declares (IsConstant d (counts_of d)))

  abbrev by_apart : Bool → Checked Effect
  by_apart b = require b Redeclared >>= λ _. Ok (Declares (IsConstant d (counts_of d)))

  apart-added : st.naming ≡ Several → is_apart st.signature d.name (counts_of d) ≡ true → apart_effect st d ≡ Ok (Declares (IsConstant d (counts_of d)))
  unfolding require ◌>>=◌
  apart-added n e = ap by_naming n ∙ ap by_apart e

  apart-redeclared : st.naming ≡ Several → is_apart st.signature d.name (counts_of d) ≡ false → apart_effect st d ≡ Err Redeclared
  unfolding require ◌>>=◌
  apart-redeclared n e = ap by_naming n ∙ ap by_apart e

  -- a constant that is sound
  pub apart-checked : constant_fault d ≡ None → apart_effect st d ≡ checked_effect st d
  apart-checked e = sym (no_fault-passes (constant_fault d) (λ _. apart_effect st d) e)

  -- what is wrong with a constant, by a name that constants may have, is what is wrong with declaring it
  module _ (several : st.naming ≡ Several) (may : may_name_constant st.signature st.macros d.name ≡ true) where
    abbrev after_fault : Option FaultName → Checked Effect
    after_fault f = no_fault f >>= λ _. apart_effect st d

    free-apart : (b : Bool) → is_free_for st.signature st.macros d ≡ b → is_apart st.signature d.name (counts_of d) ≡ b
    free-apart b e = sym (ap (λ c. c && is_apart st.signature d.name (counts_of d)) may) ∙ e

    pub checked-fails : (name : FaultName) → declare_fault st.signature st.macros d ≡ Some name → checked_effect st d ≡ Err name
    unfolding no_fault ◌>>=◌
    checked-fails name e = by (constant_fault d) refl (is_free_for st.signature st.macros d) refl e
      where
        by : (f : Option FaultName) → constant_fault d ≡ f → (b : Bool) → is_free_for st.signature st.macros d ≡ b → option_or f (if b then None else Some Redeclared) ≡ Some name → checked_effect st d ≡ Err name
        by (Some x) g b h e = ap after_fault (g ∙ e)
        by None g true h e = absurd cc
        by None g false h e = ap after_fault g ∙ apart-redeclared several (free-apart false h) ∙ ap Err (same_Some Redeclared name e)

    pub checked-added : declare_fault st.signature st.macros d ≡ None → checked_effect st d ≡ Ok (Declares (IsConstant d (counts_of d)))
    unfolding no_fault ◌>>=◌
    checked-added e = by (constant_fault d) refl (is_free_for st.signature st.macros d) refl e
      where
        by : (f : Option FaultName) → constant_fault d ≡ f → (b : Bool) → is_free_for st.signature st.macros d ≡ b → option_or f (if b then None else Some Redeclared) ≡ None → checked_effect st d ≡ Ok (Declares (IsConstant d (counts_of d)))
        by (Some x) g b h e = absurd cc
        by None g false h e = absurd cc
        by None g true h e = ap after_fault g ∙ apart-added several (free-apart true h)

  abbrev by_value : Checked Tree → Checked Effect
  by_value m = m >>= λ v. constant_effect st (record d { type = v })

  pub typed-fault : (name : FaultName) → type_value st d.type ≡ Err name → typed_effect st d ≡ Err name
  unfolding ◌>>=◌
  typed-fault name e = ap by_value e

  pub typed-added : (v : Tree) → type_value st d.type ≡ Ok v → typed_effect st d ≡ constant_effect st (record d { type = v })
  unfolding ◌>>=◌
  typed-added v e = ap by_value e

-- ---- constants without parameters

-- a value may be a declared type
may_be_declared : (t : Tree) → is_value t ≡ true → may_be_type t ≡ true
may_be_declared (Con k) h = refl
may_be_declared (Num z) h = refl
may_be_declared (Bits w v) h = refl
may_be_declared (Str s) h = refl
may_be_declared (Par i) h = absurd (true≢false (sym h))
may_be_declared (Var s t) h = may_be_declared t h
may_be_declared (App f x) h = let b = and_parts (is_value f) (is_value x) h in (λ i. may_be_declared f b.0 i && may_be_declared x b.1 i)
may_be_declared (Arr f x) h = let b = and_parts (is_value f) (is_value x) h in (λ i. may_be_declared f b.0 i && may_be_declared x b.1 i)
may_be_declared (Qar i t b) h = absurd (true≢false (sym h))
may_be_declared (Op c ts) h = absurd (true≢false (sym h))

-- what a sound constant may hold
may_hold : (d : Constant) → constant_fault d ≡ None → (may_be_type d.type ≡ true) × ((may_type d.parameters && may_fold d.attribute) ≡ true)
may_hold d sound = and_parts (may_be_type d.type) (may_type d.parameters && may_fold d.attribute) (holds (constant_may_hold d) (implicit_occur (argument_types d.type) 0 d.parameters) sound)
  where
    holds : (a b : Bool) → first_wrong a b ≡ None → a ≡ true
    holds true b e = refl
    holds false b e = absurd cc

-- its terminator is a value
pub fold_of : (d : Constant) → constant_fault d ≡ None → may_fold d.attribute ≡ true
fold_of d sound = (and_parts (may_type d.parameters) (may_fold d.attribute) (may_hold d sound).1).1

-- it stays sound with a value for its type
pub sound-value : (d : Constant) (v : Tree) → d.parameters ≡ [] → is_value v ≡ true → constant_fault d ≡ None → constant_fault (record d { type = v }) ≡ None
sound-value d v alone value sound =
    let store = (may_hold d sound).1 in
    (λ i. first_wrong (may_be_declared v value i && store i) (implicit_occur (argument_types v) 0 (alone i)))

plain-alone : (c : Context) (name : List ℕ) (type : Tree) (a : Attribute) (d : Constant) → plain_constant c name type a ≡ Ok d → d.parameters ≡ []
plain-alone c name type a d e =
    let plain = bind_ok (no_fault (constant_fault (constant c name [] type a))) (λ _. Ok (constant c name [] type a)) d e in
    ap (λ (k : Constant). k.parameters) (sym (ok_injective (constant c name [] type a) d plain.2))

module _ (c : Context) (name : List ℕ) (d : Constant) where
  pub const-alone : (type : Sexp) (shape : AttributeShape) → declared_const c name type shape ≡ Ok d → d.parameters ≡ []
  unfolding declared_const
  const-alone type shape e =
      let free = require_then (may_be_constant c name) Redeclared (λ _. meaning c [] type >>= λ t. attribute c [] shape >>= λ a. plain_constant c name t a) d e in
      let meant = bind_ok (meaning c [] type) (λ t. attribute c [] shape >>= λ a. plain_constant c name t a) d free.1 in
      let folds = bind_ok (attribute c [] shape) (plain_constant c name meant.0) d meant.2 in
      plain-alone c name meant.0 folds.0 d folds.2

  pub fun-alone : (inputs : List Sexp) (output : Sexp) → declared_fun c name inputs output ≡ Ok d → d.parameters ≡ []
  unfolding declared_fun
  fun-alone inputs output e =
      let free = require_then (may_be_constant c name) Redeclared (λ _. meanings c [] inputs >>= λ ts. meaning c [] output >>= λ t. not_tall (function_type ts t) >>= λ type. plain_constant c name type Plain) d e in
      let taken = bind_ok (meanings c [] inputs) (λ ts. meaning c [] output >>= λ t. not_tall (function_type ts t) >>= λ type. plain_constant c name type Plain) d free.1 in
      let given = bind_ok (meaning c [] output) (λ t. not_tall (function_type taken.0 t) >>= λ type. plain_constant c name type Plain) d taken.2 in
      let whole = bind_ok (not_tall (function_type taken.0 given.0)) (λ type. plain_constant c name type Plain) d given.2 in
      plain-alone c name whole.0 Plain d whole.2

  pub sort-alone : (arity : ℕ) → declared_sort c name arity ≡ Ok d → d.parameters ≡ []
  unfolding declared_sort
  sort-alone arity e =
      let free = require_then (may_be_constant c name) Redeclared (λ _. plain_constant c name (sort_type arity) Plain) d e in
      plain-alone c name (sort_type arity) Plain d free.1

-- what has no parameters as it is read has none
pub none-read : {A B : Type 0} (f : A → B) (xs : List A) → map f xs ≡ [] → xs ≡ []
none-read f [] e = refl
none-read f (x ∷ xs) e = absurd cc

-- ---- macros

module _ (st : State) (d : Macro) where
  abbrev macro_by_reference : Bool → Checked Effect
  macro_by_reference b =
      if b then (require (repeats_macro st d (lookup st.signature st.macros d.name)) Redeclared >>= λ _. Ok Nothing) else Ok (Defines d)

  abbrev macro_by_repeat : Bool → Checked Effect
  macro_by_repeat b = require b Redeclared >>= λ _. Ok Nothing

  pub macro-new : lookup st.signature st.macros d.name ≡ None → macro_effect st d ≡ Ok (Defines d)
  macro-new e = ap macro_by_reference (not_reference st d.name e)

  module _ (n : Named) (is : lookup st.signature st.macros d.name ≡ Some n) (may : is_free_or_reference (context st) d.name ≡ true) where
    macro-found : (b : Bool) → repeats_macro st d (Some n) ≡ b → macro_effect st d ≡ macro_by_repeat b
    macro-found b h =
        ap macro_by_reference (is_reference st d.name n is may) ∙ ap (λ o. macro_by_repeat (repeats_macro st d o)) is ∙ ap macro_by_repeat h

    pub macro-repeat : repeats_macro st d (Some n) ≡ true → macro_effect st d ≡ Ok Nothing
    unfolding require ◌>>=◌
    macro-repeat h = macro-found true h

    pub macro-redeclared : repeats_macro st d (Some n) ≡ false → macro_effect st d ≡ Err Redeclared
    unfolding require ◌>>=◌
    macro-redeclared h = macro-found false h

-- ---- repeats

-- a constant without attribute repeats the one that takes as many arguments, if it does
pub repeats_by : (st : State) (d : Constant) (o : Option ℕ) → is_plain d.attribute ≡ true → (name : List ℕ) (n : ℕ) → name ≡ d.name → n ≡ length (argument_types d.type) → o ≡ constant_taking st.signature name n → repeats st d o ≡ repeats_constant st d
repeats_by st d o plain name n same many is =
    ap (repeats st d) (is ∙ (λ i. constant_taking st.signature (same i) (many i)))
    ∙ sym (ap (λ b. b && repeats st d (constant_taking st.signature d.name (length (argument_types d.type)))) plain)

pub same_count : {A B : Type 0} (f : A → B) (ps qs xs ys : List A) → xs ≡ ps → ys ≡ qs → nat_eq (length (map f ps)) (length (map f qs)) ≡ nat_eq (length xs) (length ys)
same_count f ps qs xs ys e h = (λ i. nat_eq (length-map ps f i) (length-map qs f i)) ∙ (λ i. nat_eq (length (sym e i)) (length (sym h i)))

pub repeats_macro_found : (st : State) (d old : Macro) (k : ℕ) (n : Named) (r : Bool) → n ≡ NamesMacro k → slice_get st.macros k ≡ Some old → old.from_reference ≡ true → nat_eq (length old.parameters) (length d.parameters) ≡ true → r ≡ tree_eq old.tree d.tree → r ≡ repeats_macro st d (Some n)
repeats_macro_found st d old k n r e at from count h =
    sym
    (ap (λ m. repeats_macro st d (Some m)) e
    ∙ ap (λ o. option_map_or (λ (old : Macro). old.from_reference && nat_eq (length old.parameters) (length d.parameters) && tree_eq old.tree d.tree) o false) at
    ∙ ap (λ b. b && nat_eq (length old.parameters) (length d.parameters) && tree_eq old.tree d.tree) from
    ∙ ap (λ b. b && tree_eq old.tree d.tree) count
    ∙ sym h
    )

-- ---- what is declared

-- ---- programs

-- whether a program may be declared here, and then what it is
module _ (st : State) (from : Origin) (shape : ProgramShape) where
  abbrev by_origin : Bool → Checked Effect
  by_origin b = require b ProofDeclares >>= λ _. added_program_effect st shape

  pub program-closed : not (st.closed && is_in_proof from) ≡ false → program_effect st from shape ≡ Err ProofDeclares
  unfolding require ◌>>=◌
  program-closed e = ap by_origin e

  pub program-open : not (st.closed && is_in_proof from) ≡ true → program_effect st from shape ≡ added_program_effect st shape
  unfolding require ◌>>=◌
  program-open e = ap by_origin e

-- what holds where a check passed
pub passed : {E : Type 0} (P : Type 0) (r : Result (Unit {0}) E) (x : Unit {0}) → r ≡ Ok x → OnOk r P → P
passed P r x e h = subst (λ s. OnOk s P) e h

-- the counts that are kept are those of the constant
pub counts_same : (m : Counts) → read_counts (write_counts m) ≡ m
counts_same (Exactly k) = refl
counts_same (From k) = refl
