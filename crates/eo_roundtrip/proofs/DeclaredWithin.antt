-- What declarations that were read hold is within its ranges.
use Rattle.std.specs.Prelude.{◌≡◌, ℕ, zero, suc, Bool, true, false, if◌then◌else◌, List, [], ◌∷◌, ◌++◌, length, Ok, Err, refl}
use Rattle.std.specs.List.{list_all}
use Rattle.std.proofs.Common.{subst, ◌∙◌}
use Rattle.std.proofs.lemmas.List.Folds.{list_all-append}
use Rattle.eo_base.proofs.Tests.{both, join}
use Rattle.eo_base.proofs.ChecksLemmas.{ok_injective, err_is_not_ok, bind_ok, require_then}
use Rattle.eo_base.specs.Checks.{Checked}
use Rattle.eo_base.specs.declared.FaultName.TheVariants as fault
use Rattle.eo_declare.specs.Declarations.{declared_const, declared_fun, declared_sort, declared_parameterized, declared_literals, defined, defined_fun, defined_sort, declared_program, declared_case, declared_cases, program, with_program, plain_constant, constant, few, Bound, bind, bind_types, unbound, with_parameter, not_tall, bound_type, attribute, function_type, meanings, sort_type, self, macro}
use Rattle.eo_lit.specs.declared.LiteralClass.{LiteralClass}
use Rattle.eo_names.specs.Contexts.{Context, Local}
use Rattle.eo_elab.specs.Meaning.{meaning}
use Rattle.eo_sexp.specs.Sexp.{Sexp}
use Rattle.eo_shape.specs.Shapes.{ParameterShape, AttributeShape, NoAttribute, RightNilShape, LeftNilShape, RightShape, LeftShape, ChainShape, PairsShape, BinderShape, CaseShape, ProgramShape}
use Rattle.eo_sig.specs.Signature.{IsProgram, Attribute, Plain, RightNil, LeftNil, Right, Left, Chain, Pairs, Binder, Parameter, Constant, Macro, Program, Case}
use Rattle.eo_term.specs.Tree.{Tree, Qar, type_tree, is_tall}
use Rattle.eo_roundtrip.proofs.Within.{is_within, attribute_within, constant_within, entry_within}
use Rattle.eo_roundtrip.proofs.Ranges.{IsWithin, AreWithin}
use Rattle.eo_roundtrip.proofs.SymbolsWithin.{HoldsWithin, LocalsWithin}
use Rattle.eo_roundtrip.proofs.MeaningWithin.{meaning-within}
use Rattle.eo_roundtrip.proofs.ShapesWithin.{Fits, Each, ParameterFits, AttributeFits, CaseFits}

pub one-more : {A : Type 0} (test : A → Bool) (xs : List A) (x : A) → list_all test xs ≡ true → test x ≡ true → list_all test (xs ++ x ∷ []) ≡ true
one-more test xs x h k = list_all-append test xs (x ∷ []) ∙ join h (join k refl)

-- ---- what declarations are made of

module _ (c : Context) (fits : HoldsWithin c) where
  meanings-within : (locals : List Local) → LocalsWithin locals → (ss : List Sexp) → Each Fits ss → (ts : List Tree) → meanings c locals ss ≡ Ok ts → AreWithin ts
  unfolding meanings
  meanings-within locals h [] k ts e = subst AreWithin (ok_injective [] ts e) refl
  meanings-within locals h (s ∷ ss) k ts e =
      let t = bind_ok (meaning c locals s) _ ts e in
      let rest = bind_ok (meanings c locals ss) _ ts t.2 in
      subst AreWithin (ok_injective (t.0 ∷ rest.0) ts rest.2) (join (meaning-within c fits locals h s k.0 t.0 t.1) (meanings-within locals h ss k.1 rest.0 rest.1))

  -- a terminator is within its ranges, and an attribute may have no other tree
  attribute-is : (a b : Attribute) → attribute_within a ≡ true → ◌≡◌ {A = Checked Attribute} (Ok a) (Ok b) → attribute_within b ≡ true
  attribute-is a b h e = subst (λ (x : Attribute). attribute_within x ≡ true) (ok_injective a b e) h

  attribute-holds : (locals : List Local) → LocalsWithin locals → (shape : AttributeShape) → AttributeFits shape → (a : Attribute) → attribute c locals shape ≡ Ok a → attribute_within a ≡ true
  attribute-holds locals h NoAttribute k a e = attribute-is Plain a refl e
  attribute-holds locals h (RightNilShape n) k a e =
      let t = bind_ok (meaning c locals n) _ a e in attribute-is (RightNil t.0) a (meaning-within c fits locals h n k t.0 t.1) t.2
  attribute-holds locals h (LeftNilShape n) k a e =
      let t = bind_ok (meaning c locals n) _ a e in attribute-is (LeftNil t.0) a (meaning-within c fits locals h n k t.0 t.1) t.2
  attribute-holds locals h RightShape k a e = attribute-is Right a refl e
  attribute-holds locals h LeftShape k a e = attribute-is Left a refl e
  attribute-holds locals h (ChainShape g) k a e = let t = bind_ok _ _ a e in attribute-is (Chain t.0) a refl t.2
  attribute-holds locals h (PairsShape g) k a e = let t = bind_ok _ _ a e in attribute-is (Pairs t.0) a refl t.2
  attribute-holds locals h (BinderShape b) k a e = let t = bind_ok _ _ a e in attribute-is (Binder t.0) a refl t.2

  -- ---- parameters

  abbrev ParametersWithin : List Parameter → Type 0
  ParametersWithin ps = list_all (λ p. is_within p.type) ps ≡ true

  record BoundWithin (b : Bound) : Type 0 where
    parameters : ParametersWithin b.parameters
    locals : LocalsWithin b.locals

  no-parameters : BoundWithin unbound
  no-parameters = record { parameters = refl; locals = refl }

  one-parameter : (b : Bound) (p : Parameter) → BoundWithin b → IsWithin p.type → BoundWithin (with_parameter b p)
  one-parameter b p h k = record { parameters = one-more (λ (q : Parameter). is_within q.type) b.parameters p h.parameters k; locals = h.locals }

  bind-holds : (b : Bound) → BoundWithin b → (shapes : List ParameterShape) → Each ParameterFits shapes → (new : Bound) → bind c b shapes ≡ Ok new → BoundWithin new
  bind-holds b h [] k new e = subst BoundWithin (ok_injective b new e) h
  bind-holds b h (p ∷ ps) k new e =
      let free = require_then _ _ _ new e in
      let t = bind_ok (meaning c b.locals p.type) _ new free.1 in
      bind-holds (with_parameter b (record { name = p.name; type = t.0; implicit = p.implicit; list = p.list }))
      (one-parameter b (record { name = p.name; type = t.0; implicit = p.implicit; list = p.list }) h (meaning-within c fits b.locals h.locals p.type k.0 t.0 t.1))
      ps k.1 new t.2

  bind-types-hold : (b : Bound) → BoundWithin b → (names : List (List ℕ)) (new : Bound) → bind_types b names ≡ Ok new → BoundWithin new
  bind-types-hold b h [] new e = subst BoundWithin (ok_injective b new e) h
  bind-types-hold b h (name ∷ names) new e =
      let free = require_then _ _ _ new e in
      bind-types-hold (with_parameter b (record { name = name; type = type_tree; implicit = false; list = false }))
      (one-parameter b (record { name = name; type = type_tree; implicit = false; list = false }) h refl) names new free.1

  -- ---- types

  function-within : (ts : List Tree) (t : Tree) → AreWithin ts → IsWithin t → IsWithin (function_type ts t)
  function-within [] t h k = k
  function-within (u ∷ us) t h k = join (both h).0 (function-within us t (both h).1 k)

  sort-within : (n : ℕ) → IsWithin (sort_type n)
  sort-within zero = refl
  sort-within (suc n) = sort-within n

  bound-within : (i : ℕ) (ps : List Parameter) (t : Tree) → ParametersWithin ps → IsWithin t → IsWithin (bound_type i ps t)
  bound-within i [] t h k = k
  bound-within i (p ∷ ps) t h k = by_mark p.implicit (bound-within (suc i) ps t (both h).1 k)
    where
      by_mark : (b : Bool) → IsWithin (bound_type (suc i) ps t) → IsWithin (if b then bound_type (suc i) ps t else Qar i p.type (bound_type (suc i) ps t))
      by_mark true l = l
      by_mark false l = join (both h).0 l

  low-same : (t u : Tree) → not_tall t ≡ Ok u → t ≡ u
  low-same t u e = by_height (is_tall t) e
    where
      by_height : (b : Bool) → (if b then Err fault.TermHeight else Ok t) ≡ Ok u → t ≡ u
      by_height true f = absurd (err_is_not_ok fault.TermHeight u f)
      by_height false f = ok_injective t u f

  -- ---- constants

  abbrev ConstantWithin : Constant → Type 0
  ConstantWithin d = constant_within d ≡ true

  plain-within : (name : List ℕ) (type : Tree) (a : Attribute) (d : Constant) → IsWithin type → attribute_within a ≡ true → plain_constant c name type a ≡ Ok d → ConstantWithin d
  plain-within name type a d h k e = subst ConstantWithin (ok_injective (constant c name [] type a) d (bind_ok _ _ d e).2) (join h k)

  pub const-within : (name : List ℕ) (type : Sexp) (shape : AttributeShape) → Fits type → AttributeFits shape → (d : Constant) → declared_const c name type shape ≡ Ok d → ConstantWithin d
  unfolding declared_const
  const-within name type shape h k d e =
      let free = require_then _ _ _ d e in
      let t = bind_ok (meaning c [] type) _ d free.1 in
      let a = bind_ok (attribute c [] shape) _ d t.2 in
      plain-within name t.0 a.0 d (meaning-within c fits [] refl type h t.0 t.1) (attribute-holds [] refl shape k a.0 a.1) a.2

  pub fun-within : (name : List ℕ) (inputs : List Sexp) (output : Sexp) → Each Fits inputs → Fits output → (d : Constant) → declared_fun c name inputs output ≡ Ok d → ConstantWithin d
  unfolding declared_fun
  fun-within name inputs output h k d e =
      let free = require_then _ _ _ d e in
      let ts = bind_ok (meanings c [] inputs) _ d free.1 in
      let t = bind_ok (meaning c [] output) _ d ts.2 in
      let type = bind_ok (not_tall (function_type ts.0 t.0)) _ d t.2 in
      plain-within name type.0 Plain d
      (subst IsWithin (low-same (function_type ts.0 t.0) type.0 type.1) (function-within ts.0 t.0 (meanings-within [] refl inputs h ts.0 ts.1) (meaning-within c fits [] refl output k t.0 t.1)))
      refl type.2

  pub sort-constant-within : (name : List ℕ) (arity : ℕ) (d : Constant) → declared_sort c name arity ≡ Ok d → ConstantWithin d
  unfolding declared_sort
  sort-constant-within name arity d e = let free = require_then _ _ _ d e in plain-within name (sort_type arity) Plain d (sort-within arity) refl free.1

  pub parameterized-within : (name : List ℕ) (shapes : List ParameterShape) (type : Sexp) (shape : AttributeShape) → Each ParameterFits shapes → Fits type → AttributeFits shape → (d : Constant) →
      declared_parameterized c name shapes type shape ≡ Ok d → ConstantWithin d
  unfolding declared_parameterized
  parameterized-within name shapes type shape h k l d e =
      let free = require_then _ _ _ d e in
      let room = bind_ok (few (length shapes)) _ d free.1 in
      let b = bind_ok (bind c unbound shapes) _ d room.2 in
      let t = bind_ok (meaning c b.0.locals type) _ d b.2 in
      let whole = bind_ok (not_tall (bound_type 0 b.0.parameters t.0)) _ d t.2 in
      let a = bind_ok (attribute c b.0.locals shape) _ d whole.2 in
      let bound = bind-holds unbound no-parameters shapes h b.0 b.1 in
      subst ConstantWithin (ok_injective (constant c name b.0.parameters whole.0 a.0) d a.2)
      (join
      (subst IsWithin (low-same (bound_type 0 b.0.parameters t.0) whole.0 whole.1)
      (bound-within 0 b.0.parameters t.0 bound.parameters (meaning-within c fits b.0.locals bound.locals type k t.0 t.1)))
      (attribute-holds b.0.locals bound.locals shape l a.0 a.1))

  pub literals-within : (class : LiteralClass) (type : Sexp) → Fits type → (t : Tree) → declared_literals c class type ≡ Ok t → IsWithin t
  unfolding declared_literals
  literals-within class type h t e = let free = require_then _ _ _ t e in meaning-within c fits (self c) refl type h t free.1

  -- ---- macros

  pub defined-within : (name : List ℕ) (shapes : List ParameterShape) (body : Sexp) → Each ParameterFits shapes → Fits body → (m : Macro) → defined c name shapes body ≡ Ok m → IsWithin m.tree
  unfolding defined
  defined-within name shapes body h k m e =
      let free = require_then _ _ _ m e in
      let room = bind_ok (few (length shapes)) _ m free.1 in
      let b = bind_ok (bind c unbound shapes) _ m room.2 in
      let t = bind_ok (meaning c b.0.locals body) _ m b.2 in
      let bound = bind-holds unbound no-parameters shapes h b.0 b.1 in
      subst (λ (x : Macro). IsWithin x.tree) (ok_injective (macro c name b.0.parameters t.0) m t.2) (meaning-within c fits b.0.locals bound.locals body k t.0 t.1)

  pub defined-fun-within : (name : List ℕ) (shapes : List ParameterShape) (output body : Sexp) → Each ParameterFits shapes → Fits body → (m : Macro) → defined_fun c name shapes output body ≡ Ok m → IsWithin m.tree
  unfolding defined_fun
  defined-fun-within name shapes output body h k m e =
      let free = require_then _ _ _ m e in
      let room = bind_ok (few (length shapes)) _ m free.1 in
      let b = bind_ok (bind c unbound shapes) _ m room.2 in
      let type = bind_ok (meaning c b.0.locals output) _ m b.2 in
      let t = bind_ok (meaning c b.0.locals body) _ m type.2 in
      let bound = bind-holds unbound no-parameters shapes h b.0 b.1 in
      subst (λ (x : Macro). IsWithin x.tree) (ok_injective (macro c name b.0.parameters t.0) m t.2) (meaning-within c fits b.0.locals bound.locals body k t.0 t.1)

  pub defined-sort-within : (name : List ℕ) (names : List (List ℕ)) (type : Sexp) → Fits type → (m : Macro) → defined_sort c name names type ≡ Ok m → IsWithin m.tree
  unfolding defined_sort
  defined-sort-within name names type h m e =
      let free = require_then _ _ _ m e in
      let room = bind_ok (few (length names)) _ m free.1 in
      let b = bind_ok (bind_types unbound names) _ m room.2 in
      let t = bind_ok (meaning c b.0.locals type) _ m b.2 in
      let bound = bind-types-hold unbound no-parameters names b.0 b.1 in
      subst (λ (x : Macro). IsWithin x.tree) (ok_injective (macro c name b.0.parameters t.0) m t.2) (meaning-within c fits b.0.locals bound.locals type h t.0 t.1)

  -- ---- programs

  abbrev CasesWithin : List Case → Type 0
  CasesWithin cs = list_all (λ (x : Case). is_within x.body) cs ≡ true

  cases-within : (locals : List Local) → LocalsWithin locals → (inputs : ℕ) (shapes : List CaseShape) → Each CaseFits shapes → (cs : List Case) → declared_cases c locals inputs shapes ≡ Ok cs → CasesWithin cs
  unfolding declared_cases declared_case
  cases-within locals h inputs [] k cs e = subst CasesWithin (ok_injective [] cs e) refl
  cases-within locals h inputs (s ∷ ss) k cs e =
      let first = bind_ok (declared_case c locals inputs s) _ cs e in
      let rest = bind_ok (declared_cases c locals inputs ss) _ cs first.2 in
      let count = require_then _ _ _ first.0 first.1 in
      let ps = bind_ok (meanings c locals s.patterns) _ first.0 count.1 in
      let t = bind_ok (meaning c locals s.body) _ first.0 ps.2 in
      let body : IsWithin first.0.body = subst (λ (x : Case). IsWithin x.body) (ok_injective (record { patterns = ps.0; body = t.0 }) first.0 t.2) (meaning-within c fits locals h s.body k.0 t.0 t.1) in
      subst CasesWithin (ok_injective (first.0 ∷ rest.0) cs rest.2) (join body (cases-within locals h inputs ss k.1 rest.0 rest.1))

-- the program itself has no cases yet
with-program-within : (c : Context) (p : Program) → HoldsWithin c → entry_within (IsProgram p) ≡ true → HoldsWithin (with_program c p)
with-program-within c p h k = record { signature = one-more entry_within c.signature (IsProgram p) h.signature k; macros = h.macros }

pub program-within : (c : Context) → HoldsWithin c → (s : ProgramShape) → Each ParameterFits s.parameters → Each CaseFits s.cases → (p : Program) → declared_program c s ≡ Ok p → entry_within (IsProgram p) ≡ true
unfolding declared_program
program-within c fits s h k p e =
    let free = require_then _ _ _ p e in
    let room = bind_ok (few (length s.parameters)) _ p free.1 in
    let some = bind_ok (few (length s.inputs)) _ p room.2 in
    let b = bind_ok (bind c unbound s.parameters) _ p some.2 in
    let ts = bind_ok (meanings c b.0.locals s.inputs) _ p b.2 in
    let t = bind_ok (meaning c b.0.locals s.output) _ p ts.2 in
    let empty = program s.name b.0.parameters ts.0 t.0 [] in
    let cs = bind_ok (declared_cases (with_program c empty) b.0.locals (length empty.inputs) s.cases) _ p t.2 in
    let bound = bind-holds c fits unbound (no-parameters c fits) s.parameters h b.0 b.1 in
    subst (λ (x : Program). entry_within (IsProgram x) ≡ true) (ok_injective (record empty { cases = cs.0 }) p cs.2)
    (cases-within (with_program c empty) (with-program-within c empty fits refl) b.0.locals bound.locals (length empty.inputs) s.cases k cs.0 cs.1)
