-- The parameters of a rule are in order, and what is defined uses its own parameters alone.
use Rattle.std.specs.Prelude.{◌≡◌, ◌<◌, ℕ, suc, ◌+◌, Bool, true, false, nat_lt, List, [], ◌∷◌, ◌++◌, length, Ok, refl}
use Rattle.std.proofs.Common.{subst, ap, arith}
use Rattle.std.proofs.lemmas.Bool.Decides.{Decides-ltb}
use Rattle.eo_base.proofs.ChecksLemmas.{ok_injective, bind_ok, require_then}
use Rattle.eo_base.proofs.Tests.{both, join}
use Rattle.eo_sexp.specs.Sexp.{Sexp}
use Rattle.eo_shape.specs.Shapes.{ParameterShape, RuleShape}
use Rattle.eo_sig.specs.Signature.{Parameter, Macro, Rule, are_ordered}
use Rattle.eo_term.specs.Tree.{Tree, type_tree, uses_only}
use Rattle.eo_names.specs.Contexts.{Context, Local}
use Rattle.eo_elab.specs.Meaning.{meaning}
use Rattle.eo_declare.specs.Declarations.{Bound, unbound, with_parameter, bind, bind_types, defined, defined_fun, defined_sort, declared_rule}
use Rattle.eo_elab.specs.Fitting.{FitsTerms, macro_is_bound}
use Rattle.eo_elab.proofs.Uses.{uses_more}
use Rattle.eo_elab.proofs.SymbolUses.{LocalsWithin}
use Rattle.eo_elab.proofs.MeansUses.{meaning_uses}

-- the first n parameters
abbrev below : ℕ → ℕ → Bool
below n j = nat_lt j n

below_more : (m n : ℕ) → m < suc n → (j : ℕ) → below m j ≡ true → below n j ≡ true
below_more m n h j lt = let less : j < m = (Decides-ltb j m).0 lt in (Decides-ltb j n).1 (omega (arith, h, less))

locals_more : (m n : ℕ) → m < suc n → (ls : List Local) → LocalsWithin (below m) ls → LocalsWithin (below n) ls
locals_more m n h [] l = refl
locals_more m n h (x ∷ ls) l =
    join (uses_more (below m) (below n) (below_more m n h) x.tree (both l).0) (locals_more m n h ls (both l).1)

-- one parameter more, whose type uses those before it
ordered_last : (i m : ℕ) (ps : List Parameter) (p : Parameter) → m ≡ i + length ps → are_ordered i ps ≡ true →
    uses_only (below m) p.type ≡ true → are_ordered i (ps ++ p ∷ []) ≡ true
ordered_last i m [] p e h u =
    let same : m ≡ i = omega (arith, e) in
    join (subst (λ (k : ℕ). uses_only (below k) p.type ≡ true) same u) refl
ordered_last i m (q ∷ ps) p e h u = join (both h).0 (ordered_last (suc i) m ps p (omega (arith, e)) (both h).1 u)

length_last : (ps : List Parameter) (p : Parameter) → length (ps ++ p ∷ []) ≡ suc (length ps)
length_last [] p = refl
length_last (q ∷ ps) p = ap suc (length_last ps p)

-- The parameters that were read are in order, and their names mean them alone.
record BoundFits (b : Bound) : Type 0 where
  ordered : are_ordered 0 b.parameters ≡ true
  locals : LocalsWithin (below (length b.parameters)) b.locals

unbound_fits : BoundFits unbound
unbound_fits = record { ordered = refl; locals = refl }

parameter_fits : (b : Bound) (p : Parameter) → BoundFits b → uses_only (below (length b.parameters)) p.type ≡ true →
    BoundFits (with_parameter b p)
parameter_fits b p h u =
    let n = length b.parameters in
    let more = length (b.parameters ++ p ∷ []) in
    let longer : more ≡ suc n = length_last b.parameters p in
    record {
      ordered = ordered_last 0 n b.parameters p (omega arith) h.ordered u;
      locals = join ((Decides-ltb n more).1 (omega (arith, longer))) (locals_more n more (omega (arith, longer)) b.locals h.locals);
    }

types_fit : (names : List (List ℕ)) (b d : Bound) → BoundFits b → bind_types b names ≡ Ok d → BoundFits d
types_fit [] b d h e = subst BoundFits (ok_injective b d e) h
types_fit (name ∷ names) b d h e =
    let free = require_then _ _ _ d e in
    let q : Parameter = record { name = name; type = type_tree; implicit = false; list = false } in
    types_fit names (with_parameter b q) d (parameter_fits b q h refl) free.1

module _ (c : Context) (fits : FitsTerms c) where
  body_fits : (b : Bound) → BoundFits b → (s : Sexp) (t : Tree) → meaning c b.locals s ≡ Ok t →
      uses_only (below (length b.parameters)) t ≡ true
  body_fits b h s t e = meaning_uses (below (length b.parameters)) c fits b.locals h.locals s t e

  bind_fits : (ps : List ParameterShape) (b d : Bound) → BoundFits b → bind c b ps ≡ Ok d → BoundFits d
  bind_fits [] b d h e = subst BoundFits (ok_injective b d e) h
  bind_fits (p ∷ ps) b d h e =
      let free = require_then _ _ _ d e in
      let t = bind_ok (meaning c b.locals p.type) _ d free.1 in
      let q : Parameter = record { name = p.name; type = t.0; implicit = p.implicit; list = p.list } in
      bind_fits ps (with_parameter b q) d (parameter_fits b q h (body_fits b h p.type t.0 t.1)) t.2

  -- a macro's tree uses its own parameters alone
  pub defined_fits : (name : List ℕ) (shapes : List ParameterShape) (body : Sexp) (m : Macro) → defined c name shapes body ≡ Ok m →
      macro_is_bound m ≡ true
  unfolding defined
  defined_fits name shapes body m e =
      let free = require_then _ _ _ m e in
      let few = require_then _ _ _ m free.1 in
      let b = bind_ok (bind c unbound shapes) _ m few.1 in
      let t = bind_ok (meaning c b.0.locals body) _ m b.2 in
      subst (λ (x : Macro). macro_is_bound x ≡ true) (ok_injective _ m t.2)
      (body_fits b.0 (bind_fits shapes unbound b.0 unbound_fits b.1) body t.0 t.1)

  pub defined_fun_fits : (name : List ℕ) (shapes : List ParameterShape) (output body : Sexp) (m : Macro) → defined_fun c name shapes output body ≡ Ok m →
      macro_is_bound m ≡ true
  unfolding defined_fun
  defined_fun_fits name shapes output body m e =
      let free = require_then _ _ _ m e in
      let few = require_then _ _ _ m free.1 in
      let b = bind_ok (bind c unbound shapes) _ m few.1 in
      let type = bind_ok (meaning c b.0.locals output) _ m b.2 in
      let t = bind_ok (meaning c b.0.locals body) _ m type.2 in
      subst (λ (x : Macro). macro_is_bound x ≡ true) (ok_injective _ m t.2)
      (body_fits b.0 (bind_fits shapes unbound b.0 unbound_fits b.1) body t.0 t.1)

  pub defined_sort_fits : (name : List ℕ) (names : List (List ℕ)) (type : Sexp) (m : Macro) → defined_sort c name names type ≡ Ok m →
      macro_is_bound m ≡ true
  unfolding defined_sort
  defined_sort_fits name names type m e =
      let free = require_then _ _ _ m e in
      let few = require_then _ _ _ m free.1 in
      let b = bind_ok (bind_types unbound names) _ m few.1 in
      let t = bind_ok (meaning c b.0.locals type) _ m b.2 in
      subst (λ (x : Macro). macro_is_bound x ≡ true) (ok_injective _ m t.2)
      (body_fits b.0 (types_fit names unbound b.0 unbound_fits b.1) type t.0 t.1)

  -- the type of each parameter of a rule uses earlier ones alone
  pub declared_rule_ordered : (s : RuleShape) (r : Rule) → declared_rule c s ≡ Ok r → are_ordered 0 r.parameters ≡ true
  unfolding declared_rule
  declared_rule_ordered s r e =
      let free = require_then _ _ _ r e in
      let few = require_then _ _ _ r free.1 in
      let b = bind_ok (bind c unbound s.parameters) _ r few.1 in
      let assumed = bind_ok _ _ r b.2 in
      let premises = bind_ok _ _ r assumed.2 in
      let arguments = bind_ok _ _ r premises.2 in
      let requirements = bind_ok _ _ r arguments.2 in
      let conclusion = bind_ok _ _ r requirements.2 in
      let shape = bind_ok _ _ r conclusion.2 in
      subst (λ (x : Rule). are_ordered 0 x.parameters ≡ true) (ok_injective _ r shape.2)
      (bind_fits s.parameters unbound b.0 unbound_fits b.1).ordered
