-- Contexts, and what is in them.
use Rattle.std.specs.Prelude.{◌≡◌, ℕ, Bool, true, false, ◌||◌, nat_eq, List, [], ◌∷◌, ◌++◌, Some, Contains, refl}
use Rattle.std.specs.List.{list_any}
use Rattle.std.proofs.Common.{sym, ◌∙◌, subst, arith, inl, inr}
use Rattle.std.proofs.lemmas.Bool.Decides.{Decides-eqb}
use Rattle.std.proofs.lemmas.List.Elements.{Contains-append_left, Contains-append_right, Contains-append_cases}
use Rattle.std.proofs.lemmas.Option.{same_Some}
use Rattle.eo_base.proofs.Tests.{clash, from_either}
use Rattle.eo_term.specs.Tree.{Tree, tree_eq}
use Rattle.eo_term.proofs.Equality.{tree_decides}
use Rattle.eo_sig.specs.Signature.{Signature}
use Rattle.eo_rule.specs.Derivability.{Derives, by_assumption}
use Rattle.eo_rule.proofs.Grows.{AllIn, derives_from_more}
use Rattle.eo_cert.specs.Stated.{Context, Derivation, Stated, signature, assertions, term_at, context_at, reaches, outermost, in_force, is_in_force, with_context, with_derivation}
use Rattle.eo_cert.specs.Uses.{is_formula, inside, context_line, cited_line}
use Rattle.eo_cert.proofs.Chains.{some_then, when_then, AtEach, at_more, found_more}
use Rattle.eo_cert.proofs.InstanceSound.{formula_is}
use Rattle.eo_cert.proofs.Right.{IsInside, IsContext, IsDerived, IsRight}

-- ---- members

pub contains_next : (t : Tree) (ts : List Tree) (x : Tree) → Contains ts x → Contains (t ∷ ts) x
contains_next t ts x c = Contains-append_right (t ∷ []) ts x c

-- what is in the first is in both, in front of the same formulas
pub all_in_front : (ts us Γ : List Tree) → AllIn ts us → AllIn (ts ++ Γ) (us ++ Γ)
all_in_front ts us Γ h x c =
    elim (Contains-append_cases ts Γ x c) [ inl a ↦ Contains-append_left us Γ x (h x a) | inr b ↦ Contains-append_right us Γ x b ]

pub found_contains : (ts : List Tree) (t : Tree) → list_any (tree_eq t) ts ≡ true → Contains ts t
found_contains [] t h = clash h
found_contains (u ∷ ts) t h =
    from_either (tree_eq t u) (list_any (tree_eq t) ts) (λ a. (0, omega arith, sym ((tree_decides t u).0 a))) (λ b. contains_next u ts t (found_contains ts t b)) h

-- ---- contexts

inside_more : (contexts : List Context) (S : Signature) (c : Context) (cs : List ℕ) (ts : List Tree) → IsInside contexts S cs ts → IsInside (contexts ++ c ∷ []) S cs ts
inside_more contexts S c [] [] h = tt
inside_more contexts S c (n ∷ cs) (t ∷ ts) h = (found_more contexts c n (record { outer = cs; assumed = ts }) h.0, h.1)
inside_more contexts S c [] (t ∷ ts) h = absurd h
inside_more contexts S c (n ∷ cs) [] h = absurd h

-- what is derived stays derived with a context more
derived_more : (st : Stated) (c : Context) (d : Derivation) → IsDerived st d → IsDerived (with_context st c) d
derived_more st c d h = (h.0, found_more st.contexts c d.context h.0 h.1, h.2)

pub context_right : (st new : Stated) (c n : ℕ) → IsRight st → context_line st c n ≡ Some new → IsRight new
unfolding context_line
context_right st new c n h e =
    let context = some_then (context_at st c) _ new e in
    let t = some_then (term_at st n) _ new context.2 in
    let w = when_then (is_formula (signature st) t.0) _ new t.2 in
    let made : Context = inside c context.0 t.0 in
    subst IsRight (same_Some (with_context st made) new w.1) (record {
      low = h.low;
      few = h.few;
      block = h.block;
      checked = h.checked;
      first = found_more st.contexts made 0 outermost h.first;
      contexts = at_more (IsContext (with_context st made)) st.contexts made (λ m x q. inside_more st.contexts (signature st) made x.outer x.assumed (h.contexts m x q))
          (found_more st.contexts made c context.0 context.1, formula_is (signature st) t.0 w.0);
      derivations = λ m d q. derived_more st made d (h.derivations m d q);
    })

-- ---- derivations

pub derivation_right : (st : Stated) (c : ℕ) (t : Tree) (context : Context) → IsRight st → context_at st c ≡ Some context → Derives (signature st) (in_force st context) t → IsRight (with_derivation st c t)
derivation_right st c t context h at derives = record {
  low = h.low;
  few = h.few;
  block = h.block;
  checked = h.checked;
  first = h.first;
  contexts = h.contexts;
  derivations = at_more (IsDerived st) st.derivations (record { context = c; formula = t }) h.derivations (context, at, derives);
}

pub cited_right : (st new : Stated) (c n : ℕ) → IsRight st → cited_line st c n ≡ Some new → IsRight new
unfolding cited_line
cited_right st new c n h e =
    let context = some_then (context_at st c) _ new e in
    let t = some_then (term_at st n) _ new context.2 in
    let w = when_then (is_in_force st context.0 t.0) _ new t.2 in
    subst IsRight (same_Some (with_derivation st c t.0) new w.1)
    (derivation_right st c t.0 context.0 h context.1 (by_assumption (found_contains (in_force st context.0) t.0 w.0)))

-- ---- what reaches a context

outer_found : (st : Stated) → AtEach (IsContext st) st.contexts → (cs : List ℕ) (ts : List Tree) → IsInside st.contexts (signature st) cs ts → (d : ℕ) → list_any (nat_eq d) cs ≡ true → (context : Context) × (context_at st d ≡ Some context) × AllIn context.assumed ts
outer_found st all [] ts h d is = clash is
outer_found st all (c ∷ cs) [] h d is = absurd h
outer_found st all (c ∷ cs) (t ∷ ts) h d is = by (nat_eq d c) refl is (outer_found st all cs ts (all c here h.0) d)
  where
    here : Context
    here = record { outer = cs; assumed = ts }

    by : (b : Bool) → nat_eq d c ≡ b → (b || list_any (nat_eq d) cs) ≡ true → (list_any (nat_eq d) cs ≡ true → (context : Context) × (context_at st d ≡ Some context) × AllIn context.assumed ts) → (context : Context) × (context_at st d ≡ Some context) × AllIn context.assumed (t ∷ ts)
    by true p q rest = (here, subst (λ (k : ℕ). context_at st k ≡ Some here) (sym ((Decides-eqb d c).0 p)) h.0, λ x m. contains_next t ts x m)
    by false p q rest = let r = rest q in (r.0, r.1, λ x m. contains_next t ts x (r.2 x m))

-- a derivation that reaches a context is one from what is there
pub reached : (st : Stated) (c : ℕ) (context : Context) (d : Derivation) → IsRight st → context_at st c ≡ Some context → reaches c context d.context ≡ true → IsDerived st d → Derives (signature st) (in_force st context) d.formula
reached st c context d h at is own =
    from_either (nat_eq d.context c) (list_any (nat_eq d.context) context.outer) same outer is
  where
    from : (other : Context) → context_at st d.context ≡ Some other → AllIn other.assumed context.assumed → Derives (signature st) (in_force st context) d.formula
    from other found in_it =
        let e = same_Some own.0 other (sym own.1 ∙ found) in
        derives_from_more (in_force st context) (all_in_front other.assumed context.assumed (assertions st) in_it)
        (subst (λ (x : Context). Derives (signature st) (in_force st x) d.formula) e own.2)

    same : nat_eq d.context c ≡ true → Derives (signature st) (in_force st context) d.formula
    same p = from context (subst (λ (k : ℕ). context_at st k ≡ Some context) (sym ((Decides-eqb d.context c).0 p)) at) (λ x m. m)

    outer : list_any (nat_eq d.context) context.outer ≡ true → Derives (signature st) (in_force st context) d.formula
    outer p = let r = outer_found st h.contexts context.outer context.assumed (h.contexts c context at) d.context p in from r.0 r.1 r.2
