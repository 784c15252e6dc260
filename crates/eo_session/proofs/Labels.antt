-- The names that the terms of an assertion give themselves may be those of macros, one after another.
use Rattle.std.specs.Prelude.{◌≡◌, ℕ, suc, Bool, true, false, not, ◌&&◌, ◌||◌, List, [], ◌∷◌, ◌++◌, map, Option, Some, None, is_none, option_map, position, length, nat_lt, cond, ◌+◌, bytes_eq, refl}
use Rattle.std.specs.List.{list_all, list_any, position_or_len}
use Rattle.std.specs.Option.{option_or}
use Rattle.std.proofs.Common.{sym, ap, subst, ◌∙◌, true≢false, arith}
use Rattle.std.proofs.lemmas.Bool.{and_parts}
use Rattle.std.proofs.lemmas.Bool.Decides.{nat_tests}
use Rattle.std.proofs.lemmas.List.{append-nil, append_assoc, map-append}
use Rattle.std.proofs.lemmas.List.Folds.{list_any-append}
use Rattle.eo_base.proofs.Tests.{bytes_eq-flip}
use Rattle.eo_elab.specs.Fitting.{named_term_is_closed, are_free}
use Rattle.eo_elab.specs.Meaning.{is_free_named_term}
use Rattle.eo_names.specs.Contexts.{Context, InAssert}
use Rattle.eo_names.specs.Readers.{NamedTerm}
use Rattle.eo_sig.specs.Signature.{Signature, Macro, NamesConstant, NamesMacro, NamesProgram, constant_named, macro_named, program_named, is_reserved, is_free}
use Rattle.eo_session.specs.Asserting.{AreNew, MayBeNames}
use Rattle.eo_session.specs.State.{State, context_in}
use Rattle.eo_session.specs.Step.{named_term_macro}

-- whether there is a first place
module _ {X : Type 0} (p : X → Bool) where
  any_position : (xs : List X) → list_any p xs ≡ nat_lt (position_or_len p xs) (length xs)
  any_position [] = refl
  any_position (x ∷ xs) = by (p x) (any_position xs)
    where
      by : (b : Bool) → list_any p xs ≡ nat_lt (position_or_len p xs) (length xs) → (b || list_any p xs) ≡ nat_lt (cond (not b) (1 + position_or_len p xs) 0) (suc (length xs))
      by true h = grind (arith, nat_tests)
      by false h = h ∙ grind (arith, nat_tests)

  none_position : (xs : List X) → is_none (position p xs) ≡ not (list_any p xs)
  none_position xs = by (nat_lt (position_or_len p xs) (length xs)) ∙ ap not (sym (any_position xs))
    where
      by : (b : Bool) → is_none (cond b (Some (position_or_len p xs)) None) ≡ not b
      by true = refl
      by false = refl

no_position : (name : List ℕ) (ms : List Macro) (m : Macro) → is_none (macro_named ms name) ≡ true → bytes_eq name m.name ≡ false → is_none (macro_named (ms ++ m ∷ []) name) ≡ true
no_position name ms m h e =
    let test = λ (m : Macro). bytes_eq name m.name in
    none_position test (ms ++ m ∷ [])
    ∙ ap not (list_any-append test ms (m ∷ []))
    ∙ (λ i. not (list_any test ms || (e i || false)))
    ∙ last (list_any test ms)
    ∙ sym (none_position test ms)
    ∙ h
  where
    last : (b : Bool) → not (b || (false || false)) ≡ not b
    last true = refl
    last false = refl

pub free_macro : (S : Signature) (ms : List Macro) (m : Macro) (name : List ℕ) → is_free S ms name ≡ true → bytes_eq name m.name ≡ false → is_free S (ms ++ m ∷ []) name ≡ true
free_macro S ms m name h e =
    by (is_reserved name) (constant_named S name) (macro_named ms name) (macro_named (ms ++ m ∷ []) name) (program_named S name) (λ q. no_position name ms m q e) h
  where
    by : (r : Bool) (o a b p : Option ℕ) → (is_none a ≡ true → is_none b ≡ true) →
        (not r && is_none (option_or (option_map NamesConstant o) (option_or (option_map NamesMacro a) (option_map NamesProgram p)))) ≡ true →
        (not r && is_none (option_or (option_map NamesConstant o) (option_or (option_map NamesMacro b) (option_map NamesProgram p)))) ≡ true
    by true o a b p f h = h
    by false (Some k) a b p f h = h
    by false None (Some k) b p f h = absurd (true≢false (sym h))
    by false None None None p f h = h
    by false None None (Some k) p f h = absurd (true≢false (sym (f refl)))

none_named : (a b : Bool) → not (a || b) ≡ true → (a ≡ false) × (not b ≡ true)
none_named true b h = absurd (true≢false (sym h))
none_named false b h = (refl, h)

-- a name that is free, and none of these, is free once these are macros
free_macros : (S : Signature) (ms : List Macro) (before : List NamedTerm) (name : List ℕ) → is_free S ms name ≡ true → not (list_any (λ l. bytes_eq l.name name) before) ≡ true →
    is_free S (ms ++ map named_term_macro before) name ≡ true
free_macros S ms [] name free new = ap (λ (ns : List Macro). is_free S ns name) (append-nil ms) ∙ free
free_macros S ms (l ∷ ls) name free new =
    let p = none_named (bytes_eq l.name name) (list_any (λ l. bytes_eq l.name name) ls) new in
    ap (λ (ns : List Macro). is_free S ns name) (sym (append_assoc ms (named_term_macro l ∷ []) (map named_term_macro ls)))
    ∙ free_macros S (ms ++ named_term_macro l ∷ []) ls name (free_macro S ms (named_term_macro l) name free (bytes_eq-flip name l.name ∙ p.0)) p.1

are_new : (c : Context) (before named_terms : List NamedTerm) → are_free c before named_terms ≡ true → list_all named_term_is_closed named_terms ≡ true → AreNew c.signature (c.macros ++ map named_term_macro before) named_terms
are_new c before [] free closed = tt
are_new c before (l ∷ ls) free closed =
    let p = and_parts (is_free_named_term c before l.name) (are_free c (before ++ l ∷ []) ls) free in
    let q = and_parts (is_free c.signature c.macros l.name) (not (list_any (λ (k : NamedTerm). bytes_eq k.name l.name) before)) p.0 in
    let k = and_parts (named_term_is_closed l) (list_all named_term_is_closed ls) closed in
    let more = ap (λ (ns : List Macro). c.macros ++ ns) (map-append named_term_macro before (l ∷ [])) ∙ sym (append_assoc c.macros (map named_term_macro before) (named_term_macro l ∷ [])) in (
      record { free = free_macros c.signature c.macros before l.name q.0 q.1; closed = k.0 },
      subst (λ (ns : List Macro). AreNew c.signature ns ls) more (are_new c (before ++ l ∷ []) ls p.1 k.1),
    )

pub assertion_names : (st : State) (named_terms : List NamedTerm) → are_free (context_in st InAssert) [] named_terms ≡ true → list_all named_term_is_closed named_terms ≡ true → MayBeNames st named_terms
assertion_names st named_terms free closed =
    subst (λ (ns : List Macro). AreNew st.signature ns named_terms) (append-nil st.macros) (are_new (context_in st InAssert) [] named_terms free closed)
