-- What a session does with an assertion.
use Rattle.std.proofs.Common.{◌≡◌, refl, ℕ, zero, suc, ◌<◌, Bool, true, false, List, [], ◌∷◌, ◌++◌, length, map, drop, ap, ◌∙◌}
use Rattle.std.specs.Prelude.{Some, slice_get, Ok, Err, if◌then◌else◌}
use Rattle.std.proofs.lemmas.List.{append_assoc}
use Rattle.std.proofs.lemmas.List.Elements.{All-head, All-tail}
use Rattle.std.proofs.lemmas.Option.{same_Some, none-some}
use Rattle.eo_base.specs.declared.FaultName.{FaultName}
use Rattle.eo_base.specs.Checks.{Checked, ◌>>=◌}
use Rattle.eo_elab.specs.Worlds.{named_terms_in}
use Rattle.eo_names.specs.Names.{Binding, BindingsBelow}
use Rattle.eo_names.specs.Readers.{NamedTerm}
use Rattle.eo_sexp.specs.Sexp.{Sexp}
use Rattle.eo_term.specs.Growth.{tree_in, Grows}
use Rattle.eo_term.specs.Terms.{Terms}
use Rattle.eo_term.specs.Tree.{Tree}
use Rattle.eo_session.specs.Asserting.{read_assertion, MayBeNames}
use Rattle.eo_session.specs.Decisions.{assert_effect, asserted_effect}
use Rattle.eo_session.specs.Effects.{Effect, Asserts}
use Rattle.eo_session.specs.State.{State, is_asserted, with_macro, with_assertion}
use Rattle.eo_session.specs.Step.{formula_of, named_term_macro, with_named_terms}

-- ---- an assertion by its parts

module _ (st : State) (s : Sexp) where
  abbrev as_read : Tree × List NamedTerm → Checked Effect
  as_read r = asserted_effect st r.0 r.1

  pub assert-fault : (name : FaultName) → read_assertion st s ≡ Err name → assert_effect st s ≡ Err name
  unfolding ◌>>=◌
  assert-fault name e = ap (λ m. m >>= as_read) e

  pub assert-is : (t : Tree) (named_terms : List NamedTerm) → read_assertion st s ≡ Ok (t, named_terms) → assert_effect st s ≡ asserted_effect st t named_terms
  unfolding ◌>>=◌
  assert-is t named_terms e = ap (λ m. m >>= as_read) e

module _ (st : State) (t : Tree) (named_terms : List NamedTerm) where
  abbrev with_value : Tree → Checked Effect
  with_value v = Ok (Asserts v named_terms)

  pub asserted-fault : (name : FaultName) → formula_of st t ≡ Err name → asserted_effect st t named_terms ≡ Err name
  unfolding ◌>>=◌
  asserted-fault name e = ap (λ m. m >>= with_value) e

  pub asserted-is : (v : Tree) → formula_of st t ≡ Ok v → asserted_effect st t named_terms ≡ Ok (Asserts v named_terms)
  unfolding ◌>>=◌
  asserted-is v e = ap (λ m. m >>= with_value) e

-- ---- names

-- an assertion makes no name
pub asserted_names : (st : State) (v : Tree) (ls : List NamedTerm) → MayBeNames st ls → MayBeNames (with_assertion st v) ls
asserted_names st v ls h = by (is_asserted st v)
  where
    by : (b : Bool) → MayBeNames (if b then st else record st { assertions = st.assertions ++ v ∷ [] }) ls
    by true = h
    by false = h

pub one_labelled : (st : State) (l : NamedTerm) (ls : List NamedTerm) → with_named_terms (with_macro st (named_term_macro l)) ls ≡ with_named_terms st (l ∷ ls)
one_labelled st l ls = (λ i. record st { macros = append_assoc st.macros (named_term_macro l ∷ []) (map named_term_macro ls) i })

-- ---- names by their places

module _ (t : Terms) where
  abbrev pub named_term_of : Binding → NamedTerm
  named_term_of b = record { name = b.0; tree = tree_in t b.1 }

  pub next_named_term : (names : List Binding) (i : ℕ) (b : Binding) → slice_get names i ≡ Some b → drop i (named_terms_in t names) ≡ named_term_of b ∷ drop (suc i) (named_terms_in t names)
  next_named_term [] i b e = absurd (none-some b e)
  next_named_term (n ∷ names) zero b e = ap (λ (x : Binding). named_term_of x ∷ named_terms_in t names) (same_Some n b e)
  next_named_term (n ∷ names) (suc i) b e = next_named_term names i b e

-- where terms stay, so do the trees of names
pub named_terms_later : (old new : Terms) → Grows old new → (names : List Binding) → BindingsBelow (length old.trees) names → named_terms_in new names ≡ named_terms_in old names
named_terms_later old new grows [] below = refl
named_terms_later old new grows (b ∷ bs) below =
    (λ i. record { name = b.0; tree = grows.now.tree b.1 (All-head (λ (b : Binding). b.1 < length old.trees) b bs below) i } ∷ named_terms_later old new grows bs (All-tail (λ (b : Binding). b.1 < length old.trees) b bs below) i)
