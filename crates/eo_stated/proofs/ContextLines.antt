-- Contexts, and what holds in them, by lines.
use Rattle.std.proofs.Common.{◌≡◌, refl, ℕ, Bool, true, false, List, get_or, Option, Some, None, sym, ap, ◌∙◌}
use Rattle.std.specs.Prelude.{option_and_then, is_some, slice_get, unwrap_or}
use Rattle.std.proofs.lemmas.Option.{unwrap_or-slice_get}
use Rattle.eo_term.specs.Tree.{Tree, is_value, bool_tree, tree_eq}
use Rattle.eo_sig.specs.Signature.{Signature}
use Rattle.eo_type.specs.Types.{type_of}
use Rattle.eo_cert.specs.Stated.{Stated, Context, signature, context_at, term_at, with_context, with_derivation, is_in_force, when, outermost}
use Rattle.eo_cert.specs.Uses.{context_line, cited_line, is_formula, is_typed, inside}
use Rattle.eo_stated.specs.Checking.{context_of}

module _ {X T S : Type 0} (test : X → T → Bool) (make : X → T → S) where
  -- the first, then the second, then the test
  abbrev pub chain : Option X → Option T → Option S
  chain o p = option_and_then (λ x. option_and_then (λ t. option_and_then (λ _. Some (make x t)) (when (test x t))) p) o

  no_second : (o : Option X) → chain o None ≡ None
  no_second None = refl
  no_second (Some x) = refl

  no_first : (o : Option X) (p : Option T) → is_some o ≡ false → chain o p ≡ None
  no_first None p h = refl
  no_first (Some x) p h = cc

  refuses : (b : Bool) (s : S) → b ≡ false → option_and_then (λ _. Some s) (when b) ≡ None
  refuses true s h = cc
  refuses false s h = refl

  passes : (b : Bool) (s : S) → b ≡ true → option_and_then (λ _. Some s) (when b) ≡ Some s
  passes true s h = refl
  passes false s h = cc

some_at : {X : Type 0} (xs : List X) (n : ℕ) (d : X) → is_some (slice_get xs n) ≡ true → slice_get xs n ≡ Some (get_or xs n d)
some_at xs n d h = some_of (slice_get xs n) d h ∙ ap Some (unwrap_or-slice_get xs n d)
  where
    some_of : {X : Type 0} (o : Option X) (d : X) → is_some o ≡ true → o ≡ Some (unwrap_or o d)
    some_of None d h = cc
    some_of (Some x) d h = refl

module _ (st : Stated) (c n : ℕ) where
  abbrev cited_test : Context → Tree → Bool
  cited_test x t = is_in_force st x t

  abbrev cited_make : Context → Tree → Stated
  cited_make x t = with_derivation st c t

  abbrev context_test : Context → Tree → Bool
  context_test x t = is_formula (signature st) t

  abbrev context_make : Context → Tree → Stated
  context_make x t = with_context st (inside c x t)

  pub cited_no_term : None ≡ term_at st n → cited_line st c n ≡ None
  unfolding cited_line
  cited_no_term e = ap (chain cited_test cited_make (context_at st c)) (sym e) ∙ no_second cited_test cited_make (context_at st c)

  pub cited_no_context : is_some (context_at st c) ≡ false → cited_line st c n ≡ None
  unfolding cited_line
  cited_no_context e = no_first cited_test cited_make (context_at st c) (term_at st n) e

  pub cited_refused : (t : Tree) → Some t ≡ term_at st n → is_some (context_at st c) ≡ true → is_in_force st (context_of st.contexts c) t ≡ false → cited_line st c n ≡ None
  unfolding cited_line
  cited_refused t e there h =
      let x = context_of st.contexts c in
      (λ i. chain cited_test cited_make (some_at st.contexts c outermost there i) (sym e i)) ∙ refuses cited_test cited_make (is_in_force st x t) (cited_make x t) h

  pub cited_done : (t : Tree) → Some t ≡ term_at st n → is_some (context_at st c) ≡ true → is_in_force st (context_of st.contexts c) t ≡ true
      → cited_line st c n ≡ Some (with_derivation st c t)
  unfolding cited_line
  cited_done t e there h =
      let x = context_of st.contexts c in
      (λ i. chain cited_test cited_make (some_at st.contexts c outermost there i) (sym e i)) ∙ passes cited_test cited_make (is_in_force st x t) (cited_make x t) h

  pub context_no_term : None ≡ term_at st n → context_line st c n ≡ None
  unfolding context_line
  context_no_term e = ap (chain context_test context_make (context_at st c)) (sym e) ∙ no_second context_test context_make (context_at st c)

  pub context_no_context : is_some (context_at st c) ≡ false → context_line st c n ≡ None
  unfolding context_line
  context_no_context e = no_first context_test context_make (context_at st c) (term_at st n) e

  pub context_refused : (t : Tree) → Some t ≡ term_at st n → is_some (context_at st c) ≡ true → is_formula (signature st) t ≡ false → context_line st c n ≡ None
  unfolding context_line
  context_refused t e there h =
      let x = context_of st.contexts c in
      (λ i. chain context_test context_make (some_at st.contexts c outermost there i) (sym e i)) ∙ refuses context_test context_make (is_formula (signature st) t) (context_make x t) h

  pub context_done : (t : Tree) → Some t ≡ term_at st n → is_some (context_at st c) ≡ true → is_formula (signature st) t ≡ true
      → context_line st c n ≡ Some (with_context st (inside c (context_of st.contexts c) t))
  unfolding context_line
  context_done t e there h =
      let x = context_of st.contexts c in
      (λ i. chain context_test context_make (some_at st.contexts c outermost there i) (sym e i)) ∙ passes context_test context_make (is_formula (signature st) t) (context_make x t) h

-- a value is a formula exactly where its type is `Bool`, over an equal signature
pub formula_by : (S R : Signature) (t : Tree) (b : Bool) → S ≡ R → is_value t ≡ true → b ≡ is_typed (type_of S t) (λ u. tree_eq u bool_tree) → b ≡ is_formula R t
formula_by S R t b e h g = rw h (rw (← e) g)
