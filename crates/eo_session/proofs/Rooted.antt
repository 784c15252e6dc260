-- The trees of what is held, and what holds of each of them.
use Rattle.std.proofs.Common.{◌≡◌, refl, sym, ap, subst, ◌∙◌, inl, inr, ℕ, suc, ◌+◌, ◌<◌, ◌≤◌, Bool, true, false, List, [], ◌∷◌, ◌++◌, length, map, take, drop, Contains, All, arith}
use Rattle.std.specs.Prelude.{flat_map, filter_map, if◌then◌else◌}
use Rattle.std.proofs.lemmas.Map.Views.{Contains-from_any}
use Rattle.std.proofs.lemmas.List.{map-append, append-nil}
use Rattle.std.proofs.lemmas.List.Elements.{All-nil, All-cons, All-head, All-tail, All-append, All-map, All-weaker, All-take, All-drop, Contains-append_left, Contains-append_right, Contains-append_cases}
use Rattle.eo_term.specs.Terms.{tree_at}
use Rattle.eo_term.specs.Tree.{Tree, Con, tree_eq}
use Rattle.eo_sig.specs.declared.records.ConstDecl.{ConstDecl}
use Rattle.eo_sig.specs.declared.records.MacroDecl.{MacroDecl}
use Rattle.eo_sig.specs.declared.records.ProgramDecl.{ProgramDecl}
use Rattle.eo_sig.specs.declared.records.RuleDecl.{RuleDecl}
use Rattle.eo_sig.specs.declared.records.Declared.{Declared}
use Rattle.eo_sig.specs.declared.records.Declared.TheVariants as declared
use Rattle.eo_sig.specs.Reading.{Kept, read_constant, read_macro, read_program, read_rule, read_entry, signature, macros, const_of, constants_of, ConstBelow, MacroBelow, ProgramBelow, RuleBelow, EntryBelow, IsBelow}
use Rattle.eo_sig.specs.Signature.{Signature, SignatureEntry, IsConstant, IsProgram, IsRule, IsLiteralType, Macro, constants}
use Rattle.eo_proof.specs.declared.facts.Begun.{Begun}
use Rattle.eo_proof.specs.Kept as fact
use Rattle.eo_proof.specs.Kept.{NamedId, read_fact, outer_facts, opened, scopes, AreBelow}
use Rattle.eo_proof.specs.Scopes.{Fact, Scope, Scopes, opened_facts, formulas, with_fact, with_scope, in_innermost, fact as one_fact}
use Rattle.eo_reclaim.specs.Moving.{constant_ids, macro_ids, program_ids, rule_ids}
use Rattle.eo_reclaim.specs.Trees.{constant_trees, macro_trees, program_trees, rule_trees}
use Rattle.eo_reclaim.proofs.Moved.{constant_read, constant_terms, macro_read, macro_terms, program_read, program_terms, rule_read, rule_terms}
use Rattle.eo_session.specs.Roots.{entry_trees, own_trees, roots_of, roots}
use Rattle.eo_session.specs.State as state
use Rattle.eo_session.specs.State.{State, with_entry, with_assertion, is_asserted}
use Rattle.eo_session.proofs.Counting.{first}
use Rattle.eo_base.proofs.Elements.{contains_later, contains_split, contains_none}

-- ---- what holds of each term below n holds of each tree that is held

abbrev pub forms : List Fact → List Tree
forms fs = map (λ (f : Fact). f.formula) fs

module _ (ts : List Tree) (n : ℕ) (P : Tree → Type 0) (each : (i : ℕ) → i < n → P (tree_at ts i)) where
  ids : (is : List ℕ) → All (λ i. i < n) is → All P (map (tree_at ts) is)
  ids is a = All-map P (tree_at ts) is (All-weaker (λ i. i < n) (λ i. P (tree_at ts i)) each is a)

  of_constant : (d : ConstDecl) → ConstBelow n d → All P (constant_trees (read_constant ts d))
  of_constant d h = subst (All P) (constant_read ts d) (ids (constant_ids d) (constant_terms n d h))

  of_macro : (d : MacroDecl) → MacroBelow n d → All P (macro_trees (read_macro ts d))
  of_macro d h = subst (All P) (macro_read ts d) (ids (macro_ids d) (macro_terms n d h))

  of_program : (d : ProgramDecl) → ProgramBelow n d → All P (program_trees (read_program ts d))
  of_program d h = subst (All P) (program_read ts d) (ids (program_ids d) (program_terms n d h))

  of_rule : (d : RuleDecl) → RuleBelow n d → All P (rule_trees (read_rule ts d))
  of_rule d h = subst (All P) (rule_read ts d) (ids (rule_ids d) (rule_terms n d h))

  -- of the constants themselves it has to be known
  of_entries : (k : ℕ) (es : List Declared) → All (EntryBelow n) es → ((j : ℕ) → k ≤ j → j < k + length (filter_map const_of es) → P (Con j)) → All P (entry_trees k (map (read_entry ts) es))
  of_entries k [] a c = All-nil P
  of_entries k (declared.Const d m ∷ es) a c =
      let own = constant_trees (read_constant ts d) in
      All-append P (Con k ∷ own) (entry_trees (suc k) (map (read_entry ts) es))
      (All-cons P (Con k) own (c k (omega arith) (omega arith)) (of_constant d (All-head (EntryBelow n) (declared.Const d m) es a)))
      (of_entries (suc k) es (All-tail (EntryBelow n) (declared.Const d m) es a) (λ j l h. c j (omega (arith, l)) (omega (arith, h))))
  of_entries k (declared.Program d ∷ es) a c =
      All-append P (program_trees (read_program ts d)) (entry_trees k (map (read_entry ts) es))
      (of_program d (All-head (EntryBelow n) (declared.Program d) es a)) (of_entries k es (All-tail (EntryBelow n) (declared.Program d) es a) c)
  of_entries k (declared.Rule d ∷ es) a c =
      All-append P (rule_trees (read_rule ts d)) (entry_trees k (map (read_entry ts) es))
      (of_rule d (All-head (EntryBelow n) (declared.Rule d) es a)) (of_entries k es (All-tail (EntryBelow n) (declared.Rule d) es a) c)
  of_entries k (declared.Literal l t ∷ es) a c =
      All-cons P (tree_at ts t) (entry_trees k (map (read_entry ts) es)) (each t (All-head (EntryBelow n) (declared.Literal l t) es a))
      (of_entries k es (All-tail (EntryBelow n) (declared.Literal l t) es a) c)

  of_macros : (ms : List MacroDecl) → All (MacroBelow n) ms → All P (flat_map macro_trees (map (read_macro ts) ms))
  of_macros [] a = All-nil P
  of_macros (m ∷ ms) a =
      All-append P (macro_trees (read_macro ts m)) (flat_map macro_trees (map (read_macro ts) ms)) (of_macro m (All-head (MacroBelow n) m ms a)) (of_macros ms (All-tail (MacroBelow n) m ms a))

  join : (xs ys : List Fact) → All P (forms xs) → All P (forms ys) → All P (forms (xs ++ ys))
  join xs ys a b = subst (All P) (sym (map-append (λ (f : Fact). f.formula) xs ys)) (All-append P (forms xs) (forms ys) a b)

  of_facts : (fs : List NamedId) → All (λ (f : NamedId). f.1.0 < n) fs → All P (forms (map (read_fact ts) fs))
  of_facts fs a =
      All-map P (λ (f : Fact). f.formula) (map (read_fact ts) fs)
      (All-map (λ (f : Fact). P f.formula) (read_fact ts) fs (All-weaker (λ (f : NamedId). f.1.0 < n) (λ (f : NamedId). P (tree_at ts f.1.0)) (λ f. each f.1.0) fs a))

  of_outer : (fs : List NamedId) (bs : List Begun) → All (λ (f : NamedId). f.1.0 < n) fs → All P (forms (map (read_fact ts) (outer_facts fs bs)))
  of_outer fs [] a = of_facts fs a
  of_outer fs (b ∷ bs) a = of_outer (take b.first fs) bs (All-take (λ (f : NamedId). f.1.0 < n) b.first fs a)

  of_opened : (fs : List NamedId) (bs : List Begun) → All (λ (f : NamedId). f.1.0 < n) fs → All P (forms (opened_facts (opened ts fs bs)))
  of_opened fs [] a = All-nil P
  of_opened fs (b ∷ bs) a =
      join (opened_facts (opened ts (take b.first fs) bs)) (map (read_fact ts) (drop b.first fs)) (of_opened (take b.first fs) bs (All-take (λ (f : NamedId). f.1.0 < n) b.first fs a))
      (of_facts (drop b.first fs) (All-drop (λ (f : NamedId). f.1.0 < n) b.first fs a))

  of_scopes : (k : fact.Kept) → AreBelow n k → All P (formulas (scopes ts k))
  unfolding scopes
  of_scopes k h =
      join (map (read_fact ts) (outer_facts k.facts k.begun)) (opened_facts (opened ts k.facts k.begun)) (of_outer k.facts k.begun h.facts) (of_opened k.facts k.begun h.facts)

  pub of_roots : (sg : Kept) (as' : List ℕ) (k : fact.Kept) → IsBelow n sg → All (λ i. i < n) as' → AreBelow n k → ((j : ℕ) → j < length (constants_of sg) → P (Con j))
      → All P (roots_of (signature ts sg) (macros ts sg) (map (tree_at ts) as') (scopes ts k))
  of_roots sg as' k s a f c =
      let es = entry_trees 0 (signature ts sg) in
      let ms = flat_map macro_trees (macros ts sg) in
      let xs = map (tree_at ts) as' in
      All-append P ((es ++ ms) ++ xs) (formulas (scopes ts k))
      (All-append P (es ++ ms) xs (All-append P es ms (of_entries 0 sg.entries s.entries (λ j l h. c j (omega (arith, h)))) (of_macros sg.macros s.macros)) (ids as' a))
      (of_scopes k f)

-- ---- what is added is held

own_held : (k : ℕ) (e : SignatureEntry) (t : Tree) → Contains (own_trees k e) t → Contains (entry_trees k (e ∷ [])) t
own_held k (IsConstant c m) t h = Contains-append_left (Con k ∷ constant_trees c) [] t h
own_held k (IsProgram p) t h = Contains-append_left (program_trees p) [] t h
own_held k (IsRule r) t h = Contains-append_left (rule_trees r) [] t h
own_held k (IsLiteralType class u) t h = h

-- what was held stays
entries_stay : (k : ℕ) (S T : Signature) (t : Tree) → Contains (entry_trees k S) t → Contains (entry_trees k (S ++ T)) t
entries_stay k [] T t h = contains_none t h
entries_stay k (IsConstant c m ∷ S) T t h =
    elim (Contains-append_cases (Con k ∷ constant_trees c) (entry_trees (suc k) S) t h) [
      | inl a ↦ Contains-append_left (Con k ∷ constant_trees c) (entry_trees (suc k) (S ++ T)) t a
      | inr b ↦ Contains-append_right (Con k ∷ constant_trees c) (entry_trees (suc k) (S ++ T)) t (entries_stay (suc k) S T t b)
    ]
entries_stay k (IsProgram p ∷ S) T t h =
    elim (Contains-append_cases (program_trees p) (entry_trees k S) t h) [
      | inl a ↦ Contains-append_left (program_trees p) (entry_trees k (S ++ T)) t a
      | inr b ↦ Contains-append_right (program_trees p) (entry_trees k (S ++ T)) t (entries_stay k S T t b)
    ]
entries_stay k (IsRule r ∷ S) T t h =
    elim (Contains-append_cases (rule_trees r) (entry_trees k S) t h) [
      | inl a ↦ Contains-append_left (rule_trees r) (entry_trees k (S ++ T)) t a
      | inr b ↦ Contains-append_right (rule_trees r) (entry_trees k (S ++ T)) t (entries_stay k S T t b)
    ]
entries_stay k (IsLiteralType class u ∷ S) T t h =
    elim (contains_split u (entry_trees k S) t h) [
      | inl a ↦ first u (entry_trees k (S ++ T)) t a
      | inr b ↦ contains_later u (entry_trees k (S ++ T)) t (entries_stay k S T t b)
    ]

entry_comes : (k : ℕ) (S : Signature) (e : SignatureEntry) (t : Tree) → Contains (own_trees (k + length (constants S)) e) t → Contains (entry_trees k (S ++ e ∷ [])) t
entry_comes k [] e t h = own_held k e t (subst (λ n. Contains (own_trees n e) t) zero_more h)
  where
    zero_more : k + 0 ≡ k
    zero_more = omega arith
entry_comes k (IsConstant c m ∷ S) e t h =
    Contains-append_right (Con k ∷ constant_trees c) (entry_trees (suc k) (S ++ e ∷ [])) t (entry_comes (suc k) S e t (subst (λ n. Contains (own_trees n e) t) one_more h))
  where
    one_more : k + suc (length (constants S)) ≡ suc k + length (constants S)
    one_more = omega arith
entry_comes k (IsProgram p ∷ S) e t h = Contains-append_right (program_trees p) (entry_trees k (S ++ e ∷ [])) t (entry_comes k S e t h)
entry_comes k (IsRule r ∷ S) e t h = Contains-append_right (rule_trees r) (entry_trees k (S ++ e ∷ [])) t (entry_comes k S e t h)
entry_comes k (IsLiteralType class u ∷ S) e t h = contains_later u (entry_trees k (S ++ e ∷ [])) t (entry_comes k S e t h)

macros_stay : (ms ns : List Macro) (t : Tree) → Contains (flat_map macro_trees ms) t → Contains (flat_map macro_trees (ms ++ ns)) t
macros_stay [] ns t h = contains_none t h
macros_stay (m ∷ ms) ns t h =
    elim (Contains-append_cases (macro_trees m) (flat_map macro_trees ms) t h) [
      | inl a ↦ Contains-append_left (macro_trees m) (flat_map macro_trees (ms ++ ns)) t a
      | inr b ↦ Contains-append_right (macro_trees m) (flat_map macro_trees (ms ++ ns)) t (macros_stay ms ns t b)
    ]

macros_come : (ms ns : List Macro) (t : Tree) → Contains (flat_map macro_trees ns) t → Contains (flat_map macro_trees (ms ++ ns)) t
macros_come [] ns t h = h
macros_come (m ∷ ms) ns t h = Contains-append_right (macro_trees m) (flat_map macro_trees (ms ++ ns)) t (macros_come ms ns t h)

-- ---- facts

pub facts_added : (f : Scopes) (name : List ℕ) (t : Tree) (number : ℕ) → formulas (with_fact f name t number) ≡ formulas f ++ t ∷ []
unfolding with_fact
facts_added f name t number = by f.outermost f.opened
  where
    by : (fs : List Fact) (ss : List Scope) → formulas (in_innermost fs ss (one_fact name t number)) ≡ forms (fs ++ opened_facts ss) ++ t ∷ []
    by fs [] = ap forms (append-nil (fs ++ one_fact name t number ∷ [])) ∙ map-append (λ (f : Fact). f.formula) fs (one_fact name t number ∷ []) ∙ ap (λ (xs : List Fact). forms xs ++ t ∷ []) (sym (append-nil fs))
    by fs (s ∷ ss) = at_end fs (opened_facts ss) s.facts
      where
        at_end : (xs ys zs : List Fact) → forms (xs ++ (ys ++ (zs ++ one_fact name t number ∷ []))) ≡ forms (xs ++ (ys ++ zs)) ++ t ∷ []
        at_end [] [] zs = map-append (λ (f : Fact). f.formula) zs (one_fact name t number ∷ [])
        at_end [] (y ∷ ys) zs = ap (λ us. y.formula ∷ us) (at_end [] ys zs)
        at_end (x ∷ xs) ys zs = ap (λ us. x.formula ∷ us) (at_end xs ys zs)

pub facts_begun : (f : Scopes) (name : List ℕ) (t : Tree) (number : ℕ) → formulas (with_scope f name t number) ≡ formulas f ++ t ∷ []
unfolding with_scope
facts_begun f name t number = at_end f.outermost (opened_facts f.opened)
  where
    at_end : (xs ys : List Fact) → forms (xs ++ (ys ++ one_fact name t number ∷ [])) ≡ forms (xs ++ ys) ++ t ∷ []
    at_end [] ys = map-append (λ (f : Fact). f.formula) ys (one_fact name t number ∷ [])
    at_end (x ∷ xs) ys = ap (λ us. x.formula ∷ us) (at_end xs ys)

-- ---- roots

-- what was held is held still, and so is what was added
module _ (S T : Signature) (ms ns : List Macro) (xs ys : List Tree) (f g : Scopes) (t : Tree) where
  abbrev old : List Tree
  old = roots_of S ms xs f

  abbrev new : List Tree
  new = roots_of T ns ys g

  by_entries : Contains (entry_trees 0 T) t → Contains new t
  by_entries h =
      Contains-append_left ((entry_trees 0 T ++ flat_map macro_trees ns) ++ ys) (formulas g) t
      (Contains-append_left (entry_trees 0 T ++ flat_map macro_trees ns) ys t (Contains-append_left (entry_trees 0 T) (flat_map macro_trees ns) t h))

  by_macros : Contains (flat_map macro_trees ns) t → Contains new t
  by_macros h =
      Contains-append_left ((entry_trees 0 T ++ flat_map macro_trees ns) ++ ys) (formulas g) t
      (Contains-append_left (entry_trees 0 T ++ flat_map macro_trees ns) ys t (Contains-append_right (entry_trees 0 T) (flat_map macro_trees ns) t h))

  by_assertions : Contains ys t → Contains new t
  by_assertions h =
      Contains-append_left ((entry_trees 0 T ++ flat_map macro_trees ns) ++ ys) (formulas g) t (Contains-append_right (entry_trees 0 T ++ flat_map macro_trees ns) ys t h)

  by_facts : Contains (formulas g) t → Contains new t
  by_facts h = Contains-append_right ((entry_trees 0 T ++ flat_map macro_trees ns) ++ ys) (formulas g) t h

  roots_more : (Contains (entry_trees 0 S) t → Contains (entry_trees 0 T) t) → (Contains (flat_map macro_trees ms) t → Contains (flat_map macro_trees ns) t) → (Contains xs t → Contains ys t) → (Contains (formulas f) t → Contains (formulas g) t)
      → Contains old t → Contains new t
  roots_more e m a p h =
      elim (Contains-append_cases ((entry_trees 0 S ++ flat_map macro_trees ms) ++ xs) (formulas f) t h) [
        | inl h ↦
            elim (Contains-append_cases (entry_trees 0 S ++ flat_map macro_trees ms) xs t h) [
              | inl h ↦
                  elim (Contains-append_cases (entry_trees 0 S) (flat_map macro_trees ms) t h) [
                    | inl h ↦ by_entries (e h)
                    | inr h ↦ by_macros (m h)
                  ]
              | inr h ↦ by_assertions (a h)
            ]
        | inr h ↦ by_facts (p h)
      ]

module _ (S : Signature) (ms : List Macro) (xs : List Tree) (f : Scopes) (t : Tree) where
  -- one entry more
  module _ (e : SignatureEntry) where
    pub entry_kept : Contains (roots_of S ms xs f) t → Contains (roots_of (S ++ e ∷ []) ms xs f) t
    entry_kept h = roots_more S (S ++ e ∷ []) ms ms xs xs f f t (entries_stay 0 S (e ∷ []) t) (λ h. h) (λ h. h) (λ h. h) h

    pub entry_added : Contains (own_trees (length (constants S)) e) t → Contains (roots_of (S ++ e ∷ []) ms xs f) t
    entry_added h = by_entries S (S ++ e ∷ []) ms ms xs xs f f t (entry_comes 0 S e t (subst (λ n. Contains (own_trees n e) t) no_more h))
      where
        no_more : length (constants S) ≡ 0 + length (constants S)
        no_more = omega arith

  -- more macros
  module _ (ns : List Macro) where
    pub macros_kept : Contains (roots_of S ms xs f) t → Contains (roots_of S (ms ++ ns) xs f) t
    macros_kept h = roots_more S S ms (ms ++ ns) xs xs f f t (λ h. h) (macros_stay ms ns t) (λ h. h) (λ h. h) h

    pub macros_added : Contains (flat_map macro_trees ns) t → Contains (roots_of S (ms ++ ns) xs f) t
    macros_added h = by_macros S S ms (ms ++ ns) xs xs f f t (macros_come ms ns t h)

  -- more assertions
  module _ (ys : List Tree) where
    pub assertions_kept : (Contains xs t → Contains ys t) → Contains (roots_of S ms xs f) t → Contains (roots_of S ms ys f) t
    assertions_kept a h = roots_more S S ms ms xs ys f f t (λ h. h) (λ h. h) a (λ h. h) h

    pub assertion_added : Contains ys t → Contains (roots_of S ms ys f) t
    assertion_added h = by_assertions S S ms ms xs ys f f t h

  -- other facts
  module _ (g : Scopes) (u : Tree) (e : formulas g ≡ formulas f ++ u ∷ []) where
    pub facts_kept : Contains (roots_of S ms xs f) t → Contains (roots_of S ms xs g) t
    facts_kept h =
        roots_more S S ms ms xs xs f g t (λ h. h) (λ h. h) (λ h. h) (λ h. subst (λ ts. Contains ts t) (sym e) (Contains-append_left (formulas f) (u ∷ []) t h)) h

    pub fact_added : Contains (u ∷ []) t → Contains (roots_of S ms xs g) t
    fact_added h = by_facts S S ms ms xs xs f g t (subst (λ ts. Contains ts t) (sym e) (Contains-append_right (formulas f) (u ∷ []) t h))

-- ---- states

module _ (st : State) (u : Tree) where
  module _ (e : SignatureEntry) where
    pub entry_stays : Contains (roots st) u → Contains (roots (with_entry st e)) u
    unfolding roots
    entry_stays h = entry_kept st.signature st.macros st.assertions st.scopes u e h

    pub entry_comes_in : Contains (own_trees (length (constants st.signature)) e) u → Contains (roots (with_entry st e)) u
    unfolding roots
    entry_comes_in h = entry_added st.signature st.macros st.assertions st.scopes u e h

  module _ (ns : List Macro) where
    pub macros_stay_in : Contains (roots st) u → Contains (roots (record st { macros = st.macros ++ ns })) u
    unfolding roots
    macros_stay_in h = macros_kept st.signature st.macros st.assertions st.scopes u ns h

    pub macros_come_in : Contains (flat_map macro_trees ns) u → Contains (roots (record st { macros = st.macros ++ ns })) u
    unfolding roots
    macros_come_in h = macros_added st.signature st.macros st.assertions st.scopes u ns h

  module _ (name : List ℕ) (t : Tree) where
    pub fact_stays : Contains (roots st) u → Contains (roots (state.with_fact st name t)) u
    unfolding roots
    fact_stays h = facts_kept st.signature st.macros st.assertions st.scopes u (with_fact st.scopes name t st.commands) t (facts_added st.scopes name t st.commands) h

    pub fact_comes : Contains (t ∷ []) u → Contains (roots (state.with_fact st name t)) u
    unfolding roots
    fact_comes h = fact_added st.signature st.macros st.assertions st.scopes u (with_fact st.scopes name t st.commands) t (facts_added st.scopes name t st.commands) h

    pub scope_stays : Contains (roots st) u → Contains (roots (state.with_scope st name t)) u
    unfolding roots
    scope_stays h = facts_kept st.signature st.macros st.assertions st.scopes u (with_scope st.scopes name t st.commands) t (facts_begun st.scopes name t st.commands) h

    pub scope_comes : Contains (t ∷ []) u → Contains (roots (state.with_scope st name t)) u
    unfolding roots
    scope_comes h = fact_added st.signature st.macros st.assertions st.scopes u (with_scope st.scopes name t st.commands) t (facts_begun st.scopes name t st.commands) h

  module _ (t : Tree) where
    pub assertion_stays : Contains (roots st) u → Contains (roots (with_assertion st t)) u
    unfolding roots
    assertion_stays h = by (is_asserted st t)
      where
        by : (b : Bool) → Contains (roots (if b then st else record st { assertions = st.assertions ++ t ∷ [] })) u
        by true = h
        by false = assertions_kept st.signature st.macros st.assertions st.scopes u (st.assertions ++ t ∷ []) (Contains-append_left st.assertions (t ∷ []) u) h

    pub assertion_comes : ((x y : Tree) → tree_eq x y ≡ true → x ≡ y) → Contains (t ∷ []) u → Contains (roots (with_assertion st t)) u
    unfolding roots
    assertion_comes exact h = by (is_asserted st t) refl
      where
        there : is_asserted st t ≡ true → Contains st.assertions u
        there e = elim (contains_split t [] u h) [ inl i ↦ subst (Contains st.assertions) i (Contains-from_any exact t st.assertions e) | inr n ↦ contains_none u n ]

        by : (b : Bool) → is_asserted st t ≡ b → Contains (roots (if b then st else record st { assertions = st.assertions ++ t ∷ [] })) u
        by true e = assertion_added st.signature st.macros st.assertions st.scopes u st.assertions (there e)
        by false e = assertion_added st.signature st.macros st.assertions st.scopes u (st.assertions ++ t ∷ []) (Contains-append_right st.assertions (t ∷ []) u h)
