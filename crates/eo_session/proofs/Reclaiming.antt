-- What is held where terms are given back, and where what is carried is added.
use Rattle.std.proofs.Common.{◌≡◌, refl, sym, ap, subst, ◌∙◌, inl, inr, ℕ, suc, ◌<◌, ◌≤◌, Bool, true, false, List, [], ◌∷◌, ◌++◌, length, map, take, drop, get_or, Contains, All, arith}
use Rattle.std.specs.Prelude.{flat_map, filter_map, nat_eq, not, if◌then◌else◌}
use Rattle.std.proofs.Math.Seq.{take-length}
use Rattle.std.proofs.lemmas.List.{append-nil, drop_all, length-take-le, length-take, length-map, length-append, get_or-map, ext_get_or}
use Rattle.std.proofs.lemmas.List.Elements.{All-nil, All-cons, All-head, All-tail, All-from_get_or, Contains-append_left, filter_map-append}
use Rattle.std.proofs.lemmas.Bool.{cases_lt}
use Rattle.std.proofs.lemmas.Bool.Decides.{nat_tests}
use Rattle.eo_base.proofs.Elements.{ids_more, contains_later, contains_split, contains_none}
use Rattle.eo_term.specs.Growth.{tree_in}
use Rattle.eo_term.specs.Terms.{Terms, Since, IsMark, tree_at}
use Rattle.eo_term.specs.Tree.{Tree, Con, subtrees, tree_eq, is_value, is_tall}
use Rattle.eo_term.specs.Carry.{Carried}
use Rattle.eo_sig.specs.declared.records.ConstDecl.{ConstDecl}
use Rattle.eo_sig.specs.declared.records.Counts.{Counts}
use Rattle.eo_sig.specs.declared.records.Declared.{Declared}
use Rattle.eo_sig.specs.declared.records.Declared.TheVariants as declared
use Rattle.eo_sig.specs.declared.records.MacroDecl.{MacroDecl}
use Rattle.eo_sig.specs.Growth.{StaysSince}
use Rattle.eo_sig.specs.Reading.{Kept, IsBelow, with_entry, with_macro, read_entry, read_macro, const_of, constants_of}
use Rattle.eo_sig.specs.Reading.{signature as signature_of, macros as macros_of}
use Rattle.eo_sig.specs.Signature.{Signature, constants}
use Rattle.eo_sig.specs.Usable.{IsUsable}
use Rattle.eo_elab.specs.Fitting.{FitsTerms}
use Rattle.eo_eval.specs.Outcomes.{IsValueOf}
use Rattle.eo_proof.specs.declared.facts.Begun.{Begun}
use Rattle.eo_proof.specs.Kept as fact
use Rattle.eo_proof.specs.Kept.{NamedId, opened, scopes, with_named, with_begun, without_begun, AreBegun, AreBelow}
use Rattle.eo_proof.specs.Scopes.{Scopes, depth, no_facts}
use Rattle.eo_type.specs.Known.{FitsCut, Lasts}
use Rattle.eo_session.specs.declared.store.Store.{Store}
use Rattle.eo_reclaim.specs.declared.ScopeMark.{ScopeMark}
use Rattle.eo_session.specs.Store.{state_of, macro_marks, AreValues, IsHeld, IsExact, IsConsistent, IsSettled, HoldsOnly, Leaves, Carries, named_term_trees}
use Rattle.eo_names.specs.Names.{Binding, with_terms}
use Rattle.eo_names.specs.Readers.{NamedTerm}
use Rattle.eo_elab.specs.Worlds.{named_terms_in}
use Rattle.eo_reclaim.specs.Trees.{macro_trees}
use Rattle.eo_session.specs.Roots.{own_trees, roots}
use Rattle.eo_session.specs.State as state
use Rattle.eo_session.specs.State.{State, context, is_in_scope, is_asserted, with_assertion}
use Rattle.eo_session.specs.Step.{named_term_macro, with_named_terms}
use Rattle.eo_session.proofs.Counting.{first}
use Rattle.eo_session.proofs.Rooted.{entry_stays, entry_comes_in, macros_stay_in, macros_come_in, fact_stays, fact_comes, scope_stays, scope_comes, assertion_stays, assertion_comes}
use Rattle.eo_session.proofs.Alive.{grown_cut, now, own_mark, kept_mark, kept_exact, live_table, all_alive, constants_there, live_alone, live_facts, live_begun, live_macros, named_outside, carried_only}
use Rattle.eo_session.proofs.Scoping.{map_grown, scopes_grown, below_more}

-- ---- a table that is cut at the mark of what is kept, and has grown from there

module _ (h : Store) (whole : IsConsistent h) (stays : (k : Kept) → StaysSince k) where
  abbrev ts : List Tree
  ts = h.table.trees

  abbrev n : ℕ
  n = h.kept.0

  mark : IsMark h.table h.kept
  mark = kept_mark h whole.live

  -- both tables have grown from c, which has the terms before the mark
  module _ (c t : Terms) (first : c.trees ≡ take n ts) (base : Since c h.table) (next : Since c t) where
    few : length c.trees ≡ n
    few = ap length first ∙ length-take-le n ts mark.terms

    abbrev us : List Tree
    us = t.trees

    entries_below : IsBelow (length c.trees) h.signature
    entries_below = subst (λ (xs : List Tree). IsBelow (length xs) h.signature) (sym first) (kept_exact h whole.live).declared

    asserted : All (λ i. i < length c.trees) h.assertions
    asserted = subst (λ (xs : List Tree). All (λ i. i < length xs) h.assertions) (sym first) (kept_exact h whole.live).assertions

    facts : AreBelow (length c.trees) h.facts
    facts = subst (λ (xs : List Tree). AreBelow (length xs) h.facts) (sym first) (kept_exact h whole.live).facts

    signature_same : signature_of us h.signature ≡ signature_of ts h.signature
    signature_same = (stays h.signature c t entries_below next).signature ∙ sym (stays h.signature c h.table entries_below base).signature

    macros_same : macros_of us h.signature ≡ macros_of ts h.signature
    macros_same = (stays h.signature c t entries_below next).macros ∙ sym (stays h.signature c h.table entries_below base).macros

    assertions_same : map (tree_at us) h.assertions ≡ map (tree_at ts) h.assertions
    assertions_same =
        map_grown (tree_at us) (tree_at c.trees) (λ i. i < length c.trees) next.tree h.assertions asserted
        ∙ sym (map_grown (tree_at ts) (tree_at c.trees) (λ i. i < length c.trees) base.tree h.assertions asserted)

    scopes_same : scopes us h.facts ≡ scopes ts h.facts
    scopes_same =
        scopes_grown c.trees us (length c.trees) next.tree h.facts facts ∙ sym (scopes_grown c.trees ts (length c.trees) base.tree h.facts facts)

    pub state_cut : state_of (record h { table = t }) ≡ state_of h
    state_cut =
        (λ i. record (state_of h) { signature = signature_same i; macros = macros_same i; assertions = assertions_same i; scopes = scopes_same i })

    -- the first terms are those before the mark
    pub front_cut : take n us ≡ take n ts
    front_cut = ap (λ k. take k us) (sym few) ∙ next.trees ∙ first

    pub held_cut : (types : List (ℕ × ℕ)) → FitsCut n h.types types → Lasts types → IsHeld (record h { table = t; types = types })
    held_cut types fits lasts =
        let below = (stays h.signature c t entries_below next).below in
        record {
          types = (fits h.signature h.table t (record { below = whole.store.signature; types = whole.store.types }) (subst (λ k. IsBelow k h.signature) few entries_below) mark.terms front_cut).types;
          lasts = lasts;
          usable = subst IsUsable (sym signature_same) whole.store.usable;
          signature = below;
          assertions = ids_more (length c.trees) (length us) next.more_trees h.assertions asserted;
          facts = below_more (length c.trees) (length us) next.more_trees h.facts facts;
          values = subst AreValues (sym scopes_same) whole.store.values;
          marks = whole.store.marks;
          terms = subst (λ (st : State). FitsTerms (context st)) (sym state_cut) whole.store.terms;
        }

  -- the table is cut at the mark
  module _ (t : Terms) (types : List (ℕ × ℕ)) (p : t.trees ≡ take n ts) (q : t.texts ≡ take h.kept.1 h.table.texts) (marks : (m : ℕ × ℕ) → m.0 ≤ h.kept.0 → m.1 ≤ h.kept.1 → IsMark h.table m → IsMark t m) where
    self : Since t t
    self = grown_cut t t (length t.trees) (length t.texts) (sym (take-length t.trees)) (sym (take-length t.texts)) (omega arith) (omega arith)

    base : Since t h.table
    base = grown_cut t h.table n h.kept.1 p q mark.terms mark.texts

    pub released : FitsCut n h.types types → Lasts types → IsSettled (record h { table = t; types = types })
    released fits lasts = record {
      whole = record { store = held_cut t t p base self types fits lasts; live = live_table h whole.live t types (front_cut t t p base self) marks };
      settled = ap length p ∙ length-take-le n ts mark.terms;
    }

    pub released_state : state_of (record h { table = t; types = types }) ≡ state_of h
    released_state = state_cut t t p base self

  -- what is carried stays after the mark
  module _ (t : Terms) (types : List (ℕ × ℕ)) (is js : List ℕ) (carried : Carried h.table h.kept is js t) where
    within : n ≤ length t.trees
    within =
        let cut : length (take n t.trees) ≡ n = ap length carried.kept ∙ length-take-le n ts mark.terms in
        omega (arith, length-take n t.trees, cut)

    -- the table that is cut at the mark
    abbrev cut_table : Terms
    cut_table = record { trees = take n ts; texts = take h.kept.1 h.table.texts }

    kept_grown : Since cut_table h.table
    kept_grown = grown_cut cut_table h.table n h.kept.1 refl refl mark.terms mark.texts

    next : Since cut_table t
    next =
        let cut : length (take h.kept.1 t.texts) ≡ h.kept.1 = ap length carried.kept_texts ∙ length-take-le h.kept.1 h.table.texts mark.texts in
        grown_cut cut_table t n h.kept.1 (sym carried.kept) (sym carried.kept_texts) within (omega (arith, length-take h.kept.1 t.texts, cut))

    pub carries : FitsCut n h.types types → Lasts types → length js ≡ length is → Carries h is js (record h { table = t; types = types })
    carries fits lasts long =
        record {
          leaves = record {
            whole = record {
              store = held_cut cut_table t refl kept_grown next types fits lasts;
              live = live_table h whole.live t types (front_cut cut_table t refl kept_grown next) carried.marks;
            };
            same = state_cut cut_table t refl kept_grown next;
            signature = refl;
            only = carried_only h.table h.kept is js t carried;
          };
          trees =
              ext_get_or (Con 0) (map (tree_in t) js) (map (tree_in h.table) is) (length-map js (tree_in t) ∙ long ∙ sym (length-map is (tree_in h.table)))
              (λ i l.
              let a : i < length js = omega (arith, l, length-map js (tree_in t)) in
              let b : i < length is = omega (arith, a, long) in
              get_or-map (tree_in t) js i 0 (Con 0) a ∙ (carried.roots_kept i 0 b).1 ∙ sym (get_or-map (tree_in h.table) is i 0 (Con 0) b));
          below = All-from_get_or (λ j. j < length t.trees) js 0 (λ i l. (carried.roots_kept i 0 (omega (arith, l, long))).0);
        }

-- ---- outside all scopes

is_zero : (k : ℕ) → not (nat_eq k 0) ≡ false → k ≡ 0
is_zero k e = grind (arith, nat_tests, e)

no_scope : (us : List Tree) (k : fact.Kept) → not (nat_eq (depth (scopes us k)) 0) ≡ false → length k.begun ≡ 0
unfolding scopes
no_scope us k e = by k.facts k.begun (is_zero (length (opened us k.facts k.begun)) e)
  where
    by : (fs : List NamedId) (bs : List Begun) → length (opened us fs bs) ≡ 0 → length bs ≡ 0
    by fs [] e = refl
    by fs (b ∷ bs) e = absurd (omega (arith, e))

pub none_open : (k : fact.Kept) → ((us : List Tree) → scopes us k ≡ no_facts) → length k.begun ≡ 0
unfolding scopes
none_open k e = by k.facts k.begun (ap (λ (f : Scopes). length f.opened) (e []))
  where
    by : (fs : List NamedId) (bs : List Begun) → length (opened [] fs bs) ≡ 0 → length bs ≡ 0
    by fs [] l = refl
    by fs (b ∷ bs) l = absurd (omega (arith, l))

module _ (h : Store) (alone : is_in_scope (state_of h) ≡ false) where
  pub none_begun : length h.facts.begun ≡ 0
  none_begun = no_scope h.table.trees h.facts alone

  pub none_marked : length h.marks ≡ length h.facts.begun → h.marks ≡ []
  none_marked e = by h.marks (e ∙ none_begun)
    where
      by : (ms : List ScopeMark) → length ms ≡ 0 → ms ≡ []
      by [] l = refl
      by (m ∷ ms) l = absurd (omega (arith, l))

-- ---- what is declared

-- how many constants there are does not depend on trees
pub constant_count : (us : List Tree) (es : List Declared) → length (constants (map (read_entry us) es)) ≡ length (filter_map const_of es)
constant_count us [] = refl
constant_count us (declared.Const d m ∷ es) = ap suc (constant_count us es)
constant_count us (declared.Program d ∷ es) = constant_count us es
constant_count us (declared.Rule d ∷ es) = constant_count us es
constant_count us (declared.Literal l t ∷ es) = constant_count us es

-- one entry more, of which a constant is a term that is there
pub constants_more : (us : List Tree) (es : List Declared) (x : Declared) → ((k : ℕ) → k < length (filter_map const_of es) → Contains us (Con k)) → ((d : ConstDecl) (m : Counts) → x ≡ declared.Const d m → Contains us (Con (length (filter_map const_of es)))) → (k : ℕ) → k < length (filter_map const_of (es ++ x ∷ [])) → Contains us (Con k)
constants_more us es x old itself k l = by x itself (subst (λ (ds : List ConstDecl). k < length ds) (filter_map-append const_of es (x ∷ [])) l)
  where
    same : k < length (filter_map const_of es ++ []) → Contains us (Con k)
    same l = old k (subst (λ (ds : List ConstDecl). k < length ds) (append-nil (filter_map const_of es)) l)

    by : (x : Declared) → ((d : ConstDecl) (m : Counts) → x ≡ declared.Const d m → Contains us (Con (length (filter_map const_of es)))) → k < length (filter_map const_of es ++ filter_map const_of (x ∷ [])) → Contains us (Con k)
    by (declared.Const d m) itself l =
        let long = length-append (filter_map const_of es) (d ∷ []) in
        elim (cases_lt k (length (filter_map const_of es))) [
          | inl h ↦ old k h
          | inr h ↦
              let last : length (filter_map const_of es) ≡ k = omega (arith, h, l, long) in
              subst (λ j. Contains us (Con j)) last (itself d m refl)
        ]
    by (declared.Program d) itself l = same l
    by (declared.Rule d) itself l = same l
    by (declared.Literal c t) itself l = same l

-- ---- what is carried is added

-- what is held does not depend on the mark
pub refit : (h : Store) (k : ℕ × ℕ) → IsHeld h → IsHeld (record h { kept = k })
refit h k w = record {
  types = w.types;
  lasts = w.lasts;
  usable = w.usable;
  signature = w.signature;
  assertions = w.assertions;
  facts = w.facts;
  values = w.values;
  marks = w.marks;
  terms = w.terms;
}

-- the formula is asserted, unless it is already
abbrev asserted_by : Store → Tree → Bool → State
asserted_by h t b = if b then state_of h else record (state_of h) { assertions = (state_of h).assertions ++ t ∷ [] }

module _ (h : Store) (whole : IsConsistent h) (stays : (k : Kept) → StaysSince k) where
  -- outside all scopes, where new is held over the same table
  module _ (new : Store) (store : IsHeld new) (table : new.table ≡ h.table) (mark : IsMark new.table (now new.table)) (alone : is_in_scope (state_of new) ≡ false) (marks : new.marks ≡ []) where
    pub whole_alone : (more : List Tree) → HoldsOnly more h → ((k : ℕ) → k < length (constants_of new.signature) → Contains new.table.trees (Con k)) → ((u : Tree) → Contains (roots (state_of h)) u → Contains (roots (state_of new)) u)
        → ((u : Tree) → Contains more u → Contains (roots (state_of new)) u) → IsConsistent (record new { kept = now new.table })
    unfolding roots
    whole_alone more only constants kept added =
        let alive = all_alive h whole.live stays more (roots (state_of new)) only kept added in
        record {
          store = refit new (now new.table) store;
          live =
              live_alone new marks mark (none_begun new alone)
              (record {
                declared = store.signature;
                assertions = store.assertions;
                facts = store.facts;
                constants = constants;
                live = subst (λ (t : Terms). All (Contains (flat_map subtrees (roots (state_of new)))) t.trees) (sym table) alive;
              });
        }

  module _ (mark : IsMark h.table (now h.table)) where
    -- an entry, outside all scopes
    pub whole_put_entry : is_in_scope (state_of h) ≡ false → (sg : Kept) (x : Declared) → sg ≡ with_entry x h.signature → IsHeld (record h { signature = sg }) → state_of (record h { signature = sg }) ≡ state.with_entry (state_of h) (read_entry h.table.trees x)
        → ((d : ConstDecl) (m : Counts) → x ≡ declared.Const d m → Contains h.table.trees (Con (length (constants_of h.signature)))) → HoldsOnly (own_trees (length (constants_of h.signature)) (read_entry h.table.trees x)) h → IsConsistent (record h { signature = sg; kept = now h.table })
    whole_put_entry alone sg x is store state itself only =
        let e = read_entry h.table.trees x in
        let more = own_trees (length (constants_of h.signature)) e in
        let new = record h { signature = sg } in
        let count : length (constants_of h.signature) ≡ length (constants (signature_of h.table.trees h.signature)) = sym (constant_count h.table.trees h.signature.entries) in
        whole_alone new store refl mark alone (none_marked h alone whole.live.scopes) more only
        (subst (λ (s : Kept). (k : ℕ) → k < length (constants_of s) → Contains h.table.trees (Con k)) (sym is) (constants_more h.table.trees h.signature.entries x (constants_there h whole.live stays) itself))
        (λ u c. subst (λ (st : State). Contains (roots st) u) (sym state) (entry_stays (state_of h) u e c))
        (λ u c. subst (λ (st : State). Contains (roots st) u) (sym state) (entry_comes_in (state_of h) u e (subst (λ (n : ℕ). Contains (own_trees n e) u) count c)))

    -- a fact
    module _ (fs : fact.Kept) (store : IsHeld (record h { facts = fs })) where
      exact_facts : (more : List Tree) → HoldsOnly more h → ((u : Tree) → Contains (roots (state_of h)) u → Contains (roots (state_of (record h { facts = fs }))) u) → ((u : Tree) → Contains more u → Contains (roots (state_of (record h { facts = fs }))) u)
          → IsExact (record { trees = h.table.trees; signature = h.signature; assertions = h.assertions; facts = fs })
      unfolding roots
      exact_facts more only kept added = record {
        declared = store.signature;
        assertions = store.assertions;
        facts = store.facts;
        constants = constants_there h whole.live stays;
        live = all_alive h whole.live stays more (roots (state_of (record h { facts = fs }))) only kept added;
      }

      pub whole_put_fact : (f : NamedId) → fs ≡ with_named h.facts f → AreBegun (length h.facts.facts) h.facts.begun → state_of (record h { facts = fs }) ≡ state.with_fact (state_of h) f.0 (tree_in h.table f.1.0) → HoldsOnly (tree_in h.table f.1.0 ∷ []) h → IsConsistent (record h { facts = fs; kept = now h.table })
      whole_put_fact f is begun st only =
          let t = tree_in h.table f.1.0 in
          let exact = exact_facts (t ∷ []) only (λ u c. subst (λ (s : State). Contains (roots s) u) (sym st) (fact_stays (state_of h) u f.0 t c)) (λ u c. subst (λ (s : State). Contains (roots s) u) (sym st) (fact_comes (state_of h) u f.0 t c)) in
          record {
            store = refit (record h { facts = fs }) (now h.table) store;
            live =
                live_facts h whole.live mark fs exact (λ l. ap without_begun is ∙ named_outside h.facts f begun l) (ap (λ (k : fact.Kept). length k.begun) is);
          }

      pub whole_put_scope : (f : NamedId) → fs ≡ with_begun h.facts f → (ms : List ScopeMark) → ms ≡ own_mark h ∷ h.marks → IsHeld (record h { facts = fs; marks = ms }) → state_of (record h { facts = fs; marks = ms }) ≡ state.with_scope (state_of h) f.0 (tree_in h.table f.1.0) → HoldsOnly (tree_in h.table f.1.0 ∷ []) h → IsConsistent (record h { facts = fs; marks = ms; kept = now h.table })
      unfolding roots
      whole_put_scope f is ms e begun st only =
          let t = tree_in h.table f.1.0 in
          let exact = exact_facts (t ∷ []) only (λ u c. subst (λ (s : State). Contains (roots s) u) (sym st) (scope_stays (state_of h) u f.0 t c)) (λ u c. subst (λ (s : State). Contains (roots s) u) (sym st) (scope_comes (state_of h) u f.0 t c)) in
          record { store = refit (record h { facts = fs; marks = ms }) (now h.table) begun; live = live_begun h whole.live mark fs exact f is ms e }

    -- a macro
    pub whole_put_macro : (sg : Kept) (d : MacroDecl) → sg ≡ with_macro d h.signature → IsHeld (record h { signature = sg }) → state_of (record h { signature = sg }) ≡ state.with_macro (state_of h) (read_macro h.table.trees d) → HoldsOnly (macro_trees (read_macro h.table.trees d)) h → IsConsistent (record h { signature = sg; kept = now h.table })
    unfolding roots
    whole_put_macro sg d is store st only =
        let m = read_macro h.table.trees d in
        let rs = roots (state_of (record h { signature = sg })) in
        let kept : (u : Tree) → Contains (roots (state_of h)) u → Contains rs u = (λ u c. subst (λ (s : State). Contains (roots s) u) (sym st) (macros_stay_in (state_of h) u (m ∷ []) c)) in
        let added : (u : Tree) → Contains (macro_trees m) u → Contains rs u = (λ u c. subst (λ (s : State). Contains (roots s) u) (sym st) (macros_come_in (state_of h) u (m ∷ []) (Contains-append_left (macro_trees m) [] u c))) in
        record {
          store = refit (record h { signature = sg }) (now h.table) store;
          live =
              live_macros h whole.live mark sg (record {
                declared = store.signature;
                assertions = store.assertions;
                facts = store.facts;
                constants = subst (λ (s : Kept). (k : ℕ) → k < length (constants_of s) → Contains h.table.trees (Con k)) (sym is) (constants_there h whole.live stays);
                live = all_alive h whole.live stays (macro_trees m) rs only kept added;
              }) whole.store.marks (ap (λ (s : Kept). s.entries) is) (d ∷ []) (ap (λ (s : Kept). s.macros) is);
        }

    -- nothing
    pub whole_put_none : HoldsOnly [] h → IsConsistent (record h { kept = now h.table })
    unfolding roots
    whole_put_none only = record {
      store = refit h (now h.table) whole.store;
      live =
          live_macros h whole.live mark h.signature (record {
            declared = whole.store.signature;
            assertions = whole.store.assertions;
            facts = whole.store.facts;
            constants = constants_there h whole.live stays;
            live = all_alive h whole.live stays [] (roots (state_of h)) only (λ u c. c) (λ u c. contains_none u c);
          }) whole.store.marks refl [] (sym (append-nil h.signature.macros));
    }

    -- an assertion and names of its terms, outside all scopes
    pub whole_put_asserted : ((x y : Tree) → tree_eq x y ≡ true → x ≡ y) → is_in_scope (state_of h) ≡ false → (new : Store) → IsHeld new → new.table ≡ h.table → (t : Tree) (named_terms : List NamedTerm) → state_of new ≡ with_named_terms (with_assertion (state_of h) t) named_terms → HoldsOnly (t ∷ named_term_trees named_terms) h → IsConsistent (record new { kept = now new.table })
    whole_put_asserted exact alone new store table t named_terms st only =
        let mid = with_assertion (state_of h) t in
        let ns = map named_term_macro named_terms in
        let shut : is_in_scope (state_of new) ≡ false = ap is_in_scope st ∙ closed_by (is_asserted (state_of h) t) in
        let marks : new.marks ≡ [] = none_left new.marks (ap (λ (s : State). s.outer_macros) st ∙ outer_by (is_asserted (state_of h) t) ∙ ap macro_marks (none_marked h alone whole.live.scopes)) in
        let count : length (constants_of new.signature) ≡ length (constants_of h.signature) =
        sym (constant_count new.table.trees new.signature.entries) ∙ ap (λ (s : State). length (constants s.signature)) st ∙ ap (λ (S : Signature). length (constants S)) (signature_by (is_asserted (state_of h) t)) ∙ constant_count h.table.trees h.signature.entries in
        whole_alone new store table (subst (λ (u : Terms). IsMark u (now u)) (sym table) mark) shut marks (t ∷ named_term_trees named_terms) only
        (λ k l. subst (λ (u : Terms). Contains u.trees (Con k)) (sym table) (constants_there h whole.live stays k (subst (λ n. k < n) count l)))
        (λ u c. subst (λ (s : State). Contains (roots s) u) (sym st) (macros_stay_in mid u ns (assertion_stays (state_of h) u t c)))
        (λ u c. subst (λ (s : State). Contains (roots s) u) (sym st) (come u c))
      where
        closed_by : (b : Bool) → is_in_scope (asserted_by h t b) ≡ false
        closed_by true = alone
        closed_by false = alone

        outer_by : (b : Bool) → (asserted_by h t b).outer_macros ≡ macro_marks h.marks
        outer_by true = refl
        outer_by false = refl

        signature_by : (b : Bool) → (asserted_by h t b).signature ≡ signature_of h.table.trees h.signature
        signature_by true = refl
        signature_by false = refl

        none_left : (ms : List ScopeMark) → macro_marks ms ≡ [] → ms ≡ []
        none_left [] e = refl
        none_left (m ∷ ms) e = absurd cc

        named_terms_in_macros : (ls : List NamedTerm) (u : Tree) → Contains (named_term_trees ls) u → Contains (flat_map macro_trees (map named_term_macro ls)) u
        named_terms_in_macros [] u c = contains_none u c
        named_terms_in_macros (l ∷ ls) u c =
            elim (contains_split l.tree (named_term_trees ls) u c) [
              | inl e ↦ first l.tree (flat_map macro_trees (map named_term_macro ls)) u e
              | inr d ↦ contains_later l.tree (flat_map macro_trees (map named_term_macro ls)) u (named_terms_in_macros ls u d)
            ]

        come : (u : Tree) → Contains (t ∷ named_term_trees named_terms) u → Contains (roots (with_named_terms (with_assertion (state_of h) t) named_terms)) u
        come u c =
            elim (contains_split t (named_term_trees named_terms) u c) [
              | inl e ↦ macros_stay_in (with_assertion (state_of h) t) u (map named_term_macro named_terms) (assertion_comes (state_of h) u t exact (first t [] u e))
              | inr d ↦ macros_come_in (with_assertion (state_of h) t) u (map named_term_macro named_terms) (named_terms_in_macros named_terms u d)
            ]

-- ---- what is carried

pub carried_long : (h mid : Store) (is js : List ℕ) → Carries h is js mid → length js ≡ length is
carried_long h mid is js k = sym (length-map js (tree_in mid.table)) ∙ ap length k.trees ∙ length-map is (tree_in h.table)

-- ---- one term that is carried

module _ (h mid : Store) (i j : ℕ) (k : Carries h (i ∷ []) (j ∷ []) mid) where
  pub one_tree : tree_in mid.table j ≡ tree_in h.table i
  one_tree = ap (λ (us : List Tree). get_or us 0 (Con 0)) k.trees

  pub one_live : j < length mid.table.trees
  one_live = k.below 0 0 (omega arith)

  pub one_value : IsValueOf h.table i → IsValueOf mid.table j
  one_value v = record { live = one_live; value = ap is_value one_tree ∙ v.value; low = ap is_tall one_tree ∙ v.low }

  pub one_only : HoldsOnly (tree_in mid.table j ∷ []) mid
  one_only = subst (λ (t : Tree). HoldsOnly (t ∷ []) mid) (sym one_tree) k.leaves.only

-- ---- names of terms

pub named_terms_trees : (t : Terms) (names : List Binding) → map (tree_in t) (map (λ (b : Binding). b.1) names) ≡ named_term_trees (named_terms_in t names)
named_terms_trees t [] = refl
named_terms_trees t (b ∷ bs) = ap (λ us. tree_in t b.1 ∷ us) (named_terms_trees t bs)

-- the same names for the same trees
pub named_terms_moved : (t u : Terms) (names news : List Binding) → map (λ (b : Binding). b.0) news ≡ map (λ (b : Binding). b.0) names → map (tree_in u) (map (λ (b : Binding). b.1) news) ≡ map (tree_in t) (map (λ (b : Binding). b.1) names) → named_terms_in u news ≡ named_terms_in t names
named_terms_moved t u [] [] e h = refl
named_terms_moved t u [] (c ∷ cs) e h = absurd cc
named_terms_moved t u (b ∷ bs) [] e h = absurd cc
named_terms_moved t u (b ∷ bs) (c ∷ cs) e h =
    let name = ap (λ (xs : List (List ℕ)). get_or xs 0 c.0) e in
    let tree = ap (λ (xs : List Tree). get_or xs 0 (tree_in u c.1)) h in
    (λ i. record { name = name i; tree = tree i } ∷ named_terms_moved t u bs cs (ap (drop 1) e) (ap (drop 1) h) i)

pub bindings_below : (n : ℕ) (bs : List Binding) → All (λ (i : ℕ). i < n) (map (λ (b : Binding). b.1) bs) → All (λ (b : Binding). b.1 < n) bs
bindings_below n [] a = All-nil (λ (b : Binding). b.1 < n)
bindings_below n (b ∷ bs) a =
    All-cons (λ (b : Binding). b.1 < n) b bs (All-head (λ (i : ℕ). i < n) b.1 (map (λ (b : Binding). b.1) bs) a) (bindings_below n bs (All-tail (λ (i : ℕ). i < n) b.1 (map (λ (b : Binding). b.1) bs) a))

-- ---- terms that are put in the places of those of names

pub terms_names : (bs : List Binding) (is : List ℕ) → map (λ (b : Binding). b.0) (with_terms bs is) ≡ map (λ (b : Binding). b.0) bs
terms_names [] is = refl
terms_names (b ∷ bs) [] = refl
terms_names (b ∷ bs) (i ∷ is) = ap (λ (xs : List (List ℕ)). b.0 ∷ xs) (terms_names bs is)

pub terms_put : (bs : List Binding) (is : List ℕ) → length is ≡ length bs → map (λ (b : Binding). b.1) (with_terms bs is) ≡ is
terms_put [] [] l = refl
terms_put [] (i ∷ is) l = absurd (omega (arith, l))
terms_put (b ∷ bs) [] l = absurd (omega (arith, l))
terms_put (b ∷ bs) (i ∷ is) l = ap (λ (js : List ℕ). i ∷ js) (terms_put bs is (omega (arith, l)))

-- ---- nothing is carried

-- where all terms are alive there are none after the mark
pub settled_leaves : (h new : Store) → IsSettled new → state_of new ≡ state_of h → new.signature ≡ h.signature → Leaves h [] new
settled_leaves h new settled same signature = record {
  whole = settled.whole;
  same = same;
  signature = signature;
  only = subst (All (Contains (flat_map subtrees []))) (sym (drop_all new.kept.0 new.table.trees (omega (arith, settled.settled)))) (All-nil (Contains (flat_map subtrees [])));
}

-- all terms are kept from now on
pub settled_now : (h : Store) (k : ℕ × ℕ) → k ≡ now h.table → IsConsistent (record h { kept = now h.table }) → IsSettled (record h { kept = k })
settled_now h k at whole = subst (λ (k : ℕ × ℕ). IsSettled (record h { kept = k })) (sym at) (record { whole = whole; settled = refl })

-- so they are where a step used a rule that is marked as unproved
pub settled_sorry : (h : Store) (b : Bool) → IsSettled h → IsSettled (record h { sorry = b })
settled_sorry h b is =
    let w = is.whole in
    record {
      whole = record {
        store = record {
          types = w.store.types;
          lasts = w.store.lasts;
          usable = w.store.usable;
          signature = w.store.signature;
          assertions = w.store.assertions;
          facts = w.store.facts;
          values = w.store.values;
          marks = w.store.marks;
          terms = w.store.terms;
        };
        live = record { exact = w.live.exact; marked = w.live.marked; scopes = w.live.scopes };
      };
      settled = is.settled;
    }
