-- What is held, and the state that it is.
use Rattle.std.proofs.Common.{◌≡◌, refl, ℕ, ◌<◌, ◌≤◌, Bool, true, false, List, [], ◌∷◌, ◌++◌, length, map, take, drop, All, sym, ap, ◌∙◌, arith, subst}
use Rattle.std.specs.Prelude.{nat_eq, ◌||◌, if◌then◌else◌}
use Rattle.std.specs.List.{list_any}
use Rattle.std.proofs.lemmas.List.{map-append, length-map, length-append, take-map, length-take-le}
use Rattle.std.proofs.lemmas.List.Elements.{All-head, All-tail, All-push, All-nil}
use Rattle.eo_base.proofs.Elements.{ids_more}
use Rattle.eo_term.specs.Tree.{Tree, tree_eq, is_value}
use Rattle.eo_term.specs.Growth.{Grows}
use Rattle.eo_term.specs.Terms.{Terms, tree_at, first_trees}
use Rattle.eo_sig.specs.declared.records.MacroDecl.{MacroDecl}
use Rattle.eo_sig.specs.Signature.{SignatureEntry, Macro, first_signature}
use Rattle.eo_sig.specs.Reading.{Kept, IsBelow, Stays, Adds, AddsMacro, first_kept, read_macro}
use Rattle.eo_sig.specs.Reading.{signature as signature_of, macros as macros_of}
use Rattle.eo_sig.specs.Usable.{IsUsable, StaysUsable}
use Rattle.eo_names.specs.declared.locals.LocalName.{LocalName}
use Rattle.eo_names.specs.Contexts.{Context, Several}
use Rattle.eo_names.specs.Ready as walk
use Rattle.eo_type.specs.Known.{Fits, Lasts}
use Rattle.eo_elab.specs.Fitting.{FitsTerms, macro_is_bound}
use Rattle.eo_proof.specs.Kept as fact
use Rattle.eo_proof.specs.Kept.{scopes, AreBelow}
use Rattle.eo_proof.specs.Scopes as proof
use Rattle.eo_proof.specs.Scopes.{Scopes, no_facts}
use Rattle.eo_session.specs.declared.store.Store.{Store}
use Rattle.eo_ref.specs.Ids.{has_id, with_id}
use Rattle.eo_reclaim.specs.declared.ScopeMark.{ScopeMark}
use Rattle.eo_session.specs.Store.{state_of, macro_marks, AreValues, AreMarks, IsHeld, IsConsistent, Keeps}
use Rattle.eo_session.specs.State.{State, context, first_state, macros_before, with_entry, with_macro, with_fact, with_scope, without_scope, with_assertion}
use Rattle.eo_session.proofs.Alive.{own_mark, live_grown}
use Rattle.eo_session.proofs.Scoping.{map_grown, scopes_grown, below_more, marks_more, none_below, none_values, values_fact, values_scope, values_outside}
use Rattle.eo_session.proofs.Fitting.{MayFold, fits_entry, fits_macro, fits_taken, first_fits}

-- ---- terms of which no two have the same tree

-- the trees at two places are the same exactly where the places are
abbrev pub AreDistinct : List Tree → Type 0
AreDistinct ts = (i j : ℕ) → i < length ts → j < length ts → tree_eq (tree_at ts i) (tree_at ts j) ≡ nat_eq i j

module _ (ts : List Tree) (equals : AreDistinct ts) where
  pub asserted_id : (ids : List ℕ) (i : ℕ) → i < length ts → All (λ j. j < length ts) ids → list_any (tree_eq (tree_at ts i)) (map (tree_at ts) ids) ≡ has_id ids i
  asserted_id [] i h a = refl
  asserted_id (j ∷ js) i h a =
      (λ k. equals i j h (All-head (λ j. j < length ts) j js a) k || asserted_id js i h (All-tail (λ j. j < length ts) j js a) k)

-- ---- a table that grows

-- where names keep their meanings, the signature stays
pub stays_kept : (k : Kept) (ls : List LocalName) (old new : List Tree) → walk.Keeps k ls old new → Stays k old new
stays_kept k ls old new h = record { signature = ap (λ (c : Context). c.signature) h.context; macros = ap (λ (c : Context). c.macros) h.context; below = h.ready.below }

-- how many macros there are does not depend on trees
macro_count : (ts : List Tree) (k : Kept) (ms : List Macro) → macros_of ts k ≡ ms → length k.macros ≡ length ms
macro_count ts k ms e = sym (length-map k.macros (read_macro ts)) ∙ ap length e

module _ (h : Store) (whole : IsHeld h) where
  abbrev trees : List Tree
  trees = h.table.trees

  -- terms that come leave the state, and so do types that are found
  module _ (t : Terms) (stays : Stays h.signature trees t.trees) (grows : Grows h.table t) where
    scopes_table : scopes t.trees h.facts ≡ scopes trees h.facts
    scopes_table = scopes_grown trees t.trees (length trees) grows.now.tree h.facts whole.facts

    pub state_table : state_of (record h { table = t }) ≡ state_of h
    state_table =
        let a = map_grown (tree_at t.trees) (tree_at trees) (λ i. i < length trees) grows.now.tree h.assertions whole.assertions in
        (λ k. record {
          signature = stays.signature k;
          macros = stays.macros k;
          outer_macros = macro_marks h.marks;
          assertions = a k;
          has_reference = h.has_reference;
          scopes = scopes_table k;
          sorry = h.sorry;
          closed = h.closed;
          naming = Several;
          commands = h.commands;
        })

    pub held_types : (types : List (ℕ × ℕ)) → Fits (signature_of t.trees h.signature) t.trees types → Lasts types → IsHeld (record h { table = t; types = types })
    held_types types fits lasts = record {
      types = fits;
      lasts = lasts;
      usable = subst IsUsable (sym stays.signature) whole.usable;
      signature = stays.below;
      assertions = ids_more (length trees) (length t.trees) grows.now.more_trees h.assertions whole.assertions;
      facts = below_more (length trees) (length t.trees) grows.now.more_trees h.facts whole.facts;
      values = subst AreValues (sym scopes_table) whole.values;
      marks = whole.marks;
      terms = subst (λ (st : State). FitsTerms (context st)) (sym state_table) whole.terms;
    }

  -- ---- declarations

  module _ (k : Kept) (below : IsBelow (length trees) k) where
    pub whole_entry : (e : SignatureEntry) → Adds trees h.signature e k → StaysUsable trees h.signature k → MayFold e → IsHeld (record h { signature = k })
    whole_entry e adds usable may = record {
      types = subst (λ S. Fits S trees h.types) (sym adds.signature) (whole.lasts.longer (signature_of trees h.signature) (e ∷ []) trees whole.types);
      lasts = whole.lasts;
      usable = usable whole.usable;
      signature = below;
      assertions = whole.assertions;
      facts = whole.facts;
      values = whole.values;
      marks = subst (λ n. AreMarks n (macro_marks h.marks)) (sym (macro_count trees k (macros_of trees h.signature) adds.macros ∙ length-map h.signature.macros (read_macro trees))) whole.marks;
      terms = fits_entry (signature_of trees h.signature) (signature_of trees k) (macros_of trees h.signature) (macros_of trees k) whole.terms e adds.signature adds.macros may;
    }

    pub whole_macro : (m : Macro) → AddsMacro trees h.signature m k → macro_is_bound m ≡ true → IsHeld (record h { signature = k })
    whole_macro m adds bound = record {
      types = subst (λ S. Fits S trees h.types) (sym adds.signature) whole.types;
      lasts = whole.lasts;
      usable = subst IsUsable (sym adds.signature) whole.usable;
      signature = below;
      assertions = whole.assertions;
      facts = whole.facts;
      values = whole.values;
      marks =
          (let one = macro_count trees k (macros_of trees h.signature ++ m ∷ []) adds.macros ∙ length-append (macros_of trees h.signature) (m ∷ []) in
          marks_more (length h.signature.macros) (length k.macros) (omega (arith, one, length-map h.signature.macros (read_macro trees))) (macro_marks h.marks) whole.marks);
      terms = fits_macro (signature_of trees h.signature) (signature_of trees k) (macros_of trees h.signature) (macros_of trees k) whole.terms adds.signature m adds.macros bound;
    }

    pub state_entry : (e : SignatureEntry) → Adds trees h.signature e k → state_of (record h { signature = k }) ≡ with_entry (state_of h) e
    state_entry e adds = (λ j. record (state_of h) { signature = adds.signature j; macros = adds.macros j })

    pub state_macro : (m : Macro) → AddsMacro trees h.signature m k → state_of (record h { signature = k }) ≡ with_macro (state_of h) m
    state_macro m adds = (λ j. record (state_of h) { signature = adds.signature j; macros = adds.macros j })

  -- ---- facts

  module _ (facts : fact.Kept) (below : AreBelow (length trees) facts) where
    -- other facts, which are values
    whole_facts : AreValues (scopes trees facts) → IsHeld (record h { facts = facts })
    whole_facts values = record {
      types = whole.types;
      lasts = whole.lasts;
      usable = whole.usable;
      signature = whole.signature;
      assertions = whole.assertions;
      facts = below;
      values = values;
      marks = whole.marks;
      terms = whole.terms;
    }

    state_facts : (f : Scopes) → scopes trees facts ≡ f → state_of (record h { facts = facts }) ≡ record (state_of h) { scopes = f }
    state_facts f e = (λ j. record (state_of h) { scopes = e j })

    module _ (name : List ℕ) (i : ℕ) (value : is_value (tree_at trees i) ≡ true) where
      module _ (is : scopes trees facts ≡ proof.with_fact (scopes trees h.facts) name (tree_at trees i) h.commands) where
        pub whole_fact : IsHeld (record h { facts = facts })
        whole_fact = whole_facts (subst AreValues (sym is) (values_fact name (tree_at trees i) h.commands value (scopes trees h.facts) whole.values))

        pub state_fact : state_of (record h { facts = facts }) ≡ with_fact (state_of h) name (tree_at trees i)
        state_fact = state_facts (proof.with_fact (scopes trees h.facts) name (tree_at trees i) h.commands) is

      module _ (is : scopes trees facts ≡ proof.with_scope (scopes trees h.facts) name (tree_at trees i) h.commands) where
        -- a scope is opened, whose mark is still to come
        pub whole_scope : IsHeld (record h { facts = facts })
        whole_scope = whole_facts (subst AreValues (sym is) (values_scope name (tree_at trees i) h.commands value (scopes trees h.facts) whole.values))

        module _ (marks : List ScopeMark) (marked : marks ≡ own_mark h ∷ h.marks) where
          pub whole_begun : IsHeld (record h { facts = facts; marks = marks })
          whole_begun = record {
            types = whole.types;
            lasts = whole.lasts;
            usable = whole.usable;
            signature = whole.signature;
            assertions = whole.assertions;
            facts = below;
            values = whole_scope.values;
            marks = subst (λ (ms : List ScopeMark). AreMarks (length h.signature.macros) (macro_marks ms)) (sym marked) (omega arith, whole.marks);
            terms = whole.terms;
          }

          pub state_begun : state_of (record h { facts = facts; marks = marks }) ≡ with_scope (state_of h) name (tree_at trees i)
          state_begun =
              (λ j. record (state_of h) { scopes = is j; outer_macros = (ap macro_marks marked ∙ ap (λ n. n ∷ macro_marks h.marks) (sym (length-map h.signature.macros (read_macro trees)))) j })

    -- the innermost scope is closed
    module _ (is : scopes trees facts ≡ proof.outside (scopes trees h.facts)) where
      pub whole_outside : IsHeld (record h { facts = facts })
      whole_outside = whole_facts (subst AreValues (sym is) (values_outside (scopes trees h.facts) whole.values))

      -- no mark is kept
      pub whole_unmarked : (marks : List ScopeMark) → marks ≡ [] → IsHeld (record h { facts = facts; marks = marks })
      whole_unmarked marks new = record {
        types = whole.types;
        lasts = whole.lasts;
        usable = whole.usable;
        signature = whole.signature;
        assertions = whole.assertions;
        facts = below;
        values = whole_outside.values;
        marks = subst (λ (ms : List ScopeMark). AreMarks (length h.signature.macros) (macro_marks ms)) (sym new) tt;
        terms = whole.terms;
      }

      pub state_unmarked : (marks : List ScopeMark) → h.marks ≡ [] → marks ≡ [] → state_of (record h { facts = facts; marks = marks }) ≡ without_scope (state_of h)
      state_unmarked marks old new =
          (λ j. record (state_of h) { scopes = is j; outer_macros = macro_marks (new j) })
          ∙ ap (λ (ms : List ScopeMark). record (state_of h) { scopes = proof.outside (scopes trees h.facts); macros = macros_before (macro_marks ms) (macros_of trees h.signature); outer_macros = drop 1 (macro_marks ms) }) (sym old)

      module _ (mark : ScopeMark) (marks : List ScopeMark) (marked : h.marks ≡ mark ∷ marks) where
        within : (mark.macros ≤ length h.signature.macros) × AreMarks mark.macros (macro_marks marks)
        within = subst (λ (ms : List ScopeMark). AreMarks (length h.signature.macros) (macro_marks ms)) marked whole.marks

        pub mark_within : mark.macros ≤ length h.signature.macros
        mark_within = within.0

        module _ (k : Kept) (entries : k.entries ≡ h.signature.entries) (macros : k.macros ≡ take mark.macros h.signature.macros) (kept : IsBelow (length trees) k) where
          signature_same : signature_of trees k ≡ signature_of trees h.signature
          signature_same = ap (λ es. signature_of trees (record { entries = es; macros = [] })) entries

          macros_front : macros_of trees k ≡ take mark.macros (macros_of trees h.signature)
          macros_front = ap (λ (ms : List MacroDecl). map (read_macro trees) ms) macros ∙ sym (take-map (read_macro trees) mark.macros h.signature.macros)

          pub whole_closed : IsHeld (record h { facts = facts; marks = marks; signature = k })
          whole_closed = record {
            types = subst (λ S. Fits S trees h.types) (sym signature_same) whole.types;
            lasts = whole.lasts;
            usable = subst IsUsable (sym signature_same) whole.usable;
            signature = kept;
            assertions = whole.assertions;
            facts = below;
            values = whole_outside.values;
            marks = subst (λ n. AreMarks n (macro_marks marks)) (sym (ap length macros ∙ length-take-le mark.macros h.signature.macros within.0)) within.1;
            terms = fits_taken (signature_of trees h.signature) (signature_of trees k) (macros_of trees h.signature) (macros_of trees k) whole.terms signature_same mark.macros macros_front;
          }

          pub state_closed : state_of (record h { facts = facts; marks = marks; signature = k }) ≡ without_scope (state_of h)
          state_closed =
              (λ j. record (state_of h) { signature = signature_same j; scopes = is j; macros = macros_front j; outer_macros = macro_marks marks })
              ∙ ap (λ (ms : List ScopeMark). record (state_of h) { scopes = proof.outside (scopes trees h.facts); macros = macros_before (macro_marks ms) (macros_of trees h.signature); outer_macros = drop 1 (macro_marks ms) }) (sym marked)

  -- ---- assertions

  module _ (equals : AreDistinct trees) (i : ℕ) (live : i < length trees) (ids : List ℕ) (is : ids ≡ with_id h.assertions i) where
    abbrev more : Bool → List ℕ
    more b = if b then h.assertions else h.assertions ++ i ∷ []

    below_both : (b : Bool) → All (λ j. j < length trees) (more b)
    below_both true = whole.assertions
    below_both false = All-push (λ j. j < length trees) h.assertions i whole.assertions live

    pub whole_assertion : IsHeld (record h { assertions = ids })
    whole_assertion = record {
      types = whole.types;
      lasts = whole.lasts;
      usable = whole.usable;
      signature = whole.signature;
      assertions = subst (All (λ j. j < length trees)) (sym is) (below_both (has_id h.assertions i));
      facts = whole.facts;
      values = whole.values;
      marks = whole.marks;
      terms = whole.terms;
    }

    state_more : (b : Bool) → state_of (record h { assertions = more b }) ≡ (if b then state_of h else record (state_of h) { assertions = map (tree_at trees) h.assertions ++ tree_at trees i ∷ [] })
    state_more true = refl
    state_more false = (λ j. record (state_of h) { assertions = map-append (tree_at trees) h.assertions (i ∷ []) j })

    pub state_assertion : state_of (record h { assertions = ids }) ≡ with_assertion (state_of h) (tree_at trees i)
    state_assertion =
        ap (λ (js : List ℕ). state_of (record h { assertions = js })) is
        ∙ state_more (has_id h.assertions i)
        ∙ ap (λ b. if b then state_of h else record (state_of h) { assertions = map (tree_at trees) h.assertions ++ tree_at trees i ∷ [] }) (sym (asserted_id trees equals h.assertions i live whole.assertions))

-- ---- a table that grows, after the mark of what is kept

module _ (h : Store) (whole : IsConsistent h) (t : Terms) (stays : Stays h.signature h.table.trees t.trees) (grows : Grows h.table t) where
  pub keeps_types : (types : List (ℕ × ℕ)) → Fits (signature_of t.trees h.signature) t.trees types → Lasts types → Keeps h (record h { table = t; types = types })
  keeps_types types fits lasts = record {
    whole = record { store = held_types h whole.store t stays grows types fits lasts; live = live_grown h whole.live t types grows.now };
    same = state_table h whole.store t stays grows;
    signature = refl;
    grows = grows;
  }

  pub keeps_table : Keeps h (record h { table = t })
  keeps_table = keeps_types h.types (whole.store.lasts.grown h.signature h.table t grows.now (record { below = whole.store.signature; types = whole.store.types })).types whole.store.lasts

-- ---- the first

-- what is held first
pub record IsFirst (h : Store) (closed : Bool) : Type 0 where
  pub trees : h.table.trees ≡ first_trees
  pub kept : h.signature ≡ first_kept
  pub signature : signature_of h.table.trees h.signature ≡ first_signature
  pub assertions : h.assertions ≡ []
  pub reference : h.has_reference ≡ false
  pub facts : (ts : List Tree) → scopes ts h.facts ≡ no_facts
  pub marks : h.marks ≡ []
  pub sorry : h.sorry ≡ false
  pub closed_is : h.closed ≡ closed
  pub commands : h.commands ≡ 0

pub state_first : (h : Store) (closed : Bool) → IsFirst h closed → state_of h ≡ first_state closed
unfolding first_state
state_first h closed f =
    (λ j. record {
      signature = f.signature j;
      macros = macros_of h.table.trees (f.kept j);
      outer_macros = macro_marks (f.marks j);
      assertions = map (tree_at h.table.trees) (f.assertions j);
      has_reference = f.reference j;
      scopes = f.facts h.table.trees j;
      sorry = f.sorry j;
      closed = f.closed_is j;
      naming = Several;
      commands = f.commands j;
    })

pub whole_first : (h : Store) (closed : Bool) → IsFirst h closed → IsBelow 4 h.signature → IsUsable (signature_of h.table.trees h.signature) → Fits (signature_of h.table.trees h.signature) h.table.trees h.types → Lasts h.types → IsHeld h
whole_first h closed f below usable types lasts = record {
  types = types;
  lasts = lasts;
  usable = usable;
  signature = subst (λ (ts : List Tree). IsBelow (length ts) h.signature) (sym f.trees) below;
  assertions = subst (All (λ i. i < length h.table.trees)) (sym f.assertions) (All-nil (λ i. i < length h.table.trees));
  facts = none_below (length h.table.trees) h.facts f.facts;
  values = subst AreValues (sym (f.facts h.table.trees)) none_values;
  marks = subst (λ (ms : List ScopeMark). AreMarks (length h.signature.macros) (macro_marks ms)) (sym f.marks) tt;
  terms = first_fits (signature_of h.table.trees h.signature) (macros_of h.table.trees h.signature) f.signature (ap (macros_of h.table.trees) f.kept);
}
