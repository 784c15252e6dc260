-- What a session holds, with numbers of terms, and the state that this is.
use Rattle.std.specs.Prelude.{◌≡◌, ℕ, ◌<◌, ◌≤◌, true, List, [], ◌∷◌, map, flat_map, take, drop, length, All, Contains}
use Rattle.std.specs.List.{list_all}
use Rattle.eo_sig.specs.Reading.{Kept, signature, macros, constants_of, IsBelow}
use Rattle.eo_sig.specs.Usable.{IsUsable}
use Rattle.eo_type.specs.Known.{Fits, Lasts}
use Rattle.eo_term.specs.Growth.{Grows, tree_in}
use Rattle.eo_term.specs.Tree.{Tree, Con, is_value, subtrees}
use Rattle.eo_term.specs.Terms.{Terms, tree_at, IsMark}
use Rattle.eo_proof.specs.Kept as fact
use Rattle.eo_proof.specs.Kept.{scopes, without_begun, AreBelow}
use Rattle.eo_proof.specs.Scopes.{Scopes, formulas, hypotheses}
use Rattle.eo_names.specs.Contexts.{Several}
use Rattle.eo_names.specs.Readers.{NamedTerm}
use Rattle.eo_elab.specs.Fitting.{FitsTerms}
use Rattle.eo_session.specs.Roots.{roots_of}
use Rattle.eo_session.specs.State.{State, context}
use Rattle.eo_session.specs.declared.store.Store.{Store}
use Rattle.eo_reclaim.specs.declared.ScopeMark.{ScopeMark}

-- ---- all that is held

-- how many macros there were before each open scope
abbrev pub macro_marks : List ScopeMark → List ℕ
macro_marks ms = map (λ m. m.macros) ms

abbrev pub state_of : Store → State
state_of h = let ts = h.table.trees in record {
  signature = signature ts h.signature;
  macros = macros ts h.signature;
  outer_macros = macro_marks h.marks;
  assertions = map (tree_at ts) h.assertions;
  has_reference = h.has_reference;
  scopes = scopes ts h.facts;
  sorry = h.sorry;
  closed = h.closed;
  naming = Several;
  commands = h.commands;
}

-- all facts and assumptions are values
pub record AreValues (f : Scopes) : Type 0 where
  pub facts : list_all is_value (formulas f) ≡ true
  pub hypotheses : list_all is_value (hypotheses f) ≡ true

-- marks of macros of which there are n, those of outer scopes before those of inner ones
abbrev pub AreMarks : ℕ → List ℕ → Type 0
AreMarks n [] = Unit {0}
AreMarks n (m ∷ ms) = (m ≤ n) × AreMarks m ms

-- ---- what is alive

-- What the trees of a state are kept by.
pub record Holding : Type 0 where
  pub trees : List Tree
  pub signature : Kept
  pub assertions : List ℕ
  pub facts : fact.Kept

abbrev pub holding : Store → Holding
holding h = record { trees = h.table.trees; signature = h.signature; assertions = h.assertions; facts = h.facts }

-- with the first n trees alone
abbrev pub cut : ℕ → Holding → Holding
cut n x = record { trees = take n x.trees; signature = x.signature; assertions = x.assertions; facts = x.facts }

-- what was held when the innermost scope began, which has this mark
abbrev pub outside : ScopeMark → Holding → Holding
outside m x = record {
  trees = take m.table.0 x.trees;
  signature = record { entries = x.signature.entries; macros = take m.macros x.signature.macros };
  assertions = x.assertions;
  facts = without_begun x.facts;
}

abbrev pub roots_in : Holding → List Tree
roots_in x =
    roots_of (signature x.trees x.signature) (macros x.trees x.signature) (map (tree_at x.trees) x.assertions) (scopes x.trees x.facts)

-- The trees are those that are held and their subtrees, and no others.
pub record IsExact (x : Holding) : Type 0 where
  pub declared : IsBelow (length x.trees) x.signature
  pub assertions : All (λ i. i < length x.trees) x.assertions
  pub facts : AreBelow (length x.trees) x.facts
  pub constants : (k : ℕ) → k < length (constants_of x.signature) → Contains x.trees (Con k)
  pub live : All (Contains (flat_map subtrees (roots_in x))) x.trees

-- so they are, and so they were when each open scope began
abbrev pub AreExact : Holding → List ScopeMark → Type 0
AreExact x [] = IsExact x
AreExact x (m ∷ ms) = IsExact x × AreExact (outside m x) ms

-- these are marks of the table, those of outer scopes before those of inner ones
abbrev pub AreMarked : Terms → ℕ × ℕ → List ScopeMark → Type 0
AreMarked t k [] = IsMark t k
AreMarked t k (m ∷ ms) = IsMark t k × (m.table.0 ≤ k.0) × (m.table.1 ≤ k.1) × AreMarked t m.table ms

-- The terms before the mark of what is kept are exactly those that are alive, and each open scope has such a mark.
pub record IsLive (h : Store) : Type 0 where
  pub exact : AreExact (cut h.kept.0 (holding h)) h.marks
  pub marked : AreMarked h.table h.kept h.marks
  pub scopes : length h.marks ≡ length h.facts.begun

-- all terms that are held are those of the table, the signature is one that terms can be evaluated in, and the types that were found are right, and stay so
pub record IsHeld (h : Store) : Type 0 where
  pub types : Fits (signature h.table.trees h.signature) h.table.trees h.types
  pub lasts : Lasts h.types
  pub usable : IsUsable (signature h.table.trees h.signature)
  pub signature : IsBelow (length h.table.trees) h.signature
  pub assertions : All (λ i. i < length h.table.trees) h.assertions
  pub facts : AreBelow (length h.table.trees) h.facts
  pub values : AreValues (scopes h.table.trees h.facts)
  pub marks : AreMarks (length h.signature.macros) (macro_marks h.marks)
  pub terms : FitsTerms (context (state_of h))

-- so it is, and the terms before the mark of what is kept are those that are alive
pub record IsConsistent (h : Store) : Type 0 where
  pub store : IsHeld h
  pub live : IsLive h

-- The state has stayed: terms alone, and types that were found, may have come.
pub record Keeps (old new : Store) : Type 0 where
  pub whole : IsConsistent new
  pub same : state_of new ≡ state_of old
  pub signature : new.signature ≡ old.signature
  pub grows : Grows old.table new.table

-- the constant that is declared next
abbrev pub next_constant : Store → Tree
next_constant h = Con (length (constants_of h.signature))

-- the trees of names that the terms of an assertion give themselves
abbrev pub named_term_trees : List NamedTerm → List Tree
named_term_trees ls = map (λ l. l.tree) ls

-- ---- giving terms back

-- all terms are alive
pub record IsSettled (h : Store) : Type 0 where
  pub whole : IsConsistent h
  pub settled : length h.table.trees ≡ h.kept.0

-- the terms after the mark of what is kept are subtrees of these trees
abbrev pub HoldsOnly : List Tree → Store → Type 0
HoldsOnly ts h = All (Contains (flat_map subtrees ts)) (drop h.kept.0 h.table.trees)

-- The state has stayed, and after the mark of what is kept there are only subtrees of these trees.
pub record Leaves (old : Store) (ts : List Tree) (new : Store) : Type 0 where
  pub whole : IsConsistent new
  pub same : state_of new ≡ state_of old
  pub signature : new.signature ≡ old.signature
  pub only : HoldsOnly ts new

-- Terms are carried: of what was after the mark, they and their subtrees are left, and have these numbers.
pub record Carries (old : Store) (is js : List ℕ) (new : Store) : Type 0 where
  pub leaves : Leaves old (map (tree_in old.table) is) new
  pub trees : map (tree_in new.table) js ≡ map (tree_in old.table) is
  pub below : All (λ j. j < length new.table.trees) js
