-- How facts that are kept with numbers of terms represent facts in scopes.
use Rattle.std.specs.Prelude.{◌≡◌, ℕ, ◌<◌, Option, Some, None, List, [], ◌∷◌, ◌++◌, map, take, drop, reverse, length, All, find, nat_eq, option_map, bytes_eq}
use Rattle.std.specs.Map.{lookup}
use Rattle.eo_term.specs.Tree.{Tree}
use Rattle.eo_term.specs.Terms.{tree_at}
use Rattle.eo_proof.specs.declared.facts.Begun.{Begun}
use Rattle.eo_proof.specs.Scopes.{Fact, Scope, Scopes}

-- a term, and the number of the command that made it a fact
abbrev pub Made : Type 0
Made = ℕ × ℕ

-- a name, and what has it
abbrev pub NamedId : Type 0
NamedId = List ℕ × Made

pub record Kept : Type 0 where
  -- those of all scopes, the oldest first
  pub facts : List NamedId
  -- the open scopes, the innermost first
  pub begun : List Begun

abbrev pub read_fact : List Tree → NamedId → Fact
read_fact ts f = record { name = f.0; formula = tree_at ts f.1.0; number = f.1.1 }

-- the facts outside the open scopes
abbrev pub outer_facts : List NamedId → List Begun → List NamedId
outer_facts fs [] = fs
outer_facts fs (b ∷ bs) = outer_facts (take b.first fs) bs

abbrev pub opened : List Tree → List NamedId → List Begun → List Scope
opened ts fs [] = []
opened ts fs (b ∷ bs) = record { hypothesis = tree_at ts b.hypothesis; facts = map (read_fact ts) (drop b.first fs) } ∷ opened ts (take b.first fs) bs

-- the facts in scopes
unfoldable pub scopes : List Tree → Kept → Scopes
scopes ts k = record { outermost = map (read_fact ts) (outer_facts k.facts k.begun); opened = opened ts k.facts k.begun }

-- how many facts there are outside the innermost scope
abbrev pub outer_count : Kept → ℕ
outer_count k = by k.begun
  where
    by : List Begun → ℕ
    by [] = length k.facts
    by (b ∷ bs) = b.first

-- the assumption of the innermost scope
abbrev pub innermost : Kept → Option ℕ
innermost k = by k.begun
  where
    by : List Begun → Option ℕ
    by [] = None
    by (b ∷ bs) = Some b.hypothesis

-- all terms are below n
pub record AreBelow (n : ℕ) (k : Kept) : Type 0 where
  pub facts : All (λ (f : NamedId). f.1.0 < n) k.facts
  pub hypotheses : All (λ (b : Begun). b.hypothesis < n) k.begun

-- each scope begins within the facts, and the inner ones after the outer ones
abbrev pub AreBegun : ℕ → List Begun → Type 0
AreBegun n [] = Unit {0}
AreBegun n (b ∷ bs) = (b.first < n) × AreBegun b.first bs

-- the command that made the first fact with the term 3, which is `false`
abbrev pub refutation_in : List NamedId → Option ℕ
refutation_in facts = option_map (λ (f : NamedId). f.1.1) (find (λ (f : NamedId). nat_eq f.1.0 3) facts)

-- what the code keeps, the innermost scope last
abbrev pub kept_of : List NamedId → List Begun → Kept
kept_of fs bs = record { facts = fs; begun = reverse bs }

-- the scopes are in order, and this command made the first `false` of the outermost facts
pub record IsKept (k : Kept) (told : Option ℕ) : Type 0 where
  pub begun : AreBegun (length k.facts) k.begun
  pub refutation : told ≡ refutation_in (outer_facts k.facts k.begun)

-- the term of the first fact with a name, and the number of the command that made it
abbrev pub term_named : List NamedId → List ℕ → Option ℕ
term_named facts name = option_map (λ (m : Made). m.0) (lookup (bytes_eq name) facts)

abbrev pub command_named : List NamedId → List ℕ → Option ℕ
command_named facts name = option_map (λ (m : Made). m.1) (lookup (bytes_eq name) facts)

abbrev pub with_named : Kept → NamedId → Kept
with_named k f = record k { facts = k.facts ++ f ∷ [] }

-- the facts outside the innermost scope
abbrev pub without_begun : Kept → Kept
without_begun k = record { facts = take (outer_count k) k.facts; begun = drop 1 k.begun }

abbrev pub with_begun : Kept → NamedId → Kept
with_begun k f = record { facts = k.facts ++ f ∷ []; begun = record { first = length k.facts; hypothesis = f.1.0 } ∷ k.begun }
