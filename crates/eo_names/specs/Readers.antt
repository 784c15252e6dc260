-- Reading in order, with the names that a term gives itself.
use Rattle.std.specs.Prelude.{ℕ, Bool, true, false, not, List, Ok, Err}
use Rattle.eo_base.specs.declared.FaultName.{FaultName}
use Rattle.eo_base.specs.declared.FaultName.TheVariants.{TermHeight}
use Rattle.eo_base.specs.Checks.{Checked}
use Rattle.eo_term.specs.Tree.{Tree, is_tall}

-- A name that a term gives itself by `:named` (SMT-LIB 2.6, section 3.6 "Terms and Formulas").
pub record NamedTerm : Type 0 where
  pub name : List ℕ
  pub tree : Tree

-- What is read with the names given so far, and with those given then; or the first fault.
abbrev pub Reader : Type 0 → Type 0
Reader A = List NamedTerm → Checked (A × List NamedTerm)

abbrev pub go_on : {A B : Type 0} → (A → Reader B) → Checked (A × List NamedTerm) → Checked (B × List NamedTerm)
go_on f (Ok r) = f r.0 r.1
go_on f (Err fault) = Err fault

infixl 10 ◌>>=◌
abbrev pub ◌>>=◌ : {A B : Type 0} → Reader A → (A → Reader B) → Reader B
(m >>= f) named_terms = go_on f (m named_terms)

abbrev pub give : {A : Type 0} → A → Reader A
give x named_terms = Ok (x, named_terms)

abbrev pub fail : {A : Type 0} → FaultName → Reader A
fail fault named_terms = Err fault

abbrev pub with_named_terms : {A : Type 0} → List NamedTerm → Checked A → Checked (A × List NamedTerm)
with_named_terms named_terms (Ok x) = Ok (x, named_terms)
with_named_terms named_terms (Err fault) = Err fault

abbrev pub read : {A : Type 0} → Checked A → Reader A
read c named_terms = with_named_terms named_terms c

-- the fault, unless the test holds
abbrev pub unless : {A : Type 0} → Bool → FaultName → Reader A → Reader A
unless true fault m = m
unless false fault m = fail fault

-- a tree that is not too tall
abbrev pub built : Tree → Reader Tree
built t = unless (not (is_tall t)) TermHeight (give t)
