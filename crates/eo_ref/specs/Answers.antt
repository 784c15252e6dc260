-- The result for a command of a reference file, over the terms of a table.
use Rattle.std.specs.Prelude.{ℕ, ◌<◌, List, [], length, Option, Some, Result}
use Rattle.eo_base.specs.Answers.{Gives}
use Rattle.eo_base.specs.Checks.{Checked}
use Rattle.eo_base.specs.declared.FaultName.{FaultName}
use Rattle.eo_base.specs.declared.FaultName.TheVariants as fault
use Rattle.eo_sexp.specs.Sexp.{Sexp}
use Rattle.eo_shape.specs.Shapes.{Command}
use Rattle.eo_sig.specs.Reading.{Kept, signature, macros}
use Rattle.eo_term.specs.Growth.{tree_in}
use Rattle.eo_term.specs.Terms.{Terms}
use Rattle.eo_term.specs.Tree.{Tree}
use Rattle.eo_names.specs.Contexts.{Context, InAssert}
use Rattle.eo_names.specs.Names.{Binding, BindingsBelow}
use Rattle.eo_names.specs.Readers.{NamedTerm}
use Rattle.eo_names.specs.Refused as names
use Rattle.eo_names.specs.declared.refused.ElabRefused.{ElabRefused}
use Rattle.eo_declare.specs.Declaring.{DeclarationBelow, MayBeReferred, read_declaration}
use Rattle.eo_elab.specs.Meaning.{means}
use Rattle.eo_elab.specs.Worlds.{named_terms_in}
use Rattle.eo_ref.specs.declared.Assertion.{Assertion}
use Rattle.eo_ref.specs.declared.RefNext.{RefNext}
use Rattle.eo_ref.specs.declared.RefNext.TheVariants as next
use Rattle.eo_ref.specs.declared.RefRefused.{RefRefused}
use Rattle.eo_ref.specs.declared.RefRefused.TheVariants as refused
use Rattle.eo_ref.specs.Reference.{ReferenceNext, Declares, Asserts, Skips, Exits, asserted, declares, names_in, by_command, reference_command}

abbrev pub read_next : Terms → RefNext → ReferenceNext
read_next t (next.Declare d) = Declares (read_declaration t.trees d)
read_next t (next.Assert formula names) = Asserts (tree_in t formula) (named_terms_in t names)
read_next t next.Skip = Skips
read_next t next.Exit = Exits

-- a formula and names for terms below n
pub record AssertionBelow (n id : ℕ) (given : List Binding) : Type 0 where
  pub formula : id < n
  pub names : BindingsBelow n given

-- ---- an assertion

abbrev pub read_assertion : Terms → Assertion → Tree × List NamedTerm
read_assertion t a = (tree_in t a.formula, named_terms_in t a.names)

abbrev pub assertion_in : Terms → Kept → Sexp → Checked (Tree × List NamedTerm)
assertion_in t k s = means (names_in (signature t.trees k) (macros t.trees k) InAssert) [] s []

abbrev pub GivesAssertion : Terms → Result Assertion ElabRefused → Checked (Tree × List NamedTerm) → Type 0
GivesAssertion t r o = Gives names.told (λ (a : Assertion). AssertionBelow (length t.trees) a.formula a.names) (read_assertion t) r o

-- ---- a command

-- its terms are below n
abbrev pub NextBelow : ℕ → RefNext → Type 0
NextBelow n (next.Declare d) = DeclarationBelow n d
NextBelow n (next.Assert formula names) = AssertionBelow n formula names
NextBelow n next.Skip = Unit {0}
NextBelow n next.Exit = Unit {0}

-- what it declares may be declared, or is one of the reference file, which is compared at the end
abbrev pub MayFollow : Context → Terms → RefNext → Type 0
MayFollow c t (next.Declare d) = MayBeReferred c (read_declaration t.trees d)
MayFollow c t n = Unit {0}

-- its fault; out of memory has none
abbrev pub told : RefRefused → Option FaultName
told refused.UnknownCommand = Some fault.UnknownCommand
told (refused.Elab e) = names.told e

abbrev pub GivesNext : Terms → Result RefNext RefRefused → Checked ReferenceNext → Type 0
GivesNext t r o = Gives told (NextBelow (length t.trees)) (read_next t) r o

-- the definitions over a table and a signature
abbrev pub next_in : Terms → Kept → Command → Checked ReferenceNext
next_in t k command = by_command (signature t.trees k) (macros t.trees k) command

abbrev pub asserted_in : Terms → Kept → Sexp → Checked ReferenceNext
asserted_in t k s = asserted (signature t.trees k) (macros t.trees k) s

abbrev pub declares_in : Terms → Kept → Command → Checked ReferenceNext
declares_in t k command = declares (signature t.trees k) (macros t.trees k) command

abbrev pub command_in : Terms → Kept → Sexp → Checked ReferenceNext
command_in t k s = reference_command (signature t.trees k) (macros t.trees k) s
