-- What a run holds between two commands.
use Rattle.std.specs.Prelude.{ℕ, ◌+◌, ◌-◌, ◌^◌, Bool, true, false, not, nat_eq, if◌then◌else◌, List, [], ◌∷◌, ◌++◌, length, take, drop, Option, Some, None, min, Ok, Err}
use Rattle.std.specs.List.{list_any}
use Rattle.eo_base.specs.declared.FaultName.{FaultName}
use Rattle.eo_base.specs.declared.FaultName.TheVariants.{ScopeOpen, NoReference, NoRefutation, SecondReference}
use Rattle.eo_base.specs.Checks.{Checked}
use Rattle.eo_sig.specs.Signature.{Signature, SignatureEntry, Macro, first_signature}
use Rattle.eo_term.specs.Tree.{Tree, tree_eq}
use Rattle.eo_names.specs.Contexts.{Context, FileKind, InProof, Naming, Several}
use Rattle.eo_proof.specs.Scopes as proof
use Rattle.eo_proof.specs.Scopes.{Scopes, no_facts, depth, outside, has_false}

pub record State : Type 0 where
  pub signature : Signature
  pub macros : List Macro
  -- how many macros there were before each open scope, the innermost first
  pub outer_macros : List ℕ
  -- the formulas that the reference file asserts, each once
  pub assertions : List Tree
  pub has_reference : Bool
  -- the facts, in scopes
  pub scopes : Scopes
  -- whether a step used a rule that is marked as unproved
  pub sorry : Bool
  -- whether the proof may declare no rules and programs
  pub closed : Bool
  -- how many constants a name may have
  pub naming : Naming
  -- how many commands were accepted, as far as it is counted
  pub commands : ℕ

unfoldable pub first_state : (closed : Bool) → State
first_state closed =
    record { signature = first_signature; macros = []; outer_macros = []; assertions = []; has_reference = false; scopes = no_facts; sorry = false; closed = closed; naming = Several; commands = 0 }

-- what names mean in a file of this kind
abbrev pub context_in : State → FileKind → Context
context_in st file_kind = record { signature = st.signature; macros = st.macros; file_kind = file_kind; naming = st.naming }

-- the same in a signature or a proof
abbrev pub context : State → Context
context st = context_in st InProof

abbrev pub with_entry : State → SignatureEntry → State
with_entry st e = record st { signature = st.signature ++ e ∷ [] }

abbrev pub with_macro : State → Macro → State
with_macro st m = record st { macros = st.macros ++ m ∷ [] }

-- a fact has the number of the command that makes it
abbrev pub with_fact : State → List ℕ → Tree → State
with_fact st name t = record st { scopes = proof.with_fact st.scopes name t st.commands }

-- a scope is opened with its assumption
abbrev pub with_scope : State → List ℕ → Tree → State
with_scope st name t = record st { scopes = proof.with_scope st.scopes name t st.commands; outer_macros = length st.macros ∷ st.outer_macros }

-- the macros before the innermost scope
abbrev pub macros_before : List ℕ → List Macro → List Macro
macros_before [] ms = ms
macros_before (n ∷ ns) ms = take n ms

-- the innermost scope is closed, with all facts and macros that were made in it
abbrev pub without_scope : State → State
without_scope st =
    record st { scopes = outside st.scopes; macros = macros_before st.outer_macros st.macros; outer_macros = drop 1 st.outer_macros }

-- commands are counted up to 2^64 - 1
abbrev pub with_command : State → State
with_command st = record st { commands = min (st.commands + 1) (2 ^ 64 - 1) }

abbrev pub is_asserted : State → Tree → Bool
is_asserted st t = list_any (tree_eq t) st.assertions

-- the formula is asserted
abbrev pub with_assertion : State → Tree → State
with_assertion st t = if is_asserted st t then st else record st { assertions = st.assertions ++ t ∷ [] }

abbrev pub is_in_scope : State → Bool
is_in_scope st = not (nat_eq (depth st.scopes) 0)

-- a reference file begins, unless there is one
unfoldable pub begin_reference : State → Checked State
begin_reference st = if st.has_reference then Err SecondReference else Ok (record st { has_reference = true })

-- What is wrong at the end of a proof, if anything.
unfoldable pub end_fault : State → Option FaultName
end_fault st =
    if is_in_scope st then Some ScopeOpen
    else if not st.has_reference then Some NoReference
    else if not (has_false st.scopes) then Some NoRefutation
    else None
