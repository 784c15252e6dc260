-- What is held, with numbers of terms, and what this states.
use Rattle.std.specs.Prelude.{◌≡◌, ℕ, suc, ◌<◌, ◌≤◌, Bool, false, ◌&&◌, nat_eq, if◌then◌else◌, List, [], ◌∷◌, ◌++◌, length, map, All, Option, Some, None, option_map, option_and_then, get_or, Result, Ok, Err}
use Rattle.eo_term.specs.Tree.{Tree, is_tall, tree_eq, truth}
use Rattle.eo_term.specs.Terms.{Terms, tree_at}
use Rattle.eo_term.specs.Growth.{Grows, tree_in}
use Rattle.eo_sig.specs.Reading.{signature, IsBelow, SomeBelow}
use Rattle.eo_sig.specs.Signature.{Signature}
use Rattle.eo_sig.specs.Usable.{IsUsable}
use Rattle.eo_type.specs.Known.{Fits, Lasts}
use Rattle.eo_stack.specs.Evaluation.{Call}
use Rattle.eo_stack.specs.declared.calls.CallKey.{CallKey}
use Rattle.eo_cert.specs.Stated as stated
use Rattle.eo_cert.specs.Stated.{Stated, outermost}
use Rattle.eo_cert.specs.Uses.{inside}
use Rattle.eo_stated.specs.declared.checker.Context as code_context
use Rattle.eo_stated.specs.declared.checker.Derivation as code_derivation
use Rattle.eo_stated.specs.declared.checker.Evaluated as code_evaluated
use Rattle.eo_stated.specs.declared.checker.Checker.{Checker}
use Rattle.eo_stated.specs.Sizes.{HasFewParts}
use Rattle.eo_stated.specs.declared.refused.LineRefused.{LineRefused}
use Rattle.eo_stated.specs.declared.refused.LineRefused.TheVariants.{Bad, Memory}

-- ---- what is held, over a list of trees

-- the context of this number among those
abbrev pub context_of : List stated.Context → ℕ → stated.Context
context_of cs n = get_or cs n outermost

-- these contexts, and after them those that are held, each inside one before it
abbrev pub read_inner : List Tree → List stated.Context → List code_context.Context → List stated.Context
read_inner ts before [] = before
read_inner ts before (c ∷ cs) =
    read_inner ts (before ++ inside c.outer (context_of before c.outer) (tree_at ts c.assumed) ∷ []) cs

abbrev pub read_contexts : List Tree → List code_context.Context → List stated.Context
read_contexts ts cs = read_inner ts (outermost ∷ []) cs

abbrev pub read_derivation : List Tree → code_derivation.Derivation → stated.Derivation
read_derivation ts d = record { context = d.context; formula = tree_at ts d.formula }

abbrev pub read_evaluated : List Tree → code_evaluated.Evaluated → stated.Evaluated
read_evaluated ts e = record { term = tree_at ts e.term; outcome = option_map (tree_at ts) e.outcome; depth = e.depth }

abbrev pub read_call : List Tree → CallKey → Call
read_call ts k = record { program = k.program; arguments = map (tree_at ts) k.args }

abbrev pub stated_of : Checker → Stated
stated_of c = let ts = c.table.trees in record {
  session = c.session.state;
  terms = map (tree_at ts) c.terms.items;
  contexts = read_contexts ts c.contexts.items;
  derivations = map (read_derivation ts) c.derivations.items;
  block = map (read_evaluated ts) c.block.items;
  calls = map (read_call ts) c.calls.keys;
}

-- what is declared, over the terms of the table
abbrev pub signature_of : Checker → Signature
signature_of c = signature c.table.trees c.signature

-- `false` outside of all contexts
abbrev pub is_false : stated.Derivation → Bool
is_false d = nat_eq d.context 0 && tree_eq d.formula (truth false)

-- ---- all terms are those of the table

abbrev pub AreBelow : ℕ → List ℕ → Type 0
AreBelow n is = All (λ i. i < n) is

-- each context is inside one before it, of which there are so many
abbrev pub AreNested : ℕ → List code_context.Context → Type 0
AreNested n [] = Unit {0}
AreNested n (c ∷ cs) = (c.outer < n) × AreNested (suc n) cs

abbrev pub ContextBelow : ℕ → code_context.Context → Type 0
ContextBelow n c = c.assumed < n

abbrev pub DerivationBelow : ℕ → code_derivation.Derivation → Type 0
DerivationBelow n d = d.formula < n

pub record EvaluatedBelow (n : ℕ) (e : code_evaluated.Evaluated) : Type 0 where
  pub term : e.term < n
  pub outcome : SomeBelow n e.outcome

-- it is no deeper than the block has lines
abbrev pub IsShallow : ℕ → code_evaluated.Evaluated → Type 0
IsShallow n e = e.depth ≤ n

abbrev pub CallBelow : ℕ → CallKey → Type 0
CallBelow n k = AreBelow n k.args

-- What is declared and asserted is that of the session. The types that were found are right, and stay so.
pub record IsHeld (c : Checker) : Type 0 where
  pub going : c.session.ended ≡ false
  pub declared : signature_of c ≡ c.session.state.signature
  pub asserted : map (tree_at c.table.trees) c.assertions ≡ c.session.state.assertions
  pub types : Fits (signature c.table.trees c.signature) c.table.trees c.types
  pub lasts : Lasts c.types
  pub usable : IsUsable (signature c.table.trees c.signature)
  pub parts : HasFewParts (signature c.table.trees c.signature)
  pub signature : IsBelow (length c.table.trees) c.signature
  pub assertions : AreBelow (length c.table.trees) c.assertions
  pub terms : AreBelow (length c.table.trees) c.terms.items
  pub nested : AreNested 1 c.contexts.items
  pub contexts : All (ContextBelow (length c.table.trees)) c.contexts.items
  pub derivations : All (DerivationBelow (length c.table.trees)) c.derivations.items
  pub block : All (EvaluatedBelow (length c.table.trees)) c.block.items
  pub depths : All (IsShallow (length c.block.items)) c.block.items
  pub calls : All (CallBelow (length c.table.trees)) c.calls.keys

-- What is stated has stayed: terms of the table alone, and types that were found, may have come.
pub record Keeps (old new : Checker) : Type 0 where
  pub held : IsHeld new
  pub same : stated_of new ≡ stated_of old
  pub grows : Grows old.table new.table

-- ---- what calls return

-- a tree that is not too tall
abbrev pub low : Option Tree → Option Tree
low o = option_and_then (λ t. if is_tall t then None else Some t) o

-- the id of the tree that is found, or what refuses it
abbrev pub GivesTerm : Terms → Result ℕ LineRefused → Option Tree → Type 0
GivesTerm t (Ok i) o = (i < length t.trees) × (o ≡ Some (tree_in t i))
GivesTerm t (Err Bad) o = o ≡ None
GivesTerm t (Err (Memory e)) o = Unit {0}

-- what is held states what the definition gives
abbrev pub Does : Result (Unit {0}) LineRefused → Option Stated → Checker → Type 0
Does (Ok x) o new = o ≡ Some (stated_of new)
Does (Err Bad) o new = o ≡ None
Does (Err (Memory e)) o new = Unit {0}
