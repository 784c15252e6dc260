-- What a symbol means.
use Rattle.std.specs.Prelude.{ℕ, ◌&&◌, ◌==◌, if◌then◌else◌, List, length, Option, Some, None, option_map, slice_get, bytes_eq, codes}
use Rattle.eo_sig.specs.Signature.{Macro, Named, NamesConstant, NamesMacro, NamesProgram, lookup, program_at}
use Rattle.eo_term.specs.declared.OpCode.{OpCode}
use Rattle.eo_term.specs.declared.OpName.{OpName}
use Rattle.eo_term.specs.Operators.{arity, operator_named}
use Rattle.eo_term.specs.Tree.{Tree, Con}
use Rattle.eo_names.specs.Contexts.{FileKind, Context, Local, is_reference, lookup_head, local_named}

pub data Resolved : Type 0 where
  ATree : (tree : Tree) → Resolved
  AMacro : (macro : Macro) → Resolved
  AnOperator : (code : OpCode) (arity : ℕ) → Resolved
  Nothing : Resolved

-- a macro without parameters is its tree
abbrev pub macro_meant : Macro → Resolved
macro_meant m = if length m.parameters == 0 then ATree m.tree else AMacro m

abbrev pub or_nothing : Option Resolved → Resolved
or_nothing (Some m) = m
or_nothing None = Nothing

module _ (c : Context) where
  abbrev pub program_meant : ℕ → Resolved
  program_meant p = or_nothing (option_map (λ program. AnOperator (OpCode.Prog p) (length program.inputs)) (program_at c.signature p))

  abbrev pub global_meant : Option Named → Resolved
  global_meant None = Nothing
  global_meant (Some (NamesConstant k)) = ATree (Con k)
  global_meant (Some (NamesMacro m)) = or_nothing (option_map macro_meant (slice_get c.macros m))
  global_meant (Some (NamesProgram p)) = program_meant p

  -- a local name hides all others
  abbrev pub local_meant : Option Tree → Option Named → Resolved
  local_meant (Some t) n = ATree t
  local_meant None n = global_meant n

  -- the names of operators are never looked up
  abbrev pub operator_meant : Option OpName → Resolved → Resolved
  operator_meant (Some o) m = AnOperator (OpCode.Builtin o) (arity o)
  operator_meant None m = m

  abbrev pub meant : List Local → List ℕ → Resolved
  meant locals name = operator_meant (operator_named name) (local_meant (local_named locals name) (lookup c.signature c.macros name))

  -- as the head of so many arguments
  abbrev pub meant_before : (arguments : ℕ) → List Local → List ℕ → Resolved
  meant_before n locals name = operator_meant (operator_named name) (local_meant (local_named locals name) (lookup_head c.naming c.signature c.macros name n))

-- Words that are never looked up.
pub data Word : Type 0 where
  Underscore : Word
  Arrow : Word
  Let : Word
  -- only in reference files
  Annotation : Word
  Name : Word

abbrev pub word_of : FileKind → List ℕ → Word
word_of file_kind name =
    if bytes_eq name (codes "_") then Underscore
    else if bytes_eq name (codes "->") then Arrow
    else if bytes_eq name (codes "let") then Let
    else if is_reference file_kind && bytes_eq name (codes "!") then Annotation
    else Name
