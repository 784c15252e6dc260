-- What an atom means is within its ranges.
use Rattle.std.specs.Prelude.{◌≡◌, ℕ, Bool, true, false, ◌==◌, if◌then◌else◌, List, [], ◌∷◌, find, length, Option, Some, None, option_map, slice_get, bytes_eq, refl}
use Rattle.std.specs.List.{list_all}
use Rattle.std.proofs.Common.{subst}
use Rattle.eo_base.specs.declared.FaultName.TheVariants.{BadLiteral, UnknownSymbol, BadArity}
use Rattle.eo_base.proofs.ChecksLemmas.{value_or_ok}
use Rattle.eo_base.proofs.Tests.{both}
use Rattle.eo_lit.specs.Literals.{literal_value, string_value}
use Rattle.eo_sexp.specs.AtomKind.{AtomKind}
use Rattle.eo_sexp.specs.AtomKind as kind
use Rattle.eo_sig.specs.Signature.{Macro, Program, Constant, Named, NamesConstant, NamesMacro, NamesProgram, lookup, program_at, constant_at}
use Rattle.eo_term.specs.declared.OpCode.{OpCode}
use Rattle.eo_term.specs.declared.OpName.{OpName}
use Rattle.eo_term.specs.Operators.{operator_named}
use Rattle.eo_term.specs.Tree.{Tree, Str}
use Rattle.eo_names.specs.Contexts.{Context, Local, lookup_head, local_named}
use Rattle.eo_names.specs.Meanings.{Resolved, ATree, AMacro, AnOperator, Nothing, macro_meant, or_nothing, program_meant, global_meant, local_meant, operator_meant, meant, meant_before, Word, Name, word_of}
use Rattle.eo_elab.specs.Meaning.{literal_tree, tree_alone, word_alone, atom}
use Rattle.eo_elab.proofs.Uses.{at_place}
use Rattle.eo_roundtrip.proofs.Within.{is_text, is_within, attribute_within, signature_within, macros_within}
use Rattle.eo_roundtrip.proofs.Ranges.{IsWithin}
use Rattle.eo_roundtrip.proofs.Puts.{some-within}
use Rattle.eo_roundtrip.proofs.TypeValues.{constant-within}
use Rattle.eo_roundtrip.proofs.LiteralsWithin.{literal-within, string-within}
use Rattle.eo_roundtrip.proofs.FoldsWithin.{PassesWithin, ok_within, err_within}

-- what terms are made of is within its ranges
pub record HoldsWithin (c : Context) : Type 0 where
  pub signature : signature_within c.signature ≡ true
  pub macros : macros_within c.macros ≡ true

pub folds : (c : Context) → HoldsWithin c → (k : ℕ) (d : Constant) → constant_at c.signature k ≡ Some d → attribute_within d.attribute ≡ true
folds c h k d e = (constant-within c.signature h.signature k d e).1

abbrev pub LocalsWithin : List Local → Type 0
LocalsWithin locals = list_all (λ l. is_within l.tree) locals ≡ true

-- a tree, or a macro whose tree is
abbrev pub MeantWithin : Resolved → Type 0
MeantWithin (ATree t) = IsWithin t
MeantWithin (AMacro m) = IsWithin m.tree
MeantWithin (AnOperator code arity) = Unit {0}
MeantWithin Nothing = Unit {0}

macro_meant_within : (m : Macro) → IsWithin m.tree → MeantWithin (macro_meant m)
macro_meant_within m h = by_count (length m.parameters == 0)
  where
    by_count : (b : Bool) → MeantWithin (if b then ATree m.tree else AMacro m)
    by_count true = h
    by_count false = h

module _ (c : Context) (fits : HoldsWithin c) where
  macro_named_within : (k : ℕ) → MeantWithin (or_nothing (option_map macro_meant (slice_get c.macros k)))
  macro_named_within k = by_macro (slice_get c.macros k) refl
    where
      by_macro : (o : Option Macro) → slice_get c.macros k ≡ o → MeantWithin (or_nothing (option_map macro_meant o))
      by_macro None e = tt
      by_macro (Some m) e = macro_meant_within m (at_place (λ (x : Macro). is_within x.tree) c.macros fits.macros k m e)

  program_meant_within : (p : ℕ) → MeantWithin (program_meant c p)
  program_meant_within p = by_program (program_at c.signature p)
    where
      by_program : (o : Option Program) →
          MeantWithin (or_nothing (option_map (λ program. AnOperator (OpCode.Prog p) (length program.inputs)) o))
      by_program None = tt
      by_program (Some q) = tt

  global_meant_within : (n : Option Named) → MeantWithin (global_meant c n)
  global_meant_within None = tt
  global_meant_within (Some (NamesConstant k)) = refl
  global_meant_within (Some (NamesMacro k)) = macro_named_within k
  global_meant_within (Some (NamesProgram p)) = program_meant_within p

  local_found : (test : Local → Bool) (locals : List Local) → LocalsWithin locals → (t : Tree) →
      option_map (λ l. l.tree) (find test locals) ≡ Some t → IsWithin t
  local_found test [] h t e = absurd (cc e)
  local_found test (x ∷ xs) h t e = by_test (test x) e (local_found test xs (both h).1 t)
    where
      by_test : (b : Bool) → option_map (λ l. l.tree) (if b then Some x else find test xs) ≡ Some t →
          (option_map (λ l. l.tree) (find test xs) ≡ Some t → IsWithin t) → IsWithin t
      by_test true q onward = let same : x.tree ≡ t = cc q in subst (IsWithin) same (both h).0
      by_test false q onward = onward q

  module _ (locals : List Local) (h : LocalsWithin locals) where
    local_meant_within : (name : List ℕ) (n : Option Named) → MeantWithin (local_meant c (local_named locals name) n)
    local_meant_within name n = by_local (local_named locals name) refl
      where
        by_local : (o : Option Tree) → local_named locals name ≡ o → MeantWithin (local_meant c o n)
        by_local None e = global_meant_within n
        by_local (Some t) e = local_found (λ l. bytes_eq l.name name) locals h t e

    operator_meant_within : (o : Option OpName) (m : Resolved) → MeantWithin m → MeantWithin (operator_meant c o m)
    operator_meant_within (Some o) m k = tt
    operator_meant_within None m k = k

    named_within : (name : List ℕ) (n : Option Named) → MeantWithin (operator_meant c (operator_named name) (local_meant c (local_named locals name) n))
    named_within name n = operator_meant_within (operator_named name) (local_meant c (local_named locals name) n) (local_meant_within name n)

    pub meant_within : (name : List ℕ) → MeantWithin (meant c locals name)
    meant_within name = named_within name (lookup c.signature c.macros name)

    pub meant_before_within : (n : ℕ) (name : List ℕ) → MeantWithin (meant_before c n locals name)
    meant_before_within n name = named_within name (lookup_head c.naming c.signature c.macros name n)

    -- ---- atoms

    alone_within : (m : Resolved) → MeantWithin m → PassesWithin (tree_alone m)
    alone_within (ATree u) k = ok_within u k
    alone_within (AMacro m) k = err_within BadArity
    alone_within (AnOperator code arity) k = err_within BadArity
    alone_within Nothing k = err_within UnknownSymbol

    word_alone_within : (w : Word) (m : Resolved) → MeantWithin m → PassesWithin (word_alone w m)
    word_alone_within Name m k = alone_within m k
    word_alone_within w m k = err_within BadArity

    pub atom_within : (k : AtomKind) (text : List ℕ) → is_text text ≡ true → PassesWithin (atom c locals k text)
    unfolding atom
    atom_within kind.Symbol text f = word_alone_within (word_of c.file_kind text) (meant c locals text) (meant_within text)
    atom_within kind.Literal text f = λ t e.
        some-within (option_map literal_tree (literal_value text)) t (literal-within text) (value_or_ok BadLiteral (option_map literal_tree (literal_value text)) t e)
    atom_within kind.String text f = λ t e.
        some-within (option_map Str (string_value text)) t (string-within text f) (value_or_ok BadLiteral (option_map Str (string_value text)) t e)
    atom_within kind.Keyword text f = err_within UnknownSymbol
