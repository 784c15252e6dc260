-- What a symbol means uses no parameter that the locals do not use.
use Rattle.std.specs.Prelude.{◌≡◌, ◌<◌, ℕ, Bool, true, false, nat_lt, ◌==◌, if◌then◌else◌, List, [], ◌∷◌, find, length, Option, Some, None, option_map, slice_get, bytes_eq, refl}
use Rattle.std.specs.List.{list_all}
use Rattle.std.proofs.Common.{subst, arith}
use Rattle.std.proofs.lemmas.Bool.{eqb-true}
use Rattle.std.proofs.lemmas.Bool.Decides.{Decides-ltb}
use Rattle.eo_base.specs.declared.FaultName.TheVariants.{BadLiteral, UnknownSymbol, BadArity}
use Rattle.eo_base.proofs.ChecksLemmas.{value_or_ok}
use Rattle.eo_base.proofs.Tests.{both}
use Rattle.eo_lit.specs.Literals.{Literal, Number, BitString, literal_value, string_value}
use Rattle.eo_sexp.specs.AtomKind.{AtomKind}
use Rattle.eo_sexp.specs.AtomKind as kind
use Rattle.eo_sig.specs.Signature.{Macro, Program, Named, NamesConstant, NamesMacro, NamesProgram, lookup, program_at}
use Rattle.eo_term.specs.declared.OpCode.{OpCode}
use Rattle.eo_term.specs.declared.OpName.{OpName}
use Rattle.eo_term.specs.Operators.{operator_named}
use Rattle.eo_term.specs.Tree.{Tree, Num, Bits, Str, uses_only}
use Rattle.eo_names.specs.Contexts.{Context, Local, lookup_head, local_named}
use Rattle.eo_names.specs.Meanings.{Resolved, ATree, AMacro, AnOperator, Nothing, macro_meant, or_nothing, program_meant, global_meant, local_meant, operator_meant, meant, meant_before, Word, Name, word_of}
use Rattle.eo_elab.specs.Fitting.{FitsTerms, macro_is_bound}
use Rattle.eo_elab.specs.Meaning.{literal_tree, tree_alone, word_alone, atom}
use Rattle.eo_elab.proofs.Uses.{uses_more, at_place}
use Rattle.eo_elab.proofs.FoldUses.{Within, PassesWithin, ok_within, err_within}

module _ (known : ℕ → Bool) where
  abbrev pub LocalsWithin : List Local → Type 0
  LocalsWithin locals = list_all (λ l. uses_only known l.tree) locals ≡ true

  -- a tree, or a macro that uses its own parameters alone
  abbrev pub MeantWithin : Resolved → Type 0
  MeantWithin (ATree t) = Within known t
  MeantWithin (AMacro m) = macro_is_bound m ≡ true
  MeantWithin (AnOperator code arity) = Unit {0}
  MeantWithin Nothing = Unit {0}

  macro_meant_within : (m : Macro) → macro_is_bound m ≡ true → MeantWithin (macro_meant m)
  macro_meant_within m h = by_count (length m.parameters == 0) refl
    where
      none : (length m.parameters == 0) ≡ true → (j : ℕ) → nat_lt j (length m.parameters) ≡ true → known j ≡ true
      none e j lt =
          let below : j < length m.parameters = (Decides-ltb j (length m.parameters)).0 lt in
          let empty : length m.parameters ≡ 0 = eqb-true (length m.parameters) 0 e in
          absurd (omega (arith, below, empty))

      by_count : (b : Bool) → (length m.parameters == 0) ≡ b → MeantWithin (if b then ATree m.tree else AMacro m)
      by_count true e = uses_more (λ j. nat_lt j (length m.parameters)) known (none e) m.tree h
      by_count false e = h

  module _ (c : Context) (fits : FitsTerms c) where
    macro_named_within : (k : ℕ) → MeantWithin (or_nothing (option_map macro_meant (slice_get c.macros k)))
    macro_named_within k = by_macro (slice_get c.macros k) refl
      where
        by_macro : (o : Option Macro) → slice_get c.macros k ≡ o → MeantWithin (or_nothing (option_map macro_meant o))
        by_macro None e = tt
        by_macro (Some m) e = macro_meant_within m (at_place macro_is_bound c.macros fits.macros k m e)

    program_meant_within : (p : ℕ) → MeantWithin (program_meant c p)
    program_meant_within p = by_program (program_at c.signature p)
      where
        by_program : (o : Option Program) →
            MeantWithin (or_nothing (option_map (λ program. AnOperator (OpCode.Prog p) (length program.inputs)) o))
        by_program None = tt
        by_program (Some q) = tt

    global_meant_within : (n : Option Named) → MeantWithin (global_meant c n)
    global_meant_within None = tt
    global_meant_within (Some (NamesConstant k)) = refl
    global_meant_within (Some (NamesMacro k)) = macro_named_within k
    global_meant_within (Some (NamesProgram p)) = program_meant_within p

    local_found : (test : Local → Bool) (locals : List Local) → LocalsWithin locals → (t : Tree) →
        option_map (λ l. l.tree) (find test locals) ≡ Some t → Within known t
    local_found test [] h t e = absurd (cc e)
    local_found test (x ∷ xs) h t e = by_test (test x) e (local_found test xs (both h).1 t)
      where
        by_test : (b : Bool) → option_map (λ l. l.tree) (if b then Some x else find test xs) ≡ Some t →
            (option_map (λ l. l.tree) (find test xs) ≡ Some t → Within known t) → Within known t
        by_test true q onward = let same : x.tree ≡ t = cc q in subst (Within known) same (both h).0
        by_test false q onward = onward q

    module _ (locals : List Local) (h : LocalsWithin locals) where
      local_meant_within : (name : List ℕ) (n : Option Named) → MeantWithin (local_meant c (local_named locals name) n)
      local_meant_within name n = by_local (local_named locals name) refl
        where
          by_local : (o : Option Tree) → local_named locals name ≡ o → MeantWithin (local_meant c o n)
          by_local None e = global_meant_within n
          by_local (Some t) e = local_found (λ l. bytes_eq l.name name) locals h t e

      operator_meant_within : (o : Option OpName) (m : Resolved) → MeantWithin m → MeantWithin (operator_meant c o m)
      operator_meant_within (Some o) m k = tt
      operator_meant_within None m k = k

      named_within : (name : List ℕ) (n : Option Named) → MeantWithin (operator_meant c (operator_named name) (local_meant c (local_named locals name) n))
      named_within name n = operator_meant_within (operator_named name) (local_meant c (local_named locals name) n) (local_meant_within name n)

      pub meant_within : (name : List ℕ) → MeantWithin (meant c locals name)
      meant_within name = named_within name (lookup c.signature c.macros name)

      pub meant_before_within : (n : ℕ) (name : List ℕ) → MeantWithin (meant_before c n locals name)
      meant_before_within n name = named_within name (lookup_head c.naming c.signature c.macros name n)

      -- ---- atoms

      alone_within : (m : Resolved) → MeantWithin m → PassesWithin known (tree_alone m)
      alone_within (ATree u) k = ok_within known u k
      alone_within (AMacro m) k = err_within known BadArity
      alone_within (AnOperator code arity) k = err_within known BadArity
      alone_within Nothing k = err_within known UnknownSymbol

      word_alone_within : (w : Word) (m : Resolved) → MeantWithin m → PassesWithin known (word_alone w m)
      word_alone_within Name m k = alone_within m k
      word_alone_within w m k = err_within known BadArity

      literal_within : (o : Option Literal) (t : Tree) → option_map literal_tree o ≡ Some t → Within known t
      literal_within (Some (Number z)) t e = let same : Num z ≡ t = cc e in subst (Within known) same refl
      literal_within (Some (BitString w v)) t e = let same : Bits w v ≡ t = cc e in subst (Within known) same refl
      literal_within None t e = absurd (cc e)

      string_within : (o : Option (List ℕ)) (t : Tree) → option_map Str o ≡ Some t → Within known t
      string_within (Some s) t e = let same : Str s ≡ t = cc e in subst (Within known) same refl
      string_within None t e = absurd (cc e)

      pub atom_within : (k : AtomKind) (text : List ℕ) → PassesWithin known (atom c locals k text)
      unfolding atom
      atom_within kind.Symbol text = word_alone_within (word_of c.file_kind text) (meant c locals text) (meant_within text)
      atom_within kind.Literal text = λ t e.
          let o = option_map literal_tree (literal_value text) in
          literal_within (literal_value text) t (value_or_ok BadLiteral o t e)
      atom_within kind.String text = λ t e.
          string_within (string_value text) t (value_or_ok BadLiteral (option_map Str (string_value text)) t e)
      atom_within kind.Keyword text = err_within known UnknownSymbol
