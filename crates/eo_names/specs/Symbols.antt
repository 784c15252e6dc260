-- What symbols mean, over the terms of a table.
use Rattle.std.specs.Prelude.{ℕ, ◌<◌, List, length, option_map, slice_get}
use Rattle.eo_term.specs.Tree.{Tree, Con}
use Rattle.eo_term.specs.Terms.{tree_at, HasArity}
use Rattle.eo_sig.specs.Reading.{Kept, macros}
use Rattle.eo_names.specs.declared.symbols.Word as code_word
use Rattle.eo_names.specs.declared.symbols.Word.TheVariants as words
use Rattle.eo_names.specs.declared.symbols.Resolved as code_meant
use Rattle.eo_names.specs.declared.symbols.Resolved.TheVariants as meant
use Rattle.eo_names.specs.Meanings.{Word, Underscore, Arrow, Let, Annotation, Name}
use Rattle.eo_names.specs.Meanings.{Resolved, ATree, AMacro, AnOperator, Nothing, or_nothing}

abbrev pub read_word : code_word.Word → Word
read_word words.Underscore = Underscore
read_word words.Arrow = Arrow
read_word words.Let = Let
read_word words.Annotation = Annotation
read_word words.Name = Name

abbrev pub read_meant : List Tree → Kept → code_meant.Resolved → Resolved
read_meant ts k (meant.Term i) = ATree (tree_at ts i)
read_meant ts k (meant.Constant c) = ATree (Con c)
read_meant ts k (meant.Macro m) = or_nothing (option_map AMacro (slice_get (macros ts k) m))
read_meant ts k (meant.Operator code arity) = AnOperator code arity
read_meant ts k meant.Nothing = Nothing

-- its term is below n, a macro's number is that of one, and an operator takes so many arguments
abbrev pub IsLive : ℕ → Kept → code_meant.Resolved → Type 0
IsLive n k (meant.Term i) = i < n
IsLive n k (meant.Constant c) = Unit {0}
IsLive n k (meant.Macro m) = m < length k.macros
IsLive n k (meant.Operator code arity) = HasArity code arity
IsLive n k meant.Nothing = Unit {0}
