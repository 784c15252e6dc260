-- The lines that a value is shown by: a definition for each member that gets one.
use Rattle.std.specs.Prelude.{ℕ, zero, suc, ◌+◌, if◌then◌else◌, List, [], ◌∷◌, ◌++◌, map, length, find, Option, Some, None, option_map, codes}
use Rattle.std.specs.Fmt.{decimal}
use Rattle.eo_sexp.specs.Sexp.{Sexp}
use Rattle.eo_sexp.specs.Printing.{printed_lines}
use Rattle.eo_sig.specs.Signature.{Signature, Macro, is_free}
use Rattle.eo_term.specs.Tree.{Tree, height, tree_eq}
use Rattle.eo_show.specs.Forms.{form, with_parts, symbol, list}
use Rattle.eo_show.specs.Members.{defined}

-- a tree that gets a line, and its name
pub record Line : Type 0 where
  pub name : List ℕ
  pub tree : Tree

-- ---- names

abbrev pub line_name : ℕ → List ℕ
line_name k = codes "@s" ++ decimal k

module _ (S : Signature) (macros : List Macro) where
  -- the first number from k on whose name is free, after at most so many that are not
  abbrev pub first_free : (turns : ℕ) → ℕ → ℕ
  first_free zero k = k
  first_free (suc turns) k = if is_free S macros (line_name k) then k else first_free turns (suc k)

  -- no more names are taken than there are declarations and macros
  abbrev pub next_free : ℕ → ℕ
  next_free k = first_free (length S + length macros) k

  -- a name for each tree, with numbers from k on
  abbrev pub named_from : ℕ → List Tree → List Line
  named_from k [] = []
  named_from k (t ∷ ts) = record { name = line_name (next_free k); tree = t } ∷ named_from (suc (next_free k)) ts

-- ---- lines

abbrev pub name_in : List Line → Tree → Option (List ℕ)
name_in lines p = option_map (λ l. l.name) (find (λ l. tree_eq p l.tree) lines)

abbrev pub name_or : Option (List ℕ) → Sexp → Sexp
name_or (Some name) s = symbol name
name_or None s = s

-- a macro without parameters
abbrev pub definition : List ℕ → Sexp → Sexp
definition name body = list (symbol (codes "define") ∷ symbol name ∷ list [] ∷ body ∷ [])

module _ (S : Signature) where
  -- A tree, of which each part that has a name is written as that. The number bounds how deep parts lie.
  abbrev pub written : ℕ → (Tree → Option (List ℕ)) → Tree → Sexp
  written zero named t = symbol []
  written (suc deeper) named t = with_parts S (λ p. name_or (named p) (written deeper named p)) (form S t)

  -- the line of a tree, where these are the names of trees that get one
  abbrev pub line : (Tree → Option (List ℕ)) → Line → Sexp
  line named l = definition l.name (written (height l.tree) named l.tree)

  abbrev pub lines_of : List Line → List Sexp
  lines_of lines = map (line (name_in lines)) lines

  unfoldable pub shown_lines : List Macro → Tree → List Line
  shown_lines macros t = named_from S macros 1 (defined S t)

  -- The bytes that a value is shown by.
  unfoldable pub shown : List Macro → Tree → List ℕ
  shown macros t = printed_lines (lines_of (shown_lines macros t))
