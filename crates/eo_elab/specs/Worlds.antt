-- What is read in a scope, over a table and a signature: the definitions of meaning at the code's own values.
use Rattle.std.specs.Prelude.{ℕ, Bool, List, [], None, map, if◌then◌else◌}
use Rattle.std.specs.Borrow.{Bor}
use Rattle.eo_base.specs.Checks.{Checked}
use Rattle.eo_sexp.specs.AtomKind.{AtomKind}
use Rattle.eo_sexp.specs.Sexp.{Sexp, Sexps, Listed, Span, sexps_of}
use Rattle.eo_shape.specs.Words.{symbol_of}
use Rattle.eo_sig.specs.Reading.{Kept, signature, macros}
use Rattle.eo_term.specs.Terms.{Terms, tree_at}
use Rattle.eo_term.specs.Growth.{tree_in, trees_in}
use Rattle.eo_term.specs.Tree.{Tree}
use Rattle.eo_elab.specs.declared.plan.Form.{Form}
use Rattle.eo_names.specs.declared.usage.Head.{Head}
use Rattle.eo_elab.specs.Forms.{Parts, parts_of, application, tree_application, meant_application, word_application, headed, formed_from, formed, arguments_used, arguments_for, all_after}
use Rattle.eo_names.specs.Contexts.{Context, FileKind, InReference, InAssert, Several, is_reference}
use Rattle.eo_elab.specs.Meaning.{count, atom, meaning, means, means_all, in_let, in_binder, annotated, label, named_terms_of, underscore_form, bit_vector, pair_list, pairs_after}
use Rattle.eo_names.specs.Meanings.{Resolved, word_of, meant_before}
use Rattle.eo_names.specs.Ready.{context}
use Rattle.eo_names.specs.Worlds.{World, Read, world, world_of}
use Rattle.eo_names.specs.declared.scope.Scope.{Scope}
use Rattle.eo_names.specs.Names.{Binding}
use Rattle.eo_names.specs.declared.locals.LocalName.{LocalName}
use Rattle.eo_names.specs.Readers.{NamedTerm, Reader}
use Rattle.eo_names.specs.Scopes.{file_kind_in, read_file_kind}
use Rattle.eo_names.specs.declared.scope.FileKind as code

-- what names mean outside of every scope
abbrev pub context_in : Terms → Kept → Context
context_in t k = context t.trees k

-- the same in a file of the given kind
abbrev pub context_at : Terms → Kept → code.FileKind → Context
context_at t k x = record { signature = signature t.trees k; macros = macros t.trees k; file_kind = read_file_kind x; naming = Several }

abbrev pub sexps : List Sexp → Sexps
sexps ss = sexps_of ss

-- the same names in another kind of file
abbrev pub in_file_kind : FileKind → World → World
in_file_kind file_kind w = record { names = record { signature = w.names.signature; macros = w.names.macros; file_kind = file_kind; naming = w.names.naming }; locals = w.locals }

-- names that are local, and then what names mean in a file of the given kind
abbrev pub world_in : Terms → Kept → List LocalName → code.FileKind → World
world_in t k ls x = in_file_kind (read_file_kind x) (world_of t k ls)

-- what names mean at the place of a term
abbrev pub place : Terms → Kept → Scope → World
place t k s = in_file_kind (file_kind_in s) (world t k s)

-- the names that terms were given so far
abbrev pub named_terms_in : Terms → List Binding → List NamedTerm
named_terms_in t bs = map (λ (b : Binding). record { name = b.0; tree = tree_at t.trees b.1 }) bs

module _ (w : World) where
  -- a term outside an `assert`
  abbrev pub meaning_in : Sexp → Checked Tree
  meaning_in s = meaning w.names w.locals s

  -- a term
  abbrev pub term_in : Sexp → Reader Tree
  term_in s = means w.names w.locals s

  -- an atom alone
  abbrev pub atom_in : AtomKind → List ℕ → Checked Tree
  atom_in kind text = atom w.names w.locals kind text

  -- a list of these
  abbrev pub list_in : List Sexp → Span → Reader Tree
  list_in ss span = means w.names w.locals (Listed (sexps ss) span)

  -- the readings of a head and its arguments
  abbrev pub parts_in : Sexp → List Sexp → Parts
  parts_in head args = parts_of w.names w.locals head (sexps args)

  -- an application, by its head, or by a form that the head decides
  abbrev pub application_in : Sexp → List Sexp → Parts → Reader Tree
  application_in head args parts = application w.names w.locals (sexps args) parts (symbol_of head)

  abbrev pub form_in : Terms → List Sexp → Parts → Form → Reader Tree
  form_in t args parts f = formed t.trees w.names w.locals (sexps args) parts f

  -- a head that is read, applied
  abbrev pub applied_in : List Sexp → Parts → Tree → Reader Tree
  applied_in args parts f = tree_application w.names w.locals (sexps args) parts f

  -- an application of what a name means
  abbrev pub meant_in : List Sexp → Parts → Resolved → Reader Tree
  meant_in args parts m = meant_application w.names w.locals (sexps args) parts m

  abbrev pub word_in : List ℕ → List Sexp → Parts → Reader Tree
  word_in name args parts = word_application w.names w.locals (sexps args) parts (word_of w.names.file_kind name) (meant_before w.names (count (sexps args)) w.locals name)

  -- the same, where the head is `_`
  abbrev pub underscore_in : List Sexp → Parts → Reader Tree
  underscore_in args parts = formed_from w.names w.locals (sexps args) parts (underscore_form w.names w.locals (sexps args) (if is_reference w.names.file_kind then bit_vector (sexps args) else None))

  abbrev pub used_in : List Tree → Parts → Head → Reader Tree
  used_in ts parts u = arguments_used ts w.names w.locals parts u

  abbrev pub headed_in : Sexp → List Sexp → Reader Tree
  headed_in head args = headed w.names w.locals (sexps args) (parts_in head args)

  -- arguments that are used so, and those alone
  abbrev pub use_in : Terms → Sexp → List Sexp → Head → Reader Tree
  use_in t head args u = arguments_used t.trees w.names w.locals (parts_in head args) u

  abbrev pub arguments_in : Sexp → List Sexp → Head → Reader (List Tree)
  arguments_in head args u = arguments_for (parts_in head args) u

  -- terms after those that are given
  abbrev pub all_in : List Tree → List Sexp → Reader (List Tree)
  all_in before ss = all_after before (means_all w.names w.locals (sexps ss))

  abbrev pub let_in : List Sexp → Reader Tree
  let_in args = in_let w.names w.locals (sexps args)

  abbrev pub binder_in : List Sexp → ℕ → Reader (List Tree)
  binder_in args collector = in_binder w.names w.locals (sexps args) collector

  -- a term with its attributes
  abbrev pub annotated_in : List Sexp → Reader Tree
  annotated_in args = annotated w.names w.locals (sexps args)

  abbrev pub pairs_in : Sexp → Reader (List (List ℕ × Tree))
  pairs_in s = pair_list w.names w.locals s

  -- pairs after those that are given
  abbrev pub more_pairs_in : Sexps → List (List ℕ × Tree) → Reader (List (List ℕ × Tree))
  more_pairs_in ss before = pairs_after w.names w.locals ss before

-- the same at the place of a term, after the names that terms were given so far
module _ (t : Terms) (k : Kept) (s : Scope) (given : List Binding) where
  abbrev pub term_at : Sexp → Read Tree
  term_at x = term_in (place t k s) x (named_terms_in t given)

  abbrev pub list_at : List Sexp → Span → Read Tree
  list_at ss span = list_in (place t k s) ss span (named_terms_in t given)

  abbrev pub headed_at : Sexp → List Sexp → Read Tree
  headed_at head args = headed_in (place t k s) head args (named_terms_in t given)

  abbrev pub use_at : Sexp → List Sexp → Head → Read Tree
  use_at head args u = use_in (place t k s) t head args u (named_terms_in t given)

  abbrev pub all_at : (before : List ℕ) → List Sexp → Read (List Tree)
  all_at before ss = all_in (place t k s) (trees_in t before) ss (named_terms_in t given)

  abbrev pub let_at : List Sexp → Read Tree
  let_at args = let_in (place t k s) args (named_terms_in t given)

  abbrev pub annotated_at : List Sexp → Read Tree
  annotated_at args = annotated_in (place t k s) args (named_terms_in t given)

  abbrev pub binder_at : List Sexp → ℕ → Read (List Tree)
  binder_at args collector = binder_in (place t k s) args collector (named_terms_in t given)

  abbrev pub pairs_at : Sexp → Read (List (List ℕ × Tree))
  pairs_at x = pairs_in (place t k s) x (named_terms_in t given)

-- a term that is given these names, or those of attributes
abbrev pub named_term_over : Terms → Kept → FileKind → List Binding → ℕ → List (List ℕ) → Read Tree
named_term_over t k x before i names = label (in_file_kind x (record { names = context_in t k; locals = [] })).names (tree_in t i) names (named_terms_in t before)

-- names that the program lends, and attributes in a file of a kind that it gives
abbrev pub named_term_as : Terms → Kept → FileKind → List Binding → ℕ → List (Bor (List ℕ)) → Read Tree
named_term_as t k x before i names = named_term_over t k x before i (map (λ (name : Bor (List ℕ)). name.now) names)

abbrev pub named_term_by : Terms → Kept → FileKind → List Binding → ℕ → List Sexp → Read Tree
named_term_by t k x before i attributes = named_term_over t k x before i (named_terms_of x (sexps attributes))

abbrev pub named_term_told : Terms → Kept → code.FileKind → List Binding → ℕ → List Sexp → Read Tree
named_term_told t k x before i attributes = named_term_by t k (read_file_kind x) before i attributes

-- a term of a reference file
abbrev pub reference_kind : (in_assert : Bool) → FileKind
reference_kind in_assert = if in_assert then InAssert else InReference

-- a term in a file of this kind, with these names, after those that terms were given so far
abbrev pub meant_at : Terms → Kept → List LocalName → List Binding → FileKind → Sexp → Read Tree
meant_at t k ls given file_kind s = term_in (in_file_kind file_kind (world_of t k ls)) s (named_terms_in t given)

abbrev pub reference_meaning : Terms → Kept → List LocalName → List Binding → (in_assert : Bool) → Sexp → Read Tree
reference_meaning t k ls given in_assert s = meant_at t k ls given (reference_kind in_assert) s
