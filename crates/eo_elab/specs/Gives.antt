-- What calls return, by what is read: the terms of a table, or the fault.
use Rattle.std.specs.Prelude.{◌≡◌, ℕ, ◌<◌, List, ◌∷◌, length, map, take, All, Result, Ok, Err}
use Rattle.eo_base.specs.Answers.{Gives, Tells}
use Rattle.eo_base.specs.Checks.{Checked}
use Rattle.eo_base.specs.declared.FaultName.TheVariants.{UnknownSymbol}
use Rattle.eo_sexp.specs.declared.Kind.{Kind}
use Rattle.eo_sexp.specs.declared.Kind.TheVariants as told_kind
use Rattle.eo_sexp.specs.AtomKind as kind
use Rattle.eo_sexp.specs.Sexp.{Sexp, Sexps, Next}
use Rattle.eo_sig.specs.Reading.{Kept}
use Rattle.eo_term.specs.Tree.{Tree}
use Rattle.eo_term.specs.Terms.{Terms, tree_at}
use Rattle.eo_term.specs.Growth.{tree_in}
use Rattle.eo_elab.specs.declared.plan.Form.{Form}
use Rattle.eo_names.specs.declared.refused.ElabRefused.{ElabRefused}
use Rattle.eo_names.specs.declared.scope.Scope.{Scope}
use Rattle.eo_names.specs.Scopes.{file_kind_in}
use Rattle.eo_names.specs.declared.usage.Head.{Head}
use Rattle.eo_names.specs.Contexts.{Context, FileKind, Local}
use Rattle.eo_names.specs.Readers.{NamedTerm, Reader}
use Rattle.eo_elab.specs.Forms.{Parts}
use Rattle.eo_names.specs.Names.{Binding, read_pairs, BindingsBelow}
use Rattle.eo_names.specs.Refused.{told}
use Rattle.eo_names.specs.Worlds.{World, Read}
use Rattle.eo_elab.specs.Worlds.{place, named_terms_in, arguments_in, named_term_over, underscore_in, in_file_kind, context_in, atom_in, form_in, used_in, application_in, word_in, meant_in, applied_in, more_pairs_in}
use Rattle.eo_names.specs.declared.symbols.Resolved as code_meant
use Rattle.eo_names.specs.Symbols.{read_meant}
use Rattle.eo_names.specs.Ready.{context}

-- an atom of the given kind; a list is none
abbrev pub atom_told : World → Kind → List ℕ → Checked Tree
atom_told w told_kind.Symbol text = atom_in w kind.Symbol text
atom_told w told_kind.Keyword text = atom_in w kind.Keyword text
atom_told w told_kind.Literal text = atom_in w kind.Literal text
atom_told w told_kind.String text = atom_in w kind.String text
atom_told w told_kind.List text = Err UnknownSymbol

-- the ids of terms, with the names that terms were given by then; and names with ids
abbrev pub GivesTerm : Terms → List Binding → Result ℕ ElabRefused → Read Tree → Type 0
GivesTerm t ls r o = Gives told (λ i. i < length t.trees) (λ i. (tree_in t i, named_terms_in t ls)) r o

abbrev pub GivesTerms : Terms → List Binding → Result (List ℕ) ElabRefused → Read (List Tree) → Type 0
GivesTerms t ls r o = Gives told (All (λ i. i < length t.trees)) (λ is. (map (tree_at t.trees) is, named_terms_in t ls)) r o

abbrev pub GivesPairs : Terms → List Binding → Result (List Binding) ElabRefused → Read (List (List ℕ × Tree)) → Type 0
GivesPairs t ls r o = Gives told (BindingsBelow (length t.trees)) (λ bs. (read_pairs t.trees bs, named_terms_in t ls)) r o

-- a pair is read into the names, and what is left is read after it
pub record IsAdded (w : World) (old new : Terms) (given gives : List Binding) (pair : Sexp) (before after : List Binding) : Type 0 where
  pub live : BindingsBelow (length new.trees) after
  pub pairs : (rest : Sexps) → more_pairs_in w (Next pair rest) (read_pairs old.trees before) (named_terms_in old given) ≡ more_pairs_in w rest (read_pairs new.trees after) (named_terms_in new gives)

abbrev pub AddsPair : World → Terms → Terms → (given gives : List Binding) → Sexp → List Binding → List Binding → Result (Unit {0}) ElabRefused → Type 0
AddsPair w old new given gives pair before after (Ok x) = IsAdded w old new given gives pair before after
AddsPair w old new given gives pair before after (Err e) = (rest : Sexps) → Tells told e (more_pairs_in w (Next pair rest) (read_pairs old.trees before) (named_terms_in old given))

abbrev pub AddsPairAt : Terms → Kept → Scope → Terms → (given gives : List Binding) → Sexp → List Binding → List Binding → Result (Unit {0}) ElabRefused → Type 0
AddsPairAt old k s new given gives pair before after r = AddsPair (place old k s) old new given gives pair before after r

-- the arguments of a use, whatever its head
abbrev pub GivesArguments : Terms → Kept → Scope → Terms → (given gives : List Binding) → List Sexp → Head → Result (List ℕ) ElabRefused → Type 0
GivesArguments old k s new given gives args u r = (head : Sexp) → GivesTerms new gives r (arguments_in (place old k s) head args u (named_terms_in old given))

-- a term is given names
abbrev pub GivesNamedTerms : Terms → List Binding → ℕ → Result (Unit {0}) ElabRefused → Read Tree → Type 0
GivesNamedTerms t after i (Ok x) o = o ≡ Ok (tree_in t i, named_terms_in t after)
GivesNamedTerms t after i (Err e) o = Tells told e o

-- a term is given one name, and after it any others
abbrev pub AddsNamedTerm : Terms → Kept → FileKind → (before after : List Binding) → ℕ → List ℕ → Result (Unit {0}) ElabRefused → Type 0
AddsNamedTerm t k x before after i name (Ok u) = (more : List (List ℕ)) → named_term_over t k x before i (name ∷ more) ≡ named_term_over t k x after i more
AddsNamedTerm t k x before after i name (Err e) = (more : List (List ℕ)) → Tells told e (named_term_over t k x before i (name ∷ more))

-- The names that terms were given are those before and then more, all of terms that are there. As many names are in front of those now as were in front of them before.
pub record NamesGrow (new : Terms) (before after : List Binding) : Type 0 where
  pub below : BindingsBelow (length new.trees) after
  pub now : take (length before) after ≡ before
  pub since : (first : List Binding) → take (length first) before ≡ first → take (length first) after ≡ first

-- ---- what a list is, and how a head uses its arguments, whatever the readings of its parts are

-- these names in any kind of file
abbrev pub world_at : FileKind → Context → List Local → World
world_at x c ls = in_file_kind x (record { names = c; locals = ls })

abbrev pub IsFormed : World → Terms → List Sexp → Result Form ElabRefused → (Parts → Reader Tree) → Type 0
IsFormed w t args (Ok f) o = (parts : Parts) (named_terms : List NamedTerm) → o parts named_terms ≡ form_in w t args parts f named_terms
IsFormed w t args (Err e) o = (parts : Parts) (named_terms : List NamedTerm) → Tells told e (o parts named_terms)

abbrev pub IsUsed : Context → List Tree → Result Head ElabRefused → (World → Parts → Reader Tree) → Type 0
IsUsed c ts (Ok u) o = (x : FileKind) (ls : List Local) (parts : Parts) (named_terms : List NamedTerm) → o (world_at x c ls) parts named_terms ≡ used_in (world_at x c ls) ts parts u named_terms
IsUsed c ts (Err e) o = (x : FileKind) (ls : List Local) (parts : Parts) (named_terms : List NamedTerm) → Tells told e (o (world_at x c ls) parts named_terms)

-- the same of the list of a head and its arguments, of one whose head is this name, and of what a name or a term as a head does
abbrev pub FormsList : World → Terms → Sexp → List Sexp → Result Form ElabRefused → Type 0
FormsList w t head args r = IsFormed w t args r (application_in w head args)

abbrev pub FormsWord : World → Terms → List ℕ → List Sexp → Result Form ElabRefused → Type 0
FormsWord w t name args r = IsFormed w t args r (word_in w name args)

-- the same of one whose head is `_`, in a scope
abbrev pub FormsUnderscore : World → Terms → Scope → List Sexp → Result Form ElabRefused → Type 0
FormsUnderscore w t s args r = w.names.file_kind ≡ file_kind_in s → IsFormed w t args r (underscore_in w args)

abbrev pub UsesMeant : Kept → Terms → List Sexp → code_meant.Resolved → Result Head ElabRefused → Type 0
UsesMeant k t args m r = IsUsed (context_in t k) t.trees r (λ w parts. meant_in w args parts (read_meant t.trees k m))

abbrev pub UsesTree : Kept → List Tree → List Sexp → Tree → Result Head ElabRefused → Type 0
UsesTree k ts args u r = IsUsed (context ts k) ts r (λ w parts. applied_in w args parts u)
