-- What a list is by its head, over the terms of a table.
use Rattle.std.specs.Prelude.{ℕ, ◌<◌, ◌≤◌, ◌^◌, List, ◌++◌, Option, Some, None, if◌then◌else◌}
use Rattle.eo_sexp.specs.Sexp.{Sexp, Atom, Listed, Sexps, NoSexp, Next}
use Rattle.eo_term.specs.Tree.{Tree, Bits}
use Rattle.eo_sig.specs.Signature.{Attribute, Plain, RightNil, LeftNil, Right, Left, Chain, Pairs, Binder}
use Rattle.eo_names.specs.declared.usage.Head.{Head}
use Rattle.eo_names.specs.declared.usage.Head.TheVariants as use_
use Rattle.eo_elab.specs.declared.plan.Form.{Form}
use Rattle.eo_elab.specs.declared.plan.Form.TheVariants as form
use Rattle.eo_names.specs.Contexts.{Context, Local}
use Rattle.eo_names.specs.Readers.{Reader, ◌>>=◌, give}
use Rattle.eo_elab.specs.Meaning.{Application, ListForm, ALet, AnAnnotation, ABitString, AnApplication, ATermFirst, tree_use, meant_use, word_form, head_form, counted_form, used, begins_with_pairs, means, means_all, in_let, in_binder, annotated}
use Rattle.eo_names.specs.Meanings.{Resolved, Word}
use Rattle.eo_names.specs.Usage.{made_of, UseBelow, Suits}

-- the readings of a head and its arguments, of which the form of the list says which are used
pub record Parts : Type 0 where
  pub head : Reader Tree
  pub arguments : Reader (List Tree)
  pub in_let : Reader Tree
  pub in_binder : ℕ → Reader (List Tree)
  pub annotated : Reader Tree

abbrev pub parts_of : Context → List Local → Sexp → Sexps → Parts
parts_of c locals h args = record {
  head = means c locals h;
  arguments = means_all c locals args;
  in_let = in_let c locals args;
  in_binder = in_binder c locals args;
  annotated = annotated c locals args;
}

-- the arguments that are used so
abbrev pub arguments_for : Parts → Head → Reader (List Tree)
arguments_for parts (use_.Apply f) = parts.arguments
arguments_for parts use_.Underscore = parts.arguments
arguments_for parts use_.Arrow = parts.arguments
arguments_for parts (use_.Fold k) = parts.arguments
arguments_for parts (use_.Bind binder collector) = parts.in_binder collector
arguments_for parts (use_.Macro tree) = parts.arguments
arguments_for parts (use_.Operator code) = parts.arguments

-- the arguments are read, and then used
abbrev pub arguments_used : List Tree → Context → List Local → Parts → Head → Reader Tree
arguments_used ts c locals parts u = arguments_for parts u >>= made_of ts c locals u

-- ---- a list by its form, over these readings

abbrev pub used_from : Parts → Application → Reader Tree
used_from parts u = used u parts.arguments parts.in_binder

module _ (c : Context) (locals : List Local) (args : Sexps) (parts : Parts) where
  -- what a head that is a term makes, or what a name means
  abbrev pub tree_application : Tree → Reader Tree
  tree_application f = used_from parts (tree_use c locals args f)

  abbrev pub meant_application : Resolved → Reader Tree
  meant_application m = used_from parts (meant_use c locals args m)

  -- the head is read, and what it is decides how the arguments are read
  abbrev pub headed : Reader Tree
  headed = parts.head >>= tree_application

  abbrev pub formed_from : ListForm → Reader Tree
  formed_from ALet = parts.in_let
  formed_from AnAnnotation = parts.annotated
  formed_from (ABitString t) = give t
  formed_from (AnApplication u) = used_from parts u
  formed_from ATermFirst = headed

  abbrev pub word_application : Word → Resolved → Reader Tree
  word_application w m = formed_from (word_form c locals args w m)

  abbrev pub by_head : Option (List ℕ) → Reader Tree
  by_head word = formed_from (head_form c locals args word)

  abbrev pub application : Option (List ℕ) → Reader Tree
  application word = formed_from (counted_form c locals args word)

-- the same by the form that the program has
abbrev pub formed : List Tree → Context → List Local → Sexps → Parts → Form → Reader Tree
formed ts c locals args parts form.Let = parts.in_let
formed ts c locals args parts form.Head = headed c locals args parts
formed ts c locals args parts (form.Arguments u) = arguments_used ts c locals parts u
formed ts c locals args parts form.Annotation = parts.annotated
formed ts c locals args parts (form.Bits width value) = give (Bits width value)

-- its terms are below n, and it may be had with so many arguments
abbrev pub FormFits : (n count : ℕ) → Form → Type 0
FormFits n count form.Let = Unit {0}
FormFits n count form.Head = Unit {0}
FormFits n count (form.Arguments u) = UseBelow n u × Suits u count
FormFits n count form.Annotation = Unit {0}
FormFits n count (form.Bits width value) = (width ≤ 128) × (value < 2 ^ width)

-- the name of a pair, and what follows it
abbrev pub binding_of : Sexp → Option (List ℕ × Sexp)
binding_of (Listed (Next (Atom k name at) (Next t NoSexp)) span) = Some (name, t)
binding_of s = None

-- the constant that makes the list of the variables, where a constant with this attribute binds some
abbrev pub collector_of : Attribute → Sexps → Option ℕ
collector_of Plain args = None
collector_of (RightNil nil) args = None
collector_of (LeftNil nil) args = None
collector_of Right args = None
collector_of Left args = None
collector_of (Chain g) args = None
collector_of (Pairs g) args = None
collector_of (Binder collector) args = if begins_with_pairs args then Some collector else None

-- the trees that are read, after those that are given
abbrev pub all_after : List Tree → Reader (List Tree) → Reader (List Tree)
all_after before m = m >>= λ ts. give (before ++ ts)
