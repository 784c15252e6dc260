-- A command by its parts.
use Rattle.std.proofs.Common.{◌≡◌, refl, Bool, List, [], ◌∷◌, ℕ, Option, None, Some, Err, ap, sym, ◌∙◌}
use Rattle.std.proofs.lemmas.Option.{same_Some}
use Rattle.std.specs.Prelude.{if◌then◌else◌}
use Rattle.eo_base.specs.declared.FaultName.TheVariants.{UnknownCommand, BadCommand}
use Rattle.eo_base.specs.Checks.{Checked, ◌>>=◌, value_or}
use Rattle.eo_sexp.specs.AtomKind as kind
use Rattle.eo_sexp.specs.Sexp.{Sexp, Atom, Listed, Sexps, NoSexp, Next, Span, children_of, sexp_children}
use Rattle.eo_shape.specs.Shapes.{Command, Form, forms, reference_forms, form_of, shaped_by, command_of}
use Rattle.eo_sexp.specs.Pairs.{first_one}
use Rattle.eo_shape.specs.Words.{symbol_of}

abbrev pub forms_of : Bool → List Form
forms_of b = if b then reference_forms else forms

pub command_of-none : (b : Bool) (s : Sexp) → sexp_children s ≡ [] → command_of b s ≡ Err BadCommand
unfolding command_of
command_of-none b (Atom k text span) e = refl
command_of-none b (Listed NoSexp span) e = refl
command_of-none b (Listed (Next h rest) span) e = absurd cc

abbrev by_symbol : Bool → Option (List ℕ) → List Sexp → Checked Command
by_symbol b None parts = Err BadCommand
by_symbol b (Some w) parts = shaped_by (forms_of b) w parts

command_of-by_symbol : (b : Bool) (h : Sexp) (rest : Sexps) (span : Span) → command_of b (Listed (Next h rest) span) ≡ by_symbol b (symbol_of h) (children_of rest)
unfolding command_of
command_of-by_symbol b (Atom kind.Symbol w at) rest span = refl
command_of-by_symbol b (Atom kind.Keyword w at) rest span = refl
command_of-by_symbol b (Atom kind.Literal w at) rest span = refl
command_of-by_symbol b (Atom kind.String w at) rest span = refl
command_of-by_symbol b (Listed inside at) rest span = refl

command_of-parts : (b : Bool) (s h : Sexp) (parts : List Sexp) → sexp_children s ≡ h ∷ parts → command_of b s ≡ by_symbol b (symbol_of h) parts
command_of-parts b (Atom k text span) h parts e = absurd cc
command_of-parts b (Listed NoSexp span) h parts e = absurd cc
command_of-parts b (Listed (Next g rest) span) h parts e =
    let same : g ≡ h = cc in
    let others : children_of rest ≡ parts = cc in
    command_of-by_symbol b g rest span ∙ ap (λ s. by_symbol b (symbol_of s) (children_of rest)) same ∙ ap (by_symbol b (symbol_of h)) others

pub command_of-other : (b : Bool) (s h : Sexp) (parts : List Sexp) → sexp_children s ≡ h ∷ parts → symbol_of h ≡ None → command_of b s ≡ Err BadCommand
command_of-other b s h parts e f = command_of-parts b s h parts e ∙ ap (λ o. by_symbol b o parts) f

command_of-word : (b : Bool) (s h : Sexp) (parts : List Sexp) (w : List ℕ) → sexp_children s ≡ h ∷ parts → symbol_of h ≡ Some w → command_of b s ≡ shaped_by (forms_of b) w parts
command_of-word b s h parts w e f = command_of-parts b s h parts e ∙ ap (λ o. by_symbol b o parts) f

abbrev by_form : Option (List Sexp → Option Command) → List Sexp → Checked Command
by_form o parts = value_or UnknownCommand o >>= λ f. value_or BadCommand (f parts)

pub command_of-unknown : (b : Bool) (s h : Sexp) (parts : List Sexp) (w : List ℕ) → sexp_children s ≡ h ∷ parts → symbol_of h ≡ Some w → form_of (forms_of b) w ≡ None → command_of b s ≡ Err UnknownCommand
unfolding ◌>>=◌ value_or
command_of-unknown b s h parts w e f g = command_of-word b s h parts w e f ∙ ap (λ o. by_form o parts) g

pub command_of-known : (b : Bool) (s h : Sexp) (parts : List Sexp) (w : List ℕ) (shape : List Sexp → Option Command) → sexp_children s ≡ h ∷ parts → symbol_of h ≡ Some w → form_of (forms_of b) w ≡ Some shape → command_of b s ≡ value_or BadCommand (shape parts)
unfolding ◌>>=◌ value_or
command_of-known b s h parts w shape e f g = command_of-word b s h parts w e f ∙ ap (λ o. by_form o parts) g

-- what the first part and the others make
pub split-some : (ss : List Sexp) (h : Sexp) (parts : List Sexp) (o : Option (Sexp × List Sexp)) → o ≡ first_one ss → o ≡ Some (h, parts) → ss ≡ h ∷ parts
split-some [] h parts o e f = cc
split-some (s ∷ ss) h parts o e f = let same : (s, ss) ≡ (h, parts) = same_Some (s, ss) (h, parts) (sym e ∙ f) in ap (λ (p : Sexp × List Sexp). p.0 ∷ p.1) same

pub split-none : (ss : List Sexp) (o : Option (Sexp × List Sexp)) → o ≡ first_one ss → o ≡ None → ss ≡ []
split-none [] o e f = refl
split-none (s ∷ ss) o e f = cc
