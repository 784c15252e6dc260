-- What a command of a reference file declares, by its parts.
use Rattle.std.proofs.Common.{◌≡◌, ℕ, ◌<◌, ◌≤◌, true, List, length, refl, ◌∙◌}
use Rattle.std.specs.Prelude.{Ok, Err}
use Rattle.std.specs.Borrow.{Bor}
use Rattle.eo_base.specs.declared.FaultName.{FaultName}
use Rattle.eo_base.specs.declared.FaultName.TheVariants.{Redeclared, BadCommand, Parameters}
use Rattle.eo_base.specs.Checks.{Checked, ◌>>=◌}
use Rattle.eo_base.specs.Limits.{parameters_limit}
use Rattle.eo_sexp.specs.Sexp.{Sexp}
use Rattle.eo_shape.specs.declared.AttributeShape.{AttributeShape}
use Rattle.eo_shape.specs.declared.Command as code
use Rattle.eo_shape.specs.declared.Command.TheVariants as command
use Rattle.eo_shape.specs.Reading.{read_command}
use Rattle.eo_shape.specs.Shapes.{ParameterShape}
use Rattle.eo_sig.specs.Signature.{Macro}
use Rattle.eo_term.specs.Tree.{Tree}
use Rattle.eo_declare.specs.Declarations.{Bound, bind, bind_types, unbound, is_free_or_reference, macro, typed_macro, defined_fun, defined_sort, reference_declaration}
use Rattle.eo_declare.specs.Declaring.{or_bad}
use Rattle.eo_elab.specs.Meaning.{meaning}
use Rattle.eo_names.specs.Contexts.{Context}
use Rattle.eo_declare.proofs.CheckedLemmas.{then-ok, then-err, require-yes, require-no}
use Rattle.eo_declare.proofs.DeclaringLemmas.{few-yes, few-no}

module _ (c : Context) (name : List ℕ) (output body : Sexp) where
  -- ---- over parameters

  module _ (b : Bound) where
    abbrev with_tree : Tree → Checked Macro
    with_tree t = Ok (macro c name b.parameters t)

    abbrev with_body : Tree → Checked Macro
    with_body type = meaning c b.locals body >>= with_tree

    pub macro-no-type : (f : FaultName) → meaning c b.locals output ≡ Err f → typed_macro c name b output body ≡ Err f
    macro-no-type f e = then-err with_body (meaning c b.locals output) f e

    module _ (type : Tree) (e : meaning c b.locals output ≡ Ok type) where
      pub macro-no-body : (f : FaultName) → meaning c b.locals body ≡ Err f → typed_macro c name b output body ≡ Err f
      macro-no-body f h = then-ok with_body (meaning c b.locals output) type e ∙ then-err with_tree (meaning c b.locals body) f h

      pub macro-whole : (t : Tree) → meaning c b.locals body ≡ Ok t → typed_macro c name b output body ≡ Ok (macro c name b.parameters t)
      macro-whole t h = then-ok with_body (meaning c b.locals output) type e ∙ then-ok with_tree (meaning c b.locals body) t h

  -- ---- with them

  module _ (shapes : List ParameterShape) (free : is_free_or_reference c name ≡ true) where
    abbrev macro_read : Bound → Checked Macro
    macro_read b = typed_macro c name b output body

    pub fun-many : parameters_limit < length shapes → defined_fun c name shapes output body ≡ Err Parameters
    unfolding defined_fun
    fun-many h = require-yes _ Redeclared _ free ∙ require-no _ Parameters _ (few-no (length shapes) h)

    module _ (h : length shapes ≤ parameters_limit) where
      fun-parts : defined_fun c name shapes output body ≡ (bind c unbound shapes >>= macro_read)
      unfolding defined_fun
      fun-parts = require-yes _ Redeclared _ free ∙ require-yes _ Parameters _ (few-yes (length shapes) h)

      pub fun-unbound : (f : FaultName) → bind c unbound shapes ≡ Err f → defined_fun c name shapes output body ≡ Err f
      fun-unbound f e = fun-parts ∙ then-err macro_read (bind c unbound shapes) f e

      pub fun-bound : (b : Bound) → bind c unbound shapes ≡ Ok b → defined_fun c name shapes output body ≡ typed_macro c name b output body
      fun-bound b e = fun-parts ∙ then-ok macro_read (bind c unbound shapes) b e

-- ---- sorts

module _ (c : Context) (name : List ℕ) (names : List (List ℕ)) (type : Sexp) (free : is_free_or_reference c name ≡ true) where
  abbrev sort_tree : Bound → Tree → Checked Macro
  sort_tree b t = Ok (macro c name b.parameters t)

  abbrev sort_read : Bound → Checked Macro
  sort_read b = meaning c b.locals type >>= sort_tree b

  pub sort-many : parameters_limit < length names → defined_sort c name names type ≡ Err Parameters
  unfolding defined_sort
  sort-many h = require-yes _ Redeclared _ free ∙ require-no _ Parameters _ (few-no (length names) h)

  module _ (h : length names ≤ parameters_limit) where
    sort-parts : defined_sort c name names type ≡ (bind_types unbound names >>= sort_read)
    unfolding defined_sort
    sort-parts = require-yes _ Redeclared _ free ∙ require-yes _ Parameters _ (few-yes (length names) h)

    pub sort-unbound : (f : FaultName) → bind_types unbound names ≡ Err f → defined_sort c name names type ≡ Err f
    sort-unbound f e = sort-parts ∙ then-err sort_read (bind_types unbound names) f e

    module _ (b : Bound) (e : bind_types unbound names ≡ Ok b) where
      pub sort-no-type : (f : FaultName) → meaning c b.locals type ≡ Err f → defined_sort c name names type ≡ Err f
      sort-no-type f k = sort-parts ∙ then-ok sort_read (bind_types unbound names) b e ∙ then-err (sort_tree b) (meaning c b.locals type) f k

      pub sort-whole : (t : Tree) → meaning c b.locals type ≡ Ok t → defined_sort c name names type ≡ Ok (macro c name b.parameters t)
      sort-whole t k = sort-parts ∙ then-ok sort_read (bind_types unbound names) b e ∙ then-ok (sort_tree b) (meaning c b.locals type) t k

-- ---- commands that declare nothing in a reference file

pub others_declare_nothing : (c : Context) (k : code.Command)
    → ((name : Bor (List ℕ)) (type : Sexp) (a : AttributeShape) → k ≡ command.DeclareConst name type a → ⊥)
    → ((name : Bor (List ℕ)) (inputs : List Sexp) (output : Sexp) → k ≡ command.DeclareFun name inputs output → ⊥)
    → ((name : Bor (List ℕ)) (arity : ℕ) → k ≡ command.DeclareSort name arity → ⊥)
    → ((name : Bor (List ℕ)) (params : List ParameterShape) (output body : Sexp) → k ≡ command.DefineFun name params output body → ⊥)
    → ((name : Bor (List ℕ)) (params : List (List ℕ)) (type : Sexp) → k ≡ command.DefineSort name params type → ⊥)
    → or_bad (reference_declaration c (read_command k)) ≡ Err BadCommand
unfolding reference_declaration
others_declare_nothing c (command.DeclareConst name type a) const fun sort function macro = absurd (const name type a refl)
others_declare_nothing c (command.DeclareFun name inputs output) const fun sort function macro = absurd (fun name inputs output refl)
others_declare_nothing c (command.DeclareSort name arity) const fun sort function macro = absurd (sort name arity refl)
others_declare_nothing c (command.DefineFun name params output body) const fun sort function macro = absurd (function name params output body refl)
others_declare_nothing c (command.DefineSort name params type) const fun sort function macro = absurd (macro name params type refl)
others_declare_nothing c k const fun sort function macro = refl
