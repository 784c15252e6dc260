-- What a command declares, by its parts.
use Rattle.std.proofs.Common.{◌≡◌, ℕ, ◌<◌, ◌≤◌, true, false, List, [], ◌∷◌, ◌++◌, length, refl, ap, ◌∙◌, nat_le, cond, rules, tests}
use Rattle.std.specs.Prelude.{Ok, Err}
use Rattle.std.specs.Borrow.{Bor}
use Rattle.eo_base.specs.declared.FaultName.{FaultName}
use Rattle.eo_base.specs.declared.FaultName.TheVariants.{Redeclared, Parameters, TermHeight}
use Rattle.eo_base.specs.Checks.{Checked, ◌>>=◌}
use Rattle.eo_base.specs.Limits.{parameters_limit}
use Rattle.eo_sexp.specs.Sexp.{Sexp}
use Rattle.eo_lit.specs.declared.LiteralClass.{LiteralClass}
use Rattle.eo_shape.specs.declared.Command as code
use Rattle.eo_shape.specs.declared.Command.TheVariants as command
use Rattle.eo_shape.specs.declared.ProgramShape as code_program
use Rattle.eo_shape.specs.declared.RuleShape as code_rule
use Rattle.eo_shape.specs.Reading.{read_command}
use Rattle.eo_shape.specs.Shapes.{ParameterShape, AttributeShape}
use Rattle.eo_sig.specs.Signature.{Attribute, Plain, Constant, Macro}
use Rattle.eo_term.specs.Tree.{Tree, Arr, is_tall}
use Rattle.eo_declare.specs.Declarations.{Bound, bind, unbound, may_be_constant, is_free_or_reference, not_tall, meanings, attribute, constant, macro, plain_constant, function_type, bound_type, declared_const, declared_fun, declared_parameterized, defined, declaration}
use Rattle.eo_declare.specs.Declaring.{typed, typed_over, type_of_function, function_to, declared_constant, or_bad}
use Rattle.eo_names.specs.Contexts.{Context, Local}
use Rattle.eo_names.specs.Folding.{arrow}
use Rattle.eo_elab.specs.Meaning.{meaning}
use Rattle.eo_elab.specs.Worlds.{meaning_in}
use Rattle.eo_names.specs.Worlds.{World}
use Rattle.eo_declare.proofs.CheckedLemmas.{then-ok, then-err, require-yes, require-no}

pub low : (t : Tree) → is_tall t ≡ false → not_tall t ≡ Ok t
low t e = ap (λ b. cond b (Err TermHeight) (Ok t)) e

pub high : (t : Tree) → is_tall t ≡ true → not_tall t ≡ Err TermHeight
high t e = ap (λ b. cond b (Err TermHeight) (Ok t)) e

-- the type of a function, by its inputs and then its output
pub arrow-onto : (ts : List Tree) (t : Tree) → arrow (ts ++ t ∷ []) ≡ function_type ts t
arrow-onto [] t = refl
arrow-onto (a ∷ []) t = refl
arrow-onto (a ∷ b ∷ ts) t = ap (Arr a) (arrow-onto (b ∷ ts) t)

abbrev pub both : Tree → Attribute → Checked (Tree × Attribute)
both t a = Ok (t, a)

-- a type and an attribute, one check a line
module _ (c : Context) (ls : List Local) (type : Sexp) (shape : AttributeShape) where
  pub typed-no-type : (f : FaultName) → meaning c ls type ≡ Err f → typed c ls type shape ≡ Err f
  typed-no-type f e = then-err (λ t. attribute c ls shape >>= λ a. both t a) (meaning c ls type) f e

  typed-type : (t : Tree) → meaning c ls type ≡ Ok t → typed c ls type shape ≡ (attribute c ls shape >>= λ a. both t a)
  typed-type t e = then-ok (λ t. attribute c ls shape >>= λ a. both t a) (meaning c ls type) t e

  pub typed-no-attribute : (t : Tree) (f : FaultName) → meaning c ls type ≡ Ok t → attribute c ls shape ≡ Err f → typed c ls type shape ≡ Err f
  typed-no-attribute t f e h = typed-type t e ∙ then-err (λ a. both t a) (attribute c ls shape) f h

  pub typed-both : (t : Tree) (a : Attribute) → meaning c ls type ≡ Ok t → attribute c ls shape ≡ Ok a → typed c ls type shape ≡ Ok (t, a)
  typed-both t a e h = typed-type t e ∙ then-ok (λ a. both t a) (attribute c ls shape) a h

-- the same over parameters
module _ (c : Context) (b : Bound) (type : Sexp) (shape : AttributeShape) where
  abbrev whole_type : Tree → Tree
  whole_type t = bound_type 0 b.parameters t

  abbrev with_attribute : Tree → Checked (Tree × Attribute)
  with_attribute w = attribute c b.locals shape >>= λ a. both w a

  abbrev with_type : Tree → Checked (Tree × Attribute)
  with_type t = not_tall (whole_type t) >>= with_attribute

  pub over-no-type : (f : FaultName) → meaning c b.locals type ≡ Err f → typed_over c b type shape ≡ Err f
  over-no-type f e = then-err with_type (meaning c b.locals type) f e

  module _ (t : Tree) (e : meaning c b.locals type ≡ Ok t) where
    pub over-tall : is_tall (whole_type t) ≡ true → typed_over c b type shape ≡ Err TermHeight
    over-tall h = then-ok with_type (meaning c b.locals type) t e ∙ then-err with_attribute (not_tall (whole_type t)) TermHeight (high (whole_type t) h)

    over-type : is_tall (whole_type t) ≡ false → typed_over c b type shape ≡ with_attribute (whole_type t)
    over-type h = then-ok with_type (meaning c b.locals type) t e ∙ then-ok with_attribute (not_tall (whole_type t)) (whole_type t) (low (whole_type t) h)

    pub over-no-attribute : (f : FaultName) → is_tall (whole_type t) ≡ false → attribute c b.locals shape ≡ Err f → typed_over c b type shape ≡ Err f
    over-no-attribute f h a = over-type h ∙ then-err (λ a. both (whole_type t) a) (attribute c b.locals shape) f a

    pub over-both : (a : Attribute) → is_tall (whole_type t) ≡ false → attribute c b.locals shape ≡ Ok a → typed_over c b type shape ≡ Ok (whole_type t, a)
    over-both a h k = over-type h ∙ then-ok (λ a. both (whole_type t) a) (attribute c b.locals shape) a k

-- the type of a function
module _ (c : Context) (inputs : List Sexp) (output : Sexp) where
  abbrev from_inputs : List Tree → Checked Tree
  from_inputs ts = function_to (record { names = c; locals = [] }) ts output

  pub function-no-inputs : (f : FaultName) → meanings c [] inputs ≡ Err f → type_of_function c inputs output ≡ Err f
  function-no-inputs f e = then-err from_inputs (meanings c [] inputs) f e

  pub function-inputs : (ts : List Tree) → meanings c [] inputs ≡ Ok ts → type_of_function c inputs output ≡ function_to (record { names = c; locals = [] }) ts output
  function-inputs ts e = then-ok from_inputs (meanings c [] inputs) ts e

module _ (w : World) (ts : List Tree) (output : Sexp) where
  pub to-no-output : (f : FaultName) → meaning_in w output ≡ Err f → function_to w ts output ≡ Err f
  to-no-output f e = then-err (λ t. not_tall (function_type ts t)) (meaning_in w output) f e

  pub to-output : (t : Tree) → meaning_in w output ≡ Ok t → function_to w ts output ≡ not_tall (function_type ts t)
  to-output t e = then-ok (λ t. not_tall (function_type ts t)) (meaning_in w output) t e

module _ (c : Context) (name : List ℕ) where
  module _ (type : Sexp) (shape : AttributeShape) where
    const-typed : (m : Checked Tree) (n : Checked Attribute) → (m >>= λ t. n >>= λ a. plain_constant c name t a) ≡ ((m >>= λ t. n >>= λ a. both t a) >>= λ r. plain_constant c name r.0 r.1)
    unfolding ◌>>=◌
    const-typed (Ok t) (Ok a) = refl
    const-typed (Ok t) (Err fault) = refl
    const-typed (Err fault) n = refl

    const-parts : may_be_constant c name ≡ true → declared_const c name type shape ≡ (typed c [] type shape >>= λ r. plain_constant c name r.0 r.1)
    unfolding declared_const
    const-parts e = require-yes (may_be_constant c name) Redeclared _ e ∙ const-typed (meaning c [] type) (attribute c [] shape)

    pub const-link : (r : Tree × Attribute) → may_be_constant c name ≡ true → typed c [] type shape ≡ Ok r → declared_const c name type shape ≡ plain_constant c name r.0 r.1
    const-link r e h = const-parts e ∙ then-ok (λ r. plain_constant c name r.0 r.1) _ _ h

    pub const-fault : (fault : FaultName) → may_be_constant c name ≡ true → typed c [] type shape ≡ Err fault → declared_const c name type shape ≡ Err fault
    const-fault fault e h = const-parts e ∙ then-err (λ r. plain_constant c name r.0 r.1) _ _ h

    -- over parameters
    over-typed : (b : Bound) (m : Checked Tree) (n : Checked Attribute) → (m >>= λ t. not_tall (bound_type 0 b.parameters t) >>= λ w. n >>= λ a. Ok (constant c name b.parameters w a)) ≡ ((m >>= λ t. not_tall (bound_type 0 b.parameters t) >>= λ w. n >>= λ a. both w a) >>= λ r. Ok (constant c name b.parameters r.0 r.1))
    unfolding ◌>>=◌
    over-typed b (Err fault) n = refl
    over-typed b (Ok t) n = by (not_tall (bound_type 0 b.parameters t)) n
      where
        by : (w : Checked Tree) (n : Checked Attribute) → (w >>= λ w. n >>= λ a. Ok (constant c name b.parameters w a)) ≡ ((w >>= λ w. n >>= λ a. both w a) >>= λ r. Ok (constant c name b.parameters r.0 r.1))
        by (Err fault) n = refl
        by (Ok w) (Err fault) = refl
        by (Ok w) (Ok a) = refl

  module _ (inputs : List Sexp) (output : Sexp) where
    fun-typed : (m : Checked (List Tree)) (n : Checked Tree) → (m >>= λ ts. n >>= λ t. not_tall (function_type ts t) >>= λ w. plain_constant c name w Plain) ≡ ((m >>= λ ts. n >>= λ t. not_tall (function_type ts t)) >>= λ w. plain_constant c name w Plain)
    unfolding ◌>>=◌
    fun-typed (Ok ts) (Ok t) = refl
    fun-typed (Ok ts) (Err fault) = refl
    fun-typed (Err fault) n = refl

    fun-parts : may_be_constant c name ≡ true → declared_fun c name inputs output ≡ (type_of_function c inputs output >>= λ w. plain_constant c name w Plain)
    unfolding declared_fun
    fun-parts e = require-yes (may_be_constant c name) Redeclared _ e ∙ fun-typed (meanings c [] inputs) (meaning c [] output)

    pub fun-link : (t : Tree) → may_be_constant c name ≡ true → type_of_function c inputs output ≡ Ok t → declared_fun c name inputs output ≡ plain_constant c name t Plain
    fun-link t e h = fun-parts e ∙ then-ok (λ w. plain_constant c name w Plain) _ _ h

    pub fun-fault : (fault : FaultName) → may_be_constant c name ≡ true → type_of_function c inputs output ≡ Err fault → declared_fun c name inputs output ≡ Err fault
    fun-fault fault e h = fun-parts e ∙ then-err (λ w. plain_constant c name w Plain) _ _ h

-- ---- with parameters

pub few-yes : (n : ℕ) → n ≤ parameters_limit → nat_le n parameters_limit ≡ true
few-yes n h = search (rules, tests)

pub few-no : (n : ℕ) → parameters_limit < n → nat_le n parameters_limit ≡ false
few-no n h = search (rules, tests)

module _ (c : Context) (name : List ℕ) (shapes : List ParameterShape) where
  module _ (body : Sexp) where
    abbrev pub body_read : Bound → Checked Macro
    body_read b = meaning c b.locals body >>= λ t. Ok (macro c name b.parameters t)

    pub defined-many : is_free_or_reference c name ≡ true → parameters_limit < length shapes → defined c name shapes body ≡ Err Parameters
    unfolding defined
    defined-many e h = require-yes _ Redeclared _ e ∙ require-no _ Parameters _ (few-no (length shapes) h)

    pub defined-parts : is_free_or_reference c name ≡ true → length shapes ≤ parameters_limit → defined c name shapes body ≡ (bind c unbound shapes >>= body_read)
    unfolding defined
    defined-parts e h = require-yes _ Redeclared _ e ∙ require-yes _ Parameters _ (few-yes (length shapes) h)

  module _ (type : Sexp) (shape : AttributeShape) where
    abbrev pub type_read : Bound → Checked Constant
    type_read b =
        meaning c b.locals type >>= λ t. not_tall (bound_type 0 b.parameters t) >>= λ w. attribute c b.locals shape >>= λ a. Ok (constant c name b.parameters w a)

    pub parameterized-many : may_be_constant c name ≡ true → parameters_limit < length shapes → declared_parameterized c name shapes type shape ≡ Err Parameters
    unfolding declared_parameterized
    parameterized-many e h = require-yes _ Redeclared _ e ∙ require-no _ Parameters _ (few-no (length shapes) h)

    parameterized-parts : may_be_constant c name ≡ true → length shapes ≤ parameters_limit → declared_parameterized c name shapes type shape ≡ (bind c unbound shapes >>= type_read)
    unfolding declared_parameterized
    parameterized-parts e h = require-yes _ Redeclared _ e ∙ require-yes _ Parameters _ (few-yes (length shapes) h)

    pub parameterized-unbound : (fault : FaultName) → may_be_constant c name ≡ true → length shapes ≤ parameters_limit → bind c unbound shapes ≡ Err fault → declared_parameterized c name shapes type shape ≡ Err fault
    parameterized-unbound fault e h n = parameterized-parts e h ∙ then-err type_read (bind c unbound shapes) fault n

    pub parameterized-over : (b : Bound) → may_be_constant c name ≡ true → length shapes ≤ parameters_limit → bind c unbound shapes ≡ Ok b → declared_parameterized c name shapes type shape ≡ (typed_over c b type shape >>= λ r. Ok (constant c name b.parameters r.0 r.1))
    parameterized-over b e h n = parameterized-parts e h ∙ then-ok type_read (bind c unbound shapes) b n ∙ over-typed c name type shape b (meaning c b.locals type) (attribute c b.locals shape)

-- ---- commands that declare a constant, or nothing

pub others_declare_constants : (c : Context) (k : code.Command)
    → ((class : LiteralClass) (type : Sexp) → k ≡ command.DeclareLiterals class type → ⊥)
    → ((name : Bor (List ℕ)) (params : List ParameterShape) (body : Sexp) → k ≡ command.Define name params body → ⊥)
    → ((shape : code_program.ProgramShape) → k ≡ command.Program shape → ⊥)
    → ((shape : code_rule.RuleShape) → k ≡ command.DeclareRule shape → ⊥)
    → or_bad (declaration c (read_command k)) ≡ declared_constant c k
unfolding declaration ◌>>=◌
others_declare_constants c (command.DeclareLiterals class type) literals defines program rule = absurd (literals class type refl)
others_declare_constants c (command.Define name params body) literals defines program rule = absurd (defines name params body refl)
others_declare_constants c (command.Program shape) literals defines program rule = absurd (program shape refl)
others_declare_constants c (command.DeclareRule shape) literals defines program rule = absurd (rule shape refl)
others_declare_constants c k literals defines program rule = refl
