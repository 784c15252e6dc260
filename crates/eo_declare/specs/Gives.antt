-- What calls that declare return, by what is read: parts of declarations and declarations, or the fault.
use Rattle.std.specs.Prelude.{◌≡◌, ℕ, ◌<◌, List, ◌∷◌, length, map, All, Result, Ok, Err}
use Rattle.eo_base.specs.Answers.{Gives, Tells}
use Rattle.eo_base.specs.Checks.{Checked}
use Rattle.eo_sig.specs.declared.records.Attribute as code_attribute
use Rattle.eo_sig.specs.declared.records.ConstDecl.{ConstDecl}
use Rattle.eo_sig.specs.declared.records.Declaration as code
use Rattle.eo_sig.specs.declared.records.MacroDecl.{MacroDecl}
use Rattle.eo_sig.specs.declared.records.Case as code_case
use Rattle.eo_sig.specs.declared.records.ProgramDecl.{ProgramDecl}
use Rattle.eo_sig.specs.declared.records.RuleDecl.{RuleDecl}
use Rattle.eo_sig.specs.Reading.{Kept, read_attribute, read_constant, read_macro, read_case, read_program, read_rule, AttributeBelow, ConstBelow, MacroBelow, CaseBelow, ProgramBelow, RuleBelow}
use Rattle.eo_sig.specs.Signature.{Attribute, Constant, Macro, Case, Program, Rule}
use Rattle.eo_term.specs.Tree.{Tree}
use Rattle.eo_term.specs.Terms.{Terms, tree_at}
use Rattle.eo_declare.specs.declared.parameters.Bound as code_bound
use Rattle.eo_names.specs.declared.refused.ElabRefused.{ElabRefused}
use Rattle.eo_names.specs.declared.scope.FileKind as code_setting
use Rattle.eo_shape.specs.Shapes.{ParameterShape}
use Rattle.eo_declare.specs.Declarations.{Bound, Declaration, bind, bind_types}
use Rattle.eo_declare.specs.Declaring.{read_bound, read_declaration, read_typed, BoundBelow, TypesBelow, DeclarationBelow, TypedBelow}
use Rattle.eo_names.specs.Refused.{told}
use Rattle.eo_elab.specs.Worlds.{context_at}

-- the ids of terms in order
abbrev pub GivesTrees : Terms → Result (List ℕ) ElabRefused → Checked (List Tree) → Type 0
GivesTrees t r o = Gives told (All (λ i. i < length t.trees)) (map (tree_at t.trees)) r o

-- the number of a constant
abbrev pub GivesNumber : Result ℕ ElabRefused → Checked ℕ → Type 0
GivesNumber r o = Gives told (λ k. Unit {0}) (λ k. k) r o

abbrev pub GivesAttribute : Terms → Result code_attribute.Attribute ElabRefused → Checked Attribute → Type 0
GivesAttribute t r o = Gives told (AttributeBelow (length t.trees)) (read_attribute t.trees) r o

-- a type and an attribute
abbrev pub GivesTyped : Terms → Result (ℕ × code_attribute.Attribute) ElabRefused → Checked (Tree × Attribute) → Type 0
GivesTyped t r o = Gives told (TypedBelow (length t.trees)) (read_typed t.trees) r o

-- parameters
abbrev pub GivesBound : Kept → Terms → Result code_bound.Bound ElabRefused → Checked Bound → Type 0
GivesBound k t r o = Gives told (BoundBelow (length t.trees) k) (read_bound t.trees) r o

-- the same where all are types
abbrev pub GivesTypes : Terms → Result code_bound.Bound ElabRefused → Checked Bound → Type 0
GivesTypes t r o = Gives told (TypesBelow (length t.trees)) (read_bound t.trees) r o

abbrev pub GivesConstant : Terms → Result ConstDecl ElabRefused → Checked Constant → Type 0
GivesConstant t r o = Gives told (ConstBelow (length t.trees)) (read_constant t.trees) r o

abbrev pub GivesMacro : Terms → Result MacroDecl ElabRefused → Checked Macro → Type 0
GivesMacro t r o = Gives told (MacroBelow (length t.trees)) (read_macro t.trees) r o

abbrev pub GivesCase : Terms → Result code_case.Case ElabRefused → Checked Case → Type 0
GivesCase t r o = Gives told (CaseBelow (length t.trees)) (read_case t.trees) r o

abbrev pub GivesCases : Terms → Result (List code_case.Case) ElabRefused → Checked (List Case) → Type 0
GivesCases t r o = Gives told (All (CaseBelow (length t.trees))) (map (read_case t.trees)) r o

abbrev pub GivesProgram : Terms → Result ProgramDecl ElabRefused → Checked Program → Type 0
GivesProgram t r o = Gives told (ProgramBelow (length t.trees)) (read_program t.trees) r o

abbrev pub GivesRule : Terms → Result RuleDecl ElabRefused → Checked Rule → Type 0
GivesRule t r o = Gives told (RuleBelow (length t.trees)) (read_rule t.trees) r o

abbrev pub GivesDeclaration : Terms → Result code.Declaration ElabRefused → Checked Declaration → Type 0
GivesDeclaration t r o = Gives told (DeclarationBelow (length t.trees)) (read_declaration t.trees) r o

-- one more parameter is added to those before it, and what is left is read after it
pub record IsRead (k : Kept) (x : code_setting.FileKind) (old new : Terms) (p : ParameterShape) (before after : code_bound.Bound) : Type 0 where
  pub live : BoundBelow (length new.trees) k after
  pub binds : (rest : List ParameterShape) → bind (context_at old k x) (read_bound old.trees before) (p ∷ rest) ≡ bind (context_at old k x) (read_bound new.trees after) rest

abbrev pub ReadsParameter : Kept → code_setting.FileKind → Terms → Terms → ParameterShape → code_bound.Bound → code_bound.Bound → Result (Unit {0}) ElabRefused → Type 0
ReadsParameter k x old new p before after (Ok u) = IsRead k x old new p before after
ReadsParameter k x old new p before after (Err e) = (rest : List ParameterShape) → Tells told e (bind (context_at old k x) (read_bound old.trees before) (p ∷ rest))

-- the same for one that is a type, wherever it is read
pub record IsNamed (old new : Terms) (name : List ℕ) (before after : code_bound.Bound) : Type 0 where
  pub live : TypesBelow (length new.trees) after
  pub binds : (rest : List (List ℕ)) → bind_types (read_bound old.trees before) (name ∷ rest) ≡ bind_types (read_bound new.trees after) rest

abbrev pub NamesType : Terms → Terms → List ℕ → code_bound.Bound → code_bound.Bound → Result (Unit {0}) ElabRefused → Type 0
NamesType old new name before after (Ok u) = IsNamed old new name before after
NamesType old new name before after (Err e) = (rest : List (List ℕ)) → Tells told e (bind_types (read_bound old.trees before) (name ∷ rest))
