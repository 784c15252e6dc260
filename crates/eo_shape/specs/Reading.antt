-- The parts of a command as the program has them, which borrow, and those of the definitions that they represent.
use Rattle.eo_base.specs.declared.FaultName.{FaultName}
use Rattle.eo_base.specs.declared.FaultName.TheVariants as fault
use Rattle.eo_sexp.specs.Sexp.{Sexp}
use Rattle.eo_shape.specs.declared.ParameterShape as code_parameter
use Rattle.eo_shape.specs.declared.AttributeShape as code_attribute
use Rattle.eo_shape.specs.declared.AttributeShape.TheVariants as attribute
use Rattle.eo_shape.specs.declared.CaseShape as code_case
use Rattle.eo_shape.specs.declared.ProgramShape as code_program
use Rattle.eo_shape.specs.declared.PairShape as code_pair
use Rattle.eo_shape.specs.declared.PremisesShape as code_premises
use Rattle.eo_shape.specs.declared.PremisesShape.TheVariants as premises
use Rattle.eo_shape.specs.declared.RuleShape as code_rule
use Rattle.eo_shape.specs.declared.StepShape as code_step
use Rattle.eo_shape.specs.declared.Command as code_command
use Rattle.eo_shape.specs.declared.Command.TheVariants as command
use Rattle.eo_shape.specs.declared.ShapeRefused.{ShapeRefused}
use Rattle.eo_shape.specs.declared.ShapeRefused.TheVariants as refused
use Rattle.eo_shape.specs.Shapes.{ParameterShape, AttributeShape, NoAttribute, RightNilShape, LeftNilShape, RightShape, LeftShape, ChainShape, PairsShape, BinderShape, CaseShape, ProgramShape, PremisesShape, EachShape, JoinedShape, RuleShape, StepShape, Command, DeclareConst, DeclareFun, DeclareSort, DeclareParameterized, DeclareLiterals, Define, DefineProgram, DeclareRule, Assume, AssumePush, Step, StepPop, Include, Refer, DefineFun, DefineSort, Assert, Exit, Skip}

abbrev pub read_parameter : code_parameter.ParameterShape → ParameterShape
read_parameter p = record { name = p.name.now; type = p.ty; implicit = p.implicit; list = p.list }

abbrev pub read_attribute : code_attribute.AttributeShape → AttributeShape
read_attribute attribute.None = NoAttribute
read_attribute (attribute.RightNil n) = RightNilShape n
read_attribute (attribute.LeftNil n) = LeftNilShape n
read_attribute attribute.Right = RightShape
read_attribute attribute.Left = LeftShape
read_attribute (attribute.Chain g) = ChainShape g
read_attribute (attribute.Pairs g) = PairsShape g
read_attribute (attribute.Binder b) = BinderShape b

abbrev pub read_case : code_case.CaseShape → CaseShape
read_case c = record { patterns = c.patterns; body = c.body }

abbrev pub read_program : code_program.ProgramShape → ProgramShape
read_program p = record { name = p.name.now; parameters = p.params; inputs = p.inputs; output = p.output; cases = p.cases }

abbrev pub read_pair : code_pair.PairShape → Sexp × Sexp
read_pair p = (p.left, p.right)

abbrev pub read_premises : code_premises.PremisesShape → PremisesShape
read_premises (premises.Each ps) = EachShape ps
read_premises (premises.Joined pattern joiner) = JoinedShape pattern joiner

abbrev pub read_rule : code_rule.RuleShape → RuleShape
read_rule r = record {
  name = r.name.now;
  parameters = r.params;
  assumed = r.«assumption»;
  premises = read_premises r.premises;
  arguments = r.args;
  requirements = r.requirements;
  conclusion = r.conclusion;
  sorry = r.sorry;
}

abbrev pub read_step : code_step.StepShape → StepShape
read_step s = record { name = s.name.now; stated = s.stated; rule = s.rule.now; premises = s.premises; arguments = s.args }

abbrev pub read_command : code_command.Command → Command
read_command (command.DeclareConst name ty a) = DeclareConst name.now ty (read_attribute a)
read_command (command.DeclareFun name inputs output) = DeclareFun name.now inputs output
read_command (command.DeclareSort name arity) = DeclareSort name.now arity
read_command (command.DeclareParameterized name params ty a) = DeclareParameterized name.now params ty (read_attribute a)
read_command (command.DeclareLiterals class ty) = DeclareLiterals class ty
read_command (command.Define name params body) = Define name.now params body
read_command (command.Program p) = DefineProgram (read_program p)
read_command (command.DeclareRule r) = DeclareRule (read_rule r)
read_command (command.Assume name formula) = Assume name.now formula
read_command (command.AssumePush name formula) = AssumePush name.now formula
read_command (command.Step s) = Step (read_step s)
read_command (command.StepPop s) = StepPop (read_step s)
read_command (command.Include path) = Include path.now
read_command (command.Refer path) = Refer path.now
read_command (command.DefineFun name params output body) = DefineFun name.now params output body
read_command (command.DefineSort name params ty) = DefineSort name.now params ty
read_command (command.Assert formula) = Assert formula
read_command command.Exit = Exit
read_command command.Skip = Skip

abbrev pub fault_of : ShapeRefused → FaultName
fault_of refused.UnknownCommand = fault.UnknownCommand
fault_of refused.BadCommand = fault.BadCommand
