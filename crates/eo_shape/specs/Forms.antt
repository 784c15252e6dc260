-- The shape by which each of the program's forms of commands goes.
use Rattle.std.specs.Prelude.{List, Option}
use Rattle.eo_sexp.specs.Sexp.{Sexp}
use Rattle.eo_shape.specs.declared.shaping.Form.{Form}
use Rattle.eo_shape.specs.declared.shaping.Form.TheVariants as form
use Rattle.eo_shape.specs.Shapes as shapes

abbrev pub shape_by : Form → List Sexp → Option shapes.Command
shape_by form.DeclareConst = shapes.declare_const
shape_by form.DeclareFun = shapes.declare_fun
shape_by form.DeclareSort = shapes.declare_sort
shape_by form.DeclareParameterized = shapes.declare_parameterized
shape_by form.DeclareLiterals = shapes.declare_literals
shape_by form.Define = shapes.define
shape_by form.Program = shapes.define_program
shape_by form.DeclareRule = shapes.declare_rule
shape_by form.Assume = shapes.named_formula shapes.Assume
shape_by form.AssumePush = shapes.named_formula shapes.AssumePush
shape_by form.Step = shapes.step shapes.Step
shape_by form.StepPop = shapes.step shapes.StepPop
shape_by form.Include = shapes.one_string shapes.Include
shape_by form.Refer = shapes.one_string shapes.Refer
shape_by form.DeclarePlain = shapes.declare_plain
shape_by form.DefineFun = shapes.define_fun
shape_by form.DefineSort = shapes.define_sort
shape_by form.Assert = shapes.assert
shape_by form.Exit = shapes.exit
shape_by form.Skip = shapes.skip
