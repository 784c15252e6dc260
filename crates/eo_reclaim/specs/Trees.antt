-- The trees of declarations.
use Rattle.std.specs.Prelude.{List, [], ◌∷◌, ◌++◌, map, flat_map, option_to_list}
use Rattle.eo_term.specs.Tree.{Tree}
use Rattle.eo_sig.specs.Signature.{Attribute, Plain, RightNil, LeftNil, Right, Left, Chain, Pairs, Binder, Parameter, Constant, Macro, Case, Program, Rule, premise_patterns}

abbrev pub types_of : List Parameter → List Tree
types_of ps = map (λ p. p.type) ps

abbrev pub terminators : Attribute → List Tree
terminators Plain = []
terminators (RightNil n) = n ∷ []
terminators (LeftNil n) = n ∷ []
terminators Right = []
terminators Left = []
terminators (Chain g) = []
terminators (Pairs g) = []
terminators (Binder c) = []

abbrev pub constant_trees : Constant → List Tree
constant_trees c = c.type ∷ types_of c.parameters ++ terminators c.attribute

abbrev pub macro_trees : Macro → List Tree
macro_trees m = m.tree ∷ types_of m.parameters

abbrev pub case_trees : Case → List Tree
case_trees c = c.body ∷ c.patterns

abbrev pub program_trees : Program → List Tree
program_trees p = p.output ∷ p.inputs ++ types_of p.parameters ++ flat_map case_trees p.cases

abbrev pub pair_trees : Tree × Tree → List Tree
pair_trees q = q.0 ∷ q.1 ∷ []

abbrev pub rule_trees : Rule → List Tree
rule_trees r =
    r.conclusion ∷ types_of r.parameters ++ option_to_list r.assumed ++ premise_patterns r.premises ++ r.arguments ++ flat_map pair_trees r.requirements
