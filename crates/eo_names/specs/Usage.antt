-- What is made of arguments, over the terms of a table.
use Rattle.std.specs.Prelude.{ℕ, ◌<◌, ◌≤◌, List, slice_get}
use Rattle.eo_base.specs.Limits.{parameters_limit}
use Rattle.eo_term.specs.Tree.{Tree, Con, Op, to_trees}
use Rattle.eo_term.specs.Terms.{tree_at, HasArity}
use Rattle.eo_pattern.specs.Matching.{put}
use Rattle.eo_names.specs.declared.usage.Head.{Head}
use Rattle.eo_names.specs.declared.usage.Head.TheVariants as use_
use Rattle.eo_names.specs.Folding.{applied, folded, plainly, arrow}
use Rattle.eo_names.specs.Contexts.{Context, Local, is_list}
use Rattle.eo_names.specs.Readers.{Reader, ◌>>=◌, read, built}

-- the term of arguments that are used so
abbrev pub made_of : List Tree → Context → List Local → Head → List Tree → Reader Tree
made_of ts c locals (use_.Apply f) args = built (applied (tree_at ts f) args)
made_of ts c locals use_.Underscore args = built (plainly args)
made_of ts c locals use_.Arrow args = built (arrow args)
made_of ts c locals (use_.Fold k) args = read (folded c.signature (is_list locals) k args) >>= built
made_of ts c locals (use_.Bind binder collector) args = built (applied (Con binder) args)
made_of ts c locals (use_.Macro tree) args = built (put (slice_get args) (tree_at ts tree))
made_of ts c locals (use_.Operator code) args = built (Op code (to_trees args))

-- the same, where a constant that folds its arguments is applied to them one after another
abbrev pub plain_tree : List Tree → Head → List Tree → Tree
plain_tree ts (use_.Apply f) args = applied (tree_at ts f) args
plain_tree ts use_.Underscore args = plainly args
plain_tree ts use_.Arrow args = arrow args
plain_tree ts (use_.Fold k) args = applied (Con k) args
plain_tree ts (use_.Bind binder collector) args = applied (Con binder) args
plain_tree ts (use_.Macro tree) args = put (slice_get args) (tree_at ts tree)
plain_tree ts (use_.Operator code) args = Op code (to_trees args)

-- its terms are below n
abbrev pub UseBelow : ℕ → Head → Type 0
UseBelow n (use_.Apply f) = f < n
UseBelow n use_.Underscore = Unit {0}
UseBelow n use_.Arrow = Unit {0}
UseBelow n (use_.Fold k) = Unit {0}
UseBelow n (use_.Bind binder collector) = Unit {0}
UseBelow n (use_.Macro tree) = tree < n
UseBelow n (use_.Operator code) = Unit {0}

-- so many arguments may be used so
abbrev pub Suits : Head → ℕ → Type 0
Suits (use_.Apply f) n = Unit {0}
Suits use_.Underscore n = 2 ≤ n
Suits use_.Arrow n = 2 ≤ n
Suits (use_.Fold k) n = Unit {0}
Suits (use_.Bind binder collector) n = Unit {0}
Suits (use_.Macro tree) n = n ≤ parameters_limit
Suits (use_.Operator code) n = HasArity code n
