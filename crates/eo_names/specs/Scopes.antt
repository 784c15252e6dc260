-- The local names of a scope, the innermost first, and the kind of file.
use Rattle.std.specs.Prelude.{List, ◌++◌}
use Rattle.eo_names.specs.declared.locals.LocalName.{LocalName}
use Rattle.eo_names.specs.declared.scope.Scope.{Scope, fold-Scope}
use Rattle.eo_names.specs.declared.scope.Scope.TheOpen.{Scope-F}
use Rattle.eo_names.specs.declared.scope.FileKind as code
use Rattle.eo_names.specs.declared.scope.FileKind.TheVariants as settings
use Rattle.eo_names.specs.Contexts.{FileKind, InProof, InReference, InAssert}
use Rattle.eo_names.specs.Names.{bound_by}

-- one level, with what is around it already seen as its names
abbrev pub scope_step : Scope-F (List LocalName) → List LocalName
scope_step (Scope-F.Outer locals file_kind) = locals.now
scope_step (Scope-F.Within blocks around) = bound_by blocks.now ++ around.now

abbrev pub bound_in : Scope → List LocalName
bound_in = fold-Scope (List LocalName) scope_step

abbrev pub read_file_kind : code.FileKind → FileKind
read_file_kind settings.Proof = InProof
read_file_kind settings.Reference = InReference
read_file_kind settings.Assert = InAssert

abbrev pub file_kind_step : Scope-F FileKind → FileKind
file_kind_step (Scope-F.Outer locals file_kind) = read_file_kind file_kind
file_kind_step (Scope-F.Within blocks around) = around.now

abbrev pub file_kind_in : Scope → FileKind
file_kind_in = fold-Scope FileKind file_kind_step
