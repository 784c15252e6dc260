-- What is declared at the place of a term: a signature, and in the cases of a program that program too, after all others.
use Rattle.std.specs.Prelude.{ℕ, List, Option, Some, None, bytes_eq, if◌then◌else◌}
use Rattle.eo_sig.specs.declared.records.Declared.TheVariants as declared
use Rattle.eo_sig.specs.declared.records.Entry as code_entry
use Rattle.eo_sig.specs.declared.records.Entry.TheVariants as names
use Rattle.eo_sig.specs.declared.records.ProgramDecl.{ProgramDecl}
use Rattle.eo_sig.specs.Reading.{Kept, with_entry}

abbrev pub with_own : Kept → Option ProgramDecl → Kept
with_own k None = k
with_own k (Some d) = with_entry (declared.Program d) k

-- the program, by its number, where the name is its
abbrev pub own_entry : Option ProgramDecl → ℕ → List ℕ → Option code_entry.Entry
own_entry None number name = None
own_entry (Some d) number name = if bytes_eq name d.name then Some (names.Program number) else None
