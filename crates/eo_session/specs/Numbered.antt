-- The file of a command, with its number in the table of paths, as the code has it.
use Rattle.std.specs.Prelude.{ℕ}
use Rattle.eo_session.specs.Origin.{Origin}
use Rattle.eo_session.specs.Origin as origin
use Rattle.eo_session.specs.declared.Origin as code
use Rattle.eo_session.specs.declared.Origin.TheVariants as numbered

-- what it is, without its number
abbrev pub origin_of : code.Origin → Origin
origin_of (numbered.Signature file) = origin.Signature
origin_of (numbered.Proof file) = origin.Proof
origin_of (numbered.Reference file) = origin.Reference

abbrev pub number_of : code.Origin → ℕ
number_of (numbered.Signature file) = file
number_of (numbered.Proof file) = file
number_of (numbered.Reference file) = file
