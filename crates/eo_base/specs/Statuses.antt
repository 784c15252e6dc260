-- The program's statuses as numbers.
use Rattle.std.specs.Prelude.{ℕ}
use Rattle.eo_base.specs.declared.Status.{Status}
use Rattle.eo_base.specs.declared.Status.TheVariants.{Ok, Incomplete, Refused, Usage, ReadFault, WriteFault, OutOfMemory}

unfoldable pub status_code : Status → ℕ
status_code Ok = 0
status_code Incomplete = 1
status_code Refused = 2
status_code Usage = 3
status_code ReadFault = 4
status_code WriteFault = 5
status_code OutOfMemory = 6
