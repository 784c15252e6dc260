-- Why a declaration was not made.
use Rattle.std.specs.Prelude.{◌≡◌, Result, Ok, Err, Option, Some, None}
use Rattle.eo_base.specs.declared.FaultName.{FaultName}
use Rattle.eo_base.specs.declared.FaultName.TheVariants as fault
use Rattle.eo_sig.specs.declared.refused.SigRefused.{SigRefused}
use Rattle.eo_sig.specs.declared.refused.SigRefused.TheVariants as refused

-- The result has the fault: a declaration with none is made, if there is memory.
abbrev pub Tells : {X : Type 0} → Result X SigRefused → Option FaultName → Type 0
Tells (Ok x) f = f ≡ None
Tells (Err refused.Redeclared) f = f ≡ Some fault.Redeclared
Tells (Err refused.BadPattern) f = f ≡ Some fault.BadPattern
Tells (Err refused.UnboundParam) f = f ≡ Some fault.UnboundParam
Tells (Err (refused.Memory e)) f = f ≡ None

-- a refusal, if it is one, is a fault, and not for lack of memory
abbrev pub IsFaultOnly : {X : Type 0} → Result X SigRefused → Type 0
IsFaultOnly (Ok x) = Unit {0}
IsFaultOnly (Err refused.Redeclared) = Unit {0}
IsFaultOnly (Err refused.BadPattern) = Unit {0}
IsFaultOnly (Err refused.UnboundParam) = Unit {0}
IsFaultOnly (Err (refused.Memory e)) = ⊥
