-- What an operator returns, by its value.
use Rattle.std.specs.Prelude.{◌≡◌, IsTrue}
use Rattle.eo_ops.specs.declared.OpResult.{OpResult}
use Rattle.eo_ops.specs.declared.OpResult.TheVariants.{Value, Stuck, NumberRange, Memory}
use Rattle.eo_ops.specs.Operators.{Literal, OpAnswer, Gives, IsStuck, IsOutOfRange, is_text}
use Rattle.eo_ops.specs.Lit.{lit, IsWellFormed}

abbrev pub GivesText : OpAnswer Literal → Type 0
GivesText (Gives l) = IsTrue (is_text l)
GivesText _ = ⊥

-- The result is what the operator gives, and a bit string in it is well formed. There may be no memory left only where the operator gives a string.
abbrev pub Answers : OpResult → OpAnswer Literal → Type 0
Answers (Value l) answer = (answer ≡ Gives (lit l)) × IsWellFormed l
Answers Stuck answer = answer ≡ IsStuck
Answers NumberRange answer = answer ≡ IsOutOfRange
Answers (Memory e) answer = GivesText answer

abbrev pub IsNoMemory : OpResult → Type 0
IsNoMemory (Memory e) = ⊥
IsNoMemory _ = Unit {0}
