-- Numbers that a key holds itself.
use Rattle.std.specs.Prelude.{ℕ, ℤ, List, FitsSigned}
use Rattle.std.specs.Int.{w64}
use Rattle.std.specs.List.{fold}
use Rattle.std.specs.Hash as fed
use Rattle.std.specs.Hash.DefaultHasher as sip

abbrev pub IsSmall : ℤ → Type 0
IsSmall z = FitsSigned w64 z

-- what is hashed of one: its hash by SipHash
abbrev pub hash_of : ℤ → List (List ℕ)
hash_of z = fed.u64 (sip.finish (fold sip.write sip.initial (fed.i64 z)))
