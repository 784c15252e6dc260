-- The limits that the product has leave room for something.
use Rattle.std.proofs.Common.{◌≡◌, refl, ◌≤◌, arith}
use Rattle.eo_base.specs.Limits.{limits}

pub some_nesting : 1 ≤ limits.nesting
unfolding limits
some_nesting = omega arith

pub some_token : 1 ≤ limits.token
unfolding limits
some_token = omega arith

pub some_command : 1 ≤ limits.command
unfolding limits
some_command = omega arith

pub nesting_is : limits.nesting ≡ 100_000
unfolding limits
nesting_is = refl

pub command_is : limits.command ≡ 16_777_216
unfolding limits
command_is = refl

pub token_is : limits.token ≡ 1_048_576
unfolding limits
token_is = refl
