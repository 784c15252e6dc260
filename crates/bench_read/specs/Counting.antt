-- How many commands a text has.
use Rattle.std.specs.Prelude.{◌≡◌, ℕ, ◌+◌, ◌≤◌, ◌<◌, false, true, List, length, drop}
use Rattle.eo_base.specs.Limits.{limits}
use Rattle.eo_sexp.specs.Texts.{Reads, Then, Ends, Fails, reads}
use Rattle.eo_sexp.specs.Collecting.{Collecting, IsLive, here_of}
use Rattle.eo_sexp.specs.Cutting.{IsWaiting, rest_of}
use Rattle.bench_read.specs.declared.Given.{Given}
use Rattle.bench_read.specs.declared.Given.TheVariants as given

-- before its end or its first fault
abbrev pub count : Reads → ℕ
count (Then first others) = 1 + count others
count (Ends at) = 0
count (Fails name at) = 0

-- a text of commands without the wrappings of a proof
abbrev pub commands_of : List ℕ → ℕ
commands_of text = count (reads limits false text)

-- what a collector leaves to be read, where these bytes are still to come
abbrev pub commands_behind : Collecting → List ℕ → ℕ
commands_behind c rest = count (rest_of limits true c rest)

-- The collector goes on after so many bytes of `rest` were taken, and so many commands were whole.
pub record GoesOn (old new : Collecting) (rest : List ℕ) (taken commands : ℕ) : Type 0 where
  pub within : taken ≤ length rest
  pub counts : commands_behind old rest ≡ commands + commands_behind new (drop taken rest)
  pub live : IsLive new
  pub waiting : IsWaiting limits new
  pub here : (here_of new).offset + length (drop taken rest) ≤ (here_of old).offset + length rest

-- what the first piece of `rest` gave
abbrev pub Gives : Given → (old new : Collecting) → List ℕ → Type 0
Gives (given.More n) old new rest = GoesOn old new rest n 0 × (0 < length rest → 0 < n)
Gives (given.Command n) old new rest = GoesOn old new rest n 1
Gives given.Fault old new rest = commands_behind old rest ≡ 0
