-- What a collector keeps, what that represents, and the condition under which it does.
use Rattle.std.specs.Prelude.{◌≡◌, ℕ, ◌+◌, ◌-◌, ◌^◌, Option, Some, None, ◌≤◌, ◌<◌, Bool, false, List, [], ◌∷◌, ◌++◌, length, take, drop, ⊤, ◌⊎◌, nat_lt, ◌||◌, codes, if◌then◌else◌}
use Rattle.eo_base.specs.declared.FaultName.{FaultName}
use Rattle.eo_base.specs.declared.FaultName.TheVariants.{CommandLong}
use Rattle.eo_base.specs.Faults.{number}
use Rattle.eo_base.specs.Limits.{Limits, limits}
use Rattle.eo_sexp.specs.Spot.{Spot}
use Rattle.eo_sexp.specs.declared.Fed.{Fed}
use Rattle.eo_sexp.specs.declared.Fed.TheVariants as fed
use Rattle.eo_sexp.specs.declared.incremental.Phase.{Phase as FilePhase}
use Rattle.eo_sexp.specs.declared.incremental.Phase.TheVariants as file
use Rattle.eo_sexp.specs.declared.incremental.State.{State}
use Rattle.eo_sexp.specs.declared.incremental.State.TheVariants as state
use Rattle.eo_sexp.specs.declared.incremental.Machine.{Machine}
use Rattle.eo_sexp.specs.Lexicon.{Class, Open, Quote, Bar, Word, pass}
use Rattle.eo_sexp.specs.Commands.{front, sexp}
use Rattle.eo_sexp.specs.Texts.{Phase, Start, AfterUnsat, InPair, AfterPair, Plain, begins_one_of, spot_after, next_spot, after}
use Rattle.eo_sexp.specs.Collecting.{Collecting, Within, AtCommand, Failed, NoMemory, fed_from, finished_from, finish_answer}
use Rattle.eo_sexp.specs.declared.Finished.{Finished}
use Rattle.eo_sexp.specs.Built.{Built, nothing, with_byte}
use Rattle.eo_sexp.specs.Nodes.{first_of}
use Rattle.eo_sexp.specs.Sexp.{Sexp}
use Rattle.eo_sexp.specs.declared.reader.ReaderTurn.{ReaderTurn}
use Rattle.eo_sexp.specs.Reader.{held, IsReader, reading, IsWhole, Turns}

-- the phase of the definitions
abbrev pub phase_of : FilePhase → Phase
phase_of file.Start = Start
phase_of file.AfterUnsat = AfterUnsat
phase_of file.InPair = InPair
phase_of file.AfterPair = AfterPair
phase_of file.Plain = Plain

abbrev pub meaning_at : State → Phase → Spot → Built → Collecting
meaning_at (state.Between comment) phase start b = Within phase comment start b.bytes
meaning_at state.Begun phase start b = Within phase false start b.bytes
meaning_at (state.Pair comment) phase start b = Within phase false start b.bytes
meaning_at state.Command phase start b = AtCommand (record { sexp = first_of b.done; bytes = b.bytes; start = start }) phase
meaning_at (state.Failed name at) phase start b = Failed name at
meaning_at state.NoMemory phase start b = NoMemory

-- what it represents
abbrev pub meaning : Machine → Collecting
meaning m = meaning_at m.state (phase_of m.phase) m.start m.begun

-- the file may still have the wrappings of a proof
abbrev pub IsProofStart : Phase → Type 0
IsProofStart Start = Unit {0}
IsProofStart AfterUnsat = Unit {0}
IsProofStart p = ⊥

-- the class of a command's first byte
abbrev pub IsFirst : Class → Type 0
IsFirst Open = Unit {0}
IsFirst Quote = Unit {0}
IsFirst Bar = Unit {0}
IsFirst Word = Unit {0}
IsFirst c = ⊥

-- the first token after the first byte is no parenthesis
abbrev pub IsNoPair : List ℕ → Type 0
IsNoPair bytes = (more : List ℕ) → begins_one_of (codes "()") (pass false 1 (drop 1 bytes ++ more)).rest.bytes ≡ false

-- whether a `(` at the front may still be a proof's outer pair
abbrev pub IsPairFact : State → Phase → List ℕ → Type 0
IsPairFact state.Begun phase bytes = IsProofStart phase → front bytes ≡ Open → IsNoPair bytes
IsPairFact (state.Pair comment) phase bytes = IsProofStart phase × (front bytes ≡ Open) × ((more : List ℕ) → pass false 1 (drop 1 bytes ++ more) ≡ pass comment (length bytes) more)
IsPairFact s phase bytes = ⊥

-- a command is begun
pub record IsBegun (m : Machine) : Type 0 where
  pub first : IsFirst (front m.begun.bytes)
  pub inside : phase_of m.phase ≡ AfterPair → ⊥
  pub reader : IsReader limits (held m.begun m.reader) (length m.begun.bytes)
  pub reads : (more : List ℕ) → sexp limits (front m.begun.bytes) (record { at = 0; bytes = m.begun.bytes ++ more }) ≡ reading limits (held m.begun m.reader) (length m.begun.bytes) more
  pub short : length m.begun.bytes ≤ limits.command

-- the place of the next byte
pub record IsPlaced (m : Machine) : Type 0 where
  pub here : m.here ≡ spot_after m.start m.begun.bytes
  pub line : m.here.line ≤ m.here.offset + 1

-- a byte at this place may be passed over: the numbers of the place after it are in their range
pub record MayPass (at : Spot) : Type 0 where
  pub line : at.line ≤ at.offset + 1
  pub room : at.offset + 3 ≤ 2 ^ 64

-- the next byte stands between two commands and in no comment, and may be passed over
pub record IsBetween (m : Machine) : Type 0 where
  pub between : m.state ≡ state.Between false
  pub nothing : m.begun ≡ nothing
  pub placed : IsPlaced m
  pub room : m.here.offset + 3 ≤ 2 ^ 64

-- the buffer has a whole command
abbrev pub IsAnswered : Machine → Type 0
IsAnswered m = (s : Sexp) × IsWhole m.begun s

abbrev pub IsSoundAt : State → Machine → Type 0
IsSoundAt (state.Between comment) m = (m.begun ≡ nothing) × IsPlaced m
IsSoundAt state.Begun m = IsBegun m × IsPairFact m.state (phase_of m.phase) m.begun.bytes × IsPlaced m
IsSoundAt (state.Pair comment) m = IsBegun m × IsPairFact m.state (phase_of m.phase) m.begun.bytes × IsPlaced m
IsSoundAt state.Command m = IsAnswered m × IsPlaced m
IsSoundAt (state.Failed name at) m = ⊤
IsSoundAt state.NoMemory m = ⊤

abbrev pub IsSound : Machine → Type 0
IsSound m = IsSoundAt m.state m

-- one byte is taken, or decides
pub record TakesByte (old : Machine) (x : ℕ) (new : Machine) : Type 0 where
  pub sound : IsSound new
  pub meant : meaning new ≡ fed_from limits (meaning old) (x ∷ [])

-- these bytes are taken, or one of them decides
pub record TakesBytes (old : Machine) (xs : List ℕ) (new : Machine) : Type 0 where
  pub sound : IsSound new
  pub meant : meaning new ≡ fed_from limits (meaning old) xs

-- the reader of a command that is begun has turned at the byte x, and nothing else is changed
pub record Turned (old : Machine) (t : ReaderTurn) (x : ℕ) (mid : Machine) : Type 0 where
  pub begun : IsBegun old
  pub pair : IsPairFact old.state (phase_of old.phase) (old.begun.bytes ++ x ∷ [])
  pub placed : IsPlaced old
  pub same : mid ≡ record old { reader = mid.reader; begun = mid.begun }
  pub bytes : mid.begun.bytes ≡ old.begun.bytes
  pub turns : Turns limits (held old.begun old.reader) (length old.begun.bytes) x t (held (with_byte mid.begun x) mid.reader)

-- the fault at byte `at` of a command, where that byte is this fault and may be one too many
abbrev pub earlier_fault : Limits → (at : ℕ) → FaultName → FaultName
earlier_fault limits at name = if nat_lt at limits.command || nat_lt (number name) (number CommandLong) then name else CommandLong

-- ---- the parts of a turn

-- the bytes begun are dropped; the next byte is at `next`
pub record Leaves (old : Machine) (comment : Bool) (next : Spot) (new : Machine) : Type 0 where
  pub state : new.state ≡ state.Between comment
  pub begun : new.begun ≡ nothing
  pub start : new.start ≡ next
  pub here : new.here ≡ next
  pub phase : new.phase ≡ old.phase

-- the byte x is kept
pub record Keeps (old : Machine) (x : ℕ) (new : Machine) : Type 0 where
  pub state : new.state ≡ old.state
  pub begun : new.begun ≡ with_byte old.begun x
  pub start : new.start ≡ old.start
  pub here : new.here ≡ next_spot old.here x
  pub phase : new.phase ≡ old.phase
  pub reader : new.reader ≡ old.reader

-- the command is whole
pub record Completes (old : Machine) (new : Machine) : Type 0 where
  pub state : new.state ≡ state.Command
  pub begun : new.begun ≡ old.begun
  pub start : new.start ≡ old.start
  pub here : new.here ≡ old.here
  pub phase : phase_of new.phase ≡ after (phase_of old.phase)

-- the byte x is kept, or is one too many
abbrev pub Lengthens : Limits → (old : Machine) → (at x : ℕ) → (new : Machine) → Type 0
Lengthens limits old at x new = (at < limits.command) × Keeps old x new ⊎ (limits.command ≤ at) × (new.state ≡ state.Failed CommandLong old.here)

-- the byte x makes the command whole, or is one too many
pub record IsWholeCommand (old : Machine) (x : ℕ) (new : Machine) : Type 0 where
  pub state : new.state ≡ state.Command
  pub begun : new.begun ≡ with_byte old.begun x
  pub start : new.start ≡ old.start
  pub here : new.here ≡ next_spot old.here x
  pub phase : phase_of new.phase ≡ after (phase_of old.phase)

abbrev pub ClosesCommand : Limits → (old : Machine) → (at x : ℕ) → (new : Machine) → Type 0
ClosesCommand limits old at x new = (at < limits.command) × IsWholeCommand old x new ⊎ (limits.command ≤ at) × (new.state ≡ state.Failed CommandLong old.here)

-- what a `(` begins
abbrev pub list_state : FilePhase → State
list_state file.Start = state.Pair false
list_state file.AfterUnsat = state.Pair false
list_state file.InPair = state.Begun
list_state file.AfterPair = state.Begun
list_state file.Plain = state.Begun

-- what is returned, where the first byte of the piece had this offset; nothing where more bytes are to come
abbrev pub answer_at : State → (first here : ℕ) → Option Fed
answer_at state.Command first here = Some (fed.Command (here - first))
answer_at (state.Failed name at) first here = Some (fed.Fault name at)
answer_at state.NoMemory first here = Some fed.Memory
answer_at s first here = None

abbrev pub answer_of : (first : ℕ) → Machine → Option Fed
answer_of first m = answer_at m.state first m.here.offset

-- one byte of a piece is fed
abbrev pub FeedsByte : (old : Machine) → (first x : ℕ) → Option Fed → (new : Machine) → Type 0
FeedsByte old first x result new = (new.state ≡ state.NoMemory) × (result ≡ Some fed.Memory) ⊎ TakesByte old x new × (result ≡ answer_of first new)

-- so many bytes of `rest` are taken, and nothing is returned
pub record GoesOver (old : Machine) (first : ℕ) (rest : List ℕ) (n : ℕ) (new : Machine) : Type 0 where
  pub within : n ≤ length rest
  pub takes : TakesBytes old (take n rest) new
  pub answer : answer_of first new ≡ None

-- a byte of `rest` gives a result
pub record StopsIn (old : Machine) (first : ℕ) (rest : List ℕ) (f : Fed) (new : Machine) : Type 0 where
  pub taken : ℕ
  pub within : taken ≤ length rest
  pub takes : TakesBytes old (take taken rest) new
  pub answer : answer_of first new ≡ Some f

-- the result of the end of the input
pub record Finishing (limits : Limits) (old : Machine) (result : Finished) (new : Machine) : Type 0 where
  pub sound : IsSound new
  pub meant : meaning new ≡ finished_from limits (meaning old)
  pub answer : result ≡ finish_answer (meaning new)
