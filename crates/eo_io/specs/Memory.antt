-- The library and the sink in memory, whose calls go by a plan.
use Rattle.std.specs.Prelude.{◌≡◌, ℕ, ◌-◌, Bool, ◌&&◌, ◌||◌, nat_lt, nat_le, List, [], ◌++◌, length, take, min, if◌then◌else◌}
use Rattle.eo_io.specs.declared.Opened.{Opened}
use Rattle.eo_io.specs.declared.Opened.TheVariants as opened
use Rattle.eo_io.specs.declared.Got.{Got}
use Rattle.eo_io.specs.declared.Got.TheVariants as got
use Rattle.eo_io.specs.declared.Put.{Put}
use Rattle.eo_io.specs.declared.Put.TheVariants as put
use Rattle.eo_io.specs.Stored.{Stored, nothing_stored, opened_by, after_open, read_length, after_read}
use Rattle.eo_io.specs.Calls.{Plan, first_plan, fails_next, after_call}

-- a library in memory: opens and reads are its calls
pub record MemoryFiles : Type 0 where
  pub stored : Stored
  pub plan : Plan

abbrev pub first_files : MemoryFiles
first_files = record { stored = nothing_stored; plan = first_plan }

abbrev pub with_stored : Stored → MemoryFiles → MemoryFiles
with_stored stored files = record { stored = stored; plan = files.plan }

abbrev pub with_plan : Plan → MemoryFiles → MemoryFiles
with_plan plan files = record { stored = files.stored; plan = plan }

abbrev pub open_answer : MemoryFiles → (path : List ℕ) → Opened
open_answer files path = if fails_next files.plan then opened.Failed else opened_by files.stored path

abbrev pub files_after_open : MemoryFiles → (path : List ℕ) → MemoryFiles
files_after_open files path = record {
  stored = if fails_next files.plan then files.stored else after_open files.stored path;
  plan = after_call (fails_next files.plan) files.plan;
}

abbrev pub read_answer : MemoryFiles → (buffer : ℕ) → Got
read_answer files buffer = if fails_next files.plan then got.Failed else got.Bytes (read_length files.stored buffer files.plan.piece)

abbrev pub files_after_read : MemoryFiles → (buffer : ℕ) → MemoryFiles
files_after_read files buffer = record {
  stored = if fails_next files.plan then files.stored else after_read files.stored (read_length files.stored buffer files.plan.piece);
  plan = after_call (fails_next files.plan) files.plan;
}

-- how a call goes by the plan: what it returns, and the files that it leaves
pub record OpensByPlan (old : MemoryFiles) (path : List ℕ) (answer : Opened) (new : MemoryFiles) : Type 0 where
  pub answers : answer ≡ open_answer old path
  pub leaves : new ≡ files_after_open old path

pub record ReadsByPlan (old : MemoryFiles) (buffer : ℕ) (answer : Got) (new : MemoryFiles) : Type 0 where
  pub answers : answer ≡ read_answer old buffer
  pub leaves : new ≡ files_after_read old buffer

-- a sink in memory: writes are its calls
pub record Written : Type 0 where
  pub bytes : List ℕ
  -- how many bytes it takes in all
  pub room : ℕ
  pub plan : Plan

abbrev pub first_written : ℕ → Written
first_written room = record { bytes = []; room = room; plan = first_plan }

abbrev pub written_by_plan : Plan → Written → Written
written_by_plan plan written = record { bytes = written.bytes; room = written.room; plan = plan }

-- a write fails where its number is to fail, or where the room is used up and the piece is not empty
abbrev pub write_fails : Written → (piece : List ℕ) → Bool
write_fails written piece = fails_next written.plan || (nat_le written.room (length written.bytes) && nat_lt 0 (length piece))

-- how many bytes of the piece a write takes
abbrev pub write_length : Written → (piece : List ℕ) → ℕ
write_length written piece = min (min (length piece) written.plan.piece) (written.room - length written.bytes)

abbrev pub write_answer : Written → (piece : List ℕ) → Put
write_answer written piece = if write_fails written piece then put.Failed else put.Took (write_length written piece)

abbrev pub after_write : Written → (piece : List ℕ) → Written
after_write written piece = record {
  bytes = if write_fails written piece then written.bytes else written.bytes ++ take (write_length written piece) piece;
  room = written.room;
  plan = after_call (write_fails written piece) written.plan;
}
