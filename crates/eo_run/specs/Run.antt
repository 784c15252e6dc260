-- The run of the files of a check or a load: how far it comes, or the first fault with its place.
use Rattle.std.specs.Prelude.{ℕ, zero, suc, Bool, true, false, if◌then◌else◌, List, [], ◌∷◌, ◌++◌, Option, Some, None, Result, Ok, Err, bytes_eq, codes, unwrap_or}
use Rattle.std.specs.List.{list_any}
use Rattle.eo_base.specs.declared.FaultName.{FaultName}
use Rattle.eo_base.specs.declared.FaultName.TheVariants.{BadPath, IncludeDepth, FileAbsent}
use Rattle.eo_base.specs.Checks.{Checked}
use Rattle.eo_base.specs.Limits.{limits}
use Rattle.eo_io.specs.Library.{Files, file_at}
use Rattle.eo_io.specs.Paths.{fold_path, with_path}
use Rattle.eo_sexp.specs.Spot.{Spot}
use Rattle.eo_proof.specs.Scopes.{depth}
use Rattle.eo_sexp.specs.Texts.{Placed, Reads, Then, Ends, Fails, first_spot, reads_file}
use Rattle.eo_session.specs.State.{State, first_state, begin_reference}
use Rattle.eo_session.specs.Commands.{step}
use Rattle.eo_session.specs.Step.{is_in_reference}
use Rattle.eo_run.specs.Seen.{Seen, noted}
use Rattle.eo_run.specs.Verdict.{Refusal}
use Rattle.eo_session.specs.Origin.{Origin}
use Rattle.eo_session.specs.Origin as origin
use Rattle.eo_run.specs.declared.CheckJob.{CheckJob}
use Rattle.eo_session.specs.declared.Next.{Next}
use Rattle.eo_session.specs.declared.Next.TheVariants as next

-- a file that the job names is at depth 0, and one that it includes at depth 1
abbrev pub include_limit : ℕ
include_limit = 16

-- How far a run is: which files were included, which were opened besides the proof, and which commands were accepted, the first of each in front.
pub record Progress : Type 0 where
  pub state : State
  pub included : List (List ℕ)
  pub opened : List (List ℕ)
  pub seen : List Seen

-- an accepted command, which is the next one
abbrev pub seen_next : Progress → List ℕ → Origin → Placed → Seen
seen_next p path from c = record {
  bytes = c.bytes;
  file = path;
  start = c.start;
  number = p.state.commands;
  from_reference = is_in_reference from;
  depth = depth p.state.scopes;
  act = noted p.state from c.sexp;
}

abbrev pub with_command : Progress → Seen → State → Progress
with_command p seen st = record p { state = st; seen = p.seen ++ seen ∷ [] }

abbrev pub with_opened : Progress → List ℕ → Progress
with_opened p path = record p { opened = with_path p.opened path }

-- Why a run stops before its end, and which commands were accepted before.
pub record Stopped : Type 0 where
  pub refusal : Refusal
  pub seen : List Seen

abbrev pub Ran : Type 0
Ran = Result Progress Stopped

infixl 10 ◌>>=◌
unfoldable pub ◌>>=◌ : {A B : Type 0} → Result A Stopped → (A → Result B Stopped) → Result B Stopped
(Ok p) >>= f = f p
(Err stopped) >>= f = Err stopped

-- the commands that were accepted in a run, also where it is refused
abbrev pub seen_in : Ran → List Seen
seen_in (Ok p) = p.seen
seen_in (Err stopped) = stopped.seen

-- ---- places

abbrev pub refusal_at : List ℕ → Spot → FaultName → Refusal
refusal_at path at name = record { name = name; file = path; line = at.line; offset = at.offset }

abbrev pub stopped_at : Progress → List ℕ → Spot → FaultName → Stopped
stopped_at p path at name = record { refusal = refusal_at path at name; seen = p.seen }

unfoldable pub placed : {A : Type 0} → Progress → List ℕ → Spot → Checked A → Result A Stopped
placed p path at (Ok x) = Ok x
placed p path at (Err name) = Err (stopped_at p path at name)

-- the value, or a fault at a place
unfoldable pub or_fault : {A : Type 0} → Progress → List ℕ → Spot → FaultName → Option A → Result A Stopped
or_fault p path at name (Some x) = Ok x
or_fault p path at name None = Err (stopped_at p path at name)

-- ---- the commands of a file

-- The bytes of a file count up to the limit, after which it is too long.
abbrev pub commands_of : (proof : Bool) → List ℕ → Reads
commands_of proof bytes = reads_file limits proof bytes

-- What is done after a command: the path of its file, its origin and its place, and what it asks for.
abbrev pub Opener : Type 0
Opener = List ℕ → Origin → Spot → Next → Progress → Ran

-- nothing of the file is read after this
abbrev pub is_exit : Next → Bool
is_exit next.Done = false
is_exit (next.Include path) = false
is_exit (next.Reference path) = false
is_exit next.Exit = true

-- The commands of a file in order. A lexical fault counts once every command before it is accepted.
unfoldable pub run_commands : Opener → List ℕ → Origin → Reads → Progress → Ran
run_commands opener path from (Ends at) p = Ok p
run_commands opener path from (Fails name at) p = Err (stopped_at p path at name)
run_commands opener path from (Then c others) p = do
  r ← placed p path c.start (step p.state from c.sexp)
  q ← opener path from c.start r.1 (with_command p (seen_next p path from c) r.0)
  if is_exit r.1 then Ok q else run_commands opener path from others q

-- ---- files

-- what runs a file: its path, its origin and its bytes
abbrev pub Runner : Type 0
Runner = List ℕ → Origin → List ℕ → Progress → Ran

-- a file counts as included once it is opened
abbrev pub with_included : Progress → List ℕ → Progress
with_included p path = record (with_opened p path) { included = with_path p.included path }

-- a reference file opens no other
abbrev pub open_nothing : Opener
open_nothing path from at what p = Ok p

unfoldable pub run_reference : (path bytes : List ℕ) → Progress → Ran
run_reference path bytes p = run_commands open_nothing path origin.Reference (commands_of false bytes) p

-- the path of a file of the job as it is shown: folded, or as it was given where it is bad
abbrev pub shown : List ℕ → List ℕ
shown name = unwrap_or (fold_path [] name) name

abbrev pub with_option : List (List ℕ) → Option (List ℕ) → List (List ℕ)
with_option paths None = paths
with_option paths (Some path) = with_path paths path

abbrev pub with_folded : List (List ℕ) → Option (List ℕ) → List (List ℕ)
with_folded paths None = paths
with_folded paths (Some name) = with_option paths (fold_path [] name)

-- The include file and the proof count as included from the start.
abbrev pub first_progress : CheckJob → Progress
first_progress job = record { state = first_state job.closed; included = with_folded (with_folded [] job.include) (Some job.proof); opened = []; seen = [] }

-- the path of a prelude
abbrev pub prelude_path : List ℕ
prelude_path = codes "cpc.eo"

abbrev pub first_load : List ℕ → Progress
first_load name = record { state = first_state false; included = with_folded [] (Some name); opened = []; seen = [] }

abbrev pub if_given : (List ℕ → Progress → Ran) → Option (List ℕ) → Progress → Ran
if_given run None p = Ok p
if_given run (Some name) p = run name p

module _ (files : Files) where
  -- A file that is included already is not read again. `deeper` runs a file that may still be included.
  unfoldable pub include_file : Option Runner → List ℕ → Origin → Spot → List ℕ → Progress → Ran
  include_file deeper path from at file p =
      if list_any (bytes_eq file) p.included then Ok p else (do
        run ← or_fault p path at IncludeDepth deeper
        bytes ← or_fault p path at FileAbsent (file_at files file)
        run file from bytes (with_included p file)
      )

  unfoldable pub refer_to_file : List ℕ → Spot → List ℕ → Progress → Ran
  refer_to_file path at file p = do
    st ← placed p path at (begin_reference p.state)
    bytes ← or_fault p path at FileAbsent (file_at files file)
    run_reference file bytes (record (with_opened p file) { state = st })

  -- A path is looked for beside the file that names it.
  unfoldable pub open_file : Option Runner → Opener
  open_file deeper path from at next.Done p = Ok p
  open_file deeper path from at (next.Include name) p = do
    file ← or_fault p path at BadPath (fold_path path name)
    include_file deeper path from at file p
  open_file deeper path from at (next.Reference name) p = do
    file ← or_fault p path at BadPath (fold_path path name)
    refer_to_file path at file p
  open_file deeper path from at next.Exit p = Ok p

  -- the commands of a file, with those of the files that it opens; only the proof itself may be wrapped
  unfoldable pub run_file : Option Runner → (proof : Bool) → Runner
  run_file deeper proof path from bytes p = run_commands (open_file deeper) path from (commands_of proof bytes) p

  -- runs an included file, where so many more may be included one by the other
  unfoldable pub included_runner : (left : ℕ) → Option Runner
  included_runner zero = None
  included_runner (suc left) = Some (run_file (included_runner left) false)

  -- ---- the files of a job

  -- a file that the job names, which is refused at its start where its path is bad or it is absent
  unfoldable pub job_file : Progress → List ℕ → Result (List ℕ × List ℕ) Stopped
  job_file p name = do
    path ← or_fault p name first_spot BadPath (fold_path [] name)
    bytes ← or_fault p path first_spot FileAbsent (file_at files path)
    Ok (path, bytes)

  unfoldable pub run_signature : List ℕ → Progress → Ran
  run_signature name p = do
    file ← job_file p name
    run_file (included_runner include_limit) false file.0 origin.Signature file.1 (with_opened p file.0)

  unfoldable pub run_proof : List ℕ → Progress → Ran
  run_proof name p = do
    file ← job_file p name
    run_file (included_runner include_limit) true file.0 origin.Proof file.1 p

  unfoldable pub run_job_reference : List ℕ → Progress → Ran
  run_job_reference name p = do
    st ← placed p (shown name) first_spot (begin_reference p.state)
    file ← job_file p name
    run_reference file.0 file.1 (record (with_opened p file.0) { state = st })

  -- A prelude is the text of a signature. Its commands are run as those of a signature file of this path, which counts as included and is opened by no call.
  unfoldable pub run_prelude : (prelude : Option (List ℕ)) → Progress → Ran
  run_prelude None p = Ok p
  run_prelude (Some bytes) p =
      run_file (included_runner include_limit) false prelude_path origin.Signature bytes (record p { included = with_path p.included prelude_path })

  -- the prelude, the include file, and then the reference file
  unfoldable pub before_proof_after : (prelude : Option (List ℕ)) → CheckJob → Ran
  before_proof_after prelude job = do
    first ← run_prelude prelude (first_progress job)
    p ← if_given run_signature job.include first
    if_given run_job_reference job.reference p

  -- and then the proof
  unfoldable pub run_check_after : (prelude : Option (List ℕ)) → CheckJob → Ran
  run_check_after prelude job = do
    p ← before_proof_after prelude job
    run_proof job.proof p

  -- without a prelude
  unfoldable pub before_proof : CheckJob → Ran
  before_proof job = before_proof_after None job

  unfoldable pub run_check : CheckJob → Ran
  run_check job = run_check_after None job

  -- a signature file alone
  unfoldable pub run_load : List ℕ → Ran
  run_load name = run_signature name (first_load name)
