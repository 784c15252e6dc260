-- What the reading of a file does to a run.
use Rattle.std.specs.Prelude.{◌≡◌, ◌≢◌, ℕ, ◌+◌, ◌≤◌, ◌<◌, Bool, true, false, List, [], ◌∷◌, ◌++◌, length, drop, if◌then◌else◌, Option, Some, None, Result, Ok, Err, ⊤}
use Rattle.eo_base.specs.declared.FaultName.{FaultName}
use Rattle.eo_base.specs.declared.FaultName.TheVariants.{FileAbsent}
use Rattle.eo_base.specs.Limits.{limits}
use Rattle.eo_io.specs.Library.{Rest}
use Rattle.eo_sexp.specs.Spot.{Spot}
use Rattle.eo_sexp.specs.Texts.{Phase, Reads, Then, Ends, Placed}
use Rattle.eo_sexp.specs.Texts as texts
use Rattle.eo_sexp.specs.Collecting.{Collecting, AtCommand, here_of, IsLive}
use Rattle.eo_sexp.specs.Cutting.{IsWaiting, rest_of}
use Rattle.eo_sexp.specs.Answering.{end_of}
use Rattle.eo_session.specs.State.{State}
use Rattle.eo_session.specs.Commands.{step}
use Rattle.eo_session.specs.Notes as notes
use Rattle.eo_run.specs.Run.{Progress, Stopped, Opener, ◌>>=◌, is_exit, stopped_at, run_commands}
use Rattle.eo_run.specs.Watching.{note_next, passed, IsShown}
use Rattle.eo_session.specs.Origin.{Origin}
use Rattle.eo_session.specs.Origin as origin
use Rattle.eo_session.specs.declared.Next.{Next}
use Rattle.eo_session.specs.declared.Next.TheVariants as next
use Rattle.eo_run.specs.declared.reading.FileRequest.{FileRequest}
use Rattle.eo_run.specs.declared.reading.Stop.{Stop}
use Rattle.eo_run.specs.declared.reading.Stop.TheVariants as stop

-- How a file goes on, by whether it ends after the bytes that a file may have, and by those that are still to come.
abbrev pub Continuation : Type 0
Continuation = (closes : Bool) (more : List ℕ) → Reads

-- what a collector leaves to be read, where these bytes come first
abbrev pub behind : Collecting → List ℕ → Continuation
behind c piece closes more = rest_of limits closes c (piece ++ more)

abbrev pub at_end : Collecting → Continuation
at_end c closes more = rest_of limits true c []

-- how many commands come
abbrev pub count_of : Reads → ℕ
count_of (Then k others) = count_of others + 1
count_of (Ends at) = 0
count_of (texts.Fails name at) = 0

-- ---- runs of a file that lead on

module _ (opener : Opener) (path : List ℕ) (from : Origin) where
  -- The run of r from the old progress is the run of s from the new one, and both end at one place.
  pub record Leads (old new : Progress) (r s : Continuation) : Type 0 where
    pub runs : (closes : Bool) (more : List ℕ) → run_commands opener path from (r closes more) old ≡ run_commands opener path from (s closes more) new
    pub ends : (closes : Bool) (more : List ℕ) → end_of (r closes more) ≡ end_of (s closes more)

  -- The run of r comes to a command that asks for something, and goes on as the run of s, unless the command ends the file: then it is a reference file.
  pub record Asks (old new : Progress) (r s : Continuation) (what : Next) (at : Spot) : Type 0 where
    pub runs : (closes : Bool) (more : List ℕ) → run_commands opener path from (r closes more) old ≡ (opener path from at what new >>= λ p. if is_exit what then Ok p else run_commands opener path from (s closes more) p)
    pub ends : (closes : Bool) (more : List ℕ) → end_of (r closes more) ≡ end_of (s closes more)
    pub leaves : is_exit what ≡ true → from ≡ origin.Reference

  -- The run of r comes to its end.
  pub record Finishes (old new : Progress) (r : Continuation) : Type 0 where
    pub runs : (closes : Bool) (more : List ℕ) → run_commands opener path from (r closes more) old ≡ Ok new

  -- The run of r is refused.
  pub record Fails (old : Progress) (r : Continuation) (stopped : Stopped) : Type 0 where
    pub fails : (closes : Bool) (more : List ℕ) → run_commands opener path from (r closes more) old ≡ Err stopped

-- ---- whatever files a command may open

-- nothing is done where nothing is asked for
abbrev pub IsOpener : Opener → Type 0
IsOpener opener = (path : List ℕ) (from : Origin) (at : Spot) (p : Progress) → opener path from at next.Done p ≡ Ok p

abbrev pub in_state : Progress → State → Progress
in_state p st = record p { state = st }

abbrev pub EachRun : (Opener → List ℕ → Progress → Type 0) → Type 0
EachRun P = (opener : Opener) → IsOpener opener → (path : List ℕ) (p : Progress) → P opener path p

-- from one state to the next, where these commands are accepted
module _ (from : Origin) (old : State) (r : Continuation) (ms : List notes.Seen) where
  abbrev pub LeadsOn : (new : State) → Continuation → Type 0
  LeadsOn new s = EachRun (λ opener path p. Leads opener path from (in_state p old) (passed p path new ms) r s)

  abbrev pub AsksFor : (new : State) → Continuation → Next → Spot → Type 0
  AsksFor new s what at = EachRun (λ opener path p. Asks opener path from (in_state p old) (passed p path new ms) r s what at)

  abbrev pub FailsAt : FaultName → Spot → Type 0
  FailsAt name at = EachRun (λ opener path p. Fails opener path from (in_state p old) r (stopped_at (passed p path old ms) path at name))

-- ---- what stops

-- The library did not fail, and a file that is there is not called absent.
abbrev pub IsOfText : {A : Type 0} → Result A Stop → Type 0
IsOfText (Ok x) = ⊤
IsOfText (Err (stop.Fault name at)) = name ≢ FileAbsent
IsOfText (Err stop.ReadFault) = ⊥
IsOfText (Err stop.Memory) = ⊤

-- ---- libraries

-- what is known of the files stays, the same files are open, and faults are counted on
pub record LibraryStays {S F : Type 0} (told : S → Option F) (open_files : S → List Rest) (faults : S → ℕ) (old new : S) : Type 0 where
  pub same : told new ≡ told old
  pub closed : open_files new ≡ open_files old
  pub later : faults old ≤ faults new

-- These bytes of the file opened last were read, and its rest is left. The other open files are as before.
abbrev pub Passes : List Rest → List ℕ → List Rest → Type 0
Passes [] bytes after = ⊥
Passes (None ∷ others) bytes after = (rest : Rest) × (after ≡ rest ∷ others)
Passes (Some file ∷ others) bytes after = (rest : List ℕ) × (file ≡ bytes ++ rest) × (after ≡ Some rest ∷ others)

-- the file opened last is still open, as are the others
abbrev pub StaysOpen : List Rest → List Rest → Type 0
StaysOpen [] after = ⊥
StaysOpen (rest ∷ others) after = (left : Rest) × (after ≡ left ∷ others)

-- What a library keeps while the file opened last is read.
pub record LibraryReads {S F : Type 0} (told : S → Option F) (open_files : S → List Rest) (faults : S → ℕ) (old new : S) : Type 0 where
  pub same : told new ≡ told old
  pub stays : StaysOpen (open_files old) (open_files new)
  pub later : faults old ≤ faults new

-- ---- a command

-- The command is checked.
abbrev pub ChecksCommand : Origin → Result Next Stop → (old new : State) → Placed → Type 0
ChecksCommand from (Ok what) old new k = step old from k.sexp ≡ Ok (new, what)
ChecksCommand from (Err (stop.Fault name at)) old new k = (step old from k.sexp ≡ Err name) × (at ≡ k.start)
ChecksCommand from (Err stop.ReadFault) old new k = ⊤
ChecksCommand from (Err stop.Memory) old new k = ⊤

-- An observer is shown it where it is accepted.
abbrev pub ShowsCommand : {O : Type 0} → (O → List notes.Seen → Type 0) → (before after : O) → Origin → (file : ℕ) → Result Next Stop → State → Placed → Type 0
ShowsCommand tells before after from file (Ok what) st k = IsShown tells before after file (note_next st from file k ∷ [])
ShowsCommand tells before after from file (Err (stop.Fault name at)) st k = IsShown tells before after file []
ShowsCommand tells before after from file (Err stop.ReadFault) st k = ⊤
ShowsCommand tells before after from file (Err stop.Memory) st k = ⊤

-- the same of the last command of a collector
abbrev pub ChecksLast : Origin → Result Next Stop → (old new : State) → Collecting → Type 0
ChecksLast from result old new c = (k : Placed) (phase : Phase) → c ≡ AtCommand k phase → ChecksCommand from result old new k

abbrev pub ShowsLast : {O : Type 0} → (O → List notes.Seen → Type 0) → (before after : O) → Origin → (file : ℕ) → Result Next Stop → State → Collecting → Type 0
ShowsLast tells before after from file result st c =
    (k : Placed) (phase : Phase) → c ≡ AtCommand k phase → ShowsCommand tells before after from file result st k

-- ---- a piece, up to a command that asks for something

-- of the commands that are shown
module _ (from : Origin) (Shown : List notes.Seen → Type 0) (old new : State) where
  pub record IsFed (c d : Collecting) (piece : List ℕ) : Type 0 where
    pub passes : List notes.Seen
    pub shown : Shown passes
    pub leads : LeadsOn from old (behind c piece) passes new (behind d [])
    pub live : IsLive d
    pub waiting : IsWaiting limits d
    pub here : (here_of d).offset ≤ (here_of c).offset + length piece

  pub record IsAsked (c d : Collecting) (piece : List ℕ) (a : FileRequest) : Type 0 where
    pub passes : List notes.Seen
    pub shown : Shown passes
    pub size : a.used ≤ length piece
    pub asks : AsksFor from old (behind c piece) passes new (behind d (drop a.used piece)) a.next a.at
    pub live : IsLive d
    pub waiting : IsWaiting limits d
    pub here : (here_of d).offset + length (drop a.used piece) ≤ (here_of c).offset + length piece
    pub fewer : count_of (behind d (drop a.used piece) false []) < count_of (behind c piece false [])

  pub record IsRefused (r : Continuation) (name : FaultName) (at : Spot) : Type 0 where
    pub passes : List notes.Seen
    pub shown : Shown passes
    pub fails : FailsAt from old r passes name at

  -- the end

  pub record IsAskedAtEnd (c d : Collecting) (a : FileRequest) : Type 0 where
    pub passes : List notes.Seen
    pub shown : Shown passes
    pub asks : AsksFor from old (at_end c) passes new (at_end d) a.next a.at
    pub live : IsLive d
    pub waiting : IsWaiting limits d
    pub fewer : count_of (at_end d true []) < count_of (at_end c true [])

  -- the file is read to its end
  pub record IsEnded (c d : Collecting) : Type 0 where
    pub passes : List notes.Seen
    pub shown : Shown passes
    pub leads : LeadsOn from old (at_end c) passes new (λ closes more. Ends (here_of d))
    pub live : IsLive d

-- A piece is fed to a collector, and each command that it makes whole is checked, up to one that asks for something.
abbrev pub ChecksPiece : Origin → (List notes.Seen → Type 0) → Result (Option FileRequest) Stop → (old new : State) → (c d : Collecting) → List ℕ → Type 0
ChecksPiece from Shown (Ok None) old new c d piece = IsFed from Shown old new c d piece
ChecksPiece from Shown (Ok (Some a)) old new c d piece = IsAsked from Shown old new c d piece a
ChecksPiece from Shown (Err (stop.Fault name at)) old new c d piece = IsRefused from Shown old new (behind c piece) name at
ChecksPiece from Shown (Err stop.ReadFault) old new c d piece = ⊤
ChecksPiece from Shown (Err stop.Memory) old new c d piece = ⊤

-- The file has ended, but for the commands that its end makes whole.
abbrev pub ChecksEnd : Origin → (List notes.Seen → Type 0) → Result (Option FileRequest) Stop → (old new : State) → (c d : Collecting) → Type 0
ChecksEnd from Shown (Ok None) old new c d = IsEnded from Shown old new c d
ChecksEnd from Shown (Ok (Some a)) old new c d = IsAskedAtEnd from Shown old new c d a
ChecksEnd from Shown (Err (stop.Fault name at)) old new c d = IsRefused from Shown old new (at_end c) name at
ChecksEnd from Shown (Err stop.ReadFault) old new c d = ⊤
ChecksEnd from Shown (Err stop.Memory) old new c d = ⊤
