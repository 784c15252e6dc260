-- What a recorder has seen of a run.
use Rattle.std.specs.Prelude.{◌≡◌, ℕ, List, []}
use Rattle.eo_session.specs.Notes.{Seen}
use Rattle.eo_trim.specs.Entries.{entries_from, scopes_from}
use Rattle.eo_trim.specs.declared.recording.Recorder.{Recorder}

-- the number of the proof's path
abbrev pub first_path : ℕ
first_path = 0

pub record Records (r : Recorder) (seen : List Seen) : Type 0 where
  pub entries : r.entries ≡ entries_from first_path [] seen
  pub scopes : r.scopes.items ≡ scopes_from first_path [] seen
