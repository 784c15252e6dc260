-- What an observer sees of a run.
use Rattle.std.specs.Prelude.{◌≡◌, ℕ, List, [], ◌∷◌, ◌++◌, map, Some, position, bytes_eq, All, ⊤}
use Rattle.eo_proof.specs.Scopes.{depth}
use Rattle.eo_session.specs.Notes as notes
use Rattle.eo_session.specs.Origin.{Origin}
use Rattle.eo_session.specs.State.{State}
use Rattle.eo_session.specs.Step.{is_in_reference}
use Rattle.eo_sexp.specs.Texts.{Placed}
use Rattle.eo_run.specs.Run.{Progress}
use Rattle.eo_run.specs.Seen.{Seen, noted}

-- ---- commands of one file

-- an accepted command of the file with this number
abbrev pub note_next : State → Origin → (file : ℕ) → Placed → notes.Seen
note_next st from file c = record {
  bytes = c.bytes;
  place = record { file = file; line = c.start.line; offset = c.start.offset };
  number = st.commands;
  from_reference = is_in_reference from;
  depth = depth st.scopes;
  act = noted st from c.sexp;
}

-- as a run keeps it, by the path of its file
abbrev pub seen_as : List ℕ → notes.Seen → Seen
seen_as path m = record {
  bytes = m.bytes;
  file = path;
  start = record { line = m.place.line; offset = m.place.offset };
  number = m.number;
  from_reference = m.from_reference;
  depth = m.depth;
  act = m.act;
}

-- after these commands of the file with this path
abbrev pub passed : Progress → List ℕ → State → List notes.Seen → Progress
passed p path st ms = record p { state = st; seen = p.seen ++ map (seen_as path) ms }

-- ---- what is seen

-- an accepted command, whose place names the file by its number in the table of paths
pub record IsSeen (paths : List (List ℕ)) (m : notes.Seen) (k : Seen) : Type 0 where
  pub file : position (bytes_eq k.file) paths ≡ Some m.place.file
  pub same : seen_as k.file m ≡ k

abbrev pub AreSeen : List (List ℕ) → List notes.Seen → List Seen → Type 0
AreSeen paths [] [] = ⊤
AreSeen paths (m ∷ ms) (k ∷ ks) = IsSeen paths m k × AreSeen paths ms ks
AreSeen paths ms ks = ⊥

module _ {O : Type 0} (tells : O → List notes.Seen → Type 0) where
  -- the observer has seen these commands
  pub record Sees (observer : O) (paths : List (List ℕ)) (seen : List Seen) : Type 0 where
    pub seen_by : List notes.Seen
    pub told : tells observer seen_by
    pub are : AreSeen paths seen_by seen

  -- It is shown these commands, of the file with this number.
  pub record IsShown (old new : O) (file : ℕ) (ms : List notes.Seen) : Type 0 where
    pub sees : (l : List notes.Seen) → tells old l → tells new (l ++ ms)
    pub here : All (λ (m : notes.Seen). m.place.file ≡ file) ms
