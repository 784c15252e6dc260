-- What a recorder has seen, with one more command.
use Rattle.std.proofs.Common.{◌≡◌, List, [], ◌∷◌, ◌++◌, sym, ap, ap₂, ◌∙◌}
use Rattle.std.specs.Prelude.{Result, Ok, Err, OnOk}
use Rattle.eo_session.specs.Notes.{Seen}
use Rattle.eo_trim.specs.Entries.{Entry, entry_of, scopes_past, entries_from, scopes_from}
use Rattle.eo_trim.specs.Recording.{first_path, Records}
use Rattle.eo_trim.specs.declared.entries.OpenScope.{OpenScope}
use Rattle.eo_trim.specs.declared.recording.Recorder.{Recorder}
use Rattle.eo_trim.proofs.EntryLaws.{entries-next, scopes-next}

pub records-next : (old new : Recorder) (seen : List Seen) (c : Seen) → Records old seen
    → new.entries ≡ old.entries ++ entry_of first_path old.scopes.items c ∷ []
    → new.scopes.items ≡ scopes_past first_path old.scopes.items c
    → Records new (seen ++ c ∷ [])
records-next old new seen c h e s = record {
  entries =
      e ∙ ap₂ (λ (es : List Entry) (ss : List OpenScope). es ++ entry_of first_path ss c ∷ []) h.entries h.scopes
      ∙ sym (entries-next first_path [] seen c);
  scopes =
      s ∙ ap (λ (ss : List OpenScope). scopes_past first_path ss c) h.scopes
      ∙ sym (scopes-next first_path [] seen c);
}

pub both-ok : {A E : Type 0} (r : Result A E) (P Q R : Type 0) → (P → Q → R) → OnOk r P → OnOk r Q → OnOk r R
both-ok (Ok x) P Q R f p q = f p q
both-ok (Err e) P Q R f p q = tt

-- nothing yet
pub records-none : (r : Recorder) → r.entries ≡ [] → r.scopes.items ≡ [] → Records r []
unfolding entries_from scopes_from
records-none r e s = record { entries = e; scopes = s }
