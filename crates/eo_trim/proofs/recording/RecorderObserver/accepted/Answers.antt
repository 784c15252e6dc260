use Rattle.std.proofs.Common.{List, ◌∷◌, [], ◌≡◌, ◌++◌}
use Rattle.eo_session.specs.Notes.{Seen}
use Rattle.eo_session.specs.Noting.{read_note}
use Rattle.eo_term.specs.Terms.{Terms}
use Rattle.eo_trim.specs.Entries.{entry_of, scopes_past}
use Rattle.eo_trim.specs.Recording.{first_path, Records}
use Rattle.eo_trim.proofs.Records.{records-next, both-ok}
use Rattle.eo_trim.proofs.recording.RecorderObserver.accepted.Goals as goal

pub returns-clause-sees : goal.returns-clause-sees
returns-clause-sees c =
    let old = c.args.self.now in
    let new = c.record.new.self in
    let t = c.args.table.now in
    let bytes = c.args.bytes.now in
    let note = c.args.note.now in
    both-ok c.record.result
    ((t : Terms) → c.record.new.self.entries ≡ c.args.self.now.entries ++ entry_of first_path c.args.self.now.scopes.items (read_note t c.args.bytes.now c.args.note.now) ∷ [])
    ((t : Terms) → c.record.new.self.scopes.items ≡ scopes_past first_path c.args.self.now.scopes.items (read_note t c.args.bytes.now c.args.note.now))
    ((l : List Seen) → Records c.args.self.now l → Records c.record.new.self (l ++ read_note c.args.table.now c.args.bytes.now c.args.note.now ∷ []))
    (λ e s l h. records-next old new l (read_note t bytes note) h (e t) (s t))
    c.record.ensures.entries c.record.ensures.scopes
