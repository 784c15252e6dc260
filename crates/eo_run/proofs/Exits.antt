-- The exits of the functions that read a file.
use Rattle.std.proofs.lemmas.List.Elements.{All-nil, All-cons}
use Rattle.std.proofs.Common.{◌≡◌, refl, append-nil, ◌≤◌, ◌<◌, ◌+◌, sym, ap, ◌∙◌, subst, Bool, true, false, List, [], ◌∷◌, ◌++◌, ℕ, length, drop}
use Rattle.std.specs.Prelude.{Result, Ok, Err}
use Rattle.eo_base.specs.Checks.{Checked}
use Rattle.eo_base.specs.declared.FaultName.{FaultName}
use Rattle.eo_base.specs.declared.Place.{Place}
use Rattle.eo_base.specs.Limits.{limits}
use Rattle.eo_sexp.specs.Spot.{Spot}
use Rattle.eo_sexp.specs.Texts.{Then, Placed}
use Rattle.eo_sexp.specs.Collecting.{Collecting, AtCommand, Holds, IsLive, here_of, start_of, bytes_of}
use Rattle.eo_sexp.specs.Sexp.{Sexp}
use Rattle.eo_sexp.specs.Cutting.{IsWaiting}
use Rattle.eo_session.specs.State.{State}
use Rattle.eo_session.specs.Commands.{step}
use Rattle.eo_session.specs.Decisions.{AreDecidedPlaced}
use Rattle.eo_session.specs.Noting.{UnlessMemory}
use Rattle.eo_session.specs.Stepping.{Standing, StepsTo}
use Rattle.eo_session.specs.declared.Next.{Next}
use Rattle.eo_session.specs.declared.refused.Refused.{Refused}
use Rattle.eo_session.specs.declared.refused.Refused.TheVariants as refused
use Rattle.eo_session.specs.Notes as notes
use Rattle.eo_run.specs.Reading.{Continuation, count_of, behind, at_end, LeadsOn, AsksFor, FailsAt, ChecksCommand, ShowsCommand, ChecksLast, ShowsLast, ChecksPiece, ChecksEnd, IsAsked, IsAskedAtEnd}
use Rattle.eo_run.specs.Watching.{note_next, IsShown}
use Rattle.eo_run.proofs.Watched.{shown-next, shown-trans}
use Rattle.eo_run.specs.declared.reading.FileRequest.{FileRequest}
use Rattle.eo_run.specs.declared.reading.Stop.{Stop}
use Rattle.eo_run.specs.declared.reading.Stop.TheVariants as stop
use Rattle.eo_run.proofs.Running.{on-fails, on-asks, command-fails, command-asks}
use Rattle.eo_session.specs.Origin.{Origin}

-- a command that is refused, at its first byte
pub fault-steps : (x : Refused) (name : FaultName) (m : Checked (State × Next)) (old new : Standing) → x ≡ refused.Fault name → StepsTo (Err x) m old new → m ≡ Err name
fault-steps x name m old new e h = (subst (λ (y : Refused). StepsTo (Err y) m old new) e h).1

pub refused-last : (from : Origin) (old new : State) (c : Collecting) (s : Sexp) (name : FaultName) (at : Spot) → Holds c s → step old from s ≡ Err name → (IsLive c → at ≡ start_of c) → ChecksLast from (Err (stop.Fault name at)) old new c
refused-last from old new c s name at h e starts = λ k phase is.
    let both : AtCommand k phase ≡ AtCommand h.0 h.1 = sym is ∙ h.2 in
    let same : k ≡ h.0 = cc in
    (ap (step old from) (ap (λ (p : Placed). p.sexp) same ∙ sym h.3) ∙ e, starts (subst (λ (d : Collecting). IsLive d) (sym is) tt) ∙ ap start_of is)

-- ---- what an observer is shown of the last command of a collector

-- nothing, of one that represents every list
module _ {O : Type 0} (tells : O → List notes.Seen → Type 0) (observer : O) (from : Origin) (file : ℕ) (all : (l : List notes.Seen) → tells observer l) (st : State) where
  pub shows-all : (c : Collecting) (result : Result Next Stop) → ShowsLast tells observer observer from file result st c
  shows-all c (Ok what) = λ k phase is.
      let P = λ (m : notes.Seen). m.place.file ≡ file in
      record { sees = λ l t. all (l ++ note_next st from file k ∷ []); here = All-cons P (note_next st from file k) [] refl (All-nil P) }
  shows-all c (Err (stop.Fault name at)) = λ k phase is. record { sees = λ l t. all (l ++ []); here = All-nil (λ (m : notes.Seen). m.place.file ≡ file) }
  shows-all c (Err stop.ReadFault) = λ k phase is. tt
  shows-all c (Err stop.Memory) = λ k phase is. tt

module _ {O : Type 0} (tells : O → List notes.Seen → Type 0) (before after : O) (from : Origin) (file : ℕ) where
  pub shows-last : AreDecidedPlaced → (what : Next) (st new : State) (c : Collecting) (s : Sexp) (bytes : List ℕ) (at : Spot) (place : Place) → place ≡ record { file = file; line = at.line; offset = at.offset } → Holds c s → bytes ≡ bytes_of c → (IsLive c → at ≡ start_of c) → step st from s ≡ Ok (new, what)
      → ((l : List notes.Seen) → tells before l → tells after (l ++ notes.shown st from bytes place s)) → ShowsLast tells before after from file (Ok what) st c
  shows-last decided what st new c s bytes at place p h b starts e sees = λ k phase is.
      let both : AtCommand k phase ≡ AtCommand h.0 h.1 = sym is ∙ h.2 in
      let same : k ≡ h.0 = cc in
      let reads : s ≡ k.sexp = h.3 ∙ ap (λ (p : Placed). p.sexp) (sym same) in
      let begins : at ≡ k.start = starts (subst (λ (d : Collecting). IsLive d) (sym is) tt) ∙ ap start_of is in
      let holds : bytes ≡ k.bytes = b ∙ ap bytes_of is in
      let shown : notes.shown st from bytes place s ≡ note_next st from file k ∷ [] =
      ap (λ (x : Place). notes.shown st from bytes x s) p
      ∙ (λ i. notes.shown st from (holds i) (record { file = file; line = (begins i).line; offset = (begins i).offset }) (reads i))
      ∙ shown-next decided st from file k (new, what) (ap (step st from) (sym reads) ∙ e) in
      let P = λ (m : notes.Seen). m.place.file ≡ file in
      record {
        sees = λ l t. subst (λ (x : List notes.Seen). tells after (l ++ x)) shown (sees l t);
        here = All-cons P (note_next st from file k) [] refl (All-nil P);
      }

  -- nothing of one that is refused
  pub hides-last : (x : Refused) (name : FaultName) (at : Spot) (st : State) (c : Collecting) → x ≡ refused.Fault name → UnlessMemory x ((l : List notes.Seen) → tells before l → tells after l) → ShowsLast tells before after from file (Err (stop.Fault name at)) st c
  hides-last x name at st c e h = λ k phase is.
      let unseen = subst (λ (y : Refused). UnlessMemory y ((l : List notes.Seen) → tells before l → tells after l)) e h in
      record { sees = λ l t. subst (tells after) (sym (append-nil l)) (unseen l t); here = All-nil (λ (m : notes.Seen). m.place.file ≡ file) }

-- What was shown before, and what this command shows.
module _ {O : Type 0} (tells : O → List notes.Seen → Type 0) (first before after : O) (from : Origin) (file : ℕ) (ms : List notes.Seen) (shown : IsShown tells first before file ms) where
  abbrev Shown : List notes.Seen → Type 0
  Shown = IsShown tells first after file

  module _ (old st new : State) (r t s : Continuation) (k : Placed) (leads : LeadsOn from old r ms st t) (gives : (closes : Bool) (more : List ℕ) → t closes more ≡ Then k (s closes more)) where
    -- a refused command refuses the run
    refused-fails : (name : FaultName) (at : Spot) → ChecksCommand from (Err (stop.Fault name at)) st new k → FailsAt from old r (ms ++ []) name at
    refused-fails name at h = subst (λ (p : Spot). FailsAt from old r (ms ++ []) name p) (sym h.1) (on-fails from old st r t ms [] name k.start leads (command-fails from st t s k file gives name h.0))

    -- a command that asks for a file
    asked : (a : FileRequest) → step st from k.sexp ≡ Ok (new, a.next) → a.at ≡ k.start → AsksFor from old r (ms ++ note_next st from file k ∷ []) new s a.next a.at
    asked a h at =
        on-asks from old st new r t s ms (note_next st from file k ∷ []) a.next a.at leads
        (subst (λ (p : Spot). AsksFor from st t (note_next st from file k ∷ []) new s a.next p) (sym at) (command-asks from st t s k file gives new a.next h))

  module _ (old st new : State) (c d : Collecting) (s : Continuation) (k : Placed) (leads : LeadsOn from old (at_end c) ms st (at_end d)) (gives : (closes : Bool) (more : List ℕ) → at_end d closes more ≡ Then k (s closes more)) where
    pub refused-end : (x : Stop) (e : Collecting) → ChecksCommand from (Err x) st new k → ShowsCommand tells before after from file (Err x) st k → ChecksEnd from Shown (Err x) old new c e
    refused-end (stop.Fault name at) e h shows =
        record { passes = ms ++ []; shown = shown-trans tells file first before after ms [] shown shows; fails = refused-fails old st new (at_end c) (at_end d) s k leads gives name at h }
    refused-end stop.ReadFault e h shows = tt
    refused-end stop.Memory e h shows = tt

  pub asked-end : (old st new : State) (c d e : Collecting) (k : Placed) (a : FileRequest) → LeadsOn from old (at_end c) ms st (at_end d) → ((closes : Bool) (more : List ℕ) → at_end d closes more ≡ Then k (at_end e closes more)) →
      IsLive e → IsWaiting limits e → count_of (at_end e true []) < count_of (at_end c true []) → step st from k.sexp ≡ Ok (new, a.next) → a.at ≡ k.start → IsShown tells before after file (note_next st from file k ∷ []) → IsAskedAtEnd from Shown old new c e a
  asked-end old st new c d e k a leads gives live waiting fewer h at shows = record {
    passes = ms ++ note_next st from file k ∷ [];
    shown = shown-trans tells file first before after ms (note_next st from file k ∷ []) shown shows;
    asks = asked old st new (at_end c) (at_end d) (at_end e) k leads gives a h at;
    live = live;
    waiting = waiting;
    fewer = fewer;
  }

  -- ---- a piece, of which q is still to be fed

  module _ (old st new : State) (c d : Collecting) (p q : List ℕ) (s : Continuation) (k : Placed) (leads : LeadsOn from old (behind c p) ms st (behind d q)) (gives : (closes : Bool) (more : List ℕ) → behind d q closes more ≡ Then k (s closes more)) where
    pub refused-piece : (x : Stop) (e : Collecting) → ChecksCommand from (Err x) st new k → ShowsCommand tells before after from file (Err x) st k → ChecksPiece from Shown (Err x) old new c e p
    refused-piece (stop.Fault name at) e h shows =
        record { passes = ms ++ []; shown = shown-trans tells file first before after ms [] shown shows; fails = refused-fails old st new (behind c p) (behind d q) s k leads gives name at h }
    refused-piece stop.ReadFault e h shows = tt
    refused-piece stop.Memory e h shows = tt

  pub asked-piece : (old st new : State) (c d e : Collecting) (p q rest : List ℕ) (k : Placed) (a : FileRequest) → LeadsOn from old (behind c p) ms st (behind d q) → ((closes : Bool) (more : List ℕ) → behind d q closes more ≡ Then k (behind e rest closes more)) →
      drop a.used p ≡ rest → a.used ≤ length p → IsLive e → IsWaiting limits e → (here_of e).offset + length rest ≤ (here_of c).offset + length p → count_of (behind e rest false []) < count_of (behind c p false []) → step st from k.sexp ≡ Ok (new, a.next) → a.at ≡ k.start →
      IsShown tells before after file (note_next st from file k ∷ []) → IsAsked from Shown old new c e p a
  asked-piece old st new c d e p q rest k a leads gives tail size live waiting here fewer h at shows = record {
    passes = ms ++ note_next st from file k ∷ [];
    shown = shown-trans tells file first before after ms (note_next st from file k ∷ []) shown shows;
    size = size;
    asks = subst (λ (x : List ℕ). AsksFor from old (behind c p) (ms ++ note_next st from file k ∷ []) new (behind e x) a.next a.at) (sym tail) (asked old st new (behind c p) (behind d q) (behind e rest) k leads gives a h at);
    live = live;
    waiting = waiting;
    here = subst (λ (x : List ℕ). (here_of e).offset + length x ≤ (here_of c).offset + length p) (sym tail) here;
    fewer = subst (λ (x : List ℕ). count_of (behind e x false []) < count_of (behind c p false [])) (sym tail) fewer;
  }
