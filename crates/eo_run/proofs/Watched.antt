-- What an observer sees of a run, call after call.
use Rattle.std.proofs.Common.{◌≡◌, refl, ℕ, suc, ◌+◌, ◌<◌, Bool, true, false, cond, not, List, [], ◌∷◌, ◌++◌, length, map, position, None, sym, ap, subst, ◌∙◌, All, append_assoc, append-nil, arith, nat_lt, lt-ltb, length-append}
use Rattle.std.specs.Prelude.{Ok, Some, bytes_eq}
use Rattle.std.specs.List.{position_or_len}
use Rattle.std.proofs.lemmas.Bool.{ltb-true}
use Rattle.std.proofs.lemmas.Option.{none-some}
use Rattle.std.proofs.lemmas.List.{map-append}
use Rattle.std.proofs.lemmas.List.Elements.{All-nil, All-append, All-head, All-tail}
use Rattle.eo_base.proofs.ChecksLemmas.{bind_ok}
use Rattle.eo_io.specs.Paths.{Extends}
use Rattle.eo_sexp.specs.Texts.{Placed}
use Rattle.eo_shape.specs.Shapes.{command_of}
use Rattle.eo_session.specs.Commands.{placed_command, uncounted, step}
use Rattle.eo_session.specs.Decisions.{AreDecidedPlaced, placed_decision}
use Rattle.eo_session.specs.Notes as notes
use Rattle.eo_session.specs.Origin.{Origin}
use Rattle.eo_session.specs.State.{State}
use Rattle.eo_session.specs.Step.{is_in_reference}
use Rattle.eo_session.specs.declared.Next.{Next}
use Rattle.eo_run.specs.Run.{Progress}
use Rattle.eo_run.specs.Seen.{Seen, act_by, act_decided, noted}
use Rattle.eo_run.specs.Watching.{note_next, seen_as, passed, AreSeen, Sees, IsShown}

-- ---- numbers of paths

module _ (p : List ℕ → Bool) where
  first-left : (xs ys : List (List ℕ)) → position_or_len p xs < length xs → position_or_len p (xs ++ ys) ≡ position_or_len p xs
  first-left [] ys h = absurd (omega (arith, h))
  first-left (x ∷ xs) ys h = by (p x) (λ g. first-left xs ys g) h
    where
      by : (b : Bool) → (position_or_len p xs < length xs → position_or_len p (xs ++ ys) ≡ position_or_len p xs) → cond (not b) (1 + position_or_len p xs) 0 < suc (length xs)
          → cond (not b) (1 + position_or_len p (xs ++ ys)) 0 ≡ cond (not b) (1 + position_or_len p xs) 0
      by true rest g = refl
      by false rest g = ap (λ n. 1 + n) (rest (omega (arith, g)))

  position-left : (xs ys : List (List ℕ)) (i : ℕ) → position p xs ≡ Some i → position p (xs ++ ys) ≡ Some i
  position-left xs ys i h = by (nat_lt at (length xs)) refl h
    where
      at : ℕ
      at = position_or_len p xs

      by : (b : Bool) → nat_lt at (length xs) ≡ b → cond b (Some at) None ≡ Some i → position p (xs ++ ys) ≡ Some i
      by true e g =
          let within : at < length xs = ltb-true at (length xs) e in
          let same = first-left xs ys within in
          let longer = lt-ltb at (length (xs ++ ys)) (omega (arith, within, length-append xs ys)) in
          (λ j. cond (nat_lt (same j) (length (xs ++ ys))) (Some (same j)) None) ∙ ap (λ b. cond b (Some at) None) longer ∙ g
      by false e g = absurd (none-some i g)

-- a path keeps its number
pub numbered-later : (old new : List (List ℕ)) (i : ℕ) (path : List ℕ) → Extends old new → position (bytes_eq path) old ≡ Some i → position (bytes_eq path) new ≡ Some i
numbered-later old new i path h e = subst (λ (ps : List (List ℕ)). position (bytes_eq path) ps ≡ Some i) (sym h.1) (position-left (bytes_eq path) old h.0 i e)

-- ---- commands of one file

-- what comes later is after it
logged : (path : List ℕ) (seen : List Seen) (ms ns : List notes.Seen) → (seen ++ map (seen_as path) ms) ++ map (seen_as path) ns ≡ seen ++ map (seen_as path) (ms ++ ns)
logged path seen ms ns = append_assoc seen (map (seen_as path) ms) (map (seen_as path) ns) ∙ ap (λ ks. seen ++ ks) (sym (map-append (seen_as path) ms ns))

pub passed-on : (p : Progress) (path : List ℕ) (mid new : State) (ms ns : List notes.Seen) → passed (passed p path mid ms) path new ns ≡ passed p path new (ms ++ ns)
passed-on p path mid new ms ns = ap (λ (ks : List Seen). record p { state = new; seen = ks }) (logged path p.seen ms ns)

pub passed-none : (p : Progress) (path : List ℕ) (st : State) → passed p path st [] ≡ record p { state = st }
passed-none p path st = ap (λ (ks : List Seen). record p { state = st; seen = ks }) (append-nil p.seen)

-- ---- what an observer is shown

-- a command that is accepted
pub shown-next : AreDecidedPlaced → (st : State) (from : Origin) (file : ℕ) (k : Placed) (r : State × Next) → step st from k.sexp ≡ Ok r → notes.shown st from k.bytes (note_next st from file k).place k.sexp ≡ note_next st from file k ∷ []
unfolding step uncounted notes.shown noted
shown-next decided st from file k r e =
    let place = (note_next st from file k).place in
    let u = bind_ok (uncounted st from k.sexp) _ r e in
    let c = bind_ok (command_of (is_in_reference from) k.sexp) (placed_command st from) u.0 u.1 in
    let d = bind_ok (placed_decision st from c.0) _ u.0 (sym (decided st from c.0) ∙ c.2) in
    let act = ap (act_by st from) c.1 ∙ ap (act_decided st c.0) d.1 in
    ap (notes.shown_by st from k.bytes place) c.1 ∙ ap (notes.seen_by st from k.bytes place c.0) d.1
    ∙ ap (λ a. record (note_next st from file k) { act = a } ∷ []) (sym act)

module _ {O : Type 0} (tells : O → List notes.Seen → Type 0) (file : ℕ) where
  pub shown-none : (o : O) → IsShown tells o o file []
  shown-none o = record { sees = λ l h. subst (tells o) (sym (append-nil l)) h; here = All-nil (λ (m : notes.Seen). m.place.file ≡ file) }

  pub shown-trans : (a b c : O) (ms ns : List notes.Seen) → IsShown tells a b file ms → IsShown tells b c file ns → IsShown tells a c file (ms ++ ns)
  shown-trans a b c ms ns p q = record {
    sees = λ l h. subst (tells c) (append_assoc l ms ns) (q.sees (l ++ ms) (p.sees l h));
    here = All-append (λ (m : notes.Seen). m.place.file ≡ file) ms ns p.here q.here;
  }

-- ---- what is seen

seen-later : (old new : List (List ℕ)) → Extends old new → (ms : List notes.Seen) (ks : List Seen) → AreSeen old ms ks → AreSeen new ms ks
seen-later old new h [] [] a = tt
seen-later old new h (m ∷ ms) (k ∷ ks) a = (record { file = numbered-later old new m.place.file k.file h a.0.file; same = a.0.same }, seen-later old new h ms ks a.1)
seen-later old new h [] (k ∷ ks) a = absurd a
seen-later old new h (m ∷ ms) [] a = absurd a

seen-append : (paths : List (List ℕ)) (ms ns : List notes.Seen) (ks js : List Seen) → AreSeen paths ms ks → AreSeen paths ns js → AreSeen paths (ms ++ ns) (ks ++ js)
seen-append paths [] ns [] js a b = b
seen-append paths (m ∷ ms) ns (k ∷ ks) js a b = (a.0, seen-append paths ms ns ks js a.1 b)
seen-append paths [] ns (k ∷ ks) js a b = absurd a
seen-append paths (m ∷ ms) ns [] js a b = absurd a

-- of one file
seen-here : (paths : List (List ℕ)) (path : List ℕ) (file : ℕ) → position (bytes_eq path) paths ≡ Some file → (ms : List notes.Seen) → All (λ (m : notes.Seen). m.place.file ≡ file) ms → AreSeen paths ms (map (seen_as path) ms)
seen-here paths path file e [] h = tt
seen-here paths path file e (m ∷ ms) h =
    let P = λ (m : notes.Seen). m.place.file ≡ file in
    (record { file = e ∙ ap (λ n. Some n) (sym (All-head P m ms h)); same = refl }, seen-here paths path file e ms (All-tail P m ms h))

module _ {O : Type 0} (tells : O → List notes.Seen → Type 0) where
  -- nothing is seen yet
  pub sees-nothing : (o : O) (paths : List (List ℕ)) → tells o [] → Sees tells o paths []
  sees-nothing o paths h = record { seen_by = []; told = h; are = tt }

  pub sees-later : (o : O) (old new : List (List ℕ)) (seen : List Seen) → Extends old new → Sees tells o old seen → Sees tells o new seen
  sees-later o old new seen h s = record { seen_by = s.seen_by; told = s.told; are = seen-later old new h s.seen_by seen s.are }

  pub sees-more : (a b : O) (paths : List (List ℕ)) (path : List ℕ) (file : ℕ) (seen : List Seen) (ms : List notes.Seen) → position (bytes_eq path) paths ≡ Some file → IsShown tells a b file ms → Sees tells a paths seen
      → Sees tells b paths (seen ++ map (seen_as path) ms)
  sees-more a b paths path file seen ms e shown s = record {
    seen_by = s.seen_by ++ ms;
    told = shown.sees s.seen_by s.told;
    are = seen-append paths s.seen_by ms seen (map (seen_as path) ms) s.are (seen-here paths path file e ms shown.here);
  }
