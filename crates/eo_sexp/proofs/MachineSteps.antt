-- The turns of a collector.
use Rattle.std.proofs.Common.{◌≡◌, refl, ℕ, suc, ◌+◌, ◌≤◌, ◌<◌, Bool, true, false, List, [], ◌∷◌, ◌++◌, length, length-append, take, drop, sym, ap, ◌∙◌, append_assoc, append-nil, subst, inl, inr, arith}
use Rattle.std.specs.Prelude.{Option, codes, bytes_eq, ◌⊎◌, if◌then◌else◌}
use Rattle.std.proofs.Math.Seq.{take-append_seam}
use Rattle.std.proofs.lemmas.List.{take_all}
use Rattle.eo_base.specs.declared.FaultName.{FaultName}
use Rattle.eo_base.specs.declared.FaultName.TheVariants.{CommandLong, TokenLong}
use Rattle.eo_base.specs.Limits.{limits}
use Rattle.eo_base.proofs.Tests.{and_first, and_second}
use Rattle.eo_sexp.specs.Spot.{Spot}
use Rattle.eo_sexp.specs.declared.reader.Reader.{Reader}
use Rattle.eo_sexp.specs.Built.{Built, nothing, with_byte}
use Rattle.eo_sexp.specs.declared.reader.ReaderTurn.TheVariants as turn
use Rattle.eo_sexp.specs.declared.incremental.State.{State}
use Rattle.eo_sexp.specs.declared.incremental.State.TheVariants as state
use Rattle.eo_sexp.specs.declared.incremental.Machine.{Machine}
use Rattle.eo_sexp.specs.Sexp.{Sexp}
use Rattle.eo_sexp.specs.Lexicon.{Class, Open, Quote, Bar, Word, class, is_space, is_word, Input, Passed, pass, advance, is_one_of, Close}
use Rattle.eo_sexp.specs.Commands.{Reading, Whole, Refused, Cut, at_most, front, word, word_before, atom, sexp, command}
use Rattle.eo_sexp.specs.Texts.{Phase, Start, AfterUnsat, InPair, AfterPair, after, is_unsat, begins_pair, known, spot_after, next_spot, begins_one_of, behind}
use Rattle.eo_sexp.specs.Collecting.{Within, AtCommand, Failed, fed_from, on_more}
use Rattle.eo_sexp.specs.declared.classes.Class.{Class as ByteClass}
use Rattle.eo_sexp.specs.declared.classes.Class.TheVariants as byte
use Rattle.eo_sexp.specs.declared.incremental.Phase.{Phase as FilePhase}
use Rattle.eo_sexp.specs.declared.incremental.Phase.TheVariants as file
use Rattle.eo_sexp.specs.Token.{class_of}
use Rattle.eo_sexp.specs.Nodes.{first_of}
use Rattle.eo_sexp.specs.Reader.{held, IsWhole, IsAtom, IsReader, Turns, Begins, reading}
use Rattle.eo_sexp.specs.Machine.{phase_of, meaning_at, meaning, IsProofStart, IsFirst, IsPairFact, IsBegun, IsPlaced, IsSoundAt, IsSound, TakesByte, Lengthens, Completes, ClosesCommand, earlier_fault, list_state}
use Rattle.eo_sexp.proofs.LimitFacts.{some_command}
use Rattle.eo_sexp.proofs.Resuming.{StandsStill, pass-front}
use Rattle.eo_sexp.proofs.TokenTurns.{at_most-cut}
use Rattle.eo_sexp.proofs.FedBetween.{fed-pair, fed-unsat}
use Rattle.std.proofs.lemmas.Slice.Eq.{bytes_eq-Decides}
use Rattle.eo_sexp.proofs.Feeding.{spot_after-append, spot_after-line}
use Rattle.eo_sexp.proofs.ReaderSteps.{reader-cut}
use Rattle.eo_sexp.proofs.CommandTurns.{front-append, command-goes, command-over, command-whole, command-whole-over, command-fault}
use Rattle.eo_sexp.proofs.FedBytes.{begun, fed-first, on-whole, on-refused, on-cut, unsat-cut, unsat-refused, unsat-other}
use Rattle.eo_sexp.proofs.Parentheses.{paren-byte, no-paren, pair-front}

-- ---- what a machine represents

pub meaning-is : (m : Machine) (s : State) (q : Phase) (at : Spot) (b : Built) → m.state ≡ s → phase_of m.phase ≡ q → m.start ≡ at → m.begun ≡ b → meaning m ≡ meaning_at s q at b
meaning-is m s q at b e f g h =
    ap (λ v. meaning_at v (phase_of m.phase) m.start m.begun) e ∙ ap (λ v. meaning_at s v m.start m.begun) f ∙ ap (λ v. meaning_at s q v m.begun) g ∙ ap (meaning_at s q at) h

pub sound-is : (m : Machine) (s : State) → m.state ≡ s → IsSoundAt s m → IsSound m
sound-is m s e h = subst (λ q. IsSoundAt q m) (sym e) h

pub placed-none : (m : Machine) → m.begun ≡ nothing → m.here ≡ m.start → m.here.line ≤ m.here.offset + 1 → IsPlaced m
unfolding spot_after
placed-none m b e l = record { here = e ∙ sym (ap (λ (v : Built). spot_after m.start v.bytes) b); line = l }

pub here-start : (m : Machine) → m.begun ≡ nothing → IsPlaced m → m.here ≡ m.start
unfolding spot_after
here-start m b p = p.here ∙ ap (λ (v : Built). spot_after m.start v.bytes) b

next-line : (s : Spot) (x : ℕ) → s.line ≤ s.offset + 1 → (next_spot s x).line ≤ (next_spot s x).offset + 1
unfolding spot_after
next-line s x h = spot_after-line s (x ∷ []) h

placed-more : (old new : Machine) (x : ℕ) → IsPlaced old → new.begun.bytes ≡ old.begun.bytes ++ x ∷ [] → new.start ≡ old.start → new.here ≡ next_spot old.here x → IsPlaced new
unfolding spot_after
placed-more old new x p b s h = record {
  here =
      h ∙ ap (λ (v : Spot). next_spot v x) p.here
      ∙ sym (spot_after-append old.start old.begun.bytes (x ∷ []))
      ∙ ap (spot_after old.start) (sym b)
      ∙ ap (λ (v : Spot). spot_after v new.begun.bytes) (sym s);
  line = subst (λ (v : Spot). v.line ≤ v.offset + 1) (sym h) (next-line old.here x p.line);
}

-- ---- a byte between two commands

pub takes-passed : (old new : Machine) (x : ℕ) (before comment : Bool) (q : Phase) → IsPlaced old → old.begun ≡ nothing → old.state ≡ state.Between before →
    new.state ≡ state.Between comment → new.begun ≡ nothing → new.start ≡ next_spot old.here x → new.here ≡ next_spot old.here x → phase_of new.phase ≡ q →
    fed_from limits (Within (phase_of old.phase) before old.start []) (x ∷ []) ≡ Within q comment (next_spot old.start x) [] → TakesByte old x new
takes-passed old new x before comment q p b s t c a h f e = record {
  sound = sound-is new (state.Between comment) t (c, placed-none new c (h ∙ sym a) (subst (λ (v : Spot). v.line ≤ v.offset + 1) (sym h) (next-line old.here x p.line)));
  meant =
      meaning-is new (state.Between comment) q (next_spot old.start x) nothing t f (a ∙ ap (λ (v : Spot). next_spot v x) (here-start old b p)) c
      ∙ sym e
      ∙ ap (λ m. fed_from limits m (x ∷ [])) (sym (meaning-is old (state.Between before) (phase_of old.phase) old.start nothing s refl refl b));
}

pub takes-failed : (old new : Machine) (x : ℕ) (name : FaultName) → new.state ≡ state.Failed name old.here → fed_from limits (meaning old) (x ∷ []) ≡ Failed name old.here → TakesByte old x new
takes-failed old new x name t e = record {
  sound = sound-is new (state.Failed name old.here) t tt;
  meant = ap (λ v. meaning_at v (phase_of new.phase) new.start new.begun) t ∙ sym e;
}

-- the byte fails where nothing is begun
pub takes-refused : (old new : Machine) (x : ℕ) (before : Bool) (name : FaultName) → IsPlaced old → old.begun ≡ nothing → old.state ≡ state.Between before → new.state ≡ state.Failed name old.here →
    fed_from limits (Within (phase_of old.phase) before old.start []) (x ∷ []) ≡ Failed name old.start → TakesByte old x new
takes-refused old new x before name p b s t e =
    takes-failed old new x name t
    (ap (λ m. fed_from limits m (x ∷ [])) (meaning-is old (state.Between before) (phase_of old.phase) old.start nothing s refl refl b) ∙ e ∙ ap (Failed name) (sym (here-start old b p)))

pub takes-from : (old mid new : Machine) (x : ℕ) → fed_from limits (meaning old) (x ∷ []) ≡ fed_from limits (meaning mid) (x ∷ []) → TakesByte mid x new → TakesByte old x new
takes-from old mid new x e h = record { sound = h.sound; meant = h.meant ∙ sym e }

-- ---- the outer pair

open-off : (bytes : List ℕ) → begins_one_of (codes "()") (pass false 1 (drop 1 bytes ++ [])).rest.bytes ≡ false → begins_pair limits (record { at = 0; bytes = bytes }) ≡ false
unfolding begins_pair behind advance
open-off bytes e = and_second _ _ (and_first _ _ (ap (λ bs. begins_one_of (codes "()") (pass false 1 bs).rest.bytes) (sym (append-nil (drop 1 bytes))) ∙ e))

closed-off : (t : Input) → (front t.bytes ≡ Open → begins_pair limits t ≡ false) → begins_pair limits t ≡ false
closed-off t h = go (begins_pair limits t) refl
  where
    go : (b : Bool) → begins_pair limits t ≡ b → begins_pair limits t ≡ false
    go true e = h (pair-front limits t e)
    go false e = e

-- a pair does not begin where these are all bytes
pub pair-off : (s : State) (q : Phase) (bytes : List ℕ) → IsPairFact s q bytes → IsProofStart q → begins_pair limits (record { at = 0; bytes = bytes }) ≡ false
unfolding pass front begins_one_of
pair-off state.Begun q bytes p i = closed-off (record { at = 0; bytes = bytes }) (λ o. open-off bytes (p i o []))
pair-off (state.Pair comment) q bytes p i =
    closed-off (record { at = 0; bytes = bytes }) (λ o. open-off bytes (ap (λ (u : Passed). begins_one_of (codes "()") u.rest.bytes) (p.2 [])))
pair-off (state.Between comment) q bytes p i = absurd p
pair-off state.Command q bytes p i = absurd p
pair-off (state.Failed name at) q bytes p i = absurd p
pair-off state.NoMemory q bytes p i = absurd p

pub begun-meaning : (s : State) (q : Phase) (bytes : List ℕ) (r : Phase) (at : Spot) (b : Built) → IsPairFact s q bytes → meaning_at s r at b ≡ Within r false at b.bytes
begun-meaning state.Begun q bytes r at b p = refl
begun-meaning (state.Pair comment) q bytes r at b p = refl
begun-meaning (state.Between comment) q bytes r at b p = absurd p
begun-meaning state.Command q bytes r at b p = absurd p
begun-meaning (state.Failed name k) q bytes r at b p = absurd p
begun-meaning state.NoMemory q bytes r at b p = absurd p

pub begun-sound : (s : State) (m : Machine) → m.state ≡ s → IsPairFact s (phase_of m.phase) m.begun.bytes → IsBegun m → IsPlaced m → IsSound m
begun-sound state.Begun m e p h l = sound-is m state.Begun e (h, subst (λ s. IsPairFact s (phase_of m.phase) m.begun.bytes) (sym e) p, l)
begun-sound (state.Pair comment) m e p h l = sound-is m (state.Pair comment) e (h, subst (λ s. IsPairFact s (phase_of m.phase) m.begun.bytes) (sym e) p, l)
begun-sound (state.Between comment) m e p h l = absurd p
begun-sound state.Command m e p h l = absurd p
begun-sound (state.Failed name k) m e p h l = absurd p
begun-sound state.NoMemory m e p h l = absurd p

pub first-some : (b : List ℕ) → IsFirst (front b) → 0 < length b
unfolding front
first-some [] h = absurd h
first-some (x ∷ b) h = omega arith

abbrev IsNotWhole : Reading Sexp → Type 0
IsNotWhole (Whole s rest) = ⊥
IsNotWhole (Refused name at) = Unit {0}
IsNotWhole (Cut e) = Unit {0}

not_whole-if : (b : Bool) (q r : Reading Sexp) → IsNotWhole q → IsNotWhole r → IsNotWhole (if b then q else r)
not_whole-if true q r h g = h
not_whole-if false q r h g = g

not_whole-at_most : (name : FaultName) (most : ℕ) (t : Input) (r : Reading Sexp) → IsNotWhole r → IsNotWhole (at_most name most t r)
unfolding at_most
not_whole-at_most name most t (Whole s rest) h = absurd h
not_whole-at_most name most t (Refused n at) h = not_whole-if _ (Refused n at) (Refused name (t.at + most)) tt tt
not_whole-at_most name most t (Cut e) h = not_whole-if _ (Cut e) (Refused name (t.at + most)) tt tt

-- the word that a proof may begin with is no command by itself
unsat-not_whole : IsNotWhole (command limits (codes "unsat"))
unfolding command front class is_space is_word sexp atom word word_before
unsat-not_whole = not_whole-at_most CommandLong limits.command _ _ (not_whole-at_most TokenLong limits.token _ _ tt)

not-unsat : (bytes : List ℕ) (s : Sexp) (rest : Input) → command limits bytes ≡ Whole s rest → bytes_eq bytes (codes "unsat") ≡ false
not-unsat bytes s rest e = go (bytes_eq bytes (codes "unsat")) refl
  where
    go : (b : Bool) → bytes_eq bytes (codes "unsat") ≡ b → b ≡ false
    go false f = refl
    go true f = absurd (subst IsNotWhole (ap (command limits) (sym ((bytes_eq-Decides bytes (codes "unsat")).0 f)) ∙ e) unsat-not_whole)

-- ---- a byte of a command that is begun

module _ (old : Machine) (x : ℕ) (h : IsBegun old) (p : IsPairFact old.state (phase_of old.phase) (old.begun.bytes ++ x ∷ [])) (l : IsPlaced old) where
  some : 0 < length old.begun.bytes
  some = first-some old.begun.bytes h.first

  still-first : IsFirst (front (old.begun.bytes ++ x ∷ []))
  still-first = subst IsFirst (sym (front-append old.begun.bytes (x ∷ []) some)) h.first

  -- what the reading of the bytes with x makes of the collector
  decides : (r : Reading Sexp) → command limits (old.begun.bytes ++ x ∷ []) ≡ r → (phase_of old.phase ≡ Start → is_unsat (old.begun.bytes ++ x ∷ []) r ≡ false) →
      fed_from limits (meaning old) (x ∷ []) ≡ on_more old.start (old.begun.bytes ++ x ∷ []) (begun (phase_of old.phase) (old.begun.bytes ++ x ∷ [])) (known (phase_of old.phase) (record { at = 0; bytes = old.begun.bytes ++ x ∷ [] }) r)
  unfolding front
  decides r c u =
      ap (λ m. fed_from limits m (x ∷ [])) (begun-meaning old.state (phase_of old.phase) (old.begun.bytes ++ x ∷ []) (phase_of old.phase) old.start old.begun p)
      ∙ go (old.begun.bytes ++ x ∷ []) refl still-first (pair-off old.state (phase_of old.phase) (old.begun.bytes ++ x ∷ []) p) c u
    where
      go : (bytes : List ℕ) → old.begun.bytes ++ x ∷ [] ≡ bytes → IsFirst (front bytes) → (IsProofStart (phase_of old.phase) → begins_pair limits (record { at = 0; bytes = bytes }) ≡ false) →
          command limits bytes ≡ r → (phase_of old.phase ≡ Start → is_unsat bytes r ≡ false) →
          fed_from limits (Within (phase_of old.phase) false old.start old.begun.bytes) (x ∷ []) ≡ on_more old.start bytes (begun (phase_of old.phase) bytes) (known (phase_of old.phase) (record { at = 0; bytes = bytes }) r)
      go [] e f o c u = absurd f
      go (y ∷ zs) e f o c u = fed-first limits y zs f (phase_of old.phase) old.start old.begun.bytes (x ∷ []) r e h.inside o c u

  fails : (name : FaultName) → command limits (old.begun.bytes ++ x ∷ []) ≡ Refused name (length old.begun.bytes) → fed_from limits (meaning old) (x ∷ []) ≡ Failed name old.here
  fails name c =
      decides (Refused name (length old.begun.bytes)) c (λ s. unsat-refused limits (old.begun.bytes ++ x ∷ []) name (length old.begun.bytes))
      ∙ on-refused limits (phase_of old.phase) old.start old.begun.bytes (x ∷ []) name (length old.begun.bytes) refl
      ∙ ap (Failed name) (sym l.here)

  -- after the reader's turn: what it keeps, and its buffer
  module _ (r : Reader) (v : Built) (same : v.bytes ≡ old.begun.bytes) where
    goes-cut : Turns limits (held old.begun old.reader) (length old.begun.bytes) x turn.Goes (held (with_byte v x) r) → (e : Option Sexp) × (sexp limits (front old.begun.bytes) (record { at = 0; bytes = old.begun.bytes ++ x ∷ [] }) ≡ Cut e)
    goes-cut t =
        let c = reader-cut limits (held (with_byte v x) r) (suc (length old.begun.bytes)) t.0 in
        (c.0, h.reads (x ∷ []) ∙ t.1 [] ∙ c.1)

    -- the command goes on after the byte
    pub takes-goes : (new : Machine) → Turns limits (held old.begun old.reader) (length old.begun.bytes) x turn.Goes (held (with_byte v x) r) → Lengthens limits (record old { reader = r; begun = v }) (length old.begun.bytes) x new → TakesByte old x new
    takes-goes new t (inl k) =
        let c = goes-cut t in
        let b : new.begun.bytes ≡ old.begun.bytes ++ x ∷ [] = ap (λ (w : Built). w.bytes) (k.1).begun ∙ ap (λ bs. bs ++ x ∷ []) same in
        let n : length new.begun.bytes ≡ suc (length old.begun.bytes) = omega (arith, ap length b, length-append old.begun.bytes (x ∷ [])) in
        let kept : held (with_byte v x) r ≡ held new.begun new.reader = ap (λ w. held w r) (sym (k.1).begun) ∙ ap (held new.begun) (sym (k.1).reader) in
        let begun-new : IsBegun new = record {
          first = subst (λ bs. IsFirst (front bs)) (sym b) still-first;
          inside = λ e. h.inside (ap phase_of (sym (k.1).phase) ∙ e);
          reader = subst (λ i. IsReader limits (held new.begun new.reader) i) (sym n) (subst (λ w. IsReader limits w (suc (length old.begun.bytes))) kept t.0);
          reads = λ more.
              ap (λ bs. sexp limits (front bs) (record { at = 0; bytes = bs ++ more })) b
              ∙ ap (λ c. sexp limits c (record { at = 0; bytes = (old.begun.bytes ++ x ∷ []) ++ more })) (front-append old.begun.bytes (x ∷ []) some)
              ∙ ap (λ bs. sexp limits (front old.begun.bytes) (record { at = 0; bytes = bs })) (append_assoc old.begun.bytes (x ∷ []) more)
              ∙ h.reads (x ∷ more)
              ∙ t.1 more
              ∙ ap (λ i. reading limits (held (with_byte v x) r) i more) (sym n)
              ∙ ap (λ w. reading limits w (length new.begun.bytes) more) kept;
          short = omega (arith, n, k.0);
        } in
        let pair : IsPairFact old.state (phase_of new.phase) new.begun.bytes = subst (λ q. IsPairFact old.state (phase_of q) new.begun.bytes) (sym (k.1).phase) (subst (IsPairFact old.state (phase_of old.phase)) (sym b) p) in
        record {
          sound = begun-sound old.state new (k.1).state pair begun-new (placed-more old new x l b (k.1).start (k.1).here);
          meant =
              meaning-is new old.state (phase_of old.phase) old.start new.begun (k.1).state (ap phase_of (k.1).phase) (k.1).start refl
              ∙ begun-meaning old.state (phase_of old.phase) (old.begun.bytes ++ x ∷ []) (phase_of old.phase) old.start new.begun p
              ∙ ap (Within (phase_of old.phase) false old.start) b
              ∙ sym (on-cut limits (phase_of old.phase) old.start (old.begun.bytes ++ x ∷ []) c.0)
              ∙ sym (decides (Cut c.0) (command-goes limits old.begun.bytes x some c.0 c.1 k.0) (λ s. unsat-cut limits (old.begun.bytes ++ x ∷ []) c.0));
        }
    takes-goes new t (inr k) =
        let c = goes-cut t in
        takes-failed old new x CommandLong k.1 (fails CommandLong (command-over limits old.begun.bytes x some c.0 c.1 (omega (arith, h.short, k.0))))

    -- the byte is a fault
    pub takes-fault : (new : Machine) (name : FaultName) → Turns limits (held old.begun old.reader) (length old.begun.bytes) x (turn.Fault name) (held (with_byte v x) r) → new.state ≡ state.Failed (earlier_fault limits (length old.begun.bytes) name) old.here → TakesByte old x new
    takes-fault new name t e = takes-failed old new x (earlier_fault limits (length old.begun.bytes) name) e (fails (earlier_fault limits (length old.begun.bytes) name) (command-fault limits old.begun.bytes x some name (h.reads (x ∷ []) ∙ t []) h.short))

    -- the byte makes the command whole
    pub takes-whole : (new : Machine) → Turns limits (held old.begun old.reader) (length old.begun.bytes) x turn.Whole (held (with_byte v x) r) → ClosesCommand limits (record old { reader = r; begun = v }) (length old.begun.bytes) x new → TakesByte old x new
    takes-whole new t (inl k) =
        let s : Sexp = t.0 in
        let bytes : List ℕ = old.begun.bytes ++ x ∷ [] in
        let b : new.begun.bytes ≡ bytes = ap (λ (w : Built). w.bytes) (k.1).begun ∙ ap (λ bs. bs ++ x ∷ []) same in
        let n : length bytes ≡ suc (length old.begun.bytes) = length-append old.begun.bytes (x ∷ []) ∙ omega arith in
        let c : command limits bytes ≡ Whole s (record { at = suc (length old.begun.bytes); bytes = [] }) = command-whole limits old.begun.bytes x some s _ (h.reads (x ∷ []) ∙ t.3 []) (omega (arith, k.0)) in
        let all : take (suc (length old.begun.bytes)) bytes ≡ bytes = take_all (suc (length old.begun.bytes)) bytes (omega (arith, n)) in
        let whole : IsWhole new.begun s = subst (λ w. IsWhole w s) (sym (k.1).begun) (record { done = t.1; outside = t.2 }) in
        record {
          sound = sound-is new state.Command (k.1).state ((s, whole), placed-more old new x l b (k.1).start (k.1).here);
          meant =
              meaning-is new state.Command (after (phase_of old.phase)) old.start new.begun (k.1).state (k.1).phase (k.1).start refl
              ∙ ap (λ ss. AtCommand (record { sexp = first_of ss; bytes = new.begun.bytes; start = old.start }) (after (phase_of old.phase))) whole.done
              ∙ ap (λ bs. AtCommand (record { sexp = s; bytes = bs; start = old.start }) (after (phase_of old.phase))) b
              ∙ sym (on-whole limits (phase_of old.phase) old.start bytes bytes s (record { at = suc (length old.begun.bytes); bytes = [] }) all)
              ∙ sym (decides (Whole s (record { at = suc (length old.begun.bytes); bytes = [] })) c
              (λ q. unsat-other limits bytes bytes s (record { at = suc (length old.begun.bytes); bytes = [] }) all (not-unsat bytes s _ c)));
        }
    takes-whole new t (inr k) =
        takes-failed old new x CommandLong k.1 (fails CommandLong (command-whole-over limits old.begun.bytes x some t.0 _ (h.reads (x ∷ []) ∙ t.3 []) (omega (arith, k.0)) (omega (arith, h.short, k.0))))

    -- the command ended before the byte
    before-whole : (t : Turns limits (held old.begun old.reader) (length old.begun.bytes) x turn.Before (held (with_byte v x) r)) → command limits (old.begun.bytes ++ x ∷ []) ≡ Whole t.0 (record { at = length old.begun.bytes; bytes = x ∷ [] })
    before-whole t = command-whole limits old.begun.bytes x some t.0 (record { at = length old.begun.bytes; bytes = x ∷ [] }) (h.reads (x ∷ []) ∙ t.3 []) h.short

    pub takes-before : (new : Machine) → Turns limits (held old.begun old.reader) (length old.begun.bytes) x turn.Before (held (with_byte v x) r) → (phase_of old.phase ≡ Start → bytes_eq old.begun.bytes (codes "unsat") ≡ false) →
        Completes (record old { reader = r; begun = v }) new → TakesByte old x new
    takes-before new t u k =
        let s : Sexp = t.0 in
        let bytes : List ℕ = old.begun.bytes ++ x ∷ [] in
        let b : new.begun.bytes ≡ old.begun.bytes = ap (λ (w : Built). w.bytes) k.begun ∙ same in
        let c : command limits bytes ≡ Whole s (record { at = length old.begun.bytes; bytes = x ∷ [] }) = before-whole t in
        let part : take (length old.begun.bytes) bytes ≡ old.begun.bytes = take-append_seam old.begun.bytes (x ∷ []) in
        let whole : IsWhole new.begun s = subst (λ w. IsWhole w s) (sym k.begun) (record { done = t.1; outside = t.2 }) in
        record {
          sound = sound-is new state.Command k.state (
            (s, whole),
            record {
              here = k.here ∙ l.here ∙ ap (spot_after old.start) (sym b) ∙ ap (λ (v : Spot). spot_after v new.begun.bytes) (sym k.start);
              line = subst (λ (v : Spot). v.line ≤ v.offset + 1) (sym k.here) l.line;
            },
          );
          meant =
              meaning-is new state.Command (after (phase_of old.phase)) old.start new.begun k.state k.phase k.start refl
              ∙ ap (λ ss. AtCommand (record { sexp = first_of ss; bytes = new.begun.bytes; start = old.start }) (after (phase_of old.phase))) whole.done
              ∙ ap (λ bs. AtCommand (record { sexp = s; bytes = bs; start = old.start }) (after (phase_of old.phase))) b
              ∙ sym (on-whole limits (phase_of old.phase) old.start bytes old.begun.bytes s (record { at = length old.begun.bytes; bytes = x ∷ [] }) part)
              ∙ sym (decides (Whole s (record { at = length old.begun.bytes; bytes = x ∷ [] })) c
              (λ q. unsat-other limits bytes old.begun.bytes s (record { at = length old.begun.bytes; bytes = x ∷ [] }) part (u q)));
        }

    -- it was the word that a proof may begin with
    pub takes-unsat : (mid new : Machine) → Turns limits (held old.begun old.reader) (length old.begun.bytes) x turn.Before (held (with_byte v x) r) → phase_of old.phase ≡ Start → old.begun.bytes ≡ codes "unsat" →
        mid.state ≡ state.Between false → mid.begun ≡ nothing → mid.start ≡ old.here → phase_of mid.phase ≡ AfterUnsat → TakesByte mid x new → TakesByte old x new
    takes-unsat mid new t q u ms mb mt mp k =
        takes-from old mid new x
        (ap (λ m. fed_from limits m (x ∷ [])) (begun-meaning old.state (phase_of old.phase) (old.begun.bytes ++ x ∷ []) (phase_of old.phase) old.start old.begun p ∙ ap (λ w. Within w false old.start old.begun.bytes) q)
        ∙ fed-unsat limits old.start old.begun.bytes x t.0 u (before-whole t)
        ∙ ap (λ w. fed_from limits (Within AfterUnsat false w []) (x ∷ [])) (sym l.here)
        ∙ ap (λ m. fed_from limits m (x ∷ [])) (sym (meaning-is mid (state.Between false) AfterUnsat old.here nothing ms mp mt mb)))
        k

-- ---- a `(` that may be the outer pair

-- the next token is a parenthesis
pub takes-pair : (old mid new : Machine) (x : ℕ) → old.state ≡ state.Pair false → IsSound old → is_one_of (codes "()") x ≡ true →
    mid.state ≡ state.Between false → mid.begun ≡ nothing → mid.start ≡ old.here → phase_of mid.phase ≡ InPair → TakesByte mid x new → TakesByte old x new
takes-pair old mid new x e s p ms mb mt mp k =
    let h = subst (λ q. IsSoundAt q old) e s in
    let f = subst (λ q. IsPairFact q (phase_of old.phase) old.begun.bytes) e h.1 in
    takes-from old mid new x
    (ap (λ m. fed_from limits m (x ∷ [])) (meaning-is old (state.Pair false) (phase_of old.phase) old.start old.begun e refl refl refl)
    ∙ fed-pair limits (phase_of old.phase) old.start old.begun.bytes x f.0 f.1 (first-some old.begun.bytes (h.0).first) (h.0).short p (f.2 (x ∷ []))
    ∙ ap (λ v. fed_from limits (Within InPair false v []) (x ∷ [])) (sym (h.2).here)
    ∙ ap (λ m. fed_from limits m (x ∷ [])) (sym (meaning-is mid (state.Between false) InPair old.here nothing ms mp mt mb)))
    k

pub drop-front : (b more : List ℕ) → 0 < length b → drop 1 (b ++ more) ≡ drop 1 b ++ more
drop-front [] more h = absurd (omega arith)
drop-front (y ∷ b) more h = refl

-- the pair's white space and comments go on
pub pair-goes : (c d : Bool) (q : Phase) (b : List ℕ) (x : ℕ) → IsPairFact (state.Pair c) q b → ((n : ℕ) (more : List ℕ) → pass c n (x ∷ more) ≡ pass d (suc n) more) → IsPairFact (state.Pair d) q (b ++ x ∷ [])
unfolding front
pair-goes c d q b x f e =
    let some : 0 < length b = first-some b (subst IsFirst (sym f.1) tt) in (
      f.0,
      front-append b (x ∷ []) some ∙ f.1,
      λ more.
          ap (λ bs. pass false 1 (bs ++ more)) (drop-front b (x ∷ []) some)
          ∙ ap (pass false 1) (append_assoc (drop 1 b) (x ∷ []) more)
          ∙ f.2 (x ∷ more)
          ∙ e (length b) more
          ∙ ap (λ n. pass d n more) (omega (arith, length-append b (x ∷ []))),
    )

-- the next token is none
pub pair-ends : (q : Phase) (b : List ℕ) (x : ℕ) → IsPairFact (state.Pair false) q b → StandsStill (class x) → is_one_of (codes "()") x ≡ false → IsPairFact state.Begun q (b ++ x ∷ [])
unfolding front begins_one_of
pair-ends q b x f s p = λ i o more.
    let some : 0 < length b = first-some b (subst IsFirst (sym f.1) tt) in
    ap (λ (u : Passed). begins_one_of (codes "()") u.rest.bytes)
    (ap (λ bs. pass false 1 (bs ++ more)) (drop-front b (x ∷ []) some)
    ∙ ap (pass false 1) (append_assoc (drop 1 b) (x ∷ []) more)
    ∙ f.2 (x ∷ more)
    ∙ pass-front (class x) (length b) x more s refl)
    ∙ p

-- what holds of a command that is begun and is no pair
pub begun-goes : (q : Phase) (b : List ℕ) (x : ℕ) → IsFirst (front b) → IsPairFact state.Begun q b → IsPairFact state.Begun q (b ++ x ∷ [])
begun-goes q b x h f = λ i o more.
    let some : 0 < length b = first-some b h in
    ap (λ bs. begins_one_of (codes "()") (pass false 1 (bs ++ more)).rest.bytes) (drop-front b (x ∷ []) some)
    ∙ ap (λ bs. begins_one_of (codes "()") (pass false 1 bs).rest.bytes) (append_assoc (drop 1 b) (x ∷ []) more)
    ∙ f i (sym (front-append b (x ∷ []) some) ∙ o) (x ∷ more)

-- ---- the first byte of a command

pub takes-begins : (old new : Machine) (x : ℕ) (s : State) → IsPlaced old → old.begun ≡ nothing → old.state ≡ state.Between false → (phase_of old.phase ≡ AfterPair → ⊥) → IsFirst (class x) → Begins limits x (held new.begun new.reader) →
    new.state ≡ s → new.begun.bytes ≡ x ∷ [] → new.start ≡ old.start → new.here ≡ next_spot old.here x → new.phase ≡ old.phase → IsPairFact s (phase_of old.phase) (x ∷ []) → TakesByte old x new
unfolding front command
takes-begins old new x s l b e i f g t c a h q p =
    let r = reader-cut limits (held new.begun new.reader) 1 g.0 in
    let cut : command limits (x ∷ []) ≡ Cut r.0 = ap (at_most CommandLong limits.command (record { at = 0; bytes = x ∷ [] })) (g.1 [] ∙ r.1) ∙ at_most-cut CommandLong limits.command (record { at = 0; bytes = x ∷ [] }) r.0 some_command in
    let begun-new : IsBegun new = record {
      first = subst (λ bs. IsFirst (front bs)) (sym c) f;
      inside = λ w. i (ap phase_of (sym q) ∙ w);
      reader = subst (λ bs. IsReader limits (held new.begun new.reader) (length bs)) (sym c) g.0;
      reads = λ more. subst (λ bs. sexp limits (front bs) (record { at = 0; bytes = bs ++ more }) ≡ reading limits (held new.begun new.reader) (length bs) more) (sym c) (g.1 more);
      short = subst (λ bs. length bs ≤ limits.command) (sym c) some_command;
    } in
    let pair : IsPairFact s (phase_of new.phase) new.begun.bytes = subst (λ v. IsPairFact s (phase_of v) new.begun.bytes) (sym q) (subst (IsPairFact s (phase_of old.phase)) (sym c) p) in
    record {
      sound = begun-sound s new t pair begun-new (placed-more old new x l (c ∙ ap (λ (v : Built). v.bytes ++ x ∷ []) (sym b)) a h);
      meant =
          meaning-is new s (phase_of old.phase) old.start new.begun t (ap phase_of q) a refl
          ∙ begun-meaning s (phase_of old.phase) (x ∷ []) (phase_of old.phase) old.start new.begun p
          ∙ ap (Within (phase_of old.phase) false old.start) c
          ∙ sym (on-cut limits (phase_of old.phase) old.start (x ∷ []) r.0)
          ∙ sym (fed-first limits x [] f (phase_of old.phase) old.start [] (x ∷ []) (Cut r.0) refl i (pair-off s (phase_of old.phase) (x ∷ []) p) cut (λ w. unsat-cut limits (x ∷ []) r.0))
          ∙ ap (λ m. fed_from limits m (x ∷ [])) (sym (meaning-is old (state.Between false) (phase_of old.phase) old.start nothing e refl refl b));
    }

-- ---- phases and classes

pub not-phase : (p q : FilePhase) → (p ≡ q → ⊥) → phase_of p ≡ phase_of q → ⊥
not-phase file.Start file.Start n e = n refl
not-phase file.AfterUnsat file.AfterUnsat n e = n refl
not-phase file.InPair file.InPair n e = n refl
not-phase file.AfterPair file.AfterPair n e = n refl
not-phase file.Plain file.Plain n e = n refl
not-phase file.Start file.AfterUnsat n e = cc
not-phase file.Start file.InPair n e = cc
not-phase file.Start file.AfterPair n e = cc
not-phase file.Start file.Plain n e = cc
not-phase file.AfterUnsat file.Start n e = cc
not-phase file.AfterUnsat file.InPair n e = cc
not-phase file.AfterUnsat file.AfterPair n e = cc
not-phase file.AfterUnsat file.Plain n e = cc
not-phase file.InPair file.Start n e = cc
not-phase file.InPair file.AfterUnsat n e = cc
not-phase file.InPair file.AfterPair n e = cc
not-phase file.InPair file.Plain n e = cc
not-phase file.AfterPair file.Start n e = cc
not-phase file.AfterPair file.AfterUnsat n e = cc
not-phase file.AfterPair file.InPair n e = cc
not-phase file.AfterPair file.Plain n e = cc
not-phase file.Plain file.Start n e = cc
not-phase file.Plain file.AfterUnsat n e = cc
not-phase file.Plain file.InPair n e = cc
not-phase file.Plain file.AfterPair n e = cc

pub list-pair : (p : FilePhase) (x : ℕ) → class x ≡ Open → IsPairFact (list_state p) (phase_of p) (x ∷ [])
unfolding front
list-pair file.Start x e = (tt, e, λ more. refl)
list-pair file.AfterUnsat x e = (tt, e, λ more. refl)
list-pair file.InPair x e = λ i. absurd i
list-pair file.AfterPair x e = λ i. absurd i
list-pair file.Plain x e = λ i. absurd i

pub atom-pair : (q : Phase) (x : ℕ) → IsAtom (class x) → IsPairFact state.Begun q (x ∷ [])
unfolding front
atom-pair q x a = λ i o more. absurd (subst IsAtom o a)

pub atom-first : (c : Class) → IsAtom c → IsFirst c
atom-first Quote a = tt
atom-first Bar a = tt
atom-first Word a = tt
atom-first c a = absurd a

-- the classes that are left end a gap after the `(` of what may be a pair
pub token-class : (k : ByteClass) (x : ℕ) → class_of k ≡ class x → (k ≡ byte.Space → ⊥) → (k ≡ byte.Comment → ⊥) → (k ≡ byte.Open → ⊥) → (k ≡ byte.Close → ⊥) → StandsStill (class x) × (is_one_of (codes "()") x ≡ false)
token-class k x e s c o d =
    let left = go k s c o d in (
      subst StandsStill e left.0,
      no-paren x (λ f. left.1 (e ∙ f)) (λ f. left.2 (e ∙ f)),
    )
  where
    go : (k : ByteClass) → (k ≡ byte.Space → ⊥) → (k ≡ byte.Comment → ⊥) → (k ≡ byte.Open → ⊥) → (k ≡ byte.Close → ⊥) → StandsStill (class_of k) × (class_of k ≡ Open → ⊥) × (class_of k ≡ Close → ⊥)
    go byte.Space s c o d = absurd (s refl)
    go byte.Comment s c o d = absurd (c refl)
    go byte.Open s c o d = absurd (o refl)
    go byte.Close s c o d = absurd (d refl)
    go byte.Quote s c o d = (tt, λ f. cc, λ f. cc)
    go byte.Bar s c o d = (tt, λ f. cc, λ f. cc)
    go byte.Word s c o d = (tt, λ f. cc, λ f. cc)
    go byte.Other s c o d = (tt, λ f. cc, λ f. cc)

-- but for `(` they begin atoms
pub first-atom : (k : ByteClass) (x : ℕ) → class_of k ≡ class x → IsFirst (class x) → (k ≡ byte.Open → ⊥) → IsAtom (class x)
first-atom k x e f o = subst IsAtom e (go k (subst IsFirst (sym e) f) o)
  where
    go : (k : ByteClass) → IsFirst (class_of k) → (k ≡ byte.Open → ⊥) → IsAtom (class_of k)
    go byte.Open f o = absurd (o refl)
    go byte.Quote f o = tt
    go byte.Bar f o = tt
    go byte.Word f o = tt
    go byte.Space f o = absurd f
    go byte.Comment f o = absurd f
    go byte.Close f o = absurd f
    go byte.Other f o = absurd f

-- what was begun is dropped
pub placed-left : (old new : Machine) → IsPlaced old → new.begun ≡ nothing → new.start ≡ old.here → new.here ≡ old.here → IsPlaced new
placed-left old new l b s h = placed-none new b (h ∙ sym s) (subst (λ (v : Spot). v.line ≤ v.offset + 1) (sym h) l.line)

pub pair-fact : (m : Machine) (c : Bool) → m.state ≡ state.Pair c → IsSound m → IsPairFact (state.Pair c) (phase_of m.phase) m.begun.bytes
pair-fact m c e s = let h = subst (λ q. IsSoundAt q m) e s in subst (λ q. IsPairFact q (phase_of m.phase) m.begun.bytes) e h.1

pub pair-placed : (m : Machine) (c : Bool) → m.state ≡ state.Pair c → IsSound m → IsPlaced m
pair-placed m c e s = let h = subst (λ q. IsSoundAt q m) e s in h.2

pub paren-class : (k : ByteClass) (x : ℕ) → class_of k ≡ class x → (k ≡ byte.Open) ⊎ (k ≡ byte.Close) → is_one_of (codes "()") x ≡ true
paren-class k x e (inl o) = paren-byte x (inl (sym e ∙ ap class_of o))
paren-class k x e (inr o) = paren-byte x (inr (sym e ∙ ap class_of o))

pub begun-pair : (m : Machine) (x : ℕ) → m.state ≡ state.Begun → IsSound m → IsPairFact m.state (phase_of m.phase) (m.begun.bytes ++ x ∷ [])
begun-pair m x e s =
    let h = subst (λ q. IsSoundAt q m) e s in
    let f = subst (λ q. IsPairFact q (phase_of m.phase) m.begun.bytes) e h.1 in
    subst (λ q. IsPairFact q (phase_of m.phase) (m.begun.bytes ++ x ∷ [])) (sym e) (begun-goes (phase_of m.phase) m.begun.bytes x (h.0).first f)

pub between-none : (m : Machine) (c : Bool) → m.state ≡ state.Between c → IsSound m → m.begun ≡ nothing
between-none m c e s = let h = subst (λ q. IsSoundAt q m) e s in h.0

pub between-placed : (m : Machine) (c : Bool) → m.state ≡ state.Between c → IsSound m → IsPlaced m
between-placed m c e s = let h = subst (λ q. IsSoundAt q m) e s in h.1

-- an answer stays
pub takes-answered : (m : Machine) (x : ℕ) → ((c : Bool) → m.state ≡ state.Between c → ⊥) → (m.state ≡ state.Begun → ⊥) → ((c : Bool) → m.state ≡ state.Pair c → ⊥) → IsSound m → TakesByte m x m
unfolding fed_from
takes-answered m x n b p s = record { sound = s; meant = go m.state n b p }
  where
    go : (q : State) → ((c : Bool) → q ≡ state.Between c → ⊥) → (q ≡ state.Begun → ⊥) → ((c : Bool) → q ≡ state.Pair c → ⊥) →
        meaning_at q (phase_of m.phase) m.start m.begun ≡ fed_from limits (meaning_at q (phase_of m.phase) m.start m.begun) (x ∷ [])
    go (state.Between c) n b p = absurd (n c refl)
    go state.Begun n b p = absurd (b refl)
    go (state.Pair c) n b p = absurd (p c refl)
    go state.Command n b p = refl
    go (state.Failed name at) n b p = refl
    go state.NoMemory n b p = refl
