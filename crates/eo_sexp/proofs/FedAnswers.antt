-- What feeding a piece answers.
use Rattle.std.proofs.Common.{◌≡◌, refl, ℕ, suc, ◌+◌, ◌-◌, ◌^◌, ◌≤◌, ◌<◌, false, List, [], ◌∷◌, ◌++◌, length, length-drop, length-take-le, get_or, take, drop, drop-cons, drop-drop, take-append-drop, sym, ap, ◌∙◌, subst, inl, inr, arith}
use Rattle.std.specs.Prelude.{Some, None, ◌⊎◌}
use Rattle.std.proofs.lemmas.List.{drop_all}
use Rattle.eo_base.specs.Limits.{limits}
use Rattle.eo_sexp.specs.Spot.{Spot}
use Rattle.eo_sexp.specs.declared.Fed.{Fed}
use Rattle.eo_sexp.specs.declared.Fed.TheVariants as fed
use Rattle.eo_sexp.specs.declared.incremental.State.{State}
use Rattle.eo_sexp.specs.declared.incremental.State.TheVariants as state
use Rattle.eo_sexp.specs.declared.incremental.Machine.{Machine}
use Rattle.eo_sexp.specs.Built.{Built, nothing}
use Rattle.eo_sexp.specs.Texts.{Phase, spot_after}
use Rattle.eo_sexp.specs.Collecting.{Collecting, Within, AtCommand, Failed, NoMemory, here_of, IsWithin, IsLive, ready, fed_from, fed_with, fed_answer, HasNoFault, HasRoom, Feeds}
use Rattle.eo_sexp.specs.Machine.{phase_of, meaning_at, meaning, IsPlaced, IsSoundAt, IsSound, TakesByte, TakesBytes, answer_at, answer_of, FeedsByte, GoesOver, StopsIn}
use Rattle.eo_sexp.proofs.Callers.{live-within}
use Rattle.eo_sexp.proofs.Feeding.{joins_pieces}
use Rattle.eo_sexp.proofs.Counting.{counts_pieces}
use Rattle.eo_sexp.proofs.MachineSteps.{sound-is, placed-left}
use Rattle.eo_sexp.proofs.FedPieces.{fed-stays, idle}

-- ---- places

here-at : (q : State) (m : Machine) → IsSoundAt q m → IsLive (meaning_at q (phase_of m.phase) m.start m.begun) → here_of (meaning_at q (phase_of m.phase) m.start m.begun) ≡ m.here
here-at (state.Between c) m s h = sym (s.1).here
here-at state.Begun m s h = sym (s.2).here
here-at (state.Pair c) m s h = sym (s.2).here
here-at state.Command m s h = sym (s.1).here
here-at (state.Failed name at) m s h = absurd h
here-at state.NoMemory m s h = absurd h

pub here-of : (m : Machine) → IsSound m → IsLive (meaning m) → here_of (meaning m) ≡ m.here
here-of m s h = here-at m.state m s h

pub ready-within : (c : Collecting) → IsWithin c → ready c ≡ c
ready-within (Within phase comment start b) w = refl
ready-within (AtCommand k phase) w = absurd w
ready-within (Failed name at) w = absurd w
ready-within NoMemory w = absurd w

here-ready : (c : Collecting) → here_of (ready c) ≡ here_of c
unfolding spot_after
here-ready (Within phase comment start b) = refl
here-ready (AtCommand k phase) = refl
here-ready (Failed name at) = refl
here-ready NoMemory = refl

ready-faultless : (c : Collecting) → IsWithin (ready c) → HasNoFault c
ready-faultless (Within phase comment start b) w = tt
ready-faultless (AtCommand k phase) w = tt
ready-faultless (Failed name at) w = absurd w
ready-faultless NoMemory w = absurd w

memory-faultless : (c : Collecting) → NoMemory ≡ ready c → HasNoFault c
memory-faultless (Within phase comment start b) e = tt
memory-faultless (AtCommand k phase) e = tt
memory-faultless (Failed name at) e = cc
memory-faultless NoMemory e = tt

-- nothing is returned
none-within : (q : State) (phase : Phase) (start : Spot) (b : Built) (first here : ℕ) → answer_at q first here ≡ None → IsWithin (meaning_at q phase start b)
none-within (state.Between c) phase start b first here e = tt
none-within state.Begun phase start b first here e = tt
none-within (state.Pair c) phase start b first here e = tt
none-within state.Command phase start b first here e = cc
none-within (state.Failed name at) phase start b first here e = cc
none-within state.NoMemory phase start b first here e = cc

-- ---- results

-- the answer of a machine that represents what the piece gives, or has no memory
answers : (q : State) (c : Collecting) (m : Machine) (piece : List ℕ) (first : ℕ) (f : Fed) → m.state ≡ q → IsSoundAt q m → (IsLive (meaning_at q (phase_of m.phase) m.start m.begun) → (here_of c).offset ≡ first) → answer_at q first m.here.offset ≡ Some f →
    ((m.state ≡ state.NoMemory → ⊥) → meaning m ≡ fed_with limits c piece) → HasNoFault c ⊎ (m.state ≡ state.NoMemory → HasNoFault c) → Feeds limits c piece f (meaning m)
answers (state.Between b) c m piece first f e s o a w n = cc
answers state.Begun c m piece first f e s o a w n = cc
answers (state.Pair b) c m piece first f e s o a w n = cc
answers state.Command c m piece first f e s o a w n =
    let is : fed.Command (m.here.offset - first) ≡ f = cc in
    let means : meaning m ≡ meaning_at state.Command (phase_of m.phase) m.start m.begun = ap (λ q. meaning_at q (phase_of m.phase) m.start m.begun) e in
    subst (λ g. Feeds limits c piece g (meaning m)) is
    (w (λ u. cc), ap (λ (h : Spot). fed.Command (h.offset - first)) (s.1).here ∙ ap (λ i. fed.Command ((spot_after m.start m.begun.bytes).offset - i)) (sym (o tt)) ∙ sym (ap (fed_answer c) means))
answers (state.Failed name at) c m piece first f e s o a w n =
    let is : fed.Fault name at ≡ f = cc in
    let means : meaning m ≡ Failed name at = ap (λ q. meaning_at q (phase_of m.phase) m.start m.begun) e in
    subst (λ g. Feeds limits c piece g (meaning m)) is (w (λ u. cc), sym (ap (fed_answer c) means))
answers state.NoMemory c m piece first f e s o a w (inl n) =
    let is : fed.Memory ≡ f = cc in
    subst (λ g. Feeds limits c piece g (meaning m)) is (ap (λ q. meaning_at q (phase_of m.phase) m.start m.begun) e, n)
answers state.NoMemory c m piece first f e s o a w (inr n) =
    let is : fed.Memory ≡ f = cc in
    subst (λ g. Feeds limits c piece g (meaning m)) is (ap (λ q. meaning_at q (phase_of m.phase) m.start m.begun) e, n e)

-- ---- the bytes of a piece in turn

-- so many bytes of the piece are taken, and nothing is returned
pub record IsFeeding (c : Collecting) (piece : List ℕ) (first index : ℕ) (m : Machine) : Type 0 where
  pub sound : IsSound m
  pub within : IsWithin (meaning m)
  pub rest : fed_from limits (meaning m) (drop index piece) ≡ fed_with limits c piece
  pub here : m.here.offset ≡ first + index
  pub origin : (here_of c).offset ≡ first
  pub faultless : HasNoFault c
  pub room : first + length piece ≤ 2 ^ 64 - 2

fed-ready : (c d : Collecting) (piece : List ℕ) → d ≡ ready c → fed_from limits d piece ≡ fed_with limits c piece
unfolding fed_with
fed-ready c d piece e = ap (λ v. fed_from limits v piece) e

fed-standing : (q : State) (phase : Phase) (start : Spot) (b : Built) (piece : List ℕ) (c : Collecting) (first here : ℕ) (f : Fed) → answer_at q first here ≡ Some f → fed_from limits (meaning_at q phase start b) piece ≡ meaning_at q phase start b
unfolding fed_from
fed-standing (state.Between k) phase start b piece c first here f e = cc
fed-standing state.Begun phase start b piece c first here f e = cc
fed-standing (state.Pair k) phase start b piece c first here f e = cc
fed-standing state.Command phase start b piece c first here f e = refl
fed-standing (state.Failed name at) phase start b piece c first here f e = refl
fed-standing state.NoMemory phase start b piece c first here f e = refl

-- before the piece: the answer of earlier stays
pub feeding-stands : (c : Collecting) (m : Machine) (piece : List ℕ) (first : ℕ) (f : Fed) → IsSound m → meaning m ≡ ready c → first ≡ m.here.offset → answer_of first m ≡ Some f → Feeds limits c piece f (meaning m)
feeding-stands c m piece first f s e o a =
    answers m.state c m piece first f refl s (λ l. ap (λ (h : Spot). h.offset) (sym (here-ready c) ∙ ap here_of (sym e) ∙ here-of m s l) ∙ sym o) a
    (λ n. sym (fed-standing m.state (phase_of m.phase) m.start m.begun piece c first m.here.offset f a) ∙ fed-ready c (meaning m) piece e)
    (inr (λ n. memory-faultless c (sym (ap (λ q. meaning_at q (phase_of m.phase) m.start m.begun) n) ∙ e)))

pub feeding-begins : (c : Collecting) (m : Machine) (piece : List ℕ) (first : ℕ) → IsSound m → meaning m ≡ ready c → first ≡ m.here.offset → HasRoom c piece → answer_of first m ≡ None → IsFeeding c piece first 0 m
feeding-begins c m piece first s e f r a =
    let w : IsWithin (meaning m) = none-within m.state (phase_of m.phase) m.start m.begun first m.here.offset a in
    let o : here_of c ≡ m.here = sym (here-ready c) ∙ ap here_of (sym e) ∙ here-of m s (live-within (meaning m) w) in
    let k = ap (λ (h : Spot). h.offset) o in
    record {
      sound = s;
      within = w;
      rest = fed-ready c (meaning m) piece e;
      here = omega (arith, f);
      origin = k ∙ sym f;
      faultless = ready-faultless c (subst IsWithin e w);
      room = omega (arith, r, k, f);
    }

module _ (c : Collecting) (piece : List ℕ) (first index n : ℕ) (xs : List ℕ) (m new : Machine) (h : IsFeeding c piece first index m) (size : length xs ≡ n) (e : drop index piece ≡ xs ++ drop (index + n) piece) (t : TakesBytes m xs new) where
  joined : fed_from limits (meaning m) (xs ++ drop (index + n) piece) ≡ fed_with limits c piece
  joined = ap (fed_from limits (meaning m)) (sym e) ∙ h.rest

  pub feeding-goes : answer_of first new ≡ None → IsFeeding c piece first (index + n) new
  unfolding fed_with
  feeding-goes a =
      let w : IsWithin (meaning new) = none-within new.state (phase_of new.phase) new.start new.begun first new.here.offset a in
      let same : fed_with limits (meaning m) xs ≡ meaning new = ap (λ v. fed_from limits v xs) (ready-within (meaning m) h.within) ∙ sym t.meant in
      let w2 : IsWithin (fed_with limits (meaning m) xs) = subst IsWithin (sym same) w in
      let count = counts_pieces limits (meaning m) xs w2 in
      let before = ap (λ (s : Spot). s.offset) (here-of m h.sound (live-within (meaning m) h.within)) in
      let behind = ap (λ (s : Spot). s.offset) (ap here_of same ∙ here-of new t.sound (live-within (meaning new) w)) in
      record {
        sound = t.sound;
        within = w;
        rest =
            ap (λ v. fed_from limits v (drop (index + n) piece)) (sym (ready-within (meaning new) w) ∙ ap ready (sym same))
            ∙ joins_pieces limits (meaning m) xs (drop (index + n) piece) w2
            ∙ ap (λ v. fed_from limits v (xs ++ drop (index + n) piece)) (ready-within (meaning m) h.within)
            ∙ joined;
        here = omega (arith, count, before, behind, h.here, size);
        origin = h.origin;
        faultless = h.faultless;
        room = h.room;
      }

  pub feeding-answers : (f : Fed) → answer_of first new ≡ Some f → Feeds limits c piece f (meaning new)
  feeding-answers f a =
      answers new.state c new piece first f refl t.sound (λ l. h.origin) a
      (λ q. t.meant ∙ sym (fed-stays (meaning m) xs (drop (index + n) piece) (λ w. not-within new.state (phase_of new.phase) new.start new.begun first new.here.offset f a (subst IsWithin (sym t.meant) w))) ∙ joined)
      (inl h.faultless)
    where
      not-within : (q : State) (phase : Phase) (start : Spot) (b : Built) (first here : ℕ) (f : Fed) → answer_at q first here ≡ Some f → IsWithin (meaning_at q phase start b) → ⊥
      not-within (state.Between k) phase start b first here f e w = cc
      not-within state.Begun phase start b first here f e w = cc
      not-within (state.Pair k) phase start b first here f e w = cc
      not-within state.Command phase start b first here f e w = w
      not-within (state.Failed name at) phase start b first here f e w = w
      not-within state.NoMemory phase start b first here f e w = w

within-more : (c d : Collecting) → IsWithin d → fed.More ≡ fed_answer c d
within-more c (Within phase comment start b) w = refl
within-more c (AtCommand k phase) w = absurd w
within-more c (Failed name at) w = absurd w
within-more c NoMemory w = absurd w

-- after the piece
pub feeding-ends : (c : Collecting) (piece : List ℕ) (first index : ℕ) (m : Machine) → IsFeeding c piece first index m → length piece ≤ index → Feeds limits c piece fed.More (meaning m)
feeding-ends c piece first index m h n =
    (sym (idle m h.sound h.within) ∙ ap (fed_from limits (meaning m)) (sym (drop_all index piece n)) ∙ h.rest, within-more c (meaning m) h.within)

pub feeding-memory : (c : Collecting) (piece : List ℕ) (first index : ℕ) (m new : Machine) → IsFeeding c piece first index m → new.state ≡ state.NoMemory → Feeds limits c piece fed.Memory (meaning new)
feeding-memory c piece first index m new h e = (ap (λ q. meaning_at q (phase_of new.phase) new.start new.begun) e, h.faultless)

-- a command is dropped
pub left-sound : (old new : Machine) → IsPlaced old → new.state ≡ state.Between false → new.begun ≡ nothing → new.start ≡ old.here → new.here ≡ old.here → IsSound new
left-sound old new p e b a h = sound-is new (state.Between false) e (b, placed-left old new p b a h)

drop-next : (piece : List ℕ) (index : ℕ) → index < length piece → drop index piece ≡ (get_or piece index 0 ∷ []) ++ drop (index + 1) piece
drop-next piece index n = let next : suc index ≡ index + 1 = omega arith in drop-cons piece index 0 n ∙ ap (λ i. get_or piece index 0 ∷ drop i piece) next

pub byte-bytes : (m new : Machine) (x : ℕ) → TakesByte m x new → TakesBytes m (x ∷ []) new
byte-bytes m new x t = record { sound = t.sound; meant = t.meant }

-- the byte at an index of the piece was fed, and is answered
pub feed-some : (c : Collecting) (piece : List ℕ) (first index : ℕ) (m new : Machine) (f : Fed) → IsFeeding c piece first index m → index < length piece → FeedsByte m first (get_or piece index 0) (Some f) new → Feeds limits c piece f (meaning new)
feed-some c piece first index m new f h n (inl k) =
    let is : fed.Memory ≡ f = let e = k.1 in cc in
    subst (λ g. Feeds limits c piece g (meaning new)) is (feeding-memory c piece first index m new h k.0)
feed-some c piece first index m new f h n (inr k) = feeding-answers c piece first index 1 (get_or piece index 0 ∷ []) m new h refl (drop-next piece index n) (byte-bytes m new (get_or piece index 0) k.0) f (sym k.1)

-- nothing is returned
pub feed-none : (c : Collecting) (piece : List ℕ) (first index : ℕ) (m new : Machine) → IsFeeding c piece first index m → index < length piece → FeedsByte m first (get_or piece index 0) None new → IsFeeding c piece first (index + 1) new
feed-none c piece first index m new h n (inl k) = let e = k.1 in cc
feed-none c piece first index m new h n (inr k) =
    feeding-goes c piece first index 1 (get_or piece index 0 ∷ []) m new h refl (drop-next piece index n) (byte-bytes m new (get_or piece index 0) k.0) (sym k.1)

pub answered-sound : (m : Machine) → m.state ≡ state.Command → IsSound m → IsPlaced m
answered-sound m e s = let h = subst (λ q. IsSoundAt q m) e s in h.1

-- ---- runs

run-rest : (piece rest : List ℕ) (index n : ℕ) → rest ≡ drop index piece → drop index piece ≡ take n rest ++ drop (index + n) piece
run-rest piece rest index n e = sym (take-append-drop n (drop index piece)) ∙ ap (λ l. take n (drop index piece) ++ l) (drop-drop n index piece) ∙ ap (λ l. take n l ++ drop (index + n) piece) (sym e)

-- a run was fed after an index, and nothing is returned
pub run-none : (c : Collecting) (piece rest : List ℕ) (first index n : ℕ) (m new : Machine) → IsFeeding c piece first index m → rest ≡ drop index piece → GoesOver m first rest n new → IsFeeding c piece first (index + n) new
run-none c piece rest first index n m new h e k = feeding-goes c piece first index n (take n rest) m new h (length-take-le n rest k.within) (run-rest piece rest index n e) k.takes k.answer

-- a run was fed, and is answered
pub run-some : (c : Collecting) (piece rest : List ℕ) (first index : ℕ) (m new : Machine) (f : Fed) → IsFeeding c piece first index m → rest ≡ drop index piece →
    (new.state ≡ state.NoMemory) × (f ≡ fed.Memory) ⊎ StopsIn m first rest f new → Feeds limits c piece f (meaning new)
run-some c piece rest first index m new f h e (inl k) = subst (λ g. Feeds limits c piece g (meaning new)) (sym k.1) (feeding-memory c piece first index m new h k.0)
run-some c piece rest first index m new f h e (inr k) =
    feeding-answers c piece first index k.taken (take k.taken rest) m new h (length-take-le k.taken rest k.within) (run-rest piece rest index k.taken e) k.takes f k.answer

-- before a run there is room for the rest
pub run-room : (c : Collecting) (piece rest : List ℕ) (first index : ℕ) (m : Machine) → IsFeeding c piece first index m → index ≤ length piece → rest ≡ drop index piece → m.here.offset + length rest ≤ 2 ^ 64 - 2
run-room c piece rest first index m h n e = omega (arith, h.here, h.room, n, ap length e, length-drop index piece)

none-taken : (m : Machine) (first : ℕ) (rest : List ℕ) → IsSound m → IsWithin (meaning m) → answer_of first m ≡ None → GoesOver m first rest 0 m
none-taken m first rest s w a = record { within = omega arith; takes = record { sound = s; meant = sym (idle m s w) }; answer = a }

within-none : (q : State) (phase : Phase) (start : Spot) (b : Built) (first here : ℕ) → IsWithin (meaning_at q phase start b) → answer_at q first here ≡ None
within-none (state.Between c) phase start b first here w = refl
within-none state.Begun phase start b first here w = refl
within-none (state.Pair c) phase start b first here w = refl
within-none state.Command phase start b first here w = absurd w
within-none (state.Failed name at) phase start b first here w = absurd w
within-none state.NoMemory phase start b first here w = absurd w

-- no run where no command is begun
pub no-run : (m : Machine) (first : ℕ) (rest : List ℕ) → IsSound m → IsWithin (meaning m) → GoesOver m first rest 0 m
no-run m first rest s w = none-taken m first rest s w (within-none m.state (phase_of m.phase) m.start m.begun first m.here.offset w)
