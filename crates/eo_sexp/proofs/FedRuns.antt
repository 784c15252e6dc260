-- What a run of bytes of a command that is begun makes of a collector.
use Rattle.std.proofs.Common.{◌≡◌, refl, ℕ, suc, ◌+◌, ◌≤◌, ◌<◌, false, List, [], ◌∷◌, ◌++◌, length, append-nil, take, take-suc, drop, get_or, sym, ap, ◌∙◌, append_assoc, subst, arith}
use Rattle.std.specs.Prelude.{Option, codes, bytes_eq}
use Rattle.eo_base.specs.Limits.{limits}
use Rattle.eo_base.specs.declared.FaultName.TheVariants.{CommandLong}
use Rattle.eo_base.specs.declared.FaultName.{FaultName}
use Rattle.eo_sexp.specs.Spot.{Spot}
use Rattle.eo_sexp.specs.declared.reader.Reader.{Reader}
use Rattle.eo_sexp.specs.declared.reader.ReaderTurn.{ReaderTurn}
use Rattle.eo_sexp.specs.declared.reader.ReaderTurn.TheVariants as turn
use Rattle.eo_sexp.specs.declared.incremental.State.TheVariants as state
use Rattle.eo_sexp.specs.declared.incremental.Machine.{Machine}
use Rattle.eo_sexp.specs.Sexp.{Sexp}
use Rattle.eo_sexp.specs.Built.{Built, nothing}
use Rattle.eo_sexp.specs.Lexicon.{Input, pass}
use Rattle.eo_sexp.specs.Commands.{Cut, at_most, front, sexp, command}
use Rattle.eo_sexp.specs.Texts.{Phase, Start, AfterUnsat, begins_pair, spot_after, begins_one_of}
use Rattle.eo_sexp.specs.Collecting.{Collecting, Within, IsWithin, ready, fed_from, fed_with}
use Rattle.eo_sexp.specs.Reader.{held, RunsTo, StopsAt, Runs}
use Rattle.eo_sexp.specs.Machine.{phase_of, meaning_at, meaning, IsProofStart, IsFirst, IsPairFact, IsBegun, IsSoundAt, IsSound, TakesByte, TakesBytes, Turned, Lengthens, Completes, ClosesCommand, earlier_fault}
use Rattle.eo_sexp.proofs.Feeding.{spot_after-append, joins_pieces}
use Rattle.eo_sexp.proofs.CommandTurns.{front-append}
use Rattle.eo_sexp.proofs.TokenTurns.{at_most-cut}
use Rattle.eo_sexp.proofs.ReaderSteps.{reader-cut}
use Rattle.eo_sexp.proofs.FedBytes.{fed-first, on-cut, unsat-cut}
use Rattle.eo_sexp.proofs.MachineSteps.{first-some, drop-front, pair-off, meaning-is, begun-sound, begun-pair, takes-goes, takes-fault, takes-whole, takes-before, takes-unsat}
use Rattle.eo_sexp.proofs.FedAnswers.{ready-within}

-- ---- after the reader's turn

module _ (old mid new : Machine) (x at : ℕ) (e : at ≡ length mid.begun.bytes) where
  pub turned-goes : Turned old turn.Goes x mid → Lengthens limits mid at x new → TakesByte old x new
  turned-goes h k =
      takes-goes old x h.begun h.pair h.placed mid.reader mid.begun h.bytes new h.turns
      (subst (λ n. Lengthens limits (record old { reader = mid.reader; begun = mid.begun }) n x new) (e ∙ ap length h.bytes) (subst (λ m. Lengthens limits m at x new) h.same k))

  pub turned-whole : Turned old turn.Whole x mid → ClosesCommand limits mid at x new → TakesByte old x new
  turned-whole h k =
      takes-whole old x h.begun h.pair h.placed mid.reader mid.begun h.bytes new h.turns
      (subst (λ n. ClosesCommand limits (record old { reader = mid.reader; begun = mid.begun }) n x new) (e ∙ ap length h.bytes) (subst (λ m. ClosesCommand limits m at x new) h.same k))

  pub turned-fault : (name k : FaultName) → Turned old (turn.Fault name) x mid → k ≡ earlier_fault limits at name → new.state ≡ state.Failed k mid.here → TakesByte old x new
  turned-fault name k h f s =
      takes-fault old x h.begun h.pair h.placed mid.reader mid.begun h.bytes new name h.turns
      (s ∙ ap (λ (m : Machine). state.Failed k m.here) h.same ∙ ap (λ n. state.Failed n old.here) (f ∙ ap (λ n. earlier_fault limits n name) (e ∙ ap length h.bytes)))

module _ (old mid new : Machine) (x : ℕ) (h : Turned old turn.Before x mid) where
  pub turned-before : (phase_of mid.phase ≡ Start → bytes_eq mid.begun.bytes (codes "unsat") ≡ false) → Completes mid new → TakesByte old x new
  turned-before u k =
      takes-before old x h.begun h.pair h.placed mid.reader mid.begun h.bytes new h.turns
      (λ q. subst (λ bs. bytes_eq bs (codes "unsat") ≡ false) h.bytes (u (ap (λ (m : Machine). phase_of m.phase) h.same ∙ q)))
      (subst (λ m. Completes m new) h.same k)

  pub turned-unsat : (left : Machine) → phase_of mid.phase ≡ Start → mid.begun.bytes ≡ codes "unsat" → left.state ≡ state.Between false → left.begun ≡ nothing → left.start ≡ mid.here → phase_of left.phase ≡ AfterUnsat → TakesByte left x new → TakesByte old x new
  turned-unsat left q u s b a p k =
      takes-unsat old x h.begun h.pair h.placed mid.reader mid.begun h.bytes left new h.turns (sym (ap (λ (m : Machine). phase_of m.phase) h.same) ∙ q) (sym h.bytes ∙ u) s b (a ∙ ap (λ (m : Machine). m.here) h.same) p k

-- ---- a run

-- what holds of a command that is begun and is no pair
pub begun-runs : (q : Phase) (b xs : List ℕ) → IsFirst (front b) → IsPairFact state.Begun q b → IsPairFact state.Begun q (b ++ xs)
begun-runs q b xs h f = λ i o more.
    let some : 0 < length b = first-some b h in
    ap (λ bs. begins_one_of (codes "()") (pass false 1 (bs ++ more)).rest.bytes) (drop-front b xs some)
    ∙ ap (λ bs. begins_one_of (codes "()") (pass false 1 bs).rest.bytes) (append_assoc (drop 1 b) xs more)
    ∙ f i (sym (front-append b xs some) ∙ o) (xs ++ more)

module _ (old new : Machine) (rest : List ℕ) (n k : ℕ) (e : old.state ≡ state.Begun) (sound : IsSound old) (run : RunsTo limits old.begun old.reader rest n k new.begun new.reader) where
  parts : IsSoundAt state.Begun old
  parts = subst (λ q. IsSoundAt q old) e sound

  some : 0 < length old.begun.bytes
  some = first-some old.begun.bytes (parts.0).first

  first-all : IsFirst (front (old.begun.bytes ++ (take n rest)))
  first-all = subst IsFirst (sym (front-append old.begun.bytes (take n rest) some)) (parts.0).first

  pair-all : IsPairFact state.Begun (phase_of old.phase) (old.begun.bytes ++ (take n rest))
  pair-all = begun-runs (phase_of old.phase) old.begun.bytes (take n rest) (parts.0).first (subst (λ q. IsPairFact q (phase_of old.phase) old.begun.bytes) e parts.1)

  cut : (r : Option Sexp) × (command limits (old.begun.bytes ++ (take n rest)) ≡ Cut r)
  unfolding command
  cut =
      let c = reader-cut limits (held new.begun new.reader) (length new.begun.bytes) run.reader in
      let t : Input = record { at = 0; bytes = old.begun.bytes ++ (take n rest) } in (
        c.0,
        ap (λ k. at_most CommandLong limits.command t (sexp limits k t)) (front-append old.begun.bytes (take n rest) some)
            ∙ ap (at_most CommandLong limits.command t)
            (ap (λ bs. sexp limits (front old.begun.bytes) (record { at = 0; bytes = old.begun.bytes ++ bs })) (sym (append-nil (take n rest))) ∙ (parts.0).reads ((take n rest) ++ []) ∙ run.reads [] ∙ c.1)
            ∙ at_most-cut CommandLong limits.command t c.0 (omega (arith, run.short, ap length run.bytes)),
      )

  fed : fed_from limits (Within (phase_of old.phase) false old.start old.begun.bytes) (take n rest) ≡ Within (phase_of old.phase) false old.start (old.begun.bytes ++ (take n rest))
  unfolding front
  fed = go (old.begun.bytes ++ (take n rest)) refl first-all (pair-off state.Begun (phase_of old.phase) (old.begun.bytes ++ (take n rest)) pair-all) cut.1
    where
      go : (bytes : List ℕ) → old.begun.bytes ++ (take n rest) ≡ bytes → IsFirst (front bytes) → (IsProofStart (phase_of old.phase) → begins_pair limits (record { at = 0; bytes = bytes }) ≡ false) →
          command limits bytes ≡ Cut cut.0 →
          fed_from limits (Within (phase_of old.phase) false old.start old.begun.bytes) (take n rest) ≡ Within (phase_of old.phase) false old.start bytes
      go [] f g o c = absurd g
      go (y ∷ zs) f g o c =
          fed-first limits y zs g (phase_of old.phase) old.start old.begun.bytes (take n rest) (Cut cut.0) f (parts.0).inside o c (λ s. unsat-cut limits (y ∷ zs) cut.0)
          ∙ on-cut limits (phase_of old.phase) old.start (y ∷ zs) cut.0

  pub takes-run : new.state ≡ old.state → new.start ≡ old.start → new.phase ≡ old.phase → new.here ≡ record { line = old.here.line + k; offset = old.here.offset + n } → TakesBytes old (take n rest) new
  takes-run s a p h =
      let now : new.state ≡ state.Begun = s ∙ e in
      let place : new.here ≡ spot_after new.start new.begun.bytes =
      h ∙ sym (run.place old.here)
      ∙ ap (λ (v : Spot). spot_after v (take n rest)) (parts.2).here
      ∙ sym (spot_after-append old.start old.begun.bytes (take n rest))
      ∙ ap (spot_after old.start) (sym run.bytes)
      ∙ ap (λ (v : Spot). spot_after v new.begun.bytes) (sym a) in
      let line : new.here.line ≤ new.here.offset + 1 = omega (arith, (parts.2).line, run.counted, ap (λ (v : Spot). v.line) h, ap (λ (v : Spot). v.offset) h) in
      let begun-new : IsBegun new = record {
        first = subst (λ bs. IsFirst (front bs)) (sym run.bytes) first-all;
        inside = λ w. (parts.0).inside (ap phase_of (sym p) ∙ w);
        reader = run.reader;
        reads = λ more.
            ap (λ bs. sexp limits (front bs) (record { at = 0; bytes = bs ++ more })) run.bytes
            ∙ ap (λ c. sexp limits c (record { at = 0; bytes = (old.begun.bytes ++ (take n rest)) ++ more })) (front-append old.begun.bytes (take n rest) some)
            ∙ ap (λ bs. sexp limits (front old.begun.bytes) (record { at = 0; bytes = bs })) (append_assoc old.begun.bytes (take n rest) more)
            ∙ (parts.0).reads ((take n rest) ++ more)
            ∙ run.reads more;
        short = run.short;
      } in
      let pair : IsPairFact state.Begun (phase_of new.phase) new.begun.bytes = subst (λ q. IsPairFact state.Begun (phase_of q) new.begun.bytes) (sym p) (subst (IsPairFact state.Begun (phase_of old.phase)) (sym run.bytes) pair-all) in
      record {
        sound = begun-sound state.Begun new now pair begun-new (record { here = place; line = line });
        meant =
            meaning-is new state.Begun (phase_of old.phase) old.start new.begun now (ap phase_of p) a refl
            ∙ ap (Within (phase_of old.phase) false old.start) run.bytes
            ∙ sym fed
            ∙ ap (λ m. fed_from limits m (take n rest)) (sym (meaning-is old state.Begun (phase_of old.phase) old.start old.begun e refl refl refl));
      }

-- ---- the byte after a run

pub begun-within : (m : Machine) → m.state ≡ state.Begun → IsWithin (meaning m)
begun-within m e = subst (λ q. IsWithin (meaning_at q (phase_of m.phase) m.start m.begun)) (sym e) tt

fed-then : (c d : Collecting) (p q : List ℕ) → IsWithin c → IsWithin d → d ≡ fed_from limits c p → fed_from limits d q ≡ fed_from limits c (p ++ q)
unfolding fed_with
fed-then c d p q w v e =
    let same : fed_with limits c p ≡ d = ap (λ k. fed_from limits k p) (ready-within c w) ∙ sym e in
    ap (λ k. fed_from limits k q) (sym (ready-within d v) ∙ ap ready (sym same))
    ∙ joins_pieces limits c p q (subst IsWithin (sym same) v)
    ∙ ap (λ k. fed_from limits k (p ++ q)) (ready-within c w)

pub takes-then : (old mid new : Machine) (rest : List ℕ) (n : ℕ) → old.state ≡ state.Begun → mid.state ≡ state.Begun → n < length rest → TakesBytes old (take n rest) mid → TakesByte mid (get_or rest n 0) new → TakesBytes old (take (n + 1) rest) new
takes-then old mid new rest n e f h t k =
    let next : suc n ≡ n + 1 = omega arith in
    let all : take (n + 1) rest ≡ take n rest ++ get_or rest n 0 ∷ [] = ap (λ i. take i rest) (sym next) ∙ take-suc rest n 0 h in
    record {
      sound = k.sound;
      meant =
          k.meant
          ∙ fed-then (meaning old) (meaning mid) (take n rest) (get_or rest n 0 ∷ []) (begun-within old e) (begun-within mid f) t.meant
          ∙ ap (fed_from limits (meaning old)) (sym all);
    }

pub stops-at : (b : Built) (r : Reader) (rest : List ℕ) (n k : ℕ) (t : ReaderTurn) (c : Built) (s : Reader) → (t ≡ turn.Goes → ⊥) → Runs limits b r rest n k t c s → StopsAt limits b r rest n k t c s
stops-at b r rest n k turn.Goes c s o h = absurd (o refl)
stops-at b r rest n k turn.Before c s o h = h
stops-at b r rest n k turn.Whole c s o h = h
stops-at b r rest n k (turn.Fault name) c s o h = h

-- the machine before the byte that decides
abbrev pub stopped : Machine → (n k : ℕ) → Built → Reader → Machine
stopped m n k b r = record m { here = record { line = m.here.line + k; offset = m.here.offset + n }; begun = b; reader = r }

pub stopped-takes : (m : Machine) (rest : List ℕ) (n k : ℕ) (b : Built) (r : Reader) → m.state ≡ state.Begun → IsSound m → RunsTo limits m.begun m.reader rest n k b r → TakesBytes m (take n rest) (stopped m n k b r)
stopped-takes m rest n k b r e s h = takes-run m (stopped m n k b r) rest n k e s h refl refl refl refl

pub run-turned : (m : Machine) (rest : List ℕ) (n k : ℕ) (t : ReaderTurn) (c : Built) (u : Reader) → m.state ≡ state.Begun → IsSound m → (h : StopsAt limits m.begun m.reader rest n k t c u) →
    Turned (stopped m n k h.buffer h.reader) t (get_or rest n 0) (stopped m n k c u)
run-turned m rest n k t c u e s h =
    let mid = stopped m n k h.buffer h.reader in
    let taken = stopped-takes m rest n k h.buffer h.reader e s h.run in
    let parts = subst (λ q. IsSoundAt q mid) e taken.sound in
    record {
      begun = parts.0;
      pair = begun-pair mid (get_or rest n 0) e taken.sound;
      placed = parts.2;
      same = refl;
      bytes = h.bytes;
      turns = h.turns;
    }

pub takes-stop : (m new : Machine) (rest : List ℕ) (n k : ℕ) (t : ReaderTurn) (c : Built) (u : Reader) → m.state ≡ state.Begun → IsSound m → StopsAt limits m.begun m.reader rest n k t c u →
    ((old : Machine) → Turned old t (get_or rest n 0) (stopped m n k c u) → TakesByte old (get_or rest n 0) new) → TakesBytes m (take (n + 1) rest) new
takes-stop m new rest n k t c u e s h decided =
    let mid = stopped m n k h.buffer h.reader in
    takes-then m mid new rest n e e h.more (stopped-takes m rest n k h.buffer h.reader e s h.run) (decided mid (run-turned m rest n k t c u e s h))
