-- What the end of the input makes of what a collector represents.
use Rattle.std.proofs.Common.{◌≡◌, refl, ℕ, ◌+◌, ◌≤◌, Bool, true, false, List, [], ◌∷◌, length, sym, ap, ◌∙◌, append-nil, subst, arith}
use Rattle.std.specs.Prelude.{Option, Some, None, codes, bytes_eq, if◌then◌else◌}
use Rattle.std.proofs.lemmas.List.{take_all}
use Rattle.eo_base.specs.declared.FaultName.TheVariants.{Unclosed, CommandLong, TokenLong}
use Rattle.eo_base.specs.Limits.{limits}
use Rattle.eo_sexp.specs.Spot.{Spot}
use Rattle.eo_sexp.specs.declared.Finished.{Finished}
use Rattle.eo_sexp.specs.declared.Finished.TheVariants as finished
use Rattle.eo_sexp.specs.declared.reader.Reader.{Reader}
use Rattle.eo_sexp.specs.Built.{Built, nothing}
use Rattle.eo_sexp.specs.declared.incremental.State.{State}
use Rattle.eo_sexp.specs.declared.incremental.State.TheVariants as state
use Rattle.eo_sexp.specs.declared.incremental.Machine.{Machine}
use Rattle.eo_sexp.specs.Sexp.{Sexp, Atom}
use Rattle.eo_sexp.specs.Lexicon.{class, is_space, is_word, kind_of, Input, pass}
use Rattle.eo_sexp.specs.Commands.{Cut, at_most, front, span, word, word_before, atom, sexp, command}
use Rattle.eo_sexp.specs.Texts.{Phase, Start, AfterUnsat, InPair, AfterPair, Plain, after, Command, End, strip, answer, so_far, next_from, decided, known, last_atom, end_of, is_unsat, begins_pair, from_front, placed, spot_after}
use Rattle.eo_sexp.specs.Collecting.{Collecting, Within, AtCommand, Failed, becomes, ready, finished_from, finished_with, finish_answer, Finishes}
use Rattle.eo_sexp.specs.Nodes.{first_of}
use Rattle.eo_sexp.specs.Reader.{held, reading, IsWhole}
use Rattle.eo_sexp.specs.Machine.{phase_of, meaning_at, meaning, IsFirst, IsProofStart, IsPairFact, IsBegun, IsPlaced, Completes, Finishing}
use Rattle.eo_sexp.proofs.TokenTurns.{at_most-cut}
use Rattle.eo_sexp.proofs.FedBytes.{strip-first, answer-first, unsat-cut}
use Rattle.eo_sexp.proofs.MachineSteps.{meaning-is, sound-is, here-start, pair-off, begun-meaning, begun-sound}
use Rattle.eo_sexp.proofs.Wrappings.{stripped-none}

-- ---- between two commands

finished-none : (q : Phase) (c : Bool) (start : Spot) → finished_from limits (Within q c start []) ≡ becomes start [] (Within q c start []) (end_of q 0)
unfolding finished_from next_from so_far strip pass answer from_front decided
finished-none q c start = ap (λ h. becomes start [] (Within q c start []) (decided true 0 (answer limits h))) (stripped-none limits q c 0)

between-meaning : (m : Machine) (c : Bool) → m.state ≡ state.Between c → m.begun ≡ nothing → meaning m ≡ Within (phase_of m.phase) c m.start []
between-meaning m c e b = meaning-is m (state.Between c) (phase_of m.phase) m.start nothing e refl refl b

failed-answer : (m : Machine) (at : Spot) → m.state ≡ state.Failed Unclosed at → meaning m ≡ Failed Unclosed at
failed-answer m at e = ap (λ q. meaning_at q (phase_of m.phase) m.start m.begun) e

-- what is open at the end is a fault
fails-open : (old new : Machine) (result : Finished) → finished_from limits (meaning old) ≡ Failed Unclosed old.here → new.state ≡ state.Failed Unclosed old.here → result ≡ finished.Fault Unclosed old.here → Finishing limits old result new
fails-open old new result f e r = record {
  sound = sound-is new (state.Failed Unclosed old.here) e tt;
  meant = failed-answer new old.here e ∙ sym f;
  answer = r ∙ sym (ap finish_answer (failed-answer new old.here e));
}

pub ends-in_pair : (old new : Machine) (result : Finished) (c : Bool) → old.state ≡ state.Between c → old.begun ≡ nothing → IsPlaced old → phase_of old.phase ≡ InPair →
    new.state ≡ state.Failed Unclosed old.here → result ≡ finished.Fault Unclosed old.here → Finishing limits old result new
unfolding end_of becomes spot_after
ends-in_pair old new result c e b l q n r =
    fails-open old new result
    (ap (finished_from limits) (between-meaning old c e b) ∙ ap (λ v. finished_from limits (Within v c old.start [])) q ∙ finished-none InPair c old.start ∙ ap (Failed Unclosed) (sym (here-start old b l))) n r

end-else : (q : Phase) → (q ≡ InPair → ⊥) → end_of q 0 ≡ End
unfolding end_of
end-else Start n = refl
end-else AfterUnsat n = refl
end-else InPair n = absurd (n refl)
end-else AfterPair n = refl
end-else Plain n = refl

pub ends-well : (m : Machine) (c : Bool) → m.state ≡ state.Between c → m.begun ≡ nothing → IsPlaced m → (phase_of m.phase ≡ InPair → ⊥) → Finishing limits m finished.End m
unfolding becomes
ends-well m c e b l n = record {
  sound = sound-is m (state.Between c) e (b, l);
  meant =
      between-meaning m c e b ∙ sym (finished-none (phase_of m.phase) c m.start ∙ ap (becomes m.start [] (Within (phase_of m.phase) c m.start [])) (end-else (phase_of m.phase) n)) ∙ ap (finished_from limits) (sym (between-meaning m c e b));
  answer = sym (ap finish_answer (between-meaning m c e b));
}

-- ---- inside a command

long-enough : (5 ≤ limits.token) × (5 ≤ limits.command)
unfolding limits
long-enough = (omega arith, omega arith)

-- the end would make the word `unsat` an atom
unsat-cut_some : (s : Sexp) × (command limits (codes "unsat") ≡ Cut (Some s))
unfolding command front class is_space is_word sexp atom word word_before span
unsat-cut_some =
    let t : Input = record { at = 0; bytes = codes "unsat" } in
    let s : Sexp = Atom (kind_of (codes "unsat")) (codes "unsat") (record { from = 0; to = 0 + 5 }) in
    (s, ap (at_most CommandLong limits.command t) (at_most-cut TokenLong limits.token t (Some s) long-enough.0) ∙ at_most-cut CommandLong limits.command t (Some s) long-enough.1)

module _ (m : Machine) (h : IsBegun m) (p : IsPairFact m.state (phase_of m.phase) m.begun.bytes) where
  cut-of : (e : Option Sexp) → reading limits (held m.begun m.reader) (length m.begun.bytes) [] ≡ Cut e → command limits m.begun.bytes ≡ Cut e
  unfolding command
  cut-of e r =
      let s : sexp limits (front m.begun.bytes) (record { at = 0; bytes = m.begun.bytes }) ≡ Cut e = ap (λ bs. sexp limits (front m.begun.bytes) (record { at = 0; bytes = bs })) (sym (append-nil m.begun.bytes)) ∙ h.reads [] ∙ r in
      ap (at_most CommandLong limits.command (record { at = 0; bytes = m.begun.bytes })) s ∙ at_most-cut CommandLong limits.command (record { at = 0; bytes = m.begun.bytes }) e h.short

  finished-cut : (e : Option Sexp) → command limits m.begun.bytes ≡ Cut e → finished_from limits (meaning m)
      ≡ becomes m.start m.begun.bytes (Within (phase_of m.phase) false m.start m.begun.bytes) (decided true (length m.begun.bytes) (known (phase_of m.phase) (record { at = 0; bytes = m.begun.bytes }) (Cut e)))
  unfolding front finished_from next_from so_far
  finished-cut e c =
      ap (finished_from limits) (begun-meaning m.state (phase_of m.phase) m.begun.bytes (phase_of m.phase) m.start m.begun p)
      ∙ ap (λ a. becomes m.start m.begun.bytes (Within (phase_of m.phase) false m.start m.begun.bytes) (decided true (length m.begun.bytes) a))
      (go m.begun.bytes h.first (pair-off m.state (phase_of m.phase) m.begun.bytes p) c)
    where
      go : (bytes : List ℕ) → IsFirst (front bytes) → (IsProofStart (phase_of m.phase) → begins_pair limits (record { at = 0; bytes = bytes }) ≡ false) → command limits bytes ≡ Cut e →
          answer limits (strip limits (phase_of m.phase) false (record { at = 0; bytes = bytes })) ≡ known (phase_of m.phase) (record { at = 0; bytes = bytes }) (Cut e)
      go [] f o c = absurd f
      go (y ∷ zs) f o c =
          ap (answer limits) (strip-first limits y zs f (phase_of m.phase) h.inside o (λ q. ap (is_unsat (y ∷ zs)) c ∙ unsat-cut limits (y ∷ zs) e))
          ∙ answer-first limits y zs f (phase_of m.phase) h.inside ∙ ap (known (phase_of m.phase) (record { at = 0; bytes = y ∷ zs })) c

  -- something is open
  pub ends-open : (new : Machine) (result : Finished) → IsPlaced m → reading limits (held m.begun m.reader) (length m.begun.bytes) [] ≡ Cut None → new.state ≡ state.Failed Unclosed m.here → result ≡ finished.Fault Unclosed m.here → Finishing limits m result new
  unfolding known decided becomes
  ends-open new result l r n a =
      fails-open m new result
      (finished-cut None (cut-of None r) ∙ ap (λ bs. Failed Unclosed (spot_after m.start bs)) (take_all (0 + length m.begun.bytes) m.begun.bytes (omega arith)) ∙ ap (Failed Unclosed) (sym l.here)) n a

  last-command : (q : Phase) (s : Sexp) (bytes : List ℕ) → (q ≡ Start → bytes_eq bytes (codes "unsat") ≡ false) → last_atom q s (record { at = 0; bytes = bytes }) ≡ Command s 0 (length bytes) (after q)
  unfolding last_atom after
  last-command Start s bytes u = ap (λ b. if b then End else Command s 0 (length bytes) Plain) (u refl)
  last-command AfterUnsat s bytes u = refl
  last-command InPair s bytes u = refl
  last-command AfterPair s bytes u = refl
  last-command Plain s bytes u = refl

  -- the end makes an atom whole
  pub ends-command : (new : Machine) (s : Sexp) (r : Reader) (v : Built) → IsPlaced m → v.bytes ≡ m.begun.bytes → IsWhole v s → reading limits (held m.begun m.reader) (length m.begun.bytes) [] ≡ Cut (Some s) →
      (phase_of m.phase ≡ Start → bytes_eq m.begun.bytes (codes "unsat") ≡ false) → Completes (record m { reader = r; begun = v }) new → Finishing limits m finished.Command new
  unfolding known decided becomes placed spot_after
  ends-command new s reader v l same w r u k =
      let b : new.begun.bytes ≡ m.begun.bytes = ap (λ (w : Built). w.bytes) k.begun ∙ same in
      let whole : IsWhole new.begun s = subst (λ w. IsWhole w s) (sym k.begun) w in
      let means : meaning new ≡ AtCommand (record { sexp = s; bytes = m.begun.bytes; start = m.start }) (after (phase_of m.phase)) =
      meaning-is new state.Command (after (phase_of m.phase)) m.start new.begun k.state k.phase k.start refl
      ∙ ap (λ ss. AtCommand (record { sexp = first_of ss; bytes = new.begun.bytes; start = m.start }) (after (phase_of m.phase))) whole.done
      ∙ ap (λ bs. AtCommand (record { sexp = s; bytes = bs; start = m.start }) (after (phase_of m.phase))) b in
      record {
        sound = sound-is new state.Command k.state (
          (s, whole),
          record {
            here = k.here ∙ l.here ∙ ap (spot_after m.start) (sym b) ∙ ap (λ (v : Spot). spot_after v new.begun.bytes) (sym k.start);
            line = subst (λ (v : Spot). v.line ≤ v.offset + 1) (sym k.here) l.line;
          },
        );
        meant =
            means
            ∙ ap (λ bs. AtCommand (record { sexp = s; bytes = bs; start = m.start }) (after (phase_of m.phase))) (sym (take_all (length m.begun.bytes) m.begun.bytes (omega arith)))
            ∙ sym (ap (λ n. becomes m.start m.begun.bytes (Within (phase_of m.phase) false m.start m.begun.bytes) n) (last-command (phase_of m.phase) s m.begun.bytes u))
            ∙ sym (finished-cut (Some s) (cut-of (Some s) r));
        answer = sym (ap finish_answer means);
      }

  some-unsat : (e : Sexp) → last_atom Start e (record { at = 0; bytes = codes "unsat" }) ≡ End
  unfolding last_atom
  some-unsat e = refl

  -- the word that a proof may begin with ends it
  pub ends-unsat : IsPlaced m → phase_of m.phase ≡ Start → m.begun.bytes ≡ codes "unsat" → Finishing limits m finished.End m
  unfolding known decided becomes
  ends-unsat l q u =
      let c = unsat-cut_some in
      let means : meaning m ≡ Within (phase_of m.phase) false m.start m.begun.bytes = begun-meaning m.state (phase_of m.phase) m.begun.bytes (phase_of m.phase) m.start m.begun p in
      record {
        sound = begun-sound m.state m refl p h l;
        meant =
            means
            ∙ sym (finished-cut (Some c.0) (ap (command limits) u ∙ c.1)
            ∙ ap (λ v. becomes m.start m.begun.bytes (Within (phase_of m.phase) false m.start m.begun.bytes) (last_atom v c.0 (record { at = 0; bytes = m.begun.bytes }))) q
            ∙ ap (λ bs. becomes m.start m.begun.bytes (Within (phase_of m.phase) false m.start m.begun.bytes) (last_atom Start c.0 (record { at = 0; bytes = bs }))) u
            ∙ ap (becomes m.start m.begun.bytes (Within (phase_of m.phase) false m.start m.begun.bytes)) (some-unsat c.0));
        answer = sym (ap finish_answer means);
      }

-- ---- a call

pub finishes-from : (c : Collecting) (mid new : Machine) (result : Finished) → meaning mid ≡ ready c → Finishing limits mid result new → Finishes limits c result (meaning new)
unfolding finished_with
finishes-from c mid new result e f = (f.meant ∙ ap (finished_from limits) e, f.answer)

standing : (s : State) (q : Phase) (start : Spot) (b : Built) → ((comment : Bool) → s ≡ state.Between comment → ⊥) → (s ≡ state.Begun → ⊥) → ((comment : Bool) → s ≡ state.Pair comment → ⊥) →
    finished_from limits (meaning_at s q start b) ≡ meaning_at s q start b
unfolding finished_from
standing (state.Between comment) q start b f g h = absurd (f comment refl)
standing state.Begun q start b f g h = absurd (g refl)
standing (state.Pair comment) q start b f g h = absurd (h comment refl)
standing state.Command q start b f g h = refl
standing (state.Failed name at) q start b f g h = refl
standing state.NoMemory q start b f g h = refl

pub finishes-standing : (c : Collecting) (mid : Machine) → meaning mid ≡ ready c → ((comment : Bool) → mid.state ≡ state.Between comment → ⊥) → (mid.state ≡ state.Begun → ⊥) → ((comment : Bool) → mid.state ≡ state.Pair comment → ⊥) →
    Finishes limits c (finish_answer (meaning mid)) (meaning mid)
unfolding finished_with
finishes-standing c mid e f g h = (sym (standing mid.state (phase_of mid.phase) mid.start mid.begun f g h) ∙ ap (finished_from limits) e, refl)
