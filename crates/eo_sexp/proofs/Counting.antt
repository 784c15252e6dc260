-- `More` takes the whole piece.
use Rattle.std.proofs.Common.{◌≡◌, refl, ℕ, ◌+◌, Bool, true, false, List, [], ◌∷◌, ◌++◌, length, take, sym, ap, ◌∙◌, arith, subst}
use Rattle.std.proofs.Math.Seq.{take-append_seam}
use Rattle.eo_base.specs.Limits.{Limits}
use Rattle.eo_sexp.specs.Spot.{Spot}
use Rattle.eo_sexp.specs.Texts.{Next, Command, End, Fault, next_from, Phase, Start, Held, hold, is_unsat, begins_pair, stripped, strip, end_of, from_front, answer, so_far, next_spot, spot_after, begins_one_of}
use Rattle.eo_sexp.specs.Collecting.{Collecting, Within, AtCommand, Failed, NoMemory, here_of, IsWithin, ready, becomes, waiting, fed_from, fed_with, finished_from, finished_with}
use Rattle.eo_sexp.specs.Lexicon.{pass}
use Rattle.eo_sexp.specs.Commands.{front}
use Rattle.eo_sexp.specs.Answering.{BeginsWaiting, CountsPieces, EndStays}
use Rattle.eo_sexp.proofs.Feeding.{within-waits, spot_after-append, strip-later}
use Rattle.eo_sexp.proofs.Wrappings.{stripped-none}
use Rattle.eo_sexp.specs.Cutting.{IsMore}

pub spot_after-offset : (s : Spot) (bytes : List ℕ) → (spot_after s bytes).offset ≡ s.offset + length bytes
unfolding spot_after next_spot
spot_after-offset s [] = omega arith
spot_after-offset s (x ∷ xs) = spot_after-offset (next_spot s x) xs ∙ omega arith

module _ (limits : Limits) where
  -- what waits after the bytes is at their end
  here-waiting : (phase : Phase) (comment : Bool) (start : Spot) (bytes : List ℕ) → here_of (waiting start bytes (strip limits phase comment (record { at = 0; bytes = bytes }))) ≡ spot_after start bytes
  unfolding waiting
  here-waiting phase comment start bytes =
      let h : Held = strip limits phase comment (record { at = 0; bytes = bytes }) in
      let later = strip-later limits phase comment (record { at = 0; bytes = bytes }) in
      ap (λ i. spot_after (spot_after start (take i bytes)) h.rest.bytes) (later.2 ∙ omega arith)
      ∙ ap (λ bs. spot_after (spot_after start (take (length later.0) bs)) h.rest.bytes) later.1
      ∙ ap (λ bs. spot_after (spot_after start bs) h.rest.bytes) (take-append_seam later.0 h.rest.bytes)
      ∙ sym (spot_after-append start later.0 h.rest.bytes)
      ∙ ap (spot_after start) (sym later.1)

  here-fed : (phase : Phase) (comment : Bool) (start : Spot) (begun p : List ℕ) → IsWithin (fed_from limits (Within phase comment start begun) p) →
      (here_of (fed_from limits (Within phase comment start begun) p)).offset ≡ (spot_after start begun).offset + length p
  unfolding fed_from
  here-fed phase comment start begun p w =
      let bytes : List ℕ = begun ++ p in
      let h : Held = strip limits phase comment (record { at = 0; bytes = bytes }) in
      ap (λ c. (here_of c).offset) (within-waits limits start bytes h (answer limits h) w)
      ∙ ap (λ (s : Spot). s.offset) (here-waiting phase comment start bytes)
      ∙ ap (λ (s : Spot). s.offset) (spot_after-append start begun p)
      ∙ spot_after-offset (spot_after start begun) p

  counts : (c : Collecting) (p : List ℕ) → IsWithin (fed_from limits (ready c) p) → (here_of (fed_from limits (ready c) p)).offset ≡ (here_of c).offset + length p
  unfolding spot_after fed_from
  counts (Within phase comment start begun) p w = here-fed phase comment start begun p w
  counts (AtCommand k phase) p w = here-fed phase false (spot_after k.start k.bytes) [] p w
  counts (Failed name at) p w = absurd w
  counts NoMemory p w = absurd w

  pub counts_pieces : CountsPieces limits
  unfolding fed_with
  counts_pieces c p w = counts c p w

  pub begins_waiting : BeginsWaiting limits
  unfolding so_far strip stripped pass is_unsat begins_pair hold answer from_front end_of front begins_one_of
  begins_waiting true = subst (λ h. IsMore (answer limits h)) (sym (stripped-none limits Start false 0)) tt
  begins_waiting false = tt

becomes-within : (start : Spot) (bytes : List ℕ) (otherwise : Collecting) (n : Next) → IsWithin (becomes start bytes otherwise n) → becomes start bytes otherwise n ≡ otherwise
unfolding becomes
becomes-within start bytes otherwise (Command c from size phase) w = absurd w
becomes-within start bytes otherwise End w = refl
becomes-within start bytes otherwise (Fault name at) w = absurd w

module _ (limits : Limits) where
  pub end_stays : EndStays limits
  unfolding finished_with finished_from spot_after
  end_stays (Within phase comment start begun) w = ap here_of (becomes-within start begun (Within phase comment start begun) (next_from limits true phase comment begun) w)
  end_stays (AtCommand k phase) w = ap here_of (becomes-within (spot_after k.start k.bytes) [] (Within phase false (spot_after k.start k.bytes) []) (next_from limits true phase false []) w)
  end_stays (Failed name at) w = absurd w
  end_stays NoMemory w = absurd w
