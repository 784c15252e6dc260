-- What the results of a collector say to those who read a text by it.
use Rattle.std.proofs.Common.{◌≡◌, refl, ℕ, ◌+◌, ◌≤◌, ap, subst, ◌∙◌, arith}
use Rattle.eo_base.specs.declared.FaultName.{FaultName}
use Rattle.eo_sexp.specs.Spot.{Spot}
use Rattle.eo_sexp.specs.declared.Fed.TheVariants as fed
use Rattle.eo_sexp.specs.declared.Finished.TheVariants as finished
use Rattle.eo_sexp.specs.Texts.{Phase, Placed}
use Rattle.eo_sexp.specs.Collecting.{Collecting, Within, AtCommand, Failed, NoMemory, IsLive, IsWithin, here_of, used, fed_answer, finish_answer}
use Rattle.eo_sexp.specs.Answering.{IsAnswer, IsLexical}

-- one that waits for more can be fed
pub live-within : (c : Collecting) → IsWithin c → IsLive c
live-within (Within phase comment start begun) w = tt
live-within (AtCommand k phase) w = absurd w
live-within (Failed name at) w = absurd w
live-within NoMemory w = absurd w

-- ---- the answers, by what the collector then represents

pub at_more : (c d : Collecting) → IsAnswer d → fed.More ≡ fed_answer c d → IsWithin d
at_more c (Within phase comment start begun) a e = tt
at_more c (AtCommand k phase) a e = absurd cc
at_more c (Failed name at) a e = absurd cc
at_more c NoMemory a e = absurd a

pub record IsCommand (c d : Collecting) (u : ℕ) : Type 0 where
  pub command : Placed
  pub phase : Phase
  pub is : d ≡ AtCommand command phase
  pub size : u ≡ used c (AtCommand command phase)

pub at_command : (c d : Collecting) (u : ℕ) → IsAnswer d → fed.Command u ≡ fed_answer c d → IsCommand c d u
at_command c (Within phase comment start begun) u a e = absurd cc
at_command c (AtCommand k phase) u a e = record { command = k; phase = phase; is = refl; size = cc }
at_command c (Failed name at) u a e = absurd cc
at_command c NoMemory u a e = absurd a

pub record IsFault (d : Collecting) (name : FaultName) (at : Spot) : Type 0 where
  pub is : d ≡ Failed name at
  pub lexical : IsLexical name

pub at_fault : (c d : Collecting) (name : FaultName) (at : Spot) → IsAnswer d → fed.Fault name at ≡ fed_answer c d → IsFault d name at
at_fault c (Within phase comment start begun) name at a e = absurd cc
at_fault c (AtCommand k phase) name at a e = absurd cc
at_fault c (Failed other there) name at a e =
    let same : other ≡ name = cc in
    let place : there ≡ at = cc in
    record { is = ap (λ n. Failed n there) same ∙ ap (Failed name) place; lexical = subst IsLexical same a }
at_fault c NoMemory name at a e = absurd a

pub at_end : (d : Collecting) → IsAnswer d → finished.End ≡ finish_answer d → IsWithin d
at_end (Within phase comment start begun) a e = tt
at_end (AtCommand k phase) a e = absurd cc
at_end (Failed name at) a e = absurd cc
at_end NoMemory a e = absurd a

pub at_end_command : (d : Collecting) → IsAnswer d → finished.Command ≡ finish_answer d → (k : Placed) × (phase : Phase) × (d ≡ AtCommand k phase)
at_end_command (Within phase comment start begun) a e = absurd cc
at_end_command (AtCommand k phase) a e = (k, phase, refl)
at_end_command (Failed name at) a e = absurd cc
at_end_command NoMemory a e = absurd a

pub at_end_fault : (d : Collecting) (name : FaultName) (at : Spot) → IsAnswer d → finished.Fault name at ≡ finish_answer d → IsFault d name at
at_end_fault (Within phase comment start begun) name at a e = absurd cc
at_end_fault (AtCommand k phase) name at a e = absurd cc
at_end_fault (Failed other there) name at a e =
    let same : other ≡ name = cc in
    let place : there ≡ at = cc in
    record { is = ap (λ n. Failed n there) same ∙ ap (Failed name) place; lexical = subst IsLexical same a }
at_end_fault NoMemory name at a e = absurd a

-- a command takes no more than what was there
pub here-used : (c : Collecting) (k : Placed) (phase : Phase) → (here_of (AtCommand k phase)).offset ≤ (here_of c).offset + used c (AtCommand k phase)
here-used c k phase = omega arith
