-- What a byte makes of what a collector represents.
use Rattle.std.proofs.Common.{◌≡◌, refl, ℕ, false, List, [], ◌∷◌, ◌++◌, length, take, ap, ◌∙◌, arith, subst}
use Rattle.std.specs.Prelude.{Option, Some, None, codes, bytes_eq}
use Rattle.std.proofs.Math.Seq.{take-append_seam}
use Rattle.eo_base.specs.declared.FaultName.{FaultName}
use Rattle.eo_base.specs.Limits.{Limits}
use Rattle.eo_sexp.specs.Spot.{Spot}
use Rattle.eo_sexp.specs.Sexp.{Sexp}
use Rattle.eo_sexp.specs.Lexicon.{Class, Open, Quote, Bar, Word, class, Input, is_one_of}
use Rattle.eo_sexp.specs.Commands.{Reading, Whole, Refused, Cut, command}
use Rattle.eo_sexp.specs.Texts.{Phase, Start, AfterUnsat, InPair, AfterPair, Plain, after, Held, hold, is_unsat, begins_pair, stripped, strip, is_extra, known, from_token, from_front, answer, spot_after, placed, begins_one_of}
use Rattle.eo_sexp.specs.Collecting.{Within, AtCommand, Failed, becomes, waiting, on_more, fed_from}
use Rattle.eo_sexp.specs.Machine.{IsProofStart, IsFirst}
use Rattle.eo_sexp.proofs.Passing.{at_byte}
use Rattle.eo_sexp.proofs.Resuming.{StandsStill, pass-front}
use Rattle.eo_sexp.proofs.Stripped.{held_moved}
use Rattle.eo_sexp.proofs.Feeding.{state_of, state-ahead}
use Rattle.eo_sexp.proofs.Parentheses.{no-close}
use Rattle.eo_sexp.proofs.Wrappings.{if_close, if_pair, if_unsat}

pub first-stands : (c : Class) → IsFirst c → StandsStill c
first-stands Open h = tt
first-stands Quote h = tt
first-stands Bar h = tt
first-stands Word h = tt
first-stands c h = absurd h

first-no_close : (y : ℕ) → IsFirst (class y) → is_one_of (codes ")") y ≡ false
first-no_close y h = no-close y (λ e. subst IsFirst e h)

first-not-extra : (phase : Phase) (c : Class) → IsFirst c → (phase ≡ AfterPair → ⊥) → is_extra phase c ≡ false
unfolding is_extra
first-not-extra AfterPair c h i = absurd (i refl)
first-not-extra p Open h i = refl
first-not-extra p Quote h i = refl
first-not-extra p Bar h i = refl
first-not-extra p Word h i = refl
first-not-extra p c h i = absurd h

-- a command begins at the front
unfoldable pub begun : Phase → List ℕ → Held
begun phase bytes = record { phase = phase; comment = false; rest = record { at = 0; bytes = bytes } }

module _ (limits : Limits) where
  module _ (y : ℕ) (zs : List ℕ) (first : IsFirst (class y)) where
    stripped-first : (phase : Phase) → (phase ≡ AfterPair → ⊥) → (IsProofStart phase → begins_pair limits (record { at = 0; bytes = y ∷ zs }) ≡ false) →
        (phase ≡ Start → is_unsat (y ∷ zs) (command limits (y ∷ zs)) ≡ false) → stripped limits 3 phase (at_byte 0 y zs) ≡ begun phase (y ∷ zs)
    unfolding stripped hold begun begins_one_of
    stripped-first Start i p u = ap (λ q. if_unsat limits q (at_byte 0 y zs)) (u refl) ∙ ap (λ q. if_pair q Start (at_byte 0 y zs)) (p tt)
    stripped-first AfterUnsat i p u = ap (λ q. if_pair q AfterUnsat (at_byte 0 y zs)) (p tt)
    stripped-first InPair i p u = ap (λ b. if_close b (at_byte 0 y zs)) (first-no_close y first)
    stripped-first AfterPair i p u = absurd (i refl)
    stripped-first Plain i p u = refl

    pub strip-first : (phase : Phase) → (phase ≡ AfterPair → ⊥) → (IsProofStart phase → begins_pair limits (record { at = 0; bytes = y ∷ zs }) ≡ false) →
        (phase ≡ Start → is_unsat (y ∷ zs) (command limits (y ∷ zs)) ≡ false) → strip limits phase false (record { at = 0; bytes = y ∷ zs }) ≡ begun phase (y ∷ zs)
    unfolding strip
    strip-first phase i p u = ap (stripped limits 3 phase) (pass-front (class y) 0 y zs (first-stands (class y) first) refl) ∙ stripped-first phase i p u

    pub answer-first : (phase : Phase) → (phase ≡ AfterPair → ⊥) → answer limits (begun phase (y ∷ zs)) ≡ known phase (record { at = 0; bytes = y ∷ zs }) (command limits (y ∷ zs))
    unfolding answer from_front from_token begun
    answer-first phase i = ap (λ e. from_token limits e phase (record { at = 0; bytes = y ∷ zs })) (first-not-extra phase (class y) first i)

    -- a command that is begun decides
    pub fed-first : (phase : Phase) (start : Spot) (b piece : List ℕ) (r : Reading Sexp) → b ++ piece ≡ y ∷ zs → (phase ≡ AfterPair → ⊥) → (IsProofStart phase → begins_pair limits (record { at = 0; bytes = y ∷ zs }) ≡ false) →
        command limits (y ∷ zs) ≡ r → (phase ≡ Start → is_unsat (y ∷ zs) r ≡ false) →
        fed_from limits (Within phase false start b) piece ≡ on_more start (y ∷ zs) (begun phase (y ∷ zs)) (known phase (record { at = 0; bytes = y ∷ zs }) r)
    unfolding fed_from state_of
    fed-first phase start b piece r e i p c u =
        let h : strip limits phase false (record { at = 0; bytes = y ∷ zs }) ≡ begun phase (y ∷ zs) = strip-first phase i p (λ s. ap (is_unsat (y ∷ zs)) c ∙ u s) in
        ap (λ bytes. state_of limits start bytes (strip limits phase false (record { at = 0; bytes = bytes }))) e
        ∙ ap (state_of limits start (y ∷ zs)) h
        ∙ ap (on_more start (y ∷ zs) (begun phase (y ∷ zs))) (answer-first phase i ∙ ap (known phase (record { at = 0; bytes = y ∷ zs })) c)

  -- ---- what it decides

  pub on-whole : (phase : Phase) (start : Spot) (bytes taken : List ℕ) (s : Sexp) (rest : Input) → take rest.at bytes ≡ taken →
      on_more start bytes (begun phase bytes) (known phase (record { at = 0; bytes = bytes }) (Whole s rest)) ≡ AtCommand (record { sexp = s; bytes = taken; start = start }) (after phase)
  unfolding on_more known becomes placed spot_after
  on-whole phase start bytes taken s rest e = ap (λ bs. AtCommand (record { sexp = s; bytes = bs; start = start }) (after phase)) e

  pub on-refused : (phase : Phase) (start : Spot) (b more : List ℕ) (name : FaultName) (at : ℕ) → at ≡ length b →
      on_more start (b ++ more) (begun phase (b ++ more)) (known phase (record { at = 0; bytes = b ++ more }) (Refused name at)) ≡ Failed name (spot_after start b)
  unfolding on_more known becomes
  on-refused phase start b more name at e = ap (λ n. Failed name (spot_after start (take n (b ++ more)))) (omega arith) ∙ ap (λ bs. Failed name (spot_after start bs)) (take-append_seam b more)

  pub on-cut : (phase : Phase) (start : Spot) (bytes : List ℕ) (e : Option Sexp) → on_more start bytes (begun phase bytes) (known phase (record { at = 0; bytes = bytes }) (Cut e)) ≡ Within phase false start bytes
  unfolding on_more known waiting begun spot_after
  on-cut phase start bytes None = refl
  on-cut phase start bytes (Some s) = refl

  -- ---- the word `unsat`

  pub unsat-cut : (bytes : List ℕ) (e : Option Sexp) → is_unsat bytes (Cut e) ≡ false
  unfolding is_unsat
  unsat-cut bytes e = refl

  pub unsat-refused : (bytes : List ℕ) (name : FaultName) (at : ℕ) → is_unsat bytes (Refused name at) ≡ false
  unfolding is_unsat
  unsat-refused bytes name at = refl

  pub unsat-other : (bytes taken : List ℕ) (s : Sexp) (rest : Input) → take rest.at bytes ≡ taken → bytes_eq taken (codes "unsat") ≡ false → is_unsat bytes (Whole s rest) ≡ false
  unfolding is_unsat
  unsat-other bytes taken s rest e h = ap (λ bs. bytes_eq bs (codes "unsat")) e ∙ h

  -- ---- dropping bytes

  -- what was passed over may be dropped
  pub fed-ahead : (phase ahead : Phase) (start : Spot) (b : List ℕ) (x : ℕ) → strip limits phase false (record { at = 0; bytes = b ++ x ∷ [] }) ≡ held_moved (length b) (strip limits ahead false (record { at = 0; bytes = x ∷ [] })) →
      fed_from limits (Within phase false start b) (x ∷ []) ≡ fed_from limits (Within ahead false (spot_after start b) []) (x ∷ [])
  unfolding fed_from state_of
  fed-ahead phase ahead start b x e =
      ap (state_of limits start (b ++ x ∷ [])) e ∙ state-ahead limits start b (x ∷ []) (strip limits ahead false (record { at = 0; bytes = x ∷ [] }))
