-- What a byte between two commands makes of what a collector represents, and where the wrappings of a proof are passed over.
use Rattle.std.proofs.Common.{◌≡◌, refl, ℕ, ◌+◌, ◌≤◌, ◌<◌, Bool, true, false, not, List, [], ◌∷◌, ◌++◌, length, drop, sym, ap, ◌∙◌, arith, inl, inr, subst}
use Rattle.std.specs.Prelude.{nat_le, codes, ◌&&◌}
use Rattle.std.proofs.lemmas.Bool.{le-leb}
use Rattle.eo_base.specs.declared.FaultName.TheVariants.{BadByte, ExtraClose}
use Rattle.eo_base.specs.Limits.{Limits}
use Rattle.eo_sexp.specs.Spot.{Spot}
use Rattle.eo_sexp.specs.Sexp.{Sexp}
use Rattle.eo_sexp.specs.Lexicon.{Class, Space, Comment, Open, Close, Quote, Bar, Word, Other, class, is_space, is_word, is_line_end, advance, pass, is_one_of}
use Rattle.eo_sexp.specs.Commands.{Whole, Refused, front, atom, sexp, command}
use Rattle.eo_sexp.specs.Texts.{Phase, Start, AfterUnsat, InPair, AfterPair, Plain, hold, is_unsat, begins_pair, stripped, strip, is_extra, known, from_token, from_front, answer, spot_after, next_spot, begins_one_of, behind}
use Rattle.eo_sexp.specs.Collecting.{Within, Failed, becomes, waiting, on_more, fed_from}
use Rattle.eo_sexp.specs.Machine.{IsProofStart, IsFirst}
use Rattle.eo_sexp.proofs.Passing.{at_byte}
use Rattle.eo_sexp.proofs.Resuming.{StandsStill, pass-front}
use Rattle.eo_sexp.proofs.Stripped.{held_moved, strip-moved}
use Rattle.eo_sexp.proofs.Feeding.{state_of}
use Rattle.eo_sexp.proofs.ReaderTurns.{pass-space, pass-comment, pass-in_comment}
use Rattle.eo_sexp.proofs.FedBytes.{first-stands, fed-ahead}
use Rattle.eo_sexp.proofs.CommandTurns.{at_most-bad_byte}
use Rattle.eo_sexp.proofs.Parentheses.{paren-class, open-byte, close-byte, no-close, no-unsat, no-pair}
use Rattle.eo_sexp.proofs.Wrappings.{if_close, in_pair, if_pair, before_pair, if_unsat, stripped-none}
use Rattle.eo_sexp.proofs.Joined.{pair_test}

module _ (limits : Limits) where
  -- white space, and bytes of comments
  pub fed-passed : (phase : Phase) (before behind : Bool) (start : Spot) (x : ℕ) → pass before 0 (x ∷ []) ≡ pass behind 1 [] → fed_from limits (Within phase before start []) (x ∷ []) ≡ Within phase behind (next_spot start x) []
  unfolding fed_from strip on_more answer from_front waiting spot_after pass stripped state_of
  fed-passed phase before behind start x e =
      ap (λ p. state_of limits start (x ∷ []) (stripped limits 3 phase p)) e
      ∙ ap (state_of limits start (x ∷ [])) (stripped-none limits phase behind 1)

  pub fed-space : (phase : Phase) (start : Spot) (x : ℕ) → class x ≡ Space → fed_from limits (Within phase false start []) (x ∷ []) ≡ Within phase false (next_spot start x) []
  fed-space phase start x e = fed-passed phase false false start x (pass-space 0 x [] e)

  pub fed-comment : (phase : Phase) (start : Spot) (x : ℕ) → class x ≡ Comment → fed_from limits (Within phase false start []) (x ∷ []) ≡ Within phase true (next_spot start x) []
  fed-comment phase start x e = fed-passed phase false true start x (pass-comment 0 x [] e)

  pub fed-in_comment : (phase : Phase) (start : Spot) (x : ℕ) → fed_from limits (Within phase true start []) (x ∷ []) ≡ Within phase (not (is_line_end x)) (next_spot start x) []
  fed-in_comment phase start x = fed-passed phase true (not (is_line_end x)) start x (pass-in_comment 0 x [])

  -- ---- a byte that no command begins with

  held-byte : (c : Class) (phase : Phase) (x : ℕ) → StandsStill c → class x ≡ c → stripped limits 3 phase (at_byte 0 x []) ≡ hold phase (at_byte 0 x []) →
      strip limits phase false (record { at = 0; bytes = x ∷ [] }) ≡ record { phase = phase; comment = false; rest = record { at = 0; bytes = x ∷ [] } }
  unfolding strip hold
  held-byte c phase x s e h = ap (stripped limits 3 phase) (pass-front c 0 x [] s e) ∙ h

  -- where no wrapping is
  no_pair-held : (phase : Phase) (x : ℕ) → (class x ≡ Open → ⊥) → before_pair limits phase (at_byte 0 x []) ≡ hold phase (at_byte 0 x [])
  unfolding front
  no_pair-held phase x f = ap (λ b. if_pair b phase (at_byte 0 x [])) (no-pair limits (record { at = 0; bytes = x ∷ [] }) f)

  start-held : (x : ℕ) → (class x ≡ Word → ⊥) → (class x ≡ Open → ⊥) → stripped limits 3 Start (at_byte 0 x []) ≡ hold Start (at_byte 0 x [])
  unfolding stripped
  start-held x w f = ap (λ b. if_unsat limits b (at_byte 0 x [])) (no-unsat x [] (command limits (x ∷ [])) w) ∙ no_pair-held Start x f

  other-held : (phase : Phase) (x : ℕ) → class x ≡ Other → stripped limits 3 phase (at_byte 0 x []) ≡ hold phase (at_byte 0 x [])
  unfolding stripped begins_one_of
  other-held Start x e = start-held x (λ w. let f : Other ≡ Word = sym e ∙ w in cc) (λ o. let f : Other ≡ Open = sym e ∙ o in cc)
  other-held AfterUnsat x e = no_pair-held AfterUnsat x (λ o. let f : Other ≡ Open = sym e ∙ o in cc)
  other-held InPair x e = ap (λ b. if_close b (at_byte 0 x [])) (no-close x (λ o. let f : Other ≡ Close = sym e ∙ o in cc))
  other-held AfterPair x e = refl
  other-held Plain x e = refl

  not-extra : (phase : Phase) → is_extra phase Other ≡ false
  unfolding is_extra
  not-extra Start = refl
  not-extra AfterUnsat = refl
  not-extra InPair = refl
  not-extra AfterPair = refl
  not-extra Plain = refl

  other-command : (x : ℕ) → class x ≡ Other → command limits (x ∷ []) ≡ Refused BadByte 0
  unfolding command front sexp atom
  other-command x e = rw (e, sexp) (at_most-bad_byte limits.command (record { at = 0; bytes = x ∷ [] }) 0 (omega arith))

  pub fed-bad : (phase : Phase) (start : Spot) (x : ℕ) → class x ≡ Other → fed_from limits (Within phase false start []) (x ∷ []) ≡ Failed BadByte start
  unfolding fed_from on_more answer from_front from_token known becomes spot_after state_of
  fed-bad phase start x e =
      ap (state_of limits start (x ∷ [])) (held-byte Other phase x tt e (other-held phase x e))
      ∙ ap (λ q. on_more start (x ∷ []) (record { phase = phase; comment = false; rest = record { at = 0; bytes = x ∷ [] } }) (from_token limits q phase (record { at = 0; bytes = x ∷ [] }))) (ap (is_extra phase) e ∙ not-extra phase)
      ∙ ap (λ r. on_more start (x ∷ []) (record { phase = phase; comment = false; rest = record { at = 0; bytes = x ∷ [] } }) (known phase (record { at = 0; bytes = x ∷ [] }) r)) (other-command x e)

  close-held : (phase : Phase) (x : ℕ) → (phase ≡ InPair → ⊥) → class x ≡ Close → stripped limits 3 phase (at_byte 0 x []) ≡ hold phase (at_byte 0 x [])
  unfolding stripped front begins_pair is_unsat begins_one_of
  close-held Start x i e = start-held x (λ w. let f : Close ≡ Word = sym e ∙ w in cc) (λ o. let f : Close ≡ Open = sym e ∙ o in cc)
  close-held AfterUnsat x i e = no_pair-held AfterUnsat x (λ o. let f : Close ≡ Open = sym e ∙ o in cc)
  close-held InPair x i e = absurd (i refl)
  close-held AfterPair x i e = refl
  close-held Plain x i e = refl

  extra-fails : (phase : Phase) (start : Spot) (x : ℕ) → is_extra phase (class x) ≡ true → strip limits phase false (record { at = 0; bytes = x ∷ [] }) ≡ record { phase = phase; comment = false; rest = record { at = 0; bytes = x ∷ [] } } →
      fed_from limits (Within phase false start []) (x ∷ []) ≡ Failed ExtraClose start
  unfolding fed_from on_more answer from_front from_token becomes spot_after state_of
  extra-fails phase start x e h =
      ap (state_of limits start (x ∷ [])) h
      ∙ ap (λ q. on_more start (x ∷ []) (record { phase = phase; comment = false; rest = record { at = 0; bytes = x ∷ [] } }) (from_token limits q phase (record { at = 0; bytes = x ∷ [] }))) e

  close-extra : (phase : Phase) → is_extra phase Close ≡ true
  unfolding is_extra
  close-extra Start = refl
  close-extra AfterUnsat = refl
  close-extra InPair = refl
  close-extra AfterPair = refl
  close-extra Plain = refl

  pub fed-extra_close : (phase : Phase) (start : Spot) (x : ℕ) → (phase ≡ InPair → ⊥) → class x ≡ Close → fed_from limits (Within phase false start []) (x ∷ []) ≡ Failed ExtraClose start
  fed-extra_close phase start x i e = extra-fails phase start x (ap (is_extra phase) e ∙ close-extra phase) (held-byte Close phase x tt e (close-held phase x i e))

  first-extra : (c : Class) → IsFirst c → is_extra AfterPair c ≡ true
  unfolding is_extra
  first-extra Open h = refl
  first-extra Quote h = refl
  first-extra Bar h = refl
  first-extra Word h = refl
  first-extra c h = absurd h

  -- a token after the outer pair
  pub fed-after_pair : (start : Spot) (x : ℕ) → IsFirst (class x) → fed_from limits (Within AfterPair false start []) (x ∷ []) ≡ Failed ExtraClose start
  unfolding stripped
  fed-after_pair start x h = extra-fails AfterPair start x (first-extra (class x) h) (held-byte (class x) AfterPair x (first-stands (class x) h) refl refl)

  -- the `)` of the outer pair
  pub fed-close : (start : Spot) (x : ℕ) → class x ≡ Close → fed_from limits (Within InPair false start []) (x ∷ []) ≡ Within AfterPair false (next_spot start x) []
  unfolding fed_from strip stripped front hold on_more answer from_front waiting spot_after state_of pass advance behind begins_one_of
  fed-close start x e =
      ap (λ p. state_of limits start (x ∷ []) (stripped limits 3 InPair p)) (pass-front Close 0 x [] tt e)
      ∙ ap (λ b. state_of limits start (x ∷ []) (if_close b (at_byte 0 x []))) (close-byte x e)

  -- ---- the wrappings of a proof

  paren-stands : (x : ℕ) → is_one_of (codes "()") x ≡ true → StandsStill (class x)
  paren-stands x h = elim (paren-class x h) [ inl o ↦ subst StandsStill (sym o) tt | inr c ↦ subst StandsStill (sym c) tt ]

  -- the `(` at the front is the outer pair
  begins-at : (y n x : ℕ) (ys : List ℕ) → class y ≡ Open → n ≤ limits.command → is_one_of (codes "()") x ≡ true → pass false 1 (ys ++ x ∷ []) ≡ pass false n (x ∷ []) → begins_pair limits (record { at = 0; bytes = y ∷ (ys ++ x ∷ []) }) ≡ true
  unfolding begins_pair behind advance pair_test begins_one_of
  begins-at y n x ys e h p f =
      ap (λ q. q && pair_test (0 + limits.command) (pass false 1 (ys ++ x ∷ []))) (open-byte y e)
      ∙ ap (pair_test (0 + limits.command)) (f ∙ pass-front (class x) n x [] (paren-stands x p) refl)
      ∙ ap (λ q. q && nat_le n (0 + limits.command)) p
      ∙ le-leb n (0 + limits.command) (omega arith)

  strip-pair : (phase : Phase) (y n x : ℕ) (ys : List ℕ) → IsProofStart phase → class y ≡ Open → n ≤ limits.command → is_one_of (codes "()") x ≡ true → pass false 1 (ys ++ x ∷ []) ≡ pass false n (x ∷ []) →
      stripped limits 3 phase (at_byte 0 y (ys ++ x ∷ [])) ≡ in_pair (pass false n (x ∷ []))
  unfolding stripped advance behind front begins_pair is_unsat begins_one_of
  strip-pair Start y n x ys s e h p f =
      ap (λ b. if_unsat limits b (at_byte 0 y (ys ++ x ∷ []))) (no-unsat y (ys ++ x ∷ []) (command limits (y ∷ (ys ++ x ∷ []))) (λ w. let g : Open ≡ Word = sym e ∙ w in cc))
      ∙ ap (λ q. if_pair q Start (at_byte 0 y (ys ++ x ∷ []))) (begins-at y n x ys e h p f)
      ∙ ap in_pair f
  strip-pair AfterUnsat y n x ys s e h p f = ap (λ q. if_pair q AfterUnsat (at_byte 0 y (ys ++ x ∷ []))) (begins-at y n x ys e h p f) ∙ ap in_pair f
  strip-pair InPair y n x ys s e h p f = absurd s
  strip-pair AfterPair y n x ys s e h p f = absurd s
  strip-pair Plain y n x ys s e h p f = absurd s

  pair-ahead : (phase : Phase) (b : List ℕ) (x : ℕ) → IsProofStart phase → front b ≡ Open → 0 < length b → length b ≤ limits.command → is_one_of (codes "()") x ≡ true → pass false 1 (drop 1 b ++ x ∷ []) ≡ pass false (length b) (x ∷ []) →
      strip limits phase false (record { at = 0; bytes = b ++ x ∷ [] }) ≡ held_moved (length b) (strip limits InPair false (record { at = 0; bytes = x ∷ [] }))
  unfolding strip stripped front
  pair-ahead phase [] x s e m h p f = absurd (omega arith)
  pair-ahead phase (y ∷ ys) x s e m h p f =
      let n : ℕ = length (y ∷ ys) in
      ap (stripped limits 3 phase) (pass-front Open 0 y (ys ++ x ∷ []) tt e)
      ∙ strip-pair phase y n x ys s e h p f
      ∙ ap (λ k. strip limits InPair false (record { at = k; bytes = x ∷ [] })) (omega arith)
      ∙ strip-moved n limits InPair false (record { at = 0; bytes = x ∷ [] })

  pub fed-pair : (phase : Phase) (start : Spot) (b : List ℕ) (x : ℕ) → IsProofStart phase → front b ≡ Open → 0 < length b → length b ≤ limits.command → is_one_of (codes "()") x ≡ true → pass false 1 (drop 1 b ++ x ∷ []) ≡ pass false (length b) (x ∷ []) →
      fed_from limits (Within phase false start b) (x ∷ []) ≡ fed_from limits (Within InPair false (spot_after start b) []) (x ∷ [])
  fed-pair phase start b x s e m h p f = fed-ahead limits phase InPair start b x (pair-ahead phase b x s e m h p f)

  unsat-word : class 117 ≡ Word
  unfolding class is_space is_word
  unsat-word = refl

  unsat-ahead : (x : ℕ) (s : Sexp) → command limits (codes "unsat" ++ x ∷ []) ≡ Whole s (record { at = 5; bytes = x ∷ [] }) →
      strip limits Start false (record { at = 0; bytes = codes "unsat" ++ x ∷ [] }) ≡ held_moved 5 (strip limits AfterUnsat false (record { at = 0; bytes = x ∷ [] }))
  unfolding strip stripped front is_unsat advance behind
  unsat-ahead x s e =
      let bytes : List ℕ = codes "unsat" ++ x ∷ [] in
      ap (stripped limits 3 Start) (pass-front Word 0 117 (codes "nsat" ++ x ∷ []) tt unsat-word)
      ∙ ap (λ r. if_unsat limits (is_unsat bytes r) (at_byte 0 117 (codes "nsat" ++ x ∷ []))) e
      ∙ strip-moved 5 limits AfterUnsat false (record { at = 0; bytes = x ∷ [] })

  pub fed-unsat : (start : Spot) (b : List ℕ) (x : ℕ) (s : Sexp) → b ≡ codes "unsat" → command limits (b ++ x ∷ []) ≡ Whole s (record { at = length b; bytes = x ∷ [] }) →
      fed_from limits (Within Start false start b) (x ∷ []) ≡ fed_from limits (Within AfterUnsat false (spot_after start b) []) (x ∷ [])
  fed-unsat start b x s e c =
      ap (λ bs. fed_from limits (Within Start false start bs) (x ∷ [])) e
      ∙ fed-ahead limits Start AfterUnsat start (codes "unsat") x (unsat-ahead x s (ap (λ bs. command limits (bs ++ x ∷ [])) (sym e) ∙ c ∙ ap (λ bs. Whole s (record { at = length bs; bytes = x ∷ [] })) e))
      ∙ ap (λ bs. fed_from limits (Within AfterUnsat false (spot_after start bs) []) (x ∷ [])) (sym e)
