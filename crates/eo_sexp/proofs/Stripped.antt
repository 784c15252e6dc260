-- What is before a command, in two pieces.
use Rattle.std.proofs.Common.{◌≡◌, refl, ℕ, suc, ◌+◌, Bool, true, false, List, [], ◌∷◌, drop, ap, ◌∙◌, arith, add-suc, add_assoc, not}
use Rattle.std.specs.Prelude.{nat_le, ◌&&◌, codes}
use Rattle.std.proofs.lemmas.Bool.{leb-true, leb-false, lt-leb, le-leb}
use Rattle.eo_base.specs.Limits.{Limits}
use Rattle.eo_sexp.specs.Lexicon.{Class, Space, Comment, Open, Close, Quote, Bar, Word, Other, class, is_line_end, Input, advance, Passed, pass, pass_byte}
use Rattle.eo_sexp.specs.Commands.{command}
use Rattle.eo_sexp.specs.Texts.{Phase, Start, AfterUnsat, InPair, AfterPair, Plain, Held, hold, is_unsat, begins_pair, stripped, strip, begins_one_of, behind}
use Rattle.eo_sexp.proofs.Wrappings.{if_close, in_pair, if_pair, before_pair, if_unsat}

-- ---- the same bytes further on in a text

abbrev pub moved : ℕ → Input → Input
moved k t = record { at = k + t.at; bytes = t.bytes }

abbrev pub passed_moved : ℕ → Passed → Passed
passed_moved k p = record { comment = p.comment; rest = moved k p.rest }

abbrev pub held_moved : ℕ → Held → Held
held_moved k h = record { phase = h.phase; comment = h.comment; rest = moved k h.rest }

module _ (k : ℕ) where
  pass_byte-moved : (c : Class) (at x : ℕ) (xs : List ℕ) → ((b : Bool) → pass b (k + suc at) xs ≡ passed_moved k (pass b (suc at) xs)) →
      pass_byte false x c (λ b. pass b (suc (k + at)) xs) (record { comment = false; rest = record { at = k + at; bytes = x ∷ xs } }) ≡
      passed_moved k (pass_byte false x c (λ b. pass b (suc at) xs) (record { comment = false; rest = record { at = at; bytes = x ∷ xs } }))
  unfolding pass_byte
  pass_byte-moved Space at x xs h = rw add-suc at (h false)
  pass_byte-moved Comment at x xs h = rw add-suc at (h true)
  pass_byte-moved Open at x xs h = refl
  pass_byte-moved Close at x xs h = refl
  pass_byte-moved Quote at x xs h = refl
  pass_byte-moved Bar at x xs h = refl
  pass_byte-moved Word at x xs h = refl
  pass_byte-moved Other at x xs h = refl

  pub pass-moved : (comment : Bool) (at : ℕ) (bytes : List ℕ) → pass comment (k + at) bytes ≡ passed_moved k (pass comment at bytes)
  unfolding pass pass_byte
  pass-moved comment at [] = refl
  pass-moved true at (x ∷ xs) = rw add-suc at (pass-moved (not (is_line_end x)) (suc at) xs)
  pass-moved false at (x ∷ xs) = pass_byte-moved (class x) at x xs (λ b. pass-moved b (suc at) xs)

  -- after n more bytes
  pass-ahead : (at n : ℕ) (bytes : List ℕ) → pass false ((k + at) + n) bytes ≡ passed_moved k (pass false (at + n) bytes)
  pass-ahead at n bytes = rw add_assoc (pass-moved false (at + n) bytes)

  nat_le-moved : (m n : ℕ) → nat_le (k + m) (k + n) ≡ nat_le m n
  nat_le-moved m n = go (nat_le m n) refl
    where
      go : (b : Bool) → nat_le m n ≡ b → nat_le (k + m) (k + n) ≡ b
      go true e = le-leb (k + m) (k + n) (omega (arith, leb-true m n e))
      go false e = lt-leb (k + m) (k + n) (omega (arith, leb-false m n e))

  if_close-moved : (b : Bool) (p : Passed) → if_close b (passed_moved k p) ≡ held_moved k (if_close b p)
  unfolding hold advance behind
  if_close-moved true p = ap (λ q. hold AfterPair q) (pass-ahead p.rest.at 1 (drop 1 p.rest.bytes))
  if_close-moved false p = refl

  in_pair-moved : (p : Passed) → in_pair (passed_moved k p) ≡ held_moved k (in_pair p)
  in_pair-moved p = if_close-moved (begins_one_of (codes ")") p.rest.bytes) p

  if_pair-moved : (b : Bool) (phase : Phase) (p : Passed) → if_pair b phase (passed_moved k p) ≡ held_moved k (if_pair b phase p)
  unfolding hold advance behind
  if_pair-moved true phase p = ap in_pair (pass-ahead p.rest.at 1 (drop 1 p.rest.bytes)) ∙ in_pair-moved (pass false (p.rest.at + 1) (drop 1 p.rest.bytes))
  if_pair-moved false phase p = refl

  module _ (limits : Limits) where
    begins_pair-moved : (t : Input) → begins_pair limits (moved k t) ≡ begins_pair limits t
    unfolding begins_pair behind advance begins_one_of
    begins_pair-moved t =
        ap (λ (q : Passed). begins_one_of (codes "(") t.bytes && (begins_one_of (codes "()") q.rest.bytes && nat_le q.rest.at ((k + t.at) + limits.command))) (pass-ahead t.at 1 (drop 1 t.bytes))
        ∙ ap (λ (b : Bool). begins_one_of (codes "(") t.bytes && (begins_one_of (codes "()") (pass false (t.at + 1) (drop 1 t.bytes)).rest.bytes && b))
        (rw add_assoc (nat_le-moved (pass false (t.at + 1) (drop 1 t.bytes)).rest.at (t.at + limits.command)))

    before_pair-moved : (phase : Phase) (p : Passed) → before_pair limits phase (passed_moved k p) ≡ held_moved k (before_pair limits phase p)
    before_pair-moved phase p =
        ap (λ b. if_pair b phase (passed_moved k p)) (begins_pair-moved p.rest) ∙ if_pair-moved (begins_pair limits p.rest) phase p

    if_unsat-moved : (b : Bool) (p : Passed) → if_unsat limits b (passed_moved k p) ≡ held_moved k (if_unsat limits b p)
    unfolding advance behind
    if_unsat-moved true p = ap (before_pair limits AfterUnsat) (pass-ahead p.rest.at 5 (drop 5 p.rest.bytes)) ∙ before_pair-moved AfterUnsat (pass false (p.rest.at + 5) (drop 5 p.rest.bytes))
    if_unsat-moved false p = before_pair-moved Start p

    stripped-moved : (phase : Phase) (p : Passed) → stripped limits 3 phase (passed_moved k p) ≡ held_moved k (stripped limits 3 phase p)
    unfolding stripped hold
    stripped-moved Start p = if_unsat-moved (is_unsat p.rest.bytes (command limits p.rest.bytes)) p
    stripped-moved AfterUnsat p = before_pair-moved AfterUnsat p
    stripped-moved InPair p = in_pair-moved p
    stripped-moved AfterPair p = refl
    stripped-moved Plain p = refl

    pub strip-moved : (phase : Phase) (comment : Bool) (t : Input) → strip limits phase comment (moved k t) ≡ held_moved k (strip limits phase comment t)
    unfolding strip
    strip-moved phase comment t = ap (stripped limits 3 phase) (pass-moved comment t.at t.bytes) ∙ stripped-moved phase (pass comment t.at t.bytes)
