-- The lines of printed s-expressions are read back as these commands.
use Rattle.std.proofs.Common.{◌≡◌, refl, ℕ, zero, suc, ◌+◌, ◌≤◌, ◌<◌, Bool, true, false, List, [], ◌∷◌, ◌++◌, length, length-append, take, drop, map, ap, ◌∙◌, append_assoc, arith}
use Rattle.std.specs.Prelude.{if◌then◌else◌, codes, Some, option_map}
use Rattle.std.proofs.Math.Seq.{drop-append_seam, drop-append-add}
use Rattle.eo_base.specs.Limits.{Limits}
use Rattle.eo_sexp.specs.Spot.{Spot}
use Rattle.eo_sexp.specs.Sexp.{Sexp}
use Rattle.eo_sexp.specs.Lexicon.{Class, Open, Quote, Bar, Word, class, Input, pass, pass_byte, is_space, is_word}
use Rattle.eo_sexp.specs.Texts.{Plain, Command, End, Known, hold, stripped, strip, end_of, is_extra, after, known, decided, from_token, from_front, answer, so_far, next_from, spot_after, placed, read_next, reads_from, reads_all, reads}
use Rattle.eo_sexp.specs.Printing.{printed, placed as at_places, EndsBefore, printed_lines, commands_read}
use Rattle.eo_sexp.specs.ReadBack.{IsLine, AreLines, LinesReadBack}
use Rattle.eo_sexp.proofs.PrintedBack.{IsFront, Fronted, pass-fronted, front-of, command-printed}

module _ (limits : Limits) where
  no-extra : (c : Class) → IsFront c → is_extra Plain c ≡ false
  unfolding is_extra
  no-extra Open h = refl
  no-extra Quote h = refl
  no-extra Bar h = refl
  no-extra Word h = refl
  no-extra c h = elim h [ ]

  -- the command at a place
  from-line : (s : Sexp) → IsLine limits s → (at : ℕ) (tail : List ℕ) → EndsBefore tail → let t : Input = record { at = at; bytes = printed s ++ tail } in
      from_front limits Plain t t.bytes ≡ Known (Command (at_places 0 s) at (length (printed s)) Plain)
  unfolding from_front from_token known after
  from-line s h at tail ends =
      let f = front-of limits limits.nesting s h.0 tail ends in
      let t : Input = record { at = at; bytes = printed s ++ tail } in
      ap (from_front limits Plain t) f.is
      ∙ ap (λ b. from_token limits b Plain t) (no-extra (class f.first) f.begins)
      ∙ ap (known Plain t) (command-printed limits s h tail ends)

  -- the same after a line feed or none
  abbrev lead : Bool → List ℕ
  lead blank = if blank then codes "\n" else []

  pass-lead : (blank : Bool) (bytes : List ℕ) → Fronted bytes → pass false 0 (lead blank ++ bytes) ≡ record { comment = false; rest = record { at = length (lead blank); bytes = bytes } }
  unfolding pass pass_byte class is_space
  pass-lead true bytes f = pass-fronted bytes 1 f
  pass-lead false bytes f = pass-fronted bytes 0 f

  next-line : (blank : Bool) (s : Sexp) → IsLine limits s → (tail : List ℕ) → EndsBefore tail →
      next_from limits true Plain false (lead blank ++ (printed s ++ tail)) ≡ Command (at_places 0 s) (length (lead blank)) (length (printed s)) Plain
  unfolding next_from so_far strip stripped hold answer decided
  next-line blank s h tail ends =
      ap (λ p. decided true (length (lead blank ++ (printed s ++ tail))) (answer limits (stripped limits 3 Plain p))) (pass-lead blank (printed s ++ tail) (front-of limits limits.nesting s h.0 tail ends))
      ∙ ap (decided true (length (lead blank ++ (printed s ++ tail)))) (from-line s h (length (lead blank)) tail ends)

  next-end : (blank : Bool) → next_from limits true Plain false (lead blank) ≡ End
  unfolding next_from so_far strip stripped hold answer decided pass pass_byte class is_space from_front end_of
  next-end true = refl
  next-end false = refl

  newline-ends : (more : List ℕ) → EndsBefore (10 ∷ more)
  unfolding is_word
  newline-ends more = (refl, refl)

  -- after the first command the lines go on with a line feed
  first-line : (turns : ℕ) (s : Sexp) (ss : List Sexp) (blank : Bool) (spot : Spot) → IsLine limits s →
      ((at : Spot) → commands_read (reads_from limits true turns Plain at (codes "\n" ++ printed_lines ss)) ≡ Some (map (at_places 0) ss)) →
      commands_read (reads_from limits true (suc turns) Plain spot (lead blank ++ printed_lines (s ∷ ss))) ≡ Some (map (at_places 0) (s ∷ ss))
  unfolding reads_from read_next placed
  first-line turns s ss blank spot h later =
      let tail = codes "\n" ++ printed_lines ss in
      let bytes = lead blank ++ (printed s ++ tail) in
      let same : (printed s ++ 10 ∷ []) ++ printed_lines ss ≡ printed s ++ tail = append_assoc (printed s) (10 ∷ []) (printed_lines ss) in
      let behind : drop (length (lead blank) + length (printed s)) bytes ≡ tail = drop-append-add (lead blank) (printed s ++ tail) (length (printed s)) ∙ drop-append_seam (printed s) tail in
      ap (λ bs. commands_read (reads_from limits true (suc turns) Plain spot (lead blank ++ bs))) same
      ∙ ap (λ n. commands_read (read_next (reads_from limits true turns) spot bytes n)) (next-line blank s h tail (newline-ends (printed_lines ss)))
      ∙ ap (λ bs. option_map (λ ss. at_places 0 s ∷ ss) (commands_read (reads_from limits true turns Plain (spot_after spot (take (length (lead blank) + length (printed s)) bytes)) bs))) behind
      ∙ ap (option_map (λ ss. at_places 0 s ∷ ss)) (later _)

  lines-back : (turns : ℕ) (ss : List Sexp) (blank : Bool) (spot : Spot) → AreLines limits ss → length ss < turns →
      commands_read (reads_from limits true turns Plain spot (lead blank ++ printed_lines ss)) ≡ Some (map (at_places 0) ss)
  unfolding reads_from read_next
  lines-back zero ss blank spot h few = absurd (omega arith)
  lines-back (suc turns) [] true spot h few = ap (λ n. commands_read (read_next (reads_from limits true turns) spot (codes "\n") n)) (next-end true)
  lines-back (suc turns) [] false spot h few = ap (λ n. commands_read (read_next (reads_from limits true turns) spot [] n)) (next-end false)
  lines-back (suc turns) (s ∷ ss) blank spot h few = first-line turns s ss blank spot h.0 (λ at. lines-back turns ss true at h.1 (omega arith))

  enough : (ss : List Sexp) → length ss ≤ length (printed_lines ss)
  enough [] = omega arith
  enough (s ∷ ss) = omega (arith, enough ss, length-append (printed s) (10 ∷ []), length-append (printed s ++ 10 ∷ []) (printed_lines ss))

  -- A file of such lines has these commands, with their parts at their places, and a good end.
  pub lines-read : LinesReadBack limits
  unfolding reads reads_all
  lines-read ss h = lines-back (suc (length (printed_lines ss))) ss false _ h (omega (arith, enough ss))
