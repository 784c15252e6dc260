-- Runs of bytes that stay inside of a comment.
use Rattle.std.proofs.Common.{◌≡◌, ◌≢◌, ℕ, suc, ◌+◌, ◌≤◌, ◌<◌, true, false, not, List, [], ◌∷◌, ◌++◌, length, length-append, length-take-le, take, All, sym, ap, ◌∙◌, subst, arith}
use Rattle.std.proofs.lemmas.List.Elements.{All-head, All-tail, All-weaker}
use Rattle.eo_base.specs.Limits.{Limits}
use Rattle.eo_sexp.specs.declared.reader.Position.TheVariants as position
use Rattle.eo_sexp.specs.declared.reader.Reader.{Reader}
use Rattle.eo_sexp.specs.Lexicon.{is_line_end, pass, Passed}
use Rattle.eo_sexp.specs.Built.{Built, parts_in}
use Rattle.eo_sexp.specs.Reader.{Progress, held, IsReader, gap_reading, RunsTo}
use Rattle.eo_sexp.proofs.RunSteps.{plain-spot}
use Rattle.eo_sexp.proofs.ReaderTurns.{pass-in_comment}
use Rattle.eo_sexp.proofs.ReaderSteps.{stands-as, own-as, as-reader, reading-comment}

-- a line feed ends a comment
pub inside-line : (x : ℕ) → is_line_end x ≡ false → x ≢ 10
unfolding is_line_end
inside-line x e = λ same. let off : true ≡ false = subst (λ y. is_line_end y ≡ false) same e in cc

-- bytes that end no comment are passed over in it
pub pass-inside : (at : ℕ) (xs more : List ℕ) → All (λ x. is_line_end x ≡ false) xs → pass true at (xs ++ more) ≡ pass true (at + length xs) more
pass-inside at [] more h = ap (λ n. pass true n more) (omega arith)
pass-inside at (x ∷ xs) more h =
    pass-in_comment at x (xs ++ more)
    ∙ ap (λ b. pass (not b) (suc at) (xs ++ more)) (All-head (λ y. is_line_end y ≡ false) x xs h)
    ∙ pass-inside (suc at) xs more (All-tail (λ y. is_line_end y ≡ false) x xs h)
    ∙ ap (λ n. pass true n more) (omega arith)

module _ (limits : Limits) where
  pub comment-runs : (b c : Built) (r : Reader) (rest : List ℕ) (n : ℕ) → r.position ≡ position.Comment → IsReader limits (held b r) (length b.bytes) → c ≡ record b { bytes = b.bytes ++ take n rest } → n ≤ length rest →
      All (λ x. is_line_end x ≡ false) (take n rest) → length b.bytes + n ≤ limits.command → RunsTo limits b r rest n 0 c r
  comment-runs b c r rest n p h same within inside short =
      let xs : List ℕ = take n rest in
      let old : Progress = held b r in
      let new : Progress = held c r in
      let some : 0 < length b.open_lists = stands-as limits old (length b.bytes) position.Comment p h in
      let long : length xs ≡ n = length-take-le n rest within in
      let bytes : c.bytes ≡ b.bytes ++ xs = ap (λ (w : Built). w.bytes) same in
      let count : length c.bytes ≡ length b.bytes + n = omega (arith, ap length bytes, length-append b.bytes xs, long) in
      let own : parts_in b.open_lists ≤ length b.bytes = own-as limits old (length b.bytes) position.Comment p h in
      let parts : parts_in c.open_lists ≡ parts_in b.open_lists = ap (λ (w : Built). parts_in w.open_lists) same in
      let lists : length c.open_lists ≡ length b.open_lists = ap (λ (w : Built). length w.open_lists) same in
      record {
        within = within;
        bytes = bytes;
        short = omega (arith, count);
        counted = omega arith;
        place = λ at.
            plain-spot at xs (All-weaker (λ x. is_line_end x ≡ false) (λ x. x ≢ 10) inside-line xs inside)
            ∙ ap (λ (i : ℕ). record { line = at.line; offset = at.offset + i }) long
            ∙ ap (λ (l : ℕ). record { line = l; offset = at.offset + n }) (omega arith);
        reader = as-reader limits new (length c.bytes) position.Comment p (omega (arith, h.nested, lists)) (ap (λ (w : Built). w.done) same ∙ h.none) (omega (arith, some, lists)) (omega (arith, own, parts, count));
        reads = λ more.
            reading-comment limits old (length b.bytes) (xs ++ more) p
            ∙ ap (λ (u : Passed). gap_reading limits b.open_lists u.rest) (pass-inside (length b.bytes) xs more inside)
            ∙ ap (λ i. gap_reading limits b.open_lists (pass true (length b.bytes + i) more).rest) long
            ∙ ap (λ i. gap_reading limits b.open_lists (pass true i more).rest) (sym count)
            ∙ ap (λ (w : Built). gap_reading limits w.open_lists (pass true (length c.bytes) more).rest) (sym same)
            ∙ sym (reading-comment limits new (length c.bytes) more p);
      }
