-- Runs of spaces between two tokens of a list.
use Rattle.std.proofs.Common.{◌≡◌, ◌≢◌, refl, ℕ, suc, ◌+◌, ◌≤◌, ◌<◌, false, List, [], ◌∷◌, ◌++◌, length, length-append, length-take-le, take, All, sym, ap, ◌∙◌, arith}
use Rattle.std.proofs.lemmas.List.Elements.{All-head, All-tail, All-weaker}
use Rattle.eo_base.specs.Limits.{Limits}
use Rattle.eo_sexp.specs.declared.reader.Position.TheVariants as position
use Rattle.eo_sexp.specs.declared.reader.Reader.{Reader}
use Rattle.eo_sexp.specs.Lexicon.{class, is_space, pass, pass_byte, Passed}
use Rattle.eo_sexp.specs.Built.{Built, parts_in}
use Rattle.eo_sexp.specs.Reader.{Progress, held, IsReader, gap_reading, RunsTo}
use Rattle.eo_sexp.proofs.RunSteps.{plain-spot}
use Rattle.eo_sexp.proofs.ReaderSteps.{stands-as, own-as, as-reader, reading-gap}

blank-line : (x : ℕ) → x ≡ 32 → x ≢ 10
blank-line x e = λ same. omega (arith, e, same)

pass-one : (at : ℕ) (ys : List ℕ) → pass false at (32 ∷ ys) ≡ pass false (suc at) ys
unfolding pass pass_byte class is_space
pass-one at ys = refl

-- spaces are passed over
pass-blank : (at : ℕ) (xs more : List ℕ) → All (λ x. x ≡ 32) xs → pass false at (xs ++ more) ≡ pass false (at + length xs) more
pass-blank at [] more h = ap (λ n. pass false n more) (omega arith)
pass-blank at (x ∷ xs) more h =
    ap (λ y. pass false at (y ∷ (xs ++ more))) (All-head (λ y. y ≡ 32) x xs h)
    ∙ pass-one at (xs ++ more)
    ∙ pass-blank (suc at) xs more (All-tail (λ y. y ≡ 32) x xs h)
    ∙ ap (λ n. pass false n more) (omega arith)

module _ (limits : Limits) where
  pub blank-runs : (b c : Built) (r : Reader) (rest : List ℕ) (n : ℕ) → r.position ≡ position.Gap → IsReader limits (held b r) (length b.bytes) → c ≡ record b { bytes = b.bytes ++ take n rest } → n ≤ length rest →
      All (λ x. x ≡ 32) (take n rest) → length b.bytes + n ≤ limits.command → RunsTo limits b r rest n 0 c r
  blank-runs b c r rest n p h same within blank short =
      let xs : List ℕ = take n rest in
      let old : Progress = held b r in
      let new : Progress = held c r in
      let some : 0 < length b.open_lists = stands-as limits old (length b.bytes) position.Gap p h in
      let long : length xs ≡ n = length-take-le n rest within in
      let bytes : c.bytes ≡ b.bytes ++ xs = ap (λ (w : Built). w.bytes) same in
      let count : length c.bytes ≡ length b.bytes + n = omega (arith, ap length bytes, length-append b.bytes xs, long) in
      let own : parts_in b.open_lists ≤ length b.bytes = own-as limits old (length b.bytes) position.Gap p h in
      let parts : parts_in c.open_lists ≡ parts_in b.open_lists = ap (λ (w : Built). parts_in w.open_lists) same in
      let lists : length c.open_lists ≡ length b.open_lists = ap (λ (w : Built). length w.open_lists) same in
      record {
        within = within;
        bytes = bytes;
        short = omega (arith, count);
        counted = omega arith;
        place = λ at.
            plain-spot at xs (All-weaker (λ x. x ≡ 32) (λ x. x ≢ 10) blank-line xs blank)
            ∙ ap (λ (i : ℕ). record { line = at.line; offset = at.offset + i }) long
            ∙ ap (λ (l : ℕ). record { line = l; offset = at.offset + n }) (omega arith);
        reader = as-reader limits new (length c.bytes) position.Gap p (omega (arith, h.nested, lists)) (ap (λ (w : Built). w.done) same ∙ h.none) (omega (arith, some, lists)) (omega (arith, own, parts, count));
        reads = λ more.
            reading-gap limits old (length b.bytes) (xs ++ more) p
            ∙ ap (λ (u : Passed). gap_reading limits b.open_lists u.rest) (pass-blank (length b.bytes) xs more blank)
            ∙ ap (λ i. gap_reading limits b.open_lists (pass false (length b.bytes + i) more).rest) long
            ∙ ap (λ i. gap_reading limits b.open_lists (pass false i more).rest) (sym count)
            ∙ ap (λ (w : Built). gap_reading limits w.open_lists (pass false (length c.bytes) more).rest) (sym same)
            ∙ sym (reading-gap limits new (length c.bytes) more p);
      }
