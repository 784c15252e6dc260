-- Runs of bytes of a command that is begun.
use Rattle.std.proofs.Common.{◌≡◌, ◌≢◌, refl, ℕ, suc, ◌+◌, ◌≤◌, ◌<◌, Bool, true, false, List, [], ◌∷◌, ◌++◌, length, length-append, length-drop, take, drop, take-add, drop-cons, get_or, All, sym, ap, ◌∙◌, append_assoc, append-nil, subst, arith}
use Rattle.std.proofs.lemmas.List.Elements.{All-head, All-tail}
use Rattle.std.specs.Prelude.{◌==◌, if◌then◌else◌}
use Rattle.eo_sexp.specs.Spot.{Spot}
use Rattle.eo_sexp.specs.Texts.{next_spot, spot_after}
use Rattle.eo_sexp.proofs.Feeding.{spot_after-append}
use Rattle.eo_base.specs.Limits.{Limits}
use Rattle.eo_sexp.specs.Built.{Built, with_byte}
use Rattle.eo_sexp.specs.declared.reader.Reader.{Reader}
use Rattle.eo_sexp.specs.declared.reader.ReaderTurn.TheVariants as turn
use Rattle.eo_sexp.specs.Reader.{held, reading, IsReader, Turns, RunsTo}

same-spot : (s : Spot) (l o : ℕ) → s.line ≡ l → s.offset ≡ o → s ≡ record { line = l; offset = o }
same-spot s l o e f = ap (λ (n : ℕ). record { line = n; offset = s.offset }) e ∙ ap (λ (n : ℕ). record { line = l; offset = n }) f

-- bytes that end no line
pub plain-spot : (s : Spot) (xs : List ℕ) → All (λ x. x ≢ 10) xs → spot_after s xs ≡ record { line = s.line; offset = s.offset + length xs }
unfolding spot_after next_spot
plain-spot s [] h = ap (λ n. record { line = s.line; offset = n }) (omega arith)
plain-spot s (x ∷ xs) h =
    let other : (x == 10) ≡ false = grind (arith, All-head (λ y. y ≢ 10) x xs h) in
    plain-spot (next_spot s x) xs (All-tail (λ y. y ≢ 10) x xs h)
    ∙ ap (λ b. record { line = if b then s.line + 1 else s.line; offset = s.offset + 1 + length xs }) other
    ∙ ap (λ n. record { line = s.line; offset = n }) (omega arith)

-- how many lines the byte ends
abbrev pub line_feeds : ℕ → ℕ
line_feeds x = if x == 10 then 1 else 0

few-feeds : (b : Bool) → (if b then 1 else 0) ≤ 1
few-feeds true = omega arith
few-feeds false = omega arith

fed-lines : (b : Bool) (l : ℕ) → (if b then l + 1 else l) ≡ l + (if b then 1 else 0)
fed-lines true l = refl
fed-lines false l = omega arith

one-spot : (at : Spot) (x : ℕ) → spot_after at (x ∷ []) ≡ record { line = at.line + line_feeds x; offset = at.offset + 1 }
unfolding spot_after next_spot
one-spot at x = ap (λ (l : ℕ). record { line = l; offset = at.offset + 1 }) (fed-lines (x == 10) at.line)

none-spot : (at : Spot) → spot_after at [] ≡ record { line = at.line + 0; offset = at.offset + 0 }
unfolding spot_after
none-spot at = same-spot at (at.line + 0) (at.offset + 0) (omega arith) (omega arith)

module _ (limits : Limits) where
  pub runs-none : (b : Built) (r : Reader) (rest : List ℕ) → IsReader limits (held b r) (length b.bytes) → length b.bytes ≤ limits.command → RunsTo limits b r rest 0 0 b r
  runs-none b r rest h s = record { within = omega arith; bytes = sym (append-nil b.bytes); short = s; counted = omega arith; place = none-spot; reader = h; reads = λ more. refl }

  -- a run after a run
  pub runs-trans : (b c d : Built) (r s u : Reader) (rest : List ℕ) (n k i j : ℕ) → RunsTo limits b r rest n i c s → RunsTo limits c s (drop n rest) k j d u → RunsTo limits b r rest (n + k) (i + j) d u
  runs-trans b c d r s u rest n k i j h g =
      let all : take (n + k) rest ≡ take n rest ++ take k (drop n rest) = take-add n k rest in
      record {
        within = omega (arith, h.within, g.within, length-drop n rest);
        bytes = g.bytes ∙ ap (λ bs. bs ++ take k (drop n rest)) h.bytes ∙ append_assoc b.bytes (take n rest) (take k (drop n rest)) ∙ ap (λ bs. b.bytes ++ bs) (sym all);
        short = g.short;
        counted = omega (arith, h.counted, g.counted);
        place = λ at.
            ap (spot_after at) all
            ∙ spot_after-append at (take n rest) (take k (drop n rest))
            ∙ ap (λ (v : Spot). spot_after v (take k (drop n rest))) (h.place at)
            ∙ g.place (record { line = at.line + i; offset = at.offset + n })
            ∙ same-spot (record { line = at.line + i + j; offset = at.offset + n + k }) (at.line + (i + j)) (at.offset + (n + k)) (omega arith) (omega arith);
        reader = g.reader;
        reads = λ more.
            ap (λ bs. reading limits (held b r) (length b.bytes) (bs ++ more)) all
            ∙ ap (reading limits (held b r) (length b.bytes)) (append_assoc (take n rest) (take k (drop n rest)) more)
            ∙ h.reads (take k (drop n rest) ++ more)
            ∙ g.reads more;
      }

  pub runs-one : (c v d : Built) (s u : Reader) (x : ℕ) (ys : List ℕ) → length c.bytes < limits.command → v.bytes ≡ c.bytes → d ≡ with_byte v x → Turns limits (held c s) (length c.bytes) x turn.Goes (held (with_byte v x) u) →
      RunsTo limits c s (x ∷ ys) 1 (line_feeds x) d u
  runs-one c v d s u x ys f same new t =
      let b : d.bytes ≡ c.bytes ++ x ∷ [] = ap (λ (w : Built). w.bytes) new ∙ ap (λ bs. bs ++ x ∷ []) same in
      let n : length d.bytes ≡ suc (length c.bytes) = omega (arith, ap length b, length-append c.bytes (x ∷ [])) in
      let kept : held (with_byte v x) u ≡ held d u = ap (λ w. held w u) (sym new) in
      record {
        within = omega arith;
        bytes = b;
        short = omega (arith, n);
        counted = few-feeds (x == 10);
        place = λ at. one-spot at x;
        reader = subst (λ i. IsReader limits (held d u) i) (sym n) (subst (λ w. IsReader limits w (suc (length c.bytes))) kept t.0);
        reads = λ more. t.1 more ∙ ap (λ i. reading limits (held (with_byte v x) u) i more) (sym n) ∙ ap (λ w. reading limits w (length d.bytes) more) kept;
      }

  -- a byte after a run
  pub runs-on : (b c v d : Built) (r s u : Reader) (rest : List ℕ) (n i at : ℕ) → RunsTo limits b r rest n i c s → n < length rest → at ≡ length c.bytes → at < limits.command → v.bytes ≡ c.bytes →
      d ≡ with_byte v (get_or rest n 0) → Turns limits (held c s) at (get_or rest n 0) turn.Goes (held (with_byte v (get_or rest n 0)) u) → RunsTo limits b r rest (n + 1) (i + line_feeds (get_or rest n 0)) d u
  runs-on b c v d r s u rest n i at h m a f same new t =
      let one = runs-one c v d s u (get_or rest n 0) (drop (suc n) rest) (omega (arith, a, f)) same new (subst (λ k. Turns limits (held c s) k (get_or rest n 0) turn.Goes (held (with_byte v (get_or rest n 0)) u)) a t) in
      runs-trans b c d r s u rest n 1 i (line_feeds (get_or rest n 0)) h (subst (λ ys. RunsTo limits c s ys 1 (line_feeds (get_or rest n 0)) d u) (sym (drop-cons rest n 0 m)) one)
