-- What each byte does to a command that is begun.
use Rattle.std.proofs.Common.{◌≡◌, refl, ℕ, suc, ◌+◌, ◌-◌, ◌≤◌, ◌<◌, true, false, not, List, [], ◌∷◌, length, map, sym, ap, ◌∙◌, arith}
use Rattle.std.proofs.lemmas.Bool.{leb-true, leb-false}
use Rattle.eo_base.specs.declared.FaultName.TheVariants.{BadByte, Nesting, Width}
use Rattle.eo_base.specs.Limits.{Limits}
use Rattle.eo_sexp.specs.Built.{OpenList}
use Rattle.eo_sexp.specs.Lexicon.{Class, Space, Comment, Open, Other, class, is_line_end, Input, advance, pass, pass_byte, skip, Passed}
use Rattle.eo_sexp.specs.Commands.{Refused, atom, sexp}
use Rattle.eo_sexp.specs.OpenLists as nest
use Rattle.eo_sexp.specs.Reader.{IsAtom, inner, outer, gap_reading, child_reading, token_reading, is_full}
use Rattle.eo_sexp.proofs.Resuming.{StandsStill, pass-front, skip-front, less, resume-pass, resume-bad, resume-deep, resume-full-open, resume-open, resume-atom, resume-full, sexp-resume}

pub pass-space : (at x : ℕ) (xs : List ℕ) → class x ≡ Space → pass false at (x ∷ xs) ≡ pass false (suc at) xs
unfolding pass pass_byte
pass-space at x xs e = rw (e, pass_byte)

pub pass-comment : (at x : ℕ) (xs : List ℕ) → class x ≡ Comment → pass false at (x ∷ xs) ≡ pass true (suc at) xs
unfolding pass pass_byte
pass-comment at x xs e = rw (e, pass_byte)

pub pass-in_comment : (at x : ℕ) (xs : List ℕ) → pass true at (x ∷ xs) ≡ pass (not (is_line_end x)) (suc at) xs
unfolding pass pass_byte
pass-in_comment at x xs = refl

module _ (limits : Limits) where
  -- white space and comments may be passed over first
  pub gap-pass : (fs : List OpenList) (at : ℕ) (more : List ℕ) → gap_reading limits fs (record { at = at; bytes = more }) ≡ gap_reading limits fs (pass false at more).rest
  unfolding gap_reading nest.resume_in
  gap-pass [] at more = refl
  gap-pass (f ∷ fs) at more = resume-pass limits (limits.nesting - suc (length fs)) (inner limits f) (map (outer limits) fs) at more

  pub gap-at : (c : Class) (fs : List OpenList) (at x : ℕ) (more : List ℕ) → StandsStill c → class x ≡ c → gap_reading limits fs (pass false at (x ∷ more)).rest ≡ gap_reading limits fs (record { at = at; bytes = x ∷ more })
  gap-at c fs at x more s e = ap (λ (p : Passed). gap_reading limits fs p.rest) (pass-front c at x more s e)

  pub gap-space : (fs : List OpenList) (at x : ℕ) (more : List ℕ) → class x ≡ Space → gap_reading limits fs (pass false at (x ∷ more)).rest ≡ gap_reading limits fs (pass false (suc at) more).rest
  gap-space fs at x more e = ap (λ (p : Passed). gap_reading limits fs p.rest) (pass-space at x more e)

  pub gap-comment : (fs : List OpenList) (at x : ℕ) (more : List ℕ) → class x ≡ Comment → gap_reading limits fs (pass false at (x ∷ more)).rest ≡ gap_reading limits fs (pass true (suc at) more).rest
  gap-comment fs at x more e = ap (λ (p : Passed). gap_reading limits fs p.rest) (pass-comment at x more e)

  -- a byte that is no byte of a text
  pub gap-bad : (fs : List OpenList) (at x : ℕ) (more : List ℕ) → 0 < length fs → class x ≡ Other → gap_reading limits fs (pass false at (x ∷ more)).rest ≡ Refused BadByte at
  unfolding gap_reading
  gap-bad [] at x more h e = absurd (omega arith)
  gap-bad (f ∷ fs) at x more h e =
      let t : Input = record { at = at; bytes = x ∷ more } in
      let same : skip t ≡ t = skip-front Other at x more tt e in
      gap-at Other (f ∷ fs) at x more tt e
      ∙ resume-bad limits (limits.nesting - suc (length fs)) (inner limits f) (map (outer limits) fs) t x more (ap (λ (u : Input). u.bytes) same) e
      ∙ ap (λ (u : Input). Refused BadByte u.at) same

  -- lists nest too deep
  pub gap-deep : (fs : List OpenList) (at x : ℕ) (more : List ℕ) → 0 < length fs → limits.nesting ≤ length fs → class x ≡ Open → gap_reading limits fs (pass false at (x ∷ more)).rest ≡ Refused Nesting at
  unfolding gap_reading
  gap-deep [] at x more h d e = absurd (omega arith)
  gap-deep (f ∷ fs) at x more h d e =
      let t : Input = record { at = at; bytes = x ∷ more } in
      let same : skip t ≡ t = skip-front Open at x more tt e in
      gap-at Open (f ∷ fs) at x more tt e
      ∙ resume-deep limits (limits.nesting - suc (length fs)) (inner limits f) (map (outer limits) fs) t x more (ap (λ (u : Input). u.bytes) same) e (omega arith)
      ∙ ap (λ (u : Input). Refused Nesting u.at) same

  none_more : (f : OpenList) (fs : List OpenList) → is_full limits (f ∷ fs) ≡ true → (inner limits f).more ≡ 0
  unfolding is_full inner
  none_more f fs e = let h = leb-true _ _ e in omega arith

  some_more : (f : OpenList) (fs : List OpenList) → is_full limits (f ∷ fs) ≡ false → (inner limits f).more ≡ suc ((outer limits f).more)
  unfolding is_full inner outer
  some_more f fs e = let h = leb-false _ _ e in omega arith

  -- the innermost list is full
  pub gap-full-open : (fs : List OpenList) (at x : ℕ) (more : List ℕ) → 0 < length fs → length fs < limits.nesting → is_full limits fs ≡ true → class x ≡ Open → gap_reading limits fs (pass false at (x ∷ more)).rest ≡ Refused Width at
  unfolding gap_reading
  gap-full-open [] at x more h d m e = absurd (omega arith)
  gap-full-open (f ∷ fs) at x more h d m e =
      let t : Input = record { at = at; bytes = x ∷ more } in
      let same : skip t ≡ t = skip-front Open at x more tt e in
      gap-at Open (f ∷ fs) at x more tt e
      ∙ resume-full-open limits (limits.nesting - suc (length fs)) (inner limits f) (map (outer limits) fs) t x more (ap (λ (u : Input). u.bytes) same) (limits.nesting - suc (suc (length fs))) e (omega arith) (none_more f fs m)
      ∙ ap (λ (u : Input). Refused Width u.at) same

  pub gap-full : (c : Class) (fs : List OpenList) (at x : ℕ) (more : List ℕ) → 0 < length fs → is_full limits fs ≡ true → IsAtom c → StandsStill c → class x ≡ c →
      gap_reading limits fs (pass false at (x ∷ more)).rest ≡ Refused Width at
  unfolding gap_reading
  gap-full c [] at x more h m a s e = absurd (omega arith)
  gap-full c (f ∷ fs) at x more h m a s e =
      let t : Input = record { at = at; bytes = x ∷ more } in
      let same : skip t ≡ t = skip-front c at x more s e in
      gap-at c (f ∷ fs) at x more s e
      ∙ resume-full limits (limits.nesting - suc (length fs)) (inner limits f) (map (outer limits) fs) t x more (ap (λ (u : Input). u.bytes) same) c a e (none_more f fs m)
      ∙ ap (λ (u : Input). Refused Width u.at) same

  new_frame : (g : OpenList) (at : ℕ) → g.at ≡ at → g.children ≡ [] → inner limits g ≡ record { at = at; done = []; more = limits.width }
  unfolding inner
  new_frame g at e i =
      ap (λ items. record { at = g.at; done = items; more = limits.width - length items }) i
      ∙ ap (λ a. record { at = a; done = []; more = limits.width - 0 }) e
      ∙ ap (λ m. record { at = at; done = []; more = m }) (omega arith)

  -- a list is opened
  pub gap-open : (fs : List OpenList) (g : OpenList) (at x : ℕ) (more : List ℕ) → 0 < length fs → length fs < limits.nesting → is_full limits fs ≡ false → g.at ≡ at → g.children ≡ [] → class x ≡ Open →
      gap_reading limits fs (pass false at (x ∷ more)).rest ≡ gap_reading limits (g ∷ fs) (pass false (suc at) more).rest
  unfolding gap_reading less outer advance inner
  gap-open [] g at x more h d m a i e = absurd (omega arith)
  gap-open (f ∷ fs) g at x more h d m a i e =
      let t : Input = record { at = at; bytes = x ∷ more } in
      let same : skip t ≡ t = skip-front Open at x more tt e in
      let deeper : ℕ = limits.nesting - suc (suc (length fs)) in
      gap-at Open (f ∷ fs) at x more tt e
      ∙ resume-open limits (limits.nesting - suc (length fs)) (inner limits f) (map (outer limits) fs) t x more (ap (λ (u : Input). u.bytes) same) deeper (outer limits f).more e (omega arith) (some_more f fs m)
      ∙ ap (λ (u : Input). nest.resume limits deeper (record { at = u.at; done = []; more = limits.width }) (outer limits f ∷ map (outer limits) fs) (advance 1 u)) same
      ∙ ap (λ v. nest.resume limits deeper v (outer limits f ∷ map (outer limits) fs) (record { at = at + 1; bytes = more })) (sym (new_frame g at a i))
      ∙ ap (λ k. nest.resume limits deeper (inner limits g) (outer limits f ∷ map (outer limits) fs) (record { at = k; bytes = more })) (omega arith)
      ∙ gap-pass (g ∷ f ∷ fs) (suc at) more

  -- an atom begins
  pub gap-atom : (c : Class) (fs : List OpenList) (at x : ℕ) (more : List ℕ) → 0 < length fs → is_full limits fs ≡ false → IsAtom c → StandsStill c → class x ≡ c →
      gap_reading limits fs (pass false at (x ∷ more)).rest ≡ token_reading limits fs (atom limits c (record { at = at; bytes = x ∷ more }))
  unfolding gap_reading child_reading token_reading less outer inner
  gap-atom c [] at x more h m a s e = absurd (omega arith)
  gap-atom c (f ∷ fs) at x more h m a s e =
      let t : Input = record { at = at; bytes = x ∷ more } in
      let same : skip t ≡ t = skip-front c at x more s e in
      gap-at c (f ∷ fs) at x more s e
      ∙ resume-atom limits (limits.nesting - suc (length fs)) (inner limits f) (map (outer limits) fs) t x more (ap (λ (u : Input). u.bytes) same) (outer limits f).more c a e (some_more f fs m)
      ∙ ap (λ (u : Input). token_reading limits (f ∷ fs) (atom limits c u)) same

  -- a command that is a list
  pub list-begins : (g : OpenList) (x : ℕ) (more : List ℕ) → 1 ≤ limits.nesting → g.at ≡ 0 → g.children ≡ [] → class x ≡ Open → sexp limits (class x) (record { at = 0; bytes = x ∷ more }) ≡ gap_reading limits (g ∷ []) (pass false 1 more).rest
  unfolding gap_reading advance
  list-begins g x more n a i e =
      ap (λ c. sexp limits c (record { at = 0; bytes = x ∷ more })) e
      ∙ sexp-resume limits (limits.nesting - 1) (omega arith) (record { at = 0; bytes = x ∷ more })
      ∙ ap (λ v. nest.resume limits (limits.nesting - 1) v [] (record { at = 1; bytes = more })) (sym (new_frame g 0 a i))
      ∙ gap-pass (g ∷ []) 1 more
