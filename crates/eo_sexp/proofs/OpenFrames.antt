-- Open lists as a reader keeps them, the innermost first.
use Rattle.std.proofs.Common.{◌≡◌, refl, true, false, Bool, ℕ, suc, ◌+◌, ◌-◌, ◌≤◌, ◌<◌, List, [], ◌∷◌, ◌++◌, length, length-append, map, ap, ◌∙◌, arith}
use Rattle.eo_base.specs.Limits.{Limits}
use Rattle.eo_sexp.specs.Built.{OpenList, Built, with_child, closed}
use Rattle.eo_sexp.specs.Sexp.{Sexp, Listed, NoSexp, Next}
use Rattle.eo_sexp.specs.Lexicon.{Close, class, Input, advance, skip}
use Rattle.eo_sexp.specs.OpenLists as nest
use Rattle.eo_sexp.specs.Sexp.{sexps_of}
use Rattle.eo_sexp.specs.Reader.{inner, outer, gap_reading, child_reading, AddsChild, ClosesList, IsWhole}
use Rattle.eo_sexp.proofs.Sizes.{size-append}
use Rattle.eo_sexp.proofs.Resuming.{skip-front, resume-close}

attach-none : (ss : List Sexp) → nest.attach ss NoSexp ≡ sexps_of ss
unfolding nest.attach
attach-none [] = refl
attach-none (s ∷ ss) = ap (Next s) (attach-none ss)

module _ (limits : Limits) where
  -- the list with one more child
  outer-child : (at : ℕ) (items : List Sexp) (s : Sexp) → nest.with_child (outer limits (record { at = at; children = items })) s ≡ inner limits (record { at = at; children = items ++ s ∷ [] })
  unfolding nest.with_child outer inner
  outer-child at items s = ap (λ m. record { at = at; done = items ++ s ∷ []; more = m }) (omega (arith, length-append items (s ∷ [])))

  child-added : (f : OpenList) (fs : List OpenList) (s : Sexp) (rest : Input) → child_reading limits (f ∷ fs) s rest ≡ gap_reading limits (record { at = f.at; children = f.children ++ s ∷ [] } ∷ fs) rest
  unfolding child_reading gap_reading
  child-added f fs s rest = ap (λ h. nest.resume limits (limits.nesting - suc (length fs)) h (map (outer limits) fs) rest) (outer-child f.at f.children s)

  adds_open : (bytes : List ℕ) (fs : List OpenList) (done : List Sexp) (s : Sexp) (whole : Bool) →
      ((length (with_child (record { bytes = bytes; open_lists = fs; done = done }) s).open_lists ≡ 0) × (whole ≡ true)) → AddsChild limits (record { bytes = bytes; open_lists = fs; done = done }) s (with_child (record { bytes = bytes; open_lists = fs; done = done }) s) whole
  adds_open bytes [] done s true e = (refl, refl, refl)
  adds_open bytes (f ∷ fs) done s true e = absurd (omega (arith, e.0))
  adds_open bytes fs done s false e = cc

  adds_inner : (bytes : List ℕ) (fs : List OpenList) (done : List Sexp) (s : Sexp) (whole : Bool) →
      ((0 < length (with_child (record { bytes = bytes; open_lists = fs; done = done }) s).open_lists) × (whole ≡ false)) → AddsChild limits (record { bytes = bytes; open_lists = fs; done = done }) s (with_child (record { bytes = bytes; open_lists = fs; done = done }) s) whole
  adds_inner bytes [] done s false e = absurd (omega (arith, e.0))
  adds_inner bytes (f ∷ fs) done s false e = (refl, omega arith, refl, λ rest. child-added f fs s rest, omega (arith, size-append f.children (s ∷ [])))
  adds_inner bytes fs done s true e = cc

  -- a child is added
  pub adds-whole : (b : Built) (s : Sexp) → length (with_child b s).open_lists ≡ 0 → AddsChild limits b s (with_child b s) true
  adds-whole b s e = adds_open b.bytes b.open_lists b.done s true (e, refl)

  pub adds-inner : (b : Built) (s : Sexp) → 0 < length (with_child b s).open_lists → AddsChild limits b s (with_child b s) false
  adds-inner b s e = adds_inner b.bytes b.open_lists b.done s false (e, refl)

  -- a list is whole inside of these
  after_list-child : (fs : List OpenList) (s : Sexp) (rest : Input) → suc (length fs) ≤ limits.nesting → nest.after_list limits (limits.nesting - suc (length fs)) (map (outer limits) fs) s rest ≡ child_reading limits fs s rest
  unfolding nest.after_list child_reading nest.resume outer nest.with_child
  after_list-child [] s rest h = refl
  after_list-child (g ∷ gs) s rest h = let n : suc (limits.nesting - suc (suc (length gs))) ≡ limits.nesting - suc (length gs) = omega arith in
      ap (λ k. nest.resume limits k (nest.with_child (outer limits g) s) (map (outer limits) gs) rest) n

  -- a `)` makes the innermost list whole
  close-child : (f : OpenList) (fs : List OpenList) (at x : ℕ) (more : List ℕ) → class x ≡ Close → suc (length fs) ≤ limits.nesting →
      gap_reading limits (f ∷ fs) (record { at = at; bytes = x ∷ more }) ≡ child_reading limits fs (Listed (sexps_of f.children) (record { from = f.at; to = suc at })) (record { at = suc at; bytes = more })
  unfolding gap_reading advance inner
  close-child f fs at x more e n =
      let t : Input = record { at = at; bytes = x ∷ more } in
      let same : skip t ≡ t = skip-front Close at x more tt e in
      let deeper : ℕ = limits.nesting - suc (length fs) in
      resume-close limits deeper (inner limits f) (map (outer limits) fs) t x more (ap (λ (u : Input). u.bytes) same) e
      ∙ ap (λ (u : Input). nest.after_list limits deeper (map (outer limits) fs) (Listed (nest.attach f.children NoSexp) (record { from = f.at; to = u.at + 1 })) (advance 1 u)) same
      ∙ ap (λ k. nest.after_list limits deeper (map (outer limits) fs) (Listed (nest.attach f.children NoSexp) (record { from = f.at; to = k })) (record { at = k; bytes = more })) (omega arith)
      ∙ ap (λ ss. nest.after_list limits deeper (map (outer limits) fs) (Listed ss (record { from = f.at; to = suc at })) (record { at = suc at; bytes = more })) (attach-none f.children)
      ∙ after_list-child fs (Listed (sexps_of f.children) (record { from = f.at; to = suc at })) (record { at = suc at; bytes = more }) n

  close-to : (f : OpenList) (fs : List OpenList) (to : ℕ) → suc (length fs) ≤ limits.nesting → (at x : ℕ) (more : List ℕ) → suc at ≡ to → class x ≡ Close →
      gap_reading limits (f ∷ fs) (record { at = at; bytes = x ∷ more }) ≡ child_reading limits fs (Listed (sexps_of f.children) (record { from = f.at; to = to })) (record { at = to; bytes = more })
  close-to f fs to n at x more t e =
      close-child f fs at x more e n ∙ ap (λ k. child_reading limits fs (Listed (sexps_of f.children) (record { from = f.at; to = k })) (record { at = k; bytes = more })) t

  closes_whole : (bytes : List ℕ) (fs : List OpenList) (done : List Sexp) (to : ℕ) → 0 < length fs → length fs ≤ limits.nesting →
      length (closed (record { bytes = bytes; open_lists = fs; done = done }) to).open_lists ≡ 0 → ClosesList limits (record { bytes = bytes; open_lists = fs; done = done }) to (closed (record { bytes = bytes; open_lists = fs; done = done }) to) true
  unfolding child_reading
  closes_whole bytes [] done to h n e = absurd (omega (arith, h))
  closes_whole bytes (f ∷ []) done to h n e = (Listed (sexps_of f.children) (record { from = f.at; to = to }), refl, refl, λ at x more t c. close-to f [] to n at x more t c)
  closes_whole bytes (f ∷ g ∷ gs) done to h n e = absurd (omega (arith, e))

  closes_inner : (bytes : List ℕ) (fs : List OpenList) (done : List Sexp) (to : ℕ) → 0 < length fs → length fs ≤ limits.nesting →
      0 < length (closed (record { bytes = bytes; open_lists = fs; done = done }) to).open_lists → ClosesList limits (record { bytes = bytes; open_lists = fs; done = done }) to (closed (record { bytes = bytes; open_lists = fs; done = done }) to) false
  closes_inner bytes [] done to h n e = absurd (omega (arith, h))
  closes_inner bytes (f ∷ []) done to h n e = absurd (omega (arith, e))
  closes_inner bytes (f ∷ g ∷ gs) done to h n e = (
    omega arith,
    omega arith,
    refl,
    λ at x more t c.
        close-to f (g ∷ gs) to n at x more t c ∙ child-added g gs (Listed (sexps_of f.children) (record { from = f.at; to = to })) (record { at = to; bytes = more }),
    omega (arith, size-append g.children (Listed (sexps_of f.children) (record { from = f.at; to = to }) ∷ [])),
  )

  -- the innermost list is closed
  pub closes-whole : (b : Built) (to : ℕ) → 0 < length b.open_lists → length b.open_lists ≤ limits.nesting → length (closed b to).open_lists ≡ 0 → ClosesList limits b to (closed b to) true
  closes-whole b to h n e = closes_whole b.bytes b.open_lists b.done to h n e

  pub closes-inner : (b : Built) (to : ℕ) → 0 < length b.open_lists → length b.open_lists ≤ limits.nesting → 0 < length (closed b to).open_lists → ClosesList limits b to (closed b to) false
  closes-inner b to h n e = closes_inner b.bytes b.open_lists b.done to h n e

whole_child : (bytes : List ℕ) (fs : List OpenList) (done : List Sexp) (s : Sexp) → length fs ≡ 0 → done ≡ [] → IsWhole (with_child (record { bytes = bytes; open_lists = fs; done = done }) s) s
whole_child bytes [] done s e d = record { done = ap (λ ss. ss ++ s ∷ []) d; outside = refl }
whole_child bytes (f ∷ fs) done s e d = absurd (omega (arith, e))

-- where no list is open, the child is the command
pub whole-child : (b : Built) (s : Sexp) → length b.open_lists ≡ 0 → b.done ≡ [] → IsWhole (with_child b s) s
whole-child b s e d = whole_child b.bytes b.open_lists b.done s e d
