-- What each byte of a command that is begun makes of its reading.
use Rattle.std.proofs.Common.{◌≡◌, refl, ℕ, ◌+◌, ◌≤◌, ◌<◌, Bool, true, false, List, [], ◌∷◌, ◌++◌, length, length-append, ap, ◌∙◌, arith}
use Rattle.std.specs.Prelude.{Option, nat_lt, ◌||◌, ◌&&◌, ◌==◌, if◌then◌else◌}
use Rattle.std.proofs.lemmas.Bool.{lt-leb, lt-ltb, le-ltb, eq-eqb, ltb-true, ltb-false}
use Rattle.eo_base.specs.declared.FaultName.{FaultName}
use Rattle.eo_base.specs.declared.FaultName.TheVariants.{BadByte, CommandLong}
use Rattle.eo_base.specs.Faults.{number}
use Rattle.eo_base.specs.Limits.{Limits}
use Rattle.eo_sexp.specs.Sexp.{Sexp}
use Rattle.eo_sexp.specs.Lexicon.{Input}
use Rattle.eo_sexp.specs.Commands.{Reading, Whole, Refused, Cut, comes_first, at_most, front, sexp, command}
use Rattle.eo_sexp.specs.Machine.{earlier_fault}
use Rattle.eo_sexp.proofs.TokenTurns.{at_most-whole, at_most-cut}

pub front-append : (b more : List ℕ) → 0 < length b → front (b ++ more) ≡ front b
unfolding front
front-append [] more h = absurd (omega arith)
front-append (x ∷ b) more h = refl

abbrev refused : FaultName → ℕ → Reading Sexp
refused name at = Refused name at

earlier : (b : Bool) (name : FaultName) (at : ℕ) → (if b then refused name at else refused CommandLong at) ≡ Refused (if b then name else CommandLong) at
earlier true name at = refl
earlier false name at = refl

bad-before-long : (at most : ℕ) → at ≤ most → comes_first BadByte at CommandLong most ≡ true
unfolding comes_first number
bad-before-long at most h = grind arith

pub at_most-bad_byte : {A : Type 0} (most : ℕ) (t : Input) (at : ℕ) → at ≤ t.at + most → at_most {A = A} CommandLong most t (Refused BadByte at) ≡ Refused BadByte at
unfolding at_most
at_most-bad_byte most t at h = rw (bad-before-long at (t.at + most) h)

module _ (limits : Limits) (b : List ℕ) (x : ℕ) (some : 0 < length b) where
  command-of : (r : Reading Sexp) → sexp limits (front b) (record { at = 0; bytes = b ++ x ∷ [] }) ≡ r → command limits (b ++ x ∷ []) ≡ at_most CommandLong limits.command (record { at = 0; bytes = b ++ x ∷ [] }) r
  unfolding command
  command-of r e =
      let t : Input = record { at = 0; bytes = b ++ x ∷ [] } in
      ap (λ c. at_most CommandLong limits.command t (sexp limits c t)) (front-append b (x ∷ []) some) ∙ ap (at_most CommandLong limits.command t) e

  pub command-goes : (e : Option Sexp) → sexp limits (front b) (record { at = 0; bytes = b ++ x ∷ [] }) ≡ Cut e → length b < limits.command → command limits (b ++ x ∷ []) ≡ Cut e
  command-goes e h fits = command-of (Cut e) h ∙ at_most-cut CommandLong limits.command _ e (omega (arith, length-append b (x ∷ [])))

  pub command-over : (e : Option Sexp) → sexp limits (front b) (record { at = 0; bytes = b ++ x ∷ [] }) ≡ Cut e → length b ≡ limits.command → command limits (b ++ x ∷ []) ≡ Refused CommandLong (length b)
  unfolding at_most
  command-over e h long =
      command-of (Cut e) h
      ∙ ap (λ q. if q then Cut e else Refused CommandLong (0 + limits.command)) (lt-leb (length (b ++ x ∷ [])) limits.command (omega (arith, length-append b (x ∷ []))))
      ∙ ap (Refused CommandLong) (omega arith)

  pub command-whole : (s : Sexp) (rest : Input) → sexp limits (front b) (record { at = 0; bytes = b ++ x ∷ [] }) ≡ Whole s rest → rest.at ≤ limits.command → command limits (b ++ x ∷ []) ≡ Whole s rest
  command-whole s rest h fits = command-of (Whole s rest) h ∙ at_most-whole CommandLong limits.command _ s rest (omega arith)

  pub command-whole-over : (s : Sexp) (rest : Input) → sexp limits (front b) (record { at = 0; bytes = b ++ x ∷ [] }) ≡ Whole s rest → limits.command < rest.at → length b ≡ limits.command → command limits (b ++ x ∷ []) ≡ Refused CommandLong (length b)
  unfolding at_most
  command-whole-over s rest h over long =
      command-of (Whole s rest) h
      ∙ ap (λ q. if q then Whole s rest else Refused CommandLong (0 + limits.command)) (lt-leb rest.at (0 + limits.command) (omega arith))
      ∙ ap (Refused CommandLong) (omega arith)

  first-of : (name : FaultName) → length b ≤ limits.command → comes_first name (length b) CommandLong (0 + limits.command) ≡ (nat_lt (length b) limits.command || nat_lt (number name) (number CommandLong))
  unfolding comes_first
  first-of name h = go (nat_lt (length b) limits.command) refl
    where
      go : (q : Bool) → nat_lt (length b) limits.command ≡ q →
          (nat_lt (length b) (0 + limits.command) || (((length b) == (0 + limits.command)) && nat_lt (number name) (number CommandLong))) ≡ (q || nat_lt (number name) (number CommandLong))
      go true e = ap (λ q. q || (((length b) == (0 + limits.command)) && nat_lt (number name) (number CommandLong))) (lt-ltb (length b) (0 + limits.command) (omega (arith, ltb-true _ _ e)))
      go false e =
          let late = ltb-false _ _ e in
          ap (λ q. q || (((length b) == (0 + limits.command)) && nat_lt (number name) (number CommandLong))) (le-ltb (length b) (0 + limits.command) (omega arith))
          ∙ ap (λ q. q && nat_lt (number name) (number CommandLong)) (eq-eqb (length b) (0 + limits.command) (omega arith))

  pub command-fault : (name : FaultName) → sexp limits (front b) (record { at = 0; bytes = b ++ x ∷ [] }) ≡ Refused name (length b) → length b ≤ limits.command → command limits (b ++ x ∷ []) ≡ Refused (earlier_fault limits (length b) name) (length b)
  unfolding at_most
  command-fault name h fits =
      command-of (Refused name (length b)) h
      ∙ ap (λ q. if q then Refused name (length b) else Refused CommandLong (0 + limits.command)) (first-of name fits)
      ∙ go (nat_lt (length b) limits.command) refl
    where
      go : (q : Bool) → nat_lt (length b) limits.command ≡ q →
          (if q || nat_lt (number name) (number CommandLong) then refused name (length b) else refused CommandLong (0 + limits.command)) ≡ Refused (if q || nat_lt (number name) (number CommandLong) then name else CommandLong) (length b)
      go true e = refl
      go false e = let same : 0 + limits.command ≡ length b = omega (arith, ltb-false _ _ e) in
          ap (λ k. if nat_lt (number name) (number CommandLong) then refused name (length b) else refused CommandLong k) same ∙ earlier (nat_lt (number name) (number CommandLong)) name (length b)
