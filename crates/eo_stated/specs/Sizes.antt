-- How much may be stated and declared, so that numbers of 64 bits name all of it.
use Rattle.std.specs.Prelude.{◌≡◌, ℕ, ◌+◌, ◌<◌, ◌≤◌, ◌^◌, false, length, All, Some, slice_get}
use Rattle.eo_term.specs.Tree.{occurs_in}
use Rattle.eo_sig.specs.Signature.{Signature, Program, Case, Rule, program_at, rule_at, is_solved}
use Rattle.eo_cert.specs.Stated.{Stated, Context, Evaluated, signature}

-- the evaluation is less deep than a number of 64 bits can say
abbrev pub IsShallow : Evaluated → Type 0
IsShallow e = e.depth + 2 ≤ 2 ^ 64

-- the cases of programs, and the parameters of cases and rules
pub record HasFewParts (S : Signature) : Type 0 where
  pub cases : (k : ℕ) (p : Program) → program_at S k ≡ Some p → length p.cases ≤ 2 ^ 64
  pub patterns : (k : ℕ) (p : Program) → program_at S k ≡ Some p → (n : ℕ) (c : Case) → slice_get p.cases n ≡ Some c →
      (i : ℕ) → 2 ^ 64 ≤ i → occurs_in i c.patterns ≡ false
  pub solved : (k : ℕ) (r : Rule) → rule_at S k ≡ Some r → (i : ℕ) → 2 ^ 64 ≤ i → is_solved r i ≡ false

-- the contexts around it have numbers of 64 bits
abbrev pub IsNear : Context → Type 0
IsNear x = All (λ d. d < 2 ^ 64) x.outer

-- All that lines name.
pub record AreFew (st : Stated) : Type 0 where
  pub terms : length st.terms ≤ 2 ^ 64
  pub contexts : length st.contexts ≤ 2 ^ 64
  pub outer : All IsNear st.contexts
  pub derivations : length st.derivations ≤ 2 ^ 64
  pub block : length st.block ≤ 2 ^ 64
  pub declared : length (signature st) ≤ 2 ^ 64
  pub parts : HasFewParts (signature st)
  pub depths : All IsShallow st.block
