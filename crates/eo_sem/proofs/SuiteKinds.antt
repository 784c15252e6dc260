-- The rules of the suite that preserve truth: four, and those whose truth tables say so.
use Rattle.std.specs.Prelude.{◌≡◌, ℕ, zero, suc, true, List, [], ◌∷◌, Some, slice_get, refl}
use Rattle.std.proofs.Common.{subst}
use Rattle.std.proofs.lemmas.Option.{none-some, same_Some}
use Rattle.eo_base.proofs.Tests.{clash}
use Rattle.eo_sig.specs.Signature.{Rule, rule_at, rules}
use Rattle.eo_sem.specs.SemanticRules.{is_semantic}
use Rattle.eo_sem.specs.Suite.{suite_signature}
use Rattle.eo_sem.specs.SuiteRules.{the_and_elim, the_and_intro, the_resolution, the_scope}
use Rattle.eo_sem.proofs.Fixed.{is_fixed}

pub data Kind (r : Rule) : Type 0 where
  IsFixed : is_fixed r ≡ true → Kind r
  IsAndElim : r ≡ the_and_elim → Kind r
  IsAndIntro : r ≡ the_and_intro → Kind r
  IsResolution : r ≡ the_resolution → Kind r
  IsScope : r ≡ the_scope → Kind r

abbrev HasKind : Rule → Type 0
HasKind r = is_semantic r.name ≡ true → Kind r

abbrev HaveKinds : List Rule → Type 0
HaveKinds [] = Unit {0}
HaveKinds (r ∷ rs) = HasKind r × HaveKinds rs

kind_at : (rs : List Rule) → HaveKinds rs → (k : ℕ) (r : Rule) → slice_get rs k ≡ Some r → HasKind r
kind_at [] h k r e = absurd (none-some r e)
kind_at (s ∷ rs) h zero r e = subst HasKind (same_Some s r e) h.0
kind_at (s ∷ rs) h (suc k) r e = kind_at rs h.1 k r e

suite_kinds : HaveKinds (rules suite_signature)
suite_kinds =
    ((λ s. clash s), ((λ s. clash s), ((λ s. clash s), ((λ s. IsFixed refl), ((λ s. IsFixed refl), ((λ s. IsFixed refl), ((λ s. IsFixed refl), ((λ s. IsFixed refl), ((λ s. IsAndElim refl), ((λ s. IsAndIntro refl), ((λ s. clash s), ((λ s. IsFixed refl), ((λ s. IsFixed refl), ((λ s. IsFixed refl), ((λ s. IsFixed refl), ((λ s. IsFixed refl), ((λ s. IsFixed refl), ((λ s. IsFixed refl), ((λ s. IsFixed refl), ((λ s. IsFixed refl), ((λ s. IsFixed refl), ((λ s. IsFixed refl), ((λ s. IsFixed refl), ((λ s. IsFixed refl), ((λ s. IsFixed refl), ((λ s. IsFixed refl), ((λ s. clash s), ((λ s. clash s), ((λ s. clash s), ((λ s. clash s), ((λ s. clash s), ((λ s. IsFixed refl), ((λ s. IsFixed refl), ((λ s. IsFixed refl), ((λ s. IsFixed refl), ((λ s. IsFixed refl), ((λ s. IsFixed refl), ((λ s. IsFixed refl), ((λ s. IsResolution refl), ((λ s. clash s), ((λ s. IsScope refl), tt)))))))))))))))))))))))))))))))))))))))))

pub suite_kind : (k : ℕ) (r : Rule) → rule_at suite_signature k ≡ Some r → is_semantic r.name ≡ true → Kind r
suite_kind k r e s = kind_at (rules suite_signature) suite_kinds k r e s
