-- The search for the next free name, and the numbers of lines.
use Rattle.std.specs.Prelude.{◌≡◌, ℕ, suc, ◌+◌, Bool, true, false, if◌then◌else◌, List, [], ◌∷◌, ◌++◌}
use Rattle.std.proofs.Common.{sym, ap, ap₂, ◌∙◌, append_assoc, arith}
use Rattle.eo_sig.specs.Signature.{Signature, Macro, is_free}
use Rattle.eo_show.specs.Lines.{line_name, first_free, next_free}
use Rattle.eo_show.specs.Numbers.{numbers_from}

module _ (S : Signature) (macros : List Macro) where
  pub free_step : (n m k : ℕ) (b : Bool) → n ≡ suc m → is_free S macros (line_name k) ≡ b → first_free S macros n k ≡ (if b then k else first_free S macros m (suc k))
  free_step n m k b e f = ap (λ n. first_free S macros n k) e ∙ ap (λ (b : Bool). if b then k else first_free S macros m (suc k)) f

  pub number_step : (k n : ℕ) (all done new : List ℕ) (wants : List Bool) → all ≡ done ++ numbers_from S macros k (true ∷ wants) → n ≡ next_free S macros k → new ≡ done ++ n ∷ [] → all ≡ new ++ numbers_from S macros (n + 1) wants
  number_step k n all done new wants e f g =
      e ∙ ap (λ j. done ++ j ∷ numbers_from S macros (suc j) wants) (sym f) ∙ sym (append_assoc done (n ∷ []) (numbers_from S macros (suc n) wants)) ∙ ap₂ (λ us j. us ++ numbers_from S macros j wants) (sym g) (omega arith)

  pub no_number : (k : ℕ) (all done new : List ℕ) (wants : List Bool) → all ≡ done ++ numbers_from S macros k (false ∷ wants) → new ≡ done ++ 0 ∷ [] → all ≡ new ++ numbers_from S macros k wants
  no_number k all done new wants e g = e ∙ sym (append_assoc done (0 ∷ []) (numbers_from S macros k wants)) ∙ ap (λ us. us ++ numbers_from S macros k wants) (sym g)
