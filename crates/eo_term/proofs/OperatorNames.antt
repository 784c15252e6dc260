-- A word that does not begin as the names of operators do names none.
use Rattle.std.proofs.Common.{◌≡◌, ℕ, Bool, true, false, true≢false, cond, nat_eq, List, [], ◌∷◌, None, Some, refl, sym, ap, ◌∙◌}
use Rattle.std.specs.Prelude.{bytes_eq, codes, find}
use Rattle.std.specs.List.{list_all, starts_with}
use Rattle.std.proofs.lemmas.Slice.Eq.{bytes_eq-Decides}
use Rattle.eo_base.proofs.Tests.{both}
use Rattle.eo_term.specs.declared.OpName.{OpName}
use Rattle.eo_term.specs.Operators.{operator, operators, is_named, operator_named}

abbrev begins_so : List ℕ → Bool
begins_so word = starts_with nat_eq word (codes "eo::")

none_in : (word : List ℕ) (os : List OpName) → list_all (λ o. begins_so (operator o).word) os ≡ true → begins_so word ≡ false → find (is_named word) os ≡ None
none_in word [] h e = refl
none_in word (o ∷ os) h e = by (bytes_eq word (operator o).word) refl (none_in word os (both h).1 e)
  where
    by : (b : Bool) → bytes_eq word (operator o).word ≡ b → find (is_named word) os ≡ None → cond b (Some o) (find (is_named word) os) ≡ None
    by true q rest = absurd (true≢false (sym (both h).0 ∙ ap begins_so (sym ((bytes_eq-Decides word (operator o).word).0 q)) ∙ e))
    by false q rest = rest

pub none_named : (word : List ℕ) → begins_so word ≡ false → operator_named word ≡ None
unfolding operator_named
none_named word e = none_in word operators refl e
