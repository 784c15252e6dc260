-- Function types without parameters and operators: they are met by one type alone, and give what they say.
use Rattle.std.specs.Prelude.{◌≡◌, true, false, [], ◌∷◌}
use Rattle.std.proofs.Common.{ap, ◌∙◌}
use Rattle.eo_base.proofs.Tests.{both}
use Rattle.eo_pattern.proofs.Match.{matches_matching, nothing_matches}
use Rattle.eo_pattern.proofs.Steps.{closed_equal, closed_differ, put_closed}
use Rattle.eo_pattern.specs.Matching.{empty}
use Rattle.eo_term.specs.Tree.{Tree, Arr, is_closed, is_plain, is_tall}
use Rattle.eo_type.specs.Types.{Typed, Untyped, settled, application_type}
use Rattle.eo_type.proofs.SettleSteps.{settle_plain, settled_settle}
use Rattle.eo_type.proofs.TypingSteps.{arr_applies, arr_apart}

module _ (f a b t x : Tree) (is : Arr a b ≡ f) (closed : is_closed f ≡ true) where
  parts_closed : is_closed (Arr a b) ≡ true
  parts_closed = ap is_closed is ∙ closed

  pub plain_applies : is_plain f ≡ true → is_tall b ≡ false → a ≡ t → application_type f t x ≡ Typed b
  plain_applies plain low e =
      arr_applies f a b t x empty is (matches_matching empty (a ∷ []) (t ∷ []) empty (closed_equal empty a t (both parts_closed).0 e))
      ∙ ap settled (put_closed empty b (both parts_closed).1) ∙ settled_settle b low ∙ settle_plain b (both (ap is_plain is ∙ plain)).1

  pub plain_apart : (a ≡ t → ⊥) → application_type f t x ≡ Untyped
  plain_apart n =
      arr_apart f a b t x is (nothing_matches empty (a ∷ []) (t ∷ []) (λ τ m. closed_differ empty τ a t (both parts_closed).0 n m))
