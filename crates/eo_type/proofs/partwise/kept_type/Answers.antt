use Rattle.std.proofs.Common.{◌≡◌, sym}
use Rattle.std.specs.Prelude.{Option, Some, None, IfSome, ℕ, List}
use Rattle.eo_sig.specs.Reading.{Kept, signature}
use Rattle.eo_term.specs.Terms.{Terms}
use Rattle.eo_type.specs.Known.{Fit, kept_type, type_at}
use Rattle.eo_type.specs.Outcomes.{IsTyped}
use Rattle.eo_type.proofs.Fitting.{fit_known}
use Rattle.eo_type.proofs.partwise.kept_type.Goals as goal

found : (k : Kept) (t : Terms) (known : List (ℕ × ℕ)) (i : ℕ) (o : Option ℕ) → Fit k t known → o ≡ kept_type known i → IfSome o (λ u. IsTyped t (type_at k t i) u)
found k t known i None fit e = tt
found k t known i (Some u) fit e = let f = fit_known (signature t.trees k) t.trees known i u fit.types (sym e) in record { live = f.type; typed = f.typed }

pub returns-clause-some : goal.returns-clause-some
returns-clause-some c = found _ _ _ _ c.get.result c.requires c.get.ensures
