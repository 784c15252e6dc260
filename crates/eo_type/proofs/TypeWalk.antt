-- A walk that types terms, step by step.
use Rattle.std.proofs.Common.{◌≡◌, ℕ, ◌+◌, ◌<◌, ◌≤◌, List, [], ◌∷◌, ◌++◌, length, Option, Some, None, nat_eq, Bool, true, false, if◌then◌else◌, refl, sym, ap, ◌∙◌, subst, arith}
use Rattle.std.specs.Prelude.{Result, Ok, Err}
use Rattle.std.proofs.lemmas.Bool.{eqb-true, eqb-false}
use Rattle.eo_sig.specs.Reading.{Kept, signature}
use Rattle.eo_sig.specs.Growth.{GrowsUnder}
use Rattle.eo_term.specs.Memo.{told}
use Rattle.std.proofs.lemmas.List.Elements.{All-push}
use Rattle.eo_type.proofs.Fitting.{fit_grown, fit_kept}
use Rattle.eo_type.proofs.Keeping.{kept_new, keeps_more, finds_more}
use Rattle.eo_term.specs.Terms.{Terms}
use Rattle.eo_term.specs.Tree.{Tree}
use Rattle.eo_term.specs.declared.walk.Step.{Step}
use Rattle.eo_term.specs.declared.walk.Step.TheVariants as step
use Rattle.eo_type.specs.declared.refused.Stop.{Stop}
use Rattle.eo_type.specs.Types.{TypeOutcome}
use Rattle.eo_type.specs.Known.{IsFit, Fits, Fit, Keeps, FindsBelow, kept_type, type_at}
use Rattle.eo_type.specs.Outcomes.{IsTyped, Stops}
use Rattle.eo_type.specs.TypeSteps.{GivesTypeStep}

pub step_on : (k : Kept) (old : Terms) (known : List (ℕ × ℕ)) (below more : ℕ) (o p : TypeOutcome Tree) (new : Terms) (r : Result Step Stop) → below ≤ more → o ≡ p → GivesTypeStep k old known below o new r → GivesTypeStep k old known more p new r
step_on k old known below more o p new (Ok (step.Made v)) l e h = subst (λ q. IsTyped new q v) e h
step_on k old known below more o p new (Ok (step.Part q)) l e h = record { older = let a = h.older in omega (arith, a, l); unkept = h.unkept; stops = λ f g. subst (Stops f) e (h.stops f g) }
step_on k old known below more o p new (Err f) l e h = subst (Stops f) e h

pub other_kept : (known : List (ℕ × ℕ)) (k v j : ℕ) → (k ≡ j → ⊥) → kept_type (known ++ (k, v) ∷ []) j ≡ kept_type known j
other_kept [] k v j n = by (nat_eq j k) refl
  where
    by : (b : Bool) → nat_eq j k ≡ b → (if b then Some v else None) ≡ None
    by true q = absurd (n (sym (eqb-true j k q)))
    by false q = refl
other_kept (e ∷ es) k v j n = ap (λ (o : Option ℕ). if nat_eq j e.0 then Some e.1 else o) (other_kept es k v j n)

-- what is kept once the type of a term is found
pub record IsFound (k : Kept) (new : Terms) (first now : List (ℕ × ℕ)) (id x ty : ℕ) : Type 0 where
  pub keeps : Keeps first now
  pub older : FindsBelow (id + 1) first now
  pub fits : Fit k new now
  pub found : kept_type now x ≡ Some ty

pub is_found : (k : Kept) (old new : Terms) (first known now : List (ℕ × ℕ)) (id x ty : ℕ) → GrowsUnder k old new → kept_type known x ≡ None → now ≡ known ++ (x, ty) ∷ [] → Keeps first known → FindsBelow (id + 1) first known → x < id + 1 → x < length old.trees → Fit k old known → IsTyped new (type_at k old x) ty → IsFound k new first now id x ty
is_found k old new first known now id x ty u none e keeps older low live fit typed =
    let grown = fit_grown k old new u.stays u.table.now known fit in
    record {
      keeps = λ i v h. subst (λ kn. kept_type kn i ≡ Some v) (sym e) (keeps_more known (x, ty) i v (keeps i v h));
      older = λ i l. subst (λ kn. kept_type kn i ≡ kept_type known i) (sym e) (finds_more known x ty i (omega (arith, l, low))) ∙ older i l;
      fits = record { below = grown.below; types = subst (Fits (signature new.trees k) new.trees) (sym e) (All-push (IsFit (signature new.trees k) new.trees) known (x, ty) grown.types (fit_kept k old new u.stays u.table.now x ty live typed.live typed.typed)) };
      found = subst (λ kn. kept_type kn x ≡ Some ty) (sym e) (kept_new known x ty none);
    }

-- a type that is kept is what is found for its term, and for any other term the same is found as before
pub finished : (known now : List (ℕ × ℕ)) (x ty : ℕ) → kept_type known x ≡ None → now ≡ known ++ (x, ty) ∷ [] → (j : ℕ) → told now j ≡ (if nat_eq x j then Some ty else told known j)
finished known now x ty none e j = ap (λ kn. told kn j) e ∙ by (nat_eq x j) refl
  where
    by : (b : Bool) → nat_eq x j ≡ b → told (known ++ (x, ty) ∷ []) j ≡ (if b then Some ty else told known j)
    by true q = ap (kept_type (known ++ (x, ty) ∷ [])) (sym (eqb-true x j q)) ∙ kept_new known x ty none
    by false q = other_kept known x ty j (eqb-false x j q)
