use Rattle.std.proofs.Common.{◌≡◌, List, [], ◌∷◌, take, refl, sym, ap, subst, ◌∙◌, rules}
use Rattle.eo_term.specs.Tree.{Tree}
use Rattle.eo_sig.specs.Reading.{Kept, IsBelow, first_kept, signature}
use Rattle.eo_sig.specs.Signature.{first_signature}
use Rattle.eo_sig.specs.Usable.{IsUsable}
use Rattle.eo_sig.proofs.Keeping.{done}
use Rattle.eo_sig.proofs.signature.Signature.new.Goals as goal

-- no later tree is in it
first_read : (ts : List Tree) → signature (take 4 ts) first_kept ≡ signature ts first_kept
first_read [] = refl
first_read (t ∷ []) = refl
first_read (t ∷ u ∷ ts) = refl

pub returns-clause-signature : goal.returns-clause-signature
returns-clause-signature c = λ ts h.
    let is : c.in_ok-s.s ≡ first_kept = c.in_ok-s.ensures.other ∙ done (c.keep_constants.new.self ≡ first_kept) c.keep_constants.result _ c.in_ok-s.ensures.called c.keep_constants.ensures in
    let first : signature ts first_kept ≡ first_signature = sym (first_read ts) ∙ ap (λ (us : List Tree). signature us first_kept) h in
    subst (λ (k : Kept). signature ts k ≡ first_signature) (sym is) first

pub returns-clause-usable : goal.returns-clause-usable
returns-clause-usable c = λ ts h.
    let is : c.in_ok-s.s ≡ first_kept = c.in_ok-s.ensures.other ∙ done (c.keep_constants.new.self ≡ first_kept) c.keep_constants.result _ c.in_ok-s.ensures.called c.keep_constants.ensures in
    let usable : IsUsable (signature ts first_kept) = search rules in
    subst (λ (k : Kept). IsUsable (signature ts k)) (sym is) usable

pub returns-clause-below : goal.returns-clause-below
returns-clause-below c =
    let is : c.in_ok-s.s ≡ first_kept = c.in_ok-s.ensures.other ∙ done (c.keep_constants.new.self ≡ first_kept) c.keep_constants.result _ c.in_ok-s.ensures.called c.keep_constants.ensures in
    let below : IsBelow 4 first_kept = search rules in
    subst (IsBelow 4) (sym is) below
