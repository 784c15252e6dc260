use Rattle.std.proofs.Common.{◌≡◌, ◌<◌, ◌-◌, ℕ, suc, List, ap, sym, subst, ◌∙◌, arith}
use Rattle.std.specs.Prelude.{Result, Ok, Err}
use Rattle.eo_base.specs.Answers.{Tells}
use Rattle.eo_term.specs.Terms.{Terms}
use Rattle.eo_term.specs.Tree.{Tree}
use Rattle.eo_names.specs.declared.folding.Turn.{Turn}
use Rattle.eo_names.specs.declared.refused.ElabRefused.{ElabRefused}
use Rattle.eo_names.specs.Gives.{GivesTurn, TakesTurn}
use Rattle.eo_names.specs.Grouped.{if_low}
use Rattle.eo_names.specs.Refused.{told}
use Rattle.eo_names.specs.Worlds.{World, turns_in, turned_in}
use Rattle.eo_names.proofs.folding.next_turn.Goals as goal

taken : (w : World) (t : Terms) (left k : ℕ) (us : List Tree) (r : Result Turn ElabRefused) → 0 < left → GivesTurn w t r k us → TakesTurn w t left r k us
taken w t left k us (Ok turn) some h =
    let one : suc (left - 1) ≡ left = omega (arith, some) in
    record { live = h.live; is = ap if_low (ap (λ n. turns_in w n k us) (sym one) ∙ h.is (left - 1)) }
taken w t left k us (Err e) some h =
    let one : suc (left - 1) ≡ left = omega (arith, some) in
    subst (λ n. Tells told e (turned_in w n k us)) one (h (left - 1))

pub returns-clause-gives : goal.returns-clause-gives
returns-clause-gives c = taken _ _ _ _ _ c.turn_of.result (omega (arith, c.if-left-eq0.false)) c.turn_of.ensures.gives
