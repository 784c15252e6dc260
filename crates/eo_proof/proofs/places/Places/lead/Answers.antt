use Rattle.std.proofs.Common.{◌≡◌, ◌+◌, length, set, refl, sym, subst, arith}
use Rattle.std.proofs.lemmas.Grind.{common_steps}
use Rattle.eo_proof.specs.declared.places.Places.{Places}
use Rattle.eo_proof.specs.Places.{LeadsTo}
use Rattle.eo_proof.proofs.Found.{led}
use Rattle.eo_proof.proofs.places.Places.lead.Goals as goal
use Rattle.eo_proof.proofs.places.Places.lead.Goals.{then-number-len+in_ok-resize, else-number-len}

pub returns-clause-leads : goal.returns-clause-leads
returns-clause-leads c =
    let old = c.args.self.now.numbered.items in
    let number = c.args.number in
    let place = c.args.place in
    elim c.if-number-len.branch [
      | then-number-len+in_ok-resize w ↦
          let wide = w.resize.new.self.items in
          let long : length wide ≡ number + 1 = omega (arith, w.in_ok-resize.ensures.len, w.resize.new.self.ok.0) in
          subst (λ (p : Places). LeadsTo old number place (set p.numbered.items number place)) (sym w.self-is)
          (led old wide number place (omega arith) (λ k low. (omega arith, grind (arith, common_steps))) (λ k high there. grind (arith, common_steps)))
      | else-number-len w ↦
          subst (λ (p : Places). LeadsTo old number place (set p.numbered.items number place)) (sym w.self-is)
          (led old old number place (omega arith) (λ k low. (low, refl)) (λ k high there. absurd (omega arith)))
    ]
