use Rattle.std.proofs.Common.{not, sym, ap, ◌∙◌}
use Rattle.std.specs.Prelude.{◌&&◌}
use Rattle.eo_session.specs.Numbered.{origin_of}
use Rattle.eo_session.specs.Step.{is_in_proof}
use Rattle.eo_session.proofs.store.Store.may_declare.Goals as goal
use Rattle.eo_session.proofs.store.Store.may_declare.Goals.{then-self, else-self}

pub returns : goal.returns
returns c =
    let there = is_in_proof (origin_of c.args.from) in
    elim c.if-self.branch [
      | then-self w ↦ ap not (w.result-is ∙ w.is_proof.ensures ∙ ap (λ b. b && there) (sym w.if-self.true))
      | else-self w ↦ ap not (w.result-is ∙ w.if-self.false ∙ ap (λ b. b && there) (sym w.if-self.false))
    ]
