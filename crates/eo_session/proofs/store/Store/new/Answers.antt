use Rattle.std.proofs.Common.{◌∙◌, subst}
use Rattle.std.specs.Prelude.{IfOk}
use Rattle.eo_session.specs.Beginning.{IsFirstSignature}
use Rattle.eo_session.proofs.store.Store.new.Goals as goal

pub first-requires-clause-trees : goal.first-requires-clause-trees
first-requires-clause-trees c = (λ i. (c.in_ok-signature.ensures.other i).trees) ∙ c.in_ok-table.ensures.trees

pub first-requires-clause-signature : goal.first-requires-clause-signature
first-requires-clause-signature c = subst (λ r. IfOk r IsFirstSignature) c.in_ok-signature.ensures.called c.first_signature.ensures
