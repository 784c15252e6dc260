use Rattle.std.proofs.Common.{length, sym, subst, ◌∙◌}
use Rattle.std.proofs.Math.Path.{transport}
use Rattle.std.proofs.lemmas.Result.{on_ok_weaker}
use Rattle.eo_elab.specs.Worlds.{named_terms_in}
use Rattle.eo_names.specs.Names.{BindingsBelow}
use Rattle.eo_term.specs.Terms.{Terms}
use Rattle.eo_session.specs.Asserting.{MayBeNames}
use Rattle.eo_session.specs.Step.{with_named_terms}
use Rattle.eo_session.proofs.store.Store.put_asserted.Goals as goal

pub add_names-requires-clause-below : goal.add_names-requires-clause-below
add_names-requires-clause-below c = subst (λ (t : Terms). BindingsBelow (length t.trees) c.args.names.now) (sym c.in_ok-add_assertion.ensures.table) c.requires.below

pub add_names-requires-clause-new : goal.add_names-requires-clause-new
add_names-requires-clause-new c =
    transport (λ i. MayBeNames (sym c.in_ok-add_assertion.ensures.updates i) (named_terms_in (sym c.in_ok-add_assertion.ensures.table i) c.args.names.now)) c.requires.new

pub returns-clause-updates : goal.returns-clause-updates
returns-clause-updates c =
    let one = c.in_ok-add_assertion.ensures in
    on_ok_weaker c.add_names.result (λ e. e ∙ (λ i. with_named_terms (one.updates i) (named_terms_in (one.table i) c.args.names.now))) c.add_names.ensures.updates

pub returns-clause-table : goal.returns-clause-table
returns-clause-table c = c.add_names.ensures.table ∙ c.in_ok-add_assertion.ensures.table

pub returns-clause-kept : goal.returns-clause-kept
returns-clause-kept c = c.add_names.ensures.kept ∙ c.in_ok-add_assertion.ensures.kept
