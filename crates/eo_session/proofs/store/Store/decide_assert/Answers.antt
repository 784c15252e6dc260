use Rattle.std.proofs.Common.{sym, ap, subst, ◌∙◌}
use Rattle.eo_elab.specs.Fitting.{FitsTerms}
use Rattle.eo_elab.specs.Worlds.{named_terms_in}
use Rattle.eo_names.specs.Contexts.{InAssert}
use Rattle.eo_term.specs.Growth.{tree_in}
use Rattle.eo_session.specs.Asserting.{MayBeNames}
use Rattle.eo_session.specs.Decisions.{asserted_effect}
use Rattle.eo_session.specs.Store.{state_of}
use Rattle.eo_session.specs.State.{State, context_in}
use Rattle.eo_session.proofs.Decided.{decides-refused, decides-same}
use Rattle.eo_session.proofs.Used.{keeps_on}
use Rattle.eo_session.proofs.Assertions.{assert-fault, assert-is}
use Rattle.eo_session.proofs.Labels.{assertion_names}
use Rattle.eo_session.proofs.store.Store.decide_assert.Goals as goal

pub returns-in_err-read-clause-decides : goal.returns-in_err-read-clause-decides
returns-in_err-read-clause-decides c =
    decides-refused _ _ c.from_residual.result c.in_err-read.field-0.0 c.read_assertion.new.self c.from_residual.ensures.1 c.in_err-read.ensures.gives (assert-fault (state_of c.args.self.now) c.args.formula.now)

pub decide_asserted-requires-clause-live : goal.decide_asserted-requires-clause-live
decide_asserted-requires-clause-live c = c.in_ok-read.ensures.gives.live.formula

pub decide_asserted-requires-clause-below : goal.decide_asserted-requires-clause-below
decide_asserted-requires-clause-below c = c.in_ok-read.ensures.gives.live.names

pub decide_asserted-requires-clause-new : goal.decide_asserted-requires-clause-new
decide_asserted-requires-clause-new c =
    let st = state_of c.args.self.now in
    let s = c.args.formula.now in
    let mid = c.read_assertion.new.self in
    let t = tree_in mid.table c.in_ok-read.read.formula in
    let named_terms = named_terms_in mid.table c.in_ok-read.read.names in
    let is = c.in_ok-read.ensures.gives.is in
    let fits : FitsTerms (context_in st InAssert) = record { folds = c.requires.whole.store.terms.folds; macros = c.requires.whole.store.terms.macros } in
    let closed = c.named_terms_law.ensures.named_terms (context_in st InAssert) s t named_terms fits is in
    let free = c.named_terms_law.ensures.free (context_in st InAssert) s t named_terms fits is in
    subst (λ (z : State). MayBeNames z named_terms) (sym c.in_ok-read.ensures.keeps.same) (assertion_names st named_terms free closed)

pub returns-clause-decides : goal.returns-clause-decides
returns-clause-decides c =
    let st = state_of c.args.self.now in
    let s = c.args.formula.now in
    let mid = c.read_assertion.new.self in
    let t = tree_in mid.table c.in_ok-read.read.formula in
    let named_terms = named_terms_in mid.table c.in_ok-read.read.names in
    decides-same c.decide_asserted.new.self c.decide_asserted.result _ _
    (assert-is st s t named_terms c.in_ok-read.ensures.gives.is ∙ ap (λ (z : State). asserted_effect z t named_terms) (sym c.in_ok-read.ensures.keeps.same))
    c.decide_asserted.ensures.decides

pub returns-clause-keeps : goal.returns-clause-keeps
returns-clause-keeps c = keeps_on _ _ _ c.in_ok-read.ensures.keeps c.decide_asserted.ensures.keeps
