use Rattle.std.proofs.Common.{ℕ, Bool, ◌||◌, List, [], sym, ap, subst}
use Rattle.eo_declare.specs.Declarations.{is_reference_name}
use Rattle.eo_elab.specs.Worlds.{context_in}
use Rattle.eo_sig.specs.Reading.{read_macro, signature, macros, IsFree}
use Rattle.eo_sig.specs.Signature.{is_free}
use Rattle.eo_session.specs.Store.{state_of}
use Rattle.eo_session.specs.Decisions.{macro_effect}
use Rattle.eo_session.proofs.Adding.{free-none, macro-new, found}
use Rattle.eo_session.proofs.Decided.{declared-refuses, declared-decides}
use Rattle.eo_session.proofs.Holding.{keeps_table}
use Rattle.std.specs.Prelude.{None, ◌≡◌, true, Ok}
use Rattle.eo_session.specs.declared.effects.Effect.TheVariants as effect
use Rattle.eo_session.proofs.store.Store.decide_free.Goals as goal

pub defined_allowed-requires-clause-may : goal.defined_allowed-requires-clause-may
defined_allowed-requires-clause-may c =
    let h = c.args.self.now in
    ap (λ (b : Bool). b || is_reference_name (context_in h.table h.signature) c.args.name.now) (c.requires.free h.table.trees)

pub returns-in_err-d-clause-decides : goal.returns-in_err-d-clause-decides
returns-in_err-d-clause-decides c =
    declared-refuses _ macro_effect (state_of c.args.self.now) _ c.from_residual.result c.in_err-d.field-0.0 c.from_residual.ensures.1 c.in_err-d.ensures.gives

pub returns-clause-decides : goal.returns-clause-decides
returns-clause-decides c =
    let h = c.args.self.now in
    let t = c.defined_allowed.new.table in
    let new = record h { table = t } in
    let mid = state_of new in
    let d = read_macro t.trees c.in_ok-d.d in
    let keeps = keeps_table h c.requires.whole t c.in_ok-d.ensures.grows.stays c.in_ok-d.ensures.grows.table in
    let nothing : found mid d.name ≡ None = free-none (signature t.trees h.signature) (macros t.trees h.signature) d.name (subst (λ (n : List ℕ). is_free (signature t.trees h.signature) (macros t.trees h.signature) n ≡ true) (sym c.in_ok-d.ensures.named) (c.requires.free t.trees)) in
    let free = subst (λ (n : List ℕ). IsFree h.signature n) (sym c.in_ok-d.ensures.named) (c.requires.free []) in
    let bound = c.ordering_law.ensures.macros _ _ _ _ d c.requires.whole.store.terms c.in_ok-d.ensures.gives.is in
    declared-decides _ macro_effect (state_of h) new (Ok (effect.Define c.in_ok-d.d)) mid d keeps.same c.in_ok-d.ensures.gives.is
    (record { live = record { below = c.in_ok-d.ensures.gives.live; free = free; bound = bound }; is = macro-new mid d nothing })

pub returns-clause-keeps : goal.returns-clause-keeps
returns-clause-keeps c = keeps_table c.args.self.now c.requires.whole c.defined_allowed.new.table c.in_ok-d.ensures.grows.stays c.in_ok-d.ensures.grows.table
