use Rattle.std.proofs.Common.{◌≡◌, true, not, sym, ap, ◌∙◌}
use Rattle.std.specs.Prelude.{nat_lt}
use Rattle.eo_sig.specs.Signature.{is_reserved}
use Rattle.eo_term.specs.Growth.{tree_in}
use Rattle.eo_proof.specs.Scopes.{depth, is_live, scope_limit}
use Rattle.eo_session.specs.Store.{state_of}
use Rattle.eo_session.specs.State.{State}
use Rattle.eo_session.specs.Step.{is_free_fact}
use Rattle.eo_session.proofs.Decided.{decides-refused}
use Rattle.eo_session.proofs.Sessions.{not_taken, push-deep, push-redeclared, push-fault, push-ok, is_less}
use Rattle.eo_session.proofs.store.Store.decide_push.Goals as goal

pub returns-then-not-has_room-clause-decides : goal.returns-then-not-has_room-clause-decides
returns-then-not-has_room-clause-decides c =
    (push-deep (state_of c.args.self.now) c.args.name.now c.args.formula.now (sym c.has_room.ensures ∙ c.if-not-has_room.true), λ e. absurd cc)

pub returns-then-is_taken-clause-decides : goal.returns-then-is_taken-clause-decides
returns-then-is_taken-clause-decides c =
    (push-redeclared (state_of c.args.self.now) c.args.name.now c.args.formula.now (sym c.has_room.ensures ∙ c.if-not-has_room.false) (sym c.is_taken.ensures ∙ ap not c.if-is_taken.true), λ e. absurd cc)

pub returns-in_err-hypothesis-clause-decides : goal.returns-in_err-hypothesis-clause-decides
returns-in_err-hypothesis-clause-decides c =
    decides-refused _ _ c.from_residual.result c.in_err-hypothesis.field-0.0 c.formula.new.self c.from_residual.ensures.1 c.in_err-hypothesis.ensures.gives
    (push-fault (state_of c.args.self.now) c.args.name.now c.args.formula.now (sym c.has_room.ensures ∙ c.if-not-has_room.false) (sym c.is_taken.ensures ∙ ap not c.if-is_taken.false))

pub returns-clause-decides : goal.returns-clause-decides
returns-clause-decides c =
    let st = state_of c.args.self.now in
    let name = c.args.name.now in
    let new = c.formula.new.self in
    let told = c.in_ok-hypothesis.ensures in
    let few : nat_lt (depth st.scopes) scope_limit ≡ true = sym c.has_room.ensures ∙ c.if-not-has_room.false in
    let free : is_free_fact st name ≡ true = sym c.is_taken.ensures ∙ ap not c.if-is_taken.false in
    record {
      live = record {
        value = told.value;
        few = is_less (depth (state_of new).scopes) scope_limit (ap (λ (z : State). nat_lt (depth z.scopes) scope_limit) told.keeps.same ∙ few);
        free = ap (λ (z : State). is_live z.scopes name) told.keeps.same ∙ (not_taken (is_reserved name) (is_live st.scopes name) free).1;
      };
      is = push-ok st name c.args.formula.now few free (tree_in new.table c.in_ok-hypothesis.hypothesis) told.gives.is;
    }
