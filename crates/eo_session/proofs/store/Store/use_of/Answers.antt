use Rattle.std.proofs.Common.{◌≡◌, ap, sym, ◌∙◌, option_map}
use Rattle.std.specs.Prelude.{Ok, Result}
use Rattle.eo_rule.specs.Uses.{Use}
use Rattle.eo_rule.specs.declared.RuleUse.{RuleUse}
use Rattle.eo_shape.specs.Reading.{read_step}
use Rattle.eo_term.specs.Growth.{tree_in, trees_in}
use Rattle.eo_session.specs.Store.{state_of}
use Rattle.eo_session.specs.State.{State}
use Rattle.eo_session.specs.Step.{use_of, values}
use Rattle.eo_session.specs.Using.{GivesUse}
use Rattle.eo_session.specs.declared.refused.Refused.{Refused}
use Rattle.eo_session.proofs.Concluding.{use-no_premises, use-not_stated, use-no_arguments, use-whole}
use Rattle.eo_base.proofs.Answering.{at_exit}
use Rattle.eo_session.proofs.Sessions.{refuses_on}
use Rattle.eo_session.proofs.Used.{use_read, use_is, keeps_on, keeps_self}
use Rattle.eo_session.proofs.store.Store.use_of.Goals as goal

pub returns-in_err-premises-clause-gives : goal.returns-in_err-premises-clause-gives
returns-in_err-premises-clause-gives c =
    let h = c.args.self.now in
    let st = state_of h in
    let a = option_map (tree_in h.table) c.args.assumed in
    let s = read_step c.args.shape.now in
    let x = c.in_err-premises.field-0.0 in
    at_exit (λ (r : Result RuleUse Refused). GivesUse h r (use_of st a s)) c.from_residual.result x c.from_residual.ensures.1 (refuses_on _ _ x c.in_err-premises.ensures (use-no_premises st a s))

pub returns-in_err-stated-clause-gives : goal.returns-in_err-stated-clause-gives
returns-in_err-stated-clause-gives c =
    let h = c.args.self.now in
    let st = state_of h in
    let a = option_map (tree_in h.table) c.args.assumed in
    let s = read_step c.args.shape.now in
    let x = c.in_err-stated.field-0.0 in
    let ps = trees_in h.table c.in_ok-premises.premises in
    at_exit (λ (r : Result RuleUse Refused). GivesUse c.optional_value.new.self r (use_of st a s)) c.from_residual-in_err-stated.result x c.from_residual-in_err-stated.ensures.1
    (refuses_on _ _ x c.in_err-stated.ensures.gives (use-not_stated st a s ps c.in_ok-premises.ensures.is))

pub returns-in_err-args-clause-gives : goal.returns-in_err-args-clause-gives
returns-in_err-args-clause-gives c =
    let h = c.args.self.now in
    let st = state_of h in
    let a = option_map (tree_in h.table) c.args.assumed in
    let s = read_step c.args.shape.now in
    let x = c.in_err-args.field-0.0 in
    let ps = trees_in h.table c.in_ok-premises.premises in
    let o = option_map (tree_in c.optional_value.new.self.table) c.in_ok-stated.stated in
    at_exit (λ (r : Result RuleUse Refused). GivesUse c.values.new.self r (use_of st a s)) c.from_residual-in_err-args.result x c.from_residual-in_err-args.ensures.1
    (refuses_on _ _ x c.in_err-args.ensures.gives
    (λ f e. use-no_arguments st a s ps c.in_ok-premises.ensures.is o c.in_ok-stated.ensures.gives.is f (ap (λ (z : State). values z s.arguments) (sym c.in_ok-stated.ensures.keeps.same) ∙ e)))

pub returns-clause-gives : goal.returns-clause-gives
returns-clause-gives c =
    let h = c.args.self.now in
    let st = state_of h in
    let t = h.table in
    let u = c.optional_value.new.self.table in
    let v = c.values.new.self.table in
    let a = option_map (tree_in t) c.args.assumed in
    let s = read_step c.args.shape.now in
    let ps = c.in_ok-premises.premises in
    let o = c.in_ok-stated.stated in
    let xs = c.in_ok-args.args in
    let first = c.in_ok-stated.ensures.keeps in
    let second = c.in_ok-args.ensures.keeps in
    let all = keeps_on h c.optional_value.new.self c.values.new.self first second in
    let arguments : values st s.arguments ≡ Ok (trees_in v xs) = ap (λ (z : State). values z s.arguments) (sym first.same) ∙ c.in_ok-args.ensures.gives.is in
    record {
      live = use_is t u v first.grows.now second.grows.now all.grows.now c.args.assumed o ps xs c.requires.assumed c.in_ok-premises.ensures.live c.in_ok-stated.ensures.gives.live c.in_ok-args.ensures.gives.live;
      is =
          use-whole st a s (trees_in t ps) c.in_ok-premises.ensures.is (option_map (tree_in u) o) c.in_ok-stated.ensures.gives.is (trees_in v xs) arguments
          ∙ ap (λ (w : Use). Ok w) (use_read t u v first.grows.now second.grows.now all.grows.now c.args.assumed o ps xs c.requires.assumed c.in_ok-premises.ensures.live c.in_ok-stated.ensures.gives.live c.in_ok-args.ensures.gives.live);
    }

pub optional_value-requires : goal.optional_value-requires
optional_value-requires c = c.requires.whole

pub values-requires : goal.values-requires
values-requires c = c.in_ok-stated.ensures.keeps.whole

pub returns-in_err-premises-clause-keeps : goal.returns-in_err-premises-clause-keeps
returns-in_err-premises-clause-keeps c = keeps_self c.args.self.now c.requires.whole

pub returns-in_err-stated-clause-keeps : goal.returns-in_err-stated-clause-keeps
returns-in_err-stated-clause-keeps c = c.in_err-stated.ensures.keeps

pub returns-in_err-args-clause-keeps : goal.returns-in_err-args-clause-keeps
returns-in_err-args-clause-keeps c = keeps_on c.args.self.now c.optional_value.new.self c.values.new.self c.in_ok-stated.ensures.keeps c.in_err-args.ensures.keeps

pub returns-clause-keeps : goal.returns-clause-keeps
returns-clause-keeps c = keeps_on c.args.self.now c.optional_value.new.self c.values.new.self c.in_ok-stated.ensures.keeps c.in_ok-args.ensures.keeps
