use Rattle.std.proofs.Common.{sym, subst, List, ℕ}
use Rattle.eo_base.specs.Checks.{Checked}
use Rattle.eo_session.specs.Store.{state_of}
use Rattle.eo_session.specs.Stepping.{Gives}
use Rattle.eo_session.proofs.NamedPaths.{reference-second, reference-first}
use Rattle.eo_session.proofs.store.Store.reference_path.Goals as goal

pub returns-then-self : goal.returns-then-self
returns-then-self c = (reference-second (state_of c.args.self.now) c.args.written.now c.if-self.true, λ q. absurd cc)

pub returns : goal.returns
returns c =
    subst (λ (m : Checked (List ℕ)). Gives c.path_of.result m) (sym (reference-first (state_of c.args.self.now) c.args.written.now c.if-self.false)) c.path_of.ensures
