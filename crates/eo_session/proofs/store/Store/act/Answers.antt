use Rattle.std.proofs.Common.{subst}
use Rattle.eo_session.specs.Deciding.{MayCommit}
use Rattle.eo_session.proofs.store.Store.act.Goals as goal

pub returns-in-Assert-clause-below : goal.returns-in-Assert-clause-below
returns-in-Assert-clause-below c = (subst (MayCommit c.args.self.now) c.in-Assert.is c.requires.may).live

pub returns-in-Open-clause-below : goal.returns-in-Open-clause-below
returns-in-Open-clause-below c = (subst (MayCommit c.args.self.now) c.in-Open.is c.requires.may).value.live

pub fact_act-requires-clause-live : goal.fact_act-requires-clause-live
fact_act-requires-clause-live c = (subst (MayCommit c.args.self.now) c.in-Add.is c.requires.may).value.live
