use Rattle.eo_rule.specs.Reading.{ConcludesIn}
use Rattle.eo_session.proofs.Holding.{keeps_types}
use Rattle.eo_session.proofs.Used.{only_value}
use Rattle.eo_session.proofs.store.Store.conclusion.Goals as goal

pub returns-clause-keeps : goal.returns-clause-keeps
returns-clause-keeps c =
    let made = c.conclude-formula.ensures.extends in
    let k = keeps_types c.args.self.now c.requires.whole c.conclude-formula.new.table made.grows.stays made.grows.table c.conclude-formula.new.types made.fits.fit.types c.laws.ensures in
    record {
      whole = record {
        store = record {
          types = k.whole.store.types;
          lasts = k.whole.store.lasts;
          usable = k.whole.store.usable;
          signature = k.whole.store.signature;
          assertions = k.whole.store.assertions;
          facts = k.whole.store.facts;
          values = k.whole.store.values;
          marks = k.whole.store.marks;
          terms = k.whole.store.terms;
        };
        live = record { exact = k.whole.live.exact; marked = k.whole.live.marked; scopes = k.whole.live.scopes };
      };
      same = k.same;
      signature = k.signature;
      grows = k.grows;
    }

pub returns-clause-value : goal.returns-clause-value
returns-clause-value c =
    let h = c.args.self.now in
    only_value c.conclude-formula.new.table c.conclude-formula.result (ConcludesIn h.signature h.table c.args.rule c.args.given.now) c.conclude-formula.ensures.instance
