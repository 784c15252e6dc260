use Rattle.std.proofs.Common.{◌≡◌, ℕ, List, sym, subst}
use Rattle.std.specs.Prelude.{OnOk}
use Rattle.eo_sig.specs.Indexed.{with_other}
use Rattle.eo_sig.specs.Overloads.{tables_of}
use Rattle.eo_sig.specs.Reading.{read_counts}
use Rattle.eo_sig.proofs.overloads.Overloads.add.Goals as goal

pub returns-in-Exactly-clause-adds : goal.returns-in-Exactly-clause-adds
returns-in-Exactly-clause-adds c =
    subst (λ q. OnOk c.add_exact.result ((fs : List (List ℕ × ℕ)) → tables_of fs c.add_exact.new.self ≡ with_other (tables_of fs c.args.self.now) c.args.first c.args.constant (read_counts q))) (sym c.in-Exactly.is) c.add_exact.ensures.adds
