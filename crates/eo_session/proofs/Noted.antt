-- What is noted of a command.
use Rattle.std.proofs.Common.{◌≡◌, ℕ, List, [], All, sym, ap, subst, ◌∙◌, length, ◌<◌}
use Rattle.std.specs.Prelude.{Result, Ok, Err}
use Rattle.std.proofs.lemmas.List.Elements.{All-nil}
use Rattle.eo_base.specs.Checks.{Checked}
use Rattle.eo_term.specs.Growth.{trees_in}
use Rattle.eo_term.specs.Tree.{Tree}
use Rattle.eo_session.specs.Notes.{found}
use Rattle.eo_session.specs.Noting.{GivesArguments, GivesFound}
use Rattle.eo_session.specs.Using.{GivesIds}
use Rattle.eo_session.specs.declared.store.Store.{Store}
use Rattle.eo_session.specs.declared.refused.Refused.{Refused}
use Rattle.eo_session.specs.declared.refused.Refused.TheVariants as refused

-- the arguments are the values that are found, where there are some
pub found_arguments : (h : Store) (m : Checked (List Tree)) (r : Result (List ℕ) Refused) (is : List ℕ) → GivesIds h r m → GivesFound r is → GivesArguments h (found m) is
found_arguments h m (Ok js) is g e = record {
  live = subst (All (λ i. i < length h.table.trees)) (sym e) g.live.live;
  read = ap (trees_in h.table) e ∙ sym (ap found g.is);
}
found_arguments h m (Err (refused.Fault name)) is g e = record {
  live = subst (All (λ i. i < length h.table.trees)) (sym e) (All-nil (λ i. i < length h.table.trees));
  read = ap (trees_in h.table) e ∙ sym (ap found g.0);
}
found_arguments h m (Err refused.Ended) is g e = absurd g.1
found_arguments h m (Err (refused.Memory a)) is g e = absurd e
