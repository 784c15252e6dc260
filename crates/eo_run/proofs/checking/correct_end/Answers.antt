use Rattle.std.proofs.Common.{ℕ, List, sym, ap, ◌∙◌}
use Rattle.std.specs.Prelude.{bytes_eq}
use Rattle.std.specs.List.{list_any}
use Rattle.std.proofs.lemmas.Option.{same_Some}
use Rattle.eo_run.proofs.Ends.{refuted-some, placed-within}
use Rattle.eo_run.proofs.checking.correct_end.Goals as goal

pub unreachable-requires : goal.unreachable-requires
unreachable-requires c = refuted-some c.args.run.now.session.state c.requires.refuted (sym c.refutation.ensures ∙ c.in_default.is)

pub get-proof-requires : goal.get-proof-requires
get-proof-requires c = placed-within c.args.paths.now c.args.end.file c.requires.placed

pub returns-clause-shared : goal.returns-clause-shared
returns-clause-shared c = λ path e.
    c.is_some.ensures ∙ c.find.ensures.there ∙ ap (λ (p : List ℕ). list_any (bytes_eq p) c.args.run.now.opened) (same_Some c.get-proof.result.now path (sym c.get-proof.ensures ∙ e))
