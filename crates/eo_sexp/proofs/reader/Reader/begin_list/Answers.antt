use Rattle.std.proofs.Common.{refl, ap, ◌∙◌}
use Rattle.eo_base.specs.Limits.{limits}
use Rattle.std.proofs.lemmas.Result.{on_ok_weaker}
use Rattle.eo_sexp.specs.Built.{Built, opened}
use Rattle.eo_sexp.proofs.LimitFacts.{some_nesting}
use Rattle.eo_sexp.proofs.ReaderSteps.{list-read}
use Rattle.eo_sexp.proofs.reader.Reader.begin_list.Goals as goal

pub returns-clause-begins : goal.returns-clause-begins
returns-clause-begins c = on_ok_weaker c.open_list.result
    (λ h. let same = h ∙ ap (λ b. opened b 0) c.requires in λ x e. list-read limits some_nesting _ x (ap (λ (b : Built). b.open_lists) same) (ap (λ (b : Built). b.done) same) refl e)
    c.open_list.ensures
