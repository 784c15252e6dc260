use Rattle.std.proofs.Common.{◌++◌, ap, sym, ◌∙◌}
use Rattle.std.proofs.lemmas.Result.{on_ok_weaker}
use Rattle.eo_sexp.specs.AtomKind as kind
use Rattle.eo_sexp.specs.Printing.{printed_atom}
use Rattle.eo_sig.specs.Reading.{signature}
use Rattle.eo_show.specs.Sizes.{head}
use Rattle.eo_show.proofs.heads.print_head.Goals as goal

pub returns-in-Folded : goal.returns-in-Folded
returns-in-Folded c = λ ts.
    on_ok_weaker c.print_symbol.result
    (λ e. e ∙ ap (λ name. c.args.out.now.items ++ printed_atom kind.Symbol name) (c.name_of.ensures ts) ∙ ap (λ s. c.args.out.now.items ++ head (signature ts c.args.sig.now) s) (sym c.in-Folded.is))
    c.print_symbol.ensures
