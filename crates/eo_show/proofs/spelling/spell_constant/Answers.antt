use Rattle.std.proofs.Common.{◌++◌, ap₂, ◌∙◌}
use Rattle.eo_sexp.specs.AtomKind as kind
use Rattle.eo_sexp.specs.Printing.{printed_atom}
use Rattle.eo_show.proofs.spelling.spell_constant.Goals as goal

pub returns : goal.returns
returns c = λ ts. c.in_ok-print_symbol.ensures ∙ ap₂ (λ xs n. xs ++ printed_atom kind.Symbol n) c.new-out.ensures.items (c.name_of.ensures ts)
