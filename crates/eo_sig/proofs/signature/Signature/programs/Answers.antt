use Rattle.std.proofs.Common.{◌≡◌, length, ap, ◌∙◌, subst, map, List, []}
use Rattle.eo_term.specs.Tree.{Tree}
use Rattle.eo_sig.specs.Signature as sig
use Rattle.eo_sig.specs.Reading.{signature, read_entry}
use Rattle.eo_sig.specs.Held.{program_name}
use Rattle.eo_sig.proofs.Tables.{table_length}
use Rattle.std.proofs.lemmas.List.{length-map}
use Rattle.eo_sig.proofs.Readings.{program_names}
use Rattle.eo_sig.proofs.Views.{programs_count}
use Rattle.eo_sig.proofs.signature.Signature.programs.Goals as goal

pub returns-clause-value : goal.returns-clause-value
returns-clause-value c = λ ts. subst (λ k. c.len.result ≡ length (sig.programs (signature ts k))) c.self.view_is
    (c.len.ensures.len ∙ table_length program_name c.self.inside.entries.items c.self.inside.programs.entries c.self.invariant.programs
    ∙ ap length (program_names ts c.self.inside.entries.items) ∙ length-map (sig.programs (map (read_entry ts) c.self.inside.entries.items)) (λ (p : sig.Program). p.name))

pub returns-clause-count : goal.returns-clause-count
returns-clause-count c =
    let none : List Tree = [] in
    returns-clause-value c none ∙ programs_count none c.args.self.now
