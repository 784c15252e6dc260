use Rattle.std.proofs.Common.{◌≡◌, ◌≤◌, length, subst, ap, sym, ◌∙◌}
use Rattle.std.proofs.lemmas.Option.{slice_get_past}
use Rattle.eo_sig.specs.Signature.{programs, program_at}
use Rattle.eo_sig.specs.Reading.{signature}
use Rattle.eo_stated.proofs.checker.Checker.program.Goals as goal

pub returns-then-number-programs-clause-program : goal.returns-then-number-programs-clause-program
returns-then-number-programs-clause-program c =
    let ts = c.args.self.now.table.trees in
    ap (λ S. program_at S c.args.number) (sym c.requires.declared)
    ∙ slice_get_past (programs (signature ts c.args.self.now.signature)) c.args.number
    (subst (λ n. n ≤ c.args.number) (c.programs.ensures.value ts) c.if-number-programs.true)

pub returns-clause-program : goal.returns-clause-program
returns-clause-program c =
    ap (λ S. program_at S c.args.number) (sym c.requires.declared) ∙ c.program.ensures.value c.args.self.now.table.trees

pub returns-clause-below : goal.returns-clause-below
returns-clause-below c = c.program.ensures.below (length c.args.self.now.table.trees) c.requires.signature
