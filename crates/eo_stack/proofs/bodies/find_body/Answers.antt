use Rattle.std.proofs.Common.{length, sym, ap, subst, arith, All}
use Rattle.std.specs.Option.{option_and_then}
use Rattle.std.proofs.lemmas.Option.{slice_get_past}
use Rattle.eo_term.specs.Growth.{trees_in}
use Rattle.eo_sig.specs.Reading.{CaseBelow, signature}
use Rattle.eo_sig.specs.Signature as sig
use Rattle.eo_stack.specs.Bodies.{first_case}
use Rattle.eo_stack.proofs.bodies.find_body.Goals as goal

pub returns-then-program-programs : goal.returns-then-program-programs
returns-then-program-programs c =
    let t = c.args.table.now in
    let past = slice_get_past (sig.programs (signature t.trees c.args.sig.now)) c.args.program (omega (arith, c.programs.ensures.value t.trees, c.if-program-programs.true)) in
    record { found = ap (option_and_then (λ (p : sig.Program). first_case p.cases (trees_in t c.args.args.now))) past }

pub program-requires : goal.program-requires
program-requires c =
    omega (arith, c.programs.ensures.count, c.if-program-programs.false)

pub first_body-requires-clause-cases : goal.first_body-requires-clause-cases
first_body-requires-clause-cases c =
    subst (All (CaseBelow (length c.args.table.now.trees))) (sym c.as_slice.ensures) (c.program.ensures.below (length c.args.table.now.trees) c.requires.below).cases
