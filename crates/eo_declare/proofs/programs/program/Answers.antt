use Rattle.std.proofs.Common.{◌<◌, ◌≤◌, [], length, arith, ap, sym, subst, ◌∙◌}
use Rattle.std.proofs.lemmas.Result.{IfOk-weaker}
use Rattle.eo_base.specs.declared.FaultName.TheVariants.{Redeclared}
use Rattle.eo_base.specs.Limits.{parameters_limit}
use Rattle.eo_base.proofs.Answering.{fails}
use Rattle.eo_term.proofs.Growing.{grows_refl, grows_on}
use Rattle.eo_declare.specs.Declarations.{declared_program, program_over, is_free_name}
use Rattle.eo_shape.specs.Reading.{read_program}
use Rattle.eo_sig.specs.Reading.{signature, macros}
use Rattle.eo_sig.specs.Signature.{is_free}
use Rattle.eo_declare.specs.Declaring.{read_bound}
use Rattle.eo_declare.specs.Gives.{GivesProgram}
use Rattle.eo_elab.specs.Worlds.{context_in}
use Rattle.eo_declare.proofs.CheckedLemmas.{require-no}
use Rattle.eo_declare.proofs.Giving.{same_context}
use Rattle.eo_declare.proofs.ProgramLemmas.{program-many, program-inputs, program-unbound, program-bound}
use Rattle.eo_declare.proofs.programs.program.Goals as goal

pub returns-then-not-is_free-clause-gives : goal.returns-then-not-is_free-clause-gives
unfolding declared_program
returns-then-not-is_free-clause-gives c = require-no _ Redeclared _ (sym (c.is_free.ensures c.args.table.now.trees) ∙ c.if-not-is_free.true)

pub returns-in_err-bound-clause-gives : goal.returns-in_err-bound-clause-gives
returns-in_err-bound-clause-gives c =
    let t = c.args.table.now in
    let few : length c.args.shape.now.params ≤ parameters_limit = omega (arith, c.len.ensures, c.if-len-gt-PARAMETERS.false) in
    let less : length c.args.shape.now.inputs ≤ parameters_limit = omega (arith, c.len-2.ensures, c.if-len-gt-PARAMETERS-2.false) in
    fails _ _ _ _ _ _ _ c.from_residual.ensures.1
    (program-unbound (context_in t c.args.sig.now) (read_program c.args.shape.now) (sym (c.is_free.ensures t.trees) ∙ c.if-not-is_free.false) few less) c.in_err-bound.ensures.gives

pub returns-clause-gives : goal.returns-clause-gives
returns-clause-gives c =
    let t = c.args.table.now in
    let us = c.bind.new.table in
    let x = context_in t c.args.sig.now in
    let few : length c.args.shape.now.params ≤ parameters_limit = omega (arith, c.len.ensures, c.if-len-gt-PARAMETERS.false) in
    let less : length c.args.shape.now.inputs ≤ parameters_limit = omega (arith, c.len-2.ensures, c.if-len-gt-PARAMETERS-2.false) in
    let b = read_bound us.trees c.in_ok-bound.bound in
    let same = same_context c.args.sig.now t us c.laws.ensures c.requires c.in_ok-bound.ensures.grows in
    let parts = program-bound x (read_program c.args.shape.now) (sym (c.is_free.ensures t.trees) ∙ c.if-not-is_free.false) few less b c.in_ok-bound.ensures.gives.is in
    subst (GivesProgram c.program_over.new.table c.program_over.result) (sym (parts ∙ ap (λ y. program_over y b (read_program c.args.shape.now)) (sym same))) c.program_over.ensures.gives

pub returns-then-len-gt-PARAMETERS-clause-gives : goal.returns-then-len-gt-PARAMETERS-clause-gives
returns-then-len-gt-PARAMETERS-clause-gives c =
    let t = c.args.table.now in
    let many : parameters_limit < length c.args.shape.now.params = omega (arith, c.len.ensures, c.if-len-gt-PARAMETERS.true) in
    program-many (context_in t c.args.sig.now) (read_program c.args.shape.now) (sym (c.is_free.ensures t.trees) ∙ c.if-not-is_free.false) many

pub returns-then-len-gt-PARAMETERS-2-clause-gives : goal.returns-then-len-gt-PARAMETERS-2-clause-gives
returns-then-len-gt-PARAMETERS-2-clause-gives c =
    let t = c.args.table.now in
    let few : length c.args.shape.now.params ≤ parameters_limit = omega (arith, c.len.ensures, c.if-len-gt-PARAMETERS.false) in
    let many : parameters_limit < length c.args.shape.now.inputs = omega (arith, c.len-2.ensures, c.if-len-gt-PARAMETERS-2.true) in
    program-inputs (context_in t c.args.sig.now) (read_program c.args.shape.now) (sym (c.is_free.ensures t.trees) ∙ c.if-not-is_free.false) few many

pub program_over-requires-clause-below : goal.program_over-requires-clause-below
program_over-requires-clause-below c = (c.laws.ensures c.args.table.now c.bind.new.table c.requires c.in_ok-bound.ensures.grows).stays.below

pub returns-clause-free : goal.returns-clause-free
returns-clause-free c =
    let k = c.args.sig.now in
    IfOk-weaker c.program_over.result _ _ (λ d e. ap (is_free (signature [] k) (macros [] k)) e ∙ sym (c.is_free.ensures []) ∙ c.if-not-is_free.false) c.program_over.ensures.name

pub returns-clause-named : goal.returns-clause-named
returns-clause-named c =
    let t = c.args.table.now in
    IfOk-weaker c.program_over.result _ _ (λ d e. ap (is_free_name (context_in t c.args.sig.now)) e ∙ sym (c.is_free.ensures t.trees) ∙ c.if-not-is_free.false) c.program_over.ensures.name

pub returns-then-not-is_free-clause-grows : goal.returns-then-not-is_free-clause-grows
returns-then-not-is_free-clause-grows c = c.laws.ensures c.args.table.now c.args.table.now c.requires (grows_refl c.args.table.now)

pub returns-then-len-gt-PARAMETERS-clause-grows : goal.returns-then-len-gt-PARAMETERS-clause-grows
returns-then-len-gt-PARAMETERS-clause-grows c = c.laws.ensures c.args.table.now c.args.table.now c.requires (grows_refl c.args.table.now)

pub returns-then-len-gt-PARAMETERS-2-clause-grows : goal.returns-then-len-gt-PARAMETERS-2-clause-grows
returns-then-len-gt-PARAMETERS-2-clause-grows c = c.laws.ensures c.args.table.now c.args.table.now c.requires (grows_refl c.args.table.now)

pub returns-in_err-bound-clause-grows : goal.returns-in_err-bound-clause-grows
returns-in_err-bound-clause-grows c = c.laws.ensures c.args.table.now c.bind.new.table c.requires c.in_err-bound.ensures.grows

pub returns-clause-grows : goal.returns-clause-grows
returns-clause-grows c =
    c.laws.ensures c.args.table.now c.program_over.new.table c.requires (grows_on c.args.table.now c.bind.new.table c.program_over.new.table c.in_ok-bound.ensures.grows c.program_over.ensures.grows)
