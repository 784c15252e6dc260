use Rattle.std.proofs.Common.{◌≡◌, false, ap, refl, sym, subst, ◌∙◌}
use Rattle.std.specs.Prelude.{Err}
use Rattle.eo_shape.specs.Reading as shapes
use Rattle.eo_term.proofs.Growing.{grows_refl}
use Rattle.eo_shape.specs.Shapes.{command_of}
use Rattle.eo_declare.specs.Declarations as declarations
use Rattle.eo_declare.specs.Declaring.{declared, or_bad, IsKnown}
use Rattle.eo_declare.specs.Gives.{GivesDeclaration}
use Rattle.eo_elab.specs.Worlds.{context_in}
use Rattle.eo_declare.proofs.CheckedLemmas.{then-ok, then-err}
use Rattle.eo_declare.proofs.declaring.declaration.Goals as goal

pub returns-in-Ok-clause-gives : goal.returns-in-Ok-clause-gives
returns-in-Ok-clause-gives c =
    let x = context_in c.args.table.now c.args.sig.now in
    let k = shapes.read_command c.in-Ok.command in
    let known : declared x c.args.s.now ≡ or_bad (declarations.declaration x k) = then-ok (λ k. or_bad (declarations.declaration x k)) (command_of false c.args.s.now) k c.in-Ok.ensures.shape in
    subst (GivesDeclaration c.declared_by.new.table c.declared_by.result) (sym known) c.declared_by.ensures.gives

pub returns-in-Err-clause-gives : goal.returns-in-Err-clause-gives
returns-in-Err-clause-gives c =
    let x = context_in c.args.table.now c.args.sig.now in
    let bad = subst IsKnown c.in-Err.ensures.refused c.requires.command in
    then-err (λ k. or_bad (declarations.declaration x k)) (command_of false c.args.s.now) _ c.in-Err.ensures.refused ∙ ap Err bad

pub returns-in-Err-clause-grows : goal.returns-in-Err-clause-grows
returns-in-Err-clause-grows c = record { table = grows_refl c.args.table.now; stays = record { signature = refl; macros = refl; below = c.requires.ready } }
