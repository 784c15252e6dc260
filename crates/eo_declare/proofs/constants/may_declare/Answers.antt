use Rattle.std.proofs.Common.{◌||◌, ap, sym, ◌∙◌}
use Rattle.eo_declare.specs.Declarations.{is_reference_name}
use Rattle.eo_names.specs.Ready.{context}
use Rattle.eo_declare.proofs.constants.may_declare.Goals as goal

pub returns-then-free : goal.returns-then-free
returns-then-free c = λ ts.
    let k = context ts c.args.sig.now in
    c.if-free.true ∙ sym (ap (λ b. b || is_reference_name k c.args.name.now) (sym (c.is_free-free.ensures ts) ∙ c.if-free.true))

pub returns-else-free : goal.returns-else-free
returns-else-free c = λ ts.
    let k = context ts c.args.sig.now in
    c.is_reference_name.ensures ts ∙ sym (ap (λ b. b || is_reference_name k c.args.name.now) (sym (c.is_free-free.ensures ts) ∙ c.if-free.false))
