use Rattle.std.proofs.Common.{arith}
use Rattle.eo_sexp.specs.Sexp.{Sexp, Listed, NoSexp}
use Rattle.eo_names.specs.Scopes.{file_kind_in}
use Rattle.eo_elab.specs.Waiting.{inside}
use Rattle.eo_elab.specs.Worlds.{named_terms_in, parts_in}
use Rattle.eo_elab.proofs.Finishing.{goes_on, goes_fault}
use Rattle.eo_elab.proofs.walk.resume_head.Goals as goal

-- any head
head : Sexp
head = Listed NoSexp (record { from = 0; to = 0 })

pub returns-in_err-used-clause-gives : goal.returns-in_err-used-clause-gives
returns-in_err-used-clause-gives c =
    let t = c.args.table.now in
    let w = inside t c.args.sig.now c.args.scope.now c.args.blocks.now in
    let here = named_terms_in t c.args.named_terms.now in
    goes_fault _ _ _ _ _ _ _ _ _ _ _ _ c.from_residual.ensures.1 (c.in_err-used.ensures.used (file_kind_in c.args.scope.now) w.locals (parts_in w head c.args.args.now) here)

pub returns-clause-gives : goal.returns-clause-gives
returns-clause-gives c =
    let t = c.args.table.now in
    let w = inside t c.args.sig.now c.args.scope.now c.args.blocks.now in
    let here = named_terms_in t c.args.named_terms.now in
    goes_on _ _ _ _ _ _ _ _ _ _ _ _ _ (c.in_ok-used.ensures.used (file_kind_in c.args.scope.now) w.locals (parts_in w head c.args.args.now) here) (omega arith) (c.begin_use.ensures.gives head)
