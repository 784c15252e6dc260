use Rattle.std.proofs.Common.{◌≡◌, ℕ, List, Bool, true, false, refl, length, subst, ap, arith}
use Rattle.eo_base.specs.Limits.{limits}
use Rattle.eo_sexp.proofs.LimitFacts.{command_is}
use Rattle.eo_sexp.specs.Built.{Built}
use Rattle.eo_sexp.specs.Reader.{Progress, held, Ends}
use Rattle.eo_sexp.proofs.FedEnds.{ends-open, ends-command, ends-unsat}
use Rattle.eo_sexp.proofs.incremental.Machine.finish_begun.Goals as goal

ends-at : (old : Progress) (new : Built) (bytes kept : List ℕ) (w v : Bool) → bytes ≡ kept → w ≡ v → Ends limits old (length bytes) new w → Ends limits old (length kept) new v
ends-at old new bytes kept w v e f h = subst (λ bs. Ends limits old (length bs) new v) e (subst (λ u. Ends limits old (length bytes) new u) f h)

pub returns-then-is_unsat : goal.returns-then-is_unsat
returns-then-is_unsat c =
    let u = c.if-is_unsat.ensures.yes refl in
    ends-unsat c.args.self.now c.requires.begun c.requires.pair c.requires.placed u.0 u.1

pub returns-then-finish : goal.returns-then-finish
returns-then-finish c =
    let r = ends-at (held c.args.self.now.begun c.args.self.now.reader) c.finish.new.buffer c.bytes-at.result.now c.args.self.now.begun.bytes c.finish.result true c.bytes-at.ensures c.if-finish.true c.finish.ensures.ends in
    ends-command c.args.self.now c.requires.begun c.requires.pair c.complete.new.self r.0 c.finish.new.self c.finish.new.buffer c.requires.placed c.finish.ensures.bytes r.1 r.2 (c.if-is_unsat.ensures.no refl) c.complete.ensures

pub returns : goal.returns
returns c =
    let r = ends-at (held c.args.self.now.begun c.args.self.now.reader) c.finish.new.buffer c.bytes-at.result.now c.args.self.now.begun.bytes c.finish.result false c.bytes-at.ensures c.if-finish.false c.finish.ensures.ends in
    ends-open c.args.self.now c.requires.begun c.requires.pair c.finish_open.new.self c.finish_open.result c.requires.placed r c.finish_open.ensures.state c.finish_open.ensures.answer

pub finish-requires-clause-short : goal.finish-requires-clause-short
finish-requires-clause-short c = omega (arith, command_is, c.requires.begun.short, ap length c.bytes-at.ensures)
