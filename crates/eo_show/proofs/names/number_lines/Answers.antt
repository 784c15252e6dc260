use Rattle.std.proofs.Common.{false, ◌+◌, ◌++◌, drop, sym, ◌∙◌, arith, append-nil}
use Rattle.std.proofs.lemmas.List.{at_drop_more, at_drop_all}
use Rattle.eo_sig.specs.Reading.{signature, macros}
use Rattle.eo_show.specs.Numbers.{numbers_from}
use Rattle.eo_show.proofs.names.number_lines.Goals as goal

pub loop-wanted-preserved : goal.loop-wanted-preserved
loop-wanted-preserved c = λ ts.
    let S = signature ts c.args.sig.now in
    let M = macros ts c.args.sig.now in
    let i = c.loop-wanted.wanted-index in
    c.loop-wanted.invariant ts
    ∙ at_drop_more (λ ws. c.loop-wanted.numbers.items ++ numbers_from S M c.loop-wanted.next ws) c.args.wants.now i false (omega (arith, c.loop-wanted-test.true))
    ∙ c.in_ok-next.ensures ts (drop (i + 1) c.args.wants.now)

pub returns : goal.returns
returns c = λ ts.
    sym (c.loop-wanted.invariant ts ∙ at_drop_all (λ ws. c.loop-wanted.numbers.items ++ numbers_from (signature ts c.args.sig.now) (macros ts c.args.sig.now) c.loop-wanted.next ws) c.args.wants.now c.loop-wanted.wanted-index (omega (arith, c.loop-wanted-test.false)) ∙ append-nil c.loop-wanted.numbers.items)
