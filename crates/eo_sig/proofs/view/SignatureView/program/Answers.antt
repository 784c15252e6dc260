use Rattle.std.proofs.Common.{◌≡◌, ◌<◌, Some, length, slice_get, ap, sym, subst, ◌∙◌, arith}
use Rattle.std.specs.Option.{option_copied}
use Rattle.eo_sig.specs.Reading.{Kept, programs_of}
use Rattle.eo_sig.specs.Views.{with_own}
use Rattle.eo_sig.proofs.Readings.{program_read, program_below}
use Rattle.eo_sig.proofs.Views.{own_here, own_before, own_less}
use Rattle.eo_sig.proofs.view.SignatureView.program.Goals as goal

pub returns-then-n-programs-clause-kept : goal.returns-then-n-programs-clause-kept
returns-then-n-programs-clause-kept c =
    let k = c.self.inside.sig.now in
    let same : c.args.self.now ≡ with_own k (Some c.in-Some.program.now) = sym c.self.view_is ∙ ap (λ o. with_own k (option_copied o)) c.in-Some.is in
    let count = c.programs.ensures.count in
    ap (λ (k : Kept). slice_get (programs_of k) c.args.n) same ∙ own_here k c.in-Some.program.now c.args.n (omega (arith, c.if-n-programs.true, count))

pub returns-then-n-programs-clause-value : goal.returns-then-n-programs-clause-value
returns-then-n-programs-clause-value c = λ ts. program_read ts c.args.self.now c.args.n c.in-Some.program.now (returns-then-n-programs-clause-kept c)

pub returns-then-n-programs-clause-below : goal.returns-then-n-programs-clause-below
returns-then-n-programs-clause-below c = λ m h. program_below m c.args.self.now c.args.n c.in-Some.program.now h (returns-then-n-programs-clause-kept c)

pub program-requires : goal.program-requires
program-requires c =
    let k = c.self.inside.sig.now in
    let same : c.args.self.now ≡ with_own k (Some c.in-Some.program.now) = sym c.self.view_is ∙ ap (λ o. with_own k (option_copied o)) c.in-Some.is in
    let count = c.programs.ensures.count in
    own_less k c.in-Some.program.now c.args.n (subst (λ (k : Kept). c.args.n < length (programs_of k)) same c.requires) (λ e. omega (arith, e, c.if-n-programs.false, count))

pub returns-else-n-programs-clause-kept : goal.returns-else-n-programs-clause-kept
returns-else-n-programs-clause-kept c =
    ap (λ (k : Kept). slice_get (programs_of k) c.args.n) (sym c.self.view_is) ∙ own_before c.self.inside.sig.now (option_copied c.self.inside.own) c.args.n c.program.result.now c.program.ensures.kept

pub returns-else-n-programs-clause-value : goal.returns-else-n-programs-clause-value
returns-else-n-programs-clause-value c = λ ts. program_read ts c.args.self.now c.args.n c.program.result.now (returns-else-n-programs-clause-kept c)

pub returns-else-n-programs-clause-below : goal.returns-else-n-programs-clause-below
returns-else-n-programs-clause-below c = λ m h. program_below m c.args.self.now c.args.n c.program.result.now h (returns-else-n-programs-clause-kept c)

pub returns-in-None-clause-below : goal.returns-in-None-clause-below
returns-in-None-clause-below c = λ m h.
    program_below m c.args.self.now c.args.n c.program-in-None.result.now h
    (ap (λ (k : Kept). slice_get (programs_of k) c.args.n) (sym c.self.view_is) ∙ own_before c.self.inside.sig.now (option_copied c.self.inside.own) c.args.n c.program-in-None.result.now c.program-in-None.ensures.kept)
