use Rattle.std.proofs.Common.{◌≡◌, ℕ, List, [], Some, sym, ap, ◌∙◌, subst}
use Rattle.std.specs.Prelude.{if◌then◌else◌}
use Rattle.eo_sig.specs.Indexed.{Tables, counts_at, later_at}
use Rattle.eo_sig.specs.Overloads.{tables_of}
use Rattle.eo_sig.specs.Signature as sig
use Rattle.eo_sig.specs.Reading.{Kept, signature, read_counts}
use Rattle.eo_sig.proofs.Looking.{taking_is}
use Rattle.eo_sig.proofs.signature.Signature.taking.Goals as goal

pub returns-then-takes : goal.returns-then-takes
returns-then-takes c =
    let x : Tables = tables_of c.self.inside.firsts.entries c.self.inside.overloads in
    let own = subst (λ (k : Kept). counts_at (signature [] k) c.args.first ≡ Some (read_counts c.counts_at.result)) (sym c.self.view_is) c.counts_at.ensures in
    subst (λ (k : Kept). (w : List ℕ) → sig.constant_named (signature [] k) w ≡ Some c.args.first → Some c.args.first ≡ sig.constant_taking (signature [] k) w c.args.n) c.self.view_is
    (λ w h. sym (ap (λ b. if b then Some c.args.first else later_at x c.args.n c.args.first) (sym c.takes.ensures ∙ c.if-takes.true)) ∙ taking_is _ x c.self.invariant.indexed w c.args.first h (read_counts c.counts_at.result) own c.args.n)

pub returns : goal.returns
returns c =
    let fs = c.self.inside.firsts.entries in
    let x : Tables = tables_of fs c.self.inside.overloads in
    let own = subst (λ (k : Kept). counts_at (signature [] k) c.args.first ≡ Some (read_counts c.counts_at.result)) (sym c.self.view_is) c.counts_at.ensures in
    subst (λ (k : Kept). (w : List ℕ) → sig.constant_named (signature [] k) w ≡ Some c.args.first → c.taking.result ≡ sig.constant_taking (signature [] k) w c.args.n) c.self.view_is
    (λ w h. c.taking.ensures fs ∙ sym (ap (λ b. if b then Some c.args.first else later_at x c.args.n c.args.first) (sym c.takes.ensures ∙ c.if-takes.false)) ∙ taking_is _ x c.self.invariant.indexed w c.args.first h (read_counts c.counts_at.result) own c.args.n)
