use Rattle.std.proofs.Common.{◌≡◌, ℕ, ◌||◌, List, [], Some, sym, ◌∙◌, subst}
use Rattle.eo_sig.specs.Indexed.{Tables, counts_at, is_met}
use Rattle.eo_sig.specs.Overloads.{tables_of}
use Rattle.eo_sig.specs.Signature as sig
use Rattle.eo_sig.specs.Reading.{Kept, signature, read_counts}
use Rattle.eo_sig.proofs.Looking.{reach_is}
use Rattle.eo_sig.proofs.signature.Signature.reaches.Goals as goal

pub returns : goal.returns
returns c =
    let fs = c.self.inside.firsts.entries in
    let x : Tables = tables_of fs c.self.inside.overloads in
    let own = subst (λ (k : Kept). counts_at (signature [] k) c.args.first ≡ Some (read_counts c.counts_at.result)) (sym c.self.view_is) c.counts_at.ensures in
    subst (λ (k : Kept). (w : List ℕ) → sig.constant_named (signature [] k) w ≡ Some c.args.first → (c.meet-own.result || c.reach.result) ≡ is_met (signature [] k) w (sig.From c.args.n)) c.self.view_is
    (λ w h. (λ i. c.meet-own.ensures i || c.reach.ensures fs i) ∙ reach_is _ x c.self.invariant.indexed w c.args.first h (read_counts c.counts_at.result) own c.args.n)
