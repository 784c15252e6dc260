use Rattle.std.proofs.Common.{◌≡◌, ◌+◌, ◌++◌, ◌∙◌, ap, ℕ, List, length, take, take-take, rules}
use Rattle.std.proofs.Math.Seq.{take-append-add}
use Rattle.eo_sexp.proofs.buffer.appending.append.Goals as goal

pub returns-in_ok-extend_from_slice : goal.returns-in_ok-extend_from_slice
returns-in_ok-extend_from_slice c =
    let old = c.args.bytes.now.items in
    let n = c.args.n in
    let size : c.len-size.result ≡ length old = search rules in
    record {
      appends =
          c.truncate.ensures.items
          ∙ ap (take (c.len-size.result + n)) c.in_ok-extend_from_slice.ensures.items
          ∙ ap (λ (k : ℕ). take (k + n) (old ++ take 16 c.args.more.now)) size
          ∙ take-append-add old (take 16 c.args.more.now) n
          ∙ ap (λ (l : List ℕ). old ++ l) (take-take n 16 c.args.more.now c.if-n-le-FEW.true);
      fails = tt;
    }
