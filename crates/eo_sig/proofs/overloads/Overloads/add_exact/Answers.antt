use Rattle.std.proofs.Common.{◌≡◌, Some, ap, ◌∙◌}
use Rattle.std.specs.Prelude.{bytes_eq, nat_eq, if◌then◌else◌}
use Rattle.std.specs.Map.{lookup}
use Rattle.eo_sig.specs.Indexed.{raised}
use Rattle.eo_sig.specs.Overloads.{rest_in, most_in}
use Rattle.eo_sig.proofs.overloads.Overloads.add_exact.Goals as goal

pub returns-clause-adds : goal.returns-clause-adds
returns-clause-adds c =
    let o = c.args.self.now in
    let k = c.args.key in
    let put = rw c.unwrap.ensures at c.insert-2.ensures.updates in
    let most : c.raised-most.result ≡ raised k.count (most_in o k.first) = c.raised-most.ensures ∙ ap (raised k.count) (c.copied.ensures ∙ c.get.ensures.value) in
    λ fs i. record {
      first = λ w. lookup (bytes_eq w) fs;
      exact = λ f n. c.in_ok-insert.ensures.updates.0 (record { first = f; count = n }) i;
      rest = rest_in o;
      most = λ g. (put.0 g ∙ (λ j. if nat_eq k.first g then Some (most j) else lookup (nat_eq g) (c.in_ok-reserve.ensures.entries j))) i;
    }
