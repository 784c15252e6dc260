use Rattle.std.proofs.Common.{List, [], ◌∷◌, ℕ, ◌++◌, string_bytes, codes, ap, ap₂, ◌∙◌, append_assoc}
use Rattle.std.specs.Prelude.{decimal}
use Rattle.std.proofs.lemmas.Result.{IfOk-equal}
use Rattle.eo_run.specs.Bench.{bench_end}
use Rattle.eo_run.proofs.Benches.{one_number}
use Rattle.eo_run.proofs.benching.add_end.Goals as goal

pub returns : goal.returns
returns c =
    let n = decimal c.args.n in
    let first = codes "(assume @n (not (at " ++ n ++ codes ")))\n" in
    let second = codes "(step @f false :rule contra :premises (@a" ++ n ++ codes " @n))\n" in
    let before = string_bytes c.args.text.now in
    IfOk-equal c.writeln-2.result (string_bytes c.writeln-2.new.self) (string_bytes c.writeln.new.self ++ second) (before ++ bench_end c.args.n) c.writeln-2.ensures.bytes
    (ap (λ t. t ++ second) c.in_ok-writeln.ensures.bytes ∙ append_assoc before first second
    ∙ ap₂ (λ (x : List ℕ) (y : List ℕ). before ++ (x ++ y)) (one_number (codes "(assume @n (not (at ") n (codes ")))") (10 ∷ []))
    (one_number (codes "(step @f false :rule contra :premises (@a") n (codes " @n))") (10 ∷ [])))
