use Rattle.std.proofs.Common.{◌≡◌, ℕ, ap, sym, ◌∙◌, subst, false, arith}
use Rattle.std.proofs.lemmas.Result.{IfOk-weaker}
use Rattle.eo_base.specs.Limits.{limits}
use Rattle.eo_sexp.specs.Collecting.{here_of}
use Rattle.eo_sexp.specs.Texts.{spot_after}
use Rattle.eo_sexp.specs.Cutting.{IsWaiting}
use Rattle.bench_read.specs.Counting.{commands_of, commands_behind}
use Rattle.bench_read.proofs.Feeding.{few-commands, at-start}
use Rattle.bench_read.proofs.read.Goals as goal

pub count-requires-clause-waiting : goal.count-requires-clause-waiting
count-requires-clause-waiting c = subst (IsWaiting limits) (sym c.in_ok-collector.ensures) (c.answers_law.ensures.begins false)

pub count-requires-clause-room : goal.count-requires-clause-room
unfolding spot_after
count-requires-clause-room c = let start = ap (λ x. (here_of x).offset) c.in_ok-collector.ensures in omega (arith, start, c.requires)

pub count-requires-clause-few : goal.count-requires-clause-few
count-requires-clause-few c =
    let text = c.args.text.now in
    let all = at-start c.pieces_law.ensures text c.in_ok-collector.collector c.in_ok-collector.ensures in
    omega (arith, all, few-commands text, c.requires)

pub returns : goal.returns
returns c =
    let text = c.args.text.now in
    let all = at-start c.pieces_law.ensures text c.in_ok-collector.collector c.in_ok-collector.ensures in
    IfOk-weaker c.count.result (λ (n : ℕ). n ≡ commands_behind c.in_ok-collector.collector text) (λ (n : ℕ). n ≡ commands_of text) (λ n h. h ∙ all) c.count.ensures
