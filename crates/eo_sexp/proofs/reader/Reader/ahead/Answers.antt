use Rattle.std.proofs.Common.{◌≡◌, ◌+◌, ◌-◌, ◌<◌, ◌∙◌, true, All, sym, length, take, drop, subst, arith}
use Rattle.eo_sexp.specs.Token.{is_plain}
use Rattle.std.proofs.lemmas.List.{take_rest}
use Rattle.eo_sexp.proofs.LimitFacts.{command_is, token_is}
use Rattle.eo_sexp.proofs.reader.Reader.ahead.Goals as goal

pub returns-then-n-most-clause-ahead : goal.returns-then-n-most-clause-ahead
returns-then-n-most-clause-ahead c = λ some.
    let n = c.plain_run-n.result in
    let rest = c.args.rest.now in
    let few : n + 1 < length rest = omega (arith, c.if-n-most.true, c.smaller-most.ensures.a, c.requires.some) in
    let same : n ≡ n + 1 - 1 = omega arith in
    record {
      room = sym c.is_full.ensures ∙ c.if-is_full.false;
      some = some;
      more = few;
      plain = subst (λ k. All (λ x. is_plain c.args.token x ≡ true) (take k (drop 1 rest))) same
          (subst (λ l. All (λ x. is_plain c.args.token x ≡ true) (take n l)) (take_rest rest 1) c.plain_run-n.ensures.plain);
      short = omega (arith, c.if-n-most.true, c.smaller-most.ensures.b, token_is);
      fits = omega (arith, few, c.requires.room, command_is);
    }
