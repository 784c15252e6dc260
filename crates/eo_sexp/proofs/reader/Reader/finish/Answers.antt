use Rattle.std.proofs.Common.{◌≡◌, ◌<◌, sym, length, rules, true, false, subst, arith}
use Rattle.eo_base.specs.Limits.{limits}
use Rattle.eo_sexp.specs.Token.{may_end}
use Rattle.eo_sexp.specs.Reader.{held, EndsAt, atom_of, IsWhole}
use Rattle.eo_sexp.proofs.ReaderSteps.{list-cut, atom-ended, atom-open}
use Rattle.eo_sexp.proofs.OpenFrames.{whole-child}
use Rattle.eo_sexp.proofs.TokenPositions.{may_end-at}
use Rattle.eo_sexp.proofs.reader.Reader.finish.Goals as goal

pub returns-then-depth-ne0-clause-ends : goal.returns-then-depth-ne0-clause-ends
returns-then-depth-ne0-clause-ends c =
    let some : 0 < length c.args.buffer.now.open_lists = omega (arith, c.depth.ensures, c.if-depth-ne0.true) in
    list-cut limits (held c.args.buffer.now c.args.self.now) c.args.to c.requires.begun.reader some

pub returns-then-not-may_end-clause-ends : goal.returns-then-not-may_end-clause-ends
returns-then-not-may_end-clause-ends c =
    let none : length c.args.buffer.now.open_lists ≡ 0 = omega (arith, c.depth.ensures, c.if-depth-ne0.false) in
    let open_end : may_end c.in-Token.token ≡ false = search rules in
    atom-open limits (held c.args.buffer.now c.args.self.now) c.in-Token.token c.args.to c.requires.begun.reader c.in-Token.is none open_end

pub end_command-requires-clause-ends : goal.end_command-requires-clause-ends
end_command-requires-clause-ends c =
    let ends : may_end c.in-Token.token ≡ true = search rules in
    subst (λ n. EndsAt (held c.args.buffer.now c.args.self.now) c.in-Token.token n c.args.to) (sym c.requires.begun.bytes)
    (may_end-at limits (held c.args.buffer.now c.args.self.now) c.in-Token.token c.args.to c.requires.begun.reader c.in-Token.is ends)

pub returns-else-not-may_end-clause-ends : goal.returns-else-not-may_end-clause-ends
returns-else-not-may_end-clause-ends c =
    let none : length c.args.buffer.now.open_lists ≡ 0 = omega (arith, c.depth.ensures, c.if-depth-ne0.false) in
    let ends : may_end c.in-Token.token ≡ true = search rules in
    let s = atom_of (held c.args.buffer.now c.args.self.now) c.in-Token.token c.args.to in (
      s,
      subst (λ b. IsWhole b s) (sym c.end_command.ensures) (whole-child c.args.buffer.now s none c.requires.begun.reader.none),
      atom-ended limits (held c.args.buffer.now c.args.self.now) c.in-Token.token c.args.to c.requires.begun.reader c.in-Token.is none ends,
    )
