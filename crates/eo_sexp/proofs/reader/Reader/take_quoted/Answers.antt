use Rattle.std.proofs.Common.{◌≡◌, ◌≤◌, ◌+◌, All, sym, ap, length, length-drop, take, drop, subst, arith}
use Rattle.std.proofs.lemmas.List.{take_rest}
use Rattle.eo_base.specs.Limits.{limits}
use Rattle.eo_sexp.specs.Reader.{held, IsReader}
use Rattle.eo_sexp.proofs.LimitFacts.{command_is, some_token}
use Rattle.eo_sexp.proofs.AtomPlaces.{kept-long, kept-own}
use Rattle.eo_sexp.proofs.QuotedRuns.{quoted-blanks}
use Rattle.eo_sexp.proofs.reader.Reader.take_quoted.Goals as goal

pub extend-requires : goal.extend-requires
extend-requires c =
    let within = subst (λ l. c.blank_run.result ≤ length l) (take_rest c.args.rest.now (c.args.n + 1)) c.blank_run.ensures.within in
    omega (arith, within, length-drop (c.args.n + 1) c.args.rest.now, c.requires.ahead.more)

pub add_atom-requires-clause-text : goal.add_atom-requires-clause-text
add_atom-requires-clause-text c =
    let rest = c.args.rest.now in
    let left = subst (λ l. c.blank_run.result ≤ length l) (take_rest rest (c.args.n + 1)) c.blank_run.ensures.within in
    let within : c.args.n + 1 + c.blank_run.result ≤ length rest = omega (arith, left, length-drop (c.args.n + 1) rest, c.requires.ahead.more) in
    let long = kept-long c.args.buffer.now c.extend.new.self rest (c.args.n + 1 + c.blank_run.result) (length c.bytes-at.result.now) (ap length (sym c.bytes-at.ensures)) within c.in_ok-extend.ensures in
    (omega (arith, c.requires.ahead.some), omega (arith, long))

pub add_atom-requires-clause-short : goal.add_atom-requires-clause-short
add_atom-requires-clause-short c = omega (arith, ap length c.bytes-at.ensures, c.requires.room, c.requires.ahead.more)

pub add_atom-requires-clause-own : goal.add_atom-requires-clause-own
add_atom-requires-clause-own c =
    kept-own limits c.args.buffer.now c.extend.new.self c.args.self.now (length c.bytes-at.result.now) _ c.requires.first.gap
    (subst (IsReader limits (held c.args.buffer.now c.args.self.now)) (ap length (sym c.bytes-at.ensures)) c.requires.reader) c.in_ok-extend.ensures

pub returns : goal.returns
returns c =
    let b = c.args.buffer.now in
    let rest = c.args.rest.now in
    let k = c.blank_run.result in
    let size : length b.bytes ≡ length c.bytes-at.result.now = ap length (sym c.bytes-at.ensures) in
    let left = take_rest rest (c.args.n + 1) in
    let within : k ≤ length (drop (c.args.n + 1) rest) = subst (λ l. k ≤ length l) left c.blank_run.ensures.within in
    let blank : All (λ x. x ≡ 32) (take k (drop (c.args.n + 1) rest)) = subst (λ l. All (λ x. x ≡ 32) (take k l)) left c.blank_run.ensures.blank in
    let runs = quoted-blanks limits some_token b c.args.self.now rest c.args.n (length c.bytes-at.result.now) c.requires.reader size c.requires.first c.requires.ahead c.requires.bar c.requires.short
    c.extend.new.self c.add_atom.new.self k within blank (omega (arith, within, length-drop (c.args.n + 1) rest, c.requires.ahead.more, c.requires.room, command_is)) c.in_ok-extend.ensures c.in_ok-add_atom.ensures in
    record { moves = λ e. omega arith; runs = runs }
