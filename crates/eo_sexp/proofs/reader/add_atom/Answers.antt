use Rattle.std.proofs.Common.{◌≡◌, ℕ, suc, zero, length, sym, ap, ◌∙◌, subst, nat_eq, arith}
use Rattle.std.proofs.Math.Dec.{eqb-suc-zero}
use Rattle.eo_base.specs.Limits.{limits}
use Rattle.eo_sexp.specs.Sexp.{Sexp, Atom}
use Rattle.eo_sexp.specs.Nodes.{token_text}
use Rattle.eo_sexp.specs.Built.{Built, with_child}
use Rattle.eo_sexp.specs.Reader.{AddsChild}
use Rattle.eo_sexp.specs.Token.{kind_meant}
use Rattle.eo_sexp.proofs.OpenFrames.{adds-whole, adds-inner}
use Rattle.eo_sexp.proofs.reader.add_atom.Goals as goal

adds : (b : Built) (s : Sexp) (n : ℕ) → n ≡ length (with_child b s).open_lists → AddsChild limits b s (with_child b s) (nat_eq n 0)
adds b s zero e = adds-whole limits b s (sym e)
adds b s (suc n) e = subst (AddsChild limits b s (with_child b s)) (sym (eqb-suc-zero n)) (adds-inner limits b s (omega (arith, e)))

pub returns-clause-added : goal.returns-clause-added
returns-clause-added c =
    let s : Sexp = Atom (kind_meant c.args.kind) (token_text c.args.buffer.now.bytes c.args.delimited c.args.from c.args.to) (record { from = c.args.from; to = c.args.to }) in
    subst (λ b. AddsChild limits c.args.buffer.now s b (nat_eq c.depth.result 0)) (sym c.in_ok-add_atom.ensures)
    (adds c.args.buffer.now s c.depth.result (c.depth.ensures ∙ ap (λ (b : Built). length b.open_lists) c.in_ok-add_atom.ensures))
