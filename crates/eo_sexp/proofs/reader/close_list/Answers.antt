use Rattle.std.proofs.Common.{◌≡◌, ℕ, suc, zero, ◌<◌, ◌≤◌, length, sym, ap, ◌∙◌, subst, nat_eq, arith}
use Rattle.std.proofs.Math.Dec.{eqb-suc-zero}
use Rattle.eo_base.specs.Limits.{limits}
use Rattle.eo_sexp.specs.Built.{Built, closed}
use Rattle.eo_sexp.specs.Reader.{ClosesList}
use Rattle.eo_sexp.proofs.OpenFrames.{closes-whole, closes-inner}
use Rattle.eo_sexp.proofs.reader.close_list.Goals as goal

closes : (b : Built) (to n : ℕ) → 0 < length b.open_lists → length b.open_lists ≤ limits.nesting → n ≡ length (closed b to).open_lists → ClosesList limits b to (closed b to) (nat_eq n 0)
closes b to zero h m e = closes-whole limits b to h m (sym e)
closes b to (suc n) h m e = subst (ClosesList limits b to (closed b to)) (sym (eqb-suc-zero n)) (closes-inner limits b to h m (omega (arith, e)))

pub returns-clause-closed : goal.returns-clause-closed
returns-clause-closed c =
    subst (λ b. ClosesList limits c.args.buffer.now c.args.to b (nat_eq c.depth.result 0)) (sym c.close_list.ensures)
    (closes c.args.buffer.now c.args.to c.depth.result c.requires.inside c.requires.nested (c.depth.ensures ∙ ap (λ (b : Built). length b.open_lists) c.close_list.ensures))
