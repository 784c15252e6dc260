use Rattle.std.proofs.Common.{refl, sym, ap, ◌∙◌, subst}
use Rattle.eo_base.specs.Limits.{limits}
use Rattle.eo_sexp.specs.declared.incremental.State.TheVariants as state
use Rattle.eo_sexp.specs.Built.{Built, nothing, with_byte}
use Rattle.eo_sexp.specs.Reader.{held, Begins}
use Rattle.eo_sexp.specs.Machine.{phase_of}
use Rattle.eo_sexp.proofs.MachineSteps.{takes-begins, atom-pair, atom-first}
use Rattle.eo_sexp.proofs.incremental.Machine.begin_atom.Goals as goal

pub returns : goal.returns
returns c =
    let k = c.in_ok-keep.ensures in
    let same = k.begun ∙ ap (λ b. with_byte b c.args.x) c.requires.between.nothing in
    takes-begins c.args.self.now (record c.keep.new.self { state = state.Begun }) c.args.x state.Begun c.requires.between.placed c.requires.between.nothing c.requires.between.between c.requires.inside
    (atom-first _ c.requires.atom)
    (subst (λ b. Begins limits c.args.x (held b c.keep.new.self.reader)) (sym same) (subst (λ r. Begins limits c.args.x (held (with_byte nothing c.args.x) r)) (sym k.reader) c.begin_atom.ensures)) refl
    (ap (λ (b : Built). b.bytes) same) k.start k.here k.phase (atom-pair (phase_of c.args.self.now.phase) c.args.x c.requires.atom)
