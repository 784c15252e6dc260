use Rattle.std.proofs.Common.{sym, ap, ◌∙◌, ◌∷◌, [], ◌++◌, subst}
use Rattle.eo_base.specs.Limits.{limits}
use Rattle.eo_sexp.specs.Built.{Built, with_byte}
use Rattle.eo_sexp.specs.Reader.{held, Begins}
use Rattle.eo_sexp.specs.Machine.{list_state, IsFirst}
use Rattle.eo_sexp.proofs.MachineSteps.{takes-begins, list-pair}
use Rattle.eo_sexp.proofs.incremental.Machine.begin_list.Goals as goal

pub returns : goal.returns
returns c =
    let k = c.in_ok-keep.ensures in
    takes-begins c.args.self.now (record c.keep.new.self { state = c.list_state-self.result }) c.args.x (list_state c.args.self.now.phase) c.requires.between.placed c.requires.between.nothing c.requires.between.between c.requires.inside
    (subst IsFirst (sym c.requires.class) tt)
    (subst (λ b. Begins limits c.args.x (held b c.keep.new.self.reader)) (sym k.begun) (subst (λ r. Begins limits c.args.x (held (with_byte c.begin_list.new.buffer c.args.x) r)) (sym k.reader) (c.in_ok-begin_list.ensures.begins c.args.x c.requires.class)))
    (c.list_state-self.ensures ∙ ap list_state k.phase)
    (ap (λ (b : Built). b.bytes) k.begun ∙ ap (λ l. l ++ c.args.x ∷ []) c.in_ok-begin_list.ensures.bytes) k.start k.here k.phase (list-pair c.args.self.now.phase c.args.x c.requires.class)
