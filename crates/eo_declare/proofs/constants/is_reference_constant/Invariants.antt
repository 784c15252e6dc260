use Rattle.std.proofs.Common.{◌≡◌, ◌&&◌, List, drop}
use Rattle.std.specs.List.{list_any}
use Rattle.std.specs.Prelude.{bytes_eq}
use Rattle.eo_term.specs.Tree.{Tree}
use Rattle.eo_sig.specs.Reading.{signature}
use Rattle.eo_sig.specs.Signature.{constants}
use Rattle.eo_declare.proofs.constants.is_reference_constant.Given as goal

-- those that are left have what all have
abbrev pub invariant-loop-n : goal.invariant-loop-n
invariant-loop-n l = (ts : List Tree) →
    list_any (λ d. bytes_eq l.name d.name && d.from_reference) (drop l.n (constants (signature ts l.sig))) ≡ list_any (λ d. bytes_eq l.name d.name && d.from_reference) (constants (signature ts l.sig))
