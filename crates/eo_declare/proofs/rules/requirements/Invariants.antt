use Rattle.std.proofs.Common.{◌≡◌, length, map, All}
use Rattle.eo_base.proofs.ChecksLemmas.{behind}
use Rattle.eo_sig.specs.Reading.{read_pair}
use Rattle.eo_term.specs.Growth.{Grows}
use Rattle.eo_names.specs.Worlds.{world_of}
use Rattle.eo_declare.specs.RuleParts.{requirements_in, PairBelow}
use Rattle.eo_declare.proofs.rules.requirements.Given as goal

-- the pairs read so far, and then those that are left, are all of them
abbrev pub invariant-loop-shape : goal.invariant-loop-shape
invariant-loop-shape l =
    let w = world_of l.fn.table l.sig l.locals in
    record {
      left : requirements_in w l.shapes ≡ behind (map (read_pair l.table.trees) l.pairs) (requirements_in w l.shape-iterator);
      live : All (PairBelow (length l.table.trees)) l.pairs;
      grows : Grows l.fn.table l.table;
    }
