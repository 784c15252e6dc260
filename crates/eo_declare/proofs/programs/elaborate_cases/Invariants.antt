use Rattle.std.proofs.Common.{◌≡◌, length, map, All}
use Rattle.eo_base.proofs.ChecksLemmas.{behind}
use Rattle.eo_sig.specs.Reading.{read_case, CaseBelow}
use Rattle.eo_term.specs.Growth.{Grows}
use Rattle.eo_names.specs.Worlds.{world_of}
use Rattle.eo_declare.specs.Worlds.{cases_in}
use Rattle.eo_declare.proofs.programs.elaborate_cases.Given as goal

-- the cases read so far, and then those that are left, are all of them
abbrev pub invariant-loop-shape : goal.invariant-loop-shape
invariant-loop-shape l =
    let w = world_of l.fn.table l.sig l.locals in
    record {
      left : cases_in w l.inputs l.shapes ≡ behind (map (read_case l.table.trees) l.cases) (cases_in w l.inputs l.shape-iterator);
      live : All (CaseBelow (length l.table.trees)) l.cases;
      grows : Grows l.fn.table l.table;
    }
