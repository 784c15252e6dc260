use Rattle.std.proofs.Common.{◌≡◌, ◌+◌, ◌<◌, length, All}
use Rattle.eo_base.proofs.ChecksLemmas.{behind}
use Rattle.eo_term.specs.Growth.{trees_in, Grows}
use Rattle.eo_elab.specs.Worlds.{world_in}
use Rattle.eo_declare.specs.Worlds.{meanings_in}
use Rattle.eo_declare.proofs.constants.elaborate_terms.Given as goal

-- the terms read so far, and then those that are left, are all of them
abbrev pub invariant-loop-s : goal.invariant-loop-s
invariant-loop-s l =
    let w = world_in l.fn.table l.sig l.locals l.file_kind in
    record {
      left : meanings_in w l.terms ≡ behind (trees_in l.table l.ids) (meanings_in w l.s-iterator);
      count : length l.ids + length l.s-iterator ≡ length l.terms;
      live : All (λ i. i < length l.table.trees) l.ids;
      grows : Grows l.fn.table l.table;
    }
