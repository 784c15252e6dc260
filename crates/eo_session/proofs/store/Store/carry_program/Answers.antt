use Rattle.std.proofs.Common.{◌≡◌, ◌<◌, ℕ, List, ◌++◌, length, map, All, sym, subst, ap, ◌∙◌, arith}
use Rattle.eo_term.specs.Tree.{Tree}
use Rattle.eo_term.specs.Growth.{tree_in}
use Rattle.eo_session.specs.Store.{Leaves}
use Rattle.eo_reclaim.specs.Moving.{program_ids}
use Rattle.eo_reclaim.proofs.Moved.{program_read, program_terms, program_carried}
use Rattle.eo_session.proofs.Reclaiming.{carried_long}
use Rattle.eo_session.proofs.store.Store.carry_program.Goals as goal

pub carry_list-requires-clause-live : goal.carry_list-requires-clause-live
carry_list-requires-clause-live c =
    let n = length c.args.self.now.table.trees in
    let is : c.push_program.new.ids.items ≡ program_ids c.args.d.now = c.in_ok-push_program.ensures ∙ ap (λ (xs : List ℕ). xs ++ program_ids c.args.d.now) c.new-ids.ensures.items in
    subst (All (λ (i : ℕ). i < n)) (sym is) (program_terms n c.args.d.now c.requires.below)

pub move_program-requires : goal.move_program-requires
move_program-requires c =
    let is : c.push_program.new.ids.items ≡ program_ids c.args.d.now = c.in_ok-push_program.ensures ∙ ap (λ (xs : List ℕ). xs ++ program_ids c.args.d.now) c.new-ids.ensures.items in
    omega (arith, carried_long c.args.self.now c.carry_list.new.self c.push_program.new.ids.items c.in_ok-left.left c.in_ok-left.ensures, ap length is)

pub returns-clause-leaves : goal.returns-clause-leaves
returns-clause-leaves c =
    let h = c.args.self.now in
    let is : c.push_program.new.ids.items ≡ program_ids c.args.d.now = c.in_ok-push_program.ensures ∙ ap (λ (xs : List ℕ). xs ++ program_ids c.args.d.now) c.new-ids.ensures.items in
    subst (λ (us : List Tree). Leaves h us c.carry_list.new.self) (ap (map (tree_in h.table)) is ∙ program_read h.table.trees c.args.d.now) c.in_ok-left.ensures.leaves

pub returns-clause-read : goal.returns-clause-read
returns-clause-read c =
    let h = c.args.self.now in
    let mid = c.carry_list.new.self in
    let is : c.push_program.new.ids.items ≡ program_ids c.args.d.now = c.in_ok-push_program.ensures ∙ ap (λ (xs : List ℕ). xs ++ program_ids c.args.d.now) c.new-ids.ensures.items in
    (program_carried mid.table.trees h.table.trees (length mid.table.trees) (length h.table.trees) c.in_ok-left.left c.move_program.new.ids c.in_ok-left.ensures.below c.args.d.now c.move_program.new.d c.requires.below c.in_ok-move_program.ensures (c.in_ok-left.ensures.trees ∙ ap (map (tree_in h.table)) is)).0

pub returns-clause-below : goal.returns-clause-below
returns-clause-below c =
    let h = c.args.self.now in
    let mid = c.carry_list.new.self in
    let is : c.push_program.new.ids.items ≡ program_ids c.args.d.now = c.in_ok-push_program.ensures ∙ ap (λ (xs : List ℕ). xs ++ program_ids c.args.d.now) c.new-ids.ensures.items in
    (program_carried mid.table.trees h.table.trees (length mid.table.trees) (length h.table.trees) c.in_ok-left.left c.move_program.new.ids c.in_ok-left.ensures.below c.args.d.now c.move_program.new.d c.requires.below c.in_ok-move_program.ensures (c.in_ok-left.ensures.trees ∙ ap (map (tree_in h.table)) is)).1
