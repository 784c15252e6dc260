use Rattle.std.proofs.Common.{ℕ, [], ◌∷◌, ◌++◌, length, ap, arith}
use Rattle.std.specs.Prelude.{flat_map}
use Rattle.eo_reclaim.specs.Moving.{param_ids, case_ids}
use Rattle.eo_reclaim.proofs.Moved.{params_count, same_length, program_long, take_two, taken_long}
use Rattle.eo_reclaim.proofs.moving.move_program.Goals as goal

pub next-d-requires : goal.next-d-requires
next-d-requires c = omega (arith, c.requires, program_long c.args.d.now)

pub moved_ids-requires : goal.moved_ids-requires
moved_ids-requires c = omega (arith, c.requires, program_long c.args.d.now, ap length c.next-d.ensures)

pub moved_params-requires : goal.moved_params-requires
moved_params-requires c =
    let d = c.args.d.now in
    let is = c.in_ok-d.field-0 in
    let m = c.in_ok-d.ensures in
    omega (arith, c.requires, program_long d, ap length c.next-d.ensures, same_length (λ (i : ℕ). 0) is d.inputs m.same, taken_long c.next-d.new.self is c.moved_ids.new.ids m.taken)

pub moved_cases-requires : goal.moved_cases-requires
moved_cases-requires c =
    let d = c.args.d.now in
    let is = c.in_ok-d.field-0 in
    let ps = c.in_ok-d-2.field-0 in
    let m = c.in_ok-d.ensures in
    let k = c.in_ok-d-2.ensures in
    omega (arith, c.requires, program_long d, ap length c.next-d.ensures, same_length (λ (i : ℕ). 0) is d.inputs m.same, taken_long c.next-d.new.self is c.moved_ids.new.ids m.taken, params_count ps d.params k.same, taken_long c.moved_ids.new.ids (param_ids ps) c.moved_params.new.ids k.taken)

pub returns : goal.returns
returns c =
    let d = c.args.d.now in
    let out = c.next-d.result in
    let is = c.in_ok-d.field-0 in
    let ps = c.in_ok-d-2.field-0 in
    let m = c.in_ok-d.ensures in
    let k = c.in_ok-d-2.ensures in
    let l = c.in_ok-d-3.ensures in
    record {
      same = (λ i. record { name = d.name; params = k.same i; inputs = m.same i; output = 0; cases = l.same i });
      taken =
          take_two c.args.ids.now c.moved_params.new.ids c.moved_cases.new.ids ((out ∷ is) ++ param_ids ps) (flat_map case_ids c.in_ok-d-3.field-0)
          (take_two c.args.ids.now c.moved_ids.new.ids c.moved_params.new.ids (out ∷ is) (param_ids ps)
          (take_two c.args.ids.now c.next-d.new.self c.moved_ids.new.ids (out ∷ []) is c.next-d.ensures m.taken) k.taken) l.taken;
    }
