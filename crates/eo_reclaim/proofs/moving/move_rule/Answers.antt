use Rattle.std.proofs.Common.{ℕ, [], ◌∷◌, ◌++◌, length, ap, arith}
use Rattle.std.specs.Prelude.{flat_map, option_to_list}
use Rattle.eo_reclaim.specs.Moving.{param_ids, premise_ids, pair_ids}
use Rattle.eo_reclaim.proofs.Moved.{params_count, option_count, premises_count, same_length, rule_long, take_two, taken_long}
use Rattle.eo_reclaim.proofs.moving.move_rule.Goals as goal

pub next-d-requires : goal.next-d-requires
next-d-requires c = omega (arith, c.requires, rule_long c.args.d.now)

pub moved_params-requires : goal.moved_params-requires
moved_params-requires c = omega (arith, c.requires, rule_long c.args.d.now, ap length c.next-d.ensures)

pub moved_option-d-requires : goal.moved_option-d-requires
moved_option-d-requires c =
    let d = c.args.d.now in
    let ps = c.in_ok-d.field-0 in
    let m = c.in_ok-d.ensures in
    omega (arith, c.requires, rule_long d, ap length c.next-d.ensures, params_count ps d.params m.same, taken_long c.next-d.new.self (param_ids ps) c.moved_params.new.ids m.taken)

pub moved_premises-requires : goal.moved_premises-requires
moved_premises-requires c =
    let d = c.args.d.now in
    let ps = c.in_ok-d.field-0 in
    let o = c.moved_option-d.result in
    let m = c.in_ok-d.ensures in
    let k = c.moved_option-d.ensures in
    omega (arith, c.requires, rule_long d, ap length c.next-d.ensures, params_count ps d.params m.same, taken_long c.next-d.new.self (param_ids ps) c.moved_params.new.ids m.taken, option_count o d.«assumption» k.same, taken_long c.moved_params.new.ids (option_to_list o) c.moved_option-d.new.ids k.taken)

pub moved_ids-requires : goal.moved_ids-requires
moved_ids-requires c =
    let d = c.args.d.now in
    let ps = c.in_ok-d.field-0 in
    let o = c.moved_option-d.result in
    let q = c.in_ok-d-2.field-0 in
    let m = c.in_ok-d.ensures in
    let k = c.moved_option-d.ensures in
    let l = c.in_ok-d-2.ensures in
    omega (arith, c.requires, rule_long d, ap length c.next-d.ensures, params_count ps d.params m.same, taken_long c.next-d.new.self (param_ids ps) c.moved_params.new.ids m.taken, option_count o d.«assumption» k.same, taken_long c.moved_params.new.ids (option_to_list o) c.moved_option-d.new.ids k.taken, premises_count q d.premises l.same, taken_long c.moved_option-d.new.ids (premise_ids q) c.moved_premises.new.ids l.taken)

pub moved_pairs-requires : goal.moved_pairs-requires
moved_pairs-requires c =
    let d = c.args.d.now in
    let ps = c.in_ok-d.field-0 in
    let o = c.moved_option-d.result in
    let q = c.in_ok-d-2.field-0 in
    let xs = c.in_ok-d-3.field-0 in
    let m = c.in_ok-d.ensures in
    let k = c.moved_option-d.ensures in
    let l = c.in_ok-d-2.ensures in
    let a = c.in_ok-d-3.ensures in
    omega (arith, c.requires, rule_long d, ap length c.next-d.ensures, params_count ps d.params m.same, taken_long c.next-d.new.self (param_ids ps) c.moved_params.new.ids m.taken, option_count o d.«assumption» k.same, taken_long c.moved_params.new.ids (option_to_list o) c.moved_option-d.new.ids k.taken, premises_count q d.premises l.same, taken_long c.moved_option-d.new.ids (premise_ids q) c.moved_premises.new.ids l.taken, same_length (λ (i : ℕ). 0) xs d.args a.same, taken_long c.moved_premises.new.ids xs c.moved_ids.new.ids a.taken)

pub returns : goal.returns
returns c =
    let d = c.args.d.now in
    let e = c.next-d.result in
    let ps = c.in_ok-d.field-0 in
    let o = c.moved_option-d.result in
    let q = c.in_ok-d-2.field-0 in
    let xs = c.in_ok-d-3.field-0 in
    let m = c.in_ok-d.ensures in
    let k = c.moved_option-d.ensures in
    let l = c.in_ok-d-2.ensures in
    let a = c.in_ok-d-3.ensures in
    let r = c.in_ok-d-4.ensures in
    let start = c.args.ids.now in
    record {
      same = (λ i. (d.name, m.same i, k.same i, l.same i, a.same i, r.same i, d.sorry));
      taken =
          take_two start c.moved_ids.new.ids c.moved_pairs.new.ids ((((e ∷ param_ids ps) ++ option_to_list o) ++ premise_ids q) ++ xs) (flat_map pair_ids c.in_ok-d-4.field-0)
          (take_two start c.moved_premises.new.ids c.moved_ids.new.ids (((e ∷ param_ids ps) ++ option_to_list o) ++ premise_ids q) xs
          (take_two start c.moved_option-d.new.ids c.moved_premises.new.ids ((e ∷ param_ids ps) ++ option_to_list o) (premise_ids q)
          (take_two start c.moved_params.new.ids c.moved_option-d.new.ids (e ∷ param_ids ps) (option_to_list o)
          (take_two start c.next-d.new.self c.moved_params.new.ids (e ∷ []) (param_ids ps) c.next-d.ensures m.taken) k.taken) l.taken) a.taken) r.taken;
    }
