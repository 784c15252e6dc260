use Rattle.std.proofs.Common.{[], ◌∷◌, length, ap, arith}
use Rattle.std.proofs.lemmas.List.{length-append}
use Rattle.eo_reclaim.specs.Moving.{param_ids, attribute_ids}
use Rattle.eo_reclaim.proofs.Moved.{params_count, take_two, taken_long}
use Rattle.eo_reclaim.proofs.moving.move_constant.Goals as goal

pub next-d-requires : goal.next-d-requires
next-d-requires c = omega (arith, c.requires)

pub moved_params-requires : goal.moved_params-requires
moved_params-requires c =
    let d = c.args.d.now in
    omega (arith, c.requires, ap length c.next-d.ensures, length-append (d.ty ∷ param_ids d.params) (attribute_ids d.attribute))

pub moved_attribute-d-requires : goal.moved_attribute-d-requires
moved_attribute-d-requires c =
    let d = c.args.d.now in
    let ps = c.in_ok-d.field-0 in
    let m = c.in_ok-d.ensures in
    omega (arith, c.requires, ap length c.next-d.ensures, length-append (d.ty ∷ param_ids d.params) (attribute_ids d.attribute), params_count ps d.params m.same, taken_long c.next-d.new.self (param_ids ps) c.moved_params.new.ids m.taken)

pub returns : goal.returns
returns c =
    let d = c.args.d.now in
    let ty = c.next-d.result in
    let ps = c.in_ok-d.field-0 in
    let m = c.in_ok-d.ensures in
    let a = c.moved_attribute-d.ensures in
    record {
      same = (λ i. record { name = d.name; params = m.same i; ty = 0; attribute = a.same i; from_reference = d.from_reference });
      taken =
          take_two c.args.ids.now c.moved_params.new.ids c.moved_attribute-d.new.ids (ty ∷ param_ids ps) (attribute_ids c.moved_attribute-d.result)
          (take_two c.args.ids.now c.next-d.new.self c.moved_params.new.ids (ty ∷ []) (param_ids ps) c.next-d.ensures m.taken) a.taken;
    }
