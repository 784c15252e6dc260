use Rattle.std.proofs.Common.{◌+◌, ◌<◌, length, map, sym, ap, ◌∙◌, subst, arith}
use Rattle.std.proofs.lemmas.List.{take_all}
use Rattle.std.proofs.lemmas.List.Elements.{All-get_or}
use Rattle.eo_term.specs.Carry.{term_place}
use Rattle.eo_term.proofs.Marked.{mapped_more}
use Rattle.eo_term.proofs.carry.moved_args.Goals as goal

pub term-requires : goal.term-requires
term-requires c =
    let end = c.args.places.now.first_term + length c.args.places.now.terms.items in
    subst (λ j. j < end) (sym c.id-item.is) (All-get_or (λ j. j < end) c.args.args.now c.loop-id.id-index c.id-item.result (omega arith) c.requires)

pub loop-id-init : goal.loop-id-init
loop-id-init c = c.new-moved.ensures.items

pub loop-id-preserved : goal.loop-id-preserved
loop-id-preserved c =
    mapped_more (term_place c.args.places.now) c.args.args.now c.loop-id.moved.items c.push.new.self.items c.loop-id.id-index c.id-item.result c.term.result
    c.in_ok-push.ensures.items c.loop-id.invariant c.term.ensures c.id-item.is (omega arith)

pub returns : goal.returns
returns c = c.loop-id.invariant ∙ ap (map (term_place c.args.places.now)) (take_all c.loop-id.id-index c.args.args.now (omega arith))
