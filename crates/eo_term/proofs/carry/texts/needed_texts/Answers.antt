use Rattle.std.proofs.Common.{◌+◌, sym, ap, ◌∙◌, subst, arith, false, get_or}
use Rattle.eo_term.specs.declared.node.Info.{Info}
use Rattle.eo_term.specs.Keys.{Root, entries_of}
use Rattle.eo_term.proofs.Reached.{none_marked}
use Rattle.eo_term.proofs.KeptTexts.{AreMarkedTo, marked_first, marked_yes, marked_no, marked_all}
use Rattle.eo_term.proofs.carry.texts.needed_texts.Goals as goal
use Rattle.eo_term.proofs.carry.texts.needed_texts.Goals.{then-b, else-b}

pub returns : goal.returns
returns c = marked_all (entries_of c.args.nodes.now) c.args.start c.args.terms.now c.args.first c.args.end c.loop-j.j c.loop-j.needed.items c.loop-j.invariant (omega arith)

pub need_text-requires-clause-below : goal.need_text-requires-clause-below
need_text-requires-clause-below c =
    let e : Root × Info = (record { node = c.get-node.result.0; args = c.get-node.result.1.now }, c.get-node.result.2) in
    c.requires.below (c.args.start + c.loop-j.j) e c.get-node.ensures

pub need_text-requires-clause-within : goal.need_text-requires-clause-within
need_text-requires-clause-within c = omega (arith, c.loop-j.invariant.long)

pub loop-j-init : goal.loop-j-init
loop-j-init c =
    marked_first (entries_of c.args.nodes.now) c.args.start c.args.terms.now c.args.first c.args.end c.in_ok-needed.needed.items
    (omega (arith, c.in_ok-needed.ensures.len, c.in_ok-needed.needed.ok.0)) (λ k. ap (λ w. get_or w k false) (c.in_ok-needed.ensures.items_if_clones_equal (λ y e. e)) ∙ none_marked _ k)

pub loop-j-preserved : goal.loop-j-preserved
loop-j-preserved c =
    let es = entries_of c.args.nodes.now in
    elim c.if-b.branch [
      | then-b w ↦
          let e : Root × Info = (record { node = w.get-node.result.0; args = w.get-node.result.1.now }, w.get-node.result.2) in
          let more = marked_yes es c.args.start c.args.terms.now c.args.first c.args.end c.loop-j.j c.loop-j.needed.items w.need_text.new.needed.items e c.loop-j.invariant w.get-node.ensures w.if-b.true w.need_text.ensures.adds w.need_text.ensures.only w.need_text.ensures.needed in
          subst (λ v. AreMarkedTo es c.args.start c.args.terms.now c.args.first c.args.end (c.loop-j.j + 1) v.items) (sym w.needed-is) more
      | else-b w ↦
          let more = marked_no es c.args.start c.args.terms.now c.args.first c.args.end c.loop-j.j c.loop-j.needed.items c.loop-j.invariant w.if-b.false in
          subst (λ v. AreMarkedTo es c.args.start c.args.terms.now c.args.first c.args.end (c.loop-j.j + 1) v.items) (sym w.needed-is) more
    ]
