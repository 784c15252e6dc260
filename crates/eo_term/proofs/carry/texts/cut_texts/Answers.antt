use Rattle.std.proofs.Common.{◌≡◌, length, take, drop, ap, ◌∙◌, arith}
use Rattle.std.proofs.lemmas.List.{length-drop}
use Rattle.eo_term.proofs.KeptTexts.{all_stay, cut_parts, parts_apart}
use Rattle.eo_term.proofs.carry.texts.cut_texts.Goals as goal

pub returns-then-count-needed-clause-ok : goal.returns-then-count-needed-clause-ok
returns-then-count-needed-clause-ok c = all_stay c.args.texts.now.keys c.args.first c.args.needed.now c.requires.long (omega (arith, c.count_needed-count.ensures, c.if-count-needed.true))

pub put_texts-requires-clause-long : goal.put_texts-requires-clause-long
put_texts-requires-clause-long c = omega (arith, c.requires.long, ap length c.in_ok-newer.ensures.tail, length-drop c.args.first c.reserve.new.self.keys, ap length c.reserve.ensures.keys)

pub put_texts-requires-clause-apart : goal.put_texts-requires-clause-apart
put_texts-requires-clause-apart c =
    let same : c.reserve.new.self.keys ≡ c.args.texts.now.keys = c.reserve.ensures.keys in
    parts_apart c.args.texts.now.keys c.args.first c.args.needed.now c.requires.long c.split_off.new.self.keys c.in_ok-newer.newer.keys
    (c.in_ok-newer.ensures.kept ∙ ap (take c.args.first) same) (c.in_ok-newer.ensures.tail ∙ ap (drop c.args.first) same) c.requires.apart

pub returns-clause-ok : goal.returns-clause-ok
returns-clause-ok c =
    let same : c.reserve.new.self.keys ≡ c.args.texts.now.keys = c.reserve.ensures.keys in
    c.put_texts.ensures
    ∙ cut_parts c.args.texts.now.keys c.args.first c.args.needed.now c.requires.long c.split_off.new.self.keys c.in_ok-newer.newer.keys
    (c.in_ok-newer.ensures.kept ∙ ap (take c.args.first) same) (c.in_ok-newer.ensures.tail ∙ ap (drop c.args.first) same)
