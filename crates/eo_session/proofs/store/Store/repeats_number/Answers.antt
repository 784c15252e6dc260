use Rattle.std.proofs.Common.{◌≡◌, ◌&&◌, false, length, sym, ap, ◌∙◌}
use Rattle.std.specs.Option.{option_map_or}
use Rattle.eo_sig.specs.Reading.{read_constant}
use Rattle.eo_sig.specs.Signature.{Constant}
use Rattle.eo_term.specs.Tree.{tree_eq}
use Rattle.eo_session.proofs.store.Store.repeats_number.Goals as goal

pub is_same-requires-clause-first : goal.is_same-requires-clause-first
is_same-requires-clause-first c = c.constant-old.ensures.live (length c.args.self.now.table.trees) c.requires.whole.store.signature

pub returns-then-old : goal.returns-then-old
returns-then-old c =
    let ts = c.args.self.now.table.trees in
    let d = read_constant ts c.args.d.now in
    let old = read_constant ts c.constant-old.result.now in
    c.is_same.ensures.equals ∙ sym (ap (λ o. option_map_or (λ (x : Constant). x.from_reference && tree_eq x.type d.type) o false) (c.constant-old.ensures.value ts) ∙ ap (λ b. b && tree_eq old.type d.type) c.if-old.true)

pub returns-else-old : goal.returns-else-old
returns-else-old c =
    let ts = c.args.self.now.table.trees in
    let d = read_constant ts c.args.d.now in
    let old = read_constant ts c.constant-old.result.now in
    c.if-old.false ∙ sym (ap (λ o. option_map_or (λ (x : Constant). x.from_reference && tree_eq x.type d.type) o false) (c.constant-old.ensures.value ts) ∙ ap (λ b. b && tree_eq old.type d.type) c.if-old.false)
