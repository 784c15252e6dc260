use Rattle.std.proofs.Common.{length, map, true, ◌∙◌, rules}
use Rattle.std.specs.Prelude.{nat_lt}
use Rattle.eo_sig.specs.Reading.{read_macro, read_parameter}
use Rattle.eo_sig.specs.declared.records.MacroDecl.{MacroDecl}
use Rattle.eo_term.specs.Terms.{tree_at}
use Rattle.eo_term.specs.Tree.{uses_only}
use Rattle.eo_session.proofs.Holding.{whole_macro}
use Rattle.eo_session.proofs.store.Store.add_name.Goals as goal

pub returns-in-Ok-clause-whole : goal.returns-in-Ok-clause-whole
returns-in-Ok-clause-whole c =
    let h = c.args.self.now in
    let ts = h.table.trees in
    let d : MacroDecl = record { name = c.in_ok-new.field-0; params = c.new-2.result; tree = c.args.tree; from_reference = true } in
    let below = c.in-Ok.ensures.below (length ts) c.requires.whole.signature (search rules) in
    let bound = (λ i. uses_only (λ j. nat_lt j (length (map (read_parameter ts) (c.new-2.ensures i)))) (tree_at ts c.args.tree)) ∙ c.requires.new.closed in
    whole_macro h c.requires.whole c.define.new.self below (read_macro ts d) (c.in-Ok.ensures.adds ts) bound
