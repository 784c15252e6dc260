use Rattle.std.proofs.Common.{◌≡◌, Bool, true, rules}
use Rattle.std.proofs.lemmas.Result.{IfOk-weaker}
use Rattle.eo_term.specs.Growth.{tree_in}
use Rattle.eo_term.specs.Tree.{is_value, bool_tree, tree_eq}
use Rattle.eo_type.specs.Known.{type_at}
use Rattle.eo_cert.specs.Uses.{is_formula, is_typed}
use Rattle.eo_stated.specs.Checking.{signature_of}
use Rattle.eo_stated.proofs.ContextLines.{formula_by}
use Rattle.eo_stated.proofs.checker.Checker.is_formula.Goals as goal

pub returns-clause-formula : goal.returns-clause-formula
returns-clause-formula c =
    let old = c.args.self.now in
    let t = tree_in old.table c.args.id in
    let h : is_value t ≡ true = search rules in
    IfOk-weaker c.has_type_bool.result
    (λ (b : Bool). b ≡ is_typed (type_at old.signature old.table c.args.id) (λ u. tree_eq u bool_tree))
    (λ (b : Bool). b ≡ is_formula old.session.state.signature t)
    (λ b g. formula_by (signature_of old) old.session.state.signature t b c.requires.held.declared h g) c.has_type_bool.ensures.bool
