use Rattle.std.proofs.Common.{ℕ, List, length, sym, subst, ap, ◌∙◌, Contains}
use Rattle.eo_sig.specs.Adding.{IsFreeAs}
use Rattle.eo_sig.specs.Reading.{Kept, constants_of, read_counts, IsFree, IsFreeRule}
use Rattle.eo_sig.specs.Signature.{Constant, Program, Rule, are_ordered}
use Rattle.eo_sig.specs.Signature as sig
use Rattle.eo_sig.specs.declared.records.Declared.TheVariants as declared
use Rattle.eo_term.specs.Tree.{Con}
use Rattle.eo_session.specs.Deciding.{MayDeclare}
use Rattle.eo_session.proofs.Carried.{carried-may}
use Rattle.eo_session.proofs.Reclaiming.{one_tree, one_live}
use Rattle.eo_session.proofs.store.Store.carried_entry.Goals as goal

pub returns-in_ok-carry_constant-in-Const-clause-may : goal.returns-in_ok-carry_constant-in-Const-clause-may
returns-in_ok-carry_constant-in-Const-clause-may c =
    let h = c.args.self.now in
    let d = c.carry_constant.new.d in
    let told = c.in_ok-carry_constant-in-Const.ensures in
    let may = subst (MayDeclare h) c.in-Const.is c.requires.may in
    let name = ap (λ (d : Constant). d.name) told.read in
    let n = c.in-Const.counts in
    let free = subst (λ (k : Kept). IsFreeAs k d.name n) (sym told.leaves.signature) (subst (λ (w : List ℕ). IsFreeAs h.signature w n) (sym name) may.free) in
    carried-may h c.carry_constant.new.self _ told.leaves (declared.Const c.in-Const.d n) (declared.Const d n) (ap (λ k. sig.IsConstant k (read_counts n)) told.read) told.below free tt may

pub returns-in_ok-carry_program-in-Program-clause-may : goal.returns-in_ok-carry_program-in-Program-clause-may
returns-in_ok-carry_program-in-Program-clause-may c =
    let h = c.args.self.now in
    let d = c.carry_program.new.d in
    let told = c.in_ok-carry_program-in-Program.ensures in
    let may = subst (MayDeclare h) c.in-Program.is c.requires.may in
    let name = ap (λ (d : Program). d.name) told.read in
    let free = subst (λ (k : Kept). IsFree k d.name) (sym told.leaves.signature) (subst (λ (n : List ℕ). IsFree h.signature n) (sym name) may.free) in
    carried-may h c.carry_program.new.self _ told.leaves (declared.Program c.in-Program.d) (declared.Program d) (ap sig.IsProgram told.read) told.below free tt may

pub returns-in_ok-carry_rule-in-Rule-clause-may : goal.returns-in_ok-carry_rule-in-Rule-clause-may
returns-in_ok-carry_rule-in-Rule-clause-may c =
    let h = c.args.self.now in
    let d = c.carry_rule.new.d in
    let told = c.in_ok-carry_rule-in-Rule.ensures in
    let may = subst (MayDeclare h) c.in-Rule.is c.requires.may in
    let name = ap (λ (d : Rule). d.name) told.read in
    let free = subst (λ (k : Kept). IsFreeRule k d.name) (sym told.leaves.signature) (subst (λ (n : List ℕ). IsFreeRule h.signature n) (sym name) may.free) in
    carried-may h c.carry_rule.new.self _ told.leaves (declared.Rule c.in-Rule.d) (declared.Rule d) (ap sig.IsRule told.read) told.below free ((λ i. are_ordered 0 (told.read i).parameters) ∙ may.ordered) may

pub returns-in_ok-carry_constant-in-Const-clause-itself : goal.returns-in_ok-carry_constant-in-Const-clause-itself
returns-in_ok-carry_constant-in-Const-clause-itself c =
    let told = c.in_ok-carry_constant-in-Const.ensures in
    subst (λ (k : Kept). Contains c.carry_constant.new.self.table.trees (Con (length (constants_of k)))) (sym told.leaves.signature) told.itself

pub returns-in_ok-ty-in-Literal-clause-may : goal.returns-in_ok-ty-in-Literal-clause-may
returns-in_ok-ty-in-Literal-clause-may c =
    let h = c.args.self.now in
    let new = c.carry_one.new.self in
    let class = c.in-Literal.class in
    let ty = c.in_ok-ty-in-Literal.ty in
    let told = c.in_ok-ty-in-Literal.ensures in
    let may = subst (MayDeclare h) c.in-Literal.is c.requires.may in
    carried-may h new _ told.leaves (declared.Literal class c.in-Literal.ty) (declared.Literal class ty) (ap (sig.IsLiteralType class) (one_tree h new c.in-Literal.ty ty told)) (one_live h new c.in-Literal.ty ty told) tt tt may
