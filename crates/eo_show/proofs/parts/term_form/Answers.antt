use Rattle.std.proofs.Common.{subst, refl}
use Rattle.eo_term.specs.Tree.{Num, Par, Var, Arr, Qar, Op}
use Rattle.eo_term.specs.Terms.{tree_at, text_at}
use Rattle.eo_term.specs.Arguments.{arguments_of}
use Rattle.eo_sig.specs.Reading.{signature}
use Rattle.eo_show.specs.Forms.{form}
use Rattle.eo_show.specs.Plan.{GivesForm}
use Rattle.eo_show.proofs.Kept.{other_leaf}
use Rattle.eo_show.proofs.parts.term_form.Goals as goal

pub returns-in-Con : goal.returns-in-Con
returns-in-Con c =
    let t = c.args.table.now in
    subst (λ u. GivesForm (signature t.trees c.args.sig.now) t u c.constant_form.result) c.in-Con.ensures.tree (c.constant_form.ensures t t.trees)

pub returns-in-Bits : goal.returns-in-Bits
returns-in-Bits c =
    let t = c.args.table.now in
    let S = signature t.trees c.args.sig.now in
    subst (λ u. GivesForm S t u c.bits_form.result) c.in-Bits.ensures.tree (c.bits_form.ensures S t c.in-Bits.value)

pub returns-in-Str : goal.returns-in-Str
returns-in-Str c =
    let t = c.args.table.now in
    let S = signature t.trees c.args.sig.now in
    subst (λ u. GivesForm S t u c.string_form.result) c.in-Str.ensures.tree (c.string_form.ensures S)

pub returns-in-Var : goal.returns-in-Var
unfolding form
returns-in-Var c =
    let t = c.args.table.now in
    let S = signature t.trees c.args.sig.now in
    subst (λ u. GivesForm S t u c.form_or_refusal.result) c.in-Var.ensures.tree (c.form_or_refusal.ensures S t (Var (text_at t.texts c.in-Var.name) (tree_at t.trees c.in-Var.ty)) refl (c.variable_form.ensures S))

pub returns-in-Arr : goal.returns-in-Arr
unfolding form
returns-in-Arr c =
    let t = c.args.table.now in
    let S = signature t.trees c.args.sig.now in
    subst (λ u. GivesForm S t u c.form_or_refusal-in-Arr.result) c.in-Arr.ensures.tree (c.form_or_refusal-in-Arr.ensures S t (Arr (tree_at t.trees c.in-Arr.from) (tree_at t.trees c.in-Arr.to)) refl (c.function_form.ensures S))

pub returns-in-Num : goal.returns-in-Num
unfolding form
returns-in-Num c =
    let t = c.args.table.now in
    other_leaf (signature t.trees c.args.sig.now) t c.leaf.result.shape c.leaf.result.parts.items c.leaf.ensures.shape (c.leaf.ensures.parts t) (Num c.in-Num.field-0) (tree_at t.trees c.args.id) c.in-Num.ensures.tree refl refl

pub returns-in-Par : goal.returns-in-Par
unfolding form
returns-in-Par c =
    let t = c.args.table.now in
    other_leaf (signature t.trees c.args.sig.now) t c.leaf-in-Par.result.shape c.leaf-in-Par.result.parts.items c.leaf-in-Par.ensures.shape (c.leaf-in-Par.ensures.parts t) (Par c.in-Par.field-0) (tree_at t.trees c.args.id) c.in-Par.ensures.tree refl refl

pub returns-in-Qar : goal.returns-in-Qar
unfolding form
returns-in-Qar c =
    let t = c.args.table.now in
    other_leaf (signature t.trees c.args.sig.now) t c.leaf-in-Qar.result.shape c.leaf-in-Qar.result.parts.items c.leaf-in-Qar.ensures.shape (c.leaf-in-Qar.ensures.parts t) (Qar c.in-Qar.par (tree_at t.trees c.in-Qar.ty) (tree_at t.trees c.in-Qar.to)) (tree_at t.trees c.args.id) c.in-Qar.ensures.tree refl refl

pub returns-in-Op : goal.returns-in-Op
unfolding form
returns-in-Op c =
    let t = c.args.table.now in
    other_leaf (signature t.trees c.args.sig.now) t c.leaf-in-Op.result.shape c.leaf-in-Op.result.parts.items c.leaf-in-Op.ensures.shape (c.leaf-in-Op.ensures.parts t) (Op c.in-Op.code (arguments_of (tree_at t.trees c.args.id))) (tree_at t.trees c.args.id) c.in-Op.ensures.tree refl refl
