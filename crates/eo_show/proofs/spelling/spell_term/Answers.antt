use Rattle.std.proofs.Common.{[], ◌≡◌, ap, ◌∙◌, subst, refl, false, rules}
use Rattle.std.proofs.lemmas.Result.{IfOk-weaker}
use Rattle.eo_lit.specs.Literals.{Number}
use Rattle.eo_lit.specs.Spelling.{literal_spelling, string_spelling}
use Rattle.eo_sexp.specs.AtomKind as kind
use Rattle.eo_sexp.specs.Printing.{printed_atom, in_quotes}
use Rattle.eo_term.specs.Tree.{Num, Bits, Par, Qar, Op}
use Rattle.eo_term.specs.Terms.{tree_at, text_at}
use Rattle.eo_term.specs.Arguments.{arguments_of}
use Rattle.eo_sig.specs.Reading.{signature}
use Rattle.eo_show.specs.Forms.{form, name_of}
use Rattle.eo_show.specs.Members.{has_no_spelling}
use Rattle.eo_show.specs.Plan.{IsSpelled}
use Rattle.eo_show.proofs.Atoms.{con_bytes, literal_bytes, string_bytes, other_bytes, app_bytes, var_bytes, arr_bytes}
use Rattle.eo_show.proofs.spelling.spell_term.Goals as goal

pub returns-in-Con : goal.returns-in-Con
returns-in-Con c =
    let t = c.args.table.now in
    let S = signature t.trees c.args.sig.now in
    let u = tree_at t.trees c.args.id in
    IfOk-weaker c.spell_constant.result (λ v. v.items ≡ printed_atom kind.Symbol (name_of S c.in-Con.k)) (λ v. IsSpelled S u v.items) (λ v h. subst (λ w. IsSpelled S w v.items) c.in-Con.ensures.tree (con_bytes S c.in-Con.k v.items h)) (c.spell_constant.ensures t.trees)

pub returns-in-Num : goal.returns-in-Num
unfolding form
returns-in-Num c =
    let t = c.args.table.now in
    let S = signature t.trees c.args.sig.now in
    let u = tree_at t.trees c.args.id in
    IfOk-weaker c.spell_number.result (λ v. v.items ≡ literal_spelling (Number c.in-Num.z)) (λ v. IsSpelled S u v.items) (λ v h. subst (λ w. IsSpelled S w v.items) c.in-Num.ensures.tree (literal_bytes S (Num c.in-Num.z) (literal_spelling (Number c.in-Num.z)) v.items refl h)) (c.spell_number.ensures c.in-Num.z (search rules))

pub returns-in-Bits : goal.returns-in-Bits
returns-in-Bits c =
    let t = c.args.table.now in
    let S = signature t.trees c.args.sig.now in
    let u = tree_at t.trees c.args.id in
    IfOk-weaker c.spell_bits.result (λ v. has_no_spelling S (Bits c.in-Bits.width c.in-Bits.value) ≡ false → IsSpelled S (Bits c.in-Bits.width c.in-Bits.value) v.items) (λ v. IsSpelled S u v.items) (λ v h. subst (λ w. IsSpelled S w v.items) c.in-Bits.ensures.tree (h (ap (has_no_spelling S) c.in-Bits.ensures.tree ∙ c.requires.spelled))) (c.spell_bits.ensures S)

pub returns-in-Str : goal.returns-in-Str
returns-in-Str c =
    let t = c.args.table.now in
    let S = signature t.trees c.args.sig.now in
    let u = tree_at t.trees c.args.id in
    IfOk-weaker c.spell_string.result (λ v. v.items ≡ in_quotes (string_spelling (text_at t.texts c.in-Str.text))) (λ v. IsSpelled S u v.items) (λ v h. subst (λ w. IsSpelled S w v.items) c.in-Str.ensures.tree (string_bytes S (text_at t.texts c.in-Str.text) v.items h)) c.spell_string.ensures

pub returns-in-Par : goal.returns-in-Par
unfolding form
returns-in-Par c =
    let t = c.args.table.now in
    let S = signature t.trees c.args.sig.now in
    let u = tree_at t.trees c.args.id in
    IfOk-weaker c.no_name.result (λ v. v.items ≡ printed_atom kind.Symbol []) (λ v. IsSpelled S u v.items) (λ v h. subst (λ w. IsSpelled S w v.items) c.in-Par.ensures.tree (other_bytes S (Par c.in-Par.field-0) v.items refl h)) c.no_name.ensures

pub returns-in-Qar : goal.returns-in-Qar
unfolding form
returns-in-Qar c =
    let t = c.args.table.now in
    let S = signature t.trees c.args.sig.now in
    let u = tree_at t.trees c.args.id in
    IfOk-weaker c.no_name-in-Qar.result (λ v. v.items ≡ printed_atom kind.Symbol []) (λ v. IsSpelled S u v.items) (λ v h. subst (λ w. IsSpelled S w v.items) c.in-Qar.ensures.tree (other_bytes S (Qar c.in-Qar.par (tree_at t.trees c.in-Qar.ty) (tree_at t.trees c.in-Qar.to)) v.items refl h)) c.no_name-in-Qar.ensures

pub returns-in-Op : goal.returns-in-Op
unfolding form
returns-in-Op c =
    let t = c.args.table.now in
    let S = signature t.trees c.args.sig.now in
    let u = tree_at t.trees c.args.id in
    IfOk-weaker c.no_name-in-Op.result (λ v. v.items ≡ printed_atom kind.Symbol []) (λ v. IsSpelled S u v.items) (λ v h. subst (λ w. IsSpelled S w v.items) c.in-Op.ensures.tree (other_bytes S (Op c.in-Op.code (arguments_of u)) v.items refl h)) c.no_name-in-Op.ensures

pub returns-in-Var : goal.returns-in-Var
returns-in-Var c =
    let t = c.args.table.now in
    let S = signature t.trees c.args.sig.now in
    let u = tree_at t.trees c.args.id in
    IfOk-weaker c.no_name-in-Var.result (λ v. v.items ≡ printed_atom kind.Symbol []) (λ v. IsSpelled S u v.items) (λ v h. subst (λ w. IsSpelled S w v.items) c.in-Var.ensures.tree (var_bytes S (text_at t.texts c.in-Var.name) (tree_at t.trees c.in-Var.ty) v.items)) c.no_name-in-Var.ensures

pub returns-in-App : goal.returns-in-App
returns-in-App c =
    let t = c.args.table.now in
    let S = signature t.trees c.args.sig.now in
    let u = tree_at t.trees c.args.id in
    IfOk-weaker c.no_name-in-App.result (λ v. v.items ≡ printed_atom kind.Symbol []) (λ v. IsSpelled S u v.items) (λ v h. subst (λ w. IsSpelled S w v.items) c.in-App.ensures.tree (app_bytes S (tree_at t.trees c.in-App.fun) (tree_at t.trees c.in-App.arg) v.items)) c.no_name-in-App.ensures

pub returns-in-Arr : goal.returns-in-Arr
returns-in-Arr c =
    let t = c.args.table.now in
    let S = signature t.trees c.args.sig.now in
    let u = tree_at t.trees c.args.id in
    IfOk-weaker c.no_name-in-Arr.result (λ v. v.items ≡ printed_atom kind.Symbol []) (λ v. IsSpelled S u v.items) (λ v h. subst (λ w. IsSpelled S w v.items) c.in-Arr.ensures.tree (arr_bytes S (tree_at t.trees c.in-Arr.from) (tree_at t.trees c.in-Arr.to) v.items)) c.no_name-in-Arr.ensures
