use Rattle.std.proofs.Common.{◌≡◌, ◌<◌, ◌+◌, List, length, map, All, suc, arith, ap, sym, subst, ◌∙◌}
use Rattle.std.proofs.lemmas.List.Elements.{All-head, All-tail}
use Rattle.eo_term.proofs.Growing.{grows_refl, grows_on}
use Rattle.std.proofs.lemmas.Result.{err_from_is_err_and}
use Rattle.eo_sig.specs.declared.records.Param.{Param}
use Rattle.eo_sig.specs.Reading.{read_parameter}
use Rattle.eo_term.specs.Growth.{tree_in}
use Rattle.eo_term.specs.Tree.{Qar, is_tall}
use Rattle.eo_declare.specs.Declarations.{bound_type}
use Rattle.eo_declare.proofs.ConstantLemmas.{bound-implicit, bound-explicit, bound-tall}
use Rattle.eo_declare.proofs.constants.+bound_type.Goals as goal

pub returns-in_err-to-clause-tall : goal.returns-in_err-to-clause-tall
returns-in_err-to-clause-tall t c =
    let e = err_from_is_err_and c.from_residual.result c.from_residual.ensures.1 in
    rw (e.1, e.2) (λ h.
    let old = c.args.table.now in
    let ps = map (read_parameter old.trees) c.in-Some.rest.now in
    let next : c.args.first + 1 ≡ suc c.args.first = omega arith in
    ap is_tall (ap (λ (qs : List Param). bound_type c.args.first (map (read_parameter old.trees) qs) (tree_in old c.args.ty)) c.in-Some.ensures.cases.0)
    ∙ bound-tall c.args.first (read_parameter old.trees c.in-Some.p.now) ps (tree_in old c.args.ty) (ap (λ n. is_tall (bound_type n ps (tree_in old c.args.ty))) (sym next) ∙ c.in_err-to.ensures.tall h))

pub returns-then-p-clause-makes : goal.returns-then-p-clause-makes
returns-then-p-clause-makes t c =
    let old = c.args.table.now in
    let ps = map (read_parameter old.trees) c.in-Some.rest.now in
    let next : c.args.first + 1 ≡ suc c.args.first = omega arith in
    record {
      live = c.in_ok-to.ensures.makes.live;
      tree = c.in_ok-to.ensures.makes.tree ∙ ap (λ n. bound_type n ps (tree_in old c.args.ty)) next
          ∙ bound-implicit c.args.first (read_parameter old.trees c.in-Some.p.now) ps (tree_in old c.args.ty) c.if-p.true
          ∙ sym (ap (λ (qs : List Param). bound_type c.args.first (map (read_parameter old.trees) qs) (tree_in old c.args.ty)) c.in-Some.ensures.cases.0);
    }

pub returns-in_err-made-clause-tall : goal.returns-in_err-made-clause-tall
returns-in_err-made-clause-tall t c =
    let e = err_from_is_err_and c.from_residual-in_err-made.result c.from_residual-in_err-made.ensures.1 in
    rw (e.1, e.2) (λ h.
    let old = c.args.table.now in
    let new = c.bound_type.new.table in
    let p = c.in-Some.p.now in
    let i = c.args.first in
    let all = c.in-Some.ensures.cases.0 in
    let ps = map (read_parameter old.trees) c.in-Some.rest.now in
    let next : i + 1 ≡ suc i = omega arith in
    let live : p.ty < length old.trees = All-head (λ (q : Param). q.ty < length old.trees) p c.in-Some.rest.now (subst (All (λ (q : Param). q.ty < length old.trees)) all c.requires.params) in
    let to = c.in_ok-to.ensures.makes.tree ∙ ap (λ n. bound_type n ps (tree_in old c.args.ty)) next in
    let made : Qar i (tree_in new p.ty) (tree_in new c.in_ok-to.to) ≡ bound_type i (map (read_parameter old.trees) c.args.params.now) (tree_in old c.args.ty) =
    (λ j. Qar i (c.in_ok-to.ensures.grows.now.tree p.ty live j) (to j))
    ∙ bound-explicit i (read_parameter old.trees p) ps (tree_in old c.args.ty) c.if-p.false
    ∙ sym (ap (λ (qs : List Param). bound_type i (map (read_parameter old.trees) qs) (tree_in old c.args.ty)) all) in
    ap is_tall (sym made) ∙ c.in_err-made.ensures.tall.0 h)

pub returns-clause-makes : goal.returns-clause-makes
returns-clause-makes t c =
    let old = c.args.table.now in
    let new = c.bound_type.new.table in
    let p = c.in-Some.p.now in
    let i = c.args.first in
    let all = c.in-Some.ensures.cases.0 in
    let ps = map (read_parameter old.trees) c.in-Some.rest.now in
    let next : i + 1 ≡ suc i = omega arith in
    let live : p.ty < length old.trees = All-head (λ (q : Param). q.ty < length old.trees) p c.in-Some.rest.now (subst (All (λ (q : Param). q.ty < length old.trees)) all c.requires.params) in
    let to = c.in_ok-to.ensures.makes.tree ∙ ap (λ n. bound_type n ps (tree_in old c.args.ty)) next in
    let made : Qar i (tree_in new p.ty) (tree_in new c.in_ok-to.to) ≡ bound_type i (map (read_parameter old.trees) c.args.params.now) (tree_in old c.args.ty) =
    (λ j. Qar i (c.in_ok-to.ensures.grows.now.tree p.ty live j) (to j))
    ∙ bound-explicit i (read_parameter old.trees p) ps (tree_in old c.args.ty) c.if-p.false
    ∙ sym (ap (λ (qs : List Param). bound_type i (map (read_parameter old.trees) qs) (tree_in old c.args.ty)) all) in
    record { live = c.in_ok-made.ensures.interned.live; tree = c.in_ok-made.ensures.interned.tree ∙ made }

pub bound_type-requires : goal.bound_type-requires
bound_type-requires t c =
    let old = c.args.table.now in
    let all = c.in-Some.ensures.cases.0 in
    let long = ap length all in
    let params = All-tail (λ (q : Param). q.ty < length old.trees) c.in-Some.p.now c.in-Some.rest.now (subst (All (λ (q : Param). q.ty < length old.trees)) all c.requires.params) in
    (omega (arith, long), (params, (c.requires.ty, omega (arith, long, c.requires.few))))

pub returns-in_default-clause-grows : goal.returns-in_default-clause-grows
returns-in_default-clause-grows t c = grows_refl c.args.table.now

pub returns-in_err-made-clause-grows : goal.returns-in_err-made-clause-grows
returns-in_err-made-clause-grows t c = grows_on c.args.table.now c.bound_type.new.table c.intern.new.self c.in_ok-to.ensures.grows c.in_err-made.ensures.grows

pub returns-clause-grows : goal.returns-clause-grows
returns-clause-grows t c = grows_on c.args.table.now c.bound_type.new.table c.intern.new.self c.in_ok-to.ensures.grows c.in_ok-made.ensures.grows

pub intern-requires : goal.intern-requires
intern-requires t c =
    let old = c.args.table.now in
    let p = c.in-Some.p.now in
    let live : p.ty < length old.trees = All-head (λ (q : Param). q.ty < length old.trees) p c.in-Some.rest.now (subst (All (λ (q : Param). q.ty < length old.trees)) c.in-Some.ensures.cases.0 c.requires.params) in
    record { plain = tt; parts = (omega (arith, live, c.in_ok-to.ensures.grows.now.more_trees), c.in_ok-to.ensures.makes.live); texts = tt; proper = tt }
