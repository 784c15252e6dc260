use Rattle.std.proofs.Common.{◌≡◌, ◌+◌, ◌<◌, [], ◌∷◌, sym, ap, ◌∙◌, subst, true≢false, arith}
use Rattle.eo_term.specs.declared.OpCode.{OpCode}
use Rattle.eo_term.specs.Tree.{Tree, Trees, Qar, Op, to_list, occurs, height, is_closed}
use Rattle.eo_term.specs.Arguments.{arguments_of}
use Rattle.eo_term.specs.Terms.{tree_at}
use Rattle.eo_pattern.specs.Slots.{Leads}
use Rattle.eo_pattern.specs.Sizes.{size, size_all}
use Rattle.eo_pattern.proofs.Doing.{open_operator}
use Rattle.eo_pattern.proofs.Splitting.{var_split, var_differ, app_split, arr_split, qar_split}
use Rattle.eo_pattern.proofs.Steps.{closed_equal, closed_differ, op_leads, op_same, args_occur}
use Rattle.eo_pattern.proofs.matching.split_roots.Goals as goal
use Rattle.eo_pattern.proofs.matching.split_roots.Goals.{else-eq-via-then-eq+else-count-n, else-eq-via-else-eq}

pub returns-then-is_same : goal.returns-then-is_same
returns-then-is_same c = λ σ.
    closed_equal σ (tree_at c.args.table.now.trees c.args.pattern) (tree_at c.args.table.now.trees c.args.term) (sym c.is_closed.ensures.closed ∙ c.if-is_closed.true) (c.is_same.ensures.tells.0 c.if-is_same.true)

pub returns-else-is_same : goal.returns-else-is_same
returns-else-is_same c = λ σ τ m.
    closed_differ σ τ (tree_at c.args.table.now.trees c.args.pattern) (tree_at c.args.table.now.trees c.args.term) (sym c.is_closed.ensures.closed ∙ c.if-is_closed.true) (λ e. true≢false (sym (c.is_same.ensures.tells.1 e) ∙ c.if-is_same.false)) m

pub returns-then-count-n : goal.returns-then-count-n
returns-then-count-n c =
    let ts = c.args.table.now.trees in
    let ps : Trees = arguments_of (tree_at ts c.args.pattern) in
    let us : Trees = arguments_of (tree_at ts c.args.term) in
    let p : Op c.in-Op.code ps ≡ tree_at ts c.args.pattern = c.in-Op.ensures.tree in
    let same : c.in-Op.code ≡ c.in-Op-node.c = (c.codes_law.ensures c.in-Op.code c.in-Op-node.c).0 (sym c.eq.ensures ∙ c.if-eq.true) in
    let u : Op c.in-Op.code us ≡ tree_at ts c.args.term = ap (λ (d : OpCode). Op d us) same ∙ c.in-Op-node.ensures.tree in
    record {
      count = c.in-Op.ensures.count;
      tall = subst (λ (x : Tree). 1 < height x) p (open_operator c.in-Op.code ps (ap is_closed p ∙ sym c.is_closed.ensures.closed ∙ c.if-is_closed.false));
      smaller = let n : size (tree_at ts c.args.pattern) ≡ 1 + size_all ps = ap size (sym p) in omega (arith, n);
      pars = λ i o. ap (occurs i) (sym p) ∙ args_occur i ps o;
      same = c.in-Op-node.ensures.count ∙ sym c.if-count-n.true;
      leads = λ σ. subst (λ (x : Tree). Leads σ (x ∷ []) (tree_at ts c.args.term ∷ []) σ (to_list ps) (to_list us)) p (subst (λ (y : Tree). Leads σ (Op c.in-Op.code ps ∷ []) (y ∷ []) σ (to_list ps) (to_list us)) u (op_leads σ c.in-Op.code ps us));
    }

pub returns-else-eq : goal.returns-else-eq
returns-else-eq c = λ σ τ m.
    let ts = c.args.table.now.trees in
    let ps : Trees = arguments_of (tree_at ts c.args.pattern) in
    let us : Trees = arguments_of (tree_at ts c.args.term) in
    let both = op_same σ τ (tree_at ts c.args.pattern) (tree_at ts c.args.term) c.in-Op.code c.in-Op-node.c ps us c.in-Op.ensures.tree c.in-Op-node.ensures.tree m in
    elim c.else-eq.branch [
      | else-eq-via-then-eq+else-count-n w ↦ w.if-count-n.false (sym c.in-Op.ensures.count ∙ both.1 ∙ c.in-Op-node.ensures.count)
      | else-eq-via-else-eq w ↦ true≢false (sym (c.eq.ensures ∙ (c.codes_law.ensures c.in-Op.code c.in-Op-node.c).1 both.0) ∙ w.if-eq.false)
    ]

pub returns-then-is_same_text : goal.returns-then-is_same_text
returns-then-is_same_text c =
    var_split _ _ _ _ _ _ _ c.in-Var.ensures.tree c.in-Var-node.ensures.tree (c.is_same_text.ensures.0 c.if-is_same_text.true) c.in-Var.ensures.parts (omega (arith, c.in-Var-node.ensures.parts, c.requires.term))

pub returns-else-is_same_text : goal.returns-else-is_same_text
returns-else-is_same_text c = λ σ τ m.
    var_differ σ τ _ _ _ _ _ _ c.in-Var.ensures.tree c.in-Var-node.ensures.tree (λ e. true≢false (sym (c.is_same_text.ensures.1 e) ∙ c.if-is_same_text.false)) m

pub returns-in-App-node : goal.returns-in-App-node
returns-in-App-node c =
    app_split _ _ _ _ _ _ _ c.in-App.ensures.tree c.in-App-node.ensures.tree c.in-App.ensures.parts (omega (arith, c.in-App-node.ensures.parts.0, c.requires.term)) (omega (arith, c.in-App-node.ensures.parts.1, c.requires.term))

pub returns-in-Arr-node : goal.returns-in-Arr-node
returns-in-Arr-node c =
    arr_split _ _ _ _ _ _ _ c.in-Arr.ensures.tree c.in-Arr-node.ensures.tree c.in-Arr.ensures.parts (omega (arith, c.in-Arr-node.ensures.parts.0, c.requires.term)) (omega (arith, c.in-Arr-node.ensures.parts.1, c.requires.term))

pub returns-then-par-i : goal.returns-then-par-i
returns-then-par-i c =
    let ts = c.args.table.now.trees in
    qar_split c.in-Qar.par ts c.args.pattern c.args.term c.in-Qar.ty c.in-Qar.to c.in-Qar-node.a c.in-Qar-node.b c.in-Qar.ensures.tree (ap (λ k. Qar k (tree_at ts c.in-Qar-node.a) (tree_at ts c.in-Qar-node.b)) c.if-par-i.true ∙ c.in-Qar-node.ensures.tree) c.in-Qar.ensures.parts (omega (arith, c.in-Qar-node.ensures.parts.0, c.requires.term)) (omega (arith, c.in-Qar-node.ensures.parts.1, c.requires.term))
