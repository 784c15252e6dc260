use Rattle.std.proofs.Common.{◌≡◌, ◌<◌, List, ◌++◌, ◌∷◌, [], length, All, false, ap, sym, subst, ◌∙◌, arith}
use Rattle.std.proofs.lemmas.List.{length-append}
use Rattle.std.proofs.lemmas.List.Elements.{All-append, All-cons, All-nil}
use Rattle.eo_sig.specs.declared.records.Param.{Param}
use Rattle.eo_term.specs.Terms.{tree_at}
use Rattle.eo_term.specs.Tree.{Par, type_tree}
use Rattle.eo_declare.specs.Declarations.{with_parameter}
use Rattle.eo_declare.specs.Declaring.{read_bound}
use Rattle.eo_names.specs.Names.{local, AreBelow}
use Rattle.eo_names.specs.declared.locals.LocalName.{LocalName}
use Rattle.eo_declare.proofs.BoundLemmas.{types-known, types-taken, bound-names, bound-grown, bound-more, parameters-more, locals-grown, locals-more, type-is-first}
use Rattle.eo_declare.proofs.parameters.Bound.name_type.Goals as goal

pub returns-then-has-clause-names : goal.returns-then-has-clause-names
returns-then-has-clause-names c = λ rest.
    let t = c.args.table.now in
    types-known (read_bound t.trees c.args.self.now) c.args.name.now rest (bound-names t.trees c.args.name.now c.args.self.now.params ∙ sym c.has.ensures ∙ c.if-has.true)

pub returns-clause-names : goal.returns-clause-names
returns-clause-names c =
    let old = c.args.table.now in
    let last = c.parameter.new.table in
    let b = c.args.self.now in
    let name = c.args.name.now in
    let new = bound-names old.trees name b.params ∙ sym c.has.ensures ∙ c.if-has.false in
    let grows = c.in_ok-id.ensures.grows.now in
    let first = type-is-first old.trees c.laws.ensures.first in
    let x : Param = record { name = name; ty = 0; implicit = false; list = false } in
    let type : tree_at last.trees 0 ≡ type_tree = grows.tree 0 first.0 ∙ first.1 in
    let named = c.in_ok-new.ensures in
    let params : c.push.new.self.params ≡ b.params ++ x ∷ [] = c.in_ok-push.ensures.params ∙ (λ i. b.params ++ record { name = named i; ty = 0; implicit = false; list = false } ∷ []) in
    let locals : c.push.new.self.locals ≡ local name c.in_ok-id.id false ∷ b.locals = c.in_ok-push.ensures.locals ∙ (λ i. local (named i) c.in_ok-id.id false ∷ b.locals) in
    let whole : c.push.new.self ≡ record { params = b.params ++ x ∷ []; locals = local name c.in_ok-id.id false ∷ b.locals } = (λ i. record { params = params i; locals = locals i }) in
    let same = locals-grown (length old.trees) old.trees last.trees b.locals grows.tree c.requires.bound.locals in
    let read : read_bound last.trees c.push.new.self ≡ with_parameter (read_bound old.trees b) (record { name = name; type = type_tree; implicit = false; list = false }) =
    ap (read_bound last.trees) whole
    ∙ bound-more b last.trees x c.in_ok-id.id type_tree type (c.in_ok-id.ensures.makes.tree ∙ ap (λ (ps : List Param). Par (length ps)) c.as_slice.ensures)
    ∙ ap (λ z. with_parameter z (record { name = name; type = type_tree; implicit = false; list = false })) (bound-grown b old last c.requires.bound.params same grows) in
    let live : 0 < length last.trees = omega (arith, first.0, grows.more_trees) in
    record {
      live = record {
        params = subst (All (λ (q : Param). q.ty < length last.trees)) (sym params)
            (All-append (λ (q : Param). q.ty < length last.trees) b.params (x ∷ []) (parameters-more (length old.trees) (length last.trees) b.params grows.more_trees c.requires.bound.params) (All-cons (λ (q : Param). q.ty < length last.trees) x [] live (All-nil (λ (q : Param). q.ty < length last.trees))));
        locals = subst (AreBelow (length last.trees)) (sym locals) (All-cons (λ (l : LocalName). l.id < length last.trees) (local name c.in_ok-id.id false) b.locals c.in_ok-id.ensures.makes.live (locals-more (length old.trees) (length last.trees) b.locals grows.more_trees c.requires.bound.locals));
      };
      binds = λ rest. types-taken (read_bound old.trees b) name rest (read_bound last.trees c.push.new.self) new read;
    }

pub returns-clause-count : goal.returns-clause-count
returns-clause-count c =
    let long = ap length c.in_ok-push.ensures.params ∙ length-append c.args.self.now.params _ in
    omega (arith, long)
