use Rattle.std.proofs.Common.{◌≡◌, ◌<◌, List, ◌++◌, ◌∷◌, [], length, All, ap, sym, subst, ◌∙◌, arith}
use Rattle.std.proofs.lemmas.List.{length-append}
use Rattle.std.proofs.lemmas.List.Elements.{All-append, All-cons, All-nil}
use Rattle.eo_sig.specs.declared.records.Param.{Param}
use Rattle.eo_shape.specs.Reading as shapes
use Rattle.eo_term.proofs.Growing.{grows_on}
use Rattle.eo_term.specs.Growth.{tree_in}
use Rattle.eo_term.specs.Tree.{Par}
use Rattle.eo_declare.specs.Declarations.{with_parameter}
use Rattle.eo_declare.specs.Declaring.{read_bound}
use Rattle.eo_names.specs.Names.{local, AreBelow}
use Rattle.eo_names.specs.declared.locals.LocalName.{LocalName}
use Rattle.eo_elab.specs.Worlds.{context_at}
use Rattle.eo_declare.proofs.BoundLemmas.{bind-known, bind-refused, bind-taken, bound-names, bound-grown, bound-more, parameters-more, reads_fault}
use Rattle.eo_declare.proofs.parameters.Bound.read.Goals as goal

pub returns-then-has-clause-reads : goal.returns-then-has-clause-reads
returns-then-has-clause-reads c = λ rest.
    let t = c.args.table.now in
    let p = shapes.read_parameter c.args.shape.now in
    bind-known (context_at t c.args.sig.now c.args.file_kind) (read_bound t.trees c.args.self.now) p rest (bound-names t.trees p.name c.args.self.now.params ∙ sym c.has.ensures ∙ c.if-has.true)

pub returns-in_err-ty-clause-reads : goal.returns-in_err-ty-clause-reads
returns-in_err-ty-clause-reads c =
    let t = c.args.table.now in
    let p = shapes.read_parameter c.args.shape.now in
    let new = bound-names t.trees p.name c.args.self.now.params ∙ sym c.has.ensures ∙ c.if-has.false in
    reads_fault c.args.sig.now c.args.file_kind t _ p c.args.self.now _ _ _ _ c.from_residual.ensures.1 (λ rest f e. bind-refused (context_at t c.args.sig.now c.args.file_kind) (read_bound t.trees c.args.self.now) p rest f new e) c.in_err-ty.ensures.gives

pub returns-clause-reads : goal.returns-clause-reads
returns-clause-reads c =
    let old = c.args.table.now in
    let last = c.parameter.new.table in
    let p = shapes.read_parameter c.args.shape.now in
    let b = c.args.self.now in
    let new = bound-names old.trees p.name b.params ∙ sym c.has.ensures ∙ c.if-has.false in
    let grows = c.in_ok-id.ensures.grows.since old c.in_ok-ty.ensures.grows.now in
    let stays = c.names_law.ensures.stays c.args.sig.now b.locals old last c.requires.bound.ready (grows_on old c.elaborate_in.new.table last c.in_ok-ty.ensures.grows c.in_ok-id.ensures.grows) in
    let x : Param = record { name = p.name; ty = c.in_ok-ty.ty; implicit = p.implicit; list = p.list } in
    let t = tree_in c.elaborate_in.new.table c.in_ok-ty.ty in
    let type = c.in_ok-id.ensures.grows.now.tree c.in_ok-ty.ty c.in_ok-ty.ensures.gives.live in
    let named = c.in_ok-new.ensures in
    let params : c.push.new.self.params ≡ b.params ++ x ∷ [] = c.in_ok-push.ensures.params ∙ (λ i. b.params ++ record { name = named i; ty = x.ty; implicit = x.implicit; list = x.list } ∷ []) in
    let locals : c.push.new.self.locals ≡ local p.name c.in_ok-id.id p.list ∷ b.locals = c.in_ok-push.ensures.locals ∙ (λ i. local (named i) c.in_ok-id.id p.list ∷ b.locals) in
    let whole : c.push.new.self ≡ record { params = b.params ++ x ∷ []; locals = local p.name c.in_ok-id.id p.list ∷ b.locals } = (λ i. record { params = params i; locals = locals i }) in
    let read : read_bound last.trees c.push.new.self ≡ with_parameter (read_bound old.trees b) (record { name = p.name; type = t; implicit = p.implicit; list = p.list }) =
    ap (read_bound last.trees) whole
    ∙ bound-more b last.trees x c.in_ok-id.id t type (c.in_ok-id.ensures.makes.tree ∙ ap (λ (ps : List Param). Par (length ps)) c.as_slice.ensures)
    ∙ ap (λ z. with_parameter z (record { name = p.name; type = t; implicit = p.implicit; list = p.list })) (bound-grown b old last c.requires.bound.params (λ i. (stays.world i).locals) grows) in
    let still = stays.ready in
    let live : x.ty < length last.trees = omega (arith, c.in_ok-ty.ensures.gives.live, c.in_ok-id.ensures.grows.now.more_trees) in
    record {
      live = record {
        params = subst (All (λ (q : Param). q.ty < length last.trees)) (sym params)
            (All-append (λ (q : Param). q.ty < length last.trees) b.params (x ∷ []) (parameters-more (length old.trees) (length last.trees) b.params grows.more_trees c.requires.bound.params) (All-cons (λ (q : Param). q.ty < length last.trees) x [] live (All-nil (λ (q : Param). q.ty < length last.trees))));
        ready = record {
          below = still.below;
          names = subst (AreBelow (length last.trees)) (sym locals) (All-cons (λ (l : LocalName). l.id < length last.trees) (local p.name c.in_ok-id.id p.list) b.locals c.in_ok-id.ensures.makes.live still.names);
        };
      };
      binds = λ rest. bind-taken (context_at old c.args.sig.now c.args.file_kind) (read_bound old.trees b) p rest t (read_bound last.trees c.push.new.self) new c.in_ok-ty.ensures.gives.is read;
    }

pub returns-in_err-id-clause-grows : goal.returns-in_err-id-clause-grows
returns-in_err-id-clause-grows c = grows_on c.args.table.now c.elaborate_in.new.table c.parameter.new.table c.in_ok-ty.ensures.grows c.in_err-id.ensures.grows

pub returns-in_err-new-clause-grows : goal.returns-in_err-new-clause-grows
returns-in_err-new-clause-grows c = grows_on c.args.table.now c.elaborate_in.new.table c.parameter.new.table c.in_ok-ty.ensures.grows c.in_ok-id.ensures.grows

pub returns-in_err-push-clause-grows : goal.returns-in_err-push-clause-grows
returns-in_err-push-clause-grows c = grows_on c.args.table.now c.elaborate_in.new.table c.parameter.new.table c.in_ok-ty.ensures.grows c.in_ok-id.ensures.grows

pub returns-clause-grows : goal.returns-clause-grows
returns-clause-grows c = grows_on c.args.table.now c.elaborate_in.new.table c.parameter.new.table c.in_ok-ty.ensures.grows c.in_ok-id.ensures.grows

pub returns-clause-count : goal.returns-clause-count
returns-clause-count c =
    let long = ap length c.in_ok-push.ensures.params ∙ length-append c.args.self.now.params _ in
    omega (arith, long)
