use Rattle.std.proofs.Common.{length, map, ap, sym, ◌∙◌}
use Rattle.std.specs.Prelude.{Ok, option_map}
use Rattle.eo_base.proofs.Answering.{fails}
use Rattle.eo_shape.specs.Reading.{read_rule}
use Rattle.eo_term.proofs.Growing.{grows_on}
use Rattle.eo_sig.specs.Reading.{read_pair}
use Rattle.eo_term.specs.Growth.{tree_in, trees_in}
use Rattle.eo_term.specs.Terms.{tree_at}
use Rattle.eo_names.specs.Worlds.{World, world_of}
use Rattle.eo_elab.specs.Worlds.{meaning_in}
use Rattle.eo_declare.specs.Worlds.{meanings_in}
use Rattle.eo_declare.specs.RuleParts.{read_premises_meant, premises_in, requirements_in}
use Rattle.eo_declare.proofs.ConstantLemmas.{trees-grown, ids-more}
use Rattle.eo_declare.proofs.RuleLemmas.{parts-no-assumed, parts-no-premises, parts-no-arguments, parts-no-requirements, parts-no-conclusion, parts-whole, some-grown, some-more, meant-grown, meant-more, pairs-grown, pairs-more}
use Rattle.eo_declare.proofs.rules.rule_parts.Goals as goal

pub premises-requires : goal.premises-requires
premises-requires c = record { ready = (c.names_law.ensures.stays c.args.sig.now c.args.locals.now c.args.table.now c.optional.new.table c.requires.ready c.in_ok-assumption.ensures.grows).ready }

pub meanings-requires : goal.meanings-requires
meanings-requires c =
    let t = c.args.table.now in
    let t1 = c.optional.new.table in
    let t2 = c.premises.new.table in
    record { ready = (c.names_law.ensures.stays c.args.sig.now c.args.locals.now t t2 c.requires.ready (grows_on t t1 t2 c.in_ok-assumption.ensures.grows c.in_ok-premises.ensures.grows)).ready }

pub requirements-requires : goal.requirements-requires
requirements-requires c =
    let t = c.args.table.now in
    let t1 = c.optional.new.table in
    let t2 = c.premises.new.table in
    let t3 = c.meanings.new.table in
    let g2 = grows_on t t1 t2 c.in_ok-assumption.ensures.grows c.in_ok-premises.ensures.grows in
    record { ready = (c.names_law.ensures.stays c.args.sig.now c.args.locals.now t t3 c.requires.ready (grows_on t t2 t3 g2 c.in_ok-args.ensures.grows)).ready }

pub term-requires : goal.term-requires
term-requires c =
    let t = c.args.table.now in
    let t1 = c.optional.new.table in
    let t2 = c.premises.new.table in
    let t3 = c.meanings.new.table in
    let t4 = c.requirements.new.table in
    let g2 = grows_on t t1 t2 c.in_ok-assumption.ensures.grows c.in_ok-premises.ensures.grows in
    let g3 = grows_on t t2 t3 g2 c.in_ok-args.ensures.grows in
    record { ready = (c.names_law.ensures.stays c.args.sig.now c.args.locals.now t t4 c.requires.ready (grows_on t t3 t4 g3 c.in_ok-requirements.ensures.grows)).ready }

pub returns-in_err-assumption-clause-gives : goal.returns-in_err-assumption-clause-gives
returns-in_err-assumption-clause-gives c =
    let w = world_of c.args.table.now c.args.sig.now c.args.locals.now in
    fails _ _ _ _ _ _ _ c.from_residual.ensures.1 (parts-no-assumed w.names w.locals (read_rule c.args.shape.now)) c.in_err-assumption.ensures.gives

pub returns-in_err-premises-clause-gives : goal.returns-in_err-premises-clause-gives
returns-in_err-premises-clause-gives c =
    let t = c.args.table.now in
    let w = world_of t c.args.sig.now c.args.locals.now in
    let s = read_rule c.args.shape.now in
    let t1 = c.optional.new.table in
    let g1 = c.in_ok-assumption.ensures.grows in
    let w1 = (c.names_law.ensures.stays c.args.sig.now c.args.locals.now t t1 c.requires.ready g1).world in
    fails _ _ _ _ _ _ _ c.from_residual-in_err-premises.ensures.1
    (λ f e. parts-no-premises w.names w.locals s _ c.in_ok-assumption.ensures.gives.is f (ap (λ (u : World). premises_in u s.premises) (sym w1) ∙ e)) c.in_err-premises.ensures.gives

pub returns-in_err-args-clause-gives : goal.returns-in_err-args-clause-gives
returns-in_err-args-clause-gives c =
    let t = c.args.table.now in
    let w = world_of t c.args.sig.now c.args.locals.now in
    let s = read_rule c.args.shape.now in
    let t1 = c.optional.new.table in
    let t2 = c.premises.new.table in
    let g1 = c.in_ok-assumption.ensures.grows in
    let g2 = grows_on t t1 t2 g1 c.in_ok-premises.ensures.grows in
    let w1 = (c.names_law.ensures.stays c.args.sig.now c.args.locals.now t t1 c.requires.ready g1).world in
    let w2 = (c.names_law.ensures.stays c.args.sig.now c.args.locals.now t t2 c.requires.ready g2).world in
    fails _ _ _ _ _ _ _ c.from_residual-in_err-args.ensures.1
    (λ f e. parts-no-arguments w.names w.locals s _ c.in_ok-assumption.ensures.gives.is _ (ap (λ (u : World). premises_in u s.premises) (sym w1) ∙ c.in_ok-premises.ensures.gives.is) f (ap (λ (u : World). meanings_in u s.arguments) (sym w2) ∙ e)) c.in_err-args.ensures.gives

pub returns-in_err-requirements-clause-gives : goal.returns-in_err-requirements-clause-gives
returns-in_err-requirements-clause-gives c =
    let t = c.args.table.now in
    let w = world_of t c.args.sig.now c.args.locals.now in
    let s = read_rule c.args.shape.now in
    let t1 = c.optional.new.table in
    let t2 = c.premises.new.table in
    let t3 = c.meanings.new.table in
    let g1 = c.in_ok-assumption.ensures.grows in
    let g2 = grows_on t t1 t2 g1 c.in_ok-premises.ensures.grows in
    let g3 = grows_on t t2 t3 g2 c.in_ok-args.ensures.grows in
    let w1 = (c.names_law.ensures.stays c.args.sig.now c.args.locals.now t t1 c.requires.ready g1).world in
    let w2 = (c.names_law.ensures.stays c.args.sig.now c.args.locals.now t t2 c.requires.ready g2).world in
    let w3 = (c.names_law.ensures.stays c.args.sig.now c.args.locals.now t t3 c.requires.ready g3).world in
    fails _ _ _ _ _ _ _ c.from_residual-in_err-requirements.ensures.1
    (λ f e. parts-no-requirements w.names w.locals s _ c.in_ok-assumption.ensures.gives.is _ (ap (λ (u : World). premises_in u s.premises) (sym w1) ∙ c.in_ok-premises.ensures.gives.is)
    _ (ap (λ (u : World). meanings_in u s.arguments) (sym w2) ∙ c.in_ok-args.ensures.gives.is) f (ap (λ (u : World). requirements_in u s.requirements) (sym w3) ∙ e)) c.in_err-requirements.ensures.gives

pub returns-in_err-conclusion-clause-gives : goal.returns-in_err-conclusion-clause-gives
returns-in_err-conclusion-clause-gives c =
    let t = c.args.table.now in
    let w = world_of t c.args.sig.now c.args.locals.now in
    let s = read_rule c.args.shape.now in
    let t1 = c.optional.new.table in
    let t2 = c.premises.new.table in
    let t3 = c.meanings.new.table in
    let t4 = c.requirements.new.table in
    let g1 = c.in_ok-assumption.ensures.grows in
    let g2 = grows_on t t1 t2 g1 c.in_ok-premises.ensures.grows in
    let g3 = grows_on t t2 t3 g2 c.in_ok-args.ensures.grows in
    let g4 = grows_on t t3 t4 g3 c.in_ok-requirements.ensures.grows in
    let w1 = (c.names_law.ensures.stays c.args.sig.now c.args.locals.now t t1 c.requires.ready g1).world in
    let w2 = (c.names_law.ensures.stays c.args.sig.now c.args.locals.now t t2 c.requires.ready g2).world in
    let w3 = (c.names_law.ensures.stays c.args.sig.now c.args.locals.now t t3 c.requires.ready g3).world in
    let w4 = (c.names_law.ensures.stays c.args.sig.now c.args.locals.now t t4 c.requires.ready g4).world in
    fails _ _ _ _ _ _ _ c.from_residual-in_err-conclusion.ensures.1
    (λ f e. parts-no-conclusion w.names w.locals s _ c.in_ok-assumption.ensures.gives.is _ (ap (λ (u : World). premises_in u s.premises) (sym w1) ∙ c.in_ok-premises.ensures.gives.is)
    _ (ap (λ (u : World). meanings_in u s.arguments) (sym w2) ∙ c.in_ok-args.ensures.gives.is)
    _ (ap (λ (u : World). requirements_in u s.requirements) (sym w3) ∙ c.in_ok-requirements.ensures.gives.is) f (ap (λ (u : World). meaning_in u s.conclusion) (sym w4) ∙ e)) c.in_err-conclusion.ensures.gives

pub returns-clause-gives : goal.returns-clause-gives
returns-clause-gives c =
    let t = c.args.table.now in
    let w = world_of t c.args.sig.now c.args.locals.now in
    let s = read_rule c.args.shape.now in
    let t1 = c.optional.new.table in
    let t2 = c.premises.new.table in
    let t3 = c.meanings.new.table in
    let t4 = c.requirements.new.table in
    let t5 = c.term.new.table in
    let g1 = c.in_ok-assumption.ensures.grows in
    let g2 = grows_on t t1 t2 g1 c.in_ok-premises.ensures.grows in
    let g3 = grows_on t t2 t3 g2 c.in_ok-args.ensures.grows in
    let g4 = grows_on t t3 t4 g3 c.in_ok-requirements.ensures.grows in
    let w1 = (c.names_law.ensures.stays c.args.sig.now c.args.locals.now t t1 c.requires.ready g1).world in
    let w2 = (c.names_law.ensures.stays c.args.sig.now c.args.locals.now t t2 c.requires.ready g2).world in
    let w3 = (c.names_law.ensures.stays c.args.sig.now c.args.locals.now t t3 c.requires.ready g3).world in
    let w4 = (c.names_law.ensures.stays c.args.sig.now c.args.locals.now t t4 c.requires.ready g4).world in
    let l4 = c.in_ok-conclusion.ensures.grows in
    let l3 = grows_on t3 t4 t5 c.in_ok-requirements.ensures.grows l4 in
    let l2 = grows_on t2 t3 t5 c.in_ok-args.ensures.grows l3 in
    let l1 = grows_on t1 t2 t5 c.in_ok-premises.ensures.grows l2 in
    let o = c.in_ok-assumption.assumption in
    let p = c.in_ok-premises.premises in
    let is = c.in_ok-args.args in
    let qs = c.in_ok-requirements.requirements in
    let m1 = l1.now.more_trees in
    let m2 = l2.now.more_trees in
    let m3 = l3.now.more_trees in
    let m4 = l4.now.more_trees in
    let assumed = some-grown (length t1.trees) (length t5.trees) t1.trees t5.trees m1 l1.now.tree o c.in_ok-assumption.ensures.gives.live in
    let meant = meant-grown (length t2.trees) (length t5.trees) t2.trees t5.trees m2 l2.now.tree p c.in_ok-premises.ensures.gives.live in
    let args = trees-grown (length t3.trees) t3.trees t5.trees is l3.now.tree c.in_ok-args.ensures.gives.live in
    let pairs = pairs-grown (length t4.trees) (length t5.trees) t4.trees t5.trees m4 l4.now.tree qs c.in_ok-requirements.ensures.gives.live in
    let last = tree_in t5 c.in_ok-conclusion.conclusion in
    record {
      live = record {
        assumed = some-more (length t1.trees) (length t5.trees) t1.trees t5.trees m1 l1.now.tree o c.in_ok-assumption.ensures.gives.live;
        premises = meant-more (length t2.trees) (length t5.trees) t2.trees t5.trees m2 l2.now.tree p c.in_ok-premises.ensures.gives.live;
        args = ids-more (length t3.trees) (length t5.trees) is m3 c.in_ok-args.ensures.gives.live;
        requirements = pairs-more (length t4.trees) (length t5.trees) t4.trees t5.trees m4 l4.now.tree qs c.in_ok-requirements.ensures.gives.live;
        conclusion = c.in_ok-conclusion.ensures.gives.live;
      };
      is = parts-whole w.names w.locals s (option_map (tree_at t1.trees) o) c.in_ok-assumption.ensures.gives.is
          (read_premises_meant t2.trees p) (ap (λ (u : World). premises_in u s.premises) (sym w1) ∙ c.in_ok-premises.ensures.gives.is)
          (trees_in t3 is) (ap (λ (u : World). meanings_in u s.arguments) (sym w2) ∙ c.in_ok-args.ensures.gives.is)
          (map (read_pair t4.trees) qs) (ap (λ (u : World). requirements_in u s.requirements) (sym w3) ∙ c.in_ok-requirements.ensures.gives.is)
          last (ap (λ (u : World). meaning_in u s.conclusion) (sym w4) ∙ c.in_ok-conclusion.ensures.gives.is)
          ∙ (λ i. Ok (record { assumed = sym assumed i; premises = sym meant i; arguments = sym args i; requirements = sym pairs i; conclusion = last }));
    }

pub returns-in_err-args-clause-grows : goal.returns-in_err-args-clause-grows
returns-in_err-args-clause-grows c =
    let t = c.args.table.now in
    let t1 = c.optional.new.table in
    let t2 = c.premises.new.table in
    grows_on t t2 c.meanings.new.table (grows_on t t1 t2 c.in_ok-assumption.ensures.grows c.in_ok-premises.ensures.grows) c.in_err-args.ensures.grows

pub returns-in_err-requirements-clause-grows : goal.returns-in_err-requirements-clause-grows
returns-in_err-requirements-clause-grows c =
    let t = c.args.table.now in
    let t1 = c.optional.new.table in
    let t2 = c.premises.new.table in
    let t3 = c.meanings.new.table in
    let g2 = grows_on t t1 t2 c.in_ok-assumption.ensures.grows c.in_ok-premises.ensures.grows in
    grows_on t t3 c.requirements.new.table (grows_on t t2 t3 g2 c.in_ok-args.ensures.grows) c.in_err-requirements.ensures.grows

pub returns-in_err-conclusion-clause-grows : goal.returns-in_err-conclusion-clause-grows
returns-in_err-conclusion-clause-grows c =
    let t = c.args.table.now in
    let t1 = c.optional.new.table in
    let t2 = c.premises.new.table in
    let t3 = c.meanings.new.table in
    let t4 = c.requirements.new.table in
    let g2 = grows_on t t1 t2 c.in_ok-assumption.ensures.grows c.in_ok-premises.ensures.grows in
    let g3 = grows_on t t2 t3 g2 c.in_ok-args.ensures.grows in
    grows_on t t4 c.term.new.table (grows_on t t3 t4 g3 c.in_ok-requirements.ensures.grows) c.in_err-conclusion.ensures.grows

pub returns-clause-grows : goal.returns-clause-grows
returns-clause-grows c =
    let t = c.args.table.now in
    let t1 = c.optional.new.table in
    let t2 = c.premises.new.table in
    let t3 = c.meanings.new.table in
    let t4 = c.requirements.new.table in
    let g2 = grows_on t t1 t2 c.in_ok-assumption.ensures.grows c.in_ok-premises.ensures.grows in
    let g3 = grows_on t t2 t3 g2 c.in_ok-args.ensures.grows in
    grows_on t t4 c.term.new.table (grows_on t t3 t4 g3 c.in_ok-requirements.ensures.grows) c.in_ok-conclusion.ensures.grows

pub optional-requires : goal.optional-requires
optional-requires c = record { ready = c.requires.ready }

pub returns-in_err-premises-clause-grows : goal.returns-in_err-premises-clause-grows
returns-in_err-premises-clause-grows c = grows_on c.args.table.now c.optional.new.table c.premises.new.table c.in_ok-assumption.ensures.grows c.in_err-premises.ensures.grows
