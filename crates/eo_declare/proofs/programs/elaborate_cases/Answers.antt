use Rattle.std.proofs.Common.{◌≡◌, ◌++◌, [], ◌∷◌, length, map, All, ap, sym, subst, ◌∙◌}
use Rattle.std.specs.Prelude.{Ok}
use Rattle.std.proofs.lemmas.List.{map-append}
use Rattle.std.proofs.lemmas.List.Elements.{All-nil, All-append, All-cons}
use Rattle.eo_base.proofs.ChecksLemmas.{behind, behind-none}
use Rattle.eo_base.proofs.Answering.{fails}
use Rattle.eo_shape.specs.Reading.{read_case as read_shape}
use Rattle.eo_sig.specs.Reading.{read_case, CaseBelow}
use Rattle.eo_term.proofs.Growing.{grows_refl, grows_on}
use Rattle.eo_names.specs.Worlds.{World, world_of}
use Rattle.eo_declare.specs.Worlds.{case_in, cases_in}
use Rattle.eo_declare.proofs.ProgramLemmas.{cases-next, cases-refused, cases-end, cases-grown, cases-more}
use Rattle.eo_declare.proofs.programs.elaborate_cases.Goals as goal

pub loop-shape-init : goal.loop-shape-init
loop-shape-init c =
    let t = c.args.table.now in
    let w = world_of t c.args.sig.now c.args.locals.now in
    let left = c.into_iter-shape-iterator.result in
    let all : left ≡ c.args.shapes.now = cc in
    record {
      left = sym (ap (λ ks. behind (map (read_case t.trees) ks) (cases_in w c.args.inputs left)) c.new-cases.ensures ∙ behind-none (cases_in w c.args.inputs left) ∙ ap (cases_in w c.args.inputs) all);
      live = subst (All (CaseBelow (length t.trees))) (sym c.new-cases.ensures) (All-nil (CaseBelow (length t.trees)));
      grows = grows_refl t;
    }

pub elaborate_case-requires : goal.elaborate_case-requires
elaborate_case-requires c = record { ready = (c.names_law.ensures.stays c.args.sig.now c.args.locals.now c.args.table.now c.loop-shape.table c.requires.ready c.loop-shape.invariant.grows).ready }

pub returns-in_err-case-clause-gives : goal.returns-in_err-case-clause-gives
returns-in_err-case-clause-gives c =
    let w = world_of c.args.table.now c.args.sig.now c.args.locals.now in
    let same = (c.names_law.ensures.stays c.args.sig.now c.args.locals.now c.args.table.now c.loop-shape.table c.requires.ready c.loop-shape.invariant.grows).world in
    let done = map (read_case c.loop-shape.table.trees) c.loop-shape.cases in
    let s = read_shape c.in-Some.shape in
    let step = c.loop-shape.invariant.left ∙ ap (λ ss. behind done (cases_in w c.args.inputs ss)) c.in-Some.ensures.steps in
    fails _ _ _ _ _ _ _ c.from_residual.ensures.1 (λ f e. step ∙ cases-refused w.names w.locals c.args.inputs done s c.next.new.self f (ap (λ (u : World). case_in u c.args.inputs s) (sym same) ∙ e)) c.in_err-case.ensures.gives

pub loop-shape-preserved : goal.loop-shape-preserved
loop-shape-preserved c =
    let w = world_of c.args.table.now c.args.sig.now c.args.locals.now in
    let same = (c.names_law.ensures.stays c.args.sig.now c.args.locals.now c.args.table.now c.loop-shape.table c.requires.ready c.loop-shape.invariant.grows).world in
    let now = c.loop-shape.table in
    let new = c.elaborate_case.new.table in
    let done = map (read_case now.trees) c.loop-shape.cases in
    let s = read_shape c.in-Some.shape in
    let k = read_case new.trees c.in_ok-case.case in
    let step = c.loop-shape.invariant.left ∙ ap (λ ss. behind done (cases_in w c.args.inputs ss)) c.in-Some.ensures.steps in
    let own : case_in w c.args.inputs s ≡ Ok k = ap (λ (u : World). case_in u c.args.inputs s) (sym same) ∙ c.in_ok-case.ensures.gives.is in
    let grown = cases-grown (length now.trees) (length new.trees) now.trees new.trees c.elaborate_case.ensures.grows.now.more_trees c.elaborate_case.ensures.grows.now.tree c.loop-shape.cases c.loop-shape.invariant.live in
    let more : map (read_case new.trees) c.push.new.self ≡ done ++ k ∷ [] =
    ap (map (read_case new.trees)) c.in_ok-push.ensures.pushed ∙ map-append (read_case new.trees) c.loop-shape.cases (c.in_ok-case.case ∷ []) ∙ ap (λ ks. ks ++ k ∷ []) grown in
    let before = cases-more (length now.trees) (length new.trees) now.trees new.trees c.elaborate_case.ensures.grows.now.more_trees c.elaborate_case.ensures.grows.now.tree c.loop-shape.cases c.loop-shape.invariant.live in
    record {
      left = step ∙ sym (cases-next w.names w.locals c.args.inputs done s c.next.new.self k own) ∙ ap (λ ks. behind ks (cases_in w c.args.inputs c.next.new.self)) (sym more);
      live = subst (All (CaseBelow (length new.trees))) (sym c.in_ok-push.ensures.pushed) (All-append (CaseBelow (length new.trees)) c.loop-shape.cases (c.in_ok-case.case ∷ []) before (All-cons (CaseBelow (length new.trees)) c.in_ok-case.case [] c.in_ok-case.ensures.gives.live (All-nil (CaseBelow (length new.trees)))));
      grows = grows_on c.args.table.now now new c.loop-shape.invariant.grows c.elaborate_case.ensures.grows;
    }

pub returns-clause-gives : goal.returns-clause-gives
returns-clause-gives c =
    let w = world_of c.args.table.now c.args.sig.now c.args.locals.now in
    let done = map (read_case c.loop-shape.table.trees) c.loop-shape.cases in
    record {
      live = c.loop-shape.invariant.live;
      is = c.loop-shape.invariant.left ∙ ap (λ ss. behind done (cases_in w c.args.inputs ss)) c.in-None.ensures.steps.0 ∙ cases-end w.names w.locals c.args.inputs done;
    }

pub returns-in_err-case-clause-grows : goal.returns-in_err-case-clause-grows
returns-in_err-case-clause-grows c = grows_on c.args.table.now c.loop-shape.table c.elaborate_case.new.table c.loop-shape.invariant.grows c.in_err-case.ensures.grows

pub returns-in_err-push-clause-grows : goal.returns-in_err-push-clause-grows
returns-in_err-push-clause-grows c = grows_on c.args.table.now c.loop-shape.table c.elaborate_case.new.table c.loop-shape.invariant.grows c.in_ok-case.ensures.grows
