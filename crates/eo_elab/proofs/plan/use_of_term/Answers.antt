use Rattle.std.proofs.Common.{sym, ap}
use Rattle.eo_names.specs.Ready.{context}
use Rattle.eo_elab.specs.Worlds.{context_in, applied_in}
use Rattle.eo_elab.specs.Gives.{world_at}
use Rattle.eo_elab.proofs.Giving.{used_on}
use Rattle.eo_elab.proofs.PlanLemmas.{plain_use}
use Rattle.eo_elab.proofs.plan.use_of_term.Goals as goal

pub returns-in_default-clause-used : goal.returns-in_default-clause-used
returns-in_default-clause-used c = λ x ls parts named_terms. λ k.
    plain_use (world_at x (context c.args.table.now.trees c.args.sig.now) ls).names ls c.args.args.now parts c.args.table.now.trees c.args.id c.args.table.now.texts c.node.result _ c.in_default.not-Con c.node.ensures.tree c.requires.some k named_terms

pub returns-in-Con-clause-used : goal.returns-in-Con-clause-used
returns-in-Con-clause-used c =
    let t = c.args.table.now in
    used_on (context_in t c.args.sig.now) t.trees c.use_of_constant.result _ _
    (λ x ls parts named_terms. ap (λ u. applied_in (world_at x (context_in t c.args.sig.now) ls) c.args.args.now parts u named_terms) (sym c.in-Con.ensures.tree))
    (c.use_of_constant.ensures.used t.trees)
