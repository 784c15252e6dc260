use Rattle.std.proofs.Common.{length, refl, ap, ◌∙◌, arith}
use Rattle.eo_names.specs.Names.{with_term}
use Rattle.eo_names.proofs.BinderLemmas.{no_terms, length-with_term, one_more_term}
use Rattle.eo_names.proofs.locals.Bindings.set_all.Goals as goal

pub loop-i-init : goal.loop-i-init
loop-i-init c = record { count = refl; names = no_terms c.args.self.now }

pub set-requires : goal.set-requires
set-requires c = omega (arith, c.loop-i.invariant.count, c.requires)

pub loop-i-preserved : goal.loop-i-preserved
loop-i-preserved c =
    let v = c.loop-i.invariant in
    let i = c.loop-i.i in
    let id = c.index-ids-i.result in
    record {
      count = ap length c.set.ensures ∙ length-with_term c.loop-i.self i id ∙ v.count;
      names = c.set.ensures ∙ (λ k. with_term (v.names k) i id) ∙ one_more_term c.args.self.now c.args.ids.now i id (omega arith) (omega (arith, c.requires)) c.index-ids-i.is;
    }
