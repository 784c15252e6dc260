use Rattle.std.proofs.Common.{length}
use Rattle.eo_names.specs.Contexts.{InProof, Several}
use Rattle.eo_names.proofs.BindingLemmas.{inside_locals, inside_below}
use Rattle.eo_names.proofs.FoldLemmas.{locals_grown, names_more}
use Rattle.eo_names.proofs.UsageLemmas.{made_grown}
use Rattle.eo_names.proofs.laws.names_law.Goals as goal

pub returns-clause-stays : goal.returns-clause-stays
returns-clause-stays c = λ k ls old new h g.
    let s = c.growth_law.ensures.stays k old new h.below g.now in
    let names = locals_grown ls old.trees new.trees (length old.trees) h.names g.now.tree in
    record {
      world = λ i. record { names = record { signature = s.signature i; macros = s.macros i; file_kind = InProof; naming = Several }; locals = names i };
      ready = record { below = s.below; names = names_more ls (length old.trees) (length new.trees) g.now.more_trees h.names };
    }

pub returns-clause-uses : goal.returns-clause-uses
returns-clause-uses c = λ u old new w args h g. made_grown old.trees new.trees (length old.trees) w.names w.locals u args h g.tree

pub returns-clause-inside : goal.returns-clause-inside
returns-clause-inside c = λ bs ls. record { locals = λ ts. inside_locals ts ls bs; below = λ n h a. inside_below n ls bs h a }
