use Rattle.std.proofs.Common.{ℕ, take, ap, sym, subst, ◌∙◌}
use Rattle.eo_base.specs.Answers.{Tells}
use Rattle.eo_term.specs.Tree.{Tree}
use Rattle.eo_names.specs.Refused.{told}
use Rattle.eo_names.specs.Worlds.{Read}
use Rattle.eo_elab.specs.Gives.{NamesGrow}
use Rattle.eo_elab.specs.Worlds.{meant_at}
use Rattle.eo_elab.proofs.Giving.{names_stay}
use Rattle.eo_elab.proofs.terms.reference_term.Goals as goal

pub release-requires : goal.release-requires
release-requires c = c.elaborate_with.ensures.grows.now.marks c.mark-start.result c.mark-start.ensures.holds

pub returns-in-Ok-clause-gives : goal.returns-in-Ok-clause-gives
returns-in-Ok-clause-gives c = record {
  live = c.in-Ok.ensures.gives.live;
  is = (λ i. meant_at c.args.table.now (sym c.of.ensures i) c.args.locals.now c.args.names.now (sym c.reference_kind-file_kind.ensures i) c.args.s.now) ∙ c.in-Ok.ensures.gives.is;
}

pub returns-in-Err-clause-gives : goal.returns-in-Err-clause-gives
returns-in-Err-clause-gives c =
    subst (λ (o : Read Tree). Tells told c.in-Err.e o) (λ i. meant_at c.args.table.now (c.of.ensures i) c.args.locals.now c.args.names.now (c.reference_kind-file_kind.ensures i) c.args.s.now) c.in-Err.ensures.gives

pub returns-in-Err-clause-refused : goal.returns-in-Err-clause-refused
returns-in-Err-clause-refused c = (c.release.ensures.back c.args.table.now c.elaborate_with.ensures.grows c.mark-start.ensures.mark).same

pub returns-in-Err-clause-unnamed : goal.returns-in-Err-clause-unnamed
returns-in-Err-clause-unnamed c = c.truncate.ensures ∙ ap (λ (n : ℕ). take n c.elaborate_with.new.named_terms) c.len-before.ensures ∙ c.elaborate_with.ensures.named_terms.now

pub returns-in-Err-clause-grows : goal.returns-in-Err-clause-grows
returns-in-Err-clause-grows c = (c.release.ensures.back c.args.table.now c.elaborate_with.ensures.grows c.mark-start.ensures.mark).grows

pub returns-in-Err-clause-keeps : goal.returns-in-Err-clause-keeps
returns-in-Err-clause-keeps c =
    let back = c.release.ensures.back c.args.table.now c.elaborate_with.ensures.grows c.mark-start.ensures.mark in
    let v = c.names_law.ensures.stays c.args.sig.now c.args.locals.now c.args.table.now c.release.new.self c.requires.ready back.grows in
    record { context = λ i. (v.world i).names; names = λ i. (v.world i).locals; ready = v.ready }

pub returns-in-Err-clause-names : goal.returns-in-Err-clause-names
returns-in-Err-clause-names c =
    let back = c.release.ensures.back c.args.table.now c.elaborate_with.ensures.grows c.mark-start.ensures.mark in
    let same = c.truncate.ensures ∙ ap (λ (n : ℕ). take n c.elaborate_with.new.named_terms) c.len-before.ensures ∙ c.elaborate_with.ensures.named_terms.now in
    subst (NamesGrow c.release.new.self c.args.names.now) (sym same) (names_stay c.args.table.now c.release.new.self c.args.names.now c.requires.names back.grows.now)
