use Rattle.std.proofs.Common.{ap, ◌∙◌, sym, is_some, refl}
use Rattle.eo_io.specs.Library.{file_at}
use Rattle.eo_io.specs.Stored.{after_open}
use Rattle.eo_io.proofs.StoreLemmas.{absent, present, held-opened, after-absent, after-opened}
use Rattle.eo_io.proofs.file_store.FileStore.open.Goals as goal

pub returns-in_default-clause-found : goal.returns-in_default-clause-found
returns-in_default-clause-found c =
    let missing = sym c.get.ensures.value ∙ sym c.copied.ensures ∙ c.in_default.is in
    sym (ap is_some (ap (λ s. file_at s.told c.args.path.now) (sym c.self.view_is) ∙ absent (λ v. v.items) c.self.inside.places.entries _ c.self.inside.opened.items 0 c.args.path.now missing))

pub returns-in_default-clause-after : goal.returns-in_default-clause-after
returns-in_default-clause-after c =
    let missing = sym c.get.ensures.value ∙ sym c.copied.ensures ∙ c.in_default.is in
    sym c.self.view_is ∙ after-absent (λ v. v.items) c.self.inside.places.entries _ c.self.inside.opened.items 0 c.args.path.now missing ∙ ap (λ s. after_open s c.args.path.now) c.self.view_is

pub invariant_of-self : goal.invariant_of-self
invariant_of-self c =
    let pushed = rw c.unwrap.ensures at c.push.ensures.items in
    let found = sym c.get.ensures.value ∙ sym c.copied.ensures ∙ c.in-Some.is in
    held-opened (λ v. v.items) c.self.inside.places.entries _ c.self.inside.opened.items _ c.args.path.now c.in-Some.place found _ _ _ pushed refl refl c.push.ensures.capacity c.self.invariant

pub returns-clause-found : goal.returns-clause-found
returns-clause-found c =
    let found = sym c.get.ensures.value ∙ sym c.copied.ensures ∙ c.in-Some.is in
    sym (ap is_some (ap (λ s. file_at s.told c.args.path.now) (sym c.self.view_is) ∙ present (λ v. v.items) c.self.inside.places.entries _ c.self.inside.opened.items 0 c.args.path.now c.in-Some.place found))

pub returns-clause-after : goal.returns-clause-after
returns-clause-after c =
    let pushed = rw c.unwrap.ensures at c.push.ensures.items in
    let found = sym c.get.ensures.value ∙ sym c.copied.ensures ∙ c.in-Some.is in
    after-opened (λ v. v.items) c.self.inside.places.entries _ c.self.inside.opened.items 0 c.args.path.now c.in-Some.place found _ _ pushed refl refl
    ∙ ap (λ s. after_open s c.args.path.now) c.self.view_is
