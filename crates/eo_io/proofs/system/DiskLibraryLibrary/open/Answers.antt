use Rattle.std.proofs.Common.{◌≡◌, ℕ, suc, ◌+◌, ◌∷◌, None, length, replicate, ap, ◌∙◌, arith}
use Rattle.std.proofs.lemmas.List.{length-replicate, length_push}
use Rattle.eo_io.specs.Library.{Rest}
use Rattle.eo_io.specs.Untold.{Untold}
use Rattle.eo_io.proofs.system.DiskLibraryLibrary.open.Goals as goal

-- one more open file, of which nothing is known
one-more : (old new : ℕ) → new ≡ old + 1 → replicate {A = Rest} new None ≡ None ∷ replicate old None
one-more old new e =
    let next : new ≡ suc old = omega (arith, e) in
    ap (λ (n : ℕ). replicate {A = Rest} n None) next

pub returns-in_default-clause-opens : goal.returns-in_default-clause-opens
returns-in_default-clause-opens g c = ap (λ (s : Untold). replicate {A = Rest} s.opened None) c.self.view_is

pub returns-in_default-clause-cause : goal.returns-in_default-clause-cause
returns-in_default-clause-cause g c = omega (arith, c.raise.ensures.raised, ap (λ (s : Untold). s.faults) c.self.view_is)

pub returns-in_default-clause-later : goal.returns-in_default-clause-later
returns-in_default-clause-later g c = omega (arith, c.raise.ensures.later, ap (λ (s : Untold). s.faults) c.self.view_is)

pub unwrap-requires : goal.unwrap-requires
unwrap-requires g c =
    c.push.ensures.succeeds (omega (arith, c.requires, c.self.invariant, ap (λ (s : Untold). s.opened) c.self.view_is, length-replicate {A = Rest} c.args.self.now.opened None, c.self.inside.opened.ok))

pub returns-in-Ok-open-clause-opens : goal.returns-in-Ok-open-clause-opens
returns-in-Ok-open-clause-opens g c =
    let pushed = rw c.unwrap.ensures at c.push.ensures.items in
    let grown : length c.push.new.self.items ≡ c.args.self.now.opened + 1 = omega (arith, ap length pushed ∙ length_push c.self.inside.opened.items _, ap (λ (s : Untold). s.opened) c.self.view_is) in
    (None, one-more c.args.self.now.opened (length c.push.new.self.items) grown)
