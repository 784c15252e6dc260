use Rattle.std.proofs.Common.{◌≡◌, ℕ, ◌<◌, ◌+◌, ◌++◌, ◌∷◌, [], All, length, Some, None, refl, sym, subst, arith}
use Rattle.std.proofs.lemmas.List.Elements.{All-push}
use Rattle.eo_base.proofs.Elements.{all_first, all_last}
use Rattle.eo_term.specs.Walk.{Visits, Begins, Finishes}
use Rattle.eo_term.proofs.Walks.{begun_top}
use Rattle.eo_type.specs.declared.refused.Stop.{Stop}
use Rattle.eo_type.specs.Known.{kept_type, type_at}
use Rattle.eo_type.specs.Outcomes.{IsTyped, Stops}
use Rattle.eo_type.specs.TypeSteps.{IsNextTyped, IsTypeStep}
use Rattle.eo_type.proofs.Walk.{gives_stop}
use Rattle.eo_type.proofs.Fitting.{type_grown, fit_grown, grows_under_on}
use Rattle.eo_type.proofs.TypeWalk.{is_found, finished}
use Rattle.eo_type.proofs.types.find_walk.Goals as goal

pub derive-requires : goal.derive-requires
derive-requires c =
    let i = c.loop-ty.invariant in
    let k = c.args.sig.now in
    let t = c.args.table.now in
    let id = c.args.id in
    let top = c.loop-ty.top in
    let now = c.loop-ty.table in
    let w : Visits = record { memo = c.loop-ty.known; waiting = c.loop-ty.waiting.items; top = top } in
    let walks = c.walk_law.ensures (id + 1) id in
    let low = walks.live w i.begun in
    let live : top < length t.trees = omega (arith, low, c.requires.untyped.live) in
    record { live = omega (arith, live, i.grows.table.now.more_trees); fits = i.fits }

pub returns-in_err-ty-clause-gives : goal.returns-in_err-ty-clause-gives
returns-in_err-ty-clause-gives c =
    let i = c.loop-ty.invariant in
    let k = c.args.sig.now in
    let t = c.args.table.now in
    let id = c.args.id in
    let top = c.loop-ty.top in
    let now = c.loop-ty.table in
    let w : Visits = record { memo = c.loop-ty.known; waiting = c.loop-ty.waiting.items; top = top } in
    let walks = c.walk_law.ensures (id + 1) id in
    let low = walks.live w i.begun in
    let live : top < length t.trees = omega (arith, low, c.requires.untyped.live) in
    let P : ℕ → Type 0 = λ x. (e : Stop) → Stops e (type_at k t x) → Stops e (type_at k t id) in
    let lead : P top = all_last P w.waiting top i.leads in
    let e = c.in_err-ty.field-0.0 in
    gives_stop _ _ _ _ c.from_residual.ensures.1 (lead e (subst (λ o. Stops e o) (type_grown k t now i.grows.stays i.grows.table.now top live) c.in_err-ty.ensures.gives))

pub keep-requires : goal.keep-requires
keep-requires c =
    let i = c.loop-ty.invariant in
    let k = c.args.sig.now in
    let t = c.args.table.now in
    let id = c.args.id in
    let top = c.loop-ty.top in
    let now = c.loop-ty.table in
    let w : Visits = record { memo = c.loop-ty.known; waiting = c.loop-ty.waiting.items; top = top } in
    let walks = c.walk_law.ensures (id + 1) id in
    let low = walks.live w i.begun in
    let live : top < length t.trees = omega (arith, low, c.requires.untyped.live) in
    (begun_top (id + 1) (λ (x : ℕ). Unit {0}) id w i.begun).untold

pub returns-in_default-clause-finds : goal.returns-in_default-clause-finds
returns-in_default-clause-finds c =
    let i = c.loop-ty.invariant in
    let k = c.args.sig.now in
    let t = c.args.table.now in
    let id = c.args.id in
    let top = c.loop-ty.top in
    let now = c.loop-ty.table in
    let w : Visits = record { memo = c.loop-ty.known; waiting = c.loop-ty.waiting.items; top = top } in
    let walks = c.walk_law.ensures (id + 1) id in
    let low = walks.live w i.begun in
    let live : top < length t.trees = omega (arith, low, c.requires.untyped.live) in
    let none : kept_type c.loop-ty.known top ≡ None = (begun_top (id + 1) (λ (x : ℕ). Unit {0}) id w i.begun).untold in
    let new = c.derive.new.table in
    let u = c.laws.ensures now new i.fits.below c.derive.ensures.grows in
    let entries : c.keep.new.self ≡ c.loop-ty.known ++ (top, c.in-Made.ty) ∷ [] = c.in_ok-keep-in-Made.ensures.kept in
    let typed : IsTyped new (type_at k now top) c.in-Made.ty = subst (IsTypeStep k now c.loop-ty.known top (type_at k now top) new) c.in-Made.is c.in_ok-ty.ensures.gives in
    let found = is_found k now new c.args.known.now c.loop-ty.known c.keep.new.self id top c.in-Made.ty u none entries i.keeps i.older low (omega (arith, live, i.grows.table.now.more_trees)) i.fits typed in
    let last = walks.last w i.begun c.in_default.ensures.none in
    record {
      keeps = found.keeps;
      found = subst (λ x. kept_type c.keep.new.self x ≡ Some c.in-Made.ty) last found.found;
      older = found.older;
      fits = found.fits;
      grows = grows_under_on k t now new i.grows u;
    }

pub loop-ty-smaller-in-Made : goal.loop-ty-smaller-in-Made
loop-ty-smaller-in-Made c =
    let i = c.loop-ty.invariant in
    let k = c.args.sig.now in
    let t = c.args.table.now in
    let id = c.args.id in
    let top = c.loop-ty.top in
    let now = c.loop-ty.table in
    let w : Visits = record { memo = c.loop-ty.known; waiting = c.loop-ty.waiting.items; top = top } in
    let walks = c.walk_law.ensures (id + 1) id in
    let low = walks.live w i.begun in
    let live : top < length t.trees = omega (arith, low, c.requires.untyped.live) in
    let none : kept_type c.loop-ty.known top ≡ None = (begun_top (id + 1) (λ (x : ℕ). Unit {0}) id w i.begun).untold in
    let new = c.derive.new.table in
    let u = c.laws.ensures now new i.fits.below c.derive.ensures.grows in
    let entries : c.keep.new.self ≡ c.loop-ty.known ++ (top, c.in-Made.ty) ∷ [] = c.in_ok-keep-in-Made.ensures.kept in
    let typed : IsTyped new (type_at k now top) c.in-Made.ty = subst (IsTypeStep k now c.loop-ty.known top (type_at k now top) new) c.in-Made.is c.in_ok-ty.ensures.gives in
    let found = is_found k now new c.args.known.now c.loop-ty.known c.keep.new.self id top c.in-Made.ty u none entries i.keeps i.older low (omega (arith, live, i.grows.table.now.more_trees)) i.fits typed in
    let v : Visits = record { memo = c.keep.new.self; waiting = c.resume.new.waiting.items; top = c.in-Some.next } in
    let ends : Finishes w c.in-Made.ty v = record { memo = finished c.loop-ty.known c.keep.new.self top c.in-Made.ty none entries; waiting = c.in-Some.ensures.some } in
    (walks.rest w v c.in-Made.ty i.begun ends).less

pub loop-ty-preserved-in-Made : goal.loop-ty-preserved-in-Made
loop-ty-preserved-in-Made c =
    let i = c.loop-ty.invariant in
    let k = c.args.sig.now in
    let t = c.args.table.now in
    let id = c.args.id in
    let top = c.loop-ty.top in
    let now = c.loop-ty.table in
    let w : Visits = record { memo = c.loop-ty.known; waiting = c.loop-ty.waiting.items; top = top } in
    let walks = c.walk_law.ensures (id + 1) id in
    let low = walks.live w i.begun in
    let live : top < length t.trees = omega (arith, low, c.requires.untyped.live) in
    let none : kept_type c.loop-ty.known top ≡ None = (begun_top (id + 1) (λ (x : ℕ). Unit {0}) id w i.begun).untold in
    let new = c.derive.new.table in
    let u = c.laws.ensures now new i.fits.below c.derive.ensures.grows in
    let entries : c.keep.new.self ≡ c.loop-ty.known ++ (top, c.in-Made.ty) ∷ [] = c.in_ok-keep-in-Made.ensures.kept in
    let typed : IsTyped new (type_at k now top) c.in-Made.ty = subst (IsTypeStep k now c.loop-ty.known top (type_at k now top) new) c.in-Made.is c.in_ok-ty.ensures.gives in
    let found = is_found k now new c.args.known.now c.loop-ty.known c.keep.new.self id top c.in-Made.ty u none entries i.keeps i.older low (omega (arith, live, i.grows.table.now.more_trees)) i.fits typed in
    let v : Visits = record { memo = c.keep.new.self; waiting = c.resume.new.waiting.items; top = c.in-Some.next } in
    let ends : Finishes w c.in-Made.ty v = record { memo = finished c.loop-ty.known c.keep.new.self top c.in-Made.ty none entries; waiting = c.in-Some.ensures.some } in
    let P : ℕ → Type 0 = λ x. (e : Stop) → Stops e (type_at k t x) → Stops e (type_at k t id) in
    record {
      begun = (walks.rest w v c.in-Made.ty i.begun ends).goes;
      leads = subst (All P) ends.waiting (all_first P w.waiting (top ∷ []) i.leads);
      keeps = found.keeps;
      older = found.older;
      fits = found.fits;
      grows = grows_under_on k t now new i.grows u;
    }

pub loop-ty-preserved : goal.loop-ty-preserved
loop-ty-preserved c =
    let i = c.loop-ty.invariant in
    let k = c.args.sig.now in
    let t = c.args.table.now in
    let id = c.args.id in
    let top = c.loop-ty.top in
    let now = c.loop-ty.table in
    let w : Visits = record { memo = c.loop-ty.known; waiting = c.loop-ty.waiting.items; top = top } in
    let walks = c.walk_law.ensures (id + 1) id in
    let low = walks.live w i.begun in
    let live : top < length t.trees = omega (arith, low, c.requires.untyped.live) in
    let P : ℕ → Type 0 = λ x. (e : Stop) → Stops e (type_at k t x) → Stops e (type_at k t id) in
    let lead : P top = all_last P w.waiting top i.leads in
    let new = c.derive.new.table in
    let u = c.laws.ensures now new i.fits.below c.derive.ensures.grows in
    let part = c.in-Part.part in
    let v : Visits = record { memo = c.loop-ty.known; waiting = c.wait.new.waiting.items; top = part } in
    let begins : Begins w part v = record { memo = refl; waiting = c.in_ok-wait-in-Part.ensures; top = refl } in
    let next : IsNextTyped k now c.loop-ty.known top (type_at k now top) part = subst (IsTypeStep k now c.loop-ty.known top (type_at k now top) new) c.in-Part.is c.in_ok-ty.ensures.gives in
    let part_live : part < length t.trees = omega (arith, live, next.older) in
    let leads : P part = λ e h. lead e (subst (λ o. Stops e o) (type_grown k t now i.grows.stays i.grows.table.now top live) (next.stops e (subst (λ o. Stops e o) (sym (type_grown k t now i.grows.stays i.grows.table.now part part_live)) h))) in
    record {
      begun = (walks.part w v part i.begun begins next.older next.unkept).goes;
      leads = subst (All P) (λ j. sym begins.waiting j ++ part ∷ []) (All-push P (w.waiting ++ top ∷ []) part i.leads leads);
      keeps = i.keeps;
      older = i.older;
      fits = fit_grown k now new u.stays u.table.now c.loop-ty.known i.fits;
      grows = grows_under_on k t now new i.grows u;
    }
