use Rattle.std.proofs.Common.{◌≡◌, ◌∙◌, ◌≤◌, ◌<◌, ◌-◌, ap, sym, subst, ℕ, List, take, drop, length, get_or, Some, None, slice_get, Bor}
use Rattle.std.specs.Prelude.{option_map}
use Rattle.std.proofs.lemmas.Option.{slice_get_past, slice_get-get_or}
use Rattle.eo_proof.specs.Texts.{last_end}
use Rattle.eo_proof.proofs.Ends.{text-at, no-text, within}
use Rattle.eo_proof.proofs.texts.Texts.get.Goals as goal
use Rattle.eo_proof.proofs.texts.Texts.get.Goals.{After-as_slice}

pub returns-in_err-end : goal.returns-in_err-end
returns-in_err-end c =
    let ends = c.self.inside.ends.items in
    let none : slice_get ends c.args.place ≡ None =
    ap (λ (es : List ℕ). slice_get es c.args.place) (sym c.as_slice-ends.ensures.value) ∙ slice_get_past c.as_slice-ends.result.now c.args.place c.in_err-end.ensures.lookup.3 in
    ap (option_map (λ (text : Bor (List ℕ)). text.now)) c.from_residual.ensures
    ∙ sym (ap (λ (ts : List (List ℕ)). slice_get ts c.args.place) (sym c.self.view_is) ∙ no-text 0 c.self.inside.bytes.items ends c.args.place none)

-- where the text at the place ends, by what is read there
ends_there : (read ends : List ℕ) (place end : ℕ) → read ≡ ends → place < length read → end ≡ get_or read place end → slice_get ends place ≡ Some end
ends_there read ends place end same within is = ap (λ (es : List ℕ). slice_get es place) (sym same) ∙ slice_get-get_or read place end within ∙ ap Some (sym is)

begins_there : (start place : ℕ) (read ends : List ℕ) → read ≡ ends → start ≡ last_end 0 (take place read) → start ≡ last_end 0 (take place ends)
begins_there start place read ends same is = is ∙ ap (λ (es : List ℕ). last_end 0 (take place es)) same

is_within : (c : After-as_slice) → (c.last_end-start.result ≤ c.in_ok-end.field-0.now) × (c.in_ok-end.field-0.now ≤ length c.as_slice.result.now)
is_within c =
    let place = c.args.place in
    let ends = c.self.inside.ends.items in
    let end = c.in_ok-end.field-0.now in
    let there = c.in_ok-end.ensures.lookup in
    let at = ends_there c.as_slice-ends.result.now ends place end c.as_slice-ends.ensures.value there.3.0 there.1 in
    let start = begins_there c.last_end-start.result place c.as_slice-ends.result.now ends c.as_slice-ends.ensures.value c.last_end-start.ensures in
    let w = within 0 ends (length c.self.inside.bytes.items) place end c.self.invariant at in (
      subst (λ s. s ≤ end) (sym start) w.0,
      subst (λ (bs : List ℕ). end ≤ length bs) (sym c.as_slice.ensures.value) w.1,
    )

pub slice_bounds-result-count : goal.slice_bounds-result-count
slice_bounds-result-count c = (is_within c).0

pub slice_bounds-result-start : goal.slice_bounds-result-start
slice_bounds-result-start c = (is_within c).0

pub slice_bounds-result-end : goal.slice_bounds-result-end
slice_bounds-result-end c = (is_within c).1

pub returns : goal.returns
returns c =
    let place = c.args.place in
    let ends = c.self.inside.ends.items in
    let end = c.in_ok-end.field-0.now in
    let there = c.in_ok-end.ensures.lookup in
    let at = ends_there c.as_slice-ends.result.now ends place end c.as_slice-ends.ensures.value there.3.0 there.1 in
    let start = begins_there c.last_end-start.result place c.as_slice-ends.result.now ends c.as_slice-ends.ensures.value c.last_end-start.ensures in
    (λ i. Some (take (end - start i) (drop (start i) (c.as_slice.ensures.value i))))
    ∙ sym (text-at 0 c.self.inside.bytes.items ends place end at) ∙ ap (λ (ts : List (List ℕ)). slice_get ts place) c.self.view_is
