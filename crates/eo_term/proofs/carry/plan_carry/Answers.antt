use Rattle.std.proofs.Common.{◌≡◌, ◌+◌, ◌<◌, Bool, List, length, sym, ap, ◌∙◌, subst}
use Rattle.eo_term.specs.Keys.{entries_of}
use Rattle.eo_term.specs.Carry.{AreNeeded, AreTextsBelow, HasPlaces}
use Rattle.eo_term.proofs.carry.plan_carry.Goals as goal

pub needed_texts-requires-clause-long : goal.needed_texts-requires-clause-long
needed_texts-requires-clause-long c = ap (λ v. c.args.first_term + length v) c.as_slice-terms.ensures.value ∙ c.in_ok-needed.ensures.needed.long

pub new_places-requires-clause-terms : goal.new_places-requires-clause-terms
new_places-requires-clause-terms c = subst (λ v. c.args.first_term + length v < 9223372036854775808) (sym c.as_slice-terms.ensures.value) c.in_ok-needed.ensures.small

pub new_places-requires-clause-texts : goal.new_places-requires-clause-texts
new_places-requires-clause-texts c =
    subst (λ v. c.args.first_text + length v < 9223372036854775808) (sym c.as_slice.ensures.value)
    (subst (λ l. l < 9223372036854775808) (sym c.in_ok-texts.ensures.long) c.requires.small)

pub kept_entries-requires-clause-long : goal.kept_entries-requires-clause-long
kept_entries-requires-clause-long c =
    ap (λ n. n + length c.as_slice-terms.result.now) c.in_ok-places.ensures.first_term ∙ ap (λ v. c.args.first_term + length v) c.as_slice-terms.ensures.value ∙ c.in_ok-needed.ensures.needed.long

pub kept_entries-requires-clause-places : goal.kept_entries-requires-clause-places
kept_entries-requires-clause-places c = c.in_ok-places.ensures.term_count

pub kept_entries-requires-clause-texts : goal.kept_entries-requires-clause-texts
kept_entries-requires-clause-texts c =
    let places = c.in_ok-places.ensures in
    let count : c.args.text_count ≡ c.in_ok-places.places.first_text + length c.in_ok-places.places.texts.items =
    sym c.in_ok-texts.ensures.long ∙ (λ i. sym places.first_text i + (sym (ap length c.as_slice.ensures.value) ∙ sym places.text_count) i) in
    subst (λ l. AreTextsBelow l (entries_of c.args.nodes.now)) count c.requires.below

pub returns : goal.returns
returns c =
    let es = entries_of c.args.nodes.now in
    let w : List Bool = c.as_slice-terms.result.now in (
      w,
      record {
        needed = subst (AreNeeded es c.args.ids.now c.args.first_term) (sym c.as_slice-terms.ensures.value) c.in_ok-needed.ensures.needed;
        texts = c.in_ok-texts.ensures;
        places = subst (λ v. HasPlaces c.args.first_term w c.args.first_text v c.in_ok-places.places) c.as_slice.ensures.value c.in_ok-places.ensures;
        entries = c.in_ok-entries.ensures.moved;
      },
    )
