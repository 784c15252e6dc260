use Rattle.std.proofs.Common.{◌≡◌, ◌∙◌, ap, sym, subst, ℕ, List, take, length}
use Rattle.eo_proof.specs.Texts.{texts_from, AreEnds, last_end}
use Rattle.eo_proof.proofs.Ends.{cut-texts, cut-ends}
use Rattle.eo_proof.proofs.texts.Texts.truncate.Goals as goal
use Rattle.eo_proof.proofs.texts.Texts.truncate.Goals.{After-truncate-2}

bytes_are : (c : After-truncate-2) → c.truncate-2.new.self.items ≡ take (last_end 0 (take c.args.n c.self.inside.ends.items)) c.self.inside.bytes.items
bytes_are c =
    c.truncate-2.ensures.items
    ∙ ap (λ (k : ℕ). take k c.self.inside.bytes.items) (c.last_end-end.ensures ∙ ap (last_end 0) (c.as_slice.ensures.value ∙ c.truncate.ensures.items))

pub invariant_of-self : goal.invariant_of-self
invariant_of-self c =
    let ends = c.self.inside.ends.items in
    subst (λ (es : List ℕ). AreEnds 0 es (length c.truncate-2.new.self.items)) (sym c.truncate.ensures.items)
    (subst (λ (bs : List ℕ). AreEnds 0 (take c.args.n ends) (length bs)) (sym (bytes_are c)) (cut-ends c.args.n 0 c.self.inside.bytes.items ends c.self.invariant))

pub returns : goal.returns
returns c =
    (λ i. texts_from 0 (bytes_are c i) (c.truncate.ensures.items i))
    ∙ cut-texts c.args.n 0 c.self.inside.bytes.items c.self.inside.ends.items c.self.invariant ∙ ap (take c.args.n) c.self.view_is
