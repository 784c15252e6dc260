use Rattle.std.proofs.Common.{◌≡◌, ◌∙◌, ap, sym, subst, ℕ, List, [], ◌∷◌, ◌++◌, length, length-append, arith}
use Rattle.eo_proof.specs.Texts.{texts_from, AreEnds}
use Rattle.eo_proof.proofs.Ends.{pushed, more-ends}
use Rattle.eo_proof.proofs.texts.Texts.push.Goals as goal
use Rattle.eo_proof.proofs.texts.Texts.push.Goals.{After-push_reserved}

bytes_are : (c : After-push_reserved) → c.extend_from_slice.new.self.items ≡ c.self.inside.bytes.items ++ c.args.text.now
bytes_are c = c.in_ok-extend_from_slice.ensures.items

ends_are : (c : After-push_reserved) → c.push_reserved.new.self.items ≡ c.self.inside.ends.items ++ length (c.self.inside.bytes.items ++ c.args.text.now) ∷ []
ends_are c =
    let end : length c.as_slice-end.result.now ≡ length (c.self.inside.bytes.items ++ c.args.text.now) = ap length (c.as_slice-end.ensures.value ∙ bytes_are c) in
    c.push_reserved.ensures.items ∙ (λ i. c.in_ok-reserve.ensures.items i ++ end i ∷ [])

pub invariant_of-self-2 : goal.invariant_of-self-2
invariant_of-self-2 c =
    let bytes = c.self.inside.bytes.items in
    let all = bytes ++ c.args.text.now in
    let ends = c.self.inside.ends.items in
    subst (λ (es : List ℕ). AreEnds 0 es (length c.extend_from_slice.new.self.items)) (sym (ends_are c))
    (subst (λ (bs : List ℕ). AreEnds 0 (ends ++ length all ∷ []) (length bs)) (sym (bytes_are c))
    (more-ends 0 ends (length bytes) (length all) c.self.invariant (omega (arith, length-append bytes c.args.text.now))))

pub returns-clause-pushed : goal.returns-clause-pushed
returns-clause-pushed c =
    (λ i. texts_from 0 (bytes_are c i) (ends_are c i))
    ∙ pushed 0 c.self.inside.bytes.items c.self.inside.ends.items c.args.text.now c.self.invariant
    ∙ ap (λ (ts : List (List ℕ)). ts ++ c.args.text.now ∷ []) c.self.view_is
