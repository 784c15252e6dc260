use Rattle.std.proofs.Common.{◌≡◌, ℕ, List, [], ◌∷◌, ◌++◌, ap, sym, ◌∙◌}
use Rattle.std.proofs.lemmas.List.{append-nil, append_assoc}
use Rattle.eo_session.specs.Store.{state_of}
use Rattle.eo_session.specs.Notes.{numbers_of}
use Rattle.eo_session.proofs.store.Store.numbers.Goals as goal

pub loop-name-init : goal.loop-name-init
loop-name-init c =
    let st = state_of c.args.self.now in
    let left = c.into_iter-name-iterator.result in
    let all : left ≡ c.args.names.now = cc in
    ap (λ (ns : List ℕ). ns ++ numbers_of st left) c.new-numbers.ensures ∙ ap (numbers_of st) all

pub loop-name-preserved : goal.loop-name-preserved
loop-name-preserved c =
    let st = state_of c.args.self.now in
    let numbers = c.loop-name.numbers in
    let rest = c.next.new.self in
    let n = c.number.result in
    ap (λ (ns : List ℕ). ns ++ numbers_of st rest) c.in_ok-push.ensures.pushed ∙ append_assoc numbers (n ∷ []) (numbers_of st rest)
    ∙ ap (λ (m : ℕ). numbers ++ m ∷ numbers_of st rest) c.number.ensures
    ∙ ap (λ (names : List (List ℕ)). numbers ++ numbers_of st names) (sym c.in-Some.ensures.steps) ∙ c.loop-name.invariant

pub returns : goal.returns
returns c =
    let st = state_of c.args.self.now in
    let numbers = c.loop-name.numbers in
    sym (append-nil numbers) ∙ ap (λ (names : List (List ℕ)). numbers ++ numbers_of st names) (sym c.in-None.ensures.steps.0) ∙ c.loop-name.invariant
