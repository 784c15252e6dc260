-- A session that goes on with what a collector answers.
use Rattle.std.proofs.Common.{◌≡◌, ℕ, ◌+◌, ◌≤◌, ◌<◌, Bool, true, false, List, [], ◌++◌, length, drop, sym, ap, subst, ◌∙◌, arith, length-drop}
use Rattle.std.proofs.lemmas.List.{drop-drop}
use Rattle.std.specs.Prelude.{◌≢◌, ◌-◌}
use Rattle.eo_base.specs.declared.FaultName.{FaultName}
use Rattle.eo_base.specs.declared.FaultName.TheVariants.{FileAbsent}
use Rattle.eo_base.specs.Limits.{limits}
use Rattle.eo_sexp.specs.Spot.{Spot}
use Rattle.eo_sexp.specs.declared.Fed.TheVariants as fed
use Rattle.eo_sexp.specs.declared.Finished.TheVariants as finished
use Rattle.eo_sexp.specs.Texts.{Phase, Then, Ends, Placed}
use Rattle.eo_sexp.specs.Collecting.{Collecting, AtCommand, IsLive, IsWithin, here_of, fed_with, finished_with, fed_answer, finish_answer}
use Rattle.eo_sexp.specs.Cutting.{IsWaiting, rest_of, ReadsInPieces}
use Rattle.eo_sexp.specs.Answering.{IsAnswer, IsLexical, AnswersAlone}
use Rattle.eo_session.specs.State.{State}
use Rattle.eo_run.specs.Reading.{count_of, behind, at_end as ending, LeadsOn, FailsAt}
use Rattle.eo_run.proofs.Running.{on-same, on-fault}
use Rattle.eo_sexp.proofs.Callers.{live-within, IsCommand, at_more, at_command, at_fault, at_end, at_end_command, at_end_fault, here-used}
use Rattle.eo_session.specs.Origin.{Origin}

-- what is left of a piece is its end, also after u bytes more
pub tail_later : (xs rest : List ℕ) (u : ℕ) → drop (length xs - length rest) xs ≡ rest → length rest ≤ length xs → u ≤ length rest → drop (length xs - length (drop u rest)) xs ≡ drop u rest
tail_later xs rest u e fits within =
    let count : length xs - length (drop u rest) ≡ (length xs - length rest) + u = omega (arith, length-drop u rest, fits, within) in
    ap (λ n. drop n xs) count ∙ sym (drop-drop u (length xs - length rest) xs) ∙ ap (drop u) e

-- a fault of the lexicon is not that of an absent file
pub lexical-present : (name : FaultName) → IsLexical name → name ≢ FileAbsent
lexical-present name l e = let wrong = subst IsLexical e l in absurd (cc wrong)

-- a piece is taken, with no command
pub record TakesAll (from : Origin) (st : State) (c d : Collecting) (p : List ℕ) : Type 0 where
  pub leads : LeadsOn from st (behind c p) [] st (behind d [])
  pub live : IsLive d
  pub waiting : IsWaiting limits d
  pub here : (here_of d).offset ≤ (here_of c).offset + length p

module _ (law : ReadsInPieces limits) (alone : AnswersAlone limits) (from : Origin) (c d : Collecting) (live : IsLive c) (waiting : IsWaiting limits c) where
  -- ---- a piece

  module _ (p : List ℕ) (is : d ≡ fed_with limits c p) where
    answer : IsAnswer d
    answer = subst IsAnswer (sym is) (alone.answers c p live)

    -- all of it is taken
    pub fed-more : fed.More ≡ fed_answer c d → (st : State) → TakesAll from st c d p
    fed-more e st =
        let within : IsWithin d = at_more c d answer e in
        let inside : IsWithin (fed_with limits c p) = subst IsWithin is within in
        record {
          leads = on-same from st (behind c p) (behind d []) (λ closes more. law.goes_on closes c p more inside ∙ ap (λ x. rest_of limits closes x more) (sym is));
          live = live-within d within;
          waiting = subst (IsWaiting limits) (sym is) (law.waits c p);
          here = (let counted = ap (λ x. (here_of x).offset) is ∙ alone.counts c p inside in omega (arith, counted));
        }

    -- a command is whole
    pub fed-command : (u : ℕ) → fed.Command u ≡ fed_answer c d → IsCommand c d u
    fed-command u e = at_command c d u answer e

    module _ (u : ℕ) (e : fed.Command u ≡ fed_answer c d) where
      pub fed-size : u ≤ length p
      fed-size = let k = fed-command u e in let own = law.command true c p [] k.command k.phase waiting (sym is ∙ k.is) in omega (arith, own.0, k.size)

      pub fed-gives : (closes : Bool) (more : List ℕ) → behind c p closes more ≡ Then (fed-command u e).command (behind d (drop u p) closes more)
      fed-gives closes more =
          let k = fed-command u e in
          let own = law.command closes c p more k.command k.phase waiting (sym is ∙ k.is) in
          own.1
          ∙ ap (λ i. Then k.command (rest_of limits closes (AtCommand k.command k.phase) (drop i p ++ more))) (sym k.size)
          ∙ ap (λ x. Then k.command (rest_of limits closes x (drop u p ++ more))) (sym k.is)

      pub fed-live : IsLive d
      fed-live = let k = fed-command u e in subst IsLive (sym k.is) tt

      pub fed-waiting : IsWaiting limits d
      fed-waiting = let k = fed-command u e in subst (IsWaiting limits) (sym k.is) tt

      pub fed-here : (here_of d).offset + length (drop u p) ≤ (here_of c).offset + length p
      fed-here =
          let k = fed-command u e in
          let same = ap (λ x. (here_of x).offset) k.is in
          omega (arith, same, here-used c k.command k.phase, k.size, fed-size, length-drop u p)

      pub fed-smaller : count_of (rest_of limits false d (drop u p ++ [])) < count_of (rest_of limits false c (p ++ []))
      fed-smaller = let given = ap count_of (fed-gives false []) in omega (arith, given)

    -- a fault
    pub fed-fault : (name : FaultName) (at : Spot) → fed.Fault name at ≡ fed_answer c d → (st : State) → FailsAt from st (behind c p) [] name at × (name ≢ FileAbsent)
    fed-fault name at e st =
        let f = at_fault c d name at answer e in
        (on-fault from st (behind c p) name at (λ closes more. law.fault closes c p more name at (sym is ∙ f.is)), lexical-present name f.lexical)

  -- ---- the end

  module _ (is : d ≡ finished_with limits c) where
    answer-end : IsAnswer d
    answer-end = subst IsAnswer (sym is) (alone.end_answers c live)

    pub end-ends : finished.End ≡ finish_answer d → (st : State) → LeadsOn from st (ending c) [] st (λ closes more. Ends (here_of d))
    end-ends e st =
        let inside : IsWithin (finished_with limits c) = subst IsWithin is (at_end d answer-end e) in
        let there = ap here_of is ∙ alone.end_stays c inside in
        on-same from st (ending c) (λ closes more. Ends (here_of d)) (λ closes more. law.ends.end c inside ∙ ap Ends (sym there))

    pub ended-live : finished.End ≡ finish_answer d → IsLive d
    ended-live e = live-within d (at_end d answer-end e)

    pub end-command : finished.Command ≡ finish_answer d → (k : Placed) × (phase : Phase) × (d ≡ AtCommand k phase)
    end-command e = at_end_command d answer-end e

    module _ (e : finished.Command ≡ finish_answer d) where
      pub end-gives : (closes : Bool) (more : List ℕ) → ending c closes more ≡ Then (end-command e).0 (ending d closes more)
      end-gives closes more =
          let k = end-command e in
          law.ends.command c k.0 k.1 waiting (sym is ∙ k.2)
          ∙ ap (λ x. Then k.0 (rest_of limits true x [])) (sym k.2)

      pub end-live : IsLive d
      end-live = let k = end-command e in subst IsLive (sym k.2) tt

      pub end-waiting : IsWaiting limits d
      end-waiting = let k = end-command e in subst (IsWaiting limits) (sym k.2) tt

      pub end-smaller : count_of (rest_of limits true d []) < count_of (rest_of limits true c [])
      end-smaller = let given = ap count_of (end-gives true []) in omega (arith, given)

    pub end-fault : (name : FaultName) (at : Spot) → finished.Fault name at ≡ finish_answer d → (st : State) → FailsAt from st (ending c) [] name at × (name ≢ FileAbsent)
    end-fault name at e st =
        let f = at_end_fault d name at answer-end e in
        (on-fault from st (ending c) name at (λ closes more. law.ends.fault c name at (sym is ∙ f.is)), lexical-present name f.lexical)
