-- What the answers of a collector leave of the commands of a text.
use Rattle.std.proofs.Common.{◌≡◌, ℕ, zero, suc, ◌+◌, ◌≤◌, Bool, true, false, List, [], ◌++◌, length, take, drop, sym, ap, subst, ◌∙◌, arith, length-drop, length-take-le}
use Rattle.std.proofs.lemmas.List.{take-append-drop, drop-append-le}
use Rattle.eo_base.specs.declared.FaultName.{FaultName}
use Rattle.eo_base.specs.Limits.{limits}
use Rattle.eo_sexp.specs.Spot.{Spot}
use Rattle.eo_sexp.specs.declared.Fed.TheVariants as fed
use Rattle.eo_sexp.specs.declared.Finished.TheVariants as finished
use Rattle.eo_sexp.specs.Texts.{Phase, Next, Command, End, Fault, Reads, read_next, reads_from, reads_all, reads, next_from, first_phase, first_spot, spot_after}
use Rattle.eo_sexp.specs.Collecting.{Collecting, new_collector, AtCommand, IsLive, IsWithin, here_of, fed_with, finished_with, fed_answer, finish_answer}
use Rattle.eo_sexp.specs.Cutting.{IsWaiting, ReadsInPieces}
use Rattle.eo_sexp.specs.Answering.{IsAnswer, AnswersAlone}
use Rattle.eo_sexp.proofs.Callers.{live-within, at_more, at_command, at_fault, at_end, at_end_command, at_end_fault, here-used}
use Rattle.bench_read.specs.Counting.{count, commands_of, commands_behind, GoesOn}

-- ---- how many there are

-- each turn gives one at most
turn-count : (others : Phase → Spot → List ℕ → Reads) (turns : ℕ) → ((p : Phase) (s : Spot) (bytes : List ℕ) → count (others p s bytes) ≤ turns) → (s : Spot) (bytes : List ℕ) (n : Next) → count (read_next others s bytes n) ≤ 1 + turns
unfolding read_next
turn-count others turns h s bytes (Command c start size phase) = let few = h phase (spot_after s (take (start + size) bytes)) (drop (start + size) bytes) in omega (arith, few)
turn-count others turns h s bytes End = omega arith
turn-count others turns h s bytes (Fault name at) = omega arith

turns-count : (closes : Bool) (turns : ℕ) (p : Phase) (s : Spot) (bytes : List ℕ) → count (reads_from limits closes turns p s bytes) ≤ turns
unfolding reads_from
turns-count closes zero p s bytes = omega arith
turns-count closes (suc turns) p s bytes =
    let few = turn-count (reads_from limits closes turns) turns (turns-count closes turns) s bytes (next_from limits closes p false bytes) in omega (arith, few)

pub few-commands : (text : List ℕ) → commands_of text ≤ 1 + length text
unfolding reads reads_all
few-commands text = let few : commands_of text ≤ suc (length text) = turns-count true (suc (length text)) (first_phase false) first_spot text in omega (arith, few)

-- ---- a piece

module _ (law : ReadsInPieces limits) (alone : AnswersAlone limits) (c d : Collecting) (live : IsLive c) (waiting : IsWaiting limits c) where
  module _ (rest : List ℕ) (n : ℕ) (fits : n ≤ length rest) (is : d ≡ fed_with limits c (take n rest)) where
    answer : IsAnswer d
    answer = subst IsAnswer (sym is) (alone.answers c (take n rest) live)

    split : take n rest ++ drop n rest ≡ rest
    split = take-append-drop n rest

    -- all of it is taken
    pub fed-more : fed.More ≡ fed_answer c d → GoesOn c d rest n 0
    fed-more e =
        let within : IsWithin d = at_more c d answer e in
        let inside : IsWithin (fed_with limits c (take n rest)) = subst IsWithin is within in
        record {
          within = fits;
          counts = ap (commands_behind c) (sym split) ∙ ap count (law.goes_on true c (take n rest) (drop n rest) inside) ∙ ap (λ x. commands_behind x (drop n rest)) (sym is) ∙ omega arith;
          live = live-within d within;
          waiting = subst (IsWaiting limits) (sym is) (law.waits c (take n rest));
          here = (let counted = ap (λ x. (here_of x).offset) is ∙ alone.counts c (take n rest) inside in omega (arith, counted, length-take-le n rest fits, length-drop n rest));
        }

    -- a command is whole
    pub fed-command : (u : ℕ) → fed.Command u ≡ fed_answer c d → GoesOn c d rest u 1
    fed-command u e =
        let k = at_command c d u answer e in
        let own = law.command true c (take n rest) (drop n rest) k.command k.phase waiting (sym is ∙ k.is) in
        let size : u ≤ length (take n rest) = omega (arith, own.0, k.size) in
        let long = length-take-le n rest fits in
        let left : drop u (take n rest) ++ drop n rest ≡ drop u rest = sym (drop-append-le u (take n rest) (drop n rest) size) ∙ ap (drop u) split in
        record {
          within = omega (arith, size, long, fits);
          counts =
              ap (commands_behind c) (sym split) ∙ ap count own.1
              ∙ ap (λ i. 1 + commands_behind (AtCommand k.command k.phase) (drop i (take n rest) ++ drop n rest)) (sym k.size)
              ∙ ap (λ l. 1 + commands_behind (AtCommand k.command k.phase) l) left
              ∙ ap (λ x. 1 + commands_behind x (drop u rest)) (sym k.is);
          live = subst IsLive (sym k.is) tt;
          waiting = subst (IsWaiting limits) (sym k.is) tt;
          here = (let same = ap (λ x. (here_of x).offset) k.is in omega (arith, same, here-used c k.command k.phase, k.size, size, long, length-drop u rest));
        }

    -- a fault ends the text
    pub fed-fault : (name : FaultName) (at : Spot) → fed.Fault name at ≡ fed_answer c d → commands_behind c rest ≡ 0
    fed-fault name at e =
        let f = (at_fault c d name at answer e).is in
        ap (commands_behind c) (sym split) ∙ ap count (law.fault true c (take n rest) (drop n rest) name at (sym is ∙ f))

  -- ---- the end

  module _ (is : d ≡ finished_with limits c) where
    answer-end : IsAnswer d
    answer-end = subst IsAnswer (sym is) (alone.end_answers c live)

    pub end-ends : finished.End ≡ finish_answer d → commands_behind c [] ≡ 0
    end-ends e = ap count (law.ends.end c (subst IsWithin is (at_end d answer-end e)))

    pub end-fault : (name : FaultName) (at : Spot) → finished.Fault name at ≡ finish_answer d → commands_behind c [] ≡ 0
    end-fault name at e = ap count (law.ends.fault c name at (sym is ∙ (at_end_fault d name at answer-end e).is))

    pub end-command : finished.Command ≡ finish_answer d → (commands_behind c [] ≡ 1 + commands_behind d []) × IsLive d × IsWaiting limits d
    end-command e =
        let k = at_end_command d answer-end e in (
          ap count (law.ends.command c k.0 k.1 waiting (sym is ∙ k.2)) ∙ ap (λ x. 1 + commands_behind x []) (sym k.2),
          subst IsLive (sym k.2) tt,
          subst (IsWaiting limits) (sym k.2) tt,
        )

-- ---- the start

-- a new collector reads the whole text
pub at-start : ReadsInPieces limits → (text : List ℕ) (c : Collecting) → c ≡ new_collector false → commands_behind c text ≡ commands_of text
unfolding reads
at-start law text c e = ap (λ x. commands_behind x text) e ∙ ap count (law.begins true false text)
