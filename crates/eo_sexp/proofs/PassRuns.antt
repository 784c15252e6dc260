-- Runs of bytes of a comment between two commands.
use Rattle.std.proofs.Common.{◌≡◌, ◌≢◌, refl, ℕ, ◌+◌, ◌≤◌, true, false, List, [], length, All, sym, ap, ◌∙◌, append-nil, arith}
use Rattle.std.proofs.Math.Seq.{take-length}
use Rattle.std.proofs.lemmas.List.Elements.{All-weaker}
use Rattle.eo_base.specs.Limits.{limits}
use Rattle.eo_sexp.specs.Spot.{Spot}
use Rattle.eo_sexp.specs.declared.incremental.State.TheVariants as state
use Rattle.eo_sexp.specs.declared.incremental.Machine.{Machine}
use Rattle.eo_sexp.specs.Lexicon.{is_line_end, pass}
use Rattle.eo_sexp.specs.Texts.{Phase, stripped, strip, answer, from_front, spot_after}
use Rattle.eo_sexp.specs.Collecting.{Within, waiting, on_more, fed_from}
use Rattle.eo_sexp.specs.Built.{nothing}
use Rattle.eo_sexp.specs.Machine.{phase_of, IsPlaced, TakesBytes}
use Rattle.eo_sexp.proofs.Feeding.{state_of}
use Rattle.eo_sexp.proofs.RunSteps.{plain-spot}
use Rattle.eo_sexp.proofs.CommentRuns.{inside-line, pass-inside}
use Rattle.eo_sexp.proofs.MachineSteps.{meaning-is, sound-is, placed-none, here-start}
use Rattle.eo_sexp.proofs.Wrappings.{passed, stripped-none}

pass-all : (xs : List ℕ) → All (λ x. is_line_end x ≡ false) xs → pass true 0 xs ≡ passed true (length xs)
unfolding pass
pass-all xs h = ap (pass true 0) (sym (append-nil xs)) ∙ pass-inside 0 xs [] h ∙ ap (passed true) (omega arith)

fed-inside : (phase : Phase) (start : Spot) (xs : List ℕ) → All (λ x. is_line_end x ≡ false) xs → fed_from limits (Within phase true start []) xs ≡ Within phase true (spot_after start xs) []
unfolding fed_from strip on_more answer from_front waiting state_of
fed-inside phase start xs h =
    ap (λ p. state_of limits start xs (stripped limits 3 phase p)) (pass-all xs h)
    ∙ ap (state_of limits start xs) (stripped-none limits phase true (length xs))
    ∙ ap (λ bs. Within phase true (spot_after start bs) []) (take-length xs)

-- the place after them
inside-spot : (at : Spot) (xs : List ℕ) → All (λ x. is_line_end x ≡ false) xs → spot_after at xs ≡ record { line = at.line; offset = at.offset + length xs }
inside-spot at xs h = plain-spot at xs (All-weaker (λ x. is_line_end x ≡ false) (λ x. x ≢ 10) inside-line xs h)

pub passes-run : (old new : Machine) (xs : List ℕ) → IsPlaced old → old.begun ≡ nothing → old.state ≡ state.Between true → All (λ x. is_line_end x ≡ false) xs →
    new.state ≡ old.state → new.begun ≡ old.begun → new.phase ≡ old.phase → new.start ≡ new.here → new.here ≡ record { line = old.here.line; offset = old.here.offset + length xs } → TakesBytes old xs new
passes-run old new xs p none between inside s b q a h =
    let now : new.state ≡ state.Between true = s ∙ between in
    let empty : new.begun ≡ nothing = b ∙ none in
    let next : new.here ≡ spot_after old.here xs = h ∙ sym (inside-spot old.here xs inside) in
    let line : new.here.line ≤ new.here.offset + 1 = omega (arith, p.line, ap (λ (v : Spot). v.line) h, ap (λ (v : Spot). v.offset) h) in
    record {
      sound = sound-is new (state.Between true) now (empty, placed-none new empty (sym a) line);
      meant =
          meaning-is new (state.Between true) (phase_of old.phase) (spot_after old.start xs) nothing now (ap phase_of q) (a ∙ next ∙ ap (λ (v : Spot). spot_after v xs) (here-start old none p)) empty
          ∙ sym (fed-inside (phase_of old.phase) old.start xs inside)
          ∙ ap (λ m. fed_from limits m xs) (sym (meaning-is old (state.Between true) (phase_of old.phase) old.start nothing between refl refl none));
    }
