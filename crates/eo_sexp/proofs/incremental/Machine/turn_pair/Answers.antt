use Rattle.std.proofs.Common.{◌≡◌, ℕ, ◌+◌, ◌≤◌, ◌^◌, Bool, refl, sym, ap, ◌∙◌, ◌∷◌, [], ◌++◌, suc, true, false, not, subst}
use Rattle.std.proofs.lemmas.Result.{on_ok_weaker}
use Rattle.eo_base.specs.Limits.{limits}
use Rattle.eo_sexp.specs.declared.incremental.State.{State}
use Rattle.eo_sexp.specs.declared.incremental.State.TheVariants as state
use Rattle.eo_sexp.specs.declared.incremental.Machine.{Machine}
use Rattle.eo_sexp.specs.Spot.{Spot}
use Rattle.eo_sexp.specs.Collecting.{fed_from}
use Rattle.eo_sexp.specs.Machine.{phase_of, meaning_at, IsPairFact, IsBegun, IsPlaced, IsSound, IsSoundAt, TakesByte}
use Rattle.eo_sexp.specs.Lexicon.{pass}
use Rattle.eo_sexp.proofs.MachineSteps.{takes-pair, pair-goes, pair-ends, pair-fact, pair-placed, placed-left, token-class, paren-class}
use Rattle.eo_sexp.proofs.ReaderTurns.{pass-space, pass-comment, pass-in_comment}
use Rattle.eo_sexp.proofs.incremental.Machine.turn_pair.Goals as goal

pair-begun : (m : Machine) (b : Bool) → m.state ≡ state.Pair b → IsSound m → IsBegun m
pair-begun m b e s = let h = subst (λ q. IsSoundAt q m) e s in h.0

-- the same command in another state
module _ (m : Machine) (s : State) where
  begun-in : IsBegun m → IsBegun (record m { state = s })
  begun-in h = record { first = h.first; inside = h.inside; reader = h.reader; reads = h.reads; short = h.short }

  placed-in : IsPlaced m → IsPlaced (record m { state = s })
  placed-in h = record { here = h.here; line = h.line }

  takes-in : (b : Bool) (new : Machine) (x : ℕ) → m.state ≡ state.Pair b → meaning_at s (phase_of m.phase) m.start m.begun ≡ meaning_at (state.Pair b) (phase_of m.phase) m.start m.begun → TakesByte (record m { state = s }) x new → TakesByte m x new
  takes-in b new x e same k = record {
    sound = k.sound;
    meant = k.meant ∙ ap (λ w. fed_from limits w (x ∷ [])) (same ∙ sym (ap (λ q. meaning_at q (phase_of m.phase) m.start m.begun) e));
  }

pub turn_begun-requires-clause-pair : goal.turn_begun-requires-clause-pair
turn_begun-requires-clause-pair c =
    let e = c.requires.pair ∙ ap (λ b. state.Pair b) c.if-comment.true in
    pair-goes true (not c.is_line_end.result) (phase_of c.args.self.now.phase) c.args.self.now.begun.bytes c.args.x (pair-fact c.args.self.now true e c.requires.sound)
    (λ n more. pass-in_comment n c.args.x more ∙ ap (λ b. pass (not b) (suc n) more) (sym c.is_line_end.ensures))

pub turn_between-requires : goal.turn_between-requires
turn_between-requires c =
    let l = c.leave.ensures in
    record {
      between = l.state;
      nothing = l.begun;
      placed = placed-left c.args.self.now c.leave.new.self (pair-placed c.args.self.now c.args.comment c.requires.pair c.requires.sound) l.begun l.start l.here;
      room = subst (λ (v : Spot). v.offset + 3 ≤ 2 ^ 64) (sym l.here) c.requires.room;
    }

pub turn_begun-requires-in-Space-clause-pair : goal.turn_begun-requires-in-Space-clause-pair
turn_begun-requires-in-Space-clause-pair c =
    let e = c.requires.pair ∙ ap (λ b. state.Pair b) c.if-comment.false in
    subst (λ s. IsPairFact s (phase_of c.args.self.now.phase) (c.args.self.now.begun.bytes ++ c.args.x ∷ [])) (sym e)
    (pair-goes false false (phase_of c.args.self.now.phase) c.args.self.now.begun.bytes c.args.x (pair-fact c.args.self.now false e c.requires.sound) (λ n more. pass-space n c.args.x more (sym c.in-Space.ensures)))

pub turn_begun-requires-in-Comment-clause-pair : goal.turn_begun-requires-in-Comment-clause-pair
turn_begun-requires-in-Comment-clause-pair c =
    let e = c.requires.pair ∙ ap (λ b. state.Pair b) c.if-comment.false in
    pair-goes false true (phase_of c.args.self.now.phase) c.args.self.now.begun.bytes c.args.x (pair-fact c.args.self.now false e c.requires.sound) (λ n more. pass-comment n c.args.x more (sym c.in-Comment.ensures))

pub turn_begun-requires-in_default-clause-pair : goal.turn_begun-requires-in_default-clause-pair
turn_begun-requires-in_default-clause-pair c =
    let e = c.requires.pair ∙ ap (λ b. state.Pair b) c.if-comment.false in
    let k = token-class c.classify.result c.args.x c.classify.ensures c.in_default.not-Space c.in_default.not-Comment c.in_default.not-Open c.in_default.not-Close in
    pair-ends (phase_of c.args.self.now.phase) c.args.self.now.begun.bytes c.args.x (pair-fact c.args.self.now false e c.requires.sound) k.0 k.1

pub returns-in-Open : goal.returns-in-Open
returns-in-Open c =
    let e = c.requires.pair ∙ ap (λ b. state.Pair b) c.if-comment.false in
    let l = c.leave.ensures in
    on_ok_weaker c.turn_between.result
    (takes-pair c.args.self.now c.leave.new.self c.turn_between.new.self c.args.x e c.requires.sound (paren-class c.classify.result c.args.x c.classify.ensures c.in-Open.is) l.state l.begun l.start (ap phase_of l.phase))
    c.turn_between.ensures

pub turn_begun-requires-clause-begun : goal.turn_begun-requires-clause-begun
turn_begun-requires-clause-begun c = begun-in c.args.self.now _ (pair-begun c.args.self.now c.args.comment c.requires.pair c.requires.sound)

pub turn_begun-requires-clause-placed : goal.turn_begun-requires-clause-placed
turn_begun-requires-clause-placed c = placed-in c.args.self.now _ (pair-placed c.args.self.now c.args.comment c.requires.pair c.requires.sound)

pub turn_begun-requires-in-Space-clause-begun : goal.turn_begun-requires-in-Space-clause-begun
turn_begun-requires-in-Space-clause-begun c = pair-begun c.args.self.now c.args.comment c.requires.pair c.requires.sound

pub turn_begun-requires-in-Space-clause-placed : goal.turn_begun-requires-in-Space-clause-placed
turn_begun-requires-in-Space-clause-placed c = pair-placed c.args.self.now c.args.comment c.requires.pair c.requires.sound

pub turn_begun-requires-in-Comment-clause-begun : goal.turn_begun-requires-in-Comment-clause-begun
turn_begun-requires-in-Comment-clause-begun c = begun-in c.args.self.now _ (pair-begun c.args.self.now c.args.comment c.requires.pair c.requires.sound)

pub turn_begun-requires-in-Comment-clause-placed : goal.turn_begun-requires-in-Comment-clause-placed
turn_begun-requires-in-Comment-clause-placed c = placed-in c.args.self.now _ (pair-placed c.args.self.now c.args.comment c.requires.pair c.requires.sound)

pub turn_begun-requires-in_default-clause-begun : goal.turn_begun-requires-in_default-clause-begun
turn_begun-requires-in_default-clause-begun c = begun-in c.args.self.now _ (pair-begun c.args.self.now c.args.comment c.requires.pair c.requires.sound)

pub turn_begun-requires-in_default-clause-placed : goal.turn_begun-requires-in_default-clause-placed
turn_begun-requires-in_default-clause-placed c = placed-in c.args.self.now _ (pair-placed c.args.self.now c.args.comment c.requires.pair c.requires.sound)

pub returns-then-comment : goal.returns-then-comment
returns-then-comment c =
    on_ok_weaker c.turn_begun.result (takes-in c.args.self.now (state.Pair (not c.is_line_end.result)) c.args.comment c.turn_begun.new.self c.args.x c.requires.pair refl) c.turn_begun.ensures

pub returns-in-Comment : goal.returns-in-Comment
returns-in-Comment c =
    on_ok_weaker c.turn_begun-in-Comment.result (takes-in c.args.self.now (state.Pair true) c.args.comment c.turn_begun-in-Comment.new.self c.args.x c.requires.pair refl) c.turn_begun-in-Comment.ensures

pub returns-in_default : goal.returns-in_default
returns-in_default c =
    on_ok_weaker c.turn_begun-in_default.result (takes-in c.args.self.now state.Begun c.args.comment c.turn_begun-in_default.new.self c.args.x c.requires.pair refl) c.turn_begun-in_default.ensures
