-- The lines of `stripped`, for proofs that go by whether a wrapping is there.
use Rattle.std.proofs.Common.{◌≡◌, refl, ℕ, [], ap}
use Rattle.std.specs.Prelude.{Bool, codes, if◌then◌else◌}
use Rattle.eo_base.specs.Limits.{Limits}
use Rattle.eo_sexp.specs.Lexicon.{Passed}
use Rattle.eo_sexp.specs.Commands.{command}
use Rattle.eo_sexp.specs.Texts.{Phase, Start, AfterUnsat, InPair, AfterPair, Plain, Held, hold, behind, begins_one_of, begins_pair, stripped}
use Rattle.eo_sexp.proofs.Parentheses.{unsat-none}

-- inside the outer pair
abbrev pub if_close : Bool → Passed → Held
if_close closes p = if closes then hold AfterPair (behind 1 p.rest) else hold InPair p

abbrev pub in_pair : Passed → Held
in_pair p = if_close (begins_one_of (codes ")") p.rest.bytes) p

-- where the outer pair may begin
abbrev pub if_pair : Bool → Phase → Passed → Held
if_pair begins phase p = if begins then in_pair (behind 1 p.rest) else hold phase p

-- nothing is left
abbrev pub passed : Bool → ℕ → Passed
passed comment at = record { comment = comment; rest = record { at = at; bytes = [] } }

module _ (limits : Limits) where
  abbrev pub before_pair : Phase → Passed → Held
  before_pair phase p = if_pair (begins_pair limits p.rest) phase p

  -- where the word `unsat` may be
  abbrev pub if_unsat : Bool → Passed → Held
  if_unsat stands p = if stands then before_pair AfterUnsat (behind 5 p.rest) else before_pair Start p

  pub stripped-none : (phase : Phase) (comment : Bool) (at : ℕ) → stripped limits 3 phase (passed comment at) ≡ record { phase = phase; comment = comment; rest = record { at = at; bytes = [] } }
  unfolding stripped hold begins_pair begins_one_of
  stripped-none Start comment at = ap (λ b. if_unsat b (passed comment at)) (unsat-none (command limits []))
  stripped-none AfterUnsat comment at = refl
  stripped-none InPair comment at = refl
  stripped-none AfterPair comment at = refl
  stripped-none Plain comment at = refl
