-- How the calls of the libraries and the sink in memory go.
use Rattle.std.specs.Prelude.{ℕ, ◌+◌, ◌-◌, ◌^◌, Bool, nat_eq, List, [], ◌∷◌, ◌++◌, min, if◌then◌else◌}
use Rattle.std.specs.List.{list_any}

pub record Plan : Type 0 where
  -- how many bytes a call moves at most
  pub piece : ℕ
  -- the numbers of the calls that are to fail, which are counted from 1
  pub failing : List ℕ
  -- how many calls were made
  pub made : ℕ
  -- how many of them failed
  pub faults : ℕ

-- no call was made, none is to fail, and each moves as much as it can
abbrev pub first_plan : Plan
first_plan = record { piece = 2 ^ 64 - 1; failing = []; made = 0; faults = 0 }

-- a count goes up by one, but not above its greatest value
abbrev pub one_more : ℕ → ℕ
one_more count = min (count + 1) (2 ^ 64 - 1)

abbrev pub with_piece : ℕ → Plan → Plan
with_piece piece plan = record { piece = piece; failing = plan.failing; made = plan.made; faults = plan.faults }

abbrev pub with_failing : ℕ → Plan → Plan
with_failing call plan = record { piece = plan.piece; failing = plan.failing ++ call ∷ []; made = plan.made; faults = plan.faults }

-- whether the number of the next call is among those that are to fail
abbrev pub fails_next : Plan → Bool
fails_next plan = list_any (λ call. nat_eq call (one_more plan.made)) plan.failing

-- one more call was made, which failed or not
abbrev pub after_call : (failed : Bool) → Plan → Plan
after_call failed plan = record {
  piece = plan.piece;
  failing = plan.failing;
  made = one_more plan.made;
  faults = if failed then one_more plan.faults else plan.faults;
}
