-- The reading of words, by what `clap` answers.
use Rattle.std.proofs.Common.{◌≡◌, Bool, true, false, List, [], None, refl, ap}
use Rattle.std.specs.Prelude.{if◌then◌else◌, option_and_then}
use Rattle.clap.specs.Faults.{fault_of}
use Rattle.clap.specs.Words.{Text, subcommand_of, takes}
use Rattle.eo_main.specs.CommandLine.{program, request, request_of}
use Rattle.eo_main.proofs.Taken.{taken}

-- where no step fails
pub read : (words : List Text) → fault_of program words ≡ [] → request words ≡ option_and_then request_of (subcommand_of program words)
unfolding request
read words none = ap (λ b. if b then option_and_then request_of (subcommand_of program words) else None) (taken program words refl refl refl none)

-- where the words are not taken
pub unread : (words : List Text) → (takes program words ≡ true → ⊥) → None ≡ request words
unfolding request
unread words never = go (takes program words) never
  where
    go : (b : Bool) → (b ≡ true → ⊥) → None ≡ (if b then option_and_then request_of (subcommand_of program words) else None)
    go true never = absurd (never refl)
    go false never = refl
