-- What the results of a collector say by themselves: how many bytes are taken, which faults there are, and where a file ends.
use Rattle.std.specs.Prelude.{◌≡◌, ℕ, ◌+◌, Bool, true, false, List, length, Option, Some, None, ⊤}
use Rattle.eo_base.specs.declared.FaultName.{FaultName}
use Rattle.eo_base.specs.declared.FaultName.TheVariants.{BadByte, Unclosed, ExtraClose, TokenLong, CommandLong, Nesting, Width}
use Rattle.eo_base.specs.Limits.{Limits}
use Rattle.eo_sexp.specs.Spot.{Spot}
use Rattle.eo_sexp.specs.Texts.{Reads, Then, Ends, Fails, first_spot, spot_after, reads_all}
use Rattle.eo_sexp.specs.Collecting.{Collecting, Within, AtCommand, Failed, NoMemory, new_collector, here_of, IsLive, IsWithin, fed_with, finished_with}
use Rattle.eo_sexp.specs.Cutting.{IsWaiting}

-- the faults of the lexicon, but for that of a file that is too long
abbrev pub is_lexical : FaultName → Bool
is_lexical BadByte = true
is_lexical Unclosed = true
is_lexical ExtraClose = true
is_lexical TokenLong = true
is_lexical CommandLong = true
is_lexical Nesting = true
is_lexical Width = true
is_lexical name = false

abbrev pub IsLexical : FaultName → Type 0
IsLexical name = is_lexical name ≡ true

-- What a call returns: the last command is there, and a fault is one of the lexicon.
abbrev pub IsAnswer : Collecting → Type 0
IsAnswer (Within phase comment start begun) = ⊤
IsAnswer (AtCommand c phase) = ⊤
IsAnswer (Failed name at) = IsLexical name
IsAnswer NoMemory = ⊥

-- where the commands of a file end, unless it has a fault
abbrev pub end_of : Reads → Option Spot
end_of (Then c others) = end_of others
end_of (Ends at) = Some at
end_of (Fails name at) = None

module _ (limits : Limits) where
  abbrev pub BeginsWaiting : Type 0
  BeginsWaiting = (wrapped : Bool) → IsWaiting limits (new_collector wrapped)

  -- `More` takes the whole piece
  abbrev pub CountsPieces : Type 0
  CountsPieces = (c : Collecting) (p : List ℕ) → IsWithin (fed_with limits c p) → (here_of (fed_with limits c p)).offset ≡ (here_of c).offset + length p

  abbrev pub AnswersPieces : Type 0
  AnswersPieces = (c : Collecting) (p : List ℕ) → IsLive c → IsAnswer (fed_with limits c p)

  abbrev pub AnswersEnd : Type 0
  AnswersEnd = (c : Collecting) → IsLive c → IsAnswer (finished_with limits c)

  -- the good end takes nothing
  abbrev pub EndStays : Type 0
  EndStays = (c : Collecting) → IsWithin (finished_with limits c) → here_of (finished_with limits c) ≡ here_of c

  -- a file ends after its last byte
  abbrev pub EndsBehind : Type 0
  EndsBehind = (closes wrapped : Bool) (bytes : List ℕ) (at : Spot) → end_of (reads_all limits closes wrapped bytes) ≡ Some at → at ≡ spot_after first_spot bytes

pub record AnswersAlone (limits : Limits) : Type 0 where
  pub begins : BeginsWaiting limits
  pub counts : CountsPieces limits
  pub answers : AnswersPieces limits
  pub end_answers : AnswersEnd limits
  pub end_stays : EndStays limits
  pub ends : EndsBehind limits
