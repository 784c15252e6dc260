-- What the program writes, and its status.
use Rattle.std.specs.Prelude.{ℕ, List, [], ◌∷◌, ◌++◌, codes, decimal, nat_lt, if◌then◌else◌}
use Rattle.eo_base.specs.declared.Status.{Status}
use Rattle.eo_base.specs.declared.Status.TheVariants as status
use Rattle.eo_base.specs.Faults.{number}
use Rattle.eo_base.specs.FaultTexts.{text}
use Rattle.eo_run.specs.Verdict.{Verdict, Correct, Incomplete, Loaded, Refused, Refusal}

abbrev pub line : List ℕ → List ℕ
line bytes = bytes ++ 10 ∷ []

abbrev pub two_digits : ℕ → List ℕ
two_digits n = if nat_lt n 10 then codes "0" ++ decimal n else decimal n

-- as in `refused F28 NotAsserted p.eo:1:0`
abbrev pub refusal_text : Refusal → List ℕ
refusal_text r =
    codes "refused F" ++ (two_digits (number r.name) ++ (codes " " ++ (text r.name ++ (codes " " ++ (r.file
    ++ (codes ":" ++ (decimal r.line ++ (codes ":" ++ decimal r.offset))))))))

abbrev pub verdict_text : Verdict → List ℕ
verdict_text Correct = line (codes "correct")
verdict_text Incomplete = line (codes "incomplete")
verdict_text (Loaded commands) = line (codes "loaded " ++ (decimal commands ++ codes " commands"))
verdict_text (Refused refusal) = line (refusal_text refusal)

abbrev pub verdict_status : Verdict → Status
verdict_status Correct = status.Ok
verdict_status Incomplete = status.Incomplete
verdict_status (Loaded commands) = status.Ok
verdict_status (Refused refusal) = status.Refused

-- what is due: a status, and the bytes to be written
pub record Due : Type 0 where
  pub status : Status
  pub text : List ℕ

abbrev pub verdict_due : Verdict → Due
verdict_due v = record { status = verdict_status v; text = verdict_text v }

abbrev pub bench_text : (n commands terms : ℕ) → List ℕ
bench_text n commands terms =
    line (codes "bench " ++ (decimal n ++ (codes ": correct, " ++ (decimal commands ++ (codes " commands, " ++ (decimal terms ++ codes " terms"))))))

abbrev pub usage_text : List ℕ
usage_text = line (codes "usage: ethos check [--include=F] [--reference=F] [--closed] PROOF | ethos load FILE | ethos bench N | ethos show FILE NAME | ethos trim [--include=F] [--reference=F] [--closed] PROOF | ethos prove --reference=F PROOF")

abbrev pub read_fault_text : List ℕ
read_fault_text = line (codes "read fault")

abbrev pub out_of_memory_text : List ℕ
out_of_memory_text = line (codes "out of memory")

abbrev pub usage_due : Due
usage_due = record { status = status.Usage; text = usage_text }

abbrev pub read_fault_due : Due
read_fault_due = record { status = status.ReadFault; text = read_fault_text }

abbrev pub out_of_memory_due : Due
out_of_memory_due = record { status = status.OutOfMemory; text = out_of_memory_text }
