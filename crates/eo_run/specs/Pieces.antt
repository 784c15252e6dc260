-- Lines in pieces, as they are written.
use Rattle.std.specs.Prelude.{ℕ, List, ◌++◌, codes}
use Rattle.std.specs.List.{flat_map}
use Rattle.std.specs.Borrow.{Bor}
use Rattle.eo_base.specs.declared.Fault.{Fault}
use Rattle.eo_base.specs.declared.Status.{Status}
use Rattle.eo_base.specs.declared.Status.TheVariants.{Ok}
use Rattle.eo_run.specs.Printed.{Due, verdict_due, bench_text}
use Rattle.eo_run.specs.Verdict.{Refused, Loaded}

-- the bytes of the pieces, one after another
abbrev pub text_of : List (Bor (List ℕ)) → List ℕ
text_of pieces = flat_map (λ p. p.now) pieces

abbrev pub line_due : Status → List ℕ → Due
line_due status text = record { status = status; text = text }

-- the line of a fault, from its parts
abbrev pub refusal_of_pieces : (zero number name path line offset : List ℕ) → List ℕ
refusal_of_pieces zero number name path line offset =
    codes "refused F" ++ (zero ++ (number ++ (codes " " ++ (name ++ (codes " " ++ (path ++ (codes ":" ++ (line ++ (codes ":" ++ (offset ++ codes "\n"))))))))))

unfoldable pub loaded_due : ℕ → Due
loaded_due commands = verdict_due (Loaded commands)

-- the line of a correct bench, from its numbers
abbrev pub counts_of_pieces : (number commands terms : List ℕ) → List ℕ
counts_of_pieces number commands terms =
    codes "bench " ++ (number ++ (codes ": correct, " ++ (commands ++ (codes " commands, " ++ (terms ++ codes " terms\n")))))

unfoldable pub counts_due : (n commands terms : ℕ) → Due
counts_due n commands terms = record { status = Ok; text = bench_text n commands terms }

-- what is due for a fault in the file with this path
unfoldable pub refused_due : Fault → List ℕ → Due
refused_due fault path = verdict_due (Refused (record { name = fault.name; file = path; line = fault.place.line; offset = fault.place.offset }))
