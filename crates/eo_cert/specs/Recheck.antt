-- What is said of a certificate: its lines in order, of which the first that breaks a form or a condition counts.
use Rattle.std.specs.Prelude.{ℕ, Bool, true, false, ◌&&◌, ◌==◌, nat_eq, nat_le, if◌then◌else◌, List, [], ◌∷◌, ◌++◌, length, take, Option, Some, None, Result, Ok, Err, bytes_eq, codes}
use Rattle.std.specs.List.{list_any}
use Rattle.eo_base.specs.declared.FaultName.{FaultName}
use Rattle.eo_base.specs.declared.FaultName.TheVariants.{FileLong}
use Rattle.eo_base.specs.Checks.{Checked, ◌>>=◌, require, value_or}
use Rattle.eo_base.specs.Limits.{limits}
use Rattle.eo_sexp.specs.AtomKind as kind
use Rattle.eo_sexp.specs.Sexp.{Sexp, Atom, Listed, Next}
use Rattle.eo_sexp.specs.Spot.{Spot}
use Rattle.eo_sexp.specs.Texts.{Reads, Then, Ends, first_spot, spot_after, reads}
use Rattle.eo_term.specs.Tree.{truth, tree_eq}
use Rattle.eo_session.specs.Origin.{Origin}
use Rattle.eo_session.specs.Origin as origin
use Rattle.eo_session.specs.Commands.{step}
use Rattle.eo_base.specs.declared.FaultName.TheVariants.{BadCertificate, NoFalse}
use Rattle.eo_lines.specs.Lines.{Line, Declares, Refers, States, Evaluates, Calls, Assumes, Cites, Steps}
use Rattle.eo_lines.specs.Forms.{line_of}
use Rattle.eo_cert.specs.Stated.{Stated, nothing_stated}
use Rattle.eo_cert.specs.Terms.{term_line}
use Rattle.eo_cert.specs.Blocks.{evaluation_line, call_line}
use Rattle.eo_cert.specs.Uses.{context_line, cited_line, step_line}

-- ---- commands

-- the words of commands that declare, in a signature file and in a reference file
abbrev pub declaring_words : List (List ℕ)
declaring_words =
    codes "declare-const" ∷ codes "declare-fun" ∷ codes "declare-sort" ∷ codes "declare-parameterized-const"
    ∷ codes "declare-consts" ∷ codes "define" ∷ codes "program" ∷ codes "declare-rule" ∷ []

abbrev pub reference_words : List (List ℕ)
reference_words =
    codes "declare-const" ∷ codes "declare-fun" ∷ codes "declare-sort" ∷ codes "define-fun" ∷ codes "define-sort"
    ∷ codes "assert" ∷ []

-- a command that begins with one of these words
abbrev pub has_word : List (List ℕ) → Sexp → Bool
has_word words (Listed (Next (Atom kind.Symbol word at) parts) span) = list_any (bytes_eq word) words
has_word words s = false

-- the one command that some bytes are
abbrev pub only_command : Reads → Option Sexp
only_command (Then c (Ends at)) = Some c.sexp
only_command r = None

abbrev pub no_block : Stated → Bool
no_block st = nat_eq (length st.block) 0

-- a command that is accepted where no block is begun
unfoldable pub command_line : Stated → Origin → List (List ℕ) → List ℕ → Checked Stated
command_line st from words bytes = do
  _ ← require (no_block st) BadCertificate
  s ← value_or BadCertificate (only_command (reads limits false bytes))
  _ ← require (has_word words s) BadCertificate
  r ← step st.session from s
  Ok (record st { session = r.0 })

-- ---- lines

abbrev pub or_bad : Option Stated → Checked Stated
or_bad o = value_or BadCertificate o

-- what is stated after a line
abbrev pub by_line : Stated → Line → Checked Stated
by_line st (Declares bytes) = command_line st origin.Signature declaring_words bytes
by_line st (Refers bytes) = command_line st origin.Reference reference_words bytes
by_line st (States line) = or_bad (term_line st line)
by_line st (Evaluates line) = or_bad (evaluation_line st line)
by_line st (Calls line call) = or_bad (call_line st line call)
by_line st (Assumes c t) = or_bad (context_line st c t)
by_line st (Cites c t) = or_bad (cited_line st c t)
by_line st (Steps line) = or_bad (step_line st line)

-- bytes of a line
abbrev pub line_limit : ℕ
line_limit = 40000000

unfoldable pub check_line : Stated → List ℕ → Checked Stated
check_line st bytes = do
  _ ← require (nat_le (length bytes) line_limit) BadCertificate
  line ← value_or BadCertificate (line_of bytes)
  by_line st line

-- ---- certificates

-- a fault, and the byte that it is placed at
abbrev pub Fault : Type 0
Fault = FaultName × Spot

-- what is stated, or the first fault
abbrev pub Rechecked : Type 0
Rechecked = Result Stated Fault

abbrev pub refused : FaultName → Spot → Rechecked
refused name at = Err (name, at)

-- goes on with what a line leaves, which begins at a place
abbrev pub after_line : Spot → Checked Stated → (Stated → Rechecked) → Rechecked
after_line at (Ok st) go = go st
after_line at (Err name) go = refused name at

-- `false` is derived from what is asserted alone
abbrev pub has_false : Stated → Bool
has_false st = list_any (λ d. nat_eq d.context 0 && tree_eq d.formula (truth false)) st.derivations

-- After the last line that is ended: bytes that no line feed ends, bytes beyond those that a file may have, or no `false`.
abbrev pub end_of : (closes : Bool) → Spot → (unended : List ℕ) → Stated → Rechecked
end_of true at [] st = if has_false st then Ok st else refused NoFalse at
end_of true at (b ∷ bytes) st = refused BadCertificate at
end_of false at unended st =
    if nat_le (length unended) line_limit then refused FileLong (spot_after at unended) else refused BadCertificate at

-- The bytes after those of a line that is begun, where the line begins at a place.
unfoldable pub recheck_from : (closes : Bool) → Spot → (line bytes : List ℕ) → Stated → Rechecked
recheck_from closes at line [] st = end_of closes at line st
recheck_from closes at line (b ∷ bytes) st =
    if b == 10 then after_line at (check_line st line) (recheck_from closes (spot_after at (line ++ 10 ∷ [])) [] bytes)
    else recheck_from closes at (line ++ b ∷ []) bytes st

-- What a certificate states, or its first fault.
unfoldable pub recheck : List ℕ → Rechecked
recheck bytes = recheck_from (nat_le (length bytes) limits.file) first_spot [] (take limits.file bytes) nothing_stated
