-- Checks and loads over files that name other files.
use Rattle.std.specs.Prelude.{◌≡◌, refl, ℕ, zero, suc, ◌+◌, true, false, List, [], ◌∷◌, ◌++◌, Option, None, Some, codes}
use Rattle.eo_base.specs.declared.FaultName.{FaultName}
use Rattle.eo_base.specs.declared.FaultName.TheVariants.{BadPath, SecondReference, IncludeDepth, FileAbsent, ProofDeclares, Redeclared, InScope, NoReference, NotAsserted, BadCommand, UnknownCommand}
use Rattle.eo_io.specs.Library.{Files}
use Rattle.eo_run.proofs.Computed.{computed}
use Rattle.eo_run.specs.Check.{verdict, load_verdict}
use Rattle.eo_run.specs.Verdict.{Verdict, Correct, Loaded, Refused}
use Rattle.eo_run.specs.declared.CheckJob.{CheckJob}

abbrev at_byte : List ℕ → ℕ → FaultName → Verdict
at_byte file offset name = Refused (record { name = name; file = file; line = 1; offset = offset })

-- ---- loads of a.eo

abbrev Loads : Files → Verdict → Type 0
Loads files v = load_verdict files (codes "a.eo") ≡ v

-- each file is read once, and d.eo has two names
includes : Loads ((codes "a.eo", codes "(include \"b.eo\")(include \"c.eo\")") ∷ (codes "b.eo", codes "(include \"d.eo\")") ∷ (codes "c.eo", codes "(include \"x/../d.eo\")(include \"c.eo\")") ∷ (codes "d.eo", codes "(declare-const p Bool)") ∷ []) (Loaded 6)
unfolding computed
includes = refl

nothing : Loads ((codes "a.eo", []) ∷ []) (Loaded 0)
unfolding computed
nothing = refl

absent : Loads ((codes "a.eo", codes "(define b () true)(include \"z.eo\")") ∷ []) (at_byte (codes "a.eo") 18 FileAbsent)
unfolding computed
absent = refl

absent_at_all : Loads [] (at_byte (codes "a.eo") 0 FileAbsent)
unfolding computed
absent_at_all = refl

-- a fault of an included file is there
inside : Loads ((codes "a.eo", codes "(include \"b.eo\")") ∷ (codes "b.eo", codes " (declare-const)") ∷ []) (at_byte (codes "b.eo") 1 BadCommand)
unfolding computed
inside = refl

bad_path : Loads ((codes "a.eo", codes "(include \"\")") ∷ []) (at_byte (codes "a.eo") 0 BadPath)
unfolding computed
bad_path = refl

in_scope : Loads ((codes "a.eo", codes "(assume-push x true)(include \"a.eo\")") ∷ []) (at_byte (codes "a.eo") 20 InScope)
unfolding computed
in_scope = refl

-- beside the file that names it
beside : Loads ((codes "a.eo", codes "(include \"x/b.eo\")") ∷ (codes "x/b.eo", codes "(include \"c.eo\")") ∷ (codes "x/c.eo", codes "(define c () true)") ∷ []) (Loaded 3)
unfolding computed
beside = refl

abbrev one_letter : ℕ → List ℕ
one_letter letter = letter ∷ codes ".eo"

-- each file includes the next; the last one is empty
abbrev chain : (letter n : ℕ) → Files
chain letter zero = (one_letter letter, []) ∷ []
chain letter (suc n) = (one_letter letter, codes "(include \"" ++ (one_letter (letter + 1) ++ codes "\")")) ∷ chain (letter + 1) n

-- the sixteenth include is the last one
deep : Loads (chain 97 16) (Loaded 16)
unfolding computed
deep = refl

too_deep : Loads (chain 97 17) (at_byte (codes "q.eo") 0 IncludeDepth)
unfolding computed
too_deep = refl

-- ---- checks of p.eo

abbrev job : (include reference : Option (List ℕ)) → CheckJob
job include reference = record { include = include; reference = reference; proof = codes "p.eo"; closed = false }

-- the proof names the reference file, and counts as included itself
by_command : verdict ((codes "p.eo", codes "(include \"p.eo\")(reference \"r.smt2\")(assume a false)") ∷ (codes "r.smt2", codes "(assert false)") ∷ []) (job None None) ≡ Correct
unfolding computed
by_command = refl

no_reference : verdict ((codes "p.eo", []) ∷ []) (job None None) ≡ at_byte (codes "p.eo") 0 NoReference
unfolding computed
no_reference = refl

-- ---- exit

-- ends its file, of which nothing after is read, and not the proof
exits : verdict ((codes "p.eo", codes "(reference \"r.smt2\")(assume a false)") ∷ (codes "r.smt2", codes "(assert false)(exit)(assert)) (") ∷ []) (job None None) ≡ Correct
unfolding computed
exits = refl

-- what is before it counts
exits_late : verdict ((codes "p.eo", []) ∷ (codes "r.smt2", codes "(assert)(exit)") ∷ []) (job None (Some (codes "r.smt2"))) ≡ at_byte (codes "r.smt2") 0 BadCommand
unfolding computed
exits_late = refl

-- and what is after it does not
exits_early : verdict ((codes "p.eo", codes "(assume a false)") ∷ (codes "r.smt2", codes "(exit)(assert false)") ∷ []) (job None (Some (codes "r.smt2"))) ≡ at_byte (codes "p.eo") 0 NotAsserted
unfolding computed
exits_early = refl

-- no command of a proof
exits_proof : verdict ((codes "p.eo", codes "(exit)") ∷ []) (job None None) ≡ at_byte (codes "p.eo") 0 UnknownCommand
unfolding computed
exits_proof = refl

-- ---- reference files

-- a second one, named by the proof, or by the job after one that the include file names
second_reference : verdict ((codes "p.eo", codes "(reference \"r.smt2\")") ∷ (codes "r.smt2", []) ∷ []) (job None (Some (codes "r.smt2"))) ≡ at_byte (codes "p.eo") 0 SecondReference
unfolding computed
second_reference = refl

second_of_job : verdict ((codes "c.eo", codes "(reference \"r.smt2\")") ∷ (codes "p.eo", []) ∷ (codes "r.smt2", []) ∷ []) (job (Some (codes "c.eo")) (Some (codes "x/../r.smt2"))) ≡ at_byte (codes "r.smt2") 0 SecondReference
unfolding computed
second_of_job = refl

-- the include file comes first, and what it declares the reference file may not
include_first : verdict ((codes "c.eo", codes "(define f () false)") ∷ (codes "p.eo", codes "(assume a f)") ∷ (codes "r.smt2", codes "(assert false)") ∷ []) (job (Some (codes "c.eo")) (Some (codes "r.smt2"))) ≡ Correct
unfolding computed
include_first = refl

bad_job : verdict [] (job (Some (codes ".")) None) ≡ at_byte (codes ".") 0 BadPath
unfolding computed
bad_job = refl

-- the include file is the proof, which is read twice
twice : verdict ((codes "p.eo", codes "(define f () false)") ∷ []) (job (Some (codes "p.eo")) None) ≡ at_byte (codes "p.eo") 0 Redeclared
unfolding computed
twice = refl

-- ---- closed checks

abbrev closed : Option (List ℕ) → CheckJob
closed include = record { include = include; reference = None; proof = codes "p.eo"; closed = true }

-- a file that the proof includes declares none, and one that the include file includes may
closed_inside : verdict ((codes "p.eo", codes "(include \"b.eo\")") ∷ (codes "b.eo", codes "(program f () :signature (Bool) Bool ())") ∷ []) (closed None) ≡ at_byte (codes "b.eo") 0 ProofDeclares
unfolding computed
closed_inside = refl

closed_before : verdict ((codes "c.eo", codes "(include \"b.eo\")") ∷ (codes "b.eo", codes "(program f () :signature (Bool) Bool ())") ∷ (codes "p.eo", codes "(include \"b.eo\")") ∷ []) (closed (Some (codes "c.eo"))) ≡ at_byte (codes "p.eo") 16 NoReference
unfolding computed
closed_before = refl

-- a program is after the shape of its declaration, and before its name
closed_program : verdict ((codes "p.eo", codes "(program let () :signature (Bool) Bool ())") ∷ []) (closed None) ≡ at_byte (codes "p.eo") 0 ProofDeclares
unfolding computed
closed_program = refl

closed_shape : verdict ((codes "p.eo", codes "(program let () :signature () Bool ())") ∷ []) (closed None) ≡ at_byte (codes "p.eo") 0 BadCommand
unfolding computed
closed_shape = refl

open_program : verdict ((codes "p.eo", codes "(program let () :signature (Bool) Bool ())") ∷ []) (job None None) ≡ at_byte (codes "p.eo") 0 Redeclared
unfolding computed
open_program = refl

reference_program : verdict ((codes "p.eo", []) ∷ (codes "r.smt2", codes "(program let () :signature (Bool) Bool ())") ∷ []) (job None (Some (codes "r.smt2"))) ≡ at_byte (codes "r.smt2") 0 UnknownCommand
unfolding computed
reference_program = refl
