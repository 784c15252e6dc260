-- Words of the command line with their readings.
use Rattle.std.proofs.Common.{◌≡◌, refl, true, false, List, [], ◌∷◌, Option, Some, None}
use Rattle.std.specs.Prelude.{codes}
use Rattle.clap.proofs.OnLiterals.{clap_on_literals}
use Rattle.clap.specs.Words.{Text}
use Rattle.eo_main.specs.CommandLine.{request}
use Rattle.eo_main.specs.declared.Request.{Request}
use Rattle.eo_main.specs.declared.Request.TheVariants.{Check, Load, Bench, Show, Trim, Prove}

-- the words after the program's name are read so
abbrev Reads : List Text → Option Request → Type 0
Reads words reading = request (codes "ethos" ∷ words) ≡ reading

-- the check of this proof alone
abbrev plain : Text → Option Request
plain proof = Some (Check (record { include = None; reference = None; proof = proof; closed = false }))

all_options : Reads (codes "check" ∷ codes "--include=c.eo" ∷ codes "--reference=r.smt2" ∷ codes "--closed" ∷ codes "p.eo" ∷ [])
    (Some (Check (record { include = Some (codes "c.eo"); reference = Some (codes "r.smt2"); proof = codes "p.eo"; closed = true })))
unfolding clap_on_literals request
all_options = refl

any_order : Reads (codes "check" ∷ codes "p.eo" ∷ codes "--reference" ∷ codes "r.smt2" ∷ [])
    (Some (Check (record { include = None; reference = Some (codes "r.smt2"); proof = codes "p.eo"; closed = false })))
unfolding clap_on_literals request
any_order = refl

alone : Reads (codes "check" ∷ codes "p.eo" ∷ []) (plain (codes "p.eo"))
unfolding clap_on_literals request
alone = refl

behind_dashes : Reads (codes "check" ∷ codes "--" ∷ codes "-p.eo" ∷ []) (plain (codes "-p.eo"))
unfolding clap_on_literals request
behind_dashes = refl

empty_word : Reads (codes "check" ∷ codes "" ∷ []) (plain (codes ""))
unfolding clap_on_literals request
empty_word = refl

empty_value : Reads (codes "check" ∷ codes "--include=" ∷ codes "p.eo" ∷ [])
    (Some (Check (record { include = Some (codes ""); reference = None; proof = codes "p.eo"; closed = false })))
unfolding clap_on_literals request
empty_value = refl

an_option_for_a_value : Reads (codes "check" ∷ codes "--include" ∷ codes "--closed" ∷ codes "p.eo" ∷ []) None
unfolding clap_on_literals request
an_option_for_a_value = refl

flag_twice : Reads (codes "check" ∷ codes "--closed" ∷ codes "p.eo" ∷ codes "--closed" ∷ []) None
unfolding clap_on_literals request
flag_twice = refl

option_twice : Reads (codes "check" ∷ codes "--reference=a" ∷ codes "--reference=a" ∷ codes "p.eo" ∷ []) None
unfolding clap_on_literals request
option_twice = refl

flag_with_a_value : Reads (codes "check" ∷ codes "--closed=true" ∷ codes "p.eo" ∷ []) None
unfolding clap_on_literals request
flag_with_a_value = refl

unknown_option : Reads (codes "check" ∷ codes "--open" ∷ codes "p.eo" ∷ []) None
unfolding clap_on_literals request
unknown_option = refl

two_proofs : Reads (codes "check" ∷ codes "p.eo" ∷ codes "q.eo" ∷ []) None
unfolding clap_on_literals request
two_proofs = refl

no_proof : Reads (codes "check" ∷ []) None
unfolding clap_on_literals request
no_proof = refl

no_command : Reads [] None
unfolding clap_on_literals request
no_command = refl

no_words : request [] ≡ None
unfolding clap_on_literals request
no_words = refl

help : Reads (codes "check" ∷ codes "--help" ∷ codes "p.eo" ∷ []) None
unfolding clap_on_literals request
help = refl

help_command : Reads (codes "help" ∷ []) None
unfolding clap_on_literals request
help_command = refl

load : Reads (codes "load" ∷ codes "a.eo" ∷ []) (Some (Load (codes "a.eo")))
unfolding clap_on_literals request
load = refl

load_of_two : Reads (codes "load" ∷ codes "a.eo" ∷ codes "b.eo" ∷ []) None
unfolding clap_on_literals request
load_of_two = refl

bench : Reads (codes "bench" ∷ codes "1" ∷ []) (Some (Bench 1))
unfolding clap_on_literals request
bench = refl

largest_bench : Reads (codes "bench" ∷ codes "100000" ∷ []) (Some (Bench 100000))
unfolding clap_on_literals request
largest_bench = refl

bench_too_large : Reads (codes "bench" ∷ codes "100001" ∷ []) None
unfolding clap_on_literals request
bench_too_large = refl

bench_of_none : Reads (codes "bench" ∷ codes "0" ∷ []) None
unfolding clap_on_literals request
bench_of_none = refl

bench_with_a_leading_zero : Reads (codes "bench" ∷ codes "01" ∷ []) None
unfolding clap_on_literals request
bench_with_a_leading_zero = refl

bench_with_a_sign : Reads (codes "bench" ∷ codes "+1" ∷ []) None
unfolding clap_on_literals request
bench_with_a_sign = refl

bench_alone : Reads (codes "bench" ∷ []) None
unfolding clap_on_literals request
bench_alone = refl

bench_of_two : Reads (codes "bench" ∷ codes "1" ∷ codes "2" ∷ []) None
unfolding clap_on_literals request
bench_of_two = refl

a_name : Reads (codes "show" ∷ codes "a.eo" ∷ codes "b" ∷ []) (Some (Show (codes "a.eo") (codes "b")))
unfolding clap_on_literals request
a_name = refl

no_name : Reads (codes "show" ∷ codes "a.eo" ∷ []) None
unfolding clap_on_literals request
no_name = refl

trim_with_all_options : Reads (codes "trim" ∷ codes "--closed" ∷ codes "--include=c.eo" ∷ codes "p.eo" ∷ codes "--reference=r.smt2" ∷ [])
    (Some (Trim (record { include = Some (codes "c.eo"); reference = Some (codes "r.smt2"); proof = codes "p.eo"; closed = true })))
unfolding clap_on_literals request
trim_with_all_options = refl

trim_alone : Reads (codes "trim" ∷ []) None
unfolding clap_on_literals request
trim_alone = refl

a_proof : Reads (codes "prove" ∷ codes "p.eo" ∷ codes "--reference" ∷ codes "r.smt2" ∷ []) (Some (Prove (codes "r.smt2") (codes "p.eo")))
unfolding clap_on_literals request
a_proof = refl

prove_without_reference : Reads (codes "prove" ∷ codes "p.eo" ∷ []) None
unfolding clap_on_literals request
prove_without_reference = refl

prove_with_include : Reads (codes "prove" ∷ codes "--include=c.eo" ∷ codes "--reference=r.smt2" ∷ codes "p.eo" ∷ []) None
unfolding clap_on_literals request
prove_with_include = refl

prove_closed : Reads (codes "prove" ∷ codes "--closed" ∷ codes "--reference=r.smt2" ∷ codes "p.eo" ∷ []) None
unfolding clap_on_literals request
prove_closed = refl
