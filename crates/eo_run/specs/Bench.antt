-- The check that a bench runs, of a proof that hops from 0 to n.
use Rattle.std.specs.Prelude.{ℕ, zero, suc, ◌+◌, false, List, [], ◌∷◌, ◌++◌, Some, codes, decimal}
use Rattle.eo_io.specs.Library.{Files}
use Rattle.eo_run.specs.Printed.{line}
use Rattle.eo_run.specs.declared.CheckJob.{CheckJob}

abbrev pub bench_signature : List ℕ
bench_signature =
    line (codes "(declare-const Int Type)")
    ++ line (codes "(declare-consts <numeral> Int)")
    ++ line (codes "(declare-const not (-> Bool Bool))")
    ++ line (codes "(declare-const or (-> Bool Bool Bool) :right-assoc-nil false)")
    ++ line (codes "(declare-const at (-> Int Bool))")
    ++ line (codes "(declare-rule hop ((n Int)) :args (n) :conclusion (or (not (at n)) (at (eo::add n 1))))")
    ++ line (codes "(declare-rule unit ((a Bool) (b Bool)) :premises (a (or (not a) b)) :conclusion b)")
    ++ line (codes "(declare-rule contra ((a Bool)) :premises (a (not a)) :conclusion false)")

abbrev pub bench_reference : ℕ → List ℕ
bench_reference n = line (codes "(assert (at 0))") ++ line (codes "(assert (not (at " ++ decimal n ++ codes ")))")

-- the hop from k to the next number: the step that concludes its clause, and the one that concludes the fact there
abbrev pub hop_clause : ℕ → List ℕ
hop_clause k = line (codes "(step @h" ++ decimal k ++ codes " :rule hop :args (" ++ decimal k ++ codes "))")

abbrev pub hop_fact : (k next : ℕ) → List ℕ
hop_fact k next = line (codes "(step @a" ++ decimal next ++ codes " :rule unit :premises (@a" ++ decimal k ++ codes " @h" ++ decimal k ++ codes "))")

abbrev pub hop : ℕ → List ℕ
hop k = hop_clause k ++ hop_fact k (k + 1)

-- the hops from 0 to n
abbrev pub hops : ℕ → List ℕ
hops zero = []
hops (suc n) = hops n ++ hop n

-- what refutes the fact at n
abbrev pub bench_end : ℕ → List ℕ
bench_end n =
    line (codes "(assume @n (not (at " ++ decimal n ++ codes ")))")
    ++ line (codes "(step @f false :rule contra :premises (@a" ++ decimal n ++ codes " @n))")

abbrev pub bench_proof : ℕ → List ℕ
bench_proof n = line (codes "(assume @a0 (at 0))") ++ hops n ++ bench_end n

unfoldable pub bench_files : ℕ → Files
bench_files n =
    (codes "bench.eo", bench_signature) ∷ (codes "bench.smt2", bench_reference n) ∷ (codes "bench.proof", bench_proof n) ∷ []

abbrev pub bench_job : CheckJob
bench_job = record { include = Some (codes "bench.eo"); reference = Some (codes "bench.smt2"); proof = codes "bench.proof"; closed = false }
