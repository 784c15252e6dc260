-- A trimmed proof is read as the needed commands, and its job stays correct.
use Rattle.std.specs.Prelude.{◌≡◌, ℕ, suc, ◌≤◌, Bool, true, false, List, [], ◌∷◌, ◌++◌, length, take, Some, Ok, refl, bytes_eq, nat_le}
use Rattle.std.specs.List.{list_any}
use Rattle.std.proofs.Common.{sym, ap, subst, ◌∙◌, arith, length-append}
use Rattle.std.proofs.lemmas.Bool.{le-leb}
use Rattle.std.proofs.lemmas.List.{take_all}
use Rattle.eo_base.proofs.ChecksLemmas.{bind_ok, err_is_not_ok}
use Rattle.eo_base.specs.Limits.{limits}
use Rattle.eo_base.specs.declared.FaultName.TheVariants.{BadCommand}
use Rattle.eo_io.specs.Library.{Files}
use Rattle.eo_io.specs.Paths.{fold_path}
use Rattle.eo_sexp.specs.AtomKind as kind
use Rattle.eo_sexp.specs.Sexp as sexps
use Rattle.eo_sexp.specs.Sexp.{Sexp, Atom, Listed}
use Rattle.eo_sexp.specs.Texts.{Placed, Reads, Then, Ends, Fails, Start, reads_all, reads_file, reads_from, first_spot}
use Rattle.eo_trim.proofs.Again.{IsWorded, AllReread, in_rows, HasJust, rows-read}
use Rattle.eo_trim.proofs.Original.{IsRead, AllOf, all_read, rereads}
use Rattle.eo_shape.specs.Shapes.{Command, command_of}
use Rattle.eo_session.specs.Commands.{uncounted, step}
use Rattle.eo_session.specs.Origin as origin
use Rattle.eo_run.specs.declared.CheckJob.{CheckJob}
use Rattle.eo_run.specs.Run.{Progress, commands_of, run_check}
use Rattle.eo_run.specs.Check.{verdict}
use Rattle.eo_run.specs.Verdict.{Correct}
use Rattle.eo_trim.specs.Needed.{IsNeeded, trimmed}
use Rattle.eo_trim.proofs.Picking.{AllRead, Accepted, EachPlaced, Lists, joined}
use Rattle.eo_trim.proofs.Trimming.{trimmed_correct}

-- ---- accepted commands begin with a word

worded_by : (s : Sexp) (command : Command) → command_of false s ≡ Ok command → IsWorded s
unfolding command_of
worded_by (Listed (sexps.Next (Atom kind.Symbol word at) parts) span) command e = tt
worded_by (Listed (sexps.Next (Atom k word at) parts) span) command e = tt
worded_by s command e = absurd (err_is_not_ok BadCommand command e)

worded : (c : Placed) → Accepted c → IsWorded c.sexp
unfolding step uncounted
worded c a =
    let k = bind_ok (uncounted a.0 origin.Proof c.sexp) _ a.1 a.2 in
    let command = bind_ok (command_of false c.sexp) _ k.0 k.1 in
    worded_by c.sexp command.0 command.1

-- ---- reading

all_of : (reads : Reads) → AllOf limits (IsRead limits) reads → AllRead (IsRead limits) reads
all_of (Then c others) h = (h.0, all_of others h.1)
all_of (Ends at) h = tt
all_of (Fails name at) h = tt

reads_well : (bytes : List ℕ) → AllRead (IsRead limits) (commands_of true bytes)
unfolding reads_file
reads_well bytes = all_of (commands_of true bytes) (all_read limits (nat_le (length bytes) limits.file) true (take limits.file bytes))

rows_of : (cs : List Placed) → EachPlaced (IsRead limits) cs → AllReread limits cs
rows_of [] h = tt
rows_of (c ∷ cs) h = (rereads limits c h.0 (worded c h.1), rows_of cs h.2)

lists_of : (reads : Reads) (cs : List Placed) → HasJust limits reads cs → Lists reads cs
lists_of (Ends at) [] h = tt
lists_of (Then c others) (d ∷ ds) h = (h.0, lists_of others ds h.1)
lists_of (Ends at) (d ∷ ds) h = absurd h
lists_of (Then c others) [] h = absurd h
lists_of (Fails name at) [] h = absurd h
lists_of (Fails name at) (d ∷ ds) h = absurd h

same_rows : (cs : List Placed) → joined cs ≡ in_rows limits cs
same_rows [] = refl
same_rows (c ∷ cs) = ap (λ bs. c.bytes ++ 10 ∷ bs) (same_rows cs)

few_rows : (cs : List Placed) → length cs ≤ length (joined cs)
few_rows [] = omega arith
few_rows (c ∷ cs) = omega (arith, few_rows cs, length-append c.bytes (10 ∷ joined cs))

reads_back : (cs : List Placed) → EachPlaced (IsRead limits) cs → length (joined cs) ≤ limits.file → Lists (commands_of true (joined cs)) cs
unfolding reads_file reads_all
reads_back cs h short =
    let all : reads_file limits true (joined cs) ≡ reads_all limits true true (joined cs) =
    ap (λ b. reads_all limits b true (take limits.file (joined cs))) (le-leb (length (joined cs)) limits.file short) ∙ ap (reads_all limits true true) (take_all limits.file (joined cs) short) in
    lists_of (commands_of true (joined cs)) cs
    (subst (λ (r : Reads). HasJust limits r cs) (sym all)
    (subst (λ (bs : List ℕ). HasJust limits (reads_from limits true (suc (length (joined cs))) Start first_spot bs) cs) (sym (same_rows cs))
    (rows-read limits cs (rows_of cs h) false (suc (length (joined cs))) first_spot (omega (arith, few_rows cs)))))

-- ---- the law

-- Where a proof is correct and its file is opened but once, it stays correct with only the commands that are needed.
pub trimmed_stays_correct : (files : Files) (job : CheckJob) (proof : List ℕ) (final : Progress) (N : ℕ → Bool) → fold_path [] job.proof ≡ Some proof → run_check files job ≡ Ok final → verdict files job ≡ Correct →
    IsNeeded proof final N → list_any (bytes_eq proof) final.opened ≡ false → length (trimmed proof N final.seen) ≤ limits.file →
    verdict ((proof, trimmed proof N final.seen) ∷ files) job ≡ Correct
trimmed_stays_correct files job proof final N at e correct holds alone short =
    trimmed_correct files proof (trimmed proof N final.seen) final N holds alone (IsRead limits) reads_well reads_back refl short job at e correct
