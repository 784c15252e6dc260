-- A run is the same whether a name may have several constants or one, unless a second constant of a name is declared.
use Rattle.std.specs.Prelude.{◌≡◌, ℕ, zero, suc, Bool, true, false, if◌then◌else◌, List, [], ◌∷◌, ◌++◌, Option, Some, None, Result, Ok, Err, bytes_eq, ◌⊎◌, refl}
use Rattle.std.specs.List.{list_any}
use Rattle.std.proofs.Common.{◌∙◌, ap, sym, subst, inl, inr}
use Rattle.std.proofs.lemmas.Option.{same_Some, none-some}
use Rattle.eo_base.specs.declared.FaultName.{FaultName}
use Rattle.eo_base.specs.declared.FaultName.TheVariants.{Redeclared, IncludeDepth, FileAbsent, BadPath, SecondReference}
use Rattle.eo_base.specs.Checks.{Checked}
use Rattle.eo_io.specs.Library.{Files, file_at}
use Rattle.eo_io.specs.Paths.{fold_path}
use Rattle.eo_sexp.specs.Spot.{Spot}
use Rattle.eo_sexp.specs.Sexp.{Sexp}
use Rattle.eo_sexp.specs.Texts.{Placed, Reads, Then, Ends, Fails, first_spot}
use Rattle.eo_sig.proofs.Single.{first_single}
use Rattle.eo_names.specs.Contexts.{Several, One}
use Rattle.eo_session.specs.State.{State, first_state, begin_reference, end_fault}
use Rattle.eo_session.specs.Commands.{step}
use Rattle.eo_session.specs.Origin.{Origin}
use Rattle.eo_session.specs.Origin as origin
use Rattle.eo_session.specs.declared.Next.{Next}
use Rattle.eo_session.specs.declared.Next.TheVariants as next
use Rattle.eo_sound.proofs.SingleNames.{by, IsPlain, Alike, Outcome, Like, LikeNext, step_single}
use Rattle.eo_run.specs.Check.{checked, verdict, loaded, load_verdict}
use Rattle.eo_run.specs.Run.{Progress, Stopped, Ran, Opener, Runner, seen_next, with_command, with_opened, with_included, ◌>>=◌, placed, or_fault, refusal_at, stopped_at, is_exit, run_commands, open_nothing, run_reference, shown, commands_of, include_file, refer_to_file, open_file, run_file, included_runner, include_limit, job_file, run_signature, run_proof, run_job_reference, run_prelude, before_proof_after, run_check_after, run_check, run_load, if_given, first_progress, first_load}
use Rattle.eo_run.specs.Seen.{Seen}
use Rattle.eo_run.specs.SingleNames.{with_naming, run_from, verdict_by, load_verdict_by, IsSameOrAnother, KeepsVerdict, KeepsLoad}
use Rattle.eo_run.specs.Verdict.{Refusal, Refused}
use Rattle.eo_run.specs.declared.CheckJob.{CheckJob}

-- ---- chains

-- refused so
abbrev IsAt : {A : Type 0} → Refusal → Result A Stopped → Type 0
IsAt r (Ok x) = ⊥
IsAt r (Err stopped) = stopped.refusal ≡ r

chain_step : {A B : Type 0} (m : Result A Stopped) (g : A → Result B Stopped) (x : A) → m ≡ Ok x → (m >>= g) ≡ g x
unfolding ◌>>=◌
chain_step m g x e = ap (λ m. m >>= g) e

chain_refused : {A B : Type 0} (r : Refusal) (m : Result A Stopped) (g : A → Result B Stopped) → IsAt r m → IsAt r (m >>= g)
unfolding ◌>>=◌
chain_refused r (Ok x) g h = absurd h
chain_refused r (Err stopped) g h = h

-- refused at a place by whatever refuses another constant
abbrev Another : {A : Type 0} → (FaultName → Result A Stopped) → Type 0
Another n = (path : List ℕ) × (at : Spot) × ((f : FaultName) → IsAt (refusal_at path at f) (n f))

-- What the commands did is noted by the state that they met, so the two runs may have seen what differs there.
module _ {A : Type 0} (Fact : A → Type 0) (move : FaultName → List Seen → A → A) where
  abbrev AlikeAt : FaultName → Result A Stopped → Result A Stopped → Type 0
  AlikeAt f (Ok x) (Ok y) = Fact x × (seen : List Seen) × (y ≡ move f seen x)
  AlikeAt f (Ok x) (Err r) = ⊥
  AlikeAt f (Err q) (Ok y) = ⊥
  AlikeAt f (Err q) (Err r) = r.refusal ≡ q.refusal

  abbrev EndsAs : Result A Stopped → (FaultName → Result A Stopped) → Type 0
  EndsAs m n = ((f : FaultName) → AlikeAt f m (n f)) ⊎ Another n

  ends_to : (m : Result A Stopped) (n p : FaultName → Result A Stopped) → ((f : FaultName) → p f ≡ n f) → EndsAs m n → EndsAs m p
  ends_to m n p e (inl k) = inl (λ f. subst (λ (c : Result A Stopped). AlikeAt f m c) (sym (e f)) (k f))
  ends_to m n p e (inr k) = inr (k.0, k.1, λ f. subst (λ (c : Result A Stopped). IsAt (refusal_at k.0 k.1 f) c) (sym (e f)) (k.2 f))

  refused_too : (f : FaultName) (q : Stopped) (c : Result A Stopped) → IsAt q.refusal c → AlikeAt f (Err q) c
  refused_too f q (Ok y) h = absurd h
  refused_too f q (Err r) h = h

  refused : (q : Stopped) (n : FaultName → Result A Stopped) → ((f : FaultName) → IsAt q.refusal (n f)) → EndsAs (Err q) n
  refused q n e = inl (λ f. refused_too f q (n f) (e f))

  goes : (x : A) (s : FaultName → List Seen) → Fact x → EndsAs (Ok x) (λ f. Ok (move f (s f) x))
  goes x s h = inl (λ f. (h, s f, refl))

  alike_ok : (f : FaultName) (x : A) (c : Result A Stopped) → AlikeAt f (Ok x) c → Fact x × (seen : List Seen) × (c ≡ Ok (move f seen x))
  alike_ok f x (Ok y) h = (h.0, h.1, ap (λ z. Ok z) h.2)
  alike_ok f x (Err r) h = absurd h

  alike_err : (f : FaultName) (q : Stopped) (c : Result A Stopped) → AlikeAt f (Err q) c → IsAt q.refusal c
  alike_err f q (Ok y) h = absurd h
  alike_err f q (Err r) h = h

  -- after a value that does not depend on it
  after : {B : Type 0} (p : Progress) (q : FaultName → Progress) (path : List ℕ) (at : Spot) (name : FaultName) (o : Option B) (g : B → Result A Stopped) (h : FaultName → B → Result A Stopped) →
      ((x : B) → o ≡ Some x → EndsAs (g x) (λ f. h f x)) → EndsAs (or_fault p path at name o >>= g) (λ f. or_fault (q f) path at name o >>= h f)
  unfolding ◌>>=◌ or_fault
  after p q path at name (Some x) g h k = k x refl
  after p q path at name None g h k = refused (stopped_at p path at name) (λ f. Err (stopped_at (q f) path at name)) (λ f. refl)

  at_place : (p : Progress) (q : FaultName → Progress) (path : List ℕ) (at : Spot) (m : Checked A) (n : FaultName → Checked A) →
      Outcome (λ f x y. Fact x × (y ≡ move f [] x)) m n → EndsAs (placed p path at m) (λ f. placed (q f) path at (n f))
  unfolding placed
  at_place p q path at m n (inr k) = inr (path, at, λ f. subst (λ (c : Checked A). IsAt (refusal_at path at f) (placed (q f) path at c)) (sym (k f)) refl)
  at_place p q path at (Ok x) n (inl k) = inl (λ f. by_ok f (n f) (k f))
    where
      by_ok : (f : FaultName) (c : Checked A) → Alike (λ x y. Fact x × (y ≡ move f [] x)) (Ok x) c → AlikeAt f (Ok x) (placed (q f) path at c)
      by_ok f (Ok y) h = (h.0, [], h.1)
      by_ok f (Err e) h = absurd h
  at_place p q path at (Err e) n (inl k) = inl (λ f. by_err f (n f) (k f))
    where
      by_err : (f : FaultName) (c : Checked A) → Alike (λ x y. Fact x × (y ≡ move f [] x)) (Err e) c → AlikeAt f (Err (stopped_at p path at e)) (placed (q f) path at c)
      by_err f (Ok y) h = absurd h
      by_err f (Err g) h = ap (refusal_at path at) h

module _ {A B : Type 0} (Fact : A → Type 0) (move : FaultName → List Seen → A → A) (Fact' : B → Type 0) (move' : FaultName → List Seen → B → B) where
  onward : (m : Result A Stopped) (n : FaultName → Result A Stopped) (g : A → Result B Stopped) (h : FaultName → A → Result B Stopped) → EndsAs Fact move m n →
      ((x : A) (s : FaultName → List Seen) → Fact x → EndsAs Fact' move' (g x) (λ f. h f (move f (s f) x))) → EndsAs Fact' move' (m >>= g) (λ f. n f >>= h f)
  unfolding ◌>>=◌
  onward m n g h (inr k) go = inr (k.0, k.1, λ f. chain_refused (refusal_at k.0 k.1 f) (n f) (h f) (k.2 f))
  onward (Ok x) n g h (inl k) go =
      let there : (f : FaultName) → Fact x × (seen : List Seen) × (n f ≡ Ok (move f seen x)) = λ f. alike_ok Fact move f x (n f) (k f) in
      ends_to Fact' move' (g x) (λ f. h f (move f (there f).1 x)) (λ f. n f >>= h f) (λ f. chain_step (n f) (h f) (move f (there f).1 x) (there f).2)
      (go x (λ f. (there f).1) (there Redeclared).0)
  onward (Err q) n g h (inl k) go =
      refused Fact' move' q (λ f. n f >>= h f) (λ f. chain_refused q.refusal (n f) (h f) (alike_err Fact move f q (n f) (k f)))

-- ---- runs

abbrev AreSingle : Progress → Type 0
AreSingle p = IsPlain p.state

abbrev one : FaultName → List Seen → Progress → Progress
one f seen p = record (with_naming (One f) p) { seen = seen }

abbrev RunEnds : Ran → (FaultName → Ran) → Type 0
RunEnds m n = EndsAs AreSingle one m n

abbrev NextFact : State × Next → Type 0
NextFact r = IsPlain r.0

abbrev one_next : FaultName → List Seen → State × Next → State × Next
one_next f seen r = (by (One f) r.0, r.1)

abbrev one_state : FaultName → List Seen → State → State
one_state f seen st = by (One f) st

several_self : (st : State) → IsPlain st → by Several st ≡ st
several_self st plain = λ i. record st { naming = sym plain.naming i }

stepped : (st : State) (from : Origin) (s : Sexp) → IsPlain st → Outcome LikeNext (step st from s) (λ f. step (by (One f) st) from s)
stepped st from s plain =
    subst (λ (x : State). Outcome LikeNext (step x from s) (λ f. step (by (One f) st) from s)) (several_self st plain) (step_single st from s plain.single)

begun : (st : State) → IsPlain st → Outcome Like (begin_reference st) (λ f. begin_reference (by (One f) st))
unfolding begin_reference
begun st plain = by_reference st.has_reference
  where
    by_reference : (b : Bool) → Outcome Like (if b then Err SecondReference else Ok (record st { has_reference = true })) (λ f. if b then Err SecondReference else Ok (record (by (One f) st) { has_reference = true }))
    by_reference true = inl (λ f. refl)
    by_reference false = inl (λ f. (record { single = plain.single; naming = plain.naming }, refl))

abbrev Opens : Opener → Type 0
Opens opener = (path : List ℕ) (from : Origin) (at : Spot) (what : Next) (p : Progress) (s : FaultName → List Seen) → AreSingle p → RunEnds (opener path from at what p) (λ f. opener path from at what (one f (s f) p))

abbrev Runs : Runner → Type 0
Runs run = (path : List ℕ) (from : Origin) (bytes : List ℕ) (p : Progress) (s : FaultName → List Seen) → AreSingle p → RunEnds (run path from bytes p) (λ f. run path from bytes (one f (s f) p))

unless_ends : (b : Bool) (p : Progress) (s : FaultName → List Seen) (m : Ran) (n : FaultName → Ran) → AreSingle p → RunEnds m n → RunEnds (if b then Ok p else m) (λ f. if b then Ok (one f (s f) p) else n f)
unless_ends true p s m n h k = goes AreSingle one p s h
unless_ends false p s m n h k = k

-- what is done after a command, and then the others
abbrev then_others : Opener → List ℕ → Origin → Placed → Reads → Progress → State × Next → Ran
then_others opener path from c others p r =
    opener path from c.start r.1 (with_command p (seen_next p path from c) r.0) >>= λ q. if is_exit r.1 then Ok q else run_commands opener path from others q

commands_end : (opener : Opener) → Opens opener → (path : List ℕ) (from : Origin) (reads : Reads) (p : Progress) (s : FaultName → List Seen) → AreSingle p →
    RunEnds (run_commands opener path from reads p) (λ f. run_commands opener path from reads (one f (s f) p))
unfolding run_commands
commands_end opener opens path from (Ends at) p s h = goes AreSingle one p s h
commands_end opener opens path from (Fails name at) p s h = refused AreSingle one (stopped_at p path at name) (λ f. Err (stopped_at (one f (s f) p) path at name)) (λ f. refl)
commands_end opener opens path from (Then c others) p s h =
    onward NextFact one_next AreSingle one (placed p path c.start (step p.state from c.sexp)) (λ f. placed (one f (s f) p) path c.start (step (by (One f) p.state) from c.sexp))
    (then_others opener path from c others p) (λ f. then_others opener path from c others (one f (s f) p))
    (at_place NextFact one_next p (λ f. one f (s f) p) path c.start (step p.state from c.sexp) (λ f. step (by (One f) p.state) from c.sexp) (stepped p.state from c.sexp h))
    (λ r t plain. let next = with_command p (seen_next p path from c) r.0 in
    let seen : FaultName → List Seen = λ f. s f ++ seen_next (one f (s f) p) path from c ∷ [] in
    onward AreSingle one AreSingle one (opener path from c.start r.1 next) (λ f. opener path from c.start r.1 (one f (seen f) next))
    (λ q. if is_exit r.1 then Ok q else run_commands opener path from others q) (λ f q. if is_exit r.1 then Ok q else run_commands opener path from others q)
    (opens path from c.start r.1 next seen plain)
    (λ q u k. unless_ends (is_exit r.1) q u (run_commands opener path from others q) (λ f. run_commands opener path from others (one f (u f) q)) k (commands_end opener opens path from others q u k)))

reference_ends : (path bytes : List ℕ) (p : Progress) (s : FaultName → List Seen) → AreSingle p → RunEnds (run_reference path bytes p) (λ f. run_reference path bytes (one f (s f) p))
unfolding run_reference
reference_ends path bytes p s h = commands_end open_nothing (λ path from at what p s k. goes AreSingle one p s k) path origin.Reference (commands_of false bytes) p s h

module _ (files : Files) where
  abbrev Deeper : Option Runner → Type 0
  Deeper deeper = (run : Runner) → deeper ≡ Some run → Runs run

  include_ends : (deeper : Option Runner) → Deeper deeper → (path : List ℕ) (from : Origin) (at : Spot) (file : List ℕ) (p : Progress) (s : FaultName → List Seen) → AreSingle p →
      RunEnds (include_file files deeper path from at file p) (λ f. include_file files deeper path from at file (one f (s f) p))
  unfolding include_file
  include_ends deeper runs path from at file p s h =
      unless_ends (list_any (bytes_eq file) p.included) p s _ _ h
      (after AreSingle one p (λ f. one f (s f) p) path at IncludeDepth deeper
      (λ run. or_fault p path at FileAbsent (file_at files file) >>= λ bytes. run file from bytes (with_included p file))
      (λ f run. or_fault (one f (s f) p) path at FileAbsent (file_at files file) >>= λ bytes. run file from bytes (with_included (one f (s f) p) file))
      (λ run e. after AreSingle one p (λ f. one f (s f) p) path at FileAbsent (file_at files file)
      (λ bytes. run file from bytes (with_included p file)) (λ f bytes. run file from bytes (with_included (one f (s f) p) file))
      (λ bytes k. runs run e file from bytes (with_included p file) s h)))

  refer_ends : (path : List ℕ) (at : Spot) (file : List ℕ) (p : Progress) (s : FaultName → List Seen) → AreSingle p →
      RunEnds (refer_to_file files path at file p) (λ f. refer_to_file files path at file (one f (s f) p))
  unfolding refer_to_file
  refer_ends path at file p s h =
      onward IsPlain one_state AreSingle one (placed p path at (begin_reference p.state)) (λ f. placed (one f (s f) p) path at (begin_reference (by (One f) p.state)))
      (λ st. or_fault p path at FileAbsent (file_at files file) >>= λ bytes. run_reference file bytes (record (with_opened p file) { state = st }))
      (λ f st. or_fault (one f (s f) p) path at FileAbsent (file_at files file) >>= λ bytes. run_reference file bytes (record (with_opened (one f (s f) p) file) { state = st }))
      (at_place IsPlain one_state p (λ f. one f (s f) p) path at (begin_reference p.state) (λ f. begin_reference (by (One f) p.state)) (begun p.state h))
      (λ st t k. after AreSingle one p (λ f. one f (s f) p) path at FileAbsent (file_at files file)
      (λ bytes. run_reference file bytes (record (with_opened p file) { state = st })) (λ f bytes. run_reference file bytes (record (with_opened (one f (s f) p) file) { state = by (One f) st }))
      (λ bytes e. reference_ends file bytes (record (with_opened p file) { state = st }) s k))

  open_ends : (deeper : Option Runner) → Deeper deeper → Opens (open_file files deeper)
  unfolding open_file
  open_ends deeper runs path from at next.Done p s h = goes AreSingle one p s h
  open_ends deeper runs path from at (next.Include name) p s h =
      after AreSingle one p (λ f. one f (s f) p) path at BadPath (fold_path path name) (λ file. include_file files deeper path from at file p) (λ f file. include_file files deeper path from at file (one f (s f) p))
      (λ file e. include_ends deeper runs path from at file p s h)
  open_ends deeper runs path from at (next.Reference name) p s h =
      after AreSingle one p (λ f. one f (s f) p) path at BadPath (fold_path path name) (λ file. refer_to_file files path at file p) (λ f file. refer_to_file files path at file (one f (s f) p))
      (λ file e. refer_ends path at file p s h)
  open_ends deeper runs path from at next.Exit p s h = goes AreSingle one p s h

  file_ends : (deeper : Option Runner) → Deeper deeper → (proof : Bool) → Runs (run_file files deeper proof)
  unfolding run_file
  file_ends deeper runs proof path from bytes p s h = commands_end (open_file files deeper) (open_ends deeper runs) path from (commands_of proof bytes) p s h

  included_end : (left : ℕ) → Deeper (included_runner files left)
  unfolding included_runner
  included_end zero run e = absurd (none-some run e)
  included_end (suc left) run e = subst Runs (same_Some (run_file files (included_runner files left) false) run e) (file_ends (included_runner files left) (included_end left) false)

  -- ---- the files of a job

  -- after a file that the job names
  file_after : (p : Progress) (q : FaultName → Progress) (name : List ℕ) (g : List ℕ × List ℕ → Ran) (h : FaultName → List ℕ × List ℕ → Ran) →
      ((file : List ℕ × List ℕ) → RunEnds (g file) (λ f. h f file)) → RunEnds (job_file files p name >>= g) (λ f. job_file files (q f) name >>= h f)
  unfolding job_file or_fault ◌>>=◌
  file_after p q name g h k = by_path (fold_path [] name)
    where
      by_bytes : (path : List ℕ) (o : Option (List ℕ)) →
          RunEnds ((or_fault p path first_spot FileAbsent o >>= λ bytes. Ok (path, bytes)) >>= g) (λ f. (or_fault (q f) path first_spot FileAbsent o >>= λ bytes. Ok (path, bytes)) >>= h f)
      by_bytes path (Some bytes) = k (path, bytes)
      by_bytes path None = refused AreSingle one (stopped_at p path first_spot FileAbsent) (λ f. Err (stopped_at (q f) path first_spot FileAbsent)) (λ f. refl)

      by_path : (o : Option (List ℕ)) →
          RunEnds ((or_fault p name first_spot BadPath o >>= λ path. or_fault p path first_spot FileAbsent (file_at files path) >>= λ bytes. Ok (path, bytes)) >>= g) (λ f. (or_fault (q f) name first_spot BadPath o >>= λ path. or_fault (q f) path first_spot FileAbsent (file_at files path) >>= λ bytes. Ok (path, bytes)) >>= h f)
      by_path (Some path) = by_bytes path (file_at files path)
      by_path None = refused AreSingle one (stopped_at p name first_spot BadPath) (λ f. Err (stopped_at (q f) name first_spot BadPath)) (λ f. refl)

  signature_ends : (name : List ℕ) (p : Progress) (s : FaultName → List Seen) → AreSingle p → RunEnds (run_signature files name p) (λ f. run_signature files name (one f (s f) p))
  unfolding run_signature
  signature_ends name p s h =
      file_after p (λ f. one f (s f) p) name (λ file. run_file files (included_runner files include_limit) false file.0 origin.Signature file.1 (with_opened p file.0))
      (λ f file. run_file files (included_runner files include_limit) false file.0 origin.Signature file.1 (with_opened (one f (s f) p) file.0))
      (λ file. file_ends (included_runner files include_limit) (included_end include_limit) false file.0 origin.Signature file.1 (with_opened p file.0) s h)

  proof_ends : (name : List ℕ) (p : Progress) (s : FaultName → List Seen) → AreSingle p → RunEnds (run_proof files name p) (λ f. run_proof files name (one f (s f) p))
  unfolding run_proof
  proof_ends name p s h =
      file_after p (λ f. one f (s f) p) name (λ file. run_file files (included_runner files include_limit) true file.0 origin.Proof file.1 p)
      (λ f file. run_file files (included_runner files include_limit) true file.0 origin.Proof file.1 (one f (s f) p))
      (λ file. file_ends (included_runner files include_limit) (included_end include_limit) true file.0 origin.Proof file.1 p s h)

  job_reference_ends : (name : List ℕ) (p : Progress) (s : FaultName → List Seen) → AreSingle p → RunEnds (run_job_reference files name p) (λ f. run_job_reference files name (one f (s f) p))
  unfolding run_job_reference
  job_reference_ends name p s h =
      onward IsPlain one_state AreSingle one (placed p (shown name) first_spot (begin_reference p.state)) (λ f. placed (one f (s f) p) (shown name) first_spot (begin_reference (by (One f) p.state)))
      (λ st. job_file files p name >>= λ file. run_reference file.0 file.1 (record (with_opened p file.0) { state = st }))
      (λ f st. job_file files (one f (s f) p) name >>= λ file. run_reference file.0 file.1 (record (with_opened (one f (s f) p) file.0) { state = st }))
      (at_place IsPlain one_state p (λ f. one f (s f) p) (shown name) first_spot (begin_reference p.state) (λ f. begin_reference (by (One f) p.state)) (begun p.state h))
      (λ st t k. file_after p (λ f. one f (s f) p) name (λ file. run_reference file.0 file.1 (record (with_opened p file.0) { state = st })) (λ f file. run_reference file.0 file.1 (record (with_opened (one f (s f) p) file.0) { state = by (One f) st }))
      (λ file. reference_ends file.0 file.1 (record (with_opened p file.0) { state = st }) s k))

  given_ends : (run : List ℕ → Progress → Ran) → ((name : List ℕ) (p : Progress) (s : FaultName → List Seen) → AreSingle p → RunEnds (run name p) (λ f. run name (one f (s f) p))) →
      (given : Option (List ℕ)) (p : Progress) (s : FaultName → List Seen) → AreSingle p → RunEnds (if_given run given p) (λ f. if_given run given (one f (s f) p))
  given_ends run runs None p s h = goes AreSingle one p s h
  given_ends run runs (Some name) p s h = runs name p s h

  run_ends : (job : CheckJob) (p : Progress) (s : FaultName → List Seen) → AreSingle p → RunEnds (run_from files job p) (λ f. run_from files job (one f (s f) p))
  run_ends job p s h =
      onward AreSingle one AreSingle one (if_given (run_signature files) job.include p >>= λ q. if_given (run_job_reference files) job.reference q)
      (λ f. if_given (run_signature files) job.include (one f (s f) p) >>= λ q. if_given (run_job_reference files) job.reference q)
      (run_proof files job.proof) (λ f. run_proof files job.proof)
      (onward AreSingle one AreSingle one (if_given (run_signature files) job.include p) (λ f. if_given (run_signature files) job.include (one f (s f) p))
      (if_given (run_job_reference files) job.reference) (λ f. if_given (run_job_reference files) job.reference)
      (given_ends (run_signature files) signature_ends job.include p s h) (λ q t k. given_ends (run_job_reference files) job_reference_ends job.reference q t k))
      (λ q t k. proof_ends job.proof q t k)

  -- ---- verdicts

  first_plain : (closed : Bool) → IsPlain (first_state closed)
  unfolding first_state
  first_plain closed = record { single = first_single; naming = refl }

  refused_check : (proof : List ℕ) (r : Refusal) (c : Ran) → IsAt r c → checked files proof c ≡ Refused r
  refused_check proof r (Ok p) h = absurd h
  refused_check proof r (Err stopped) h = ap Refused h

  verdicts : (proof : List ℕ) (m : Ran) (n : FaultName → Ran) → RunEnds m n → IsSameOrAnother (λ f. checked files proof (n f)) (checked files proof m)
  unfolding end_fault
  verdicts proof m n (inr k) = inr (k.0, k.1, λ f. refused_check proof (refusal_at k.0 k.1 f) (n f) (k.2 f))
  verdicts proof (Ok p) n (inl k) = inl (λ f. ap (checked files proof) (alike_ok AreSingle one f p (n f) (k f)).2)
  verdicts proof (Err q) n (inl k) = inl (λ f. refused_check proof q.refusal (n f) (alike_err AreSingle one f q (n f) (k f)))

  pub keeps_verdict : (job : CheckJob) → KeepsVerdict files job
  unfolding verdict verdict_by run_check run_check_after before_proof_after run_prelude ◌>>=◌
  keeps_verdict job =
      verdicts job.proof (run_from files job (first_progress job)) (λ f. run_from files job (one f [] (first_progress job))) (run_ends job (first_progress job) (λ f. []) (first_plain job.closed))

  refused_load : (r : Refusal) (c : Ran) → IsAt r c → loaded c ≡ Refused r
  refused_load r (Ok p) h = absurd h
  refused_load r (Err stopped) h = ap Refused h

  loads : (m : Ran) (n : FaultName → Ran) → RunEnds m n → IsSameOrAnother (λ f. loaded (n f)) (loaded m)
  loads m n (inr k) = inr (k.0, k.1, λ f. refused_load (refusal_at k.0 k.1 f) (n f) (k.2 f))
  loads (Ok p) n (inl k) = inl (λ f. ap loaded (alike_ok AreSingle one f p (n f) (k f)).2)
  loads (Err q) n (inl k) = inl (λ f. refused_load q.refusal (n f) (alike_err AreSingle one f q (n f) (k f)))

  pub keeps_load : (name : List ℕ) → KeepsLoad files name
  unfolding load_verdict load_verdict_by run_load
  keeps_load name =
      loads (run_signature files name (first_load name)) (λ f. run_signature files name (one f [] (first_load name))) (signature_ends name (first_load name) (λ f. []) (first_plain false))
