-- The run of the proof, beside that of its needed commands.
use Rattle.std.specs.Prelude.{◌≡◌, ℕ, Bool, true, false, if◌then◌else◌, List, [], ◌∷◌, ◌++◌, Option, Ok, refl, bytes_eq}
use Rattle.std.specs.List.{list_any}
use Rattle.std.proofs.Common.{sym, ap, subst, ◌∙◌, append_assoc, append-nil}
use Rattle.std.proofs.lemmas.Slice.Eq.{bytes_eq-Decides}
use Rattle.eo_io.specs.Library.{Files}
use Rattle.eo_sexp.specs.Texts.{Placed, Reads, Then, Ends, Fails}
use Rattle.eo_session.specs.State.{State}
use Rattle.eo_session.specs.Commands.{step}
use Rattle.eo_session.specs.Origin as origin
use Rattle.eo_session.specs.declared.Next.{Next}
use Rattle.eo_session.specs.declared.Next.TheVariants as next
use Rattle.eo_run.specs.Seen.{Seen}
use Rattle.eo_run.specs.Run.{Progress, Ran, placed, is_exit, run_commands, Runner, seen_next, with_command, open_file}
use Rattle.eo_trim.specs.Needed.{IsNeeded, trimmed}
use Rattle.eo_trim.proofs.Running.{ran_injective, ran_not, ran_bind, ran_step, placed_ok, ok_placed, Comes, Related, related_now, taken_here, passed_here, Simulated, SimOption, SimOpener, exit_comes, commands_come, open_sim, trimmed-append}

-- each of the commands of a file
abbrev pub AllRead : (Placed → Type 0) → Reads → Type 0
AllRead Q (Then c others) = Q c × AllRead Q others
AllRead Q (Ends at) = Unit {0}
AllRead Q (Fails name at) = Unit {0}

-- a command that is accepted somewhere in a proof
abbrev pub Accepted : Placed → Type 0
Accepted c = (st : State) × (r : State × Next) × (step st origin.Proof c.sexp ≡ Ok r)

abbrev pub EachPlaced : (Placed → Type 0) → List Placed → Type 0
EachPlaced Q [] = Unit {0}
EachPlaced Q (c ∷ cs) = Q c × Accepted c × EachPlaced Q cs

-- a file that has just these commands, wherever they are
abbrev pub Lists : Reads → List Placed → Type 0
Lists (Ends at) [] = Unit {0}
Lists (Then c others) (d ∷ ds) = (c.sexp ≡ d.sexp) × Lists others ds
Lists reads ds = ⊥

-- the bytes of commands, each followed by a line feed
abbrev pub joined : List Placed → List ℕ
joined [] = []
joined (c ∷ cs) = c.bytes ++ 10 ∷ joined cs

abbrev pub IsThen : Reads → Placed → List Placed → Type 0
IsThen reads c cs = (d : Placed) × (others : Reads) × (reads ≡ Then d others) × (d.sexp ≡ c.sexp) × Lists others cs

then_of : (reads : Reads) (c : Placed) (cs : List Placed) → Lists reads (c ∷ cs) → IsThen reads c cs
then_of (Then d others) c cs h = (d, others, refl, h.0, h.1)
then_of (Ends at) c cs h = absurd h
then_of (Fails name at) c cs h = absurd h

module _ (files : Files) (proof text : List ℕ) (final : Progress) (N : ℕ → Bool) (holds : IsNeeded proof final N)
    (alone : list_any (bytes_eq proof) final.opened ≡ false) (Q : Placed → Type 0) where
  abbrev pub Rel : Progress → Progress → Type 0
  Rel p k = Related files proof text final N holds alone p k

  abbrev pub Come : Progress → Type 0
  Come p = Comes files proof text final N holds alone p

  abbrev pub files_then : Files
  files_then = (proof, text) ∷ files

  -- what a run of the proof from p to q adds, and the needed commands of it
  pub record Picked (p q : Progress) (run : Reads → Progress → Ran) : Type 0 where
    pub picks : List Placed
    pub good : EachPlaced Q picks
    pub segment : List Seen
    pub seen : q.seen ≡ p.seen ++ segment
    pub text_is : trimmed proof N segment ≡ joined picks
    pub runs : (k : Progress) → Rel p k → (reads : Reads) → Lists reads picks → (m : Progress) × (run reads k ≡ Ok m) × Rel q m

  none_picked : (p q : Progress) (run : Reads → Progress → Ran) → ◌≡◌ {A = Ran} (Ok p) (Ok q) → ((k : Progress) (reads : Reads) → Lists reads [] → run reads k ≡ Ok k) → Picked p q run
  none_picked p q run e h =
      subst (λ (x : Progress). Picked p x run) (ran_injective p q e)
      (record { picks = []; good = tt; segment = []; seen = sym (append-nil p.seen); text_is = refl; runs = λ k rel reads l. (k, h k reads l, rel) })

  exit_picked : (b : Bool) (run : Progress → Ran) (also : Reads → Progress → Ran) (p q : Progress) → (run p ≡ Ok q → Picked p q also) → (if b then Ok p else run p) ≡ Ok q → Picked p q (λ reads x. if b then Ok x else also reads x)
  exit_picked true run also p q h e = none_picked p q (λ reads x. Ok x) e (λ k reads l. refl)
  exit_picked false run also p q h e = h e

  proof_same : bytes_eq proof proof ≡ true
  proof_same = (bytes_eq-Decides proof proof).1 refl

  -- the text of a command that is needed, and of one that is not
  text_more : (c : Seen) (cs : List Seen) → c.file ≡ proof → N c.number ≡ true → trimmed proof N (c ∷ cs) ≡ c.bytes ++ 10 ∷ trimmed proof N cs
  text_more c cs e n =
      ap (λ b. if b then (if N c.number then c.bytes ++ 10 ∷ trimmed proof N cs else trimmed proof N cs) else trimmed proof N cs) (ap (λ x. bytes_eq x proof) e ∙ proof_same)
      ∙ ap (λ b. if b then c.bytes ++ 10 ∷ trimmed proof N cs else trimmed proof N cs) n

  text_less : (c : Seen) (cs : List Seen) → c.file ≡ proof → N c.number ≡ false → trimmed proof N (c ∷ cs) ≡ trimmed proof N cs
  text_less c cs e n =
      ap (λ b. if b then (if N c.number then c.bytes ++ 10 ∷ trimmed proof N cs else trimmed proof N cs) else trimmed proof N cs) (ap (λ x. bytes_eq x proof) e ∙ proof_same)
      ∙ ap (λ b. if b then c.bytes ++ 10 ∷ trimmed proof N cs else trimmed proof N cs) n

  module _ (deeper also : Option Runner) (sim : SimOption files proof text final N holds alone deeper also) where
    abbrev opens : SimOpener files proof text final N holds alone (open_file files deeper) (open_file files_then also)
    opens = open_sim files proof text final N holds alone deeper also sim

    abbrev pub then_run : Reads → Progress → Ran
    then_run reads x = run_commands (open_file files_then also) proof origin.Proof reads x

    first_none : (k : Progress) (reads : Reads) → Lists reads [] → then_run reads k ≡ Ok k
    unfolding run_commands
    first_none k (Ends at) l = refl
    first_none k (Then c others) l = absurd l
    first_none k (Fails name at) l = absurd l

    then_step : (k next m q : Progress) (what : Next) (c d : Placed) (others : Reads) (state : State) → step k.state origin.Proof c.sexp ≡ Ok (state, what) → d.sexp ≡ c.sexp →
        open_file files_then also proof origin.Proof d.start what (with_command k (seen_next k proof origin.Proof d) state) ≡ Ok m → (if is_exit what then Ok m else then_run others m) ≡ Ok q → then_run (Then d others) k ≡ Ok q
    unfolding run_commands
    then_step k next m q what c d others state e same f g =
        ran_step _ _ (state, what) (ok_placed k proof d.start (step k.state origin.Proof d.sexp) (state, what) (ap (step k.state origin.Proof) same ∙ e)) ∙ ran_step _ _ m f ∙ g

    module _ (c : Placed) (others : Reads) (p q : Progress) (r : State × Next) (m : Progress) (is : step p.state origin.Proof c.sexp ≡ Ok r)
        (opened : open_file files deeper proof origin.Proof c.start r.1 (with_command p (seen_next p proof origin.Proof c) r.0) ≡ Ok m) (comes_m : Come m) where
      abbrev now : Progress
      now = with_command p (seen_next p proof origin.Proof c) r.0

      mid : (there : Placed) → Simulated files proof text final N holds alone (with_command p (seen_next p proof origin.Proof c) r.0) m (open_file files_then also proof origin.Proof there.start r.1)
      mid there = opens proof origin.Proof c.start there.start r.1 (with_command p (seen_next p proof origin.Proof c) r.0) m opened comes_m

      comes_now : Come (with_command p (seen_next p proof origin.Proof c) r.0)
      comes_now = (mid c).comes

      -- the run of the needed commands after this one, read at another place
      goes_on : (k : Progress) → Rel p k → N p.state.commands ≡ true → (d : Placed) →
          (state : State) × (step k.state origin.Proof c.sexp ≡ Ok (state, r.1)) × (next : Progress) × (open_file files_then also proof origin.Proof d.start r.1 (with_command k (seen_next k proof origin.Proof d) state) ≡ Ok next) × Rel m next
      goes_on k rel need d =
          let taken = taken_here files proof text final N holds alone p k proof origin.Proof c r rel is comes_now need in
          let next : Progress = with_command k (seen_next k proof origin.Proof d) taken.0 in
          let goes = (mid d).goes next (related_now files proof text final N holds alone p k proof origin.Proof c r rel is comes_now next refl taken.2) in
          (taken.0, taken.1, goes.0, goes.1, goes.2)

      then_taken : Q c → N p.state.commands ≡ true → Picked m q (λ reads x. if is_exit r.1 then Ok x else then_run reads x) → Picked p q then_run
      then_taken good need rest = record {
        picks = c ∷ rest.picks;
        good = (good, (p.state, r, is), rest.good);
        segment = seen_next p proof origin.Proof c ∷ ((mid c).extends.segment ++ rest.segment);
        seen = rest.seen ∙ ap (λ cs. cs ++ rest.segment) (mid c).extends.seen ∙ append_assoc (p.seen ++ seen_next p proof origin.Proof c ∷ []) (mid c).extends.segment rest.segment
            ∙ append_assoc p.seen (seen_next p proof origin.Proof c ∷ []) ((mid c).extends.segment ++ rest.segment);
        text_is = text_more (seen_next p proof origin.Proof c) ((mid c).extends.segment ++ rest.segment) refl need
            ∙ ap (λ bs. c.bytes ++ 10 ∷ bs) (trimmed-append files proof text final N holds alone (mid c).extends.segment rest.segment ∙ ap (λ bs. bs ++ trimmed proof N rest.segment) (mid c).extends.others ∙ rest.text_is);
        runs = λ k rel reads l.
            let t = then_of reads c rest.picks l in
            let b = goes_on k rel need t.0 in
            let s = rest.runs b.2 b.4 t.1 t.4 in
            (s.0, ap (λ x. then_run x k) t.2 ∙ then_step k k b.2 s.0 r.1 c t.0 t.1 b.0 b.1 t.3 b.3 s.1, s.2);
      }

      done_opens : r.1 ≡ next.Done → m ≡ with_command p (seen_next p proof origin.Proof c) r.0
      unfolding open_file
      done_opens e = sym (ran_injective _ m (sym (ap (λ what. open_file files deeper proof origin.Proof c.start what (with_command p (seen_next p proof origin.Proof c) r.0)) e) ∙ opened))

      then_passed : N p.state.commands ≡ false → r.1 ≡ next.Done → Picked m q (λ reads x. if is_exit r.1 then Ok x else then_run reads x) → Picked p q then_run
      then_passed not_needed done rest = record {
        picks = rest.picks;
        good = rest.good;
        segment = seen_next p proof origin.Proof c ∷ rest.segment;
        seen = rest.seen ∙ ap (λ (x : Progress). x.seen ++ rest.segment) (done_opens done) ∙ append_assoc p.seen (seen_next p proof origin.Proof c ∷ []) rest.segment;
        text_is = text_less (seen_next p proof origin.Proof c) rest.segment refl not_needed ∙ rest.text_is;
        runs = λ k rel reads l.
            let passed = passed_here files proof text final N holds alone p k proof origin.Proof c r rel is comes_now not_needed in
            let s = rest.runs k (subst (λ (x : Progress). Rel x k) (sym (done_opens done)) (related_now files proof text final N holds alone p k proof origin.Proof c r rel is comes_now k refl passed.0)) reads l in
            (s.0, sym (ap (λ what. if is_exit what then Ok k else then_run reads k) done) ∙ s.1, s.2);
      }

      then_either : Q c → (k : Progress) → Rel p k → ((k' : Progress) → Rel m k' → Picked m q (λ reads x. if is_exit r.1 then Ok x else then_run reads x)) → Picked p q then_run
      then_either good k rel rest = go (N p.state.commands) refl
        where
          go : (b : Bool) → N p.state.commands ≡ b → Picked p q then_run
          go true e = let b = goes_on k rel e c in then_taken good e (rest b.2 b.4)
          go false e =
              let passed = passed_here files proof text final N holds alone p k proof origin.Proof c r rel is comes_now e in
              then_passed e passed.1
              (rest k (subst (λ (x : Progress). Rel x k) (sym (done_opens passed.1)) (related_now files proof text final N holds alone p k proof origin.Proof c r rel is comes_now k refl passed.0)))

    pub proof_picked : (reads : Reads) → AllRead Q reads → (p q k : Progress) → run_commands (open_file files deeper) proof origin.Proof reads p ≡ Ok q → Come q → Rel p k → Picked p q then_run
    unfolding run_commands
    proof_picked (Ends at) all p q k e comes rel = none_picked p q then_run e first_none
    proof_picked (Fails name at) all p q k e comes rel = ran_not _ q e
    proof_picked (Then c others) all p q k e comes rel =
        let r = ran_bind (placed p proof c.start (step p.state origin.Proof c.sexp)) _ q e in
        let is = placed_ok p proof c.start (step p.state origin.Proof c.sexp) r.0 r.1 in
        let now : Progress = with_command p (seen_next p proof origin.Proof c) r.0.0 in
        let m = ran_bind (open_file files deeper proof origin.Proof c.start r.0.1 now) _ q r.2 in
        let comes_m : Come m.0 = exit_comes files proof text final N holds alone (is_exit r.0.1) (run_commands (open_file files deeper) proof origin.Proof others) m.0 q
        (λ f. commands_come files proof text final N holds alone (open_file files deeper) (open_file files_then also) opens proof origin.Proof others m.0 q f comes) m.2 comes in
        then_either c others p q r.0 m.0 is m.1 comes_m all.0 k rel
        (λ k' rel'. exit_picked (is_exit r.0.1) (run_commands (open_file files deeper) proof origin.Proof others) then_run m.0 q (λ f. proof_picked others all.1 m.0 q k' f comes rel') m.2)
