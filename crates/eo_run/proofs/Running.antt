-- Runs of the commands of a file, from one state to the next.
use Rattle.std.proofs.Common.{◌≡◌, refl, ℕ, Bool, true, false, List, [], ◌∷◌, ◌++◌, ap, sym, subst, ◌∙◌}
use Rattle.std.specs.Prelude.{Ok, Err, if◌then◌else◌}
use Rattle.eo_base.specs.declared.FaultName.{FaultName}
use Rattle.eo_sexp.specs.Spot.{Spot}
use Rattle.eo_sexp.specs.Texts.{Reads, Then, Placed}
use Rattle.eo_sexp.specs.Texts as texts
use Rattle.eo_sexp.specs.Answering.{end_of}
use Rattle.eo_session.specs.State.{State}
use Rattle.eo_session.specs.Commands.{step}
use Rattle.eo_session.specs.Notes as notes
use Rattle.eo_run.specs.Run.{Progress, Stopped, Ran, Opener, ◌>>=◌, placed, stopped_at, is_exit, run_commands, seen_next, with_command}
use Rattle.eo_run.specs.Reading.{Continuation, Leads, Asks, Finishes, Fails, IsOpener, in_state, LeadsOn, AsksFor, FailsAt}
use Rattle.eo_run.specs.Watching.{note_next, passed}
use Rattle.eo_run.proofs.Watched.{passed-on, passed-none}
use Rattle.eo_session.specs.Origin.{Origin}
use Rattle.eo_session.specs.declared.Next.{Next}
use Rattle.eo_session.specs.declared.Next.TheVariants as next
use Rattle.eo_run.proofs.Leaving.{step_leaves}

-- ---- one command more

module _ (opener : Opener) (path : List ℕ) (from : Origin) where
  abbrev pub run : Reads → Progress → Ran
  run r p = run_commands opener path from r p

  abbrev accepted : Placed → Progress → State → Progress
  accepted k p new = with_command p (seen_next p path from k) new

  abbrev behind_command : Placed → Reads → Progress → State × Next → Ran
  behind_command k others p r = opener path from k.start r.1 (accepted k p r.0) >>= λ q. if is_exit r.1 then Ok q else run others q

  -- a command that is accepted
  pub run-asks : (k : Placed) (others : Reads) (p : Progress) (new : State) (what : Next) → step p.state from k.sexp ≡ Ok (new, what) →
      run (Then k others) p ≡ (opener path from k.start what (accepted k p new) >>= λ q. if is_exit what then Ok q else run others q)
  unfolding run_commands placed ◌>>=◌
  run-asks k others p new what e = ap (λ m. placed p path k.start m >>= behind_command k others p) e

  -- and asks for nothing
  pub run-then : IsOpener opener → (k : Placed) (others : Reads) (p : Progress) (new : State) → step p.state from k.sexp ≡ Ok (new, next.Done) → run (Then k others) p ≡ run others (accepted k p new)
  unfolding ◌>>=◌
  run-then is k others p new e = run-asks k others p new next.Done e ∙ ap (λ m. m >>= run others) (is path from k.start (accepted k p new))

  -- a command that is refused
  pub run-refused : (k : Placed) (others : Reads) (p : Progress) (name : FaultName) → step p.state from k.sexp ≡ Err name → run (Then k others) p ≡ Err (stopped_at p path k.start name)
  unfolding run_commands placed ◌>>=◌
  run-refused k others p name e = ap (λ m. placed p path k.start m >>= behind_command k others p) e

-- ---- runs that lead on

module _ (opener : Opener) (path : List ℕ) (from : Origin) where
  pub leads-refl : (p : Progress) (r : Continuation) → Leads opener path from p p r r
  leads-refl p r = record { runs = λ closes more. refl; ends = λ closes more. refl }

  pub leads-trans : (a b c : Progress) (r s t : Continuation) → Leads opener path from a b r s → Leads opener path from b c s t → Leads opener path from a c r t
  leads-trans a b c r s t p q = record { runs = λ closes more. p.runs closes more ∙ q.runs closes more; ends = λ closes more. p.ends closes more ∙ q.ends closes more }

  pub leads-finishes : (a b c : Progress) (r s : Continuation) → Leads opener path from a b r s → Finishes opener path from b c s → Finishes opener path from a c r
  leads-finishes a b c r s p q = record { runs = λ closes more. p.runs closes more ∙ q.runs closes more }

  pub leads-fails : (a b : Progress) (r s : Continuation) (stopped : Stopped) → Leads opener path from a b r s → Fails opener path from b s stopped → Fails opener path from a r stopped
  leads-fails a b r s stopped p q = record { fails = λ closes more. p.runs closes more ∙ q.fails closes more }

  pub leads-asks : (a b c : Progress) (r s t : Continuation) (what : Next) (at : Spot) → Leads opener path from a b r s → Asks opener path from b c s t what at → Asks opener path from a c r t what at
  leads-asks a b c r s t what at p q = record { runs = λ closes more. p.runs closes more ∙ q.runs closes more; ends = λ closes more. p.ends closes more ∙ q.ends closes more; leaves = q.leaves }

  module _ (a b : Progress) (r s : Continuation) (what : Next) (at : Spot) (p : Asks opener path from a b r s what at) where
    abbrev onward : (closes : Bool) (more : List ℕ) → Ran → Ran
    onward closes more m = m >>= λ q. if is_exit what then Ok q else run_commands opener path from (s closes more) q

    module _ (c : Progress) (e : opener path from at what b ≡ Ok c) where
      done : (closes : Bool) (more : List ℕ) → run_commands opener path from (r closes more) a ≡ (if is_exit what then Ok c else run_commands opener path from (s closes more) c)
      unfolding ◌>>=◌
      done closes more = p.runs closes more ∙ ap (onward closes more) e

      -- what is asked for is done
      pub asks-leads : is_exit what ≡ false → Leads opener path from a c r s
      asks-leads h = record { runs = λ closes more. done closes more ∙ ap (λ x. if x then Ok c else run_commands opener path from (s closes more) c) h; ends = p.ends }

      -- and the file ends
      pub asks-finishes : is_exit what ≡ true → Finishes opener path from a c r
      asks-finishes h = record { runs = λ closes more. done closes more ∙ ap (λ x. if x then Ok c else run_commands opener path from (s closes more) c) h }

    -- what is asked for is refused
    pub asks-fails : (stopped : Stopped) → opener path from at what b ≡ Err stopped → Fails opener path from a r stopped
    unfolding ◌>>=◌
    asks-fails stopped e = record { fails = λ closes more. p.runs closes more ∙ ap (onward closes more) e }

  -- what is read is the same
  pub leads-same : (p : Progress) (r s : Continuation) → ((closes : Bool) (more : List ℕ) → r closes more ≡ s closes more) → Leads opener path from p p r s
  leads-same p r s e = record { runs = λ closes more. ap (λ x. run_commands opener path from x p) (e closes more); ends = λ closes more. ap end_of (e closes more) }

  pub fails-fault : (p : Progress) (r : Continuation) (name : FaultName) (at : Spot) → ((closes : Bool) (more : List ℕ) → r closes more ≡ texts.Fails name at) → Fails opener path from p r (stopped_at p path at name)
  unfolding run_commands
  fails-fault p r name at e = record { fails = λ closes more. ap (λ x. run_commands opener path from x p) (e closes more) }

-- ---- whatever files a command may open

module _ (from : Origin) where
  pub on-trans : (a b c : State) (r s t : Continuation) (ms ns : List notes.Seen) → LeadsOn from a r ms b s → LeadsOn from b s ns c t → LeadsOn from a r (ms ++ ns) c t
  on-trans a b c r s t ms ns p q = λ opener is path w.
      let mid = passed w path b ms in
      subst (λ (x : Progress). Leads opener path from (in_state w a) x r t) (passed-on w path b c ms ns)
      (leads-trans opener path from (in_state w a) mid (passed mid path c ns) r s t (p opener is path w) (q opener is path mid))

  pub on-asks : (a b c : State) (r s t : Continuation) (ms ns : List notes.Seen) (what : Next) (at : Spot) → LeadsOn from a r ms b s → AsksFor from b s ns c t what at → AsksFor from a r (ms ++ ns) c t what at
  on-asks a b c r s t ms ns what at p q = λ opener is path w.
      let mid = passed w path b ms in
      subst (λ (x : Progress). Asks opener path from (in_state w a) x r t what at) (passed-on w path b c ms ns)
      (leads-asks opener path from (in_state w a) mid (passed mid path c ns) r s t what at (p opener is path w) (q opener is path mid))

  pub on-fails : (a b : State) (r s : Continuation) (ms ns : List notes.Seen) (name : FaultName) (at : Spot) → LeadsOn from a r ms b s → FailsAt from b s ns name at → FailsAt from a r (ms ++ ns) name at
  on-fails a b r s ms ns name at p q = λ opener is path w.
      let mid = passed w path b ms in
      subst (λ (x : Progress). Fails opener path from (in_state w a) r (stopped_at x path at name)) (passed-on w path b a ms ns)
      (leads-fails opener path from (in_state w a) mid r s (stopped_at (passed mid path a ns) path at name) (p opener is path w) (q opener is path mid))

  pub on-same : (st : State) (r s : Continuation) → ((closes : Bool) (more : List ℕ) → r closes more ≡ s closes more) → LeadsOn from st r [] st s
  on-same st r s e = λ opener is path w.
      subst (λ (x : Progress). Leads opener path from (in_state w st) x r s) (sym (passed-none w path st)) (leads-same opener path from (in_state w st) r s e)

  -- a command comes first
  module _ (old : State) (r s : Continuation) (k : Placed) (file : ℕ) (e : (closes : Bool) (more : List ℕ) → r closes more ≡ Then k (s closes more)) where
    pub on-command : (new : State) → step old from k.sexp ≡ Ok (new, next.Done) → LeadsOn from old r (note_next old from file k ∷ []) new s
    on-command new h = λ opener is path w. record {
      runs = λ closes more. ap (λ x. run_commands opener path from x (in_state w old)) (e closes more) ∙ run-then opener path from is k (s closes more) (in_state w old) new h;
      ends = λ closes more. ap end_of (e closes more);
    }

    pub command-asks : (new : State) (what : Next) → step old from k.sexp ≡ Ok (new, what) → AsksFor from old r (note_next old from file k ∷ []) new s what k.start
    command-asks new what h = λ opener is path w. record {
      runs = λ closes more. ap (λ x. run_commands opener path from x (in_state w old)) (e closes more) ∙ run-asks opener path from k (s closes more) (in_state w old) new what h;
      ends = λ closes more. ap end_of (e closes more);
      leaves = step_leaves old from k.sexp new what h;
    }

    pub command-fails : (name : FaultName) → step old from k.sexp ≡ Err name → FailsAt from old r [] name k.start
    command-fails name h = λ opener is path w.
        subst (λ (x : Progress). Fails opener path from (in_state w old) r (stopped_at x path k.start name)) (sym (passed-none w path old)) (record {
          fails = λ closes more. ap (λ x. run_commands opener path from x (in_state w old)) (e closes more) ∙ run-refused opener path from k (s closes more) (in_state w old) name h;
        })

  pub on-fault : (old : State) (r : Continuation) (name : FaultName) (at : Spot) → ((closes : Bool) (more : List ℕ) → r closes more ≡ texts.Fails name at) → FailsAt from old r [] name at
  on-fault old r name at e = λ opener is path w.
      subst (λ (x : Progress). Fails opener path from (in_state w old) r (stopped_at x path at name)) (sym (passed-none w path old)) (fails-fault opener path from (in_state w old) r name at e)
