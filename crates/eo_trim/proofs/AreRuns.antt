-- What is seen of a correct run whose proof is not shared: numbers in order, premises that are live, scopes that are closed, and commands in scopes of their own files.
use Rattle.std.specs.Prelude.{◌≡◌, ◌≢◌, ℕ, zero, suc, ◌+◌, ◌-◌, ◌^◌, ◌<◌, ◌≤◌, Bool, true, false, not, ◌||◌, cond, min, if◌then◌else◌, List, [], ◌∷◌, ◌++◌, drop, length, map, find, Option, Some, None, option_map, unwrap_or, option_to_list, slice_get, Ok, Err, refl, nat_eq, bytes_eq}
use Rattle.std.specs.List.{list_any}
use Rattle.std.proofs.Common.{sym, ap, subst, ◌∙◌, true≢false, arith, append_assoc, append-nil, length-append}
use Rattle.std.proofs.lemmas.Bool.{ne_eqb}
use Rattle.std.proofs.lemmas.Option.{none-some, same_Some}
use Rattle.std.proofs.lemmas.Slice.Eq.{bytes_eq-Decides}
use Rattle.eo_base.proofs.ChecksLemmas.{ok_injective, err_is_not_ok, bind_ok, value_or_ok}
use Rattle.eo_base.specs.Checks.{value_or}
use Rattle.eo_base.specs.declared.FaultName.TheVariants.{SecondReference, BadPath, IncludeDepth, FileAbsent, UnknownPremise, UnknownRule}
use Rattle.eo_io.specs.Library.{Files, file_at}
use Rattle.eo_io.specs.Paths.{fold_path}
use Rattle.eo_sexp.specs.Sexp.{Sexp}
use Rattle.eo_sexp.specs.Spot.{Spot}
use Rattle.eo_sexp.specs.Texts.{Placed, Reads, Then, Ends, Fails, first_spot}
use Rattle.eo_term.specs.Tree.{Tree, tree_eq, truth}
use Rattle.eo_sig.specs.Signature.{rule_named}
use Rattle.eo_proof.specs.Scopes.{Fact, Scope, Scopes, fact, live_facts, opened_facts, first_named, formula_named, fact_named, number_named, innermost_hypothesis, in_innermost, with_fact, with_scope, outside, first_false}
use Rattle.eo_shape.specs.Shapes.{Command, StepShape, Assume, AssumePush, Step, StepPop, Include, Refer, Exit}
use Rattle.eo_session.specs.State.{State, first_state, begin_reference, is_in_scope, with_command as counted}
use Rattle.eo_session.specs.Step.{premises, use_of, Concluded, concluded, concluded_by}
use Rattle.eo_session.specs.Commands.{may_be_in_scope, next_by, step}
use Rattle.eo_session.specs.Decisions.{decided}
use Rattle.eo_session.specs.Effects.{Effect, Nothing, after}
use Rattle.eo_session.specs.Notes.{Act, Declares, Defines, Asserts, Assumes, Opens, Derives, Closes, Other, numbers_of, act_of}
use Rattle.eo_session.specs.Origin.{Origin}
use Rattle.eo_session.specs.Origin as origin
use Rattle.eo_session.specs.declared.Next.{Next}
use Rattle.eo_session.specs.declared.Next.TheVariants as next
use Rattle.eo_run.specs.declared.CheckJob.{CheckJob}
use Rattle.eo_run.specs.Seen.{Seen, noted}
use Rattle.eo_run.specs.Run.{Progress, Ran, ◌>>=◌, placed, or_fault, shown, include_limit, with_opened, with_included, seen_next, with_command, Opener, Runner, is_exit, commands_of, run_commands, open_nothing, run_reference, include_file, refer_to_file, open_file, run_file, included_runner, job_file, run_signature, run_proof, run_job_reference, if_given, first_progress, run_prelude, before_proof, before_proof_after, run_check, run_check_after}
use Rattle.eo_trim.specs.Needed.{premises_of, is_proof_step}
use Rattle.eo_trim.specs.Needing.{OpenScope, is_elsewhere, opens_after}
use Rattle.eo_trim.proofs.Acts.{plain_effect, assume_is, push_is, step_is, pop_is, accepts}
use Rattle.eo_trim.proofs.Sound.{Every}
use Rattle.eo_trim.proofs.Complete.{EachScope, Clear, ClosedBelow, closed_with, closed_after, IsSome, IsOpen, IsElsewhere, IsRun, Stack, stack-next, below-next}
use Rattle.eo_trim.proofs.Shutting.{plain_grows, plain_level, commands_same}
use Rattle.eo_trim.proofs.Running.{alone-with, ran_bind, ran_injective, ran_not, placed_ok, fault_ok}

-- ---- facts by the numbers of their commands

-- each is of a command before b that is in no closed scope
abbrev EachFact : List (ℕ × ℕ) → ℕ → List Fact → Type 0
EachFact closed b [] = Unit {0}
EachFact closed b (f ∷ fs) = ((f.number < b) × Clear closed f.number) × EachFact closed b fs

each-up : (closed : List (ℕ × ℕ)) (b d : ℕ) (fs : List Fact) → b ≤ d → EachFact closed b fs → EachFact closed d fs
each-up closed b d [] l h = tt
each-up closed b d (f ∷ fs) l h = ((omega (arith, l, h.0.0), h.0.1), each-up closed b d fs l h.1)

each-append : (closed : List (ℕ × ℕ)) (b : ℕ) (fs gs : List Fact) → EachFact closed b fs → EachFact closed b gs → EachFact closed b (fs ++ gs)
each-append closed b [] gs h i = i
each-append closed b (f ∷ fs) gs h i = (h.0, each-append closed b fs gs h.1 i)

each-closed : (closed : List (ℕ × ℕ)) (b k q : ℕ) (fs : List Fact) → b ≤ k → EachFact closed b fs → EachFact ((k, q) ∷ closed) b fs
each-closed closed b k q [] l h = tt
each-closed closed b k q (f ∷ fs) l h = ((h.0.0, ((λ m. absurd (omega (arith, l, h.0.0, m))), h.0.1)), each-closed closed b k q fs l h.1)

each-named : (closed : List (ℕ × ℕ)) (b : ℕ) (fs : List Fact) (name : List ℕ) (t : Tree) → EachFact closed b fs → formula_named fs name ≡ Some t →
    (unwrap_or (option_map (λ (f : Fact). f.number) (first_named fs name)) 0 < b) × Clear closed (unwrap_or (option_map (λ (f : Fact). f.number) (first_named fs name)) 0)
each-named closed b [] name t h e = absurd (none-some t e)
each-named closed b (f ∷ fs) name t h e = by (bytes_eq f.name name) e (each-named closed b fs name t h.1)
  where
    Is : Option Fact → Type 0
    Is o = (unwrap_or (option_map (λ (f : Fact). f.number) o) 0 < b) × Clear closed (unwrap_or (option_map (λ (f : Fact). f.number) o) 0)

    by : (c : Bool) → option_map (λ (f : Fact). f.formula) (cond c (Some f) (first_named fs name)) ≡ Some t → (formula_named fs name ≡ Some t → (unwrap_or (option_map (λ (f : Fact). f.number) (first_named fs name)) 0 < b) × Clear closed (unwrap_or (option_map (λ (f : Fact). f.number) (first_named fs name)) 0)) →
        (unwrap_or (option_map (λ (f : Fact). f.number) (cond c (Some f) (first_named fs name))) 0 < b) × Clear closed (unwrap_or (option_map (λ (f : Fact). f.number) (cond c (Some f) (first_named fs name))) 0)
    by true g rest = h.0
    by false g rest = rest g

each-false : (closed : List (ℕ × ℕ)) (b : ℕ) (test : Fact → Bool) (fs : List Fact) → EachFact closed b fs → Every (Clear closed) (option_to_list (option_map (λ (f : Fact). f.number) (find test fs)))
each-false closed b test [] h = tt
each-false closed b test (f ∷ fs) h = by (test f) (each-false closed b test fs h.1)
  where
    by : (c : Bool) → Every (Clear closed) (option_to_list (option_map (λ (f : Fact). f.number) (find test fs))) → Every (Clear closed) (option_to_list (option_map (λ (f : Fact). f.number) (cond c (Some f) (find test fs))))
    by true rest = (h.0.1, tt)
    by false rest = rest

-- the same in scopes: those of a scope are of commands before the next inner scope
abbrev Hold : List Fact → List Scope → List OpenScope → List (ℕ × ℕ) → ℕ → Type 0
Hold out [] [] closed b = EachFact closed b out
Hold out (s ∷ ss) (o ∷ os) closed b = EachFact closed b s.facts × Hold out ss os closed o.number
Hold out ss os closed b = ⊥

hold-up : (out : List Fact) (ss : List Scope) (os : List OpenScope) (closed : List (ℕ × ℕ)) (b d : ℕ) → b ≤ d → Hold out ss os closed b → Hold out ss os closed d
hold-up out [] [] closed b d l h = each-up closed b d out l h
hold-up out (s ∷ ss) (o ∷ os) closed b d l h = (each-up closed b d s.facts l h.0, h.1)
hold-up out ss os closed b d l h = absurd h

hold-add : (out : List Fact) (ss : List Scope) (os : List OpenScope) (closed : List (ℕ × ℕ)) (p : ℕ) (f : Fact) → f.number ≡ p → Clear closed p → Hold out ss os closed p →
    Hold (in_innermost out ss f).outermost (in_innermost out ss f).opened os closed (suc p)
hold-add out [] [] closed p f e clear h =
    each-append closed (suc p) out (f ∷ []) (each-up closed p (suc p) out (omega arith) h) ((omega (arith, e), subst (Clear closed) (sym e) clear), tt)
hold-add out (s ∷ ss) (o ∷ os) closed p f e clear h =
    (each-append closed (suc p) s.facts (f ∷ []) (each-up closed p (suc p) s.facts (omega arith) h.0) ((omega (arith, e), subst (Clear closed) (sym e) clear), tt), h.1)
hold-add out ss os closed p f e clear h = absurd h

clear-here : (closed : List (ℕ × ℕ)) (p : ℕ) → ClosedBelow closed p → Clear closed p
clear-here [] p h = tt
clear-here (c ∷ cs) p h = ((λ l. omega (arith, h.0)), clear-here cs p h.1)

no-scopes : (out : List Fact) (ss : List Scope) (os : List OpenScope) (closed : List (ℕ × ℕ)) (b : ℕ) → Hold out ss os closed b → not (nat_eq (length ss) 0) ≡ false → os ≡ []
no-scopes out [] [] closed b h e = refl
no-scopes out (s ∷ ss) (o ∷ os) closed b h e = absurd (true≢false (sym (ap not (ne_eqb (suc (length ss)) 0 (λ e. omega arith))) ∙ e))
no-scopes out ss os closed b h e = absurd h

outermost-hold : (out : List Fact) (ss : List Scope) (os : List OpenScope) (closed : List (ℕ × ℕ)) (b : ℕ) → os ≡ [] → Hold out ss os closed b → EachFact closed b out
outermost-hold out [] [] closed b e h = h
outermost-hold out (s ∷ ss) (o ∷ os) closed b e h = cc e
outermost-hold out ss os closed b e h = absurd h

premises-hold : (P : ℕ → Type 0) (st : State) → ((name : List ℕ) (t : Tree) → fact_named st.scopes name ≡ Some t → P (unwrap_or (number_named st.scopes name) 0)) → (names : List (List ℕ)) (ts : List Tree) → premises st names ≡ Ok ts → Every P (numbers_of st names)
unfolding premises
premises-hold P st h [] ts e = tt
premises-hold P st h (name ∷ names) ts e =
    let t = bind_ok (value_or UnknownPremise (fact_named st.scopes name)) _ ts e in
    let rest = bind_ok (premises st names) _ ts t.2 in
    (h name t.0 (value_or_ok UnknownPremise (fact_named st.scopes name) t.0 t.1), premises-hold P st h names rest.0 rest.1)

concluded-premises : (st : State) (a : Option Tree) (s : StepShape) (k : Concluded) → concluded st a s ≡ Ok k → (ts : List Tree) × (premises st s.premises ≡ Ok ts)
unfolding concluded concluded_by use_of
concluded-premises st a s k e =
    let n = bind_ok (value_or UnknownRule (rule_named st.signature s.rule)) _ k e in
    let u = bind_ok (use_of st a s) _ k n.2 in
    let ps = bind_ok (premises st s.premises) _ u.0 u.1 in
    (ps.0, ps.1)

-- a file is opened after the command
abbrev Opening : Next → Type 0
Opening next.Done = ⊥
Opening (next.Include path) = Unit {0}
Opening (next.Reference path) = Unit {0}
Opening next.Exit = ⊥

module _ (proof : List ℕ) where
  hold-closed : (out : List Fact) (ss : List Scope) (os : List OpenScope) (closed : List (ℕ × ℕ)) (b k q : ℕ) → b ≤ k → Stack proof [] os closed b → Hold out ss os closed b → Hold out ss os ((k, q) ∷ closed) b
  hold-closed out [] [] closed b k q l s h = each-closed closed b k q out l h
  hold-closed out (s ∷ ss) (o ∷ os) closed b k q l st h =
      (each-closed closed b k q s.facts l h.0, hold-closed out ss os closed o.number k q (omega (arith, l, st.0)) st.3 h.1)
  hold-closed out ss os closed b k q l st h = absurd h

  live : (out : List Fact) (ss : List Scope) (os : List OpenScope) (closed : List (ℕ × ℕ)) (b p : ℕ) → b ≤ p → Stack proof [] os closed b → Hold out ss os closed b → EachFact closed p (out ++ opened_facts ss)
  live out [] [] closed b p l st h = each-append closed p out [] (each-up closed b p out l h) tt
  live out (s ∷ ss) (o ∷ os) closed b p l st h =
      subst (EachFact closed p) (append_assoc out (opened_facts ss) s.facts)
      (each-append closed p (out ++ opened_facts ss) s.facts (live out ss os closed o.number p (omega (arith, l, st.0)) st.3 h.1) (each-up closed b p s.facts l h.0))
  live out ss os closed b p l st h = absurd h

  pop-hold : (out : List Fact) (ss : List Scope) (os : List OpenScope) (closed : List (ℕ × ℕ)) (p q : ℕ) (f : Fact) (a : Tree) → f.number ≡ p → q ≡ p → ClosedBelow closed p → Stack proof [] os closed p → slice_get (map (λ (s : Scope). s.hypothesis) ss) 0 ≡ Some a →
      Hold out ss os closed p → IsSome os × Hold (in_innermost out (drop 1 ss) f).outermost (in_innermost out (drop 1 ss) f).opened (drop 1 os) (closed_with closed os q) (suc p)
  pop-hold out [] [] closed p q f a e n below st is h = absurd (none-some a is)
  pop-hold out (s ∷ ss) (o ∷ os) closed p q f a e n below st is h = (
    tt,
    hold-add out ss os ((o.number, q) ∷ closed) p f e ((λ l. omega (arith, n)), clear-here closed p below)
        (hold-up out ss os ((o.number, q) ∷ closed) o.number p (omega (arith, st.0)) (hold-closed out ss os closed o.number o.number q (omega arith) st.3 h.1)),
  )
  pop-hold out ss os closed p q f a e n below st is h = absurd h

  -- ---- a command

  -- what a command does to the facts and to the open scopes
  record Goes (st new : State) (act : Act) (os : List OpenScope) (closed : List (ℕ × ℕ)) (c : Seen) : Type 0 where
    premises : Every (λ (m : ℕ). (m < st.commands) × Clear closed m) (premises_of act)
    is_open : IsOpen os act
    hold : Hold new.scopes.outermost new.scopes.opened (opens_after proof os c act) (closed_after closed os c.number act) (suc st.commands)

  module _ (st : State) (os : List OpenScope) (closed : List (ℕ × ℕ)) (c : Seen) (number : c.number ≡ st.commands) (stack : Stack proof [] os closed st.commands) (below : ClosedBelow closed st.commands) (h : Hold st.scopes.outermost st.scopes.opened os closed st.commands) where
    plain-goes : (new : State) (act : Act) → is_proof_step act ≡ false → new.scopes ≡ st.scopes → Goes st new act os closed c
    plain-goes new act level same = by act level
      where
        up : Hold new.scopes.outermost new.scopes.opened os closed (suc st.commands)
        up = subst (λ (f : Scopes). Hold f.outermost f.opened os closed (suc st.commands)) (sym same) (hold-up st.scopes.outermost st.scopes.opened os closed st.commands (suc st.commands) (omega arith) h)

        by : (act : Act) → is_proof_step act ≡ false → Goes st new act os closed c
        by Declares e = record { premises = tt; is_open = tt; hold = up }
        by Defines e = record { premises = tt; is_open = tt; hold = up }
        by (Asserts t) e = record { premises = tt; is_open = tt; hold = up }
        by Other e = record { premises = tt; is_open = tt; hold = up }
        by (Assumes t) e = absurd (true≢false e)
        by (Opens t) e = absurd (true≢false e)
        by (Derives t) e = absurd (true≢false e)
        by (Closes t) e = absurd (true≢false e)

    added : (name : List ℕ) (t : Tree) → Hold (in_innermost st.scopes.outermost st.scopes.opened (fact name t st.commands)).outermost (in_innermost st.scopes.outermost st.scopes.opened (fact name t st.commands)).opened os closed (suc st.commands)
    added name t = hold-add st.scopes.outermost st.scopes.opened os closed st.commands (fact name t st.commands) refl (clear-here closed st.commands below) h

    numbers_hold : (names : List (List ℕ)) (ts : List Tree) → premises st names ≡ Ok ts → Every (λ (m : ℕ). (m < st.commands) × Clear closed m) (numbers_of st names)
    numbers_hold names ts e =
        premises-hold (λ (m : ℕ). (m < st.commands) × Clear closed m) st
        (λ name t found. each-named closed st.commands (live_facts st.scopes) name t (live st.scopes.outermost st.scopes.opened os closed st.commands st.commands (omega arith) stack h) found) names ts e

    abbrev GoesBy : Command → Effect → Type 0
    GoesBy command e = Goes st (after st e) (act_of st command e) os closed c

    command-goes : (from : Origin) (command : Command) (e : Effect) → decided st from command ≡ Ok e → GoesBy command e
    unfolding with_fact with_scope outside innermost_hypothesis
    command-goes from (Assume name s) e is =
        let k = assume_is st name s e is in
        subst (GoesBy (Assume name s)) (sym k.3) (record { premises = tt; is_open = tt; hold = added name k.1 })
    command-goes from (AssumePush name s) e is =
        let k = push_is st name s e is in
        subst (GoesBy (AssumePush name s)) (sym k.1)
        (record {
          premises = tt;
          is_open = tt;
          hold = (((omega arith, clear-here closed st.commands below), tt), subst (λ n. Hold st.scopes.outermost st.scopes.opened os closed n) (sym number) h);
        })
    command-goes from (Step s) e is =
        let k = step_is st s e is in
        let ps = concluded-premises st None s k.0 k.1 in
        subst (GoesBy (Step s)) (sym k.2) (record { premises = numbers_hold s.premises ps.0 ps.1; is_open = tt; hold = added s.name k.0.formula })
    command-goes from (StepPop s) e is =
        let k = pop_is st s e is in
        let ps = concluded-premises st (Some k.0) s k.2 k.3 in
        let popped = pop-hold st.scopes.outermost st.scopes.opened os closed st.commands c.number (fact s.name k.2.formula st.commands) k.0 refl number below stack k.1 h in
        subst (GoesBy (StepPop s)) (sym k.4) (record { premises = numbers_hold s.premises ps.0 ps.1; is_open = popped.0; hold = popped.1 })
    command-goes from command e is =
        let plain = plain_effect st from command refl e is in
        plain-goes (after st e) (act_of st command e) (plain_level st command e plain [] 0).1 (plain_grows st e plain).2

    -- after a command that opens a file no scope is open
    opening : (from : Origin) (command : Command) (e : Effect) (what : Next) → decided st from command ≡ Ok e → next_by st command ≡ Ok what → (not (is_in_scope st) || may_be_in_scope command) ≡ true → Opening what → (is_in_scope st ≡ false) × (act_of st command e ≡ Other)
    unfolding next_by
    opening from (Include written) e what is f may o = (outer (is_in_scope st) may, ap (act_of st (Include written)) (sym (ok_injective Nothing e is)))
      where
        outer : (b : Bool) → (not b || false) ≡ true → b ≡ false
        outer true f = absurd (true≢false (sym f))
        outer false f = refl
    opening from (Refer written) e what is f may o = (outer (is_in_scope st) may, ap (act_of st (Refer written)) (sym (ok_injective Nothing e is)))
      where
        outer : (b : Bool) → (not b || false) ≡ true → b ≡ false
        outer true f = absurd (true≢false (sym f))
        outer false f = refl
    opening from Exit e what is f may o = absurd (subst Opening (sym (ok_injective next.Exit what f)) o)
    opening from command e what is f may o = absurd (subst Opening (sym (ok_injective next.Done what f)) o)

    record Steps (r : State × Next) (act : Act) : Type 0 where
      goes : Goes st r.0 act os closed c
      count : r.0.commands ≡ min (st.commands + 1) (2 ^ 64 - 1)
      closes : Opening r.1 → opens_after proof os c act ≡ []

    step-goes : (from : Origin) (s : Sexp) (r : State × Next) → step st from s ≡ Ok r → Steps r (noted st from s)
    step-goes from s r e =
        let a = accepts st from s r e in
        let goes = command-goes from a.command a.effect a.decides in
        let here : Steps (counted (after st a.effect), r.1) (act_of st a.command a.effect) = record {
          goes = record { premises = goes.premises; is_open = goes.is_open; hold = goes.hold };
          count = ap (λ n. min (n + 1) (2 ^ 64 - 1)) (commands_same st a.effect);
          closes = λ o.
              let is = opening from a.command a.effect r.1 a.decides a.next a.may o in
              ap (opens_after proof os c) is.1 ∙ no-scopes st.scopes.outermost st.scopes.opened os closed st.commands h is.0;
        } in
        subst (λ (x : Act). Steps r x) (sym a.noted_is) (subst (λ (x : State). Steps (x, r.1) (act_of st a.command a.effect)) (sym a.is) here)

  -- ---- what is seen

  -- the open scopes and the closed ones after some commands
  opens_after_all : List OpenScope → List Seen → List OpenScope
  opens_after_all ss [] = ss
  opens_after_all ss (c ∷ cs) = opens_after_all (opens_after proof ss c c.act) cs

  closed_after_all : List OpenScope → List (ℕ × ℕ) → List Seen → List (ℕ × ℕ)
  closed_after_all ss closed [] = closed
  closed_after_all ss closed (c ∷ cs) = closed_after_all (opens_after proof ss c c.act) (closed_after closed ss c.number c.act) cs

  abbrev IsNext : List OpenScope → List (ℕ × ℕ) → ℕ → Seen → Type 0
  IsNext ss closed p c = (c.number ≡ p) × Every (λ (m : ℕ). (m < p) × Clear closed m) (premises_of c.act) × (is_elsewhere proof c ≡ true → EachScope IsElsewhere ss) × IsOpen ss c.act

  -- a run as far as it is
  abbrev IsPart : List OpenScope → List (ℕ × ℕ) → ℕ → List Seen → Type 0
  IsPart ss closed p [] = Unit {0}
  IsPart ss closed p (c ∷ cs) = IsNext ss closed p c × IsPart (opens_after proof ss c c.act) (closed_after closed ss c.number c.act) (suc p) cs

  part-is : (last : List ℕ) (cs : List Seen) (ss : List OpenScope) (closed : List (ℕ × ℕ)) (p : ℕ) → IsPart ss closed p cs → opens_after_all ss cs ≡ [] → Every (Clear (closed_after_all ss closed cs)) last → IsRun proof last ss closed p cs
  unfolding opens_after_all closed_after_all
  part-is last [] ss closed p h e f = (e, f)
  part-is last (c ∷ cs) ss closed p h e f = (
    h.0.0,
    h.0.1,
    h.0.2,
    h.0.3,
    subst (λ n. IsRun proof last (opens_after proof ss c c.act) (closed_after closed ss n c.act) (suc p) cs) h.0.0
        (part-is last cs (opens_after proof ss c c.act) (closed_after closed ss c.number c.act) (suc p) h.1 e f),
  )

  opens-push : (cs : List Seen) (ss : List OpenScope) (c : Seen) → opens_after_all ss (cs ++ c ∷ []) ≡ opens_after proof (opens_after_all ss cs) c c.act
  unfolding opens_after_all
  opens-push [] ss c = refl
  opens-push (d ∷ cs) ss c = opens-push cs (opens_after proof ss d d.act) c

  closed-push : (cs : List Seen) (ss : List OpenScope) (closed : List (ℕ × ℕ)) (c : Seen) → closed_after_all ss closed (cs ++ c ∷ []) ≡ closed_after (closed_after_all ss closed cs) (opens_after_all ss cs) c.number c.act
  unfolding opens_after_all closed_after_all
  closed-push [] ss closed c = refl
  closed-push (d ∷ cs) ss closed c = closed-push cs (opens_after proof ss d d.act) (closed_after closed ss d.number d.act) c

  part-push : (cs : List Seen) (ss : List OpenScope) (closed : List (ℕ × ℕ)) (p q : ℕ) (c : Seen) → q ≡ p + length cs → IsPart ss closed p cs → IsNext (opens_after_all ss cs) (closed_after_all ss closed cs) q c → IsPart ss closed p (cs ++ c ∷ [])
  unfolding opens_after_all closed_after_all
  part-push [] ss closed p q c e h n = let same : q ≡ p = omega (arith, e) in (subst (λ m. IsNext ss closed m c) same n, tt)
  part-push (d ∷ cs) ss closed p q c e h n = (h.0, part-push cs (opens_after proof ss d d.act) (closed_after closed ss d.number d.act) (suc p) q c (omega (arith, e)) h.1 n)

  -- ---- how far a run is

  abbrev opens : List Seen → List OpenScope
  opens seen = opens_after_all [] seen

  abbrev closes : List Seen → List (ℕ × ℕ)
  closes seen = closed_after_all [] [] seen

  record Holds (st : State) (seen : List Seen) : Type 0 where
    part : IsPart [] [] 0 seen
    number : st.commands ≡ length seen
    hold : Hold st.scopes.outermost st.scopes.opened (opens seen) (closes seen) (length seen)
    stack : Stack proof [] (opens seen) (closes seen) (length seen)
    below : ClosedBelow (closes seen) (length seen)

  abbrev AreElse : List Seen → Type 0
  AreElse seen = EachScope IsElsewhere (opens seen)

  abbrev Good : List ℕ → Progress → Type 0
  Good path p = Holds p.state p.seen × (path ≢ proof → AreElse p.seen)

  drop-else : (ss : List OpenScope) → EachScope IsElsewhere ss → EachScope IsElsewhere (drop 1 ss)
  drop-else [] h = tt
  drop-else (s ∷ ss) h = h.1

  else-next : (ss : List OpenScope) (c : Seen) (act : Act) → is_elsewhere proof c ≡ true → EachScope IsElsewhere ss → EachScope IsElsewhere (opens_after proof ss c act)
  else-next ss c (Opens t) e h = (e, h)
  else-next ss c (Closes t) e h = drop-else ss h
  else-next ss c Declares e h = h
  else-next ss c Defines e h = h
  else-next ss c (Asserts t) e h = h
  else-next ss c (Assumes t) e h = h
  else-next ss c (Derives t) e h = h
  else-next ss c Other e h = h

  other-path : (path : List ℕ) → not (bytes_eq path proof) ≡ true → path ≢ proof
  other-path path e same = true≢false (sym e ∙ ap not ((bytes_eq-Decides path proof).1 same))

  path-other : (path : List ℕ) → path ≢ proof → not (bytes_eq path proof) ≡ true
  path-other path other = go (bytes_eq path proof) refl
    where
      go : (b : Bool) → bytes_eq path proof ≡ b → not b ≡ true
      go true e = absurd (other ((bytes_eq-Decides path proof).0 e))
      go false e = refl

  record IsNow (p : Progress) (path : List ℕ) (from : Origin) (c : Placed) (r : State × Next) : Type 0 where
    good : Good path (with_command p (seen_next p path from c) r.0)
    none : Opening r.1 → opens (p.seen ++ seen_next p path from c ∷ []) ≡ []

  next-good : (p : Progress) (path : List ℕ) (from : Origin) (c : Placed) (r : State × Next) → length (p.seen ++ seen_next p path from c ∷ []) ≤ 2 ^ 64 - 1 → Good path p → step p.state from c.sexp ≡ Ok r → IsNow p path from c r
  next-good p path from c r few good e =
      let k = seen_next p path from c in
      let h = good.0 in
      let os = opens p.seen in
      let cl = closes p.seen in
      let stack : Stack proof [] (opens p.seen) (closes p.seen) p.state.commands = subst (Stack proof [] (opens p.seen) (closes p.seen)) (sym h.number) h.stack in
      let below : ClosedBelow (closes p.seen) p.state.commands = subst (ClosedBelow (closes p.seen)) (sym h.number) h.below in
      let hold : Hold p.state.scopes.outermost p.state.scopes.opened (opens p.seen) (closes p.seen) p.state.commands = subst (Hold p.state.scopes.outermost p.state.scopes.opened (opens p.seen) (closes p.seen)) (sym h.number) h.hold in
      let s = step-goes p.state (opens p.seen) (closes p.seen) k refl stack below hold from c.sexp r e in
      let elses : is_elsewhere proof k ≡ true → EachScope IsElsewhere (opens p.seen) = λ x. good.1 (other-path path x) in
      let is_next : IsNext (opens p.seen) (closes p.seen) (length p.seen) k =
      (h.number, subst (λ n. Every (λ (m : ℕ). (m < n) × Clear (closes p.seen) m) (premises_of k.act)) h.number s.goes.premises, elses, s.goes.is_open) in
      let os_is = opens-push p.seen [] k in
      let cl_is = closed-push p.seen [] [] k in
      let long : length (p.seen ++ seen_next p path from c ∷ []) ≡ suc (length p.seen) = omega (arith, length-append p.seen (k ∷ [])) in
      let stacked = subst (λ (n : ℕ). Stack proof [] (opens_after proof (opens p.seen) k k.act) (closed_after (closes p.seen) (opens p.seen) n k.act) (suc (length p.seen))) (sym h.number)
      (stack-next proof [] (opens p.seen) (closes p.seen) (length p.seen) k h.number elses h.stack h.below k.act s.goes.is_open) in
      let lower = subst (λ (n : ℕ). ClosedBelow (closed_after (closes p.seen) (opens p.seen) n k.act) (suc (length p.seen))) (sym h.number)
      (below-next proof [] (opens p.seen) (closes p.seen) (length p.seen) k h.number elses h.stack h.below k.act) in
      record {
        good = (
          record {
            part = part-push p.seen [] [] 0 (length p.seen) k (omega arith) h.part is_next;
            number = omega (arith, s.count, h.number, few, long);
            hold = moved r.0.scopes.outermost r.0.scopes.opened _ _ _ _ _ _ os_is cl_is long (subst (λ n. Hold r.0.scopes.outermost r.0.scopes.opened (opens_after proof (opens p.seen) k k.act) (closed_after (closes p.seen) (opens p.seen) k.number k.act) (suc n)) h.number s.goes.hold);
            stack = stack_moved _ _ _ _ _ _ os_is cl_is long stacked;
            below = below_moved _ _ _ _ cl_is long lower;
          },
          λ other. subst (EachScope IsElsewhere) (sym os_is) (else-next (opens p.seen) k k.act (path-other path other) (good.1 other)),
        );
        none = λ o. os_is ∙ s.closes o;
      }
    where
      moved : (out : List Fact) (ss : List Scope) (os os' : List OpenScope) (cl cl' : List (ℕ × ℕ)) (n n' : ℕ) → os ≡ os' → cl ≡ cl' → n ≡ n' → Hold out ss os' cl' n' → Hold out ss os cl n
      moved out ss os os' cl cl' n n' a b d h = subst (λ x. Hold out ss x cl n) (sym a) (subst (λ x. Hold out ss os' x n) (sym b) (subst (λ x. Hold out ss os' cl' x) (sym d) h))

      stack_moved : (os os' : List OpenScope) (cl cl' : List (ℕ × ℕ)) (n n' : ℕ) → os ≡ os' → cl ≡ cl' → n ≡ n' → Stack proof [] os' cl' n' → Stack proof [] os cl n
      stack_moved os os' cl cl' n n' a b d h = subst (λ x. Stack proof [] x cl n) (sym a) (subst (λ x. Stack proof [] os' x n) (sym b) (subst (λ x. Stack proof [] os' cl' x) (sym d) h))

      below_moved : (cl cl' : List (ℕ × ℕ)) (n n' : ℕ) → cl ≡ cl' → n ≡ n' → ClosedBelow cl' n' → ClosedBelow cl n
      below_moved cl cl' n n' b d h = subst (λ x. ClosedBelow x n) (sym b) (subst (λ x. ClosedBelow cl' x) (sym d) h)

  -- ---- runs

  -- what a run adds
  record Grown (p q : Progress) : Type 0 where
    more_seen : List Seen
    seen : q.seen ≡ p.seen ++ more_seen
    alone : list_any (bytes_eq proof) q.opened ≡ false → list_any (bytes_eq proof) p.opened ≡ false

  grown-none : (p : Progress) → Grown p p
  grown-none p = record { more_seen = []; seen = sym (append-nil p.seen); alone = λ e. e }

  grown-both : (p q r : Progress) → Grown p q → Grown q r → Grown p r
  grown-both p q r g h = record {
    more_seen = g.more_seen ++ h.more_seen;
    seen = h.seen ∙ ap (λ cs. cs ++ h.more_seen) g.seen ∙ append_assoc p.seen g.more_seen h.more_seen;
    alone = λ e. g.alone (h.alone e);
  }

  -- as many commands as are counted, and the proof is opened in no other place
  abbrev Small : Progress → Type 0
  Small q = (length q.seen ≤ 2 ^ 64 - 1) × (list_any (bytes_eq proof) q.opened ≡ false)

  small-before : (p q : Progress) → Grown p q → Small q → Small p
  small-before p q g s =
      (omega (arith, s.0, ap length g.seen, length-append p.seen g.more_seen), g.alone s.1)

  -- a file that is opened besides the proof is another
  away : (p q : Progress) (file : List ℕ) → Grown (with_opened p file) q → Small q → file ≢ proof
  away p q file g s same =
      true≢false (sym ((bytes_eq-Decides proof file).1 (sym same)) ∙ (alone-with proof p.opened file (small-before (with_opened p file) q g s).1).1)

  grown-opened : (p : Progress) (file : List ℕ) → Grown p (with_opened p file)
  grown-opened p file = record { more_seen = []; seen = sym (append-nil p.seen); alone = λ e. (alone-with proof p.opened file e).0 }

  record Leads (Before After : Type 0) (p q : Progress) : Type 0 where
    grown : Grown p q
    goes : Small q → Before → After

  abbrev Runs : Runner → Type 0
  Runs run = (path : List ℕ) (from : Origin) (bytes : List ℕ) (p q : Progress) → run path from bytes p ≡ Ok q → Leads (Good path p) (Good path q) p q

  abbrev Opens_ : Opener → Type 0
  Opens_ opener = (path : List ℕ) (from : Origin) (at : Spot) (what : Next) (p q : Progress) → opener path from at what p ≡ Ok q → Leads (Good path p × (Opening what → opens p.seen ≡ [])) (Good path q) p q

  same-leads : (Before : Progress → Type 0) (After : Progress → Type 0) (p q : Progress) → (Before p → After p) → ◌≡◌ {A = Ran} (Ok p) (Ok q) → Leads (Before p) (After q) p q
  same-leads Before After p q f e =
      subst (λ (x : Progress). Leads (Before p) (After x) p x) (ran_injective p q e) (record { grown = grown-none p; goes = λ s h. f h })

  nothing-opens : Opens_ open_nothing
  nothing-opens path from at what p q e = same-leads (λ (x : Progress). Good path x × (Opening what → opens x.seen ≡ [])) (Good path) p q (λ h. h.0) e

  commands-run : (opener : Opener) → Opens_ opener → (path : List ℕ) (from : Origin) (reads : Reads) (p q : Progress) → run_commands opener path from reads p ≡ Ok q → Leads (Good path p) (Good path q) p q
  unfolding run_commands
  commands-run opener runs path from (Ends at) p q e = same-leads (Good path) (Good path) p q (λ h. h) e
  commands-run opener runs path from (Fails name at) p q e = ran_not _ q e
  commands-run opener runs path from (Then c others) p q e =
      let r = ran_bind (placed p path c.start (step p.state from c.sexp)) _ q e in
      let mid = ran_bind (opener path from c.start r.0.1 (with_command p (seen_next p path from c) r.0.0)) _ q r.2 in
      let now = with_command p (seen_next p path from c) r.0.0 in
      let stepped = placed_ok p path c.start (step p.state from c.sexp) r.0 r.1 in
      let first : Grown p now = record { more_seen = seen_next p path from c ∷ []; seen = refl; alone = λ e. e } in
      let second = runs path from c.start r.0.1 now mid.0 mid.1 in
      let third = last (is_exit r.0.1) mid.0 (λ k. commands-run opener runs path from others mid.0 q k) mid.2 in
      let back = grown-both now mid.0 q second.grown third.grown in
      record {
        grown = grown-both p now q first back;
        goes = λ s h.
            let here = next-good p path from c r.0 (small-before now q back s).0 h stepped in
            third.goes s (second.goes (small-before mid.0 q third.grown s) (here.good, here.none));
      }
    where
      last : (b : Bool) (m : Progress) → (run_commands opener path from others m ≡ Ok q → Leads (Good path m) (Good path q) m q) → (if b then Ok m else run_commands opener path from others m) ≡ Ok q → Leads (Good path m) (Good path q) m q
      last true m f k = same-leads (Good path) (Good path) m q (λ h. h) k
      last false m f k = f k

  reference-holds : (st new : State) (seen : List Seen) → begin_reference st ≡ Ok new → Holds st seen → Holds new seen
  unfolding begin_reference
  reference-holds st new seen e h = by st.has_reference e
    where
      by : (b : Bool) → (if b then Err SecondReference else Ok (record st { has_reference = true })) ≡ Ok new → Holds new seen
      by true k = absurd (err_is_not_ok SecondReference new k)
      by false k = subst (λ (x : State). Holds x seen) (ok_injective (record st { has_reference = true }) new k) (record { part = h.part; number = h.number; hold = h.hold; stack = h.stack; below = h.below })

  none-else : (seen : List Seen) → opens seen ≡ [] → AreElse seen
  none-else seen e = subst (EachScope IsElsewhere) (sym e) tt

  module _ (files : Files) where
    abbrev Deeper : Option Runner → Type 0
    Deeper deeper = (run : Runner) → deeper ≡ Some run → Runs run

    include-run : (deeper : Option Runner) → Deeper deeper → (path : List ℕ) (from : Origin) (at : Spot) (file : List ℕ) (p q : Progress) → include_file files deeper path from at file p ≡ Ok q → Leads (Good path p × (opens p.seen ≡ [])) (Good path q) p q
    unfolding include_file
    include-run deeper runs path from at file p q e = by (list_any (bytes_eq file) p.included) e
      where
        read : Ran
        read = or_fault p path at IncludeDepth deeper >>= λ run. or_fault p path at FileAbsent (file_at files file) >>= λ bytes. run file from bytes (with_included p file)

        by : (b : Bool) → (if b then Ok p else (or_fault p path at IncludeDepth deeper >>= λ run. or_fault p path at FileAbsent (file_at files file) >>= λ bytes. run file from bytes (with_included p file))) ≡ Ok q → Leads (Good path p × (opens p.seen ≡ [])) (Good path q) p q
        by true k = same-leads (λ (x : Progress). Good path x × (opens x.seen ≡ [])) (Good path) p q (λ h. h.0) k
        by false k =
            let run = ran_bind (or_fault p path at IncludeDepth deeper) _ q k in
            let bytes = ran_bind (or_fault p path at FileAbsent (file_at files file)) _ q run.2 in
            let rest = runs run.0 (fault_ok p path at IncludeDepth deeper run.0 run.1) file from bytes.0 (with_included p file) q bytes.2 in
            let grown : Grown (with_opened p file) q = record { more_seen = rest.grown.more_seen; seen = rest.grown.seen; alone = rest.grown.alone } in
            record {
              grown = grown-both p (with_opened p file) q (grown-opened p file) grown;
              goes = λ s h.
                  let done = rest.goes s (h.0.0, λ other. none-else p.seen h.1) in
                  (done.0, λ other. done.1 (away p q file grown s));
            }

    refer-run : (path : List ℕ) (at : Spot) (file : List ℕ) (p q : Progress) → refer_to_file files path at file p ≡ Ok q → Leads (Good path p × (opens p.seen ≡ [])) (Good path q) p q
    unfolding refer_to_file run_reference
    refer-run path at file p q e =
        let st = ran_bind (placed p path at (begin_reference p.state)) _ q e in
        let bytes = ran_bind (or_fault p path at FileAbsent (file_at files file)) _ q st.2 in
        let rest = commands-run open_nothing nothing-opens file origin.Reference (commands_of false bytes.0) (record (with_opened p file) { state = st.0 }) q bytes.2 in
        let grown : Grown (with_opened p file) q = record { more_seen = rest.grown.more_seen; seen = rest.grown.seen; alone = rest.grown.alone } in
        record {
          grown = grown-both p (with_opened p file) q (grown-opened p file) grown;
          goes = λ s h.
              let done = rest.goes s (reference-holds p.state st.0 p.seen (placed_ok p path at (begin_reference p.state) st.0 st.1) h.0.0, λ other. none-else p.seen h.1) in
              (done.0, λ other. done.1 (away p q file grown s));
        }

    open-runs : (deeper : Option Runner) → Deeper deeper → Opens_ (open_file files deeper)
    unfolding open_file
    open-runs deeper runs path from at next.Done p q e = same-leads (λ (x : Progress). Good path x × (Opening next.Done → opens x.seen ≡ [])) (Good path) p q (λ h. h.0) e
    open-runs deeper runs path from at (next.Include name) p q e =
        let file = ran_bind (or_fault p path at BadPath (fold_path path name)) _ q e in
        let rest = include-run deeper runs path from at file.0 p q file.2 in
        record { grown = rest.grown; goes = λ s h. rest.goes s (h.0, h.1 tt) }
    open-runs deeper runs path from at (next.Reference name) p q e =
        let file = ran_bind (or_fault p path at BadPath (fold_path path name)) _ q e in
        let rest = refer-run path at file.0 p q file.2 in
        record { grown = rest.grown; goes = λ s h. rest.goes s (h.0, h.1 tt) }
    open-runs deeper runs path from at next.Exit p q e = same-leads (λ (x : Progress). Good path x × (Opening next.Exit → opens x.seen ≡ [])) (Good path) p q (λ h. h.0) e

    file-runs : (deeper : Option Runner) → Deeper deeper → (wrapped : Bool) → Runs (run_file files deeper wrapped)
    unfolding run_file
    file-runs deeper runs wrapped path from bytes p q e = commands-run (open_file files deeper) (open-runs deeper runs) path from (commands_of wrapped bytes) p q e

    included-runs : (left : ℕ) → Deeper (included_runner files left)
    unfolding included_runner
    included-runs zero run e = absurd (none-some run e)
    included-runs (suc left) run e = subst Runs (same_Some (run_file files (included_runner files left) false) run e) (file-runs (included_runner files left) (included-runs left) false)

    -- ---- the files of a job

    abbrev Before : Progress → Type 0
    Before p = Holds p.state p.seen × AreElse p.seen

    signature-run : (name : List ℕ) (p q : Progress) → run_signature files name p ≡ Ok q → Leads (Before p) (Before q) p q
    unfolding run_signature
    signature-run name p q e =
        let file = ran_bind (job_file files p name) _ q e in
        let rest = file-runs (included_runner files include_limit) (included-runs include_limit) false file.0.0 origin.Signature file.0.1 (with_opened p file.0.0) q file.2 in
        record {
          grown = grown-both p (with_opened p file.0.0) q (grown-opened p file.0.0) rest.grown;
          goes = λ s h. let done = rest.goes s (h.0, λ other. h.1) in (done.0, done.1 (away p q file.0.0 rest.grown s));
        }

    job-reference-run : (name : List ℕ) (p q : Progress) → run_job_reference files name p ≡ Ok q → Leads (Before p) (Before q) p q
    unfolding run_job_reference run_reference
    job-reference-run name p q e =
        let st = ran_bind (placed p (shown name) first_spot (begin_reference p.state)) _ q e in
        let file = ran_bind (job_file files p name) _ q st.2 in
        let rest = commands-run open_nothing nothing-opens file.0.0 origin.Reference (commands_of false file.0.1) (record (with_opened p file.0.0) { state = st.0 }) q file.2 in
        let grown : Grown (with_opened p file.0.0) q = record { more_seen = rest.grown.more_seen; seen = rest.grown.seen; alone = rest.grown.alone } in
        record {
          grown = grown-both p (with_opened p file.0.0) q (grown-opened p file.0.0) grown;
          goes = λ s h.
              let done = rest.goes s (reference-holds p.state st.0 p.seen (placed_ok p (shown name) first_spot (begin_reference p.state) st.0 st.1) h.0, λ other. h.1) in
              (done.0, done.1 (away p q file.0.0 grown s));
        }

    given-run : (run : List ℕ → Progress → Ran) → ((name : List ℕ) (p q : Progress) → run name p ≡ Ok q → Leads (Before p) (Before q) p q) → (given : Option (List ℕ)) (p q : Progress) → if_given run given p ≡ Ok q → Leads (Before p) (Before q) p q
    given-run run runs None p q e = same-leads Before Before p q (λ h. h) e
    given-run run runs (Some name) p q e = runs name p q e

    before-run : (job : CheckJob) (q : Progress) → before_proof files job ≡ Ok q → Leads (Before (first_progress job)) (Before q) (first_progress job) q
    unfolding before_proof before_proof_after run_prelude ◌>>=◌
    before-run job q e =
        let p = ran_bind (if_given (run_signature files) job.include (first_progress job)) _ q e in
        let first = given-run (run_signature files) signature-run job.include (first_progress job) p.0 p.1 in
        let second = given-run (run_job_reference files) job-reference-run job.reference p.0 q p.2 in
        record { grown = grown-both (first_progress job) p.0 q first.grown second.grown; goes = λ s h. second.goes s (first.goes (small-before p.0 q second.grown s) h) }

    first-before : (job : CheckJob) → Before (first_progress job)
    unfolding first_state opens_after_all closed_after_all
    first-before job = (record { part = tt; number = refl; hold = tt; stack = tt; below = tt }, tt)

    final-holds : (job : CheckJob) (final : Progress) → fold_path [] job.proof ≡ Some proof → run_check files job ≡ Ok final → Small final → Holds final.state final.seen
    unfolding run_check run_check_after run_proof job_file before_proof
    final-holds job final at e s =
        let before = ran_bind (before_proof files job) _ final e in
        let file = ran_bind (job_file files before.0 job.proof) _ final before.2 in
        let path = ran_bind (or_fault before.0 job.proof first_spot BadPath (fold_path [] job.proof)) _ file.0 file.1 in
        let bytes = ran_bind (or_fault before.0 path.0 first_spot FileAbsent (file_at files path.0)) _ file.0 path.2 in
        let is : proof ≡ file.0.0 = same_Some proof path.0 (sym at ∙ fault_ok before.0 job.proof first_spot BadPath (fold_path [] job.proof) path.0 path.1) ∙ ap (λ (x : List ℕ × List ℕ). x.0) (ran_injective (path.0, bytes.0) file.0 bytes.2) in
        let rest = file-runs (included_runner files include_limit) (included-runs include_limit) true file.0.0 origin.Proof file.0.1 before.0 final file.2 in
        let begun = before-run job before.0 before.1 in
        let h = begun.goes (small-before before.0 final rest.grown s) (first-before job) in
        (rest.goes s (h.0, λ other. h.1)).0

    -- What is seen of a run that ends well, whose proof is opened in no other place.
    pub seen_is_run : (job : CheckJob) (final : Progress) → fold_path [] job.proof ≡ Some proof → run_check files job ≡ Ok final → is_in_scope final.state ≡ false → length final.seen ≤ 2 ^ 64 - 1 → list_any (bytes_eq proof) final.opened ≡ false →
        IsRun proof (option_to_list (first_false final.state.scopes)) [] [] 0 final.seen
    seen_is_run job final at e outer few alone =
        let h = final-holds job final at e (few, alone) in
        let none = no-scopes final.state.scopes.outermost final.state.scopes.opened (opens final.seen) (closes final.seen) (length final.seen) h.hold outer in
        part-is (option_to_list (first_false final.state.scopes)) final.seen [] [] 0 h.part none
        (each-false (closes final.seen) (length final.seen) (λ (f : Fact). tree_eq f.formula (truth false)) final.state.scopes.outermost
        (outermost-hold final.state.scopes.outermost final.state.scopes.opened (opens final.seen) (closes final.seen) (length final.seen) none h.hold))
