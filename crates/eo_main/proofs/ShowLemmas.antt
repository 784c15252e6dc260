-- How the run of a name ends, by the result for it.
use Rattle.std.proofs.Common.{◌≡◌, ◌≢◌, ℕ, zero, suc, true, false, List, [], ◌∷◌, Option, None, Some, refl, sym, ◌∙◌, ap, subst, arith, true≢false}
use Rattle.std.specs.Prelude.{Bool, map, take, if◌then◌else◌, Result, Ok, Err, IsSome, slice_get}
use Rattle.eo_base.specs.Causes.{Rose}
use Rattle.eo_base.specs.Checks.{Checked}
use Rattle.eo_base.specs.declared.FaultName.{FaultName}
use Rattle.eo_base.specs.declared.FaultName.TheVariants.{Unprintable, FileAbsent}
use Rattle.eo_base.specs.declared.Place.{Place}
use Rattle.eo_base.specs.declared.Status.{Status}
use Rattle.eo_base.specs.declared.Status.TheVariants as status
use Rattle.eo_io.specs.Library.{Files}
use Rattle.eo_sexp.specs.Printing.{printed_lines}
use Rattle.eo_sig.specs.Signature.{Signature}
use Rattle.eo_sig.specs.Reading.{Kept, signature, macros}
use Rattle.eo_term.specs.Growth.{tree_in}
use Rattle.eo_term.specs.Terms.{Terms, tree_at}
use Rattle.eo_term.specs.Tree.{Tree}
use Rattle.eo_session.specs.State.{State}
use Rattle.eo_session.specs.Step.{value_named}
use Rattle.eo_session.specs.Stepping.{Standing, GivesValue}
use Rattle.eo_session.specs.declared.refused.Refused.{Refused}
use Rattle.eo_session.specs.declared.refused.Refused.TheVariants as refused
use Rattle.eo_show.specs.Walking.{TellsUnprintable}
use Rattle.eo_show.specs.declared.refused.ShowRefused.{ShowRefused}
use Rattle.eo_show.specs.declared.refused.ShowRefused.TheVariants as unshown
use Rattle.eo_main.specs.Unshown.{of_value, of_lines}
use Rattle.eo_show.specs.Lines.{Line, line, name_in, shown_lines, shown as shown_by}
use Rattle.eo_show.specs.Members.{is_unprintable}
use Rattle.eo_run.specs.Run.{Ran, refusal_at, run_load, shown}
use Rattle.eo_run.specs.Check.{file_end}
use Rattle.eo_run.specs.Answer.{answer_due, WritesDue}
use Rattle.eo_run.specs.Loading.{EndsLoad, AnswersSession}
use Rattle.eo_run.specs.Printed.{Due, verdict_text}
use Rattle.eo_run.specs.Verdict as verdict
use Rattle.eo_run.specs.declared.LoadEnd.TheVariants as ends
use Rattle.eo_run.specs.declared.Verdict.{Verdict}
use Rattle.eo_run.specs.declared.Verdict.TheVariants as answer
use Rattle.eo_main.specs.Ends.{Ends, EndHasCause, AbsentHasCause}
use Rattle.eo_main.specs.Program.{due, EndsAs}
use Rattle.eo_main.specs.Showing.{value_lines, found_lines, named_lines, lines_due, shown_due, loaded_due, show_due}
use Rattle.eo_main.specs.ShowAnswers.{AreLines, IsShowAnswer, ShowHasCause, AnswersDue, AnswersShow, AnswersNamed, show_answer_due}
use Rattle.eo_main.specs.declared.Request.TheVariants.{Show}
use Rattle.eo_main.proofs.AbsentLemmas.{front_head, front_of_due, absent_by_answer}
use Rattle.eo_main.proofs.EndLemmas.{refused_ends, read_fault_ends, out_of_memory_ends, end_has_cause, no_usage}
use Rattle.eo_main.proofs.TextLemmas.{text_ends, text_has_cause, text_no_usage}

-- ---- the lines of a value

pub value_are : (st : State) (t : Tree) (lines : List ℕ) → value_lines st t ≡ Ok lines → AreLines lines
value_are st t lines e = by (is_unprintable st.signature t) e
  where
    by : (b : Bool) → (if b then Err Unprintable else Ok (shown_by st.signature st.macros t)) ≡ Ok lines → AreLines lines
    by true h = cc
    by false h = record { signature = st.signature; macros = st.macros; tree = t; are = cc }

pub named_are : (st : State) (name lines : List ℕ) → named_lines st name ≡ Ok lines → AreLines lines
unfolding named_lines
named_are st name lines e = by (value_named st name) e
  where
    by : (m : Checked Tree) → found_lines st m ≡ Ok lines → AreLines lines
    by (Ok t) h = value_are st t lines h
    by (Err fault) h = cc

-- each is a list, or there are none
no_refusal : (S : Signature) (named : Tree → Option (List ℕ)) (ls : List Line) (n : ℕ) (r : verdict.Refusal) → take n (printed_lines (map (line S named) ls)) ≡ verdict_text (verdict.Refused r) → ⊥
no_refusal S named [] zero r e = cc
no_refusal S named [] (suc n) r e = cc
no_refusal S named (l ∷ ls) n r e = differ (front_head n _ _ _ _ e)
  where
    differ : ◌≡◌ {A = ℕ} 40 114 → ⊥
    differ q = omega (arith, q)

lines_front : (lines : List ℕ) → AreLines lines → (n : ℕ) (r : verdict.Refusal) → take n lines ≡ verdict_text (verdict.Refused r) → ⊥
unfolding shown_by
lines_front lines a n r e =
    let ls = shown_lines a.signature a.macros a.tree in
    no_refusal a.signature (name_in ls) ls n r (ap (take n) (sym a.are) ∙ e)

-- ---- how the value of a name ends

module _ (st : State) (name : List ℕ) (place : Place) where
  pub found_named : (s : State) (t : Tree) (r : Result (List ℕ) Verdict) → s ≡ st → value_named st name ≡ Ok t → AnswersNamed place r (value_lines s t) → AnswersNamed place r (named_lines st name)
  unfolding named_lines
  found_named s t r same is a =
      subst (λ (m : Checked (List ℕ)). AnswersNamed place r m) (ap (λ (s : State). value_lines s t) same ∙ sym (ap (found_lines st) is)) a

  pub fault_named : (fault : FaultName) (v : Verdict) → v ≡ answer.Refused (record { name = fault; place = place }) → value_named st name ≡ Err fault → fault ≢ FileAbsent → AnswersNamed place (Err v) (named_lines st name)
  unfolding named_lines
  fault_named fault v e is other =
      subst (λ (v : Verdict). AnswersNamed place (Err v) (named_lines st name)) (sym e) (ap (found_lines st) is, refl, other)

  -- a session that is refused: it is not ended
  pub refused_named : (e : Refused) (old new : Standing) (v : Verdict) → v ≡ of_value e place → GivesValue (Err e) (value_named st name) old new → old.ended ≡ false → ◌≢◌ {A = Result ℕ Refused} (Err e) (Err (refused.Fault FileAbsent)) → AnswersNamed place (Err v) (named_lines st name)
  refused_named (refused.Fault fault) old new v is g going other = fault_named fault v is g.1 (λ q. other (ap (λ (n : FaultName). Err (refused.Fault n)) q))
  refused_named refused.Ended old new v is g going other = absurd (true≢false (sym g.0 ∙ going))
  refused_named (refused.Memory e) old new v is g going other = subst (λ (v : Verdict). AnswersNamed place (Err v) (named_lines st name)) (sym is) tt

-- over the terms of a table
module _ (st : State) (t u : Terms) (k : Kept) (i : ℕ) (same : t ≡ u) (reads : signature u.trees k ≡ st.signature) (defines : macros u.trees k ≡ st.macros) where
  sig_is : signature t.trees k ≡ st.signature
  sig_is = ap (λ (x : Terms). signature x.trees k) same ∙ reads

  macros_are : macros t.trees k ≡ st.macros
  macros_are = ap (λ (x : Terms). macros x.trees k) same ∙ defines

  tree_is : tree_at t.trees i ≡ tree_in u i
  tree_is = ap (λ (x : Terms). tree_in x i) same

  abbrev by_test : Bool → Checked (List ℕ)
  by_test b = if b then Err Unprintable else Ok (shown_by st.signature st.macros (tree_in u i))

  test_is : (b : Bool) → is_unprintable (signature t.trees k) (tree_at t.trees i) ≡ b → value_lines st (tree_in u i) ≡ by_test b
  test_is b e = ap by_test ((λ j. is_unprintable (sym sig_is j) (sym tree_is j)) ∙ e)

  pub lines_are : (lines : List ℕ) → lines ≡ shown_by (signature t.trees k) (macros t.trees k) (tree_at t.trees i) → is_unprintable (signature t.trees k) (tree_at t.trees i) ≡ false → value_lines st (tree_in u i) ≡ Ok lines
  lines_are lines e printable =
      test_is false printable ∙ ap (λ (ls : List ℕ). Ok ls) (sym (e ∙ (λ j. shown_by (sig_is j) (macros_are j) (tree_is j))))

  pub no_spelling : (place : Place) (v : Verdict) → v ≡ answer.Refused (record { name = Unprintable; place = place }) → is_unprintable (signature t.trees k) (tree_at t.trees i) ≡ true → AnswersNamed place (Err v) (value_lines st (tree_in u i))
  no_spelling place v e unprintable =
      subst (λ (v : Verdict). AnswersNamed place (Err v) (value_lines st (tree_in u i))) (sym e) (test_is true unprintable, refl, λ q. cc)

  pub unshown_lines : (place : Place) (e : ShowRefused) (v : Verdict) → v ≡ of_lines e place → (TellsUnprintable e → is_unprintable (signature t.trees k) (tree_at t.trees i) ≡ true) → AnswersNamed place (Err v) (value_lines st (tree_in u i))
  unshown_lines place unshown.Unprintable v is refused = no_spelling place v is (refused tt)
  unshown_lines place (unshown.Memory e) v is refused = subst (λ (v : Verdict). AnswersNamed place (Err v) (value_lines st (tree_in u i))) (sym is) tt

-- ---- what is due

module _ (files : Files) (file name : List ℕ) where
  loaded_is : (ran : Ran) → run_load files file ≡ ran → show_due files file name ≡ loaded_due files file name ran
  unfolding show_due
  loaded_is ran e = ap (loaded_due files file name) e

  module _ (paths : List (List ℕ)) (st : State) (place : Place) (end : EndsLoad files file st paths place) where
    end_is : show_due files file name ≡ shown_due files file (named_lines st name)
    end_is = loaded_is (Ok end.last) end.runs ∙ ap (λ (s : State). shown_due files file (named_lines s name)) (sym end.state)

    named_due : (r : Result (List ℕ) Verdict) → AnswersNamed place r (named_lines st name) → AnswersDue paths r (show_due files file name)
    named_due (Ok lines) a = end_is ∙ ap (shown_due files file) a
    named_due (Err (answer.Refused fault)) a = (
      refusal_at (shown file) (file_end files file) fault.name,
      end_is ∙ ap (shown_due files file) a.0,
      record {
        name = refl;
        file = ap (λ (p : Place). slice_get paths p.file) a.1 ∙ end.file;
        line = ap (λ (p : Place). p.line) a.1 ∙ end.line;
        offset = ap (λ (p : Place). p.offset) a.1 ∙ end.offset;
      },
    )
    named_due (Err answer.OutOfMemory) a = tt
    named_due (Err answer.ReadFault) a = absurd a
    named_due (Err answer.Correct) a = absurd a
    named_due (Err answer.Incomplete) a = absurd a
    named_due (Err (answer.Loaded commands)) a = absurd a

module _ (file name : List ℕ) (paths : List (List ℕ)) where
  pub ready_answers : (told : Option Files) (session : Standing) (place : Place) (r : Result (List ℕ) Verdict)
      → AnswersSession told file paths (ends.Ready session place) → AnswersNamed place r (named_lines session.state name) → AnswersShow told file name paths r
  ready_answers None session place r h a = tt
  ready_answers (Some files) session place r h a = named_due files file name paths session.state place (h files refl) r a

  pub ended_answers : (told : Option Files) (v : Verdict) → AnswersSession told file paths (ends.Ended v) → AnswersShow told file name paths (Err v)
  ended_answers None v h = tt
  ended_answers (Some files) answer.Correct h = absurd (h files refl)
  ended_answers (Some files) answer.Incomplete h = absurd (h files refl)
  ended_answers (Some files) (answer.Loaded commands) h = absurd (h files refl)
  ended_answers (Some files) (answer.Refused fault) h = let g = h files refl in (g.0.refusal, loaded_is files file name (Err g.0) g.1, g.2)
  ended_answers (Some files) answer.ReadFault h = tt
  ended_answers (Some files) answer.OutOfMemory h = tt

-- ---- the kind of an answer, and its cause

module _ (paths : List (List ℕ)) (st : State) (name : List ℕ) (place : Place) (r : Result (List ℕ) Verdict) where
  pub named_kind : IsSome (slice_get paths place.file) → AnswersNamed place r (named_lines st name) → IsShowAnswer paths r
  named_kind within a = by r a
    where
      by : (r : Result (List ℕ) Verdict) → AnswersNamed place r (named_lines st name) → IsShowAnswer paths r
      by (Ok lines) a = named_are st name lines a
      by (Err (answer.Refused fault)) a = subst (λ (p : Place). IsSome (slice_get paths p.file)) (sym a.1) within
      by (Err answer.OutOfMemory) a = tt
      by (Err answer.ReadFault) a = absurd a
      by (Err answer.Correct) a = absurd a
      by (Err answer.Incomplete) a = absurd a
      by (Err (answer.Loaded commands)) a = absurd a

  pub named_cause : (told : Option Files) (before now : ℕ) → AnswersNamed place r (named_lines st name) → ShowHasCause r told before now
  named_cause told before now a = by told r a
    where
      by : (told : Option Files) (r : Result (List ℕ) Verdict) → AnswersNamed place r (named_lines st name) → ShowHasCause r told before now
      by told (Ok lines) a = tt
      by None (Err (answer.Refused fault)) a = λ absent. absurd (a.2 absent)
      by (Some files) (Err (answer.Refused fault)) a = tt
      by told (Err answer.OutOfMemory) a = tt
      by told (Err answer.ReadFault) a = absurd a
      by told (Err answer.Correct) a = absurd a
      by told (Err answer.Incomplete) a = absurd a
      by told (Err (answer.Loaded commands)) a = absurd a

-- ---- what is written

module _ (paths : List (List ℕ)) (s : Status) (w x : Option (List ℕ)) (before now : ℕ) where
  due_ends : (told : Option Files) (d : Due) (r : Result (List ℕ) Verdict) → AnswersDue paths r d → ShowHasCause r told before now → WritesDue s (show_answer_due paths r) w x → Ends (Rose before now) s d w x
  unfolding answer_due
  due_ends told d (Ok lines) a cause writes = subst (λ (e : Due). Ends (Rose before now) s e w x) (sym a) (text_ends (Rose before now) s lines w x writes)
  due_ends told d (Err (answer.Refused fault)) a cause writes =
      subst (λ (e : Due). Ends (Rose before now) s e w x) (sym a.1) (refused_ends (Rose before now) paths fault (verdict.Refused a.0) s w x (a.0, refl, a.2) writes)
  due_ends told d (Err answer.ReadFault) a cause writes = read_fault_ends (Rose before now) s d w x cause writes
  due_ends told d (Err answer.OutOfMemory) a cause writes = out_of_memory_ends (Rose before now) s d w x writes
  due_ends told d (Err answer.Correct) a cause writes = absurd a
  due_ends told d (Err answer.Incomplete) a cause writes = absurd a
  due_ends told d (Err (answer.Loaded commands)) a cause writes = absurd a

  pub show_ends : (told : Option Files) (file name : List ℕ) (r : Result (List ℕ) Verdict) → AnswersShow told file name paths r → ShowHasCause r told before now → WritesDue s (show_answer_due paths r) w x
      → EndsAs (Rose before now) told s (Some (Show file name)) w x
  unfolding due
  show_ends None file name r a cause writes = tt
  show_ends (Some files) file name r a cause writes = due_ends (Some files) (show_due files file name) r a cause writes

  pub show_cause : (told : Option Files) (r : Result (List ℕ) Verdict) (sink_before sink_now : ℕ) → WritesDue s (show_answer_due paths r) w x → ShowHasCause r told before now
      → (s ≡ status.WriteFault → Rose sink_before sink_now) → EndHasCause s before now sink_before sink_now
  show_cause told (Err v) sink_before sink_now writes cause written = end_has_cause told paths v s w x before now sink_before sink_now writes cause written
  show_cause told (Ok lines) sink_before sink_now writes cause written = text_has_cause s lines w x before now sink_before sink_now writes written

  pub show_no_usage : (r : Result (List ℕ) Verdict) → WritesDue s (show_answer_due paths r) w x → s ≢ status.Usage
  show_no_usage (Err v) writes = no_usage paths v s w x writes
  show_no_usage (Ok lines) writes = text_no_usage s lines w x writes

  pub show_absent : (told : Option Files) (r : Result (List ℕ) Verdict) → IsShowAnswer paths r → WritesDue s (show_answer_due paths r) w x → ShowHasCause r told before now → AbsentHasCause told w x before now
  show_absent told (Err v) kind writes cause = absent_by_answer told paths v s w x before now writes cause
  show_absent (Some files) (Ok lines) kind writes cause = tt
  show_absent None (Ok lines) kind writes cause = λ r absent old ew eu.
      let front = front_of_due s (lines_due lines) old (verdict_text (verdict.Refused r)) w x writes ew eu in
      absurd (lines_front lines kind front.0 r front.1)
