-- Each value that a name has at the end of a load is within the limits of values that are shown.
use Rattle.std.specs.Prelude.{◌≡◌, refl, ℕ, ℤ, zero, suc, pos, negsuc, FitsSigned, Bool, true, false, if◌then◌else◌, List, [], ◌∷◌, Ok, Err}
use Rattle.std.specs.List.{list_all}
use Rattle.std.specs.Int.{w128}
use Rattle.std.proofs.Common.{ap, subst, arith}
use Rattle.std.proofs.lemmas.Bool.{leb-true, ltb-true}
use Rattle.eo_base.proofs.Tests.{both}
use Rattle.eo_base.proofs.ChecksLemmas.{ok_injective, err_is_not_ok, bind_ok}
use Rattle.eo_base.specs.Characters.{AreCharacters}
use Rattle.eo_base.specs.Checks.{value_or}
use Rattle.eo_base.specs.Limits.{limits, numbers_limit}
use Rattle.eo_base.specs.declared.FaultName.TheVariants as fault
use Rattle.eo_io.specs.Library.{Files}
use Rattle.eo_sig.specs.Signature.{Signature, lookup}
use Rattle.eo_sig.specs.Usable.{IsUsable}
use Rattle.eo_stack.specs.Evaluation.{Outcome, Value, Stuck, Deep, Calls, Range, Tall, eval0}
use Rattle.eo_eval.specs.Faults.{value_or_fault}
use Rattle.eo_session.specs.Origin.{Origin}
use Rattle.eo_session.specs.State.{State, first_state, begin_reference}
use Rattle.eo_session.specs.Step.{evaluated, macro_tree, value_named}
use Rattle.eo_session.specs.Commands.{step}
use Rattle.eo_session.specs.declared.Next.{Next}
use Rattle.eo_sound.specs.Soundness.{IsSound}
use Rattle.eo_run.specs.Run.{Progress, first_load, run_load}
use Rattle.eo_run.specs.Seen.{Seen}
use Rattle.eo_run.proofs.Runs.{Keeping, signature_keeps}
use Rattle.eo_sexp.specs.Sexp.{Sexp}
use Rattle.eo_term.specs.Ranges.{IsInRange, AllInRange}
use Rattle.eo_term.specs.Tree.{Tree, Con, Num, Bits, Str, Par, Var, App, Arr, Qar, Op, Trees, NoTree, More, is_value}
use Rattle.eo_ops.specs.Operators.{is_in_range}
use Rattle.eo_show.specs.Members.{is_unprintable}
use Rattle.eo_show.specs.Printable.{CanShow}
use Rattle.eo_roundtrip.specs.Shown.{HasRoom, ShowsBack, ValuesShowBack}
use Rattle.eo_roundtrip.proofs.Within.{is_character, all_within}
use Rattle.eo_roundtrip.proofs.Ranges.{IsWithin, text-all, bits-few, bits-low}
use Rattle.eo_roundtrip.proofs.EvalValues.{fit-within, fit-low}
use Rattle.eo_roundtrip.proofs.ReadFiles.{texts-fit}
use Rattle.eo_roundtrip.proofs.ShapesWithin.{Fits}
use Rattle.eo_roundtrip.proofs.StepsWithin.{InState, step-kept, named-fits}

-- ---- the ranges of values

number-range : (z : ℤ) → is_in_range z ≡ true → FitsSigned w128 z
number-range (pos n) h = record { sfits = ltb-true n numbers_limit h }
number-range (negsuc n) h = record { sfits = ltb-true n numbers_limit h }

characters : (s : List ℕ) → list_all is_character s ≡ true → AreCharacters s
characters [] h k d l = absurd (omega (arith, l))
characters (c ∷ s) h zero d l = leb-true c 0x2_ffff (both h).0
characters (c ∷ s) h (suc k) d l = characters s (both h).1 k d (omega (arith, l))

mutual
  in-range : (t : Tree) → IsWithin t → IsInRange t
  in-range (Con k) h = tt
  in-range (Num z) h = number-range z h
  in-range (Bits w v) h = (bits-few w v h, bits-low w v h)
  in-range (Str s) h = characters s (text-all s h)
  in-range (Par i) h = tt
  in-range (Var s t) h = (characters s (text-all s (both h).0), in-range t (both h).1)
  in-range (App f x) h = (in-range f (both h).0, in-range x (both h).1)
  in-range (Arr a b) h = (in-range a (both h).0, in-range b (both h).1)
  in-range (Qar i t b) h = (in-range t (both h).0, in-range b (both h).1)
  in-range (Op c ts) h = all-in-range ts h

  all-in-range : (ts : Trees) → all_within ts ≡ true → AllInRange ts
  all-in-range NoTree h = tt
  all-in-range (More t ts) h = (in-range t (both h).0, all-in-range ts (both h).1)

-- ---- runs

abbrev Any : Origin → Type 0
Any from = Unit {0}

-- sound, and of trees within their ranges
pub record InRun (st : State) : Type 0 where
  pub sound : IsSound st
  pub trees : InState st

abbrev InRunSeen : State → List Seen → Type 0
InRunSeen st seen = InRun st

trees-begin : (st new : State) → InState st → begin_reference st ≡ Ok new → InState new
unfolding begin_reference
trees-begin st new h e = by st.has_reference e
  where
    by : (b : Bool) → (if b then Err fault.SecondReference else Ok (record st { has_reference = true })) ≡ Ok new → InState new
    by true k = absurd (err_is_not_ok fault.SecondReference new k)
    by false k = subst InState (ok_injective (record st { has_reference = true }) new k) (record { signature = h.signature; macros = h.macros })

trees-first : (closed : Bool) → InState (first_state closed)
unfolding first_state
trees-first closed = record { signature = refl; macros = refl }

-- the value of a name is that of a tree
named-value : (st : State) (name : List ℕ) (v : Tree) → value_named st name ≡ Ok v → (t : Tree) × (eval0 st.signature t ≡ Value v)
unfolding value_named evaluated
named-value st name v e =
    let t = bind_ok (value_or fault.UnknownSymbol (macro_tree st.macros (lookup st.signature st.macros name))) _ v e in
    (t.0, by_outcome (eval0 st.signature t.0) t.2)
  where
    by_outcome : (o : Outcome Tree) → value_or_fault o ≡ Ok v → o ≡ Value v
    by_outcome (Value u) q = ap Value (ok_injective u v q)
    by_outcome Stuck q = absurd (err_is_not_ok fault.Stuck v q)
    by_outcome Deep q = absurd (err_is_not_ok fault.EvalDepth v q)
    by_outcome Calls q = absurd (err_is_not_ok fault.EvalCalls v q)
    by_outcome Range q = absurd (err_is_not_ok fault.NumberRange v q)
    by_outcome Tall q = absurd (err_is_not_ok fault.TermHeight v q)

module _ (first : (closed : Bool) → IsSound (first_state closed)) (begin : (st new : State) → IsSound st → begin_reference st ≡ Ok new → IsSound new)
    (command : (st : State) (from : Origin) (s : Sexp) (r : State × Next) → IsSound st → step st from s ≡ Ok r → IsSound r.0)
    (values : (S : Signature) (t v : Tree) → IsUsable S → eval0 S t ≡ Value v → is_value v ≡ true) where
  keeping : Keeping InRunSeen Any Fits
  keeping =
      record {
        read = texts-fit limits;
        steps = λ st before from s k r al fits act h e. record { sound = command st from s r h.sound e; trees = step-kept st from s r fits h.trees e };
        begins = λ st new before h e. record { sound = begin st new h.sound e; trees = trees-begin st new h.trees e };
        reference = tt;
      }

  load-within : (files : Files) (name : List ℕ) (final : Progress) → run_load files name ≡ Ok final → InRun final.state
  unfolding run_load
  load-within files name final e =
      signature_keeps InRunSeen Any Fits keeping files tt name (first_load name) final (record { sound = first false; trees = trees-first false }) e

  -- It is a value of a tree in a signature of trees within their ranges, and has few lines.
  can-show : (st : State) → InRun st → (name : List ℕ) (t : Tree) → value_named st name ≡ Ok t → is_unprintable st.signature t ≡ false → HasRoom st t → CanShow st.signature st.macros t
  can-show st h name t e printable room =
      let fit = named-fits st h.trees name t e in
      let of = named-value st name t e in
      record {
        value = values st.signature of.0 t h.sound.usable of.1;
        low = fit-low t fit;
        in_range = in-range t (fit-within t fit);
        printable = printable;
        room = room;
      }

  pub load-values : (files : Files) (name : List ℕ) (final : Progress) → run_load files name ≡ Ok final → ShowsBack final.state → ValuesShowBack final.state
  load-values files name final e shows n t found printable room =
      shows t (can-show final.state (load-within files name final e) n t found printable room)
