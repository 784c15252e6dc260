-- How a run ends that writes a text with status 0.
use Rattle.std.proofs.Common.{◌≡◌, ◌≢◌, ℕ, List, Option, refl, inl}
use Rattle.eo_base.specs.Causes.{Rose}
use Rattle.eo_base.specs.declared.Status.{Status}
use Rattle.eo_base.specs.declared.Status.TheVariants as status
use Rattle.eo_run.specs.Answer.{WritesDue}
use Rattle.eo_run.specs.Printed.{Due}
use Rattle.eo_main.specs.Ends.{Ends, EndHasCause}

abbrev pub text_due : List ℕ → Due
text_due bytes = record { status = status.Ok; text = bytes }

pub text_ends : (F : Type 0) (s : Status) (bytes : List ℕ) (w x : Option (List ℕ)) → WritesDue s (text_due bytes) w x → Ends F s (text_due bytes) w x
text_ends F status.Ok bytes w x h = h
text_ends F status.Incomplete bytes w x h = h
text_ends F status.Refused bytes w x h = h
text_ends F status.Usage bytes w x h = h
text_ends F status.ReadFault bytes w x h = cc
text_ends F status.OutOfMemory bytes w x h = cc
text_ends F status.WriteFault bytes w x h = inl h

pub text_has_cause : (s : Status) (bytes : List ℕ) (w x : Option (List ℕ)) (before now sink_before sink_now : ℕ)
    → WritesDue s (text_due bytes) w x → (s ≡ status.WriteFault → Rose sink_before sink_now) → EndHasCause s before now sink_before sink_now
text_has_cause status.Ok bytes w x before now sink_before sink_now h f = tt
text_has_cause status.Incomplete bytes w x before now sink_before sink_now h f = tt
text_has_cause status.Refused bytes w x before now sink_before sink_now h f = tt
text_has_cause status.Usage bytes w x before now sink_before sink_now h f = tt
text_has_cause status.OutOfMemory bytes w x before now sink_before sink_now h f = tt
text_has_cause status.ReadFault bytes w x before now sink_before sink_now h f = cc
text_has_cause status.WriteFault bytes w x before now sink_before sink_now h f = f refl

pub text_no_usage : (s : Status) (bytes : List ℕ) (w x : Option (List ℕ)) → WritesDue s (text_due bytes) w x → s ≢ status.Usage
text_no_usage status.Ok bytes w x h = λ q. cc
text_no_usage status.Incomplete bytes w x h = λ q. cc
text_no_usage status.Refused bytes w x h = λ q. cc
text_no_usage status.Usage bytes w x h = cc
text_no_usage status.OutOfMemory bytes w x h = λ q. cc
text_no_usage status.ReadFault bytes w x h = λ q. cc
text_no_usage status.WriteFault bytes w x h = λ q. cc

pub text_not_refused : (s : Status) (bytes : List ℕ) (w x : Option (List ℕ)) → WritesDue s (text_due bytes) w x → s ≢ status.Refused
text_not_refused status.Ok bytes w x h = λ q. cc
text_not_refused status.Incomplete bytes w x h = λ q. cc
text_not_refused status.Refused bytes w x h = cc
text_not_refused status.Usage bytes w x h = λ q. cc
text_not_refused status.OutOfMemory bytes w x h = λ q. cc
text_not_refused status.ReadFault bytes w x h = λ q. cc
text_not_refused status.WriteFault bytes w x h = λ q. cc
