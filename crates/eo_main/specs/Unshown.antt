-- The verdict of what refuses a value, or its lines.
use Rattle.eo_base.specs.declared.FaultName.TheVariants.{Unprintable}
use Rattle.eo_base.specs.declared.Place.{Place}
use Rattle.eo_session.specs.declared.refused.Refused.{Refused}
use Rattle.eo_session.specs.declared.refused.Refused.TheVariants as refused
use Rattle.eo_show.specs.declared.refused.ShowRefused.{ShowRefused}
use Rattle.eo_show.specs.declared.refused.ShowRefused.TheVariants as unshown
use Rattle.eo_run.specs.declared.Verdict.{Verdict}
use Rattle.eo_run.specs.declared.Verdict.TheVariants as answer

-- a session that is not ended is never refused as one that is
abbrev pub of_value : Refused → Place → Verdict
of_value (refused.Fault name) place = answer.Refused (record { name = name; place = place })
of_value refused.Ended place = answer.OutOfMemory
of_value (refused.Memory e) place = answer.OutOfMemory

abbrev pub of_lines : ShowRefused → Place → Verdict
of_lines unshown.Unprintable place = answer.Refused (record { name = Unprintable; place = place })
of_lines (unshown.Memory e) place = answer.OutOfMemory
