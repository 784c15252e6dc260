use Rattle.eo_trim.proofs.Records.{records-none}
use Rattle.eo_trim.proofs.recording.Recorder.new.Goals as goal

pub returns : goal.returns
returns c = record { begins = records-none _ c.new.ensures c.new-2.ensures.items }
