use Rattle.std.proofs.Common.{rules}
use Rattle.eo_lines.proofs.FieldCuts.{ended_none}
use Rattle.eo_lines.proofs.fields.Fields.is_empty.Goals as goal

pub returns : goal.returns
returns c = search (rules, ended_none)
