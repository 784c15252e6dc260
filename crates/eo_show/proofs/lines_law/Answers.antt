use Rattle.eo_show.proofs.AllMembers.{are-members, lines-new}
use Rattle.eo_show.proofs.LinesPrint.{are-lines}
use Rattle.eo_show.proofs.lines_law.Goals as goal

pub returns-clause-members : goal.returns-clause-members
returns-clause-members c = are-members

pub returns-clause-names : goal.returns-clause-names
returns-clause-names c = lines-new

pub returns-clause-lines : goal.returns-clause-lines
returns-clause-lines c = are-lines
