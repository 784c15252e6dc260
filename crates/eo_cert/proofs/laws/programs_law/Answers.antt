use Rattle.eo_cert.proofs.Certified.{certified_checked}
use Rattle.eo_cert.proofs.Checking.{first_checked, step_checked}
use Rattle.eo_cert.proofs.laws.programs_law.Goals as goal

pub returns-clause-first : goal.returns-clause-first
returns-clause-first c = first_checked

pub returns-clause-command : goal.returns-clause-command
returns-clause-command c = step_checked

pub returns-clause-certificate : goal.returns-clause-certificate
returns-clause-certificate c = certified_checked c.longer_law.ensures
