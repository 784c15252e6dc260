use Rattle.eo_cert.proofs.Apart.{written_again}
use Rattle.eo_cert.proofs.laws.written_law.Goals as goal

pub returns : goal.returns
returns c = λ st new other from to command same written e. written_again other st new from to command same written e
