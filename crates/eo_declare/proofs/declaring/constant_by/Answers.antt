use Rattle.std.proofs.Common.{refl}
use Rattle.eo_term.proofs.Growing.{grows_refl}
use Rattle.eo_declare.proofs.declaring.constant_by.Goals as goal

pub returns-in_default-clause-grows : goal.returns-in_default-clause-grows
returns-in_default-clause-grows c = record { table = grows_refl c.args.table.now; stays = record { signature = refl; macros = refl; below = c.requires } }
