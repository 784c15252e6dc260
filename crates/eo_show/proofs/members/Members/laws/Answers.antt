use Rattle.eo_show.proofs.Same.{apart_same}
use Rattle.eo_show.proofs.members.Members.laws.Goals as goal

pub returns : goal.returns
returns c = apart_same c.args.table.now c.laws.ensures c.text_laws.ensures c.args.self.now.found.keys c.requires c.len-count.ensures.unique
