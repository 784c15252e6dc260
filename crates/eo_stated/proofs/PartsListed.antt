-- Parts that are listed.
use Rattle.std.proofs.Common.{◌≡◌, refl, false, List}
use Rattle.std.specs.Prelude.{if◌then◌else◌}
use Rattle.eo_term.specs.Tree.{Tree, is_value}
use Rattle.eo_cert.specs.Stated.{Evaluated}
use Rattle.eo_cert.specs.Rules.{part, next}

pub part_next : (t : Tree) (listed : List Evaluated) → is_value t ≡ false → part t listed ≡ next t listed
part_next t listed h = rw h refl
