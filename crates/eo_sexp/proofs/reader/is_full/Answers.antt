use Rattle.std.proofs.Common.{◌≡◌, refl, ap, ◌∙◌, List, [], ◌∷◌}
use Rattle.std.proofs.Math.Dec.{leb}
use Rattle.eo_base.specs.Limits.{limits}
use Rattle.eo_sexp.specs.Built.{OpenList, width_of}
use Rattle.eo_sexp.specs.Reader.{is_full}
use Rattle.eo_sexp.proofs.reader.is_full.Goals as goal

full-width : (fs : List OpenList) → leb 65_536 (width_of fs) ≡ is_full limits fs
unfolding is_full limits
full-width [] = refl
full-width (f ∷ fs) = refl

pub returns : goal.returns
returns c = ap (leb 65_536) c.width.ensures ∙ full-width c.args.buffer.now.open_lists
