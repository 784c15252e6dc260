use Rattle.std.proofs.Common.{refl}
use Rattle.eo_base.specs.Limits.{limits}
use Rattle.eo_sexp.specs.Built.{nothing, with_byte}
use Rattle.eo_sexp.specs.Reader.{held}
use Rattle.eo_sexp.proofs.LimitFacts.{some_token}
use Rattle.eo_sexp.proofs.TokenBegins.{atom-begins}
use Rattle.eo_sexp.proofs.reader.Reader.begin_atom.Goals as goal

pub returns : goal.returns
returns c = atom-begins limits some_token (held nothing c.args.self.now) (held (with_byte nothing c.args.x) c.begin_token.new.self) c.args.x refl refl c.requires.atom (c.begin_token.ensures nothing refl)
