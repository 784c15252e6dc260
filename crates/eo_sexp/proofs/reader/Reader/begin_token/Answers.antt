use Rattle.std.proofs.Common.{refl, sym, ap, ◌∙◌}
use Rattle.eo_base.specs.Limits.{limits}
use Rattle.eo_sexp.specs.Token.{class_of}
use Rattle.eo_sexp.specs.Reader.{held}
use Rattle.eo_sexp.proofs.LimitFacts.{some_token}
use Rattle.eo_sexp.proofs.TokenBegins.{quote_begins, bar_begins, word_begins, word-is}
use Rattle.eo_sexp.proofs.TokenPositions.{text-none, text-first}
use Rattle.eo_sexp.proofs.reader.Reader.begin_token.Goals as goal

pub returns-in-Quote : goal.returns-in-Quote
returns-in-Quote c = λ b e. quote_begins limits some_token (held b c.args.self.now) _ c.args.at c.args.x refl refl refl refl (text-none b.bytes c.args.x c.args.at e) (sym c.requires.class ∙ ap class_of c.in-Quote.is)

pub returns-in-Bar : goal.returns-in-Bar
returns-in-Bar c = λ b e. bar_begins limits some_token (held b c.args.self.now) _ c.args.at c.args.x refl refl refl refl (text-none b.bytes c.args.x c.args.at e) (sym c.requires.class ∙ ap class_of c.in-Bar.is)

pub returns-in_default : goal.returns-in_default
returns-in_default c = λ b e. word_begins limits some_token (held b c.args.self.now) _ c.args.at c.args.x refl refl refl refl (text-first b.bytes c.args.x c.args.at e)
    (word-is c.args.c c.args.x c.requires.class c.requires.atom c.in_default.not-Quote c.in_default.not-Bar)
