use Rattle.std.proofs.Common.{sym, ◌∙◌, arith}
use Rattle.eo_sig.specs.Reading.{signature, read_constant}
use Rattle.eo_show.proofs.Lookups.{name_given, no_name}
use Rattle.eo_show.proofs.spelling.name_of.Goals as goal

pub returns-then-constant-constants : goal.returns-then-constant-constants
returns-then-constant-constants c = λ ts. sym (no_name (signature ts c.args.sig.now) c.args.constant (omega (arith, c.constants.ensures.value ts)))

pub returns : goal.returns
returns c = λ ts. c.as_bytes.ensures ∙ sym (name_given (signature ts c.args.sig.now) c.args.constant (read_constant ts c.constant.result.now) (c.constant.ensures.value ts))
