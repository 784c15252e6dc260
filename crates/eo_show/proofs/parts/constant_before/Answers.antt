use Rattle.std.proofs.Common.{ap, sym, ◌∙◌, Some, None}
use Rattle.eo_sig.specs.Reading.{signature, macros, read_named}
use Rattle.eo_sig.specs.Signature.{NamesConstant, NamesMacro, NamesProgram}
use Rattle.eo_show.proofs.Lookups.{as_constant_before}
use Rattle.eo_show.proofs.parts.constant_before.Goals as goal

pub returns-in-Some-Constant : goal.returns-in-Some-Constant
returns-in-Some-Constant c = λ ts.
    as_constant_before (signature ts c.args.sig.now) (macros ts c.args.sig.now) c.args.name.now c.args.n (Some (NamesConstant c.in-Some-Constant.k)) (ap (λ e. Some (read_named e)) (sym c.in-Some-Constant.field-0-is) ∙ c.in-Some-Constant.ensures.named ts)

pub returns-in-Some-Macro : goal.returns-in-Some-Macro
returns-in-Some-Macro c = λ ts.
    as_constant_before (signature ts c.args.sig.now) (macros ts c.args.sig.now) c.args.name.now c.args.n (Some (NamesMacro c.in-Some-Macro.field-0-0)) (ap (λ e. Some (read_named e)) (sym c.in-Some-Macro.field-0-is) ∙ c.in-Some-Macro.ensures.named ts)

pub returns-in-Some-Program : goal.returns-in-Some-Program
returns-in-Some-Program c = λ ts.
    as_constant_before (signature ts c.args.sig.now) (macros ts c.args.sig.now) c.args.name.now c.args.n (Some (NamesProgram c.in-Some-Program.field-0-0)) (ap (λ e. Some (read_named e)) (sym c.in-Some-Program.field-0-is) ∙ c.in-Some-Program.ensures.named ts)

pub returns-in-None : goal.returns-in-None
returns-in-None c = λ ts.
    as_constant_before (signature ts c.args.sig.now) (macros ts c.args.sig.now) c.args.name.now c.args.n None (c.in-None.ensures.named ts)
