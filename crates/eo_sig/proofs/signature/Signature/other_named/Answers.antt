use Rattle.std.proofs.Common.{◌≡◌, ℕ, ◌<◌, List, Option, Some, None, length, sym, ◌∙◌, subst, arith}
use Rattle.std.specs.Option.{option_or, option_map}
use Rattle.eo_sig.specs.Signature as sig
use Rattle.eo_sig.specs.Reading.{Kept, signature, macros, programs_of, program_decl_of}
use Rattle.eo_sig.proofs.Tables.{numbers}
use Rattle.std.proofs.lemmas.List.{length-map}
use Rattle.eo_sig.proofs.Readings.{macro_found, program_found}
use Rattle.eo_sig.proofs.signature.Signature.other_named.Goals as goal

-- a name that is a macro's or a program's
abbrev named : Option ℕ → Option ℕ → Option sig.Named
named b d = option_or (option_map sig.NamesMacro b) (option_map sig.NamesProgram d)

pub returns-in-Some-clause-named : goal.returns-in-Some-clause-named
returns-in-Some-clause-named c = λ ts.
    let w : List ℕ = c.args.name.now in
    let b : Some c.in-Some.n ≡ sig.macro_named (macros ts c.args.self.now) w = subst (λ k. Some c.in-Some.n ≡ sig.macro_named (macros ts k) w) c.self.view_is
    (sym c.in-Some.is ∙ c.get_index_of.ensures.index ∙ macro_found ts w c.self.inside.macros.entries c.self.invariant.macros) in
    λ i. named (b i) (sig.program_named (signature ts c.args.self.now) w)

pub returns-in-Some-get_index_of-clause-named : goal.returns-in-Some-get_index_of-clause-named
returns-in-Some-get_index_of-clause-named c = λ ts.
    let w : List ℕ = c.args.name.now in
    let b : None ≡ sig.macro_named (macros ts c.args.self.now) w = subst (λ k. None ≡ sig.macro_named (macros ts k) w) c.self.view_is
    (sym c.in-None.is ∙ c.get_index_of.ensures.index ∙ macro_found ts w c.self.inside.macros.entries c.self.invariant.macros) in
    let p : Some c.in-Some-get_index_of.n ≡ sig.program_named (signature ts c.args.self.now) w = subst (λ k. Some c.in-Some-get_index_of.n ≡ sig.program_named (signature ts k) w) c.self.view_is
    (sym c.in-Some-get_index_of.is ∙ c.get_index_of-in-None.ensures.index ∙ program_found ts w c.self.inside.entries.items c.self.inside.programs.entries c.self.invariant.programs) in
    λ i. named (b i) (p i)

pub returns-in-None-get_index_of-clause-named : goal.returns-in-None-get_index_of-clause-named
returns-in-None-get_index_of-clause-named c = λ ts.
    let w : List ℕ = c.args.name.now in
    let b : None ≡ sig.macro_named (macros ts c.args.self.now) w = subst (λ k. None ≡ sig.macro_named (macros ts k) w) c.self.view_is
    (sym c.in-None.is ∙ c.get_index_of.ensures.index ∙ macro_found ts w c.self.inside.macros.entries c.self.invariant.macros) in
    let p : None ≡ sig.program_named (signature ts c.args.self.now) w = subst (λ k. None ≡ sig.program_named (signature ts k) w) c.self.view_is
    (sym c.in-None-get_index_of.is ∙ c.get_index_of-in-None.ensures.index ∙ program_found ts w c.self.inside.entries.items c.self.inside.programs.entries c.self.invariant.programs) in
    λ i. named (b i) (p i)

pub returns-in-Some-clause-within : goal.returns-in-Some-clause-within
returns-in-Some-clause-within c =
    subst (λ (k : Kept). c.in-Some.n < length k.macros) c.self.view_is
    (omega (arith, c.in-Some.ensures.within, length-map c.self.inside.macros.entries (λ e. e.1)))

pub returns-in-Some-get_index_of-clause-within : goal.returns-in-Some-get_index_of-clause-within
returns-in-Some-get_index_of-clause-within c =
    subst (λ (k : Kept). c.in-Some-get_index_of.n < length (programs_of k)) c.self.view_is
    (omega (arith, c.in-Some-get_index_of.ensures.within, numbers program_decl_of (λ d. d.name) c.self.inside.entries.items c.self.inside.programs.entries c.self.invariant.programs))
