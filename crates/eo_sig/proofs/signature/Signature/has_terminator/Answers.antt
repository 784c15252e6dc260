use Rattle.std.proofs.Common.{◌≡◌, ◌<◌, ◌≤◌, length, sym, ap, ◌∙◌, subst, arith}
use Rattle.std.specs.Prelude.{is_some, option_and_then}
use Rattle.std.proofs.lemmas.Bool.{le-ltb}
use Rattle.std.proofs.lemmas.Option.{slice_get_past}
use Rattle.eo_sig.specs.Signature as sig
use Rattle.eo_sig.specs.Reading.{Kept, signature, constants_of, read_constant}
use Rattle.std.proofs.lemmas.List.{length-map}
use Rattle.eo_sig.proofs.Readings.{constants_read, places_count}
use Rattle.eo_sig.proofs.signature.Signature.has_terminator.Goals as goal

pub constant-requires : goal.constant-requires
constant-requires c =
    subst (λ (k : Kept). c.args.n < length (constants_of k)) c.self.view_is
    (omega (arith, c.if-n-len.true, c.len.ensures, places_count c.self.inside.entries.items c.self.inside.constants.items c.self.invariant.constants))

pub returns-then-n-len : goal.returns-then-n-len
returns-then-n-len c = λ ts.
    c.ends_at_right.ensures ts ∙ ap (λ o. is_some (option_and_then (λ (d : sig.Constant). sig.terminator_of d.attribute) o)) (sym (c.constant.ensures.value ts))

pub returns-else-n-len : goal.returns-else-n-len
returns-else-n-len c = λ ts.
    let count = places_count c.self.inside.entries.items c.self.inside.constants.items c.self.invariant.constants in
    let past : length (constants_of c.args.self.now) ≤ c.args.n = subst (λ (k : Kept). length (constants_of k) ≤ c.args.n) c.self.view_is (omega (arith, c.if-n-len.false, c.len.ensures, count)) in
    let numbered : length (sig.constants (signature ts c.args.self.now)) ≡ length (constants_of c.args.self.now) = ap length (constants_read ts c.args.self.now.entries) ∙ length-map (constants_of c.args.self.now) (read_constant ts) in
    let absent = slice_get_past (sig.constants (signature ts c.args.self.now)) c.args.n (omega (arith, past, numbered)) in
    le-ltb c.args.n c.len.result c.if-n-len.false ∙ ap (λ o. is_some (option_and_then (λ (d : sig.Constant). sig.terminator_of d.attribute) o)) (sym absent)
