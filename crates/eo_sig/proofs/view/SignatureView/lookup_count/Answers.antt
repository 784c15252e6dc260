use Rattle.std.proofs.Common.{◌≡◌, Some, None, length, ap, sym, subst, ◌∙◌}
use Rattle.std.specs.Prelude.{option_map, IfSome}
use Rattle.std.specs.Option.{option_or, option_copied}
use Rattle.eo_sig.specs.Signature as sig
use Rattle.eo_sig.specs.Reading.{Kept, signature, macros, read_named, programs_of, IsWithin}
use Rattle.eo_sig.specs.Views.{own_entry}
use Rattle.eo_sig.proofs.Views.{own_lookup_count, within_before, within_own}
use Rattle.eo_sig.proofs.view.SignatureView.lookup_count.Goals as goal

pub returns-in-Some-clause-named : goal.returns-in-Some-clause-named
returns-in-Some-clause-named c = λ ts.
    let k = c.self.inside.sig.now in
    let o = option_copied c.self.inside.own in
    let w = c.args.name.now in
    let n = length (programs_of k) in
    let own : sig.lookup_count (signature ts k) (macros ts k) w c.args.n ≡ Some (read_named c.in-Some.entry) = sym (c.lookup_count.ensures.named ts) ∙ ap (option_map read_named) c.in-Some.is in
    sym (ap (λ (k : Kept). sig.lookup_count (signature ts k) (macros ts k) w c.args.n) (sym c.self.view_is) ∙ own_lookup_count ts k w c.args.n o n (λ i. n) ∙ ap (λ x. option_or x (option_map read_named (own_entry o n w))) own)

pub returns-in-Some-clause-within : goal.returns-in-Some-clause-within
returns-in-Some-clause-within c =
    subst (λ (k : Kept). IsWithin k c.in-Some.entry) c.self.view_is
    (within_before c.self.inside.sig.now (option_copied c.self.inside.own) c.in-Some.entry c.in-Some.ensures.within)

pub returns-in-None-clause-named : goal.returns-in-None-clause-named
returns-in-None-clause-named c = λ ts.
    let k = c.self.inside.sig.now in
    let o = option_copied c.self.inside.own in
    let w = c.args.name.now in
    let n = c.programs.result in
    let count : length (programs_of k) ≡ n = sym c.programs.ensures.count in
    let own : sig.lookup_count (signature ts k) (macros ts k) w c.args.n ≡ None = sym (c.lookup_count.ensures.named ts) ∙ ap (option_map read_named) c.in-None.is in
    sym (ap (λ (k : Kept). sig.lookup_count (signature ts k) (macros ts k) w c.args.n) (sym c.self.view_is) ∙ own_lookup_count ts k w c.args.n o n count ∙ ap (λ x. option_or x (option_map read_named (own_entry o n w))) own ∙ ap (option_map read_named) (sym c.own_named.ensures))

pub returns-in-None-clause-within : goal.returns-in-None-clause-within
returns-in-None-clause-within c =
    let k = c.self.inside.sig.now in
    let o = option_copied c.self.inside.own in
    let count : length (programs_of k) ≡ c.programs.result = sym c.programs.ensures.count in
    subst (λ r. IfSome r (λ e. IsWithin c.args.self.now e)) (sym c.own_named.ensures)
    (subst (λ (k : Kept). IfSome (own_entry o c.programs.result c.args.name.now) (λ e. IsWithin k e)) c.self.view_is (within_own k o c.programs.result c.args.name.now count))
