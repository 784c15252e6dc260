use Rattle.std.proofs.Common.{◌≡◌, ◌-◌, ◌≤◌, ◌++◌, All, true, length, length-take-le, take, filter, replicate, sym, ap, ◌∙◌, subst, arith}
use Rattle.eo_type.specs.Known.{is_before}
use Rattle.eo_type.specs.Greatest.{AreGreatest}
use Rattle.eo_type.proofs.Greatest.{greatest_before}
use Rattle.eo_type.proofs.known.TypeCache.forget_from.Goals as goal

pub invariant_of-self : goal.invariant_of-self
invariant_of-self c =
    let ns = c.self.inside.greatest.items in
    let es = c.self.inside.types.entries in
    let fs = c.truncate.new.self.entries in
    let n = c.args.terms in
    let start = c.args.start in
    let end = c.gather-end.result in
    let long : length fs ≡ end = ap length c.truncate.ensures.entries ∙ length-take-le end c.gather-end.new.types.entries (omega (arith, c.gather-end.ensures.within, c.gather-end.ensures.long)) in
    let within : start ≤ length es = subst (λ xs. start ≤ length xs) (sym c.self.view_is) c.requires.within in
    let before : All (λ e. is_before n e ≡ true) (take start es) = subst (λ xs. All (λ e. is_before n e ≡ true) (take start xs)) (sym c.self.view_is) c.requires.before in
    let same : fs ≡ filter (is_before n) es = c.truncate.ensures.entries ∙ c.gather-end.ensures.gathered in
    let less : n - 1 ≡ c.saturating_sub.result = sym c.saturating_sub.ensures in
    let numbers : take start ns ++ replicate (length fs - start) (n - 1) ≡ c.cut.new.greatest.items = (λ j. take start ns ++ replicate (long j - start) (less j)) ∙ sym c.cut.ensures in
    subst (λ ms. AreGreatest ms fs) numbers (greatest_before ns es fs n start c.self.invariant within before same (omega (arith, long, c.gather-end.ensures.from)))
