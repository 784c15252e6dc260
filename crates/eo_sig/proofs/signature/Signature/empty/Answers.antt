use Rattle.std.proofs.Common.{None, refl}
use Rattle.eo_sig.proofs.Keeping.{kept_none}
use Rattle.eo_sig.proofs.signature.Signature.empty.Goals as goal

pub invariant_of-result : goal.invariant_of-result
invariant_of-result c =
    kept_none c.new.result.items c.new-2.result.items c.with_hasher.result.entries c.new-overloads.result c.with_hasher-2.result.entries c.with_hasher-3.result.entries c.with_hasher-4.result.entries None None None
    c.new.ensures.items c.new-2.ensures.items c.with_hasher.ensures.empty c.new-overloads.ensures c.with_hasher-2.ensures.empty c.with_hasher-3.ensures.empty c.with_hasher-4.ensures.empty refl refl refl
