use Rattle.std.proofs.Common.{◌≡◌, ◌+◌, ◌≤◌, ◌^◌, suc, length, arith, subst}
use Rattle.std.proofs.lemmas.List.{length-map}
use Rattle.eo_sig.specs.Signature.{Signature}
use Rattle.eo_term.specs.Terms.{tree_at}
use Rattle.eo_stated.specs.Checking.{read_derivation, read_evaluated, signature_of}
use Rattle.eo_stated.specs.Sizes.{HasFewParts}
use Rattle.eo_stated.proofs.Counted.{depths_read}
use Rattle.eo_stated.proofs.Nested.{contexts_length, contexts_near}
use Rattle.eo_stated.proofs.checker.Checker.sizes.Goals as goal

pub returns : goal.returns
returns c =
    let old = c.args.self.now in
    let ts = old.table.trees in
    let contexts : suc (length old.contexts.items) ≤ 2 ^ 64 = omega arith in
    let block : length old.block.items + 2 ≤ 2 ^ 64 = omega arith in
    let declared : length (signature_of old) ≤ 2 ^ 64 = omega (arith, c.declarations-declared.ensures ts) in
    record {
      terms = omega (arith, length-map old.terms.items (tree_at ts));
      contexts = omega (arith, contexts_length ts old.contexts.items, contexts);
      outer = contexts_near ts (2 ^ 64) old.contexts.items contexts c.requires.nested;
      derivations = omega (arith, length-map old.derivations.items (read_derivation ts));
      block = omega (arith, length-map old.block.items (read_evaluated ts));
      declared = subst (λ (S : Signature). length S ≤ 2 ^ 64) c.requires.declared declared;
      parts = subst HasFewParts c.requires.declared c.requires.parts;
      depths = depths_read ts (length old.block.items) block old.block.items c.requires.depths;
    }
