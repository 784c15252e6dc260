use Rattle.std.proofs.Common.{◌≡◌, ◌+◌, ◌≤◌, ◌++◌, [], ◌∷◌, length, All, sym, arith, subst}
use Rattle.std.proofs.lemmas.List.{length-append}
use Rattle.std.proofs.lemmas.List.Elements.{All-push}
use Rattle.eo_stated.specs.declared.checker.Evaluated.{Evaluated}
use Rattle.eo_stated.specs.Checking.{EvaluatedBelow, IsShallow}
use Rattle.eo_stated.proofs.Counted.{depths_push}
use Rattle.eo_stated.proofs.checker.Checker.push_evaluated.Goals as goal

pub returns-clause-held : goal.returns-clause-held
returns-clause-held c =
    let old = c.args.self.now in
    let h = c.requires.held in
    let below = EvaluatedBelow (length old.table.trees) in
    let es = old.block.items in
    let more : Evaluated = record { term = c.args.term; outcome = c.args.outcome; depth = c.args.depth } in
    let items = sym c.in_ok-push.ensures.items in
    let m = length (es ++ more ∷ []) in
    let longer : m ≡ length es + 1 = omega (arith, length-append es (more ∷ [])) in
    record {
      going = h.going;
      declared = h.declared;
      asserted = h.asserted;
      types = h.types;
      lasts = h.lasts;
      usable = h.usable;
      parts = h.parts;
      signature = h.signature;
      assertions = h.assertions;
      terms = h.terms;
      nested = h.nested;
      contexts = h.contexts;
      derivations = h.derivations;
      block = subst (All below) items (All-push below es more h.block (record { term = c.requires.term; outcome = c.requires.outcome }));
      depths = subst (λ xs. All (IsShallow (length xs)) xs) items
          (depths_push (length es) m es more (omega (arith, longer)) (omega (arith, longer, c.requires.depth)) h.depths);
      calls = h.calls;
    }
