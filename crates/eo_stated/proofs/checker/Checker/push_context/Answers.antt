use Rattle.std.proofs.Common.{◌≡◌, ◌++◌, [], ◌∷◌, length, All, sym, ap, ◌∙◌, subst}
use Rattle.std.proofs.lemmas.List.Elements.{All-push}
use Rattle.eo_stated.specs.declared.checker.Context.{Context}
use Rattle.eo_stated.specs.Checking.{stated_of, read_contexts, AreNested, ContextBelow}
use Rattle.eo_stated.proofs.Nested.{contexts_push, nested_push}
use Rattle.eo_stated.proofs.checker.Checker.push_context.Goals as goal

pub returns-clause-does : goal.returns-clause-does
returns-clause-does c =
    let old = c.args.self.now in
    let ts = old.table.trees in
    let more : Context = record { outer = c.args.outer; assumed = c.args.assumed } in
    let e = ap (read_contexts ts) c.in_ok-push.ensures.items ∙ contexts_push ts old.contexts.items more in
    λ i. record (stated_of old) { contexts = e i }

pub returns-clause-held : goal.returns-clause-held
returns-clause-held c =
    let old = c.args.self.now in
    let h = c.requires.held in
    let below = ContextBelow (length old.table.trees) in
    let more : Context = record { outer = c.args.outer; assumed = c.args.assumed } in
    let items = sym c.in_ok-push.ensures.items in
    record {
      going = h.going;
      declared = h.declared;
      asserted = h.asserted;
      types = h.types;
      lasts = h.lasts;
      usable = h.usable;
      parts = h.parts;
      signature = h.signature;
      assertions = h.assertions;
      terms = h.terms;
      nested = subst (AreNested 1) items (nested_push old.contexts.items more h.nested c.requires.outer);
      contexts = subst (All below) items (All-push below old.contexts.items more h.contexts c.requires.live);
      derivations = h.derivations;
      block = h.block;
      depths = h.depths;
      calls = h.calls;
    }
