use Rattle.std.proofs.Common.{ℕ, ◌≡◌, ◌<◌, length, map, take, ap, sym, subst, ◌∙◌}
use Rattle.eo_sig.specs.Reading.{IsBelow}
use Rattle.eo_session.specs.State.{State}
use Rattle.eo_term.specs.Terms.{tree_at}
use Rattle.eo_stated.specs.Checking.{ContextBelow, DerivationBelow, EvaluatedBelow, CallBelow, IsShallow, AreNested}
use Rattle.eo_stated.specs.Sizes.{HasFewParts}
use Rattle.eo_stated.proofs.Firsts.{all_none, first_parts, first_declared, first_asserted}
use Rattle.eo_stated.proofs.beginning.first.Goals as goal

pub returns-clause-held : goal.returns-clause-held
returns-clause-held c =
    let four = ap (take 4) c.requires.trees in
    let table = c.args.parts.table in
    let n : ℕ = length table.trees in
    record {
      going = c.requires.new.going;
      declared = c.requires.signature.read table.trees four ∙ (first_declared ∙ ap (λ (st : State). st.signature) (sym c.requires.new.state));
      asserted = ap (map (tree_at table.trees)) c.new.ensures ∙ (first_asserted ∙ ap (λ (st : State). st.assertions) (sym c.requires.new.state));
      types = c.new-types.ensures.fits _ _;
      lasts = c.laws.ensures;
      usable = c.requires.signature.usable table.trees four;
      parts = subst HasFewParts (sym (c.requires.signature.read table.trees four)) first_parts;
      signature = subst (λ m. IsBelow m c.args.parts.signature) (sym (ap length c.requires.trees)) c.requires.signature.below;
      assertions = all_none (λ i. i < n) c.new.result c.new.ensures;
      terms = all_none (λ i. i < n) c.new-2.result.items c.new-2.ensures.items;
      nested = subst (AreNested 1) (sym c.new-3.ensures.items) tt;
      contexts = all_none (ContextBelow n) c.new-3.result.items c.new-3.ensures.items;
      derivations = all_none (DerivationBelow n) c.new-4.result.items c.new-4.ensures.items;
      block = all_none (EvaluatedBelow n) c.new-5.result.items c.new-5.ensures.items;
      depths = all_none (IsShallow (length c.new-5.result.items)) c.new-5.result.items c.new-5.ensures.items;
      calls = all_none (CallBelow n) c.new-6.result.keys c.new-6.ensures.empty;
    }
