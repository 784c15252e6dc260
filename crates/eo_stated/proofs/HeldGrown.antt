-- What is held where the table has grown.
use Rattle.std.proofs.Common.{◌≡◌, refl, ℕ, ◌<◌, ◌≤◌, List, [], ◌∷◌, length, map, All, Option, Some, None, sym, ap, ◌∙◌, arith, subst}
use Rattle.std.specs.Prelude.{option_map}
use Rattle.std.proofs.lemmas.List.Elements.{All-head, All-tail, All-weaker}
use Rattle.eo_term.specs.Tree.{Tree}
use Rattle.eo_term.specs.Terms.{Terms, tree_at}
use Rattle.eo_term.specs.Growth.{Grows}
use Rattle.eo_sig.specs.Reading.{Stays, SomeBelow, signature}
use Rattle.eo_sig.specs.Usable.{IsUsable}
use Rattle.eo_type.specs.Known.{Fits, Lasts}
use Rattle.eo_stack.specs.declared.calls.CallKey.{CallKey}
use Rattle.eo_stated.specs.declared.checker.Context.{Context}
use Rattle.eo_stated.specs.declared.checker.Derivation.{Derivation}
use Rattle.eo_stated.specs.declared.checker.Evaluated.{Evaluated}
use Rattle.eo_stated.specs.declared.checker.Checker.{Checker}
use Rattle.eo_stated.specs.Checking.{stated_of, read_derivation, read_evaluated, read_call, AreBelow, ContextBelow, DerivationBelow, EvaluatedBelow, CallBelow, IsHeld, Keeps}
use Rattle.eo_stated.specs.Sizes.{HasFewParts}
use Rattle.eo_stated.proofs.Nested.{contexts_same}

map_grown : {X Y : Type 0} (P : X → Type 0) (f g : X → Y) → ((x : X) → P x → f x ≡ g x) → (xs : List X) → All P xs → map f xs ≡ map g xs
map_grown P f g e [] h = refl
map_grown P f g e (x ∷ xs) h = λ i. e x (All-head P x xs h) i ∷ map_grown P f g e xs (All-tail P x xs h) i

module _ (n m : ℕ) (more : n ≤ m) where
  pub ids_more : (is : List ℕ) → AreBelow n is → AreBelow m is
  ids_more is h = All-weaker (λ i. i < n) (λ i. i < m) (λ i b. omega arith) is h

  some_more : (o : Option ℕ) → SomeBelow n o → SomeBelow m o
  some_more None h = tt
  some_more (Some i) h = omega arith

  pub contexts_more : (cs : List Context) → All (ContextBelow n) cs → All (ContextBelow m) cs
  contexts_more cs h = All-weaker (ContextBelow n) (ContextBelow m) (λ c b. omega arith) cs h

  pub derivations_more : (ds : List Derivation) → All (DerivationBelow n) ds → All (DerivationBelow m) ds
  derivations_more ds h = All-weaker (DerivationBelow n) (DerivationBelow m) (λ d b. omega arith) ds h

  pub block_more : (es : List Evaluated) → All (EvaluatedBelow n) es → All (EvaluatedBelow m) es
  block_more es h =
      All-weaker (EvaluatedBelow n) (EvaluatedBelow m) (λ e b. record { term = (let t : e.term < n = b.term in omega arith); outcome = some_more e.outcome b.outcome }) es h

  pub calls_more : (ks : List CallKey) → All (CallBelow n) ks → All (CallBelow m) ks
  calls_more ks h = All-weaker (CallBelow n) (CallBelow m) (λ k b. ids_more k.args b) ks h

module _ (n : ℕ) (new old : List Tree) (at : (i : ℕ) → i < n → tree_at new i ≡ tree_at old i) where
  ids_same : (is : List ℕ) → AreBelow n is → map (tree_at new) is ≡ map (tree_at old) is
  ids_same is h = map_grown (λ i. i < n) (tree_at new) (tree_at old) at is h

  some_same : (o : Option ℕ) → SomeBelow n o → option_map (tree_at new) o ≡ option_map (tree_at old) o
  some_same None h = refl
  some_same (Some i) h = ap Some (at i h)

  derivations_same : (ds : List Derivation) → All (DerivationBelow n) ds → map (read_derivation new) ds ≡ map (read_derivation old) ds
  derivations_same ds h =
      map_grown (DerivationBelow n) (read_derivation new) (read_derivation old) (λ d b i. record { context = d.context; formula = at d.formula b i }) ds h

  block_same : (es : List Evaluated) → All (EvaluatedBelow n) es → map (read_evaluated new) es ≡ map (read_evaluated old) es
  block_same es h =
      map_grown (EvaluatedBelow n) (read_evaluated new) (read_evaluated old)
      (λ e b i. record { term = at e.term b.term i; outcome = some_same e.outcome b.outcome i; depth = e.depth }) es h

  calls_same : (ks : List CallKey) → All (CallBelow n) ks → map (read_call new) ks ≡ map (read_call old) ks
  calls_same ks h = map_grown (CallBelow n) (read_call new) (read_call old) (λ k b i. record { program = k.program; arguments = ids_same k.args b i }) ks h

module _ (c : Checker) (held : IsHeld c) (t : Terms) (grows : Grows c.table t) (stays : Stays c.signature c.table.trees t.trees) where
  stated_grown : (types : List (ℕ × ℕ)) → stated_of (record c { table = t; types = types }) ≡ stated_of c
  stated_grown types =
      let n : ℕ = length c.table.trees in
      let terms = ids_same n t.trees c.table.trees grows.now.tree c.terms.items held.terms in
      let contexts = contexts_same n t.trees c.table.trees grows.now.tree c.contexts.items held.contexts in
      let derivations = derivations_same n t.trees c.table.trees grows.now.tree c.derivations.items held.derivations in
      let block = block_same n t.trees c.table.trees grows.now.tree c.block.items held.block in
      let calls = calls_same n t.trees c.table.trees grows.now.tree c.calls.keys held.calls in
      (λ i. record {
        session = c.session.state;
        terms = terms i;
        contexts = contexts i;
        derivations = derivations i;
        block = block i;
        calls = calls i;
      })

  -- the table has grown, and types may have come
  pub keeps_grown : (types : List (ℕ × ℕ)) → Fits (signature t.trees c.signature) t.trees types → Lasts types → Keeps c (record c { table = t; types = types })
  keeps_grown types fits lasts =
      let n : ℕ = length c.table.trees in
      let m : ℕ = length t.trees in
      let more : n ≤ m = grows.now.more_trees in
      record {
        held = record {
          going = held.going;
          declared = stays.signature ∙ held.declared;
          asserted = ids_same n t.trees c.table.trees grows.now.tree c.assertions held.assertions ∙ held.asserted;
          types = fits;
          lasts = lasts;
          usable = subst IsUsable (sym stays.signature) held.usable;
          parts = subst HasFewParts (sym stays.signature) held.parts;
          signature = stays.below;
          assertions = ids_more n m more c.assertions held.assertions;
          terms = ids_more n m more c.terms.items held.terms;
          nested = held.nested;
          contexts = contexts_more n m more c.contexts.items held.contexts;
          derivations = derivations_more n m more c.derivations.items held.derivations;
          block = block_more n m more c.block.items held.block;
          depths = held.depths;
          calls = calls_more n m more c.calls.keys held.calls;
        };
        same = stated_grown types;
        grows = grows;
      }

  -- the table alone has grown
  pub keeps_table : Keeps c (record c { table = t })
  keeps_table =
      let fit = held.lasts.grown c.signature c.table t grows.now (record { below = held.signature; types = held.types }) in
      keeps_grown c.types fit.types held.lasts
