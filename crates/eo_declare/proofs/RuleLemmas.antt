-- What a command that declares a rule declares, by its parts.
use Rattle.std.proofs.Common.{◌≡◌, ℕ, ◌<◌, ◌≤◌, true, List, [], ◌∷◌, ◌++◌, Option, None, Some, map, All, length, refl, ap, sym, ◌∙◌, arith}
use Rattle.std.specs.Prelude.{Ok, Err, option_map}
use Rattle.std.proofs.lemmas.List.{append-nil}
use Rattle.std.proofs.lemmas.List.Elements.{All-head, All-tail, All-weaker}
use Rattle.eo_base.proofs.ChecksLemmas.{behind, behind-first}
use Rattle.eo_base.specs.declared.FaultName.{FaultName}
use Rattle.eo_base.specs.declared.FaultName.TheVariants.{Redeclared, Parameters, BadPattern}
use Rattle.eo_base.specs.Checks.{Checked, ◌>>=◌}
use Rattle.eo_base.specs.Limits.{parameters_limit}
use Rattle.eo_sexp.specs.Sexp.{Sexp}
use Rattle.eo_shape.specs.Shapes.{RuleShape}
use Rattle.eo_sig.specs.Reading.{read_pair, SomeBelow}
use Rattle.eo_sig.specs.Signature.{Parameter, PremiseShape, Rule, Signature, is_free_rule}
use Rattle.eo_term.specs.Terms.{tree_at, tree_of}
use Rattle.eo_term.specs.Tree.{Tree, Trees}
use Rattle.eo_term.specs.declared.node.Node.{Node}
use Rattle.eo_term.specs.declared.node.Node.TheVariants as node
use Rattle.eo_declare.specs.Declarations.{Bound, bind, unbound, PremisesMeant, EachMeant, JoinedMeant, meanings, optional_meaning, premises_meant, requirements_meant, joiner, rule_over, declared_rule}
use Rattle.eo_elab.specs.Meaning.{meaning}
use Rattle.eo_declare.specs.RuleParts.{RuleParts, rule_parts, rule_of_parts, requirement_in, read_premises_meant, MeantBelow, PairBelow}
use Rattle.eo_declare.specs.declared.rules.PremisesMeant as code_premises
use Rattle.eo_declare.specs.declared.rules.PremisesMeant.TheVariants as premises
use Rattle.eo_names.specs.Contexts.{Context, Local}
use Rattle.eo_names.specs.Worlds.{World}
use Rattle.eo_declare.proofs.CheckedLemmas.{then-ok, then-err, require-yes, require-no}
use Rattle.eo_declare.proofs.ConstantLemmas.{trees-grown, ids-more}
use Rattle.eo_declare.proofs.DeclaringLemmas.{few-yes, few-no}

-- ---- what joins premises

-- only a constant does
pub other_joiner : (S : Signature) (ts : List Tree) (xs : List (List ℕ)) (n : Node) (args : Trees) → ((k : ℕ) → n ≡ node.Con k → ⊥) → joiner S (tree_of ts xs n args) ≡ Err BadPattern
other_joiner S ts xs (node.Con k) args differs = absurd (differs k refl)
other_joiner S ts xs (node.Num z) args differs = refl
other_joiner S ts xs (node.Bits w v) args differs = refl
other_joiner S ts xs (node.Str s) args differs = refl
other_joiner S ts xs (node.Par i) args differs = refl
other_joiner S ts xs (node.Var s t) args differs = refl
other_joiner S ts xs (node.App f x) args differs = refl
other_joiner S ts xs (node.Arr a b) args differs = refl
other_joiner S ts xs (node.Qar i t b) args differs = refl
other_joiner S ts xs (node.Op code n) args differs = refl

-- ---- two terms

module _ (w : World) (q : Sexp × Sexp) where
  abbrev with_left : Tree → Checked (Tree × Tree)
  with_left a = meaning w.names w.locals q.1 >>= λ b. Ok (a, b)

  pub two-no-left : (f : FaultName) → meaning w.names w.locals q.0 ≡ Err f → requirement_in w q ≡ Err f
  two-no-left f e = then-err with_left (meaning w.names w.locals q.0) f e

  module _ (a : Tree) (e : meaning w.names w.locals q.0 ≡ Ok a) where
    pub two-no-right : (f : FaultName) → meaning w.names w.locals q.1 ≡ Err f → requirement_in w q ≡ Err f
    two-no-right f h = then-ok with_left (meaning w.names w.locals q.0) a e ∙ then-err (λ b. Ok (a, b)) (meaning w.names w.locals q.1) f h

    pub two-both : (b : Tree) → meaning w.names w.locals q.1 ≡ Ok b → requirement_in w q ≡ Ok (a, b)
    two-both b h = then-ok with_left (meaning w.names w.locals q.0) a e ∙ then-ok (λ b. Ok (a, b)) (meaning w.names w.locals q.1) b h

-- what joins, and what is joined, as two terms
abbrev both : Tree → Tree → Checked (Tree × Tree)
both a b = Ok (a, b)

abbrev as_joined : Tree × Tree → Checked PremisesMeant
as_joined q = Ok (JoinedMeant q.0 q.1)

pub joined-parts : (m n : Checked Tree) → (m >>= λ t. n >>= λ u. Ok (JoinedMeant t u)) ≡ ((m >>= λ a. n >>= λ b. both a b) >>= as_joined)
unfolding ◌>>=◌
joined-parts (Ok t) (Ok u) = refl
joined-parts (Ok t) (Err fault) = refl
joined-parts (Err fault) n = refl

-- ---- requirements in order

pair-first : (m n : Checked Tree) (o : Checked (List (Tree × Tree))) → (m >>= λ a. n >>= λ b. o >>= λ rest. Ok ((a, b) ∷ rest)) ≡ ((m >>= λ a. n >>= λ b. Ok (a, b)) >>= λ p. o >>= λ rest. Ok (p ∷ rest))
unfolding ◌>>=◌
pair-first (Ok a) (Ok b) o = refl
pair-first (Ok a) (Err fault) o = refl
pair-first (Err fault) n o = refl

module _ (w : World) (before : List (Tree × Tree)) (q : Sexp × Sexp) (rest : List (Sexp × Sexp)) where
  abbrev others : Checked (List (Tree × Tree))
  others = requirements_meant w.names w.locals rest

  requirements-first : requirements_meant w.names w.locals (q ∷ rest) ≡ (requirement_in w q >>= λ p. others >>= λ qs. Ok (p ∷ qs))
  unfolding requirements_meant
  requirements-first = pair-first (meaning w.names w.locals q.0) (meaning w.names w.locals q.1) others

  abbrev first_pair : Checked (Tree × Tree) → Checked (List (Tree × Tree))
  first_pair m = behind before (m >>= λ p. others >>= λ qs. Ok (p ∷ qs))

  pub pairs-next : (p : Tree × Tree) → requirement_in w q ≡ Ok p → behind (before ++ p ∷ []) others ≡ behind before (requirements_meant w.names w.locals (q ∷ rest))
  unfolding ◌>>=◌
  pairs-next p e = behind-first before p others ∙ ap first_pair (sym e) ∙ ap (behind before) (sym requirements-first)

  pub pairs-refused : (fault : FaultName) → requirement_in w q ≡ Err fault → behind before (requirements_meant w.names w.locals (q ∷ rest)) ≡ Err fault
  unfolding ◌>>=◌
  pairs-refused fault e = ap (behind before) requirements-first ∙ ap first_pair e

pub pairs-end : (w : World) (before : List (Tree × Tree)) → behind before (requirements_meant w.names w.locals []) ≡ Ok before
unfolding ◌>>=◌ requirements_meant
pairs-end w before = ap Ok (append-nil before)

-- ---- over a table that grows

module _ (n m : ℕ) (ts us : List Tree) (more : n ≤ m) (same : (i : ℕ) → i < n → tree_at us i ≡ tree_at ts i) where
  pub pairs-grown : (qs : List (ℕ × ℕ)) → All (PairBelow n) qs → map (read_pair us) qs ≡ map (read_pair ts) qs
  pairs-grown [] h = refl
  pairs-grown (q ∷ qs) h =
      let p = All-head (PairBelow n) q qs h in
      let rest = pairs-grown qs (All-tail (PairBelow n) q qs h) in
      λ i. (same q.0 p.0 i, same q.1 p.1 i) ∷ rest i

  pub pairs-more : (qs : List (ℕ × ℕ)) → All (PairBelow n) qs → All (PairBelow m) qs
  pairs-more qs h = All-weaker (PairBelow n) (PairBelow m) (λ q p. (omega (arith, more, p.0), omega (arith, more, p.1))) qs h

  pub some-grown : (o : Option ℕ) → SomeBelow n o → option_map (tree_at us) o ≡ option_map (tree_at ts) o
  some-grown None h = refl
  some-grown (Some i) h = ap Some (same i h)

  pub some-more : (o : Option ℕ) → SomeBelow n o → SomeBelow m o
  some-more None h = tt
  some-more (Some i) h = omega (arith, more, h)

  pub meant-grown : (p : code_premises.PremisesMeant) → MeantBelow n p → read_premises_meant us p ≡ read_premises_meant ts p
  meant-grown (premises.Each ps) h = ap EachMeant (trees-grown n ts us ps same h)
  meant-grown (premises.Joined p f) h = λ i. JoinedMeant (same p h.0 i) (same f h.1 i)

  pub meant-more : (p : code_premises.PremisesMeant) → MeantBelow n p → MeantBelow m p
  meant-more (premises.Each ps) h = ids-more n m ps more h
  meant-more (premises.Joined p f) h = (omega (arith, more, h.0), omega (arith, more, h.1))

-- ---- the terms of a rule, one check a line

module _ (c : Context) (ls : List Local) (s : RuleShape) where
  abbrev with_conclusion : Option Tree → PremisesMeant → List Tree → List (Tree × Tree) → Checked RuleParts
  with_conclusion a p ts qs = meaning c ls s.conclusion >>= λ t. Ok (record { assumed = a; premises = p; arguments = ts; requirements = qs; conclusion = t })

  abbrev with_requirements : Option Tree → PremisesMeant → List Tree → Checked RuleParts
  with_requirements a p ts = requirements_meant c ls s.requirements >>= with_conclusion a p ts

  abbrev with_arguments : Option Tree → PremisesMeant → Checked RuleParts
  with_arguments a p = meanings c ls s.arguments >>= with_requirements a p

  abbrev with_premises : Option Tree → Checked RuleParts
  with_premises a = premises_meant c ls s.premises >>= with_arguments a

  pub parts-no-assumed : (f : FaultName) → optional_meaning c ls s.assumed ≡ Err f → rule_parts c ls s ≡ Err f
  parts-no-assumed f e = then-err with_premises (optional_meaning c ls s.assumed) f e

  module _ (a : Option Tree) (ea : optional_meaning c ls s.assumed ≡ Ok a) where
    parts-assumed : rule_parts c ls s ≡ with_premises a
    parts-assumed = then-ok with_premises (optional_meaning c ls s.assumed) a ea

    pub parts-no-premises : (f : FaultName) → premises_meant c ls s.premises ≡ Err f → rule_parts c ls s ≡ Err f
    parts-no-premises f e = parts-assumed ∙ then-err (with_arguments a) (premises_meant c ls s.premises) f e

    module _ (p : PremisesMeant) (ep : premises_meant c ls s.premises ≡ Ok p) where
      parts-premises : rule_parts c ls s ≡ with_arguments a p
      parts-premises = parts-assumed ∙ then-ok (with_arguments a) (premises_meant c ls s.premises) p ep

      pub parts-no-arguments : (f : FaultName) → meanings c ls s.arguments ≡ Err f → rule_parts c ls s ≡ Err f
      parts-no-arguments f e = parts-premises ∙ then-err (with_requirements a p) (meanings c ls s.arguments) f e

      module _ (ts : List Tree) (et : meanings c ls s.arguments ≡ Ok ts) where
        parts-arguments : rule_parts c ls s ≡ with_requirements a p ts
        parts-arguments = parts-premises ∙ then-ok (with_requirements a p) (meanings c ls s.arguments) ts et

        pub parts-no-requirements : (f : FaultName) → requirements_meant c ls s.requirements ≡ Err f → rule_parts c ls s ≡ Err f
        parts-no-requirements f e = parts-arguments ∙ then-err (with_conclusion a p ts) (requirements_meant c ls s.requirements) f e

        module _ (qs : List (Tree × Tree)) (eq : requirements_meant c ls s.requirements ≡ Ok qs) where
          abbrev all_parts : Tree → Checked RuleParts
          all_parts t = Ok (record { assumed = a; premises = p; arguments = ts; requirements = qs; conclusion = t })

          parts-requirements : rule_parts c ls s ≡ with_conclusion a p ts qs
          parts-requirements = parts-arguments ∙ then-ok (with_conclusion a p ts) (requirements_meant c ls s.requirements) qs eq

          pub parts-no-conclusion : (f : FaultName) → meaning c ls s.conclusion ≡ Err f → rule_parts c ls s ≡ Err f
          parts-no-conclusion f e = parts-requirements ∙ then-err all_parts (meaning c ls s.conclusion) f e

          pub parts-whole : (t : Tree) → meaning c ls s.conclusion ≡ Ok t → rule_parts c ls s ≡ all_parts t
          parts-whole t e = parts-requirements ∙ then-ok all_parts (meaning c ls s.conclusion) t e

-- ---- the whole

abbrev pub rule_with_shape : List Parameter → RuleShape → RuleParts → PremiseShape → Checked Rule
rule_with_shape parameters s r shape =
    Ok (record { name = s.name; parameters = parameters; assumed = r.assumed; premises = shape; arguments = r.arguments; requirements = r.requirements; conclusion = r.conclusion; sorry = s.sorry })

module _ (c : Context) (b : Bound) (s : RuleShape) where
  abbrev put : RuleParts → Checked Rule
  put r = rule_of_parts c.signature b.parameters s r

  together : (m : Checked (Option Tree)) (n : Checked PremisesMeant) (o : Checked (List Tree)) (q : Checked (List (Tree × Tree))) (r : Checked Tree)
      → (m >>= λ a. n >>= λ p. o >>= λ ts. q >>= λ qs. r >>= λ t. put (record { assumed = a; premises = p; arguments = ts; requirements = qs; conclusion = t }))
      ≡ ((m >>= λ a. n >>= λ p. o >>= λ ts. q >>= λ qs. r >>= λ t. Ok (record { assumed = a; premises = p; arguments = ts; requirements = qs; conclusion = t })) >>= put)
  unfolding ◌>>=◌
  together (Err fault) n o q r = refl
  together (Ok a) (Err fault) o q r = refl
  together (Ok a) (Ok p) (Err fault) q r = refl
  together (Ok a) (Ok p) (Ok ts) (Err fault) r = refl
  together (Ok a) (Ok p) (Ok ts) (Ok qs) (Err fault) = refl
  together (Ok a) (Ok p) (Ok ts) (Ok qs) (Ok t) = refl

  over-read : rule_over c b s ≡ (rule_parts c b.locals s >>= put)
  over-read = together (optional_meaning c b.locals s.assumed) (premises_meant c b.locals s.premises) (meanings c b.locals s.arguments) (requirements_meant c b.locals s.requirements) (meaning c b.locals s.conclusion)

  pub over-no-parts : (f : FaultName) → rule_parts c b.locals s ≡ Err f → rule_over c b s ≡ Err f
  over-no-parts f e = over-read ∙ then-err put (rule_parts c b.locals s) f e

  pub over-parts : (r : RuleParts) → rule_parts c b.locals s ≡ Ok r → rule_over c b s ≡ put r
  over-parts r e = over-read ∙ then-ok put (rule_parts c b.locals s) r e

module _ (c : Context) (s : RuleShape) where
  abbrev over : Bound → Checked Rule
  over b = rule_over c b s

  module _ (free : is_free_rule c.signature s.name ≡ true) where
    pub rule-many : parameters_limit < length s.parameters → declared_rule c s ≡ Err Parameters
    unfolding declared_rule
    rule-many h = require-yes _ Redeclared _ free ∙ require-no _ Parameters _ (few-no (length s.parameters) h)

    module _ (h : length s.parameters ≤ parameters_limit) where
      rule-parameters : declared_rule c s ≡ (bind c unbound s.parameters >>= over)
      unfolding declared_rule
      rule-parameters = require-yes _ Redeclared _ free ∙ require-yes _ Parameters _ (few-yes (length s.parameters) h)

      pub rule-unbound : (f : FaultName) → bind c unbound s.parameters ≡ Err f → declared_rule c s ≡ Err f
      rule-unbound f e = rule-parameters ∙ then-err over (bind c unbound s.parameters) f e

      pub rule-bound : (b : Bound) → bind c unbound s.parameters ≡ Ok b → declared_rule c s ≡ rule_over c b s
      rule-bound b e = rule-parameters ∙ then-ok over (bind c unbound s.parameters) b e
