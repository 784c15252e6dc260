-- A signature is the same over two lists of trees that have the same below a bound of what it keeps.
use Rattle.eo_base.proofs.Elements.{ids_more}
use Rattle.std.proofs.Common.{◌≡◌, ℕ, ◌<◌, ◌≤◌, List, [], ◌∷◌, length, map, Option, Some, None, All, refl, ap, arith}
use Rattle.std.specs.Prelude.{option_map}
use Rattle.std.proofs.lemmas.List.Elements.{All-head, All-tail, All-weaker}
use Rattle.eo_term.specs.Tree.{Tree}
use Rattle.eo_term.specs.Terms.{Terms, tree_at, SameTrees, Since}
use Rattle.eo_sig.specs.declared.records.Param.{Param}
use Rattle.eo_sig.specs.declared.records.Attribute as code_attribute
use Rattle.eo_sig.specs.declared.records.Attribute.TheVariants as attribute
use Rattle.eo_sig.specs.declared.records.ConstDecl.{ConstDecl}
use Rattle.eo_sig.specs.declared.records.MacroDecl.{MacroDecl}
use Rattle.eo_sig.specs.declared.records.Case as code_case
use Rattle.eo_sig.specs.declared.records.ProgramDecl.{ProgramDecl}
use Rattle.eo_sig.specs.declared.records.PremiseShape as code_premises
use Rattle.eo_sig.specs.declared.records.PremiseShape.TheVariants as premises
use Rattle.eo_sig.specs.declared.records.RuleDecl.{RuleDecl}
use Rattle.eo_sig.specs.declared.records.Declared.{Declared}
use Rattle.eo_sig.specs.declared.records.Declared.TheVariants as declared
use Rattle.eo_sig.specs.Signature as sig
use Rattle.eo_sig.specs.Reading.{Kept, signature, macros, read_parameter, read_attribute, read_constant, read_counts, read_macro, read_case, read_program, read_premises, read_pair, read_rule, read_entry, AttributeBelow, ConstBelow, MacroBelow, CaseBelow, ProgramBelow, PremisesBelow, SomeBelow, RuleBelow, EntryBelow, IsBelow, Stays}

map_same : {X Y : Type 0} (P : X → Type 0) (f g : X → Y) → ((x : X) → P x → f x ≡ g x) → (xs : List X) → All P xs → map f xs ≡ map g xs
map_same P f g e [] h = refl
map_same P f g e (x ∷ xs) h = λ i. e x (All-head P x xs h) i ∷ map_same P f g e xs (All-tail P x xs h) i

module _ (n : ℕ) (ts us : List Tree) (s : SameTrees n ts us) where
  trees : (is : List ℕ) → All (λ i. i < n) is → map (tree_at us) is ≡ map (tree_at ts) is
  trees = map_same (λ i. i < n) (tree_at us) (tree_at ts) s.at

  parameters : (ps : List Param) → All (λ (p : Param). p.ty < n) ps → map (read_parameter us) ps ≡ map (read_parameter ts) ps
  parameters = map_same (λ (p : Param). p.ty < n) (read_parameter us) (read_parameter ts) (λ p h i. record { name = p.name; type = s.at p.ty h i; implicit = p.implicit; list = p.list })

  attribute_same : (a : code_attribute.Attribute) → AttributeBelow n a → read_attribute us a ≡ read_attribute ts a
  attribute_same attribute.Plain h = refl
  attribute_same (attribute.RightNil t) h = ap sig.RightNil (s.at t h)
  attribute_same (attribute.LeftNil t) h = ap sig.LeftNil (s.at t h)
  attribute_same attribute.Right h = refl
  attribute_same attribute.Left h = refl
  attribute_same (attribute.Chain g) h = refl
  attribute_same (attribute.Pairs g) h = refl
  attribute_same (attribute.Binder g) h = refl

  pub constant_same : (d : ConstDecl) → ConstBelow n d → read_constant us d ≡ read_constant ts d
  constant_same d h =
      let p = parameters d.params h.params in
      let a = attribute_same d.attribute h.attribute in
      λ i. record { name = d.name; parameters = p i; type = s.at d.ty h.type i; attribute = a i; from_reference = d.from_reference }

  pub macro_same : (d : MacroDecl) → MacroBelow n d → read_macro us d ≡ read_macro ts d
  macro_same d h =
      let p = parameters d.params h.params in
      λ i. record { name = d.name; parameters = p i; tree = s.at d.tree h.tree i; from_reference = d.from_reference }

  case_same : (k : code_case.Case) → CaseBelow n k → read_case us k ≡ read_case ts k
  case_same k h = let p = trees k.patterns h.patterns in λ i. record { patterns = p i; body = s.at k.body h.body i }

  pub program_same : (d : ProgramDecl) → ProgramBelow n d → read_program us d ≡ read_program ts d
  program_same d h =
      let p = parameters d.params h.params in
      let q = trees d.inputs h.inputs in
      let k = map_same (CaseBelow n) (read_case us) (read_case ts) case_same d.cases h.cases in
      λ i. record { name = d.name; parameters = p i; inputs = q i; output = s.at d.output h.output i; cases = k i }

  premises_same : (p : code_premises.PremiseShape) → PremisesBelow n p → read_premises us p ≡ read_premises ts p
  premises_same (premises.Each ps) h = ap sig.Each (trees ps h)
  premises_same (premises.Joined p f) h = ap (λ t. sig.Joined t f) (s.at p h)

  option_same : (o : Option ℕ) → SomeBelow n o → option_map (tree_at us) o ≡ option_map (tree_at ts) o
  option_same None h = refl
  option_same (Some j) h = ap Some (s.at j h)

  rule_same : (d : RuleDecl) → RuleBelow n d → read_rule us d ≡ read_rule ts d
  rule_same d h =
      let p = parameters d.params h.params in
      let o = option_same d.«assumption» h.assumed in
      let q = premises_same d.premises h.premises in
      let a = trees d.args h.args in
      let r = map_same (λ (z : ℕ × ℕ). (z.0 < n) × (z.1 < n)) (read_pair us) (read_pair ts) (λ z g i. (s.at z.0 g.0 i, s.at z.1 g.1 i)) d.requirements h.requirements in
      λ i. record { name = d.name; parameters = p i; assumed = o i; premises = q i; arguments = a i; requirements = r i; conclusion = s.at d.conclusion h.conclusion i; sorry = d.sorry }

  entry_same : (x : Declared) → EntryBelow n x → read_entry us x ≡ read_entry ts x
  entry_same (declared.Const d n) h = ap (λ c. sig.IsConstant c (read_counts n)) (constant_same d h)
  entry_same (declared.Program d) h = ap sig.IsProgram (program_same d h)
  entry_same (declared.Rule d) h = ap sig.IsRule (rule_same d h)
  entry_same (declared.Literal l t) h = ap (sig.IsLiteralType l) (s.at t h)

  pub signature_same : (k : Kept) → IsBelow n k → signature us k ≡ signature ts k
  signature_same k h = map_same (EntryBelow n) (read_entry us) (read_entry ts) entry_same k.entries h.entries

  pub macros_same : (k : Kept) → IsBelow n k → macros us k ≡ macros ts k
  macros_same k h = map_same (MacroBelow n) (read_macro us) (read_macro ts) macro_same k.macros h.macros

-- in a table that has grown
module _ (old new : Terms) (k : Kept) (h : IsBelow (length old.trees) k) (g : Since old new) where
  pub signature_grown : signature new.trees k ≡ signature old.trees k
  signature_grown = signature_same (length old.trees) old.trees new.trees (record { at = g.tree }) k h

  pub macros_grown : macros new.trees k ≡ macros old.trees k
  macros_grown = macros_same (length old.trees) old.trees new.trees (record { at = g.tree }) k h

-- what is below n is below a greater number
params_more : (n m : ℕ) → n ≤ m → (ps : List Param) → All (λ (p : Param). p.ty < n) ps → All (λ (p : Param). p.ty < m) ps
params_more n m l ps h = All-weaker (λ (p : Param). p.ty < n) (λ (p : Param). p.ty < m) (λ p g. omega arith) ps h

attribute_more : (n m : ℕ) → n ≤ m → (a : code_attribute.Attribute) → AttributeBelow n a → AttributeBelow m a
attribute_more n m l attribute.Plain h = tt
attribute_more n m l (attribute.RightNil t) h = omega arith
attribute_more n m l (attribute.LeftNil t) h = omega arith
attribute_more n m l attribute.Right h = tt
attribute_more n m l attribute.Left h = tt
attribute_more n m l (attribute.Chain g) h = tt
attribute_more n m l (attribute.Pairs g) h = tt
attribute_more n m l (attribute.Binder g) h = tt

premises_more : (n m : ℕ) → n ≤ m → (p : code_premises.PremiseShape) → PremisesBelow n p → PremisesBelow m p
premises_more n m l (premises.Each ps) h = ids_more n m l ps h
premises_more n m l (premises.Joined p f) h = omega arith

some_more : (n m : ℕ) → n ≤ m → (o : Option ℕ) → SomeBelow n o → SomeBelow m o
some_more n m l None h = tt
some_more n m l (Some i) h = omega arith

pub rule_more : (n m : ℕ) → n ≤ m → (d : RuleDecl) → RuleBelow n d → RuleBelow m d
rule_more n m l d h = record {
  params = params_more n m l d.params h.params;
  assumed = some_more n m l d.«assumption» h.assumed;
  premises = premises_more n m l d.premises h.premises;
  args = ids_more n m l d.args h.args;
  requirements = All-weaker (λ (q : ℕ × ℕ). (q.0 < n) × (q.1 < n)) (λ (q : ℕ × ℕ). (q.0 < m) × (q.1 < m)) (λ q g. (omega (arith, g.0), omega (arith, g.1))) d.requirements h.requirements;
  conclusion = omega (arith, h.conclusion);
}

entry_more : (n m : ℕ) → n ≤ m → (x : Declared) → EntryBelow n x → EntryBelow m x
entry_more n m l (declared.Const d c) h = record { params = params_more n m l d.params h.params; type = omega (arith, h.type); attribute = attribute_more n m l d.attribute h.attribute }
entry_more n m l (declared.Program d) h = record {
  params = params_more n m l d.params h.params;
  inputs = ids_more n m l d.inputs h.inputs;
  output = omega (arith, h.output);
  cases = All-weaker (CaseBelow n) (CaseBelow m) (λ k g. record { patterns = ids_more n m l k.patterns g.patterns; body = omega (arith, g.body) }) d.cases h.cases;
  few = h.few;
}
entry_more n m l (declared.Rule d) h = rule_more n m l d h
entry_more n m l (declared.Literal k t) h = omega arith

pub below_more : (n m : ℕ) (k : Kept) → n ≤ m → IsBelow n k → IsBelow m k
below_more n m k l h = record {
  entries = All-weaker (EntryBelow n) (EntryBelow m) (entry_more n m l) k.entries h.entries;
  macros = All-weaker (MacroBelow n) (MacroBelow m) (λ d g. record { params = params_more n m l d.params g.params; tree = omega (arith, g.tree); few = g.few }) k.macros h.macros;
}

pub below_grown : (old new : Terms) (k : Kept) → Since old new → IsBelow (length old.trees) k → IsBelow (length new.trees) k
below_grown old new k g h = below_more (length old.trees) (length new.trees) k g.more_trees h

pub rule_grown : (d : RuleDecl) (old new : Terms) → RuleBelow (length old.trees) d → Since old new → read_rule new.trees d ≡ read_rule old.trees d
rule_grown d old new h g = rule_same (length old.trees) old.trees new.trees (record { at = g.tree }) d h

-- where the table grows
pub stays_grown : (k : Kept) (old new : Terms) → IsBelow (length old.trees) k → Since old new → Stays k old.trees new.trees
stays_grown k old new h g = record { signature = signature_grown old new k h g; macros = macros_grown old new k h g; below = below_grown old new k g h }
