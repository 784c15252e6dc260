-- Parameters that are read one after another.
use Rattle.std.proofs.Common.{◌≡◌, ℕ, ◌<◌, ◌≤◌, Bool, true, false, not, ◌||◌, List, [], ◌∷◌, ◌++◌, map, length, All, refl, sym, ap, subst, ◌∙◌, arith}
use Rattle.std.specs.Prelude.{Result, Ok, Err, bytes_eq, take}
use Rattle.std.specs.Result.{IsErrAnd}
use Rattle.std.specs.List.{list_any}
use Rattle.std.proofs.lemmas.List.{map-append, length-map}
use Rattle.std.proofs.lemmas.List.Elements.{All-head, All-tail, All-weaker}
use Rattle.eo_base.specs.declared.FaultName.{FaultName}
use Rattle.eo_base.specs.declared.FaultName.TheVariants.{Redeclared}
use Rattle.eo_base.specs.Checks.{Checked, ◌>>=◌, require}
use Rattle.eo_sig.specs.declared.records.Param.{Param}
use Rattle.eo_sig.specs.Reading.{read_parameter, Kept}
use Rattle.eo_shape.specs.Shapes.{ParameterShape}
use Rattle.eo_term.specs.Terms.{Terms, tree_at, first_trees, Since}
use Rattle.eo_term.specs.Tree.{Tree, Par, type_tree}
use Rattle.eo_declare.specs.declared.parameters.Bound as code
use Rattle.eo_base.specs.Answers.{Tells}
use Rattle.eo_base.proofs.Answering.{tells_on}
use Rattle.eo_names.specs.declared.refused.ElabRefused.{ElabRefused}
use Rattle.eo_declare.specs.Gives.{ReadsParameter}
use Rattle.eo_names.specs.declared.scope.FileKind.{FileKind}
use Rattle.eo_names.specs.Refused.{told}
use Rattle.eo_elab.specs.Worlds.{context_at}
use Rattle.eo_declare.specs.Declarations.{Bound, bind, bind_types, is_bound, with_parameter}
use Rattle.eo_declare.specs.Declaring.{read_bound}
use Rattle.eo_names.specs.Contexts.{Context}
use Rattle.eo_elab.specs.Meaning.{meaning}
use Rattle.eo_names.specs.Names.{local, read_locals, AreBelow}
use Rattle.eo_names.specs.declared.locals.LocalName.{LocalName}

-- ---- one parameter

module _ (c : Context) (b : Bound) (p : ParameterShape) (ps : List ParameterShape) where
  abbrev taken : Tree → Bound
  taken t = with_parameter b (record { name = p.name; type = t; implicit = p.implicit; list = p.list })

  abbrev step : Bool → Checked Tree → Checked Bound
  step has m = require (not has) Redeclared >>= λ _. m >>= λ t. bind c (taken t) ps

  pub bind-known : is_bound b p.name ≡ true → bind c b (p ∷ ps) ≡ Err Redeclared
  unfolding ◌>>=◌ require
  bind-known e = ap (λ has. step has (meaning c b.locals p.type)) e

  pub bind-refused : (fault : FaultName) → is_bound b p.name ≡ false → meaning c b.locals p.type ≡ Err fault → bind c b (p ∷ ps) ≡ Err fault
  unfolding ◌>>=◌ require
  bind-refused fault e m = ap (λ has. step has (meaning c b.locals p.type)) e ∙ ap (step false) m

  pub bind-taken : (t : Tree) (new : Bound) → is_bound b p.name ≡ false → meaning c b.locals p.type ≡ Ok t → new ≡ taken t → bind c b (p ∷ ps) ≡ bind c new ps
  unfolding ◌>>=◌ require
  bind-taken t new e m n = ap (λ has. step has (meaning c b.locals p.type)) e ∙ ap (step false) m ∙ ap (λ z. bind c z ps) (sym n)

-- the names of parameters do not rest on the terms
pub bound-names : (ts : List Tree) (name : List ℕ) (ps : List Param) → list_any (λ p. bytes_eq p.name name) (map (read_parameter ts) ps) ≡ list_any (λ p. bytes_eq p.name name) ps
bound-names ts name [] = refl
bound-names ts name (p ∷ ps) = ap (λ rest. bytes_eq p.name name || rest) (bound-names ts name ps)

-- ---- in a table that has grown

pub parameters-grown : (n : ℕ) (ts us : List Tree) (ps : List Param) → ((i : ℕ) → i < n → tree_at us i ≡ tree_at ts i) → All (λ (p : Param). p.ty < n) ps → map (read_parameter us) ps ≡ map (read_parameter ts) ps
parameters-grown n ts us [] same h = refl
parameters-grown n ts us (p ∷ ps) same h =
    let own = same p.ty (All-head (λ (x : Param). x.ty < n) p ps h) in
    let rest = parameters-grown n ts us ps same (All-tail (λ (x : Param). x.ty < n) p ps h) in
    λ k. record { name = p.name; type = own k; implicit = p.implicit; list = p.list } ∷ rest k

pub parameters-more : (n m : ℕ) (ps : List Param) → n ≤ m → All (λ (p : Param). p.ty < n) ps → All (λ (p : Param). p.ty < m) ps
parameters-more n m ps l h = All-weaker (λ (x : Param). x.ty < n) (λ (x : Param). x.ty < m) (λ x q. omega arith) ps h

pub locals-grown : (n : ℕ) (ts us : List Tree) (ls : List LocalName) → ((i : ℕ) → i < n → tree_at us i ≡ tree_at ts i) → AreBelow n ls → read_locals us ls ≡ read_locals ts ls
locals-grown n ts us [] same h = refl
locals-grown n ts us (l ∷ ls) same h =
    let own = same l.id (All-head (λ (x : LocalName). x.id < n) l ls h) in
    let rest = locals-grown n ts us ls same (All-tail (λ (x : LocalName). x.id < n) l ls h) in
    λ k. record { name = l.name; tree = own k; list = l.list } ∷ rest k

pub locals-more : (n m : ℕ) (ls : List LocalName) → n ≤ m → AreBelow n ls → AreBelow m ls
locals-more n m ls l h = All-weaker (λ (x : LocalName). x.id < n) (λ (x : LocalName). x.id < m) (λ x q. omega arith) ls h

pub bound-grown : (b : code.Bound) (old new : Terms) → All (λ (p : Param). p.ty < length old.trees) b.params → read_locals new.trees b.locals ≡ read_locals old.trees b.locals → Since old new → read_bound new.trees b ≡ read_bound old.trees b
bound-grown b old new below ls g =
    let ps = parameters-grown (length old.trees) old.trees new.trees b.params g.tree below in
    λ i. record { parameters = ps i; locals = ls i }

-- with a parameter more, whose name means the parameter of the next number
pub bound-more : (b : code.Bound) (ts : List Tree) (p : Param) (id : ℕ) (t : Tree) → tree_at ts p.ty ≡ t → tree_at ts id ≡ Par (length b.params)
    → read_bound ts (record { params = b.params ++ p ∷ []; locals = local p.name id p.list ∷ b.locals }) ≡ with_parameter (read_bound ts b) (record { name = p.name; type = t; implicit = p.implicit; list = p.list })
bound-more b ts p id t e n =
    let ps = map-append (read_parameter ts) b.params (p ∷ []) in
    let number = n ∙ ap Par (sym (length-map b.params (read_parameter ts))) in
    λ i. record {
      parameters = (ps ∙ (λ j. map (read_parameter ts) b.params ++ record { name = p.name; type = e j; implicit = p.implicit; list = p.list } ∷ [])) i;
      locals = record { name = p.name; tree = number i; list = p.list } ∷ read_locals ts b.locals;
    }

-- ---- one more, or a fault

pub reads_fault : (k : Kept) (x : FileKind) (old new : Terms) (p : ParameterShape) (before after : code.Bound) (r : Result (Unit {0}) ElabRefused) (e : ElabRefused) (m : Checked Tree) → IsErrAnd r (λ y. y ≡ e)
    → ((rest : List ParameterShape) (f : FaultName) → m ≡ Err f → bind (context_at old k x) (read_bound old.trees before) (p ∷ rest) ≡ Err f) → Tells told e m → ReadsParameter k x old new p before after r
reads_fault k x old new p before after (Ok u) e m q step h = absurd q
reads_fault k x old new p before after (Err r) e m q step h =
    subst (λ y. (rest : List ParameterShape) → Tells told y (bind (context_at old k x) (read_bound old.trees before) (p ∷ rest))) (sym q) (λ rest. tells_on told e (bind (context_at old k x) (read_bound old.trees before) (p ∷ rest)) m (step rest) h)

-- ---- parameters that are types

pub type-is-first : (ts : List Tree) → take 4 ts ≡ first_trees → (0 < length ts) × (tree_at ts 0 ≡ type_tree)
type-is-first [] e = absurd cc
type-is-first (t ∷ ts) e = (omega arith, cc)

module _ (b : Bound) (name : List ℕ) (names : List (List ℕ)) where
  abbrev named_type : Bound
  named_type = with_parameter b (record { name = name; type = type_tree; implicit = false; list = false })

  abbrev name_step : Bool → Checked Bound
  name_step has = require (not has) Redeclared >>= λ _. bind_types named_type names

  pub types-known : is_bound b name ≡ true → bind_types b (name ∷ names) ≡ Err Redeclared
  unfolding ◌>>=◌ require
  types-known e = ap name_step e

  pub types-taken : (new : Bound) → is_bound b name ≡ false → new ≡ named_type → bind_types b (name ∷ names) ≡ bind_types new names
  unfolding ◌>>=◌ require
  types-taken new e n = ap name_step e ∙ ap (λ z. bind_types z names) (sym n)
