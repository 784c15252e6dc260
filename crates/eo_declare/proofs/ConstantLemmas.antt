-- The parts of a declared constant.
use Rattle.std.proofs.Common.{◌≡◌, ℕ, zero, suc, ◌<◌, ◌≤◌, ◌++◌, map, All, Bool, true, false, List, [], ◌∷◌, refl, ap, sym, ◌∙◌, arith}
use Rattle.std.proofs.lemmas.List.{append-nil}
use Rattle.std.proofs.lemmas.List.Elements.{All-head, All-tail, All-weaker}
use Rattle.eo_base.specs.declared.FaultName.{FaultName}
use Rattle.eo_sexp.specs.Sexp.{Sexp}
use Rattle.std.specs.Prelude.{Ok, Err, if◌then◌else◌}
use Rattle.eo_base.proofs.ChecksLemmas.{behind, behind-first}
use Rattle.eo_base.specs.declared.FaultName.TheVariants.{UnknownSymbol, BadPattern}
use Rattle.eo_base.specs.Checks.{Checked, ◌>>=◌, no_fault}
use Rattle.eo_sig.specs.Signature.{Parameter, Attribute, Constant, constant_may_hold, first_wrong}
use Rattle.eo_term.specs.Terms.{tree_at, tree_of}
use Rattle.eo_term.specs.Tree.{Tree, Trees, Qar, height, is_tall}
use Rattle.eo_term.specs.declared.node.Node.{Node}
use Rattle.eo_term.specs.declared.node.Node.TheVariants as node
use Rattle.eo_declare.specs.Declarations.{bound_type, constant, constant_number, plain_constant, sort_type, meanings}
use Rattle.eo_names.specs.Contexts.{Context, Local}
use Rattle.eo_elab.specs.Meaning.{meaning}
use Rattle.eo_base.proofs.Tests.{still_above}
use Rattle.eo_base.specs.Limits.{height_limit}

-- only a constant has a number
pub other_number : (ts : List Tree) (xs : List (List ℕ)) (n : Node) (args : Trees) → ((k : ℕ) → n ≡ node.Con k → ⊥) → constant_number (tree_of ts xs n args) ≡ Err UnknownSymbol
other_number ts xs (node.Con k) args differs = absurd (differs k refl)
other_number ts xs (node.Num z) args differs = refl
other_number ts xs (node.Bits w v) args differs = refl
other_number ts xs (node.Str s) args differs = refl
other_number ts xs (node.Par i) args differs = refl
other_number ts xs (node.Var s t) args differs = refl
other_number ts xs (node.App f x) args differs = refl
other_number ts xs (node.Arr a b) args differs = refl
other_number ts xs (node.Qar i t b) args differs = refl
other_number ts xs (node.Op code n) args differs = refl

pub sort-height : (n : ℕ) → height (sort_type n) ≡ suc n
sort-height zero = refl
sort-height (suc n) = let ih = sort-height n in omega (arith, ih)

-- a constant without parameters
module _ (c : Context) (name : List ℕ) (t : Tree) (a : Attribute) where
  abbrev whole : Constant
  whole = constant c name [] t a

  abbrev step : Bool → Checked Constant
  step holds = no_fault (first_wrong holds true) >>= λ _. Ok whole

  pub plain-held : constant_may_hold whole ≡ true → plain_constant c name t a ≡ Ok whole
  unfolding ◌>>=◌ no_fault
  plain-held e = ap step e

  pub plain-refused : constant_may_hold whole ≡ false → plain_constant c name t a ≡ Err BadPattern
  unfolding ◌>>=◌ no_fault
  plain-refused e = ap step e

-- ---- meanings in order

pub trees-grown : (n : ℕ) (ts us : List Tree) (is : List ℕ) → ((i : ℕ) → i < n → tree_at us i ≡ tree_at ts i) → All (λ i. i < n) is → map (tree_at us) is ≡ map (tree_at ts) is
trees-grown n ts us [] same h = refl
trees-grown n ts us (j ∷ js) same h =
    let own = same j (All-head (λ i. i < n) j js h) in
    let rest = trees-grown n ts us js same (All-tail (λ i. i < n) j js h) in
    λ k. own k ∷ rest k

pub ids-more : (n m : ℕ) (is : List ℕ) → n ≤ m → All (λ i. i < n) is → All (λ i. i < m) is
ids-more n m is l h = All-weaker (λ i. i < n) (λ i. i < m) (λ i q. omega arith) is h

module _ (c : Context) (locals : List Local) (before : List Tree) (s : Sexp) (rest : List Sexp) where
  abbrev first_read : Checked Tree → Checked (List Tree)
  first_read m = behind before (m >>= λ t. meanings c locals rest >>= λ ts. Ok (t ∷ ts))

  pub meanings-next : (t : Tree) → meaning c locals s ≡ Ok t → behind (before ++ t ∷ []) (meanings c locals rest) ≡ behind before (meanings c locals (s ∷ rest))
  unfolding ◌>>=◌ meanings
  meanings-next t e = behind-first before t (meanings c locals rest) ∙ ap first_read (sym e)

  pub meanings-refused : (fault : FaultName) → meaning c locals s ≡ Err fault → behind before (meanings c locals (s ∷ rest)) ≡ Err fault
  unfolding ◌>>=◌ meanings
  meanings-refused fault e = ap first_read e

pub meanings-end : (c : Context) (locals : List Local) (before : List Tree) → behind before (meanings c locals []) ≡ Ok before
unfolding ◌>>=◌ meanings
meanings-end c locals before = ap Ok (append-nil before)

-- ---- types over parameters

tall_to : (i : ℕ) (a b : Tree) → is_tall b ≡ true → is_tall (Qar i a b) ≡ true
tall_to i a b e = still_above height_limit (height b) (height (Qar i a b)) (omega arith) e

module _ (i : ℕ) (p : Parameter) (ps : List Parameter) (t : Tree) where
  abbrev inner : Tree
  inner = bound_type (suc i) ps t

  abbrev by_mark : Bool → Tree
  by_mark implicit = if implicit then inner else Qar i p.type inner

  pub bound-implicit : p.implicit ≡ true → inner ≡ bound_type i (p ∷ ps) t
  bound-implicit e = sym (ap by_mark e)

  pub bound-explicit : p.implicit ≡ false → Qar i p.type inner ≡ bound_type i (p ∷ ps) t
  bound-explicit e = sym (ap by_mark e)

  pub bound-tall : is_tall inner ≡ true → is_tall (bound_type i (p ∷ ps) t) ≡ true
  bound-tall e = by p.implicit
    where
      by : (b : Bool) → is_tall (by_mark b) ≡ true
      by true = e
      by false = tall_to i p.type inner e
