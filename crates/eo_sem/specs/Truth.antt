-- When a formula is true under a valuation: the suite's connectives have their truth tables, and any other formula is true where it is in the valuation.
use Rattle.std.specs.Prelude.{if◌then◌else◌, ◌≡◌, ℕ, Bool, true, false, not, ◌&&◌, ◌||◌, nat_eq, List, Option, Some, None, unwrap_or, Contains}
use Rattle.std.specs.Bool.{beq}
use Rattle.std.specs.List.{list_any}
use Rattle.std.specs.Option.{option_map_or}
use Rattle.eo_term.specs.Tree.{Tree, Con, App, bool_tree, tree_eq}
use Rattle.eo_sig.specs.Signature.{Signature}
use Rattle.eo_sem.specs.Connectives.{true_number, false_number, not_number, and_number, or_number, implies_number, xor_number, equals_number, ite_number}
use Rattle.eo_type.specs.Types.{TypeOutcome, Typed, Untyped, TypeRange, TypeTall, type_of}

-- the formulas that are true, of those that are no uses of connectives
abbrev pub Valuation : Type 0
Valuation = List Tree

abbrev pub is_in : Valuation → Tree → Bool
is_in V t = list_any (tree_eq t) V

-- ---- truth tables, by the number of a constant and how many arguments it has

abbrev pub table_of_none : ℕ → Option Bool
table_of_none k =
    if nat_eq k true_number then Some true
    else if nat_eq k false_number then Some false
    else None

abbrev pub table_of_one : ℕ → Option (Bool → Bool)
table_of_one k = if nat_eq k not_number then Some not else None

-- `=` is a connective between formulas alone
abbrev pub table_of_two : ℕ → (are_formulas : Bool) → Option (Bool → Bool → Bool)
table_of_two k are_formulas =
    if nat_eq k and_number then Some (λ a b. a && b)
    else if nat_eq k or_number then Some (λ a b. a || b)
    else if nat_eq k implies_number then Some (λ a b. not a || b)
    else if nat_eq k xor_number then Some (λ a b. not (beq a b))
    else if nat_eq k equals_number && are_formulas then Some (λ a b. beq a b)
    else None

-- and so is `ite`
abbrev pub table_of_three : ℕ → (are_formulas : Bool) → Option (Bool → Bool → Bool → Bool)
table_of_three k are_formulas =
    if nat_eq k ite_number && are_formulas then Some (λ c a b. if c then a else b) else None

-- ---- formulas

abbrev pub is_bool : TypeOutcome Tree → Bool
is_bool (Typed t) = tree_eq t bool_tree
is_bool Untyped = false
is_bool TypeRange = false
is_bool TypeTall = false

-- whether a tree has type `Bool`
abbrev pub is_formula : Signature → Tree → Bool
is_formula S t = is_bool (type_of S t)

module _ (S : Signature) (V : Valuation) where
  -- Whether a formula is true.
  abbrev pub holds : Tree → Bool
  holds (Con k) = unwrap_or (table_of_none k) (is_in V (Con k))
  holds (App (Con k) a) = option_map_or (λ table. table (holds a)) (table_of_one k) (is_in V (App (Con k) a))
  holds (App (App (Con k) a) b) =
      option_map_or (λ table. table (holds a) (holds b)) (table_of_two k (is_formula S a)) (is_in V (App (App (Con k) a) b))
  holds (App (App (App (Con k) c) a) b) =
      option_map_or (λ table. table (holds c) (holds a) (holds b)) (table_of_three k (is_formula S a)) (is_in V (App (App (App (Con k) c) a) b))
  holds t = is_in V t

-- each of the formulas is true
abbrev pub AreTrue : Signature → Valuation → List Tree → Type 0
AreTrue S V formulas = (t : Tree) → Contains formulas t → holds S V t ≡ true

-- No valuation makes all of the formulas true.
abbrev pub HaveNoModel : Signature → List Tree → Type 0
HaveNoModel S formulas = (V : Valuation) → AreTrue S V formulas → ⊥
