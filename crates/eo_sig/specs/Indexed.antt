-- Tables that find constants by name, and by name and number of arguments.
use Rattle.std.specs.Prelude.{◌≡◌, ℕ, ◌≤◌, ◌==◌, ◌&&◌, ◌||◌, Bool, false, nat_eq, nat_le, bytes_eq, if◌then◌else◌, List, length, Option, Some, None, is_some, option_map, option_and_then, slice_get}
use Rattle.std.specs.List.{list_any}
use Rattle.std.specs.Option.{option_or, option_map_or}
use Rattle.eo_sig.specs.Signature.{Signature, Counts, Exactly, From, constants, counted, constant_named, constant_taking, takes, meet}

-- By name the number of the first constant of that name. By that number and a number of arguments, a later constant of the name that takes this number alone; by that number, from which number of arguments on a later one takes all, and that one; and the greatest number of arguments that a later one takes alone.
pub record Tables : Type 0 where
  pub first : List ℕ → Option ℕ
  pub exact : ℕ → ℕ → Option ℕ
  pub rest : ℕ → Option (ℕ × ℕ)
  pub most : ℕ → Option ℕ

-- where nothing is declared
abbrev pub no_tables : Tables
no_tables = record { first = λ w. None; exact = λ f n. None; rest = λ f. None; most = λ f. None }

-- the numbers of arguments that the constant with this number takes
abbrev pub counts_at : Signature → ℕ → Option Counts
counts_at S k = option_map (λ d. d.1) (slice_get (counted S) k)

abbrev pub takes_own : Signature → ℕ → ℕ → Bool
takes_own S n f = option_map_or (λ m. takes m n) (counts_at S f) false

abbrev pub meets_own : Signature → ℕ → ℕ → Bool
meets_own S c f = option_map_or (λ m. meet m (From c)) (counts_at S f) false

-- the constant, where so many arguments are enough
abbrev pub if_enough : ℕ → Option (ℕ × ℕ) → Option ℕ
if_enough n None = None
if_enough n (Some p) = if nat_le p.0 n then Some p.1 else None

-- a later constant that takes so many arguments
abbrev pub later_at : Tables → ℕ → ℕ → Option ℕ
later_at x n f = option_or (x.exact f n) (if_enough n (x.rest f))

abbrev pub at_first : Signature → Tables → ℕ → ℕ → Option ℕ
at_first S x n f = if takes_own S n f then Some f else later_at x n f

-- what the tables find
abbrev pub found : Signature → Tables → List ℕ → ℕ → Option ℕ
found S x name n = option_and_then (at_first S x n) (x.first name)

-- whether a number of arguments from c on is the greatest that is kept, or below it
abbrev pub is_reached : ℕ → Option ℕ → Bool
is_reached c None = false
is_reached c (Some m) = nat_le c m

-- whether a later constant takes c arguments or more
abbrev pub later_reaches : Tables → ℕ → ℕ → Bool
later_reaches x c f = is_some (x.rest f) || is_reached c (x.most f)

abbrev pub reaches : Signature → Tables → ℕ → ℕ → Bool
reaches S x c f = meets_own S c f || later_reaches x c f

abbrev pub reached : Signature → Tables → List ℕ → ℕ → Bool
reached S x name c = option_map_or (reaches S x c) (x.first name) false

-- whether a constant of the name takes one of these numbers of arguments
abbrev pub is_met : Signature → List ℕ → Counts → Bool
is_met S name counts = list_any (λ d. bytes_eq name d.0.name && meet d.1 counts) (counted S)

-- The tables find what the signature has, and nothing is kept for numbers that no constant has.
pub record IsIndexed (S : Signature) (x : Tables) : Type 0 where
  pub first : (name : List ℕ) → x.first name ≡ constant_named S name
  pub taking : (name : List ℕ) (n : ℕ) → found S x name n ≡ constant_taking S name n
  pub reaching : (name : List ℕ) (c : ℕ) → reached S x name c ≡ is_met S name (From c)
  pub no_exact : (f n : ℕ) → length (constants S) ≤ f → x.exact f n ≡ None
  pub no_rest : (f : ℕ) → length (constants S) ≤ f → x.rest f ≡ None
  pub no_most : (f : ℕ) → length (constants S) ≤ f → x.most f ≡ None

-- the tables with a constant more of a new name, which has number k
abbrev pub with_new : Tables → List ℕ → ℕ → Tables
with_new x name k = record { first = λ w. if bytes_eq name w then Some k else x.first w; exact = x.exact; rest = x.rest; most = x.most }

-- the greater of a number and one that is there
abbrev pub raised : ℕ → Option ℕ → ℕ
raised k None = k
raised k (Some m) = if nat_le m k then k else m

-- the tables with a constant more, which has number k, of a name whose first constant has number f
abbrev pub with_other : Tables → ℕ → ℕ → Counts → Tables
with_other x f k (Exactly c) = record {
  first = x.first;
  exact = λ g n. if nat_eq f g && nat_eq c n then Some k else x.exact g n;
  rest = x.rest;
  most = λ g. if nat_eq f g then Some (raised c (x.most f)) else x.most g;
}
with_other x f k (From c) = record { first = x.first; exact = x.exact; rest = λ g. if nat_eq f g then Some (c, k) else x.rest g; most = x.most }
