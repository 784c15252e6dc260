-- What names mean.
use Rattle.std.specs.Prelude.{◌≡◌, refl, ℕ, ◌≤◌, ◌<◌, Bool, true, false, nat_eq, bytes_eq, List, [], length, Option, Some, None, option_map}
use Rattle.std.specs.Option.{option_or, option_map_or}
use Rattle.std.proofs.Common.{ap, ◌∙◌, arith}
use Rattle.std.proofs.lemmas.Bool.{eqb-true}
use Rattle.std.proofs.lemmas.Option.{slice_get_past}
use Rattle.std.proofs.lemmas.List.Quantifiers.{position-Some}
use Rattle.eo_sig.specs.Signature.{Signature, Macro, Constant, Plain, Named, NamesConstant, NamesMacro, NamesProgram, constants, constant_at, constant_named, macro_named, program_named, lookup, lookup_count, constant_for}
use Rattle.eo_term.specs.Tree.{Con}
use Rattle.eo_show.specs.Forms.{name_of, alone, counted, is_this}
use Rattle.eo_show.proofs.Ranges.{counted-range}

abbrev as_constant : Option Named → Option ℕ
as_constant (Some (NamesConstant k)) = Some k
as_constant (Some (NamesMacro k)) = None
as_constant (Some (NamesProgram k)) = None
as_constant None = None

by_kind : (c m p : Option ℕ) → as_constant (option_or (option_map NamesConstant c) (option_or (option_map NamesMacro m) (option_map NamesProgram p))) ≡ c
by_kind (Some k) m p = refl
by_kind None (Some k) p = refl
by_kind None None (Some k) = refl
by_kind None None None = refl

pub as_constant_is : (S : Signature) (macros : List Macro) (name : List ℕ) (o : Option Named) → o ≡ lookup S macros name → as_constant o ≡ constant_named S name
as_constant_is S macros name o e = ap as_constant e ∙ by_kind (constant_named S name) (macro_named macros name) (program_named S name)

pub as_constant_before : (S : Signature) (macros : List Macro) (name : List ℕ) (n : ℕ) (o : Option Named) → o ≡ lookup_count S macros name n → as_constant o ≡ constant_for S name n
as_constant_before S macros name n o e = ap as_constant e ∙ by_kind (constant_for S name n) (macro_named macros name) (program_named S name)

abbrev no_constant : Constant
no_constant = record { name = []; parameters = []; type = Con 0; attribute = Plain; from_reference = false }

module _ (S : Signature) where
  pub name_given : (k : ℕ) (c : Constant) → constant_at S k ≡ Some c → name_of S k ≡ c.name
  name_given k c e = ap (λ o. option_map_or (λ (c : Constant). c.name) o []) e

  pub no_name : (k : ℕ) → length (constants S) ≤ k → name_of S k ≡ []
  no_name k past = ap (λ o. option_map_or (λ (c : Constant). c.name) o []) (slice_get_past (constants S) k past)

  pub none_past : (k : ℕ) (name : List ℕ) → length (constants S) ≤ k → false ≡ is_this S k (alone S name)
  none_past k name past = by_found (alone S name) refl
    where
      other : (j : ℕ) (b : Bool) → nat_eq j k ≡ b → j < k → false ≡ b
      other j true e less = absurd (omega (arith, eqb-true j k e))
      other j false e less = refl

      by_found : (o : Option ℕ) → alone S name ≡ o → false ≡ is_this S k o
      by_found None e = refl
      by_found (Some j) e = other j (nat_eq j k) refl (omega (arith, (position-Some (λ (c : Constant). bytes_eq name c.name) (constants S) j no_constant e).0))

  pub none_before : (k : ℕ) (name : List ℕ) (n : ℕ) → length (constants S) ≤ k → false ≡ is_this S k (counted S name n)
  none_before k name n past = by_found (counted S name n) refl
    where
      other : (j : ℕ) (b : Bool) → nat_eq j k ≡ b → j < k → false ≡ b
      other j true e less = absurd (omega (arith, eqb-true j k e))
      other j false e less = refl

      by_found : (o : Option ℕ) → counted S name n ≡ o → false ≡ is_this S k o
      by_found None e = refl
      by_found (Some j) e = let low = counted-range S name n j e in other j (nat_eq j k) refl (omega (arith, low, past))
