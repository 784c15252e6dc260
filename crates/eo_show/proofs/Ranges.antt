-- What a name means is a constant that is there.
use Rattle.std.specs.Prelude.{◌≡◌, ℕ, suc, ◌<◌, Bool, true, false, cond, ◌&&◌, List, [], ◌∷◌, length, Option, Some, None, nat_lt, bytes_eq, position, refl}
use Rattle.std.specs.Option.{option_or}
use Rattle.std.specs.List.{position_or_len}
use Rattle.std.proofs.Common.{ap, arith}
use Rattle.std.proofs.lemmas.Bool.{ltb-true}
use Rattle.std.proofs.lemmas.Option.{same_Some}
use Rattle.eo_sig.specs.Signature.{Signature, IsConstant, IsProgram, IsRule, IsLiteralType, Constant, constants, constant_named, constant_taking}
use Rattle.eo_sig.specs.Signature as sig
use Rattle.eo_show.specs.Forms.{counted}

position-range : {A : Type 0} (test : A → Bool) (xs : List A) (k : ℕ) → position test xs ≡ Some k → k < length xs
position-range test xs k e = go (nat_lt (position_or_len test xs) (length xs)) refl e
  where
    go : (b : Bool) → nat_lt (position_or_len test xs) (length xs) ≡ b → cond b (Some (position_or_len test xs)) None ≡ Some k → k < length xs
    go true f h =
        let is = same_Some (position_or_len test xs) k h in let lt = ltb-true (position_or_len test xs) (length xs) f in omega arith
    go false f h = cc

counted-length : (S : Signature) → length (sig.counted S) ≡ length (constants S)
counted-length [] = refl
counted-length (IsConstant c n ∷ S) = ap suc (counted-length S)
counted-length (IsProgram p ∷ S) = counted-length S
counted-length (IsRule r ∷ S) = counted-length S
counted-length (IsLiteralType l t ∷ S) = counted-length S

pub named-range : (S : Signature) (name : List ℕ) (k : ℕ) → constant_named S name ≡ Some k → k < length (constants S)
named-range S name k e = position-range (λ (c : Constant). bytes_eq name c.name) (constants S) k e

pub counted-range : (S : Signature) (name : List ℕ) (n k : ℕ) → counted S name n ≡ Some k → k < length (constants S)
counted-range S name n k e = go (constant_taking S name n) refl e
  where
    go : (o : Option ℕ) → constant_taking S name n ≡ o → option_or o (constant_named S name) ≡ Some k → k < length (constants S)
    go None f h = named-range S name k h
    go (Some j) f h =
        let is = same_Some j k h in let lt = position-range (λ (d : Constant × sig.Counts). bytes_eq name d.0.name && sig.takes d.1 n) (sig.counted S) j f in omega (arith, is, lt, counted-length S)
