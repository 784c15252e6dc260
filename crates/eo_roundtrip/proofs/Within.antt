-- Trees whose numbers, bit strings and texts are within their ranges, and signatures that hold only such trees where evaluation reads them.
use Rattle.std.specs.Prelude.{ℕ, Bool, true, ◌&&◌, not, nat_le, nat_lt, ◌^◌, List, length}
use Rattle.std.specs.List.{list_all}
use Rattle.eo_base.specs.Limits.{bits_limit, characters_limit}
use Rattle.eo_ops.specs.Operators.{is_in_range}
pub use Rattle.eo_roundtrip.proofs.Texts.{is_character}
use Rattle.eo_term.specs.Tree.{Tree, Trees, Con, Num, Bits, Str, Par, Var, App, Arr, Qar, Op, NoTree, More, is_tall}
use Rattle.eo_sig.specs.Signature.{Signature, SignatureEntry, IsConstant, IsProgram, IsRule, IsLiteralType, Attribute, Plain, RightNil, LeftNil, Right, Left, Chain, Pairs, Binder, Constant, Macro}

-- characters, and not too many
abbrev pub is_text : List ℕ → Bool
is_text s = list_all is_character s && nat_le (length s) characters_limit

abbrev pub are_bits : ℕ → ℕ → Bool
are_bits w v = nat_le w bits_limit && nat_lt v (2 ^ w)

abbrev mutual
  pub is_within : Tree → Bool
  is_within (Con k) = true
  is_within (Num z) = is_in_range z
  is_within (Bits w v) = are_bits w v
  is_within (Str s) = is_text s
  is_within (Par i) = true
  is_within (Var s t) = is_text s && is_within t
  is_within (App f x) = is_within f && is_within x
  is_within (Arr a b) = is_within a && is_within b
  is_within (Qar i t b) = is_within t && is_within b
  is_within (Op c ts) = all_within ts

  pub all_within : Trees → Bool
  all_within NoTree = true
  all_within (More t ts) = is_within t && all_within ts

-- and not too tall
abbrev pub is_fit : Tree → Bool
is_fit t = is_within t && not (is_tall t)

abbrev pub attribute_within : Attribute → Bool
attribute_within (RightNil n) = is_within n
attribute_within (LeftNil n) = is_within n
attribute_within Plain = true
attribute_within Right = true
attribute_within Left = true
attribute_within (Chain k) = true
attribute_within (Pairs k) = true
attribute_within (Binder k) = true

abbrev pub constant_within : Constant → Bool
constant_within d = is_within d.type && attribute_within d.attribute

abbrev pub entry_within : SignatureEntry → Bool
entry_within (IsConstant d n) = constant_within d
entry_within (IsProgram p) = list_all (λ c. is_within c.body) p.cases
entry_within (IsRule r) = true
entry_within (IsLiteralType l t) = is_within t

abbrev pub signature_within : Signature → Bool
signature_within S = list_all entry_within S

abbrev pub macros_within : List Macro → Bool
macros_within macros = list_all (λ m. is_within m.tree) macros
