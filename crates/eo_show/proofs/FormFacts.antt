-- What the definitions of a form say where they hold.
use Rattle.std.specs.Prelude.{◌≡◌, refl, ℕ, ◌^◌, ◌<◌, ◌≤◌, FitsSigned, true, List, Option, Some, None, option_and_then, option_map}
use Rattle.std.specs.Int.{w128}
use Rattle.std.proofs.Common.{ap, arith, subst}
use Rattle.std.proofs.lemmas.Bool.{eqb-true}
use Rattle.std.proofs.lemmas.Option.{same_Some}
use Rattle.eo_base.specs.Characters.{AreCharacters}
use Rattle.eo_term.specs.Tree.{Tree, Con, Num, Bits, Str, Par, Var, App, Arr, Qar, Op, height}
use Rattle.eo_lists.specs.Lists.{spelled}
use Rattle.eo_sig.specs.Signature.{Signature, constant_named, terminator}
use Rattle.eo_show.specs.Forms.{name_of, is_this, list_of}

pub some_height : (t : Tree) → 1 ≤ height t
some_height (Con k) = omega arith
some_height (Num z) = omega arith
some_height (Bits w v) = omega arith
some_height (Str s) = omega arith
some_height (Par i) = omega arith
some_height (Var s t) = omega arith
some_height (App f x) = omega arith
some_height (Arr a b) = omega arith
some_height (Qar i t b) = omega arith
some_height (Op c ts) = omega arith

module _ (S : Signature) where
  pub is_this-is : (k : ℕ) (o : Option ℕ) → is_this S k o ≡ true → o ≡ Some k
  is_this-is k None h = cc
  is_this-is k (Some j) h = ap Some (eqb-true j k h)

  pub list_of-is : (t : Tree) (l : ℕ × List Tree) → list_of S t ≡ Some l → (n : Tree) × (terminator S l.0 ≡ Some n) × (spelled (Con l.0) n t ≡ Some l.1)
  list_of-is (App (App (Con k) a) r) l e = go (terminator S k) refl e
    where
      with_items : (n : Tree) (o : Option (List Tree)) → spelled (Con k) n (App (App (Con k) a) r) ≡ o → terminator S k ≡ Some n → option_map (λ items. (k, items)) o ≡ Some l →
          (n : Tree) × (terminator S l.0 ≡ Some n) × (spelled (Con l.0) n (App (App (Con k) a) r) ≡ Some l.1)
      with_items n None f g h = cc
      with_items n (Some items) f g h =
          let same : (k, items) ≡ l = same_Some (k, items) l h in
          subst (λ (p : ℕ × List Tree). (n : Tree) × (terminator S p.0 ≡ Some n) × (spelled (Con p.0) n (App (App (Con k) a) r) ≡ Some p.1)) same (n, g, f)

      go : (o : Option Tree) → terminator S k ≡ o → option_and_then (λ n. option_map (λ items. (k, items)) (spelled (Con k) n (App (App (Con k) a) r))) o ≡ Some l →
          (n : Tree) × (terminator S l.0 ≡ Some n) × (spelled (Con l.0) n (App (App (Con k) a) r) ≡ Some l.1)
      go None f h = cc
      go (Some n) f h = with_items n (spelled (Con k) n (App (App (Con k) a) r)) refl f h
  list_of-is t l e = cc

  -- a literal that has a spelling, and a constant that its name means
  abbrev pub IsSpelled : Tree → Type 0
  IsSpelled (Con k) = constant_named S (name_of S k) ≡ Some k
  IsSpelled (Num z) = FitsSigned w128 z
  IsSpelled (Bits w v) = (1 ≤ w) × (w ≤ 128) × (v < 2 ^ w)
  IsSpelled (Str s) = AreCharacters s
  IsSpelled t = Unit {0}
