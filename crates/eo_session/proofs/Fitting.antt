-- Terminators stay values, and macros are bound, where something is declared.
use Rattle.std.proofs.Common.{◌≡◌, refl, ℕ, zero, suc, Bool, true, false, List, [], ◌∷◌, ◌++◌, take, Option, Some, slice_get, sym, ap, ◌∙◌, subst}
use Rattle.std.specs.Prelude.{◌&&◌}
use Rattle.std.specs.Option.{option_map_or}
use Rattle.std.specs.List.{list_all}
use Rattle.std.proofs.lemmas.Option.{same_Some, none-some}
use Rattle.std.proofs.lemmas.List.{append-nil}
use Rattle.std.proofs.lemmas.List.Folds.{list_all-append}
use Rattle.std.proofs.lemmas.List.Elements.{filter_map-append}
use Rattle.eo_names.specs.Contexts.{Context, InProof, Naming}
use Rattle.eo_sig.specs.Signature.{Signature, SignatureEntry, IsConstant, IsProgram, IsRule, IsLiteralType, Constant, Macro, constants, constant_of, constant_at, may_fold, first_signature}
use Rattle.eo_elab.specs.Fitting.{FitsTerms, macro_is_bound}

abbrev pub in_proof : Naming → Signature → List Macro → Context
in_proof n S ms = record { signature = S; macros = ms; file_kind = InProof; naming = n }

-- an entry whose terminator is a value, if it has one
abbrev pub MayFold : SignatureEntry → Type 0
MayFold (IsConstant d n) = may_fold d.attribute ≡ true
MayFold (IsProgram p) = Unit {0}
MayFold (IsRule r) = Unit {0}
MayFold (IsLiteralType class t) = Unit {0}

-- one element more
pub slice_get_more : {X : Type 0} (P : X → Type 0) (xs : List X) (y : X) (k : ℕ) (x : X) → ((j : ℕ) (z : X) → slice_get xs j ≡ Some z → P z) → P y → slice_get (xs ++ y ∷ []) k ≡ Some x → P x
slice_get_more P [] y zero x h p e = subst P (same_Some y x e) p
slice_get_more P [] y (suc k) x h p e = absurd (none-some x e)
slice_get_more P (z ∷ zs) y zero x h p e = h zero x e
slice_get_more P (z ∷ zs) y (suc k) x h p e = slice_get_more P zs y k x (λ j w q. h (suc j) w q) p e

module _ (S : Signature) (old : (k : ℕ) (d : Constant) → constant_at S k ≡ Some d → may_fold d.attribute ≡ true) (k : ℕ) (d : Constant) where
  none_more : slice_get (constants S ++ []) k ≡ Some d → may_fold d.attribute ≡ true
  none_more e = old k d (ap (λ (cs : List Constant). slice_get cs k) (sym (append-nil (constants S))) ∙ e)

  folds_more : (e : SignatureEntry) → MayFold e → slice_get (constants S ++ constants (e ∷ [])) k ≡ Some d → may_fold d.attribute ≡ true
  folds_more (IsConstant x n) may e = slice_get_more (λ (d : Constant). may_fold d.attribute ≡ true) (constants S) x k d old may e
  folds_more (IsProgram p) may e = none_more e
  folds_more (IsRule r) may e = none_more e
  folds_more (IsLiteralType class t) may e = none_more e

module _ {n : Naming} (S T : Signature) (ms ns : List Macro) (fits : FitsTerms (in_proof n S ms)) where
  pub fits_entry : (e : SignatureEntry) → T ≡ S ++ e ∷ [] → ns ≡ ms → MayFold e → FitsTerms (in_proof n T ns)
  fits_entry e s m may = record {
    folds = λ k d is. folds_more S fits.folds k d e may (ap (λ (cs : List Constant). slice_get cs k) (sym (filter_map-append constant_of S (e ∷ []))) ∙ ap (λ (U : Signature). constant_at U k) (sym s) ∙ is);
    macros = ap (list_all macro_is_bound) m ∙ fits.macros;
  }

  module _ (s : T ≡ S) where
    folds_same : (k : ℕ) (d : Constant) → constant_at T k ≡ Some d → may_fold d.attribute ≡ true
    folds_same k d is = fits.folds k d (ap (λ (U : Signature). constant_at U k) (sym s) ∙ is)

    pub fits_macros : (more : List Macro) → ns ≡ ms ++ more → list_all macro_is_bound more ≡ true → FitsTerms (in_proof n T ns)
    fits_macros more e bound = record {
      folds = folds_same;
      macros = ap (list_all macro_is_bound) e ∙ list_all-append macro_is_bound ms more ∙ (λ i. fits.macros i && bound i);
    }

    pub fits_macro : (m : Macro) → ns ≡ ms ++ m ∷ [] → macro_is_bound m ≡ true → FitsTerms (in_proof n T ns)
    fits_macro m e bound = fits_macros (m ∷ []) e (λ i. bound i && true)

    pub fits_taken : (k : ℕ) → ns ≡ take k ms → FitsTerms (in_proof n T ns)
    fits_taken k e = record { folds = folds_same; macros = ap (list_all macro_is_bound) e ∙ front k ms fits.macros }
      where
        front : (n : ℕ) (ms : List Macro) → list_all macro_is_bound ms ≡ true → list_all macro_is_bound (take n ms) ≡ true
        front zero ms h = refl
        front (suc n) [] h = refl
        front (suc n) (m ∷ ms) h = by (macro_is_bound m) (list_all macro_is_bound ms) (list_all macro_is_bound (take n ms)) h (front n ms)
          where
            by : (a b c : Bool) → (a && b) ≡ true → (b ≡ true → c ≡ true) → (a && c) ≡ true
            by true b c h f = f h
            by false b c h f = h

-- ---- the first

first_folds : (k : ℕ) (d : Constant) → constant_at first_signature k ≡ Some d → may_fold d.attribute ≡ true
first_folds k d e = sym (ap (λ (o : Option Constant). option_map_or (λ (d : Constant). may_fold d.attribute) o true) e) ∙ by k
  where
    by : (k : ℕ) → option_map_or (λ (d : Constant). may_fold d.attribute) (constant_at first_signature k) true ≡ true
    by zero = refl
    by (suc zero) = refl
    by (suc (suc zero)) = refl
    by (suc (suc (suc zero))) = refl
    by (suc (suc (suc (suc k)))) = refl

pub first_fits : {n : Naming} (S : Signature) (ms : List Macro) → S ≡ first_signature → ms ≡ [] → FitsTerms (in_proof n S ms)
first_fits {n} S ms s m = subst FitsTerms (λ i. in_proof n (sym s i) (sym m i)) (record { folds = first_folds; macros = refl })
