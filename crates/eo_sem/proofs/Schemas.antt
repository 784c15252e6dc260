-- Trees over parameters for formulas, made by connectives: their truth is computed from that of the parameters.
use Rattle.std.specs.Prelude.{if◌then◌else◌, ◌≡◌, ℕ, Bool, true, false, not, ◌&&◌, ◌||◌, nat_eq, List, Option, Some, None, slice_get, unwrap_or, refl}
use Rattle.std.specs.Option.{option_map_or}
use Rattle.std.specs.Bool.{beq}
use Rattle.std.proofs.Common.{sym, ◌∙◌, ap, ap₂, subst}
use Rattle.std.proofs.lemmas.Option.{none-some, same_Some}
use Rattle.eo_term.specs.Tree.{Tree, Con, Par, App, is_plain}
use Rattle.eo_base.proofs.Tests.{join}
use Rattle.eo_sig.specs.Signature.{Signature}
use Rattle.eo_pattern.specs.Matching.{Assignment, value_or_par, put}
use Rattle.eo_sem.specs.Connectives.{and_number, or_number, implies_number, xor_number, equals_number, ite_number}
use Rattle.eo_sem.specs.Truth.{Valuation, table_of_none, table_of_one, table_of_two, table_of_three, is_formula, is_in, holds}

abbrev is_par : Tree → Bool
is_par (Par i) = true
is_par t = false

abbrev on_one : Option (Bool → Bool) → Option Bool → Option Bool
on_one (Some table) (Some a) = Some (table a)
on_one _ _ = None

abbrev on_two : Option (Bool → Bool → Bool) → Option Bool → Option Bool → Option Bool
on_two (Some table) (Some a) (Some b) = Some (table a b)
on_two _ _ _ = None

abbrev on_three : Option (Bool → Bool → Bool → Bool) → Option Bool → Option Bool → Option Bool → Option Bool
on_three (Some table) (Some c) (Some a) (Some b) = Some (table c a b)
on_three _ _ _ _ = None

-- the truth of a tree, where that of the parameters is this
abbrev pub schema_truth : List Bool → Tree → Option Bool
schema_truth bs (Con k) = table_of_none k
schema_truth bs (Par i) = slice_get bs i
schema_truth bs (App (Con k) a) = on_one (table_of_one k) (schema_truth bs a)
schema_truth bs (App (App (Con k) a) b) = on_two (table_of_two k (is_par a)) (schema_truth bs a) (schema_truth bs b)
schema_truth bs (App (App (App (Con k) c) a) b) =
    on_three (table_of_three k (is_par a)) (schema_truth bs c) (schema_truth bs a) (schema_truth bs b)
schema_truth bs t = None

-- ---- tables

-- a table that is there for any arguments is there for formulas
two_more : (k : ℕ) (table : Bool → Bool → Bool) → table_of_two k false ≡ Some table → table_of_two k true ≡ Some table
two_more k table e = by (nat_eq k and_number) (nat_eq k or_number) (nat_eq k implies_number) (nat_eq k xor_number) (nat_eq k equals_number) e
  where
    by : (a o i x q : Bool) → (if a then Some (λ (a b : Bool). a && b) else (if o then Some (λ (a b : Bool). a || b) else (if i then Some (λ (a b : Bool). not a || b) else (if x then Some (λ (a b : Bool). not (beq a b)) else (if q && false then Some (λ (a b : Bool). beq a b) else None))))) ≡ Some table → (if a then Some (λ (a b : Bool). a && b) else (if o then Some (λ (a b : Bool). a || b) else (if i then Some (λ (a b : Bool). not a || b) else (if x then Some (λ (a b : Bool). not (beq a b)) else (if q && true then Some (λ (a b : Bool). beq a b) else None))))) ≡ Some table
    by true o i x q e = e
    by false true i x q e = e
    by false false true x q e = e
    by false false false true q e = e
    by false false false false true e = absurd (none-some table e)
    by false false false false false e = absurd (none-some table e)

two_for : (k : ℕ) (p f : Bool) (table : Bool → Bool → Bool) → (p ≡ true → f ≡ true) → table_of_two k p ≡ Some table → table_of_two k f ≡ Some table
two_for k true f table h e = subst (λ (x : Bool). table_of_two k x ≡ Some table) (sym (h refl)) e
two_for k false true table h e = two_more k table e
two_for k false false table h e = e

three_for : (k : ℕ) (p f : Bool) (table : Bool → Bool → Bool → Bool) → (p ≡ true → f ≡ true) → table_of_three k p ≡ Some table → table_of_three k f ≡ Some table
three_for k true f table h e = subst (λ (x : Bool). table_of_three k x ≡ Some table) (sym (h refl)) e
three_for k false f table h e = by (nat_eq k ite_number) e
  where
    by : (q : Bool) → (if q && false then Some (λ (c a b : Bool). if c then a else b) else None) ≡ Some table → table_of_three k f ≡ Some table
    by true e = absurd (none-some table e)
    by false e = absurd (none-some table e)

abbrev Is : Option Bool → Bool → Type 0
Is x h = (a : Bool) → x ≡ Some a → h ≡ a

one_truth : (t : Option (Bool → Bool)) (x : Option Bool) (b h otherwise : Bool) → on_one t x ≡ Some b → Is x h → option_map_or (λ (table : Bool → Bool). table h) t otherwise ≡ b
one_truth (Some table) (Some a) b h o e f = ap table (f a refl) ∙ same_Some (table a) b e
one_truth (Some table) None b h o e f = absurd (none-some b e)
one_truth None x b h o e f = absurd (none-some b e)

two_truth : (t u : Option (Bool → Bool → Bool)) (x y : Option Bool) (b h k otherwise : Bool) → on_two t x y ≡ Some b → ((table : Bool → Bool → Bool) (a : Bool) → t ≡ Some table → x ≡ Some a → u ≡ Some table) → Is x h → Is y k → option_map_or (λ (table : Bool → Bool → Bool). table h k) u otherwise ≡ b
two_truth (Some table) u (Some a) (Some c) b h k o e f g i =
    ap (λ (w : Option (Bool → Bool → Bool)). option_map_or (λ (table : Bool → Bool → Bool). table h k) w o) (f table a refl refl) ∙ (ap₂ table (g a refl) (i c refl) ∙ same_Some (table a c) b e)
two_truth (Some table) u (Some a) None b h k o e f g i = absurd (none-some b e)
two_truth (Some table) u None y b h k o e f g i = absurd (none-some b e)
two_truth None u x y b h k o e f g i = absurd (none-some b e)

three_truth : (t u : Option (Bool → Bool → Bool → Bool)) (x y z : Option Bool) (b h k l otherwise : Bool) → on_three t x y z ≡ Some b → ((table : Bool → Bool → Bool → Bool) (a : Bool) → t ≡ Some table → y ≡ Some a → u ≡ Some table) → Is x h → Is y k → Is z l → option_map_or (λ (table : Bool → Bool → Bool → Bool). table h k l) u otherwise ≡ b
three_truth (Some table) u (Some a) (Some c) (Some d) b h k l o e f g i j =
    ap (λ (w : Option (Bool → Bool → Bool → Bool)). option_map_or (λ (table : Bool → Bool → Bool → Bool). table h k l) w o) (f table c refl refl) ∙ (ap (λ (v : Bool). table v k l) (g a refl) ∙ (ap₂ (table a) (i c refl) (j d refl) ∙ same_Some (table a c d) b e))
three_truth (Some table) u (Some a) (Some c) None b h k l o e f g i j = absurd (none-some b e)
three_truth (Some table) u (Some a) None z b h k l o e f g i j = absurd (none-some b e)
three_truth (Some table) u None y z b h k l o e f g i j = absurd (none-some b e)
three_truth None u x y z b h k l o e f g i j = absurd (none-some b e)

abbrev IsThere : Option Bool → Type 0
IsThere x = (a : Bool) × (x ≡ Some a)

one_there : (t : Option (Bool → Bool)) (x : Option Bool) (b : Bool) → on_one t x ≡ Some b → IsThere x
one_there (Some table) (Some a) b e = (a, refl)
one_there (Some table) None b e = absurd (none-some b e)
one_there None x b e = absurd (none-some b e)

two_there : (t : Option (Bool → Bool → Bool)) (x y : Option Bool) (b : Bool) → on_two t x y ≡ Some b → IsThere x × IsThere y
two_there (Some table) (Some a) (Some c) b e = ((a, refl), (c, refl))
two_there (Some table) (Some a) None b e = absurd (none-some b e)
two_there (Some table) None y b e = absurd (none-some b e)
two_there None x y b e = absurd (none-some b e)

three_there : (t : Option (Bool → Bool → Bool → Bool)) (x y z : Option Bool) (b : Bool) → on_three t x y z ≡ Some b → IsThere x × IsThere y × IsThere z
three_there (Some table) (Some a) (Some c) (Some d) b e = ((a, refl), (c, refl), (d, refl))
three_there (Some table) (Some a) (Some c) None b e = absurd (none-some b e)
three_there (Some table) (Some a) None z b e = absurd (none-some b e)
three_there (Some table) None y z b e = absurd (none-some b e)
three_there None x y z b e = absurd (none-some b e)

-- ---- schemas

module _ (S : Signature) (V : Valuation) (σ : Assignment) where
  -- the value of the parameter is a formula of this truth
  pub record Reads (i : ℕ) (b : Bool) : Type 0 where
    pub tree : Tree
    pub value : σ i ≡ Some tree
    pub plain : is_plain tree ≡ true
    pub formula : is_formula S tree ≡ true
    pub truth : holds S V tree ≡ b

  module _ (bs : List Bool) (reads : (i : ℕ) (b : Bool) → slice_get bs i ≡ Some b → Reads i b) where
    par_is : (i : ℕ) (b : Bool) (r : Reads i b) → put σ (Par i) ≡ r.tree
    par_is i b r = ap (value_or_par i) r.value

    formula_is : (p : Tree) (b : Bool) → schema_truth bs p ≡ Some b → is_par p ≡ true → is_formula S (put σ p) ≡ true
    formula_is (Par i) b e h = let r = reads i b e in ap (is_formula S) (par_is i b r) ∙ r.formula
    formula_is p b e h = cc h

    pub schema_holds : (p : Tree) (b : Bool) → schema_truth bs p ≡ Some b → holds S V (put σ p) ≡ b
    schema_holds (Con k) b e = ap (λ (o : Option Bool). unwrap_or o (is_in V (Con k))) e
    schema_holds (Par i) b e = let r = reads i b e in ap (holds S V) (par_is i b r) ∙ r.truth
    schema_holds (App (Con k) a) b e =
        one_truth (table_of_one k) (schema_truth bs a) b (holds S V (put σ a)) (is_in V (put σ (App (Con k) a))) e (schema_holds a)
    schema_holds (App (App (Con k) a) c) b e =
        two_truth (table_of_two k (is_par a)) (table_of_two k (is_formula S (put σ a))) (schema_truth bs a) (schema_truth bs c) b (holds S V (put σ a)) (holds S V (put σ c)) (is_in V (put σ (App (App (Con k) a) c))) e
        (λ table v t r. two_for k (is_par a) (is_formula S (put σ a)) table (formula_is a v r) t) (schema_holds a) (schema_holds c)
    schema_holds (App (App (App (Con k) d) a) c) b e =
        three_truth (table_of_three k (is_par a)) (table_of_three k (is_formula S (put σ a))) (schema_truth bs d) (schema_truth bs a) (schema_truth bs c) b (holds S V (put σ d)) (holds S V (put σ a)) (holds S V (put σ c)) (is_in V (put σ (App (App (App (Con k) d) a) c))) e
        (λ table v t r. three_for k (is_par a) (is_formula S (put σ a)) table (formula_is a v r) t) (schema_holds d) (schema_holds a) (schema_holds c)
    schema_holds t b e = absurd (none-some b e)

    -- and it holds no operator
    pub schema_plain : (p : Tree) (b : Bool) → schema_truth bs p ≡ Some b → is_plain (put σ p) ≡ true
    schema_plain (Con k) b e = refl
    schema_plain (Par i) b e = let r = reads i b e in ap is_plain (par_is i b r) ∙ r.plain
    schema_plain (App (Con k) a) b e =
        let x = one_there (table_of_one k) (schema_truth bs a) b e in schema_plain a x.0 x.1
    schema_plain (App (App (Con k) a) c) b e =
        let x = two_there (table_of_two k (is_par a)) (schema_truth bs a) (schema_truth bs c) b e in
        join (schema_plain a x.0.0 x.0.1) (schema_plain c x.1.0 x.1.1)
    schema_plain (App (App (App (Con k) d) a) c) b e =
        let x = three_there (table_of_three k (is_par a)) (schema_truth bs d) (schema_truth bs a) (schema_truth bs c) b e in
        join (join (schema_plain d x.0.0 x.0.1) (schema_plain a x.1.0 x.1.1)) (schema_plain c x.2.0 x.2.1)
    schema_plain t b e = absurd (none-some b e)
