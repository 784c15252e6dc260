-- Where no two constants have one name, a name means the same before any number of arguments.
use Rattle.std.specs.Prelude.{◌≡◌, ℕ, suc, Bool, true, false, not, ◌&&◌, ◌||◌, if◌then◌else◌, List, [], ◌∷◌, ◌++◌, length, Option, Some, None, option_map, position, bytes_eq, codes, ◌⊎◌, refl}
use Rattle.std.specs.Option.{option_or}
use Rattle.std.specs.List.{list_any}
use Rattle.std.proofs.Common.{◌∙◌, ap, sym, subst, inl, inr, cond, true≢false}
use Rattle.std.proofs.lemmas.List.{append-nil}
use Rattle.std.proofs.lemmas.List.Elements.{filter_map-append}
use Rattle.std.specs.Cmp.Lexicographic.{bytes_decides}
use Rattle.eo_sig.specs.Signature.{Signature, SignatureEntry, IsConstant, IsProgram, IsRule, IsLiteralType, Constant, Counts, Exactly, Macro, NamesConstant, Plain, constant_of, counted_of, takes, constants, counted, constant_named, constant_taking, lookup, lookup_count, other_named, meet, is_apart, first_signature}
use Rattle.eo_term.specs.Tree.{Tree, type_tree, bool_tree}
use Rattle.eo_sig.proofs.Positions.{position-cons, position-push}

-- no constant, or the one of the name
abbrev Same : Option ℕ → Option ℕ → Type 0
Same o named = (o ≡ None) ⊎ (o ≡ named)

-- whichever constant of a name takes so many arguments is the first of that name
abbrev pub IsSingle : Signature → Type 0
IsSingle S = (name : List ℕ) (n : ℕ) → Same (constant_taking S name n) (constant_named S name)

-- ---- look-ups

or_self : (o : Option ℕ) → option_or o o ≡ o
or_self None = refl
or_self (Some k) = refl

or_named : (o named : Option ℕ) → Same o named → option_or o named ≡ named
or_named o named (inl e) = ap (λ x. option_or x named) e
or_named o named (inr e) = ap (λ x. option_or x named) e ∙ or_self named

pub single_lookup : (S : Signature) (ms : List Macro) (name : List ℕ) (n : ℕ) → IsSingle S → lookup_count S ms name n ≡ lookup S ms name
single_lookup S ms name n single =
    ap (λ o. option_or (option_map NamesConstant o) (other_named S ms name)) (or_named (constant_taking S name n) (constant_named S name) (single name n))

-- ---- a signature with one entry more

single_by : (S T : Signature) → constants T ≡ constants S → counted T ≡ counted S → IsSingle S → IsSingle T
single_by S T c d single name n =
    subst (λ (cs : List Constant). Same (constant_taking T name n) (position (λ c. bytes_eq name c.name) cs)) (sym c)
    (subst (λ (ds : List (Constant × Counts)). Same (position (λ d. bytes_eq name d.0.name && takes d.1 n) ds) (constant_named S name)) (sym d) (single name n))

-- an entry that declares no constant
abbrev pub NoConstant : SignatureEntry → Type 0
NoConstant (IsConstant c n) = ⊥
NoConstant (IsProgram p) = Unit {0}
NoConstant (IsRule r) = Unit {0}
NoConstant (IsLiteralType l t) = Unit {0}

pub single_other : (S : Signature) (e : SignatureEntry) → NoConstant e → IsSingle S → IsSingle (S ++ e ∷ [])
single_other S (IsConstant c n) h single = absurd h
single_other S (IsProgram p) h single = single_by S (S ++ IsProgram p ∷ []) (filter_map-append constant_of S (IsProgram p ∷ []) ∙ append-nil (constants S)) (filter_map-append counted_of S (IsProgram p ∷ []) ∙ append-nil (counted S)) single
single_other S (IsRule r) h single = single_by S (S ++ IsRule r ∷ []) (filter_map-append constant_of S (IsRule r ∷ []) ∙ append-nil (constants S)) (filter_map-append counted_of S (IsRule r ∷ []) ∙ append-nil (counted S)) single
single_other S (IsLiteralType l t) h single = single_by S (S ++ IsLiteralType l t ∷ []) (filter_map-append constant_of S (IsLiteralType l t ∷ []) ∙ append-nil (constants S)) (filter_map-append counted_of S (IsLiteralType l t ∷ []) ∙ append-nil (counted S)) single

pub as_many : (S : Signature) → length (counted S) ≡ length (constants S)
as_many [] = refl
as_many (IsConstant c n ∷ S) = ap suc (as_many S)
as_many (IsProgram p ∷ S) = as_many S
as_many (IsRule r ∷ S) = as_many S
as_many (IsLiteralType l t ∷ S) = as_many S

same_more : (b t : Bool) (o named : Option ℕ) (l m : ℕ) → l ≡ m → Same o named → (b ≡ true → named ≡ None) →
    Same (option_or o (if b && t then Some l else None)) (option_or named (if b then Some m else None))
same_more false t o named l m e (inl k) h = inl (ap (λ x. option_or x None) k)
same_more false t o named l m e (inr k) h = inr (ap (λ x. option_or x None) k)
same_more true t o named l m e s h = by t (none s)
  where
    none : Same o named → o ≡ None
    none (inl k) = k
    none (inr k) = k ∙ h refl

    by : (t : Bool) → o ≡ None → Same (option_or o (if t then Some l else None)) (option_or named (Some m))
    by true k = inr ((λ i. option_or (k i) (Some (e i))) ∙ sym (ap (λ x. option_or x (Some m)) (h refl)))
    by false k = inl (ap (λ x. option_or x None) k)

-- a constant whose name no constant has
pub single_constant : (S : Signature) (d : Constant) (n : Counts) → constant_named S d.name ≡ None → IsSingle S → IsSingle (S ++ IsConstant d n ∷ [])
single_constant S d cs new single name n =
    let taking = λ (x : Constant × Counts). bytes_eq name x.0.name && takes x.1 n in
    let named = λ (c : Constant). bytes_eq name c.name in
    let more : counted (S ++ IsConstant d cs ∷ []) ≡ counted S ++ (d, cs) ∷ [] = filter_map-append counted_of S (IsConstant d cs ∷ []) in
    let all : constants (S ++ IsConstant d cs ∷ []) ≡ constants S ++ d ∷ [] = filter_map-append constant_of S (IsConstant d cs ∷ []) in
    let t : constant_taking (S ++ IsConstant d cs ∷ []) name n ≡ option_or (constant_taking S name n) (if taking (d, cs) then Some (length (counted S)) else None) = ap (position taking) more ∙ position-push taking (counted S) (d, cs) in
    let u : constant_named (S ++ IsConstant d cs ∷ []) name ≡ option_or (constant_named S name) (if named d then Some (length (constants S)) else None) = ap (position named) all ∙ position-push named (constants S) d in
    subst (λ (o : Option ℕ). Same o (constant_named (S ++ IsConstant d cs ∷ []) name)) (sym t)
    (subst (λ (o : Option ℕ). Same (option_or (constant_taking S name n) (if taking (d, cs) then Some (length (counted S)) else None)) o) (sym u)
    (same_more (bytes_eq name d.name) (takes cs n) (constant_taking S name n) (constant_named S name) (length (counted S)) (length (constants S)) (as_many S) (single name n)
    (λ e. ap (constant_named S) ((bytes_decides name d.name).0 e) ∙ new)))

-- ---- the first signature

none_single : IsSingle []
none_single name n = inl refl

abbrev plain : List ℕ → Tree → Constant
plain name type = record { name = name; parameters = []; type = type; attribute = Plain; from_reference = false }

abbrev one_more : Signature → List ℕ → Tree → Signature
one_more S name type = S ++ IsConstant (plain name type) (Exactly 0) ∷ []

pub first_single : IsSingle first_signature
first_single =
    let one = one_more [] (codes "Type") type_tree in
    let two = one_more one (codes "Bool") type_tree in
    let three = one_more two (codes "true") bool_tree in
    single_constant three (plain (codes "false") bool_tree) (Exactly 0) refl
    (single_constant two (plain (codes "true") bool_tree) (Exactly 0) refl
    (single_constant one (plain (codes "Bool") type_tree) (Exactly 0) refl
    (single_constant [] (plain (codes "Type") type_tree) (Exactly 0) refl none_single)))

-- ---- a name that no constant has

none_passes : {X : Type 0} (p : X → Bool) (xs : List X) → position p xs ≡ None → list_any p xs ≡ false
none_passes p [] e = refl
none_passes p (x ∷ xs) e = by (p x) (position p xs) (sym (position-cons p x xs) ∙ e) (none_passes p xs)
  where
    by : (b : Bool) (o : Option ℕ) → cond b (Some 0) (option_map suc o) ≡ None → (o ≡ None → list_any p xs ≡ false) → (b || list_any p xs) ≡ false
    by true o e h = absurd (cc e)
    by false None e h = h refl
    by false (Some k) e h = absurd (cc e)

or_parts : (a b : Bool) → (a || b) ≡ false → (a ≡ false) × (b ≡ false)
or_parts true b e = absurd (true≢false e)
or_parts false b e = (refl, e)

-- where one test fails of all, so does a stronger one
pub none_taking : {X : Type 0} (p q : X → Bool) (xs : List X) → list_any p xs ≡ false → ((x : X) → q x ≡ true → p x ≡ true) → position q xs ≡ None
none_taking p q [] e h = refl
none_taking p q (x ∷ xs) e h = let parts = or_parts (p x) (list_any p xs) e in position-cons q x xs ∙ by (q x) refl parts.0 (none_taking p q xs parts.1 h)
  where
    by : (b : Bool) → q x ≡ b → p x ≡ false → position q xs ≡ None → cond b (Some 0) (option_map suc (position q xs)) ≡ None
    by true g f rest = absurd (true≢false (sym (h x g) ∙ f))
    by false g f rest = ap (option_map suc) rest

none_counted : (S : Signature) (name : List ℕ) (q : Constant × Counts → Bool) → list_any (λ (c : Constant). bytes_eq name c.name) (constants S) ≡ false →
    list_any (λ (d : Constant × Counts). bytes_eq name d.0.name && q d) (counted S) ≡ false
none_counted [] name q e = refl
none_counted (IsConstant c n ∷ S) name q e =
    let both = or_parts (bytes_eq name c.name) (list_any (λ (c : Constant). bytes_eq name c.name) (constants S)) e in
    (λ i. (both.0 i && q (c, n)) || none_counted S name q both.1 i)
none_counted (IsProgram p ∷ S) name q e = none_counted S name q e
none_counted (IsRule r ∷ S) name q e = none_counted S name q e
none_counted (IsLiteralType l t ∷ S) name q e = none_counted S name q e

pub apart_new : (S : Signature) (name : List ℕ) (m : Counts) → constant_named S name ≡ None → is_apart S name m ≡ true
apart_new S name m e = ap not (none_counted S name (λ d. meet d.1 m) (none_passes (λ c. bytes_eq name c.name) (constants S) e))
