-- What a free name means once a line has defined it.
use Rattle.std.specs.Prelude.{◌≡◌, refl, ℕ, suc, ◌+◌, ◌<◌, ◌≤◌, Bool, true, false, not, ◌||◌, nat_eq, nat_lt, List, [], ◌∷◌, ◌++◌, length, cond, Option, Some, None, option_map, position, slice_get, bytes_eq, codes}
use Rattle.std.specs.List.{list_any, starts_with, position_or_len}
use Rattle.std.specs.Option.{option_or}
use Rattle.std.proofs.Common.{◌∙◌, ap, arith, length-append}
use Rattle.std.proofs.lemmas.Bool.{lt-ltb, ltb-false}
use Rattle.std.proofs.lemmas.Slice.Eq.{bytes_eq-Decides}
use Rattle.eo_base.proofs.Tests.{both}
use Rattle.eo_term.proofs.OperatorNames.{none_named}
use Rattle.eo_term.specs.Tree.{Tree}
use Rattle.eo_sig.specs.Signature.{Signature, Macro, NamesConstant, NamesMacro, NamesProgram, is_free, is_reserved, reserved_names, lookup, constant_named, macro_named, program_named}
use Rattle.eo_names.specs.Contexts.{InProof}
use Rattle.eo_names.specs.Meanings.{operator_meant, local_meant, global_meant, or_nothing, macro_meant, Name, word_of}
use Rattle.eo_show.specs.Forms.{symbol}
use Rattle.eo_roundtrip.proofs.Uses.{context_of, Reads}
use Rattle.eo_roundtrip.proofs.Stands.{Stands}
use Rattle.eo_roundtrip.proofs.Steps.{macro_of, free-unnamed}
use Rattle.eo_roundtrip.proofs.Layers.{HasName, symbol-reads}

-- ---- names that are not reserved

not-false : (b : Bool) → not b ≡ true → b ≡ false
not-false true e = cc
not-false false e = refl

neither : (a b : Bool) → (a || b) ≡ false → (a ≡ false) × (b ≡ false)
neither true b e = cc
neither false b e = (refl, e)

either : {a b : Bool} → (a || b) ≡ false → (a ≡ false) × (b ≡ false)
either {a} {b} e = neither a b e

pub has-name : (name : List ℕ) → is_reserved name ≡ false → HasName name
has-name name e =
    let parts = neither (list_any (bytes_eq name) reserved_names) (starts_with nat_eq name (codes "eo::")) e in
    (word parts.0, none_named name parts.1)
  where
    word : list_any (bytes_eq name) reserved_names ≡ false → word_of InProof name ≡ Name
    word h =
        let r1 = either {a = bytes_eq name (codes "Type")} h in
        let r2 = either {a = bytes_eq name (codes "Bool")} r1.1 in
        let r3 = either {a = bytes_eq name (codes "true")} r2.1 in
        let r4 = either {a = bytes_eq name (codes "false")} r3.1 in
        let r5 = either {a = bytes_eq name (codes "->")} r4.1 in
        let r6 = either {a = bytes_eq name (codes "_")} r5.1 in
        let r7 = either {a = bytes_eq name (codes "let")} r6.1 in
        rw (r6.0, r5.0, r7.0) refl

-- ---- the first of a name

found-at : {A : Type 0} (p : A → Bool) (xs : List A) (y : A) (ys : List A) → length xs ≤ position_or_len p xs → p y ≡ true → position_or_len p (xs ++ y ∷ ys) ≡ length xs
found-at p [] y ys h e = ap (λ b. cond (not b) (1 + position_or_len p ys) 0) e
found-at p (x ∷ xs) y ys h e = go (p x) h (λ k. found-at p xs y ys k e)
  where
    go : (b : Bool) → suc (length xs) ≤ cond (not b) (1 + position_or_len p xs) 0 → (length xs ≤ position_or_len p xs → position_or_len p (xs ++ y ∷ ys) ≡ length xs) →
        cond (not b) (1 + position_or_len p (xs ++ y ∷ ys)) 0 ≡ suc (length xs)
    go true k f = absurd (omega arith)
    go false k f = omega (arith, f (omega arith))

none-found : {A : Type 0} (p : A → Bool) (xs : List A) → position p xs ≡ None → length xs ≤ position_or_len p xs
none-found p xs e = go (nat_lt (position_or_len p xs) (length xs)) refl e
  where
    go : (b : Bool) → nat_lt (position_or_len p xs) (length xs) ≡ b → cond b (Some (position_or_len p xs)) None ≡ None → length xs ≤ position_or_len p xs
    go true f h = cc
    go false f h = ltb-false (position_or_len p xs) (length xs) f

position-at : {A : Type 0} (p : A → Bool) (xs : List A) (y : A) (ys : List A) → position p xs ≡ None → p y ≡ true → position p (xs ++ y ∷ ys) ≡ Some (length xs)
position-at p xs y ys none e =
    let at = found-at p xs y ys (none-found p xs none) e in
    let long : length xs < length (xs ++ y ∷ ys) = omega (arith, length-append xs (y ∷ ys)) in
    ap (λ k. cond (nat_lt k (length (xs ++ y ∷ ys))) (Some k) None) at ∙ ap (λ b. cond b (Some (length xs)) None) (lt-ltb (length xs) (length (xs ++ y ∷ ys)) long)

get-at : {A : Type 0} (xs : List A) (y : A) (ys : List A) → slice_get (xs ++ y ∷ ys) (length xs) ≡ Some y
get-at [] y ys = refl
get-at (x ∷ xs) y ys = get-at xs y ys

-- ---- a line's name

record Unnamed (S : Signature) (macros : List Macro) (name : List ℕ) : Type 0 where
  constant : constant_named S name ≡ None
  macro : macro_named macros name ≡ None
  program : program_named S name ≡ None

unnamed : (S : Signature) (macros : List Macro) (name : List ℕ) → is_free S macros name ≡ true → Unnamed S macros name
unnamed S macros name e = go (constant_named S name) (macro_named macros name) (program_named S name) refl refl refl (free-unnamed S macros name e)
  where
    go : (a b d : Option ℕ) → constant_named S name ≡ a → macro_named macros name ≡ b → program_named S name ≡ d →
        option_or (option_map NamesConstant a) (option_or (option_map NamesMacro b) (option_map NamesProgram d)) ≡ None → Unnamed S macros name
    go None None None p q r h = record { constant = p; macro = q; program = r }
    go (Some k) b d p q r h = cc
    go None (Some k) d p q r h = cc
    go None None (Some k) p q r h = cc

pub line-reads : (S : Signature) (macros : List Macro) (name : List ℕ) (m t : Tree) (later : List Macro) → is_free S macros name ≡ true → Stands S m t →
    Reads S (macros ++ macro_of name m ∷ later) (symbol name) t
line-reads S macros name m t later free s =
    let named = has-name name (not-false (is_reserved name) (both free).0) in
    let nothing = unnamed S macros name free in
    let all = macros ++ macro_of name m ∷ later in
    let found : macro_named all name ≡ Some (length macros) = position-at (λ (d : Macro). bytes_eq name d.name) macros (macro_of name m) later nothing.macro ((bytes_eq-Decides name name).1 refl) in
    symbol-reads S all name m t named.0
    (ap (λ o. operator_meant (context_of S all) o (local_meant (context_of S all) None (lookup S all name))) named.1
    ∙ ap (λ o. global_meant (context_of S all) (option_or (option_map NamesConstant o) (option_or (option_map NamesMacro (macro_named all name)) (option_map NamesProgram (program_named S name))))) nothing.constant
    ∙ ap (λ o. global_meant (context_of S all) (option_or (option_map NamesMacro o) (option_map NamesProgram (program_named S name)))) found
    ∙ ap (λ o. or_nothing (option_map macro_meant o)) (get-at macros (macro_of name m) later))
    s
