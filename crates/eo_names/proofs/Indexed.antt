-- The names of a block added to what names mean, and taken away.
use Rattle.std.proofs.Common.{◌≡◌, ℕ, zero, suc, ◌+◌, ◌-◌, ◌<◌, Bool, true, false, cond, drop, arith, sym, List, [], ◌∷◌, ◌++◌, map, Some, is_some, slice_get, refl, ap, subst, ◌∙◌}
use Rattle.std.specs.Prelude.{option_map, IfSome, if◌then◌else◌}
use Rattle.std.specs.List.{find}
use Rattle.std.specs.Str.{bytes_eq}
use Rattle.std.proofs.lemmas.List.Elements.{All-head, All-tail}
use Rattle.std.proofs.lemmas.Slice.Eq.{bytes_eq-Decides}
use Rattle.eo_term.specs.Tree.{Tree}
use Rattle.eo_term.specs.Terms.{tree_at}
use Rattle.eo_names.specs.declared.locals.LocalName.{LocalName}
use Rattle.eo_names.specs.Contexts.{Local, local_named}
use Rattle.eo_names.specs.Names.{Binding, binding_local, read_local, read_locals, AreBelow}
use Rattle.eo_names.specs.Innermost.{Index, term_in, term_named, IsIndex, Binds, last_hidden, Unbinds}

pub named_first : (ts : List Tree) (ls : List LocalName) (name : List ℕ) → option_map (tree_at ts) (term_named ls name) ≡ local_named (read_locals ts ls) name
named_first ts [] name = refl
named_first ts (l ∷ ls) name = by (bytes_eq l.name name) (named_first ts ls name)
  where
    by : (b : Bool) → option_map (tree_at ts) (term_named ls name) ≡ local_named (read_locals ts ls) name
        → option_map (tree_at ts) (option_map (λ (k : LocalName). k.id) (cond b (Some l) (find (λ (k : LocalName). bytes_eq k.name name) ls)))
        ≡ option_map (λ (k : Local). k.tree) (cond b (Some (read_local ts l)) (find (λ (k : Local). bytes_eq k.name name) (read_locals ts ls)))
    by true h = refl
    by false h = h

pub named_live : (n : ℕ) (ls : List LocalName) (name : List ℕ) → AreBelow n ls → IfSome (term_named ls name) (λ i. i < n)
named_live n [] name h = tt
named_live n (l ∷ ls) name h = by (bytes_eq l.name name) (named_live n ls name (All-tail (λ (k : LocalName). k.id < n) l ls h))
  where
    by : (b : Bool) → IfSome (term_named ls name) (λ i. i < n) → IfSome (option_map (λ (k : LocalName). k.id) (cond b (Some l) (find (λ (k : LocalName). bytes_eq k.name name) ls))) (λ i. i < n)
    by true g = All-head (λ (k : LocalName). k.id < n) l ls h
    by false g = g

-- one local more, by whether its name is asked for
named_more : (l : LocalName) (ls : List LocalName) (name : List ℕ) → term_named (l ∷ ls) name ≡ (if bytes_eq l.name name then Some l.id else term_named ls name)
named_more l ls name = by (bytes_eq l.name name)
  where
    by : (b : Bool) → option_map (λ (k : LocalName). k.id) (cond b (Some l) (find (λ (k : LocalName). bytes_eq k.name name) ls)) ≡ (if b then Some l.id else term_named ls name)
    by true = refl
    by false = refl

pub index_more : (ls : List LocalName) (x y : Index) (b : Binding) → IsIndex ls x → Binds x b.0 b.1 y → IsIndex (binding_local b ∷ ls) y
index_more ls x y b h m = record {
  terms = λ name. m.terms name ∙ ap (λ o. if bytes_eq b.0 name then Some b.1 else o) (h.terms name) ∙ sym (named_more (binding_local b) ls name);
  hidden = m.hidden ∙ (λ i. h.terms b.0 i ∷ h.hidden i);
}

pub index_less : (l : LocalName) (ls : List LocalName) (x y : Index) (name : List ℕ) → name ≡ l.name → IsIndex (l ∷ ls) x → Unbinds x name y → IsIndex ls y
index_less l ls x y name e h m = record {
  terms = λ other. m.terms bound other ∙ ap (λ o. if bytes_eq name other then o else term_in x other) before ∙ by other (bytes_eq name other) refl;
  hidden = m.hidden ∙ ap (drop 1) h.hidden;
}
  where
    own : term_in x name ≡ Some l.id
    own = h.terms name ∙ named_more l ls name ∙ ap (λ b. if b then Some l.id else term_named ls name) (ap (λ z. bytes_eq l.name z) e ∙ (bytes_eq-Decides l.name l.name).1 refl)

    bound : is_some (term_in x name) ≡ true
    bound = ap is_some own

    before : last_hidden x.hidden ≡ term_named ls l.name
    before = ap last_hidden h.hidden

    by : (other : List ℕ) (b : Bool) → bytes_eq name other ≡ b → (if b then term_named ls l.name else term_in x other) ≡ term_named ls other
    by other true q = ap (term_named ls) (sym e ∙ (bytes_eq-Decides name other).0 q)
    by other false q = h.terms other ∙ named_more l ls other ∙ ap (λ b. if b then Some l.id else term_named ls other) (ap (λ z. bytes_eq z other) (sym e) ∙ q)

drop_next : (xs : List Binding) (i : ℕ) (b : Binding) → slice_get xs i ≡ Some b → drop i xs ≡ b ∷ drop (suc i) xs
drop_next [] zero b e = absurd cc
drop_next [] (suc i) b e = absurd cc
drop_next (x ∷ xs) zero b e = let h : x ≡ b = cc in ap (λ y. y ∷ xs) h
drop_next (x ∷ xs) (suc i) b e = drop_next xs i b e

pub drop_here : (xs : List Binding) (i : ℕ) (b : Binding) → slice_get xs i ≡ Some b → drop i xs ≡ b ∷ drop (i + 1) xs
drop_here xs i b e =
    let one : suc i ≡ i + 1 = omega arith in
    drop_next xs i b e ∙ ap (λ k. b ∷ drop k xs) one

-- the name of the first of those that are left is left
pub index_left : (bs : List Binding) (i : ℕ) (b : Binding) (ls : List LocalName) (x y : Index) → slice_get bs i ≡ Some b → Unbinds x b.0 y → IsIndex (map binding_local (drop i bs) ++ ls) x → IsIndex (map binding_local (drop (i + 1) bs) ++ ls) y
index_left bs i b ls x y e m h =
    index_less (binding_local b) (map binding_local (drop (i + 1) bs) ++ ls) x y b.0 refl (subst (λ (cs : List Binding). IsIndex (map binding_local cs ++ ls) x) (drop_here bs i b e) h) m

-- the name in front of those that are there is bound
pub index_entered : (bs : List Binding) (n : ℕ) (b : Binding) (ls : List LocalName) (x y : Index) → 0 < n → slice_get bs (n - 1) ≡ Some b → Binds x b.0 b.1 y → IsIndex (map binding_local (drop n bs) ++ ls) x → IsIndex (map binding_local (drop (n - 1) bs) ++ ls) y
index_entered bs n b ls x y some e m h =
    let one : (n - 1) + 1 ≡ n = omega (arith, some) in
    subst (λ (cs : List Binding). IsIndex (map binding_local cs ++ ls) y) (sym (drop_here bs (n - 1) b e ∙ ap (λ k. b ∷ drop k bs) one)) (index_more (map binding_local (drop n bs) ++ ls) x y b h m)
