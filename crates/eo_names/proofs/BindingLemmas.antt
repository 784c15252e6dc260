-- What a `let` or a binder binds, over a table that grows.
use Rattle.std.proofs.Common.{◌≡◌, ℕ, ◌<◌, ◌||◌, List, [], ◌∷◌, ◌++◌, map, refl, ap, ◌∙◌}
use Rattle.std.specs.Prelude.{bytes_eq}
use Rattle.std.specs.List.{list_any}
use Rattle.std.proofs.lemmas.List.{map-append}
use Rattle.std.proofs.lemmas.List.Elements.{All-head, All-tail, All-cons}
use Rattle.eo_term.specs.Tree.{Tree}
use Rattle.eo_term.specs.Terms.{tree_at}
use Rattle.eo_names.specs.declared.locals.LocalName.{LocalName}
use Rattle.eo_names.specs.Binders.{pair_local}
use Rattle.eo_names.specs.Names.{Binding, binding_local, read_local, read_locals, read_pairs, AreBelow, BindingsBelow, names_in}

pub named_pairs : (ts : List Tree) (bs : List Binding) (name : List ℕ) → list_any (λ (p : List ℕ × Tree). bytes_eq p.0 name) (read_pairs ts bs) ≡ names_in bs name
named_pairs ts [] name = refl
named_pairs ts (b ∷ bs) name = ap (λ t. bytes_eq b.0 name || t) (named_pairs ts bs name)

pub pairs_grown : (ts us : List Tree) (n : ℕ) (bs : List Binding) → BindingsBelow n bs → ((i : ℕ) → i < n → tree_at us i ≡ tree_at ts i) → read_pairs us bs ≡ read_pairs ts bs
pairs_grown ts us n [] h g = refl
pairs_grown ts us n (b ∷ bs) h g =
    λ i. (b.0, g b.1 (All-head (λ (c : Binding). c.1 < n) b bs h) i) ∷ pairs_grown ts us n bs (All-tail (λ (c : Binding). c.1 < n) b bs h) g i

pub inside_locals : (ts : List Tree) (ls : List LocalName) (bs : List Binding) → read_locals ts (map binding_local bs ++ ls) ≡ map pair_local (read_pairs ts bs) ++ read_locals ts ls
inside_locals ts ls [] = refl
inside_locals ts ls (b ∷ bs) = ap (λ rest. read_local ts (binding_local b) ∷ rest) (inside_locals ts ls bs)

pub inside_below : (n : ℕ) (ls : List LocalName) (bs : List Binding) → BindingsBelow n bs → AreBelow n ls → AreBelow n (map binding_local bs ++ ls)
inside_below n ls [] h a = a
inside_below n ls (b ∷ bs) h a =
    All-cons (λ (l : LocalName). l.id < n) (binding_local b) (map binding_local bs ++ ls) (All-head (λ (c : Binding). c.1 < n) b bs h) (inside_below n ls bs (All-tail (λ (c : Binding). c.1 < n) b bs h) a)

pub pushed_pairs : (ts us : List Tree) (n : ℕ) (bs : List Binding) (name : List ℕ) (t : ℕ) → BindingsBelow n bs → ((i : ℕ) → i < n → tree_at us i ≡ tree_at ts i) → read_pairs us (bs ++ (name, t) ∷ []) ≡ read_pairs ts bs ++ (name, tree_at us t) ∷ []
pushed_pairs ts us n bs name t h g =
    map-append (λ (b : Binding). (b.0, tree_at us b.1)) bs ((name, t) ∷ []) ∙ ap (λ ps. ps ++ (name, tree_at us t) ∷ []) (pairs_grown ts us n bs h g)
