-- Attributes, one at a time, and the names that terms give themselves.
use Rattle.std.proofs.Common.{◌≡◌, ◌<◌, ℕ, Bool, true, false, ◌&&◌, ◌||◌, List, [], ◌∷◌, ◌++◌, length, Option, refl, sym, ap, ◌∙◌}
use Rattle.std.specs.Prelude.{Err, not, option_map, bytes_eq, if◌then◌else◌, take}
use Rattle.std.specs.List.{list_any}
use Rattle.std.proofs.lemmas.List.{map-append}
use Rattle.std.proofs.lemmas.List.Elements.{All-append, All-cons, All-nil}
use Rattle.eo_base.specs.Checks.{Checked}
use Rattle.eo_base.specs.declared.FaultName.TheVariants.{Redeclared}
use Rattle.eo_sig.specs.Signature.{is_free}
use Rattle.eo_term.specs.Terms.{Terms, tree_at}
use Rattle.eo_term.specs.Tree.{Tree}
use Rattle.eo_names.specs.Contexts.{Context}
use Rattle.eo_names.specs.Names.{Binding, BindingsBelow, names_in}
use Rattle.eo_names.specs.Readers.{NamedTerm}
use Rattle.eo_elab.specs.Gives.{NamesGrow}
use Rattle.eo_elab.specs.Meaning.{is_free_named_term, label}
use Rattle.eo_elab.specs.Worlds.{named_terms_in}

-- ---- names

-- the names so far, before those that are left
abbrev pub behind : List (List ℕ) → Option (List (List ℕ)) → Option (List (List ℕ))
behind names o = option_map (λ more. names ++ more) o

-- ---- names that are given

pub given_named_terms : (t : Terms) (bs : List Binding) (name : List ℕ) → list_any (λ (l : NamedTerm). bytes_eq l.name name) (named_terms_in t bs) ≡ names_in bs name
given_named_terms t [] name = refl
given_named_terms t (b ∷ bs) name = ap (λ m. bytes_eq b.0 name || m) (given_named_terms t bs name)

pub named_terms_pushed : (t : Terms) (bs : List Binding) (name : List ℕ) (i : ℕ) → named_terms_in t (bs ++ (name, i) ∷ []) ≡ named_terms_in t bs ++ record { name = name; tree = tree_at t.trees i } ∷ []
named_terms_pushed t bs name i = map-append (λ (b : Binding). record { name = b.0; tree = tree_at t.trees b.1 }) bs ((name, i) ∷ [])

module _ (c : Context) (t : Terms) (i : ℕ) (bs : List Binding) (name : List ℕ) (names : List (List ℕ)) where
  abbrev by_free : Bool → Checked (Tree × List NamedTerm)
  by_free b = if b then label c (tree_at t.trees i) names (named_terms_in t bs ++ record { name = name; tree = tree_at t.trees i } ∷ []) else Err Redeclared

  free_now : is_free_named_term c (named_terms_in t bs) name ≡ (is_free c.signature c.macros name && not (names_in bs name))
  free_now = ap (λ b. is_free c.signature c.macros name && not b) (given_named_terms t bs name)

  pub named_term_next : is_free c.signature c.macros name ≡ true → names_in bs name ≡ false → label c (tree_at t.trees i) (name ∷ names) (named_terms_in t bs) ≡ label c (tree_at t.trees i) names (named_terms_in t (bs ++ (name, i) ∷ []))
  named_term_next free new = ap by_free (free_now ∙ (λ j. free j && not (new j))) ∙ ap (label c (tree_at t.trees i) names) (sym (named_terms_pushed t bs name i))

  pub named_term_reserved : is_free c.signature c.macros name ≡ false → label c (tree_at t.trees i) (name ∷ names) (named_terms_in t bs) ≡ Err Redeclared
  named_term_reserved taken = ap by_free (free_now ∙ (λ j. taken j && not (names_in bs name)))

  pub named_term_twice : is_free c.signature c.macros name ≡ true → names_in bs name ≡ true → label c (tree_at t.trees i) (name ∷ names) (named_terms_in t bs) ≡ Err Redeclared
  named_term_twice free twice = ap by_free (free_now ∙ (λ j. free j && not (twice j)))

-- one name more
pub name_added : (t : Terms) (bs : List Binding) (name : List ℕ) (i : ℕ) → i < length t.trees → BindingsBelow (length t.trees) bs → NamesGrow t bs (bs ++ (name, i) ∷ [])
name_added t bs name i h below = record {
  below = All-append (λ (b : Binding). b.1 < length t.trees) bs ((name, i) ∷ []) below (All-cons (λ (b : Binding). b.1 < length t.trees) (name, i) [] h (All-nil (λ (b : Binding). b.1 < length t.trees)));
  now = front bs;
  since = λ first e. front_of first bs e;
}
  where
    front : (xs : List Binding) → take (length xs) (xs ++ (name, i) ∷ []) ≡ xs
    front [] = refl
    front (x ∷ xs) = ap (λ ys. x ∷ ys) (front xs)

    front_of : (first xs : List Binding) → take (length first) xs ≡ first → take (length first) (xs ++ (name, i) ∷ []) ≡ first
    front_of [] xs e = refl
    front_of (y ∷ ys) [] e = cc
    front_of (y ∷ ys) (x ∷ xs) e =
        let here : x ≡ y = cc in
        let rest : take (length ys) xs ≡ ys = cc in
        λ j. here j ∷ front_of ys xs rest j
