-- Roots by their keys.
use Rattle.std.proofs.Common.{◌≡◌, ℕ, ℤ, All, suc, pos, ◌<◌, ◌≤◌, List, [], ◌∷◌, ◌++◌, length, get_or, map, take, position, slice_get, Option, Some, None, IfSome, IfNone, is_some, inl, inr, refl, sym, ap, ◌∙◌, subst, arith, length-append}
use Rattle.std.specs.Map.{keys_of, lookup}
use Rattle.std.proofs.lemmas.List.{get_or-take, length-map, length-take-le, map-append, take-map}
use Rattle.std.proofs.lemmas.List.Elements.{All-take}
use Rattle.std.proofs.Math.Seq.{take-length}
use Rattle.std.proofs.lemmas.Option.{slice_get-get_or, get_or_from_slice_get}
use Rattle.eo_term.specs.declared.OpCode.{OpCode}
use Rattle.eo_term.specs.declared.node.Node.{Node}
use Rattle.eo_term.specs.declared.node.Node.TheVariants as node
use Rattle.eo_term.specs.declared.node.Literal.{Literal}
use Rattle.eo_term.specs.declared.node.Literal.TheVariants as literal
use Rattle.eo_term.specs.declared.node.Key.{Key}
use Rattle.eo_term.specs.declared.node.Key.TheVariants as key
use Rattle.eo_term.specs.declared.node.Info.{Info}
use Rattle.eo_term.specs.declared.nodes.Nodes.{Nodes}
use Rattle.eo_term.specs.SmallNumbers.{IsSmall}
use Rattle.eo_term.specs.Terms.{AreApart}
use Rattle.eo_term.specs.Keys.{literal_node, literal_at, list_at, root_of, UsesOnly, IsWide, literals_of, lists_of, list_items, ages_of, entries_of, IsOld, IsNumbered, IsKeyed, IsKept, IsKeyOf, Numbers, MoreLiterals, MoreLists, IsMore, IsNew, HasRootAt, IsCut, Root}
use Rattle.eo_term.specs.contracts.node.KeyPartialEq.TheImpl as key_eq
use Rattle.eo_term.proofs.Apart.{one_place}
use Rattle.eo_term.proofs.Exact.{key_exact, key_same}
use Rattle.eo_term.proofs.Grown.{slice_get_push, slice_get_take}
use Rattle.eo_term.proofs.Numbers.{slice_get_at_map, slice_get_of_map, found_entry, no_entry, none_from_is_some, lookup_none, numbered_later, numbered_cut, old_kept}

pub uses_weaker : (P Q R S : ℕ → Type 0) → ((l : ℕ) → P l → R l) → ((l : ℕ) → Q l → S l) → (k : Key) → UsesOnly P Q k → UsesOnly R S k
uses_weaker P Q R S f g (key.Con k) h = tt
uses_weaker P Q R S f g (key.Num z) h = h
uses_weaker P Q R S f g (key.Literal l) h = f l h
uses_weaker P Q R S f g (key.Str s) h = tt
uses_weaker P Q R S f g (key.Par i) h = tt
uses_weaker P Q R S f g (key.Var s t) h = tt
uses_weaker P Q R S f g (key.App a b) h = tt
uses_weaker P Q R S f g (key.Arr a b) h = tt
uses_weaker P Q R S f g (key.Qar i a b) h = tt
uses_weaker P Q R S f g (key.Pair o is) h = tt
uses_weaker P Q R S f g (key.Builtin o n l) h = (h.0, g l h.1)
uses_weaker P Q R S f g (key.Prog n p l) h = g l h

-- a key without a literal and arguments of its own
pub known_key : (n : Nodes) (d : Node) (is js : List ℕ) (k : Key) → UsesOnly (λ l. ⊥) (λ l. ⊥) k → ((ls : List Literal) (as' : List (List ℕ)) → root_of ls as' k ≡ record { node = d; args = is }) → is ≡ js
    → IsKeyOf n d js k × IsKeyed n (length n.keys.entries) k
known_key n d is js k uses root same = (
  record {
    live = uses_weaker (λ l. ⊥) (λ l. ⊥) (λ l. l < length (literals_of n)) (λ l. l < length (lists_of n)) (λ l h. absurd h) (λ l h. absurd h) k uses;
    root = subst (λ (xs : List ℕ). root_of (literals_of n) (lists_of n) k ≡ record { node = d; args = xs }) same (root (literals_of n) (lists_of n));
  },
  uses_weaker (λ l. ⊥) (λ l. ⊥) (IsOld (ages_of n.literals.entries) (length n.keys.entries)) (IsOld (ages_of n.lists.entries) (length n.keys.entries)) (λ l h. absurd h) (λ l h. absurd h) k uses,
)

-- what is numbered, where nothing or one kind alone is added
numbers_same : {X : Type 0} (n : ℕ) (xs : List X) (ages : List ℕ) → IsNumbered n xs ages → Numbers n xs ages xs ages
numbers_same n xs ages h = record { numbered = h; same = λ l x e. e; aged = λ l m o. o }

pub more_same : (m : Nodes) → IsKept m → IsMore m m
more_same m k = record {
  keys = refl;
  literals = numbers_same (length m.keys.entries) (literals_of m) (ages_of m.literals.entries) k.literals;
  lists = numbers_same (length m.keys.entries) (lists_of m) (ages_of m.lists.entries) k.lists;
  wide = k.wide;
}

pub more_literals : (m n : Nodes) (terms : ℕ) → IsKept m → n.keys ≡ m.keys → n.lists ≡ m.lists → terms ≡ length m.keys.entries → MoreLiterals terms m.literals.entries n.literals.entries → All IsWide (literals_of n) → IsMore m n
more_literals m n terms k keys lists count more wide = record {
  keys = keys;
  literals = subst (λ j. MoreLiterals j m.literals.entries n.literals.entries) count more;
  lists = subst (λ ls. MoreLists (length m.keys.entries) m.lists.entries ls.entries) (sym lists) (numbers_same (length m.keys.entries) (lists_of m) (ages_of m.lists.entries) k.lists);
  wide = wide;
}

pub more_lists : (m n : Nodes) (terms : ℕ) → IsKept m → n.keys ≡ m.keys → n.literals ≡ m.literals → terms ≡ length m.keys.entries → MoreLists terms m.lists.entries n.lists.entries → IsMore m n
more_lists m n terms k keys literals count more = record {
  keys = keys;
  literals = subst (λ ls. MoreLiterals (length m.keys.entries) m.literals.entries ls.entries) (sym literals) (numbers_same (length m.keys.entries) (literals_of m) (ages_of m.literals.entries) k.literals);
  lists = subst (λ j. MoreLists j m.lists.entries n.lists.entries) count more;
  wide = subst (λ ls. All IsWide (keys_of ls.entries)) (sym literals) k.wide;
}

-- a key represents the same root where its literal and its arguments are the same
pub root_same : (ls ms : List Literal) (as' bs : List (List ℕ)) (k : Key) → UsesOnly (λ l. literal_at ms l ≡ literal_at ls l) (λ l. list_at bs l ≡ list_at as' l) k → root_of ms bs k ≡ root_of ls as' k
root_same ls ms as' bs (key.Con k) h = refl
root_same ls ms as' bs (key.Num z) h = refl
root_same ls ms as' bs (key.Literal l) h = λ i. record { node = literal_node (h i); args = [] }
root_same ls ms as' bs (key.Str s) h = refl
root_same ls ms as' bs (key.Par i) h = refl
root_same ls ms as' bs (key.Var s t) h = refl
root_same ls ms as' bs (key.App a b) h = refl
root_same ls ms as' bs (key.Arr a b) h = refl
root_same ls ms as' bs (key.Qar i a b) h = refl
root_same ls ms as' bs (key.Pair o is) h = refl
root_same ls ms as' bs (key.Builtin o n l) h = λ i. record { node = node.Op (OpCode.Builtin o) n; args = h.1 i }
root_same ls ms as' bs (key.Prog n p l) h = λ i. record { node = node.Op (OpCode.Prog p) n; args = h i }

literal_one : (a b : Literal) → literal_node a ≡ literal_node b → a ≡ b
literal_one (literal.Num a) (literal.Num b) e = ap literal.Num cc
literal_one (literal.Bits w a) (literal.Bits v b) e =
    let h : w ≡ v = cc in
    let g : a ≡ b = cc in
    λ i. literal.Bits (h i) (g i)
literal_one (literal.Num a) (literal.Bits v b) e = absurd cc
literal_one (literal.Bits w a) (literal.Num b) e = absurd cc

abbrev is_literal_node : Node → Type 0
is_literal_node (node.Num z) = Unit {0}
is_literal_node (node.Bits w v) = Unit {0}
is_literal_node d = ⊥

literal_is : (a : Literal) → is_literal_node (literal_node a)
literal_is (literal.Num z) = tt
literal_is (literal.Bits w v) = tt

-- a small number is no literal that no key holds itself
not_wide : {A : Type 0} (l : Literal) (z : ℤ) → IsWide l → literal_node l ≡ node.Num z → IsSmall z → A
not_wide (literal.Num y) z w e s =
    let same : y ≡ z = cc in
    absurd (w (subst IsSmall (sym same) s))
not_wide (literal.Bits v b) z w e s = absurd cc

module _ (ls : List Literal) (as' : List (List ℕ)) (la : AreApart ls) (aa : AreApart as') (wide : All IsWide ls) where
  abbrev Live : Key → Type 0
  Live k = UsesOnly (λ l. l < length ls) (λ l. l < length as') k

  other : {A : Type 0} (l : ℕ) (d : Node) → literal_node (literal_at ls l) ≡ d → (is_literal_node d → ⊥) → A
  other l d e h = absurd (h (subst is_literal_node e (literal_is (literal_at ls l))))

  same_key : (k l : Key) → Live k → Live l → (root_of ls as' k).node ≡ (root_of ls as' l).node → (root_of ls as' k).args ≡ (root_of ls as' l).args → k ≡ l
  same_key (key.Con a) (key.Con b) p q e f = ap key.Con cc
  same_key (key.Num a) (key.Num b) p q e f = ap key.Num cc
  same_key (key.Literal a) (key.Literal b) p q e f =
      ap key.Literal (one_place ls (literal.Num (pos 0)) la a b p q (literal_one (literal_at ls a) (literal_at ls b) e))
  same_key (key.Str a) (key.Str b) p q e f = ap key.Str cc
  same_key (key.Par a) (key.Par b) p q e f = ap key.Par cc
  same_key (key.Var s a) (key.Var t b) p q e f =
      let h : s ≡ t = cc in
      let g : a ≡ b = cc in
      λ i. key.Var (h i) (g i)
  same_key (key.App s a) (key.App t b) p q e f =
      let h : s ≡ t = cc in
      let g : a ≡ b = cc in
      λ i. key.App (h i) (g i)
  same_key (key.Arr s a) (key.Arr t b) p q e f =
      let h : s ≡ t = cc in
      let g : a ≡ b = cc in
      λ i. key.Arr (h i) (g i)
  same_key (key.Qar j s a) (key.Qar k t b) p q e f =
      let o : j ≡ k = cc in
      let h : s ≡ t = cc in
      let g : a ≡ b = cc in
      λ i. key.Qar (o i) (h i) (g i)
  same_key (key.Builtin o m a) (key.Builtin u n b) p q e f =
      let h : o ≡ u = cc in
      let g : m ≡ n = cc in
      let l : a ≡ b = one_place as' [] aa a b p.1 q.1 f in
      λ i. key.Builtin (h i) (g i) (l i)
  same_key (key.Pair o is) (key.Pair u js) p q e f =
      let h : o ≡ u = cc in
      λ i. key.Pair (h i) (f i)
  same_key (key.Pair o is) (key.Builtin u n b) p q e f = absurd (q.0 cc)
  same_key (key.Builtin o n a) (key.Pair u js) p q e f = absurd (p.0 cc)
  same_key (key.Prog o m a) (key.Prog u n b) p q e f =
      let h : o ≡ u = cc in
      let g : m ≡ n = cc in
      let l : a ≡ b = one_place as' [] aa a b p q f in
      λ i. key.Prog (h i) (g i) (l i)
  same_key (key.Literal a) (key.Num z) p q e f = not_wide (literal_at ls a) z (wide a (literal.Num (pos 0)) p) e q
  same_key (key.Num z) (key.Literal a) p q e f = not_wide (literal_at ls a) z (wide a (literal.Num (pos 0)) q) (sym e) p
  same_key (key.Literal a) (key.Con b) p q e f = other a (node.Con b) e (λ x. x)
  same_key (key.Literal a) (key.Str b) p q e f = other a (node.Str b) e (λ x. x)
  same_key (key.Literal a) (key.Par b) p q e f = other a (node.Par b) e (λ x. x)
  same_key (key.Literal a) (key.Var s b) p q e f = other a (node.Var s b) e (λ x. x)
  same_key (key.Literal a) (key.App s b) p q e f = other a (node.App s b) e (λ x. x)
  same_key (key.Literal a) (key.Arr s b) p q e f = other a (node.Arr s b) e (λ x. x)
  same_key (key.Literal a) (key.Qar j s b) p q e f = other a (node.Qar j s b) e (λ x. x)
  same_key (key.Literal a) (key.Pair o is) p q e f = other a (node.Op (OpCode.Builtin o) 2) e (λ x. x)
  same_key (key.Literal a) (key.Builtin o n b) p q e f = other a (node.Op (OpCode.Builtin o) n) e (λ x. x)
  same_key (key.Literal a) (key.Prog n o b) p q e f = other a (node.Op (OpCode.Prog o) n) e (λ x. x)
  same_key (key.Con b) (key.Literal a) p q e f = other a (node.Con b) (sym e) (λ x. x)
  same_key (key.Str b) (key.Literal a) p q e f = other a (node.Str b) (sym e) (λ x. x)
  same_key (key.Par b) (key.Literal a) p q e f = other a (node.Par b) (sym e) (λ x. x)
  same_key (key.Var s b) (key.Literal a) p q e f = other a (node.Var s b) (sym e) (λ x. x)
  same_key (key.App s b) (key.Literal a) p q e f = other a (node.App s b) (sym e) (λ x. x)
  same_key (key.Arr s b) (key.Literal a) p q e f = other a (node.Arr s b) (sym e) (λ x. x)
  same_key (key.Qar j s b) (key.Literal a) p q e f = other a (node.Qar j s b) (sym e) (λ x. x)
  same_key (key.Pair o is) (key.Literal a) p q e f = other a (node.Op (OpCode.Builtin o) 2) (sym e) (λ x. x)
  same_key (key.Builtin o n b) (key.Literal a) p q e f = other a (node.Op (OpCode.Builtin o) n) (sym e) (λ x. x)
  same_key (key.Prog n o b) (key.Literal a) p q e f = other a (node.Op (OpCode.Prog o) n) (sym e) (λ x. x)
  same_key k l p q e f = absurd cc

  -- keys that represent one root are one key
  pub one_key : (k l : Key) → Live k → Live l → root_of ls as' k ≡ root_of ls as' l → k ≡ l
  one_key k l p q e = same_key k l p q (ap (λ (r : Root). r.node) e) (ap (λ (r : Root). r.args) e)

-- what more numbers, and fewer terms, leave of a table's roots
pub map_same : {X Y : Type 0} (f g : X → Y) (xs : List X) → ((i : ℕ) (x : X) → slice_get xs i ≡ Some x → f x ≡ g x) → map f xs ≡ map g xs
map_same f g [] h = refl
map_same f g (x ∷ xs) h = λ k. h 0 x refl k ∷ map_same f g xs (λ i y p. h (suc i) y p) k

pub at_same : {X : Type 0} (n : ℕ) (xs ys : List X) (ages : List ℕ) → IsNumbered n xs ages → ((l : ℕ) (x : X) → slice_get xs l ≡ Some x → slice_get ys l ≡ Some x) → (d : X) (i l : ℕ) → IsOld ages i l → get_or ys l d ≡ get_or xs l d
at_same n xs ys ages h f d i l o = get_or_from_slice_get ys l (get_or xs l d) d (f l (get_or xs l d) (slice_get-get_or xs l d (omega (arith, o.0, h.long))))

module _ (m n : Nodes) (k : IsKept m) (g : IsMore m n) where
  pub keyed_more : (i : ℕ) (e : Key) → IsKeyed m i e → IsKeyed n i e
  keyed_more i e h = uses_weaker _ _ _ _ (λ l. g.literals.aged l i) (λ l. g.lists.aged l i) e h

  pub root_more : (i : ℕ) (e : Key) → IsKeyed m i e → root_of (literals_of n) (lists_of n) e ≡ root_of (literals_of m) (lists_of m) e
  root_more i e h =
      root_same (literals_of m) (literals_of n) (lists_of m) (lists_of n) e
      (uses_weaker _ _ _ _ (at_same _ (literals_of m) (literals_of n) _ k.literals g.literals.same (literal.Num (pos 0)) i) (at_same _ (lists_of m) (lists_of n) _ k.lists g.lists.same [] i) e h)

  pub kept_more : IsKept n
  kept_more = record {
    keyed = λ i e p. keyed_more i e.0 (k.keyed i e (sym (ap (λ t. slice_get t.entries i) g.keys) ∙ p));
    literals = subst (λ t. IsNumbered (length t.entries) (literals_of n) (ages_of n.literals.entries)) (sym g.keys) g.literals.numbered;
    lists = subst (λ t. IsNumbered (length t.entries) (lists_of n) (ages_of n.lists.entries)) (sym g.keys) g.lists.numbered;
    wide = g.wide;
  }

  pub entries_more : entries_of n ≡ entries_of m
  entries_more =
      ap (λ t. map (λ e. (root_of (literals_of n) (lists_of n) e.0, e.1)) t.entries) g.keys
      ∙ map_same (λ (e : Key × Info). (root_of (literals_of n) (lists_of n) e.0, e.1)) (λ e. (root_of (literals_of m) (lists_of m) e.0, e.1)) m.keys.entries
      (λ i e p. ap (λ r. (r, e.1)) (root_more i e.0 (k.keyed i e p)))

pub length-entries : (n : Nodes) → length (entries_of n) ≡ length n.keys.entries
length-entries n = length-map n.keys.entries (λ (e : Key × Info). (root_of (literals_of n) (lists_of n) e.0, e.1))

pub nothing_cut : (n : Nodes) (k : ℕ) → k ≡ length (entries_of n) → entries_of n ≡ take k (entries_of n)
nothing_cut n k e = sym (ap (λ j. take j (entries_of n)) e ∙ take-length (entries_of n))

module _ (n : Nodes) (h : IsKept n) where
  abbrev roots : Key → Root
  roots k = root_of (literals_of n) (lists_of n) k

  pub live_key : (i : ℕ) (k : Key) → IsKeyed n i k → UsesOnly (λ l. l < length (literals_of n)) (λ l. l < length (lists_of n)) k
  live_key i k u = uses_weaker _ _ _ _ (λ l o. omega (arith, o.0, h.literals.long)) (λ l o. omega (arith, o.0, h.lists.long)) k u

  module _ (d : Node) (is : List ℕ) (k : Key) (own : IsKeyOf n d is k) where
    -- nor is one whose key is not there
    pub new_key : lookup (key_eq.ghosts.eq k) n.keys.entries ≡ None → IsNew (entries_of n) d is
    new_key none i e p q =
        let at = slice_get_of_map (λ (e : Key × Info). (roots e.0, e.1)) n.keys.entries i e p in
        let same : k ≡ at.0.0 =
        one_key (literals_of n) (lists_of n) h.literals.apart h.lists.apart h.wide k at.0.0 own.live (live_key i at.0.0 (h.keyed i at.0 at.1)) (own.root ∙ sym (ap (λ (e : Root × Info). e.0) at.2 ∙ q)) in
        no_entry (key_eq.ghosts.eq k) n.keys.entries none i at.0 at.1 (key_same k at.0.0 same)

    pub found_root : (r : Option ℕ) → r ≡ position (key_eq.ghosts.eq k) (keys_of n.keys.entries) → IfSome r (λ i. HasRootAt (entries_of n) i d is)
    found_root None p = tt
    found_root (Some i) p =
        let e = found_entry (key_eq.ghosts.eq k) n.keys.entries i (sym p) in (
          e.0.1,
          slice_get_at_map (λ (e : Key × Info). (roots e.0, e.1)) n.keys.entries i e.0 e.1
              ∙ ap (λ r. Some (r, e.0.1)) (ap roots (sym (key_exact k e.0.0 e.2)) ∙ own.root),
        )

    pub missing_root : (r : Option ℕ) → is_some r ≡ is_some (lookup (key_eq.ghosts.eq k) n.keys.entries) → IfNone r (IsNew (entries_of n) d is)
    missing_root (Some i) p = tt
    missing_root None p = new_key (none_from_is_some {B = ℕ} (lookup (key_eq.ghosts.eq k) n.keys.entries) None (sym p) (λ i. None))

    -- a new root's key is not there
    pub key_absent : IsNew (entries_of n) d is → lookup (key_eq.ghosts.eq k) n.keys.entries ≡ None
    key_absent a =
        lookup_none (key_eq.ghosts.eq k) n.keys.entries (λ i e p t. a i (roots e.0, e.1) (slice_get_at_map (λ (e : Key × Info). (roots e.0, e.1)) n.keys.entries i e p)
        (ap roots (sym (key_exact k e.0 t)) ∙ own.root))

-- the same keys, literals and lists
module _ (m n : Nodes) (h : IsKept m) (keys : n.keys.entries ≡ m.keys.entries) (ls : n.literals ≡ m.literals) (as' : n.lists ≡ m.lists) where
  pub kept_same : IsKept n
  kept_same = record {
    keyed = λ i e p. uses_weaker _ _ _ _ (λ l. subst (λ t. IsOld (ages_of t.entries) i l) (sym ls)) (λ l. subst (λ t. IsOld (ages_of t.entries) i l) (sym as')) e.0 (h.keyed i e (sym (ap (λ es. slice_get es i) keys) ∙ p));
    literals = subst (λ l. IsNumbered (length n.keys.entries) (keys_of l.entries) (ages_of l.entries)) (sym ls) (subst (λ es. IsNumbered (length es) (literals_of m) (ages_of m.literals.entries)) (sym keys) h.literals);
    lists = subst (λ l. IsNumbered (length n.keys.entries) (list_items l.entries) (ages_of l.entries)) (sym as') (subst (λ es. IsNumbered (length es) (lists_of m) (ages_of m.lists.entries)) (sym keys) h.lists);
    wide = subst (λ l. All IsWide (keys_of l.entries)) (sym ls) h.wide;
  }

  pub entries_same : entries_of n ≡ entries_of m
  entries_same = λ i. map (λ (e : Key × Info). (root_of (keys_of (ls i).entries) (list_items (as' i).entries) e.0, e.1)) (keys i)

-- one more key
module _ (m n : Nodes) (h : IsKept m) (k : Key) (s : Info) (keyed : IsKeyed m (length m.keys.entries) k) (keys : n.keys.entries ≡ m.keys.entries ++ (k, s) ∷ []) (ls : n.literals ≡ m.literals) (as' : n.lists ≡ m.lists) where
  abbrev shows : Nodes → Key × Info → Root × Info
  shows t e = (root_of (literals_of t) (lists_of t) e.0, e.1)

  pub kept_push : IsKept n
  kept_push = record {
    keyed = λ i e p. elim (slice_get_push m.keys.entries (k, s) i e (sym (ap (λ es. slice_get es i) keys) ∙ p)) [
      | inl q ↦ moved i e.0 (h.keyed i e q.1)
      | inr q ↦ moved i e.0 (subst (λ j. IsKeyed m j e.0) (sym q.0) (subst (λ f. IsKeyed m (length m.keys.entries) f.0) (sym q.1) keyed))
    ];
    literals = subst (λ l. IsNumbered (length n.keys.entries) (keys_of l.entries) (ages_of l.entries)) (sym ls) (numbered_later _ _ _ h.literals (length n.keys.entries) longer);
    lists = subst (λ l. IsNumbered (length n.keys.entries) (list_items l.entries) (ages_of l.entries)) (sym as') (numbered_later _ _ _ h.lists (length n.keys.entries) longer);
    wide = subst (λ l. All IsWide (keys_of l.entries)) (sym ls) h.wide;
  }
    where
      moved : (i : ℕ) (e : Key) → IsKeyed m i e → IsKeyed n i e
      moved i e q = uses_weaker _ _ _ _ (λ l. subst (λ t. IsOld (ages_of t.entries) i l) (sym ls)) (λ l. subst (λ t. IsOld (ages_of t.entries) i l) (sym as')) e q

      longer : length m.keys.entries ≤ length n.keys.entries
      longer = omega (arith, ap length keys, length-append m.keys.entries ((k, s) ∷ []))

  pub entries_push : entries_of n ≡ entries_of m ++ (root_of (literals_of m) (lists_of m) k, s) ∷ []
  entries_push =
      (λ i. map (λ (e : Key × Info). (root_of (keys_of (ls i).entries) (list_items (as' i).entries) e.0, e.1)) (keys i)) ∙ map-append (shows m) m.keys.entries ((k, s) ∷ [])

-- fewer keys, literals and lists
module _ (m n : Nodes) (h : IsKept m) (t a b : ℕ) (within : t ≤ length m.keys.entries) (ca : IsCut (ages_of m.literals.entries) t a) (cb : IsCut (ages_of m.lists.entries) t b)
    (keys : n.keys.entries ≡ take t m.keys.entries) (ls : n.literals.entries ≡ take a m.literals.entries) (as' : n.lists.entries ≡ take b m.lists.entries) where
  literals : literals_of n ≡ take a (literals_of m)
  literals = ap keys_of ls ∙ sym (take-map (λ e. e.0) a m.literals.entries)

  lists : lists_of n ≡ take b (lists_of m)
  lists = ap list_items as' ∙ sym (take-map (λ e. e.0.items) b m.lists.entries)

  literal_ages : ages_of n.literals.entries ≡ take a (ages_of m.literals.entries)
  literal_ages = ap ages_of ls ∙ sym (take-map (λ e. e.1) a m.literals.entries)

  list_ages : ages_of n.lists.entries ≡ take b (ages_of m.lists.entries)
  list_ages = ap ages_of as' ∙ sym (take-map (λ e. e.1) b m.lists.entries)

  count : t ≡ length n.keys.entries
  count = sym (ap length keys ∙ length-take-le t m.keys.entries within)

  keyed_cut : (i : ℕ) (e : Key) → i < t → IsKeyed m i e → IsKeyed n i e
  keyed_cut i e g q =
      uses_weaker _ _ _ _ (λ l o. subst (λ as'. IsOld as' i l) (sym literal_ages) (old_kept _ _ _ h.literals t a ca i l g o)) (λ l o. subst (λ as'. IsOld as' i l) (sym list_ages) (old_kept _ _ _ h.lists t b cb i l g o)) e q

  pub kept_cut : IsKept n
  kept_cut = record {
    keyed = λ i e p.
        let q = slice_get_take t m.keys.entries i e (sym (ap (λ es. slice_get es i) keys) ∙ p) in
        keyed_cut i e.0 q.0 (h.keyed i e q.1);
    literals = subst (λ c. IsNumbered c (literals_of n) (ages_of n.literals.entries)) count (subst (λ xs. IsNumbered t xs (ages_of n.literals.entries)) (sym literals) (subst (IsNumbered t (take a (literals_of m))) (sym literal_ages) (numbered_cut _ _ _ h.literals t a ca)));
    lists = subst (λ c. IsNumbered c (lists_of n) (ages_of n.lists.entries)) count (subst (λ xs. IsNumbered t xs (ages_of n.lists.entries)) (sym lists) (subst (IsNumbered t (take b (lists_of m))) (sym list_ages) (numbered_cut _ _ _ h.lists t b cb)));
    wide = subst (All IsWide) (sym literals) (All-take IsWide a (literals_of m) h.wide);
  }

  root_cut : (i : ℕ) (e : Key) → i < t → IsKeyed m i e → root_of (literals_of n) (lists_of n) e ≡ root_of (literals_of m) (lists_of m) e
  root_cut i e g q =
      root_same (literals_of m) (literals_of n) (lists_of m) (lists_of n) e (uses_weaker _ _ _ _
      (λ l o. let u = old_kept _ _ _ h.literals t a ca i l g o in ap (λ xs. literal_at xs l) literals ∙ get_or-take a (literals_of m) l (literal.Num (pos 0)) (omega (arith, u.0, length-take-le a (ages_of m.literals.entries) ca.within)))
      (λ l o. let u = old_kept _ _ _ h.lists t b cb i l g o in ap (λ xs. list_at xs l) lists ∙ get_or-take b (lists_of m) l [] (omega (arith, u.0, length-take-le b (ages_of m.lists.entries) cb.within))) e q)

  pub entries_cut : entries_of n ≡ take t (entries_of m)
  entries_cut =
      ap (map (λ (e : Key × Info). (root_of (literals_of n) (lists_of n) e.0, e.1))) keys
      ∙ map_same (λ (e : Key × Info). (root_of (literals_of n) (lists_of n) e.0, e.1)) (λ e. (root_of (literals_of m) (lists_of m) e.0, e.1)) (take t m.keys.entries)
      (λ i e p. let q = slice_get_take t m.keys.entries i e p in ap (λ r. (r, e.1)) (root_cut i e.0 q.0 (h.keyed i e q.1)))
      ∙ sym (take-map (λ (e : Key × Info). (root_of (literals_of m) (lists_of m) e.0, e.1)) t m.keys.entries)

-- the key of an application, and that of a constant
pub application_key : (n : Nodes) (f x : ℕ) → IsKeyOf n (node.App f x) [] (key.App f x)
application_key n f x = record { live = tt; root = refl }

pub constant_key : (n : Nodes) (c : ℕ) → IsKeyOf n (node.Con c) [] (key.Con c)
constant_key n c = record { live = tt; root = refl }
