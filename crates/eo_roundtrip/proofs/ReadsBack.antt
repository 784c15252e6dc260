-- The lines of a value are accepted, and the last name means it.
use Rattle.std.specs.Prelude.{◌≡◌, refl, ℕ, suc, Bool, true, false, ◌||◌, List, [], ◌∷◌, ◌++◌, map, filter, find, cond, option_map, Option, Some, None, Ok, Contains, ◌⊎◌}
use Rattle.std.proofs.Common.{sym, ◌∙◌, ap, arith, subst, inl, inr, append-nil}
use Rattle.std.proofs.lemmas.List.Elements.{filter-append, All-contains, Contains-push}
use Rattle.eo_base.specs.Limits.{calls_limit, open_calls_limit}
use Rattle.eo_term.specs.Tree.{Tree, height, tree_eq}
use Rattle.eo_term.proofs.Equality.{tree_refl}
use Rattle.eo_sexp.specs.Printing.{placed}
use Rattle.eo_sig.specs.Signature.{Signature, Macro}
use Rattle.eo_names.specs.Contexts.{Several}
use Rattle.eo_elab.specs.Meaning.{meaning}
use Rattle.eo_stack.specs.Evaluation.{Value, eval0, call_within}
use Rattle.eo_session.specs.State.{State, context}
use Rattle.eo_show.specs.Forms.{symbol}
use Rattle.eo_show.specs.Members.{members, defined, is_defined, is_unprintable}
use Rattle.eo_show.specs.Lines.{Line, name_in, name_or, line_name, next_free, named_from, written, line, lines_of, shown_lines}
use Rattle.eo_term.specs.Ranges.{IsInRange}
use Rattle.eo_show.specs.Printable.{CanShow}
use Rattle.eo_show.specs.Written.{AreMembers, HaveNewNames}
use Rattle.eo_roundtrip.specs.Shown.{steps}
use Rattle.eo_roundtrip.proofs.Uses.{Reads}
use Rattle.eo_roundtrip.proofs.Layers.{HaveNames}
use Rattle.eo_roundtrip.proofs.Process.{CanWrite, at, Follows, AreFree, Accepted, process, means-so}
use Rattle.eo_roundtrip.proofs.Follows.{follows}
use Rattle.eo_roundtrip.proofs.FreeLines.{are-free}
use Rattle.eo_show.proofs.PartsHold.{none-fails, spelled-is}

-- The lines are accepted from there on, and then the name of the last of them means a tree that evaluates to the value.
pub record StepsBack (st : State) (t : Tree) : Type 0 where
  pub end : State
  pub accepted : steps st (map (placed 0) (lines_of st.signature (shown_lines st.signature st.macros t))) ≡ Ok end
  pub before : List Line
  pub name : List ℕ
  pub last : shown_lines st.signature st.macros t ≡ before ++ record { name = name; tree = t } ∷ []
  pub tree : Tree
  pub means : (n : ℕ) → meaning (context end) [] (placed n (symbol name)) ≡ Ok tree
  pub evaluates : eval0 end.signature tree ≡ Value t

-- each member of a value that can be printed can be written
members-written : (S : Signature) (macros : List Macro) (t : Tree) → CanShow S macros t → AreMembers S t → (m : Tree) → Contains (members S t) m → CanWrite S m
unfolding is_unprintable
members-written S macros t can all m c =
    record {
      low = omega (arith, can.low, all.low m c);
      spelled = spelled-is S m (none-fails S (members S t) can.printable m c) (All-contains IsInRange (members S t) m (all.in_range can.in_range) c);
    }

-- the same where a name may have several constants
abbrev pub severally : State → State
severally st = record st { naming = Several }

map-twice : {A B C : Type 0} (f : A → B) (g : B → C) (xs : List A) → map g (map f xs) ≡ map (λ x. g (f x)) xs
map-twice f g [] = refl
map-twice f g (x ∷ xs) = ap (λ ys. g (f x) ∷ ys) (map-twice f g xs)

-- a line that is there is found
is-found : (before : List Line) (name : List ℕ) (t : Tree) → name_in (before ++ record { name = name; tree = t } ∷ []) t ≡ None → ⊥
is-found [] name t e = go (tree_eq t t) (tree_refl t) e
  where
    go : (b : Bool) → b ≡ true → option_map (λ (l : Line). l.name) (cond b (Some (record { name = name; tree = t })) None) ≡ None → ⊥
    go true f h = cc
    go false f h = cc
is-found (l ∷ before) name t e = go (tree_eq t l.tree) e (is-found before name t)
  where
    go : (b : Bool) → option_map (λ (l : Line). l.name) (cond b (Some l) (find (λ (l : Line). tree_eq t l.tree) (before ++ record { name = name; tree = t } ∷ []))) ≡ None →
        (name_in (before ++ record { name = name; tree = t } ∷ []) t ≡ None → ⊥) → ⊥
    go true h f = cc
    go false h f = f h

named-last : (S : Signature) (macros : List Macro) (k : ℕ) (ts : List Tree) (t : Tree) → (before : List Line) × (name : List ℕ) × (named_from S macros k (ts ++ t ∷ []) ≡ before ++ record { name = name; tree = t } ∷ [])
named-last S macros k [] t = ([], line_name (next_free S macros k), refl)
named-last S macros k (x ∷ ts) t =
    let rest = named-last S macros (suc (next_free S macros k)) ts t in
    let l : Line = record { name = line_name (next_free S macros k); tree = x } in
    (l ∷ rest.0, rest.1, ap (λ ls. l ∷ ls) rest.2)

filter-last : (test : Tree → Bool) (ts : List Tree) (t : Tree) → test t ≡ true → filter test (ts ++ t ∷ []) ≡ filter test ts ++ t ∷ []
filter-last test ts t e = filter-append test ts (t ∷ []) ∙ ap (λ b. filter test ts ++ cond b (t ∷ []) []) e

module _ (start : State) (names : HaveNames start.signature) (N : Tree → Option (List ℕ)) where
  -- whose line comes last
  last-of : (front : List Tree) (t : Tree) (lines : List Line) → Follows start names N (front ++ t ∷ []) lines → (N t ≡ None) ⊎ ((before : List Line) × (name : List ℕ) × (lines ≡ before ++ record { name = name; tree = t } ∷ []) × (N t ≡ Some name))
  last-of [] t lines (inl h) = inl h.0
  last-of [] t lines (inr h) = inr ([], h.0, h.2 ∙ ap (λ ls. record { name = h.0; tree = t } ∷ ls) h.4, h.3)
  last-of (m ∷ front) t lines (inl h) = last-of front t lines h.1
  last-of (m ∷ front) t lines (inr h) = push (last-of front t h.1 h.4)
    where
      push : (N t ≡ None) ⊎ ((before : List Line) × (name : List ℕ) × (h.1 ≡ before ++ record { name = name; tree = t } ∷ []) × (N t ≡ Some name)) →
          (N t ≡ None) ⊎ ((before : List Line) × (name : List ℕ) × (lines ≡ before ++ record { name = name; tree = t } ∷ []) × (N t ≡ Some name))
      push (inl e) = inl e
      push (inr p) = inr (record { name = h.0; tree = m } ∷ p.0, p.1, h.2 ∙ ap (λ ls. record { name = h.0; tree = m } ∷ ls) p.2, p.3)

module _ (st : State) (t : Tree) (names : HaveNames st.signature) (can : CanShow st.signature st.macros t) (all : AreMembers st.signature t) (new : HaveNewNames st.signature st.macros (shown_lines st.signature st.macros t)) where
  abbrev S : Signature
  S = st.signature

  abbrev lines : List Line
  lines = shown_lines S st.macros t

  abbrev N : Tree → Option (List ℕ)
  N = name_in lines

  abbrev test : Tree → Bool
  test m = tree_eq m t || is_defined S (members S t) m

  lines-are : lines ≡ named_from S st.macros 1 (filter test (members S t))
  unfolding shown_lines defined
  lines-are = refl

  follow : Follows st names N (members S t) lines
  follow = follows st.macros test st names lines (members S t) 1 all.ordered lines-are

  free : AreFree st names N st.macros lines
  free = are-free st names N st.macros lines new

  accept : Accepted st names N st.macros st.commands lines (members S t)
  accept = process st names N (members S t) [] lines st.macros st.commands all.ordered
      (members-written S st.macros t can all) follow free (λ q c. let lt = c.1 in absurd (omega arith))

  some-last : (before : List Line) × (name : List ℕ) × (lines ≡ before ++ record { name = name; tree = t } ∷ [])
  some-last =
      let itself : test t ≡ true = ap (λ b. b || is_defined S (members S t) t) (tree_refl t) in
      let made = named-last S st.macros 1 (filter test all.front) t in
      (made.0, made.1, lines-are ∙ ap (λ ms. named_from S st.macros 1 (filter test ms)) all.last ∙ ap (named_from S st.macros 1) (filter-last test all.front t itself) ∙ made.2)

  last-line : (before : List Line) × (name : List ℕ) × (lines ≡ before ++ record { name = name; tree = t } ∷ []) × (N t ≡ Some name)
  last-line = go (last-of st names N all.front t lines (subst (λ ms. Follows st names N ms lines) all.last follow))
    where
      go : (N t ≡ None) ⊎ ((before : List Line) × (name : List ℕ) × (lines ≡ before ++ record { name = name; tree = t } ∷ []) × (N t ≡ Some name)) →
          (before : List Line) × (name : List ℕ) × (lines ≡ before ++ record { name = name; tree = t } ∷ []) × (N t ≡ Some name)
      go (inl e) = absurd (is-found some-last.0 some-last.1 t (ap (λ ls. name_in ls t) (sym some-last.2) ∙ e))
      go (inr p) = p

  has : Contains (members S t) t
  has = subst (λ (ms : List Tree). Contains ms t) (sym all.last) (Contains-push all.front t)

  name-reads : Reads S accept.end (symbol last-line.1) t
  name-reads =
      let known = accept.known t has [] (height t) (omega arith) in
      subst (λ ms. Reads S ms (symbol last-line.1) t) (append-nil accept.end)
      (subst (λ o. Reads S (accept.end ++ []) (name_or o (written S (height t) N t)) t) last-line.3 known)

  -- A value is shown by lines that read back as it.
  pub steps-back : StepsBack (severally st) t
  steps-back =
      record {
        end = at st names N accept.end accept.count;
        accepted = ap (steps (severally st)) (map-twice (line S N) (placed 0) lines) ∙ accept.is;
        before = last-line.0;
        name = last-line.1;
        last = last-line.2;
        tree = name-reads.tree;
        means = means-so st names N accept.end accept.count (symbol last-line.1) t name-reads;
        evaluates = ap (λ e. e.0) (name-reads.stands.gives (call_within S calls_limit open_calls_limit) []);
      }
