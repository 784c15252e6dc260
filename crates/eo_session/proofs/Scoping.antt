-- Facts in scopes, with numbers of terms.
use Rattle.std.proofs.Common.{◌≡◌, refl, ℕ, ◌<◌, ◌≤◌, Bool, true, List, [], ◌∷◌, ◌++◌, map, take, drop, All, None, sym, ap, ◌∙◌, arith}
use Rattle.std.specs.Prelude.{◌&&◌, Result, Ok, Err}
use Rattle.std.specs.List.{list_all}
use Rattle.std.proofs.lemmas.List.{map-append}
use Rattle.std.proofs.lemmas.List.Folds.{list_all-append}
use Rattle.std.proofs.lemmas.List.Elements.{All-nil, All-head, All-tail, All-take, All-drop, All-weaker}
use Rattle.eo_term.specs.Tree.{Tree, is_value}
use Rattle.eo_term.specs.Terms.{tree_at}
use Rattle.eo_proof.specs.declared.facts.Begun.{Begun}
use Rattle.eo_proof.specs.Kept.{NamedId, Kept, read_fact, outer_facts, opened, scopes, AreBelow}
use Rattle.eo_proof.specs.Scopes.{Fact, Scope, Scopes, no_facts, opened_facts, fact, in_innermost, with_fact, with_scope, outside, innermost_hypothesis}
use Rattle.eo_proof.specs.Outcomes.{Popped}
use Rattle.eo_proof.specs.declared.facts.NoScope.{NoScope}
use Rattle.eo_session.specs.Store.{AreValues, AreMarks}
use Rattle.std.proofs.lemmas.Bool.{and_parts}

-- ---- a table that grows

pub map_grown : {A : Type 0} (f g : A → Tree) (P : A → Type 0) → ((x : A) → P x → f x ≡ g x) → (xs : List A) → All P xs → map f xs ≡ map g xs
map_grown f g P h [] a = refl
map_grown f g P h (x ∷ xs) a = (λ k. h x (All-head P x xs a) k ∷ map_grown f g P h xs (All-tail P x xs a) k)

module _ (ts us : List Tree) (n : ℕ) (same : (i : ℕ) → i < n → tree_at us i ≡ tree_at ts i) where
  facts_grown : (fs : List NamedId) → All (λ (f : NamedId). f.1.0 < n) fs → map (read_fact us) fs ≡ map (read_fact ts) fs
  facts_grown [] a = refl
  facts_grown (f ∷ fs) a =
      (λ k. record { name = f.0; formula = same f.1.0 (All-head (λ (f : NamedId). f.1.0 < n) f fs a) k; number = f.1.1 } ∷ facts_grown fs (All-tail (λ (f : NamedId). f.1.0 < n) f fs a) k)

  outer_grown : (fs : List NamedId) (bs : List Begun) → All (λ (f : NamedId). f.1.0 < n) fs → map (read_fact us) (outer_facts fs bs) ≡ map (read_fact ts) (outer_facts fs bs)
  outer_grown fs [] a = facts_grown fs a
  outer_grown fs (b ∷ bs) a = outer_grown (take b.first fs) bs (All-take (λ (f : NamedId). f.1.0 < n) b.first fs a)

  opened_grown : (fs : List NamedId) (bs : List Begun) → All (λ (f : NamedId). f.1.0 < n) fs → All (λ (b : Begun). b.hypothesis < n) bs → opened us fs bs ≡ opened ts fs bs
  opened_grown fs [] a h = refl
  opened_grown fs (b ∷ bs) a h =
      (λ k. record {
        hypothesis = same b.hypothesis (All-head (λ (b : Begun). b.hypothesis < n) b bs h) k;
        facts = facts_grown (drop b.first fs) (All-drop (λ (f : NamedId). f.1.0 < n) b.first fs a) k;
      } ∷ opened_grown (take b.first fs) bs (All-take (λ (f : NamedId). f.1.0 < n) b.first fs a) (All-tail (λ (b : Begun). b.hypothesis < n) b bs h) k)

  pub scopes_grown : (k : Kept) → AreBelow n k → scopes us k ≡ scopes ts k
  unfolding scopes
  scopes_grown k h = (λ i. record { outermost = outer_grown k.facts k.begun h.facts i; opened = opened_grown k.facts k.begun h.facts h.hypotheses i })

pub below_more : (n m : ℕ) → n ≤ m → (k : Kept) → AreBelow n k → AreBelow m k
below_more n m l k h = record {
  facts = All-weaker (λ (f : NamedId). f.1.0 < n) (λ (f : NamedId). f.1.0 < m) (λ f h. omega (arith, l, h)) k.facts h.facts;
  hypotheses = All-weaker (λ (b : Begun). b.hypothesis < n) (λ (b : Begun). b.hypothesis < m) (λ b h. omega (arith, l, h)) k.begun h.hypotheses;
}

-- where there are no facts, all are below any number
pub none_below : (n : ℕ) (k : Kept) → ((ts : List Tree) → scopes ts k ≡ no_facts) → AreBelow n k
unfolding scopes
none_below n k e = by k.facts k.begun (ap (λ (f : Scopes). f.outermost) (e [])) (ap (λ (f : Scopes). f.opened) (e []))
  where
    by : (fs : List NamedId) (bs : List Begun) → map (read_fact []) (outer_facts fs bs) ≡ [] → opened [] fs bs ≡ [] → AreBelow n (record { facts = fs; begun = bs })
    by [] [] a b = record { facts = All-nil (λ (f : NamedId). f.1.0 < n); hypotheses = All-nil (λ (b : Begun). b.hypothesis < n) }
    by (f ∷ fs) [] a b = absurd cc
    by fs (x ∷ bs) a b = absurd cc

-- ---- marks

pub marks_more : (n m : ℕ) → n ≤ m → (ms : List ℕ) → AreMarks n ms → AreMarks m ms
marks_more n m l [] h = tt
marks_more n m l (k ∷ ks) h = (omega (arith, l, h.0), h.1)

-- ---- facts that are values

abbrev values_in : List Fact → Bool
values_in fs = list_all is_value (map (λ (f : Fact). f.formula) fs)

values_append : (xs ys : List Fact) → values_in (xs ++ ys) ≡ (values_in xs && values_in ys)
values_append xs ys =
    ap (list_all is_value) (map-append (λ (f : Fact). f.formula) xs ys) ∙ list_all-append is_value (map (λ (f : Fact). f.formula) xs) (map (λ (f : Fact). f.formula) ys)

split : (xs ys : List Fact) → values_in (xs ++ ys) ≡ true → (values_in xs ≡ true) × (values_in ys ≡ true)
split xs ys h = and_parts (values_in xs) (values_in ys) (sym (values_append xs ys) ∙ h)

join : (xs ys : List Fact) → values_in xs ≡ true → values_in ys ≡ true → values_in (xs ++ ys) ≡ true
join xs ys p q = values_append xs ys ∙ (λ i. p i && q i)

pub none_values : AreValues no_facts
none_values = record { facts = refl; hypotheses = refl }

module _ (name : List ℕ) (t : Tree) (number : ℕ) (v : is_value t ≡ true) where
  abbrev one : List Fact
  one = fact name t number ∷ []

  one_value : values_in one ≡ true
  one_value = (λ i. v i && true)

  pub values_fact : (f : Scopes) → AreValues f → AreValues (with_fact f name t number)
  unfolding with_fact
  values_fact f h = by f.outermost f.opened h
    where
      by : (fs : List Fact) (ss : List Scope) → AreValues (record { outermost = fs; opened = ss }) → AreValues (in_innermost fs ss (fact name t number))
      by fs [] h = record { facts = join (fs ++ one) [] (join fs one (split fs [] h.facts).0 one_value) refl; hypotheses = refl }
      by fs (s ∷ ss) h =
          let a = split fs (opened_facts ss ++ s.facts) h.facts in
          let b = split (opened_facts ss) s.facts a.1 in
          record { facts = join fs (opened_facts ss ++ (s.facts ++ one)) a.0 (join (opened_facts ss) (s.facts ++ one) b.0 (join s.facts one b.1 one_value)); hypotheses = h.hypotheses }

  pub values_scope : (f : Scopes) → AreValues f → AreValues (with_scope f name t number)
  unfolding with_scope
  values_scope f h =
      let a = split f.outermost (opened_facts f.opened) h.facts in
      record { facts = join f.outermost (opened_facts f.opened ++ one) a.0 (join (opened_facts f.opened) one a.1 one_value); hypotheses = (λ i. v i && h.hypotheses i) }

pub values_outside : (f : Scopes) → AreValues f → AreValues (outside f)
unfolding outside
values_outside f h = by f.outermost f.opened h
  where
    by : (fs : List Fact) (ss : List Scope) → AreValues (record { outermost = fs; opened = ss }) → AreValues (record { outermost = fs; opened = drop 1 ss })
    by fs [] h = h
    by fs (s ∷ ss) h =
        let a = split fs (opened_facts ss ++ s.facts) h.facts in
        record {
          facts = join fs (opened_facts ss) a.0 (split (opened_facts ss) s.facts a.1).0;
          hypotheses = (and_parts (is_value s.hypothesis) (list_all is_value (map (λ (s : Scope). s.hypothesis) ss)) h.hypotheses).1;
        }

-- where no scope is open, it is outside already
pub none_open : (f : Scopes) → innermost_hypothesis f ≡ None → outside f ≡ f
unfolding innermost_hypothesis outside
none_open f e = by f.outermost f.opened e
  where
    by : (fs : List Fact) (ss : List Scope) → innermost_hypothesis (record { outermost = fs; opened = ss }) ≡ None → outside (record { outermost = fs; opened = ss }) ≡ record { outermost = fs; opened = ss }
    by fs [] e = refl
    by fs (s ∷ ss) e = absurd cc

-- a scope that is taken off leaves what is outside
pub popped_outside : (ts : List Tree) (r : Result ℕ NoScope) (old new : Scopes) → Popped ts r old new → new ≡ outside old
popped_outside ts (Ok i) old new h = h.1
popped_outside ts (Err e) old new h = h.1 ∙ sym (none_open old h.0)
