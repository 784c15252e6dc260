-- Matching step by step.
use Rattle.std.specs.Prelude.{◌≡◌, ℕ, zero, suc, ◌<◌, Bool, true, false, ◌||◌, nat_eq, if◌then◌else◌, List, [], ◌∷◌, map, Option, Some, None, is_some, refl}
use Rattle.std.proofs.Common.{sym, ◌∙◌, ap, ap₂, subst, true≢false}
use Rattle.std.proofs.lemmas.Bool.Decides.{Decides-eqb}
use Rattle.std.proofs.lemmas.Option.{none-some}
use mathlib.Core.Path.{fun_ext}
use Rattle.eo_term.specs.Tree.{Tree, Con, Num, Bits, Str, Par, Var, App, Arr, Qar, Op, Trees, NoTree, More, to_list, is_closed, all_closed, occurs, occurs_in, occurs_in_all, is_tall}
use Rattle.eo_term.specs.declared.OpCode.{OpCode}
use Rattle.eo_base.proofs.Elements.{holds_more}
use Rattle.eo_base.proofs.Tests.{or_second, both, clash, none_is}
use Rattle.eo_term.specs.ParamSet.{has}
use Rattle.std.specs.Prelude.{◌≢◌, IfSome, IfNone}
use Rattle.eo_term.specs.Memo.{told, TellsOnly}
use Rattle.eo_pattern.specs.Matching.{Assignment, empty, assign, value_or_par, put, put_all, Matches}
use Rattle.eo_pattern.specs.Slots.{Slots, SlotBelow, AreBelow, Holds, Leads, Keeps, held, IsPut, IsAssigned}
use Rattle.eo_pattern.specs.Pairs.{Remembered}
use Rattle.eo_pattern.specs.Matched.{IsKept, AreMatched}
use Rattle.eo_pattern.specs.Steps.{IsMade, IsNext}
use Rattle.eo_term.specs.Arguments.{count_of, argument_at}
use Rattle.std.proofs.Common.{inl, inr, ◌⊎◌, arith, length, get_or, set, take, drop, slice_get, ◌+◌, ◌≤◌}
use Rattle.std.proofs.Math.Seq.{drop-cons}
use Rattle.std.proofs.Common.{All}
use Rattle.std.proofs.lemmas.List.{get_or-set_same, get_or-set_other}
use Rattle.std.proofs.lemmas.List.Elements.{All-head, All-tail, All-weaker}
use Rattle.std.specs.Option.{option_flatten, option_map}
use Rattle.eo_term.specs.Terms.{Terms, Since, SameTrees, tree_at, trees_at}
use Rattle.eo_pattern.proofs.Match.{matches_unique}
use Rattle.eo_pattern.proofs.Put.{put_agree, put_list_agree}
use Rattle.std.proofs.Math.Bool.{or_assoc, or-false}

-- Booleans

-- closed trees

mutual
  pub closed_none : (i : ℕ) (t : Tree) → is_closed t ≡ true → occurs i t ≡ false
  closed_none i (Con k) h = refl
  closed_none i (Num z) h = refl
  closed_none i (Bits w v) h = refl
  closed_none i (Str s) h = refl
  closed_none i (Par j) h = clash h
  closed_none i (Var s t) h = closed_none i t h
  closed_none i (App f x) h = ap₂ ◌||◌ (closed_none i f (both h).0) (closed_none i x (both h).1)
  closed_none i (Arr f x) h = ap₂ ◌||◌ (closed_none i f (both h).0) (closed_none i x (both h).1)
  closed_none i (Qar j f x) h = ap₂ ◌||◌ (closed_none i f (both h).0) (closed_none i x (both h).1)
  closed_none i (Op c ts) h = closed_none_all i ts h

  closed_none_all : (i : ℕ) (ts : Trees) → all_closed ts ≡ true → occurs_in_all i ts ≡ false
  closed_none_all i NoTree h = refl
  closed_none_all i (More t ts) h = ap₂ ◌||◌ (closed_none i t (both h).0) (closed_none_all i ts (both h).1)

mutual
  pub put_closed : (σ : Assignment) (t : Tree) → is_closed t ≡ true → put σ t ≡ t
  put_closed σ (Con k) h = refl
  put_closed σ (Num z) h = refl
  put_closed σ (Bits w v) h = refl
  put_closed σ (Str s) h = refl
  put_closed σ (Par j) h = clash h
  put_closed σ (Var s t) h = ap (Var s) (put_closed σ t h)
  put_closed σ (App f x) h = ap₂ App (put_closed σ f (both h).0) (put_closed σ x (both h).1)
  put_closed σ (Arr f x) h = ap₂ Arr (put_closed σ f (both h).0) (put_closed σ x (both h).1)
  put_closed σ (Qar j f x) h = ap₂ (Qar j) (put_closed σ f (both h).0) (put_closed σ x (both h).1)
  put_closed σ (Op c ts) h = ap (Op c) (put_all_closed σ ts h)

  put_all_closed : (σ : Assignment) (ts : Trees) → all_closed ts ≡ true → put_all σ ts ≡ ts
  put_all_closed σ NoTree h = refl
  put_all_closed σ (More t ts) h = ap₂ More (put_closed σ t (both h).0) (put_all_closed σ ts (both h).1)

-- a tree with no assigned parameter stays
mutual
  pub put_nothing : (t : Tree) → put empty t ≡ t
  put_nothing (Con k) = refl
  put_nothing (Num z) = refl
  put_nothing (Bits w v) = refl
  put_nothing (Str s) = refl
  put_nothing (Par j) = refl
  put_nothing (Var s t) = ap (Var s) (put_nothing t)
  put_nothing (App f x) = ap₂ App (put_nothing f) (put_nothing x)
  put_nothing (Arr f x) = ap₂ Arr (put_nothing f) (put_nothing x)
  put_nothing (Qar j f x) = ap₂ (Qar j) (put_nothing f) (put_nothing x)
  put_nothing (Op c ts) = ap (Op c) (put_nothing_in_all ts)

  put_nothing_in_all : (ts : Trees) → put_all empty ts ≡ ts
  put_nothing_in_all NoTree = refl
  put_nothing_in_all (More t ts) = ap₂ More (put_nothing t) (put_nothing_in_all ts)

pub put_missed : (ts : List Tree) (s : Slots) (set own : ℕ) (t : Tree) → IsAssigned set s → ((i : ℕ) → has own i ≡ occurs i t) → ((i : ℕ) → has own i ≡ true → i < 64) → ((i : ℕ) → has own i ≡ true → has set i ≡ false) → put (held ts s) t ≡ t
put_missed ts s set own t a same small apart =
    put_agree (held ts s) empty t (λ i o. let own_has = same i ∙ o in ap (option_map (tree_at ts)) (none_is _ (sym (a.tells i (small i own_has)) ∙ apart i own_has))) ∙ put_nothing t

pub closed_equal : (σ : Assignment) (p t : Tree) → is_closed p ≡ true → p ≡ t → Matches σ (p ∷ []) (t ∷ []) σ
closed_equal σ p t h e = record {
  extends = λ i u q. q;
  names = λ i. sym (ap (λ b. is_some (σ i) || (b || false)) (closed_none i p h) ∙ or-false (is_some (σ i)));
  equal = ap (λ u. u ∷ []) (put_closed σ p h ∙ e);
}

pub closed_differ : (σ τ : Assignment) (p t : Tree) → is_closed p ≡ true → (p ≡ t → ⊥) → Matches σ (p ∷ []) (t ∷ []) τ → ⊥
closed_differ σ τ p t h n m =
    let e : put τ p ≡ t = cc m.equal in
    n (sym (put_closed τ p h) ∙ e)

-- a parameter

pub par_new : (σ : Assignment) (i : ℕ) (t : Tree) → σ i ≡ None → Matches σ (Par i ∷ []) (t ∷ []) (assign σ i t)
par_new σ i t n = record { extends = more; names = named; equal = ap (λ u. u ∷ []) here }
  where
    own : nat_eq i i ≡ true
    own = (Decides-eqb i i).1 refl

    here : value_or_par i (if nat_eq i i then Some t else σ i) ≡ t
    here = ap (λ b. value_or_par i (if b then Some t else σ i)) own

    more : (j : ℕ) (u : Tree) → σ j ≡ Some u → (if nat_eq i j then Some t else σ j) ≡ Some u
    more j u e = by (nat_eq i j) refl
      where
        by : (b : Bool) → nat_eq i j ≡ b → (if b then Some t else σ j) ≡ Some u
        by true q = absurd (none-some u (sym n ∙ ap σ ((Decides-eqb i j).0 q) ∙ e))
        by false q = e

    named : (j : ℕ) → is_some (if nat_eq i j then Some t else σ j) ≡ (is_some (σ j) || (nat_eq j i || false))
    named j = by (nat_eq i j) refl
      where
        by : (b : Bool) → nat_eq i j ≡ b → is_some (if b then Some t else σ j) ≡ (is_some (σ j) || (nat_eq j i || false))
        by true q = sym (or_second (is_some (σ j)) (nat_eq j i || false) (ap (λ b. b || false) ((Decides-eqb j i).1 (sym ((Decides-eqb i j).0 q)))))
        by false q = sym (ap (λ b. is_some (σ j) || (b || false)) (other (nat_eq j i) refl) ∙ or-false (is_some (σ j)))
          where
            other : (b : Bool) → nat_eq j i ≡ b → b ≡ false
            other true r = absurd (true≢false (sym ((Decides-eqb i j).1 (sym ((Decides-eqb j i).0 r))) ∙ q))
            other false r = refl

-- several, one after another

pub more_put : (σ τ : Assignment) (ps : List Tree) → ((i : ℕ) (t : Tree) → σ i ≡ Some t → τ i ≡ Some t) → ((i : ℕ) → occurs_in i ps ≡ true → is_some (σ i) ≡ true) → map (put τ) ps ≡ map (put σ) ps
more_put σ τ ps e n = put_list_agree τ σ ps (λ j o. by (σ j) refl (n j o))
  where
    by : {j : ℕ} (o : Option Tree) → σ j ≡ o → is_some (σ j) ≡ true → τ j ≡ σ j
    by {j} None q h = absurd (true≢false (sym h ∙ ap is_some q))
    by {j} (Some t) q h = e j t q ∙ sym q

pub matches_cons : (σ τ ρ : Assignment) (p t : Tree) (ps ts : List Tree) → Matches σ (p ∷ []) (t ∷ []) τ → Matches τ ps ts ρ → Matches σ (p ∷ ps) (t ∷ ts) ρ
matches_cons σ τ ρ p t ps ts m n = record {
  extends = λ i u e. n.extends i u (m.extends i u e);
  names = λ i.
      n.names i ∙ ap (λ b. b || occurs_in i ps) (m.names i ∙ ap (λ b. is_some (σ i) || b) (or-false (occurs i p))) ∙ or_assoc (is_some (σ i)) (occurs i p) (occurs_in i ps);
  equal =
      let one : put τ p ∷ [] ≡ t ∷ [] = m.equal in
      let same : map (put ρ) (p ∷ []) ≡ map (put τ) (p ∷ []) = more_put τ ρ (p ∷ []) n.extends (λ i o. m.names i ∙ or_second (is_some (σ i)) (occurs i p || false) o) in
      let first : put ρ p ≡ t = cc in
      ap₂ ◌∷◌ first n.equal;
}

-- what matches all matches the first, and from there the others
module _ (σ ρ : Assignment) (p t : Tree) (ps ts : List Tree) (m : Matches σ (p ∷ ps) (t ∷ ts) ρ) where
  abbrev keep : ℕ → Bool
  keep i = is_some (σ i) || occurs i p

  abbrev between : Assignment
  between i = if keep i then ρ i else None

  named : (i : ℕ) → keep i ≡ true → is_some (ρ i) ≡ true
  named i h = m.names i ∙ sym (or_assoc (is_some (σ i)) (occurs i p) (occurs_in i ps)) ∙ ap (λ b. b || occurs_in i ps) h

  between_some : (i : ℕ) → is_some (between i) ≡ keep i
  between_some i = by (keep i) refl
    where
      by : (b : Bool) → keep i ≡ b → is_some (if b then ρ i else None) ≡ b
      by true q = named i q
      by false q = refl

  between_more : (i : ℕ) (u : Tree) → between i ≡ Some u → ρ i ≡ Some u
  between_more i u = by (keep i)
    where
      by : (b : Bool) → (if b then ρ i else None) ≡ Some u → ρ i ≡ Some u
      by true q = q
      by false q = absurd (none-some u q)

  pub first_matches : Matches σ (p ∷ []) (t ∷ []) between
  first_matches = record {
    extends = λ i u e. ap (λ b. if b then ρ i else None) (ap (λ o. is_some o || occurs i p) e) ∙ m.extends i u e;
    names = λ i. between_some i ∙ ap (λ b. is_some (σ i) || b) (sym (or-false (occurs i p)));
    equal =
        let agree : put between p ≡ put ρ p = put_agree between ρ p (λ j o. ap (λ b. if b then ρ j else None) (or_second (is_some (σ j)) (occurs j p) o)) in
        let e : put ρ p ∷ map (put ρ) ps ≡ t ∷ ts = m.equal in
        let first : put ρ p ≡ t = cc in
        ap (λ u. u ∷ []) (agree ∙ first);
  }

  pub rest_matches : Matches between ps ts ρ
  rest_matches = record {
    extends = between_more;
    names = λ i. m.names i ∙ sym (or_assoc (is_some (σ i)) (occurs i p) (occurs_in i ps)) ∙ ap (λ b. b || occurs_in i ps) (sym (between_some i));
    equal =
        let e : put ρ p ∷ map (put ρ) ps ≡ t ∷ ts = m.equal in
        cc;
  }

-- what was matched stays so as more is assigned

pub matches_later : (σ τ : Assignment) (p t : Tree) → ((i : ℕ) (u : Tree) → σ i ≡ Some u → τ i ≡ Some u) → Matches σ (p ∷ []) (t ∷ []) σ → Matches τ (p ∷ []) (t ∷ []) τ
matches_later σ τ p t more m = record {
  extends = λ i u e. e;
  names = λ i. by i (occurs i p || false) refl;
  equal = more_put σ τ (p ∷ []) more (λ i o. m.names i ∙ or_second (is_some (σ i)) (occurs i p || false) o) ∙ m.equal;
}
  where
    some : (i : ℕ) (o : Option Tree) → σ i ≡ o → is_some o ≡ true → is_some (τ i) ≡ true
    some i None e h = absurd (true≢false (sym h))
    some i (Some u) e h = ap is_some (more i u e)

    by : (i : ℕ) (b : Bool) → (occurs i p || false) ≡ b → is_some (τ i) ≡ (is_some (τ i) || b)
    by i true e = let own : is_some (τ i) ≡ true = some i (σ i) refl (m.names i ∙ or_second (is_some (σ i)) (occurs i p || false) e) in own ∙ sym (or_second (is_some (τ i)) true refl)
    by i false e = sym (or-false (is_some (τ i)))

-- what was matched is matched from there
pub matches_again : (σ τ : Assignment) (p t : Tree) → Matches σ (p ∷ []) (t ∷ []) τ → Matches τ (p ∷ []) (t ∷ []) τ
matches_again σ τ p t m = record { extends = λ i u e. e; names = λ i. by i (occurs i p || false) refl; equal = m.equal }
  where
    by : (i : ℕ) (b : Bool) → (occurs i p || false) ≡ b → is_some (τ i) ≡ (is_some (τ i) || b)
    by i true e = let own : is_some (τ i) ≡ true = m.names i ∙ or_second (is_some (σ i)) (occurs i p || false) e in own ∙ sym (or_second (is_some (τ i)) true refl)
    by i false e = sym (or-false (is_some (τ i)))

pub still_matched : (ts : List Tree) (σ τ : Assignment) (m : Remembered) → ((i : ℕ) (u : Tree) → σ i ≡ Some u → τ i ≡ Some u) → AreMatched ts σ m → AreMatched ts τ m
still_matched ts σ τ m more h = record { each = λ p t k. matches_later σ τ (tree_at ts p) (tree_at ts t) more (h.each p t k) }

pub none_matched : (ts : List Tree) (σ : Assignment) (m : Remembered) → ((p t : ℕ) → IsKept m p t → ⊥) → AreMatched ts σ m
none_matched ts σ m n = record { each = λ p t k. absurd (n p t k) }

pub more_matched : (ts : List Tree) (σ : Assignment) (m n : Remembered) (p t : ℕ) → ((q u : ℕ) → IsKept n q u → ((q ≡ p) × (u ≡ t)) ⊎ IsKept m q u) → AreMatched ts σ m → Matches σ (tree_at ts p ∷ []) (tree_at ts t ∷ []) σ → AreMatched ts σ n
more_matched ts σ m n p t f h own = record {
  each = λ q u k. elim (f q u k) [
    | inl e ↦ subst (λ (x : ℕ). Matches σ (tree_at ts x ∷ []) (tree_at ts u ∷ []) σ) (sym e.0) (subst (λ (y : ℕ). Matches σ (tree_at ts p ∷ []) (tree_at ts y ∷ []) σ) (sym e.1) own)
    | inr e ↦ h.each q u e
  ];
}

-- loops

pub matches_nil : (σ : Assignment) → Matches σ [] [] σ
matches_nil σ = record { extends = λ i u e. e; names = λ i. sym (or-false (is_some (σ i))); equal = refl }

pub leads_refl : (σ : Assignment) (ps ts : List Tree) → Leads σ ps ts σ ps ts
leads_refl σ ps ts = record { fwd = λ ρ m. m; back = λ ρ m. m }

module _ (σ : Assignment) (ps ts : List Tree) (τ : Assignment) where
  pub leads_end : Leads σ ps ts τ [] [] → Matches σ ps ts τ
  leads_end l = l.fwd τ (matches_nil τ)

  module _ (q u : Tree) (qs us : List Tree) (l : Leads σ ps ts τ (q ∷ qs) (u ∷ us)) where
    pub leads_step : (υ : Assignment) → Matches τ (q ∷ []) (u ∷ []) υ → Leads σ ps ts υ qs us
    leads_step υ m = record {
      fwd = λ ρ n. l.fwd ρ (matches_cons τ υ ρ q u qs us m n);
      back = λ ρ n.
          let all = l.back ρ n in
          let same = matches_unique τ (q ∷ []) (u ∷ []) (between τ ρ q u qs us all) υ (first_matches τ ρ q u qs us all) m in
          subst (λ (z : Assignment). Matches z qs us ρ) same (rest_matches τ ρ q u qs us all);
    }

    pub leads_none : ((υ : Assignment) → Matches τ (q ∷ []) (u ∷ []) υ → ⊥) → (ρ : Assignment) → Matches σ ps ts ρ → ⊥
    leads_none n ρ m = let all = l.back ρ m in n (between τ ρ q u qs us all) (first_matches τ ρ q u qs us all)

-- the arguments of an operator, as a list

listed : (ρ : Assignment) (ts : Trees) → to_list (put_all ρ ts) ≡ map (put ρ) (to_list ts)
listed ρ NoTree = refl
listed ρ (More t ts) = ap (λ us. put ρ t ∷ us) (listed ρ ts)

unlisted : (ts us : Trees) → to_list ts ≡ to_list us → ts ≡ us
unlisted NoTree NoTree e = refl
unlisted NoTree (More u us) e = absurd cc
unlisted (More t ts) NoTree e = absurd cc
unlisted (More t ts) (More u us) e =
    let h : t ≡ u = cc in
    let r : to_list ts ≡ to_list us = cc in
    ap₂ More h (unlisted ts us r)

occurs_listed : (i : ℕ) (ts : Trees) → occurs_in_all i ts ≡ occurs_in i (to_list ts)
occurs_listed i NoTree = refl
occurs_listed i (More t ts) = ap (λ b. occurs i t || b) (occurs_listed i ts)

pub op_leads : (σ : Assignment) (c : OpCode) (ts us : Trees) → Leads σ (Op c ts ∷ []) (Op c us ∷ []) σ (to_list ts) (to_list us)
op_leads σ c ts us = record {
  fwd = λ ρ m. record {
    extends = m.extends;
    names = λ i. m.names i ∙ ap (λ b. is_some (σ i) || b) (sym (or-false (occurs_in_all i ts) ∙ occurs_listed i ts));
    equal = ap (λ vs. Op c vs ∷ []) (unlisted (put_all ρ ts) us (listed ρ ts ∙ m.equal));
  };
  back = λ ρ m. record {
    extends = m.extends;
    names = λ i. m.names i ∙ ap (λ b. is_some (σ i) || b) (or-false (occurs_in_all i ts) ∙ occurs_listed i ts);
    equal = let e : Op c (put_all ρ ts) ∷ [] ≡ Op c us ∷ [] = m.equal in let q : put_all ρ ts ≡ us = cc in sym (listed ρ ts) ∙ ap to_list q;
  };
}

pub argument_occurs : (i : ℕ) (ts : Trees) (k : ℕ) → k < count_of ts → occurs i (argument_at ts k) ≡ true → occurs_in i (to_list ts) ≡ true
argument_occurs i NoTree k l o = absurd (omega arith)
argument_occurs i (More t ts) zero l o = ap (λ b. b || occurs_in i (to_list ts)) o
argument_occurs i (More t ts) (suc k) l o = or_second (occurs i t) (occurs_in i (to_list ts)) (argument_occurs i ts k (omega arith) o)

pub args_occur : (i : ℕ) (ts : Trees) → occurs_in i (to_list ts) ≡ true → occurs_in_all i ts ≡ true
args_occur i ts o = occurs_listed i ts ∙ o

pub keeps_trans : (n : ℕ) (s t u : Slots) → Keeps n s t → Keeps n t u → Keeps n s u
keeps_trans n s t u a b = record { room = b.room ∙ a.room; height = b.height ∙ a.height; below = b.below }

pub leads_at : (σ : Assignment) (ps ts : List Tree) (τ : Assignment) (qs us vs ws : List Tree) → qs ≡ vs → us ≡ ws → Leads σ ps ts τ qs us → Leads σ ps ts τ vs ws
leads_at σ ps ts τ qs us vs ws e g l = subst (λ zs. Leads σ ps ts τ zs ws) e (subst (λ zs. Leads σ ps ts τ qs zs) g l)

-- what is held

pub count_put : (τ : Assignment) (ts : Trees) → count_of (put_all τ ts) ≡ count_of ts
count_put τ NoTree = refl
count_put τ (More t ts) = ap (λ n. 1 + n) (count_put τ ts)

pub argument_put : (τ : Assignment) (ts : Trees) (i : ℕ) → i < count_of ts → argument_at (put_all τ ts) i ≡ put τ (argument_at ts i)
argument_put τ NoTree i l = absurd (omega arith)
argument_put τ (More t ts) zero l = refl
argument_put τ (More t ts) (suc i) l = argument_put τ ts i (omega arith)

pub op_same : (σ τ : Assignment) (p t : Tree) (c d : OpCode) (ps us : Trees) → Op c ps ≡ p → Op d us ≡ t → Matches σ (p ∷ []) (t ∷ []) τ → (c ≡ d) × (count_of ps ≡ count_of us)
op_same σ τ p t c d ps us e g m =
    let n : Matches σ (Op c ps ∷ []) (Op d us ∷ []) τ = subst (λ x. Matches σ (x ∷ []) (Op d us ∷ []) τ) (sym e) (subst (λ y. Matches σ (p ∷ []) (y ∷ []) τ) (sym g) m) in
    let q : Op c (put_all τ ps) ∷ [] ≡ Op d us ∷ [] = n.equal in
    let same : c ≡ d = cc in
    let args : put_all τ ps ≡ us = cc in
    (same, sym (count_put τ ps) ∙ ap count_of args)

-- the patterns from a place on
pub trees_from : (ts : List Tree) (xs : List ℕ) (i x : ℕ) → i < length xs → x ≡ get_or xs i x → map (tree_at ts) (drop i xs) ≡ tree_at ts x ∷ map (tree_at ts) (drop (i + 1) xs)
trees_from ts xs i x l e =
    let one : suc i ≡ i + 1 = omega arith in
    ap (map (tree_at ts)) (drop-cons xs i x l) ∙ (λ k. tree_at ts (sym e k) ∷ map (tree_at ts) (drop (one k) xs))

pub trees_past : (ts : List Tree) (xs : List ℕ) (i : ℕ) → length xs ≤ i → map (tree_at ts) (drop i xs) ≡ []
trees_past ts [] zero l = refl
trees_past ts [] (suc i) l = refl
trees_past ts (x ∷ xs) zero l = absurd (omega arith)
trees_past ts (x ∷ xs) (suc i) l = trees_past ts xs i (omega arith)

slot_same : (n : ℕ) (ts us : List Tree) → SameTrees n ts us → (vs : List (Option ℕ)) (j : ℕ) → All (SlotBelow n) vs → option_map (tree_at us) (option_flatten (slice_get vs j)) ≡ option_map (tree_at ts) (option_flatten (slice_get vs j))
slot_same n ts us e [] j h = refl
slot_same n ts us e (None ∷ vs) zero h = refl
slot_same n ts us e (Some i ∷ vs) zero h = ap Some (e.at i (All-head (SlotBelow n) (Some i) vs h))
slot_same n ts us e (v ∷ vs) (suc j) h = slot_same n ts us e vs j (All-tail (SlotBelow n) v vs h)

slot_more : (n m : ℕ) → n ≤ m → (o : Option ℕ) → SlotBelow n o → SlotBelow m o
slot_more n m l None h = tt
slot_more n m l (Some i) h = omega arith

-- what is held stays while the table grows
pub holds_grown : (s : Slots) (old new : Terms) → AreBelow (length old.trees) s → Since old new → Holds s old.trees new.trees
holds_grown s old new h g = record {
  held = fun_ext (λ j. slot_same (length old.trees) old.trees new.trees (record { at = g.tree }) s.values j h.slots);
  below = record { slots = All-weaker (SlotBelow (length old.trees)) (SlotBelow (length new.trees)) (slot_more (length old.trees) (length new.trees) g.more_trees) s.values h.slots };
}

-- and what a term becomes
pub put_later : (s : Slots) (old new : Terms) (k : ℕ) → AreBelow (length old.trees) s → Since old new → k < length old.trees → put (held new.trees s) (tree_at new.trees k) ≡ put (held old.trees s) (tree_at old.trees k)
put_later s old new k h g l = λ i. put ((holds_grown s old new h g).held i) (g.tree k l i)

-- what a memo has stays
pub puts_grown : (s : Slots) (old new : Terms) (m : List (ℕ × ℕ)) → AreBelow (length old.trees) s → Since old new → TellsOnly (IsPut (held old.trees s) old.trees) m → TellsOnly (IsPut (held new.trees s) new.trees) m
puts_grown s old new m h g t =
    let same = (holds_grown s old new h g).held in
    λ k v e. let p = t k v e in record {
      term = omega (arith, p.term, g.more_trees);
      made = omega (arith, p.made, g.more_trees);
      tree = g.tree v p.made ∙ p.tree ∙ (λ i. put (sym same i) (sym (g.tree k p.term) i));
    }

-- where the term k becomes too tall, so does the term id
abbrev pub Overtops : Assignment → List Tree → ℕ → ℕ → Type 0
Overtops σ ts id k = is_tall (put σ (tree_at ts k)) ≡ true → is_tall (put σ (tree_at ts id)) ≡ true

-- a step of the walk for the term id, at the term k, with the table old at its start, mid before the step and new after it
module _ (s : Slots) (old mid new : Terms) (id k : ℕ) (b : AreBelow (length old.trees) s) (g : Since old mid) (r : Overtops (held old.trees s) old.trees id k) (l : k < length old.trees) where
  pub step_tall : is_tall (put (held mid.trees s) (tree_at mid.trees k)) ≡ true → is_tall (put (held old.trees s) (tree_at old.trees id)) ≡ true
  step_tall h = r (ap is_tall (sym (put_later s old mid k b g l)) ∙ h)

  pub step_part : (m : List (ℕ × ℕ)) (p : ℕ) → IsNext (held mid.trees s) mid.trees m k p → Overtops (held old.trees s) old.trees id p
  step_part m p n h = step_tall (n.tall (ap is_tall (put_later s old mid p b g (omega (arith, n.older, l))) ∙ h))

  pub step_made : (v : ℕ) → k ≡ id → IsMade (held mid.trees s) mid.trees k new.trees v → IsMade (held old.trees s) old.trees id new.trees v
  step_made v e p =
      let same : put (held mid.trees s) (tree_at mid.trees k) ≡ put (held old.trees s) (tree_at old.trees id) = put_later s old mid k b g l ∙ ap (λ j. put (held old.trees s) (tree_at old.trees j)) e in
      record { live = p.live; tree = p.tree ∙ same; low = ap is_tall (sym same) ∙ p.low }

  pub step_kept : (v : ℕ) (m n : List (ℕ × ℕ)) → Since mid new → ((j : ℕ) → told n j ≡ (if nat_eq k j then Some v else told m j)) → TellsOnly (IsPut (held mid.trees s) mid.trees) m → IsMade (held mid.trees s) mid.trees k new.trees v → TellsOnly (IsPut (held new.trees s) new.trees) n
  step_kept v m n w f t p =
      let below = (holds_grown s old mid b g).below in
      let live : k < length mid.trees = omega (arith, l, g.more_trees) in
      holds_more (IsPut (held new.trees s) new.trees) (told m) (told n) k v f (puts_grown s mid new m below w t) (record {
        term = omega (arith, live, w.more_trees);
        made = p.live;
        tree = p.tree ∙ sym (put_later s mid new k below w live);
      })

-- what a memo has for a term
pub told_put : (σ : Assignment) (ts : List Tree) (m : List (ℕ × ℕ)) (k : ℕ) (o : Option ℕ) → o ≡ told m k → TellsOnly (IsPut σ ts) m → IfSome o (λ v. v < length ts) × (IfSome o (λ v. tree_at ts v ≡ put σ (tree_at ts k)) × IfNone o (told m k ≡ None))
told_put σ ts m k None e h = (tt, (tt, sym e))
told_put σ ts m k (Some v) e h = let p = h k v (sym e) in (p.made, (p.tree, tt))

-- what is put in for the arguments, place by place
pub args_put : (σ : Assignment) (us : List Tree) (xs : List ℕ) (ts : Trees) (n : ℕ) → count_of ts ≡ n → n ≤ length xs → ((k : ℕ) → k < n → tree_at us (get_or xs k 0) ≡ put σ (argument_at ts k)) → trees_at us (take n xs) ≡ put_all σ ts
args_put σ us xs NoTree zero e l h = refl
args_put σ us xs NoTree (suc n) e l h = absurd (omega arith)
args_put σ us xs (More t ts) zero e l h = absurd (omega arith)
args_put σ us [] (More t ts) (suc n) e l h = absurd (omega arith)
args_put σ us (x ∷ xs) (More t ts) (suc n) e l h = λ i. More (h 0 (omega arith) i) (args_put σ us xs ts n (omega arith) (omega arith) (λ k m. h (suc k) (omega arith)) i)

-- what holds of each place below i holds of each below i + 1, where it holds of what is put there
pub set_below : (P : ℕ → ℕ → Type 0) (xs : List ℕ) (i v : ℕ) → i < length xs → ((k : ℕ) → k < i → P k (get_or xs k 0)) → P i v → (k : ℕ) → k < i + 1 → P k (get_or (set xs i v) k 0)
set_below P xs i v l h p k m = by (nat_eq k i) refl
  where
    by : (b : Bool) → nat_eq k i ≡ b → P k (get_or (set xs i v) k 0)
    by true q = subst (λ (j : ℕ). P j (get_or (set xs i v) j 0)) (sym ((Decides-eqb k i).0 q)) (subst (P i) (sym (get_or-set_same xs i v 0 l)) p)
    by false q =
        let other : k ≢ i = λ e. true≢false (sym ((Decides-eqb k i).1 e) ∙ q) in
        subst (P k) (sym (get_or-set_other xs i k v 0 other)) (h k (omega (arith, m, other)))
