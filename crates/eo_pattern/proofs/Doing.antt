-- Tasks of a search for a match, done one by one.
use Rattle.std.specs.Prelude.{◌≡◌, ℕ, zero, suc, ◌+◌, ◌*◌, ◌<◌, ◌≤◌, Bool, true, false, ◌||◌, if◌then◌else◌, List, [], ◌∷◌, ◌++◌, map, length, Some, None, is_some, refl}
use Rattle.std.proofs.Common.{sym, ◌∙◌, ap, ap₂, subst, arith, true≢false}
use Rattle.std.proofs.lemmas.Option.{none-some}
use Rattle.std.proofs.Math.Bool.{or_assoc}
use Rattle.std.proofs.lemmas.List.{append-nil, append_assoc, map-append, length-append}
use Rattle.eo_base.proofs.Tests.{or_second}
use Rattle.eo_term.specs.Tree.{Tree, Trees, Con, Num, Bits, Str, Par, Var, App, Arr, Qar, Op, NoTree, More, to_list, occurs, occurs_in, height, height_all, is_closed}
use Rattle.eo_term.specs.declared.OpCode.{OpCode}
use Rattle.eo_term.specs.Terms.{Terms, tree_at}
use Rattle.eo_term.specs.Arguments.{arguments_of, argument_at, count_of, from}
use Rattle.eo_pattern.specs.Matching.{Assignment, put, Matches}
use Rattle.eo_pattern.specs.Slots.{Slots, held, Leads}
use Rattle.eo_pattern.specs.Matched.{IsPair, ArePairs}
use Rattle.eo_pattern.specs.Sizes.{size, size_all}
use Rattle.eo_pattern.specs.ToDo.{ToDo}
use Rattle.eo_pattern.specs.Tasks.{patterns_of, terms_of, patterns_left, terms_left, takes, HaveRoom, weight, weights, ClosesOne, Closes, IsLive, AreLive, AreLeft, Becomes, IsRefused}
use Rattle.eo_pattern.specs.declared.tasks.Task.{Task}
use Rattle.eo_pattern.specs.declared.tasks.Task.TheVariants as task
use Rattle.eo_pattern.proofs.Match.{matches_unique}
use Rattle.eo_pattern.proofs.Put.{put_list_agree}
use Rattle.eo_pattern.specs.Split.{IsOne, IsTwo, IsArgs}
use Rattle.eo_pattern.proofs.Steps.{more_put, matches_nil, matches_again, leads_refl, leads_at, argument_occurs}

-- heights and sizes

pub height_some : (t : Tree) → 1 ≤ height t
height_some (Con k) = omega arith
height_some (Num z) = omega arith
height_some (Bits w v) = omega arith
height_some (Str s) = omega arith
height_some (Par i) = omega arith
height_some (Var s t) = omega arith
height_some (App f x) = omega arith
height_some (Arr a b) = omega arith
height_some (Qar i t b) = omega arith
height_some (Op c ts) = omega arith

pub size_some : (t : Tree) → 1 ≤ size t
size_some (Con k) = omega arith
size_some (Num z) = omega arith
size_some (Bits w v) = omega arith
size_some (Str s) = omega arith
size_some (Par i) = omega arith
size_some (Var s t) = omega arith
size_some (App f x) = omega arith
size_some (Arr a b) = omega arith
size_some (Qar i t b) = omega arith
size_some (Op c ts) = omega arith

argument_lower : (ts : Trees) (i : ℕ) → i < count_of ts → height (argument_at ts i) ≤ height_all ts
argument_lower NoTree i l = absurd (omega arith)
argument_lower (More t ts) zero l = omega arith
argument_lower (More t ts) (suc i) l = let h = argument_lower ts i (omega arith) in omega (arith, h)

pub argument_below : (t : Tree) (i : ℕ) → i < count_of (arguments_of t) → height (argument_at (arguments_of t) i) < height t
argument_below (Con k) i l = absurd (omega arith)
argument_below (Num z) i l = absurd (omega arith)
argument_below (Bits w v) i l = absurd (omega arith)
argument_below (Str s) i l = absurd (omega arith)
argument_below (Par j) i l = absurd (omega arith)
argument_below (Var s t) i l = absurd (omega arith)
argument_below (App f x) i l = absurd (omega arith)
argument_below (Arr a b) i l = absurd (omega arith)
argument_below (Qar j t b) i l = absurd (omega arith)
argument_below (Op c ts) i l = let h = argument_lower ts i l in omega (arith, h)

-- lists

append_apart : {A : Type 0} → (xs ys us vs : List A) → length xs ≡ length us → xs ++ ys ≡ us ++ vs → (xs ≡ us) × (ys ≡ vs)
append_apart [] ys [] vs l e = (refl, e)
append_apart [] ys (u ∷ us) vs l e = absurd (omega arith)
append_apart (x ∷ xs) ys [] vs l e = absurd (omega arith)
append_apart (x ∷ xs) ys (u ∷ us) vs l e =
    let h : x ≡ u = cc in
    let r : xs ++ ys ≡ us ++ vs = cc in
    let both = append_apart xs ys us vs (omega arith) r in
    (ap₂ ◌∷◌ h both.0, both.1)

occurs_append : (i : ℕ) (ps vs : List Tree) → occurs_in i (ps ++ vs) ≡ (occurs_in i ps || occurs_in i vs)
occurs_append i [] vs = refl
occurs_append i (p ∷ ps) vs = ap (λ b. occurs i p || b) (occurs_append i ps vs) ∙ sym (or_assoc (occurs i p) (occurs_in i ps) (occurs_in i vs))

-- first patterns, and others after them

pub matches_append : (σ τ ρ : Assignment) (ps ts vs ws : List Tree) → Matches σ ps ts τ → Matches τ vs ws ρ → Matches σ (ps ++ vs) (ts ++ ws) ρ
matches_append σ τ ρ ps ts vs ws m n = record {
  extends = λ i u e. n.extends i u (m.extends i u e);
  names = λ i.
      n.names i ∙ ap (λ b. b || occurs_in i vs) (m.names i) ∙ or_assoc (is_some (σ i)) (occurs_in i ps) (occurs_in i vs) ∙ ap (λ b. is_some (σ i) || b) (sym (occurs_append i ps vs));
  equal =
      map-append (put ρ) ps vs ∙ ap₂ ◌++◌ (more_put τ ρ ps n.extends (λ i o. m.names i ∙ or_second (is_some (σ i)) (occurs_in i ps) o) ∙ m.equal) n.equal;
}

module _ (σ ρ : Assignment) (ps ts vs ws : List Tree) (same : length ps ≡ length ts) (m : Matches σ (ps ++ vs) (ts ++ ws) ρ) where
  abbrev keep : ℕ → Bool
  keep i = is_some (σ i) || occurs_in i ps

  abbrev pub amid : Assignment
  amid i = if keep i then ρ i else None

  all_named : (i : ℕ) → is_some (ρ i) ≡ (keep i || occurs_in i vs)
  all_named i = m.names i ∙ ap (λ b. is_some (σ i) || b) (occurs_append i ps vs) ∙ sym (or_assoc (is_some (σ i)) (occurs_in i ps) (occurs_in i vs))

  amid_some : (i : ℕ) → is_some (amid i) ≡ keep i
  amid_some i = by (keep i) refl
    where
      by : (b : Bool) → keep i ≡ b → is_some (if b then ρ i else None) ≡ b
      by true q = all_named i ∙ ap (λ b. b || occurs_in i vs) q
      by false q = refl

  amid_more : (i : ℕ) (u : Tree) → amid i ≡ Some u → ρ i ≡ Some u
  amid_more i u = by (keep i)
    where
      by : (b : Bool) → (if b then ρ i else None) ≡ Some u → ρ i ≡ Some u
      by true q = q
      by false q = absurd (none-some u q)

  length_put : (qs : List Tree) → length (map (put ρ) qs) ≡ length qs
  length_put [] = refl
  length_put (q ∷ qs) = ap suc (length_put qs)

  apart : (map (put ρ) ps ≡ ts) × (map (put ρ) vs ≡ ws)
  apart = append_apart (map (put ρ) ps) (map (put ρ) vs) ts ws (length_put ps ∙ same) (sym (map-append (put ρ) ps vs) ∙ m.equal)

  pub matches_first : Matches σ ps ts amid
  matches_first = record {
    extends = λ i u e. ap (λ b. if b then ρ i else None) (ap (λ o. is_some o || occurs_in i ps) e) ∙ m.extends i u e;
    names = amid_some;
    equal = put_list_agree amid ρ ps (λ j o. ap (λ b. if b then ρ j else None) (or_second (is_some (σ j)) (occurs_in j ps) o)) ∙ apart.0;
  }

  pub matches_rest : Matches amid vs ws ρ
  matches_rest = record {
    extends = amid_more;
    names = λ i. all_named i ∙ ap (λ b. b || occurs_in i vs) (sym (amid_some i));
    equal = apart.1;
  }

pub leads_trans : (σ τ υ : Assignment) (ps ts qs us vs ws : List Tree) → Leads σ ps ts τ qs us → Leads τ qs us υ vs ws → Leads σ ps ts υ vs ws
leads_trans σ τ υ ps ts qs us vs ws a b = record { fwd = λ ρ m. a.fwd ρ (b.fwd ρ m); back = λ ρ m. b.back ρ (a.back ρ m) }

pub leads_behind : (σ τ : Assignment) (ps ts qs us vs ws : List Tree) → length ps ≡ length ts → length qs ≡ length us → Leads σ ps ts τ qs us → Leads σ (ps ++ vs) (ts ++ ws) τ (qs ++ vs) (us ++ ws)
leads_behind σ τ ps ts qs us vs ws p q l = record {
  fwd = λ ρ m. matches_append σ (amid τ ρ qs us vs ws q m) ρ ps ts vs ws (l.fwd (amid τ ρ qs us vs ws q m) (matches_first τ ρ qs us vs ws q m)) (matches_rest τ ρ qs us vs ws q m);
  back = λ ρ m. matches_append τ (amid σ ρ ps ts vs ws p m) ρ qs us vs ws (l.back (amid σ ρ ps ts vs ws p m) (matches_first σ ρ ps ts vs ws p m)) (matches_rest σ ρ ps ts vs ws p m);
}

pub leads_here : (σ τ : Assignment) (ps ts : List Tree) → Matches σ ps ts τ → Leads σ ps ts τ [] []
leads_here σ τ ps ts m = record {
  fwd = λ ρ n. subst (λ (z : Assignment). Matches σ ps ts z) (matches_unique τ [] [] τ ρ (matches_nil τ) n) m;
  back = λ ρ n. subst (λ (z : Assignment). Matches τ [] [] z) (matches_unique σ ps ts τ ρ m n) (matches_nil τ);
}

-- as many trees as patterns

count_from : (i : ℕ) (ps us : Trees) → count_of ps ≡ count_of us → length (to_list (from i ps)) ≡ length (to_list (from i us))
count_from zero NoTree NoTree e = refl
count_from zero NoTree (More u us) e = absurd (omega arith)
count_from zero (More p ps) NoTree e = absurd (omega arith)
count_from zero (More p ps) (More u us) e = ap suc (count_from zero ps us (omega arith))
count_from (suc i) NoTree NoTree e = refl
count_from (suc i) NoTree (More u us) e = absurd (omega arith)
count_from (suc i) (More p ps) NoTree e = absurd (omega arith)
count_from (suc i) (More p ps) (More u us) e = count_from i ps us (omega arith)

pub even_of : (t : Terms) (s : Slots) (w : Task) → IsLive t s w → length (patterns_of t.trees w) ≡ length (terms_of t.trees w)
even_of t s (task.Pair p u) h = refl
even_of t s (task.Args p u next count) h = count_from next (arguments_of (tree_at t.trees p)) (arguments_of (tree_at t.trees u)) (h.count ∙ sym h.same)
even_of t s (task.Done p u) h = refl

pub even_left : (t : Terms) (s : Slots) (ws : List Task) → AreLive t s ws → length (patterns_left t.trees ws) ≡ length (terms_left t.trees ws)
even_left t s [] h = refl
even_left t s (w ∷ ws) h =
    let one : length (patterns_of t.trees w) ≡ length (terms_of t.trees w) = even_of t s w h.0 in
    let more : length (patterns_left t.trees ws) ≡ length (terms_left t.trees ws) = even_left t s ws h.1 in
    length-append (patterns_of t.trees w) (patterns_left t.trees ws) ∙ ap₂ ◌+◌ one more ∙ sym (length-append (terms_of t.trees w) (terms_left t.trees ws))

-- several tasks in front of others

pub patterns_append : (ts : List Tree) (xs ys : List Task) → patterns_left ts (xs ++ ys) ≡ patterns_left ts xs ++ patterns_left ts ys
patterns_append ts [] ys = refl
patterns_append ts (x ∷ xs) ys = ap (λ zs. patterns_of ts x ++ zs) (patterns_append ts xs ys) ∙ sym (append_assoc (patterns_of ts x) (patterns_left ts xs) (patterns_left ts ys))

pub terms_append : (ts : List Tree) (xs ys : List Task) → terms_left ts (xs ++ ys) ≡ terms_left ts xs ++ terms_left ts ys
terms_append ts [] ys = refl
terms_append ts (x ∷ xs) ys = ap (λ zs. terms_of ts x ++ zs) (terms_append ts xs ys) ∙ sym (append_assoc (terms_of ts x) (terms_left ts xs) (terms_left ts ys))

pub weights_append : (ts : List Tree) (xs ys : List Task) → weights ts (xs ++ ys) ≡ weights ts xs + weights ts ys
weights_append ts [] ys = omega arith
weights_append ts (x ∷ xs) ys = let h = weights_append ts xs ys in omega (arith, h)

pub closes_append : (ts : List Tree) (σ : Assignment) (ps us : List Tree) (xs ys : List Task) → Closes ts σ ps us xs → Closes ts σ (ps ++ patterns_left ts xs) (us ++ terms_left ts xs) ys → Closes ts σ ps us (xs ++ ys)
closes_append ts σ ps us [] ys h g = subst (λ (qs : List Tree). Closes ts σ qs us ys) (append-nil ps) (subst (λ (vs : List Tree). Closes ts σ (ps ++ []) vs ys) (append-nil us) g)
closes_append ts σ ps us (x ∷ xs) ys h g = (
  h.0,
  closes_append ts σ (ps ++ patterns_of ts x) (us ++ terms_of ts x) xs ys h.1
      (subst (λ (qs : List Tree). Closes ts σ qs ((us ++ terms_of ts x) ++ terms_left ts xs) ys) (sym (append_assoc ps (patterns_of ts x) (patterns_left ts xs)))
      (subst (λ (vs : List Tree). Closes ts σ (ps ++ (patterns_of ts x ++ patterns_left ts xs)) vs ys) (sym (append_assoc us (terms_of ts x) (terms_left ts xs))) g)),
)

-- what closes the tasks after patterns does so after others that lead there
pub closes_on : (t : Terms) (s : Slots) (σ τ : Assignment) (ps us qs vs : List Tree) → length qs ≡ length vs → ((ρ : Assignment) → Matches τ qs vs ρ → Matches σ ps us ρ) → (ws : List Task) → AreLive t s ws → Closes t.trees σ ps us ws → Closes t.trees τ qs vs ws
closes_on t s σ τ ps us qs vs same f [] live h = tt
closes_on t s σ τ ps us qs vs same f (w ∷ ws) live h = (one w h.0, closes_on t s σ τ (ps ++ patterns_of t.trees w) (us ++ terms_of t.trees w) (qs ++ patterns_of t.trees w) (vs ++ terms_of t.trees w) even next ws live.1 h.1)
  where
    one : (w : Task) → ClosesOne t.trees σ ps us w → ClosesOne t.trees τ qs vs w
    one (task.Pair p u) g = tt
    one (task.Args p u i n) g = tt
    one (task.Done p u) g = λ ρ m. g ρ (f ρ m)

    even : length (qs ++ patterns_of t.trees w) ≡ length (vs ++ terms_of t.trees w)
    even = length-append qs (patterns_of t.trees w) ∙ ap₂ ◌+◌ same (even_of t s w live.0) ∙ sym (length-append vs (terms_of t.trees w))

    next : (ρ : Assignment) → Matches τ (qs ++ patterns_of t.trees w) (vs ++ terms_of t.trees w) ρ → Matches σ (ps ++ patterns_of t.trees w) (us ++ terms_of t.trees w) ρ
    next ρ m =
        let between = amid τ ρ qs vs (patterns_of t.trees w) (terms_of t.trees w) same m in
        matches_append σ between ρ ps us (patterns_of t.trees w) (terms_of t.trees w) (f between (matches_first τ ρ qs vs (patterns_of t.trees w) (terms_of t.trees w) same m)) (matches_rest τ ρ qs vs (patterns_of t.trees w) (terms_of t.trees w) same m)

live_one : (t : Terms) (old new : Slots) → length new.values ≡ length old.values → (w : Task) → IsLive t old w → IsLive t new w
live_one t old new e (task.Pair p u) h = record { pattern = h.pattern; term = h.term; room = λ i o. let l = h.room i o in omega (arith, l, e) }
live_one t old new e (task.Args p u i n) h = record { pattern = h.pattern; term = h.term; count = h.count; same = h.same; room = λ i o. let l = h.room i o in omega (arith, l, e) }
live_one t old new e (task.Done p u) h = tt

pub live_still : (t : Terms) (old new : Slots) → length new.values ≡ length old.values → (ws : List Task) → AreLive t old ws → AreLive t new ws
live_still t old new e [] h = tt
live_still t old new e (w ∷ ws) h = (live_one t old new e w h.0, live_still t old new e ws h.1)

live_append : (t : Terms) (s : Slots) (xs ys : List Task) → AreLive t s xs → AreLive t s ys → AreLive t s (xs ++ ys)
live_append t s [] ys h g = g
live_append t s (x ∷ xs) ys h g = (h.0, live_append t s xs ys h.1 g)

-- a task that is done leaves what leads on
pub left_still : (n : ℕ) (t : Terms) (first : Slots) (ps us : List Tree) (old new : Slots) (whole before after : ToDo) (w : Task) → whole.tasks ≡ w ∷ before.tasks → before.room ≡ whole.room → length new.values ≡ length old.values → AreLeft t first ps us old whole → Becomes n t old w before new after → AreLeft t first ps us new after
left_still n t first ps us old new whole before after w e r same l b =
    let ts = t.trees in
    let live : AreLive t old (w ∷ before.tasks) = subst (AreLive t old) e l.live in
    let now : AreLive t new before.tasks = live_still t old new same before.tasks live.1 in
    let from_first : Leads (held ts first) ps us (held ts old) (patterns_left ts (w ∷ before.tasks)) (terms_left ts (w ∷ before.tasks)) = subst (λ (ws : List Task). Leads (held ts first) ps us (held ts old) (patterns_left ts ws) (terms_left ts ws)) e l.leads in
    let on : Leads (held ts first) ps us (held ts new) (patterns_left ts b.more ++ patterns_left ts before.tasks) (terms_left ts b.more ++ terms_left ts before.tasks) =
    leads_trans _ _ _ _ _ _ _ _ _ from_first (leads_behind (held ts old) (held ts new) (patterns_of ts w) (terms_of ts w) (patterns_left ts b.more) (terms_left ts b.more) (patterns_left ts before.tasks) (terms_left ts before.tasks) (even_of t old w live.0) (even_left t new b.more b.live) b.leads) in
    let closed : Closes ts (held ts old) [] [] (w ∷ before.tasks) = subst (Closes ts (held ts old) [] []) e l.closes in
    let closes : Closes ts (held ts new) (patterns_left ts b.more) (terms_left ts b.more) before.tasks = closes_on t new (held ts old) (held ts new) (patterns_of ts w) (terms_of ts w) (patterns_left ts b.more) (terms_left ts b.more) (even_left t new b.more b.live) b.leads.fwd before.tasks now closed.1 in
    let fits : HaveRoom ts whole.room (w ∷ before.tasks) = subst (HaveRoom ts whole.room) e l.room in
    record {
      live = subst (AreLive t new) (sym b.tasks) (live_append t new b.more before.tasks b.live now);
      leads = subst (λ (ws : List Task). Leads (held ts first) ps us (held ts new) (patterns_left ts ws) (terms_left ts ws)) (sym b.tasks) (subst (λ (qs : List Tree). Leads (held ts first) ps us (held ts new) qs (terms_left ts (b.more ++ before.tasks))) (sym (patterns_append ts b.more before.tasks)) (subst (λ (vs : List Tree). Leads (held ts first) ps us (held ts new) (patterns_left ts b.more ++ patterns_left ts before.tasks) vs) (sym (terms_append ts b.more before.tasks)) on));
      closes = subst (Closes ts (held ts new) [] []) (sym b.tasks) (closes_append ts (held ts new) [] [] b.more before.tasks b.closes closes);
      room = subst (λ (k : ℕ). HaveRoom ts k after.tasks) (sym b.room) (b.fits (subst (λ (k : ℕ). HaveRoom ts k before.tasks) (sym r) fits.1));
    }

-- and is less
pub less_left : (n : ℕ) (t : Terms) (old new : Slots) (whole before after : ToDo) (w : Task) → whole.tasks ≡ w ∷ before.tasks → Becomes n t old w before new after → weights t.trees after.tasks < weights t.trees whole.tasks
less_left n t old new whole before after w e b =
    let ts = t.trees in
    let now : weights ts after.tasks ≡ weights ts b.more + weights ts before.tasks = ap (weights ts) b.tasks ∙ weights_append ts b.more before.tasks in
    let full : weights ts whole.tasks ≡ weight ts w + weights ts before.tasks = ap (weights ts) e in
    omega (arith, now, full, b.less)

-- where nothing does a task, nothing does what led there
pub nothing_left : (t : Terms) (first : Slots) (ps us : List Tree) (old : Slots) (whole before : ToDo) (w : Task) → whole.tasks ≡ w ∷ before.tasks → AreLeft t first ps us old whole → IsRefused t old w → (ρ : Assignment) → Matches (held t.trees first) ps us ρ → ⊥
nothing_left t first ps us old whole before w e l n ρ m =
    let ts = t.trees in
    let live : AreLive t old (w ∷ before.tasks) = subst (AreLive t old) e l.live in
    let all : Matches (held ts old) (patterns_of ts w ++ patterns_left ts before.tasks) (terms_of ts w ++ terms_left ts before.tasks) ρ = subst (λ (ws : List Task). Matches (held ts old) (patterns_left ts ws) (terms_left ts ws) ρ) e (l.leads.back ρ m) in
    let same = even_of t old w live.0 in
    n (amid (held ts old) ρ (patterns_of ts w) (terms_of ts w) (patterns_left ts before.tasks) (terms_left ts before.tasks) same all) (matches_first (held ts old) ρ (patterns_of ts w) (terms_of ts w) (patterns_left ts before.tasks) (terms_left ts before.tasks) same all)

-- what a task becomes

-- room for what comes in place of a pattern that has a part
pub room_inside : (n h k r : ℕ) → n + 2 * h ≤ r + 2 → 1 ≤ k → k < h → n + 1 < r
room_inside n h k r l a b = omega (arith, l, a, b)

pub done_becomes : (n : ℕ) (t : Terms) (old new : Slots) (w : Task) (before : ToDo) → Leads (held t.trees old) (patterns_of t.trees w) (terms_of t.trees w) (held t.trees new) [] [] → ((i : ℕ) (u : Tree) → held t.trees old i ≡ Some u → held t.trees new i ≡ Some u) → n < weight t.trees w → Becomes n t old w before new before
done_becomes n t old new w before l more less = record {
  extends = more;
  more = [];
  tasks = refl;
  room = refl;
  live = tt;
  leads = l;
  closes = tt;
  fits = λ h. h;
  less = omega (arith, less);
}

pub one_becomes : (t : Terms) (s : Slots) (p u q v : ℕ) (before after : ToDo) → IsPair t s p u → IsOne t.trees p u q v → after.tasks ≡ task.Pair q v ∷ before.tasks → after.room ≡ before.room → length before.tasks + 2 * height (tree_at t.trees p) ≤ before.room + 2 → Becomes 1 t s (task.Pair p u) before s after
one_becomes t s p u q v before after pair one e r room =
    let ts = t.trees in
    let low : height (tree_at ts q) < height (tree_at ts p) = one.part.lower in
    let small : size (tree_at ts q) < size (tree_at ts p) = one.smaller in
    record {
      more = task.Pair q v ∷ [];
      tasks = e;
      room = r;
      live = (record { pattern = let a : q < p = one.part.older in let b : p < length ts = pair.pattern in omega (arith, a, b); term = one.term; room = λ i o. pair.room i (one.part.pars i o) }, tt);
      leads = one.leads (held ts s);
      closes = (tt, tt);
      extends = λ i x d. d;
      fits = λ h. subst (HaveRoom ts before.room) (sym e) (omega (arith, low, room), h);
      less = omega (arith, small);
    }

pub two_becomes : (t : Terms) (s : Slots) (p u q v j w : ℕ) (before after : ToDo) → IsPair t s p u → IsTwo t.trees p u q j v w → after.tasks ≡ task.Pair q v ∷ (task.Pair j w ∷ before.tasks) → after.room ≡ before.room → length before.tasks + 2 * height (tree_at t.trees p) ≤ before.room + 2 → Becomes 1 t s (task.Pair p u) before s after
two_becomes t s p u q v j w before after pair two e r room =
    let ts = t.trees in
    let low : height (tree_at ts q) < height (tree_at ts p) = two.first.lower in
    let other : height (tree_at ts j) < height (tree_at ts p) = two.second.lower in
    let small : size (tree_at ts q) + size (tree_at ts j) < size (tree_at ts p) = two.smaller in
    let whole : p < length ts = pair.pattern in
    let a : q < p = two.first.older in
    let b : j < p = two.second.older in
    record {
      more = task.Pair q v ∷ (task.Pair j w ∷ []);
      tasks = e;
      room = r;
      live = (record { pattern = omega (arith, a, whole); term = two.term; room = λ i o. pair.room i (two.first.pars i o) }, (record { pattern = omega (arith, b, whole); term = two.other_term; room = λ i o. pair.room i (two.second.pars i o) }, tt));
      leads = two.leads (held ts s);
      closes = (tt, (tt, tt));
      extends = λ x y z. z;
      fits = λ h. subst (HaveRoom ts before.room) (sym e) (omega (arith, low, room), (omega (arith, other, room), h));
      less = omega (arith, small);
    }

pub args_become : (t : Terms) (s : Slots) (p u n : ℕ) (before after : ToDo) → IsPair t s p u → IsArgs t.trees p u n → after.tasks ≡ task.Args p u 0 n ∷ before.tasks → after.room ≡ before.room → length before.tasks + 2 * height (tree_at t.trees p) ≤ before.room + 2 → Becomes 1 t s (task.Pair p u) before s after
args_become t s p u n before after pair args e r room =
    let ts = t.trees in
    let small : size_all (arguments_of (tree_at ts p)) < size (tree_at ts p) = args.smaller in
    record {
      more = task.Args p u 0 n ∷ [];
      tasks = e;
      room = r;
      live = (record { pattern = pair.pattern; term = pair.term; count = args.count; same = args.same; room = λ i o. pair.room i (args.pars i o) }, tt);
      leads = leads_at _ _ _ _ _ _ _ _ (sym (append-nil (to_list (arguments_of (tree_at ts p))))) (sym (append-nil (to_list (arguments_of (tree_at ts u))))) (args.leads (held ts s));
      closes = (tt, tt);
      extends = λ i x d. d;
      fits = λ h. subst (HaveRoom ts before.room) (sym e) (room, h);
      less = omega (arith, small);
    }

-- the argument at a place, and then those after it
pub next_becomes : (t : Terms) (s : Slots) (p u i n a b : ℕ) (before after : ToDo) → ArePairs t s p u n → i < n → (ps us : Trees) → arguments_of (tree_at t.trees p) ≡ ps → arguments_of (tree_at t.trees u) ≡ us → from i ps ≡ More (argument_at ps i) (from (i + 1) ps) → from i us ≡ More (argument_at us i) (from (i + 1) us) → tree_at t.trees a ≡ argument_at ps i → tree_at t.trees b ≡ argument_at us i → a < p → b < u → after.tasks ≡ task.Pair a b ∷ (task.Args p u (i + 1) n ∷ before.tasks) → after.room ≡ before.room → length before.tasks + 2 * height (tree_at t.trees p) ≤ before.room + 2 → Becomes 0 t s (task.Args p u i n) before s after
next_becomes t s p u i n a b before after pairs l ps us d g f h ea eb la lb e r room =
    let ts = t.trees in
    let within : i < count_of (arguments_of (tree_at ts p)) = omega (arith, l, pairs.count) in
    let low_there : height (argument_at (arguments_of (tree_at ts p)) i) < height (tree_at ts p) = argument_below (tree_at ts p) i within in
    let same_height : height (tree_at ts a) ≡ height (argument_at (arguments_of (tree_at ts p)) i) = ap height (ea ∙ ap (λ zs. argument_at zs i) (sym d)) in
    let q : to_list (from i (arguments_of (tree_at ts p))) ≡ tree_at ts a ∷ to_list (from (i + 1) (arguments_of (tree_at ts p))) =
    ap (λ zs. to_list (from i zs)) d ∙ ap to_list f ∙ ap (λ z. z ∷ to_list (from (i + 1) ps)) (sym ea) ∙ ap (λ zs. tree_at ts a ∷ to_list (from (i + 1) zs)) (sym d) in
    let v : to_list (from i (arguments_of (tree_at ts u))) ≡ tree_at ts b ∷ to_list (from (i + 1) (arguments_of (tree_at ts u))) =
    ap (λ zs. to_list (from i zs)) g ∙ ap to_list h ∙ ap (λ z. z ∷ to_list (from (i + 1) us)) (sym eb) ∙ ap (λ zs. tree_at ts b ∷ to_list (from (i + 1) zs)) (sym g) in
    let sizes : size_all (from i (arguments_of (tree_at ts p))) ≡ 1 + (size (tree_at ts a) + size_all (from (i + 1) (arguments_of (tree_at ts p)))) =
    ap (λ zs. size_all (from i zs)) d ∙ ap size_all f ∙ ap (λ z. 1 + (size z + size_all (from (i + 1) ps))) (sym ea) ∙ ap (λ zs. 1 + (size (tree_at ts a) + size_all (from (i + 1) zs))) (sym d) in
    let whole : p < length ts = pairs.pattern in
    let other : u < length ts = pairs.term in
    record {
      more = task.Pair a b ∷ (task.Args p u (i + 1) n ∷ []);
      tasks = e;
      room = r;
      live = (record { pattern = omega (arith, la, whole); term = omega (arith, lb, other); room = λ k o. pairs.room k (argument_occurs k (arguments_of (tree_at ts p)) i within (ap (occurs k) (ap (λ zs. argument_at zs i) d ∙ sym ea) ∙ o)) }, (pairs, tt));
      leads = leads_at _ _ _ _ _ _ _ _ (q ∙ ap (λ zs. tree_at ts a ∷ zs) (sym (append-nil (to_list (from (i + 1) (arguments_of (tree_at ts p))))))) (v ∙ ap (λ zs. tree_at ts b ∷ zs) (sym (append-nil (to_list (from (i + 1) (arguments_of (tree_at ts u))))))) (leads_refl (held ts s) (to_list (from i (arguments_of (tree_at ts p)))) (to_list (from i (arguments_of (tree_at ts u)))));
      closes = (tt, (tt, tt));
      extends = λ x y z. z;
      fits = λ k. subst (HaveRoom ts before.room) (sym e) (omega (arith, low_there, same_height, room), (room, k));
      less = omega (arith, sizes);
    }

-- no arguments are left
pub end_becomes : (t : Terms) (s : Slots) (p u i n : ℕ) (before : ToDo) → from i (arguments_of (tree_at t.trees p)) ≡ NoTree → from i (arguments_of (tree_at t.trees u)) ≡ NoTree → Becomes 0 t s (task.Args p u i n) before s before
end_becomes t s p u i n before e g =
    let ts = t.trees in
    let one : size_all (from i (arguments_of (tree_at ts p))) ≡ 1 = ap size_all e in
    done_becomes 0 t s s (task.Args p u i n) before (leads_at _ _ _ _ _ _ _ _ (ap to_list e) (ap to_list g) (leads_refl (held ts s) (to_list (from i (arguments_of (tree_at ts p)))) (to_list (from i (arguments_of (tree_at ts u)))))) (λ x y z. z) (omega (arith, one))

-- a pair that is kept, once all that it became is done
pub tall_becomes : (t : Terms) (old new : Slots) (p u : ℕ) (before amidst after : ToDo) → amidst.tasks ≡ task.Done p u ∷ before.tasks → amidst.room ≡ before.room → length before.tasks + 2 * height (tree_at t.trees p) ≤ before.room + 1 → Becomes 1 t old (task.Pair p u) amidst new after → Becomes 0 t old (task.Pair p u) before new after
tall_becomes t old new p u before amidst after e r room b =
    let ts = t.trees in
    let some : 1 ≤ height (tree_at ts p) = height_some (tree_at ts p) in
    let all : weights ts (b.more ++ task.Done p u ∷ []) ≡ weights ts b.more + (1 + 0) = weights_append ts b.more (task.Done p u ∷ []) in
    record {
      more = b.more ++ task.Done p u ∷ [];
      tasks = b.tasks ∙ ap (λ ws. b.more ++ ws) e ∙ sym (append_assoc b.more (task.Done p u ∷ []) before.tasks);
      room = b.room ∙ r;
      live = live_append t new b.more (task.Done p u ∷ []) b.live (tt, tt);
      leads = leads_at _ _ _ _ _ _ _ _ (sym (patterns_append ts b.more (task.Done p u ∷ []) ∙ append-nil (patterns_left ts b.more))) (sym (terms_append ts b.more (task.Done p u ∷ []) ∙ append-nil (terms_left ts b.more))) b.leads;
      closes = closes_append ts (held ts new) [] [] b.more (task.Done p u ∷ []) b.closes (λ ρ m. matches_again (held ts old) ρ (tree_at ts p) (tree_at ts u) (b.leads.fwd ρ m), tt);
      fits = λ h. subst (λ k. HaveRoom ts k after.tasks) r (b.fits (subst (λ k. HaveRoom ts k amidst.tasks) (sym r) (subst (HaveRoom ts before.room) (sym e) (omega (arith, some, room), h))));
      extends = b.extends;
      less = let l : weights ts b.more + 1 < weight ts (task.Pair p u) = b.less in omega (arith, l, all);
    }

pub less_becomes : (t : Terms) (old new : Slots) (w : Task) (before after : ToDo) → Becomes 1 t old w before new after → Becomes 0 t old w before new after
less_becomes t old new w before after b = record { more = b.more; tasks = b.tasks; room = b.room; live = b.live; leads = b.leads; closes = b.closes; fits = b.fits; extends = b.extends; less = let l = b.less in omega (arith, l) }

-- the first task, and the end

pub begin_left : (t : Terms) (s : Slots) (p u : ℕ) (todo : ToDo) → IsPair t s p u → todo.tasks ≡ task.Pair p u ∷ [] → 2 * height (tree_at t.trees p) ≤ todo.room → AreLeft t s (tree_at t.trees p ∷ []) (tree_at t.trees u ∷ []) s todo
begin_left t s p u todo pair e room =
    let ts = t.trees in
    record {
      live = subst (AreLive t s) (sym e) (pair, tt);
      leads = subst (λ (ws : List Task). Leads (held ts s) (tree_at ts p ∷ []) (tree_at ts u ∷ []) (held ts s) (patterns_left ts ws) (terms_left ts ws)) (sym e) (leads_refl (held ts s) (tree_at ts p ∷ []) (tree_at ts u ∷ []));
      closes = subst (Closes ts (held ts s) [] []) (sym e) (tt, tt);
      room = subst (HaveRoom ts todo.room) (sym e) (omega (arith, room), tt);
    }

pub end_left : (t : Terms) (first : Slots) (ps us : List Tree) (now : Slots) (todo : ToDo) → todo.tasks ≡ [] → AreLeft t first ps us now todo → Matches (held t.trees first) ps us (held t.trees now)
end_left t first ps us now todo e l =
    let ts = t.trees in
    (subst (λ (ws : List Task). Leads (held ts first) ps us (held ts now) (patterns_left ts ws) (terms_left ts ws)) e l.leads).fwd (held ts now) (matches_nil (held ts now))

-- what the task that is taken needs
pub next_live : (t : Terms) (first : Slots) (ps us : List Tree) (now : Slots) (todo : ToDo) (w : Task) (ws : List Task) → todo.tasks ≡ w ∷ ws → AreLeft t first ps us now todo → IsLive t now w
next_live t first ps us now todo w ws e l = (subst (AreLive t now) e l.live).0

pub next_closes : (t : Terms) (first : Slots) (ps us : List Tree) (now : Slots) (todo : ToDo) (w : Task) (ws : List Task) → todo.tasks ≡ w ∷ ws → AreLeft t first ps us now todo → ClosesOne t.trees (held t.trees now) [] [] w
next_closes t first ps us now todo w ws e l = (subst (Closes t.trees (held t.trees now) [] []) e l.closes).0

pub next_room : (t : Terms) (first : Slots) (ps us : List Tree) (now : Slots) (todo : ToDo) (w : Task) (ws : List Task) → todo.tasks ≡ w ∷ ws → AreLeft t first ps us now todo → length ws + takes t.trees w ≤ todo.room + 2
next_room t first ps us now todo w ws e l = (subst (HaveRoom t.trees todo.room) e l.room).0

-- an operator with parameters has an argument
pub open_operator : (c : OpCode) (ts : Trees) → is_closed (Op c ts) ≡ false → 1 < height (Op c ts)
open_operator c NoTree h = absurd (true≢false h)
open_operator c (More t ts) h = let some = height_some t in omega (arith, some)
