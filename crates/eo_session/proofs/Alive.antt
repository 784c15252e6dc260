-- The terms that are alive: those before the mark of what is kept.
use Rattle.std.proofs.Common.{◌≡◌, ◌≢◌, refl, sym, ap, subst, ◌∙◌, ℕ, zero, suc, ◌<◌, ◌≤◌, List, [], ◌∷◌, ◌++◌, length, map, take, drop, get_or, Contains, All, arith}
use Rattle.std.specs.Prelude.{flat_map, Decides}
use Rattle.std.proofs.Math.Seq.{take-length}
use Rattle.std.proofs.lemmas.List.{length-take-le, take-take, take-append-le, take-append-drop, get_or-take}
use Rattle.std.proofs.lemmas.List.Elements.{All-nil, All-cons, All-append, All-weaker, All-contains, All-contains_itself, Contains-get_or}
use Rattle.eo_term.specs.Growth.{IsTable, tree_in}
use Rattle.eo_term.specs.Terms.{Terms, Since, IsMark, AreApart, HaveOlderParts, HasPartsAmong, HasTextsOf, tree_at, text_at, first_trees}
use Rattle.eo_term.specs.Tree.{Tree, Con, IsSubtree, subtrees, tree_eq}
use Rattle.eo_term.specs.Carry.{Carried}
use Rattle.eo_sig.specs.declared.records.MacroDecl.{MacroDecl}
use Rattle.eo_sig.specs.Growth.{StaysSince}
use Rattle.eo_sig.specs.Reading.{Kept, signature, macros, constants_of, IsBelow, first_kept}
use Rattle.eo_proof.specs.declared.facts.Begun.{Begun}
use Rattle.eo_proof.specs.Kept as fact
use Rattle.eo_proof.specs.Kept.{NamedId, scopes, with_named, with_begun, without_begun, AreBegun, AreBelow}
use Rattle.eo_session.specs.declared.store.Store.{Store}
use Rattle.eo_reclaim.specs.declared.ScopeMark.{ScopeMark}
use Rattle.eo_session.specs.Store.{state_of, macro_marks, Holding, holding, cut, outside, roots_in, HoldsOnly, IsExact, AreExact, AreMarked, AreMarks, IsLive}
use Rattle.eo_session.specs.Roots.{roots, roots_of, live_count}
use Rattle.eo_session.proofs.Counting.{first, count_is}
use Rattle.eo_session.proofs.Members.{in_flat, more_flat, in_front, all_among}
use Rattle.eo_session.proofs.Rooted.{of_roots}
use Rattle.eo_session.proofs.Scoping.{map_grown, scopes_grown}
use Rattle.eo_base.proofs.Elements.{contains_later}

-- ---- tables that have grown from one

-- a table has grown from one that is cut to its first n terms and m texts
pub grown_cut : (c t : Terms) (n m : ℕ) → c.trees ≡ take n t.trees → c.texts ≡ take m t.texts → n ≤ length t.trees → m ≤ length t.texts → Since c t
grown_cut c t n m p q a b =
    let few = ap length p ∙ length-take-le n t.trees a in
    let short = ap length q ∙ length-take-le m t.texts b in
    record {
      trees = ap (λ k. take k t.trees) few ∙ sym p;
      texts = ap (λ k. take k t.texts) short ∙ sym q;
      more_trees = omega (arith, few, a);
      more_texts = omega (arith, short, b);
      tree = λ i h. sym (ap (λ (us : List Tree). tree_at us i) p ∙ get_or-take n t.trees i (Con 0) (omega (arith, h, few)));
      text = λ i h. sym (ap (λ (us : List (List ℕ)). text_at us i) q ∙ get_or-take m t.texts i [] (omega (arith, h, short)));
      marks = λ k mark. record {
        first = mark.first;
        terms = omega (arith, mark.terms, few, a);
        texts = omega (arith, mark.texts, short, b);
        among =
            subst (λ (us : List (List ℕ)). All (HasTextsOf us) (take k.0 t.trees)) (ap (take k.1) q ∙ take-take k.1 m t.texts (omega (arith, mark.texts, short)))
            (subst (All (HasTextsOf (take k.1 c.texts))) (ap (take k.0) p ∙ take-take k.0 n t.trees (omega (arith, mark.terms, few))) mark.among);
      };
    }

-- the first n terms of a table
abbrev pub front : ℕ → Terms → Terms
front n t = record { trees = take n t.trees; texts = t.texts }

pub grown_front : (n : ℕ) (t : Terms) → n ≤ length t.trees → Since (front n t) t
grown_front n t within = grown_cut (front n t) t n (length t.texts) refl (sym (take-length t.texts)) within (omega arith)

-- the trees that are held, over those of a table
abbrev pub over : List Tree → Kept → List ℕ → fact.Kept → List Tree
over ts sg xs fs = roots_of (signature ts sg) (macros ts sg) (map (tree_at ts) xs) (scopes ts fs)

pub roots_read : (c t : Terms) → Since c t → ((k : Kept) → StaysSince k) → (sg : Kept) (xs : List ℕ) (fs : fact.Kept) → IsBelow (length c.trees) sg → All (λ i. i < length c.trees) xs → AreBelow (length c.trees) fs
    → over t.trees sg xs fs ≡ over c.trees sg xs fs
roots_read c t since stays sg xs fs s a f =
    let k = stays sg c t s since in
    let ids = map_grown (tree_at t.trees) (tree_at c.trees) (λ i. i < length c.trees) since.tree xs a in
    let facts = scopes_grown c.trees t.trees (length c.trees) since.tree fs f in
    (λ i. roots_of (k.signature i) (k.macros i) (ids i) (facts i))

-- the terms that are kept differ, and have older parts
front_apart : (n : ℕ) (ts : List Tree) → n ≤ length ts → AreApart ts → AreApart (take n ts)
front_apart n ts within apart = λ i j d l m.
    let few = length-take-le n ts within in
    let at : (k : ℕ) → k < n → get_or (take n ts) k d ≡ get_or ts k d = λ k h. get_or-take n ts k d h in
    subst (λ (u : Tree). get_or (take n ts) i d ≢ u) (sym (at j (omega (arith, m, few))))
    (subst (λ (u : Tree). u ≢ get_or ts j d) (sym (at i (omega (arith, l, m, few)))) (apart i j d l (omega (arith, m, few, within))))

front_older : (n : ℕ) (ts : List Tree) → n ≤ length ts → HaveOlderParts ts → HaveOlderParts (take n ts)
front_older n ts within older i l =
    let below : i < n = omega (arith, l, length-take-le n ts within) in
    subst (λ (us : List Tree). HasPartsAmong us (tree_at (take n ts) i)) (sym (take-take i n ts (omega (arith, below))))
    (subst (HasPartsAmong (take i ts)) (sym (get_or-take n ts i (Con 0) below)) (older i (omega (arith, below, within))))

-- ---- marks

pub mark_of : (t : Terms) (k : ℕ × ℕ) (ms : List ScopeMark) → AreMarked t k ms → IsMark t k
mark_of t k [] h = h
mark_of t k (m ∷ ms) h = h.0

-- marks at most n stay marks
pub marked_below : (t u : Terms) (n k : ℕ × ℕ) (ms : List ScopeMark) → k.0 ≤ n.0 → k.1 ≤ n.1 → ((m : ℕ × ℕ) → m.0 ≤ n.0 → m.1 ≤ n.1 → IsMark t m → IsMark u m) → AreMarked t k ms → AreMarked u k ms
marked_below t u n k [] a b f h = f k a b h
marked_below t u n k (m ∷ ms) a b f h = (f k a b h.0, h.1, h.2, marked_below t u n m.table ms (omega (arith, a, h.1)) (omega (arith, b, h.2)) f h.3)

pub exact_of : (x : Holding) (ms : List ScopeMark) → AreExact x ms → IsExact x
exact_of x [] h = h
exact_of x (m ∷ ms) h = h.0

-- the mark of a scope that is opened
abbrev pub own_mark : Store → ScopeMark
own_mark h = record { table = h.kept; macros = length h.signature.macros }

-- all terms and texts that there are
abbrev pub now : Terms → ℕ × ℕ
now t = (length t.trees, length t.texts)

-- ---- another table

module _ (h : Store) (live : IsLive h) where
  abbrev ts : List Tree
  ts = h.table.trees

  abbrev n : ℕ
  n = h.kept.0

  pub kept_mark : IsMark h.table h.kept
  kept_mark = mark_of h.table h.kept h.marks live.marked

  pub kept_exact : IsExact (cut n (holding h))
  kept_exact = exact_of (cut n (holding h)) h.marks live.exact

  -- a table with the same terms before the mark
  pub live_table : (t : Terms) (types : List (ℕ × ℕ)) → take n t.trees ≡ take n ts → ((m : ℕ × ℕ) → m.0 ≤ h.kept.0 → m.1 ≤ h.kept.1 → IsMark h.table m → IsMark t m) → IsLive (record h { table = t; types = types })
  live_table t types same marks = record {
    exact = subst (λ (us : List Tree). AreExact (record { trees = us; signature = h.signature; assertions = h.assertions; facts = h.facts }) h.marks) (sym same) live.exact;
    marked = marked_below h.table t h.kept h.kept h.marks (omega arith) (omega arith) marks live.marked;
    scopes = live.scopes;
  }

  pub live_grown : (t : Terms) (types : List (ℕ × ℕ)) → Since h.table t → IsLive (record h { table = t; types = types })
  live_grown t types since =
      live_table t types (sym (take-take n (length ts) t.trees kept_mark.terms) ∙ ap (take n) since.trees) (λ m a b mark. since.marks m mark)

  module _ (stays : (k : Kept) → StaysSince k) where
    count : length (take n ts) ≡ n
    count = length-take-le n ts kept_mark.terms

    roots_now : over ts h.signature h.assertions h.facts ≡ roots_in (cut n (holding h))
    roots_now = roots_read (front n h.table) h.table (grown_front n h.table kept_mark.terms) stays h.signature h.assertions h.facts kept_exact.declared kept_exact.assertions kept_exact.facts

    -- a term before the mark is alive
    pub alive_now : (u : Tree) → Contains (take n ts) u → Contains (flat_map subtrees (roots (state_of h))) u
    unfolding roots
    alive_now u c =
        subst (λ (rs : List Tree). Contains (flat_map subtrees rs) u) (sym roots_now) (All-contains (Contains (flat_map subtrees (roots_in (cut n (holding h))))) (take n ts) u kept_exact.live c)

    -- where what is after the mark is added, all terms are alive
    pub all_alive : (more rs : List Tree) → HoldsOnly more h → ((u : Tree) → Contains (roots (state_of h)) u → Contains rs u) → ((u : Tree) → Contains more u → Contains rs u) → All (Contains (flat_map subtrees rs)) ts
    all_alive more rs only kept added =
        let P : Tree → Type 0 = Contains (flat_map subtrees rs) in
        let old = All-weaker (Contains (take n ts)) P (λ u c. more_flat subtrees (roots (state_of h)) rs kept u (alive_now u c)) (take n ts) (All-contains_itself (take n ts)) in
        let new = All-weaker (Contains (flat_map subtrees more)) P (more_flat subtrees more rs added) (drop n ts) only in
        subst (All P) (take-append-drop n ts) (All-append P (take n ts) (drop n ts) old new)

    -- each constant is there
    pub constants_there : (k : ℕ) → k < length (constants_of h.signature) → Contains ts (Con k)
    constants_there k l = in_front n ts (Con k) (kept_exact.constants k l)

    pub roots_there : All (Contains ts) (roots (state_of h))
    unfolding roots
    roots_there =
        let up : n ≤ length ts = kept_mark.terms in
        subst (All (Contains ts)) (sym roots_now)
        (of_roots (take n ts) (length (take n ts)) (Contains ts) (λ i l. in_front n ts (tree_at (take n ts) i) (Contains-get_or (take n ts) i (Con 0) l)) h.signature h.assertions h.facts kept_exact.declared kept_exact.assertions kept_exact.facts constants_there)

    -- they are before the mark
    roots_before : All (Contains (take n ts)) (roots (state_of h))
    unfolding roots
    roots_before =
        subst (All (Contains (take n ts))) (sym roots_now)
        (of_roots (take n ts) (length (take n ts)) (Contains (take n ts)) (λ i l. Contains-get_or (take n ts) i (Con 0) l) h.signature h.assertions h.facts kept_exact.declared kept_exact.assertions kept_exact.facts kept_exact.constants)

    -- the mark is at as many terms as are alive
    pub count_alive : IsTable h.table → ((t u : Tree) → Decides (tree_eq t u) (t ≡ u)) → n ≡ live_count (state_of h)
    unfolding live_count
    count_alive table decides =
        sym count
        ∙ count_is decides (take n ts) (flat_map subtrees (roots (state_of h))) (front_apart n ts kept_mark.terms table.apart) alive_now
        (λ u c. all_among (take n ts) (front_older n ts kept_mark.terms table.older) (roots (state_of h)) roots_before u c)

-- ---- what is added

-- what is held, over all terms that there are
module _ (h : Store) (live : IsLive h) (mark : IsMark h.table (now h.table)) where
  abbrev all : List Tree
  all = h.table.trees

  whole_front : take (length all) all ≡ all
  whole_front = take-length all

  -- the marks of scopes are there still, after which all is kept
  pub marked_now : AreMarked h.table (now h.table) h.marks
  marked_now = by h.marks live.marked
    where
      by : (ms : List ScopeMark) → AreMarked h.table h.kept ms → AreMarked h.table (now h.table) ms
      by [] k = mark
      by (m ∷ ms) k = (mark, omega (arith, k.1, k.0.terms), omega (arith, k.2, k.0.texts), k.3)

  module _ (sg : Kept) (xs : List ℕ) (fs : fact.Kept) (exact : IsExact (record { trees = all; signature = sg; assertions = xs; facts = fs })) where
    abbrev pub added : Holding
    added = record { trees = all; signature = sg; assertions = xs; facts = fs }

    pub exact_all : IsExact (cut (length all) added)
    exact_all = subst (λ (us : List Tree). IsExact (record { trees = us; signature = sg; assertions = xs; facts = fs })) (sym whole_front) exact

    -- what was held when the innermost scope began is the same
    abbrev IsSame : List ScopeMark → Type 0
    IsSame [] = Unit {0}
    IsSame (m ∷ ms) = ◌≡◌ {A = Holding} (outside m (cut (length all) added)) (outside m (cut h.kept.0 (holding h)))

    exact_marks : (ms : List ScopeMark) → IsSame ms → AreExact (cut h.kept.0 (holding h)) ms → AreExact (cut (length all) added) ms
    exact_marks [] s e = exact_all
    exact_marks (m ∷ ms) s e = (exact_all, subst (λ (x : Holding). AreExact x ms) (sym s) e.1)

    pub live_same : IsSame h.marks → length fs.begun ≡ length h.facts.begun → IsLive (record h { signature = sg; assertions = xs; facts = fs; kept = now h.table })
    live_same s e = record { exact = exact_marks h.marks s live.exact; marked = marked_now; scopes = live.scopes ∙ sym e }

  -- the terms before the mark of a scope
  front_same : (m : ScopeMark) (ms : List ScopeMark) → AreMarked h.table h.kept (m ∷ ms) → take m.table.0 (take (length all) all) ≡ take m.table.0 (take h.kept.0 all)
  front_same m ms k =
      take-take m.table.0 (length all) all (omega (arith, k.1, k.0.terms)) ∙ sym (take-take m.table.0 h.kept.0 all k.1)

  -- facts are added
  module _ (fs : fact.Kept) (exact : IsExact (record { trees = all; signature = h.signature; assertions = h.assertions; facts = fs })) where
    pub live_facts : (0 < length h.facts.begun → without_begun fs ≡ without_begun h.facts) → length fs.begun ≡ length h.facts.begun → IsLive (record h { facts = fs; kept = now h.table })
    live_facts same count = live_same h.signature h.assertions fs exact (by h.marks live.marked live.scopes) count
      where
        by : (ms : List ScopeMark) → AreMarked h.table h.kept ms → length ms ≡ length h.facts.begun → IsSame h.signature h.assertions fs exact ms
        by [] k l = tt
        by (m ∷ ms) k l =
            (λ i. record {
              trees = front_same m ms k i;
              signature = record { entries = h.signature.entries; macros = take m.macros h.signature.macros };
              assertions = h.assertions;
              facts = same (omega (arith, l)) i;
            })

    -- a scope is opened
    pub live_begun : (f : NamedId) → fs ≡ with_begun h.facts f → (ms : List ScopeMark) → ms ≡ own_mark h ∷ h.marks → IsLive (record h { facts = fs; marks = ms; kept = now h.table })
    live_begun f is ms e =
        let own = own_mark h in
        let same : ◌≡◌ {A = Holding} (outside own (cut (length all) (added h.signature h.assertions fs exact))) (cut h.kept.0 (holding h)) =
        (λ i. record {
          trees = take-take h.kept.0 (length all) all (kept_mark h live).terms i;
          signature = record { entries = h.signature.entries; macros = take-length h.signature.macros i };
          assertions = h.assertions;
          facts = (ap without_begun is ∙ without_with h.facts f) i;
        }) in
        record {
          exact = subst (AreExact (cut (length all) (added h.signature h.assertions fs exact))) (sym e) (exact_all h.signature h.assertions fs exact, subst (λ (x : Holding). AreExact x h.marks) (sym same) live.exact);
          marked = subst (AreMarked h.table (now h.table)) (sym e) (mark, (kept_mark h live).terms, (kept_mark h live).texts, live.marked);
          scopes = ap length e ∙ ap suc live.scopes ∙ ap (λ (k : fact.Kept). length k.begun) (sym is);
        }
      where
        without_with : (k : fact.Kept) (f : NamedId) → without_begun (with_begun k f) ≡ k
        without_with k f = (λ i. record { facts = (take-append-le (length k.facts) k.facts (f ∷ []) (omega arith) ∙ take-length k.facts) i; begun = k.begun })

  -- a macro is added
  pub live_macros : (sg : Kept) → IsExact (record { trees = all; signature = sg; assertions = h.assertions; facts = h.facts }) → AreMarks (length h.signature.macros) (macro_marks h.marks) → sg.entries ≡ h.signature.entries → (ds : List MacroDecl) → sg.macros ≡ h.signature.macros ++ ds → IsLive (record h { signature = sg; kept = now h.table })
  live_macros sg exact within entries ds is = live_same sg h.assertions h.facts exact (by h.marks live.marked within) refl
    where
      by : (ms : List ScopeMark) → AreMarked h.table h.kept ms → AreMarks (length h.signature.macros) (macro_marks ms) → IsSame sg h.assertions h.facts exact ms
      by [] k w = tt
      by (m ∷ ms) k w =
          (λ i. record {
            trees = front_same m ms k i;
            signature = record { entries = entries i; macros = (ap (take m.macros) is ∙ take-append-le m.macros h.signature.macros ds w.0) i };
            assertions = h.assertions;
            facts = without_begun h.facts;
          })

-- ---- outside all scopes

-- all terms that there are, are alive, and no scope is open
pub live_alone : (h : Store) → h.marks ≡ [] → IsMark h.table (now h.table) → length h.facts.begun ≡ 0 → IsExact (holding h) → IsLive (record h { kept = now h.table })
live_alone h none mark begun exact = record {
  exact =
      subst (AreExact (cut (length h.table.trees) (holding h))) (sym none)
      (subst (λ (us : List Tree). IsExact (record { trees = us; signature = h.signature; assertions = h.assertions; facts = h.facts })) (sym (take-length h.table.trees)) exact);
  marked = subst (AreMarked h.table (now h.table)) (sym none) mark;
  scopes = ap length none ∙ sym begun;
}

-- ---- a fact more, in a scope

pub named_outside : (k : fact.Kept) (f : NamedId) → AreBegun (length k.facts) k.begun → 0 < length k.begun → without_begun (with_named k f) ≡ without_begun k
named_outside k f h l = by k.begun h l
  where
    by : (bs : List Begun) → AreBegun (length k.facts) bs → 0 < length bs → without_begun (record { facts = k.facts ++ f ∷ []; begun = bs }) ≡ without_begun (record { facts = k.facts; begun = bs })
    by [] h l = absurd (omega (arith, l))
    by (b ∷ bs) h l = (λ i. record { facts = take-append-le b.first k.facts (f ∷ []) (omega (arith, h.0)) i; begun = bs })

-- ---- a scope is closed

module _ (h : Store) (live : IsLive h) where
  pub live_closed : (m : ScopeMark) (ms : List ScopeMark) → h.marks ≡ m ∷ ms → (fs : fact.Kept) → fs ≡ without_begun h.facts → (sg : Kept) → sg.entries ≡ h.signature.entries → sg.macros ≡ take m.macros h.signature.macros → (new : List ScopeMark) → new ≡ ms
      → IsLive (record h { facts = fs; marks = new; signature = sg; kept = m.table })
  live_closed m ms is fs f sg entries macros new e =
      let exact = subst (AreExact (cut h.kept.0 (holding h))) is live.exact in
      let marked = subst (AreMarked h.table h.kept) is live.marked in
      let same : ◌≡◌ {A = Holding} (record { trees = take m.table.0 h.table.trees; signature = sg; assertions = h.assertions; facts = fs }) (outside m (cut h.kept.0 (holding h))) =
      (λ i. record {
        trees = sym (take-take m.table.0 h.kept.0 h.table.trees marked.1) i;
        signature = record { entries = entries i; macros = macros i };
        assertions = h.assertions;
        facts = f i;
      }) in
      record {
        exact = subst (AreExact (cut m.table.0 (record { trees = h.table.trees; signature = sg; assertions = h.assertions; facts = fs }))) (sym e) (subst (λ (x : Holding). AreExact x ms) (sym same) exact.1);
        marked = subst (AreMarked h.table m.table) (sym e) marked.3;
        scopes = ap length e ∙ one_less h.facts.begun (sym live.scopes ∙ ap length is) ∙ ap (λ (k : fact.Kept). length k.begun) (sym f);
      }
    where
      one_less : (bs : List Begun) → length bs ≡ suc (length ms) → length ms ≡ length (drop 1 bs)
      one_less [] l = absurd (omega (arith, l))
      one_less (b ∷ bs) l = omega (arith, l)

  -- none is open
  pub live_unscoped : h.marks ≡ [] → (fs : fact.Kept) → fs ≡ without_begun h.facts → (new : List ScopeMark) → new ≡ [] → IsLive (record h { facts = fs; marks = new })
  live_unscoped none fs f new e =
      subst (λ (k : fact.Kept). IsLive (record h { facts = k; marks = new })) (sym (f ∙ same h.facts (sym live.scopes ∙ ap length none)))
      (subst (λ (ms : List ScopeMark). IsLive (record h { marks = ms })) (none ∙ sym e) live)
    where
      same : (k : fact.Kept) → length k.begun ≡ 0 → without_begun k ≡ k
      same k l = by k.begun l
        where
          by : (bs : List Begun) → length bs ≡ 0 → without_begun (record { facts = k.facts; begun = bs }) ≡ record { facts = k.facts; begun = bs }
          by [] l = (λ i. record { facts = take-length k.facts i; begun = [] })
          by (b ∷ bs) l = absurd (omega (arith, l))

-- ---- what is carried

has_at : (f : ℕ → Tree) (is : List ℕ) (i : ℕ) → i < length is → Contains (map f is) (f (get_or is i 0))
has_at f [] i l = absurd (omega (arith, l))
has_at f (j ∷ js) zero l = first (f j) (map f js) (f j) refl
has_at f (j ∷ js) (suc i) l = contains_later (f j) (map f js) (f (get_or js i 0)) (has_at f js i (omega (arith, l)))

-- after the mark there are only subtrees of what was carried
pub carried_only : (old : Terms) (m : ℕ × ℕ) (is js : List ℕ) (new : Terms) → Carried old m is js new → All (Contains (flat_map subtrees (map (tree_in old) is))) (drop m.0 new.trees)
carried_only old m is js new c =
    All-weaker (λ t. (i : ℕ) × (i < length is) × IsSubtree t (tree_at old.trees (get_or is i 0))) (Contains (flat_map subtrees (map (tree_in old) is)))
    (λ t h. in_flat subtrees (map (tree_in old) is) (tree_in old (get_or is h.0 0)) t (has_at (tree_in old) is h.0 h.1) h.2) (drop m.0 new.trees) c.needed

-- ---- the first

pub live_first : (h : Store) → h.table.trees ≡ first_trees → h.kept ≡ now h.table → IsMark h.table (now h.table) → h.signature ≡ first_kept → h.assertions ≡ [] → h.marks ≡ [] → length h.facts.begun ≡ 0 → IsBelow (length h.table.trees) h.signature → AreBelow (length h.table.trees) h.facts → IsLive h
live_first h trees kept mark kept_first none unmarked begun below facts =
    subst (λ (k : ℕ × ℕ). IsLive (record h { kept = k })) (sym kept)
    (live_alone h unmarked mark begun (record {
      declared = below;
      assertions = subst (All (λ i. i < length h.table.trees)) (sym none) (All-nil (λ i. i < length h.table.trees));
      facts = facts;
      constants = subst (λ (us : List Tree). (k : ℕ) → k < length (constants_of h.signature) → Contains us (Con k)) (sym trees) (subst (λ (s : Kept). (k : ℕ) → k < length (constants_of s) → Contains first_trees (Con k)) (sym kept_first) four);
      live =
          subst (λ (us : List Tree). All (Contains (flat_map subtrees (over us h.signature h.assertions h.facts))) us) (sym trees)
          (subst (λ (s : Kept). All (Contains (flat_map subtrees (over first_trees s h.assertions h.facts))) first_trees) (sym kept_first) (alive (map (tree_at first_trees) h.assertions) h.facts));
    }))
  where
    four : (k : ℕ) → k < length (constants_of first_kept) → Contains first_trees (Con k)
    four zero l = (0, omega arith, refl)
    four (suc zero) l = (1, omega arith, refl)
    four (suc (suc zero)) l = (2, omega arith, refl)
    four (suc (suc (suc zero))) l = (3, omega arith, refl)
    four (suc (suc (suc (suc k)))) l = absurd (omega (arith, l))

    alive : (xs : List Tree) (fs : fact.Kept) → All (Contains (flat_map subtrees (roots_of (signature first_trees first_kept) (macros first_trees first_kept) xs (scopes first_trees fs)))) first_trees
    alive xs fs =
        let rs = roots_of (signature first_trees first_kept) (macros first_trees first_kept) xs (scopes first_trees fs) in
        let P : Tree → Type 0 = Contains (flat_map subtrees rs) in
        let one : (t : Tree) → Contains rs t → Contains (subtrees t) t → P t = λ t c s. in_flat subtrees rs t t c s in
        All-cons P (Con 0) (Con 1 ∷ Con 2 ∷ Con 3 ∷ []) (one (Con 0) (0, omega arith, refl) (0, omega arith, refl))
        (All-cons P (Con 1) (Con 2 ∷ Con 3 ∷ []) (one (Con 1) (2, omega arith, refl) (0, omega arith, refl))
        (All-cons P (Con 2) (Con 3 ∷ []) (one (Con 2) (4, omega arith, refl) (0, omega arith, refl))
        (All-cons P (Con 3) [] (one (Con 3) (6, omega arith, refl) (0, omega arith, refl)) (All-nil P))))
