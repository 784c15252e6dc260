-- What waits, finished.
use Rattle.std.proofs.Common.{◌≡◌, ℕ, ◌+◌, ◌*◌, ◌<◌, ◌≤◌, List, [], ◌∷◌, ◌++◌, length, map, refl, sym, ap, ap₂, ◌∙◌, subst, arith, All}
use Rattle.std.specs.Prelude.{reverse, Result, Ok, Err, false, bytes_eq, Some, None, drop}
use Rattle.std.proofs.lemmas.List.{reverse-append, append_assoc}
use Rattle.std.proofs.lemmas.List.Elements.{All-head, All-tail, All-weaker}
use Rattle.eo_elab.proofs.Giving.{relabelled, made_named_terms, named_terms_grown, use_more}
use Rattle.std.specs.Result.{IsErrAnd}
use Rattle.eo_base.specs.Answers.{Tells}
use Rattle.eo_base.proofs.Answering.{tells_on}
use Rattle.eo_base.specs.declared.FaultName.{FaultName}
use Rattle.eo_sexp.specs.Kinds.{sexp_kind}
use Rattle.eo_sexp.specs.Pairs.{list_of as list_in}
use Rattle.eo_sexp.specs.Sexp.{Sexp, Atom, Listed, sexp_text}
use Rattle.eo_sexp.specs.Sizes.{size}
use Rattle.eo_sig.specs.Reading.{Kept}
use Rattle.eo_term.specs.Tree.{Tree, Con}
use Rattle.eo_term.specs.Terms.{Terms, tree_at}
use Rattle.eo_term.specs.Growth.{tree_in, trees_in}
use Rattle.eo_names.specs.Names.{Binding, binding_local, bound_by, read_pairs, read_locals, BindingsBelow, AreBelow}
use Rattle.eo_names.specs.Readers.{NamedTerm, Reader, ◌>>=◌, give, built, go_on, with_named_terms}
use Rattle.std.specs.List.{list_any}
use Rattle.eo_names.specs.Binders.{pair_local, variable, variable_list}
use Rattle.eo_names.specs.Contexts.{is_list as is_list_tree}
use Rattle.eo_names.specs.Folding.{applied}
use Rattle.eo_names.specs.Refused.{told}
use Rattle.eo_names.specs.Usage.{made_of, Suits, UseBelow}
use Rattle.eo_names.specs.declared.refused.ElabRefused.{ElabRefused}
use Rattle.eo_names.specs.declared.usage.Head.{Head}
use Rattle.eo_elab.specs.Gives.{atom_told}
use Rattle.eo_elab.proofs.WalkSteps.{of_no_list, all_next, all_fault, all_end, all_alone, no_binder, bound_after, binder_step, let_step, pairs_end, pairs_next, pairs_fault}
use Rattle.eo_names.specs.Ready.{IsReady}
use Rattle.eo_names.specs.Scopes.{bound_in, file_kind_in}
use Rattle.eo_names.specs.declared.locals.LocalName.{LocalName}
use Rattle.eo_names.specs.Worlds.{World, Read}
use Rattle.eo_names.specs.declared.scope.Scope.{Scope}
use Rattle.eo_elab.specs.Worlds.{named_terms_in, term_in, sexps, use_in, let_in, pairs_in, binder_in, in_file_kind, parts_in, all_in}
use Rattle.eo_elab.specs.Forms.{binding_of}
use Rattle.eo_elab.specs.Meaning.{means, means_all}
use Rattle.eo_names.specs.declared.usage.Head.TheVariants as use_
use Rattle.eo_names.specs.Laws.{IsInside, NamesStay, UseStays}
use Rattle.eo_term.specs.Growth.{Grows}
use Rattle.eo_elab.specs.declared.waiting.Frame.{Frame}
use Rattle.eo_elab.specs.declared.waiting.Frame.TheVariants as frame
use Rattle.eo_elab.specs.declared.waiting.Next.{Next}
use Rattle.eo_elab.specs.declared.waiting.Next.TheVariants as next
use Rattle.eo_elab.specs.declared.waiting.Now.{Now}
use Rattle.eo_elab.specs.declared.waiting.Now.TheVariants as now
use Rattle.eo_elab.specs.Waiting.{Blocks, inside, resumed, around, around_all, finished, reads, FrameBelow, FramesBelow, weight, weights, weight_now, GoesOn, Goes, ReadsOn, arguments_after, used_by, pairs_then, pairs_first, with_names}

module _ (k : Kept) (s : Scope) (t : Terms) where
  -- some that wait in front of others
  pub finished_append : (blocks : Blocks) (xs ys : List Frame) (r : Read Tree) → finished k s t blocks (xs ++ ys) r ≡ finished k s t (around_all xs blocks) ys (finished k s t blocks xs r)
  finished_append blocks [] ys r = refl
  finished_append blocks (x ∷ xs) ys r = finished_append (around x blocks) xs ys (go_on (resumed (inside t k s blocks) t.trees x) r)

  -- a fault is that of the whole
  pub finished_fault : (blocks : Blocks) (fs : List Frame) (fault : FaultName) → finished k s t blocks fs (Err fault) ≡ Err fault
  finished_fault blocks [] fault = refl
  finished_fault blocks (f ∷ fs) fault = finished_fault (around f blocks) fs fault

  around_append : (blocks : Blocks) (xs ys : List Frame) → around_all (xs ++ ys) blocks ≡ around_all ys (around_all xs blocks)
  around_append blocks [] ys = refl
  around_append blocks (x ∷ xs) ys = around_append (around x blocks) xs ys

  module _ (named_terms : List Binding) where
    -- a meaning is there, and nothing more waits
    pub give_on : (blocks : Blocks) (before : List Frame) (most i : ℕ) (r : Read Tree) → IsReady (length t.trees) k (bound_by blocks ++ bound_in s) → i < length t.trees → r ≡ Ok (tree_in t i, named_terms_in t named_terms) → 1 ≤ most → GoesOn k s t named_terms blocks blocks before before most (now.Give i) r
    give_on blocks before most i r ready live e less = record { more = []; waits = refl; left = refl; live = tt; ready = ready; given = live; is = e; less = omega (arith, less) }

    -- a term is read, and one thing more waits
    pub wait_on : (blocks inner : Blocks) (before after : List Frame) (most : ℕ) (f : Frame) (x : Sexp) (r : Read Tree) → after ≡ before ++ f ∷ [] → around f inner ≡ blocks → FrameBelow (length t.trees) f → IsReady (length t.trees) k (bound_by inner ++ bound_in s) → r ≡ finished k s t inner (f ∷ []) (term_in (inside t k s inner) x (named_terms_in t named_terms)) → weight f + 4 * size x ≤ most → GoesOn k s t named_terms blocks inner before after most (now.Read x) r
    wait_on blocks inner before after most f x r e same live ready is less = record {
      more = f ∷ [];
      waits = ap reverse e ∙ reverse-append before (f ∷ []);
      left = same;
      live = (live, tt);
      ready = ready;
      given = tt;
      is = is;
      less = omega (arith, less);
    }

-- the exit of a `?` ends with the same fault
pub goes_fault : (k : Kept) (s : Scope) (t : Terms) (named_terms : List Binding) (blocks inner : Blocks) (before after : List Frame) (most : ℕ) (r : Result Now ElabRefused) (e : ElabRefused) (o : Read Tree) → IsErrAnd r (λ x. x ≡ e) → Tells told e o → Goes k s t named_terms blocks inner before after most r o
goes_fault k s t named_terms blocks inner before after most (Ok n) e o q h = absurd q
goes_fault k s t named_terms blocks inner before after most (Err x) e o q h = subst (λ y. Tells told y o) (sym q) h

module _ (w : World) (ts : List Tree) (u : Head) (named_terms : List NamedTerm) where
  -- the first of the arguments that are left is read, and then the others
  pub argument_first : (before : List Tree) (x : Sexp) (rest : List Sexp) → arguments_after w ts u before (x ∷ rest) named_terms ≡ go_on (λ t. arguments_after w ts u (before ++ t ∷ []) rest) (term_in w x named_terms)
  argument_first before x rest = by (term_in w x named_terms) refl
    where
      by : (o : Read Tree) → term_in w x named_terms ≡ o → arguments_after w ts u before (x ∷ rest) named_terms ≡ go_on (λ t. arguments_after w ts u (before ++ t ∷ []) rest) o
      by (Ok p) e = ap (go_on (made_of ts w.names w.locals u)) (all_next w.names w.locals named_terms x (sexps rest) before p.0 p.1 e)
      by (Err fault) e = ap (go_on (made_of ts w.names w.locals u)) (all_fault w.names w.locals named_terms x (sexps rest) before fault e)

  pub argument_end : (before : List Tree) → arguments_after w ts u before [] named_terms ≡ used_by w ts u before named_terms
  argument_end before = ap (go_on (made_of ts w.names w.locals u)) (all_end w.names w.locals named_terms before)

pub suits_more : (u : Head) (n m : ℕ) → n ≡ m → Suits u n → Suits u m
suits_more u n m e h = subst (Suits u) e h

module _ (w : World) (n : Next) (named_terms : List NamedTerm) where
  -- the first of the pairs that are left, and then the others
  pub pair_first : (before : List (List ℕ × Tree)) (p x : Sexp) (name : List ℕ) (rest : List Sexp) → Some (name, x) ≡ binding_of p → list_any (λ (q : List ℕ × Tree). bytes_eq q.0 name) before ≡ false
      → pairs_then w n before (p ∷ rest) named_terms ≡ go_on (λ t. pairs_then w n (before ++ (name, t) ∷ []) rest) (term_in w x named_terms)
  pair_first before p x name rest e new = by (term_in w x named_terms) refl
    where
      by : (o : Read Tree) → term_in w x named_terms ≡ o → pairs_then w n before (p ∷ rest) named_terms ≡ go_on (λ t. pairs_then w n (before ++ (name, t) ∷ []) rest) o
      by (Ok q) h = ap (go_on (with_names w n)) (pairs_next w.names w.locals named_terms p x name (sexps rest) before q.0 q.1 e new h)
      by (Err fault) h = ap (go_on (with_names w n)) (pairs_fault w.names w.locals named_terms p x name (sexps rest) before fault e new h)

  pub pair_end : (before : List (List ℕ × Tree)) → pairs_then w n before [] named_terms ≡ with_names w n before named_terms
  pair_end before = ap (go_on (with_names w n)) (pairs_end w.names w.locals named_terms before)

-- a `let` and a binder are their pairs, and then what is after them
pub let_pairs : (w : World) (pairs body : Sexp) (named_terms : List NamedTerm) → let_in w (pairs ∷ body ∷ []) named_terms ≡ pairs_first w (next.Body body) pairs named_terms
let_pairs w pairs body named_terms = let_step w.names w.locals named_terms pairs body

pub binder_pairs : (w : World) (ts : List Tree) (binder collector : ℕ) (pairs : Sexp) (others : List Sexp) (named_terms : List NamedTerm)
    → go_on (made_of ts w.names w.locals (use_.Bind binder collector)) (binder_in w (pairs ∷ others) collector named_terms) ≡ pairs_first w (next.Others binder collector others) pairs named_terms
binder_pairs w ts binder collector pairs others named_terms = ap (go_on (made_of ts w.names w.locals (use_.Bind binder collector))) (binder_step w.names w.locals named_terms pairs (sexps others) collector) ∙ by (pairs_in w pairs named_terms)
  where
    by : (o : Read (List (List ℕ × Tree))) → go_on (made_of ts w.names w.locals (use_.Bind binder collector)) (go_on (bound_after w.names w.locals named_terms (sexps others) collector) o) ≡ go_on (with_names w (next.Others binder collector others)) o
    by (Ok p) = refl
    by (Err fault) = refl

-- arguments of what is no binder
pub plain_arguments : (t : Terms) (w : World) (h : Sexp) (args : List Sexp) (u : Head) (named_terms : List NamedTerm) → ((binder collector : ℕ) → u ≡ use_.Bind binder collector → ⊥) → use_in w t h args u named_terms ≡ arguments_after w t.trees u [] args named_terms
plain_arguments t w h args u named_terms differs =
    ap (λ (r : Reader (List Tree)). go_on (made_of t.trees w.names w.locals u) (r named_terms)) (no_binder (parts_in w h args) u differs) ∙ ap (go_on (made_of t.trees w.names w.locals u)) (all_alone w.names w.locals named_terms (parts_in w h args).arguments)

-- the exit of a `?` ends with the fault of all terms
pub reads_fault : (w : World) (old new : Terms) (before after : List ℕ) (terms : List Sexp) (r : Result (List Sexp) ElabRefused) (e : ElabRefused) → IsErrAnd r (λ x. x ≡ e) → ((named_terms : List NamedTerm) → Tells told e (all_in w (trees_in old before) terms named_terms)) → ReadsOn w old new before after terms r
reads_fault w old new before after terms (Ok left) e q h = absurd q
reads_fault w old new before after terms (Err x) e q h = subst (λ y. (named_terms : List NamedTerm) → Tells told y (all_in w (trees_in old before) terms named_terms)) (sym q) h

-- the first of several terms is an atom, after those before it
module _ (w : World) (before : List Tree) (x : Sexp) (rest : List Sexp) (named_terms : List NamedTerm) (alone : None ≡ list_in x) where
  pub atom_next : (t : Tree) → atom_told w (sexp_kind x) (sexp_text x) ≡ Ok t → all_in w before (x ∷ rest) named_terms ≡ all_in w (before ++ t ∷ []) rest named_terms
  atom_next t e = all_next w.names w.locals named_terms x (sexps rest) before t named_terms (of_no_list w x named_terms alone ∙ ap (with_named_terms named_terms) e)

  pub atom_fault : (fault : FaultName) → atom_told w (sexp_kind x) (sexp_text x) ≡ Err fault → all_in w before (x ∷ rest) named_terms ≡ Err fault
  atom_fault fault e = all_fault w.names w.locals named_terms x (sexps rest) before fault (of_no_list w x named_terms alone ∙ ap (with_named_terms named_terms) e)

-- what is read inside of names that are bound
inner_same : (r : Read Tree) → r ≡ go_on (λ t named_terms. Ok (t, named_terms)) r
inner_same (Ok p) = refl
inner_same (Err fault) = refl

pub inner_reads : (k : Kept) (s : Scope) (t : Terms) (blocks : Blocks) (bs : List Binding) (x : Sexp) (named_terms : List NamedTerm) → IsInside bs (bound_by blocks ++ bound_in s)
    → with_names (inside t k s blocks) (next.Body x) (read_pairs t.trees bs) named_terms ≡ finished k s t (bs ∷ blocks) (frame.Inner ∷ []) (term_in (inside t k s (bs ∷ blocks)) x named_terms)
inner_reads k s t blocks bs x named_terms is =
    let same : read_locals t.trees (bound_by (bs ∷ blocks) ++ bound_in s) ≡ map pair_local (read_pairs t.trees bs) ++ read_locals t.trees (bound_by blocks ++ bound_in s) = ap (read_locals t.trees) (append_assoc (map binding_local bs) (bound_by blocks) (bound_in s)) ∙ is.locals t.trees in
    ap (λ ls. means (inside t k s blocks).names ls x named_terms) (sym same) ∙ inner_same (term_in (inside t k s (bs ∷ blocks)) x named_terms)

-- inside of names that are bound all is there
pub inner_ready : (n : ℕ) (k : Kept) (s : Scope) (blocks : Blocks) (bs : List Binding) → IsInside bs (bound_by blocks ++ bound_in s) → BindingsBelow n bs → IsReady n k (bound_by blocks ++ bound_in s) → IsReady n k (bound_by (bs ∷ blocks) ++ bound_in s)
inner_ready n k s blocks bs is below ready = record { below = ready.below; names = subst (AreBelow n) (sym (append_assoc (map binding_local bs) (bound_by blocks) (bound_in s))) (is.below n below ready.names) }

-- the same of what is the same, with more left
pub goes_on : (k : Kept) (s : Scope) (t : Terms) (named_terms : List Binding) (blocks inner : Blocks) (before after : List Frame) (most more : ℕ) (r : Result Now ElabRefused) (o p : Read Tree) → o ≡ p → most ≤ more → Goes k s t named_terms blocks inner before after most r p → Goes k s t named_terms blocks inner before after more r o
goes_on k s t named_terms blocks inner before after most more (Ok n) o p e l g = record { more = g.more; waits = g.waits; left = g.left; live = g.live; ready = g.ready; given = g.given; is = e ∙ g.is; less = let h = g.less in omega (arith, h, l) }
goes_on k s t named_terms blocks inner before after most more (Err x) o p e l g = tells_on told x o p (λ f q. e ∙ q) g

-- over a table that grows

trees_grown : (old new : Terms) (is : List ℕ) → All (λ i. i < length old.trees) is → Grows old new → map (tree_at new.trees) is ≡ map (tree_at old.trees) is
trees_grown old new [] h g = refl
trees_grown old new (i ∷ is) h g = ap₂ ◌∷◌ (g.now.tree i (All-head (λ j. j < length old.trees) i is h)) (trees_grown old new is (All-tail (λ j. j < length old.trees) i is h) g)

pairs_grown : (old new : Terms) (bs : List Binding) → BindingsBelow (length old.trees) bs → Grows old new → read_pairs new.trees bs ≡ read_pairs old.trees bs
pairs_grown old new [] h g = refl
pairs_grown old new (b ∷ bs) h g = ap₂ ◌∷◌ (λ i. (b.0, g.now.tree b.1 (All-head (λ (c : Binding). c.1 < length old.trees) b bs h) i)) (pairs_grown old new bs (All-tail (λ (c : Binding). c.1 < length old.trees) b bs h) g)

outer_below : (n : ℕ) (xs ys : List LocalName) → AreBelow n (xs ++ ys) → AreBelow n ys
outer_below n [] ys h = h
outer_below n (x ∷ xs) ys h = outer_below n xs ys (All-tail (λ (l : LocalName). l.id < n) x (xs ++ ys) h)

-- what is around is there
pub around_ready : (n : ℕ) (k : Kept) (s : Scope) (blocks : Blocks) (f : Frame) → IsReady n k (bound_by blocks ++ bound_in s) → IsReady n k (bound_by (around f blocks) ++ bound_in s)
around_ready n k s [] frame.Inner h = h
around_ready n k s (b ∷ blocks) frame.Inner h = record { below = h.below; names = outer_below n (map binding_local b) (bound_by blocks ++ bound_in s) (subst (AreBelow n) (append_assoc (map binding_local b) (bound_by blocks) (bound_in s)) h.names) }
around_ready n k s blocks (frame.Head args) h = h
around_ready n k s blocks (frame.Argument u before rest) h = h
around_ready n k s blocks (frame.Beside b) h = h
around_ready n k s blocks (frame.Annotated attributes) h = h

module _ (k : Kept) (s : Scope) (old new : Terms) (g : Grows old new) (stays : (ls : List LocalName) → NamesStay k ls) (uses : (u : Head) → UseStays u) where
  made_grown : (w : World) (u : Head) (ts : List Tree) → UseBelow (length old.trees) u → (named_terms : List NamedTerm) → made_of new.trees w.names w.locals u ts named_terms ≡ made_of old.trees w.names w.locals u ts named_terms
  made_grown w u ts below named_terms = made_named_terms new.trees w.names w.locals u ts named_terms ∙ ap (relabelled named_terms) (sym (uses u old new w ts below g.now)) ∙ sym (made_named_terms old.trees w.names w.locals u ts named_terms)

  go_same : {A B : Type 0} (m n : A → Reader B) → ((x : A) (named_terms : List NamedTerm) → m x named_terms ≡ n x named_terms) → (r : Read A) → go_on m r ≡ go_on n r
  go_same m n h (Ok p) = h p.0 p.1
  go_same m n h (Err fault) = refl

  resumed_grown : (w : World) (f : Frame) → FrameBelow (length old.trees) f → (r : Read Tree) → go_on (resumed w new.trees f) r ≡ go_on (resumed w old.trees f) r
  resumed_grown w (frame.Head args) below r = refl
  resumed_grown w (frame.Argument u before rest) below r = go_same (resumed w new.trees (frame.Argument u before rest)) (resumed w old.trees (frame.Argument u before rest))
      (λ x named_terms. ap (λ is. arguments_after w new.trees u (is ++ x ∷ []) rest named_terms) (trees_grown old new before below.0 g) ∙ go_same (made_of new.trees w.names w.locals u) (made_of old.trees w.names w.locals u) (λ ts ls. made_grown w u ts below.1.0 ls) (all_in w (map (tree_at old.trees) before ++ x ∷ []) rest named_terms)) r
  resumed_grown w (frame.Beside b) below r = ap (λ bs. go_on (λ x. pairs_then w b.value.next (bs ++ (b.value.name.now, x) ∷ []) b.value.rest) r) (pairs_grown old new b.value.before below.0 g)
  resumed_grown w (frame.Annotated attributes) below r = refl
  resumed_grown w frame.Inner below r = refl

  -- and so do arguments that are left
  pub arguments_grown : (blocks : Blocks) (u : Head) (named_terms : List Binding) (us : List Tree) (rest : List Sexp) → UseBelow (length old.trees) u → BindingsBelow (length old.trees) named_terms → IsReady (length old.trees) k (bound_by blocks ++ bound_in s)
      → arguments_after (inside new k s blocks) new.trees u us rest (named_terms_in new named_terms) ≡ arguments_after (inside old k s blocks) old.trees u us rest (named_terms_in old named_terms)
  arguments_grown blocks u named_terms us rest below given ready =
      let same : inside new k s blocks ≡ inside old k s blocks = ap (in_file_kind (file_kind_in s)) (stays (bound_by blocks ++ bound_in s) old new ready g).world in
      let w = inside old k s blocks in
      ap (λ v. arguments_after v new.trees u us rest (named_terms_in new named_terms)) same ∙ ap (arguments_after w new.trees u us rest) (named_terms_grown old new named_terms given g.now)
      ∙ go_same (made_of new.trees w.names w.locals u) (made_of old.trees w.names w.locals u) (λ ts ls. made_grown w u ts below ls) (all_in w us rest (named_terms_in old named_terms))

  -- what waits makes the same of what is read
  pub finished_grown : (blocks : Blocks) (fs : List Frame) → FramesBelow (length old.trees) fs → IsReady (length old.trees) k (bound_by blocks ++ bound_in s) → (r : Read Tree) → finished k s new blocks fs r ≡ finished k s old blocks fs r
  finished_grown blocks [] below ready r = refl
  finished_grown blocks (f ∷ fs) below ready r =
      let same : inside new k s blocks ≡ inside old k s blocks = ap (in_file_kind (file_kind_in s)) (stays (bound_by blocks ++ bound_in s) old new ready g).world in
      let step : go_on (resumed (inside new k s blocks) new.trees f) r ≡ go_on (resumed (inside old k s blocks) old.trees f) r = ap (λ w. go_on (resumed w new.trees f) r) same ∙ resumed_grown (inside old k s blocks) f below.0 r in
      ap (finished k s new (around f blocks) fs) step ∙ finished_grown (around f blocks) fs below.1 (around_ready (length old.trees) k s blocks f ready) (go_on (resumed (inside old k s blocks) old.trees f) r)

  -- one step keeps the whole: what waits now, given what is read next, makes what was to be made
  pub whole_on : (named_terms : List Binding) (blocks inner : Blocks) (before after : List Frame) (most : ℕ) (n : Now) (r : Read Tree) → FramesBelow (length old.trees) (reverse before) → IsReady (length old.trees) k (bound_by blocks ++ bound_in s) → GoesOn k s new named_terms blocks inner before after most n r
      → finished k s old blocks (reverse before) r ≡ finished k s new inner (reverse after) (reads k s new inner named_terms n)
  whole_on named_terms blocks inner before after most n r below ready o =
      sym (ap (λ fs. finished k s new inner fs (reads k s new inner named_terms n)) o.waits ∙ finished_append k s new inner o.more (reverse before) (reads k s new inner named_terms n) ∙ ap (finished k s new (around_all o.more inner) (reverse before)) (sym o.is) ∙ ap (λ b. finished k s new b (reverse before) r) o.left ∙ finished_grown blocks (reverse before) below ready r)

  frame_more : (f : Frame) → FrameBelow (length old.trees) f → FrameBelow (length new.trees) f
  frame_more (frame.Head args) h = h
  frame_more (frame.Argument u before rest) h = (All-weaker (λ i. i < length old.trees) (λ i. i < length new.trees) (λ i l. omega (arith, l, g.now.more_trees)) before h.0, (use_more old new u g.now h.1.0, h.1.1))
  frame_more (frame.Beside b) h = (All-weaker (λ (b : Binding). b.1 < length old.trees) (λ (b : Binding). b.1 < length new.trees) (λ p l. omega (arith, l, g.now.more_trees)) b.value.before h.0, h.1)
  frame_more (frame.Annotated attributes) h = tt
  frame_more frame.Inner h = tt

  frames_more : (fs : List Frame) → FramesBelow (length old.trees) fs → FramesBelow (length new.trees) fs
  frames_more [] h = tt
  frames_more (f ∷ fs) h = (frame_more f h.0, frames_more fs h.1)

  frames_append : (n : ℕ) (xs ys : List Frame) → FramesBelow n xs → FramesBelow n ys → FramesBelow n (xs ++ ys)
  frames_append n [] ys h k = k
  frames_append n (x ∷ xs) ys h k = (h.0, frames_append n xs ys h.1 k)

  -- what waits is there
  pub below_on : (named_terms : List Binding) (blocks inner : Blocks) (before after : List Frame) (most : ℕ) (n : Now) (r : Read Tree) → FramesBelow (length old.trees) (reverse before) → GoesOn k s new named_terms blocks inner before after most n r → FramesBelow (length new.trees) (reverse after)
  below_on named_terms blocks inner before after most n r below o = subst (FramesBelow (length new.trees)) (sym o.waits) (frames_append (length new.trees) o.more (reverse before) o.live (frames_more (reverse before) below))

weights_append : (xs ys : List Frame) → weights (xs ++ ys) ≡ weights xs + weights ys
weights_append [] ys = omega arith
weights_append (x ∷ xs) ys = let h = weights_append xs ys in omega (arith, h)

-- and less is left
pub less_on : (k : Kept) (s : Scope) (t : Terms) (named_terms : List Binding) (blocks inner : Blocks) (before after : List Frame) (most : ℕ) (n : Now) (r : Read Tree) → GoesOn k s t named_terms blocks inner before after most n r → weights (reverse after) + weight_now n ≤ weights (reverse before) + most
less_on k s t named_terms blocks inner before after most n r o =
    let e : weights (reverse after) ≡ weights o.more + weights (reverse before) = ap weights o.waits ∙ weights_append o.more (reverse before) in
    let l = o.less in
    omega (arith, e, l)

pub size_at_least : (s : Sexp) → 1 ≤ size s
size_at_least (Atom k text span) = omega arith
size_at_least (Listed ss span) = omega arith

-- what is read inside of names that are bound, and then these are left
pub inner_goes : (k : Kept) (s : Scope) (t : Terms) (named_terms : List Binding) (blocks inner : Blocks) (bs : List Binding) (before after : List Frame) (most : ℕ) (r : Result Now ElabRefused) (o p : Read Tree) → o ≡ p → Goes k s t named_terms (bs ∷ blocks) inner (before ++ frame.Inner ∷ []) after most r p → Goes k s t named_terms blocks inner before after (most + 1) r o
inner_goes k s t named_terms blocks inner bs before after most (Ok n) o p e g = record {
  more = g.more ++ frame.Inner ∷ [];
  waits = g.waits ∙ ap (λ fs. g.more ++ fs) (reverse-append before (frame.Inner ∷ [])) ∙ sym (append_assoc g.more (frame.Inner ∷ []) (reverse before));
  left = around_append k s t inner g.more (frame.Inner ∷ []) ∙ ap (drop 1) g.left;
  live = frames_both (length t.trees) g.more (frame.Inner ∷ []) g.live (tt, tt);
  ready = g.ready;
  given = g.given;
  is = e ∙ inner_same p ∙ ap (go_on (λ x ls. Ok (x, ls))) g.is ∙ sym (finished_append k s t inner g.more (frame.Inner ∷ []) (reads k s t inner named_terms n));
  less = let h = weights_append g.more (frame.Inner ∷ []) in let l = g.less in omega (arith, h, l);
}
  where
    frames_both : (m : ℕ) (xs ys : List Frame) → FramesBelow m xs → FramesBelow m ys → FramesBelow m (xs ++ ys)
    frames_both m [] ys h j = j
    frames_both m (x ∷ xs) ys h j = (h.0, frames_both m xs ys h.1 j)
inner_goes k s t named_terms blocks inner bs before after most (Err x) o p e g = tells_on told x o p (λ f q. e ∙ q) g

-- the other arguments of a binder inside of its variables
pub others_read : (w inner : World) (ts : List Tree) (binder collector : ℕ) (others : List Sexp) (ps : List (List ℕ × Tree)) (first : Tree) (named_terms : List NamedTerm) → variable_list w.names.signature (is_list_tree w.locals) collector (map variable ps) named_terms ≡ Ok (first, named_terms) → inner.names ≡ w.names → inner.locals ≡ map pair_local (map variable ps) ++ w.locals
    → with_names w (next.Others binder collector others) ps named_terms ≡ arguments_after inner ts (use_.Bind binder collector) (first ∷ []) others named_terms
others_read w inner ts binder collector others ps first named_terms e names locals =
    let made : List Tree → Reader Tree = λ us. built (applied (Con binder) us) in
    let then_all : Tree → Reader (List Tree) = λ f. means_all w.names (map pair_local (map variable ps) ++ w.locals) (sexps others) >>= λ us. give (f ∷ us) in
    ap (λ (o : Read Tree). go_on made (go_on then_all o)) e ∙ (λ i. go_on made (go_on (λ us. give (first ∷ us)) (means_all (sym names i) (sym locals i) (sexps others) named_terms)))
