-- The run of other files than the proof, beside the run of the needed commands.
use Rattle.std.specs.Prelude.{◌≡◌, ◌≢◌, ℕ, zero, suc, Bool, true, false, ◌||◌, if◌then◌else◌, List, [], ◌∷◌, ◌++◌, Option, Some, None, Result, Ok, Err, refl, bytes_eq, slice_get, Contains}
use Rattle.std.specs.List.{list_any}
use Rattle.std.proofs.Common.{sym, ap, subst, ◌∙◌, true≢false, arith, append_assoc, append-nil}
use Rattle.std.proofs.lemmas.Option.{none-some, same_Some}
use Rattle.std.proofs.lemmas.Slice.Eq.{bytes_eq-Decides}
use Rattle.eo_base.specs.declared.FaultName.{FaultName}
use Rattle.eo_base.proofs.ChecksLemmas.{ok_injective, err_is_not_ok}
use Rattle.eo_base.specs.declared.FaultName.TheVariants.{SecondReference, BadPath, IncludeDepth, FileAbsent}
use Rattle.eo_base.specs.Checks.{Checked}
use Rattle.eo_io.specs.Library.{Files, file_at}
use Rattle.eo_io.specs.Paths.{fold_path, with_path}
use Rattle.eo_sexp.specs.Spot.{Spot}
use Rattle.eo_sexp.specs.Texts.{Placed, Reads, Then, Ends, Fails}
use Rattle.eo_session.specs.State.{State, begin_reference}
use Rattle.eo_session.specs.Commands.{step}
use Rattle.eo_session.specs.Origin.{Origin}
use Rattle.eo_session.specs.Origin as origin
use Rattle.eo_session.specs.declared.Next.{Next}
use Rattle.eo_session.specs.declared.Next.TheVariants as next
use Rattle.eo_run.specs.Seen.{Seen, noted}
use Rattle.eo_run.specs.Run.{Progress, Stopped, Ran, ◌>>=◌, placed, or_fault, commands_of, Opener, is_exit, run_commands, Runner, seen_next, with_command, with_opened, with_included, open_nothing, run_reference, include_file, refer_to_file, open_file, run_file, included_runner}
use Rattle.eo_trim.specs.Needed.{scopes_after, scopes_after_all, IsAt, Needed, in_other_file, is_declared, is_premise, opens_scope, closes_scope, is_defined, IsNeeded, trimmed}
use Rattle.eo_trim.proofs.Steps.{Each, Like}
use Rattle.eo_trim.proofs.Shutting.{Fits}
use Rattle.eo_trim.proofs.Going.{shut, Nested, Entry, like-reference, reference-like}
use Rattle.eo_trim.proofs.Stepping.{Beside, Stepped, stepped}

-- ---- chains

value_of : {A : Type 0} → A → Result A Stopped → A
value_of d (Ok x) = x
value_of d (Err e) = d

pub ran_injective : {A : Type 0} (x y : A) → ◌≡◌ {A = Result A Stopped} (Ok x) (Ok y) → x ≡ y
unfolding value_of
ran_injective x y e = ap (value_of x) e

pub ran_not : {A B : Type 0} (r : Stopped) (y : A) → ◌≡◌ {A = Result A Stopped} (Err r) (Ok y) → B
ran_not r y e = absurd (cc e)

pub ran_bind : {A B : Type 0} (m : Result A Stopped) (f : A → Result B Stopped) (y : B) → (m >>= f) ≡ Ok y → (x : A) × (m ≡ Ok x) × (f x ≡ Ok y)
unfolding ◌>>=◌
ran_bind (Ok x) f y e = (x, refl, e)
ran_bind (Err r) f y e = ran_not r y e

pub ran_step : {A B : Type 0} (m : Result A Stopped) (f : A → Result B Stopped) (x : A) → m ≡ Ok x → (m >>= f) ≡ f x
unfolding ◌>>=◌
ran_step (Ok z) f x e = ap f (ran_injective z x e)
ran_step (Err r) f x e = ran_not r x e

pub placed_ok : {A : Type 0} (p : Progress) (path : List ℕ) (at : Spot) (m : Checked A) (x : A) → placed p path at m ≡ Ok x → m ≡ Ok x
unfolding placed
placed_ok p path at (Ok z) x e = ap Ok (ran_injective z x e)
placed_ok p path at (Err fault) x e = ran_not _ x e

pub ok_placed : {A : Type 0} (p : Progress) (path : List ℕ) (at : Spot) (m : Checked A) (x : A) → m ≡ Ok x → placed p path at m ≡ Ok x
unfolding placed
ok_placed p path at m x e = ap (placed p path at) e

pub fault_ok : {A : Type 0} (p : Progress) (path : List ℕ) (at : Spot) (name : FaultName) (o : Option A) (x : A) → or_fault p path at name o ≡ Ok x → o ≡ Some x
unfolding or_fault
fault_ok p path at name (Some z) x e = ap Some (ran_injective z x e)
fault_ok p path at name None x e = ran_not _ x e

pub ok_fault : {A : Type 0} (p : Progress) (path : List ℕ) (at : Spot) (name : FaultName) (o : Option A) (x : A) → o ≡ Some x → or_fault p path at name o ≡ Ok x
unfolding or_fault
ok_fault p path at name o x e = ap (or_fault p path at name) e

-- ---- lists

contains_tail : (x : ℕ) (xs : List ℕ) (y : ℕ) → Contains xs y → Contains (x ∷ xs) y
contains_tail x xs y c = (suc c.0, omega (arith, c.1), c.2)

each_from : (N : ℕ → Bool) (ns : List ℕ) → ((n : ℕ) → Contains ns n → N n ≡ true) → Each N ns
each_from N [] h = tt
each_from N (n ∷ ns) h = (h n (0, omega arith, refl), each_from N ns (λ m c. h m (contains_tail n ns m c)))

after-append : (scopes : List ℕ) (cs ds : List Seen) → scopes_after_all scopes (cs ++ ds) ≡ scopes_after_all (scopes_after_all scopes cs) ds
after-append scopes [] ds = refl
after-append scopes (c ∷ cs) ds = after-append (scopes_after scopes c.number c.act) cs ds

or_false : (a b : Bool) → (a || b) ≡ false → (a ≡ false) × (b ≡ false)
or_false true b e = absurd (true≢false e)
or_false false b e = (refl, e)

any-append : (p : List ℕ → Bool) (xs ys : List (List ℕ)) → list_any p (xs ++ ys) ≡ false → (list_any p xs ≡ false) × (list_any p ys ≡ false)
any-append p [] ys e = (refl, e)
any-append p (x ∷ xs) ys e =
    let both = or_false (p x) (list_any p (xs ++ ys)) e in
    let rest = any-append p xs ys both.1 in
    (ap (λ b. b || list_any p xs) both.0 ∙ rest.0, rest.1)

-- a path that is among no paths after another one came
pub alone-with : (proof : List ℕ) (paths : List (List ℕ)) (path : List ℕ) → list_any (bytes_eq proof) (with_path paths path) ≡ false → (list_any (bytes_eq proof) paths ≡ false) × (bytes_eq proof path ≡ false)
alone-with proof paths path e = by (list_any (bytes_eq path) paths) refl e
  where
    same : (b : Bool) → bytes_eq proof path ≡ b → list_any (bytes_eq path) paths ≡ true → list_any (bytes_eq proof) paths ≡ false → b ≡ false
    same true is there e = absurd (true≢false (sym there ∙ ap (λ x. list_any (bytes_eq x) paths) (sym ((bytes_eq-Decides proof path).0 is)) ∙ e))
    same false is there e = refl

    by : (b : Bool) → list_any (bytes_eq path) paths ≡ b → list_any (bytes_eq proof) (if b then paths else paths ++ path ∷ []) ≡ false → (list_any (bytes_eq proof) paths ≡ false) × (bytes_eq proof path ≡ false)
    by true there e = (e, same (bytes_eq proof path) refl there e)
    by false there e =
        let both = any-append (bytes_eq proof) paths (path ∷ []) e in
        (both.0, (or_false (bytes_eq proof path) false both.1).0)

module _ (files : Files) (proof text : List ℕ) (final : Progress) (N : ℕ → Bool) (holds : IsNeeded proof final N)
    (alone : list_any (bytes_eq proof) final.opened ≡ false) where
  -- the files with another text in the proof's place
  abbrev pub other_files : Files
  other_files = (proof, text) ∷ files

  -- a run that comes to the final state later
  pub record Comes (p : Progress) : Type 0 where
    pub later_seen : List Seen
    pub seen : final.seen ≡ p.seen ++ later_seen
    -- the proof is opened in no other place so far
    pub alone_so_far : list_any (bytes_eq proof) p.opened ≡ false

  abbrev pub scopes_of : Progress → List ℕ
  scopes_of p = scopes_after_all [] p.seen

  -- how far the run of the needed commands is, beside that of all
  pub record Related (p k : Progress) : Type 0 where
    pub included : k.included ≡ p.included
    pub fits : Fits (scopes_of p) p.state
    pub nested : Nested N (scopes_of p)
    pub like : Like N (shut N (scopes_of p) p.state) k.state

  -- ---- what is known of a command

  module _ (p : Progress) (path : List ℕ) (from : Origin) (c : Placed) (st : State) (comes : Comes (with_command p (seen_next p path from c) st)) (nested : Nested N (scopes_of p)) where
    is_at : IsAt final.seen p.seen (seen_next p path from c)
    is_at = record { after = comes.later_seen; is = comes.seen ∙ append_assoc p.seen (seen_next p path from c ∷ []) comes.later_seen }

    to_needed : N p.state.commands ≡ true → Needed proof final p.state.commands
    to_needed e = (holds p.state.commands).0 e

    from_needed : Needed proof final p.state.commands → N p.state.commands ≡ true
    from_needed h = (holds p.state.commands).1 h

    pub other_needed : path ≢ proof → N p.state.commands ≡ true
    other_needed other = from_needed (in_other_file p.seen (seen_next p path from c) is_at other)

    live_inside : (stack : List ℕ) → scopes_of p ≡ stack → Nested N stack → N p.state.commands ≡ true → Each N stack
    live_inside [] e h need = tt
    live_inside (k ∷ ks) e h need =
        let first : N k ≡ true = (holds k).1 (opens_scope p.seen (seen_next p path from c) is_at (to_needed need) k (ap (λ xs. slice_get xs 0) e)) in
        (first, h.0 first)

    pub entry : Entry N (scopes_of p) p.state.commands (noted p.state from c.sexp)
    entry = record {
      inside = live_inside (scopes_of p) refl nested;
      declared = λ e f. from_needed (is_declared p.seen (seen_next p path from c) is_at e f);
      premises = λ need. each_from N _ (λ n member. (holds n).1 (is_premise p.seen (seen_next p path from c) is_at (to_needed need) n member));
      closes = λ note k e f need. from_needed (closes_scope p.seen (seen_next p path from c) note is_at e k f ((holds k).0 need));
      defines = λ k e f need. from_needed (is_defined p.seen (seen_next p path from c) is_at e k f ((holds k).0 need));
    }

  pub comes_command : (p : Progress) (c : Seen) (st : State) → Comes (with_command p c st) → Comes p
  comes_command p c st h = record { later_seen = c ∷ h.later_seen; seen = h.seen ∙ append_assoc p.seen (c ∷ []) h.later_seen; alone_so_far = h.alone_so_far }

  scopes-next : (p : Progress) (c : Seen) (st : State) → scopes_of (with_command p c st) ≡ scopes_after (scopes_of p) c.number c.act
  scopes-next p c st = after-append [] p.seen (c ∷ [])

  -- ---- a command of a file, beside the run of the needed commands

  module _ (p k : Progress) (path : List ℕ) (from : Origin) (c : Placed) (r : State × Next) (rel : Related p k) (e : step p.state from c.sexp ≡ Ok r) (comes : Comes (with_command p (seen_next p path from c) r.0)) where
    pub stepped_here : Stepped N (scopes_after (scopes_of p) p.state.commands (noted p.state from c.sexp)) k.state p.state.commands r from c.sexp
    stepped_here = stepped N (scopes_of p) p.state k.state from c.sexp rel.fits rel.nested rel.like r (entry p path from c r.0 comes rel.nested) e

    abbrev now : Progress
    now = with_command p (seen_next p path from c) r.0

    scopes-now : scopes_after (scopes_of p) p.state.commands (noted p.state from c.sexp) ≡ scopes_of (with_command p (seen_next p path from c) r.0)
    scopes-now = sym (scopes-next p (seen_next p path from c) r.0)

    pub related_now : (also : Progress) → also.included ≡ k.included → Like N (shut N (scopes_after (scopes_of p) p.state.commands (noted p.state from c.sexp)) r.0) also.state → Related (with_command p (seen_next p path from c) r.0) also
    related_now also same like = record {
      included = same ∙ rel.included;
      fits = subst (λ (xs : List ℕ). Fits xs r.0) scopes-now stepped_here.fits;
      nested = subst (Nested N) scopes-now stepped_here.nested;
      like = subst (λ (xs : List ℕ). Like N (shut N xs r.0) also.state) scopes-now like;
    }

    -- one that is needed
    beside_true : (b : Bool) → b ≡ true → Beside N b (scopes_after (scopes_of p) p.state.commands (noted p.state from c.sexp)) k.state r from c.sexp → Beside N true (scopes_after (scopes_of p) p.state.commands (noted p.state from c.sexp)) k.state r from c.sexp
    beside_true true e h = h
    beside_true false e h = absurd (true≢false (sym e))

    beside_false : (b : Bool) → b ≡ false → Beside N b (scopes_after (scopes_of p) p.state.commands (noted p.state from c.sexp)) k.state r from c.sexp → Beside N false (scopes_after (scopes_of p) p.state.commands (noted p.state from c.sexp)) k.state r from c.sexp
    beside_false true e h = absurd (true≢false e)
    beside_false false e h = h

    pub taken_here : N p.state.commands ≡ true → Beside N true (scopes_after (scopes_of p) p.state.commands (noted p.state from c.sexp)) k.state r from c.sexp
    taken_here need = beside_true (N p.state.commands) need stepped_here.beside

    pub passed_here : N p.state.commands ≡ false → Beside N false (scopes_after (scopes_of p) p.state.commands (noted p.state from c.sexp)) k.state r from c.sexp
    passed_here not_needed = beside_false (N p.state.commands) not_needed stepped_here.beside

  -- ---- runs

  -- what a run adds to what is seen, of which nothing is the proof's
  pub record Extends (p q : Progress) : Type 0 where
    pub segment : List Seen
    pub seen : q.seen ≡ p.seen ++ segment
    pub others : trimmed proof N segment ≡ []

  -- a run from p to q, and one of the needed commands
  pub record Simulated (p q : Progress) (run : Progress → Ran) : Type 0 where
    pub comes : Comes p
    pub extends : Extends p q
    pub goes : (k : Progress) → Related p k → (m : Progress) × (run k ≡ Ok m) × Related q m

  abbrev pub SimRunner : Runner → Runner → Type 0
  SimRunner f g = (path : List ℕ) (from : Origin) (bytes : List ℕ) (p q : Progress) → f path from bytes p ≡ Ok q → Comes q → Comes p × (path ≢ proof → Simulated p q (g path from bytes))

  abbrev pub SimOption : Option Runner → Option Runner → Type 0
  SimOption None None = Unit {0}
  SimOption (Some f) (Some g) = SimRunner f g
  SimOption f g = ⊥

  abbrev pub SimOpener : Opener → Opener → Type 0
  SimOpener f g = (path : List ℕ) (from : Origin) (at there : Spot) (what : Next) (p q : Progress) → f path from at what p ≡ Ok q → Comes q → Simulated p q (g path from there what)

  pub trimmed-append : (cs ds : List Seen) → trimmed proof N (cs ++ ds) ≡ trimmed proof N cs ++ trimmed proof N ds
  trimmed-append [] ds = refl
  trimmed-append (c ∷ cs) ds =
      ap (λ bs. if bytes_eq c.file proof then (if N c.number then c.bytes ++ 10 ∷ bs else bs) else bs) (trimmed-append cs ds) ∙ go (bytes_eq c.file proof) (N c.number) c.bytes (trimmed proof N cs) (trimmed proof N ds)
    where
      go : (b k : Bool) (xs ys zs : List ℕ) → (if b then (if k then xs ++ (10 ∷ (ys ++ zs)) else ys ++ zs) else ys ++ zs) ≡ (if b then (if k then xs ++ 10 ∷ ys else ys) else ys) ++ zs
      go true true xs ys zs = sym (append_assoc xs (10 ∷ ys) zs)
      go true false xs ys zs = refl
      go false k xs ys zs = refl

  extends_none : (p : Progress) → Extends p p
  extends_none p = record { segment = []; seen = sym (append-nil p.seen); others = refl }

  pub extends_both : (p q r : Progress) → Extends p q → Extends q r → Extends p r
  extends_both p q r h i = record {
    segment = h.segment ++ i.segment;
    seen = i.seen ∙ ap (λ cs. cs ++ i.segment) h.seen ∙ append_assoc p.seen h.segment i.segment;
    others = trimmed-append h.segment i.segment ∙ ap (λ bs. bs ++ trimmed proof N i.segment) h.others ∙ i.others;
  }

  extends_other : (p : Progress) (c : Seen) (st : State) → bytes_eq c.file proof ≡ false → Extends p (with_command p c st)
  extends_other p c st e = record { segment = c ∷ []; seen = refl; others = ap (λ b. if b then (if N c.number then c.bytes ++ 10 ∷ [] else []) else []) e }

  pub same_sim : (p q : Progress) → ◌≡◌ {A = Ran} (Ok p) (Ok q) → Comes q → Simulated p q Ok
  same_sim p q e comes =
      subst (λ (x : Progress). Simulated p x Ok) (ran_injective p q e)
      (record { comes = subst Comes (sym (ran_injective p q e)) comes; extends = extends_none p; goes = λ k rel. (k, refl, rel) })

  exit_sim : (b : Bool) (run also : Progress → Ran) (p q : Progress) → (run p ≡ Ok q → Simulated p q also) → (if b then Ok p else run p) ≡ Ok q → Comes q → Simulated p q (λ x. if b then Ok x else also x)
  exit_sim true run also p q h e comes = same_sim p q e comes
  exit_sim false run also p q h e comes = h e

  different : (path : List ℕ) → path ≢ proof → bytes_eq path proof ≡ false
  different path other = go (bytes_eq path proof) refl
    where
      go : (b : Bool) → bytes_eq path proof ≡ b → b ≡ false
      go true e = absurd (other ((bytes_eq-Decides path proof).0 e))
      go false e = refl

  pub exit_comes : (b : Bool) (run : Progress → Ran) (p q : Progress) → (run p ≡ Ok q → Comes p) → (if b then Ok p else run p) ≡ Ok q → Comes q → Comes p
  exit_comes true run p q h e comes = subst Comes (sym (ran_injective p q e)) comes
  exit_comes false run p q h e comes = h e

  pub commands_come : (opener also : Opener) → SimOpener opener also → (path : List ℕ) (from : Origin) (reads : Reads) (p q : Progress) → run_commands opener path from reads p ≡ Ok q → Comes q → Comes p
  unfolding run_commands
  commands_come opener also sim path from (Ends at) p q e comes = subst Comes (sym (ran_injective p q e)) comes
  commands_come opener also sim path from (Fails name at) p q e comes = ran_not _ q e
  commands_come opener also sim path from (Then c others) p q e comes =
      let r = ran_bind (placed p path c.start (step p.state from c.sexp)) _ q e in
      let now : Progress = with_command p (seen_next p path from c) r.0.0 in
      let m = ran_bind (opener path from c.start r.0.1 now) _ q r.2 in
      let rest = exit_comes (is_exit r.0.1) (run_commands opener path from others) m.0 q (λ f. commands_come opener also sim path from others m.0 q f comes) m.2 comes in
      comes_command p (seen_next p path from c) r.0.0 (sim path from c.start c.start r.0.1 now m.0 m.1 rest).comes

  module _ (opener also : Opener) (sim : SimOpener opener also) (path : List ℕ) (from : Origin) (other : path ≢ proof) where
    pub commands_sim : (reads : Reads) (p q : Progress) → run_commands opener path from reads p ≡ Ok q → Comes q → Simulated p q (run_commands also path from reads)
    unfolding run_commands
    commands_sim (Ends at) p q e comes = same_sim p q e comes
    commands_sim (Fails name at) p q e comes = ran_not _ q e
    commands_sim (Then c others) p q e comes =
        let r = ran_bind (placed p path c.start (step p.state from c.sexp)) _ q e in
        let is = placed_ok p path c.start (step p.state from c.sexp) r.0 r.1 in
        let now : Progress = with_command p (seen_next p path from c) r.0.0 in
        let m = ran_bind (opener path from c.start r.0.1 now) _ q r.2 in
        let rest : Simulated m.0 q (λ x. if is_exit r.0.1 then Ok x else run_commands also path from others x) =
        exit_sim (is_exit r.0.1) (run_commands opener path from others) (run_commands also path from others) m.0 q (λ f. commands_sim others m.0 q f comes) m.2 comes in
        let mid : Simulated now m.0 (also path from c.start r.0.1) = sim path from c.start c.start r.0.1 now m.0 m.1 rest.comes in
        record {
          comes = comes_command p (seen_next p path from c) r.0.0 mid.comes;
          extends = extends_both p now q (extends_other p (seen_next p path from c) r.0.0 (different path other)) (extends_both now m.0 q mid.extends rest.extends);
          goes = λ k rel.
              let taken = taken_here p k path from c r.0 rel is mid.comes (other_needed p path from c r.0.0 mid.comes rel.nested other) in
              let next : Progress = with_command k (seen_next k path from c) taken.0 in
              let first = mid.goes next (related_now p k path from c r.0 rel is mid.comes next refl taken.2) in
              let second = rest.goes first.0 first.2 in
              (second.0, ran_step _ _ (taken.0, r.0.1) (ok_placed k path c.start (step k.state from c.sexp) (taken.0, r.0.1) taken.1) ∙ ran_step _ _ first.0 first.1 ∙ second.1, second.2);
        }

  -- ---- files that are opened

  pub opened_other : (p : Progress) (file : List ℕ) → Comes (with_opened p file) → bytes_eq proof file ≡ false
  opened_other p file comes = (alone-with proof p.opened file comes.alone_so_far).1

  pub other_path : (file : List ℕ) → bytes_eq proof file ≡ false → file ≢ proof
  other_path file e same = true≢false (sym ((bytes_eq-Decides proof file).1 (sym same)) ∙ e)

  pub file-same : (file bytes : List ℕ) → bytes_eq proof file ≡ false → file_at files file ≡ Some bytes → file_at other_files file ≡ Some bytes
  file-same file bytes e f = ap (λ b. if b then Some text else file_at files file) e ∙ f

  pub comes_opened : (p : Progress) (file : List ℕ) → Comes (with_opened p file) → Comes p
  comes_opened p file h = record { later_seen = h.later_seen; seen = h.seen; alone_so_far = (alone-with proof p.opened file h.alone_so_far).0 }

  comes_included : (p : Progress) (file : List ℕ) → Comes (with_included p file) → Comes (with_opened p file)
  comes_included p file h = record { later_seen = h.later_seen; seen = h.seen; alone_so_far = h.alone_so_far }

  option_sim : (f g : Option Runner) (run : Runner) → SimOption f g → f ≡ Some run → (also : Runner) × (g ≡ Some also) × SimRunner run also
  option_sim None None run h e = absurd (none-some run e)
  option_sim (Some f) (Some g) run h e = (g, refl, subst (λ (x : Runner). SimRunner x g) (same_Some f run e) h)
  option_sim None (Some g) run h e = absurd h
  option_sim (Some f) None run h e = absurd h

  include_rest : (also : Option Runner) (path : List ℕ) (from : Origin) (at : Spot) (file : List ℕ) (p q : Progress) → Comes q → (run others : Runner) → also ≡ Some others → SimRunner run others → (bytes : List ℕ) → file_at files file ≡ Some bytes →
      run file from bytes (with_included p file) ≡ Ok q → list_any (bytes_eq file) p.included ≡ false → Simulated p q (include_file other_files also path from at file)
  unfolding include_file
  include_rest also path from at file p q comes run others is sim bytes found e new =
      let both = sim file from bytes (with_included p file) q e comes in
      let away = opened_other p file (comes_included p file both.0) in
      let s = both.1 (other_path file away) in
      record {
        comes = comes_opened p file (comes_included p file s.comes);
        extends = record { segment = s.extends.segment; seen = s.extends.seen; others = s.extends.others };
        goes = λ k rel.
            let next : Progress = with_included k file in
            let related : Related (with_included p file) next = record { included = ap (λ xs. with_path xs file) rel.included; fits = rel.fits; nested = rel.nested; like = rel.like } in
            let t = s.goes next related in (
              t.0,
              ap (λ xs. if list_any (bytes_eq file) xs then Ok k else (or_fault k path at IncludeDepth also >>= λ run. or_fault k path at FileAbsent (file_at other_files file) >>= λ bytes. run file from bytes (with_included k file))) rel.included
                  ∙ ap (λ c. if c then Ok k else (or_fault k path at IncludeDepth also >>= λ run. or_fault k path at FileAbsent (file_at other_files file) >>= λ bytes. run file from bytes (with_included k file))) new
                  ∙ ran_step _ _ others (ok_fault k path at IncludeDepth also others is) ∙ ran_step _ _ bytes (ok_fault k path at FileAbsent (file_at other_files file) bytes (file-same file bytes away found)) ∙ t.1,
              t.2,
            );
      }

  include_sim : (deeper also : Option Runner) → SimOption deeper also → (path : List ℕ) (from : Origin) (at there : Spot) (file : List ℕ) (p q : Progress) → include_file files deeper path from at file p ≡ Ok q → Comes q → Simulated p q (include_file other_files also path from there file)
  unfolding include_file
  include_sim deeper also sim path from at there file p q e comes = go (list_any (bytes_eq file) p.included) refl e
    where
      go : (b : Bool) → list_any (bytes_eq file) p.included ≡ b →
          (if b then Ok p else (or_fault p path at IncludeDepth deeper >>= λ run. or_fault p path at FileAbsent (file_at files file) >>= λ bytes. run file from bytes (with_included p file))) ≡ Ok q →
          Simulated p q (include_file other_files also path from there file)
      go true b e =
          let s = same_sim p q e comes in
          record {
            comes = s.comes;
            extends = s.extends;
            goes = λ k rel.
                let t = s.goes k rel in (
                  t.0,
                  ap (λ xs. if list_any (bytes_eq file) xs then Ok k else (or_fault k path there IncludeDepth also >>= λ run. or_fault k path there FileAbsent (file_at other_files file) >>= λ bytes. run file from bytes (with_included k file))) rel.included
                      ∙ ap (λ c. if c then Ok k else (or_fault k path there IncludeDepth also >>= λ run. or_fault k path there FileAbsent (file_at other_files file) >>= λ bytes. run file from bytes (with_included k file))) b ∙ t.1,
                  t.2,
                );
          }
      go false b e =
          let run = ran_bind (or_fault p path at IncludeDepth deeper) _ q e in
          let bytes = ran_bind (or_fault p path at FileAbsent (file_at files file)) _ q run.2 in
          let runs = option_sim deeper also run.0 sim (fault_ok p path at IncludeDepth deeper run.0 run.1) in
          include_rest also path from there file p q comes run.0 runs.0 runs.1 runs.2 bytes.0 (fault_ok p path at FileAbsent (file_at files file) bytes.0 bytes.1) bytes.2 b

  pub nothing_sim : SimOpener open_nothing open_nothing
  nothing_sim path from at there what p q e comes = same_sim p q e comes

  pub reference_begun : (st new : State) → begin_reference st ≡ Ok new → (st.has_reference ≡ false) × (new ≡ record st { has_reference = true })
  unfolding begin_reference
  reference_begun st new e = go st.has_reference refl e
    where
      go : (b : Bool) → st.has_reference ≡ b → (if b then Err SecondReference else Ok (record st { has_reference = true })) ≡ Ok new → (st.has_reference ≡ false) × (new ≡ record st { has_reference = true })
      go true b e = absurd (err_is_not_ok SecondReference new e)
      go false b e = (b, sym (ok_injective _ new e))

  pub begins : (st : State) → st.has_reference ≡ false → begin_reference st ≡ Ok (record st { has_reference = true })
  unfolding begin_reference
  begins st e = ap (λ b. if b then Err SecondReference else Ok (record st { has_reference = true })) e

  pub related_reference : (p k : Progress) (file : List ℕ) (st : State) → st ≡ record p.state { has_reference = true } → Related p k → Related (record (with_opened p file) { state = st }) (record (with_opened k file) { state = record k.state { has_reference = true } })
  related_reference p k file st e rel =
      subst (λ (x : State). Related (record (with_opened p file) { state = x }) (record (with_opened k file) { state = record k.state { has_reference = true } })) (sym e)
      (record { included = rel.included; fits = rel.fits; nested = rel.nested; like = like-reference N (scopes_of p) p.state k.state rel.like })

  refer_sim : (path : List ℕ) (at there : Spot) (file : List ℕ) (p q : Progress) → refer_to_file files path at file p ≡ Ok q → Comes q → Simulated p q (refer_to_file other_files path there file)
  unfolding refer_to_file run_reference begin_reference
  refer_sim path at there file p q e comes =
      let st = ran_bind (placed p path at (begin_reference p.state)) _ q e in
      let bytes = ran_bind (or_fault p path at FileAbsent (file_at files file)) _ q st.2 in
      let begun = reference_begun p.state st.0 (placed_ok p path at (begin_reference p.state) st.0 st.1) in
      let now : Progress = record (with_opened p file) { state = st.0 } in
      let later = commands_come open_nothing open_nothing nothing_sim file origin.Reference (commands_of false bytes.0) now q bytes.2 comes in
      let here : Comes (with_opened p file) = record { later_seen = later.later_seen; seen = later.seen; alone_so_far = later.alone_so_far } in
      let away = opened_other p file here in
      let s = commands_sim open_nothing open_nothing nothing_sim file origin.Reference (other_path file away) (commands_of false bytes.0) now q bytes.2 comes in
      record {
        comes = comes_opened p file here;
        extends = record { segment = s.extends.segment; seen = s.extends.seen; others = s.extends.others };
        goes = λ k rel.
            let next : Progress = record (with_opened k file) { state = record k.state { has_reference = true } } in
            let related : Related now next = related_reference p k file st.0 begun.1 rel in
            let t = s.goes next related in (
              t.0,
              ran_step _ _ (record k.state { has_reference = true }) (ok_placed k path there (begin_reference k.state) (record k.state { has_reference = true }) (begins k.state (reference-like N (scopes_of p) p.state k.state rel.like ∙ begun.0)))
                  ∙ ran_step _ _ bytes.0 (ok_fault k path there FileAbsent (file_at other_files file) bytes.0 (file-same file bytes.0 away (fault_ok p path at FileAbsent (file_at files file) bytes.0 bytes.1))) ∙ t.1,
              t.2,
            );
      }

  pub open_sim : (deeper also : Option Runner) → SimOption deeper also → SimOpener (open_file files deeper) (open_file other_files also)
  unfolding open_file
  open_sim deeper also sim path from at there next.Done p q e comes = same_sim p q e comes
  open_sim deeper also sim path from at there next.Exit p q e comes = same_sim p q e comes
  open_sim deeper also sim path from at there (next.Include name) p q e comes =
      let file = ran_bind (or_fault p path at BadPath (fold_path path name)) _ q e in
      let s = include_sim deeper also sim path from at there file.0 p q file.2 comes in
      record { comes = s.comes; extends = s.extends; goes = λ k rel. let t = s.goes k rel in (t.0, ran_step _ _ file.0 (ok_fault k path there BadPath (fold_path path name) file.0 (fault_ok p path at BadPath (fold_path path name) file.0 file.1)) ∙ t.1, t.2) }
  open_sim deeper also sim path from at there (next.Reference name) p q e comes =
      let file = ran_bind (or_fault p path at BadPath (fold_path path name)) _ q e in
      let s = refer_sim path at there file.0 p q file.2 comes in
      record { comes = s.comes; extends = s.extends; goes = λ k rel. let t = s.goes k rel in (t.0, ran_step _ _ file.0 (ok_fault k path there BadPath (fold_path path name) file.0 (fault_ok p path at BadPath (fold_path path name) file.0 file.1)) ∙ t.1, t.2) }

  pub file_sim : (deeper also : Option Runner) → SimOption deeper also → SimRunner (run_file files deeper false) (run_file other_files also false)
  unfolding run_file
  file_sim deeper also sim path from bytes p q e comes = (
    commands_come (open_file files deeper) (open_file other_files also) (open_sim deeper also sim) path from (commands_of false bytes) p q e comes,
    λ other. commands_sim (open_file files deeper) (open_file other_files also) (open_sim deeper also sim) path from other (commands_of false bytes) p q e comes,
  )

  pub runners_sim : (left : ℕ) → SimOption (included_runner files left) (included_runner other_files left)
  unfolding included_runner
  runners_sim zero = tt
  runners_sim (suc left) = file_sim (included_runner files left) (included_runner other_files left) (runners_sim left)
