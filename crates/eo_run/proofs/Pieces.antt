-- A file that is read in pieces.
use Rattle.std.proofs.Common.{◌≡◌, refl, ℕ, zero, suc, ◌+◌, ◌-◌, ◌≤◌, ◌<◌, Bool, true, false, List, [], ◌∷◌, ◌++◌, length, take, drop, sym, ap, subst, ◌∙◌, arith, append_assoc, append-nil, length-append, length-take}
use Rattle.std.specs.Prelude.{Result, Ok, Err, Option, Some, None, nat_le, ◌≢◌}
use Rattle.std.proofs.Math.Seq.{take-append-add}
use Rattle.std.proofs.lemmas.List.{take-append-drop}
use Rattle.std.proofs.lemmas.Bool.Decides.{nat_tests}
use Rattle.eo_base.specs.declared.Fault.{Fault}
use Rattle.eo_base.specs.declared.FaultName.TheVariants.{FileLong}
use Rattle.eo_base.specs.Limits.{limits}
use Rattle.eo_io.specs.Library.{Files, Rest, ReadsBytes}
use Rattle.eo_sexp.specs.Spot.{Spot}
use Rattle.eo_sexp.specs.Texts.{spot_after, reads_all, reads_file}
use Rattle.eo_sexp.specs.Collecting.{Collecting, new_collector, here_of, IsLive, HasRoom}
use Rattle.eo_sexp.specs.Cutting.{rest_of, ReadsInPieces}
use Rattle.eo_sexp.specs.Answering.{AnswersAlone, end_of}
use Rattle.eo_session.specs.Notes as notes
use Rattle.eo_run.specs.Run.{Progress, Stopped, commands_of, refusal_at, stopped_at, run_commands}
use Rattle.eo_run.specs.Progress.{Point, progress_at, SeesAt}
use Rattle.eo_run.specs.Reading.{behind, at_end, Passes, StaysOpen}
use Rattle.eo_run.specs.Seen.{Seen}
use Rattle.eo_run.specs.Opening.{opener_of, run_source, run_bytes, LeadsIn, FailsIn, Told, StopsAs, IsFailing, IsTaken, IsLeft, TakesEnd, IsRead, RunsOpen, RunsBytes}
use Rattle.eo_session.specs.Numbered.{origin_of}
use Rattle.eo_run.specs.Answer.{Denotes}
use Rattle.eo_run.specs.declared.Verdict.{Verdict}
use Rattle.eo_run.specs.declared.Verdict.TheVariants as answer
use Rattle.eo_run.specs.declared.opening.Source.{Source}
use Rattle.eo_run.proofs.Running.{leads-refl, leads-trans, leads-finishes, leads-fails}

pub file_limit : limits.file ≡ 1099511627776
unfolding limits
file_limit = refl

take-nothing : (n : ℕ) → take {A = ℕ} n [] ≡ []
take-nothing zero = refl
take-nothing (suc n) = refl

leb-true : (m n : ℕ) → m ≤ n → nat_le m n ≡ true
leb-true m n h = grind (arith, nat_tests)

leb-false : (m n : ℕ) → n < m → nat_le m n ≡ false
leb-false m n h = grind (arith, nat_tests)

pub take-all : (n : ℕ) (xs : List ℕ) → length xs ≤ n → take n xs ≡ xs
take-all n [] h = take-nothing n
take-all zero (x ∷ xs) h = absurd (omega (arith, h))
take-all (suc n) (x ∷ xs) h = ap (λ ys. x ∷ ys) (take-all n xs (omega (arith, h)))

-- ---- the start

passes-nothing : (before : List Rest) → before ≢ [] → Passes before [] before
passes-nothing [] h = absurd (h refl)
passes-nothing (None ∷ others) h = (None, refl)
passes-nothing (Some file ∷ others) h = (file, refl, refl)

live-new : (wrapped : Bool) → IsLive (new_collector wrapped)
live-new wrapped = tt

pub reads-nothing : {O : Type 0} (tells : O → List notes.Seen → Type 0) (alone : AnswersAlone limits) (told : Option Files) (s : Source) (w : Point O) (c : Collecting) (left : ℕ) (before : List Rest) → before ≢ [] → left ≡ 1099511627776 → c ≡ new_collector s.wrapped →
    IsRead tells told s w w c left before before
reads-nothing tells alone told s w c left before h l e =
    let start : Collecting = new_collector s.wrapped in
    let taken : IsTaken tells told s w w start start [] = record {
      leads = λ files t seen sees. (seen, sees, leads-refl (opener_of files s.opens) s.path.now (origin_of s.from) (progress_at w seen) (behind start []));
      live = live-new s.wrapped;
      waiting = alone.begins s.wrapped;
      here = omega arith;
    } in
    record {
      bytes = [];
      count = omega (arith, l, file_limit);
      passes = passes-nothing before h;
      taken = subst (λ (x : Collecting). IsTaken tells told s w w start x []) (sym e) taken;
    }

-- ---- a piece

-- more bytes of the file opened last
passes-more : (n : ℕ) (buffer bytes : List ℕ) (before mid after : List Rest) → Passes before bytes mid → ReadsBytes n mid after buffer → Passes before (bytes ++ take n buffer) after
passes-more n buffer bytes [] mid after p r = absurd p
passes-more n buffer bytes (None ∷ others) mid after p r =
    let moved : ReadsBytes n (p.0 ∷ others) after buffer = subst (λ (m : List Rest). ReadsBytes n m after buffer) p.1 r in left p.0 moved
  where
    left : (rest : Rest) → ReadsBytes n (rest ∷ others) after buffer → Passes (None ∷ others) (bytes ++ take n buffer) after
    left None m = (m.1, m.2)
    left (Some rest) m = (Some (drop n rest), m.4)
passes-more n buffer bytes (Some file ∷ others) mid after p r =
    let moved : ReadsBytes n (Some p.0 ∷ others) after buffer = subst (λ (m : List Rest). ReadsBytes n m after buffer) p.2 r in
    (drop n p.0, p.1 ∙ ap (λ x. bytes ++ x) (sym (take-append-drop n p.0) ∙ ap (λ x. x ++ drop n p.0) (sym moved.1)) ∙ sym (append_assoc bytes (take n buffer) (drop n p.0)), moved.4)

-- the piece fits the buffer
pub piece-fits : (n : ℕ) (buffer : List ℕ) (mid after : List Rest) → ReadsBytes n mid after buffer → n ≤ length buffer
piece-fits n buffer [] after r = absurd r
piece-fits n buffer (None ∷ others) after r = r.0
piece-fits n buffer (Some rest ∷ others) after r = r.0

-- what is left when more bytes are put first
leads-later : (files : Files) (s : Source) (old new : Progress) (c d : Collecting) (bytes p : List ℕ) → LeadsIn files s old new (behind c bytes) (behind d []) → LeadsIn files s old new (behind c (bytes ++ p)) (behind d p)
leads-later files s old new c d bytes p h =
    let same : (closes : Bool) (more : List ℕ) → behind c (bytes ++ p) closes more ≡ behind c bytes closes (p ++ more) = λ closes more. ap (rest_of limits closes c) (append_assoc bytes p more) in
    record {
      runs = λ closes more. ap (λ x. run_source files s x old) (same closes more) ∙ h.runs closes (p ++ more);
      ends = λ closes more. ap end_of (same closes more) ∙ h.ends closes (p ++ more);
    }

module _ {O : Type 0} (tells : O → List notes.Seen → Type 0) where
  -- a piece after what was taken before
  taken-behind : (told : Option Files) (s : Source) (old st new : Point O) (c d e : Collecting) (bytes p : List ℕ) → IsTaken tells told s old st c d bytes → IsTaken tells told s st new d e p → IsTaken tells told s old new c e (bytes ++ p)
  taken-behind told s old st new c d e bytes p h k =
      record {
        leads = λ files t seen sees.
            let a = h.leads files t seen sees in
            let b = k.leads files t a.0 a.1 in (
              b.0,
              b.1,
              leads-trans (opener_of files s.opens) s.path.now (origin_of s.from) (progress_at old seen) (progress_at st a.0) (progress_at new b.0) (behind c (bytes ++ p)) (behind d p) (behind e [])
                  (leads-later files s (progress_at old seen) (progress_at st a.0) c d bytes p a.2) b.2,
            );
        live = k.live;
        waiting = k.waiting;
        here = omega (arith, h.here, k.here, length-append bytes p);
      }

  pub reads-piece : (told : Option Files) (s : Source) (old st new : Point O) (c d : Collecting) (left n : ℕ) (buffer p : List ℕ) (before mid after : List Rest) → IsRead tells told s old st c left before mid → ReadsBytes n mid after buffer →
      p ≡ take n buffer → n ≤ left → IsTaken tells told s st new c d p → IsRead tells told s old new d (left - n) before after
  reads-piece told s old st new c d left n buffer p before mid after h r e fits k =
      let size : length p ≡ n = ap length e ∙ length-take-le' n buffer (piece-fits n buffer mid after r) in
      record {
        bytes = h.bytes ++ p;
        count = omega (arith, h.count, length-append h.bytes p, size, fits);
        passes = subst (λ (x : List ℕ). Passes before (h.bytes ++ x) after) (sym e) (passes-more n buffer h.bytes before mid after h.passes r);
        taken = taken-behind told s old st new (new_collector s.wrapped) c d h.bytes p h.taken k;
      }
    where
      length-take-le' : (n : ℕ) (xs : List ℕ) → n ≤ length xs → length (take n xs) ≡ n
      length-take-le' n xs g = omega (arith, length-take n xs, g)

pub first-here : (wrapped : Bool) → (here_of (new_collector wrapped)).offset ≡ 0
unfolding spot_after
first-here wrapped = refl

pub has_room : {O : Type 0} (tells : O → List notes.Seen → Type 0) (told : Option Files) (s : Source) (old st : Point O) (c : Collecting) (left : ℕ) (before mid : List Rest) (p : List ℕ) → IsRead tells told s old st c left before mid → length p ≤ left → HasRoom c p
has_room tells told s old st c left before mid p h fits = omega (arith, h.count, h.taken.here, file_limit, fits, first-here s.wrapped)

-- ---- the whole file

-- the bytes that count, and how they are read
module _ (law : ReadsInPieces limits) (wrapped : Bool) (bytes rest : List ℕ) (left : ℕ) (count : length bytes + left ≡ limits.file) where
  abbrev start : Collecting
  start = new_collector wrapped

  counted : take limits.file (bytes ++ rest) ≡ bytes ++ take left rest
  counted = ap (λ n. take n (bytes ++ rest)) (sym count) ∙ take-append-add bytes rest left

  -- the file's commands are what the first collector leaves
  pub commands-of : (p more : List ℕ) → take left rest ≡ p ++ more → commands_of wrapped (bytes ++ rest) ≡ behind start (bytes ++ p) (nat_le (length (bytes ++ rest)) limits.file) more
  unfolding reads_file
  commands-of p more e =
      let closes : Bool = nat_le (length (bytes ++ rest)) limits.file in
      ap (reads_all limits closes wrapped) (counted ∙ ap (λ x. bytes ++ x) e ∙ sym (append_assoc bytes p more))
      ∙ sym (law.begins closes wrapped (bytes ++ p ++ more))

-- a part of a front
take-take : (m n : ℕ) (xs : List ℕ) → m ≤ n → take m (take n xs) ≡ take m xs
take-take zero n xs g = refl
take-take (suc m) zero xs g = absurd (omega (arith, g))
take-take (suc m) (suc n) [] g = refl
take-take (suc m) (suc n) (x ∷ xs) g = ap (λ ys. x ∷ ys) (take-take m n xs (omega (arith, g)))

-- what a read put into the buffer is the front of the file's rest
pub piece-is : (n : ℕ) (buffer : List ℕ) (mid after : List Rest) (rest : List ℕ) (others : List Rest) → ReadsBytes n mid after buffer → mid ≡ Some rest ∷ others → take n buffer ≡ take n rest
piece-is n buffer mid after rest others r e = (subst (λ (m : List Rest). ReadsBytes n m after buffer) e r).1

pub front-is : (m n : ℕ) (buffer : List ℕ) (mid after : List Rest) (rest : List ℕ) (others : List Rest) → ReadsBytes n mid after buffer → m ≤ n → mid ≡ Some rest ∷ others → take m buffer ≡ take m rest
front-is m n buffer mid after rest others r g e = sym (take-take m n buffer g) ∙ ap (take m) (piece-is n buffer mid after rest others r e) ∙ take-take m n rest g

-- ---- results for a run that stops

pub stops-weaker : (P Q : Stopped → Type 0) (H : List Seen → Type 0) (paths : List (List ℕ)) (v : Verdict) → ((stopped : Stopped) → P stopped → Q stopped) → StopsAs P H paths v → StopsAs Q H paths v
stops-weaker P Q H paths answer.Correct f h = absurd h
stops-weaker P Q H paths answer.Incomplete f h = absurd h
stops-weaker P Q H paths (answer.Loaded commands) f h = absurd h
stops-weaker P Q H paths (answer.Refused fault) f h = (h.0, f h.0 h.1, h.2, h.3)
stops-weaker P Q H paths answer.ReadFault f h = tt
stops-weaker P Q H paths answer.OutOfMemory f h = tt

module _ {O : Type 0} (tells : O → List notes.Seen → Type 0) where
  -- a run that is stopped within a piece
  pub stops-open : (law : ReadsInPieces limits) (told : Option Files) (s : Source) (old st new : Point O) (c : Collecting) (left m : ℕ) (p : List ℕ) (before mid : List Rest) → IsRead tells told s old st c left before mid →
      ((rest : List ℕ) (others : List Rest) → mid ≡ Some rest ∷ others → p ≡ take m rest) → m ≤ left → (v : Verdict) → Told told (λ files. IsFailing tells files s st new (behind c p) v) → RunsOpen tells told s (Err v) old new before
  stops-open law told s old st new c left m p [] mid h e fits v f = absurd h.passes
  stops-open law told s old st new c left m p (None ∷ others) mid h e fits v f = tt
  stops-open law told s old st new c left m p (Some file ∷ others) mid h e fits v f = λ files t seen sees.
      let a = h.taken.leads files t seen sees in
      stops-weaker (FailsIn files s (progress_at st a.0) (behind c p)) (λ stopped. run_bytes files s file (progress_at old seen) ≡ Err stopped) (SeesAt tells new) new.paths v
      (refuses files (progress_at old seen) (progress_at st a.0) a.2) (f files t a.0 a.1)
    where
      rest : List ℕ
      rest = h.passes.0

      more : List ℕ
      more = drop m (take left rest)

      front : take left rest ≡ p ++ more
      front = sym (take-append-drop m (take left rest)) ∙ ap (λ x. x ++ more) (take-take m left rest fits ∙ sym (e rest others h.passes.2))

      refuses : (files : Files) (a b : Progress) → LeadsIn files s a b (behind (new_collector s.wrapped) h.bytes) (behind c []) → (stopped : Stopped) → FailsIn files s b (behind c p) stopped → run_bytes files s file a ≡ Err stopped
      refuses files a b leads stopped g =
          let start : Collecting = new_collector s.wrapped in
          let closes : Bool = nat_le (length (h.bytes ++ rest)) limits.file in
          let reads = commands-of law s.wrapped h.bytes rest left h.count p more front in
          ap (λ x. run_source files s (commands_of s.wrapped x) a) h.passes.1 ∙ ap (λ x. run_source files s x a) reads
          ∙ (leads-fails (opener_of files s.opens) s.path.now (origin_of s.from) a b (behind start (h.bytes ++ p)) (behind c p) stopped (leads-later files s a b start c h.bytes p leads) g).fails closes more

  -- a file that ends within a piece
  pub left-open : (law : ReadsInPieces limits) (told : Option Files) (s : Source) (old st new : Point O) (c : Collecting) (left m : ℕ) (p : List ℕ) (before mid : List Rest) → IsRead tells told s old st c left before mid →
      ((rest : List ℕ) (others : List Rest) → mid ≡ Some rest ∷ others → p ≡ take m rest) → m ≤ left → IsLeft tells told s st new c p → (at : Spot) → RunsOpen tells told s (Ok at) old new before
  left-open law told s old st new c left m p [] mid h e fits k at = absurd h.passes
  left-open law told s old st new c left m p (None ∷ others) mid h e fits k at = tt
  left-open law told s old st new c left m p (Some file ∷ others) mid h e fits k at =
      let rest : List ℕ = h.passes.0 in
      let more : List ℕ = drop m (take left rest) in
      let start : Collecting = new_collector s.wrapped in
      let closes : Bool = nat_le (length (h.bytes ++ rest)) limits.file in
      let front : take left rest ≡ p ++ more = sym (take-append-drop m (take left rest)) ∙ ap (λ x. x ++ more) (take-take m left rest fits ∙ sym (e rest others h.passes.2)) in
      let reads = commands-of law s.wrapped h.bytes rest left h.count p more front in
      λ files t seen sees.
      let a = h.taken.leads files t seen sees in
      let b = k.finishes files t a.0 a.1 in
      let first = progress_at old seen in (
        b.0,
        b.1,
        ap (λ x. run_source files s (commands_of s.wrapped x) first) h.passes.1 ∙ ap (λ x. run_source files s x first) reads
            ∙ (leads-finishes (opener_of files s.opens) s.path.now (origin_of s.from) first (progress_at st a.0) (progress_at new b.0) (behind start (h.bytes ++ p)) (behind c p) (leads-later files s first (progress_at st a.0) start c h.bytes p a.2) b.2).runs closes more,
        λ other. absurd (other k.reference),
      )

  -- a file that is too long
  pub long-open : (law : ReadsInPieces limits) (told : Option Files) (s : Source) (old st new : Point O) (c d : Collecting) (left n : ℕ) (buffer p : List ℕ) (before mid after : List Rest) (fault : Fault) → IsRead tells told s old st c left before mid →
      ReadsBytes n mid after buffer → left < n → p ≡ take left buffer → IsTaken tells told s st new c d p → Denotes new.paths fault (refusal_at s.path.now (here_of d) FileLong) → RunsOpen tells told s (Err (answer.Refused fault)) old new before
  unfolding run_commands
  long-open law told s old st new c d left n buffer p [] mid after fault h r g e k at = absurd h.passes
  long-open law told s old st new c d left n buffer p (None ∷ others) mid after fault h r g e k at = tt
  long-open law told s old st new c d left n buffer p (Some file ∷ others) mid after fault h r g e k at =
      let rest : List ℕ = h.passes.0 in
      let start : Collecting = new_collector s.wrapped in
      let more = (subst (λ (m : List Rest). ReadsBytes n m after buffer) h.passes.2 r).2 in
      let front : take left rest ≡ p ++ [] = sym (front-is left n buffer mid after rest others r (omega (arith, g)) h.passes.2) ∙ sym e ∙ sym (append-nil p) in
      let closes : nat_le (length (h.bytes ++ rest)) limits.file ≡ false = leb-false _ _ (omega (arith, h.count, length-append h.bytes rest, more, g)) in
      let reads : commands_of s.wrapped file ≡ behind start (h.bytes ++ p) false [] = ap (commands_of s.wrapped) h.passes.1 ∙ commands-of law s.wrapped h.bytes rest left h.count p [] front ∙ ap (λ b. behind start (h.bytes ++ p) b []) closes in
      λ files t seen sees.
      let a = h.taken.leads files t seen sees in
      let b = k.leads files t a.0 a.1 in
      let first = progress_at old seen in
      let last = progress_at new b.0 in (
        stopped_at last s.path.now (here_of d) FileLong,
        ap (λ x. run_source files s x first) reads
            ∙ (leads-trans (opener_of files s.opens) s.path.now (origin_of s.from) first (progress_at st a.0) last (behind start (h.bytes ++ p)) (behind c p) (behind d []) (leads-later files s first (progress_at st a.0) start c h.bytes p a.2) b.2).runs false []
            ∙ ap (λ x. run_source files s x last) (law.long d k.live k.waiting),
        at,
        b.1,
      )

  -- a file that ends
  module _ (law : ReadsInPieces limits) (alone : AnswersAlone limits) (told : Option Files) (s : Source) (old st new : Point O) (c : Collecting) (file bytes rest : List ℕ) (left : ℕ)
      (count : length bytes + left ≡ limits.file) (is : file ≡ bytes ++ rest) (none : rest ≡ []) (taken : IsTaken tells told s old st (new_collector s.wrapped) c bytes) where
    size : length file ≤ limits.file
    size = let same = ap length is ∙ ap (λ x. length (bytes ++ x)) none ∙ ap length (append-nil bytes) in omega (arith, same, count)

    closed : nat_le (length file) limits.file ≡ true
    closed = leb-true (length file) limits.file size

    whole : commands_of s.wrapped file ≡ reads_all limits true s.wrapped file
    unfolding reads_file
    whole = ap (λ b. reads_all limits b s.wrapped (take limits.file file)) closed ∙ ap (reads_all limits true s.wrapped) (take-all limits.file file size)

    read : commands_of s.wrapped file ≡ behind (new_collector s.wrapped) (bytes ++ []) true []
    read =
        whole ∙ ap (reads_all limits true s.wrapped) (is ∙ ap (λ x. bytes ++ x) none) ∙ sym (law.begins true s.wrapped (bytes ++ []))
        ∙ ap (rest_of limits true (new_collector s.wrapped)) (sym (append-nil (bytes ++ [])))

    module _ (files : Files) (first mid : Progress) (h : LeadsIn files s first mid (behind (new_collector s.wrapped) bytes) (behind c [])) where
      leads : LeadsIn files s first mid (behind (new_collector s.wrapped) (bytes ++ [])) (behind c [])
      leads = leads-later files s first mid (new_collector s.wrapped) c bytes [] h

      ends : (stopped : Stopped) → FailsIn files s mid (at_end c) stopped → run_bytes files s file first ≡ Err stopped
      ends stopped g = ap (λ x. run_source files s x first) read ∙ leads.runs true [] ∙ g.fails true []

    pub ends-file : (r : Result Spot Verdict) → TakesEnd tells told s r st new c → Told told (λ files. RunsBytes tells files s r old new file)
    ends-file (Ok at) h = λ files t seen sees.
        let a = taken.leads files t seen sees in
        let b = h files t a.0 a.1 in
        let first = progress_at old seen in
        let on = leads files first (progress_at st a.0) a.2 in (
          b.0,
          b.1,
          ap (λ x. run_source files s x first) read ∙ on.runs true [] ∙ b.2.runs true [],
          λ other. alone.ends true s.wrapped file at (sym (ap end_of whole) ∙ ap end_of read ∙ on.ends true [] ∙ b.3 other),
        )
    ends-file (Err v) h = λ files t seen sees.
        let a = taken.leads files t seen sees in
        stops-weaker (FailsIn files s (progress_at st a.0) (at_end c)) (λ stopped. run_bytes files s file (progress_at old seen) ≡ Err stopped) (SeesAt tells new) new.paths v (ends files (progress_at old seen) (progress_at st a.0) a.2) (h files t a.0 a.1)

  pub ends-open : (law : ReadsInPieces limits) (alone : AnswersAlone limits) (told : Option Files) (s : Source) (old st new : Point O) (c : Collecting) (left n : ℕ) (buffer : List ℕ) (before mid after : List Rest) → IsRead tells told s old st c left before mid →
      ReadsBytes n mid after buffer → n ≡ 0 → (r : Result Spot Verdict) → TakesEnd tells told s r st new c → RunsOpen tells told s r old new before
  ends-open law alone told s old st new c left n buffer [] mid after h r e x k = absurd h.passes
  ends-open law alone told s old st new c left n buffer (None ∷ others) mid after h r e x k = tt
  ends-open law alone told s old st new c left n buffer (Some file ∷ others) mid after h r e x k =
      let none = (subst (λ (m : List Rest). ReadsBytes n m after buffer) h.passes.2 r).3.0 e in
      ends-file law alone told s old st new c file h.bytes h.passes.0 left h.count h.passes.1 none h.taken x k

-- ---- the open files

pub stays-passed : (before mid : List Rest) (bytes : List ℕ) → Passes before bytes mid → StaysOpen before mid
stays-passed [] mid bytes p = absurd p
stays-passed (None ∷ others) mid bytes p = p
stays-passed (Some file ∷ others) mid bytes p = (Some p.0, p.2)

pub stays-read : (n : ℕ) (buffer : List ℕ) (before mid after : List Rest) (bytes : List ℕ) → Passes before bytes mid → ReadsBytes n mid after buffer → StaysOpen before after
stays-read n buffer before mid after bytes p r = stays-passed before after (bytes ++ take n buffer) (passes-more n buffer bytes before mid after p r)
