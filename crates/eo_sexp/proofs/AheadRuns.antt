-- A token that begins at the front of some bytes, with the byte after its plain bytes.
use Rattle.std.proofs.Common.{◌≡◌, ◌≢◌, refl, ℕ, zero, suc, ◌+◌, ◌-◌, ◌≤◌, ◌<◌, true, false, List, [], ◌∷◌, ◌++◌, length, length-append, length-drop, length-take-le, take, take-take, drop, get_or, get_or-take, get_or-drop, All, sym, ap, ◌∙◌, append_assoc, subst, arith}
use Rattle.std.specs.Prelude.{Result, Ok, Err, OnOk, IfOk, ◌==◌, if◌then◌else◌}
use Rattle.std.specs.List.{slice_range}
use Rattle.std.proofs.Math.Seq.{drop-append_seam}
use Rattle.std.proofs.lemmas.List.{take_more}
use Rattle.eo_sexp.specs.Texts.{spot_after}
use Rattle.eo_sexp.proofs.Building.{slice-append}
use Rattle.eo_base.specs.Limits.{Limits}
use Rattle.eo_sexp.specs.declared.token.Token.{Token}
use Rattle.eo_sexp.specs.declared.token.Token.TheVariants as token
use Rattle.eo_sexp.specs.declared.reader.Position.TheVariants as position
use Rattle.eo_sexp.specs.declared.reader.Reader.{Reader}
use Rattle.eo_sexp.specs.declared.reader.ReaderTurn.{ReaderTurn}
use Rattle.eo_sexp.specs.declared.reader.ReaderTurn.TheVariants as turn
use Rattle.eo_sexp.specs.Lexicon.{kind_of, Space, Quote, Bar, class, is_space}
use Rattle.eo_sexp.specs.Sexp.{Sexp, Atom}
use Rattle.eo_sexp.specs.Nodes.{token_text}
use Rattle.eo_sexp.specs.Built.{OpenList, Built, with_byte, with_child, behind_child}
use Rattle.eo_sexp.specs.declared.token.TokenTurn.TheVariants as turns_to
use Rattle.eo_sexp.specs.Token.{token_class, is_plain, go_on, token_turn}
use Rattle.eo_sexp.proofs.OpenFrames.{adds-inner}
use Rattle.eo_sexp.specs.Reader.{held, IsAtom, reading, IsReader, AddsChild, atom_of, BeginsToken, Turns, FirstOf, IsFirstOf, IsAhead, RunsTo, StopsAt, Runs}
use Rattle.eo_sexp.proofs.RunSteps.{line_feeds, runs-none, runs-one, runs-on, runs-trans}
use Rattle.eo_sexp.proofs.TokenRuns.{token-runs}
use Rattle.eo_sexp.proofs.TokenBegins.{word_begins, bar_begins, quote_begins}
use Rattle.eo_sexp.proofs.TokenPositions.{text-first, text-none}
use Rattle.eo_sexp.proofs.ReaderSteps.{turns-atom, turns-space, turns-ends, token-turned, stands-as, ended-reader}

pub both-ok : {T E : Type 0} (r : Result T E) (A : Type 0) (P Q : T → Type 0) → ((t : T) → A → P t → Q t) → OnOk r A → IfOk r P → IfOk r Q
both-ok (Ok t) A P Q f a p = f t a p
both-ok (Err e) A P Q f a p = tt

-- a child changes no byte
pub child-bytes : (b : Built) (s : Sexp) → (with_child b s).bytes ≡ b.bytes
child-bytes b s = go b.open_lists
  where
    go : (fs : List OpenList) → (behind_child b.bytes fs b.done s).bytes ≡ b.bytes
    go [] = refl
    go (f ∷ fs) = refl

pub child-lists : (b : Built) (s : Sexp) → length (with_child b s).open_lists ≡ length b.open_lists
child-lists b s = go b.open_lists
  where
    go : (fs : List OpenList) → length (behind_child b.bytes fs b.done s).open_lists ≡ length fs
    go [] = refl
    go (f ∷ fs) = refl

-- such a byte ends a word
word-ends : (limits : Limits) (k x : ℕ) → is_plain token.Word x ≡ false → turns_to.Ends ≡ token_turn limits k token.Word x
unfolding token_turn is_plain
word-ends limits k x e = ap (λ b. if b then go_on limits k token.Word else turns_to.Ends) (sym e)

no-feed : (x : ℕ) → x ≢ 10 → line_feeds x + 0 ≡ 0
no-feed x h = let other : (x == 10) ≡ false = grind (arith, h) in ap (λ b. (if b then 1 else 0) + 0) other

-- in the token that begins at this byte
abbrev pub in_token : Token → (from : ℕ) → Reader
in_token t from = record { position = position.Token t; from = from }

first-atom : (t : Token) → IsAtom (token_class t)
first-atom token.Word = tt
first-atom (token.Text closed) = tt
first-atom token.Quoted = tt

first-line : (x : ℕ) (t : Token) → class x ≡ token_class t → x ≢ 10
unfolding class is_space
first-line x t e = λ same. go t (subst (λ y. class y ≡ token_class t) same e)
  where
    go : (t : Token) → class 10 ≡ token_class t → ⊥
    go token.Word e = cc
    go (token.Text closed) e = cc
    go token.Quoted e = cc

space-class : class 32 ≡ Space
unfolding class is_space
space-class = refl

pub bar-class : class 124 ≡ Bar
unfolding class is_space
bar-class = refl

pub quote-class : class 34 ≡ Quote
unfolding class is_space
quote-class = refl

module _ (limits : Limits) (some : 1 ≤ limits.token) where
  begins : (b : Built) (r : Reader) (t : Token) (x : ℕ) → FirstOf x t → BeginsToken limits (held b r) (length b.bytes) x (held (with_byte b x) (in_token t (length b.bytes)))
  begins b r token.Word x f = word_begins limits some (held b r) (held (with_byte b x) (in_token token.Word (length b.bytes))) (length b.bytes) x refl refl refl refl (text-first b.bytes x (length b.bytes) refl) f.class
  begins b r token.Quoted x f = bar_begins limits some (held b r) (held (with_byte b x) (in_token token.Quoted (length b.bytes))) (length b.bytes) x refl refl refl refl (text-none b.bytes x (length b.bytes) refl) f.class
  begins b r (token.Text false) x f = quote_begins limits some (held b r) (held (with_byte b x) (in_token (token.Text false) (length b.bytes))) (length b.bytes) x refl refl refl refl (text-none b.bytes x (length b.bytes) refl) f.class
  begins b r (token.Text true) x f = absurd (f.begun refl)

  ahead_runs : (b c : Built) (r : Reader) (t : Token) (x : ℕ) (ys : List ℕ) (m : ℕ) → IsReader limits (held b r) (length b.bytes) → IsFirstOf r x t → IsAhead limits b t (x ∷ ys) (suc m) → c ≡ record b { bytes = b.bytes ++ x ∷ take m ys } →
      RunsTo limits b r (x ∷ ys) (suc m) 0 c (in_token t (length b.bytes))
  ahead_runs b c r t x ys m h f a same =
      let v : Built = with_byte b x in
      let s : Reader = in_token t (length b.bytes) in
      let rest : suc m - 1 ≡ m = omega arith in
      let long : length v.bytes ≡ length b.bytes + 1 = length-append b.bytes (x ∷ []) in
      let one = runs-one limits b b v r s x ys (omega (arith, a.fits)) refl refl
      (turns-atom limits (held b r) (held v s) (length b.bytes) x h f.gap a.room (subst IsAtom (sym f.first.class) (first-atom t)) (begins b r t x f.first)) in
      let two = token-runs limits v c s t ys m refl one.reader (same ∙ ap (λ (bs : List ℕ). record b { bytes = bs }) (sym (append_assoc b.bytes (x ∷ []) (take m ys))))
      (omega (arith, a.more)) (subst (λ k. All (λ y. is_plain t y ≡ true) (take k ys)) rest a.plain) (omega (arith, a.short, long)) (omega (arith, a.fits, long)) in
      let all : 1 + m ≡ suc m = omega arith in
      subst (λ n. RunsTo limits b r (x ∷ ys) n 0 c s) all
      (subst (λ i. RunsTo limits b r (x ∷ ys) (1 + m) i c s) (no-feed x (first-line x t f.first.class)) (runs-trans limits b v c r s s (x ∷ ys) 1 m (line_feeds x) 0 one two))

  pub ahead-runs : (b c : Built) (r : Reader) (t : Token) (rest : List ℕ) (n : ℕ) → IsReader limits (held b r) (length b.bytes) → IsFirstOf r (get_or rest 0 0) t → IsAhead limits b t rest n → c ≡ record b { bytes = b.bytes ++ take n rest } →
      RunsTo limits b r rest n 0 c (in_token t (length b.bytes))
  ahead-runs b c r t rest zero h f a same = absurd (omega (arith, a.some))
  ahead-runs b c r t [] (suc m) h f a same = absurd (omega (arith, a.more))
  ahead-runs b c r t (x ∷ ys) (suc m) h f a same = ahead_runs b c r t x ys m h f a same

  module _ (b c d : Built) (r : Reader) (rest : List ℕ) (n at : ℕ) (h : IsReader limits (held b r) (length b.bytes)) (size : length b.bytes ≡ at) (f : IsFirstOf r (get_or rest 0 0) token.Word) (a : IsAhead limits b token.Word rest n)
      (same : c ≡ record b { bytes = b.bytes ++ take n rest }) (atom : d ≡ with_child c (Atom (kind_of (take n rest)) (token_text c.bytes false at (at + n)) (record { from = at; to = at + n }))) where
    abbrev word : Reader
    word = in_token token.Word (length b.bytes)

    word_run : RunsTo limits b r rest n 0 c word
    word_run = ahead-runs b c r token.Word rest n h f a same

    word_bytes : c.bytes ≡ b.bytes ++ take n rest
    word_bytes = (word_run).bytes

    word_long : length c.bytes ≡ at + n
    word_long = omega (arith, ap length word_bytes, length-append b.bytes (take n rest), length-take-le n rest (word_run).within, size)

    abbrev word_child : Sexp
    word_child = atom_of (held c word) token.Word (length c.bytes)

    word_added : AddsChild limits c word_child d false
    word_added =
        let from : length b.bytes + 0 ≡ length b.bytes = omega arith in
        let tail : drop (length b.bytes) c.bytes ≡ take n rest = ap (drop (length b.bytes)) word_bytes ∙ drop-append_seam b.bytes (take n rest) in
        let text : drop (length b.bytes + 0) c.bytes ≡ take n rest = ap (λ k. drop k c.bytes) from ∙ tail in
        let count : at + n - at ≡ n = omega arith in
        let slice : slice_range c.bytes at (at + n) ≡ take n rest =
        ap (λ k. take k (drop at c.bytes)) count ∙ ap (λ k. take n (drop k c.bytes)) (sym size) ∙ ap (take n) tail ∙ take-take n n rest (omega arith) in
        let same_child : Atom (kind_of (take n rest)) (slice_range c.bytes at (at + n)) (record { from = at; to = at + n }) ≡ word_child =
        ap (λ l. Atom (kind_of (take n rest)) l (record { from = at; to = at + n })) slice
        ∙ ap (λ l. Atom (kind_of l) l (record { from = at; to = at + n })) (sym text)
        ∙ ap (λ k. Atom (kind_of (drop (length b.bytes + 0) c.bytes)) (drop (length b.bytes + 0) c.bytes) (record { from = k; to = at + n })) (sym size)
        ∙ ap (λ k. Atom (kind_of (drop (length b.bytes + 0) c.bytes)) (drop (length b.bytes + 0) c.bytes) (record { from = length b.bytes; to = k })) (sym word_long) in
        let new : d ≡ with_child c word_child = atom ∙ ap (with_child c) same_child in
        let within : 0 < length b.open_lists = stands-as limits (held b r) (length b.bytes) position.Gap f.gap h in
        let lists : length (with_child c word_child).open_lists ≡ length b.open_lists = child-lists c word_child ∙ ap (λ (v : Built). length v.open_lists) same in
        subst (λ (v : Built). AddsChild limits c word_child v false) (sym new) (adds-inner limits c word_child (omega (arith, within, lists)))

    pub word_reader : IsReader limits (held d r) (at + n)
    word_reader = subst (IsReader limits (held d r)) word_long (ended-reader limits (held c word) (held d r) token.Word (length c.bytes) (length c.bytes) (word_run).reader refl f.gap word_added)

    -- a word, and the byte after it
    pub word-stops : (E : Type 0) (e : Built) (s : Reader) (result : Result ReaderTurn E) → is_plain token.Word (get_or rest n 0) ≡ false → OnOk result (e.bytes ≡ d.bytes) →
        IfOk result (λ t. Turns limits (held d r) (at + n) (get_or rest n 0) t (held (with_byte e (get_or rest n 0)) s)) → IfOk result (λ t. StopsAt limits b r rest n 0 t e s)
    word-stops E e s result ends kept turns =
        let x : ℕ = get_or rest n 0 in
        both-ok result _ _ _
        (λ t k u. record {
          buffer = c;
          reader = word;
          run = word_run;
          more = a.more;
          bytes = k ∙ ap (λ (v : Built). v.bytes) atom ∙ child-bytes c _;
          turns = turns-ends limits (held c word) (held d r) (held (with_byte e x) s) token.Word (length c.bytes) x t (word_run).reader refl
              (token-turned limits (held c word) token.Word turns_to.Ends (length c.bytes) x (word_run).reader refl (word-ends limits (length c.bytes - length b.bytes) x ends))
              f.gap word_added (subst (λ i. Turns limits (held d r) i x t (held (with_byte e x) s)) (sym word_long) u);
        }) kept turns

module _ (limits : Limits) where
  -- the first byte decides
  pub stops-first : (b c : Built) (r s : Reader) (rest : List ℕ) (t : ReaderTurn) → IsReader limits (held b r) (length b.bytes) → length b.bytes < limits.command → 0 < length rest → c.bytes ≡ b.bytes →
      Turns limits (held b r) (length b.bytes) (get_or rest 0 0) t (held (with_byte c (get_or rest 0 0)) s) → StopsAt limits b r rest 0 0 t c s
  stops-first b c r s rest t h f m same u = record { buffer = b; reader = r; run = runs-none limits b r rest h (omega (arith, f)); more = m; bytes = same; turns = u }

  -- the byte that does not decide is kept
  pub goes-behind : (b c d : Built) (r s : Reader) (rest : List ℕ) (n i : ℕ) → StopsAt limits b r rest n i turn.Goes c s → length b.bytes + n < limits.command → d ≡ with_byte c (get_or rest n 0) → RunsTo limits b r rest (n + 1) (i + line_feeds (get_or rest n 0)) d s
  goes-behind b c d r s rest n i h f new =
      runs-on limits b h.buffer c d r h.reader s rest n i (length h.buffer.bytes) h.run h.more refl
      (omega (arith, f, ap length h.run.bytes, length-append b.bytes (take n rest), length-take-le n rest h.run.within)) h.bytes new h.turns

  stops-behind : (b c d : Built) (r s u : Reader) (rest : List ℕ) (n k i j : ℕ) (t : ReaderTurn) → RunsTo limits b r rest n i c s → StopsAt limits c s (drop n rest) k j t d u → StopsAt limits b r rest (n + k) (i + j) t d u
  stops-behind b c d r s u rest n k i j t h g =
      let at : get_or (drop n rest) k 0 ≡ get_or rest (n + k) 0 = get_or-drop n rest k 0 in
      record {
        buffer = g.buffer;
        reader = g.reader;
        run = runs-trans limits b c g.buffer r s g.reader rest n k i j h g.run;
        more = omega (arith, g.more, length-drop n rest, h.within);
        bytes = g.bytes;
        turns = subst (λ x. Turns limits (held g.buffer g.reader) (length g.buffer.bytes) x t (held (with_byte d x) u)) at g.turns;
      }

  both_runs : (b c d : Built) (r s u : Reader) (rest : List ℕ) (n k i j : ℕ) (t : ReaderTurn) → RunsTo limits b r rest n i c s → Runs limits c s (drop n rest) k j t d u → ((i + j ≤ n + k) × (n + k ≤ length rest)) × Runs limits b r rest (n + k) (i + j) t d u
  both_runs b c d r s u rest n k i j turn.Goes h g = let all = runs-trans limits b c d r s u rest n k i j h g in ((all.counted, all.within), all)
  both_runs b c d r s u rest n k i j turn.Before h g = let all = stops-behind b c d r s u rest n k i j turn.Before h g in ((all.run.counted, all.run.within), all)
  both_runs b c d r s u rest n k i j turn.Whole h g = let all = stops-behind b c d r s u rest n k i j turn.Whole h g in ((all.run.counted, all.run.within), all)
  both_runs b c d r s u rest n k i j (turn.Fault name) h g = let all = stops-behind b c d r s u rest n k i j (turn.Fault name) h g in ((all.run.counted, all.run.within), all)

  -- after a run another, and what decides after it
  pub runs-behind : (b c d : Built) (r s u : Reader) (rest left : List ℕ) (n k i j : ℕ) (t : ReaderTurn) → RunsTo limits b r rest n i c s → left ≡ drop n rest → Runs limits c s left k j t d u →
      ((i + j ≤ n + k) × (n + k ≤ length rest)) × Runs limits b r rest (n + k) (i + j) t d u
  runs-behind b c d r s u rest left n k i j t h e g = both_runs b c d r s u rest n k i j t h (subst (λ l. Runs limits c s l k j t d u) e g)

  runs-first : (b c : Built) (r s : Reader) (rest : List ℕ) (m n i : ℕ) → m ≤ length rest → RunsTo limits b r (take m rest) n i c s → RunsTo limits b r rest n i c s
  runs-first b c r s rest m n i fits h =
      let few : n ≤ m = omega (arith, h.within, length-take-le m rest fits) in
      let same : take n (take m rest) ≡ take n rest = take-take n m rest few in
      record {
        within = omega (arith, few, fits);
        bytes = h.bytes ∙ ap (λ l. b.bytes ++ l) same;
        short = h.short;
        counted = h.counted;
        place = λ at. ap (spot_after at) (sym same) ∙ h.place at;
        reader = h.reader;
        reads = λ more. ap (λ l. reading limits (held b r) (length b.bytes) (l ++ more)) (sym same) ∙ h.reads more;
      }

  stops-in : (b c : Built) (r s : Reader) (rest : List ℕ) (m n i : ℕ) (t : ReaderTurn) → m ≤ length rest → StopsAt limits b r (take m rest) n i t c s → StopsAt limits b r rest n i t c s
  stops-in b c r s rest m n i t fits h =
      let at : get_or (take m rest) n 0 ≡ get_or rest n 0 = get_or-take m rest n 0 (omega (arith, h.more, length-take-le m rest fits)) in
      record {
        buffer = h.buffer;
        reader = h.reader;
        run = runs-first b h.buffer r h.reader rest m n i fits h.run;
        more = omega (arith, h.more, length-take-le m rest fits, fits);
        bytes = h.bytes;
        turns = subst (λ x. Turns limits (held h.buffer h.reader) (length h.buffer.bytes) x t (held (with_byte c x) s)) at h.turns;
      }

  -- a run over bytes at the front
  pub runs-part : (b c : Built) (r s : Reader) (rest : List ℕ) (m n i : ℕ) (t : ReaderTurn) → m ≤ length rest → Runs limits b r (take m rest) n i t c s → Runs limits b r rest n i t c s
  runs-part b c r s rest m n i turn.Goes fits h = runs-first b c r s rest m n i fits h
  runs-part b c r s rest m n i turn.Before fits h = stops-in b c r s rest m n i turn.Before fits h
  runs-part b c r s rest m n i turn.Whole fits h = stops-in b c r s rest m n i turn.Whole fits h
  runs-part b c r s rest m n i (turn.Fault name) fits h = stops-in b c r s rest m n i (turn.Fault name) fits h

module _ (limits : Limits) (some : 1 ≤ limits.token) where
  child-byte : (b : Built) (s : Sexp) (x : ℕ) → with_child (with_byte b x) s ≡ with_byte (with_child b s) x
  child-byte b s x = go b.open_lists
    where
      go : (fs : List OpenList) → behind_child (b.bytes ++ x ∷ []) fs b.done s ≡ with_byte (behind_child b.bytes fs b.done s) x
      go [] = refl
      go (f ∷ fs) = refl

  -- a word and a space
  pub word-space : (b v e : Built) (r : Reader) (rest : List ℕ) (n at : ℕ) → IsReader limits (held b r) (length b.bytes) → length b.bytes ≡ at → IsFirstOf r (get_or rest 0 0) token.Word → IsAhead limits b token.Word rest n →
      is_plain token.Word (get_or rest n 0) ≡ false → get_or rest n 0 ≡ 32 → v ≡ record b { bytes = b.bytes ++ take (n + 1) rest } → e ≡ with_child v (Atom (kind_of (take n rest)) (token_text v.bytes false at (at + n)) (record { from = at; to = at + n })) →
      RunsTo limits b r rest (n + 1) 0 e r
  word-space b v e r rest n at h size f a ends space whole atom =
      let x : ℕ = get_or rest n 0 in
      let c : Built = record b { bytes = b.bytes ++ take n rest } in
      let child : Sexp = Atom (kind_of (take n rest)) (token_text c.bytes false at (at + n)) (record { from = at; to = at + n }) in
      let d : Built = with_child c child in
      let stops = word-stops limits some b c d r rest n at h size f a refl refl (Unit {0}) d r (Ok turn.Goes) ends refl
      (turns-space limits (held d r) (held (with_byte d x) r) (at + n) x (word_reader limits some b c d r rest n at h size f a refl refl) f.gap refl refl f.gap (ap class space ∙ space-class)) in
      let long : length c.bytes ≡ at + n = omega (arith, length-append b.bytes (take n rest), length-take-le n rest (omega (arith, a.more)), size) in
      let more : v ≡ with_byte c x = whole ∙ ap (λ (l : List ℕ). record b { bytes = b.bytes ++ l }) (take_more rest n 0 a.more) ∙ ap (λ (l : List ℕ). record b { bytes = l }) (sym (append_assoc b.bytes (take n rest) (x ∷ []))) in
      let slice : token_text v.bytes false at (at + n) ≡ token_text c.bytes false at (at + n) =
      ap (λ (w : Built). slice_range w.bytes at (at + n)) more ∙ slice-append c.bytes (x ∷ []) at (at + n) (omega arith) (omega (arith, long)) in
      let same : e ≡ with_byte d x =
      atom ∙ ap (λ l. with_child v (Atom (kind_of (take n rest)) l (record { from = at; to = at + n }))) slice ∙ ap (λ w. with_child w child) more ∙ child-byte c child x in
      let lines : 0 + line_feeds x ≡ 0 = ap (λ y. 0 + line_feeds y) space in
      subst (λ i. RunsTo limits b r rest (n + 1) i e r) lines (goes-behind limits b d e r r rest n 0 stops (omega (arith, a.fits)) same)
