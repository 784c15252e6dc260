-- Commands of a file that are written one after the other, each followed by a line feed, are read again.
use Rattle.std.proofs.Common.{◌≡◌, refl, ℕ, zero, suc, ◌+◌, ◌<◌, Bool, true, false, List, [], ◌∷◌, ◌++◌, length, take, drop, sym, ap, subst, ◌∙◌, arith}
use Rattle.std.specs.Prelude.{Option, Some, None, if◌then◌else◌, codes, ◌&&◌, nat_le}
use Rattle.std.proofs.Math.Seq.{drop-append-add}
use Rattle.eo_base.specs.declared.FaultName.{FaultName}
use Rattle.eo_base.specs.declared.FaultName.TheVariants.{CommandLong}
use Rattle.eo_base.specs.Limits.{Limits}
use Rattle.eo_sexp.specs.Spot.{Spot}
use Rattle.eo_sexp.specs.Sexp as sexps
use Rattle.eo_sexp.specs.Sexp.{Sexp, Sexps, NoSexp, Atom, Listed, Span}
use Rattle.eo_sexp.specs.Lexicon.{Class, Space, Word, Open, Close, class, is_space, Input, advance, Passed, pass, pass_byte, skip}
use Rattle.eo_sexp.specs.Commands.{Reading, Whole, Refused, Cut, ◌>>=◌, comes_first, front, prepend, and_others, listed, opened, at_most, turn, children, lists, sexp, command}
use Rattle.eo_sexp.specs.Texts.{Phase, Start, AfterUnsat, InPair, Plain, Next, Command, End, SoFar, Known, Held, hold, behind, begins_one_of, begins_pair, stripped, strip, after, end_of, is_extra, known, decided, from_token, from_front, answer, so_far, next_from, Placed, Reads, Then, Ends, placed, read_next, reads_from, spot_after}
use Rattle.eo_sexp.proofs.Passing.{at_byte}
use Rattle.eo_sexp.proofs.Parentheses.{no-unsat, no-paren}
use Rattle.eo_sexp.proofs.Stripped.{passed_moved, pass-moved}
use Rattle.eo_sexp.proofs.Wrappings.{stripped-none}

-- ---- the first child of a list

abbrev IsLead : Sexp → Type 0
IsLead (Atom kind text span) = Unit {0}
IsLead (Listed children span) = ⊥

-- a command, which begins with a word
abbrev pub IsWorded : Sexp → Type 0
IsWorded (Listed (sexps.Next (Atom kind text at) parts) span) = Unit {0}
IsWorded s = ⊥

abbrev HasLead : Sexps → Type 0
HasLead NoSexp = ⊥
HasLead (sexps.Next s ss) = IsLead s

-- no list that begins with an atom
abbrev NoLead : Reading Sexps → Type 0
NoLead (Whole ss rest) = HasLead ss → ⊥
NoLead (Refused name at) = Unit {0}
NoLead (Cut i) = Unit {0}

prepended : (children : Sexps) (span : Span) (r : Reading Sexps) → NoLead (r >>= prepend (Listed children span))
unfolding ◌>>=◌ prepend
prepended children span (Whole ss rest) = λ h. h
prepended children span (Refused name at) = tt
prepended children span (Cut i) = tt

list_lead : (r : Reading Sexps) (t : Input) (others : Input → Reading Sexps) → NoLead ((r >>= listed t) >>= and_others others)
unfolding ◌>>=◌ listed and_others
list_lead (Whole ss rest) t others = prepended ss _ (others rest)
list_lead (Refused name at) t others = tt
list_lead (Cut i) t others = tt

listed-whole : (r : Reading Sexps) (t rest : Input) (kids : Sexps) (span : Span) → (r >>= listed t) ≡ Whole (Listed kids span) rest → r ≡ Whole kids rest
unfolding ◌>>=◌ listed
listed-whole (Whole ss u) t rest kids span e = cc e
listed-whole (Refused name at) t rest kids span e = absurd (cc e)
listed-whole (Cut i) t rest kids span e = absurd (cc e)

pub limit-whole : {A : Type 0} (name : FaultName) (most : ℕ) (t : Input) (r : Reading A) (x : A) (rest : Input) → at_most name most t r ≡ Whole x rest → r ≡ Whole x rest
unfolding at_most
limit-whole name most t (Whole y u) x rest e = go (nat_le u.at (t.at + most)) e
  where
    go : (b : Bool) → (if b then Whole y u else Refused name (t.at + most)) ≡ Whole x rest → Whole y u ≡ Whole x rest
    go true e = e
    go false e = absurd (cc e)
limit-whole name most t (Refused n at) x rest e = go (comes_first n at name (t.at + most)) e
  where
    go : (b : Bool) → (if b then Refused n at else Refused name (t.at + most)) ≡ Whole x rest → Refused n at ≡ Whole x rest
    go true e = absurd (cc e)
    go false e = absurd (cc e)
limit-whole name most t (Cut i) x rest e = go (nat_le (length t.bytes) most) e
  where
    go : (b : Bool) → (if b then Cut i else Refused name (t.at + most)) ≡ Whole x rest → Cut i ≡ Whole x rest
    go true e = absurd (cc e)
    go false e = absurd (cc e)

is_lead : (ss : Sexps) (span : Span) → IsWorded (Listed ss span) → HasLead ss
is_lead (sexps.Next (Atom kind text at) parts) span h = tt
is_lead (sexps.Next (Listed children at) parts) span h = absurd h
is_lead NoSexp span h = absurd h

module _ (limits : Limits) where
  turn-open : (deeper : ℕ) (others : Option (Input → Reading Sexps)) (t : Input) (y : ℕ) (ys : List ℕ) → NoLead (turn limits (lists limits deeper) others t (y ∷ ys) Open)
  unfolding turn lists
  turn-open zero others t y ys = tt
  turn-open (suc deeper) None t y ys = tt
  turn-open (suc deeper) (Some others) t y ys = list_lead _ t others

  turn-close : (inner : Option (Input → Reading Sexp)) (others : Option (Input → Reading Sexps)) (t : Input) (y : ℕ) (ys : List ℕ) → NoLead (turn limits inner others t (y ∷ ys) Close)
  unfolding turn
  turn-close inner others t y ys = λ h. h

  -- the byte that the first child begins with
  front-child : (deeper : ℕ) (others : Option (Input → Reading Sexps)) (u rest : Input) (bytes : List ℕ) (kids : Sexps) → HasLead kids → turn limits (lists limits deeper) others u bytes (front bytes) ≡ Whole kids rest → begins_one_of (codes "()") bytes ≡ false
  unfolding begins_one_of front
  front-child deeper others u rest [] kids h e = refl
  front-child deeper others u rest (y ∷ ys) kids h e =
      no-paren y
      (λ o. subst NoLead e (subst (λ (c : Class). NoLead (turn limits (lists limits deeper) others u (y ∷ ys) c)) (sym o) (turn-open deeper others u y ys)) h)
      (λ o. subst NoLead e (subst (λ (c : Class). NoLead (turn limits (lists limits deeper) others u (y ∷ ys) c)) (sym o) (turn-close (lists limits deeper) others u y ys)) h)

  children-front : (deeper width : ℕ) (t rest : Input) (kids : Sexps) → HasLead kids → children limits (lists limits deeper) width t ≡ Whole kids rest → begins_one_of (codes "()") (pass false t.at t.bytes).rest.bytes ≡ false
  unfolding children skip
  children-front deeper zero t rest kids h e = front-child deeper None (pass false t.at t.bytes).rest rest (pass false t.at t.bytes).rest.bytes kids h e
  children-front deeper (suc width) t rest kids h e = front-child deeper (Some (children limits (lists limits deeper) width)) (pass false t.at t.bytes).rest rest (pass false t.at t.bytes).rest.bytes kids h e

  opened-front : (nesting : ℕ) (x : ℕ) (xs : List ℕ) (rest : Input) (kids : Sexps) (span : Span) → HasLead kids → opened (lists limits nesting) (record { at = 0; bytes = x ∷ xs }) ≡ Whole (Listed kids span) rest → begins_one_of (codes "()") (pass false 1 xs).rest.bytes ≡ false
  unfolding opened lists advance
  opened-front zero x xs rest kids span h e = absurd (cc e)
  opened-front (suc deeper) x xs rest kids span h e = children-front deeper limits.width (record { at = 1; bytes = xs }) rest kids h (listed-whole _ _ rest kids span e)

  command-front : (x : ℕ) (xs : List ℕ) (rest : Input) (kids : Sexps) (span : Span) → class x ≡ Open → IsWorded (Listed kids span) → command limits (x ∷ xs) ≡ Whole (Listed kids span) rest → begins_one_of (codes "()") (pass false 1 xs).rest.bytes ≡ false
  unfolding command front sexp
  command-front x xs rest kids span o w e =
      opened-front limits.nesting x xs rest kids span (is_lead kids span w)
      (subst (λ (c : Class). sexp limits c (record { at = 0; bytes = x ∷ xs }) ≡ Whole (Listed kids span) rest) o (limit-whole CommandLong limits.command (record { at = 0; bytes = x ∷ xs }) (sexp limits (class x) (record { at = 0; bytes = x ∷ xs })) (Listed kids span) rest e))

  -- so no outer pair begins there
  pair-not : (k x : ℕ) (xs : List ℕ) → begins_one_of (codes "()") (pass false 1 xs).rest.bytes ≡ false → begins_pair limits (record { at = k; bytes = x ∷ xs }) ≡ false
  unfolding begins_pair behind advance
  pair-not k x xs e =
      ap (λ (q : Passed). begins_one_of (codes "(") (x ∷ xs) && (begins_one_of (codes "()") q.rest.bytes && nat_le q.rest.at (k + limits.command))) (pass-moved k false 1 xs)
      ∙ ap (λ b. begins_one_of (codes "(") (x ∷ xs) && (b && nat_le (passed_moved k (pass false 1 xs)).rest.at (k + limits.command))) e
      ∙ both-false (begins_one_of (codes "(") (x ∷ xs))
    where
      both-false : (b : Bool) → (b && false) ≡ false
      both-false true = refl
      both-false false = refl

  -- ---- what comes next

  -- after a line feed, or at the start
  abbrev pub lead : Bool → List ℕ
  lead true = 10 ∷ []
  lead false = []

  abbrev pub phase_at : Bool → Phase
  phase_at true = Plain
  phase_at false = Start

  pass-open : (at x : ℕ) (xs : List ℕ) → class x ≡ Open → pass false at (x ∷ xs) ≡ at_byte at x xs
  unfolding pass pass_byte
  pass-open at x xs o = rw (o, pass_byte) refl

  feed : class 10 ≡ Space
  unfolding class is_space
  feed = refl

  pass-feed : (xs : List ℕ) → pass false 0 (10 ∷ xs) ≡ pass false 1 xs
  unfolding pass pass_byte
  pass-feed xs = rw (feed, pass_byte) refl

  pass-lead : (b : Bool) (x : ℕ) (xs : List ℕ) → class x ≡ Open → pass false 0 (lead b ++ x ∷ xs) ≡ at_byte (length (lead b)) x xs
  pass-lead true x xs o = pass-feed (x ∷ xs) ∙ pass-open 1 x xs o
  pass-lead false x xs o = pass-open 0 x xs o

  no_word : (x : ℕ) → class x ≡ Open → class x ≡ Word → ⊥
  no_word x o w = cc (sym o ∙ w)

  start-held : (k x : ℕ) (xs : List ℕ) (r : Reading Sexp) → class x ≡ Open → begins_pair limits (record { at = k; bytes = x ∷ xs }) ≡ false → stripped limits 3 Start (at_byte k x xs) ≡ record { phase = Start; comment = false; rest = record { at = k; bytes = x ∷ xs } }
  unfolding stripped hold
  start-held k x xs r o p =
      ap (λ b. if b then stripped limits 2 AfterUnsat (behind 5 (record { at = k; bytes = x ∷ xs })) else if begins_pair limits (record { at = k; bytes = x ∷ xs }) then stripped limits 2 InPair (behind 1 (record { at = k; bytes = x ∷ xs })) else hold Start (at_byte k x xs))
      (no-unsat x xs (command limits (x ∷ xs)) (no_word x o))
      ∙ ap (λ b. if b then stripped limits 2 InPair (behind 1 (record { at = k; bytes = x ∷ xs })) else hold Start (at_byte k x xs)) p

  held-at : (b : Bool) (k x : ℕ) (xs : List ℕ) → class x ≡ Open → begins_pair limits (record { at = k; bytes = x ∷ xs }) ≡ false → stripped limits 3 (phase_at b) (at_byte k x xs) ≡ record { phase = phase_at b; comment = false; rest = record { at = k; bytes = x ∷ xs } }
  unfolding stripped hold
  held-at true k x xs o p = refl
  held-at false k x xs o p = start-held k x xs (Cut None) o p

  token-known : (b : Bool) (k x : ℕ) (xs : List ℕ) (s : Sexp) (rest : Input) → class x ≡ Open → command limits (x ∷ xs) ≡ Whole s rest →
      answer limits (record { phase = phase_at b; comment = false; rest = record { at = k; bytes = x ∷ xs } }) ≡ Known (Command s k rest.at Plain)
  unfolding answer from_front from_token is_extra known after
  token-known true k x xs s rest o e = ap (λ c. from_token limits (is_extra Plain c) Plain (record { at = k; bytes = x ∷ xs })) o ∙ ap (known Plain (record { at = k; bytes = x ∷ xs })) e
  token-known false k x xs s rest o e = ap (λ c. from_token limits (is_extra Start c) Start (record { at = k; bytes = x ∷ xs })) o ∙ ap (known Start (record { at = k; bytes = x ∷ xs })) e

  worded_is : (s : Sexp) → IsWorded s → (kids : Sexps) × (span : Span) × (s ≡ Listed kids span) × IsWorded (Listed kids span)
  worded_is (Listed kids span) h = (kids, span, refl, h)
  worded_is (Atom kind text span) h = absurd h

  pub next-again : (b : Bool) (x : ℕ) (xs : List ℕ) (s : Sexp) (rest : Input) → class x ≡ Open → IsWorded s → command limits (x ∷ xs) ≡ Whole s rest → next_from limits true (phase_at b) false (lead b ++ x ∷ xs) ≡ Command s (length (lead b)) rest.at Plain
  unfolding next_from so_far strip decided
  next-again b x xs s rest o w e =
      let l = worded_is s w in
      let pair = pair-not (length (lead b)) x xs (command-front x xs rest l.0 l.1 o l.3 (e ∙ ap (λ (y : Sexp). Whole y rest) l.2)) in
      ap (λ (p : Passed). decided true (length (lead b ++ x ∷ xs)) (answer limits (stripped limits 3 (phase_at b) p))) (pass-lead b x xs o)
      ∙ ap (λ (h : Held). decided true (length (lead b ++ x ∷ xs)) (answer limits h)) (held-at b (length (lead b)) x xs o pair)
      ∙ ap (λ (n : SoFar). decided true (length (lead b ++ x ∷ xs)) n) (token-known b (length (lead b)) x xs s rest o e)

  next-end : (b : Bool) → next_from limits true (phase_at b) false (lead b) ≡ End
  unfolding next_from so_far strip decided pass pass_byte class is_space answer from_front end_of stripped hold
  next-end true = refl
  next-end false = ap (λ (h : Held). decided true 0 (answer limits h)) (stripped-none limits Start false 0)

  -- ---- whole files

  -- a command that is read so from its own bytes, whatever follows them
  pub record Rereads (c : Placed) : Type 0 where
    pub first : ℕ
    pub others : List ℕ
    pub is : c.bytes ≡ first ∷ others
    pub opens : class first ≡ Open
    pub worded : IsWorded c.sexp
    pub again : (more : List ℕ) → command limits (first ∷ others ++ more) ≡ Whole c.sexp (record { at = suc (length others); bytes = more })

  abbrev pub AllReread : List Placed → Type 0
  AllReread [] = Unit {0}
  AllReread (c ∷ cs) = Rereads c × AllReread cs

  abbrev pub in_rows : List Placed → List ℕ
  in_rows [] = []
  in_rows (c ∷ cs) = c.bytes ++ 10 ∷ in_rows cs

  abbrev pub HasJust : Reads → List Placed → Type 0
  HasJust (Ends at) [] = Unit {0}
  HasJust (Then c others) (d ∷ ds) = (c.sexp ≡ d.sexp) × HasJust others ds
  HasJust reads ds = ⊥

  drop-lead : (b : Bool) (xs ys : List ℕ) → drop (length (lead b) + length xs) (lead b ++ (xs ++ ys)) ≡ ys
  drop-lead b xs ys = ap (λ n. drop n (lead b ++ (xs ++ ys))) refl ∙ drop-append-add (lead b) (xs ++ ys) (length xs) ∙ drop-seam xs
    where
      drop-seam : (zs : List ℕ) → drop (length zs) (zs ++ ys) ≡ ys
      drop-seam [] = refl
      drop-seam (z ∷ zs) = drop-seam zs

  row-read : (b : Bool) (c : Placed) (h : Rereads c) (rest : List ℕ) (turns : ℕ) (s : Spot) → (others : List Placed) → ((t : Spot) → HasJust (reads_from limits true turns Plain t (10 ∷ rest)) others) →
      HasJust (reads_from limits true (suc turns) (phase_at b) s (lead b ++ (c.bytes ++ 10 ∷ rest))) (c ∷ others)
  unfolding reads_from read_next placed
  row-read b c h rest turns s others next =
      let bytes : List ℕ = h.first ∷ h.others in
      let is : next_from limits true (phase_at b) false (lead b ++ (c.bytes ++ 10 ∷ rest)) ≡ Command c.sexp (length (lead b)) (suc (length h.others)) Plain =
      ap (λ bs. next_from limits true (phase_at b) false (lead b ++ (bs ++ 10 ∷ rest))) h.is
      ∙ next-again b h.first (h.others ++ 10 ∷ rest) c.sexp (record { at = suc (length h.others); bytes = 10 ∷ rest }) h.opens h.worded (h.again (10 ∷ rest)) in
      subst (λ (n : Next). HasJust (read_next (reads_from limits true turns) s (lead b ++ (c.bytes ++ 10 ∷ rest)) n) (c ∷ others)) (sym is) (
        refl,
        subst (λ (bs : List ℕ). HasJust (reads_from limits true turns Plain (spot_after s (take (length (lead b) + suc (length h.others)) (lead b ++ (c.bytes ++ 10 ∷ rest)))) bs) others)
            (sym (ap (λ bs. drop (length (lead b) + suc (length h.others)) (lead b ++ (bs ++ 10 ∷ rest))) h.is ∙ drop-lead b bytes (10 ∷ rest)))
            (next (spot_after s (take (length (lead b) + suc (length h.others)) (lead b ++ (c.bytes ++ 10 ∷ rest))))),
      )

  pub rows-read : (cs : List Placed) → AllReread cs → (b : Bool) (turns : ℕ) (s : Spot) → length cs < turns → HasJust (reads_from limits true turns (phase_at b) s (lead b ++ in_rows cs)) cs
  unfolding reads_from read_next
  rows-read cs h b zero s lt = absurd (omega (arith, lt))
  rows-read [] h true (suc turns) s lt = subst (λ (n : Next). HasJust (read_next (reads_from limits true turns) s (10 ∷ []) n) []) (sym (next-end true)) tt
  rows-read [] h false (suc turns) s lt = subst (λ (n : Next). HasJust (read_next (reads_from limits true turns) s [] n) []) (sym (next-end false)) tt
  rows-read (c ∷ cs) h b (suc turns) s lt = row-read b c h.0 (in_rows cs) turns s cs (λ t. rows-read cs h.1 true turns t (omega (arith, lt)))
