-- The bytes of a printed s-expression are read back as it.
use Rattle.std.proofs.Common.{◌≡◌, refl, ℕ, zero, suc, ◌+◌, ◌≤◌, Bool, true, false, List, [], ◌∷◌, ◌++◌, length, length-append, ap, sym, ◌∙◌, append_assoc, arith, subst}
use Rattle.std.specs.Prelude.{if◌then◌else◌, codes, Option, Some, None}
use Rattle.std.specs.List.{list_all}
use Rattle.std.proofs.lemmas.Bool.{and_parts}
use Rattle.eo_base.specs.declared.FaultName.TheVariants.{CommandLong}
use Rattle.eo_base.specs.Limits.{Limits}
use Rattle.eo_sexp.specs.AtomKind.{AtomKind}
use Rattle.eo_sexp.specs.AtomKind as kind
use Rattle.eo_sexp.specs.Sexp.{Sexp, Atom, Listed, Sexps, NoSexp, Next, Span}
use Rattle.eo_sexp.specs.Lexicon.{Class, Space, Open, Close, Quote, Bar, Word, class, Input, advance, pass, pass_byte, skip, is_space, is_word, kind_of}
use Rattle.eo_sexp.specs.Commands.{Reading, Whole, ◌>>=◌, at_most, atom, front, prepend, and_others, listed, opened, turn, children, lists, sexp, command}
use Rattle.eo_sexp.specs.Printing.{same_kind, is_word_of, in_bars, printed_atom, printed, printed_children, printed_others, span_of, placed, placed_children, placed_others, is_text_of, IsPrintable, AllPrintable, EndsToken, EndsBefore}
use Rattle.eo_sexp.specs.ReadBack.{CommandsReadBack}
use Rattle.eo_sexp.proofs.PrintedAtoms.{word-class, word-read, string-read, quoted-read}
use Rattle.eo_sexp.proofs.TokenTurns.{at_most-whole}

-- ---- what begins an atom or a list

abbrev pub IsFront : Class → Type 0
IsFront Open = Unit {0}
IsFront Quote = Unit {0}
IsFront Bar = Unit {0}
IsFront Word = Unit {0}
IsFront c = ⊥

abbrev IsAtomFront : Class → Type 0
IsAtomFront Quote = Unit {0}
IsAtomFront Bar = Unit {0}
IsAtomFront Word = Unit {0}
IsAtomFront c = ⊥

-- nothing is passed over before such a byte
pass-stays : (y at : ℕ) (ys : List ℕ) (c : Class) → class y ≡ c → IsFront c → pass false at (y ∷ ys) ≡ record { comment = false; rest = record { at = at; bytes = y ∷ ys } }
unfolding pass pass_byte
pass-stays y at ys c e h = ap (λ d. pass_byte false y d (λ c. pass c (suc at) ys) (record { comment = false; rest = record { at = at; bytes = y ∷ ys } })) e ∙ go c h
  where
    go : (c : Class) → IsFront c → pass_byte false y c (λ c. pass c (suc at) ys) (record { comment = false; rest = record { at = at; bytes = y ∷ ys } }) ≡ record { comment = false; rest = record { at = at; bytes = y ∷ ys } }
    go Open h = refl
    go Quote h = refl
    go Bar h = refl
    go Word h = refl
    go c h = elim h [ ]

-- bytes that begin with a token
pub record Fronted (bytes : List ℕ) : Type 0 where
  pub first : ℕ
  pub rest : List ℕ
  pub is : bytes ≡ first ∷ rest
  pub begins : IsFront (class first)

pub pass-fronted : (bytes : List ℕ) (at : ℕ) → Fronted bytes → pass false at bytes ≡ record { comment = false; rest = record { at = at; bytes = bytes } }
pass-fronted bytes at f = subst (λ bs. pass false at bs ≡ record { comment = false; rest = record { at = at; bytes = bs } }) (sym f.is) (pass-stays f.first at f.rest (class f.first) refl f.begins)

front-of-atom : (c : Class) → IsAtomFront c → IsFront c
front-of-atom Quote h = tt
front-of-atom Bar h = tt
front-of-atom Word h = tt
front-of-atom c h = elim h [ ]

-- ---- atoms

-- bytes that begin with an atom of a class, which is read from them
record AtomBack (limits : Limits) (bytes : List ℕ) (k : AtomKind) (text : List ℕ) (size : ℕ) (tail : List ℕ) : Type 0 where
  first : ℕ
  rest : List ℕ
  is : bytes ≡ first ∷ rest
  begins : IsAtomFront (class first)
  reads : (from : ℕ) → atom limits (class first) (record { at = from; bytes = bytes }) ≡ Whole (Atom k text (span_of from size)) (record { at = from + size; bytes = tail })

module _ (limits : Limits) where
  word-back : (k : AtomKind) (text : List ℕ) (x : ℕ) (more : List ℕ) → is_word_of k text ≡ true → length text ≤ limits.token → EndsToken x → AtomBack limits (text ++ x ∷ more) k text (length text) (x ∷ more)
  word-back k [] x more e fits ends = cc
  word-back k (y ∷ ys) x more e fits ends =
      let parts = and_parts (list_all is_word (y ∷ ys)) (same_kind (kind_of (y ∷ ys)) k) e in
      let c : class y ≡ Word = word-class y (and_parts (is_word y) (list_all is_word ys) parts.0).0 in
      record {
        first = y;
        rest = ys ++ x ∷ more;
        is = refl;
        begins = rw c tt;
        reads = λ from. rw c (word-read limits x more (y ∷ ys) parts.0 ends.0 fits from
            ∙ ap (λ j. Whole (Atom j (y ∷ ys) (span_of from (length (y ∷ ys)))) (record { at = from + length (y ∷ ys); bytes = x ∷ more })) (same (kind_of (y ∷ ys)) k parts.1));
      }
    where
      same : (a b : AtomKind) → same_kind a b ≡ true → a ≡ b
      same kind.Symbol kind.Symbol e = refl
      same kind.Keyword kind.Keyword e = refl
      same kind.Literal kind.Literal e = refl
      same kind.String kind.String e = refl
      same _ _ e = cc

  bar-class : class 124 ≡ Bar
  unfolding class is_space
  bar-class = refl

  quote-class : class 34 ≡ Quote
  unfolding class is_space
  quote-class = refl

  -- a token with a delimiter at each end
  delimited-back : (y : ℕ) (k : AtomKind) (text : List ℕ) (x : ℕ) (more : List ℕ) → IsAtomFront (class y) →
      ((from : ℕ) → atom limits (class y) (record { at = from; bytes = y ∷ text ++ y ∷ x ∷ more }) ≡ Whole (Atom k text (span_of from (2 + length text))) (record { at = from + (2 + length text); bytes = x ∷ more })) →
      AtomBack limits ((y ∷ text ++ y ∷ []) ++ x ∷ more) k text (length (y ∷ text ++ y ∷ [])) (x ∷ more)
  delimited-back y k text x more begins reads =
      let same : (text ++ y ∷ []) ++ x ∷ more ≡ text ++ y ∷ x ∷ more = append_assoc text (y ∷ []) (x ∷ more) in
      let size : 2 + length text ≡ length (y ∷ text ++ y ∷ []) = omega (arith, length-append text (y ∷ [])) in
      record {
        first = y;
        rest = (text ++ y ∷ []) ++ x ∷ more;
        is = refl;
        begins = begins;
        reads = λ from. ap (λ bs. atom limits (class y) (record { at = from; bytes = y ∷ bs })) same ∙ reads from
            ∙ ap (λ n. Whole (Atom k text (span_of from n)) (record { at = from + n; bytes = x ∷ more })) size;
      }

  atom-back : (k : AtomKind) (text : List ℕ) (x : ℕ) (more : List ℕ) → is_text_of k text ≡ true → length (printed_atom k text) ≤ limits.token → EndsToken x →
      AtomBack limits (printed_atom k text ++ x ∷ more) k text (length (printed_atom k text)) (x ∷ more)
  unfolding printed_atom
  atom-back kind.Symbol text x more e fits ends = go (is_word_of kind.Symbol text) refl fits
    where
      go : (b : Bool) → is_word_of kind.Symbol text ≡ b → length (if b then text else in_bars text) ≤ limits.token →
          AtomBack limits ((if b then text else in_bars text) ++ x ∷ more) kind.Symbol text (length (if b then text else in_bars text)) (x ∷ more)
      go true w few = word-back kind.Symbol text x more w few ends
      go false w few = delimited-back 124 kind.Symbol text x more (rw bar-class tt) (λ from. rw bar-class (quoted-read limits x more text e (omega (arith, length-append text (124 ∷ []))) from))
  atom-back kind.String text x more e fits ends =
      delimited-back 34 kind.String text x more (rw quote-class tt) (λ from. rw quote-class (string-read limits x more text e ends.1 (omega (arith, length-append text (34 ∷ []))) from))
  atom-back kind.Keyword text x more e fits ends = word-back kind.Keyword text x more e fits ends
  atom-back kind.Literal text x more e fits ends = word-back kind.Literal text x more e fits ends

  -- ---- turns

  turn-atom : (inner : Option (Input → Reading Sexp)) (others : Input → Reading Sexps) (t : Input) (y : ℕ) (ys : List ℕ) (c : Class) → IsAtomFront c →
      turn limits inner (Some others) t (y ∷ ys) c ≡ atom limits c t >>= and_others others
  unfolding turn
  turn-atom None others t y ys Quote h = refl
  turn-atom None others t y ys Bar h = refl
  turn-atom None others t y ys Word h = refl
  turn-atom (Some list) others t y ys Quote h = refl
  turn-atom (Some list) others t y ys Bar h = refl
  turn-atom (Some list) others t y ys Word h = refl
  turn-atom inner others t y ys c h = elim h [ ]

  -- what is here in a list is this child, and then others come
  abbrev TurnsTo : ℕ → Sexp → Type 0
  TurnsTo deeper s = (others : Input → Reading Sexps) (from : ℕ) (tail : List ℕ) → EndsBefore tail →
      turn limits (lists limits deeper) (Some others) (record { at = from; bytes = printed s ++ tail }) (printed s ++ tail) (front (printed s ++ tail))
      ≡ and_others others (placed from s) (record { at = from + length (printed s); bytes = tail })

  abbrev Stays : Sexp → Type 0
  Stays s = (from : ℕ) (tail : List ℕ) → EndsBefore tail → skip (record { at = from; bytes = printed s ++ tail }) ≡ record { at = from; bytes = printed s ++ tail }

  open-class : class 40 ≡ Open
  unfolding class is_space
  open-class = refl

  pub front-of : (deeper : ℕ) (s : Sexp) → IsPrintable limits deeper s → (tail : List ℕ) → EndsBefore tail → Fronted (printed s ++ tail)
  front-of deeper (Atom k text span) h [] ends = elim ends [ ]
  front-of deeper (Atom k text span) h (x ∷ more) ends =
      let back = atom-back k text x more h.0 h.1 ends in
      record { first = back.first; rest = back.rest; is = back.is; begins = front-of-atom (class back.first) back.begins }
  front-of deeper (Listed ss span) h tail ends = record { first = 40; rest = (printed_children ss ++ codes ")") ++ tail; is = refl; begins = rw open-class tt }

  stays : (deeper : ℕ) (s : Sexp) → IsPrintable limits deeper s → Stays s
  unfolding skip
  stays deeper s h from tail ends = ap (λ p. p.rest) (pass-fronted (printed s ++ tail) from (front-of deeper s h tail ends))

  atom-turns : (deeper : ℕ) (k : AtomKind) (text : List ℕ) (others : Input → Reading Sexps) (from x : ℕ) (more : List ℕ) → AtomBack limits (printed_atom k text ++ x ∷ more) k text (length (printed_atom k text)) (x ∷ more) →
      turn limits (lists limits deeper) (Some others) (record { at = from; bytes = printed_atom k text ++ x ∷ more }) (printed_atom k text ++ x ∷ more) (front (printed_atom k text ++ x ∷ more))
      ≡ and_others others (Atom k text (span_of from (length (printed_atom k text)))) (record { at = from + length (printed_atom k text); bytes = x ∷ more })
  unfolding ◌>>=◌ front
  atom-turns deeper k text others from x more back =
      let t : Input = record { at = from; bytes = printed_atom k text ++ x ∷ more } in
      ap (λ bs. turn limits (lists limits deeper) (Some others) t bs (front bs)) back.is
      ∙ turn-atom (lists limits deeper) others t back.first back.rest (class back.first) back.begins
      ∙ ap (λ r. r >>= and_others others) (back.reads from)

  -- ---- lists

  blank-class : class 32 ≡ Space
  unfolding class is_space
  blank-class = refl

  close-class : class 41 ≡ Close
  unfolding class is_space
  close-class = refl

  -- the bytes of children, up to the `)`
  others-end : (ss : Sexps) (more : List ℕ) → EndsBefore (printed_others ss ++ 41 ∷ more)
  unfolding is_word
  others-end NoSexp more = (refl, refl)
  others-end (Next s rest) more = (refl, refl)

  skip-blank : (from : ℕ) (bytes : List ℕ) → skip (record { at = from; bytes = 32 ∷ bytes }) ≡ skip (record { at = suc from; bytes = bytes })
  unfolding skip pass pass_byte class is_space
  skip-blank from bytes = refl

  skip-close : (from : ℕ) (more : List ℕ) → skip (record { at = from; bytes = 41 ∷ more }) ≡ record { at = from; bytes = 41 ∷ more }
  unfolding skip pass pass_byte class is_space
  skip-close from more = refl

  turn-close : (inner : Option (Input → Reading Sexp)) (others : Option (Input → Reading Sexps)) (from : ℕ) (more : List ℕ) →
      turn limits inner others (record { at = from; bytes = 41 ∷ more }) (41 ∷ more) Close ≡ Whole NoSexp (record { at = from + 1; bytes = more })
  unfolding turn advance
  turn-close None None from more = refl
  turn-close None (Some others) from more = refl
  turn-close (Some list) None from more = refl
  turn-close (Some list) (Some others) from more = refl

  children-turn : (inner : Option (Input → Reading Sexp)) (n : ℕ) (t u : Input) → skip t ≡ u → children limits inner (suc n) t ≡ turn limits inner (Some (children limits inner n)) u u.bytes (front u.bytes)
  unfolding children
  children-turn inner n t u e = ap (λ (v : Input). turn limits inner (Some (children limits inner n)) v v.bytes (front v.bytes)) e

  children-close : (inner : Option (Input → Reading Sexp)) (n from : ℕ) (more : List ℕ) → children limits inner n (record { at = from; bytes = 41 ∷ more }) ≡ Whole NoSexp (record { at = from + 1; bytes = more })
  unfolding children front
  children-close inner zero from more =
      ap (λ (v : Input). turn limits inner None v v.bytes (front v.bytes)) (skip-close from more)
      ∙ ap (turn limits inner None (record { at = from; bytes = 41 ∷ more }) (41 ∷ more)) close-class ∙ turn-close inner None from more
  children-close inner (suc n) from more =
      children-turn inner n (record { at = from; bytes = 41 ∷ more }) (record { at = from; bytes = 41 ∷ more }) (skip-close from more)
      ∙ ap (turn limits inner (Some (children limits inner n)) (record { at = from; bytes = 41 ∷ more }) (41 ∷ more)) close-class ∙ turn-close inner (Some (children limits inner n)) from more

  -- children from the byte after their list's `(`, and others from the blank before the first
  abbrev ChildrenBack : ℕ → ℕ → Sexps → Type 0
  ChildrenBack deeper n ss = (from : ℕ) (more : List ℕ) → children limits (lists limits deeper) n (record { at = from; bytes = printed_children ss ++ 41 ∷ more })
      ≡ Whole (placed_children from ss) (record { at = suc (from + length (printed_children ss)); bytes = more })

  abbrev OthersBack : ℕ → ℕ → Sexps → Type 0
  OthersBack deeper n ss = (from : ℕ) (more : List ℕ) → children limits (lists limits deeper) n (record { at = from; bytes = printed_others ss ++ 41 ∷ more })
      ≡ Whole (placed_others from ss) (record { at = suc (from + length (printed_others ss)); bytes = more })

  -- a child, and the others
  child-back : (deeper n : ℕ) (s : Sexp) (rest : Sexps) → TurnsTo deeper s → OthersBack deeper n rest → (t : Input) (from : ℕ) (more : List ℕ) →
      skip t ≡ record { at = from; bytes = printed s ++ (printed_others rest ++ 41 ∷ more) } →
      children limits (lists limits deeper) (suc n) t ≡ Whole (Next (placed from s) (placed_others (from + length (printed s)) rest)) (record { at = suc (from + length (printed s) + length (printed_others rest)); bytes = more })
  unfolding and_others prepend ◌>>=◌
  child-back deeper n s rest turns others t from more e =
      children-turn (lists limits deeper) n t _ e
      ∙ turns (children limits (lists limits deeper) n) from (printed_others rest ++ 41 ∷ more) (others-end rest more)
      ∙ ap (λ r. r >>= prepend (placed from s)) (others (from + length (printed s)) more)

  -- a list from its `(` on
  list-back : (deeper : ℕ) (ss : Sexps) (span : Span) → ChildrenBack deeper limits.width ss → (from : ℕ) (tail : List ℕ) → let t : Input = record { at = from; bytes = printed (Listed ss span) ++ tail } in
      children limits (lists limits deeper) limits.width (advance 1 t) >>= listed t ≡ Whole (placed from (Listed ss span)) (record { at = from + length (printed (Listed ss span)); bytes = tail })
  unfolding advance ◌>>=◌ listed
  list-back deeper ss span back from tail =
      let bytes = (printed_children ss ++ codes ")") ++ tail in
      let same : (printed_children ss ++ 41 ∷ []) ++ tail ≡ printed_children ss ++ 41 ∷ tail = append_assoc (printed_children ss) (41 ∷ []) tail in
      let next : from + 1 ≡ suc from = omega arith in
      let size : suc (suc from + length (printed_children ss)) ≡ from + length (printed (Listed ss span)) = omega (arith, length-append (printed_children ss) (41 ∷ [])) in
      ap (λ bs. children limits (lists limits deeper) limits.width (record { at = from + 1; bytes = bs }) >>= listed (record { at = from; bytes = 40 ∷ bytes })) same
      ∙ ap (λ n. children limits (lists limits deeper) limits.width (record { at = n; bytes = printed_children ss ++ 41 ∷ tail }) >>= listed (record { at = from; bytes = 40 ∷ bytes })) next
      ∙ ap (λ r. r >>= listed (record { at = from; bytes = 40 ∷ bytes })) (back (suc from) tail)
      ∙ ap (λ n. Whole (Listed (placed_children (suc from) ss) (record { from = from; to = n })) (record { at = n; bytes = tail })) size

  list-turns : (deeper : ℕ) (ss : Sexps) (span : Span) → ChildrenBack deeper limits.width ss → TurnsTo (suc deeper) (Listed ss span)
  unfolding lists ◌>>=◌ front turn
  list-turns deeper ss span back others from tail ends =
      let bytes = (printed_children ss ++ codes ")") ++ tail in
      ap (turn limits (lists limits (suc deeper)) (Some others) (record { at = from; bytes = 40 ∷ bytes }) (40 ∷ bytes)) open-class
      ∙ ap (λ r. r >>= and_others others) (list-back deeper ss span back from tail)

  atom-turns-to : (deeper : ℕ) (k : AtomKind) (text : List ℕ) (span : Span) → IsPrintable limits deeper (Atom k text span) → TurnsTo deeper (Atom k text span)
  atom-turns-to deeper k text span h others from [] ends = elim ends [ ]
  atom-turns-to deeper k text span h others from (x ∷ more) ends = atom-turns deeper k text others from x more (atom-back k text x more h.0 h.1 ends)

  children-none : (deeper n : ℕ) → ChildrenBack deeper n NoSexp
  children-none deeper n from more = children-close (lists limits deeper) n from more ∙ ap (λ m. Whole NoSexp (record { at = m; bytes = more })) (omega arith)

  children-step : (deeper n : ℕ) (s : Sexp) (rest : Sexps) → Stays s → TurnsTo deeper s → OthersBack deeper n rest → ChildrenBack deeper (suc n) (Next s rest)
  children-step deeper n s rest stay turn_to others from more =
      let same : (printed s ++ printed_others rest) ++ 41 ∷ more ≡ printed s ++ (printed_others rest ++ 41 ∷ more) = append_assoc (printed s) (printed_others rest) (41 ∷ more) in
      child-back deeper n s rest turn_to others (record { at = from; bytes = (printed s ++ printed_others rest) ++ 41 ∷ more }) from more
      (ap (λ bs. skip (record { at = from; bytes = bs })) same ∙ stay from (printed_others rest ++ 41 ∷ more) (others-end rest more))
      ∙ ap (λ m. Whole (placed_children from (Next s rest)) (record { at = m; bytes = more })) (omega (arith, length-append (printed s) (printed_others rest)))

  others-step : (deeper n : ℕ) (s : Sexp) (rest : Sexps) → Stays s → TurnsTo deeper s → OthersBack deeper n rest → OthersBack deeper (suc n) (Next s rest)
  others-step deeper n s rest stay turn_to others from more =
      let same : (printed s ++ printed_others rest) ++ 41 ∷ more ≡ printed s ++ (printed_others rest ++ 41 ∷ more) = append_assoc (printed s) (printed_others rest) (41 ∷ more) in
      child-back deeper n s rest turn_to others (record { at = from; bytes = 32 ∷ (printed s ++ printed_others rest) ++ 41 ∷ more }) (suc from) more
      (skip-blank from ((printed s ++ printed_others rest) ++ 41 ∷ more) ∙ ap (λ bs. skip (record { at = suc from; bytes = bs })) same ∙ stay (suc from) (printed_others rest ++ 41 ∷ more) (others-end rest more))
      ∙ ap (λ m. Whole (placed_others from (Next s rest)) (record { at = m; bytes = more })) (omega (arith, length-append (printed s) (printed_others rest)))

  mutual
    turns : (deeper : ℕ) (s : Sexp) → IsPrintable limits deeper s → TurnsTo deeper s
    turns deeper (Atom k text span) h = atom-turns-to deeper k text span h
    turns zero (Listed ss span) h = elim h [ ]
    turns (suc deeper) (Listed ss span) h = list-turns deeper ss span (children-back deeper limits.width ss h)

    children-back : (deeper n : ℕ) (ss : Sexps) → AllPrintable limits deeper n ss → ChildrenBack deeper n ss
    children-back deeper n NoSexp h = children-none deeper n
    children-back deeper zero (Next s rest) h = elim h [ ]
    children-back deeper (suc n) (Next s rest) h = children-step deeper n s rest (stays deeper s h.0) (turns deeper s h.0) (others-back deeper n rest h.1)

    others-back : (deeper n : ℕ) (ss : Sexps) → AllPrintable limits deeper n ss → OthersBack deeper n ss
    others-back deeper n NoSexp h = children-none deeper n
    others-back deeper zero (Next s rest) h = elim h [ ]
    others-back deeper (suc n) (Next s rest) h = others-step deeper n s rest (stays deeper s h.0) (turns deeper s h.0) (others-back deeper n rest h.1)

  -- ---- commands

  sexp-atom : (c : Class) (t : Input) → IsAtomFront c → sexp limits c t ≡ atom limits c t
  unfolding sexp
  sexp-atom Quote t h = refl
  sexp-atom Bar t h = refl
  sexp-atom Word t h = refl
  sexp-atom c t h = elim h [ ]

  -- an s-expression at the front of some bytes, before the limit of commands
  abbrev SexpBack : Sexp → Type 0
  SexpBack s = (tail : List ℕ) → EndsBefore tail → let t : Input = record { at = 0; bytes = printed s ++ tail } in
      sexp limits (front t.bytes) t ≡ Whole (placed 0 s) (record { at = 0 + length (printed s); bytes = tail })

  atom-sexp : (k : AtomKind) (text : List ℕ) (span : Span) → IsPrintable limits limits.nesting (Atom k text span) → SexpBack (Atom k text span)
  unfolding front
  atom-sexp k text span h [] ends = elim ends [ ]
  atom-sexp k text span h (x ∷ more) ends =
      let back = atom-back k text x more h.0 h.1 ends in
      let t : Input = record { at = 0; bytes = printed_atom k text ++ x ∷ more } in
      ap (λ bs. sexp limits (front bs) t) back.is ∙ sexp-atom (class back.first) t back.begins ∙ back.reads 0

  list-sexp : (deeper : ℕ) (ss : Sexps) (span : Span) → limits.nesting ≡ deeper → IsPrintable limits deeper (Listed ss span) → SexpBack (Listed ss span)
  unfolding sexp front opened lists
  list-sexp zero ss span e h tail ends = elim h [ ]
  list-sexp (suc deeper) ss span e h tail ends =
      let t : Input = record { at = 0; bytes = printed (Listed ss span) ++ tail } in
      ap (λ c. sexp limits c t) open-class ∙ ap (λ d. opened (lists limits d) t) e ∙ list-back deeper ss span (children-back deeper limits.width ss h) 0 tail

  sexp-back : (s : Sexp) → IsPrintable limits limits.nesting s → SexpBack s
  sexp-back (Atom k text span) h = atom-sexp k text span h
  sexp-back (Listed ss span) h = list-sexp limits.nesting ss span refl h

  -- A printed s-expression is read as that command.
  pub command-printed : CommandsReadBack limits
  unfolding command
  command-printed s h tail ends =
      let t : Input = record { at = 0; bytes = printed s ++ tail } in
      let fits = h.1 in
      ap (at_most CommandLong limits.command t) (sexp-back s h.0 tail ends)
      ∙ at_most-whole CommandLong limits.command t _ _ (omega arith)
      ∙ ap (λ n. Whole (placed 0 s) (record { at = n; bytes = tail })) (omega arith)
