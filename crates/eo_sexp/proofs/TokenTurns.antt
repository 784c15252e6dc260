-- What each byte does to a token.
use Rattle.std.proofs.Common.{◌≡◌, refl, ℕ, suc, ◌+◌, ◌-◌, ◌≤◌, ◌<◌, Bool, true, false, List, [], ◌∷◌, ◌++◌, length, length-append, take, drop, ap, ◌∙◌, append_assoc, arith, subst, not}
use Rattle.std.specs.Prelude.{cond, if◌then◌else◌, take_while, codes, nat_lt, Option, ◌&&◌}
use Rattle.std.specs.List.{prefix_len}
use Rattle.std.proofs.Math.Seq.{take-append_seam, drop-append_seam, drop-append-add}
use Rattle.std.proofs.lemmas.List.{take-append-le}
use Rattle.std.proofs.lemmas.List.Folds.{length-prefix_len}
use Rattle.std.proofs.lemmas.Bool.{le-leb, ltb-true, ltb-false}
use Rattle.eo_base.specs.declared.FaultName.TheVariants.{BadByte, TokenLong}
use Rattle.eo_base.specs.declared.FaultName.{FaultName}
use Rattle.eo_base.specs.Faults.{number}
use Rattle.eo_base.specs.Limits.{Limits}
use Rattle.eo_sexp.specs.AtomKind as kind
use Rattle.eo_sexp.specs.declared.token.Token.{Token}
use Rattle.eo_sexp.specs.declared.token.Token.TheVariants as token
use Rattle.eo_sexp.specs.declared.token.TokenTurn.{TokenTurn}
use Rattle.eo_sexp.specs.declared.token.TokenTurn.TheVariants.{Goes, Ends, Fault}
use Rattle.eo_sexp.specs.declared.token.TokenTurn.TheVariants as turn
use Rattle.eo_sexp.specs.Sexp.{Atom}
use Rattle.eo_sexp.specs.Lexicon.{Quote, Bar, Word, Input, advance, Body, Closes, Stops, StringByte, Delimiter, Inside, Outside, string_byte, string_turn, string, bar_at, quoted, is_space, is_text, is_quotable, is_word, is_one_of, kind_of}
use Rattle.eo_sexp.specs.Commands.{Whole, Refused, Cut, comes_first, at_most, span, delimited_atom, delimited, word_before, word, atom}
use Rattle.eo_sexp.specs.Token.{token_class, opening, IsToken, token_size, atom_kind, atom_text, go_on, close, token_turn}
use Rattle.eo_sexp.proofs.Steady.{at_most-refuses}
use Rattle.eo_sexp.proofs.Atoms.{IsBodyBeyond, string-beyond, word_before-beyond, delimited-late, bar_at-beyond}

-- ---- the limit

pub at_most-whole : {A : Type 0} (name : FaultName) (most : ℕ) (t : Input) (x : A) (rest : Input) → rest.at ≤ t.at + most → at_most name most t (Whole x rest) ≡ Whole x rest
unfolding at_most
at_most-whole name most t x rest h = rw (le-leb rest.at (t.at + most) h)

pub at_most-cut : {A : Type 0} (name : FaultName) (most : ℕ) (t : Input) (e : Option A) → length t.bytes ≤ most → at_most name most t (Cut e) ≡ Cut e
unfolding at_most
at_most-cut name most t e h = rw (le-leb (length t.bytes) most h)

bad-before-long : (at most : ℕ) → at ≤ most → comes_first BadByte at TokenLong most ≡ true
unfolding comes_first number
bad-before-long at most h = grind arith

-- a byte that is no byte of the token
at_most-bad : {A : Type 0} (most : ℕ) (t : Input) (at : ℕ) → at ≤ t.at + most → at_most {A = A} TokenLong most t (Refused BadByte at) ≡ Refused BadByte at
unfolding at_most
at_most-bad most t at h = rw (bad-before-long at (t.at + most) h)

-- ---- words

pub word-of : (t : Input) (text rest : List ℕ) → take_while is_word t.bytes ≡ text → drop (length text) t.bytes ≡ rest → word t ≡ word_before t text rest
unfolding word
word-of t text rest e f = ap (λ w. word_before t w (drop (length w) t.bytes)) e ∙ ap (word_before t text) f

-- a run goes on over these bytes, and ends after them
pub run-whole : (p : ℕ → Bool) (text : List ℕ) (x : ℕ) (more : List ℕ) → ((ys : List ℕ) → prefix_len p (text ++ ys) ≡ length text + prefix_len p ys) → p x ≡ false → take_while p (text ++ x ∷ more) ≡ text
run-whole p text x more h e =
    let n : prefix_len p (text ++ x ∷ more) ≡ length text = h (x ∷ more) ∙ ap (λ b. length text + cond b (1 + prefix_len p more) 0) e ∙ omega arith in
    ap (λ k. take k (text ++ x ∷ more)) n ∙ take-append_seam text (x ∷ more)

run-more : (p : ℕ → Bool) (text : List ℕ) (x : ℕ) → ((ys : List ℕ) → prefix_len p (text ++ ys) ≡ length text + prefix_len p ys) → p x ≡ true → (ys : List ℕ) →
    prefix_len p ((text ++ x ∷ []) ++ ys) ≡ length (text ++ x ∷ []) + prefix_len p ys
run-more p text x h e ys =
    ap (prefix_len p) (append_assoc text (x ∷ []) ys)
    ∙ h (x ∷ ys)
    ∙ ap (λ b. length text + cond b (1 + prefix_len p ys) 0) e
    ∙ omega (arith, length-append text (x ∷ []))

run-long : (p : ℕ → Bool) (text : List ℕ) (x : ℕ) (more : List ℕ) → ((ys : List ℕ) → prefix_len p (text ++ ys) ≡ length text + prefix_len p ys) → p x ≡ true → suc (length text) ≤ length (take_while p (text ++ x ∷ more))
run-long p text x more h e =
    let n : prefix_len p (text ++ x ∷ more) ≡ length text + (1 + prefix_len p more) = h (x ∷ more) ∙ ap (λ b. length text + cond b (1 + prefix_len p more) 0) e in
    omega (arith, length-prefix_len p (text ++ x ∷ more))

-- ---- strings

byte_of : Bool → Bool → StringByte
byte_of quote inside = if quote then Delimiter else if inside then Inside else Outside

string_byte-of : (x : ℕ) (b c : Bool) → is_one_of (codes "\"") x ≡ b → is_text x ≡ c → string_byte x ≡ byte_of b c
unfolding string_byte byte_of
string_byte-of x b c e f = ap (λ q. if q then Delimiter else if is_text x then Inside else Outside) e ∙ ap (λ i. if b then Delimiter else if i then Inside else Outside) f

-- ---- quoted symbols

pub is_one_of-one : (x y : ℕ) → is_one_of (y ∷ []) x ≡ true → y ≡ x
is_one_of-one x y e = grind arith

bar-unquotable : (x : ℕ) → is_one_of (codes "|") x ≡ true → is_quotable x ≡ false
unfolding is_quotable is_text is_space
bar-unquotable x e = let same : 124 ≡ x = is_one_of-one x 124 e in subst (λ (y : ℕ). is_text y && not (is_one_of (codes "|\\") y) ≡ false) same refl

-- ---- what a byte does

module _ (limits : Limits) where
  -- what the byte x does to the token t with these bytes, whatever follows
  abbrev pub TokenTurns : Token → List ℕ → ℕ → TokenTurn → Type 0
  TokenTurns t text x (Goes s) = IsToken s (text ++ x ∷ []) × (token_class t ≡ token_class s) × (opening t ≡ opening s) × (token_size t text < limits.token)
  TokenTurns t text x Ends = (from : ℕ) (more : List ℕ) → atom limits (token_class t) (record { at = from; bytes = opening t ++ (text ++ x ∷ more) })
      ≡ Whole (Atom (atom_kind t text) (atom_text t text) (record { from = from; to = from + token_size t text })) (record { at = from + token_size t text; bytes = x ∷ more })
  TokenTurns t text x turn.Closes = (from : ℕ) (more : List ℕ) → atom limits (token_class t) (record { at = from; bytes = opening t ++ (text ++ x ∷ more) })
      ≡ Whole (Atom (atom_kind t text) (atom_text t text) (record { from = from; to = suc (from + token_size t text) })) (record { at = suc (from + token_size t text); bytes = more })
  TokenTurns t text x (Fault name) = (from : ℕ) (more : List ℕ) → atom limits (token_class t) (record { at = from; bytes = opening t ++ (text ++ x ∷ more) }) ≡ Refused name (from + token_size t text)

  -- ---- words

  word-long : (text : List ℕ) (x : ℕ) → IsToken token.Word text → token_size token.Word text ≤ limits.token → is_word x ≡ true → limits.token ≤ length text → (from : ℕ) (more : List ℕ) →
      atom limits Word (record { at = from; bytes = text ++ x ∷ more }) ≡ Refused TokenLong (from + token_size token.Word text)
  unfolding IsToken atom word
  word-long text x h fits e long from more =
      let t : Input = record { at = from; bytes = text ++ x ∷ more } in
      at_most-refuses TokenLong limits.token t (from + suc (length text)) (word t) (omega arith) (omega (arith, length-append text (x ∷ more)))
      (word_before-beyond t (take_while is_word t.bytes) _ (from + suc (length text)) (omega (arith, run-long is_word text x more h e)))
      ∙ ap (Refused TokenLong) (omega arith)

  word-ends : (text : List ℕ) (x : ℕ) → IsToken token.Word text → token_size token.Word text ≤ limits.token → is_word x ≡ false → TokenTurns token.Word text x Ends
  unfolding IsToken atom word_before span advance
  word-ends text x h fits e from more =
      let t : Input = record { at = from; bytes = text ++ x ∷ more } in
      let size : length text ≡ token_size token.Word text = omega arith in
      ap (at_most TokenLong limits.token t) (word-of t text (x ∷ more) (run-whole is_word text x more h e) (drop-append_seam text (x ∷ more)))
      ∙ at_most-whole TokenLong limits.token t _ _ (omega arith)
      ∙ ap (λ bs. Whole (Atom (kind_of text) text (record { from = from; to = from + length text })) (record { at = from + length text; bytes = bs })) (drop-append_seam text (x ∷ more))
      ∙ ap (λ n. Whole (Atom (kind_of text) text (record { from = from; to = from + n })) (record { at = from + n; bytes = x ∷ more })) size

  word-turns : (text : List ℕ) (x : ℕ) → IsToken token.Word text → token_size token.Word text ≤ limits.token → TokenTurns token.Word text x (token_turn limits (token_size token.Word text) token.Word x)
  unfolding token_turn IsToken
  word-turns text x h fits = go (is_word x) refl
    where
      longer : is_word x ≡ true → (b : Bool) → nat_lt (token_size token.Word text) limits.token ≡ b → TokenTurns token.Word text x (if b then Goes token.Word else Fault TokenLong)
      longer e true f = (run-more is_word text x h e, refl, refl, ltb-true _ _ f)
      longer e false f = let late = ltb-false _ _ f in word-long text x h fits e (omega arith)

      go : (b : Bool) → is_word x ≡ b → TokenTurns token.Word text x (if b then go_on limits (token_size token.Word text) token.Word else Ends)
      go true e = longer e (nat_lt (token_size token.Word text) limits.token) refl
      go false e = word-ends text x h fits e

  -- ---- strings

  -- the byte goes on with the string
  GoesOn : (closed c : Bool) → ℕ → Type 0
  GoesOn closed c x = (n : ℕ) (later : Bool → Body) → string_turn closed (string_byte x) n later ≡ later c

  string-next : (closed c : Bool) (text : List ℕ) (x : ℕ) → IsToken (token.Text closed) text → GoesOn closed c x → (more : List ℕ) → string false 1 (text ++ x ∷ more) ≡ string c (suc (suc (length text))) more
  unfolding IsToken string GoesOn
  string-next closed c text x h g more = h (x ∷ more) ∙ g _ _

  string-long : (closed c : Bool) (text : List ℕ) (x : ℕ) → IsToken (token.Text closed) text → GoesOn closed c x → limits.token ≤ token_size (token.Text closed) text → (from : ℕ) (more : List ℕ) →
      atom limits Quote (record { at = from; bytes = codes "\"" ++ (text ++ x ∷ more) }) ≡ Refused TokenLong (from + limits.token)
  unfolding atom
  string-long closed c text x h g long from more =
      let t : Input = record { at = from; bytes = codes "\"" ++ (text ++ x ∷ more) } in
      let size : ℕ = suc (suc (length text)) in
      ap (λ b. at_most TokenLong limits.token t (delimited kind.String t b)) (string-next closed c text x h g more)
      ∙ at_most-refuses TokenLong limits.token t (from + size) (delimited kind.String t (string c size more)) (omega arith) (omega (arith, length-append text (x ∷ more)))
      (delimited-late kind.String t (string c size more) size (string-beyond c size more))

  string-longer : (closed c : Bool) (text : List ℕ) (x : ℕ) → IsToken (token.Text closed) text → token_size (token.Text closed) text ≤ limits.token → GoesOn closed c x →
      TokenTurns (token.Text closed) text x (go_on limits (token_size (token.Text closed) text) (token.Text c))
  unfolding IsToken
  string-longer closed c text x h fits g = go (nat_lt (token_size (token.Text closed) text) limits.token) refl
    where
      next : (more : List ℕ) → string false 1 ((text ++ x ∷ []) ++ more) ≡ string c (suc (length (text ++ x ∷ []))) more
      next more = ap (string false 1) (append_assoc text (x ∷ []) more) ∙ string-next closed c text x h g more ∙ ap (λ n. string c n more) (omega (arith, length-append text (x ∷ [])))

      go : (b : Bool) → nat_lt (token_size (token.Text closed) text) limits.token ≡ b → TokenTurns (token.Text closed) text x (if b then Goes (token.Text c) else Fault TokenLong)
      go true f = (next, refl, refl, ltb-true _ _ f)
      go false f = let late = ltb-false _ _ f in (λ from more. string-long closed c text x h g (omega arith) from more ∙ ap (Refused TokenLong) (omega arith))

  string-ends : (text : List ℕ) (x : ℕ) → IsToken (token.Text true) text → token_size (token.Text true) text ≤ limits.token → ((n : ℕ) (later : Bool → Body) → string_turn true (string_byte x) n later ≡ Closes n) →
      TokenTurns (token.Text true) text x Ends
  unfolding IsToken atom string delimited delimited_atom span advance
  string-ends text x h fits g from more =
      let t : Input = record { at = from; bytes = codes "\"" ++ (text ++ x ∷ more) } in
      let size : suc (length text) ≡ token_size (token.Text true) text = omega arith in
      let inside : take (suc (length text) - 2) (text ++ x ∷ more) ≡ take (length text - 1) text = ap (λ n. take n (text ++ x ∷ more)) (omega arith) ∙ take-append-le (length text - 1) text (x ∷ more) (omega arith) in
      ap (λ b. at_most TokenLong limits.token t (delimited kind.String t b)) (h (x ∷ more) ∙ g _ _)
      ∙ at_most-whole TokenLong limits.token t _ _ (omega arith)
      ∙ ap (λ bs. Whole (Atom kind.String (take (suc (length text) - 2) (text ++ x ∷ more)) (record { from = from; to = from + suc (length text) })) (record { at = from + suc (length text); bytes = bs })) (drop-append_seam text (x ∷ more))
      ∙ ap (λ i. Whole (Atom kind.String i (record { from = from; to = from + suc (length text) })) (record { at = from + suc (length text); bytes = x ∷ more })) inside
      ∙ ap (λ n. Whole (Atom kind.String (take (length text - 1) text) (record { from = from; to = from + n })) (record { at = from + n; bytes = x ∷ more })) size

  string-bad : (text : List ℕ) (x : ℕ) → IsToken (token.Text false) text → token_size (token.Text false) text ≤ limits.token → ((n : ℕ) (later : Bool → Body) → string_turn false (string_byte x) n later ≡ Stops n) →
      TokenTurns (token.Text false) text x (Fault BadByte)
  unfolding IsToken atom string delimited
  string-bad text x h fits g from more =
      let t : Input = record { at = from; bytes = codes "\"" ++ (text ++ x ∷ more) } in
      ap (λ b. at_most TokenLong limits.token t (delimited kind.String t b)) (h (x ∷ more) ∙ g _ _)
      ∙ at_most-bad limits.token t (from + suc (length text)) (omega arith)
      ∙ ap (Refused BadByte) (omega arith)

  open_turns : (text : List ℕ) (x : ℕ) → IsToken (token.Text false) text → token_size (token.Text false) text ≤ limits.token → TokenTurns (token.Text false) text x (token_turn limits (token_size (token.Text false) text) (token.Text false) x)
  unfolding token_turn string_turn byte_of GoesOn
  open_turns text x h fits = go (is_one_of (codes "\"") x) refl (is_text x) refl
    where
      go : (b : Bool) → is_one_of (codes "\"") x ≡ b → (c : Bool) → is_text x ≡ c → TokenTurns (token.Text false) text x
          (if b then go_on limits (token_size (token.Text false) text) (token.Text true) else if c then go_on limits (token_size (token.Text false) text) (token.Text false) else Fault BadByte)
      go true e c f = string-longer false true text x h fits (λ n later. ap (λ b. string_turn false b n later) (string_byte-of x true c e f))
      go false e true f = string-longer false false text x h fits (λ n later. ap (λ b. string_turn false b n later) (string_byte-of x false true e f))
      go false e false f = string-bad text x h fits (λ n later. ap (λ b. string_turn false b n later) (string_byte-of x false false e f))

  closed_turns : (text : List ℕ) (x : ℕ) → IsToken (token.Text true) text → token_size (token.Text true) text ≤ limits.token → TokenTurns (token.Text true) text x (token_turn limits (token_size (token.Text true) text) (token.Text true) x)
  unfolding token_turn string_turn byte_of GoesOn
  closed_turns text x h fits = go (is_one_of (codes "\"") x) refl
    where
      ends : is_one_of (codes "\"") x ≡ false → (c : Bool) → is_text x ≡ c → (n : ℕ) (later : Bool → Body) → string_turn true (string_byte x) n later ≡ Closes n
      ends e true f n later = ap (λ b. string_turn true b n later) (string_byte-of x false true e f)
      ends e false f n later = ap (λ b. string_turn true b n later) (string_byte-of x false false e f)

      go : (b : Bool) → is_one_of (codes "\"") x ≡ b → TokenTurns (token.Text true) text x (if b then go_on limits (token_size (token.Text true) text) (token.Text false) else Ends)
      go true e = string-longer true false text x h fits (λ n later. ap (λ b. string_turn true b n later) (string_byte-of x true (is_text x) e refl))
      go false e = string-ends text x h fits (ends e (is_text x) refl)

  -- ---- quoted symbols

  pub quoted-of : (bytes text rest : List ℕ) → take_while is_quotable bytes ≡ text → drop (length text) bytes ≡ rest → quoted bytes ≡ bar_at (1 + length text) rest
  unfolding quoted
  quoted-of bytes text rest e f = ap (λ w. bar_at (1 + length w) (drop (length w) bytes)) e ∙ ap (bar_at (1 + length text)) f

  -- what the byte after the quotable ones does
  quoted-at : (text : List ℕ) (x : ℕ) → IsToken token.Quoted text → is_quotable x ≡ false → (b : Bool) → is_one_of (codes "|") x ≡ b → (more : List ℕ) →
      quoted (text ++ x ∷ more) ≡ (if b then Closes (suc (1 + length text)) else Stops (1 + length text))
  unfolding IsToken bar_at
  quoted-at text x h e b f more =
      quoted-of (text ++ x ∷ more) text (x ∷ more) (run-whole is_quotable text x more h e) (drop-append_seam text (x ∷ more))
      ∙ ap (λ q. if q then Closes (suc (1 + length text)) else Stops (1 + length text)) f

  quoted-closes : (text : List ℕ) (x : ℕ) → IsToken token.Quoted text → token_size token.Quoted text < limits.token → is_one_of (codes "|") x ≡ true → TokenTurns token.Quoted text x turn.Closes
  unfolding atom delimited delimited_atom span advance
  quoted-closes text x h fits e from more =
      let t : Input = record { at = from; bytes = codes "|" ++ (text ++ x ∷ more) } in
      let inside : take (suc (1 + length text) - 2) (text ++ x ∷ more) ≡ text = ap (λ n. take n (text ++ x ∷ more)) (omega arith) ∙ take-append_seam text (x ∷ more) in
      let rest : drop (1 + length text) (text ++ x ∷ more) ≡ more = ap (λ n. drop n (text ++ x ∷ more)) (omega arith) ∙ drop-append-add text (x ∷ more) 1 in
      let size : suc (1 + length text) ≡ suc (token_size token.Quoted text) = omega arith in
      ap (λ b. at_most TokenLong limits.token t (delimited kind.Symbol t b)) (quoted-at text x h (bar-unquotable x e) true e more)
      ∙ at_most-whole TokenLong limits.token t _ _ (omega arith)
      ∙ ap (λ bs. Whole (Atom kind.Symbol (take (suc (1 + length text) - 2) (text ++ x ∷ more)) (record { from = from; to = from + suc (1 + length text) })) (record { at = from + suc (1 + length text); bytes = bs })) rest
      ∙ ap (λ i. Whole (Atom kind.Symbol i (record { from = from; to = from + suc (1 + length text) })) (record { at = from + suc (1 + length text); bytes = more })) inside
      ∙ ap (λ n. Whole (Atom kind.Symbol text (record { from = from; to = n })) (record { at = n; bytes = more })) (omega arith)

  -- a body that goes beyond the limit
  quoted-late : (text : List ℕ) (x : ℕ) (b : Body) → limits.token ≤ token_size token.Quoted text → token_size token.Quoted text ≤ limits.token → (from : ℕ) (more : List ℕ) →
      quoted (text ++ x ∷ more) ≡ b → IsBodyBeyond (suc (1 + length text)) b →
      atom limits Bar (record { at = from; bytes = codes "|" ++ (text ++ x ∷ more) }) ≡ Refused TokenLong (from + token_size token.Quoted text)
  unfolding atom
  quoted-late text x b long fits from more e h =
      let t : Input = record { at = from; bytes = codes "|" ++ (text ++ x ∷ more) } in
      ap (λ q. at_most TokenLong limits.token t (delimited kind.Symbol t q)) e
      ∙ at_most-refuses TokenLong limits.token t (from + suc (1 + length text)) (delimited kind.Symbol t b) (omega arith) (omega (arith, length-append text (x ∷ more))) (delimited-late kind.Symbol t b (suc (1 + length text)) h)
      ∙ ap (Refused TokenLong) (omega arith)

  quoted-bad : (text : List ℕ) (x : ℕ) → IsToken token.Quoted text → token_size token.Quoted text ≤ limits.token → is_one_of (codes "|") x ≡ false → is_quotable x ≡ false → TokenTurns token.Quoted text x (Fault BadByte)
  unfolding atom delimited
  quoted-bad text x h fits e f from more =
      let t : Input = record { at = from; bytes = codes "|" ++ (text ++ x ∷ more) } in
      ap (λ b. at_most TokenLong limits.token t (delimited kind.Symbol t b)) (quoted-at text x h f false e more)
      ∙ at_most-bad limits.token t (from + (1 + length text)) (omega arith)

  quoted-longer : (text : List ℕ) (x : ℕ) → IsToken token.Quoted text → is_quotable x ≡ true → (more : List ℕ) → IsBodyBeyond (suc (1 + length text)) (quoted (text ++ x ∷ more))
  unfolding IsToken quoted
  quoted-longer text x h e more = bar_at-beyond (suc (1 + length text)) _ _ (omega (arith, run-long is_quotable text x more h e))

  quoted_turns : (text : List ℕ) (x : ℕ) → IsToken token.Quoted text → token_size token.Quoted text ≤ limits.token → TokenTurns token.Quoted text x (token_turn limits (token_size token.Quoted text) token.Quoted x)
  unfolding token_turn IsToken
  quoted_turns text x h fits = go (is_one_of (codes "|") x) refl (is_quotable x) refl
    where
      closer : is_one_of (codes "|") x ≡ true → (b : Bool) → nat_lt (token_size token.Quoted text) limits.token ≡ b → TokenTurns token.Quoted text x (if b then turn.Closes else Fault TokenLong)
      closer e true f = quoted-closes text x h (ltb-true _ _ f) e
      closer e false f = let late = ltb-false _ _ f in (λ from more. quoted-late text x (Closes (suc (1 + length text))) late fits from more (quoted-at text x h (bar-unquotable x e) true e more) (omega arith))

      longer : is_quotable x ≡ true → (b : Bool) → nat_lt (token_size token.Quoted text) limits.token ≡ b → TokenTurns token.Quoted text x (if b then Goes token.Quoted else Fault TokenLong)
      longer e true f = (run-more is_quotable text x h e, refl, refl, ltb-true _ _ f)
      longer e false f = let late = ltb-false _ _ f in (λ from more. quoted-late text x (quoted (text ++ x ∷ more)) late fits from more refl (quoted-longer text x h e more))

      go : (b : Bool) → is_one_of (codes "|") x ≡ b → (c : Bool) → is_quotable x ≡ c → TokenTurns token.Quoted text x
          (if b then close limits (token_size token.Quoted text) else if c then go_on limits (token_size token.Quoted text) token.Quoted else Fault BadByte)
      go true e c f = closer e (nat_lt (token_size token.Quoted text) limits.token) refl
      go false e true f = longer f (nat_lt (token_size token.Quoted text) limits.token) refl
      go false e false f = quoted-bad text x h fits e f

  -- what a byte does to a token is what the definitions make of it
  pub token_turns : (t : Token) (text : List ℕ) (x : ℕ) → IsToken t text → token_size t text ≤ limits.token → TokenTurns t text x (token_turn limits (token_size t text) t x)
  token_turns token.Word text x h fits = word-turns text x h fits
  token_turns (token.Text true) text x h fits = closed_turns text x h fits
  token_turns (token.Text false) text x h fits = open_turns text x h fits
  token_turns token.Quoted text x h fits = quoted_turns text x h fits
