-- Runs of bytes that leave a token as it is.
use Rattle.std.proofs.Common.{◌≡◌, ◌≢◌, refl, ℕ, ◌+◌, ◌≤◌, ◌<◌, Bool, true, false, not, List, [], ◌∷◌, ◌++◌, length, length-append, length-take-le, take, All, sym, ap, ◌∙◌, append_assoc, append-nil, subst, arith}
use Rattle.std.specs.Prelude.{codes, nat_lt, if◌then◌else◌}
use Rattle.std.proofs.lemmas.Bool.{lt-ltb, and_parts}
use Rattle.std.proofs.lemmas.List.{drop-append-le}
use Rattle.std.proofs.lemmas.List.Elements.{All-head, All-tail, All-weaker}
use Rattle.eo_base.specs.Limits.{Limits}
use Rattle.eo_sexp.specs.declared.token.Token.{Token}
use Rattle.eo_sexp.specs.declared.token.Token.TheVariants as token
use Rattle.eo_base.specs.declared.FaultName.TheVariants.{BadByte, TokenLong}
use Rattle.eo_sexp.specs.declared.token.TokenTurn.{TokenTurn}
use Rattle.eo_sexp.specs.declared.token.TokenTurn.TheVariants.{Goes, Ends, Fault}
use Rattle.eo_sexp.specs.declared.reader.Position.TheVariants as position
use Rattle.eo_sexp.specs.declared.reader.Reader.{Reader}
use Rattle.eo_sexp.specs.Lexicon.{is_space, is_text, is_quotable, is_word, is_one_of}
use Rattle.eo_sexp.specs.Commands.{atom}
use Rattle.eo_sexp.specs.Built.{Built, parts_in}
use Rattle.eo_sexp.specs.Token.{token_class, opening, IsToken, token_size, go_on, close, token_turn, is_plain}
use Rattle.eo_sexp.specs.Reader.{Progress, held, text_at, IsReader, token_reading, RunsTo}
use Rattle.eo_sexp.proofs.TokenTurns.{TokenTurns, token_turns}
use Rattle.eo_sexp.proofs.RunSteps.{plain-spot}
use Rattle.eo_sexp.proofs.TokenPositions.{opening-within}
use Rattle.eo_sexp.proofs.ReaderSteps.{stands-as, own-as, as-reader, reading-token}

picks : (b : Bool) (p q : TokenTurn) → b ≡ true → (if b then p else q) ≡ p
picks true p q e = refl
picks false p q e = cc

passes : (b : Bool) (p q : TokenTurn) → b ≡ false → (if b then p else q) ≡ q
passes true p q e = cc
passes false p q e = refl

-- a plain byte is no line feed
pub plain-line : (t : Token) (x : ℕ) → is_plain t x ≡ true → x ≢ 10
unfolding is_plain is_word is_text is_quotable is_space
plain-line token.Word x e = λ same. let off : false ≡ true = subst (λ y. is_plain token.Word y ≡ true) same e in cc
plain-line (token.Text true) x e = cc
plain-line (token.Text false) x e = λ same. let off : false ≡ true = subst (λ y. is_plain (token.Text false) y ≡ true) same e in cc
plain-line token.Quoted x e = λ same. let off : false ≡ true = subst (λ y. is_plain token.Quoted y ≡ true) same e in cc

quote-other : (x : ℕ) → not (is_one_of (codes "\"\n") x) ≡ true → is_one_of (codes "\"") x ≡ false
quote-other x e = grind arith

bar-other : (x : ℕ) → is_quotable x ≡ true → is_one_of (codes "|") x ≡ false
unfolding is_quotable
bar-other x e = let r = (and_parts (is_text x) (not (is_one_of (codes "|\\") x)) e).1 in grind arith

module _ (limits : Limits) where
  plain-goes : (t : Token) (n x : ℕ) → is_plain t x ≡ true → n < limits.token → token_turn limits n t x ≡ Goes t
  unfolding is_plain token_turn
  plain-goes token.Word n x e h = picks (is_word x) (go_on limits n token.Word) Ends e ∙ picks (nat_lt n limits.token) (Goes token.Word) (Fault TokenLong) (lt-ltb n limits.token h)
  plain-goes (token.Text true) n x e h = cc
  plain-goes (token.Text false) n x e h =
      let r = and_parts (is_text x) (not (is_one_of (codes "\"\n") x)) e in
      passes (is_one_of (codes "\"") x) (go_on limits n (token.Text true)) (if is_text x then go_on limits n (token.Text false) else Fault BadByte) (quote-other x r.1)
      ∙ picks (is_text x) (go_on limits n (token.Text false)) (Fault BadByte) r.0
      ∙ picks (nat_lt n limits.token) (Goes (token.Text false)) (Fault TokenLong) (lt-ltb n limits.token h)
  plain-goes token.Quoted n x e h =
      let r = and_parts (is_quotable x) (not (is_one_of (codes "\n") x)) e in
      passes (is_one_of (codes "|") x) (close limits n) (if is_quotable x then go_on limits n token.Quoted else Fault BadByte) (bar-other x r.0)
      ∙ picks (is_quotable x) (go_on limits n token.Quoted) (Fault BadByte) r.0
      ∙ picks (nat_lt n limits.token) (Goes token.Quoted) (Fault TokenLong) (lt-ltb n limits.token h)

  -- the token with these bytes more
  plain-token : (t : Token) (text xs : List ℕ) → IsToken t text → All (λ x. is_plain t x ≡ true) xs → token_size t text + length xs ≤ limits.token → IsToken t (text ++ xs)
  plain-token t text [] h p s = subst (IsToken t) (sym (append-nil text)) h
  plain-token t text (x ∷ xs) h p s =
      let one = subst (TokenTurns limits t text x) (plain-goes t (token_size t text) x (All-head (λ y. is_plain t y ≡ true) x xs p) (omega arith)) (token_turns limits t text x h (omega arith)) in
      subst (IsToken t) (append_assoc text (x ∷ []) xs) (plain-token t (text ++ x ∷ []) xs one.0 (All-tail (λ y. is_plain t y ≡ true) x xs p) (omega (arith, length-append text (x ∷ []))))

  pub token-runs : (b c : Built) (r : Reader) (t : Token) (rest : List ℕ) (n : ℕ) → r.position ≡ position.Token t → IsReader limits (held b r) (length b.bytes) → c ≡ record b { bytes = b.bytes ++ take n rest } → n ≤ length rest →
      All (λ x. is_plain t x ≡ true) (take n rest) → length b.bytes + n ≤ limits.token + r.from → length b.bytes + n ≤ limits.command → RunsTo limits b r rest n 0 c r
  token-runs b c r t rest n p h same within plain size short =
      let xs : List ℕ = take n rest in
      let old : Progress = held b r in
      let new : Progress = held c r in
      let s = stands-as limits old (length b.bytes) (position.Token t) p h in
      let own = own-as limits old (length b.bytes) (position.Token t) p h in
      let long : length xs ≡ n = length-take-le n rest within in
      let bytes : c.bytes ≡ b.bytes ++ xs = ap (λ (w : Built). w.bytes) same in
      let count : length c.bytes ≡ length b.bytes + n = omega (arith, ap length bytes, length-append b.bytes xs, long) in
      let text : new.text ≡ old.text ++ xs =
      ap (λ bs. text_at r.position r.from bs) bytes
      ∙ ap (λ q. text_at q r.from (b.bytes ++ xs)) p
      ∙ drop-append-le (r.from + length (opening t)) b.bytes xs (opening-within limits old t (length b.bytes) h p)
      ∙ ap (λ q. text_at q r.from b.bytes ++ xs) (sym p) in
      record {
        within = within;
        bytes = bytes;
        short = omega (arith, count);
        counted = omega arith;
        place = λ at.
            plain-spot at xs (All-weaker (λ x. is_plain t x ≡ true) (λ x. x ≢ 10) (plain-line t) xs plain)
            ∙ ap (λ (i : ℕ). record { line = at.line; offset = at.offset + i }) long
            ∙ ap (λ (l : ℕ). record { line = l; offset = at.offset + n }) (omega arith);
        reader =
            as-reader limits new (length c.bytes) (position.Token t) p (omega (arith, h.nested, ap (λ (w : Built). length w.open_lists) same)) (ap (λ (w : Built). w.done) same ∙ h.none) (
              subst (IsToken t) (sym text) (plain-token t old.text xs s.0 plain (omega (arith, s.1, long))),
              omega (arith, s.1, count, ap length text, length-append old.text xs, long),
              omega (arith, s.1, ap length text, length-append old.text xs, long),
            ) (omega (arith, own.0, ap (λ (w : Built). parts_in w.open_lists) same), omega (arith, own.1, count));
        reads = λ more.
            reading-token limits old t (length b.bytes) (xs ++ more) p
            ∙ ap (λ l. token_reading limits old.frames (atom limits (token_class t) (record { at = r.from; bytes = opening t ++ l }))) (sym (append_assoc old.text xs more))
            ∙ ap (λ l. token_reading limits old.frames (atom limits (token_class t) (record { at = r.from; bytes = opening t ++ (l ++ more) }))) (sym text)
            ∙ ap (λ (w : Built). token_reading limits w.open_lists (atom limits (token_class t) (record { at = r.from; bytes = opening t ++ (new.text ++ more) }))) (sym same)
            ∙ sym (reading-token limits new t (length c.bytes) more p);
      }
