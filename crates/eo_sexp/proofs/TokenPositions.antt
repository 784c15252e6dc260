-- Where a token is in the bytes that are kept.
use Rattle.std.proofs.Common.{◌≡◌, refl, ℕ, ◌+◌, ◌≤◌, ◌<◌, Bool, true, false, List, [], ◌∷◌, ◌++◌, length, length-append, drop, sym, ap, ◌∙◌, arith}
use Rattle.std.specs.Prelude.{codes, nat_lt, if◌then◌else◌}
use Rattle.std.proofs.lemmas.List.{drop-append-le}
use Rattle.std.proofs.Math.Seq.{drop-append_seam}
use Rattle.std.proofs.Math.ListN.{drop_of_length-le}
use Rattle.eo_base.specs.declared.FaultName.TheVariants.{BadByte, TokenLong}
use Rattle.eo_base.specs.Limits.{Limits}
use Rattle.eo_sexp.specs.declared.token.Token.{Token}
use Rattle.eo_sexp.specs.declared.token.Token.TheVariants as token
use Rattle.eo_sexp.specs.declared.token.TokenTurn.{TokenTurn}
use Rattle.eo_sexp.specs.declared.token.TokenTurn.TheVariants as turns_to
use Rattle.eo_sexp.specs.declared.reader.Position.{Position}
use Rattle.eo_sexp.specs.declared.reader.Position.TheVariants as position
use Rattle.eo_sexp.specs.Lexicon.{string, is_word, is_text, is_quotable, is_one_of}
use Rattle.eo_sexp.specs.Token.{opening, IsToken, token_turn, may_end}
use Rattle.eo_sexp.specs.Reader.{Progress, text_at, EndsAt, IsReader}
use Rattle.eo_sexp.proofs.ReaderSteps.{stands-as}

-- ---- the text of a token with its first byte, or with one byte more

pub text-none : (bytes : List ℕ) (x at : ℕ) → length bytes ≡ at → drop (at + 1) (bytes ++ x ∷ []) ≡ []
text-none bytes x at e = drop_of_length-le (bytes ++ x ∷ []) {i = at + 1} (omega (arith, e, length-append bytes (x ∷ [])))

pub text-first : (bytes : List ℕ) (x at : ℕ) → length bytes ≡ at → drop (at + 0) (bytes ++ x ∷ []) ≡ x ∷ []
text-first bytes x at e = let n : at + 0 ≡ length bytes = omega (arith, e) in ap (λ k. drop k (bytes ++ x ∷ [])) n ∙ drop-append_seam bytes (x ∷ [])

pub text-more : (p : Position) (t u : Token) (from x : ℕ) (bytes : List ℕ) → p ≡ position.Token t → opening t ≡ opening u → from + length (opening t) ≤ length bytes →
    drop (from + length (opening u)) (bytes ++ x ∷ []) ≡ text_at p from bytes ++ x ∷ []
text-more p t u from x bytes e o h =
    ap (λ l. drop (from + length l) (bytes ++ x ∷ [])) (sym o)
    ∙ drop-append-le (from + length (opening t)) bytes (x ∷ []) h
    ∙ ap (λ q. text_at q from bytes ++ x ∷ []) (sym e)

-- ---- which tokens end so

module _ (limits : Limits) (n : ℕ) where
  word-not_close : (x : ℕ) → turns_to.Closes ≡ token_turn limits n token.Word x → ⊥
  unfolding token_turn
  word-not_close x e = go (is_word x) (nat_lt n limits.token) e
    where
      go : (a b : Bool) → turns_to.Closes ≡ (if a then (if b then turns_to.Goes token.Word else turns_to.Fault TokenLong) else turns_to.Ends) → ⊥
      go true true e = cc
      go true false e = cc
      go false b e = cc

  closed-not_close : (x : ℕ) → turns_to.Closes ≡ token_turn limits n (token.Text true) x → ⊥
  unfolding token_turn
  closed-not_close x e = go (is_one_of (codes "\"") x) (nat_lt n limits.token) e
    where
      go : (a b : Bool) → turns_to.Closes ≡ (if a then (if b then turns_to.Goes (token.Text false) else turns_to.Fault TokenLong) else turns_to.Ends) → ⊥
      go true true e = cc
      go true false e = cc
      go false b e = cc

  open-only_goes : (x : ℕ) (k : TokenTurn) → k ≡ token_turn limits n (token.Text false) x → (k ≡ turns_to.Closes → ⊥) × (k ≡ turns_to.Ends → ⊥)
  unfolding token_turn
  open-only_goes x k e = go (is_one_of (codes "\"") x) (nat_lt n limits.token) (is_text x) e
    where
      go : (a b c : Bool) → k ≡ (if a then (if b then turns_to.Goes (token.Text true) else turns_to.Fault TokenLong) else if c then (if b then turns_to.Goes (token.Text false) else turns_to.Fault TokenLong) else turns_to.Fault BadByte) → (k ≡ turns_to.Closes → ⊥) × (k ≡ turns_to.Ends → ⊥)
      go true true c e = (λ f. cc, λ f. cc)
      go true false c e = (λ f. cc, λ f. cc)
      go false true true e = (λ f. cc, λ f. cc)
      go false false true e = (λ f. cc, λ f. cc)
      go false b false e = (λ f. cc, λ f. cc)

  quoted-not_end : (x : ℕ) → turns_to.Ends ≡ token_turn limits n token.Quoted x → ⊥
  unfolding token_turn
  quoted-not_end x e = go (is_one_of (codes "|") x) (nat_lt n limits.token) (is_quotable x) e
    where
      go : (a b c : Bool) → turns_to.Ends ≡ (if a then (if b then turns_to.Closes else turns_to.Fault TokenLong) else if c then (if b then turns_to.Goes token.Quoted else turns_to.Fault TokenLong) else turns_to.Fault BadByte) → ⊥
      go true true c e = cc
      go true false c e = cc
      go false true true e = cc
      go false false true e = cc
      go false b false e = cc

-- a string that may end has its closing quote
closed-some : (text : List ℕ) → IsToken (token.Text true) text → 0 < length text
unfolding IsToken string
closed-some [] h = let e = h [] in cc
closed-some (x ∷ xs) h = omega arith

module _ (limits : Limits) where
  pub closes-at : (r : Progress) (t : Token) (at n x : ℕ) → IsReader limits r at → r.position ≡ position.Token t → turns_to.Closes ≡ token_turn limits n t x → EndsAt r t at (at + 1)
  closes-at r token.Word at n x h p e = absurd (word-not_close limits n x e)
  closes-at r (token.Text true) at n x h p e = absurd (closed-not_close limits n x e)
  closes-at r (token.Text false) at n x h p e = absurd ((open-only_goes limits n x turns_to.Closes e).0 refl)
  closes-at r token.Quoted at n x h p e = let s = stands-as limits r at (position.Token token.Quoted) p h in (omega (arith, s.1), refl)

  pub ends-at : (r : Progress) (t : Token) (at n x : ℕ) → IsReader limits r at → r.position ≡ position.Token t → turns_to.Ends ≡ token_turn limits n t x → EndsAt r t at at
  ends-at r token.Word at n x h p e = let s = stands-as limits r at (position.Token token.Word) p h in (omega (arith, s.1), refl)
  ends-at r (token.Text true) at n x h p e = let s = stands-as limits r at (position.Token (token.Text true)) p h in (omega (arith, s.1), closed-some r.text s.0, refl)
  ends-at r (token.Text false) at n x h p e = absurd ((open-only_goes limits n x turns_to.Ends e).1 refl)
  ends-at r token.Quoted at n x h p e = absurd (quoted-not_end limits n x e)

  pub may_end-at : (r : Progress) (t : Token) (at : ℕ) → IsReader limits r at → r.position ≡ position.Token t → may_end t ≡ true → EndsAt r t at at
  may_end-at r token.Word at h p e = let s = stands-as limits r at (position.Token token.Word) p h in (omega (arith, s.1), refl)
  may_end-at r (token.Text true) at h p e = let s = stands-as limits r at (position.Token (token.Text true)) p h in (omega (arith, s.1), closed-some r.text s.0, refl)
  may_end-at r (token.Text false) at h p e = cc
  may_end-at r token.Quoted at h p e = cc

  -- the delimiter is in the bytes
  pub opening-within : (r : Progress) (t : Token) (at : ℕ) → IsReader limits r at → r.position ≡ position.Token t → r.from + length (opening t) ≤ at
  opening-within r t at h p = let s = stands-as limits r at (position.Token t) p h in omega (arith, s.1)
