-- The turns of a reader.
use Rattle.std.proofs.Common.{◌≡◌, refl, ℕ, suc, ◌+◌, ◌-◌, ◌≤◌, ◌<◌, Bool, true, false, not, List, [], ◌∷◌, ◌++◌, length, length-append, map, sym, ap, ◌∙◌, append_assoc, subst, arith}
use Rattle.std.specs.Prelude.{Option, Some, None, if◌then◌else◌}
use Rattle.eo_base.specs.declared.FaultName.{FaultName}
use Rattle.eo_base.specs.declared.FaultName.TheVariants.{BadByte, Nesting, Width}
use Rattle.eo_base.specs.Limits.{Limits}
use Rattle.eo_sexp.specs.Built.{OpenList, Built, parts_in}
use Rattle.eo_sexp.specs.declared.reader.Position.{Position}
use Rattle.eo_sexp.specs.declared.reader.Position.TheVariants as position
use Rattle.eo_sexp.specs.declared.reader.ReaderTurn.{ReaderTurn}
use Rattle.eo_sexp.specs.declared.reader.ReaderTurn.TheVariants as turn
use Rattle.eo_sexp.specs.declared.token.Token.{Token}
use Rattle.eo_sexp.specs.declared.token.Token.TheVariants as token
use Rattle.eo_sexp.specs.declared.token.TokenTurn.{TokenTurn}
use Rattle.eo_sexp.specs.declared.token.TokenTurn.TheVariants as token_turns_to
use Rattle.eo_sexp.specs.Sexp.{Sexp, Atom}
use Rattle.eo_sexp.specs.Lexicon.{Class, Space, Comment, Open, Close, Quote, Bar, Word, Other, class, is_line_end, Input, pass, skip, Passed}
use Rattle.eo_sexp.specs.Commands.{Reading, Whole, Refused, Cut, ◌>>=◌, atom}
use Rattle.eo_sexp.specs.Token.{token_class, opening, IsToken, token_size, atom_kind, atom_text, token_turn, token_end, may_end}
use Rattle.eo_sexp.specs.Reader.{Progress, IsAtom, inner, outer, gap_reading, child_reading, token_reading, position_reading, reading, IsPosition, HasBytes, IsReader, AddsChild, ClosesList, BeginsToken, Begins, Turns, atom_of, is_full}
use Rattle.eo_sexp.proofs.Resuming.{StandsStill, resume-cut}
use Rattle.eo_sexp.proofs.TokenEnds.{token_cut}
use Rattle.eo_sexp.proofs.TokenTurns.{TokenTurns, token_turns}
use Rattle.eo_sexp.proofs.ReaderTurns.{pass-in_comment, gap-pass, gap-at, gap-space, gap-comment, gap-bad, gap-deep, gap-full-open, gap-full, gap-open, gap-atom, list-begins}

atom-stands : (c : Class) → IsAtom c → StandsStill c
atom-stands Quote a = tt
atom-stands Bar a = tt
atom-stands Word a = tt
atom-stands c a = absurd a

module _ (limits : Limits) where
  pub reading-gap : (r : Progress) (at : ℕ) (more : List ℕ) → r.position ≡ position.Gap → reading limits r at more ≡ gap_reading limits r.frames (pass false at more).rest
  unfolding position_reading
  reading-gap r at more e = ap (λ p. position_reading limits r.frames p r.from r.text at more) e

  pub reading-comment : (r : Progress) (at : ℕ) (more : List ℕ) → r.position ≡ position.Comment → reading limits r at more ≡ gap_reading limits r.frames (pass true at more).rest
  unfolding position_reading
  reading-comment r at more e = ap (λ p. position_reading limits r.frames p r.from r.text at more) e

  pub reading-token : (r : Progress) (t : Token) (at : ℕ) (more : List ℕ) → r.position ≡ position.Token t →
      reading limits r at more ≡ (token_reading limits r.frames (atom limits (token_class t) (record { at = r.from; bytes = opening t ++ (r.text ++ more) })))
  unfolding position_reading
  reading-token r t at more e = ap (λ p. position_reading limits r.frames p r.from r.text at more) e

  token-whole : (fs : List OpenList) (s : Sexp) (rest : Input) → token_reading limits fs (Whole s rest) ≡ child_reading limits fs s rest
  unfolding token_reading child_reading ◌>>=◌
  token-whole [] s rest = refl
  token-whole (f ∷ fs) s rest = refl

  token-refused : (fs : List OpenList) (name : FaultName) (at : ℕ) → token_reading limits fs (Refused name at) ≡ Refused name at
  unfolding token_reading ◌>>=◌
  token-refused [] name at = refl
  token-refused (f ∷ fs) name at = refl

  pub stands-as : (r : Progress) (at : ℕ) (p : Position) → r.position ≡ p → IsReader limits r at → IsPosition limits (length r.frames) p r.from r.text at
  stands-as r at p e h = subst (λ q. IsPosition limits (length r.frames) q r.from r.text at) e h.stands

  pub as-reader : (r : Progress) (at : ℕ) (p : Position) → r.position ≡ p → length r.frames ≤ limits.nesting → r.done ≡ [] → IsPosition limits (length r.frames) p r.from r.text at → HasBytes limits (parts_in r.frames) p r.from at → IsReader limits r at
  as-reader r at p e n d s w = record {
    nested = n;
    stands = subst (λ q. IsPosition limits (length r.frames) q r.from r.text at) (sym e) s;
    none = d;
    own = subst (λ q. HasBytes limits (parts_in r.frames) q r.from at) (sym e) w;
  }

  pub own-as : (r : Progress) (at : ℕ) (p : Position) → r.position ≡ p → IsReader limits r at → HasBytes limits (parts_in r.frames) p r.from at
  own-as r at p e h = subst (λ q. HasBytes limits (parts_in r.frames) q r.from at) e h.own

  some-open : (r : Progress) (at : ℕ) → r.position ≡ position.Gap → IsReader limits r at → 0 < length r.frames
  some-open r at p h = let n : 0 < length r.frames = stands-as r at position.Gap p h in omega (arith, n)

  -- ---- between two tokens

  pub turns-space : (old new : Progress) (at x : ℕ) → IsReader limits old at → old.position ≡ position.Gap → new.frames ≡ old.frames → new.done ≡ old.done → new.position ≡ position.Gap → class x ≡ Space → Turns limits old at x turn.Goes new
  turns-space old new at x h p f d q e =
      let same = ap length f in
      let n : 0 < length old.frames = stands-as old at position.Gap p h in
      let own : parts_in old.frames ≤ at = own-as old at position.Gap p h in (
        as-reader new (suc at) position.Gap q (omega (arith, h.nested, same)) (d ∙ h.none) (omega (arith, n, same)) (omega (arith, own, ap parts_in f)),
        λ more. reading-gap old at (x ∷ more) p ∙ gap-space limits old.frames at x more e
            ∙ ap (λ v. gap_reading limits v (pass false (suc at) more).rest) (sym f) ∙ sym (reading-gap new (suc at) more q),
      )

  pub turns-comment : (old new : Progress) (at x : ℕ) → IsReader limits old at → old.position ≡ position.Gap → new.frames ≡ old.frames → new.done ≡ old.done → new.position ≡ position.Comment → class x ≡ Comment → Turns limits old at x turn.Goes new
  turns-comment old new at x h p f d q e =
      let same = ap length f in
      let n : 0 < length old.frames = stands-as old at position.Gap p h in
      let own : parts_in old.frames ≤ at = own-as old at position.Gap p h in (
        as-reader new (suc at) position.Comment q (omega (arith, h.nested, same)) (d ∙ h.none) (omega (arith, n, same)) (omega (arith, own, ap parts_in f)),
        λ more. reading-gap old at (x ∷ more) p ∙ gap-comment limits old.frames at x more e
            ∙ ap (λ v. gap_reading limits (v) (pass true (suc at) more).rest) (sym f) ∙ sym (reading-comment new (suc at) more q),
      )

  in_comment : (b : Bool) (old new : Progress) (at x : ℕ) → is_line_end x ≡ b → IsReader limits old at → old.position ≡ position.Comment → new.frames ≡ old.frames → new.done ≡ old.done → new.position ≡ (if b then position.Gap else position.Comment) → Turns limits old at x turn.Goes new
  in_comment true old new at x b h p f d q =
      let same = ap length f in
      let n : 0 < length old.frames = stands-as old at position.Comment p h in
      let own : parts_in old.frames ≤ at = own-as old at position.Comment p h in (
        as-reader new (suc at) position.Gap q (omega (arith, h.nested, same)) (d ∙ h.none) (omega (arith, n, same)) (omega (arith, own, ap parts_in f)),
        λ more. reading-comment old at (x ∷ more) p
            ∙ ap (λ (u : Passed). gap_reading limits old.frames u.rest) (pass-in_comment at x more ∙ ap (λ l. pass (not l) (suc at) more) b)
            ∙ ap (λ v. gap_reading limits (v) (pass false (suc at) more).rest) (sym f) ∙ sym (reading-gap new (suc at) more q),
      )
  in_comment false old new at x b h p f d q =
      let same = ap length f in
      let n : 0 < length old.frames = stands-as old at position.Comment p h in
      let own : parts_in old.frames ≤ at = own-as old at position.Comment p h in (
        as-reader new (suc at) position.Comment q (omega (arith, h.nested, same)) (d ∙ h.none) (omega (arith, n, same)) (omega (arith, own, ap parts_in f)),
        λ more. reading-comment old at (x ∷ more) p
            ∙ ap (λ (u : Passed). gap_reading limits old.frames u.rest) (pass-in_comment at x more ∙ ap (λ l. pass (not l) (suc at) more) b)
            ∙ ap (λ v. gap_reading limits (v) (pass true (suc at) more).rest) (sym f) ∙ sym (reading-comment new (suc at) more q),
      )

  pub turns-in_comment : (b : Bool) (old new : Progress) (at x : ℕ) → b ≡ is_line_end x → IsReader limits old at → old.position ≡ position.Comment → new.frames ≡ old.frames → new.done ≡ old.done → new.position ≡ (if b then position.Gap else position.Comment) → Turns limits old at x turn.Goes new
  turns-in_comment b old new at x e h p f d q = in_comment b old new at x (sym e) h p f d q

  pub turns-bad : (old new : Progress) (at x : ℕ) → IsReader limits old at → old.position ≡ position.Gap → class x ≡ Other → Turns limits old at x (turn.Fault BadByte) new
  turns-bad old new at x h p e = λ more. reading-gap old at (x ∷ more) p ∙ gap-bad limits old.frames at x more (some-open old at p h) e

  pub turns-deep : (old new : Progress) (at x : ℕ) → IsReader limits old at → old.position ≡ position.Gap → limits.nesting ≤ length old.frames → class x ≡ Open → Turns limits old at x (turn.Fault Nesting) new
  turns-deep old new at x h p d e = λ more. reading-gap old at (x ∷ more) p ∙ gap-deep limits old.frames at x more (some-open old at p h) (omega (arith, d)) e

  pub turns-full-open : (old new : Progress) (at x : ℕ) → IsReader limits old at → old.position ≡ position.Gap → length old.frames < limits.nesting → is_full limits old.frames ≡ true → class x ≡ Open → Turns limits old at x (turn.Fault Width) new
  turns-full-open old new at x h p d m e = λ more.
      reading-gap old at (x ∷ more) p ∙ gap-full-open limits old.frames at x more (some-open old at p h) (omega (arith, d)) m e

  pub turns-full : (old new : Progress) (at x : ℕ) → IsReader limits old at → old.position ≡ position.Gap → is_full limits old.frames ≡ true → IsAtom (class x) → Turns limits old at x (turn.Fault Width) new
  turns-full old new at x h p m a = λ more. reading-gap old at (x ∷ more) p ∙ gap-full limits (class x) old.frames at x more (some-open old at p h) m a (atom-stands (class x) a) refl

  pub turns-open : (old new : Progress) (at x : ℕ) → IsReader limits old at → old.position ≡ position.Gap → length old.frames < limits.nesting → is_full limits old.frames ≡ false →
      new.frames ≡ record { at = at; children = [] } ∷ old.frames → new.done ≡ old.done → new.position ≡ old.position → class x ≡ Open → Turns limits old at x turn.Goes new
  turns-open old new at x h p d m f n q e =
      let same = ap length f in
      let own : parts_in old.frames ≤ at = own-as old at position.Gap p h in (
        as-reader new (suc at) position.Gap (q ∙ p) (omega (arith, d, same)) (n ∙ h.none) (omega (arith, same)) (omega (arith, own, ap parts_in f)),
        λ more.
            reading-gap old at (x ∷ more) p
            ∙ gap-open limits old.frames (record { at = at; children = [] }) at x more (some-open old at p h) d m refl refl e
            ∙ ap (λ fs. gap_reading limits fs (pass false (suc at) more).rest) (sym f)
            ∙ sym (reading-gap new (suc at) more (q ∙ p)),
      )

  -- what is added to and closed, without the bytes
  abbrev pub bare : Progress → Built
  bare h = record { bytes = []; open_lists = h.frames; done = h.done }

  pub turns-close : (old new : Progress) (at to x : ℕ) → IsReader limits old at → old.position ≡ position.Gap → new.position ≡ old.position → suc at ≡ to → class x ≡ Close → ClosesList limits (bare old) to (bare new) false → Turns limits old at x turn.Goes new
  turns-close old new at to x h p q t e c = (
    as-reader new (suc at) position.Gap (q ∙ p) (omega (arith, h.nested, c.0)) (c.2 ∙ h.none) c.1
        (let own : parts_in old.frames ≤ at = own-as old at position.Gap p h in omega (arith, own, c.4)),
    λ more.
        reading-gap old at (x ∷ more) p ∙ gap-at limits Close old.frames at x more tt e ∙ c.3 at x more t e
        ∙ ap (λ k. gap_reading limits new.frames (record { at = k; bytes = more })) (sym t)
        ∙ gap-pass limits new.frames (suc at) more ∙ sym (reading-gap new (suc at) more (q ∙ p)),
  )

  pub turns-close_whole : (old new : Progress) (at to x : ℕ) → IsReader limits old at → old.position ≡ position.Gap → suc at ≡ to → class x ≡ Close → ClosesList limits (bare old) to (bare new) true → Turns limits old at x turn.Whole new
  turns-close_whole old new at to x h p t e c = (
    c.0,
    c.2 ∙ ap (λ ss. ss ++ c.0 ∷ []) h.none,
    c.1,
    λ more.
        reading-gap old at (x ∷ more) p ∙ gap-at limits Close old.frames at x more tt e ∙ c.3 at x more t e ∙ ap (λ k. Whole c.0 (record { at = k; bytes = more })) (sym t),
  )

  pub turns-atom : (old new : Progress) (at x : ℕ) → IsReader limits old at → old.position ≡ position.Gap → is_full limits old.frames ≡ false → IsAtom (class x) → BeginsToken limits old at x new → Turns limits old at x turn.Goes new
  turns-atom old new at x h p m a b = (
    record { nested = omega (arith, h.nested, ap length b.frames); stands = b.stands (length new.frames); none = b.done ∙ h.none; own = b.own (parts_in new.frames) (let own : parts_in old.frames ≤ at = own-as old at position.Gap p h in omega (arith, own, ap parts_in b.frames)) },
    λ more.
        reading-gap old at (x ∷ more) p
        ∙ gap-atom limits (class x) old.frames at x more (some-open old at p h) m a (atom-stands (class x) a) refl
        ∙ b.reads old.frames more
        ∙ ap (λ v. position_reading limits (v) new.position new.from new.text (suc at) more) (sym b.frames),
  )

  -- ---- inside a token

  -- what the byte does to the token
  pub token-turned : (r : Progress) (t : Token) (k : TokenTurn) (at x : ℕ) → IsReader limits r at → r.position ≡ position.Token t → k ≡ token_turn limits (at - r.from) t x → TokenTurns limits t r.text x k
  token-turned r t k at x h p e =
      let s = stands-as r at (position.Token t) p h in
      let size : at - r.from ≡ token_size t r.text = omega (arith, s.1) in
      subst (TokenTurns limits t r.text x) (sym (e ∙ ap (λ n. token_turn limits n t x) size)) (token_turns limits t r.text x s.0 s.2)

  pub turns-goes : (old new : Progress) (t u : Token) (at x : ℕ) → IsReader limits old at → old.position ≡ position.Token t → TokenTurns limits t old.text x (token_turns_to.Goes u) →
      new.frames ≡ old.frames → new.done ≡ old.done → new.position ≡ position.Token u → new.from ≡ old.from → new.text ≡ old.text ++ x ∷ [] → Turns limits old at x turn.Goes new
  turns-goes old new t u at x h p k f d q a i =
      let s = stands-as old at (position.Token t) p h in
      let long = ap length i ∙ length-append old.text (x ∷ []) in
      let start = ap length k.2 in
      let own = own-as old at (position.Token t) p h in (
        as-reader new (suc at) (position.Token u) q (omega (arith, h.nested, ap length f)) (d ∙ h.none) (subst (IsToken u) (sym i) k.0, omega (arith, s.1, long, start, a), omega (arith, k.3, long, start))
            (omega (arith, own.0, ap parts_in f, a), omega (arith, own.1, a)),
        λ more.
            reading-token old t at (x ∷ more) p
            ∙ ap (λ c. token_reading limits old.frames (atom limits c (record { at = old.from; bytes = opening t ++ (old.text ++ x ∷ more) }))) k.1
            ∙ ap (λ o. token_reading limits old.frames (atom limits (token_class u) (record { at = old.from; bytes = o ++ (old.text ++ x ∷ more) }))) k.2
            ∙ ap (λ l. token_reading limits old.frames (atom limits (token_class u) (record { at = old.from; bytes = opening u ++ l }))) (sym (append_assoc old.text (x ∷ []) more))
            ∙ ap (λ l. token_reading limits old.frames (atom limits (token_class u) (record { at = old.from; bytes = opening u ++ (l ++ more) }))) (sym i)
            ∙ ap (λ n. token_reading limits old.frames (atom limits (token_class u) (record { at = n; bytes = opening u ++ (new.text ++ more) }))) (sym a)
            ∙ ap (λ v. token_reading limits (v) (atom limits (token_class u) (record { at = new.from; bytes = opening u ++ (new.text ++ more) }))) (sym f)
            ∙ sym (reading-token new u (suc at) more q),
      )

  pub turns-fault : (old new : Progress) (t : Token) (name : FaultName) (at x : ℕ) → IsReader limits old at → old.position ≡ position.Token t → TokenTurns limits t old.text x (token_turns_to.Fault name) → Turns limits old at x (turn.Fault name) new
  turns-fault old new t name at x h p k = λ more.
      let s = stands-as old at (position.Token t) p h in
      reading-token old t at (x ∷ more) p ∙ ap (token_reading limits old.frames) (k old.from more) ∙ token-refused old.frames name _ ∙ ap (Refused name) s.1

  -- a token that ends with the byte x
  closed-token : (old : Progress) (t : Token) (at to x : ℕ) → IsReader limits old at → old.position ≡ position.Token t → suc at ≡ to → TokenTurns limits t old.text x token_turns_to.Closes → (more : List ℕ) →
      reading limits old at (x ∷ more) ≡ child_reading limits old.frames (atom_of old t to) (record { at = suc at; bytes = more })
  closed-token old t at to x h p e k more =
      let st = stands-as old at (position.Token t) p h in
      let end : suc (old.from + token_size t old.text) ≡ suc at = ap suc st.1 in
      let fs : List OpenList = old.frames in
      reading-token old t at (x ∷ more) p
      ∙ ap (token_reading limits fs) (k old.from more)
      ∙ token-whole fs _ _
      ∙ ap (λ n. child_reading limits fs (Atom (atom_kind t old.text) (atom_text t old.text) (record { from = old.from; to = n })) (record { at = n; bytes = more })) end
      ∙ ap (λ n. child_reading limits fs (Atom (atom_kind t old.text) (atom_text t old.text) (record { from = old.from; to = n })) (record { at = suc at; bytes = more })) e

  -- a token that ended before it
  ended-token : (old : Progress) (t : Token) (at x : ℕ) → IsReader limits old at → old.position ≡ position.Token t → TokenTurns limits t old.text x token_turns_to.Ends → (more : List ℕ) →
      reading limits old at (x ∷ more) ≡ child_reading limits old.frames (atom_of old t at) (record { at = at; bytes = x ∷ more })
  ended-token old t at x h p k more =
      let st = stands-as old at (position.Token t) p h in
      let fs : List OpenList = old.frames in
      reading-token old t at (x ∷ more) p
      ∙ ap (token_reading limits fs) (k old.from more)
      ∙ token-whole fs _ _
      ∙ ap (λ n. child_reading limits fs (Atom (atom_kind t old.text) (atom_text t old.text) (record { from = old.from; to = n })) (record { at = n; bytes = x ∷ more })) st.1

  whole-alone : (old new : Built) (s : Sexp) (rest : Input) → AddsChild limits old s new true → child_reading limits old.open_lists s rest ≡ Whole s rest
  unfolding child_reading
  whole-alone old new s rest c = ap (λ fs. child_reading limits fs s rest) c.0

  pub turns-closes : (old new : Progress) (t : Token) (at to x : ℕ) → IsReader limits old at → old.position ≡ position.Token t → suc at ≡ to → TokenTurns limits t old.text x token_turns_to.Closes →
      new.position ≡ position.Gap → AddsChild limits (bare old) (atom_of old t to) (bare new) false → Turns limits old at x turn.Goes new
  turns-closes old new t at to x h p e k q c = (
    as-reader new (suc at) position.Gap q (omega (arith, h.nested, c.0)) (c.2 ∙ h.none) (omega (arith, c.0, c.1))
        (let own = own-as old at (position.Token t) p h in omega (arith, own.0, own.1, c.4)),
    λ more.
        closed-token old t at to x h p e k more ∙ c.3 (record { at = suc at; bytes = more }) ∙ gap-pass limits new.frames (suc at) more ∙ sym (reading-gap new (suc at) more q),
  )

  pub turns-closes_whole : (old new : Progress) (t : Token) (at to x : ℕ) → IsReader limits old at → old.position ≡ position.Token t → suc at ≡ to → TokenTurns limits t old.text x token_turns_to.Closes →
      AddsChild limits (bare old) (atom_of old t to) (bare new) true → Turns limits old at x turn.Whole new
  turns-closes_whole old new t at to x h p e k c = (
    atom_of old t to,
    c.2 ∙ ap (λ ss. ss ++ atom_of old t to ∷ []) h.none,
    c.1,
    λ more.
        closed-token old t at to x h p e k more ∙ whole-alone (bare old) (bare new) (atom_of old t to) (record { at = suc at; bytes = more }) c,
  )

  pub turns-before : (old new : Progress) (t : Token) (at x : ℕ) → IsReader limits old at → old.position ≡ position.Token t → TokenTurns limits t old.text x token_turns_to.Ends →
      AddsChild limits (bare old) (atom_of old t at) (bare new) true → Turns limits old at x turn.Before new
  turns-before old new t at x h p k c = (
    atom_of old t at,
    c.2 ∙ ap (λ ss. ss ++ atom_of old t at ∷ []) h.none,
    c.1,
    λ more.
        ended-token old t at x h p k more ∙ whole-alone (bare old) (bare new) (atom_of old t at) (record { at = at; bytes = x ∷ more }) c,
  )

  -- after the token the byte is one between two tokens
  pub ended-reader : (old mid : Progress) (t : Token) (to at : ℕ) → IsReader limits old at → old.position ≡ position.Token t → mid.position ≡ position.Gap → AddsChild limits (bare old) (atom_of old t to) (bare mid) false → IsReader limits mid at
  ended-reader old mid t to at h p q c =
      as-reader mid at position.Gap q (omega (arith, h.nested, c.0)) (c.2 ∙ h.none) (omega (arith, c.0, c.1))
      (let own = own-as old at (position.Token t) p h in omega (arith, own.0, own.1, c.4))

  turns-as : (old mid new : Progress) (at x : ℕ) (k : ReaderTurn) → ((more : List ℕ) → reading limits old at (x ∷ more) ≡ reading limits mid at (x ∷ more)) → Turns limits mid at x k new → Turns limits old at x k new
  turns-as old mid new at x turn.Goes e h = (h.0, λ more. e more ∙ h.1 more)
  turns-as old mid new at x turn.Before e h = (h.0, h.1, h.2, λ more. e more ∙ h.3 more)
  turns-as old mid new at x turn.Whole e h = (h.0, h.1, h.2, λ more. e more ∙ h.3 more)
  turns-as old mid new at x (turn.Fault name) e h = λ more. e more ∙ h more

  pub turns-ends : (old mid new : Progress) (t : Token) (at x : ℕ) (k : ReaderTurn) → IsReader limits old at → old.position ≡ position.Token t → TokenTurns limits t old.text x token_turns_to.Ends →
      mid.position ≡ position.Gap → AddsChild limits (bare old) (atom_of old t at) (bare mid) false → Turns limits mid at x k new → Turns limits old at x k new
  turns-ends old mid new t at x k h p u q c v =
      turns-as old mid new at x k
      (λ more. ended-token old t at x h p u more ∙ c.3 (record { at = at; bytes = x ∷ more }) ∙ gap-pass limits mid.frames at (x ∷ more) ∙ sym (reading-gap mid at (x ∷ more) q)) v

  -- ---- the first byte of a list

  pub list-read : 1 ≤ limits.nesting → (new : Progress) (x : ℕ) → new.frames ≡ record { at = 0; children = [] } ∷ [] → new.done ≡ [] → new.position ≡ position.Gap → class x ≡ Open → Begins limits x new
  list-read n new x f d p e =
      let same = ap length f in (
        as-reader new 1 position.Gap p (omega (arith, same, n)) d (omega (arith, same)) (omega (arith, ap parts_in f)),
        λ more.
            list-begins limits (record { at = 0; children = [] }) x more n refl refl e ∙ ap (λ fs. gap_reading limits fs (pass false 1 more).rest) (sym f) ∙ sym (reading-gap new 1 more p),
      )

  -- ---- the end of the bytes

  nested-cut : (r : Progress) (at : ℕ) (p : Position) (fs : List OpenList) → 0 < length fs → IsPosition limits (length r.frames) p r.from r.text at → position_reading limits fs p r.from r.text at [] ≡ Cut None
  unfolding position_reading gap_reading token_reading ◌>>=◌ pass skip
  nested-cut r at p [] h s = absurd (omega arith)
  nested-cut r at position.Gap (f ∷ fs) h s = resume-cut limits (limits.nesting - suc (length fs)) (inner limits f) (map (outer limits) fs) (record { at = at; bytes = [] }) refl
  nested-cut r at position.Comment (f ∷ fs) h s = resume-cut limits (limits.nesting - suc (length fs)) (inner limits f) (map (outer limits) fs) (record { at = at; bytes = [] }) refl
  nested-cut r at (position.Token t) (f ∷ fs) h s = ap (token_reading limits (f ∷ fs)) (token_cut limits t r.text r.from s.0 s.2)

  -- a list is open
  pub list-cut : (r : Progress) (at : ℕ) → IsReader limits r at → 0 < length r.frames → reading limits r at [] ≡ Cut None
  list-cut r at h n = nested-cut r at r.position r.frames (omega (arith, n)) h.stands

  alone : (fs : List OpenList) (q : Reading Sexp) → length fs ≡ 0 → token_reading limits fs q ≡ q
  unfolding token_reading
  alone [] q e = refl
  alone (f ∷ fs) q e = absurd (omega arith)

  token_end-some : (t : Token) (text : List ℕ) (from : ℕ) → may_end t ≡ true → token_end t text from ≡ Some (Atom (atom_kind t text) (atom_text t text) (record { from = from; to = from + token_size t text }))
  token_end-some token.Word text from e = refl
  token_end-some (token.Text true) text from e = refl
  token_end-some (token.Text false) text from e = cc
  token_end-some token.Quoted text from e = cc

  token_end-none : (t : Token) (text : List ℕ) (from : ℕ) → may_end t ≡ false → token_end t text from ≡ None
  token_end-none token.Word text from e = cc
  token_end-none (token.Text true) text from e = cc
  token_end-none (token.Text false) text from e = refl
  token_end-none token.Quoted text from e = refl

  -- an atom in no list
  atom-cut : (r : Progress) (t : Token) (at : ℕ) → IsReader limits r at → r.position ≡ position.Token t → length r.frames ≡ 0 → reading limits r at [] ≡ Cut (token_end t r.text r.from)
  atom-cut r t at h p n =
      let s = stands-as r at (position.Token t) p h in
      reading-token r t at [] p
      ∙ ap (token_reading limits r.frames) (token_cut limits t r.text r.from s.0 s.2)
      ∙ alone r.frames _ (n)

  pub atom-ended : (r : Progress) (t : Token) (at : ℕ) → IsReader limits r at → r.position ≡ position.Token t → length r.frames ≡ 0 → may_end t ≡ true → reading limits r at [] ≡ Cut (Some (atom_of r t at))
  atom-ended r t at h p n m =
      let st = stands-as r at (position.Token t) p h in
      atom-cut r t at h p n
      ∙ ap (λ o. Cut o) (token_end-some t r.text r.from m)
      ∙ ap (λ k. Cut (Some (Atom (atom_kind t r.text) (atom_text t r.text) (record { from = r.from; to = k })))) st.1

  pub atom-open : (r : Progress) (t : Token) (at : ℕ) → IsReader limits r at → r.position ≡ position.Token t → length r.frames ≡ 0 → may_end t ≡ false → reading limits r at [] ≡ Cut None
  atom-open r t at h p n m = atom-cut r t at h p n ∙ ap (λ o. Cut o) (token_end-none t r.text r.from m)

  -- where its bytes end nothing is decided
  pub reader-cut : (r : Progress) (at : ℕ) → IsReader limits r at → (e : Option Sexp) × (reading limits r at [] ≡ Cut e)
  unfolding position_reading token_reading
  reader-cut r at h = go r.position h.stands r.frames refl
    where
      go : (p : Position) → IsPosition limits (length r.frames) p r.from r.text at → (fs : List OpenList) → length fs ≡ length r.frames → (e : Option Sexp) × (position_reading limits fs p r.from r.text at [] ≡ Cut e)
      go position.Gap s [] n = absurd (omega arith)
      go position.Comment s [] n = absurd (omega arith)
      go (position.Token t) s [] n = (token_end t r.text r.from, token_cut limits t r.text r.from s.0 s.2)
      go p s (f ∷ fs) n = (None, nested-cut r at p (f ∷ fs) (omega arith) s)
