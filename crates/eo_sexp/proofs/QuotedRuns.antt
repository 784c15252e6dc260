-- A quoted symbol that begins at the front of some bytes and closes in them, with the spaces after it.
use Rattle.std.proofs.Common.{◌≡◌, refl, ℕ, ◌+◌, ◌-◌, ◌≤◌, ◌<◌, true, false, List, [], ◌∷◌, ◌++◌, length, length-append, length-drop, length-take-le, take, take-add, drop, get_or, All, sym, ap, ◌∙◌, append_assoc, subst, arith}
use Rattle.std.specs.Prelude.{if◌then◌else◌}
use Rattle.std.specs.List.{slice_range}
use Rattle.std.proofs.Math.Seq.{take-length}
use Rattle.std.proofs.lemmas.Bool.{lt-ltb}
use Rattle.eo_base.specs.Limits.{Limits}
use Rattle.eo_base.specs.declared.FaultName.TheVariants.{TokenLong}
use Rattle.eo_sexp.specs.declared.token.Token.TheVariants as token
use Rattle.eo_sexp.specs.declared.token.TokenTurn.TheVariants as turns_to
use Rattle.eo_sexp.specs.declared.reader.Position.TheVariants as position
use Rattle.eo_sexp.specs.declared.reader.Reader.{Reader}
use Rattle.eo_sexp.specs.declared.reader.ReaderTurn.TheVariants as turn
use Rattle.eo_sexp.specs.AtomKind.{Symbol}
use Rattle.eo_sexp.specs.Sexp.{Sexp, Atom}
use Rattle.eo_sexp.specs.Nodes.{token_text}
use Rattle.eo_sexp.specs.Built.{OpenList, Built, with_byte, with_child, behind_child}
use Rattle.eo_sexp.specs.Token.{token_turn}
use Rattle.eo_sexp.specs.Reader.{held, IsReader, AddsChild, IsFirstOf, IsAhead, RunsTo, StopsAt}
use Rattle.eo_sexp.proofs.Building.{slice-append}
use Rattle.eo_sexp.proofs.OpenFrames.{adds-inner}
use Rattle.eo_sexp.proofs.RunSteps.{line_feeds, runs-trans}
use Rattle.eo_sexp.proofs.BlankRuns.{blank-runs}
use Rattle.eo_sexp.proofs.ReaderSteps.{turns-closes, token-turned, stands-as}
use Rattle.eo_sexp.proofs.AheadRuns.{child-bytes, child-lists, in_token, ahead-runs, goes-behind}

-- a bar closes a quoted symbol that is not too long
bar-closes : (limits : Limits) (k x : ℕ) → x ≡ 124 → k < limits.token → turns_to.Closes ≡ token_turn limits k token.Quoted x
unfolding token_turn
bar-closes limits k x bar h = ap (λ b. if b then turns_to.Closes else turns_to.Fault TokenLong) (sym (lt-ltb k limits.token h)) ∙ ap (token_turn limits k token.Quoted) (sym bar)

-- the bytes do not depend on which child is added
child-behind : (b : Built) (bytes : List ℕ) (s : Sexp) → with_child (record b { bytes = bytes }) s ≡ record (with_child b s) { bytes = bytes }
child-behind b bytes s = go b.open_lists
  where
    go : (fs : List OpenList) → behind_child bytes fs b.done s ≡ record (behind_child b.bytes fs b.done s) { bytes = bytes }
    go [] = refl
    go (f ∷ fs) = refl

module _ (limits : Limits) (some : 1 ≤ limits.token) (b : Built) (r : Reader) (rest : List ℕ) (n at : ℕ) (h : IsReader limits (held b r) (length b.bytes)) (size : length b.bytes ≡ at) (f : IsFirstOf r (get_or rest 0 0) token.Quoted)
    (a : IsAhead limits b token.Quoted rest n) (bar : get_or rest n 0 ≡ 124) (short : n < limits.token) where
  -- before the bar
  abbrev before : Built
  before = record b { bytes = b.bytes ++ take n rest }

  abbrev quoted : Reader
  quoted = in_token token.Quoted (length b.bytes)

  before_run : RunsTo limits b r rest n 0 before quoted
  before_run = ahead-runs limits some b before r token.Quoted rest n h f a refl

  before_long : length before.bytes ≡ at + n
  before_long = omega (arith, length-append b.bytes (take n rest), length-take-le n rest (before_run).within, size)

  abbrev symbol : Sexp
  symbol = Atom Symbol (drop (length b.bytes + 1) before.bytes) (record { from = length b.bytes; to = length before.bytes + 1 })

  symbol_added : AddsChild limits before symbol (with_child before symbol) false
  symbol_added =
      let within : 0 < length b.open_lists = stands-as limits (held b r) (length b.bytes) position.Gap f.gap h in
      adds-inner limits before symbol (omega (arith, within, child-lists before symbol))

  bar_stops : StopsAt limits b r rest n 0 turn.Goes (with_child before symbol) r
  bar_stops =
      let x : ℕ = get_or rest n 0 in
      let closes = bar-closes limits (length before.bytes - length b.bytes) x bar (omega (arith, short, before_long, size)) in
      record {
        buffer = before;
        reader = quoted;
        run = before_run;
        more = a.more;
        bytes = child-bytes before symbol;
        turns = turns-closes limits (held before quoted) (held (with_byte (with_child before symbol) x) r) token.Quoted (length before.bytes) (length before.bytes + 1) x (before_run).reader refl (omega arith)
            (token-turned limits (held before quoted) token.Quoted turns_to.Closes (length before.bytes) x (before_run).reader refl closes)
            f.gap symbol_added;
      }

  -- after the bar
  abbrev behind : Built
  behind = with_byte (with_child before symbol) (get_or rest n 0)

  bar_run : RunsTo limits b r rest (n + 1) 0 behind r
  bar_run =
      let lines : 0 + line_feeds (get_or rest n 0) ≡ 0 = ap (λ y. 0 + line_feeds y) bar in
      subst (λ i. RunsTo limits b r rest (n + 1) i behind r) lines (goes-behind limits b (with_child before symbol) behind r r rest n 0 bar_stops a.fits refl)

  -- the symbol that the buffer adds
  symbol_same : (bytes more : List ℕ) → bytes ≡ before.bytes ++ more → Atom Symbol (token_text bytes true at (at + (n + 1))) (record { from = at; to = at + (n + 1) }) ≡ symbol
  symbol_same bytes more e =
      let all : ℕ = length before.bytes - (at + 1) in
      let ends : at + (n + 1) - 1 ≡ length before.bytes = omega (arith, before_long) in
      let long : all ≡ length (drop (at + 1) before.bytes) = sym (length-drop (at + 1) before.bytes) in
      let text : token_text bytes true at (at + (n + 1)) ≡ drop (length b.bytes + 1) before.bytes =
      ap (λ l. token_text l true at (at + (n + 1))) e
      ∙ ap (slice_range (before.bytes ++ more) (at + 1)) ends
      ∙ slice-append before.bytes more (at + 1) (length before.bytes) (omega (arith, before_long, a.some)) (omega arith)
      ∙ ap (λ k. take k (drop (at + 1) before.bytes)) long
      ∙ take-length (drop (at + 1) before.bytes)
      ∙ ap (λ k. drop (k + 1) before.bytes) (sym size) in
      let to : at + (n + 1) ≡ length before.bytes + 1 = omega (arith, before_long) in
      ap (λ l. Atom Symbol l (record { from = at; to = at + (n + 1) })) text
      ∙ ap (λ k. Atom Symbol (drop (length b.bytes + 1) before.bytes) (record { from = k; to = at + (n + 1) })) (sym size)
      ∙ ap (λ k. Atom Symbol (drop (length b.bytes + 1) before.bytes) (record { from = length b.bytes; to = k })) to

  pub quoted-blanks : (v e : Built) (k : ℕ) → k ≤ length (drop (n + 1) rest) → All (λ x. x ≡ 32) (take k (drop (n + 1) rest)) → length b.bytes + (n + 1 + k) ≤ limits.command →
      v ≡ record b { bytes = b.bytes ++ take (n + 1 + k) rest } → e ≡ with_child v (Atom Symbol (token_text v.bytes true at (at + (n + 1))) (record { from = at; to = at + (n + 1) })) → RunsTo limits b r rest (n + 1 + k) 0 e r
  quoted-blanks v e k within blank fits whole atom =
      let left : List ℕ = drop (n + 1) rest in
      let bytes : List ℕ = b.bytes ++ take (n + 1 + k) rest in
      let count : n + 1 + k ≡ n + (1 + k) = omega arith in
      let after : bytes ≡ before.bytes ++ take (1 + k) (drop n rest) =
      ap (λ m. b.bytes ++ take m rest) count ∙ ap (λ l. b.bytes ++ l) (take-add n (1 + k) rest) ∙ sym (append_assoc b.bytes (take n rest) (take (1 + k) (drop n rest))) in
      let split : bytes ≡ behind.bytes ++ take k left =
      ap (λ l. b.bytes ++ l) (take-add (n + 1) k rest) ∙ sym (append_assoc b.bytes (take (n + 1) rest) (take k left)) ∙ ap (λ l. l ++ take k left) (sym (bar_run).bytes) in
      let same : e ≡ record behind { bytes = behind.bytes ++ take k left } =
      atom
      ∙ ap (with_child v) (symbol_same v.bytes (take (1 + k) (drop n rest)) (ap (λ (w : Built). w.bytes) whole ∙ after))
      ∙ ap (λ w. with_child w symbol) whole
      ∙ child-behind before bytes symbol
      ∙ ap (λ (l : List ℕ). record (with_child before symbol) { bytes = l }) split in
      let long : length behind.bytes ≡ length b.bytes + (n + 1) = omega (arith, ap length (bar_run).bytes, length-append b.bytes (take (n + 1) rest), length-take-le (n + 1) rest (bar_run).within) in
      runs-trans limits b behind e r r r rest (n + 1) k 0 0 bar_run (blank-runs limits behind e r left k f.gap (bar_run).reader same within blank (omega (arith, fits, long)))
