-- The names of lines are free and small: fewer names are taken than are tried, and each has a number of its own.
use Rattle.std.specs.Prelude.{◌≡◌, refl, ℕ, zero, suc, ◌+◌, ◌^◌, ◌<◌, ◌≤◌, Bool, true, false, not, ◌&&◌, ◌||◌, nat_lt, List, [], ◌∷◌, ◌++◌, map, length, drop, cond, if◌then◌else◌, Option, Some, None, is_none, option_map, position, bytes_eq}
use Rattle.std.specs.List.{list_any, position_or_len}
use Rattle.std.specs.Option.{option_or}
use Rattle.std.specs.Cmp.{decided}
use Rattle.std.specs.List.{IsDistinct, AllByRecursion}
use Rattle.std.proofs.lemmas.Map.Made.{length-le_from_is_member}
use Rattle.std.proofs.Common.{sym, ◌∙◌, ap, arith, subst, length-append}
use Rattle.std.proofs.lemmas.Bool.{ltb-true}
use Rattle.std.proofs.lemmas.List.{length-map}
use Rattle.eo_base.proofs.Tests.{or_first, or_second, bytes_eq-flip}
use Rattle.std.proofs.lemmas.Slice.Eq.{bytes_eq-Decides}
use Rattle.std.proofs.lemmas.Fmt.{decimal_injective}
use Rattle.eo_sig.specs.Signature.{Signature, IsConstant, IsProgram, IsRule, IsLiteralType, Constant, Macro, Program, constants, programs, is_free, is_reserved, lookup, NamesConstant, NamesMacro, NamesProgram, constant_named, macro_named, program_named}
use Rattle.eo_term.specs.Tree.{Tree}
use Rattle.eo_show.specs.Lines.{line_name, first_free, next_free, named_from}
use Rattle.eo_show.specs.Written.{AreOther, HaveNewNames}

-- ---- numbers of names

-- names that differ in number differ
line_name-number : (j k : ℕ) → j < 2 ^ 64 → k < 2 ^ 64 → line_name j ≡ line_name k → j ≡ k
line_name-number j k a b e = decimal_injective j k a b (ap (drop 2) e)

pub apart : (j k : ℕ) → j < k → k < 2 ^ 64 → bytes_eq (line_name j) (line_name k) ≡ false
apart j k lt small = go (bytes_eq (line_name j) (line_name k)) refl
  where
    go : (b : Bool) → bytes_eq (line_name j) (line_name k) ≡ b → b ≡ false
    go false e = refl
    go true e = absurd (omega (arith, line_name-number j k (omega arith) small ((bytes_eq-Decides (line_name j) (line_name k)).0 e)))

-- ---- names that are taken

module _ {X : Type 0} (p : X → Bool) where
  any_position : (xs : List X) → is_none (position p xs) ≡ false → list_any p xs ≡ true
  any_position xs e = from xs (go (nat_lt (position_or_len p xs) (length xs)) refl e)
    where
      go : (b : Bool) → nat_lt (position_or_len p xs) (length xs) ≡ b → is_none (cond b (Some (position_or_len p xs)) None) ≡ false → position_or_len p xs < length xs
      go true f h = ltb-true (position_or_len p xs) (length xs) f
      go false f h = cc

      from : (xs : List X) → position_or_len p xs < length xs → list_any p xs ≡ true
      from [] lt = absurd (omega arith)
      from (x ∷ xs) lt = by (p x) lt (from xs)
        where
          by : (b : Bool) → cond (not b) (1 + position_or_len p xs) 0 < suc (length xs) → (position_or_len p xs < length xs → list_any p xs ≡ true) → (b || list_any p xs) ≡ true
          by true h f = refl
          by false h f = f (omega arith)

any-map : {X : Type 0} (f : X → List ℕ) (name : List ℕ) (xs : List X) → list_any (bytes_eq name) (map f xs) ≡ list_any (λ x. bytes_eq name (f x)) xs
any-map f name [] = refl
any-map f name (x ∷ xs) = ap (λ b. bytes_eq name (f x) || b) (any-map f name xs)

any-append : (name : List ℕ) (xs ys : List (List ℕ)) → list_any (bytes_eq name) (xs ++ ys) ≡ (list_any (bytes_eq name) xs || list_any (bytes_eq name) ys)
any-append name [] ys = refl
any-append name (x ∷ xs) ys = ap (λ b. bytes_eq name x || b) (any-append name xs ys) ∙ assoc (bytes_eq name x) (list_any (bytes_eq name) xs) (list_any (bytes_eq name) ys)
  where
    assoc : (a b c : Bool) → (a || (b || c)) ≡ ((a || b) || c)
    assoc true b c = refl
    assoc false b c = refl

module _ (S : Signature) (macros : List Macro) where
  taken : List (List ℕ)
  taken = map (λ (c : Constant). c.name) (constants S) ++ (map (λ (m : Macro). m.name) macros ++ map (λ (p : Program). p.name) (programs S))

  entries : (S : Signature) → length (constants S) + length (programs S) ≤ length S
  entries [] = omega arith
  entries (IsConstant c n ∷ S) = omega (arith, entries S)
  entries (IsProgram p ∷ S) = omega (arith, entries S)
  entries (IsRule r ∷ S) = omega (arith, entries S)
  entries (IsLiteralType l t ∷ S) = omega (arith, entries S)

  few-taken : length taken ≤ length S + length macros
  unfolding taken
  few-taken =
      omega (
        arith,
        entries S,
        length-append (map (λ (c : Constant). c.name) (constants S)) (map (λ (m : Macro). m.name) macros ++ map (λ (p : Program). p.name) (programs S)),
        length-append (map (λ (m : Macro). m.name) macros) (map (λ (p : Program). p.name) (programs S)),
        length-map (constants S) (λ (c : Constant). c.name),
        length-map macros (λ (m : Macro). m.name),
        length-map (programs S) (λ (p : Program). p.name),
      )

  -- a name that is not reserved and not free is taken
  is-taken : (name : List ℕ) → is_reserved name ≡ false → is_free S macros name ≡ false → list_any (bytes_eq name) taken ≡ true
  unfolding taken
  is-taken name r e = any-append name _ _ ∙ ap (λ b. list_any (bytes_eq name) (map (λ (c : Constant). c.name) (constants S)) || b) (any-append name _ _)
      ∙ go (constant_named S name) (macro_named macros name) (program_named S name) refl refl refl (named (is_reserved name) r e)
    where
      named : (b : Bool) → b ≡ false → (not b && is_none (lookup S macros name)) ≡ false → is_none (lookup S macros name) ≡ false
      named true f h = cc
      named false f h = h

      go : (a b d : Option ℕ) → constant_named S name ≡ a → macro_named macros name ≡ b → program_named S name ≡ d →
          is_none (option_or (option_map NamesConstant a) (option_or (option_map NamesMacro b) (option_map NamesProgram d))) ≡ false →
          (list_any (bytes_eq name) (map (λ (c : Constant). c.name) (constants S)) || (list_any (bytes_eq name) (map (λ (m : Macro). m.name) macros) || list_any (bytes_eq name) (map (λ (p : Program). p.name) (programs S)))) ≡ true
      go (Some k) b d p q s h = or_first _ _ (any-map (λ (c : Constant). c.name) name (constants S) ∙ any_position (λ (c : Constant). bytes_eq name c.name) (constants S) (ap is_none p))
      go None (Some k) d p q s h = or_second _ _ (or_first _ _ (any-map (λ (m : Macro). m.name) name macros ∙ any_position (λ (m : Macro). bytes_eq name m.name) macros (ap is_none q)))
      go None None (Some k) p q s h = or_second _ _ (or_second _ _ (any-map (λ (m : Program). m.name) name (programs S) ∙ any_position (λ (m : Program). bytes_eq name m.name) (programs S) (ap is_none s)))
      go None None None p q s h = cc

  line_name-unreserved : (k : ℕ) → is_reserved (line_name k) ≡ false
  line_name-unreserved k = refl

  this-taken : (k : ℕ) (q : List ℕ) → is_free S macros (line_name k) ≡ false → bytes_eq q (line_name k) ≡ true → list_any (bytes_eq q) taken ≡ true
  this-taken k q e f = subst (λ (n : List ℕ). list_any (bytes_eq n) taken ≡ true) (sym ((bytes_eq-Decides q (line_name k)).0 f)) (is-taken (line_name k) (line_name-unreserved k) e)

  -- ---- numbers that are passed over

  -- the names of numbers below this one
  abbrev AreBelow : ℕ → List (List ℕ) → Type 0
  AreBelow k [] = Unit {0}
  AreBelow k (name ∷ names) = ((j : ℕ) × (j < k) × (name ≡ line_name j)) × AreBelow k names

  below-more : (j k : ℕ) (names : List (List ℕ)) → j ≤ k → AreBelow j names → AreBelow k names
  below-more j k [] le h = tt
  below-more j k (name ∷ names) le h = let lt = h.0.1 in ((h.0.0, omega arith, h.0.2), below-more j k names le h.1)

  others : (k : ℕ) (names : List (List ℕ)) → k < 2 ^ 64 → AreBelow k names → AllByRecursion (λ y. bytes_eq (line_name k) y ≡ false) names
  others k [] small h = tt
  others k (name ∷ names) small h = (bytes_eq-flip (line_name k) name ∙ ap (λ (m : List ℕ). bytes_eq m (line_name k)) h.0.2 ∙ apart h.0.0 k h.0.1 small, others k names small h.1)

  -- Of the numbers below k, so many have lines, and the names of the others are taken.
  record Passed (k lines : ℕ) : Type 0 where
    names : List (List ℕ)
    count : k ≡ suc (lines + length names)
    distinct : IsDistinct bytes_eq names
    below : AreBelow k names
    among : (q : List ℕ) → list_any (bytes_eq q) names ≡ true → list_any (bytes_eq q) taken ≡ true

  few-passed : (k lines : ℕ) (p : Passed k lines) → length p.names ≤ length S + length macros
  few-passed k lines p = omega (arith, few-taken, length-le_from_is_member (decided bytes_eq bytes_eq-Decides) p.names taken p.distinct p.among)

  -- one more whose name is taken
  pass : (k lines : ℕ) → Passed k lines → k < 2 ^ 64 → is_free S macros (line_name k) ≡ false → Passed (suc k) lines
  unfolding IsDistinct
  pass k lines p small e =
      record {
        names = line_name k ∷ p.names;
        count = omega (arith, p.count);
        distinct = (others k p.names small p.below, p.distinct);
        below = ((k, omega arith, refl), below-more k (suc k) p.names (omega arith) p.below);
        among = λ q h. go q (bytes_eq q (line_name k)) refl h;
      }
    where
      go : (q : List ℕ) (b : Bool) → bytes_eq q (line_name k) ≡ b → (b || list_any (bytes_eq q) p.names) ≡ true → list_any (bytes_eq q) taken ≡ true
      go q true g h = this-taken k q e g
      go q false g h = p.among q h

  -- one that has a line
  with_line : (k lines : ℕ) → Passed k lines → Passed (suc k) (suc lines)
  with_line k lines p = record { names = p.names; count = omega (arith, p.count); distinct = p.distinct; below = below-more k (suc k) p.names (omega arith) p.below; among = p.among }

  abbrev Found : ℕ → ℕ → Type 0
  Found n lines = (is_free S macros (line_name n) ≡ true) × Passed n lines

  -- a free name is found before all names that are taken are passed over
  finds : (turns k lines : ℕ) (p : Passed k lines) → suc lines + (length S + length macros) < 2 ^ 64 → length S + length macros ≤ turns + length p.names → Found (first_free S macros turns k) lines
  finds zero k lines p room enough = go (is_free S macros (line_name k)) refl
    where
      go : (b : Bool) → is_free S macros (line_name k) ≡ b → (is_free S macros (line_name k) ≡ true) × Passed k lines
      go true e = (e, p)
      go false e = let more = pass k lines p (omega (arith, p.count, few-passed k lines p)) e in absurd (omega (arith, few-passed (suc k) lines more, more.count, p.count))
  finds (suc turns) k lines p room enough = go (is_free S macros (line_name k)) refl
      (λ e. let more = pass k lines p (omega (arith, p.count, few-passed k lines p)) e in finds turns (suc k) lines more room (omega (arith, more.count, p.count)))
    where
      go : (b : Bool) → is_free S macros (line_name k) ≡ b → (is_free S macros (line_name k) ≡ false → Found (first_free S macros turns (suc k)) lines) →
          Found (if b then k else first_free S macros turns (suc k)) lines
      go true e later = (e, p)
      go false e later = later e

  next-from : (turns k : ℕ) → k ≤ first_free S macros turns k
  next-from zero k = omega arith
  next-from (suc turns) k = go (is_free S macros (line_name k)) (next-from turns (suc k))
    where
      go : (b : Bool) → suc k ≤ first_free S macros turns (suc k) → k ≤ (if b then k else first_free S macros turns (suc k))
      go true h = omega arith
      go false h = omega arith

  -- the numbers of lines, from k on: each is small, and its name is free
  abbrev pub AreNumbered : ℕ → List Tree → Type 0
  AreNumbered k [] = Unit {0}
  AreNumbered k (t ∷ ts) = (k ≤ next_free S macros k) × (next_free S macros k < 2 ^ 64) × (is_free S macros (line_name (next_free S macros k)) ≡ true) × AreNumbered (suc (next_free S macros k)) ts

  numbered : (ts : List Tree) (k lines : ℕ) → Passed k lines → lines + length ts + (length S + length macros) < 2 ^ 64 → AreNumbered k ts
  numbered [] k lines p room = tt
  numbered (t ∷ ts) k lines p room =
      let turns = length S + length macros in
      let n = next_free S macros k in
      let found : Found n lines = finds turns k lines p (omega arith) (omega arith) in
      let small : n < 2 ^ 64 = omega (arith, found.1.count, few-passed n lines found.1) in
      (next-from turns k, small, found.0, numbered ts (suc n) (suc lines) (with_line n lines found.1) (omega arith))

  none-passed : Passed 1 0
  unfolding IsDistinct
  none-passed = record { names = []; count = refl; distinct = tt; below = tt; among = λ q h. cc }

  -- There are enough numbers for so many lines.
  pub are-numbered : (ts : List Tree) → length ts + length S + length macros < 2 ^ 64 → AreNumbered 1 ts
  are-numbered ts room = numbered ts 1 0 none-passed (omega arith)

  others-named : (n k : ℕ) (ts : List Tree) → n < k → AreNumbered k ts → AreOther (line_name n) (named_from S macros k ts)
  others-named n k [] lt h = tt
  others-named n k (t ∷ ts) lt h =
      let from = h.0 in (apart n (next_free S macros k) (omega arith) h.1, others-named n (suc (next_free S macros k)) ts (omega arith) h.3)

  pub new-names : (k : ℕ) (ts : List Tree) → AreNumbered k ts → HaveNewNames S macros (named_from S macros k ts)
  new-names k [] h = tt
  new-names k (t ∷ ts) h = (h.2, others-named (next_free S macros k) (suc (next_free S macros k)) ts (omega arith) h.3, new-names (suc (next_free S macros k)) ts h.3)
