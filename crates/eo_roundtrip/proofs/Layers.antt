-- A form means its value, where its parts do.
use Rattle.std.specs.Prelude.{◌≡◌, refl, ℕ, ◌^◌, ◌<◌, ◌≤◌, ◌==◌, ℤ, FitsSigned, Bool, true, false, ◌&&◌, nat_le, List, [], ◌∷◌, ◌++◌, map, length, if◌then◌else◌, Option, Some, None, option_map, Ok, All, codes}
use Rattle.std.specs.Option.{option_or}
use Rattle.std.specs.Int.{w128}
use Rattle.std.proofs.Common.{sym, ◌∙◌, ap, arith, subst, length-append}
use Rattle.std.proofs.lemmas.Bool.{le-leb, leb-true, eqb-true}
use Rattle.std.proofs.lemmas.List.{length-map}
use Rattle.eo_base.specs.Limits.{height_limit}
use Rattle.eo_base.specs.Characters.{AreCharacters}
use Rattle.eo_base.proofs.Tests.{both}
use Rattle.eo_base.specs.Checks.{value_or}
use Rattle.eo_term.specs.declared.OpCode.{OpCode}
use Rattle.eo_term.specs.declared.OpName.{OpName}
use Rattle.eo_term.specs.Operators.{operator_named}
use Rattle.eo_term.specs.Tree.{Tree, Con, Num, Bits, Str, Par, Var, App, Arr, Qar, Op, to_trees, height, is_value}
use Rattle.eo_lit.specs.Literals.{Number, BitString, literal_value}
use Rattle.eo_lit.specs.Spelling.{literal_spelling, string_spelling}
use Rattle.eo_lit.proofs.Spellings.{number_reads_back, bits_read_back}
use Rattle.eo_lit.proofs.StringSpellings.{string_reads_back}
use Rattle.eo_lists.specs.Lists.{spell, spelled}
use Rattle.eo_lists.proofs.Spell.{spell-spelled}
use Rattle.eo_sexp.specs.AtomKind as kind
use Rattle.eo_sexp.specs.Sexp.{Sexp, sexps_of}
use Rattle.eo_sexp.specs.Printing.{placed_others}
use Rattle.eo_sig.specs.Signature.{Signature, Macro, constant_named, terminator, Attribute, Plain, RightNil, LeftNil, Right, Left, Chain, Pairs, Binder, NamesConstant, NamesMacro, NamesProgram, lookup, macro_named, program_named, lookup_count, other_named}
use Rattle.eo_names.specs.Contexts.{Context, InProof, is_list}
use Rattle.eo_names.specs.Meanings.{ATree, meant, operator_meant, local_meant, global_meant, Name, word_of, meant_before}
use Rattle.eo_names.specs.Readers.{with_named_terms}
use Rattle.eo_names.specs.Folding.{applied, attribute_at, folded, arrow, plainly, least}
use Rattle.eo_elab.specs.Meaning.{literal_tree, atom as atom_meaning, word_alone, means, where_many, count, Uses, AnApplication, word_form, meant_use}
use Rattle.eo_show.specs.Forms.{atom, symbol, name_of, attribute_of, counted, takes, Form, Folded, Plainly, Function, Variable, most_arguments, head_of, arguments_of, joins_plainly, list_of, is_short_list, by_head, chain, list_or, form, parts, with_parts}
pub use Rattle.eo_roundtrip.specs.Shown.{HasName, HaveNames}
use Rattle.eo_show.proofs.FormFacts.{is_this-is, list_of-is, IsSpelled}
use Rattle.eo_show.proofs.Ranges.{named-range, counted-range}
use Rattle.eo_roundtrip.proofs.Stands.{Stands, AllStand, value-stands, arr-stands, var-stands, applied-stands, spell-stands}
use Rattle.eo_roundtrip.proofs.Uses.{context_of, Reads, all-read, count-placed, list-reads}
use Rattle.eo_roundtrip.proofs.Folds.{IsFolded, stand-length, constant-use, list-made, plain-made, terminator-attribute}

module _ (S : Signature) (macros : List Macro) where
  abbrev c : Context
  c = context_of S macros

  -- ---- atoms

  pub symbol-reads : (name : List ℕ) (m t : Tree) → word_of InProof name ≡ Name → meant c [] name ≡ ATree m → Stands S m t → Reads S macros (symbol name) t
  unfolding means atom_meaning
  symbol-reads name m t e f s =
      record { tree = m; stands = s; is = λ at named_terms. ap (λ w. with_named_terms named_terms (word_alone w (meant c [] name))) e ∙ ap (λ n. with_named_terms named_terms (word_alone Name n)) f }

  pub constant-meant : (name : List ℕ) (k : ℕ) → operator_named name ≡ None → constant_named S name ≡ Some k → meant c [] name ≡ ATree (Con k)
  constant-meant name k e f =
      ap (λ o. operator_meant c o (local_meant c None (lookup S macros name))) e
      ∙ ap (λ o. global_meant c (option_or (option_map NamesConstant o) (option_or (option_map NamesMacro (macro_named macros name)) (option_map NamesProgram (program_named S name))))) f

  -- as the head of so many arguments
  constant-before : (name : List ℕ) (n k : ℕ) → operator_named name ≡ None → counted S name n ≡ Some k → meant_before c n [] name ≡ ATree (Con k)
  constant-before name n k e f =
      ap (λ o. operator_meant c o (local_meant c None (lookup_count S macros name n))) e
      ∙ ap (λ o. global_meant c (option_or (option_map NamesConstant o) (other_named S macros name))) f

  literal-reads : (text : List ℕ) (l : _) → literal_value text ≡ Some l → is_value (literal_tree l) ≡ true → height (literal_tree l) ≤ height_limit → Reads S macros (atom kind.Literal text) (literal_tree l)
  unfolding means atom_meaning value_or
  literal-reads text l e v h =
      record { tree = literal_tree l; stands = value-stands S (literal_tree l) v h; is = λ at named_terms. rw e refl }

  number-reads : (z : ℤ) → FitsSigned w128 z → Reads S macros (atom kind.Literal (literal_spelling (Number z))) (Num z)
  unfolding literal_spelling
  number-reads z fits = literal-reads _ (Number z) (number_reads_back z fits) refl (omega arith)

  bits-read : (w v : ℕ) → 1 ≤ w → w ≤ 128 → v < 2 ^ w → Reads S macros (atom kind.Literal (literal_spelling (BitString w v))) (Bits w v)
  unfolding literal_spelling
  bits-read w v some few fits = literal-reads _ (BitString w v) (bits_read_back w v some few fits) refl (omega arith)

  string-reads : (s : List ℕ) → AreCharacters s → Reads S macros (atom kind.String (string_spelling s)) (Str s)
  unfolding means atom_meaning value_or
  string-reads s all =
      record { tree = Str s; stands = value-stands S (Str s) refl (omega arith); is = λ at named_terms. rw (string_reads_back s all) refl }

  -- ---- heads

  pub head-back : (t : Tree) → applied (head_of t) (arguments_of t) ≡ t
  head-back (App f x) = applied-push (head_of f) (arguments_of f) x ∙ ap (λ g. App g x) (head-back f)
    where
      applied-push : (h : Tree) (ts : List Tree) (y : Tree) → applied h (ts ++ y ∷ []) ≡ App (applied h ts) y
      applied-push h [] y = refl
      applied-push h (t ∷ ts) y = applied-push (App h t) ts y
  head-back t = refl

  spell-end : (f n : Tree) (ts : List Tree) → is_value (spell f n ts) ≡ true → (is_value n ≡ true) × (height n ≤ height (spell f n ts))
  spell-end f n [] v = (v, omega arith)
  spell-end f n (t ∷ ts) v = next (spell-end f n ts (both v).1)
    where
      next : (is_value n ≡ true) × (height n ≤ height (spell f n ts)) → (is_value n ≡ true) × (height n ≤ height (spell f n (t ∷ ts)))
      next rest = (rest.0, omega arith)

  -- ---- forms

  -- each part of a form is read as it is written
  abbrev PartsRead : (Tree → Sexp) → Form → Type 0
  PartsRead part f = All (λ p. Reads S macros (part p) p) (parts S f)

  name-form : (k : ℕ) (a : Attribute) (ss : List Sexp) → HasName (name_of S k) → counted S (name_of S k) (length ss) ≡ Some k → attribute_at S k ≡ a → IsFolded a → least a ≤ length ss → (at : ℕ) →
      word_form c [] (placed_others at (sexps_of ss)) (word_of InProof (name_of S k)) (meant_before c (count (placed_others at (sexps_of ss))) [] (name_of S k)) ≡ AnApplication (Uses (folded S (is_list []) k))
  name-form k a ss named first e folds enough at =
      ap (λ w. word_form c [] (placed_others at (sexps_of ss)) w (meant_before c (count (placed_others at (sexps_of ss))) [] (name_of S k))) named.0
      ∙ ap (λ m. AnApplication (meant_use c [] (placed_others at (sexps_of ss)) m)) (ap (λ n. meant_before c n [] (name_of S k)) (count-placed S macros at ss) ∙ constant-before (name_of S k) (length ss) k named.1 first)
      ∙ ap AnApplication (constant-use S macros k a ss e folds enough at)

  -- a list by its items
  short-list : (part : Tree → Sexp) (k : ℕ) (n : Tree) (items : List Tree) → HaveNames S → takes S k (length items) ≡ true → terminator S k ≡ Some n → 1 ≤ length items →
      is_value (spell (Con k) n items) ≡ true → height (spell (Con k) n items) ≤ height_limit → PartsRead part (Folded k items) → Reads S macros (with_parts S part (Folded k items)) (spell (Con k) n items)
  short-list part k n items names takes_it ends some v low read =
      let found = is_this-is S k (counted S (name_of S k) (length items)) takes_it in
      let first = subst (λ (n : ℕ). counted S (name_of S k) n ≡ Some k) (sym (length-map items part)) found in
      let e = terminator-attribute S macros k n ends in
      let all = all-read S macros part items read in
      let end = spell-end (Con k) n items v in
      let count_is = stand-length S macros all.trees items all.stand in
      list-reads S macros (name_of S k) (map part items) items (folded S (is_list []) k) (spell (Con k) n items) all (spell (Con k) n all.trees) (omega (arith, length-map items part))
      (name-form k (RightNil n) (map part items) (names k (counted-range S (name_of S k) (length items) k found)) first e tt (omega (arith, length-map items part)))
      (list-made S macros k n all.trees e (omega arith))
      (spell-stands S (Con k) n all.trees items (value-stands S (Con k) refl (omega arith)) (value-stands S n end.0 (omega (arith, end.1))) all.stand low)
      low

  folds-plainly : (a : Attribute) (n : ℕ) → joins_plainly a n ≡ true → IsFolded a
  folds-plainly (Binder g) n h = absurd (no (n == 2) h)
    where
      no : (b : Bool) → (b && false) ≡ true → ⊥
      no true h = cc
      no false h = cc
  folds-plainly Plain n h = tt
  folds-plainly (RightNil t) n h = tt
  folds-plainly (LeftNil t) n h = tt
  folds-plainly Right n h = tt
  folds-plainly Left n h = tt
  folds-plainly (Chain g) n h = tt
  folds-plainly (Pairs g) n h = tt

  enough-plainly : (a : Attribute) (n : ℕ) → 1 ≤ n → joins_plainly a n ≡ true → least a ≤ n
  enough-plainly Plain n some h = some
  enough-plainly (RightNil t) n some h = some
  enough-plainly (LeftNil t) n some h = some
  enough-plainly (Binder g) n some h = some
  enough-plainly Right n some h = omega (arith, eqb-true n 2 (both h).0)
  enough-plainly Left n some h = omega (arith, eqb-true n 2 (both h).0)
  enough-plainly (Chain g) n some h = omega (arith, eqb-true n 2 (both h).0)
  enough-plainly (Pairs g) n some h = omega (arith, eqb-true n 2 (both h).0)

  -- a constant by its name, with arguments that are applied plainly
  plain-arguments : (part : Tree → Sexp) (k : ℕ) (args : List Tree) → HaveNames S → takes S k (length args) ≡ true → joins_plainly (attribute_of S k) (length args) ≡ true → 1 ≤ length args →
      height (applied (Con k) args) ≤ height_limit → PartsRead part (Folded k args) → Reads S macros (with_parts S part (Folded k args)) (applied (Con k) args)
  plain-arguments part k args names takes_it joins some low read =
      let found = is_this-is S k (counted S (name_of S k) (length args)) takes_it in
      let first = subst (λ (n : ℕ). counted S (name_of S k) n ≡ Some k) (sym (length-map args part)) found in
      let all = all-read S macros part args read in
      let count_is = stand-length S macros all.trees args all.stand in
      let a = attribute_at S k in
      list-reads S macros (name_of S k) (map part args) args (folded S (is_list []) k) (applied (Con k) args) all (applied (Con k) all.trees) (omega (arith, length-map args part))
      (name-form k a (map part args) (names k (counted-range S (name_of S k) (length args) k found)) first refl (folds-plainly a (length args) joins) (subst (λ (n : ℕ). least a ≤ n) (sym (length-map args part)) (enough-plainly a (length args) some joins)))
      (plain-made S macros k a all.trees refl (omega arith) (subst (λ (n : ℕ). joins_plainly a n ≡ true) (sym count_is) joins))
      (applied-stands S (Con k) (Con k) all.trees args (value-stands S (Con k) refl (omega arith)) all.stand low)
      low

  plainly-stands : (ms : List Tree) (h : Tree) (args : List Tree) → AllStand S ms (h ∷ args) → height (applied h args) ≤ height_limit → Stands S (plainly ms) (applied h args)
  plainly-stands [] h args s low = elim s [ ]
  plainly-stands (m ∷ ms) h args s low = applied-stands S m h ms args s.0 s.1 low

  -- a head and its arguments
  head-plainly : (part : Tree → Sexp) (h : Tree) (args : List Tree) → 1 ≤ length args → height (applied h args) ≤ height_limit → PartsRead part (Plainly h args) → Reads S macros (with_parts S part (Plainly h args)) (applied h args)
  head-plainly part h args some low read =
      let all = all-read S macros part (h ∷ args) read in
      list-reads S macros (codes "_") (map part (h ∷ args)) (h ∷ args) (λ ts. Ok (plainly ts)) (applied h args) all (plainly all.trees) (omega arith)
      (λ at. let many : nat_le 2 (count (placed_others at (sexps_of (map part (h ∷ args))))) ≡ true = ap (nat_le 2) (count-placed S macros at (map part (h ∷ args))) ∙ le-leb 2 (length (map part (h ∷ args))) (omega (arith, length-map args part)) in
      ap (λ b. AnApplication (where_many b (λ ts. Ok (plainly ts)))) many)
      refl
      (plainly-stands all.trees h args all.stand low)
      low

  by_head-reads : (part : Tree → Sexp) (h : Tree) (args : List Tree) → HaveNames S → 1 ≤ length args → height (applied h args) ≤ height_limit → PartsRead part (by_head S h args) →
      Reads S macros (with_parts S part (by_head S h args)) (applied h args)
  by_head-reads part (Con k) args names some low read = go (takes S k (length args) && joins_plainly (attribute_of S k) (length args)) refl read
    where
      go : (b : Bool) → (takes S k (length args) && joins_plainly (attribute_of S k) (length args)) ≡ b → PartsRead part (if b then Folded k args else Plainly (Con k) args) →
          Reads S macros (with_parts S part (if b then Folded k args else Plainly (Con k) args)) (applied (Con k) args)
      go true e r = plain-arguments part k args names (both e).0 (both e).1 some low r
      go false e r = head-plainly part (Con k) args some low r
  by_head-reads part h args names some low read = head-plainly part h args some low read

  chain-reads : (part : Tree → Sexp) (f x : Tree) → HaveNames S → height (App f x) ≤ height_limit → PartsRead part (chain S f x) → Reads S macros (with_parts S part (chain S f x)) (App f x)
  chain-reads part f x names low read = go (nat_le (length (arguments_of (App f x))) most_arguments) read
    where
      some : 1 ≤ length (arguments_of (App f x))
      some = omega (arith, length-append (arguments_of f) (x ∷ []))

      back : applied (head_of f) (arguments_of (App f x)) ≡ App f x
      back = head-back (App f x)

      go : (b : Bool) → PartsRead part (if b then by_head S (head_of f) (arguments_of (App f x)) else Plainly f (x ∷ [])) →
          Reads S macros (with_parts S part (if b then by_head S (head_of f) (arguments_of (App f x)) else Plainly f (x ∷ []))) (App f x)
      go true r = subst (Reads S macros (with_parts S part (by_head S (head_of f) (arguments_of (App f x))))) back
          (by_head-reads part (head_of f) (arguments_of (App f x)) names some (subst (λ (t : Tree). height t ≤ height_limit) (sym back) low) r)
      go false r = head-plainly part f (x ∷ []) (omega arith) low r

  application-reads : (part : Tree → Sexp) (f x : Tree) → HaveNames S → is_value (App f x) ≡ true → height (App f x) ≤ height_limit → PartsRead part (list_or S (list_of S (App f x)) (chain S f x)) →
      Reads S macros (with_parts S part (list_or S (list_of S (App f x)) (chain S f x))) (App f x)
  application-reads part f x names v low read = go (list_of S (App f x)) refl read
    where
      short : (l : ℕ × List Tree) → list_of S (App f x) ≡ Some l → (b : Bool) → is_short_list S l ≡ b → PartsRead part (if b then Folded l.0 l.1 else chain S f x) →
          Reads S macros (with_parts S part (if b then Folded l.0 l.1 else chain S f x)) (App f x)
      short l e false g r = chain-reads part f x names low r
      short l e true g r =
          let is = list_of-is S (App f x) l e in
          let back : spell (Con l.0) is.0 l.1 ≡ App f x = (spell-spelled (Con l.0) is.0 (App f x) l.1 is.2).0 in
          let tests = both g in
          subst (Reads S macros (with_parts S part (Folded l.0 l.1))) back
          (short-list part l.0 is.0 l.1 names tests.1 is.1 (leb-true 1 (length l.1) (both tests.0).0)
          (subst (λ (t : Tree). is_value t ≡ true) (sym back) v) (subst (λ (t : Tree). height t ≤ height_limit) (sym back) low) r)

      go : (o : Option (ℕ × List Tree)) → list_of S (App f x) ≡ o → PartsRead part (list_or S o (chain S f x)) → Reads S macros (with_parts S part (list_or S o (chain S f x))) (App f x)
      go None e r = chain-reads part f x names low r
      go (Some l) e r = short l e (is_short_list S l) refl r

  -- ---- a layer

  function-reads : (part : Tree → Sexp) (a b : Tree) → height (Arr a b) ≤ height_limit → PartsRead part (Function a b) → Reads S macros (with_parts S part (Function a b)) (Arr a b)
  function-reads part a b low read =
      let all = all-read S macros part (a ∷ b ∷ []) read in
      let two = made all.trees all.stand in
      list-reads S macros (codes "->") (part a ∷ part b ∷ []) (a ∷ b ∷ []) (λ ts. Ok (arrow ts)) (Arr a b) all (arrow all.trees) (omega arith)
      (λ at. refl) refl two low
    where
      made : (ms : List Tree) → AllStand S ms (a ∷ b ∷ []) → Stands S (arrow ms) (Arr a b)
      made [] s = elim s [ ]
      made (m ∷ []) s = elim s.1 [ ]
      made (m ∷ n ∷ []) s = arr-stands S m a n b s.0 s.1.0 low
      made (m ∷ n ∷ o ∷ ms) s = elim s.1.1 [ ]

  variable-reads : (part : Tree → Sexp) (s : List ℕ) (t : Tree) → height (Var s t) ≤ height_limit → PartsRead part (Variable s t) → Reads S macros (with_parts S part (Variable s t)) (Var s t)
  unfolding operator_named
  variable-reads part s t low read =
      let all = all-read S macros part (Str s ∷ t ∷ []) read in
      let two = made all.trees all.stand in
      list-reads S macros (codes "eo::var") (part (Str s) ∷ part t ∷ []) (Str s ∷ t ∷ []) (λ ts. Ok (Op (OpCode.Builtin OpName.Var) (to_trees ts))) (Var s t) all (Op (OpCode.Builtin OpName.Var) (to_trees all.trees)) (omega arith)
      (λ at. refl) refl two low
    where
      made : (ms : List Tree) → AllStand S ms (Str s ∷ t ∷ []) → Stands S (Op (OpCode.Builtin OpName.Var) (to_trees ms)) (Var s t)
      made [] h = elim h [ ]
      made (m ∷ []) h = elim h.1 [ ]
      made (m ∷ n ∷ []) h = var-stands S m s n t h.0 h.1.0 low
      made (m ∷ n ∷ o ∷ ms) h = elim h.1.1 [ ]

  -- A value means itself as it is written, where each part of it does as it is written.
  pub layer-reads : (part : Tree → Sexp) (t : Tree) → HaveNames S → is_value t ≡ true → height t ≤ height_limit → IsSpelled S t → PartsRead part (form S t) → Reads S macros (with_parts S part (form S t)) t
  unfolding form
  layer-reads part (Con k) names v low spelled read = symbol-reads (name_of S k) (Con k) (Con k) (names k (named-range S (name_of S k) k spelled)).0 (constant-meant (name_of S k) k (names k (named-range S (name_of S k) k spelled)).1 spelled) (value-stands S (Con k) refl low)
  layer-reads part (Num z) names v low spelled read = number-reads z spelled
  layer-reads part (Bits w x) names v low spelled read = bits-read w x spelled.0 spelled.1 spelled.2
  layer-reads part (Str s) names v low spelled read = string-reads s spelled
  layer-reads part (Par i) names v low spelled read = cc
  layer-reads part (Var s t) names v low spelled read = variable-reads part s t low read
  layer-reads part (App f x) names v low spelled read = application-reads part f x names v low read
  layer-reads part (Arr a b) names v low spelled read = function-reads part a b low read
  layer-reads part (Qar i t b) names v low spelled read = cc
  layer-reads part (Op o ts) names v low spelled read = cc
