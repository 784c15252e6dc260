-- The lines of trees, of calls and of their bodies, by recursion on how many calls may be open and on trees.
use Rattle.std.specs.Prelude.{◌≡◌, ℕ, zero, suc, ◌+◌, ◌≤◌, max, Bool, true, false, nat_lt, if◌then◌else◌, List, [], ◌∷◌, ◌++◌, length, Option, Some, None, is_some, option_and_then, refl}
use Rattle.std.specs.List.{list_all, list_any}
use Rattle.std.proofs.lemmas.Option.{none-some, same_Some}
use Rattle.std.proofs.Common.{sym, ◌∙◌, ap, subst, arith, append-nil}
use Rattle.std.proofs.lemmas.Bool.{ltb-true}
use Rattle.std.proofs.lemmas.List.Folds.{list_any-append}
use Rattle.eo_base.proofs.Tests.{both, join, or_first, or_second}
use Rattle.eo_term.specs.declared.OpName.{OpName}
use Rattle.eo_term.specs.declared.OpCode.{OpCode}
use Rattle.eo_term.specs.Tree.{Tree, Con, Num, Bits, Str, Par, Var, App, Arr, Qar, Op, Trees, NoTree, More, truth, height, height_all, is_tall, tree_eq, is_value, is_closed, all_closed}
use Rattle.eo_sig.specs.Signature.{Signature}
use Rattle.eo_type.specs.Types.{chosen}
use Rattle.eo_stack.specs.Evaluation.{Value, Stuck, Deep, Calls, Range, Tall, Call, call_eq, Begun, Ended, Eval, ends, on_outcome, on_value, or_none, node, are_equal, operator_value, eval_all_with, on_body, body_of, call_within, eval}
use Rattle.eo_cert.specs.Stated.{Evaluated}
use Rattle.eo_cert.specs.Rules.{is_stuck, no_rule, part, parts, deepest}
use Rattle.eo_cert.specs.Rules as by_lines
use Rattle.eo_cert.specs.Blocks.{with_new}
use Rattle.eo_cert.specs.Traces.{evaluated, by_none, by_body, Covers, of_option}
use Rattle.eo_cert.proofs.Runs.{call_itself}
use Rattle.eo_eval.proofs.Itself.{lower}
use Rattle.eo_cert.proofs.Growth.{closed_more, are_in_more, not_done, ends_with, found_last, one_longer, covers_new}
use Rattle.eo_cert.proofs.Found.{Made, Found, Line, HasLine, found_gives, found_stuck, found_if, found_node, found_outcome, found_or_none, found_then, found_part, made_line, rule_line}

module _ (S : Signature) (most : ℕ) (fit : (k : ℕ) (t : Tree) (c : Begun) (v : Tree) (d : Begun) → eval S most k t c ≡ (Value v, d) → is_value v ≡ true) (bodies : (x : Call) (body : Tree) → list_all is_value x.arguments ≡ true → body_of S x ≡ Some body → is_closed body ≡ true) where
  -- arguments have values
  all_fit : (k : ℕ) (ts : Trees) (c : Begun) (vs : List Tree) (d : Begun) → eval_all_with S (call_within S most k) ts c ≡ (Value vs, d) → list_all is_value vs ≡ true
  all_fit k NoTree c vs d e = subst (λ (us : List Tree). list_all is_value us ≡ true) (same_Some [] vs (ends_with (Value []) c d (Some vs) e).0) refl
  all_fit k (More t ts) c vs d e = by (eval S most k t c) refl e (λ us a b r. all_fit k ts b us a r)
    where
      more : Tree → List Tree → Eval (List Tree)
      more v us = ends (Value (v ∷ us))

      rest : Tree → Eval (List Tree)
      rest v b = on_value (eval_all_with S (call_within S most k) ts b) (more v)

      both_fit : (v : Tree) → is_value v ≡ true → (r : Ended (List Tree)) → ((us : List Tree) (b : Begun) → r ≡ (Value us, b) → list_all is_value us ≡ true) → on_value r (more v) ≡ (Value vs, d) → list_all is_value vs ≡ true
      both_fit v h (Value us, b) g q = subst (λ (ws : List Tree). list_all is_value ws ≡ true) (same_Some (v ∷ us) vs (ends_with (Value (v ∷ us)) b d (Some vs) q).0) (join h (g us b refl))
      both_fit v h (Stuck, b) g q = absurd (none-some vs (ends_with {A = List Tree} Stuck b d (Some vs) q).0)
      both_fit v h (Deep, b) g q = not_done Deep b d (Some vs) refl q
      both_fit v h (Calls, b) g q = not_done Calls b d (Some vs) refl q
      both_fit v h (Range, b) g q = not_done Range b d (Some vs) refl q
      both_fit v h (Tall, b) g q = not_done Tall b d (Some vs) refl q

      by : (r : Ended Tree) → eval S most k t c ≡ r → on_value r rest ≡ (Value vs, d) → ((us : List Tree) (a b : Begun) → eval_all_with S (call_within S most k) ts b ≡ (Value us, a) → list_all is_value us ≡ true) → list_all is_value vs ≡ true
      by (Value v, b) p q again = both_fit v (fit k t c v b p) (eval_all_with S (call_within S most k) ts b) (λ us a r. again us a b r) q
      by (Stuck, b) p q again = absurd (none-some vs (ends_with {A = List Tree} Stuck b d (Some vs) q).0)
      by (Deep, b) p q again = not_done Deep b d (Some vs) refl q
      by (Calls, b) p q again = not_done Calls b d (Some vs) refl q
      by (Range, b) p q again = not_done Range b d (Some vs) refl q
      by (Tall, b) p q again = not_done Tall b d (Some vs) refl q

  -- bodies have lines, where so many calls may be open
  abbrev Deeper : ℕ → Type 0
  Deeper zero = Unit {0}
  Deeper (suc j) = (t : Tree) → is_tall t ≡ false → is_closed t ≡ true → HasLine S most j t

  -- ---- a call

  -- its arguments have their values; then it ends so
  call_line : (k : ℕ) → Deeper k → (p : ℕ) (ts : Trees) (vs : List Tree) (es : List Evaluated) (c c1 d : Begun) (o : Option Tree) → is_closed (Op (OpCode.Prog p) ts) ≡ true → list_all is_value vs ≡ true → Made S most k (parts ts) es c c1 (Some vs) → call_within S most k (record { program = p; arguments = vs }) c1 ≡ (of_option o, d) → Line S most k (Op (OpCode.Prog p) ts) es c d o
  call_line zero deeper p ts vs es c c1 d o close values one e = not_done Deep c1 d o refl e
  call_line (suc j) deeper p ts vs es c c1 d o close values one e = by (list_any (call_eq x) c1) refl e
    where
      x : Call
      x = record { program = p; arguments = vs }

      whole : Tree
      whole = Op (OpCode.Prog p) ts

      given : parts ts one.listed ≡ Some (Some vs, [])
      given = ap (parts ts) (sym (append-nil one.listed)) ∙ one.given []

      choose : Bool → Bool → Ended (Unit {0})
      choose known room = if known then (Value tt, c1) else (if room then (Value tt, c1 ++ x ∷ []) else (Calls, c1))

      after : Ended (Unit {0}) → Ended Tree
      after r = on_value r (λ _. on_body (body_of S x) (eval S most j))

      no_case : (c2 : Begun) → Covers c2 c1 → (length c1 ≤ most → length c2 ≤ most) → list_any (call_eq x) c2 ≡ true → body_of S x ≡ None → ◌≡◌ {A = Ended Tree} (Stuck, c2) (of_option o, d) → Line S most (suc j) whole es c d o
      no_case c2 more room is b q =
          let w = ends_with {A = Tree} Stuck c2 d o q in
          let l : Evaluated = evaluated whole None (max (deepest one.listed) 1) in
          let covers : Covers c2 one.calls = λ y i. more y (one.covered y i) in
          record {
            block = one.block ++ l ∷ [];
            longer = λ y i. one_longer one.block l y (one.longer y i);
            calls = with_new one.calls x;
            is_block = by_none p ts vs one.listed one.is_block one.are_in given b;
            covered = subst (λ (y : Begun). Covers y (with_new one.calls x)) w.1 (covers_new c2 one.calls x covers is);
            grows = subst (λ (y : Begun). Covers y c) w.1 (λ y i. more y (one.grows y i));
            few = λ h. subst (λ (y : Begun). length y ≤ most) w.1 (room (one.few h));
            closed = λ h. closed_more one.block l (one.closed h) close;
            last = l;
            is_in = (length one.block, found_last one.block l);
            term = refl;
            outcome = w.0;
            shallow = omega (arith, one.shallow);
          }

      body_line : (c2 : Begun) → Covers c2 c1 → (length c1 ≤ most → length c2 ≤ most) → list_any (call_eq x) c2 ≡ true → (body : Tree) → body_of S x ≡ Some body → is_tall body ≡ false → eval S most j body c2 ≡ (of_option o, d) → Line S most (suc j) whole es c d o
      body_line c2 more room is body b low q =
          let two = deeper body low (bodies x body values b) c2 d o q one.block one.calls one.is_block (λ y i. more y (one.covered y i)) in
          let l : Evaluated = evaluated whole two.last.outcome (max (deepest one.listed) (1 + two.last.depth)) in
          record {
            block = two.block ++ l ∷ [];
            longer = λ y i. one_longer two.block l y (two.longer y (one.longer y i));
            calls = with_new two.calls x;
            is_block = by_body p ts vs one.listed body two.last two.is_block (are_in_more two.block one.block one.listed two.longer one.are_in) given b low two.is_in two.term;
            covered = covers_new d two.calls x two.covered (two.grows x is);
            grows = λ y i. two.grows y (more y (one.grows y i));
            few = λ h. two.few (room (one.few h));
            closed = λ h. closed_more two.block l (two.closed (one.closed h)) close;
            last = l;
            is_in = (length two.block, found_last two.block l);
            term = refl;
            outcome = two.outcome;
            shallow = omega (arith, one.shallow, two.shallow);
          }

      begun : (c2 : Begun) → Covers c2 c1 → (length c1 ≤ most → length c2 ≤ most) → list_any (call_eq x) c2 ≡ true → on_body (body_of S x) (eval S most j) c2 ≡ (of_option o, d) → Line S most (suc j) whole es c d o
      begun c2 more room is q = by_case (body_of S x) refl q
        where
          by_height : (body : Tree) → body_of S x ≡ Some body → (b : Bool) → is_tall body ≡ b → (if b then ends Tall else eval S most j body) c2 ≡ (of_option o, d) → Line S most (suc j) whole es c d o
          by_height body b true low q = not_done Tall c2 d o refl q
          by_height body b false low q = body_line c2 more room is body b low q

          by_case : (b : Option Tree) → body_of S x ≡ b → on_body b (eval S most j) c2 ≡ (of_option o, d) → Line S most (suc j) whole es c d o
          by_case None b q = no_case c2 more room is b q
          by_case (Some body) b q = by_height body b (is_tall body) refl q

      new_one : (y : Call) → list_any (call_eq y) c1 ≡ true → list_any (call_eq y) (c1 ++ x ∷ []) ≡ true
      new_one y i = list_any-append (call_eq y) c1 (x ∷ []) ∙ or_first (list_any (call_eq y) c1) (list_any (call_eq y) (x ∷ [])) i

      longer_by_one : (b : Begun) → length (b ++ x ∷ []) ≡ 1 + length b
      longer_by_one [] = refl
      longer_by_one (y ∷ ys) = let h = longer_by_one ys in omega (arith, h)

      by_room : (r : Bool) → nat_lt (length c1) most ≡ r → after (choose false r) ≡ (of_option o, d) → Line S most (suc j) whole es c d o
      by_room true r q =
          begun (c1 ++ x ∷ []) new_one (λ h. let l = ltb-true (length c1) most r in omega (arith, l, longer_by_one c1))
          (list_any-append (call_eq x) c1 (x ∷ []) ∙ or_second (list_any (call_eq x) c1) (list_any (call_eq x) (x ∷ [])) (or_first (call_eq x x) false (call_itself x x refl))) q
      by_room false r q = not_done Calls c1 d o refl q

      by : (b : Bool) → list_any (call_eq x) c1 ≡ b → after (choose b (nat_lt (length c1) most)) ≡ (of_option o, d) → Line S most (suc j) whole es c d o
      by true i q = begun c1 (λ y h. h) (λ h. h) i q
      by false i q = by_room (nat_lt (length c1) most) refl q

  -- ---- trees

  module _ (k : ℕ) (deeper : Deeper k) where
    -- the tree of a call
    tree_line : (p : ℕ) (ts : Trees) → is_closed (Op (OpCode.Prog p) ts) ≡ true → Found S most k (parts ts) (eval_all_with S (call_within S most k) ts) → HasLine S most k (Op (OpCode.Prog p) ts)
    tree_line p ts close found c d o e es calls block covers = by (eval_all_with S (call_within S most k) ts c) refl e
      where
        go : List Tree → Eval Tree
        go vs = call_within S most k (record { program = p; arguments = vs })

        by : (r : Ended (List Tree)) → eval_all_with S (call_within S most k) ts c ≡ r → on_value r go ≡ (of_option o, d) → Line S most k (Op (OpCode.Prog p) ts) es c d o
        by (Value vs, c1) q r = call_line k deeper p ts vs es c c1 d o close (all_fit k ts c vs c1 q) (found c c1 (Some vs) q es calls block covers) r
        by (Stuck, c1) q r =
            let w = ends_with {A = Tree} Stuck c1 d o r in
            let one = found c c1 None q es calls block covers in
            made_line S most k (Op (OpCode.Prog p) ts) c d o es close (record {
              block = one.block;
              longer = one.longer;
              calls = one.calls;
              is_block = one.is_block;
              covered = subst (λ (y : Begun). Covers y one.calls) w.1 one.covered;
              grows = subst (λ (y : Begun). Covers y c) w.1 one.grows;
              few = λ h. subst (λ (y : Begun). length y ≤ most) w.1 (one.few h);
              closed = one.closed;
              listed = one.listed;
              are_in = one.are_in;
              shallow = one.shallow;
              given = λ rest. ap (option_and_then (by_lines.on_value {A = List Tree} {B = Tree} (λ _. no_rule))) (one.given rest) ∙ ap (λ (y : Option Tree). Some (y, rest)) w.0;
            })
        by (Deep, c1) q r = not_done Deep c1 d o refl r
        by (Calls, c1) q r = not_done Calls c1 d o refl r
        by (Range, c1) q r = not_done Range c1 d o refl r
        by (Tall, c1) q r = not_done Tall c1 d o refl r

    found_chosen : (v x y : Tree) → Found S most k (part x) (eval S most k x) → Found S most k (part y) (eval S most k y) → Found S most k (chosen v (part x) (part y) is_stuck) (chosen v (eval S most k x) (eval S most k y) (ends Stuck))
    found_chosen v x y f g =
        found_if S most k (tree_eq v (truth true)) (part x) _ (eval S most k x) _ f
        (found_if S most k (tree_eq v (truth false)) (part y) is_stuck (eval S most k y) (ends Stuck) g (found_stuck S most k))

    strict : (o : OpName) (ts : Trees) → Found S most k (parts ts) (eval_all_with S (call_within S most k) ts) → Found S most k (λ listed. option_and_then (by_lines.on_value (λ vs. by_lines.outcome (operator_value S o vs))) (parts ts listed)) (λ c. on_value (eval_all_with S (call_within S most k) ts c) (λ vs. on_outcome (operator_value S o vs) node))
    strict o ts found = found_then S most k (parts ts) _ (eval_all_with S (call_within S most k) ts) _ found (λ vs. found_outcome S most k (operator_value S o vs))

    mutual
      line_at : (t : Tree) → is_tall t ≡ false → is_closed t ≡ true → HasLine S most k t
      line_at (Con n) low close = rule_line S most k (Con n) close (found_gives S most k (Con n))
      line_at (Num z) low close = rule_line S most k (Num z) close (found_gives S most k (Num z))
      line_at (Bits w v) low close = rule_line S most k (Bits w v) close (found_gives S most k (Bits w v))
      line_at (Str s) low close = rule_line S most k (Str s) close (found_gives S most k (Str s))
      line_at (Par i) low close = rule_line S most k (Par i) close (found_stuck S most k)
      line_at (Qar i t b) low close = rule_line S most k (Qar i t b) close (found_stuck S most k)
      line_at (Var s t) low close =
          rule_line S most k (Var s t) close (found_then S most k (part t) _ (eval S most k t) _ (found_part S most k t (lower t (Var s t) (omega arith) low) (line_at t (lower t (Var s t) (omega arith) low) close)) (λ u. found_node S most k (Var s u)))
      line_at (App f x) low close =
          rule_line S most k (App f x) close (found_then S most k (part f) _ (eval S most k f) _ (found_part S most k f (lower f (App f x) (omega arith) low) (line_at f (lower f (App f x) (omega arith) low) (both close).0))
          (λ g. found_then S most k (part x) _ (eval S most k x) _ (found_part S most k x (lower x (App f x) (omega arith) low) (line_at x (lower x (App f x) (omega arith) low) (both close).1)) (λ y. found_node S most k (App g y))))
      line_at (Arr f x) low close =
          rule_line S most k (Arr f x) close (found_then S most k (part f) _ (eval S most k f) _ (found_part S most k f (lower f (Arr f x) (omega arith) low) (line_at f (lower f (Arr f x) (omega arith) low) (both close).0))
          (λ g. found_then S most k (part x) _ (eval S most k x) _ (found_part S most k x (lower x (Arr f x) (omega arith) low) (line_at x (lower x (Arr f x) (omega arith) low) (both close).1)) (λ y. found_node S most k (Arr g y))))
      line_at (Op (OpCode.Builtin OpName.Ite) (More t (More x (More y NoTree)))) low close =
          let l : (u : Tree) → height u ≤ height_all (More t (More x (More y NoTree))) → is_tall u ≡ false = λ u h. lower u (Op (OpCode.Builtin OpName.Ite) (More t (More x (More y NoTree)))) (omega (arith, h)) low in
          rule_line S most k (Op (OpCode.Builtin OpName.Ite) (More t (More x (More y NoTree)))) close
          (found_then S most k (part t) _ (eval S most k t) _ (found_part S most k t (l t (omega arith)) (line_at t (l t (omega arith)) (both close).0)) (λ v. found_chosen v x y (found_part S most k x (l x (omega arith)) (line_at x (l x (omega arith)) (both (both close).1).0)) (found_part S most k y (l y (omega arith)) (line_at y (l y (omega arith)) (both (both (both close).1).1).0))))
      line_at (Op (OpCode.Builtin OpName.Requires) (More x (More y (More t NoTree)))) low close =
          let l : (u : Tree) → height u ≤ height_all (More x (More y (More t NoTree))) → is_tall u ≡ false = λ u h. lower u (Op (OpCode.Builtin OpName.Requires) (More x (More y (More t NoTree)))) (omega (arith, h)) low in
          rule_line S most k (Op (OpCode.Builtin OpName.Requires) (More x (More y (More t NoTree)))) close
          (found_then S most k (by_lines.or_none (part x)) _ (or_none (eval S most k x)) _ (found_or_none S most k (part x) (eval S most k x) (found_part S most k x (l x (omega arith)) (line_at x (l x (omega arith)) (both close).0)))
          (λ u. found_then S most k (by_lines.or_none (part y)) _ (or_none (eval S most k y)) _ (found_or_none S most k (part y) (eval S most k y) (found_part S most k y (l y (omega arith)) (line_at y (l y (omega arith)) (both (both close).1).0)))
          (λ v. found_if S most k (are_equal u v) (part t) is_stuck (eval S most k t) (ends Stuck) (found_part S most k t (l t (omega arith)) (line_at t (l t (omega arith)) (both (both (both close).1).1).0)) (found_stuck S most k))))
      line_at (Op (OpCode.Builtin OpName.IsEq) (More x (More y NoTree))) low close =
          let l : (u : Tree) → height u ≤ height_all (More x (More y NoTree)) → is_tall u ≡ false = λ u h. lower u (Op (OpCode.Builtin OpName.IsEq) (More x (More y NoTree))) (omega (arith, h)) low in
          rule_line S most k (Op (OpCode.Builtin OpName.IsEq) (More x (More y NoTree))) close
          (found_then S most k (by_lines.or_none (part x)) _ (or_none (eval S most k x)) _ (found_or_none S most k (part x) (eval S most k x) (found_part S most k x (l x (omega arith)) (line_at x (l x (omega arith)) (both close).0)))
          (λ u. found_then S most k (by_lines.or_none (part y)) _ (or_none (eval S most k y)) _ (found_or_none S most k (part y) (eval S most k y) (found_part S most k y (l y (omega arith)) (line_at y (l y (omega arith)) (both (both close).1).0)))
          (λ v. found_gives S most k (truth (are_equal u v)))))
      line_at (Op (OpCode.Builtin OpName.IsOk) (More x NoTree)) low close =
          let l : (u : Tree) → height u ≤ height_all (More x NoTree) → is_tall u ≡ false = λ u h. lower u (Op (OpCode.Builtin OpName.IsOk) (More x NoTree)) (omega (arith, h)) low in
          rule_line S most k (Op (OpCode.Builtin OpName.IsOk) (More x NoTree)) close
          (found_then S most k (by_lines.or_none (part x)) _ (or_none (eval S most k x)) _ (found_or_none S most k (part x) (eval S most k x) (found_part S most k x (l x (omega arith)) (line_at x (l x (omega arith)) (both close).0))) (λ u. found_gives S most k (truth (is_some u))))
      line_at (Op (OpCode.Builtin o) ts) low close =
          rule_line S most k (Op (OpCode.Builtin o) ts) close (strict o ts (all_at ts (λ u h. lower u (Op (OpCode.Builtin o) ts) (omega (arith, h)) low) close))
      line_at (Op (OpCode.Prog p) ts) low close = tree_line p ts close (all_at ts (λ u h. lower u (Op (OpCode.Prog p) ts) (omega (arith, h)) low) close)

      all_at : (ts : Trees) → ((u : Tree) → height u ≤ height_all ts → is_tall u ≡ false) → all_closed ts ≡ true → Found S most k (parts ts) (eval_all_with S (call_within S most k) ts)
      all_at NoTree low close = found_gives S most k []
      all_at (More t ts) low close =
          found_then S most k (part t) _ (eval S most k t) _ (found_part S most k t (low t (omega arith)) (line_at t (low t (omega arith)) (both close).0))
          (λ v. found_then S most k (parts ts) _ (eval_all_with S (call_within S most k) ts) _ (all_at ts (λ u h. low u (omega (arith, h))) (both close).1) (λ vs. found_gives S most k (v ∷ vs)))

  -- each tree that ends so within the limits has its line
  pub has_line : (k : ℕ) (t : Tree) → is_tall t ≡ false → is_closed t ≡ true → HasLine S most k t
  has_line zero t low close = line_at zero tt t low close
  has_line (suc j) t low close = line_at (suc j) (λ u l h. has_line j u l h) t low close
