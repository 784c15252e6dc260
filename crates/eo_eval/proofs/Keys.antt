-- Calls by the ids of their arguments are calls.
use Rattle.std.specs.Prelude.{◌≡◌, ℕ, ◌<◌, Bool, true, false, ◌&&◌, ◌||◌, List, [], ◌∷◌, length, map, All, Some, is_some, refl}
use Rattle.std.proofs.Common.{sym, ap, cond, eqb, true≢false}
use Rattle.std.specs.List.{list_any}
use Rattle.std.specs.Map.{lookup}
use Rattle.std.specs.Str.{bytes_eq}
use Rattle.std.specs.Cmp.Lexicographic.{pointwise, bytes_decides}
use Rattle.std.proofs.lemmas.List.Elements.{All-head, All-tail}
use Rattle.eo_term.specs.Tree.{Tree, tree_eq}
use Rattle.eo_term.specs.Terms.{tree_at}
use Rattle.eo_term.proofs.Equality.{tree_list_decides}
use Rattle.eo_stack.specs.Evaluation.{call_eq}
use Rattle.eo_stack.specs.Reading.{read_call, begun}
use Rattle.eo_stack.specs.declared.calls.CallKey.{CallKey}
use Rattle.eo_stack.specs.declared.stack.CallMemo as code_memo
use Rattle.eo_stack.specs.contracts.calls.CallKeyPartialEq.TheImpl as key_eq
use Rattle.eo_base.proofs.Tests.{same_tests}

module _ (ts : List Tree) (same : (i j : ℕ) → i < length ts → j < length ts → tree_at ts i ≡ tree_at ts j → i ≡ j) where
  abbrev Below : ℕ → Type 0
  Below i = i < length ts

  abbrev KeyBelow : CallKey × code_memo.CallMemo → Type 0
  KeyBelow c = All Below c.0.args

  ids_same : (xs ys : List ℕ) → All (λ i. i < length ts) xs → All (λ i. i < length ts) ys → map (tree_at ts) xs ≡ map (tree_at ts) ys → xs ≡ ys
  ids_same [] [] p q e = refl
  ids_same [] (y ∷ ys) p q e = absurd (cc e)
  ids_same (x ∷ xs) [] p q e = absurd (cc e)
  ids_same (x ∷ xs) (y ∷ ys) p q e =
      let one : tree_at ts x ≡ tree_at ts y = cc e in
      let more : map (tree_at ts) xs ≡ map (tree_at ts) ys = cc e in
      let first : x ≡ y = same x y (All-head Below x xs p) (All-head Below y ys q) one in
      let rest : xs ≡ ys = ids_same xs ys (All-tail Below x xs p) (All-tail Below y ys q) more in
      λ i. first i ∷ rest i

  args_alike : (xs ys : List ℕ) → All (λ i. i < length ts) xs → All (λ i. i < length ts) ys → bytes_eq xs ys ≡ pointwise tree_eq (map (tree_at ts) xs) (map (tree_at ts) ys)
  args_alike xs ys p q =
      same_tests (bytes_eq xs ys) (pointwise tree_eq (map (tree_at ts) xs) (map (tree_at ts) ys))
      (λ h. (tree_list_decides (map (tree_at ts) xs) (map (tree_at ts) ys)).1 (ap (map (tree_at ts)) ((bytes_decides xs ys).0 h)))
      (λ h. (bytes_decides xs ys).1 (ids_same xs ys p q ((tree_list_decides (map (tree_at ts) xs) (map (tree_at ts) ys)).0 h)))

  key_alike : (k l : CallKey) → All (λ i. i < length ts) k.args → All (λ i. i < length ts) l.args → key_eq.ghosts.eq k l ≡ call_eq (read_call ts k) (read_call ts l)
  key_alike k l p q = ap (λ b. eqb k.program l.program && b) (args_alike k.args l.args p q)

  pub begun_found : (k : CallKey) → All (λ i. i < length ts) k.args → (es : List (CallKey × code_memo.CallMemo)) → All (λ (c : CallKey × code_memo.CallMemo). All (λ i. i < length ts) c.0.args) es → is_some (lookup (key_eq.ghosts.eq k) es) ≡ list_any (call_eq (read_call ts k)) (begun ts es)
  begun_found k p [] q = refl
  begun_found k p (e ∷ es) q =
      let rest = begun_found k p es (All-tail KeyBelow e es q) in
      by (key_eq.ghosts.eq k e.0) (call_eq (read_call ts k) (read_call ts e.0)) (key_alike k e.0 p (All-head KeyBelow e es q)) rest
    where
      by : (a b : Bool) → a ≡ b → is_some (lookup (key_eq.ghosts.eq k) es) ≡ list_any (call_eq (read_call ts k)) (begun ts es) → is_some (cond a (Some e.1) (lookup (key_eq.ghosts.eq k) es)) ≡ (b || list_any (call_eq (read_call ts k)) (begun ts es))
      by true true h r = refl
      by true false h r = absurd (true≢false h)
      by false true h r = absurd (true≢false (sym h))
      by false false h r = r
