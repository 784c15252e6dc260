-- Each evaluation of a block is one: so it ends, where the calls of the block are few and enough calls may be open.
use Rattle.std.specs.Prelude.{◌≡◌, ℕ, zero, suc, ◌+◌, ◌≤◌, Bool, true, false, not, ◌&&◌, nat_eq, if◌then◌else◌, List, [], ◌∷◌, length, take, Option, Some, None, is_none, option_and_then, slice_get, refl}
use Rattle.std.specs.List.{list_any}
use Rattle.std.proofs.Common.{sym, ◌∙◌, ap, subst, arith}
use Rattle.std.proofs.lemmas.Bool.{eqb-true, and_parts, not-true}
use Rattle.std.proofs.lemmas.Option.{none-some, same_Some}
use Rattle.eo_base.proofs.Tests.{both, clash, is_nothing}
use Rattle.eo_term.specs.Tree.{Tree, is_tall, is_value, tree_eq}
use Rattle.eo_term.proofs.Equality.{tree_decides}
use Rattle.eo_sig.specs.Signature.{Signature, Program, program_at}
use Rattle.eo_pattern.specs.Matching.{put}
use Rattle.eo_stack.specs.Evaluation.{Stuck, Tall, Call, call_eq, ends, first_match, body_of, begin, on_body, call_within, eval}
use Rattle.eo_cert.specs.Traces.{Covers, of_option}
use Rattle.eo_eval.proofs.Itself.{value_itself}
use Rattle.eo_lines.specs.Lines.{Pairs}
use Rattle.eo_cert.specs.Stated.{Evaluated, Stated, evaluated_at}
use Rattle.eo_cert.specs.Rules.{By, rule, deepest}
use Rattle.eo_cert.specs.Assignments.{Given, assigned, given, matches_by}
use Rattle.eo_cert.specs.Blocks.{same_outcome, none_left, by_all, ended, taken, call_ends}
use Rattle.eo_cert.proofs.Runs.{Runs, runs_ends, runs_then, runs_begin}
use Rattle.eo_cert.proofs.Mirrors.{AllEnd, rule_mirrors}
use Rattle.eo_cert.proofs.Chains.{some_then, when_then, Of}
use Rattle.eo_cert.proofs.Assigned.{first_taken}

-- ---- tests

pub same_outcome_is : (o u : Option Tree) → same_outcome o u ≡ true → o ≡ u
same_outcome_is None None h = refl
same_outcome_is (Some t) (Some u) h = ap Some ((tree_decides t u).0 h)
same_outcome_is None (Some u) h = clash h
same_outcome_is (Some t) None h = clash h

none_left_is : (es : List Evaluated) → none_left es ≡ true → es ≡ []
none_left_is [] h = refl
none_left_is (e ∷ es) h = clash h

-- a rule by all that are listed leaves none
pub by_all_is : {A : Type 0} (b : By A) (listed : List Evaluated) (o : Option A) → by_all b listed ≡ Some o → b listed ≡ Some (o, [])
by_all_is b listed o e =
    let r = some_then (b listed) _ o e in
    let w = when_then (none_left r.0.1) _ o r.2 in
    r.1 ∙ (λ i. Some (same_Some r.0.0 o w.1 i, none_left_is r.0.1 w.0 i))

-- ---- what a block says

module _ (S : Signature) (most : ℕ) where
  -- It ends so, where the calls of any list that has these are few, and so many calls may be open.
  abbrev pub Holds : List Call → Evaluated → Type 0
  Holds calls e =
      (all : List Call) → Covers all calls → length all ≤ most → (k : ℕ) → e.depth ≤ k → Runs all (eval S most k e.term) (of_option e.outcome)

  pub holds_more : (calls more : List Call) → Covers more calls → (e : Evaluated) → Holds calls e → Holds more e
  holds_more calls more covers e h all over few k deep = h all (λ x is. over x (covers x is)) few k deep

  pub all_end : (calls all : List Call) → Covers all calls → length all ≤ most → (k : ℕ) (es : List Evaluated) → Of (Holds calls) es → deepest es ≤ k → AllEnd S most all k es
  all_end calls all over few k [] h deep = tt
  all_end calls all over few k (e ∷ es) h deep =
      (h.0 all over few k (omega (arith, deep)), all_end calls all over few k es h.1 (omega (arith, deep)))

  -- ---- an evaluation that begins no call

  pub rule_holds : (calls : List Call) (e : Evaluated) (es : List Evaluated) (o : Option Tree) → is_tall e.term ≡ false → Of (Holds calls) es → by_all (rule S e.term) es ≡ Some o → same_outcome o e.outcome ≡ true → nat_eq e.depth (deepest es) ≡ true → Holds calls e
  rule_holds calls e es o low h is same deep all over few k d =
      let depth = eqb-true e.depth (deepest es) deep in
      subst (λ (u : Option Tree). Runs all (eval S most k e.term) (of_option u)) (same_outcome_is o e.outcome same)
      (rule_mirrors S most all k e.term low es [] o (all_end calls all over few k es h (omega (arith, d, depth))) (by_all_is (rule S e.term) es o is)).0

  -- ---- an evaluation that begins a call

  -- a whole tree that ends so
  pub ended_runs : (st : Stated) (calls all : List Call) → Covers all calls → length all ≤ most → ((n : ℕ) (e : Evaluated) → evaluated_at st n ≡ Some e → Holds calls e) → (t : Tree) (line : Option ℕ) (r : Option Tree × ℕ) → is_tall t ≡ false → ended st t line ≡ Some r → (k : ℕ) → r.1 ≤ k → Runs all (eval S most k t) (of_option r.0)
  ended_runs st calls all over few h t None r low e k deep =
      let w = when_then (is_value t) _ r e in
      subst (λ (q : Option Tree × ℕ). Runs all (eval S most k t) (of_option q.0)) (same_Some (Some t, 0) r w.1) (λ c room. (c, value_itself S (call_within S most k) t c w.0 low, room))
  ended_runs st calls all over few h t (Some l) r low e k deep =
      let x = some_then (evaluated_at st l) _ r e in
      let w = when_then (not (is_value t) && tree_eq x.0.term t) _ r x.2 in
      let same = same_Some (x.0.outcome, x.0.depth) r w.1 in
      subst (λ (q : Option Tree × ℕ). Runs all (eval S most k t) (of_option q.0)) same
      (subst (λ (u : Tree). Runs all (eval S most k u) (of_option x.0.outcome)) ((tree_decides x.0.term t).0 (both w.0).1) (h l x.0 x.1 all over few k (subst (λ (q : Option Tree × ℕ). q.1 ≤ k) (sym same) deep)))

  -- what a call makes of its body
  abbrev Body : List Call → ℕ → Call → Option Tree → Type 0
  Body all j c o = Runs all (on_body (body_of S c) (eval S most j)) (of_option o)

  body_is : (c : Call) (p : Program) (o : Option Tree) → program_at S c.program ≡ Some p → first_match p.cases c.arguments ≡ o → body_of S c ≡ o
  body_is c p o at is = ap (option_and_then (λ (q : Program). first_match q.cases c.arguments)) at ∙ is

  -- a call that ends so is as deep as it says
  pub call_runs : (st : Stated) (calls all : List Call) → Covers all calls → length all ≤ most → ((n : ℕ) (e : Evaluated) → evaluated_at st n ≡ Some e → Holds calls e) → (c : Call) (p : Program) → program_at S c.program ≡ Some p → list_any (call_eq c) all ≡ true → (n : Option ℕ) (pairs : Pairs) (line : Option ℕ) (r : Option Tree × ℕ) → call_ends st p.cases c n pairs line ≡ Some r → (k : ℕ) → r.1 ≤ k → Runs all (call_within S most k c) (of_option r.0)
  call_runs st calls all over few h c p at is n pairs line r e k deep = by_case n pairs line e
    where
      begun : (o : Option Tree) (d : ℕ) → (Some (o, 1 + d) ≡ Some r) → ((j : ℕ) → d ≤ j → Body all j c o) → Runs all (call_within S most k c) (of_option r.0)
      begun o d q body = by_depth k deep
        where
          same : (o, 1 + d) ≡ r
          same = same_Some (o, 1 + d) r q

          by_depth : (m : ℕ) → r.1 ≤ m → Runs all (call_within S most m c) (of_option r.0)
          by_depth zero l = absurd (omega (arith, l, ap (λ (x : Option Tree × ℕ). x.1) same))
          by_depth (suc j) l =
              let depth = ap (λ (x : Option Tree × ℕ). x.1) same in
              subst (λ (x : Option Tree × ℕ). Runs all (call_within S most (suc j) c) (of_option x.0)) same
              (runs_then all (begin most c) (λ _. on_body (body_of S c) (eval S most j)) tt (of_option o) (runs_begin all most c few is) (body j (omega (arith, l, depth))))

      stuck : (o : Option Tree) → body_of S c ≡ o → is_none o ≡ true → (j : ℕ) → 0 ≤ j → Body all j c None
      stuck o b none j l = subst (λ (u : Option Tree). Runs all (on_body u (eval S most j)) Stuck) (sym (b ∙ is_nothing o none)) (runs_ends all Stuck)

      -- a body that is not too tall
      low_body : (t : Tree) (o : Option Tree) (j : ℕ) → body_of S c ≡ Some t → is_tall t ≡ false → Runs all (eval S most j t) (of_option o) → Body all j c o
      low_body t o j b low runs =
          subst (λ (u : Option Tree). Runs all (on_body u (eval S most j)) (of_option o)) (sym b)
          (subst (λ (x : Bool). Runs all (if x then ends Tall else eval S most j t) (of_option o)) (sym low) runs)

      taken_runs : (m : ℕ) (qs : Given) (line : Option ℕ) → taken st p.cases c m qs line ≡ Some r → Runs all (call_within S most k c) (of_option r.0)
      taken_runs m qs line q =
          let case = some_then (slice_get p.cases m) _ r q in
          let matches = when_then (is_none (first_match (take m p.cases) c.arguments) && matches_by qs case.0.patterns c.arguments) _ r case.2 in
          let low = when_then (not (is_tall (put (assigned qs) case.0.body))) _ r matches.1 in
          let end = some_then (ended st (put (assigned qs) case.0.body) line) _ r low.1 in
          let small = not-true (is_tall (put (assigned qs) case.0.body)) low.0 in
          let parts = and_parts (is_none (first_match (take m p.cases) c.arguments)) (matches_by qs case.0.patterns c.arguments) matches.0 in
          let first = first_taken p.cases c.arguments m case.0 qs case.1 parts.0 parts.1 in
          begun end.0.0 end.0.1 end.2
          (λ j l. low_body (put (assigned qs) case.0.body) end.0.0 j (body_is c p (Some (put (assigned qs) case.0.body)) at first) small
          (ended_runs st calls all over few h (put (assigned qs) case.0.body) line end.0 small end.1 j l))

      by_case : (n : Option ℕ) (pairs : Pairs) (line : Option ℕ) → call_ends st p.cases c n pairs line ≡ Some r → Runs all (call_within S most k c) (of_option r.0)
      by_case None [] None q =
          let w = when_then (is_none (first_match p.cases c.arguments)) _ r q in
          begun None 0 w.1 (stuck (first_match p.cases c.arguments) (body_is c p (first_match p.cases c.arguments) at refl) w.0)
      by_case None [] (Some l) q = absurd (none-some r q)
      by_case None (x ∷ xs) line q = absurd (none-some r q)
      by_case (Some m) pairs line q =
          let qs = some_then (given st pairs) _ r q in
          taken_runs m qs.0 line qs.2
