-- Each evaluation that ends within the limits, with a value or stuck, has its block.
use Rattle.std.specs.Prelude.{◌≡◌, ℕ, ◌≤◌, Bool, true, false, if◌then◌else◌, List, [], ◌∷◌, ◌++◌, length, Option, Some, None, option_map, option_and_then, refl}
use Rattle.std.proofs.Common.{sym, ◌∙◌, ap, subst, arith, append_assoc, append-nil}
use Rattle.eo_term.specs.Tree.{Tree, is_tall, is_closed, is_value}
use Rattle.eo_term.proofs.Equality.{tree_decides}
use Rattle.eo_sig.specs.Signature.{Signature}
use Rattle.eo_stack.specs.Evaluation.{Outcome, Value, Stuck, Deep, Calls, Range, Tall, Call, Begun, Ended, Eval, ends, on_outcome, on_value, value_or_none, or_none, node, call_within, eval}
use Rattle.eo_cert.specs.Stated.{Evaluated}
use Rattle.eo_cert.specs.Rules.{By, gives, is_stuck, no_rule, next, part, rule, deepest}
use Rattle.eo_cert.specs.Rules as by_lines
use Rattle.eo_cert.specs.Traces.{IsIn, AreIn, evaluated, Block, by_rule, AllClosed, Covers, of_option}
use Rattle.eo_eval.proofs.Itself.{value_itself}
use Rattle.eo_cert.proofs.Growth.{is_done, not_done, ends_with, Longer, are_in_more, are_in_both, deepest_both, found_last, one_longer, closed_more}

-- ---- what is found

module _ (S : Signature) (most : ℕ) where
  -- the evaluations that the rule lists, in a longer block
  pub record Made {A : Type 0} (k : ℕ) (b : By A) (es : List Evaluated) (c d : Begun) (o : Option A) : Type 0 where
    pub block : List Evaluated
    pub longer : Longer block es
    pub calls : List Call
    pub is_block : Block S block calls
    pub covered : Covers d calls
    pub grows : Covers d c
    pub few : length c ≤ most → length d ≤ most
    pub closed : AllClosed es → AllClosed block
    pub listed : List Evaluated
    pub are_in : AreIn block listed
    pub shallow : deepest listed ≤ k
    pub given : (rest : List Evaluated) → b (listed ++ rest) ≡ Some (o, rest)

  abbrev pub Found : {A : Type 0} → ℕ → By A → Eval A → Type 0
  Found {A} k b m =
      (c d : Begun) (o : Option A) → m c ≡ (of_option o, d) → (es : List Evaluated) (calls : List Call) → Block S es calls → Covers c calls → Made k b es c d o

  -- an evaluation of a tree, in a longer block
  pub record Line (k : ℕ) (t : Tree) (es : List Evaluated) (c d : Begun) (o : Option Tree) : Type 0 where
    pub block : List Evaluated
    pub longer : Longer block es
    pub calls : List Call
    pub is_block : Block S block calls
    pub covered : Covers d calls
    pub grows : Covers d c
    pub few : length c ≤ most → length d ≤ most
    pub closed : AllClosed es → AllClosed block
    pub last : Evaluated
    pub is_in : IsIn block last
    pub term : last.term ≡ t
    pub outcome : last.outcome ≡ o
    pub shallow : last.depth ≤ k

  abbrev pub HasLine : ℕ → Tree → Type 0
  HasLine k t =
      (c d : Begun) (o : Option Tree) → eval S most k t c ≡ (of_option o, d) → (es : List Evaluated) (calls : List Call) → Block S es calls → Covers c calls → Line k t es c d o

  module _ (k : ℕ) where
    none_listed : {A : Type 0} (b : By A) (u : Option A) (c d : Begun) (o : Option A) (es : List Evaluated) (calls : List Call) → Block S es calls → Covers c calls → u ≡ o → c ≡ d → ((rest : List Evaluated) → b rest ≡ Some (u, rest)) → Made k b es c d o
    none_listed b u c d o es calls block covers same calm gives = record {
      block = es;
      longer = λ e i. i;
      calls = calls;
      is_block = block;
      covered = subst (λ (x : Begun). Covers x calls) calm covers;
      grows = subst (λ (x : Begun). Covers x c) calm (λ x i. i);
      few = λ h. subst (λ (x : Begun). length x ≤ most) calm h;
      closed = λ h. h;
      listed = [];
      are_in = tt;
      shallow = omega arith;
      given = λ rest. gives rest ∙ ap (λ (x : Option _). Some (x, rest)) same;
    }

    pub found_gives : {A : Type 0} (v : A) → Found k (gives v) (ends (Value v))
    found_gives v c d o e es calls block covers =
        let w = ends_with (Value v) c d o e in none_listed (gives v) (Some v) c d o es calls block covers w.0 w.1 (λ rest. refl)

    pub found_stuck : {A : Type 0} → Found {A = A} k is_stuck (ends Stuck)
    found_stuck {A} c d o e es calls block covers =
        let w = ends_with {A = A} Stuck c d o e in none_listed is_stuck None c d o es calls block covers w.0 w.1 (λ rest. refl)

    pub found_end : {A : Type 0} (b : By A) (x : Outcome A) → is_done x ≡ false → Found k b (ends x)
    found_end b x none c d o e es calls block covers = not_done x c d o none e

    pub found_if : {A : Type 0} (t : Bool) (x y : By A) (m n : Eval A) → Found k x m → Found k y n → Found k (if t then x else y) (if t then m else n)
    found_if true x y m n f g = f
    found_if false x y m n f g = g

    pub found_node : (t : Tree) → Found k (by_lines.node t) (node t)
    found_node t = found_if (is_tall t) no_rule (gives t) (ends Tall) (ends (Value t)) (found_end no_rule Tall refl) (found_gives t)

    pub found_outcome : (o : Outcome Tree) → Found k (by_lines.outcome o) (on_outcome o node)
    found_outcome (Value t) = found_node t
    found_outcome Stuck = found_stuck
    found_outcome Deep = found_end no_rule Deep refl
    found_outcome Calls = found_end no_rule Calls refl
    found_outcome Range = found_end no_rule Range refl
    found_outcome Tall = found_end no_rule Tall refl

    pub found_or_none : {A : Type 0} (b : By A) (m : Eval A) → Found k b m → Found k (by_lines.or_none b) (or_none m)
    found_or_none {A} b m first c d o e es calls block covers = by (m c) refl e
      where
        from : (u : Option A) (c1 : Begun) → m c ≡ (of_option u, c1) → ◌≡◌ {A = Ended (Option A)} (Value u, c1) (of_option o, d) → Made k (by_lines.or_none b) es c d o
        from u c1 p q =
            let w = ends_with (Value u) c1 d o q in
            let one = first c c1 u p es calls block covers in
            record {
              block = one.block;
              longer = one.longer;
              calls = one.calls;
              is_block = one.is_block;
              covered = subst (λ (x : Begun). Covers x one.calls) w.1 one.covered;
              grows = subst (λ (x : Begun). Covers x c) w.1 one.grows;
              few = λ h. subst (λ (x : Begun). length x ≤ most) w.1 (one.few h);
              closed = one.closed;
              listed = one.listed;
              are_in = one.are_in;
              shallow = one.shallow;
              given = λ rest. ap (option_map {U = Option (Option A) × List Evaluated} (λ r. (Some r.0, r.1))) (one.given rest) ∙ ap (λ (x : Option (Option A)). Some (x, rest)) w.0;
            }

        by : (r : Ended A) → m c ≡ r → ◌≡◌ {A = Ended (Option A)} (value_or_none r.0, r.1) (of_option o, d) → Made k (by_lines.or_none b) es c d o
        by (Value v, c1) p q = from (Some v) c1 p q
        by (Stuck, c1) p q = from None c1 p q
        by (Deep, c1) p q = not_done Deep c1 d o refl q
        by (Calls, c1) p q = not_done Calls c1 d o refl q
        by (Range, c1) p q = not_done Range c1 d o refl q
        by (Tall, c1) p q = not_done Tall c1 d o refl q

    -- one after another
    pub found_then : {A B : Type 0} (b : By A) (f : A → By B) (m : Eval A) (g : A → Eval B) → Found k b m → ((v : A) → Found k (f v) (g v)) → Found k (λ listed. option_and_then (by_lines.on_value f) (b listed)) (λ c. on_value (m c) g)
    found_then {A} {B} b f m g first next c d o e es calls block covers = by (m c) refl e
      where
        by : (r : Ended A) → m c ≡ r → on_value r g ≡ (of_option o, d) → Made k (λ listed. option_and_then (by_lines.on_value f) (b listed)) es c d o
        by (Value v, c1) p q =
            let one = first c c1 (Some v) p es calls block covers in
            let two = next v c1 d o q one.block one.calls one.is_block one.covered in
            record {
              block = two.block;
              longer = λ x i. two.longer x (one.longer x i);
              calls = two.calls;
              is_block = two.is_block;
              covered = two.covered;
              grows = λ x i. two.grows x (one.grows x i);
              few = λ h. two.few (one.few h);
              closed = λ h. two.closed (one.closed h);
              listed = one.listed ++ two.listed;
              are_in = are_in_both two.block one.listed two.listed (are_in_more two.block one.block one.listed two.longer one.are_in) two.are_in;
              shallow = deepest_both k one.listed two.listed one.shallow two.shallow;
              given = λ rest. ap (λ (l : List Evaluated). option_and_then (by_lines.on_value f) (b l)) (append_assoc one.listed two.listed rest)
                  ∙ (ap (option_and_then (by_lines.on_value f)) (one.given (two.listed ++ rest)) ∙ two.given rest);
            }
        by (Stuck, c1) p q =
            let w = ends_with {A = B} Stuck c1 d o q in
            let one = first c c1 None p es calls block covers in
            record {
              block = one.block;
              longer = one.longer;
              calls = one.calls;
              is_block = one.is_block;
              covered = subst (λ (x : Begun). Covers x one.calls) w.1 one.covered;
              grows = subst (λ (x : Begun). Covers x c) w.1 one.grows;
              few = λ h. subst (λ (x : Begun). length x ≤ most) w.1 (one.few h);
              closed = one.closed;
              listed = one.listed;
              are_in = one.are_in;
              shallow = one.shallow;
              given = λ rest. ap (option_and_then (by_lines.on_value f)) (one.given rest) ∙ ap (λ (x : Option B). Some (x, rest)) w.0;
            }
        by (Deep, c1) p q = not_done Deep c1 d o refl q
        by (Calls, c1) p q = not_done Calls c1 d o refl q
        by (Range, c1) p q = not_done Range c1 d o refl q
        by (Tall, c1) p q = not_done Tall c1 d o refl q

    -- a part: a value, or a tree that has its line
    pub found_part : (t : Tree) → is_tall t ≡ false → HasLine k t → Found k (part t) (eval S most k t)
    found_part t low line c d o e es calls block covers = by (is_value t) refl
      where
        part_is : (b : Bool) → is_value t ≡ b → (rest : List Evaluated) → part t rest ≡ (if b then gives t else next t) rest
        part_is b p rest = ap (λ (x : Bool). (if x then gives t else next t) rest) p

        by : (b : Bool) → is_value t ≡ b → Made k (part t) es c d o
        by true p =
            let w = ends_with (Value t) c d o (sym (value_itself S (call_within S most k) t c p low) ∙ e) in
            none_listed (part t) (Some t) c d o es calls block covers w.0 w.1 (part_is true p)
        by false p =
            let one = line c d o e es calls block covers in
            record {
              block = one.block;
              longer = one.longer;
              calls = one.calls;
              is_block = one.is_block;
              covered = one.covered;
              grows = one.grows;
              few = one.few;
              closed = one.closed;
              listed = one.last ∷ [];
              are_in = (one.is_in, tt);
              shallow = omega (arith, one.shallow);
              given = λ rest. part_is false p (one.last ∷ rest) ∙ (ap (λ (x : Bool). taken one.last rest x) ((tree_decides one.last.term t).1 one.term) ∙ ap (λ (x : Option Tree). Some (x, rest)) one.outcome);
            }
          where
            taken : Evaluated → List Evaluated → Bool → Option (Option Tree × List Evaluated)
            taken x rest b = if b then Some (x.outcome, rest) else None

    -- what a rule gives is a line
    pub made_line : (t : Tree) (c d : Begun) (o : Option Tree) (es : List Evaluated) → is_closed t ≡ true → Made k (rule S t) es c d o → Line k t es c d o
    made_line t c d o es close one =
        let e : Evaluated = evaluated t o (deepest one.listed) in
        record {
          block = one.block ++ e ∷ [];
          longer = λ x i. one_longer one.block e x (one.longer x i);
          calls = one.calls;
          is_block = by_rule t o one.listed one.is_block one.are_in (ap (rule S t) (sym (append-nil one.listed)) ∙ one.given []);
          covered = one.covered;
          grows = one.grows;
          few = one.few;
          closed = λ h. closed_more one.block e (one.closed h) close;
          last = e;
          is_in = (length one.block, found_last one.block e);
          term = refl;
          outcome = refl;
          shallow = one.shallow;
        }

    pub rule_line : (t : Tree) → is_closed t ≡ true → Found k (rule S t) (eval S most k t) → HasLine k t
    rule_line t close found c d o e es calls block covers = made_line t c d o es close (found c d o e es calls block covers)
