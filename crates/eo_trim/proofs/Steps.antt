-- What a needed command decides is decided beside the kept facts too.
use Rattle.std.specs.Prelude.{◌≡◌, ℕ, Bool, true, false, not, ◌&&◌, ◌||◌, List, [], ◌∷◌, Option, Some, None, Ok, refl, nat_lt}
use Rattle.std.proofs.Common.{sym, ap, subst, ◌∙◌, true≢false}
use Rattle.eo_base.proofs.ChecksLemmas.{bind_ok, bind_step, require_then, value_or_ok}
use Rattle.eo_base.specs.declared.FaultName.{FaultName}
use Rattle.eo_base.specs.declared.FaultName.TheVariants.{UnknownPremise, UnknownRule, NoScope, ScopeDepth}
use Rattle.eo_base.specs.Checks.{Checked, ◌>>=◌, value_or}
use Rattle.eo_sexp.specs.Sexp.{Sexp}
use Rattle.eo_term.specs.Tree.{Tree}
use Rattle.eo_proof.specs.Scopes.{Scopes, fact_named, is_live, innermost_hypothesis, depth, scope_limit, outside, with_fact, with_scope}
use Rattle.eo_shape.specs.Shapes.{Command, StepShape, Assume, AssumePush, Step, StepPop}
use Rattle.eo_sig.specs.Signature.{is_reserved, rule_named}
use Rattle.eo_rule.specs.Uses.{Use}
use Rattle.eo_session.specs.State.{State}
use Rattle.eo_session.specs.Step.{evaluated, value, values, optional_value, formula_of, formula, is_free_fact, is_free_outer_fact, premises, use_of, Concluded, concluded_by, concluded}
use Rattle.eo_session.specs.Using.{asserted_formula}
use Rattle.eo_session.specs.Decisions.{assume_effect, push_effect, step_effect, pop_effect, decided}
use Rattle.eo_session.specs.Effects.{Effect, Declares, Defines, Asserts, Opens, Adds, Nothing, after}
use Rattle.eo_session.specs.Notes.{numbers_of, act_of}
use Rattle.eo_session.specs.Origin.{Origin}
use Rattle.eo_session.proofs.Decided.{require-passes}
use Rattle.eo_trim.specs.Needed.{premises_of}
use Rattle.eo_trim.proofs.Acts.{IsPlain, step_is, pop_is}
use Rattle.eo_trim.proofs.Facts.{FactsKept, named-kept, free-kept, outside-kept, depth-kept, hypothesis-kept, fact-kept, scope-kept}
use Rattle.eo_trim.proofs.Grafts.{graft, plain_same, plain_after}

-- ---- checks

value_some : {A : Type 0} (fault : FaultName) (o : Option A) (x : A) → o ≡ Some x → value_or fault o ≡ Ok x
unfolding value_or
value_some fault o x e = rw e refl

free_both : (a b c : Bool) → (b ≡ false → c ≡ false) → (not a && not b) ≡ true → (not a && not c) ≡ true
free_both true b c h e = e
free_both false true c h e = absurd (true≢false (sym e))
free_both false false c h e = rw (h refl) refl

less_or : (a b c : Bool) → (a ≡ false → b ≡ false) → (a || c) ≡ false → (b || c) ≡ false
less_or true b c h e = absurd (true≢false e)
less_or false b c h e = rw (h refl) e

-- each number is one of the set
abbrev pub Each : (ℕ → Bool) → List ℕ → Type 0
Each N [] = Unit {0}
Each N (n ∷ ns) = (N n ≡ true) × Each N ns

module _ (N : ℕ → Bool) where
  -- The state keeps just the facts of needed commands.
  pub record Like (st also : State) : Type 0 where
    pub scopes : Scopes
    pub sorry : Bool
    pub commands : ℕ
    pub is : also ≡ graft scopes sorry commands st
    pub facts : FactsKept N st.scopes scopes
    pub proved : st.sorry ≡ false → sorry ≡ false

  module _ (scopes : Scopes) (sorry : Bool) (commands : ℕ) where
    optional_same : (st : State) (o : Option Sexp) → optional_value (graft scopes sorry commands st) o ≡ optional_value st o
    unfolding value evaluated
    optional_same st None = refl
    optional_same st (Some s) = refl

    values_same : (st : State) (ss : List Sexp) → values (graft scopes sorry commands st) ss ≡ values st ss
    unfolding values value evaluated
    values_same st [] = refl
    values_same st (s ∷ ss) = ap (λ (m : Checked (List Tree)). value st s >>= λ v. m >>= λ vs. Ok (v ∷ vs)) (values_same st ss)

    formula_same : (st : State) (s : Sexp) → formula (graft scopes sorry commands st) s ≡ formula st s
    unfolding formula formula_of evaluated
    formula_same st s = refl

    asserted_same : (st : State) (s : Sexp) → asserted_formula (graft scopes sorry commands st) s ≡ asserted_formula st s
    unfolding formula formula_of evaluated
    asserted_same st s = refl

    module _ (st : State) (h : FactsKept N st.scopes scopes) (proved : st.sorry ≡ false → sorry ≡ false) where
      free : (name : List ℕ) → is_free_fact st name ≡ true → is_free_fact (graft scopes sorry commands st) name ≡ true
      free name e = free_both (is_reserved name) (is_live st.scopes name) (is_live scopes name) (free-kept N st.scopes scopes h name) e

      free_outer : (name : List ℕ) → is_free_outer_fact st name ≡ true → is_free_outer_fact (graft scopes sorry commands st) name ≡ true
      free_outer name e = free_both (is_reserved name) (is_live (outside st.scopes) name) (is_live (outside scopes) name) (free-kept N (outside st.scopes) (outside scopes) (outside-kept N st.scopes scopes h) name) e

      premises_kept : (names : List (List ℕ)) (ts : List Tree) → premises st names ≡ Ok ts → Each N (numbers_of st names) → premises (graft scopes sorry commands st) names ≡ Ok ts
      unfolding premises
      premises_kept [] ts e n = e
      premises_kept (name ∷ names) ts e n =
          let t = bind_ok _ _ ts e in
          let us = bind_ok (premises st names) _ ts t.2 in
          bind_step _ _ t.0 (value_some UnknownPremise (fact_named scopes name) t.0 (named-kept N st.scopes scopes h name t.0 (value_or_ok UnknownPremise (fact_named st.scopes name) t.0 t.1) n.0))
          ∙ bind_step _ _ us.0 (premises_kept names us.0 us.1 n.1) ∙ us.2

      use_kept : (a : Option Tree) (s : StepShape) (given : Use) → use_of st a s ≡ Ok given → Each N (numbers_of st s.premises) → use_of (graft scopes sorry commands st) a s ≡ Ok given
      unfolding use_of
      use_kept a s given e n =
          let ps = bind_ok (premises st s.premises) _ given e in
          let stated = bind_ok (optional_value st s.stated) _ given ps.2 in
          let arguments = bind_ok (values st s.arguments) _ given stated.2 in
          bind_step _ _ ps.0 (premises_kept s.premises ps.0 ps.1 n)
          ∙ bind_step _ _ stated.0 (optional_same st s.stated ∙ stated.1)
          ∙ bind_step _ _ arguments.0 (values_same st s.arguments ∙ arguments.1) ∙ arguments.2

      concluded_kept : (a : Option Tree) (s : StepShape) (k : Concluded) → concluded st a s ≡ Ok k → Each N (numbers_of st s.premises) → concluded (graft scopes sorry commands st) a s ≡ Ok k
      unfolding concluded concluded_by
      concluded_kept a s k e n =
          let number = bind_ok (value_or UnknownRule (rule_named st.signature s.rule)) _ k e in
          let u = bind_ok (use_of st a s) _ k number.2 in
          bind_step (value_or UnknownRule (rule_named st.signature s.rule)) _ number.0 number.1 ∙ bind_step _ _ u.0 (use_kept a s u.0 u.1 n) ∙ u.2

      assume_decides : (name : List ℕ) (s : Sexp) (e : Effect) → assume_effect st name s ≡ Ok e → assume_effect (graft scopes sorry commands st) name s ≡ Ok e
      assume_decides name s e is =
          let is_free = require_then _ _ _ e is in
          let v = bind_ok (asserted_formula st s) _ e is_free.1 in
          require-passes _ _ _ (free name is_free.0) ∙ bind_step _ _ v.0 (asserted_same st s ∙ v.1) ∙ v.2

      push_decides : (name : List ℕ) (s : Sexp) (e : Effect) → push_effect st name s ≡ Ok e → push_effect (graft scopes sorry commands st) name s ≡ Ok e
      push_decides name s e is =
          let room = require_then (nat_lt (depth st.scopes) scope_limit) ScopeDepth _ e is in
          let is_free = require_then _ _ _ e room.1 in
          let v = bind_ok (formula st s) _ e is_free.1 in
          require-passes _ _ _ (ap (λ n. nat_lt n scope_limit) (depth-kept N st.scopes scopes h) ∙ room.0) ∙ require-passes _ _ _ (free name is_free.0) ∙ bind_step _ _ v.0 (formula_same st s ∙ v.1) ∙ v.2

      step_decides : (s : StepShape) (e : Effect) → step_effect st s ≡ Ok e → Each N (numbers_of st s.premises) → step_effect (graft scopes sorry commands st) s ≡ Ok e
      step_decides s e is n =
          let is_free = require_then _ _ _ e is in
          let k = bind_ok (concluded st None s) _ e is_free.1 in
          require-passes _ _ _ (free s.name is_free.0) ∙ bind_step _ _ k.0 (concluded_kept None s k.0 k.1 n) ∙ k.2

      pop_decides : (s : StepShape) (e : Effect) → pop_effect st s ≡ Ok e → Each N (numbers_of st s.premises) → pop_effect (graft scopes sorry commands st) s ≡ Ok e
      pop_decides s e is n =
          let a = bind_ok (value_or NoScope (innermost_hypothesis st.scopes)) _ e is in
          let is_free = require_then _ _ _ e a.2 in
          let k = bind_ok (concluded st (Some a.0) s) _ e is_free.1 in
          bind_step _ _ a.0 (ap (value_or NoScope) (hypothesis-kept N st.scopes scopes h) ∙ a.1) ∙ require-passes _ _ _ (free_outer s.name is_free.0) ∙ bind_step _ _ k.0 (concluded_kept (Some a.0) s k.0 k.1 n) ∙ k.2

      -- the same is decided beside the kept facts
      pub grafted_decides : (from : Origin) (command : Command) (e : Effect) → decided st from command ≡ Ok e → Each N (premises_of (act_of st command e)) → decided (graft scopes sorry commands st) from command ≡ Ok e
      grafted_decides from (Assume name s) e is p = assume_decides name s e is
      grafted_decides from (AssumePush name s) e is p = push_decides name s e is
      grafted_decides from (Step s) e is p = step_decides s e is (subst (λ (x : Effect). Each N (premises_of (act_of st (Step s) x))) (step_is st s e is).2 p)
      grafted_decides from (StepPop s) e is p = pop_decides s e is (subst (λ (x : Effect). Each N (premises_of (act_of st (StepPop s) x))) (pop_is st s e is).4 p)
      grafted_decides from command e is p = plain_same scopes sorry commands st from command refl ∙ is

      module _ (need : N st.commands ≡ true) where
        plain_like : (e : Effect) → IsPlain e → Like (graft st.scopes st.sorry st.commands (after st e)) (after (graft scopes sorry commands st) e)
        plain_like e plain = record { scopes = scopes; sorry = sorry; commands = commands; is = plain_after scopes sorry commands st e plain; facts = h; proved = proved }

        -- what is decided is done to both
        pub grafted_like : (e : Effect) → Like (after st e) (after (graft scopes sorry commands st) e)
        grafted_like (Declares entry) = plain_like (Declares entry) tt
        grafted_like (Defines m) = plain_like (Defines m) tt
        grafted_like (Asserts t names) = subst (λ (x : State). Like x (after (graft scopes sorry commands st) (Asserts t names))) (sym (plain_after st.scopes st.sorry st.commands st (Asserts t names) tt)) (plain_like (Asserts t names) tt)
        grafted_like (Opens name t) = record {
          scopes = with_scope scopes name t commands;
          sorry = sorry;
          commands = commands;
          is = refl;
          facts = scope-kept N st.scopes scopes h name t st.commands commands need;
          proved = proved;
        }
        grafted_like (Adds name k false) = record {
          scopes = with_fact scopes name k.formula commands;
          sorry = sorry || k.sorry;
          commands = commands;
          is = refl;
          facts = fact-kept N st.scopes scopes h name k.formula st.commands commands need;
          proved = less_or st.sorry sorry k.sorry proved;
        }
        grafted_like (Adds name k true) = record {
          scopes = with_fact (outside scopes) name k.formula commands;
          sorry = sorry || k.sorry;
          commands = commands;
          is = refl;
          facts = fact-kept N (outside st.scopes) (outside scopes) (outside-kept N st.scopes scopes h) name k.formula st.commands commands need;
          proved = less_or st.sorry sorry k.sorry proved;
        }
        grafted_like Nothing = plain_like Nothing tt

  -- a needed command is decided beside the kept facts, and done to both
  pub needed_goes : (st also : State) (from : Origin) (command : Command) (e : Effect) → Like st also → N st.commands ≡ true → decided st from command ≡ Ok e → Each N (premises_of (act_of st command e)) →
      (decided also from command ≡ Ok e) × Like (after st e) (after also e)
  needed_goes st also from command e l need is p =
      subst (λ (x : State). (decided x from command ≡ Ok e) × Like (after st e) (after x e)) (sym l.is)
      (grafted_decides l.scopes l.sorry l.commands st l.facts l.proved from command e is p, grafted_like l.scopes l.sorry l.commands st l.facts l.proved need e)
