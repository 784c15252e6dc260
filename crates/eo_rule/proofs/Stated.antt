-- The formula that is answered is the value that was found.
use Rattle.std.proofs.Common.{◌≡◌, ℕ, true, false, Option, ap, ◌∙◌, subst, arith}
use Rattle.std.specs.Prelude.{Result, Ok, Err, IfOk}
use Rattle.eo_term.specs.Terms.{Terms, Since, tree_at}
use Rattle.eo_term.specs.Tree.{Tree, is_tall, is_value}
use Rattle.eo_eval.specs.Outcomes.{IsValueOf}
use Rattle.eo_rule.specs.declared.refused.RuleRefused.{RuleRefused}
use Rattle.eo_rule.specs.Answers.{GivesTerm}
use Rattle.eo_rule.specs.Uses.{check_stated}
use Rattle.eo_rule.proofs.Parts.{stated_parts}

pub stated_value : (t : Terms) (r : Result ℕ RuleRefused) (s : Option Tree) (i : ℕ) → IsValueOf t i → GivesTerm t r (check_stated s (tree_at t.trees i)) → IfOk r (IsValueOf t)
stated_value t (Ok j) s i v h =
    let e = (stated_parts s (tree_at t.trees i) (tree_at t.trees j) h.is).1 in
    record { live = h.live; value = subst (λ (u : Tree). is_value u ≡ true) e v.value; low = subst (λ (u : Tree). is_tall u ≡ false) e v.low }
stated_value t (Err x) s i v h = tt

-- a value is one still where the table has grown
pub value_stays : (old new : Terms) (i : ℕ) → Since old new → IsValueOf old i → IsValueOf new i
value_stays old new i g v =
    let more = g.more_trees in
    let live = v.live in
    record { live = omega (arith, more, live); value = ap is_value (g.tree i v.live) ∙ v.value; low = ap is_tall (g.tree i v.live) ∙ v.low }
