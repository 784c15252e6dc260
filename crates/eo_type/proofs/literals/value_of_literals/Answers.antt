use Rattle.std.proofs.Common.{sym, ap, ◌∙◌, rules}
use Rattle.eo_ops.specs.Operators.{literal_tree, answer_map}
use Rattle.eo_term.proofs.Growing.{grows_refl}
use Rattle.eo_type.specs.Types.{Typed, typed_answer}
use Rattle.eo_type.proofs.Walk.{gives_stop}
use Rattle.eo_type.proofs.literals.value_of_literals.Goals as goal

pub returns-in-Stuck : goal.returns-in-Stuck
returns-in-Stuck c =
    record {
      gives = ap (λ a. typed_answer (answer_map literal_tree a)) c.in-Stuck.ensures.value;
      grows = grows_refl c.args.table.now;
    }

pub returns-in-NumberRange : goal.returns-in-NumberRange
returns-in-NumberRange c =
    record {
      gives = ap (λ a. typed_answer (answer_map literal_tree a)) c.in-NumberRange.ensures.value;
      grows = grows_refl c.args.table.now;
    }

pub returns-in-Memory : goal.returns-in-Memory
returns-in-Memory c =
    record { gives = search rules; grows = grows_refl c.args.table.now }

pub returns-in_err-literal_term-in-Value : goal.returns-in_err-literal_term-in-Value
returns-in_err-literal_term-in-Value c =
    record { gives = gives_stop _ _ _ _ c.from_residual.ensures.1 tt; grows = c.in_err-literal_term-in-Value.ensures.grows }

pub returns-in_ok-literal_term-in-Value : goal.returns-in_ok-literal_term-in-Value
returns-in_ok-literal_term-in-Value c =
    let made = c.in_ok-literal_term-in-Value.ensures.makes in
    record {
      gives = record { live = made.live; typed = ap (λ a. typed_answer (answer_map literal_tree a)) c.in-Value.ensures.value.0 ∙ ap Typed (sym made.tree) };
      grows = c.in_ok-literal_term-in-Value.ensures.grows;
    }
