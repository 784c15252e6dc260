use Rattle.std.proofs.Common.{refl}
use Rattle.eo_term.specs.Tree.{App, Arr, Qar}
use Rattle.eo_term.proofs.Growing.{grows_refl}
use Rattle.eo_pattern.proofs.Making.{inside_first, inside_second, two_put, var_put, made_low, leaf_made, tall_exit}
use Rattle.eo_pattern.proofs.substitution.put_node.Goals as goal

pub known_two-requires-clause-first : goal.known_two-requires-clause-first
known_two-requires-clause-first c = inside_first _ _ _ App _ _ c.in-App.ensures.tree (λ a b. refl) (λ a b. refl) c.in-App.ensures.parts.0

pub known_two-requires-clause-second : goal.known_two-requires-clause-second
known_two-requires-clause-second c = inside_second _ _ _ App _ _ c.in-App.ensures.tree (λ a b. refl) (λ a b. refl) c.in-App.ensures.parts.1

pub known_two-requires-in-Arr-clause-first : goal.known_two-requires-in-Arr-clause-first
known_two-requires-in-Arr-clause-first c = inside_first _ _ _ Arr _ _ c.in-Arr.ensures.tree (λ a b. refl) (λ a b. refl) c.in-Arr.ensures.parts.0

pub known_two-requires-in-Arr-clause-second : goal.known_two-requires-in-Arr-clause-second
known_two-requires-in-Arr-clause-second c = inside_second _ _ _ Arr _ _ c.in-Arr.ensures.tree (λ a b. refl) (λ a b. refl) c.in-Arr.ensures.parts.1

pub known_two-requires-in-Qar-clause-first : goal.known_two-requires-in-Qar-clause-first
known_two-requires-in-Qar-clause-first c = inside_first _ _ _ (Qar c.in-Qar.par) _ _ c.in-Qar.ensures.tree (λ a b. refl) (λ a b. refl) c.in-Qar.ensures.parts.0

pub known_two-requires-in-Qar-clause-second : goal.known_two-requires-in-Qar-clause-second
known_two-requires-in-Qar-clause-second c = inside_second _ _ _ (Qar c.in-Qar.par) _ _ c.in-Qar.ensures.tree (λ a b. refl) (λ a b. refl) c.in-Qar.ensures.parts.1

pub returns-in_err-made-in-Var-clause-tall : goal.returns-in_err-made-in-Var-clause-tall
returns-in_err-made-in-Var-clause-tall c = tall_exit _ _ _ _ c.from_residual.ensures.1 (var_put _ _ _ _ _ c.in-Var.ensures.tree c.in-Some.ensures.tree) c.in_err-made-in-Var.ensures.tall.0

pub returns-in_ok-made-in-Var-clause-step : goal.returns-in_ok-made-in-Var-clause-step
returns-in_ok-made-in-Var-clause-step c = made_low _ _ _ _ _ _ (var_put _ _ _ _ _ c.in-Var.ensures.tree c.in-Some.ensures.tree) c.in_ok-made-in-Var.ensures.interned.live c.in_ok-made-in-Var.ensures.interned.tree c.in_ok-made-in-Var.ensures.tall.1

pub returns-in_err-made-in-Ok-clause-tall : goal.returns-in_err-made-in-Ok-clause-tall
returns-in_err-made-in-Ok-clause-tall c = tall_exit _ _ _ _ c.from_residual-in_err-made-in-Ok.ensures.1 (two_put _ _ _ App _ _ c.in-App.ensures.tree (λ a b. refl) _ c.in-Ok.ensures) c.in_err-made-in-Ok.ensures.tall.0

pub returns-in_ok-made-in-Ok-clause-step : goal.returns-in_ok-made-in-Ok-clause-step
returns-in_ok-made-in-Ok-clause-step c = made_low _ _ _ _ _ _ (two_put _ _ _ App _ _ c.in-App.ensures.tree (λ a b. refl) _ c.in-Ok.ensures) c.in_ok-made-in-Ok.ensures.interned.live c.in_ok-made-in-Ok.ensures.interned.tree c.in_ok-made-in-Ok.ensures.tall.1

pub returns-in-Err-clause-step : goal.returns-in-Err-clause-step
returns-in-Err-clause-step c = c.in-Err.ensures

pub returns-in_err-made-in-Ok-known_two-clause-tall : goal.returns-in_err-made-in-Ok-known_two-clause-tall
returns-in_err-made-in-Ok-known_two-clause-tall c = tall_exit _ _ _ _ c.from_residual-in_err-made-in-Ok-known_two.ensures.1 (two_put _ _ _ Arr _ _ c.in-Arr.ensures.tree (λ a b. refl) _ c.in-Ok-known_two.ensures) c.in_err-made-in-Ok-known_two.ensures.tall.0

pub returns-in_ok-made-in-Ok-known_two-clause-step : goal.returns-in_ok-made-in-Ok-known_two-clause-step
returns-in_ok-made-in-Ok-known_two-clause-step c = made_low _ _ _ _ _ _ (two_put _ _ _ Arr _ _ c.in-Arr.ensures.tree (λ a b. refl) _ c.in-Ok-known_two.ensures) c.in_ok-made-in-Ok-known_two.ensures.interned.live c.in_ok-made-in-Ok-known_two.ensures.interned.tree c.in_ok-made-in-Ok-known_two.ensures.tall.1

pub returns-in-Err-known_two-clause-step : goal.returns-in-Err-known_two-clause-step
returns-in-Err-known_two-clause-step c = c.in-Err-known_two.ensures

pub returns-in_err-made-in-Ok-known_two-2-clause-tall : goal.returns-in_err-made-in-Ok-known_two-2-clause-tall
returns-in_err-made-in-Ok-known_two-2-clause-tall c = tall_exit _ _ _ _ c.from_residual-in_err-made-in-Ok-known_two-2.ensures.1 (two_put _ _ _ (Qar c.in-Qar.par) _ _ c.in-Qar.ensures.tree (λ a b. refl) _ c.in-Ok-known_two-2.ensures) c.in_err-made-in-Ok-known_two-2.ensures.tall.0

pub returns-in_ok-made-in-Ok-known_two-2-clause-step : goal.returns-in_ok-made-in-Ok-known_two-2-clause-step
returns-in_ok-made-in-Ok-known_two-2-clause-step c = made_low _ _ _ _ _ _ (two_put _ _ _ (Qar c.in-Qar.par) _ _ c.in-Qar.ensures.tree (λ a b. refl) _ c.in-Ok-known_two-2.ensures) c.in_ok-made-in-Ok-known_two-2.ensures.interned.live c.in_ok-made-in-Ok-known_two-2.ensures.interned.tree c.in_ok-made-in-Ok-known_two-2.ensures.tall.1

pub returns-in-Err-known_two-2-clause-step : goal.returns-in-Err-known_two-2-clause-step
returns-in-Err-known_two-2-clause-step c = c.in-Err-known_two-2.ensures

pub returns-in_default-clause-grows : goal.returns-in_default-clause-grows
returns-in_default-clause-grows c = grows_refl c.args.table.now

pub returns-in-Err-clause-grows : goal.returns-in-Err-clause-grows
returns-in-Err-clause-grows c = grows_refl c.args.table.now

pub returns-in-Err-known_two-clause-grows : goal.returns-in-Err-known_two-clause-grows
returns-in-Err-known_two-clause-grows c = grows_refl c.args.table.now

pub returns-in-Err-known_two-2-clause-grows : goal.returns-in-Err-known_two-2-clause-grows
returns-in-Err-known_two-2-clause-grows c = grows_refl c.args.table.now

pub returns-in-Par-clause-grows : goal.returns-in-Par-clause-grows
returns-in-Par-clause-grows c = grows_refl c.args.table.now

pub returns-in-Con-clause-grows : goal.returns-in-Con-clause-grows
returns-in-Con-clause-grows c = grows_refl c.args.table.now

pub returns-in-Num-clause-grows : goal.returns-in-Num-clause-grows
returns-in-Num-clause-grows c = grows_refl c.args.table.now

pub returns-in-Bits-clause-grows : goal.returns-in-Bits-clause-grows
returns-in-Bits-clause-grows c = grows_refl c.args.table.now

pub returns-in-Str-clause-grows : goal.returns-in-Str-clause-grows
returns-in-Str-clause-grows c = grows_refl c.args.table.now

pub returns-in-Con-clause-step : goal.returns-in-Con-clause-step
returns-in-Con-clause-step c = leaf_made _ _ _ _ c.in-Con.ensures.tree refl c.requires.live (c.laws.ensures.low c.args.id c.requires.live)

pub returns-in-Num-clause-step : goal.returns-in-Num-clause-step
returns-in-Num-clause-step c = leaf_made _ _ _ _ c.in-Num.ensures.tree refl c.requires.live (c.laws.ensures.low c.args.id c.requires.live)

pub returns-in-Bits-clause-step : goal.returns-in-Bits-clause-step
returns-in-Bits-clause-step c = leaf_made _ _ _ _ c.in-Bits.ensures.tree refl c.requires.live (c.laws.ensures.low c.args.id c.requires.live)

pub returns-in-Str-clause-step : goal.returns-in-Str-clause-step
returns-in-Str-clause-step c = leaf_made _ _ _ _ c.in-Str.ensures.tree refl c.requires.live (c.laws.ensures.low c.args.id c.requires.live)
