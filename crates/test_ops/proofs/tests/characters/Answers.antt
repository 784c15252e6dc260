use Rattle.std.proofs.Common.{◌≡◌, ◌≤◌, [], ◌∷◌, ◌++◌, arith}
use Rattle.std.proofs.lemmas.List.Elements.{All-push}
use Rattle.eo_base.specs.Characters.{greatest_character}
use Rattle.test_ops.proofs.tests.characters.Goals as goal

pub loop-byte-preserved : goal.loop-byte-preserved
loop-byte-preserved c =
    let added : c.push.new.self.items ≡ c.loop-byte.characters.items ++ c.from.result ∷ [] = c.in_ok-push.ensures.items in
    rw added (All-push (λ n. n ≤ greatest_character) c.loop-byte.characters.items c.from.result c.loop-byte.invariant (omega arith))
