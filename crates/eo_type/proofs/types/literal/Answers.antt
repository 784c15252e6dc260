use Rattle.std.proofs.Common.{length, sym, ap, ◌∙◌}
use Rattle.std.specs.Prelude.{option_map}
use Rattle.eo_term.proofs.Growing.{grows_refl}
use Rattle.eo_term.specs.Terms.{tree_at}
use Rattle.eo_type.specs.Types.{literal_type_at}
use Rattle.eo_type.proofs.types.literal.Goals as goal

pub literal_in-requires-clause-ty : goal.literal_in-requires-clause-ty
literal_in-requires-clause-ty c = c.in-Some.ensures.live (length c.args.table.now.trees) c.requires.below

pub returns-in-None : goal.returns-in-None
returns-in-None c =
    let ts = c.args.table.now.trees in
    record {
      gives = ap (λ o. literal_type_at o (tree_at ts c.args.id)) (sym (c.literal_type.ensures.value ts) ∙ ap (option_map (tree_at ts)) c.in-None.is);
      grows = grows_refl c.args.table.now;
    }
