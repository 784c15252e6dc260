use Rattle.std.proofs.Common.{ap, ◌∙◌, Some, List, ℕ}
use Rattle.std.specs.Prelude.{option_map}
use Rattle.eo_main.specs.declared.Request.TheVariants.{Load}
use Rattle.eo_main.proofs.words.load_of.Goals as goal

pub returns-in_ok-new-in-Some : goal.returns-in_ok-new-in-Some
returns-in_ok-new-in-Some c = ap (λ (text : List ℕ). Some (Load text)) c.in_ok-new-in-Some.ensures ∙ ap (option_map Load) c.in-Some.ensures

pub returns-in-None : goal.returns-in-None
returns-in-None c = ap (option_map Load) c.in-None.ensures
