use Rattle.eo_sound.proofs.laws.layers_law.Goals as goal

pub returns : goal.returns
returns c = record {
  equals = c.equality_law.ensures.trees;
  rules = c.ordering_law.ensures.rules;
  macros = c.ordering_law.ensures.macros;
  functions = c.reference_law.ensures.functions;
  sorts = c.reference_law.ensures.sorts;
  named_terms = c.named_terms_law.ensures.named_terms;
  values = c.values_law.ensures.whole;
  concludes = c.conclusion_law.ensures.sound;
  weakens = c.derivability_law.ensures.allowed_formulas;
  lasts = c.derivability_law.ensures.allowed_signature;
}
