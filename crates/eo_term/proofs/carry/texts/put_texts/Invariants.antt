use Rattle.std.proofs.Common.{◌≡◌, ◌+◌, ◌≤◌, ◌++◌, length, drop}
use Rattle.indexmap.specs.IndexSet.{spare}
use Rattle.eo_term.specs.Carry.{chosen, trues, texts_of}
use Rattle.eo_term.proofs.carry.texts.put_texts.Given as goal

abbrev pub invariant-loop-text : goal.invariant-loop-text
invariant-loop-text l = record {
  long : l.at + length l.text-iterator ≡ length l.needed;
  all : texts_of l.texts.keys ++ chosen (drop l.at l.needed) (texts_of l.text-iterator) ≡ texts_of l.fn.texts.keys ++ chosen l.needed (texts_of l.fn.newer.keys);
  room : trues (drop l.at l.needed) ≤ spare l.texts;
}
