use Rattle.std.proofs.Common.{◌≡◌, ℕ, ◌+◌, ◌<◌, ◌≤◌, length, take, get_or}
use Rattle.eo_term.specs.Carry.{trues}
use Rattle.eo_term.proofs.carry.texts.text_places.Given as goal

abbrev pub invariant-loop-b : goal.invariant-loop-b
invariant-loop-b l = record {
  next : l.number ≡ l.first + trues (take l.b-index l.needed);
  small : l.number ≤ l.first + l.b-index;
  long : length l.places.items ≡ l.b-index;
  places : (k : ℕ) → k < l.b-index → get_or l.places.items k 0 ≡ l.first + trues (take k l.needed);
}
