-- What holds of the members of each value, and of the names of its lines.
use Rattle.std.specs.Prelude.{◌≡◌, ◌≤◌, true, List, [], Contains, ◌⊎◌}
use Rattle.std.proofs.Common.{inl, inr, arith}
use Rattle.eo_sig.specs.Signature.{Signature, Macro}
use Rattle.eo_term.specs.Ranges.{IsInRange}
use Rattle.eo_term.specs.Tree.{Tree, height, is_value}
use Rattle.eo_show.specs.Members.{defined}
use Rattle.eo_show.specs.Lines.{shown_lines}
use Rattle.eo_show.specs.Printable.{CanShow}
use Rattle.eo_show.specs.Written.{AreMembers, HaveNewNames}
use Rattle.eo_show.proofs.Order.{members-visited, members-end}
use Rattle.eo_show.proofs.PartsHold.{range-down, members-hold}
use Rattle.eo_show.proofs.FreeNames.{are-numbered, new-names}

pub are-members : (S : Signature) (t : Tree) → is_value t ≡ true → AreMembers S t
are-members S t v =
    let visited = members-visited S t v in
    let end = members-end S t in
    record { ordered = visited.ordered; front = end.0; last = end.1; low = λ m c. low m (visited.lower m c); in_range = members-hold IsInRange range-down S t }
  where
    low : (m : Tree) → Contains [] m ⊎ (height m ≤ height t) → height m ≤ height t
    low m (inl h) = let lt = h.1 in absurd (omega arith)
    low m (inr le) = le

pub lines-new : (S : Signature) (macros : List Macro) (t : Tree) → CanShow S macros t → HaveNewNames S macros (shown_lines S macros t)
unfolding shown_lines
lines-new S macros t can = new-names S macros 1 (defined S t) (are-numbered S macros (defined S t) can.room)
