-- What is carried of an effect.
use Rattle.std.proofs.Common.{◌≡◌, length, List, ap, ◌∙◌}
use Rattle.eo_sig.specs.Adding.{EntryIsFree, EntryIsOrdered, entry_fault}
use Rattle.eo_sig.specs.Reading.{EntryBelow, read_entry}
use Rattle.eo_sig.specs.declared.records.Declared.{Declared}
use Rattle.eo_term.specs.Tree.{Tree}
use Rattle.eo_session.specs.Deciding.{MayDeclare}
use Rattle.eo_session.specs.Store.{Leaves}
use Rattle.eo_session.specs.State.{is_in_scope}
use Rattle.eo_session.specs.declared.store.Store.{Store}

-- a declaration with new numbers of its terms may be committed where the old one may
pub carried-may : (h new : Store) (more : List Tree) → Leaves h more new → (d e : Declared) → read_entry new.table.trees e ≡ read_entry h.table.trees d → EntryBelow (length new.table.trees) e → EntryIsFree new.signature e → EntryIsOrdered new.table.trees e → MayDeclare h d → MayDeclare new e
carried-may h new more leaves d e read below free ordered may = record {
  below = below;
  free = free;
  sound = (λ i. entry_fault (leaves.same i).signature (read i)) ∙ may.sound;
  ordered = ordered;
  outside = ap is_in_scope leaves.same ∙ may.outside;
}
