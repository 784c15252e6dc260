use Rattle.std.proofs.Common.{◌∙◌, ap, List, ◌++◌, ◌∷◌, []}
use Rattle.eo_trim.specs.Entries.{Entry}
use Rattle.eo_trim.specs.declared.entries.Item.{Item}
use Rattle.eo_trim.proofs.Keeps.{push-is}
use Rattle.eo_trim.proofs.entries.Entries.push.Goals as goal

pub returns : goal.returns
returns c =
    let at = c.in_ok-premises.premises in
    let to = c.in_ok-bytes.bytes in
    let p = c.in_ok-premises.ensures in
    let b = c.in_ok-bytes.ensures in
    let items = c.push_reserved.ensures.items ∙ ap (λ (is : List Item). is ++ record { head = c.args.head.now; premises = at; bytes = to } ∷ []) c.in_ok-reserve.ensures.items in
    record {
      pushed = push-is c.self.inside.premises.items c.args.premises.now c.append.new.buffer.items c.self.inside.bytes.items c.args.bytes.now c.append-2.new.buffer.items
          c.self.inside.items.items c.push_reserved.new.self.items (record { head = c.args.head.now; premises = at; bytes = to })
          c.self.invariant p.appended b.appended items p.span.0 p.span.1 b.span.0 b.span.1
          ∙ ap (λ (es : List Entry). es ++ record { head = c.args.head.now; premises = c.args.premises.now; bytes = c.args.bytes.now } ∷ []) c.self.view_is;
    }
