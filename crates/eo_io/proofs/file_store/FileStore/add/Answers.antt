use Rattle.std.proofs.Common.{◌≡◌, length, map, ap, ◌∙◌, sym, subst, arith, reverse}
use Rattle.std.proofs.lemmas.List.{length-map}
use Rattle.eo_io.proofs.StoreLemmas.{pushed_bytes, held-added, told-added, unread-added, file_at-with_file}
use Rattle.eo_io.specs.Stored.{with_file, IsFileOf}
use Rattle.eo_io.proofs.file_store.FileStore.add.Goals as goal

pub invariant_of-self-2 : goal.invariant_of-self-2
invariant_of-self-2 c =
    let pushed = rw c.unwrap.ensures at c.push.ensures.items in
    let grown = pushed_bytes (λ v. v.items) c.self.inside.contents.items _ _ _ _ pushed c.in_ok-reserve.ensures.items (c.in_ok-bytes.ensures.items_if_clones_equal (λ x y e. e)) in
    let own = c.in_ok-path.ensures.items_if_clones_equal (λ x y e. e) in
    let place : c.len.result ≡ length (map (λ v. v.items) c.self.inside.contents.items) = omega (arith, c.len.ensures, c.in_ok-reserve.ensures.len, c.self.inside.contents.ok, length-map c.self.inside.contents.items (λ v. v.items)) in
    held-added (λ v. v.items) _ _ _ _ _ _ c.len.result _ _ _ c.self.invariant grown place c.in_ok-insert.ensures.entries own

pub returns-clause-told : goal.returns-clause-told
returns-clause-told c =
    let pushed = rw c.unwrap.ensures at c.push.ensures.items in
    let grown = pushed_bytes (λ v. v.items) c.self.inside.contents.items _ _ _ _ pushed c.in_ok-reserve.ensures.items (c.in_ok-bytes.ensures.items_if_clones_equal (λ x y e. e)) in
    let own = c.in_ok-path.ensures.items_if_clones_equal (λ x y e. e) in
    let place : c.len.result ≡ length (map (λ v. v.items) c.self.inside.contents.items) = omega (arith, c.len.ensures, c.in_ok-reserve.ensures.len, c.self.inside.contents.ok, length-map c.self.inside.contents.items (λ v. v.items)) in
    told-added (λ v. v.items) _ _ _ _ _ _ c.len.result _ _ _ c.self.invariant grown place c.in_ok-insert.ensures.entries own
    ∙ ap (λ stored. with_file stored.told c.args.path.now c.args.bytes.now) c.self.view_is

pub returns-clause-file : goal.returns-clause-file
returns-clause-file c =
    subst (λ files. IsFileOf c.args.self.now.told files c.args.path.now c.args.bytes.now) (sym (returns-clause-told c))
    (file_at-with_file c.args.self.now.told c.args.path.now c.args.bytes.now)

pub returns-clause-unread : goal.returns-clause-unread
returns-clause-unread c =
    let pushed = rw c.unwrap.ensures at c.push.ensures.items in
    let grown = pushed_bytes (λ v. v.items) c.self.inside.contents.items _ _ _ _ pushed c.in_ok-reserve.ensures.items (c.in_ok-bytes.ensures.items_if_clones_equal (λ x y e. e)) in
    let own = c.in_ok-path.ensures.items_if_clones_equal (λ x y e. e) in
    let place : c.len.result ≡ length (map (λ v. v.items) c.self.inside.contents.items) = omega (arith, c.len.ensures, c.in_ok-reserve.ensures.len, c.self.inside.contents.ok, length-map c.self.inside.contents.items (λ v. v.items)) in
    ap reverse (unread-added (λ v. v.items) _ _ _ _ _ _ c.len.result _ _ _ c.self.invariant grown place c.in_ok-insert.ensures.entries own)
    ∙ ap (λ stored. stored.unread) c.self.view_is
