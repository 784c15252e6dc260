use Rattle.std.proofs.Common.{◌≡◌, ℕ, ◌-◌, ◌+◌, ◌<◌, ◌≤◌, length, map, drop, ap, ◌∙◌, sym, subst, arith, length-drop, get_or, set, []}
use Rattle.std.proofs.lemmas.List.{get_or_default, length-map}
use Rattle.std.proofs.lemmas.List.Elements.{All-set}
use Rattle.eo_io.specs.Holding.{bytes_at, IsOpenIn}
use Rattle.eo_io.specs.Stored.{first_unread, after_read}
use Rattle.eo_io.proofs.StoreLemmas.{some_open, bytes_at-map, first_unread-last, last-open, unread-read}
use Rattle.eo_io.proofs.file_store.FileStore.read.Goals as goal

pub overflow_sub-last : goal.overflow_sub-last
overflow_sub-last c =
    let contents = map (λ v. v.items) c.self.inside.contents.items in
    let files = c.self.inside.opened.items in
    let some : 0 < length files = some_open contents files (λ e. c.requires (sym (ap (λ s. s.unread) c.self.view_is) ∙ e)) in
    omega (arith, some, c.len-last.ensures, c.self.inside.opened.ok)

pub index-requires : goal.index-requires
index-requires c =
    let contents = map (λ v. v.items) c.self.inside.contents.items in
    let files = c.self.inside.opened.items in
    let some : 0 < length files = some_open contents files (λ e. c.requires (sym (ap (λ s. s.unread) c.self.view_is) ∙ e)) in
    omega (arith, some, c.len-last.ensures, c.self.inside.opened.ok)

pub index-requires-2 : goal.index-requires-2
index-requires-2 c =
    let contents = map (λ v. v.items) c.self.inside.contents.items in
    let files = c.self.inside.opened.items in
    let some : 0 < length files = some_open contents files (λ e. c.requires (sym (ap (λ s. s.unread) c.self.view_is) ∙ e)) in
    let last : (c.len-last.result - 1) + 1 ≡ length files = omega (arith, c.len-last.ensures, c.self.inside.opened.ok) in
    let held = last-open contents files (c.len-last.result - 1) c.index.result.now last c.index.ensures c.self.invariant.open_in in
    omega (arith, held.place, length-map c.self.inside.contents.items (λ v. v.items), c.self.inside.contents.ok)

pub slice_bounds-rest-count : goal.slice_bounds-rest-count
slice_bounds-rest-count c =
    let contents = map (λ v. v.items) c.self.inside.contents.items in
    let files = c.self.inside.opened.items in
    let some : 0 < length files = some_open contents files (λ e. c.requires (sym (ap (λ s. s.unread) c.self.view_is) ∙ e)) in
    let last : (c.len-last.result - 1) + 1 ≡ length files = omega (arith, c.len-last.ensures, c.self.inside.opened.ok) in
    let held = last-open contents files (c.len-last.result - 1) c.index.result.now last c.index.ensures c.self.invariant.open_in in
    let within : c.index.result.now.place < length c.self.inside.contents.items = omega (arith, held.place, length-map c.self.inside.contents.items (λ v. v.items)) in
    let bytes = bytes_at-map (λ v. v.items) c.self.inside.contents.items c.index.result.now.place _ within c.index-2.ensures ∙ sym c.as_slice.ensures.value in
    omega (arith, held.read, ap length bytes)

pub invariant_of-self : goal.invariant_of-self
invariant_of-self c =
    let contents = map (λ v. v.items) c.self.inside.contents.items in
    let files = c.self.inside.opened.items in
    let some : 0 < length files = some_open contents files (λ e. c.requires (sym (ap (λ s. s.unread) c.self.view_is) ∙ e)) in
    let last : (c.len-last.result - 1) + 1 ≡ length files = omega (arith, c.len-last.ensures, c.self.inside.opened.ok) in
    let held = last-open contents files (c.len-last.result - 1) c.index.result.now last c.index.ensures c.self.invariant.open_in in
    let within : c.index.result.now.place < length c.self.inside.contents.items = omega (arith, held.place, length-map c.self.inside.contents.items (λ v. v.items)) in
    let bytes = bytes_at-map (λ v. v.items) c.self.inside.contents.items c.index.result.now.place _ within c.index-2.ensures ∙ sym c.as_slice.ensures.value in
    let same : c.index_mut.result.now ≡ c.index.result.now = c.index_mut.ensures.value ∙ get_or_default files (c.len-last.result - 1) _ _ (omega arith) ∙ sym c.index.ensures in
    let read = c.index.result.now.read + c.min-n.result in
    let few : read ≤ length (bytes_at contents c.index.result.now.place) = omega (arith, held.read, ap length bytes, length-drop c.index.result.now.read c.as_slice.result.now, c.min.ensures, c.min-n.ensures) in
    let open_one : IsOpenIn contents (record { place = c.index_mut.result.now.place; read = read }) =
    subst (λ (place : ℕ). IsOpenIn contents (record { place = place; read = read })) (sym (ap (λ file. file.place) same)) (record { place = held.place; read = few }) in
    record {
      within = c.self.invariant.within;
      open_in = All-set (IsOpenIn contents) files (c.len-last.result - 1) _ open_one c.self.invariant.open_in;
      room = c.self.invariant.room;
    }

pub returns-clause-length : goal.returns-clause-length
returns-clause-length c =
    let contents = map (λ v. v.items) c.self.inside.contents.items in
    let files = c.self.inside.opened.items in
    let some : 0 < length files = some_open contents files (λ e. c.requires (sym (ap (λ s. s.unread) c.self.view_is) ∙ e)) in
    let last : (c.len-last.result - 1) + 1 ≡ length files = omega (arith, c.len-last.ensures, c.self.inside.opened.ok) in
    let held = last-open contents files (c.len-last.result - 1) c.index.result.now last c.index.ensures c.self.invariant.open_in in
    let within : c.index.result.now.place < length c.self.inside.contents.items = omega (arith, held.place, length-map c.self.inside.contents.items (λ v. v.items)) in
    let bytes = bytes_at-map (λ v. v.items) c.self.inside.contents.items c.index.result.now.place _ within c.index-2.ensures ∙ sym c.as_slice.ensures.value in
    let unread : length (first_unread c.args.self.now.unread) ≡ length (drop c.index.result.now.read c.as_slice.result.now) =
    ap (λ s. length (first_unread s.unread)) (sym c.self.view_is) ∙ ap length (first_unread-last contents files (c.len-last.result - 1) c.index.result.now last c.index.ensures)
    ∙ ap (λ bs. length (drop c.index.result.now.read bs)) bytes in
    let long = length-drop c.index.result.now.read c.as_slice.result.now in
    omega (arith, c.min.ensures, c.min-n.ensures)

pub returns-clause-after : goal.returns-clause-after
returns-clause-after c =
    let contents = map (λ v. v.items) c.self.inside.contents.items in
    let files = c.self.inside.opened.items in
    let some : 0 < length files = some_open contents files (λ e. c.requires (sym (ap (λ s. s.unread) c.self.view_is) ∙ e)) in
    let last : (c.len-last.result - 1) + 1 ≡ length files = omega (arith, c.len-last.ensures, c.self.inside.opened.ok) in
    let same : c.index_mut.result.now ≡ c.index.result.now = c.index_mut.ensures.value ∙ get_or_default files (c.len-last.result - 1) _ _ (omega arith) ∙ sym c.index.ensures in
    let put = ap (λ place. set files (c.len-last.result - 1) (record { place = place; read = c.index.result.now.read + c.min-n.result })) (ap (λ file. file.place) same) in
    let unread = unread-read contents files (c.len-last.result - 1) c.index.result.now last c.index.ensures _ c.min-n.result put in
    (λ i. record { told = map (λ e. (e.0.items, get_or contents e.1 [])) c.self.inside.places.entries; unread = unread i }) ∙ ap (λ s. after_read s c.min-n.result) c.self.view_is
