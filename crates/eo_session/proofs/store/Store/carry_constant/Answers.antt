use Rattle.std.proofs.Common.{◌≡◌, ◌<◌, ℕ, List, [], ◌∷◌, ◌++◌, length, map, drop, get_or, All, Contains, sym, subst, ap, ◌∙◌, arith}
use Rattle.std.proofs.lemmas.List.Elements.{All-cons, All-head, All-tail, Contains-get_or}
use Rattle.eo_base.proofs.Elements.{ids_more}
use Rattle.eo_term.specs.Tree.{Tree, Con}
use Rattle.eo_term.specs.Growth.{tree_in}
use Rattle.eo_session.specs.Store.{HoldsOnly}
use Rattle.eo_reclaim.specs.Moving.{constant_ids}
use Rattle.eo_reclaim.specs.Trees.{constant_trees}
use Rattle.eo_reclaim.proofs.Moved.{constant_read, constant_terms, constant_carried}
use Rattle.eo_session.proofs.Reclaiming.{carried_long}
use Rattle.eo_session.proofs.store.Store.carry_constant.Goals as goal

pub carry_list-requires-clause-live : goal.carry_list-requires-clause-live
carry_list-requires-clause-live c =
    let i = c.in_ok-constant.constant in
    let told = c.in_ok-constant.ensures in
    let n = length c.args.self.now.table.trees in
    let m = length c.next_constant.new.self.table.trees in
    let is : c.push_constant.new.ids.items ≡ i ∷ constant_ids c.args.d.now = c.in_ok-push_constant.ensures ∙ ap (λ (xs : List ℕ). xs ++ constant_ids c.args.d.now) (c.in_ok-push.ensures.items ∙ ap (λ (xs : List ℕ). xs ++ i ∷ []) c.new-ids.ensures.items) in
    subst (All (λ (j : ℕ). j < m)) (sym is) (All-cons (λ (j : ℕ). j < m) i (constant_ids c.args.d.now) told.term.live (ids_more n m told.keeps.grows.now.more_trees (constant_ids c.args.d.now) (constant_terms n c.args.d.now c.requires.below)))

pub next-requires : goal.next-requires
next-requires c =
    let i = c.in_ok-constant.constant in
    let is : c.push_constant.new.ids.items ≡ i ∷ constant_ids c.args.d.now = c.in_ok-push_constant.ensures ∙ ap (λ (xs : List ℕ). xs ++ constant_ids c.args.d.now) (c.in_ok-push.ensures.items ∙ ap (λ (xs : List ℕ). xs ++ i ∷ []) c.new-ids.ensures.items) in
    omega (arith, carried_long c.next_constant.new.self c.carry_list.new.self c.push_constant.new.ids.items c.in_ok-left.left c.in_ok-left.ensures, ap length is)

pub move_constant-requires : goal.move_constant-requires
move_constant-requires c =
    let i = c.in_ok-constant.constant in
    let is : c.push_constant.new.ids.items ≡ i ∷ constant_ids c.args.d.now = c.in_ok-push_constant.ensures ∙ ap (λ (xs : List ℕ). xs ++ constant_ids c.args.d.now) (c.in_ok-push.ensures.items ∙ ap (λ (xs : List ℕ). xs ++ i ∷ []) c.new-ids.ensures.items) in
    omega (arith, carried_long c.next_constant.new.self c.carry_list.new.self c.push_constant.new.ids.items c.in_ok-left.left c.in_ok-left.ensures, ap length is, ap length c.next.ensures)

pub returns-clause-leaves : goal.returns-clause-leaves
returns-clause-leaves c =
    let h = c.args.self.now in
    let first = c.next_constant.new.self in
    let mid = c.carry_list.new.self in
    let i = c.in_ok-constant.constant in
    let told = c.in_ok-constant.ensures in
    let k = c.in_ok-left.ensures.leaves in
    let lasts = c.laws.ensures h.table first.table c.requires.below told.keeps.grows.now in
    let is : c.push_constant.new.ids.items ≡ i ∷ constant_ids c.args.d.now = c.in_ok-push_constant.ensures ∙ ap (λ (xs : List ℕ). xs ++ constant_ids c.args.d.now) (c.in_ok-push.ensures.items ∙ ap (λ (xs : List ℕ). xs ++ i ∷ []) c.new-ids.ensures.items) in
    record {
      whole = k.whole;
      same = k.same ∙ told.keeps.same;
      signature = k.signature ∙ told.keeps.signature;
      only =
          subst (λ (us : List Tree). HoldsOnly us mid)
          (ap (map (tree_in first.table)) is ∙ (λ j. told.term.tree j ∷ (constant_read first.table.trees c.args.d.now ∙ ap constant_trees lasts) j)) k.only;
    }

pub returns-clause-read : goal.returns-clause-read
returns-clause-read c =
    let h = c.args.self.now in
    let first = c.next_constant.new.self in
    let mid = c.carry_list.new.self in
    let n = length mid.table.trees in
    let i = c.in_ok-constant.constant in
    let told = c.in_ok-constant.ensures in
    let k = c.in_ok-left.ensures in
    let lasts = c.laws.ensures h.table first.table c.requires.below told.keeps.grows.now in
    let is : c.push_constant.new.ids.items ≡ i ∷ constant_ids c.args.d.now = c.in_ok-push_constant.ensures ∙ ap (λ (xs : List ℕ). xs ++ constant_ids c.args.d.now) (c.in_ok-push.ensures.items ∙ ap (λ (xs : List ℕ). xs ++ i ∷ []) c.new-ids.ensures.items) in
    let same = ap (map (tree_in mid.table)) (sym c.next.ensures) ∙ k.trees ∙ ap (map (tree_in first.table)) is in
    let low = All-tail (λ (j : ℕ). j < n) c.next.result c.next.new.self (subst (All (λ (j : ℕ). j < n)) c.next.ensures k.below) in
    (constant_carried mid.table.trees first.table.trees n n c.next.new.self c.move_constant.new.ids low c.args.d.now c.move_constant.new.d c.in_ok-move_constant.ensures (ap (drop 1) same)).0 ∙ lasts

pub returns-clause-below : goal.returns-clause-below
returns-clause-below c =
    let first = c.next_constant.new.self in
    let mid = c.carry_list.new.self in
    let n = length mid.table.trees in
    let i = c.in_ok-constant.constant in
    let k = c.in_ok-left.ensures in
    let is : c.push_constant.new.ids.items ≡ i ∷ constant_ids c.args.d.now = c.in_ok-push_constant.ensures ∙ ap (λ (xs : List ℕ). xs ++ constant_ids c.args.d.now) (c.in_ok-push.ensures.items ∙ ap (λ (xs : List ℕ). xs ++ i ∷ []) c.new-ids.ensures.items) in
    let same = ap (map (tree_in mid.table)) (sym c.next.ensures) ∙ k.trees ∙ ap (map (tree_in first.table)) is in
    let low = All-tail (λ (j : ℕ). j < n) c.next.result c.next.new.self (subst (All (λ (j : ℕ). j < n)) c.next.ensures k.below) in
    (constant_carried mid.table.trees first.table.trees n n c.next.new.self c.move_constant.new.ids low c.args.d.now c.move_constant.new.d c.in_ok-move_constant.ensures (ap (drop 1) same)).1

pub returns-clause-itself : goal.returns-clause-itself
returns-clause-itself c =
    let first = c.next_constant.new.self in
    let mid = c.carry_list.new.self in
    let n = length mid.table.trees in
    let i = c.in_ok-constant.constant in
    let k = c.in_ok-left.ensures in
    let is : c.push_constant.new.ids.items ≡ i ∷ constant_ids c.args.d.now = c.in_ok-push_constant.ensures ∙ ap (λ (xs : List ℕ). xs ++ constant_ids c.args.d.now) (c.in_ok-push.ensures.items ∙ ap (λ (xs : List ℕ). xs ++ i ∷ []) c.new-ids.ensures.items) in
    let same = ap (map (tree_in mid.table)) (sym c.next.ensures) ∙ k.trees ∙ ap (map (tree_in first.table)) is in
    let low = All-head (λ (j : ℕ). j < n) c.next.result c.next.new.self (subst (All (λ (j : ℕ). j < n)) c.next.ensures k.below) in
    subst (Contains mid.table.trees) (ap (λ (us : List Tree). get_or us 0 (Con 0)) same ∙ c.in_ok-constant.ensures.term.tree) (Contains-get_or mid.table.trees c.next.result (Con 0) low)
