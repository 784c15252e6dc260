use Rattle.std.proofs.Common.{◌<◌, ℕ, List, ◌∷◌, length, map, drop, get_or, All, sym, subst, ap, ◌∙◌, arith}
use Rattle.std.proofs.lemmas.List.{length-map}
use Rattle.std.proofs.lemmas.List.Elements.{All-cons, All-head, All-tail, All-map}
use Rattle.eo_names.specs.Names.{Binding}
use Rattle.eo_term.specs.Tree.{Tree, Con}
use Rattle.eo_term.specs.Growth.{tree_in}
use Rattle.eo_session.specs.Store.{Leaves}
use Rattle.eo_session.proofs.Reclaiming.{carried_long, named_terms_trees, named_terms_moved, bindings_below}
use Rattle.eo_session.proofs.store.Store.carry_named.Goals as goal

pub carry_list-requires-clause-live : goal.carry_list-requires-clause-live
carry_list-requires-clause-live c =
    let n = length c.args.self.now.table.trees in
    let bs = c.args.names.now in
    subst (All (λ (j : ℕ). j < n)) (sym c.in_ok-ids.ensures)
    (All-cons (λ (j : ℕ). j < n) c.args.value (map (λ (b : Binding). b.1) bs) c.requires.live (All-map (λ (j : ℕ). j < n) (λ (b : Binding). b.1) bs c.requires.below))

pub next-carried-requires : goal.next-carried-requires
next-carried-requires c =
    omega (arith, carried_long c.args.self.now c.carry_list.new.self c.in_ok-ids.ids.items c.in_ok-left.left c.in_ok-left.ensures, ap length c.in_ok-ids.ensures)

pub set_terms-requires : goal.set_terms-requires
set_terms-requires c =
    let bs = c.args.names.now in
    omega (arith, carried_long c.args.self.now c.carry_list.new.self c.in_ok-ids.ids.items c.in_ok-left.left c.in_ok-left.ensures, ap length c.in_ok-ids.ensures, ap length c.next-carried.ensures, ap length c.rest.ensures, length-map bs (λ (b : Binding). b.1))

pub returns-clause-leaves : goal.returns-clause-leaves
returns-clause-leaves c =
    let h = c.args.self.now in
    subst (λ (us : List Tree). Leaves h us c.carry_list.new.self) (ap (map (tree_in h.table)) c.in_ok-ids.ensures ∙ ap (λ (us : List Tree). tree_in h.table c.args.value ∷ us) (named_terms_trees h.table c.args.names.now)) c.in_ok-left.ensures.leaves

pub returns-clause-value : goal.returns-clause-value
returns-clause-value c =
    let h = c.args.self.now in
    let mid = c.carry_list.new.self in
    let n = length mid.table.trees in
    let k = c.in_ok-left.ensures in
    let same = ap (map (tree_in mid.table)) (sym c.next-carried.ensures) ∙ k.trees ∙ ap (map (tree_in h.table)) c.in_ok-ids.ensures in
    record {
      live = All-head (λ (j : ℕ). j < n) c.next-carried.result c.next-carried.new.self (subst (All (λ (j : ℕ). j < n)) c.next-carried.ensures k.below);
      tree = ap (λ (us : List Tree). get_or us 0 (Con 0)) same;
    }

pub returns-clause-names : goal.returns-clause-names
returns-clause-names c =
    let h = c.args.self.now in
    let mid = c.carry_list.new.self in
    let k = c.in_ok-left.ensures in
    let same = ap (map (tree_in mid.table)) (sym c.next-carried.ensures) ∙ k.trees ∙ ap (map (tree_in h.table)) c.in_ok-ids.ensures in
    named_terms_moved h.table mid.table c.args.names.now c.set_terms.new.names c.set_terms.ensures.names (ap (map (tree_in mid.table)) (c.set_terms.ensures.terms ∙ c.rest.ensures) ∙ ap (drop 1) same)

pub returns-clause-below : goal.returns-clause-below
returns-clause-below c =
    let n = length c.carry_list.new.self.table.trees in
    let k = c.in_ok-left.ensures in
    let low = All-tail (λ (j : ℕ). j < n) c.next-carried.result c.next-carried.new.self (subst (All (λ (j : ℕ). j < n)) c.next-carried.ensures k.below) in
    bindings_below n c.set_terms.new.names (subst (All (λ (j : ℕ). j < n)) (sym (c.set_terms.ensures.terms ∙ c.rest.ensures)) low)
