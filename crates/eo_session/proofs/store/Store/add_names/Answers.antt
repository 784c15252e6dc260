use Rattle.std.proofs.Common.{◌≡◌, ◌+◌, suc, drop, sym, ap, subst, ◌∙◌, add-one}
use Rattle.eo_elab.specs.Worlds.{named_terms_in}
use Rattle.eo_names.specs.Names.{Binding}
use Rattle.eo_term.specs.Terms.{Terms}
use Rattle.eo_session.specs.Asserting.{MayBeName, MayBeNames}
use Rattle.eo_session.specs.Store.{state_of}
use Rattle.eo_session.specs.State.{State, with_macro}
use Rattle.eo_session.specs.Step.{named_term_macro, with_named_terms}
use Rattle.eo_session.proofs.Assertions.{named_term_of, next_named_term, one_labelled}
use Rattle.eo_session.proofs.store.Store.add_names.Goals as goal

pub add_name-requires-clause-new : goal.add_name-requires-clause-new
add_name-requires-clause-new c =
    let t = c.args.self.now.table in
    let st = state_of c.loop-i.self in
    let b : Binding = (c.get-tree.result.0.now, c.get-tree.result.1) in
    let next = next_named_term t c.args.names.now c.loop-i.i b c.get-tree.ensures in
    let may : MayBeName st (named_term_of t b) = (subst (MayBeNames st) next c.loop-i.invariant.may).0 in
    subst (λ (t : Terms). MayBeName st (named_term_of t b)) (sym c.loop-i.invariant.table) may

pub loop-i-preserved : goal.loop-i-preserved
loop-i-preserved c =
    let t = c.args.self.now.table in
    let i = c.loop-i.i in
    let st = state_of c.loop-i.self in
    let named_terms = named_terms_in t c.args.names.now in
    let b : Binding = (c.get-tree.result.0.now, c.get-tree.result.1) in
    let next = next_named_term t c.args.names.now i b c.get-tree.ensures in
    let own : with_macro st (named_term_macro (named_term_of t b)) ≡ state_of c.add_name.new.self =
    ap (λ (t : Terms). with_macro st (named_term_macro (named_term_of t b))) (sym c.loop-i.invariant.table) ∙ sym c.in_ok-add_name.ensures.updates in
    let rest = (subst (MayBeNames st) next c.loop-i.invariant.may).1 in
    record {
      whole = c.in_ok-add_name.ensures.whole;
      table = c.in_ok-add_name.ensures.table ∙ c.loop-i.invariant.table;
      kept = c.in_ok-add_name.ensures.kept ∙ c.loop-i.invariant.kept;
      left =
          (λ j. with_named_terms (sym own j) (drop (add-one i j) named_terms))
          ∙ one_labelled st (named_term_of t b) (drop (suc i) named_terms)
          ∙ ap (with_named_terms st) (sym next)
          ∙ c.loop-i.invariant.left;
      may =
          subst (λ (z : State). MayBeNames z (drop (i + 1) named_terms)) own
          (subst (λ n. MayBeNames (with_macro st (named_term_macro (named_term_of t b))) (drop n named_terms)) (sym (add-one i)) rest);
    }
