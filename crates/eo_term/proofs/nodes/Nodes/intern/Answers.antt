use Rattle.std.proofs.Common.{◌≡◌, ℕ, inl, inr, [], ◌∷◌, ◌++◌, length, None, Some, is_some, refl, sym, ap, ◌∙◌, subst}
use Rattle.eo_term.specs.declared.nodes.Nodes.{Nodes}
use Rattle.std.proofs.lemmas.Result.{IfOk-weaker}
use Rattle.indexmap.proofs.CallerLemmas.{insert_entry-new}
use Rattle.std.specs.Map.{lookup}
use Rattle.eo_term.specs.contracts.node.KeyPartialEq.TheImpl as key_eq
use Rattle.eo_term.specs.Keys.{entries_of, IsKept, IsPut, HasRootAt, IsNew}
use Rattle.eo_term.proofs.Keys.{kept_more, entries_more, kept_same, entries_same, length-entries, new_key, found_root, kept_push, entries_push}
use Rattle.eo_term.proofs.Numbers.{on_err, none_from_is_some}
use Rattle.eo_term.proofs.nodes.Nodes.intern.Goals as goal

pub returns-in_err-key-clause-kept : goal.returns-in_err-key-clause-kept
returns-in_err-key-clause-kept c = kept_more c.args.self.now c.key_of.new.self c.requires.kept c.key_of.ensures.more

pub returns-in_err-key-clause-err : goal.returns-in_err-key-clause-err
returns-in_err-key-clause-err c = on_err c.from_residual.result _ (entries_more c.args.self.now c.key_of.new.self c.requires.kept c.key_of.ensures.more)

pub returns-in_err-insert-in-None-clause-kept : goal.returns-in_err-insert-in-None-clause-kept
returns-in_err-insert-in-None-clause-kept c =
    let m : Nodes = c.key_of.new.self in
    let n : Nodes = record { keys = c.insert.new.self; literals = m.literals; lists = m.lists } in
    kept_same m n (kept_more c.args.self.now m c.requires.kept c.key_of.ensures.more) c.in_err-insert-in-None.ensures.err refl refl

pub returns-in_err-insert-in-None-clause-err : goal.returns-in_err-insert-in-None-clause-err
returns-in_err-insert-in-None-clause-err c =
    let m : Nodes = c.key_of.new.self in
    let n : Nodes = record { keys = c.insert.new.self; literals = m.literals; lists = m.lists } in
    on_err c.from_residual-in_err-insert-in-None.result _ (entries_same m n (kept_more c.args.self.now m c.requires.kept c.key_of.ensures.more) c.in_err-insert-in-None.ensures.err refl refl ∙ entries_more c.args.self.now m c.requires.kept c.key_of.ensures.more)

pub returns-in_err-number-in-None-clause-kept : goal.returns-in_err-number-in-None-clause-kept
returns-in_err-number-in-None-clause-kept c = kept_more c.args.self.now c.key_of.new.self c.requires.kept c.key_of.ensures.more

pub returns-in_err-number-in-None-clause-err : goal.returns-in_err-number-in-None-clause-err
returns-in_err-number-in-None-clause-err c = on_err c.from_residual-in_err-number-in-None.result _ (entries_more c.args.self.now c.key_of.new.self c.requires.kept c.key_of.ensures.more)

pub returns-in-Some-clause-kept : goal.returns-in-Some-clause-kept
returns-in-Some-clause-kept c = kept_more c.args.self.now c.key_of.new.self c.requires.kept c.key_of.ensures.more

pub returns-in-Some-clause-err : goal.returns-in-Some-clause-err
returns-in-Some-clause-err c = on_err c.number_of.result _ (entries_more c.args.self.now c.key_of.new.self c.requires.kept c.key_of.ensures.more)

pub returns-in-Some-clause-ok : goal.returns-in-Some-clause-ok
returns-in-Some-clause-ok c =
    let m : Nodes = c.key_of.new.self in
    let kept : IsKept m = kept_more c.args.self.now m c.requires.kept c.key_of.ensures.more in
    let same : entries_of m ≡ entries_of c.args.self.now = entries_more c.args.self.now m c.requires.kept c.key_of.ensures.more in
    let found = found_root m kept c.args.node.now c.args.args.now c.in_ok-key.key c.in_ok-key.ensures.key.0 (Some c.in-Some.at) (sym c.in-Some.is ∙ c.get_index_of.ensures.index) in
    let P : ℕ → Type 0 = λ i. IsPut (entries_of c.args.self.now) c.args.node.now c.args.args.now c.args.info i (entries_of m) in
    let put : P c.in-Some.at = inl (subst (λ es. HasRootAt es c.in-Some.at c.args.node.now c.args.args.now) same found, same) in
    IfOk-weaker c.number_of.result (λ i. i ≡ c.in-Some.at) P (λ i e. subst P (sym e) put) c.number_of.ensures

pub returns-in_ok-insert-in-None-clause-kept : goal.returns-in_ok-insert-in-None-clause-kept
returns-in_ok-insert-in-None-clause-kept c =
    let m : Nodes = c.key_of.new.self in
    let kept : IsKept m = kept_more c.args.self.now m c.requires.kept c.key_of.ensures.more in
    let n : Nodes = record { keys = c.insert.new.self; literals = m.literals; lists = m.lists } in
    let none : lookup (key_eq.ghosts.eq c.in_ok-key.key) m.keys.entries ≡ None = none_from_is_some {B = ℕ} (lookup (key_eq.ghosts.eq c.in_ok-key.key) m.keys.entries) None (sym (ap is_some (sym c.in-None.is) ∙ c.get_index_of.ensures.found)) (λ i. None) in
    let is : c.insert.new.self.entries ≡ m.keys.entries ++ (c.in_ok-key.key, c.args.info) ∷ [] = c.in_ok-insert-in-None.ensures.entries ∙ insert_entry-new key_eq.ghosts.eq m.keys c.in_ok-key.key c.args.info none in
    kept_push m n kept c.in_ok-key.key c.args.info c.in_ok-key.ensures.key.1 is refl refl

pub returns-in_ok-insert-in-None-clause-ok : goal.returns-in_ok-insert-in-None-clause-ok
returns-in_ok-insert-in-None-clause-ok c =
    let m : Nodes = c.key_of.new.self in
    let kept : IsKept m = kept_more c.args.self.now m c.requires.kept c.key_of.ensures.more in
    let same : entries_of m ≡ entries_of c.args.self.now = entries_more c.args.self.now m c.requires.kept c.key_of.ensures.more in
    let n : Nodes = record { keys = c.insert.new.self; literals = m.literals; lists = m.lists } in
    let none : lookup (key_eq.ghosts.eq c.in_ok-key.key) m.keys.entries ≡ None = none_from_is_some {B = ℕ} (lookup (key_eq.ghosts.eq c.in_ok-key.key) m.keys.entries) None (sym (ap is_some (sym c.in-None.is) ∙ c.get_index_of.ensures.found)) (λ i. None) in
    let is : c.insert.new.self.entries ≡ m.keys.entries ++ (c.in_ok-key.key, c.args.info) ∷ [] = c.in_ok-insert-in-None.ensures.entries ∙ insert_entry-new key_eq.ghosts.eq m.keys c.in_ok-key.key c.args.info none in
    inr (record {
      new = subst (λ es. IsNew es c.args.node.now c.args.args.now) same (new_key m kept c.args.node.now c.args.args.now c.in_ok-key.key c.in_ok-key.ensures.key.0 none);
      last = c.in_ok-number-in-None.ensures ∙ c.len.ensures.len ∙ sym (length-entries m) ∙ ap length same;
      entries = entries_push m n kept c.in_ok-key.key c.args.info c.in_ok-key.ensures.key.1 is refl refl ∙ (λ i. same i ++ (c.in_ok-key.ensures.key.0.root i, c.args.info) ∷ []);
    })
