use Rattle.std.proofs.Common.{◌≡◌, [], ◌∷◌, ◌++◌, None, sym, ◌∙◌, subst, refl}
use Rattle.std.specs.Map.{lookup}
use Rattle.indexmap.proofs.CallerLemmas.{insert_entry-new}
use Rattle.eo_term.specs.declared.nodes.Nodes.{Nodes}
use Rattle.eo_term.specs.Keys.{entries_of, IsNew, IsKept}
use Rattle.eo_term.specs.contracts.node.KeyPartialEq.TheImpl as key_eq
use Rattle.eo_term.proofs.Keys.{kept_more, entries_more, kept_same, entries_same, key_absent, kept_push, entries_push}
use Rattle.eo_term.proofs.Numbers.{on_err}
use Rattle.eo_term.proofs.nodes.Nodes.add.Goals as goal

pub returns-in_err-key-clause-kept : goal.returns-in_err-key-clause-kept
returns-in_err-key-clause-kept c = kept_more c.args.self.now c.make_key.new.self c.requires.kept c.make_key.ensures.more

pub returns-in_err-key-clause-err : goal.returns-in_err-key-clause-err
returns-in_err-key-clause-err c = on_err c.from_residual.result _ (entries_more c.args.self.now c.make_key.new.self c.requires.kept c.make_key.ensures.more)

pub returns-in_err-insert-clause-kept : goal.returns-in_err-insert-clause-kept
returns-in_err-insert-clause-kept c =
    let m : Nodes = c.make_key.new.self in
    let n : Nodes = record { keys = c.insert.new.self; literals = m.literals; lists = m.lists } in
    kept_same m n (kept_more c.args.self.now m c.requires.kept c.make_key.ensures.more) c.in_err-insert.ensures.err refl refl

pub returns-in_err-insert-clause-err : goal.returns-in_err-insert-clause-err
returns-in_err-insert-clause-err c =
    let m : Nodes = c.make_key.new.self in
    let n : Nodes = record { keys = c.insert.new.self; literals = m.literals; lists = m.lists } in
    on_err c.from_residual-in_err-insert.result _ (entries_same m n (kept_more c.args.self.now m c.requires.kept c.make_key.ensures.more) c.in_err-insert.ensures.err refl refl ∙ entries_more c.args.self.now m c.requires.kept c.make_key.ensures.more)

pub returns-clause-kept : goal.returns-clause-kept
returns-clause-kept c =
    let m : Nodes = c.make_key.new.self in
    let kept : IsKept m = kept_more c.args.self.now m c.requires.kept c.make_key.ensures.more in
    let new : IsNew (entries_of m) c.args.node c.args.args.items = subst (λ es. IsNew es c.args.node c.args.args.items) (sym (entries_more c.args.self.now m c.requires.kept c.make_key.ensures.more)) c.requires.absent in
    let none : lookup (key_eq.ghosts.eq c.in_ok-key.key) m.keys.entries ≡ None = key_absent m kept c.args.node c.args.args.items c.in_ok-key.key c.in_ok-key.ensures.key.0 new in
    let is : c.insert.new.self.entries ≡ m.keys.entries ++ (c.in_ok-key.key, c.args.info) ∷ [] = c.in_ok-insert.ensures.entries ∙ insert_entry-new key_eq.ghosts.eq m.keys c.in_ok-key.key c.args.info none in
    let n : Nodes = record { keys = c.insert.new.self; literals = m.literals; lists = m.lists } in
    kept_push m n kept c.in_ok-key.key c.args.info c.in_ok-key.ensures.key.1 is refl refl

pub returns-clause-ok : goal.returns-clause-ok
returns-clause-ok c =
    let m : Nodes = c.make_key.new.self in
    let kept : IsKept m = kept_more c.args.self.now m c.requires.kept c.make_key.ensures.more in
    let same : entries_of m ≡ entries_of c.args.self.now = entries_more c.args.self.now m c.requires.kept c.make_key.ensures.more in
    let new : IsNew (entries_of m) c.args.node c.args.args.items = subst (λ es. IsNew es c.args.node c.args.args.items) (sym same) c.requires.absent in
    let none : lookup (key_eq.ghosts.eq c.in_ok-key.key) m.keys.entries ≡ None = key_absent m kept c.args.node c.args.args.items c.in_ok-key.key c.in_ok-key.ensures.key.0 new in
    let is : c.insert.new.self.entries ≡ m.keys.entries ++ (c.in_ok-key.key, c.args.info) ∷ [] = c.in_ok-insert.ensures.entries ∙ insert_entry-new key_eq.ghosts.eq m.keys c.in_ok-key.key c.args.info none in
    let n : Nodes = record { keys = c.insert.new.self; literals = m.literals; lists = m.lists } in
    entries_push m n kept c.in_ok-key.key c.args.info c.in_ok-key.ensures.key.1 is refl refl
    ∙ (λ i. same i ++ (c.in_ok-key.ensures.key.0.root i, c.args.info) ∷ [])
