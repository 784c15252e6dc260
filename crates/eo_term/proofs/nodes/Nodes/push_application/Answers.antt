use Rattle.std.proofs.Common.{◌≡◌, inr, [], ◌∷◌, ◌++◌, None, refl, sym, ◌∙◌}
use Rattle.std.specs.Map.{lookup}
use Rattle.indexmap.proofs.CallerLemmas.{insert_entry-new}
use Rattle.eo_term.specs.declared.nodes.Nodes.{Nodes}
use Rattle.eo_term.specs.declared.node.Key.{Key}
use Rattle.eo_term.specs.declared.node.Node.TheVariants as node
use Rattle.eo_term.specs.declared.node.Key.TheVariants as key
use Rattle.eo_term.specs.contracts.node.KeyPartialEq.TheImpl as key_eq
use Rattle.eo_term.proofs.Keys.{application_key, key_absent, length-entries, kept_push, entries_push}
use Rattle.eo_term.proofs.nodes.Nodes.push_application.Goals as goal

pub returns-clause-kept : goal.returns-clause-kept
returns-clause-kept c =
    let m : Nodes = c.args.self.now in
    let k : Key = key.App c.args.fun c.args.arg in
    let none : lookup (key_eq.ghosts.eq k) m.keys.entries ≡ None = key_absent m c.requires.kept (node.App c.args.fun c.args.arg) [] k (application_key m c.args.fun c.args.arg) c.requires.absent in
    let is : c.insert.new.self.entries ≡ m.keys.entries ++ (k, c.args.info) ∷ [] = c.in_ok-insert.ensures.entries ∙ insert_entry-new key_eq.ghosts.eq m.keys k c.args.info none in
    let n : Nodes = record { keys = c.insert.new.self; literals = m.literals; lists = m.lists } in
    kept_push m n c.requires.kept k c.args.info tt is refl refl

pub returns-clause-ok : goal.returns-clause-ok
returns-clause-ok c =
    let m : Nodes = c.args.self.now in
    let k : Key = key.App c.args.fun c.args.arg in
    let none : lookup (key_eq.ghosts.eq k) m.keys.entries ≡ None = key_absent m c.requires.kept (node.App c.args.fun c.args.arg) [] k (application_key m c.args.fun c.args.arg) c.requires.absent in
    let is : c.insert.new.self.entries ≡ m.keys.entries ++ (k, c.args.info) ∷ [] = c.in_ok-insert.ensures.entries ∙ insert_entry-new key_eq.ghosts.eq m.keys k c.args.info none in
    let n : Nodes = record { keys = c.insert.new.self; literals = m.literals; lists = m.lists } in
    inr (record {
      new = c.requires.absent;
      last = c.in_ok-number.ensures ∙ c.len.ensures.len ∙ sym (length-entries m);
      entries = entries_push m n c.requires.kept k c.args.info tt is refl refl;
    })
