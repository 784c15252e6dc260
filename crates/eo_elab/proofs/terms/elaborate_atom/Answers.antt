use Rattle.std.proofs.Common.{◌≡◌, length, subst, rules}
use Rattle.eo_names.specs.declared.scope.Scope.{Scope, the_lemmas}
use Rattle.eo_names.specs.declared.scope.Scope.TheVariants as scopes
use Rattle.eo_names.specs.Gives.{GivesTree}
use Rattle.eo_names.specs.Ready.{IsReady}
use Rattle.eo_names.specs.Scopes.{bound_in, file_kind_in, read_file_kind}
use Rattle.eo_names.specs.Worlds.{World, world_of}
use Rattle.eo_elab.specs.Gives.{atom_told}
use Rattle.eo_elab.specs.Worlds.{in_file_kind}
use Rattle.eo_elab.proofs.terms.elaborate_atom.Goals as goal

pub atom-requires : goal.atom-requires
atom-requires c = subst (λ ls. IsReady (length c.args.table.now.trees) c.args.sig.now ls) (search (rules, the_lemmas)) c.requires.ready

pub returns-clause-gives : goal.returns-clause-gives
returns-clause-gives c =
    let scope : Scope = scopes.Outer c.args.locals c.args.file_kind in
    let names : bound_in scope ≡ c.args.locals.now = search (rules, the_lemmas) in
    let at : file_kind_in scope ≡ read_file_kind c.args.file_kind = search (rules, the_lemmas) in
    subst (λ (u : World). GivesTree c.atom.new.table c.atom.result (atom_told u c.args.kind c.args.text.now))
    (λ i. in_file_kind (at i) (world_of c.args.table.now c.args.sig.now (names i))) c.atom.ensures.gives

pub returns-clause-keeps : goal.returns-clause-keeps
returns-clause-keeps c =
    let v = c.names_law.ensures.stays c.args.sig.now c.args.locals.now c.args.table.now c.atom.new.table c.requires.ready c.atom.ensures.grows in
    record { context = λ i. (v.world i).names; names = λ i. (v.world i).locals; ready = v.ready }
