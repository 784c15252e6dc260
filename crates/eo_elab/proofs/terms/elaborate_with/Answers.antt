use Rattle.std.proofs.Common.{◌≡◌, length, subst, rules}
use Rattle.eo_names.specs.declared.scope.Scope.{Scope, the_lemmas}
use Rattle.eo_names.specs.declared.scope.Scope.TheVariants as scopes
use Rattle.eo_names.specs.Ready.{IsReady}
use Rattle.eo_names.specs.Scopes.{bound_in, file_kind_in, read_file_kind}
use Rattle.eo_names.specs.Worlds.{World, world_of}
use Rattle.eo_elab.specs.Gives.{GivesTerm}
use Rattle.eo_elab.specs.Worlds.{term_in, in_file_kind, named_terms_in}
use Rattle.eo_elab.proofs.terms.elaborate_with.Goals as goal

pub elaborate-requires : goal.elaborate-requires
elaborate-requires c = record {
  ready = subst (λ ls. IsReady (length c.args.table.now.trees) c.args.sig.now ls) (search (rules, the_lemmas)) c.requires.ready;
  named_terms = c.requires.named_terms;
}

pub returns-clause-gives : goal.returns-clause-gives
returns-clause-gives c =
    let scope : Scope = scopes.Outer c.args.locals c.args.file_kind in
    let names : bound_in scope ≡ c.args.locals.now = search (rules, the_lemmas) in
    let at : file_kind_in scope ≡ read_file_kind c.args.file_kind = search (rules, the_lemmas) in
    subst (λ (u : World). GivesTerm c.elaborate.new.table c.elaborate.new.named_terms c.elaborate.result (term_in u c.args.s.now (named_terms_in c.args.table.now c.args.named_terms.now)))
    (λ i. in_file_kind (at i) (world_of c.args.table.now c.args.sig.now (names i))) c.elaborate.ensures.gives

pub returns-clause-keeps : goal.returns-clause-keeps
returns-clause-keeps c =
    let v = c.names_law.ensures.stays c.args.sig.now c.args.locals.now c.args.table.now c.elaborate.new.table c.requires.ready c.elaborate.ensures.grows in
    record { context = λ i. (v.world i).names; names = λ i. (v.world i).locals; ready = v.ready }
