use Rattle.std.proofs.Common.{◌++◌, ap, sym, ◌∙◌, arith}
use Rattle.eo_base.proofs.Answering.{tells_on}
use Rattle.eo_term.proofs.Growing.{grows_on}
use Rattle.eo_term.specs.Growth.{trees_in}
use Rattle.eo_names.specs.Names.{bound_by}
use Rattle.eo_names.specs.Readers.{go_on}
use Rattle.eo_names.specs.Refused.{told}
use Rattle.eo_names.specs.Scopes.{bound_in}
use Rattle.eo_names.specs.Usage.{made_of}
use Rattle.eo_elab.specs.Waiting.{inside, arguments_after}
use Rattle.eo_elab.specs.Worlds.{named_terms_in, all_in}
use Rattle.eo_elab.proofs.Finishing.{goes_on, goes_fault, arguments_grown}
use Rattle.eo_elab.proofs.walk.arguments.next_argument.Goals as goal

pub returns-in_err-left-clause-gives : goal.returns-in_err-left-clause-gives
returns-in_err-left-clause-gives c =
    let old = c.args.table.now in
    let w = inside old c.args.sig.now c.args.scope.now c.args.blocks.now in
    let here = named_terms_in old c.args.named_terms.now in
    let given = trees_in old c.args.before in
    goes_fault _ _ _ _ _ _ _ _ _ _ _ _ c.from_residual.ensures.1
    (tells_on told _ (arguments_after w old.trees c.args.used.now given c.args.rest.now here) (all_in w given c.args.rest.now here) (λ f e. ap (go_on (made_of old.trees w.names w.locals c.args.used.now)) e) (c.in_err-left.ensures.gives here))

pub returns-clause-gives : goal.returns-clause-gives
returns-clause-gives c =
    let k = c.args.sig.now in
    let s = c.args.scope.now in
    let b = c.args.blocks.now in
    let old = c.args.table.now in
    let new = c.read_atoms.new.table in
    let w = inside old k s b in
    let here = named_terms_in old c.args.named_terms.now in
    let read = c.in_ok-left.ensures.gives in
    let u = c.args.used.now in
    let less = read.less in
    goes_on _ _ _ _ _ _ _ _ _ _ _ _ _
    (ap (go_on (made_of old.trees w.names w.locals u)) (read.is here) ∙ sym (arguments_grown k s old new c.read_atoms.ensures.grows (λ ls. c.names_law.ensures.stays k ls) c.names_law.ensures.uses b u c.args.named_terms.now (trees_in new c.read_atoms.new.ids) c.in_ok-left.left c.requires.below c.requires.named_terms c.requires.ready))
    (omega (arith, less)) c.use_or_wait.ensures.gives

pub use_or_wait-requires-clause-ready : goal.use_or_wait-requires-clause-ready
use_or_wait-requires-clause-ready c =
    (c.names_law.ensures.stays c.args.sig.now (bound_by c.args.blocks.now ++ bound_in c.args.scope.now) c.args.table.now c.read_atoms.new.table c.requires.ready c.read_atoms.ensures.grows).ready

pub returns-clause-grows : goal.returns-clause-grows
returns-clause-grows c = grows_on c.args.table.now c.read_atoms.new.table c.use_or_wait.new.table c.read_atoms.ensures.grows c.use_or_wait.ensures.grows
