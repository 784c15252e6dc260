use Rattle.std.proofs.Common.{◌≡◌, length, map, ap, sym, subst, ◌∙◌}
use Rattle.std.proofs.lemmas.List.{length-map}
use Rattle.eo_term.specs.Terms.{tree_at}
use Rattle.eo_sig.specs.Reading.{read_program}
use Rattle.eo_names.specs.Contexts.{InProof, Several}
use Rattle.eo_names.specs.Names.{read_locals}
use Rattle.eo_declare.specs.Declarations.{declared_cases, with_program}
use Rattle.eo_declare.specs.Gives.{GivesCases}
use Rattle.eo_elab.specs.Worlds.{context_in}
use Rattle.eo_declare.proofs.programs.own_cases.Goals as goal

pub elaborate_cases-requires : goal.elaborate_cases-requires
elaborate_cases-requires c =
    record { ready = record { below = c.with_program-view.ensures.below (length c.args.table.now.trees) c.requires.ready.below c.requires.head; names = c.requires.ready.names } }

pub returns-clause-gives : goal.returns-clause-gives
returns-clause-gives c =
    let t = c.args.table.now in
    let a = c.with_program-view.ensures.adds t.trees in
    let seen : context_in t c.with_program-view.result ≡ with_program (context_in t c.args.sig.now) (read_program t.trees c.args.head.now) = λ i. record { signature = a.signature i; macros = a.macros i; file_kind = InProof; naming = Several } in
    let count : length c.as_slice-inputs.result.now ≡ length (map (tree_at t.trees) c.args.head.now.inputs) = ap length c.as_slice-inputs.ensures ∙ sym (length-map c.args.head.now.inputs (tree_at t.trees)) in
    subst (GivesCases c.elaborate_cases.new.table c.elaborate_cases.result) (λ i. declared_cases (seen i) (read_locals t.trees c.args.locals.now) (count i) c.args.cases.now) c.elaborate_cases.ensures.gives
