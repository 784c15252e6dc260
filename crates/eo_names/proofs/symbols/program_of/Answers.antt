use Rattle.std.proofs.Common.{◌≡◌, length, ap, sym, ◌∙◌, map, arith}
use Rattle.std.specs.Prelude.{Option, option_map}
use Rattle.std.proofs.lemmas.List.{length-map}
use Rattle.eo_term.specs.declared.OpCode.{OpCode}
use Rattle.eo_term.specs.Terms.{tree_at}
use Rattle.eo_sig.specs.Signature as sig
use Rattle.eo_names.specs.Meanings.{AnOperator, or_nothing}
use Rattle.eo_names.proofs.symbols.program_of.Goals as goal

pub returns-clause-value : goal.returns-clause-value
returns-clause-value c = λ ts.
    let d = c.program-program.result.now in
    let count : length c.as_slice.result.now ≡ length (map (tree_at ts) d.inputs) = ap length c.as_slice.ensures ∙ sym (length-map d.inputs (tree_at ts)) in
    (λ i. AnOperator (OpCode.Prog c.args.n) (count i)) ∙ ap (λ (o : Option sig.Program). or_nothing (option_map (λ (p : sig.Program). AnOperator (OpCode.Prog c.args.n) (length p.inputs)) o)) (sym (c.program-program.ensures.value ts))

pub returns-clause-live : goal.returns-clause-live
returns-clause-live c = λ m h. let few = (c.program-program.ensures.below m h).few in omega (arith, few, ap length c.as_slice.ensures)
