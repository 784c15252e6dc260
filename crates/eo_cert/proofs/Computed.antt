-- The definitions that a vector computes with.
use Rattle.std.specs.Prelude.{ℕ}
use Rattle.eo_base.specs.Checks as BaseChecks
use Rattle.eo_base.specs.Faults as BaseFaults
use Rattle.eo_base.specs.Limits as BaseLimits
use Rattle.eo_sexp.specs.Commands as SexpCommands
use Rattle.eo_sexp.specs.Lexicon as SexpLexicon
use Rattle.eo_sexp.specs.Texts as SexpTexts
use Rattle.eo_lit.specs.Literals as LitLiterals
use Rattle.eo_shape.specs.Shapes as Shapes
use Rattle.eo_elab.specs.Meaning as ElabMeaning
use Rattle.eo_term.specs.Operators as ElabOperators
use Rattle.eo_names.specs.Folding as ElabFolding
use Rattle.eo_declare.specs.Declarations as DeclareDeclarations
use Rattle.eo_proof.specs.Scopes as ProofScopes
use Rattle.eo_rule.specs.Uses as RuleUses
use Rattle.eo_session.specs.State as SessionState
use Rattle.eo_session.specs.Step as SessionStep
use Rattle.eo_session.specs.Commands as SessionCommands
use Rattle.eo_lines.specs.Forms as CertForms
use Rattle.eo_cert.specs.Stated as CertStated
use Rattle.eo_cert.specs.Terms as CertTerms
use Rattle.eo_cert.specs.Blocks as CertBlocks
use Rattle.eo_cert.specs.Uses as CertUses
use Rattle.eo_cert.specs.Recheck as CertRecheck

unfoldable pub computed : ℕ
unfolding BaseChecks.◌>>=◌ BaseChecks.require BaseChecks.no_fault BaseChecks.value_or BaseFaults.number BaseLimits.limits BaseLimits.open_calls_limit SexpCommands.◌>>=◌ SexpCommands.comes_first SexpCommands.at_most SexpCommands.span SexpCommands.delimited_atom SexpCommands.delimited SexpCommands.word_before SexpCommands.word SexpCommands.front SexpCommands.prepend SexpCommands.and_others SexpCommands.listed SexpCommands.opened SexpCommands.atom SexpCommands.turn SexpCommands.children SexpCommands.lists SexpCommands.sexp SexpCommands.command SexpLexicon.is_space SexpLexicon.is_line_end SexpLexicon.is_text SexpLexicon.is_quotable SexpLexicon.is_word SexpLexicon.class SexpLexicon.advance SexpLexicon.pass_byte SexpLexicon.pass SexpLexicon.skip SexpLexicon.string_byte SexpLexicon.string_turn SexpLexicon.string SexpLexicon.bar_at SexpLexicon.quoted SexpLexicon.begins_digit SexpLexicon.kind_of SexpTexts.after SexpTexts.hold SexpTexts.behind SexpTexts.begins_one_of SexpTexts.is_unsat SexpTexts.begins_pair SexpTexts.stripped SexpTexts.strip SexpTexts.end_of SexpTexts.is_extra SexpTexts.last_atom SexpTexts.known SexpTexts.decided SexpTexts.from_token SexpTexts.from_front SexpTexts.answer SexpTexts.so_far SexpTexts.next_from SexpTexts.next_spot SexpTexts.spot_after SexpTexts.placed SexpTexts.read_next SexpTexts.reads_from SexpTexts.reads_all SexpTexts.reads_file LitLiterals.literal_value LitLiterals.string_value LitLiterals.string_bytes Shapes.command_of SessionState.first_state SessionState.begin_reference SessionState.end_fault SessionStep.evaluated SessionStep.value SessionStep.type_value SessionStep.formula_of SessionStep.formula SessionStep.added_constant SessionStep.typed_constant SessionStep.added_macro SessionStep.define_program SessionStep.declare_rule SessionStep.assume SessionStep.assume_push SessionStep.assert SessionStep.values SessionStep.premises SessionStep.use_of SessionStep.concluded_by SessionStep.concluded SessionStep.step_plain SessionStep.step_pop SessionCommands.path_of SessionCommands.reference_path SessionCommands.next_by SessionCommands.scoped_command SessionCommands.placed_command SessionCommands.uncounted SessionCommands.step ElabOperators.operator_named ElabFolding.folded ElabMeaning.atom ElabMeaning.means ElabMeaning.means_all ElabMeaning.in_let ElabMeaning.in_binder ElabMeaning.pair_list ElabMeaning.pairs_after ElabMeaning.annotated ElabMeaning.meaning DeclareDeclarations.meanings DeclareDeclarations.declared_const DeclareDeclarations.declared_fun DeclareDeclarations.declared_sort DeclareDeclarations.declared_parameterized DeclareDeclarations.declared_literals DeclareDeclarations.defined DeclareDeclarations.defined_fun DeclareDeclarations.defined_sort DeclareDeclarations.declared_case DeclareDeclarations.declared_cases DeclareDeclarations.declared_program DeclareDeclarations.requirements_meant DeclareDeclarations.declared_rule DeclareDeclarations.declaration ProofScopes.with_fact ProofScopes.with_scope ProofScopes.outside ProofScopes.innermost_hypothesis RuleUses.typed RuleUses.joined RuleUses.match_use RuleUses.matched RuleUses.check_value RuleUses.check_types RuleUses.conclude_value RuleUses.check_formula RuleUses.check_stated RuleUses.kind_conclusion RuleUses.rule_conclusion RuleUses.conclusion SexpTexts.reads CertForms.line_of CertStated.nothing_stated CertTerms.term_line CertBlocks.evaluation_line CertBlocks.call_line CertUses.context_line CertUses.cited_line CertUses.step_line CertRecheck.command_line CertRecheck.check_line CertRecheck.recheck_from CertRecheck.recheck
computed = 0
