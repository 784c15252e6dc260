-- What the suite declares, and the state after it.
use Rattle.std.specs.Prelude.{true, [], ◌∷◌, ◌++◌}
use Rattle.eo_sig.specs.Signature.{Signature, IsProgram, IsRule, first_signature}
use Rattle.eo_sem.specs.SuiteConstants.{constant_Int, literals_numeral, constant_String, literals_string, constant_BitVec, literals_binary, constant_not, constant_and, constant_or, constant_implies, constant_xor, constant_equals, constant_distinct, constant_ite, constant_extract, constant_list_type, constant_list_nil, constant_list_cons, constant_forall, constant_exists, constant_minus, constant_negative}
use Rattle.eo_sem.specs.SuitePrograms.{program_cl, program_uncl, program_nots, program_sy, program_tr, program_rl, program_chain}
use Rattle.eo_sem.specs.SuiteRules.{the_refl, the_symm, the_trans, the_split, the_eq_resolve, the_modus_ponens, the_not_not_elim, the_contra, the_and_elim, the_and_intro, the_not_or_elim, the_implies_elim, the_not_implies_elim1, the_not_implies_elim2, the_equiv_elim1, the_equiv_elim2, the_not_equiv_elim1, the_not_equiv_elim2, the_xor_elim1, the_xor_elim2, the_not_xor_elim1, the_not_xor_elim2, the_ite_elim1, the_ite_elim2, the_not_ite_elim1, the_not_ite_elim2, the_not_and, the_cnf_and_pos, the_cnf_and_neg, the_cnf_or_pos, the_cnf_or_neg, the_cnf_implies_pos, the_cnf_implies_neg1, the_cnf_implies_neg2, the_cnf_equiv_pos1, the_cnf_equiv_pos2, the_cnf_equiv_neg1, the_cnf_equiv_neg2, the_resolution, the_chain_resolution, the_scope}
use Rattle.eo_session.specs.State.{State, first_state}

-- what the suite declares, in order
abbrev pub suite_entries : Signature
suite_entries =
    constant_Int
    ∷ literals_numeral
    ∷ constant_String
    ∷ literals_string
    ∷ constant_BitVec
    ∷ literals_binary
    ∷ constant_not
    ∷ constant_and
    ∷ constant_or
    ∷ constant_implies
    ∷ constant_xor
    ∷ constant_equals
    ∷ constant_distinct
    ∷ constant_ite
    ∷ constant_extract
    ∷ constant_list_type
    ∷ constant_list_nil
    ∷ constant_list_cons
    ∷ constant_forall
    ∷ constant_exists
    ∷ IsProgram program_cl
    ∷ IsProgram program_uncl
    ∷ IsProgram program_nots
    ∷ IsProgram program_sy
    ∷ IsProgram program_tr
    ∷ IsProgram program_rl
    ∷ IsProgram program_chain
    ∷ IsRule the_refl
    ∷ IsRule the_symm
    ∷ IsRule the_trans
    ∷ IsRule the_split
    ∷ IsRule the_eq_resolve
    ∷ IsRule the_modus_ponens
    ∷ IsRule the_not_not_elim
    ∷ IsRule the_contra
    ∷ IsRule the_and_elim
    ∷ IsRule the_and_intro
    ∷ IsRule the_not_or_elim
    ∷ IsRule the_implies_elim
    ∷ IsRule the_not_implies_elim1
    ∷ IsRule the_not_implies_elim2
    ∷ IsRule the_equiv_elim1
    ∷ IsRule the_equiv_elim2
    ∷ IsRule the_not_equiv_elim1
    ∷ IsRule the_not_equiv_elim2
    ∷ IsRule the_xor_elim1
    ∷ IsRule the_xor_elim2
    ∷ IsRule the_not_xor_elim1
    ∷ IsRule the_not_xor_elim2
    ∷ IsRule the_ite_elim1
    ∷ IsRule the_ite_elim2
    ∷ IsRule the_not_ite_elim1
    ∷ IsRule the_not_ite_elim2
    ∷ IsRule the_not_and
    ∷ IsRule the_cnf_and_pos
    ∷ IsRule the_cnf_and_neg
    ∷ IsRule the_cnf_or_pos
    ∷ IsRule the_cnf_or_neg
    ∷ IsRule the_cnf_implies_pos
    ∷ IsRule the_cnf_implies_neg1
    ∷ IsRule the_cnf_implies_neg2
    ∷ IsRule the_cnf_equiv_pos1
    ∷ IsRule the_cnf_equiv_pos2
    ∷ IsRule the_cnf_equiv_neg1
    ∷ IsRule the_cnf_equiv_neg2
    ∷ IsRule the_resolution
    ∷ IsRule the_chain_resolution
    ∷ IsRule the_scope
    ∷ constant_minus
    ∷ constant_negative
    ∷ []

-- the signature after the suite
abbrev pub suite_signature : Signature
suite_signature = first_signature ++ suite_entries

-- of a closed session that has run the commands of the suite and no other
unfoldable pub suite_state : State
suite_state = record (first_state true) { signature = suite_signature; commands = 70 }
